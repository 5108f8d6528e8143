-- Inner attributes and items in braces: what is read is spelled.
use Rattle.std.proofs.Common.{◌≡◌, ℕ, ◌≤◌, Bool, true, ◌&&◌, List, [], ◌∷◌, ◌++◌, map, refl, sym, ap, subst, ◌∙◌}
use Rattle.lay_piece.specs.Forms.{opening}
use Rattle.lay_piece.specs.declared.kind.Delim.TheVariants.{Brace}
use Rattle.lay_piece.specs.declared.kind.Kind.TheVariants.{Opener, Closer}
use Rattle.lay_piece.specs.Forms.{closing}
use Rattle.lay_form.specs.Form.{Form}
use Rattle.lay_form.specs.Spelled.{Spells}
use Rattle.lay_form.proofs.FormLaws.{one_end}
use Rattle.lay_node.specs.Ahead.{Tokens, opens, closes, more_items}
use Rattle.lay_node.specs.nodes.Attr.{are_attrs, attr_form}
use Rattle.lay_node.specs.nodes.Facts.{forms, all_good}
use Rattle.lay_node.specs.nodes.Fields.{blank_if}
use Rattle.lay_node.specs.reader.Attr.{attributes}
use Rattle.lay_node.specs.reader.Loops.{passed, nodes, deepest}
use Rattle.lay_node.specs.declared.attr.Attr.{Attr}
use Rattle.lay_node.specs.declared.heads.Site.{Site}
use Rattle.lay_node.proofs.Fronts.{texts_behind, opener_passed_is, closer_passed_is}
use Rattle.lay_node.proofs.Parts.{Rows, rows_joined, rows_spelled, SpelledAt, body_spelled, led_blank}
use Rattle.lay_node.proofs.Steps.{same_some, bind_some}
use Rattle.lay_node.proofs.reader.Attr.{attributes_sound, attrs_spelled}
use Rattle.lay_node.proofs.reader.Exact.{Sound}
use Rattle.lay_node.proofs.reader.Loops.{SoundStep}
use Rattle.lay_node.proofs.reader.Needs.{nodes_sound}
use Rattle.lay_node.proofs.reader.TypesSoundParts.{Out}
use Rattle.lay_code.specs.nodes.Code.{about_item, told_of_item}
use Rattle.lay_code.specs.nodes.Item as node
use Rattle.lay_code.specs.nodes.Item.{item_forms, items_good}
use Rattle.lay_code.specs.reader.Item.{ItemWithin, item_body, items_by}
use Rattle.lay_code.specs.declared.item.Item.{Item}

-- the forms of items, and the test of all of them, at a site
pub forms_same : (at : Site) (items : List Item) → forms (map (about_item at) items) ≡ item_forms (map told_of_item items)
forms_same at [] = refl
forms_same at (one ∷ items) = ap (λ (fs : List Form). (told_of_item one).form ∷ fs) (forms_same at items)

pub goods_same : (at : Site) (items : List Item) → all_good (map (about_item at) items) ≡ items_good at (map told_of_item items)
goods_same at [] = refl
goods_same at (one ∷ items) = ap (λ (b : Bool). (told_of_item one).good at && b) (goods_same at items)

-- They stand there, with a leading blank or without one.
abbrev pub BodyAt : Site → ℕ → List Attr → List Item → Tokens → Tokens → Type 0
BodyAt at depth attrs items ts rest =
    ((lead : Bool) → Spells (node.item_body lead attrs (map told_of_item items)) depth ts rest)
    × (are_attrs true attrs ≡ true) × (items_good at (map told_of_item items) ≡ true)

abbrev pub BodyHeld : Site → ℕ → (List Attr × List Item) × ℕ → Tokens → Tokens → Type 0
BodyHeld at budget x ts rest = (x.1 ≤ budget) × BodyAt at x.1 x.0.0 x.0.1 ts rest

module _ (budget : ℕ) (within : ItemWithin) (sound : (at : Site) → Sound (about_item at) budget (within.items at)) where
  pub body_sound : (at : Site) → SoundStep (item_body within at) (BodyHeld at budget)
  unfolding item_body items_by
  body_sound at ts x rest t h =
      let o = bind_some (passed (opens Brace) ts) _ _ h in
      let a = bind_some (attributes true o.0) _ _ o.2 in
      let i = bind_some (items_by (within.items at) a.0.1) _ _ a.2 in
      let c = bind_some (passed (closes Brace) i.0.1) _ _ i.2 in
      let attrs = a.0.0 in
      let items = nodes i.0.0 in
      let most = deepest i.0.0 in
      let opened = opener_passed_is Brace ts o.0 t o.1 in
      let t1 = texts_behind ts o.0 (one_end (Opener Brace) (opening Brace ∷ []) ts o.0 opened) t in
      let inner = attributes_sound true most o.0 attrs a.0.1 t1 a.1 in
      let r = nodes_sound (about_item at) budget (within.items at) (sound at) more_items a.0.1 i.0.0 i.0.1 inner.1 i.1 in
      let closed = closer_passed_is Brace i.0.1 c.0 r.2 c.1 in
      let before = attrs_spelled true most attrs o.0 a.0.1 inner.0 in
      let behind = rows_spelled (about_item at) most items a.0.1 i.0.1 r.1 in
      let parts = rows_joined (SpelledAt most) (map attr_form attrs) (forms (map (about_item at) items)) o.0 a.0.1 i.0.1 before.0 behind.0 in
      let spelled : (lead : Bool) → Spells (node.item_body lead attrs (map told_of_item items)) most ts c.0 = λ lead.
      body_spelled (blank_if lead) [] (map attr_form attrs ++ item_forms (map told_of_item items)) most ts ts o.0 o.0 i.0.1 c.0 (led_blank lead ts) opened refl
      (with_forms most (map attr_form attrs) (forms_same at items) o.0 i.0.1 parts) closed in
      let held : BodyHeld at budget ((attrs, items), most) ts c.0 = (r.0, (spelled, before.1, sym (goods_same at items) ∙ behind.1)) in
      same_some (Out (BodyHeld at budget) ts) (((attrs, items), most), c.0) (x, rest) c.2
      (held, texts_behind i.0.1 c.0 (one_end (Closer Brace) (closing Brace ∷ []) i.0.1 c.0 closed) r.2)
    where
      with_forms : (depth : ℕ) (before : List Form) {fs gs : List Form} → fs ≡ gs → (us end : Tokens) → Rows (SpelledAt depth) (before ++ fs) us end → Rows (SpelledAt depth) (before ++ gs) us end
      with_forms depth before e us end r = subst (λ (hs : List Form). Rows (SpelledAt depth) (before ++ hs) us end) e r
