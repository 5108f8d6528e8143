-- What an item is: what is spelled, and well formed, is read, kind by kind, where what is within it is.
use Rattle.std.proofs.Common.{◌≡◌, ℕ, zero, suc, ◌<◌, ◌≤◌, Bool, true, false, ◌&&◌, ◌||◌, not, List, [], ◌∷◌, ◌++◌, length, map, codes, Option, Some, None, inl, inr, refl, sym, ap, subst, ◌∙◌, arith}
use Rattle.std.proofs.lemmas.Bool.{and_parts}
use Rattle.std.specs.Prelude.{is_some}
use Rattle.lay_piece.specs.Forms.{opening, closing}
use Rattle.lay_piece.specs.declared.kind.Delim.TheVariants.{Brace}
use Rattle.lay_piece.specs.declared.kind.Kind.TheVariants.{Ident, Opener, Closer}
use Rattle.lay_form.specs.Form.{Done, Form, Part}
use Rattle.lay_form.specs.Spelled.{IsOne, Spells}
use Rattle.lay_form.proofs.FormLaws.{shorter}
use Rattle.lay_node.specs.Ahead.{Tokens, ends_items, more_items}
use Rattle.lay_node.specs.nodes.Attr.{are_attrs, attr_form, about_attr}
use Rattle.lay_node.specs.nodes.Vis.{is_vis, vis_form}
use Rattle.lay_node.specs.reader.Attr.{attributes, begins_attr}
use Rattle.lay_node.specs.reader.Loops.{Read, nodes, deepest}
use Rattle.lay_node.specs.declared.attr.Attr.{Attr}
use Rattle.lay_node.specs.declared.heads.Site.{Site}
use Rattle.lay_node.specs.declared.vis.Vis.{Vis}
use Rattle.lay_node.specs.declared.vis.Vis.TheVariants as vis
use Rattle.lay_node.proofs.Fronts.{closer_passed, one_front, opener_passed}
use Rattle.lay_node.proofs.Parts.{Rows, rows_parts, rows_good, GoodAt, SpelledAt, behind_attrs_rows, body_rows, part_alone}
use Rattle.lay_node.proofs.reader.Attr.{attrs_rows}
use Rattle.lay_node.proofs.reader.AttrRead.{attr_shorter, BeginsItem, outer_begins_item, attributes_complete}
use Rattle.lay_node.proofs.reader.Exact.{Complete, IsRead}
use Rattle.lay_node.proofs.reader.Needs.{nodes_complete}
use Rattle.lay_node.proofs.reader.Vis.{vis_front}
use Rattle.lay_code.specs.nodes.Code.{about_item, told_of_item, told_of_kind}
use Rattle.lay_code.specs.nodes.CodeFacts.{ItemFacts}
use Rattle.lay_code.specs.nodes.Item as node
use Rattle.lay_code.specs.nodes.Item.{is_inherited, item_forms, items_good, kind_form}
use Rattle.lay_code.specs.reader.Item.{ItemWithin, item_body, items_by}
use Rattle.lay_code.specs.declared.item.Item.{Item}
use Rattle.lay_code.proofs.nodes.ItemLaws.{item_is}
use Rattle.lay_code.proofs.reader.ItemBodies.{forms_same, goods_same}
use Rattle.lay_code.proofs.reader.ItemLeads.{KindFront, kind_front}
use Rattle.lay_code.proofs.reader.ItemSound.{KindAt, kind_alone}

-- ---- what stands within braces

-- the first token of items, and of inner attributes before them
attrs_shorter : (attrs : List Attr) (depth : ℕ) (ts rest : Tokens) → Rows (GoodAt (about_attr false) depth) attrs ts rest → length rest ≤ length ts
attrs_shorter [] depth ts rest r = omega (arith, ap length r)
attrs_shorter (a ∷ attrs) depth ts rest r =
    let one = attr_shorter false a depth ts r.0 r.1 in let more = attrs_shorter attrs depth r.0 rest r.2 in omega (arith, one, more)

attrs_begin : (attrs : List Attr) (depth : ℕ) (ts rest : Tokens) → Rows (GoodAt (about_attr false) depth) attrs ts rest → BeginsItem rest → BeginsItem ts
attrs_begin [] depth ts rest r h = (rw r h.0, rw r h.1)
attrs_begin (a ∷ attrs) depth ts rest r h = outer_begins_item a depth ts r.0 r.1

-- a visibility and what follows it
pub record Parts (at : Site) (one : Item) (depth : ℕ) (ts rest : Tokens) : Type 0 where
  pub seen : Tokens
  pub mid : Tokens
  pub attrs : Rows (GoodAt (about_attr false) depth) one.attrs ts seen
  pub vis : Spells (vis_form one.vis) depth seen mid
  pub good : is_vis one.vis ≡ true
  pub may : (is_some (told_of_kind one.kind).head || is_inherited one.vis) ≡ true
  pub kind : KindAt at depth one.kind mid rest

unled : (v : Vis) (head : Option Form) (behind : Form) (depth : ℕ) (ts rest : Tokens) → (is_some head || is_inherited v) ≡ true
    → Spells (kind_form v head behind) depth ts rest → (mid : Tokens) × Spells (vis_form v) depth ts mid × Spells (kind_alone head behind) depth mid rest
unled v (Some head) behind depth ts rest g s = let named = s.1 in (named.0, named.1, (s.0, named.2, s.2))
unled vis.Inherited None behind depth ts rest g s = (ts, refl, s)
unled vis.Public None behind depth ts rest g s = absurd (cc)
unled vis.Crate None behind depth ts rest g s = absurd (cc)
unled vis.Own None behind depth ts rest g s = absurd (cc)
unled vis.Super None behind depth ts rest g s = absurd (cc)
unled (vis.In path) None behind depth ts rest g s = absurd (cc)

-- what is spelled of an item, one level below it
pub item_parts : (at : Site) (one : Item) (depth : ℕ) (ts rest : Tokens) → GoodAt (about_item at) (suc depth) one ts rest → Parts at one depth ts rest
item_parts at one depth ts rest g =
    let K = told_of_kind one.kind in
    let may = is_some K.head || is_inherited one.vis in
    let s = subst (λ (F : ItemFacts). Spells F.form (suc depth) ts rest × (F.good at ≡ true)) (item_is one) g in
    let g3 = and_parts (are_attrs false one.attrs && is_vis one.vis && may) (K.good at) s.1 in
    let g2 = and_parts (are_attrs false one.attrs && is_vis one.vis) may g3.0 in
    let g1 = and_parts (are_attrs false one.attrs) (is_vis one.vis) g2.0 in
    let inside = s.0 in
    let body = kind_form one.vis K.head K.tail in
    let b = behind_attrs_rows (map attr_form one.attrs) (Part body Done) depth ts inside.0 inside.1 in
    let whole = part_alone body depth b.0 rest (subst (λ us. Spells (Part body Done) depth b.0 us) inside.2 b.2) in
    let u = unled one.vis K.head K.tail depth b.0 rest g2.1 whole in
    record {
      seen = b.0;
      mid = u.0;
      attrs = attrs_rows false depth one.attrs ts b.0 b.1 g1.0;
      vis = u.1;
      good = g1.1;
      may = g2.1;
      kind = (u.2, g3.1);
    }

pub item_none : (at : Site) (one : Item) (ts rest : Tokens) → Spells (about_item at one).form zero ts rest → ⊥
item_none at one ts rest s = subst (λ (F : ItemFacts). Spells F.form zero ts rest) (item_is one) s

-- A visibility that is there begins an item, and so does what follows one that is nothing.
pub vis_begins : (v : Vis) (depth : ℕ) (ts mid rest : Tokens) → Spells (vis_form v) depth ts mid → KindFront mid rest
    → BeginsItem ts × (begins_attr false ts ≡ false) × (length mid ≤ length ts)
vis_begins v depth ts mid rest s k = elim (vis_front v depth ts mid s) [
  | inl e ↦ (subst BeginsItem (sym e.1) k.begins, subst (λ us. begins_attr false us ≡ false) (sym e.1) k.attr, shorter (vis_form v) depth ts mid s)
  | inr o ↦
      let f = one_front Ident (codes "pub") ts o.0 o.1 in ((rw f.1 refl, rw f.1 refl), rw f.1 refl, shorter (vis_form v) depth ts mid s)
]

pub item_begins : (at : Site) (depth : ℕ) (one : Item) (ts rest : Tokens) → GoodAt (about_item at) depth one ts rest → BeginsItem ts × (length rest < length ts)
item_begins at zero one ts rest g = absurd (item_none at one ts rest g.0)
item_begins at (suc depth) one ts rest g =
    let p = item_parts at one depth ts rest g in
    let k = kind_front at one.kind depth p.mid rest p.kind in
    let v = vis_begins one.vis depth p.seen p.mid rest p.vis k in
    (attrs_begin one.attrs depth ts p.seen p.attrs v.0, omega (arith, attrs_shorter one.attrs depth ts p.seen p.attrs, v.2, k.less))

-- Items begin no inner attribute, where what follows them doesn't.
pub items_begin : (at : Site) (items : List Item) (depth : ℕ) (ts rest : Tokens) → Rows (GoodAt (about_item at) depth) items ts rest → begins_attr true rest ≡ false
    → begins_attr true ts ≡ false
items_begin at [] depth ts rest r h = rw r h
items_begin at (one ∷ items) depth ts rest r h = let b = (item_begins at depth one ts r.0 r.1).0 in b.1

brace_ends_items : (ts rest : Tokens) → IsOne (Closer Brace) (closing Brace ∷ []) ts rest → (ends_items ts ≡ true) × (begins_attr true ts ≡ false)
brace_ends_items ts rest o = let f = one_front (Closer Brace) (closing Brace ∷ []) ts rest o in (rw f.1 refl, rw f.1 refl)

-- items up to where they end
pub items_complete : (at : Site) (depth : ℕ) (within : Tokens → Read Item) → Complete (about_item at) depth within → (items : List Item) (ts rest : Tokens)
    → Rows (GoodAt (about_item at) depth) items ts rest → ends_items rest ≡ true
    → (read : List (Item × ℕ)) × (nodes read ≡ items) × (deepest read ≤ depth) × (items_by within ts ≡ Some (read, rest))
unfolding items_by
items_complete at depth within complete items ts rest r h =
    nodes_complete (about_item at) depth within more_items (λ one us mid g.
    let b = item_begins at depth one us mid g in (ap not b.0.0, complete one us mid (g.0, g.1, refl), b.1)) items ts rest r (ap not h)

module _ (depth : ℕ) (within : ItemWithin) (reads : (s : Site) → Complete (about_item s) depth (within.items s)) where
  body_made : (at : Site) (attrs : List Attr) (items : List Item) (read : List (Item × ℕ)) (ts inside start end rest : Tokens)
      → IsOne (Opener Brace) (opening Brace ∷ []) ts inside → attributes true inside ≡ Some (attrs, start)
      → items_by (within.items at) start ≡ Some (read, end) → nodes read ≡ items → IsOne (Closer Brace) (closing Brace ∷ []) end rest
      → item_body within at ts ≡ Some (((attrs, items), deepest read), rest)
  unfolding item_body
  body_made at attrs items read ts inside start end rest o a i e c = rw (opener_passed Brace ts inside o, a, i, closer_passed Brace end rest c, e) refl

  -- inner attributes and items in braces, and the brace that they begin with
  pub body_read : (at : Site) (lead : Bool) (attrs : List Attr) (items : List Item) (ts rest : Tokens)
      → Spells (node.item_body lead attrs (map told_of_item items)) depth ts rest → are_attrs true attrs ≡ true
      → items_good at (map told_of_item items) ≡ true
      → IsRead depth (item_body within at) (attrs, items) ts rest × ((inside : Tokens) × IsOne (Opener Brace) (opening Brace ∷ []) ts inside)
  body_read at lead attrs items ts rest s g h =
      let b = body_rows lead (map attr_form attrs ++ item_forms (map told_of_item items)) depth ts rest s in
      let a = rows_parts (SpelledAt depth) (map attr_form attrs) (item_forms (map told_of_item items)) b.0 b.1 b.3 in
      let end = brace_ends_items b.1 rest b.4 in
      let forms_there = subst (λ (fs : List Form). Rows (SpelledAt depth) fs a.0 b.1) (sym (forms_same at items)) a.2 in
      let rows = rows_good (about_item at) depth items a.0 b.1 forms_there (goods_same at items ∙ h) in
      let no_attr = items_begin at items depth a.0 b.1 rows end.1 in
      let inner = attributes_complete true attrs depth b.0 a.0 (attrs_rows true depth attrs b.0 a.0 a.1 g) no_attr in
      let r = items_complete at depth (within.items at) (reads at) items a.0 b.1 rows end.0 in
      ((deepest r.0, r.2, body_made at attrs items r.0 ts b.0 a.0 b.1 rest b.2 inner r.3 r.1 b.4), (b.0, b.2))
