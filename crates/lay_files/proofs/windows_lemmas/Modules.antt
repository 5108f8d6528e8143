-- A module is spelled by its head, its braces and what is in its body.
use Rattle.std.proofs.Common.{◌≡◌, ℕ, suc, Bool, true, false, ◌&&◌, List, [], ◌∷◌, ◌++◌, map, refl, sym, ap, ◌∙◌, subst}
use Rattle.std.proofs.lemmas.Bool.{and_parts, and_from}
use Rattle.lay_piece.specs.declared.kind.Delim.TheVariants.{Brace}
use Rattle.lay_token.specs.declared.token.Token.{Token}
use Rattle.lay_form.specs.Form.{Form, Done, Part, Deeper, opener, closer}
use Rattle.lay_form.specs.Notation.{body as form_body}
use Rattle.lay_form.specs.Spelled.{IsBit, Spells}
use Rattle.lay_node.specs.Words.{is_name}
use Rattle.lay_node.specs.nodes.Attr.{are_attrs, attr_form}
use Rattle.lay_node.specs.nodes.Facts.{forms, all_good}
use Rattle.lay_node.specs.nodes.Fields.{blank_if}
use Rattle.lay_node.specs.nodes.Vis.{is_vis, vis_form}
use Rattle.lay_node.specs.declared.heads.Site.TheVariants.{Module}
use Rattle.lay_node.proofs.Parts.{GoodAt, behind_attrs_rows, behind_attrs_spelled, body_spelled, led_blank, lines_rows}
use Rattle.lay_code.specs.nodes.Code.{about_item, told_of_item}
use Rattle.lay_code.specs.nodes.CodeFacts.{ItemFacts, KindFacts}
use Rattle.lay_code.specs.nodes.Item.{about_module, in_modules, item_body, item_facts, item_forms, items_good, kind_form, module_head}
use Rattle.lay_code.specs.declared.file.File.{File}
use Rattle.lay_code.specs.declared.item.Item.{Item}
use Rattle.lay_code.proofs.nodes.ItemLaws.{item_is, module_is}
use Rattle.lay_lex.specs.declared.window.Stop.TheVariants.{Opened, Closed}
use Rattle.lay_files.specs.windows.Bodies.{Stands}
use Rattle.lay_files.specs.windows.Parts.{head_form, module_of}
use Rattle.lay_files.specs.windows.Windows.{IsBrace}
use Rattle.lay_files.specs.declared.windows.heads.Head.{Head}

same_forms : (items : List Item) → forms (map (about_item Module) items) ≡ item_forms (map told_of_item items)
same_forms [] = refl
same_forms (x ∷ xs) = ap (λ (l : List Form). (told_of_item x).form ∷ l) (same_forms xs)

same_good : (items : List Item) → all_good (map (about_item Module) items) ≡ items_good Module (map told_of_item items)
same_good [] = refl
same_good (x ∷ xs) = ap (λ (b : Bool). (told_of_item x).good Module && b) (same_good xs)

module _ (head : Head) (body : File) (depth : ℕ) where
  abbrev K : KindFacts
  K = in_modules (about_module head.name body.attrs (map told_of_item body.items))

  facts : told_of_item (module_of head body) ≡ item_facts (record { attrs = head.attrs; vis = head.vis; kind = K })
  facts =
      item_is (module_of head body)
      ∙ ap (λ (k : KindFacts). item_facts (record { attrs = head.attrs; vis = head.vis; kind = k })) (module_is head.name body.attrs body.items)

  -- the body, after its opening brace
  tail_spelled : (brace closing : Token) (inside more : List Token) → IsBrace Opened brace → IsBrace Closed closing
      → Stands depth body inside
      → Spells (item_body true body.attrs (map told_of_item body.items)) depth (brace ∷ (inside ++ closing ∷ more)) more
  tail_spelled brace closing inside more o c s =
      let fs : List Form = map attr_form body.attrs ++ forms (map (about_item Module) body.items) in
      let rows = lines_rows fs depth (inside ++ closing ∷ more) (closing ∷ more) (s.spelled (closing ∷ more)) in
      let ts : List Token = brace ∷ (inside ++ closing ∷ more) in
      let opening : IsBit (opener Brace) ts (inside ++ closing ∷ more) = (o.0, o.1, refl) in
      let ending : IsBit (closer Brace) (closing ∷ more) more = (c.0, c.1, refl) in
      let all = body_spelled (blank_if true) [] fs depth ts ts (inside ++ closing ∷ more) (inside ++ closing ∷ more) (closing ∷ more) more
      (led_blank true ts) opening refl rows ending in
      subst (λ (gs : List Form). Spells (form_body (blank_if true) [] gs) depth ts more)
      (ap (λ (l : List Form). map attr_form body.attrs ++ l) (same_forms body.items)) all

  -- The module is good where its head and its body are.
  pub module_good : (brace closing : Token) (inside : List Token) → IsBrace Opened brace → IsBrace Closed closing → Stands depth body inside
      → are_attrs false head.attrs ≡ true → is_vis head.vis ≡ true → is_name head.name.raw head.name.text ≡ true
      → (about_item Module (module_of head body)).good ≡ true
  module_good brace closing inside o c s a v n =
      let parts = and_parts (are_attrs true body.attrs) (all_good (map (about_item Module) body.items)) s.normal in
      let items : items_good Module (map told_of_item body.items) ≡ true = sym (same_good body.items) ∙ parts.1 in
      let within = and_from (is_name head.name.raw head.name.text && are_attrs true body.attrs) (items_good Module (map told_of_item body.items))
      (and_from (is_name head.name.raw head.name.text) (are_attrs true body.attrs) n parts.0) items in
      let good = and_from (are_attrs false head.attrs && is_vis head.vis && true) (K.good Module)
      (and_from (are_attrs false head.attrs && is_vis head.vis) true (and_from (are_attrs false head.attrs) (is_vis head.vis) a v) refl)
      (and_from (about_module head.name body.attrs (map told_of_item body.items)).good true within refl) in
      subst (λ (F : ItemFacts). F.good Module ≡ true) (sym facts) good

  -- The head, an opening brace, what is in the body and a closing brace are the module.
  pub module_spelled : (brace closing : Token) (inside at more : List Token) → IsBrace Opened brace → IsBrace Closed closing
      → Stands depth body inside → Spells (Deeper (head_form head) Done) (suc depth) at (brace ∷ (inside ++ closing ∷ more))
      → are_attrs false head.attrs ≡ true → is_vis head.vis ≡ true → is_name head.name.raw head.name.text ≡ true
      → GoodAt (about_item Module) (suc depth) (module_of head body) at more
  module_spelled brace closing inside at more o c s h a v n =
      let ts : List Token = brace ∷ (inside ++ closing ∷ more) in
      let led : Spells (head_form head) depth at ts = subst (λ (l : List Token). Spells (head_form head) depth at l) h.2 h.1 in
      let before = behind_attrs_rows (map attr_form head.attrs) (Part (vis_form head.vis) (module_head head.name)) depth at ts led in
      let mid = before.0 in
      let seen = before.2 in
      let tail = tail_spelled brace closing inside more o c s in
      let kind : Spells (kind_form head.vis K.head K.tail) depth mid more = (ts, (seen.0, seen.1, seen.2), tail) in
      let behind : Spells (Part (kind_form head.vis K.head K.tail) Done) depth mid more = (more, kind, refl) in
      let spelled = behind_attrs_spelled (map attr_form head.attrs) (Part (kind_form head.vis K.head K.tail) Done) depth at mid more before.1 behind in (
        subst (λ (F : ItemFacts). Spells F.form (suc depth) at more) (sym facts) (more, spelled, refl),
        module_good brace closing inside o c s a v n,
      )
