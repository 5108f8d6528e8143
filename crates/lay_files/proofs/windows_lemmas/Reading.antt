-- Heads of modules, and what is read one by one.
use Rattle.std.proofs.Common.{◌≡◌, ℕ, Bool, true, false, List, [], ◌∷◌, ◌++◌, length, take, drop, map, Some, refl, sym, ap, ◌∙◌, subst, arith, append_assoc}
use Rattle.std.specs.Prelude.{codes}
use Rattle.std.proofs.lemmas.List.{append-nil, take-append-drop}
use Rattle.lay_piece.specs.declared.kind.Kind.TheVariants.{Ident}
use Rattle.lay_token.specs.Lexes.{Lexes}
use Rattle.lay_token.specs.declared.token.Token.{Token}
use Rattle.lay_form.specs.Form.{Done, Part}
use Rattle.lay_form.specs.Spelled.{IsOne, Spells}
use Rattle.lay_node.specs.Ahead.{first, is_keyword, tail}
use Rattle.lay_node.specs.nodes.Attr.{about_attr, are_attrs, attr_form}
use Rattle.lay_node.specs.nodes.Facts.{Front, ToldFront}
use Rattle.lay_node.specs.nodes.Vis.{about_vis, vis_form}
use Rattle.lay_node.specs.reader.Words.{name}
use Rattle.lay_node.specs.declared.attr.Attr.{Attr}
use Rattle.lay_node.specs.declared.heads.Site.TheVariants.{Module}
use Rattle.lay_node.specs.declared.token.Name.{Name}
use Rattle.lay_node.proofs.Fronts.{keyword_one}
use Rattle.lay_node.proofs.Parts.{GoodAt, Rows, SpelledAt, behind_attrs_spelled, leaf_spelled, rows_joined, word_kind}
use Rattle.lay_node.proofs.reader.Attr.{attrs_spelled}
use Rattle.lay_node.proofs.reader.Words.{name_sound}
use Rattle.lay_code.specs.nodes.Code.{about_item}
use Rattle.lay_code.specs.nodes.Item.{module_head}
use Rattle.lay_code.specs.declared.item.Item.{Item}
use Rattle.lay_read_tokens.specs.Answers.{AreLexed}
use Rattle.lay_files.specs.windows.Parts.{AddsAttrs, AddsItems, IsHead, IsModuleName}
use Rattle.lay_files.specs.declared.windows.heads.Head.{Head}

-- ---- tokens of a text

-- Tokens that are parted stand in the same row.
parted : (before ts after : List Token) (n : ℕ) → before ++ take n ts ++ drop n ts ++ after ≡ before ++ ts ++ after
parted before ts after n = rw (append_assoc before (take n ts) (drop n ts), take-append-drop n ts) refl

-- What follows tokens of a text stands in it too.
pub lexed_behind : (n : ℕ) (ts us : List Token) → us ≡ drop n ts → AreLexed ts → AreLexed us
lexed_behind n ts us e l = subst AreLexed (sym e) (record {
  bytes = l.bytes;
  start = l.start;
  before = l.before ++ take n ts;
  after = l.after;
  utf8 = l.utf8;
  lexes = subst (λ s. Lexes l.bytes l.start s) (sym (parted l.before ts l.after n)) l.lexes;
})

-- ---- one by one

pub no_attrs : (inner : Bool) (attrs : List Attr) (ts : List Token) → AreLexed ts → AddsAttrs inner attrs attrs ts ts
no_attrs inner attrs ts l = record { read = []; added = sym (append-nil attrs); rows = refl; lexed = l }

pub attr_more : (inner : Bool) (old now new : List Attr) (ts us vs : List Token) (attr : Attr) → AddsAttrs inner old now ts us
    → new ≡ now ++ attr ∷ [] → (n : ℕ) × (vs ≡ drop n us) × Front (about_attr inner attr) us n 0 → AddsAttrs inner old new ts vs
attr_more inner old now new ts us vs attr a e f =
    let one : GoodAt (about_attr inner) 0 attr us vs =
    (subst (λ (l : List Token). Spells (attr_form attr) 0 us l) (sym f.1) f.2.1, f.2.2) in record {
      read = a.read ++ attr ∷ [];
      added = e ∙ ap (λ (l : List Attr). l ++ attr ∷ []) a.added ∙ append_assoc old a.read (attr ∷ []);
      rows = rows_joined (GoodAt (about_attr inner) 0) a.read (attr ∷ []) ts us vs a.rows (vs, one, refl);
      lexed = lexed_behind f.0 us vs f.1 a.lexed;
    }

pub no_items : (depth : ℕ) (items : List Item) (ts : List Token) → AreLexed ts → AddsItems depth items items ts ts
no_items depth items ts l = record { read = []; added = sym (append-nil items); rows = refl; lexed = l }

pub item_more : (depth : ℕ) (old now new : List Item) (ts us vs : List Token) (one : Item) → AddsItems depth old now ts us
    → new ≡ now ++ one ∷ [] → (n : ℕ) × (vs ≡ drop n us) × Front (about_item Module one) us n depth → AddsItems depth old new ts vs
item_more depth old now new ts us vs one a e f =
    let good : GoodAt (about_item Module) depth one us vs =
    (subst (λ (l : List Token). Spells (about_item Module one).form depth us l) (sym f.1) f.2.1, f.2.2) in record {
      read = a.read ++ one ∷ [];
      added = e ∙ ap (λ (l : List Item). l ++ one ∷ []) a.added ∙ append_assoc old a.read (one ∷ []);
      rows = rows_joined (GoodAt (about_item Module) depth) a.read (one ∷ []) ts us vs a.rows (vs, good, refl);
      lexed = lexed_behind f.0 us vs f.1 a.lexed;
    }

-- ---- heads

none_left : (ts : List Token) → length ts ≡ 0 → ts ≡ []
none_left [] e = refl
none_left (t ∷ ts) e = absurd (omega arith)

pub end_is : (ts : List Token) → length ts ≡ 0 → ts ≡ []
end_is ts e = none_left ts e

pub module_name : (ts us vs : List Token) (n : Name) → first (is_keyword (codes "mod")) ts ≡ true → us ≡ tail ts
    → name us ≡ Some (n, vs) → length vs ≡ 0 → IsModuleName n ts
module_name ts us vs n k e h none =
    let o : IsOne Ident (codes "mod") ts us = subst (λ (l : List Token). IsOne Ident (codes "mod") ts l) (sym e) (keyword_one (codes "mod") ts k) in
    let i = name_sound us n vs h in
    let last = subst (λ (l : List Token). IsOne (word_kind n.raw) n.text us l) (none_left vs none) i.0 in
    ((us, (us, o, (us, refl, refl)), leaf_spelled n.raw n.text Done 0 us [] [] last refl), i.1)

pub head_read : (head : Head) (ts us vs : List Token) → AddsAttrs false [] head.attrs ts us
    → (n : ℕ) × (vs ≡ drop n us) × ToldFront (about_vis head.vis) us n 0 → IsModuleName head.name vs → IsHead head ts
head_read head ts us vs a v n =
    let attrs = attrs_spelled false 0 a.read ts us a.rows in
    let same : head.attrs ≡ a.read = a.added in
    let seen : Spells (vis_form head.vis) 0 us vs = subst (λ (l : List Token). Spells (vis_form head.vis) 0 us l) (sym v.1) v.2.1 in
    let behind : Spells (Part (vis_form head.vis) (module_head head.name)) 0 us [] = (vs, seen, n.0) in
    record {
      spelled = behind_attrs_spelled (map attr_form head.attrs) (Part (vis_form head.vis) (module_head head.name)) 0 ts us []
          (subst (λ (l : List Attr). Rows (SpelledAt 0) (map attr_form l) ts us) (sym same) attrs.0) behind;
      attrs = ap (are_attrs false) same ∙ attrs.1;
      vis = v.2.2;
      name = n.1;
    }
