-- What an item is: what is read is spelled, kind by kind.
use Rattle.std.proofs.Common.{◌≡◌, ℕ, ◌≤◌, max, true, ◌&&◌, List, [], ◌∷◌, map, codes, Option, option_map, Some, None, inl, inr, refl, sym, subst, arith, drop, is_some}
use Rattle.std.proofs.lemmas.Bool.{and_from}
use Rattle.lay_piece.specs.declared.kind.Kind.TheVariants.{Punct}
use Rattle.lay_form.specs.Form.{Blank, Fixed, Form, Done, Piece, Part, keyword}
use Rattle.lay_form.specs.Notation.{I0}
use Rattle.lay_form.specs.Spelled.{AreBits, Spells}
use Rattle.lay_form.proofs.FormLaws.{is_end}
use Rattle.lay_form.proofs.FormLaws.{deeper as raise}
use Rattle.lay_node.specs.Ahead.{Tokens, first, tail, is_keyword, is_mark}
use Rattle.lay_node.specs.Words.{is_string}
use Rattle.lay_node.specs.nodes.Attr.{are_attrs}
use Rattle.lay_node.specs.nodes.Functions.{about_fn_head}
use Rattle.lay_node.specs.nodes.Heads.{HeadFacts, about_alias, about_enum, about_extern_crate, about_impl_head, about_struct, about_union, about_value_head, headed, impl_head_form, is_impl_head, is_trait_head, is_value_head, leads, trait_head_form, unsafe_form, value_head_form}
use Rattle.lay_node.specs.nodes.Types.{is_abi_name}
use Rattle.lay_node.specs.nodes.Use.{about_use}
use Rattle.lay_node.specs.nodes.Where.{are_predicates, wheres_before_body}
use Rattle.lay_node.specs.reader.Functions.{fn_head}
use Rattle.lay_node.specs.reader.Heads.{alias, enum, extern_crate, impl_head, semicolon, struct, trait_head, union, unsafe_flag, value_head}
use Rattle.lay_node.specs.reader.Exact.{InText}
use Rattle.lay_node.specs.reader.Loops.{Read, ◌>>=◌, passed}
use Rattle.lay_node.specs.reader.Patterns.{PatWithin}
use Rattle.lay_node.specs.reader.Types.{if_there, is_string_token, literal, if_read}
use Rattle.lay_node.specs.reader.Where.{wheres}
use Rattle.lay_node.specs.reader.Words.{name}
use Rattle.lay_node.specs.declared.attr.Attr.{Attr}
use Rattle.lay_node.specs.declared.generics.Wheres.{Wheres}
use Rattle.lay_node.specs.declared.heads.Alias.{Alias}
use Rattle.lay_node.specs.declared.heads.Enum.{Enum}
use Rattle.lay_node.specs.declared.heads.ExternCrate.{ExternCrate}
use Rattle.lay_node.specs.declared.heads.Site.{Site}
use Rattle.lay_node.specs.declared.heads.Site.TheVariants as site
use Rattle.lay_node.specs.declared.heads.Struct.{Struct}
use Rattle.lay_node.specs.declared.heads.Union.{Union}
use Rattle.lay_node.specs.declared.token.Literal.{Literal}
use Rattle.lay_node.proofs.Fronts.{keyword_one, mark_passed_is, mark_one, texts_behind}
use Rattle.lay_node.proofs.Parts.{bit_piece, leaf_spelled, word_kind}
use Rattle.lay_node.proofs.Steps.{bind_some, chosen, same_some}
use Rattle.lay_node.proofs.reader.Exact.{Sound}
use Rattle.lay_node.proofs.reader.HeadParts.{wheres_held}
use Rattle.lay_node.proofs.reader.HeadsLevel.{SoundHead, StoodFree}
use Rattle.lay_node.proofs.reader.Loops.{SoundStep}
use Rattle.lay_node.proofs.reader.PatternsSoundLevel.{SoundPatWithin}
use Rattle.lay_node.proofs.reader.TypesSoundParts.{Out, bit_texts, flag_leads, flag_texts, if_there_sound, keyword_passed_is, literal_sound}
use Rattle.lay_node.proofs.reader.Words.{name_sound}
use Rattle.lay_code.specs.nodes.Code.{about_expr, about_item, told_of_item, told_of_kind}
use Rattle.lay_code.specs.nodes.CodeFacts.{KindFacts}
use Rattle.lay_code.specs.nodes.Exprs.{value_form, value_placed}
use Rattle.lay_code.specs.nodes.Item as node
use Rattle.lay_code.specs.nodes.Item.{about_file_module, about_foreign, about_impl, about_import, about_module, about_trait, about_value, by_site, foreign_abi, in_module, in_modules, items_good, module_head, may_be_valued}
use Rattle.lay_code.specs.nodes.Places.{FREE}
use Rattle.lay_code.specs.reader.Item.{ItemWithin, foreign_by, impl_by, import_by, item_body, module_by, trait_by, value_by}
use Rattle.lay_code.specs.declared.item.Item.{Item}
use Rattle.lay_code.specs.declared.item.ItemKind.{ItemKind}
use Rattle.lay_code.specs.declared.item.ItemKind.TheVariants as item
use Rattle.lay_code.proofs.nodes.ItemLaws as laws
use Rattle.lay_code.proofs.reader.BlocksSound as exprs
use Rattle.lay_code.proofs.reader.ExprSoundLevel.{SoundExprWithin}
use Rattle.lay_code.proofs.reader.ItemBodies.{body_sound}
use Rattle.lay_token.specs.Operators.{is_op}

-- What is proved of the heads: what is read of them stands there.
pub record HeadsSound : Type 0 where
  pub extern_crates : SoundStep extern_crate (StoodFree (λ (x : ExternCrate). headed (about_extern_crate x)))
  pub aliases : (at : Site) → SoundHead (λ (x : Alias). headed (about_alias at x)) (λ w ts. alias at w.kinds ts)
  pub structs : SoundHead (λ (x : Struct). headed (about_struct x)) (λ w ts. struct w.kinds ts)
  pub unions : SoundHead (λ (x : Union). headed (about_union x)) (λ w ts. union w.kinds ts)
  pub enums : SoundHead (λ (x : Enum). headed (about_enum x)) (λ w ts. enum w.kinds ts)
  pub values : SoundHead about_value_head (λ w ts. value_head w.kinds ts)
  pub functions : (at : Site) → SoundHead (about_fn_head at) (fn_head at)
  pub impls : SoundHead about_impl_head (λ w ts. impl_head w.kinds ts)
  pub traits : (budget : ℕ) (inner : PatWithin) → SoundPatWithin budget inner → SoundStep (trait_head inner.kinds)
      (λ x ts rest. (x.1 ≤ budget) × Spells (trait_head_form x.0.0) x.1 ts rest × (is_trait_head x.0.0 ≡ true))

-- The form of what an item is without a visibility before it.
abbrev pub kind_alone : Option Form → Form → Form
kind_alone None behind = behind
kind_alone (Some head) behind = I0 head behind

abbrev pub alone : KindFacts → Form
alone K = kind_alone K.head K.tail

-- It stands there, at a site.
abbrev pub KindAt : Site → ℕ → ItemKind → Tokens → Tokens → Type 0
KindAt at depth k ts rest = Spells (alone (told_of_kind k)) depth ts rest × ((told_of_kind k).good at ≡ true)

abbrev pub KindHeld : Site → ℕ → ItemKind × ℕ → Tokens → Tokens → Type 0
KindHeld at budget x ts rest = (x.1 ≤ budget) × KindAt at x.1 x.0 ts rest

pub kind_told : (at : Site) (depth : ℕ) (k : ItemKind) (K : KindFacts) (ts rest : Tokens) → told_of_kind k ≡ K → Spells (alone K) depth ts rest
    → K.good at ≡ true → KindAt at depth k ts rest
kind_told at depth k K ts rest e s g =
    subst (λ (F : KindFacts). Spells (alone F) depth ts rest × (F.good at ≡ true)) (sym e) (s, g)

-- The facts about an optional part are there exactly if the part is.
pub some_told : {A B : Type 0} (told : A → B) (x : Option A) → is_some x ≡ is_some (option_map told x)
some_told told None = refl
some_told told (Some x) = refl

module _ (heads : HeadsSound) (at : Site) (budget : ℕ) (within : ItemWithin) (inner : SoundPatWithin budget within.heads)
    (items : (s : Site) → Sound (about_item s) budget (within.items s)) (trees : Sound about_use budget within.trees) where
  -- ---- what is a head alone

  module _ {A : Type 0} (about : A → HeadFacts) (one : PatWithin → Tokens → Read A) (sound : SoundHead (λ x. headed (about x)) one) (make : A → ItemKind) where
    made : Tokens → Read ItemKind
    made us = do x ← one within.heads us; Some ((make x.0.0, x.0.1), x.1)

    in_module_sound : ((x : A) → told_of_kind (make x) ≡ in_modules (about x)) → in_module at ≡ true
        → SoundStep (λ us. do x ← one within.heads us; Some ((make x.0.0, x.0.1), x.1)) (KindHeld at budget)
    in_module_sound is m ts x rest t h =
        let b = bind_some (one within.heads ts) _ _ h in
        let s = sound budget within.heads inner ts b.0.0 b.0.1 t b.1 in
        let k = s.0 in
        let good = and_from (about b.0.0.0).good (in_module at) k.2 m in
        same_some (Out (KindHeld at budget) ts) ((make b.0.0.0, b.0.0.1), b.0.1) (x, rest) b.2
        ((k.0, kind_told at b.0.0.1 (make b.0.0.0) (in_modules (about b.0.0.0)) ts b.0.1 (is b.0.0.0) k.1 good), s.1)

  pub alias_sound : SoundStep (λ us. do x ← alias at within.heads.kinds us; Some ((item.Alias x.0.0, x.0.1), x.1)) (KindHeld at budget)
  alias_sound ts x rest t h =
      let b = bind_some (alias at within.heads.kinds ts) _ _ h in
      let s = heads.aliases at budget within.heads inner ts b.0.0 b.0.1 t b.1 in
      let k = s.0 in
      let y = b.0.0.0 in
      same_some (Out (KindHeld at budget) ts) ((item.Alias y, b.0.0.1), b.0.1) (x, rest) b.2
      ((k.0, kind_told at b.0.0.1 (item.Alias y) (by_site (λ s. about_alias s y)) ts b.0.1 (laws.alias_is y) k.1 k.2), s.1)

  pub extern_sound : in_module at ≡ true → SoundStep (λ us. do x ← extern_crate us; Some ((item.ExternCrate x.0, 0), x.1)) (KindHeld at budget)
  extern_sound m ts x rest t h =
      let b = bind_some (extern_crate ts) _ _ h in
      let s = heads.extern_crates ts b.0.0 b.0.1 t b.1 in
      let k = s.0 in
      let good = and_from (about_extern_crate b.0.0).good (in_module at) k.1 m in
      same_some (Out (KindHeld at budget) ts) ((item.ExternCrate b.0.0, 0), b.0.1) (x, rest) b.2
      ((omega arith, kind_told at 0 (item.ExternCrate b.0.0) (in_modules (about_extern_crate b.0.0)) ts b.0.1 (laws.extern_crate_is b.0.0) k.0 good), s.1)

  pub struct_sound : in_module at ≡ true → SoundStep (λ us. do x ← struct within.heads.kinds us; Some ((item.Struct x.0.0, x.0.1), x.1)) (KindHeld at budget)
  struct_sound m = in_module_sound about_struct (λ w ts. struct w.kinds ts) heads.structs item.Struct laws.struct_is m

  pub union_sound : in_module at ≡ true → SoundStep (λ us. do x ← union within.heads.kinds us; Some ((item.Union x.0.0, x.0.1), x.1)) (KindHeld at budget)
  union_sound m = in_module_sound about_union (λ w ts. union w.kinds ts) heads.unions item.Union laws.union_is m

  pub enum_sound : in_module at ≡ true → SoundStep (λ us. do x ← enum within.heads.kinds us; Some ((item.Enum x.0.0, x.0.1), x.1)) (KindHeld at budget)
  enum_sound m = in_module_sound about_enum (λ w ts. enum w.kinds ts) heads.enums item.Enum laws.enum_is m

  -- ---- what ends in a `;`

  pub import_sound : in_module at ≡ true → SoundStep (import_by within) (KindHeld at budget)
  unfolding import_by
  import_sound m ts x rest t h =
      let k = bind_some (passed (is_keyword (codes "use")) ts) _ _ h in
      let u = bind_some (within.trees k.0) _ _ k.2 in
      let e = bind_some (semicolon u.0.1) _ _ u.2 in
      let o = keyword_passed_is (codes "use") ts k.0 k.1 in
      let t1 = bit_texts (keyword (codes "use")) ts k.0 o t in
      let tree = u.0.0.0 in
      let n = u.0.0.1 in
      let s = trees k.0 tree n u.0.1 t1 u.1 in
      let mark = mark_passed_is (codes ";") u.0.1 e.0 e.1 in
      let t2 = texts_behind k.0 u.0.1 (is_end (about_use tree).form n k.0 u.0.1 s.1.0) t1 in
      let spelled : Spells (alone (in_modules (about_import tree))) n ts e.0 =
      (u.0.1, (k.0, (k.0, o, (k.0, refl, refl)), (u.0.1, s.1.0, refl)), bit_piece (Fixed Punct (codes ";")) n u.0.1 e.0 mark) in
      let good = and_from (about_use tree).good (in_module at) s.1.1 m in
      same_some (Out (KindHeld at budget) ts) ((item.Import tree, n), e.0) (x, rest) e.2 (
        (s.0, kind_told at n (item.Import tree) (in_modules (about_import tree)) ts e.0 (laws.import_is tree) spelled good),
        bit_texts (Fixed Punct (codes ";")) u.0.1 e.0 mark t2,
      )

  pub value_sound : SoundExprWithin budget within.code → SoundStep (value_by at within) (KindHeld at budget)
  unfolding value_by
  value_sound code ts x rest t h =
      let v = bind_some (value_head within.heads.kinds ts) _ _ h in
      let w = bind_some (if_read (is_op (codes "=") v.0.1) (λ us. within.code.exprs FREE (drop 1 us)) v.0.1) _ _ v.2 in
      let e = bind_some (semicolon w.0.1) _ _ w.2 in
      let s = heads.values budget within.heads inner ts v.0.0 v.0.1 t v.1 in
      let u = exprs.value_sound budget within.code code v.0.1 w.0.0 w.0.1 s.1 w.1 in
      let k = s.0 in
      let q = u.0 in
      let mark = mark_passed_is (codes ";") w.0.1 e.0 e.1 in
      let head = v.0.0.0 in
      let given = w.0.0.0 in
      let value = option_map about_expr given in
      let need = max v.0.0.1 w.0.0.1 in
      let inside : Spells (Part (value_head_form head) (value_form value)) need ts w.0.1 = (
        v.0.1,
        raise (value_head_form head) v.0.0.1 need ts v.0.1 (omega arith) k.1,
        raise (value_form value) w.0.0.1 need v.0.1 w.0.1 (omega arith) q.1,
      ) in
      let spelled : Spells (alone (by_site (λ s. about_value s head value))) need ts e.0 =
      (w.0.1, inside, bit_piece (Fixed Punct (codes ";")) need w.0.1 e.0 mark) in
      elim (chosen (may_be_valued at head (is_some given)) (Some ((item.Value head given, need), e.0)) None (Some (x, rest)) e.2) [
        | inl g ↦
            let valued = subst (λ b. may_be_valued at head b ≡ true) (some_told about_expr given) g.0 in
            let good = and_from (is_value_head head && may_be_valued at head (is_some value)) (value_placed value)
            (and_from (is_value_head head) (may_be_valued at head (is_some value)) k.2 valued) q.2 in
            same_some (Out (KindHeld at budget) ts) ((item.Value head given, need), e.0) (x, rest) g.1 (
              (omega (arith, k.0, q.0), kind_told at need (item.Value head given) (by_site (λ s. about_value s head value)) ts e.0 (laws.value_is head given) spelled good),
              bit_texts (Fixed Punct (codes ";")) w.0.1 e.0 mark u.1,
            )
        | inr g ↦ absurd (cc)
      ]

  -- ---- what ends in a body

  -- after a head a where clause and a body
  abbrev Bodied : Form → Wheres → List Attr → List Item → Form
  Bodied head clause attrs members =
      I0 head (Part (wheres_before_body clause) (node.item_body (leads clause) attrs (map told_of_item members)))

  pub module_sound : in_module at ≡ true → SoundStep (module_by within) (KindHeld at budget)
  unfolding module_by
  module_sound m ts x rest t h =
      let k = bind_some (passed (is_keyword (codes "mod")) ts) _ _ h in
      let n = bind_some (name k.0) _ _ k.2 in
      let o = keyword_passed_is (codes "mod") ts k.0 k.1 in
      let i = name_sound k.0 n.0.0 n.0.1 n.1 in
      let called = n.0.0 in
      let behind = n.0.1 in
      let t1 = bit_texts (keyword (codes "mod")) ts k.0 o t in
      let t2 = bit_texts (Fixed (word_kind called.raw) called.text) k.0 behind i.0 t1 in
      let head : (depth : ℕ) → Spells (module_head called) depth ts behind =
      λ depth. (k.0, (k.0, o, (k.0, refl, refl)), leaf_spelled called.raw called.text Done depth k.0 behind behind i.0 refl) in
      elim (chosen (first (is_mark (codes ";")) behind) (Some ((item.FileModule called, 0), tail behind)) _ _ n.2) [
        | inl g ↦
            let mark = mark_one (codes ";") behind g.0 in
            let spelled : Spells (alone (in_modules (about_file_module called))) 0 ts (tail behind) =
            (behind, head 0, bit_piece (Fixed Punct (codes ";")) 0 behind (tail behind) mark) in
            let good = and_from (about_file_module called).good (in_module at) i.1 m in
            same_some (Out (KindHeld at budget) ts) ((item.FileModule called, 0), tail behind) (x, rest) g.1 (
              (omega arith, kind_told at 0 (item.FileModule called) (in_modules (about_file_module called)) ts (tail behind) (laws.file_module_is called) spelled good),
              bit_texts (Fixed Punct (codes ";")) behind (tail behind) mark t2,
            )
        | inr g ↦
            let b = bind_some (item_body within site.Module behind) _ _ g.1 in
            let s = body_sound budget within items site.Module behind b.0.0 b.0.1 t2 b.1 in
            let y = s.0 in
            let v = y.1 in
            let attrs = b.0.0.0.0 in
            let members = b.0.0.0.1 in
            let need = b.0.0.1 in
            let spelled : Spells (alone (in_modules (about_module called attrs (map told_of_item members)))) need ts b.0.1 =
            (behind, head need, v.0 true) in
            let headed = and_from (about_file_module called).good (are_attrs true attrs) i.1 v.1 in
            let all = and_from ((about_file_module called).good && are_attrs true attrs) (items_good site.Module (map told_of_item members)) headed v.2 in
            let good = and_from (about_module called attrs (map told_of_item members)).good (in_module at) all m in
            same_some (Out (KindHeld at budget) ts) ((item.Module called attrs members, need), b.0.1) (x, rest) b.2 (
              (
                y.0,
                kind_told at need (item.Module called attrs members) (in_modules (about_module called attrs (map told_of_item members))) ts b.0.1
                    (laws.module_is called attrs members) spelled good,
              ),
              s.1,
            )
      ]

  pub trait_sound : in_module at ≡ true → SoundStep (trait_by within) (KindHeld at budget)
  unfolding trait_by
  trait_sound m ts x rest t h =
      let f = bind_some (trait_head within.heads.kinds ts) _ _ h in
      let w = bind_some (wheres within.heads.kinds f.0.1) _ _ f.2 in
      let b = bind_some (item_body within site.TraitMember w.0.1) _ _ w.2 in
      let s = heads.traits budget within.heads inner ts f.0.0 f.0.1 t f.1 in
      let k = s.0 in
      let u = wheres_held budget within.heads.kinds inner.kinds f.0.1 w.0.0 w.0.1 s.1 w.1 in
      let v = u.0 in
      let z = body_sound budget within items site.TraitMember w.0.1 b.0.0 b.0.1 u.1 b.1 in
      let y = z.0 in
      let q = y.1 in
      let head = f.0.0.0.0 in
      let clause = w.0.0.0.0 in
      let attrs = b.0.0.0.0 in
      let members = b.0.0.0.1 in
      let need = max f.0.0.1 (max w.0.0.1 b.0.0.1) in
      let body = node.item_body (leads clause) attrs (map told_of_item members) in
      let spelled : Spells (alone (in_modules (about_trait head clause attrs (map told_of_item members)))) need ts b.0.1 = (
        f.0.1,
        raise (trait_head_form head) f.0.0.1 need ts f.0.1 (omega arith) k.1,
        (w.0.1, raise (wheres_before_body clause) w.0.0.1 need f.0.1 w.0.1 (omega arith) v.1, raise body b.0.0.1 need w.0.1 b.0.1 (omega arith) (q.0 (leads clause))),
      ) in
      let g1 = and_from (is_trait_head head) (are_predicates clause) k.2 v.2 in
      let g2 = and_from (is_trait_head head && are_predicates clause) (are_attrs true attrs) g1 q.1 in
      let g3 = and_from (is_trait_head head && are_predicates clause && are_attrs true attrs) (items_good site.TraitMember (map told_of_item members)) g2 q.2 in
      let good = and_from (about_trait head clause attrs (map told_of_item members)).good (in_module at) g3 m in
      same_some (Out (KindHeld at budget) ts) ((item.Trait head clause attrs members, need), b.0.1) (x, rest) b.2 (
        (
          omega (arith, k.0, v.0, y.0),
          kind_told at need (item.Trait head clause attrs members) (in_modules (about_trait head clause attrs (map told_of_item members)))
              ts b.0.1 (laws.trait_is head clause attrs members) spelled good,
        ),
        z.1,
      )

  pub impl_sound : in_module at ≡ true → SoundStep (impl_by within) (KindHeld at budget)
  unfolding impl_by
  impl_sound m ts x rest t h =
      let f = bind_some (impl_head within.heads.kinds ts) _ _ h in
      let w = bind_some (wheres within.heads.kinds f.0.1) _ _ f.2 in
      let b = bind_some (item_body within site.Member w.0.1) _ _ w.2 in
      let s = heads.impls budget within.heads inner ts f.0.0 f.0.1 t f.1 in
      let k = s.0 in
      let u = wheres_held budget within.heads.kinds inner.kinds f.0.1 w.0.0 w.0.1 s.1 w.1 in
      let v = u.0 in
      let z = body_sound budget within items site.Member w.0.1 b.0.0 b.0.1 u.1 b.1 in
      let y = z.0 in
      let q = y.1 in
      let head = f.0.0.0 in
      let clause = w.0.0.0.0 in
      let attrs = b.0.0.0.0 in
      let members = b.0.0.0.1 in
      let need = max f.0.0.1 (max w.0.0.1 b.0.0.1) in
      let body = node.item_body (leads clause) attrs (map told_of_item members) in
      let spelled : Spells (alone (in_modules (about_impl head clause attrs (map told_of_item members)))) need ts b.0.1 = (
        f.0.1,
        raise (impl_head_form head) f.0.0.1 need ts f.0.1 (omega arith) k.1,
        (w.0.1, raise (wheres_before_body clause) w.0.0.1 need f.0.1 w.0.1 (omega arith) v.1, raise body b.0.0.1 need w.0.1 b.0.1 (omega arith) (q.0 (leads clause))),
      ) in
      let g1 = and_from (is_impl_head head) (are_predicates clause) k.2 v.2 in
      let g2 = and_from (is_impl_head head && are_predicates clause) (are_attrs true attrs) g1 q.1 in
      let g3 = and_from (is_impl_head head && are_predicates clause && are_attrs true attrs) (items_good site.Member (map told_of_item members)) g2 q.2 in
      let good = and_from (about_impl head clause attrs (map told_of_item members)).good (in_module at) g3 m in
      same_some (Out (KindHeld at budget) ts) ((item.Impl head clause attrs members, need), b.0.1) (x, rest) b.2 (
        (
          omega (arith, k.0, v.0, y.0),
          kind_told at need (item.Impl head clause attrs members) (in_modules (about_impl head clause attrs (map told_of_item members)))
              ts b.0.1 (laws.impl_is head clause attrs members) spelled good,
        ),
        z.1,
      )

  abbrev Abi : Option Literal → Tokens → Tokens → Type 0
  Abi l us behind = Spells (foreign_abi l) 0 us behind × (is_abi_name l ≡ true)

  abi_there : (us : Tokens) (l : Option Literal) (behind : Tokens) → InText us
      → if_there (first is_string_token us) (literal is_string_token) us ≡ Some (l, behind) → Out Abi us (l, behind)
  abi_there us l behind t h =
      if_there_sound Abi (literal is_string_token) (first is_string_token us) us
      (λ there y mid e. let s = literal_sound is_string us y mid t e in
      (((us, (us, refl, refl), (mid, s.0.0, refl)), s.0.1), s.1))
      (λ none. (refl, refl)) t l behind h

  pub foreign_sound : in_module at ≡ true → SoundStep (foreign_by within) (KindHeld at budget)
  unfolding foreign_by
  foreign_sound m ts x rest t h =
      let is_unsafe = (unsafe_flag ts).0 in
      let from = (unsafe_flag ts).1 in
      let k = bind_some (passed (is_keyword (codes "extern")) from) _ _ h in
      let l = bind_some (if_there (first is_string_token k.0) (literal is_string_token) k.0) _ _ k.2 in
      let b = bind_some (item_body within site.Foreign l.0.1) _ _ l.2 in
      let are : first (is_keyword (codes "unsafe")) ts ≡ true → AreBits (keyword (codes "unsafe") ∷ Blank ∷ []) ts (tail ts) =
      λ e. (tail ts, keyword_one (codes "unsafe") ts e, (tail ts, refl, refl)) in
      let t1 = flag_texts (is_keyword (codes "unsafe")) (keyword (codes "unsafe") ∷ Blank ∷ []) ts are t in
      let o = keyword_passed_is (codes "extern") from k.0 k.1 in
      let t2 = bit_texts (keyword (codes "extern")) from k.0 o t1 in
      let s = abi_there k.0 l.0.0 l.0.1 t2 l.1 in
      let z = body_sound budget within items site.Foreign l.0.1 b.0.0 b.0.1 s.1 b.1 in
      let y = z.0 in
      let q = y.1 in
      let abi = l.0.0 in
      let attrs = b.0.0.0.0 in
      let members = b.0.0.0.1 in
      let need = b.0.0.1 in
      let named : Form = Piece (keyword (codes "extern") ∷ []) (foreign_abi abi) in
      let words : Spells named need from l.0.1 = (k.0, (k.0, o, refl), raise (foreign_abi abi) 0 need k.0 l.0.1 (omega arith) s.0.0) in
      let head : Spells (unsafe_form is_unsafe named) need ts l.0.1 =
      flag_leads (is_keyword (codes "unsafe")) (keyword (codes "unsafe") ∷ Blank ∷ []) ts are named need l.0.1 words in
      let spelled : Spells (alone (in_modules (about_foreign is_unsafe abi attrs (map told_of_item members)))) need ts b.0.1 = (l.0.1, head, q.0 true) in
      let g1 = and_from (is_abi_name abi) (are_attrs true attrs) s.0.1 q.1 in
      let g2 = and_from (is_abi_name abi && are_attrs true attrs) (items_good site.Foreign (map told_of_item members)) g1 q.2 in
      let good = and_from (about_foreign is_unsafe abi attrs (map told_of_item members)).good (in_module at) g2 m in
      same_some (Out (KindHeld at budget) ts) ((item.Foreign is_unsafe abi attrs members, need), b.0.1) (x, rest) b.2 (
        (
          y.0,
          kind_told at need (item.Foreign is_unsafe abi attrs members) (in_modules (about_foreign is_unsafe abi attrs (map told_of_item members)))
              ts b.0.1 (laws.foreign_is is_unsafe abi attrs members) spelled good,
        ),
        z.1,
      )
