-- Functions, with their bodies or without: what is read is spelled.
use Rattle.std.proofs.Common.{◌≡◌, ℕ, ◌≤◌, max, true, ◌&&◌, map, codes, inl, inr, Option, option_map, Some, None, is_some, refl, subst, arith}
use Rattle.std.proofs.lemmas.Bool.{and_from}
use Rattle.lay_piece.specs.declared.kind.Delim.TheVariants.{Brace}
use Rattle.lay_piece.specs.declared.kind.Kind.TheVariants.{Punct}
use Rattle.lay_form.specs.Form.{Fixed}
use Rattle.lay_form.specs.Notation.{I0}
use Rattle.lay_form.specs.Spelled.{Spells}
use Rattle.lay_form.proofs.FormLaws.{deeper as raise}
use Rattle.lay_node.specs.Ahead.{Tokens, first, opens}
use Rattle.lay_node.specs.nodes.Functions.{fn_head_form, is_fn_head}
use Rattle.lay_node.specs.nodes.Heads.{leads}
use Rattle.lay_node.specs.nodes.Where.{are_predicates, predicate_form, wheres_before_body, wheres_before_semicolon}
use Rattle.lay_node.specs.reader.Exact.{InText}
use Rattle.lay_node.specs.reader.Functions.{fn_head}
use Rattle.lay_node.specs.reader.Heads.{semicolon}
use Rattle.lay_node.specs.reader.Where.{wheres}
use Rattle.lay_node.specs.declared.generics.Wheres.{Wheres}
use Rattle.lay_node.specs.declared.heads.Site.{Site}
use Rattle.lay_node.proofs.Fronts.{mark_passed_is}
use Rattle.lay_node.proofs.Parts.{bit_piece}
use Rattle.lay_node.proofs.Steps.{bind_some, chosen, same_some}
use Rattle.lay_node.proofs.reader.HeadParts.{semicolon_wheres, wheres_held}
use Rattle.lay_node.proofs.reader.Loops.{SoundStep}
use Rattle.lay_node.proofs.reader.PatternsSoundLevel.{SoundPatWithin}
use Rattle.lay_node.proofs.reader.TypesSoundParts.{Out, bit_texts}
use Rattle.lay_code.specs.nodes.Code.{about_block}
use Rattle.lay_code.specs.nodes.Exprs.{may_be_good}
use Rattle.lay_code.specs.nodes.Item.{about_function, by_site, function_tail, may_be_bodied}
use Rattle.lay_code.specs.reader.Item.{ItemWithin, fn_body, function_by}
use Rattle.lay_code.specs.reader.Blocks.{block_by}
use Rattle.lay_code.specs.reader.Within.{ExprWithin}
use Rattle.lay_code.specs.declared.blocks.Block.{Block}
use Rattle.lay_code.specs.declared.item.ItemKind.TheVariants as item
use Rattle.lay_code.proofs.nodes.ItemLaws as laws
use Rattle.lay_code.proofs.reader.BlocksSound.{most_within}
use Rattle.lay_code.proofs.reader.BlocksSoundWhole.{block_sound}
use Rattle.lay_code.proofs.reader.ExprSoundLevel.{SoundExprWithin}
use Rattle.lay_code.proofs.reader.ItemSound.{HeadsSound, KindHeld, kind_told, some_told}

-- A body stands after a where clause that is spelled from other tokens on, or the `;` does.
record BodyHeld (budget : ℕ) (clause : Wheres) (n : ℕ) (at : Tokens) (x : Option Block × ℕ) (ts rest : Tokens) : Type 0 where
  need : x.1 ≤ budget
  form : Spells (function_tail clause (option_map about_block x.0)) (max n x.1) at rest
  good : may_be_good (option_map about_block x.0) ≡ true

body_held : (budget : ℕ) (within : ExprWithin) → SoundExprWithin budget within → (clause : Wheres) (n : ℕ) (at ts : Tokens)
    → Spells (wheres_before_body clause) n at ts → InText ts → (x : Option Block × ℕ) (rest : Tokens) → fn_body within ts ≡ Some (x, rest)
    → Out (BodyHeld budget clause n at) ts (x, rest)
body_held budget within sound clause n at ts w t x rest h = elim (chosen (first (opens Brace) ts) _ _ _ h) [
  | inl g ↦
      let b = bind_some (block_by within ts) _ _ g.1 in
      let s = block_sound budget within sound ts b.0.0 b.0.1 t b.1 in
      let told = about_block b.0.0.0 in
      let most = max n b.0.0.1 in
      let end = b.0.1 in
      let F = told.form (leads clause) in
      let form : Spells (function_tail clause (Some told)) most at end = (
        ts,
        raise (wheres_before_body clause) n most at ts (omega arith) w,
        (end, raise F b.0.0.1 most ts end (omega arith) (s.0.form (leads clause)), refl),
      ) in
      same_some (Out (BodyHeld budget clause n at) ts) ((Some b.0.0.0, b.0.0.1), end) (x, rest) b.2
      (record { need = s.0.need; form = form; good = s.0.good }, s.1)
  | inr g ↦
      let e = bind_some (semicolon ts) _ _ g.1 in
      let mark = mark_passed_is (codes ";") ts e.0 e.1 in
      let most = max n 0 in
      let where_clause = semicolon_wheres (map predicate_form clause.predicates) n at ts w in
      let form : Spells (function_tail clause None) most at e.0 = (
        ts,
        raise (wheres_before_semicolon clause) n most at ts (omega arith) where_clause,
        bit_piece (Fixed Punct (codes ";")) most ts e.0 mark,
      ) in
      same_some (Out (BodyHeld budget clause n at) ts) ((None, 0), e.0) (x, rest) e.2
      (record { need = omega arith; form = form; good = refl }, bit_texts (Fixed Punct (codes ";")) ts e.0 mark t)
]

pub function_sound : (heads : HeadsSound) (at : Site) (budget : ℕ) (within : ItemWithin) → SoundPatWithin budget within.heads
    → SoundExprWithin budget within.code → SoundStep (function_by at within) (KindHeld at budget)
unfolding function_by
function_sound heads at budget within inner code ts x rest t h =
    let f = bind_some (fn_head at within.heads ts) _ _ h in
    let w = bind_some (wheres within.heads.kinds f.0.1) _ _ f.2 in
    let b = bind_some (fn_body within.code w.0.1) _ _ w.2 in
    let s = heads.functions at budget within.heads inner ts f.0.0 f.0.1 t f.1 in
    let u = wheres_held budget within.heads.kinds inner.kinds f.0.1 w.0.0 w.0.1 s.1 w.1 in
    let head = f.0.0.0 in
    let clause = w.0.0.0.0 in
    let n = w.0.0.1 in
    let v = body_held budget within.code code clause n f.0.1 w.0.1 u.0.1 u.1 b.0.0 b.0.1 b.1 in
    let body = b.0.0.0 in
    let told = option_map about_block body in
    let end = b.0.1 in
    let need = max f.0.0.1 (max n b.0.0.1) in
    let T = function_tail clause told in
    elim (chosen (may_be_bodied at (is_some body)) _ _ _ b.2) [
      | inl g ↦
          let spelled : Spells (I0 (fn_head_form head) T) need ts end = (
            f.0.1,
            raise (fn_head_form head) f.0.0.1 need ts f.0.1 (omega arith) s.0.1,
            raise T (max n b.0.0.1) need f.0.1 end (omega arith) v.0.form,
          ) in
          let bodied = subst (λ c. may_be_bodied at c ≡ true) (some_told about_block body) g.0 in
          let g1 = and_from (is_fn_head at head) (are_predicates clause) s.0.2 u.0.2 in
          let g2 = and_from (is_fn_head at head && are_predicates clause) (may_be_bodied at (is_some told)) g1 bodied in
          let good = and_from (is_fn_head at head && are_predicates clause && may_be_bodied at (is_some told)) (may_be_good told) g2 v.0.good in
          same_some (Out (KindHeld at budget) ts) ((item.Function head clause body, need), end) (x, rest) g.1 (
            (
              most_within f.0.0.1 (max n b.0.0.1) budget s.0.0 (most_within n b.0.0.1 budget u.0.0 v.0.need),
              kind_told at need (item.Function head clause body) (by_site (λ z. about_function z head clause told)) ts end
                  (laws.function_is head clause body) spelled good,
            ),
            v.1,
          )
      | inr g ↦ absurd (cc g.1)
    ]
