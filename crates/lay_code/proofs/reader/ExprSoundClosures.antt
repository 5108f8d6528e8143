-- Closures: what is parsed stands there, if that holds one level deeper.
use Rattle.std.proofs.Common.{◌≡◌, ℕ, suc, ◌≤◌, max, Bool, true, false, not, ◌&&◌, List, [], ◌∷◌, inl, inr, length, map, codes, drop, Option, Some, None, if◌then◌else◌, refl, ap, subst, arith}
use Rattle.std.specs.List.{list_all}
use Rattle.std.proofs.lemmas.Bool.{and_from}
use Rattle.lay_piece.specs.declared.kind.Kind.TheVariants as kind
use Rattle.lay_token.specs.Operators.{is_op}
use Rattle.lay_form.specs.Form.{Bit, Blank, Done, Form, Operator, Part, Piece, keyword}
use Rattle.lay_form.specs.Notation.{comma_list, when}
use Rattle.lay_form.specs.Spelled.{AreBits, IsOne, IsOperator, Spells}
use Rattle.lay_form.proofs.FormLaws.{bits_end, deeper as raise}
use Rattle.lay_node.specs.Ahead.{Tokens, first, tail, is_keyword, is_mark}
use Rattle.lay_node.specs.nodes.Attr.{are_attrs}
use Rattle.lay_node.specs.nodes.Functions.{may_be_type, self_type}
use Rattle.lay_node.specs.nodes.Patterns.{about_pat, pat_form, pat_good}
use Rattle.lay_node.specs.nodes.Types.{about_type, good_at}
use Rattle.lay_node.specs.reader.Attr.{attributes}
use Rattle.lay_node.specs.reader.Exact.{InText}
use Rattle.lay_node.specs.reader.Loops.{deepest, elements, nodes, passed}
use Rattle.lay_node.specs.reader.Types.{if_read}
use Rattle.lay_node.specs.declared.patterns.PatPlace.TheVariants.{Single}
use Rattle.lay_node.specs.declared.types.Ty.{Ty}
use Rattle.lay_node.specs.declared.types.TypePlace.TheVariants.{Bounds, NoBounds}
use Rattle.lay_node.proofs.Fronts.{keyword_one, mark_one, mark_passed_is, texts_behind}
use Rattle.lay_node.proofs.Steps.{bind_some, chosen, same_some}
use Rattle.lay_node.proofs.reader.Attr.{attributes_sound}
use Rattle.lay_node.proofs.reader.Loops.{SoundStep}
use Rattle.lay_node.proofs.reader.TypesSoundNeeds.{listed}
use Rattle.lay_node.proofs.reader.TypesSoundParts.{Out, attrs_good, bit_texts, param_attrs_leads}
use Rattle.lay_code.specs.nodes.Blocks.{let_type}
use Rattle.lay_code.specs.nodes.Bodies.{sheds}
use Rattle.lay_code.specs.nodes.Code.{about_block, about_expr}
use Rattle.lay_code.specs.nodes.Exprs.{Tail, bar, behind_async, closure_head, closure_param, is_closure_param, placed, shut}
use Rattle.lay_code.specs.nodes.Places.{plain}
use Rattle.lay_code.specs.reader.Blocks.{block_by, body_need}
use Rattle.lay_code.specs.reader.Exprs as reader
use Rattle.lay_code.specs.reader.Exprs.{closure_behind, closure_body, closure_expr, shed}
use Rattle.lay_code.specs.reader.Within.{ExprWithin}
use Rattle.lay_code.specs.declared.blocks.Stmt.TheOpen.{Expr-F}
use Rattle.lay_code.specs.declared.exprs.ClosureParam.{ClosureParam}
use Rattle.lay_code.specs.declared.exprs.Expr.{Expr}
use Rattle.lay_code.specs.declared.exprs.Expr.TheVariants as expr
use Rattle.lay_code.proofs.nodes.ExprsLaws.{expr_closure_is, expr_typed_closure_is}
use Rattle.lay_code.proofs.reader.BlocksSound.{most_within, type_sound}
use Rattle.lay_code.proofs.reader.BlocksSoundWhole.{block_sound}
use Rattle.lay_code.proofs.reader.ClosureBodies.{body_form, body_stands}
use Rattle.lay_code.proofs.reader.ExprSoundLevel.{LeftHeld, SoundExprWithin, all_taken, made_before}
use Rattle.lay_code.proofs.reader.Followed.{SpelledBefore, before_deeper, ended_as, part_made, piece_made}

-- What stands there is spelled before whatever follows it, and ends as that does.
abbrev LeadsBefore : Bool → (Form → Form) → Tokens → Tokens → Type 0
LeadsBefore no_struct lead ts rest = (t : Tail) (f : Form) (depth : ℕ) (end : Tokens) → SpelledBefore t f no_struct depth rest end
    → SpelledBefore t (lead f) no_struct depth ts end

-- ---- the words before the parameters, each or not

module _ (word : List ℕ) where
  abbrev word_bits : List Bit
  word_bits = keyword word ∷ Blank ∷ []

  word_there : (ts : Tokens) → first (is_keyword word) ts ≡ true → AreBits word_bits ts (tail ts)
  word_there ts h = (tail ts, keyword_one word ts h, (tail ts, refl, refl))

  word_leads : (no_struct b : Bool) (ts : Tokens) → first (is_keyword word) ts ≡ b → LeadsBefore no_struct (when b word_bits) ts (if b then tail ts else ts)
  word_leads no_struct true ts h t f depth end s = piece_made t no_struct depth word_bits f ts (tail ts) end (word_there ts h) s
  word_leads no_struct false ts h t f depth end s = s

  word_texts : (b : Bool) (ts : Tokens) → first (is_keyword word) ts ≡ b → InText ts → InText (if b then tail ts else ts)
  word_texts true ts h t = texts_behind ts (tail ts) (bits_end word_bits ts (tail ts) (word_there ts h)) t
  word_texts false ts h t = t

type_alone : (ty : Option Ty) → let_type ty Done ≡ self_type ty
type_alone None = refl
type_alone (Some x) = refl

module _ (budget : ℕ) (within : ExprWithin) (sound : SoundExprWithin budget within) where
  -- ---- parameters

  abbrev ParamHeld : ClosureParam × ℕ → Tokens → Tokens → Type 0
  ParamHeld x ts rest = (x.1 ≤ budget) × Spells (closure_param x.0) x.1 ts rest × (is_closure_param x.0 ≡ true)

  param_sound : SoundStep (reader.closure_param within) ParamHeld
  unfolding reader.closure_param
  param_sound ts x rest t h =
      let a = bind_some (attributes false ts) _ _ h in
      let p = bind_some (within.pats Single a.0.1) _ _ a.2 in
      let y = bind_some (if_read (is_op (codes ":") p.0.1) (λ us. within.kinds.types Bounds (drop 1 us)) p.0.1) _ _ p.2 in
      let attrs = a.0.0 in
      let pat = p.0.0.0 in
      let ty = y.0.0.0 in
      let end = y.0.1 in
      let most = max p.0.0.1 y.0.0.1 in
      let before = attributes_sound false most ts attrs a.0.1 t a.1 in
      let ps = sound.pats Single a.0.1 p.0.0 p.0.1 before.1 p.1 in
      let ys = type_sound budget within sound p.0.1 y.0.0 end ps.1 y.1 in
      let P = pat_form Single (about_pat pat) in
      let T = self_type ty in
      let inner : Spells (Part P (Part T Done)) most a.0.1 end = (
        p.0.1,
        raise P p.0.0.1 most a.0.1 p.0.1 (omega arith) ps.0.1,
        (end, subst (λ f. Spells f most p.0.1 end) (type_alone ty) (ys.0.1 Done most end (omega arith) refl), refl),
      ) in
      let made_param : ClosureParam = record { attrs = attrs; pat = pat; ty = ty } in
      let good = and_from (are_attrs false attrs && pat_good Single (about_pat pat)) (may_be_type ty)
      (and_from (are_attrs false attrs) (pat_good Single (about_pat pat)) (attrs_good most attrs ts a.0.1 before.0) ps.0.2) ys.0.2 in
      same_some (Out ParamHeld ts) ((made_param, most), end) (x, rest) y.2 (
        (
          most_within p.0.0.1 y.0.0.1 budget ps.0.0 ys.0.0,
          param_attrs_leads most attrs ts a.0.1 before.0 (Part P (Part T Done)) end inner,
          good,
        ),
        ys.1,
      )

  -- ---- closures

  module _ (no_struct starts : Bool) where
    abbrev Left : Expr × ℕ → Tokens → Tokens → Type 0
    Left = LeftHeld no_struct starts

    module _ (is_async moves : Bool) (params : List ClosureParam) (need : ℕ) (ts at : Tokens)
        (leads : (u : Tail) (f : Form) (depth : ℕ) (end : Tokens) → need ≤ depth → SpelledBefore u f no_struct depth at end
        → SpelledBefore u (closure_head is_async moves params f) no_struct depth ts end)
        (good : list_all is_closure_param params ≡ true) (t : InText at) where
      -- what follows the parameters
      body_sound : (x : Expr × ℕ) (rest : Tokens) → closure_body within no_struct is_async moves params need at ≡ Some (x, rest)
          → Out Left ts (x, rest)
      body_sound x rest h = elim (chosen (is_op (codes "->") at) _ _ _ h) [
        | inl g ↦
            let from = drop 2 at in
            let y = bind_some (within.kinds.types NoBounds from) _ _ g.1 in
            let b = bind_some (block_by within y.0.1) _ _ y.2 in
            let o : IsOperator (codes "->") at from = (g.0, refl) in
            let ys = sound.kinds.types NoBounds from y.0.0 y.0.1 (bit_texts (Operator (codes "->")) at from o t) y.1 in
            let k = block_sound budget within sound y.0.1 b.0.0 b.0.1 ys.1 b.1 in
            let ty = y.0.0.0 in
            let T = (about_type ty).told.form in
            let block = about_block b.0.0.0 in
            let most = max need (max y.0.0.1 b.0.0.1) in
            let end = b.0.1 in
            let F : Form = Piece (Blank ∷ Operator (codes "->") ∷ Blank ∷ []) (Part T (Part (block.form true) Done)) in
            let form : Spells F most at end = (
              from,
              (at, refl, (from, o, (from, refl, refl))),
              (
                y.0.1,
                raise T y.0.0.1 most from y.0.1 (omega arith) ys.0.1,
                (end, raise (block.form true) b.0.0.1 most y.0.1 end (omega arith) (k.0.form true), refl),
              ),
            ) in
            let whole = and_from (list_all is_closure_param params && good_at NoBounds (about_type ty)) block.good
            (and_from (list_all is_closure_param params) (good_at NoBounds (about_type ty)) good ys.0.2) k.0.good in
            let ends : Tail = record shut { closure = true } in
            same_some (Out Left ts) ((expr.TypedClosure is_async moves params ty b.0.0.0, suc most), end) (x, rest) b.2 (
              made_before no_struct starts (about_expr (expr.TypedClosure is_async moves params ty b.0.0.0))
                  (Expr-F.TypedClosure is_async moves params ty block) most ts end (expr_typed_closure_is is_async moves params ty b.0.0.0)
                  (leads ends F most end (omega arith) (form, inl refl)) whole,
              k.1,
            )
        | inr g ↦
            let e = bind_some (within.exprs (plain 0 no_struct) at) _ _ g.1 in
            let s = sound.exprs (plain 0 no_struct) at e.0.0 e.0.1 t e.1 in
            let end = e.0.1 in
            let deep = body_need (sheds (about_expr e.0.0.0).kind no_struct) e.0.0.1 in
            let y = shed no_struct (length at) e.0.0.0 in
            let told = about_expr y in
            let b = body_stands no_struct (length at) e.0.0.1 e.0.0.0 at end (omega arith) s.0.1 s.0.2 s.0.3 in
            let most = max need deep in
            let ends : Tail = record told.tail { takes_all = true; closure = true } in
            let B = body_form y in
            let body = before_deeper ends B no_struct deep most at end (omega arith)
            (ended_as told.tail ends B no_struct deep at end (all_taken told.tail no_struct end b.weak) b.before) in
            let form = piece_made ends no_struct most (Blank ∷ []) B at at end (at, refl, refl) body in
            let whole = and_from (list_all is_closure_param params && placed told (plain 0 no_struct)) (not (sheds told.kind no_struct))
            (and_from (list_all is_closure_param params) (placed told (plain 0 no_struct)) good b.stands) (ap not b.bare) in
            same_some (Out Left ts) ((expr.Closure is_async moves params y, suc most), end) (x, rest) e.2 (
              made_before no_struct starts (about_expr (expr.Closure is_async moves params y)) (Expr-F.Closure is_async moves params told) most ts end
                  (expr_closure_is is_async moves params y) (leads ends (Piece (Blank ∷ []) B) most end (omega arith) form) whole,
              s.1,
            )
      ]

    -- a closure after its `async`, if it has one
    behind_sound : (is_async : Bool) (all ts : Tokens) → LeadsBefore no_struct (when is_async (word_bits (codes "async"))) all ts → InText ts
        → (x : Expr × ℕ) (rest : Tokens) → closure_behind within no_struct is_async ts ≡ Some (x, rest) → Out Left all (x, rest)
    behind_sound is_async all ts before t x rest h =
        let moves = first (is_keyword (codes "move")) ts in
        let from = if moves then tail ts else ts in
        let k = bind_some (passed (is_mark (codes "|")) from) _ _ h in
        let ps = bind_some (elements (is_mark (codes "|")) (reader.closure_param within) k.0) _ _ k.2 in
        let left = word_texts (codes "move") moves ts refl t in
        let o = mark_passed_is (codes "|") from k.0 k.1 in
        let shuts : (us : Tokens) → InText us → first (is_mark (codes "|")) us ≡ true → IsOne kind.Punct (codes "|") us (tail us) =
        λ us i m. mark_one (codes "|") us m in
        let l = listed budget closure_param is_closure_param ParamHeld (λ y us mid s. s) (is_mark (codes "|")) bar bar shuts
        (reader.closure_param within) param_sound from k.0 ps.0.0 ps.0.1 o (bit_texts bar from k.0 o left) ps.1 in
        let params = nodes ps.0.0 in
        let need = deepest ps.0.0 in
        let at = ps.0.1 in
        let C = comma_list true bar bar (map closure_param params) in
        let leads : (u : Tail) (f : Form) (depth : ℕ) (end : Tokens) → need ≤ depth → SpelledBefore u f no_struct depth at end
        → SpelledBefore u (closure_head is_async moves params f) no_struct depth all end =
        λ u f depth end le s. before u (behind_async moves params f) depth end
        (word_leads (codes "move") no_struct moves ts refl u (Part C f) depth end
        (part_made u no_struct depth C f from at end (raise C need depth from at le l.1) s)) in
        body_sound is_async moves params need all at leads l.2 l.3 x rest ps.2

    -- a closure
    pub closure_sound : SoundStep (closure_expr within no_struct) Left
    unfolding closure_expr
    closure_sound ts x rest t h =
        let is_async = first (is_keyword (codes "async")) ts in
        behind_sound is_async ts (if is_async then tail ts else ts) (word_leads (codes "async") no_struct is_async ts refl)
        (word_texts (codes "async") is_async ts refl t) x rest h
