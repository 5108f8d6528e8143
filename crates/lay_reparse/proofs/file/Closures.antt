-- Closures pass, given that their bodies pass: the bars round their parameters are tokens of one character.
use Rattle.std.proofs.Common.{◌≡◌, nat_le, List, [], ◌∷◌, Bool, true, false, not, ◌&&◌, refl, codes, map, Option, Some, None}
use Rattle.std.specs.List.{list_all}
use Rattle.std.proofs.lemmas.Bool.{and_parts}
use Rattle.lay_form.specs.Form as form
use Rattle.lay_form.specs.Form.{Bit, Blank, Operator, Braces, Bare, Unseen, Marked, Form, Done, Piece, keyword}
use Rattle.lay_form.specs.Notation.{comma_list}
use Rattle.lay_form.specs.Pieces.{are_pieces}
use Rattle.lay_node.specs.nodes.Attr.{are_attrs}
use Rattle.lay_node.specs.nodes.Functions.{may_be_type, self_type}
use Rattle.lay_node.specs.nodes.Patterns.{about_pat, pat_form, pat_good}
use Rattle.lay_node.specs.nodes.Types.{about_type, good_at}
use Rattle.lay_node.specs.declared.patterns.PatPlace.TheVariants.{Single}
use Rattle.lay_node.specs.declared.types.Ty.{Ty}
use Rattle.lay_node.specs.declared.types.TypePlace.TheVariants.{NoBounds}
use Rattle.lay_code.specs.nodes.Bodies.{sheds}
use Rattle.lay_code.specs.nodes.CodeFacts.{BlockFacts}
use Rattle.lay_code.specs.nodes.Exprs.{ExprFacts, placed, expr_facts, bar, behind_async, body_braces, closure_body, closure_param, is_closure_param, closure_head}
use Rattle.lay_code.specs.nodes.Places as place
use Rattle.lay_code.specs.declared.blocks.Stmt.TheOpen.{Expr-F}
use Rattle.lay_code.specs.declared.exprs.ClosureParam.{ClosureParam}
use Rattle.lay_reparse.proofs.borders.Border.{Border, beyond}
use Rattle.lay_reparse.proofs.borders.Move.{under}
use Rattle.lay_reparse.proofs.forms.Fields.{type_ends}
use Rattle.lay_reparse.proofs.forms.Passes.{plain, loosened}
use Rattle.lay_reparse.proofs.forms.Rules.{tables, whenever, From, All, under-refl, wider, ends, simple, fixed, breaks, part, bare_body, unseen_body, body_fits_both, marked_body, list}
use Rattle.lay_reparse.proofs.file.Nodes.{list_pieces}
use Rattle.lay_reparse.proofs.file.TypeParts.{ends_type, param_attrs_pass, param_attrs_pieces}
use Rattle.lay_reparse.proofs.file.TypeKinds.{deep_pieces}
use Rattle.lay_reparse.proofs.file.Types.{type_passes}
use Rattle.lay_reparse.proofs.file.PatternParts.{ends_pat}
use Rattle.lay_reparse.proofs.file.Patterns.{pat_passes_at}
use Rattle.lay_reparse.proofs.file.ExprParts.{leads_to, ends_operand, ends_by, ends_wide, always, deep, gap, begins_bars, head_word, BeginsCode}
use Rattle.lay_reparse.proofs.file.ExprPlaces.{ExprPasses, inner_expr}
use Rattle.lay_reparse.proofs.file.ExprKinds.{starting}
use Rattle.lay_reparse.proofs.file.BlockKinds.{BlockPasses}

-- ---- parameters

param_type_passes : (ty : Option Ty) → may_be_type ty ≡ true → are_pieces (self_type ty) ≡ true
    → From ends_pat (self_type ty) ends_pat
unfolding tables
param_type_passes None g w = ends refl
param_type_passes (Some x) g w = fixed refl (wider refl (type_ends x g w))

param_passes : (p : ClosureParam) → is_closure_param p ≡ true → are_pieces (closure_param p) ≡ true
    → From plain (closure_param p) ends_pat
unfolding tables
param_passes p g w =
    let pat = pat_form Single (about_pat p.pat) in
    let ty = form.Part (self_type p.ty) Done in
    let n1 = and_parts (are_attrs false p.attrs && pat_good Single (about_pat p.pat)) (may_be_type p.ty) g in
    let n2 = and_parts (are_attrs false p.attrs) (pat_good Single (about_pat p.pat)) n1.0 in
    let q = and_parts (are_pieces pat) (are_pieces ty) (param_attrs_pieces p.attrs (form.Part pat ty) w) in
    let r = (and_parts (are_pieces (self_type p.ty)) true q.1).0 in
    param_attrs_pass p.attrs n2.0 w
    (part plain ends_pat refl (pat_passes_at plain refl Single p.pat n2.1 q.0)
    (part ends_pat ends_pat refl (param_type_passes p.ty n1.1 r) (ends refl)))

params_pass : (ps : List ClosureParam) → list_all is_closure_param ps ≡ true
    → list_all are_pieces (map closure_param ps) ≡ true → All plain (map closure_param ps) ends_pat
params_pass [] g w = tt
params_pass (p ∷ ps) g w =
    let n = and_parts (is_closure_param p) (list_all is_closure_param ps) g in
    let q = and_parts (are_pieces (closure_param p)) (list_all are_pieces (map closure_param ps)) w in
    (param_passes p n.0 q.0, params_pass ps n.1 q.1)

-- what stands before the body, and what follows it
behind_pieces : (moves : Bool) (ps : List ClosureParam) (f : Form) → are_pieces (behind_async moves ps f) ≡ true
    → (are_pieces (comma_list true bar bar (map closure_param ps)) ≡ true) × (are_pieces f ≡ true)
behind_pieces true ps f w = and_parts (are_pieces (comma_list true bar bar (map closure_param ps))) (are_pieces f) w
behind_pieces false ps f w = and_parts (are_pieces (comma_list true bar bar (map closure_param ps))) (are_pieces f) w

head_pieces : (is_async moves : Bool) (ps : List ClosureParam) (f : Form) → are_pieces (closure_head is_async moves ps f) ≡ true
    → (are_pieces (comma_list true bar bar (map closure_param ps)) ≡ true) × (are_pieces f ≡ true)
head_pieces true moves ps f w = behind_pieces moves ps f w
head_pieces false moves ps f w = behind_pieces moves ps f w

plain_bars : begins_bars plain ≡ true
unfolding tables
plain_bars = refl

bars_pass : (b : Border) → begins_bars b ≡ true → (ps : List ClosureParam) → list_all is_closure_param ps ≡ true
    → are_pieces (comma_list true bar bar (map closure_param ps)) ≡ true
    → From b (comma_list true bar bar (map closure_param ps)) plain
bars_pass b h ps g w =
    let es = map closure_param ps in
    list true bar bar es plain ends_pat h (params_pass ps g (list_pieces true bar bar es w))

move_passes : (b : Border) → leads_to b (head_word (codes "move")) plain ≡ true → (moves : Bool) (ps : List ClosureParam) {f : Form} {c : Border}
    → (From plain (comma_list true bar bar (map closure_param ps)) plain) → From plain f c
    → From b (form.Part (comma_list true bar bar (map closure_param ps)) f) c → From b (behind_async moves ps f) c
move_passes b h moves ps bars k j =
    let m = head_word (codes "move") in
    let r = and_parts (simple b m) (under (beyond b m) plain) h in
    whenever moves m r.0 refl (part plain plain r.1 bars k) j

head_passes : (b : Border) → BeginsCode b → (is_async moves : Bool) (ps : List ClosureParam) → list_all is_closure_param ps ≡ true
    → {f : Form} {c : Border} → are_pieces (closure_head is_async moves ps f) ≡ true → From plain f c
    → From b (closure_head is_async moves ps f) c
head_passes b s is_async moves ps g {f} w k =
    let a = head_word (codes "async") in
    let p = head_pieces is_async moves ps f w in
    let q = and_parts (simple b a) (under (beyond b a) plain) s.by_async_bars in
    let bars = bars_pass plain plain_bars ps g p.0 in
    whenever is_async a q.0 refl
    (move_passes (beyond b a) s.by_async_move_bars moves ps bars k (part plain plain q.1 bars k))
    (move_passes b s.by_move moves ps bars k (part b plain (under-refl b) (bars_pass b s.bars ps g p.0) k))

-- ---- closures

-- What may follow an expression may follow it after a newline too, or after a closing brace.
body_fits : (bare base : Bool) → body_fits_both plain plain (ends_by bare base) ≡ true
unfolding tables
body_fits true base = refl
body_fits false true = refl
body_fits false false = refl

loosened_ends : (bare base : Bool) → under (loosened (ends_by bare base)) (ends_by bare base) ≡ true
unfolding tables
loosened_ends true base = refl
loosened_ends false true = refl
loosened_ends false false = refl

-- after the bars a blank, and the body: as it stands, in braces that are its own, or in braces where it is broken
body_behind : (b : Braces) (bare base : Bool) {f : Form} → From plain f (ends_by bare base)
    → From plain (Piece gap (closure_body b f)) (ends_by bare base)
unfolding tables
body_behind Bare bare base k =
    let h = ends_by bare base in fixed refl (bare_body plain h (under-refl plain) k (ends (under-refl h)))
body_behind Unseen bare base k =
    let h = ends_by bare base in fixed refl (unseen_body plain h (under-refl plain) k (ends (under-refl h)))
body_behind Marked bare base k =
    fixed refl (breaks refl (marked_body plain (ends_by bare base) (body_fits bare base) k (ends (loosened_ends bare base))))

body_pieces : (b : Braces) (f : Form) → are_pieces (closure_body b f) ≡ true → are_pieces f ≡ true
body_pieces Bare f w = (and_parts (are_pieces f) true w).0
body_pieces Unseen f w = (and_parts (are_pieces f) true w).0
body_pieces Marked f w = (and_parts (are_pieces f) true w).0

pub closure_pass : (is_async moves : Bool) (ps : List ClosureParam) (x : ExprFacts) → ExprPasses x
    → ExprPasses (expr_facts (Expr-F.Closure is_async moves ps x))
closure_pass is_async moves ps x k = record {
  go = λ v b h no_struct first g w.
      let base = nat_le 14 x.level && not x.is_number in
      let e = Piece gap (closure_body (body_braces x) x.form) in
      let n1 = and_parts (list_all is_closure_param ps && placed x (place.plain 0 no_struct)) (not (sheds x.kind no_struct)) g in
      let n = and_parts (list_all is_closure_param ps) (placed x (place.plain 0 no_struct)) n1.0 in
      let p = deep_pieces (closure_head is_async moves ps e) w in
      let q = body_pieces (body_braces x) x.form (head_pieces is_async moves ps e p).1 in
      deep (ends_wide x.tail.bare base) (always (head_passes b (starting v 12 b h).code is_async moves ps n.0 p
      (body_behind (body_braces x) x.tail.bare base (inner_expr x k (place.plain 0 no_struct) n.1 q))));
}

arrow_passes : (output : Ty) (x : BlockFacts) → BlockPasses x → good_at NoBounds (about_type output) ≡ true
    → x.good ≡ true
    → are_pieces (form.Part (about_type output).told.form (form.Part (x.form true) Done)) ≡ true
    → From plain (Piece (Blank ∷ Operator (codes "->") ∷ Blank ∷ [])
    (form.Part (about_type output).told.form (form.Part (x.form true) Done))) ends_operand
unfolding tables
arrow_passes output x k g h w =
    let t = (about_type output).told in
    let p = and_parts (are_pieces t.form) (are_pieces (form.Part (x.form true) Done)) w in
    let q = (and_parts (are_pieces (x.form true)) true p.1).0 in
    fixed refl (part plain ends_type refl
    ((type_passes output).go (and_parts t.good _ g).0 p.0)
    (part ends_type plain refl (k.go true ends_type refl h q) (ends refl)))

pub typed_closure_pass : (is_async moves : Bool) (ps : List ClosureParam) (output : Ty) (x : BlockFacts) → BlockPasses x
    → ExprPasses (expr_facts (Expr-F.TypedClosure is_async moves ps output x))
typed_closure_pass is_async moves ps output x k = record {
  go = λ v b h no_struct first g w.
      let t = (about_type output).told in
      let e = Piece (Blank ∷ Operator (codes "->") ∷ Blank ∷ []) (form.Part t.form (form.Part (x.form true) Done)) in
      let n1 = and_parts (list_all is_closure_param ps && good_at NoBounds (about_type output)) x.good g in
      let n2 = and_parts (list_all is_closure_param ps) (good_at NoBounds (about_type output)) n1.0 in
      let p = deep_pieces (closure_head is_async moves ps e) w in
      deep (under-refl ends_operand) (always (head_passes b (starting v 12 b h).code is_async moves ps n2.0 p
      (arrow_passes output x k n2.1 n1.1 (head_pieces is_async moves ps e p).1)));
}
