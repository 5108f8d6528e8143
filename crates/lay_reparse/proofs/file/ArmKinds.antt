-- Branches and the arms of a match pass, given the facts about them and that what is within them passes.
use Rattle.std.proofs.Common.{◌≡◌, List, [], ◌∷◌, Bool, true, false, not, ◌&&◌, ◌||◌, refl, codes, map, Option, Some, None}
use Rattle.std.specs.List.{list_all}
use Rattle.std.proofs.lemmas.Bool.{and_parts}
use Rattle.lay_form.specs.Form as form
use Rattle.lay_form.specs.Form.{Blank, Operator, ArmComma, Form, Done, Piece, Body, keyword}
use Rattle.lay_form.specs.Notation.{N, I0}
use Rattle.lay_form.specs.Pieces.{are_pieces}
use Rattle.lay_form.specs.Spelled.{may_lack}
use Rattle.lay_node.specs.nodes.Attr.{are_attrs, attr_form}
use Rattle.lay_node.specs.nodes.Patterns.{about_pat, pat_form, pat_good}
use Rattle.lay_node.specs.declared.attr.Attr.{Attr}
use Rattle.lay_node.specs.declared.patterns.Pat.{Pat}
use Rattle.lay_node.specs.declared.patterns.PatPlace.TheVariants.{Alternatives}
use Rattle.lay_code.specs.nodes.Bodies.{BlockBody, BodyKind, MacroBody, OtherBody, braces_of, is_lone_body}
use Rattle.lay_code.specs.nodes.Blocks.{arm_facts, branch_facts, guard_form, is_free}
use Rattle.lay_code.specs.nodes.CodeFacts.{ArmFacts, BlockFacts, BranchFacts, ConditionFacts}
use Rattle.lay_code.specs.nodes.Exprs.{ExprFacts, placed, value_placed, arm_forms, arms_good}
use Rattle.lay_code.specs.nodes.Places.{statement}
use Rattle.lay_reparse.proofs.borders.Border.{Border}
use Rattle.lay_reparse.proofs.forms.Passes.{plain}
use Rattle.lay_reparse.proofs.forms.Rules.{tables, From, All, wider, ends, fixed, breaks, within, part, with_outer, bare_arm, unseen_arm, marked_arm}
use Rattle.lay_reparse.proofs.file.Nodes.{ends_line, attrs_pass, outer_pieces}
use Rattle.lay_reparse.proofs.file.TypeArgs.{Any, Each}
use Rattle.lay_reparse.proofs.file.PatternParts.{ends_pat}
use Rattle.lay_reparse.proofs.file.Patterns.{pat_passes_at}
use Rattle.lay_reparse.proofs.file.ExprParts.{ends_expr, ends_stmt, ends_any, opens_soft}
use Rattle.lay_reparse.proofs.file.ExprPlaces.{ExprPasses, inner_expr, free_expr}
use Rattle.lay_reparse.proofs.file.BlockKinds.{BlockPasses}
use Rattle.lay_reparse.proofs.file.Conditions.{ConditionPasses}

-- ---- branches

pub record BranchPasses (x : BranchFacts) : Type 0 where
  pub condition : x.good ≡ true → are_pieces x.condition ≡ true → From plain x.condition ends_expr
  pub soft : (b : Border) → opens_soft b ≡ true → x.good ≡ true → are_pieces x.soft ≡ true → From b x.soft plain

pub branch_pass : (x : ConditionFacts) (b : BlockFacts) → ConditionPasses x → BlockPasses b
    → BranchPasses (branch_facts (record { condition = x; body = b }))
branch_pass x b k l = record {
  condition = λ g w. k.go (and_parts x.good b.good g).0 w;
  soft = λ c fit g w. l.soft c fit (and_parts x.good b.good g).1 w;
}

-- ---- arms

abbrev is_block_body : BodyKind → Bool
is_block_body (BlockBody lone structless) = true
is_block_body _ = false

-- After a block as the body of an arm its comma may be left out.
abbrev pub block_free : ExprFacts → Bool
block_free x = not (is_block_body x.kind) || is_free x

may_lack_comma : (last free : Bool) → free ≡ true → may_lack last free 0 ≡ true
may_lack_comma true free h = refl
may_lack_comma false true h = refl
may_lack_comma false false h = cc

-- The body of an arm: as it stands, in braces that are its own, or in braces where it is broken; and its comma.
arm_body_passes : (kind : BodyKind) (last free : Bool) {f : Form} → not (is_block_body kind) || free ≡ true
    → From plain f ends_expr → From plain (Body (braces_of kind) (ArmComma last free) f Done) ends_stmt
unfolding tables
arm_body_passes MacroBody last free h k = bare_arm plain ends_expr refl k refl (ends refl)
arm_body_passes (BlockBody lone structless) last free h k =
    unseen_arm plain ends_expr (may_lack_comma last free h) refl k (ends refl)
arm_body_passes OtherBody last free h k = marked_arm plain ends_expr refl k (ends refl)

guard_passes : (x : Option ExprFacts) → Any ExprPasses x → value_placed x ≡ true → are_pieces (guard_form x) ≡ true
    → From ends_pat (guard_form x) ends_expr
unfolding tables
guard_passes None k g w = ends refl
guard_passes (Some x) k g w =
    fixed refl (part plain ends_expr refl (free_expr x k g (and_parts (are_pieces x.form) true w).0) (ends refl))

-- The flag says that it is the last arm.
pub record ArmPasses (x : ArmFacts) : Type 0 where
  pub go : (last : Bool) → x.good ≡ true → are_pieces (x.form last) ≡ true → From plain (x.form last) ends_stmt

pub arm_pass : (attrs : List Attr) (pat : Pat) (guard : Option ExprFacts) (x : ExprFacts) → Any ExprPasses guard
    → ExprPasses x → block_free x ≡ true
    → ArmPasses (arm_facts (record { attrs = attrs; pat = pat; guard = guard; body = x }))
unfolding tables
arm_pass attrs pat guard x k l free = record {
  go = λ last g w.
      let es = map attr_form attrs in
      let head = form.Part (pat_form Alternatives (about_pat pat)) (guard_form guard) in
      let body = Body (braces_of x.kind) (ArmComma last (is_free x)) x.form Done in
      let e = I0 head (Piece (Blank ∷ Operator (codes "=>") ∷ Blank ∷ []) (N body)) in
      let n1 = and_parts (are_attrs false attrs && pat_good Alternatives (about_pat pat) && value_placed guard
      && placed x statement) (not (is_lone_body x.kind)) g in
      let n2 = and_parts (are_attrs false attrs && pat_good Alternatives (about_pat pat) && value_placed guard)
      (placed x statement) n1.0 in
      let n3 = and_parts (are_attrs false attrs && pat_good Alternatives (about_pat pat)) (value_placed guard) n2.0 in
      let n4 = and_parts (are_attrs false attrs) (pat_good Alternatives (about_pat pat)) n3.0 in
      let q = outer_pieces es e w in
      let p1 = and_parts (are_pieces head) (are_pieces body) q.1 in
      let p2 = and_parts (are_pieces (pat_form Alternatives (about_pat pat))) (are_pieces (guard_form guard)) p1.0 in
      let p3 = (and_parts (are_pieces x.form) true p1.1).0 in
      with_outer es ends_line refl (attrs_pass false attrs n4.0 q.0)
      (within plain ends_expr refl
      (part plain ends_pat refl (pat_passes_at plain refl Alternatives pat n4.1 p2.0) (guard_passes guard k n3.1 p2.1))
      (fixed refl (breaks refl (arm_body_passes x.kind last (is_free x) free
      (wider (ends_any x.tail.bare _) (inner_expr x l statement n2.1 p3))))));
}

pub arms_pass : (arms : List ArmFacts) → Each ArmPasses arms → arms_good arms ≡ true
    → list_all are_pieces (arm_forms arms) ≡ true → All plain (arm_forms arms) ends_stmt
arms_pass [] k g w = tt
arms_pass (a ∷ []) k g w =
    (k.0.go true (and_parts a.good true g).0 (and_parts (are_pieces (a.form true)) true w).0, tt)
arms_pass (a ∷ b ∷ more) k g w =
    let n = and_parts a.good (arms_good (b ∷ more)) g in
    let p = and_parts (are_pieces (a.form false)) (list_all are_pieces (arm_forms (b ∷ more))) w in
    (k.0.go false n.0 p.0, arms_pass (b ∷ more) k.1 n.1 p.1)
