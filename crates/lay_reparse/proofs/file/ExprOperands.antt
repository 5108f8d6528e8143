-- Expressions of operators, steps and jumps pass, kind by kind, given the facts about them and that their operands pass.
use Rattle.std.proofs.Common.{◌≡◌, ℕ, suc, nat_le, List, [], ◌∷◌, Bool, true, false, not, ◌&&◌, ◌||◌, refl, subst, map, arith, Option, Some, None}
use Rattle.std.specs.Prelude.{◌==◌}
use Rattle.std.proofs.lemmas.Bool.{and_parts, le-leb}
use Rattle.lay_form.specs.Form as form
use Rattle.lay_form.specs.Form.{Blank, Operator, Form, Done, Piece}
use Rattle.lay_form.specs.Layout.{led}
use Rattle.lay_form.specs.Notation.{I4, N}
use Rattle.lay_form.specs.Pieces.{are_pieces}
use Rattle.lay_node.specs.nodes.Patterns.{dots}
use Rattle.lay_node.specs.nodes.Types.{about_type, good_at, is_there, lifetime_form}
use Rattle.lay_node.specs.declared.token.Lifetime.{Lifetime}
use Rattle.lay_node.specs.declared.types.Ty.{Ty}
use Rattle.lay_node.specs.declared.types.TypePlace.TheVariants.{NoBounds}
use Rattle.lay_code.specs.Operators.{op_text, op_level, is_angle_op}
use Rattle.lay_code.specs.nodes.Exprs.{ExprFacts, StepFacts, placed, expr_facts, is_dotted, is_tuple_index, first_step, methods, are_steps, steps_form, group_if, operands_form, operands_placed, tail_of_operands, is_chain_level, may_chain, types_form, types_good, prefix_bits, prefixes_form, end_form, end_placed, tail_of_end, targets_form, targets_placed, label_form, operand_form, operand_placed, tail_of_jump, break_placed}
use Rattle.lay_code.specs.nodes.Places as place
use Rattle.lay_code.specs.nodes.Places.{before_op}
use Rattle.lay_code.specs.declared.blocks.Stmt.TheOpen.{Expr-F}
use Rattle.lay_code.specs.declared.operators.Op.{Op}
use Rattle.lay_code.specs.declared.operators.Op.TheVariants as op
use Rattle.lay_code.specs.declared.operators.Prefix.{Prefix}
use Rattle.lay_code.specs.declared.operators.Prefix.TheVariants as before
use Rattle.lay_reparse.proofs.borders.Border.{Border, beyond}
use Rattle.lay_reparse.proofs.borders.Move.{under}
use Rattle.lay_reparse.proofs.forms.Opened.{bits_open, even}
use Rattle.lay_reparse.proofs.forms.Passes.{plain, piece_passes}
use Rattle.lay_reparse.proofs.forms.Rules.{tables, On, From, under-refl, under-trans, wider, ends, simple, fixed, breaks, part}
use Rattle.lay_reparse.proofs.file.TypeParts.{ends_lifetime, lifetime_passes}
use Rattle.lay_reparse.proofs.file.TypeArgs.{Any, Each}
use Rattle.lay_reparse.proofs.file.TypeKinds.{deep_pieces}
use Rattle.lay_reparse.proofs.file.Types.{type_passes}
use Rattle.lay_reparse.proofs.file.ExprParts.{ends_base, ends_operand, ends_expr, ends_by, ends_wide, operand_under, Behind, always, in_both, behind_wider, deep, shut_deep, first_part, in_group, from_clear, gap, may_lack_operand, return_word, break_word, continue_word, begins_prefix, prefix_at, begins_operand, begins, begins_dots, begins_range, higher, operand_begins, ranges_behind_operand}
use Rattle.lay_reparse.proofs.file.OperatorParts.{operator_passes, operator_broken}
use Rattle.lay_reparse.proofs.file.ExprPlaces.{ends_of, ExprPasses, is_placed, stands_at, operand_at, is_whole_before, inner_expr, inner_operand}
use Rattle.lay_reparse.proofs.file.ExprSteps.{StepPasses, steps_pass}

-- ---- operators of one level

abbrev pub OperandPasses : Op × ExprFacts → Type 0
OperandPasses x = ExprPasses x.1

-- from an operator on, up to the end of the last operand
operands_pass : (level : ℕ) (no_struct : Bool) (x : Op × ExprFacts) (more : List (Op × ExprFacts)) → OperandPasses x
    → Each OperandPasses more → operands_placed level no_struct (x ∷ more) ≡ true
    → are_pieces (operands_form (x ∷ more)) ≡ true
    → From ends_operand (operands_form (x ∷ more)) (ends_by (tail_of_operands (x ∷ more)).bare false)
operands_pass level no_struct x [] k l g w =
    let n1 = and_parts ((op_level x.0 == level) && placed x.1 (place.plain (suc level) no_struct)) true g in
    let n2 = and_parts (op_level x.0 == level) _ n1.0 in
    let p = (and_parts (are_pieces x.1.form) true w).0 in
    operator_broken x.0 (part plain (ends_of x.1) (under-refl plain)
    (inner_expr x.1 k (place.plain (suc level) no_struct) n2.1 p) (ends (ends_wide x.1.tail.bare _)))
operands_pass level no_struct x (y ∷ more) k l g w =
    let at = before_op (suc level) no_struct false (is_angle_op y.0) in
    let n1 = and_parts ((op_level x.0 == level) && placed x.1 at) _ g in
    let n2 = and_parts (op_level x.0 == level) _ n1.0 in
    let p = and_parts (are_pieces x.1.form) _ w in
    operator_broken x.0 (part plain ends_operand (under-refl plain)
    (inner_operand x.1 k (suc level) no_struct false (is_angle_op y.0) n2.1 p.0)
    (operands_pass level no_struct y more l.0 l.1 n1.1 p.1))

-- what is made of operators is no base of a tuple index
no_base : (o : Op) (bare : Bool) → under (ends_by bare false) (ends_by bare (nat_le 14 (op_level o) && true)) ≡ true
no_base o bare = at (nat_le 14 (op_level o) && true) (low o) bare
  where
    low : (o : Op) → nat_le 14 (op_level o) && true ≡ false
    low op.Upto = refl
    low op.UptoEq = refl
    low _ = refl

    at : (base : Bool) → base ≡ false → (bare : Bool) → under (ends_by bare false) (ends_by bare base) ≡ true
    at true h bare = cc
    at false h bare = ends_wide bare false

pub chain_pass : (x : ExprFacts) (rest : List (Op × ExprFacts)) → ExprPasses x → Each OperandPasses rest
    → ExprPasses (expr_facts (Expr-F.Chain x rest))
chain_pass x [] k l = record { go = λ v b h no_struct first g w. let e : false ≡ true = g in cc }
chain_pass x (y ∷ more) k l = record {
  go = λ v b h no_struct first g w.
      let level = op_level y.0 in
      let angle = is_angle_op y.0 in
      let chains = is_chain_level level && may_chain level (y ∷ more) in
      let n1 = and_parts (chains && placed x (before_op (suc level) no_struct first angle)) _ g in
      let n2 = and_parts chains _ n1.0 in
      let e = form.Part x.form (operands_form (y ∷ more)) in
      let p = and_parts (are_pieces x.form) _ (and_parts (are_pieces e) true (deep_pieces (I4 e Done) w)).0 in
      let begin = higher v b level (suc level) (le-leb level (suc level) (omega arith)) h in
      deep (no_base y.0 _) (in_group (first_part (operand_at x k (suc level) no_struct first angle n2.1 p.0 v b begin)
      (operands_pass level no_struct y more l.0 l.1 n1.1 p.1)));
}

-- ---- casts

-- the types that an operand is cast to
types_pass : (types : List Ty) → types_good (map about_type types) ≡ true
    → are_pieces (types_form (map about_type types)) ≡ true
    → From ends_operand (types_form (map about_type types)) ends_operand
unfolding tables
types_pass [] g w = ends refl
types_pass (t ∷ more) g w =
    let x = (about_type t).told in
    let n = and_parts (good_at NoBounds (about_type t)) _ g in
    let p = and_parts (are_pieces x.form) _ w in
    fixed refl (part plain ends_operand refl (wider refl ((type_passes t).go (and_parts x.good _ n.0).0 p.0))
    (types_pass more n.1 p.1))

pub cast_pass : (x : ExprFacts) (types : List Ty) → ExprPasses x → ExprPasses (expr_facts (Expr-F.Cast x types))
cast_pass x types k = record {
  go = λ v b h no_struct first g w.
      let told = map about_type types in
      let n1 = and_parts (is_there types && placed x (before_op 12 no_struct first false)) (types_good told) g in
      let n2 = and_parts (is_there types) _ n1.0 in
      let p = and_parts (are_pieces x.form) _ (deep_pieces (form.Part x.form (types_form told)) w) in
      deep (under-refl ends_operand) (first_part (operand_at x k 12 no_struct first false n2.1 p.0 v b (higher v b 11 12 refl h))
      (types_pass types n1.1 p.1));
}

-- ---- operators before an operand

-- it opens no delimiter
prefix_even : (p : Prefix) → even ≡ bits_open even (prefix_bits p)
prefix_even before.Neg = refl
prefix_even _ = refl

-- an operator, where an operand may begin
prefixed : (b : Border) → begins_prefix b ≡ true → (p : Prefix) {f : Form} {c : Border} → From plain f c
    → From b (Piece (prefix_bits p) f) c
prefixed b h p {f} {c} k =
    let q = and_parts (simple b (prefix_bits p)) _ (prefix_at b h p) in
    fixed q.0 (subst (λ o. On o (beyond b (prefix_bits p)) f c) (prefix_even p)
    (from_clear (beyond b (prefix_bits p)) q.1 k))

-- operators side by side
prefixes_pass : (ps : List Prefix) {f : Form} {c : Border} → From plain f c → From plain (prefixes_form ps f) c
unfolding tables
prefixes_pass [] k = k
prefixes_pass (p ∷ ps) k = prefixed plain refl p (prefixes_pass ps k)

prefixes_pieces : (ps : List Prefix) (f : Form) → are_pieces (prefixes_form ps f) ≡ true → are_pieces f ≡ true
prefixes_pieces [] f w = w
prefixes_pieces (p ∷ ps) f w = prefixes_pieces ps f w

pub unary_pass : (ps : List Prefix) (x : ExprFacts) → ExprPasses x → ExprPasses (expr_facts (Expr-F.Unary ps x))
unary_pass [] x k = record { go = λ v b h no_struct first g w. let e : false ≡ true = g in cc }
unary_pass (p ∷ ps) x k = record {
  go = λ v b h no_struct first g w.
      let n = and_parts (placed x (place.plain 12 no_struct)) _ g in
      let e = form.Part x.form Done in
      let q = prefixes_pieces (p ∷ ps) e (deep_pieces (prefixes_form (p ∷ ps) e) w) in
      let i = inner_expr x k (place.plain 12 no_struct) n.0 (and_parts (are_pieces x.form) true q).0 in
      deep (ends_wide _ _) (always (prefixed b (begins b (and_parts (begins_operand b) _ h).0).prefix p
      (prefixes_pass ps (part plain (ends_of x) (under-refl plain) i (ends (under-refl (ends_of x)))))));
}

-- ---- ranges

-- `..` or `..=`, with the blank that it gets after a point
dotted_behind : {v : Bool} {b c : Border} {f : Form} (inclusive : Bool) → piece_passes v b (dots inclusive) ≡ true
    → From (beyond b (led v (dots inclusive))) f c → Behind v b (Piece (dots inclusive) f) c
dotted_behind true h k = record { now = (h, k.go _) }
dotted_behind false h k = record { now = (h, k.go _) }

-- an end, where an operand may begin
end_passes : (b : Border) → begins_operand b ≡ true → (x : ExprFacts) → ExprPasses x → (no_struct : Bool)
    → placed x (place.plain 2 no_struct) ≡ true → are_pieces x.form ≡ true
    → From b (form.Part x.form Done) (ends_by x.tail.bare false)
end_passes b h x k no_struct g w =
    part b (ends_of x) (under-refl b)
    (in_both (λ v. stands_at x k (place.plain 2 no_struct) g w v b (operand_begins v b 2 refl h)))
    (ends (ends_wide x.tail.bare _))

-- `..` or `..=`, and what follows it
range_passes : (v : Bool) (b : Border) → begins_range v b ≡ true → (inclusive : Bool) (end : Option ExprFacts)
    → Any ExprPasses end → (no_struct : Bool) → end_placed end inclusive no_struct ≡ true
    → are_pieces (end_form end Done) ≡ true
    → Behind v b (Piece (dots inclusive) (end_form end Done)) (ends_by (tail_of_end end).bare false)
range_passes v b h true None k no_struct g w = cc
range_passes v b h false None k no_struct g w =
    let h1 = and_parts (begins_dots v b (dots true)) _ h in
    let h2 = and_parts (begins_dots v b (dots false)) _ h1.1 in
    dotted_behind false (and_parts (piece_passes v b (dots false)) _ h2.0).0 (ends h2.1)
range_passes v b h inclusive (Some x) k no_struct g w =
    let q = and_parts (piece_passes v b (dots inclusive)) _ (at inclusive) in
    let p = (and_parts (are_pieces x.form) true w).0 in
    dotted_behind inclusive q.0 (end_passes (beyond b (led v (dots inclusive))) q.1 x k no_struct
    (and_parts (placed x (place.plain 2 no_struct)) _ g).0 p)
  where
    at : (inclusive : Bool) → begins_dots v b (dots inclusive) ≡ true
    at true = (and_parts (begins_dots v b (dots true)) _ h).0
    at false =
        (and_parts (begins_dots v b (dots false)) _ (and_parts (begins_dots v b (dots true)) _ h).1).0

pub range_pass : (start : Option ExprFacts) (inclusive : Bool) (end : Option ExprFacts) → Any ExprPasses start
    → Any ExprPasses end → ExprPasses (expr_facts (Expr-F.Range start inclusive end))
range_pass None inclusive end k l = record {
  go = λ v b h no_struct first g w.
      deep (ends_wide _ false) (range_passes v b (and_parts (begins_operand b) _ h).1 inclusive end l no_struct g
      (deep_pieces (Piece (dots inclusive) (end_form end Done)) w));
}
range_pass (Some x) inclusive end k l = record {
  go = λ v b h no_struct first g w.
      let n = and_parts (placed x (before_op 2 no_struct first false)) _ g in
      let e = Piece (dots inclusive) (end_form end Done) in
      let p = and_parts (are_pieces x.form) _ (deep_pieces (form.Part x.form e) w) in
      deep (ends_wide _ false) (first_part
      (operand_at x k 2 no_struct first false n.0 p.0 v b
      (operand_begins v b 2 refl (and_parts (begins_operand b) _ h).0))
      (in_both (λ v. range_passes v ends_operand (ranges_behind_operand v) inclusive end l no_struct n.1 p.1)));
}

-- ---- assignments

abbrev pub TargetPasses : ExprFacts × Op → Type 0
TargetPasses x = ExprPasses x.0

abbrev behind_target : ExprFacts × Op → Form → Form
behind_target x f = Piece gap (Piece (Operator (op_text x.1) ∷ []) (Piece gap (N f)))

-- the operator after a target, and what follows it
assigned : (x : ExprFacts × Op) {f : Form} {c : Border} → From plain f c → From ends_operand (behind_target x f) c
unfolding tables
assigned x k = fixed refl (operator_passes x.1 (breaks refl k))

-- targets with their operators, and what is assigned
targets_pass : (targets : List (ExprFacts × Op)) → Each TargetPasses targets → (no_struct : Bool)
    → targets_placed targets no_struct false ≡ true → {f : Form} → are_pieces (targets_form targets f) ≡ true
    → {c : Border} → From plain f c → From plain (targets_form targets f) c
targets_pass [] k no_struct g w l = l
targets_pass (x ∷ more) k no_struct g {f} w l =
    let n1 = and_parts ((op_level x.1 == 0) && placed x.0 (before_op 1 no_struct false false)) _ g in
    let n2 = and_parts (op_level x.1 == 0) _ n1.0 in
    let p = and_parts (are_pieces x.0.form) (are_pieces (targets_form more f)) w in
    part plain ends_operand (under-refl plain) (inner_operand x.0 k.0 1 no_struct false false n2.1 p.0)
    (assigned x (targets_pass more k.1 no_struct n1.1 p.1 l))

targets_pieces : (targets : List (ExprFacts × Op)) (f : Form) → are_pieces (targets_form targets f) ≡ true
    → are_pieces f ≡ true
targets_pieces [] f w = w
targets_pieces (x ∷ more) f w =
    targets_pieces more f (and_parts (are_pieces x.0.form) (are_pieces (targets_form more f)) w).1

pub assign_pass : (targets : List (ExprFacts × Op)) (x : ExprFacts) → Each TargetPasses targets → ExprPasses x
    → ExprPasses (expr_facts (Expr-F.Assign targets x))
assign_pass [] x k l = record { go = λ v b h no_struct first g w. let e : false ≡ true = g in cc }
assign_pass (y ∷ more) x k l = record {
  go = λ v b h no_struct first g w.
      let e = form.Part x.form Done in
      let n1 = and_parts (targets_placed (y ∷ more) no_struct first) (placed x (place.plain 1 no_struct)) g in
      let n2 = and_parts ((op_level y.1 == 0) && placed y.0 (before_op 1 no_struct first false)) _ n1.0 in
      let n3 = and_parts (op_level y.1 == 0) _ n2.0 in
      let w1 = deep_pieces (targets_form (y ∷ more) e) w in
      let p = and_parts (are_pieces y.0.form) (are_pieces (targets_form more e)) w1 in
      let q = (and_parts (are_pieces x.form) true (targets_pieces more e p.1)).0 in
      let value = part plain (ends_of x) (under-refl plain) (inner_expr x l (place.plain 1 no_struct) n1.1 q)
      (ends (under-refl (ends_of x))) in
      deep (ends_wide _ _) (first_part (operand_at y.0 k.0 1 no_struct first false n3.1 p.0 v b (higher v b 0 1 refl h))
      (assigned y (targets_pass more k.1 no_struct n2.1 p.1 value)));
}

-- ---- steps

-- several methods are a group
grouped_behind : {v : Bool} {b c : Border} {f : Form} (is_group : Bool) → Behind v b f c → Behind v b (group_if is_group f) c
grouped_behind true k = in_group k
grouped_behind false k = k

group_pieces : (is_group : Bool) (f : Form) → are_pieces (group_if is_group f) ≡ true → are_pieces f ≡ true
group_pieces true f w = (and_parts (are_pieces f) true w).0
group_pieces false f w = w

-- where a base ends
base_end : (bare base number : Bool) → bare ≡ false → base ≡ true
    → under (ends_by bare (base && not number)) (ends_by false (not number)) ≡ true
base_end true base number h g = cc
base_end false true true h g = refl
base_end false true false h g = refl
base_end false false number h g = cc

-- No tuple index stands after a number without suffix.
may_begin : (number index : Bool) → not (number && index) ≡ true → not number || not index ≡ true
may_begin true true h = cc
may_begin true false h = refl
may_begin false index h = refl

pub postfix_pass : (x : ExprFacts) (steps : List StepFacts) → ExprPasses x → Each StepPasses steps
    → ExprPasses (expr_facts (Expr-F.Postfix x steps))
postfix_pass x steps k l = record {
  go = λ v b h no_struct first g w.
      let at = before_op 14 no_struct (first && not (first_step is_dotted steps)) false in
      let index = first_step is_tuple_index steps in
      let n1 = and_parts (is_there steps && are_steps steps && not (x.is_number && index)) (placed x at) g in
      let n2 = and_parts (is_there steps && are_steps steps) (not (x.is_number && index)) n1.0 in
      let n3 = and_parts (is_there steps) (are_steps steps) n2.0 in
      let several = nat_le 2 (methods steps) in
      let e = form.Part x.form (steps_form several false steps) in
      let p = and_parts (are_pieces x.form) _ (group_pieces several e (deep_pieces (group_if several e) w)) in
      let end = base_end x.tail.bare (nat_le 14 x.level) x.is_number
      (is_whole_before x 14 no_struct (first && not (first_step is_dotted steps)) false n1.1)
      (is_placed x at n1.1).level in
      let base = behind_wider end (stands_at x k at n1.1 p.0 v b (higher v b 13 14 refl h)) in
      deep (operand_under _) (grouped_behind several (first_part base
      (steps_pass several false (not x.is_number) steps l n3.1 (may_begin x.is_number index n2.1) p.1)));
}

-- ---- jumps

-- what follows a word that needs no operand
operand_passes : (b : Border) → may_lack_operand b ≡ true → (x : Option ExprFacts) → Any ExprPasses x → (no_struct : Bool)
    → operand_placed x no_struct ≡ true → are_pieces (operand_form x) ≡ true
    → From b (operand_form x) (ends_by (tail_of_jump x).bare false)
operand_passes b h None k no_struct g w =
    ends (under-trans b ends_base ends_expr (and_parts (under b ends_base) _ h).0 refl)
operand_passes b h (Some x) k no_struct g w =
    let q = and_parts (simple b gap) _ (and_parts (under b ends_base) _ h).1 in
    let n = and_parts (placed x (place.plain 0 no_struct)) _ g in
    let i = inner_expr x k (place.plain 0 no_struct) n.0 (and_parts (are_pieces x.form) true w).0 in
    fixed q.0 (from_clear (beyond b gap) q.1
    (part plain (ends_of x) (under-refl plain) i (ends (ends_wide x.tail.bare _))))

-- a label, if there is one, and what follows it
label_passes : (b : Border) → may_lack_operand b ≡ true → (label : Option Lifetime) {f : Form} {c : Border}
    → are_pieces (label_form label f) ≡ true → From b f c → From ends_lifetime f c → From b (label_form label f) c
label_passes b h None w k l = k
label_passes b h (Some x) w k l =
    let q = and_parts (simple b gap) _ (and_parts (under b ends_base) _ h).1 in
    let p = and_parts (are_pieces (lifetime_form x)) _ w in
    fixed q.0 (from_clear (beyond b gap) q.1 (part plain ends_lifetime (under-refl plain) (lifetime_passes x p.0) l))

label_pieces : (label : Option Lifetime) (f : Form) → are_pieces (label_form label f) ≡ true → are_pieces f ≡ true
label_pieces None f w = w
label_pieces (Some x) f w = (and_parts (are_pieces (lifetime_form x)) (are_pieces f) w).1

-- a label needs no operand after it
lifetime_may_lack : may_lack_operand ends_lifetime ≡ true
unfolding tables
lifetime_may_lack = refl

pub continue_pass : (label : Option Lifetime) → ExprPasses (expr_facts (Expr-F.Continue label))
continue_pass label = record {
  go = λ v b h no_struct first g w.
      let q = and_parts (simple b continue_word) _ (begins b (and_parts (begins_operand b) _ h).0).continues in
      let p = deep_pieces (Piece continue_word (label_form label Done)) w in
      shut_deep (fixed q.0 (label_passes (beyond b continue_word) q.1 label p
      (ends (and_parts (under (beyond b continue_word) ends_base) _ q.1).0) (ends refl)));
}

pub return_pass : (x : Option ExprFacts) → Any ExprPasses x → ExprPasses (expr_facts (Expr-F.Return x))
return_pass x k = record {
  go = λ v b h no_struct first g w.
      let q = and_parts (simple b return_word) _ (begins b (and_parts (begins_operand b) _ h).0).returns in
      let p = deep_pieces (Piece return_word (operand_form x)) w in
      deep (ends_wide _ false)
      (always (fixed q.0 (operand_passes (beyond b return_word) q.1 x k no_struct g p)));
}

pub break_pass : (label : Option Lifetime) (x : Option ExprFacts) → Any ExprPasses x
    → ExprPasses (expr_facts (Expr-F.Break label x))
break_pass label x k = record {
  go = λ v b h no_struct first g w.
      let q = and_parts (simple b break_word) _ (begins b (and_parts (begins_operand b) _ h).0).breaks in
      let p = deep_pieces (Piece break_word (label_form label (operand_form x))) w in
      let n = (and_parts (operand_placed x no_struct) (break_placed label x) g).0 in
      let p' = label_pieces label (operand_form x) p in
      deep (ends_wide _ false) (always (fixed q.0 (label_passes (beyond b break_word) q.1 label p
      (operand_passes (beyond b break_word) q.1 x k no_struct n p')
      (operand_passes ends_lifetime lifetime_may_lack x k no_struct n p'))));
}
