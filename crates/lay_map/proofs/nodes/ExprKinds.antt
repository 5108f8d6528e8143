-- Expressions without blocks tell their units, kind by kind, given that the expressions within them do.
use Rattle.std.proofs.Common.{◌≡◌, ℕ, suc, nat_le, Bool, true, false, not, ◌&&◌, List, [], ◌∷◌, ◌++◌, codes, refl, map, Option, Some, None, is_some}
use Rattle.std.specs.Prelude.{◌==◌}
use Rattle.std.proofs.lemmas.Bool.{and_parts}
use Rattle.lay_piece.specs.declared.kind.Delim.TheVariants.{Paren, Bracket}
use Rattle.lay_piece.specs.declared.kind.Kind.TheVariants as kind
use Rattle.lay_form.specs.Form.{Blank, Fixed, Operator, Soft, Never, Form, Done, Piece, keyword, opener, closer, comma, semicolon}
use Rattle.lay_node.specs.nodes.Attr.{is_empty}
use Rattle.lay_node.specs.nodes.Facts.{Facts, all_good, forms}
use Rattle.lay_node.specs.nodes.Patterns.{dots}
use Rattle.lay_node.specs.nodes.Types.{about_path, about_type, good_at, is_there}
use Rattle.lay_node.specs.tokens.Lexed.{is_token_list}
use Rattle.lay_node.specs.declared.token.Lifetime.{Lifetime}
use Rattle.lay_node.specs.declared.token.Listed.{Listed}
use Rattle.lay_node.specs.declared.token.Literal.{Literal}
use Rattle.lay_node.specs.declared.tokens.MacroCall.{MacroCall}
use Rattle.lay_node.specs.declared.types.Path.{Path}
use Rattle.lay_node.specs.declared.types.PathStyle.TheVariants.{Code}
use Rattle.lay_node.specs.declared.types.Ty.{Ty}
use Rattle.lay_node.specs.declared.types.TypePlace.TheVariants.{NoBounds}
use Rattle.lay_code.specs.Operators.{op_level, op_text}
use Rattle.lay_code.specs.nodes.Exprs.{ExprFacts, StepFacts, all_free, are_steps, base_form, base_placed, begins_free, break_placed, end_form, end_placed, expr_facts, expr_forms, first_step, group_if, is_chain_level, is_dotted, is_prefix_lead, is_tuple_index, label_form, level_of_chain, may_chain, methods, next_is_angle, operand_form, operand_place, operand_placed, operands_form, operands_placed, placed, prefix_bits, prefixes_form, start_placed, targets_form, targets_placed, tuple_form, types_form, types_good}
use Rattle.lay_code.specs.nodes.Places.{FREE, before_op, plain}
use Rattle.lay_code.specs.declared.blocks.Stmt.TheOpen.{Expr-F}
use Rattle.lay_code.specs.declared.operators.Op.{Op}
use Rattle.lay_code.specs.declared.operators.Op.TheVariants as op
use Rattle.lay_code.specs.declared.operators.Prefix.{Prefix}
use Rattle.lay_code.specs.declared.operators.Prefix.TheVariants as before
use Rattle.lay_map.specs.spelling.Choice.{firm_bits}
use Rattle.lay_map.specs.spelling.Units.{Word}
use Rattle.lay_map.proofs.BodyRules.{Calms, braces_told, calm_all, first_of}
use Rattle.lay_map.proofs.Rules.{All, Firm, Plain, Tells, brk, ends, firm_fixed, firm_group, firm_part, fixed, group, list, part, tame}
use Rattle.lay_map.proofs.nodes.Attrs.{call_firm, call_tells}
use Rattle.lay_map.proofs.nodes.ExprParts.{ExprTells, FieldTells, Sound, StepTells, args_tell, at_place, both_all, deeper_sound, frees_tell, list_firm, steps_tell}
use Rattle.lay_map.proofs.nodes.PathFronts.{path_firm}
use Rattle.lay_map.proofs.nodes.Tokens.{tokens_tell}
use Rattle.lay_map.proofs.nodes.TypeArgs.{Each, Given}
use Rattle.lay_map.proofs.nodes.TypeParts.{lifetime_tells, literal_firm, literal_tells}
use Rattle.lay_map.proofs.nodes.Types.{path_tells, type_tells_at}

-- ---- literals, paths and calls

pub literal_expr : (l : Literal) → ExprTells (expr_facts (Expr-F.Lit l))
literal_expr l = record { go = λ n f g. deeper_sound (record { tells = literal_tells l g ends; firm_is = literal_firm l g }) }

pub path_expr : (path : Path) → ExprTells (expr_facts (Expr-F.Path path))
path_expr path = record { go = λ n f g. deeper_sound (record { tells = path_tells Code path g; firm_is = path_firm Code path g }) }

pub underscore_expr : ExprTells (expr_facts Expr-F.Underscore)
underscore_expr = record {
  go = λ n f g. deeper_sound (record {
    tells = fixed (Fixed kind.Underscore (codes "_") ∷ []) refl ends;
    firm_is = firm_fixed (Fixed kind.Underscore (codes "_") ∷ []) refl;
  });
}

pub call_expr : (call : MacroCall) → ExprTells (expr_facts (Expr-F.Expr::Call call))
call_expr call = record { go = λ n f g. deeper_sound (record { tells = call_tells call g; firm_is = call_firm call g }) }

-- ---- what stands in parentheses and brackets

pub paren_expr : (x : ExprFacts) → ExprTells x → ExprTells (expr_facts (Expr-F.Paren x))
paren_expr x k = record {
  go = λ n f g. deeper_sound (record {
    tells = fixed (opener Paren ∷ []) refl (part (at_place x k FREE g).tells (fixed (closer Paren ∷ []) refl ends));
    firm_is = firm_fixed (opener Paren ∷ []) refl;
  });
}

tuple_sound : (xs : List ExprFacts) → Each ExprTells xs → all_free xs ≡ true → Sound (tuple_form xs)
tuple_sound [] k g = record { tells = args_tell [] k g; firm_is = list_firm true (opener Paren) (closer Paren) [] refl refl }
tuple_sound (x ∷ []) k g = record {
  tells = fixed (opener Paren ∷ []) refl (part (frees_tell (x ∷ []) k g).0 (fixed (comma ++ closer Paren ∷ []) refl ends));
  firm_is = firm_fixed (opener Paren ∷ []) refl;
}
tuple_sound (x ∷ y ∷ xs) k g =
    record { tells = args_tell (x ∷ y ∷ xs) k g; firm_is = list_firm true (opener Paren) (closer Paren) (expr_forms (x ∷ y ∷ xs)) refl refl }

pub tuple_expr : (xs : List ExprFacts) → Each ExprTells xs → ExprTells (expr_facts (Expr-F.Tuple xs))
tuple_expr xs k = record { go = λ n f g. deeper_sound (tuple_sound xs k g) }

pub array_expr : (xs : List ExprFacts) → Each ExprTells xs → ExprTells (expr_facts (Expr-F.Array xs))
array_expr xs k = record {
  go = λ n f g. deeper_sound (record {
    tells = list true (opener Bracket) (closer Bracket) (expr_forms xs) refl refl refl (λ ws. refl) (frees_tell xs k g);
    firm_is = list_firm true (opener Bracket) (closer Bracket) (expr_forms xs) refl refl;
  });
}

pub repeat_expr : (x : ExprFacts) (length : List Listed) → ExprTells x → ExprTells (expr_facts (Expr-F.Repeat x length))
repeat_expr x length k = record {
  go = λ n f g.
      let p = and_parts (placed x FREE && not (is_empty length)) (is_token_list length) g in
      let q = and_parts (placed x FREE) (not (is_empty length)) p.0 in
      deeper_sound (record {
        tells = fixed (opener Bracket ∷ []) refl (part (at_place x k FREE q.0).tells
            (fixed (semicolon ++ Blank ∷ []) refl (part (tokens_tell length p.1) (fixed (closer Bracket ∷ []) refl ends))));
        firm_is = firm_fixed (opener Bracket ∷ []) refl;
      });
}

-- ---- struct literals

fields_tell : (fields : List Facts) → Each FieldTells fields → all_good fields ≡ true → All Plain (forms fields) × All Firm (forms fields)
fields_tell [] k g = (tt, tt)
fields_tell (x ∷ xs) k g =
    let p = and_parts x.good (all_good xs) g in
    let s = k.0.go p.0 in
    let r = fields_tell xs k.1 p.1 in
    ((s.tells, r.0), (s.firm_is, r.1))

base_tells : (base : Option (Option ExprFacts)) → Given (Given ExprTells) base → base_placed base ≡ true → All Plain (base_form base) × All Firm (base_form base)
base_tells None k g = (tt, tt)
base_tells (Some None) k g = ((fixed (Operator (codes "..") ∷ []) refl ends, tt), (firm_fixed (Operator (codes "..") ∷ []) refl, tt))
base_tells (Some (Some x)) k g =
    ((fixed (Operator (codes "..") ∷ []) refl (part (at_place x k FREE g).tells ends), tt), (firm_fixed (Operator (codes "..") ∷ []) refl, tt))

pub struct_expr : (path : Path) (fields : List Facts) (base : Option (Option ExprFacts)) → Each FieldTells fields → Given (Given ExprTells) base
    → ExprTells (expr_facts (Expr-F.Expr::Struct path fields base))
struct_expr path fields base k l = record {
  go = λ n f g.
      let p = and_parts ((about_path path Code).good && all_good fields) (base_placed base) g in
      let q = and_parts (about_path path Code).good (all_good fields) p.0 in
      let r = fields_tell fields k q.1 in
      let z = base_tells base l p.1 in
      let es = forms fields ++ base_form base in
      deeper_sound (record {
        tells = part (path_tells Code path q.0) (braces_told (not (is_some base)) es (both_all Plain (forms fields) (base_form base) r.0 z.0)
            (first_of Calms es (calm_all es (both_all Firm (forms fields) (base_form base) r.1 z.1))));
        firm_is = firm_part (path_firm Code path q.0);
      });
}

-- ---- operators

-- an operand after its operator, and a target before one
abbrev pub OperandTells : Op × ExprFacts → Type 0
OperandTells x = ExprTells x.1

abbrev pub TargetTells : ExprFacts × Op → Type 0
TargetTells x = ExprTells x.0

op_tame : (o : Op) → tame (Operator (op_text o) ∷ []) ≡ true
op_tame op.Set = refl
op_tame _ = refl

operands_tell : (level : ℕ) (no_struct : Bool) (xs : List (Op × ExprFacts)) → Each OperandTells xs
    → operands_placed level no_struct xs ≡ true → Plain (operands_form xs)
operands_tell level no_struct [] k g = ends
operands_tell level no_struct (x ∷ more) k g =
    let p = and_parts ((op_level x.0 == level) && placed x.1 (operand_place level no_struct more)) (operands_placed level no_struct more) g in
    let q = and_parts (op_level x.0 == level) (placed x.1 (operand_place level no_struct more)) p.0 in
    brk (Soft false 1) (fixed (Operator (op_text x.0) ∷ []) (op_tame x.0) (fixed (Blank ∷ []) refl
    (part (at_place x.1 k.0 (operand_place level no_struct more) q.1).tells (operands_tell level no_struct more k.1 p.1))))

pub chain_expr : (x : ExprFacts) (rest : List (Op × ExprFacts)) → ExprTells x → Each OperandTells rest
    → ExprTells (expr_facts (Expr-F.Chain x rest))
chain_expr x rest k l = record {
  go = λ n f g.
      let level = level_of_chain rest in
      let place = before_op (suc level) n f (next_is_angle rest) in
      let p = and_parts (is_chain_level level && may_chain level rest && placed x place) (operands_placed level n rest) g in
      let s = at_place x k place (and_parts (is_chain_level level && may_chain level rest) (placed x place) p.0).1 in
      deeper_sound (record {
        tells = group false 4 (part s.tells (operands_tell level n rest l p.1)) ends;
        firm_is = firm_group false 4 (firm_part s.firm_is);
      });
}

types_tell : (xs : List Ty) → types_good (map about_type xs) ≡ true → Plain (types_form (map about_type xs))
types_tell [] g = ends
types_tell (x ∷ xs) g =
    let p = and_parts (good_at NoBounds (about_type x)) (types_good (map about_type xs)) g in
    fixed (Blank ∷ keyword (codes "as") ∷ Blank ∷ []) refl (part (type_tells_at NoBounds x p.0) (types_tell xs p.1))

pub cast_expr : (x : ExprFacts) (types : List Ty) → ExprTells x → ExprTells (expr_facts (Expr-F.Cast x types))
cast_expr x types k = record {
  go = λ n f g.
      let place = before_op 12 n f false in
      let p = and_parts (is_there types && placed x place) (types_good (map about_type types)) g in
      let s = at_place x k place (and_parts (is_there types) (placed x place) p.0).1 in
      deeper_sound (record { tells = part s.tells (types_tell types p.1); firm_is = firm_part s.firm_is });
}

prefix_tame : (p : Prefix) → tame (prefix_bits p) ≡ true
prefix_tame before.Neg = refl
prefix_tame _ = refl

prefix_firm : (p : Prefix) → firm_bits (prefix_bits p) false ≡ true
prefix_firm before.Neg = refl
prefix_firm _ = refl

prefixes_tell : {f : Form} (ps : List Prefix) → Plain f → Plain (prefixes_form ps f)
prefixes_tell [] t = t
prefixes_tell (p ∷ ps) t = fixed (prefix_bits p) (prefix_tame p) (prefixes_tell ps t)

prefixes_firm : {f : Form} (ps : List Prefix) → Firm f → Firm (prefixes_form ps f)
prefixes_firm [] c = c
prefixes_firm (p ∷ ps) c = firm_fixed (prefix_bits p) (prefix_firm p)

pub unary_expr : (ps : List Prefix) (x : ExprFacts) → ExprTells x → ExprTells (expr_facts (Expr-F.Unary ps x))
unary_expr ps x k = record {
  go = λ n f g.
      let p = and_parts (is_there ps && placed x (plain 12 n)) (not (is_prefix_lead x.lead)) g in
      let s = at_place x k (plain 12 n) (and_parts (is_there ps) (placed x (plain 12 n)) p.0).1 in
      deeper_sound (record { tells = prefixes_tell ps (part s.tells ends); firm_is = prefixes_firm ps (firm_part s.firm_is) });
}

dots_tell : {Next : List Word → Type 0} {f : Form} (inclusive : Bool) → Tells Next f → Tells Next (Piece (dots inclusive) f)
dots_tell true t = fixed (dots true) refl t
dots_tell false t = fixed (dots false) refl t

dots_firm : {f : Form} (inclusive : Bool) → Firm (Piece (dots inclusive) f)
dots_firm true = firm_fixed (dots true) refl
dots_firm false = firm_fixed (dots false) refl

range_start : {f : Form} (start : Option ExprFacts) (no_struct first : Bool) → Given ExprTells start → start_placed start no_struct first ≡ true → Sound f
    → Sound (end_form start f)
range_start None no_struct first k g t = t
range_start (Some x) no_struct first k g t =
    let s = at_place x k (before_op 2 no_struct first false) g in
    record { tells = part s.tells t.tells; firm_is = firm_part s.firm_is }

range_end : (end : Option ExprFacts) (inclusive no_struct : Bool) → Given ExprTells end → end_placed end inclusive no_struct ≡ true → Plain (end_form end Done)
range_end None inclusive no_struct k g = ends
range_end (Some x) inclusive no_struct k g =
    part (at_place x k (plain 2 no_struct) (and_parts (placed x (plain 2 no_struct)) (begins_free no_struct x) g).0).tells ends

pub range_expr : (start : Option ExprFacts) (inclusive : Bool) (end : Option ExprFacts) → Given ExprTells start → Given ExprTells end
    → ExprTells (expr_facts (Expr-F.Range start inclusive end))
range_expr start inclusive end k l = record {
  go = λ n f g.
      let p = and_parts (start_placed start n f) (end_placed end inclusive n) g in
      deeper_sound (range_start start n f k p.0 (record { tells = dots_tell inclusive (range_end end inclusive n l p.1); firm_is = dots_firm inclusive }));
}

targets_sound : {f : Form} (targets : List (ExprFacts × Op)) (no_struct first : Bool) → Each TargetTells targets
    → targets_placed targets no_struct first ≡ true → Sound f → Sound (targets_form targets f)
targets_sound [] no_struct first k g t = t
targets_sound (x ∷ more) no_struct first k g t =
    let place = before_op 1 no_struct first false in
    let p = and_parts ((op_level x.1 == 0) && placed x.0 place) (targets_placed more no_struct false) g in
    let s = at_place x.0 k.0 place (and_parts (op_level x.1 == 0) (placed x.0 place) p.0).1 in
    record {
      tells = part s.tells (fixed (Blank ∷ []) refl (fixed (Operator (op_text x.1) ∷ []) (op_tame x.1) (fixed (Blank ∷ []) refl
          (brk Never (targets_sound more no_struct false k.1 p.1 t).tells))));
      firm_is = firm_part s.firm_is;
    }

pub assign_expr : (targets : List (ExprFacts × Op)) (x : ExprFacts) → Each TargetTells targets → ExprTells x
    → ExprTells (expr_facts (Expr-F.Assign targets x))
assign_expr targets x k l = record {
  go = λ n f g.
      let p = and_parts (is_there targets && targets_placed targets n f) (placed x (plain 1 n)) g in
      let q = and_parts (is_there targets) (targets_placed targets n f) p.0 in
      let s = at_place x l (plain 1 n) p.1 in
      deeper_sound (targets_sound targets n f k q.1 (record { tells = part s.tells ends; firm_is = firm_part s.firm_is }));
}

grouped : {f : Form} (b : Bool) → Sound f → Sound (group_if b f)
grouped true s = record { tells = group true 4 s.tells ends; firm_is = firm_group true 4 s.firm_is }
grouped false s = s

pub postfix_expr : (x : ExprFacts) (steps : List StepFacts) → ExprTells x → Each StepTells steps → ExprTells (expr_facts (Expr-F.Postfix x steps))
postfix_expr x steps k l = record {
  go = λ n f g.
      let several = nat_le 2 (methods steps) in
      let place = before_op 14 n (f && not (first_step is_dotted steps)) false in
      let p = and_parts (is_there steps && are_steps steps && not (x.is_number && first_step is_tuple_index steps)) (placed x place) g in
      let q = and_parts (is_there steps && are_steps steps) (not (x.is_number && first_step is_tuple_index steps)) p.0 in
      let s = at_place x k place p.1 in
      deeper_sound (grouped several (record {
        tells = part s.tells (steps_tell several false steps l (and_parts (is_there steps) (are_steps steps) q.0).1);
        firm_is = firm_part s.firm_is;
      }));
}

-- ---- jumps

labelling : {Next : List Word → Type 0} {f : Form} (label : Option Lifetime) → Tells Next f → Tells Next (label_form label f)
labelling None t = t
labelling (Some l) t = fixed (Blank ∷ []) refl (part (lifetime_tells l) t)

operand_tells : (x : Option ExprFacts) (no_struct : Bool) → Given ExprTells x → operand_placed x no_struct ≡ true → Plain (operand_form x)
operand_tells None no_struct k g = ends
operand_tells (Some x) no_struct k g =
    fixed (Blank ∷ []) refl (part (at_place x k (plain 0 no_struct) (and_parts (placed x (plain 0 no_struct)) (begins_free no_struct x) g).0).tells ends)

pub continue_expr : (label : Option Lifetime) → ExprTells (expr_facts (Expr-F.Continue label))
continue_expr label = record {
  go = λ n f g. deeper_sound (record {
    tells = fixed (keyword (codes "continue") ∷ []) refl (labelling label ends);
    firm_is = firm_fixed (keyword (codes "continue") ∷ []) refl;
  });
}

pub return_expr : (x : Option ExprFacts) → Given ExprTells x → ExprTells (expr_facts (Expr-F.Return x))
return_expr x k = record {
  go = λ n f g. deeper_sound (record {
    tells = fixed (keyword (codes "return") ∷ []) refl (operand_tells x n k g);
    firm_is = firm_fixed (keyword (codes "return") ∷ []) refl;
  });
}

pub break_expr : (label : Option Lifetime) (x : Option ExprFacts) → Given ExprTells x → ExprTells (expr_facts (Expr-F.Break label x))
break_expr label x k = record {
  go = λ n f g. deeper_sound (record {
    tells = fixed (keyword (codes "break") ∷ []) refl (labelling label (operand_tells x n k (and_parts (operand_placed x n) (break_placed label x) g).0));
    firm_is = firm_fixed (keyword (codes "break") ∷ []) refl;
  });
}
