-- Expressions that hold blocks, and closures, tell their units, kind by kind, given that what is within them does.
use Rattle.std.proofs.Common.{◌≡◌, ℕ, Bool, true, false, not, ◌&&◌, List, [], ◌∷◌, codes, refl, map, Option, Some, None}
use Rattle.std.specs.List.{list_all}
use Rattle.std.proofs.lemmas.Bool.{and_parts}
use Rattle.lay_form.specs.Form.{Bit, Blank, Operator, Braces, Bare, Unseen, Marked, Never, Form, Done, Piece, Group, Part, keyword}
use Rattle.lay_node.specs.nodes.Attr.{are_attrs}
use Rattle.lay_node.specs.nodes.Functions.{may_be_type}
use Rattle.lay_node.specs.nodes.Patterns.{about_pat, pat_good}
use Rattle.lay_node.specs.nodes.Types.{about_type, colon, good_at, is_there}
use Rattle.lay_node.specs.declared.attr.Attr.{Attr}
use Rattle.lay_node.specs.declared.patterns.Pat.{Pat}
use Rattle.lay_node.specs.declared.patterns.PatPlace.TheVariants.{Alternatives, Single}
use Rattle.lay_node.specs.declared.token.Lifetime.{Lifetime}
use Rattle.lay_node.specs.declared.types.Ty.{Ty}
use Rattle.lay_node.specs.declared.types.TypePlace.TheVariants.{NoBounds}
use Rattle.lay_code.specs.nodes.Bodies.{sheds}
use Rattle.lay_code.specs.nodes.CodeFacts.{ArmFacts, BlockFacts, BranchFacts, ConditionFacts}
use Rattle.lay_code.specs.nodes.Exprs.{ExprFacts, arms_good, bar, body_braces, branches_form, branches_good, closure_body, closure_head, closure_param, else_branch_form, expr_facts, is_closure_param, labelled, may_be_good, more_branches, placed}
use Rattle.lay_code.specs.nodes.Places.{plain}
use Rattle.lay_code.specs.declared.blocks.Stmt.TheOpen.{Expr-F}
use Rattle.lay_code.specs.declared.exprs.ClosureParam.{ClosureParam}
use Rattle.lay_map.proofs.RowRules.{closed_body}
use Rattle.lay_map.proofs.Rules.{All, Plain, brk, ends, firm_fixed, firm_group, firm_part, fixed, group, list, part}
use Rattle.lay_map.proofs.nodes.ArmKinds.{ArmTells, match_body_tells}
use Rattle.lay_map.proofs.nodes.Attrs.{firm_when, whenever}
use Rattle.lay_map.proofs.nodes.BlockKinds.{BlockTells, BranchTells, ConditionTells}
use Rattle.lay_map.proofs.nodes.ExprParts.{ExprTells, Sound, at_place, deeper_sound, list_firm}
use Rattle.lay_map.proofs.nodes.Functions.{self_type_tells}
use Rattle.lay_map.proofs.nodes.Patterns.{pat_tells}
use Rattle.lay_map.proofs.nodes.TypeArgs.{Each, Given}
use Rattle.lay_map.proofs.nodes.TypeParts.{lifetime_firm, lifetime_tells, param_attrs_tell}
use Rattle.lay_map.proofs.nodes.Types.{type_tells_at}

-- ---- words and labels

labelling : {f : Form} (label : Option Lifetime) → Sound f → Sound (labelled label f)
labelling None s = s
labelling (Some l) s =
    record { tells = part (lifetime_tells l) (fixed colon refl (part s.tells ends)); firm_is = firm_part (lifetime_firm l) }

abbrev word_bits : List ℕ → List Bit
word_bits w = keyword w ∷ []

abbrev head_bits : List ℕ → List Bit
head_bits w = keyword w ∷ Blank ∷ []

-- a block, after what stands before it
last_block : (x : BlockFacts) → BlockTells x → x.good ≡ true → Plain (Part (x.form true) Done)
last_block x k g = part (k.go true g) ends

-- ---- blocks

pub block_expr : (label : Option Lifetime) (x : BlockFacts) → BlockTells x → ExprTells (expr_facts (Expr-F.Block label x))
block_expr label x k = record { go = λ n f g. deeper_sound (labelling label (record { tells = k.go false g; firm_is = k.firm_is g })) }

pub unsafe_expr : (x : BlockFacts) → BlockTells x → ExprTells (expr_facts (Expr-F.Unsafe x))
unsafe_expr x k = record {
  go = λ n f g. deeper_sound (record {
    tells = fixed (word_bits (codes "unsafe")) refl (part (k.on_line g) ends);
    firm_is = firm_fixed (word_bits (codes "unsafe")) refl;
  });
}

pub const_block_expr : (x : BlockFacts) → BlockTells x → ExprTells (expr_facts (Expr-F.ConstBlock x))
const_block_expr x k = record {
  go = λ n f g. deeper_sound (record {
    tells = fixed (word_bits (codes "const")) refl (part (k.on_line g) ends);
    firm_is = firm_fixed (word_bits (codes "const")) refl;
  });
}

pub async_expr : (moves : Bool) (x : BlockFacts) → BlockTells x → ExprTells (expr_facts (Expr-F.Async moves x))
async_expr moves x k = record {
  go = λ n f g. deeper_sound (record {
    tells = fixed (word_bits (codes "async")) refl (whenever moves (Blank ∷ keyword (codes "move") ∷ []) refl (last_block x k g));
    firm_is = firm_fixed (word_bits (codes "async")) refl;
  });
}

pub loop_expr : (label : Option Lifetime) (x : BlockFacts) → BlockTells x → ExprTells (expr_facts (Expr-F.Loop label x))
loop_expr label x k = record {
  go = λ n f g. deeper_sound (labelling label (record {
    tells = fixed (word_bits (codes "loop")) refl (last_block x k g);
    firm_is = firm_fixed (word_bits (codes "loop")) refl;
  }));
}

-- ---- loops with a head, and `match`

pub while_expr : (label : Option Lifetime) (x : ConditionFacts) (y : BlockFacts) → ConditionTells x → BlockTells y
    → ExprTells (expr_facts (Expr-F.While label x y))
while_expr label x y k l = record {
  go = λ n f g.
      let p = and_parts x.good y.good g in
      deeper_sound (labelling label (record {
        tells = group false 0 (fixed (head_bits (codes "while")) refl (part (k.go p.0) ends)) (last_block y l p.1);
        firm_is = firm_group false 0 (firm_fixed (head_bits (codes "while")) refl);
      }));
}

pub for_expr : (label : Option Lifetime) (pat : Pat) (x : ExprFacts) (y : BlockFacts) → ExprTells x → BlockTells y
    → ExprTells (expr_facts (Expr-F.For label pat x y))
for_expr label pat x y k l = record {
  go = λ n f g.
      let p = and_parts (pat_good Alternatives (about_pat pat) && placed x (plain 0 true)) y.good g in
      let q = and_parts (pat_good Alternatives (about_pat pat)) (placed x (plain 0 true)) p.0 in
      deeper_sound (labelling label (record {
        tells = group false 0 (fixed (head_bits (codes "for")) refl (part (pat_tells Alternatives pat q.0)
            (fixed (Blank ∷ keyword (codes "in") ∷ Blank ∷ []) refl (part (at_place x k (plain 0 true) q.1).tells ends)))) (last_block y l p.1);
        firm_is = firm_group false 0 (firm_fixed (head_bits (codes "for")) refl);
      }));
}

pub match_expr : (x : ExprFacts) (attrs : List Attr) (arms : List ArmFacts) → ExprTells x → Each ArmTells arms
    → ExprTells (expr_facts (Expr-F.Match x attrs arms))
match_expr x attrs arms k l = record {
  go = λ n f g.
      let p = and_parts (placed x (plain 0 true) && are_attrs true attrs) (arms_good arms) g in
      let q = and_parts (placed x (plain 0 true)) (are_attrs true attrs) p.0 in
      deeper_sound (record {
        tells = group false 0 (fixed (head_bits (codes "match")) refl (part (at_place x k (plain 0 true) q.0).tells ends))
            (match_body_tells attrs arms l q.1 p.1);
        firm_is = firm_group false 0 (firm_fixed (head_bits (codes "match")) refl);
      });
}

-- ---- branches

else_tells : (otherwise : Option BlockFacts) → Given BlockTells otherwise → may_be_good otherwise ≡ true → Plain (else_branch_form otherwise)
else_tells None k g = ends
else_tells (Some b) k g = fixed (Blank ∷ keyword (codes "else") ∷ []) refl (part (k.on_line g) ends)

branch_then : {f : Form} (x : BranchFacts) → BranchTells x → x.good ≡ true → Plain f
    → Plain (Group false 0 (Piece (head_bits (codes "if")) (Part x.condition Done)) (Part x.soft f))
branch_then x k g t = group false 0 (fixed (head_bits (codes "if")) refl (part (k.condition g) ends)) (part (k.on_line g) t)

more_branches_tell : {f : Form} (branches : List BranchFacts) → Each BranchTells branches → branches_good branches ≡ true → Plain f
    → Plain (more_branches branches f)
more_branches_tell [] k g t = t
more_branches_tell (x ∷ more) k g t =
    let p = and_parts x.good (branches_good more) g in
    fixed (Blank ∷ keyword (codes "else") ∷ Blank ∷ []) refl (branch_then x k.0 p.0 (more_branches_tell more k.1 p.1 t))

branches_sound : {f : Form} (branches : List BranchFacts) → Each BranchTells branches → is_there branches ≡ true → branches_good branches ≡ true → Plain f
    → Sound (branches_form branches f)
branches_sound [] k h g t = absurd (cc h)
branches_sound (x ∷ more) k h g t =
    let p = and_parts x.good (branches_good more) g in
    record {
      tells = branch_then x k.0 p.0 (more_branches_tell more k.1 p.1 t);
      firm_is = firm_group false 0 (firm_fixed (head_bits (codes "if")) refl);
    }

pub if_expr : (branches : List BranchFacts) (otherwise : Option BlockFacts) → Each BranchTells branches → Given BlockTells otherwise
    → ExprTells (expr_facts (Expr-F.If branches otherwise))
if_expr branches otherwise k l = record {
  go = λ n f g.
      let p = and_parts (is_there branches && branches_good branches) (may_be_good otherwise) g in
      let q = and_parts (is_there branches) (branches_good branches) p.0 in
      deeper_sound (branches_sound branches k q.0 q.1 (else_tells otherwise l p.1));
}

-- ---- closures

param_tells : (x : ClosureParam) → is_closure_param x ≡ true → Plain (closure_param x)
param_tells x g =
    let p = and_parts (are_attrs false x.attrs && pat_good Single (about_pat x.pat)) (may_be_type x.ty) g in
    let q = and_parts (are_attrs false x.attrs) (pat_good Single (about_pat x.pat)) p.0 in
    param_attrs_tell x.attrs q.0 (part (pat_tells Single x.pat q.1) (part (self_type_tells x.ty p.1) ends))

params_tell : (xs : List ClosureParam) → list_all is_closure_param xs ≡ true → All Plain (map closure_param xs)
params_tell [] g = tt
params_tell (x ∷ xs) g =
    let p = and_parts (is_closure_param x) (list_all is_closure_param xs) g in
    (param_tells x p.0, params_tell xs p.1)

head_sound : {f : Form} (is_async moves : Bool) (xs : List ClosureParam) → list_all is_closure_param xs ≡ true → Plain f
    → Sound (closure_head is_async moves xs f)
head_sound is_async moves xs g t = record {
  tells = whenever is_async (head_bits (codes "async")) refl (whenever moves (head_bits (codes "move")) refl
      (part (list true bar bar (map closure_param xs) refl refl refl (λ ws. refl) (params_tell xs g)) t));
  firm_is = firm_when is_async (head_bits (codes "async")) refl (firm_when moves (head_bits (codes "move")) refl
      (firm_part (list_firm true bar bar (map closure_param xs) refl refl)));
}

body_tells : {f : Form} (marks : Braces) → Sound f → Plain (closure_body marks f)
body_tells Marked s = brk Never (closed_body Marked s.tells s.firm_is)
body_tells Bare s = closed_body Bare s.tells s.firm_is
body_tells Unseen s = closed_body Unseen s.tells s.firm_is

pub closure_expr : (is_async moves : Bool) (xs : List ClosureParam) (x : ExprFacts) → ExprTells x
    → ExprTells (expr_facts (Expr-F.Closure is_async moves xs x))
closure_expr is_async moves xs x k = record {
  go = λ n f g.
      let p = and_parts (list_all is_closure_param xs && placed x (plain 0 n)) (not (sheds x.kind n)) g in
      let q = and_parts (list_all is_closure_param xs) (placed x (plain 0 n)) p.0 in
      deeper_sound (head_sound is_async moves xs q.0 (fixed (Blank ∷ []) refl (body_tells (body_braces x) (at_place x k (plain 0 n) q.1))));
}

pub typed_closure_expr : (is_async moves : Bool) (xs : List ClosureParam) (output : Ty) (x : BlockFacts) → BlockTells x
    → ExprTells (expr_facts (Expr-F.TypedClosure is_async moves xs output x))
typed_closure_expr is_async moves xs output x k = record {
  go = λ n f g.
      let p = and_parts (list_all is_closure_param xs && good_at NoBounds (about_type output)) x.good g in
      let q = and_parts (list_all is_closure_param xs) (good_at NoBounds (about_type output)) p.0 in
      deeper_sound (head_sound is_async moves xs q.0
      (fixed (Blank ∷ Operator (codes "->") ∷ Blank ∷ []) refl (part (type_tells_at NoBounds output q.1) (last_block x k p.1))));
}
