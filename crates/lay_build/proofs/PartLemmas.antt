-- Parts with their needs.
use Rattle.std.proofs.Common.{IfSome, ◌≡◌, ◌≤◌, ℕ, ◌+◌, Option, Some, None, Result, Ok, Err, sym, ap, subst, arith}
use Rattle.lay_form.specs.Depth.{least_depth}
use Rattle.lay_form.specs.Form.{Form}
use Rattle.lay_node.specs.declared.token.Name.{Name}
use Rattle.lay_node.specs.declared.types.Ty.{Ty}
use Rattle.lay_code.specs.Reading.{top}
use Rattle.lay_build_types.specs.Answers.{Gives, IsKept, IsPart, need_if}
use Rattle.lay_build_types.specs.Kinds.{form_of_type}
use Rattle.lay_build_types.specs.declared.built.BuildError.{BuildError}
use Rattle.lay_build_types.proofs.AnswerLemmas.{Is}
use Rattle.lay_build_types.proofs.PathLemmas.{KeptName}
use Rattle.lay_build_types.proofs.TypeLemmas.{KeptType}
use Rattle.lay_build.specs.Kinds.{IsParam, form_of_param}
use Rattle.lay_build.specs.Nodes as node
use Rattle.lay_build.specs.declared.kinds.NamedType.{NamedType}
use Rattle.lay_build.proofs.ItemLemmas.{param_made, param_need}
use Rattle.lay_build_exprs.proofs.JoinLemmas.{Both}

-- What is kept needs no more than files may, whether it is there or not.
pub need_within : {N : Type 0} (form : N → Form) (Holds : N → Type 0) (built : Option N) → IfSome built (IsKept form Holds)
    → need_if form built ≤ top
need_within form Holds None kept = omega arith
need_within form Holds (Some node) kept = kept.within

-- A node that is given, and a need.
pub both_is : {N : Type 0} (node : N) (need : ℕ) (made : Result N BuildError) (result : Result (N × ℕ) BuildError)
    → Gives made (λ x. x ≡ node) → Both made (Ok need) result → Is node need result
both_is {N} node need (Ok x) result is both =
    subst (Is node need) (sym both) (ap (λ (y : N). (y, need)) is)
both_is {N} node need (Err why) result is both = subst (Is node need) (sym both) is

-- A name with a type, which needs one more than the type.
abbrev pub param_part : Name → Ty × ℕ → NamedType × ℕ
param_part n ty = (node.param n ty.0, ty.1 + 1)

pub param_is : (n : Name) (ty : Ty) → KeptName n → KeptType ty
    → IsPart form_of_param IsParam (param_part n (ty, least_depth (form_of_type ty)))
param_is n ty name of = let x = node.param n ty in record { made = param_made x name of; need = sym (param_need x) }
