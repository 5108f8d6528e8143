-- One step of a reader, from what the readers within it give.
use Rattle.std.proofs.Common.{◌≡◌, ℕ, suc, ◌-◌, ◌<◌, true, false, refl, codes, arith, is_some, option_map, Result, List, Option, Some, None, sym, ap, ◌∙◌}
use Rattle.lay_node.specs.Ahead.{Tokens, first, tail, is_mark}
use Rattle.lay_node.specs.Begins.{lead_at}
use Rattle.lay_node.specs.nodes.Types.{ArgsFacts, about_args, about_type}
use Rattle.lay_node.specs.reader.Loops.{Read, elements}
use Rattle.lay_node.specs.reader.Types.{Within, within, angle, one_arg, type_at, type_by, constraint_by}
use Rattle.lay_node.specs.declared.types.Arg.{Arg}
use Rattle.lay_node.specs.declared.types.Args.TheVariants as args
use Rattle.lay_node.specs.declared.types.Ty.{Ty}
use Rattle.lay_node.specs.declared.types.TypePlace.{TypePlace}
use Rattle.lay_node.proofs.nodes.TypesLaws.{args_none_is, args_angle_is, args_round_is}
use Rattle.lay_read_tokens.specs.Answers.{IsFound}
use Rattle.lay_read_tokens.specs.declared.found.Found.{Found}
use Rattle.lay_read_tokens.specs.declared.stop.ReadNone.{ReadNone}
use Rattle.lay_read_parts.specs.Answers.{gathered}
use Rattle.lay_read_parts.proofs.Steps.{gathered_lost}

-- ---- generic arguments

pub round_none : (about_args args.None).round ≡ false
round_none = ap (λ (a : ArgsFacts). a.round) args_none_is

pub round_angle : (xs : List Arg) → (about_args (args.Angle xs)).round ≡ false
round_angle xs = ap (λ (a : ArgsFacts). a.round) (args_angle_is xs)

pub round_round : (inputs : List Ty) (output : Option Ty) → (about_args (args.Round inputs output)).round ≡ true
round_round inputs output = ap (λ (a : ArgsFacts). a.round) (args_round_is inputs output)

pub returns_none : (about_args args.None).returns ≡ false
returns_none = ap (λ (a : ArgsFacts). a.returns) args_none_is

pub returns_angle : (xs : List Arg) → (about_args (args.Angle xs)).returns ≡ false
returns_angle xs = ap (λ (a : ArgsFacts). a.returns) (args_angle_is xs)

some_about : (output : Option Ty) → is_some (option_map about_type output) ≡ is_some output
some_about None = refl
some_about (Some x) = refl

pub returns_round : (inputs : List Ty) (output : Option Ty) → (about_args (args.Round inputs output)).returns ≡ is_some output
returns_round inputs output = ap (λ (a : ArgsFacts). a.returns) (args_round_is inputs output) ∙ some_about output

-- ---- within a depth

-- a depth that is not 0 as one more than another
pub above_zero : {X : Type 0} (f : ℕ → X) (n : ℕ) → 0 < n → f n ≡ f (suc (n - 1))
above_zero f n some = let e : n ≡ suc (n - 1) = omega arith in ap f e

pub type_none : (place : TypePlace) (n : ℕ) (ts : Tokens) → n ≡ 0 → type_at place n ts ≡ None
unfolding within
type_none place n ts e = ap (λ (k : ℕ). type_at place k ts) e

pub asked_none : (n : ℕ) (ts : Tokens) → n ≡ 0 → (within n).constraints ts ≡ None
unfolding within
asked_none n ts e = ap (λ (k : ℕ). (within k).constraints ts) e

pub type_deeper : (place : TypePlace) (n : ℕ) (ts : Tokens) → 0 < n
    → type_at place n ts ≡ type_by (within (n - 1)) place (lead_at ts) ts
unfolding within
type_deeper place n ts some = above_zero (λ (k : ℕ). type_at place k ts) n some

pub asked_deeper : (n : ℕ) (ts : Tokens) → 0 < n → (within n).constraints ts ≡ constraint_by (within (n - 1)) ts
unfolding within
asked_deeper n ts some = above_zero (λ (k : ℕ). (within k).constraints ts) n some

pub found_by : {A : Type 0} (a b : Read A) (r : Result (Found A) ReadNone) (left : Tokens) → a ≡ b → IsFound b r left
    → IsFound a r left
found_by a b r left e h = rw e h

pub angle_lost : (w : Within) (ts mid : Tokens) → first (is_mark (codes "<")) ts ≡ true → mid ≡ tail ts
    → gathered (elements (is_mark (codes ">")) (one_arg w) mid) ≡ None → angle w ts ≡ None
unfolding angle
angle_lost w ts mid h e n =
    let here : gathered (elements (is_mark (codes ">")) (one_arg w) (tail ts)) ≡ None =
    ap (λ us. gathered (elements (is_mark (codes ">")) (one_arg w) us)) (sym e) ∙ n in
    rw h (gathered_lost (elements (is_mark (codes ">")) (one_arg w) (tail ts)) _ here)

-- ---- paths
