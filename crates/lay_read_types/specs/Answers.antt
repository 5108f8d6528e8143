-- What the parsers of types require of the functions that they call, and what they answer.
use Rattle.std.specs.Prelude.{ℕ, ◌≤◌, true, false, if◌then◌else◌, [], ◌∷◌, Option, Some, None, Result, IfOk}
use Rattle.std.specs.declared.alloc.Global.{Global}
use denote.Ref.{MutBor}
use Rattle.lay_node.specs.Ahead.{Tokens}
use Rattle.lay_node.specs.reader.Loops.{Read}
use Rattle.lay_node.specs.reader.Types.{Within, within, named_segments, paren_type, pointer_type, reference_type, bracket_type, bounds_type, begins_call, call_type, path_type}
use Rattle.lay_node.specs.declared.token.Name.{Name}
use Rattle.lay_node.specs.declared.token.Word.{Word}
use Rattle.lay_node.specs.declared.types.Args.{Args}
use Rattle.lay_node.specs.declared.types.Constraint.{Constraint}
use Rattle.lay_node.specs.declared.types.Ty.{Ty}
use Rattle.lay_node.specs.declared.types.Ty.TheVariants as ty
use Rattle.lay_node.specs.declared.types.TypePlace.{TypePlace}
use Rattle.lay_read_tokens.specs.Answers.{IsFound}
use Rattle.lay_read_tokens.specs.declared.found.Found.{Found}
use Rattle.lay_read_tokens.specs.declared.stop.ReadNone.{ReadNone}
use Rattle.lay_read_parts.specs.declared.leads.Lead.{Lead}
use Rattle.lay_read_parts.specs.declared.leads.Lead.TheVariants as lead

-- These functions parse types, and the constraint of a name, at this depth.
pub record AreDeeper (depth : ℕ) (may_read : Global → MutBor Tokens → TypePlace → ℕ → Type 0)
    (reads : Global → MutBor Tokens → TypePlace → ℕ → Result (Found Ty) ReadNone → MutBor Tokens → Type 0)
    (may_ask : Global → MutBor Tokens → ℕ → Type 0)
    (asks : Global → MutBor Tokens → ℕ → Result (Found Constraint) ReadNone → MutBor Tokens → Type 0) : Type 0 where
  pub readable : (alloc : Global) (old : MutBor Tokens) (place : TypePlace) → may_read alloc old place depth
  pub read : (alloc : Global) (old new : MutBor Tokens) (place : TypePlace) (r : Result (Found Ty) ReadNone)
      → reads alloc old place depth r new → IsFound ((within depth).types place old.now) r new.now
  pub within_read : (alloc : Global) (old new : MutBor Tokens) (place : TypePlace) (r : Result (Found Ty) ReadNone)
      → reads alloc old place depth r new → IfOk r (λ found. found.need ≤ depth)
  pub askable : (alloc : Global) (old : MutBor Tokens) → may_ask alloc old depth
  pub asked : (alloc : Global) (old new : MutBor Tokens) (r : Result (Found Constraint) ReadNone)
      → asks alloc old depth r new → IsFound ((within depth).constraints old.now) r new.now
  pub within_asked : (alloc : Global) (old new : MutBor Tokens) (r : Result (Found Constraint) ReadNone)
      → asks alloc old depth r new → IfOk r (λ found. found.need ≤ depth)

-- ---- types

-- a type after its first token
abbrev pub marked : Within → TypePlace → Lead → Tokens → Read Ty
marked deeper place lead.Paren ts = paren_type deeper ts
marked deeper place lead.Never ts = Some ((ty.Never, 1), ts)
marked deeper place lead.Infer ts = Some ((ty.Infer, 1), ts)
marked deeper place lead.Pointer ts = pointer_type deeper ts
marked deeper place lead.Reference ts = reference_type deeper ts
marked deeper place lead.Bracket ts = bracket_type deeper ts
marked deeper place lead.Impl ts = bounds_type deeper false place ts
marked deeper place lead.Dyn ts = bounds_type deeper true place ts
marked deeper place lead.Path ts = None
marked deeper place lead.Func ts = None

-- a name with its generic arguments, if the word is a name and no arguments in parentheses stand
-- after it
abbrev pub named_segment : Word → Args → Option (Name × Args)
named_segment word args = named_segments ((word, args) ∷ [])

abbrev pub path_or_call : Within → Tokens → Read Ty
path_or_call deeper ts = if begins_call ts then call_type ts else path_type deeper ts
