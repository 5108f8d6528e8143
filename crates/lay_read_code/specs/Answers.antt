-- What the parsers of files and of items answer.
use Rattle.std.specs.Prelude.{ℕ, zero, suc, nat_le, if◌then◌else◌, ◌≡◌, Bool, true, false, List, Option, Some, None, Result, Ok, Err}
use Rattle.lay_text.specs.declared.refusal.FormatError.{FormatError}
use Rattle.lay_text.specs.declared.refusal.FormatError.TheVariants as format
use Rattle.lay_text.specs.declared.refusal.NoMemory.{NoMemory}
use Rattle.lay_text.specs.declared.refusal.Refusal.TheVariants.{NoItem}
use Rattle.lay_token.specs.declared.token.Token.{Token}
use Rattle.lay_node.specs.Ahead.{Tokens}
use Rattle.lay_node.specs.reader.Loops.{Got, Read, ◌>>=◌}
use Rattle.lay_code.specs.Reading.{NoItemAt, SpellsFile}
use Rattle.lay_code.specs.reader.Within.{ExprWithin}
use Rattle.lay_code.specs.declared.file.File.{File}
use Rattle.lay_code.specs.declared.item.ItemKind.{ItemKind}
use Rattle.lay_code.specs.declared.item.ItemKind.TheVariants as item
use Rattle.lay_read_tokens.specs.declared.stop.ReadNone.{ReadNone}
use Rattle.lay_read_tokens.specs.declared.stop.ReadNone.TheVariants as stop
use Rattle.lay_read_shared.specs.Code.{code_within}

-- The nodes that were parsed, and the tokens that are left, are those of this run. Memory may run
-- out.
abbrev pub IsRun : {A : Type 0} → A × Tokens → Result A NoMemory → Tokens → Type 0
IsRun run (Ok found) left = run ≡ (found, left)
IsRun run (Err none) left = Unit {0}

-- The next node was parsed; or there is none, and the cursor stays. Memory may run out.
abbrev pub IsNext : {A : Type 0} → Got A → Result (Option A) NoMemory → Tokens → Tokens → Type 0
IsNext got (Ok (Some a)) ahead left = got ≡ Some (a, left)
IsNext got (Ok None) ahead left = (got ≡ None) × (left ≡ ahead)
IsNext got (Err none) ahead left = Unit {0}

-- What the parser of a file answers at a depth. Memory may run out.
abbrev pub FileAs : ℕ → List Token → Option (List ℕ) → Result File FormatError → Type 0
FileAs depth tokens shebang (Ok file) = (file.shebang ≡ shebang) × SpellsFile depth file tokens
FileAs depth tokens shebang (Err (format.Refused (NoItem at))) = NoItemAt depth tokens at
FileAs depth tokens shebang (Err (format.Refused refusal)) = ⊥
FileAs depth tokens shebang (Err format.NoMemory) = Unit {0}

-- An item has a head unless it is a macro call or declares a macro.
abbrev pub has_head : ItemKind → Bool
has_head (item.MacroRules name rules) = false
has_head (item.Call call) = false
has_head _ = true
