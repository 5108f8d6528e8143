-- What it means that a text is parsed as a file or as the body of a module.
use Rattle.std.specs.Prelude.{ℕ, ◌≡◌, Bool, true, false, List, [], ◌∷◌, ◌++◌, None, Result, Ok, Err}
use Rattle.lay_token.specs.Lexes.{Lexes}
use Rattle.lay_token.specs.declared.token.Token.{Token}
use Rattle.lay_form.specs.Spelled.{Spells}
use Rattle.lay_lex.specs.Window.{UpTo}
use Rattle.lay_lex.specs.declared.window.Stop.TheVariants.{Closed}
use Rattle.lay_code.specs.Reading.{SpellsFile}
use Rattle.lay_code.specs.nodes.File.{form_of_file, is_normal}
use Rattle.lay_code.specs.declared.file.File.{File}
use Rattle.lay_read_tokens.specs.declared.stop.ReadNone.{ReadNone}
use Rattle.lay_files.specs.windows.Windows.{IsBrace}

pub record IsEmpty (file : File) : Type 0 where
  pub shebang : file.shebang ≡ None
  pub attrs : file.attrs ≡ []
  pub items : file.items ≡ []

-- The tokens spell what is in the file, and any tokens may follow them.
pub record Stands (depth : ℕ) (file : File) (tokens : List Token) : Type 0 where
  pub spelled : (more : List Token) → Spells (form_of_file file) depth (tokens ++ more) more
  pub normal : is_normal file ≡ true
  pub shebang : file.shebang ≡ None

-- From the start on the text lexes to these tokens and no others. If the flag is set, they reach up
-- to the end instead, with a closing brace after them.
abbrev pub Ends : List ℕ → ℕ → ℕ → List Token → Bool → Type 0
Ends text start end tokens false = Lexes text start tokens
Ends text start end tokens true = (brace : Token) × IsBrace Closed brace × UpTo text start end (tokens ++ brace ∷ [])

-- ---- answers

abbrev pub BodyAs : ℕ → List ℕ → ℕ → ℕ → File → Result Bool ReadNone → Type 0
BodyAs depth text start end file (Ok closed) = (tokens : List Token) × Stands depth file tokens × Ends text start end tokens closed
BodyAs depth text start end file (Err none) = Unit {0}

-- The text lexes to tokens that spell this file, which has no shebang. If there is no file, this
-- says nothing.
abbrev pub FileAs : ℕ → List ℕ → ℕ → Result File ReadNone → Type 0
FileAs depth text start (Ok file) = (file.shebang ≡ None)
    × ((tokens : List Token) × Lexes text start tokens × SpellsFile depth file tokens)
FileAs depth text start (Err none) = Unit {0}
