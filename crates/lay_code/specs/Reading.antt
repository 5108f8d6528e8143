-- What it means that bytes parse to a file, and that they are refused.
use Rattle.std.specs.Prelude.{ℕ, ◌≡◌, ◌≤◌, ◌<◌, List, [], ◌∷◌, length, drop, Ok, Err}
use Rattle.lay_token.specs.Delimiters.{Balanced, UnbalancedAt}
use Rattle.lay_token.specs.Lexes.{Lexes, NoTokenAt}
use Rattle.lay_token.specs.Source.{Source, source}
use Rattle.lay_text.specs.declared.refusal.Refusal.{Refusal}
use Rattle.lay_text.specs.declared.refusal.Refusal.TheVariants.{NotUtf8, NoToken, Unbalanced, NoItem}
use Rattle.lay_token.specs.declared.token.Token.{Token}
use Rattle.lay_code.specs.nodes.File.{form_of_file}
use Rattle.lay_form.specs.Spelled.{Spells}
use Rattle.lay_code.specs.Written.{Written}
use Rattle.lay_code.specs.declared.file.File.{File}

-- the depth at which the items of a file stand
abbrev pub top : ℕ
top = 256

-- ---- at a depth

-- At this depth the tokens spell the inner attributes and the items of the file, and no token is
-- left. The file is one that can be written.
abbrev pub SpellsFile : ℕ → File → List Token → Type 0
SpellsFile depth file tokens = Written file × Spells (form_of_file file) depth tokens []

-- The first `count` tokens spell the inner attributes and the items of a file that can be written.
-- The tokens after them don't matter: each attribute and each item ends in a `;`, a delimiter or a
-- comment.
abbrev pub SpellsFront : ℕ → ℕ → List Token → Type 0
SpellsFront depth count tokens =
    (count ≤ length tokens) × ((file : File) × Written file × Spells (form_of_file file) depth tokens (drop count tokens))

-- The tokens spell no file. Their longest prefix of inner attributes and then items ends before the
-- token at this position.
pub record NoItemAt (depth : ℕ) (tokens : List Token) (at : ℕ) : Type 0 where
  pub count : ℕ
  pub token : Token
  pub rest : List Token
  pub behind : drop count tokens ≡ token ∷ rest
  pub place : at ≡ token.at
  pub front : SpellsFront depth count tokens
  pub longest : (more : ℕ) → count < more → SpellsFront depth more tokens → ⊥

-- The bytes are a text that lexes to balanced tokens, and after the shebang of the file the tokens
-- spell the file.
pub record ReadsAt (depth : ℕ) (bytes : List ℕ) (file : File) : Type 0 where
  pub from : Source
  pub tokens : List Token
  pub text : source bytes ≡ Ok from
  pub shebang : from.shebang ≡ file.shebang
  pub lexes : Lexes from.text from.start tokens
  pub balanced : Balanced tokens
  pub spells : SpellsFile depth file tokens

-- Why the bytes are refused, and at which position. They are not UTF-8, or no token begins there,
-- or the delimiters are unbalanced there, or the longest prefix of inner attributes and items ends
-- there, before the end.
abbrev pub IsRefusedAt : ℕ → List ℕ → Refusal → Type 0
IsRefusedAt depth bytes (NotUtf8 at) = source bytes ≡ Err (NotUtf8 at)
IsRefusedAt depth bytes (NoToken at) = (from : Source) × (source bytes ≡ Ok from) × NoTokenAt from.text from.start at
IsRefusedAt depth bytes (Unbalanced at) = (from : Source) × (tokens : List Token)
    × (source bytes ≡ Ok from) × Lexes from.text from.start tokens × UnbalancedAt tokens at
IsRefusedAt depth bytes (NoItem at) = (from : Source) × (tokens : List Token)
    × (source bytes ≡ Ok from) × Lexes from.text from.start tokens × Balanced tokens × NoItemAt depth tokens at

-- ---- at the depth of files

-- The bytes parse to the file.
abbrev pub Reads : List ℕ → File → Type 0
Reads bytes file = ReadsAt top bytes file

-- The bytes are refused.
abbrev pub IsRefused : List ℕ → Refusal → Type 0
IsRefused bytes refusal = IsRefusedAt top bytes refusal
