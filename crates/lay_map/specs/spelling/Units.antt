-- The units of a spelling. Each token that the layout keeps is a unit, and so are the tokens of one
-- documentation together. Tokens that a spelling may lack, or that it has without their being laid
-- out, are in no unit.
use Rattle.std.specs.Prelude.{ℕ, zero, suc, ◌-◌, ◌≡◌, Bool, List, [], ◌∷◌, ◌++◌, map, length, take}
use Rattle.lay_piece.specs.declared.kind.Kind.{Kind}
use Rattle.lay_piece.specs.declared.kind.Kind.TheVariants.{Punct}
use Rattle.lay_token.specs.declared.token.Token.{Token}
use Rattle.lay_form.specs.Form.{Bit, Blank, Fixed, Operator, Semicolons, Form, Done, Piece, Leaf, Listed, ListedDoc, Brk, LastComma, Group, Part, Deeper, Optional, Docs, Body}
use Rattle.lay_form.specs.Spelled.{AreBits, cost, Spells}

-- what a unit says: the kind and the text of a token, or documentation
pub data Word : Type 0 where
  Told : Kind → List ℕ → Word
  -- a doc comment in a token list, on a line or in a block; the flag says that it is an inner one
  Comment : Bool → List ℕ → Word
  -- documentation of an item or of a part, in any spelling
  Documented : Bool → List ℕ → Word

-- a word, and the tokens that say it
pub record Unit : Type 0 where
  pub word : Word
  pub tokens : List Token

-- one token
abbrev pub kept : Token → Unit
kept t = record { word = Told t.kind t.text; tokens = t ∷ [] }

-- the tokens before those that are left
abbrev pub spent : List Token → List Token → List Token
spent ts rest = take (length ts - length rest) ts

-- the first token as a unit, if there is one
abbrev pub first_unit : List Token → List Unit
first_unit [] = []
first_unit (t ∷ ts) = kept t ∷ []

abbrev pub take_one : List Token → List Token
take_one [] = []
take_one (t ∷ ts) = t ∷ []

-- one token for each character of an operator, each as a unit
abbrev pub op_units : List ℕ → List Token → List Unit
op_units [] ts = []
op_units (c ∷ cs) [] = []
op_units (c ∷ cs) (t ∷ ts) = kept t ∷ op_units cs ts

abbrev pub bit_units : Bit → List Token → List Unit
bit_units Blank ts = []
bit_units (Fixed kind text) ts = first_unit ts
bit_units (Operator op) ts = op_units op ts
bit_units Semicolons ts = []

abbrev pub bits_units : (bits : List Bit) (ts rest : List Token) → AreBits bits ts rest → List Unit
bits_units [] ts rest s = []
bits_units (b ∷ bs) ts rest s = bit_units b ts ++ bits_units bs s.0 rest s.2

-- the units of the tokens that spell a form
abbrev pub units : (f : Form) (depth : ℕ) (ts rest : List Token) → Spells f depth ts rest → List Unit
units Done depth ts rest s = []
units (Piece bits f) depth ts rest s = bits_units bits ts s.0 s.1 ++ units f depth s.0 rest s.2
units (Leaf kind text f) depth ts rest s = first_unit ts ++ units f depth s.0 rest s.2
units (Listed kind text joint f) depth ts rest s = first_unit ts ++ units f depth s.0 rest s.2
units (ListedDoc inner text f) depth ts rest s =
    record { word = Comment inner text; tokens = take_one ts } ∷ units f depth s.0 rest s.2
units (Brk space f) depth ts rest s = units f depth ts rest s
units (LastComma blanks f) depth ts rest s = units f depth s.0 rest s.2
units (Group consistent offset i f) depth ts rest s = units i depth ts s.0 s.1 ++ units f depth s.0 rest s.2
units (Part i f) depth ts rest s = units i depth ts s.0 s.1 ++ units f depth s.0 rest s.2
units (Deeper i f) zero ts rest s = []
units (Deeper i f) (suc depth) ts rest s = units i depth ts s.0 s.1 ++ units f (suc depth) s.0 rest s.2
units (Optional laid bits f) depth ts rest s = units f depth s.0 rest s.2
units (Docs inner text f) depth ts rest s =
    record { word = Documented inner text; tokens = spent ts s.0 } ∷ units f depth s.0 rest s.2
units (Body braces behind i f) depth ts rest s =
    units i (depth - cost s.0) s.3.1.0 s.3.1.2.0 s.3.1.2.1 ++ units f depth s.3.2.0 rest s.3.2.2

-- ---- what they say, by the form alone

abbrev pub punct_word : ℕ → Word
punct_word c = Told Punct (c ∷ [])

abbrev pub bit_words : Bit → List Word
bit_words Blank = []
bit_words (Fixed kind text) = Told kind text ∷ []
bit_words (Operator op) = map punct_word op
bit_words Semicolons = []

abbrev pub bits_words : List Bit → List Word
bits_words [] = []
bits_words (b ∷ bs) = bit_words b ++ bits_words bs

abbrev pub words : Form → List Word
words Done = []
words (Piece bits f) = bits_words bits ++ words f
words (Leaf kind text f) = Told kind text ∷ words f
words (Listed kind text joint f) = Told kind text ∷ words f
words (ListedDoc inner text f) = Comment inner text ∷ words f
words (Brk space f) = words f
words (LastComma blanks f) = words f
words (Group consistent offset i f) = words i ++ words f
words (Part i f) = words i ++ words f
words (Deeper i f) = words i ++ words f
words (Optional laid bits f) = words f
words (Docs inner text f) = Documented inner text ∷ words f
words (Body braces behind i f) = words i ++ words f

abbrev pub said : List Unit → List Word
said us = map (λ (u : Unit). u.word) us

-- Each token of punctuation has one character. So it is for the tokens of a text.
abbrev pub AreSingle : List Token → Type 0
AreSingle ts = (before after : List Token) (t : Token) → ts ≡ before ++ t ∷ after → t.kind ≡ Punct → (c : ℕ) × (t.text ≡ c ∷ [])
