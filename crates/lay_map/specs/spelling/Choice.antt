-- Finding the units by their words alone, by first match. Each word takes the next token that
-- begins as the word does, and the tokens passed over are in no unit. Only braces need more. Of
-- opening braces in a row the last ones are kept, as many as there are words for. A closing brace
-- is kept if the brace that it closes is.
use Rattle.std.specs.Prelude.{ℕ, zero, suc, Bool, true, false, cond, not, ◌&&◌, ◌||◌, nat_le, ◌==◌, List, [], ◌∷◌, ◌++◌, take, codes}
use Rattle.std.specs.Str.{bytes_eq}
use Rattle.lay_piece.specs.Chars.{is_nil}
use Rattle.lay_piece.specs.declared.kind.Delim.TheVariants.{Brace}
use Rattle.lay_piece.specs.declared.kind.Kind.{Kind}
use Rattle.lay_piece.specs.declared.kind.Kind.TheVariants.{Punct, Opener, Closer, Doc}
use Rattle.lay_token.specs.Lexes.{is_punct}
use Rattle.lay_token.specs.declared.token.Token.{Token}
use Rattle.lay_form.specs.Form.{Bit, Blank, Fixed, Operator, Semicolons, Behind, Nothing, ArmComma, Form, Done, Piece, Leaf, Listed, ListedDoc, Brk, LastComma, Group, Part, Deeper, Optional, Docs, Body}
use Rattle.lay_map.specs.spelling.Units.{Word, Told, Comment, Documented, Unit, kept, bits_words, words}

-- ---- words and tokens

abbrev pub opens : Kind → Bool
opens (Opener Brace) = true
opens _ = false

abbrev pub closes : Kind → Bool
closes (Closer Brace) = true
closes _ = false

abbrev pub is_doc : Kind → Bool
is_doc (Doc inner block) = true
is_doc _ = false

abbrev pub is_semicolon : Kind → List ℕ → Bool
is_semicolon kind text = is_punct kind && bytes_eq (codes ";") text

-- The texts begin with the same character, or both are empty.
abbrev pub alike : List ℕ → List ℕ → Bool
alike [] cs = is_nil cs
alike (c ∷ cs) [] = false
alike (c ∷ cs) (d ∷ ds) = c == d

-- The token is documentation, or begins with `#`.
abbrev pub begins_doc : Kind → List ℕ → Bool
begins_doc kind text = is_doc kind || alike text (codes "#")

-- A token of this kind and text may say the word, as far as its first character tells.
abbrev pub says : Word → Kind → List ℕ → Bool
says (Told kind text) other given = alike given text
says (Comment inner text) other given = begins_doc other given
says (Documented inner text) other given = begins_doc other given

-- A token of this kind and text doesn't say the next word.
abbrev pub passes : List Word → Kind → List ℕ → Bool
passes [] kind given = true
passes (w ∷ ws) kind given = not (says w kind given)

abbrev pub word_opens : Word → Bool
word_opens (Told kind text) = opens kind
word_opens (Comment inner text) = false
word_opens (Documented inner text) = false

abbrev pub word_closes : Word → Bool
word_closes (Told kind text) = closes kind
word_closes (Comment inner text) = false
word_closes (Documented inner text) = false

abbrev pub is_semicolon_word : Word → Bool
is_semicolon_word (Told kind text) = is_semicolon kind text
is_semicolon_word (Comment inner text) = false
is_semicolon_word (Documented inner text) = false

-- ---- rows of opening braces

-- how many opening braces come next among the words
abbrev pub leading : List Word → ℕ
leading [] = 0
leading (w ∷ ws) = cond (word_opens w) (suc (leading ws)) 0

-- The word after the opening braces isn't `;`. So a `;` between the braces is no word.
abbrev pub is_loose : List Word → Bool
is_loose [] = true
is_loose (w ∷ ws) = cond (word_opens w) (is_loose ws) (not (is_semicolon_word w))

-- how many opening braces stand in a row; the flag says that any number of `;` may stand between
-- them
abbrev pub openers : Bool → List Token → ℕ
openers loose [] = 0
openers loose (t ∷ ts) = cond (opens t.kind) (suc (openers loose ts)) (cond (loose && is_semicolon t.kind t.text) (openers loose ts) 0)

-- The opening braces in a row aren't more than the words say.
abbrev pub fits : List Word → List Token → Bool
fits ws ts = nat_le (openers (is_loose ws) ts) (leading ws)

-- ---- braces that are open

-- The innermost open brace is a kept one.
abbrev pub top : List Bool → Bool
top [] = false
top (b ∷ bs) = b

abbrev pub under : List Bool → List Bool
under [] = []
under (b ∷ bs) = bs

-- the open braces after a token; the flag says whether the token is kept
abbrev pub behind_token : Bool → Kind → List Bool → List Bool
behind_token is_kept kind stack = cond (opens kind) (is_kept ∷ stack) (cond (closes kind) (under stack) stack)

abbrev pub behind_word : Word → List Bool → List Bool
behind_word w stack = cond (word_opens w) (true ∷ stack) (cond (word_closes w) (under stack) stack)

abbrev pub behind_words : List Word → List Bool → List Bool
behind_words [] stack = stack
behind_words (w ∷ ws) stack = behind_words ws (behind_word w stack)

-- Each closing brace among the words closes a kept brace.
abbrev pub shuts : List Word → List Bool → Bool
shuts [] stack = true
shuts (w ∷ ws) stack = (not (word_closes w) || top stack) && shuts ws (behind_word w stack)

-- No brace is open.
abbrev pub none : List Bool → Bool
none [] = true
none (b ∷ bs) = false

-- The braces among the words are balanced.
abbrev pub is_level : List Word → Bool
is_level ws = shuts ws [] && none (behind_words ws [])

-- ---- the choice

-- The token is the first token of the word.
abbrev pub takes : List Bool → Word → List Word → Token → List Token → Bool
takes stack w ws t ts =
    cond (opens t.kind) (word_opens w && fits (w ∷ ws) (t ∷ ts))
    (cond (closes t.kind) (word_closes w && top stack) (says w t.kind t.text))

-- How many tokens of documentation follow its first one. `#[doc = "text"]` has six tokens in all,
-- and `#![doc = "text"]` seven.
abbrev pub more_doc : Bool → Kind → ℕ
more_doc inner kind = cond (is_doc kind) 0 (cond inner 6 5)

abbrev pub more : Word → Kind → ℕ
more (Told kind text) other = 0
more (Comment inner text) other = more_doc inner other
more (Documented inner text) other = more_doc inner other

abbrev pub unit_of : Word → Token → List Token → Unit
unit_of (Told kind text) t ts = kept t
unit_of (Comment inner text) t ts = record { word = Comment inner text; tokens = t ∷ take (more_doc inner t.kind) ts }
unit_of (Documented inner text) t ts = record { word = Documented inner text; tokens = t ∷ take (more_doc inner t.kind) ts }

-- The units of the words. The first `n` tokens belong to the unit before, and these braces are
-- open.
abbrev pub chosen : ℕ → List Bool → List Word → List Token → List Unit
chosen n stack ws [] = []
chosen n stack [] (t ∷ ts) = []
chosen (suc n) stack (w ∷ ws) (t ∷ ts) = chosen n stack (w ∷ ws) ts
chosen zero stack (w ∷ ws) (t ∷ ts) =
    cond (takes stack w ws t ts) (unit_of w t ts ∷ chosen (more w t.kind) (behind_token true t.kind stack) ws ts)
    (chosen zero (behind_token false t.kind stack) (w ∷ ws) ts)

-- ---- where it is right

-- No opening brace comes next unless it is a word. The flag says so of what follows the bits.
abbrev pub calm_bits : List Bit → Bool → Bool
calm_bits [] calm_behind = calm_behind
calm_bits (Blank ∷ bs) calm_behind = calm_bits bs calm_behind
calm_bits (Fixed kind text ∷ bs) calm_behind = cond (opens kind) (calm_bits bs calm_behind) true
calm_bits (Operator [] ∷ bs) calm_behind = calm_bits bs calm_behind
calm_bits (Operator (c ∷ cs) ∷ bs) calm_behind = true
calm_bits (Semicolons ∷ bs) calm_behind = calm_bits bs calm_behind

-- The bits begin with a token that ends a row of opening braces.
abbrev pub stops : List Bit → Bool
stops [] = false
stops (Blank ∷ bs) = stops bs
stops (Fixed kind text ∷ bs) = not (opens kind || is_semicolon kind text)
stops (Operator [] ∷ bs) = false
stops (Operator (c ∷ cs) ∷ bs) = not (is_semicolon Punct (c ∷ []))
stops (Semicolons ∷ bs) = false

abbrev pub calm : Form → Bool → Bool
calm Done calm_behind = calm_behind
calm (Piece bits f) calm_behind = calm_bits bits (calm f calm_behind)
calm (Leaf kind text f) calm_behind = cond (opens kind) (calm f calm_behind) true
calm (Listed kind text joint f) calm_behind = cond (opens kind) (calm f calm_behind) true
calm (ListedDoc inner text f) calm_behind = true
calm (Brk space f) calm_behind = calm f calm_behind
calm (LastComma blanks f) calm_behind = calm f calm_behind
calm (Group consistent offset i f) calm_behind = calm i (calm f calm_behind)
calm (Part i f) calm_behind = calm i (calm f calm_behind)
calm (Deeper i f) calm_behind = calm i (calm f calm_behind)
calm (Optional laid bits f) calm_behind = stops bits && calm f calm_behind
calm (Docs inner text f) calm_behind = true
calm (Body braces behind i f) calm_behind = false

-- The first words are opening braces and then one other word, which isn't `;`. Only a `;` may stand
-- before or between them.
abbrev pub firm_bits : List Bit → Bool → Bool
firm_bits [] firm_behind = firm_behind
firm_bits (Blank ∷ bs) firm_behind = firm_bits bs firm_behind
firm_bits (Fixed kind text ∷ bs) firm_behind = not (alike (codes ";") text) && cond (opens kind) (firm_bits bs firm_behind) true
firm_bits (Operator [] ∷ bs) firm_behind = firm_bits bs firm_behind
firm_bits (Operator (c ∷ cs) ∷ bs) firm_behind = not (alike (codes ";") (c ∷ []))
firm_bits (Semicolons ∷ bs) firm_behind = firm_bits bs firm_behind

abbrev pub firm : Form → Bool → Bool
firm Done firm_behind = firm_behind
firm (Piece bits f) firm_behind = firm_bits bits (firm f firm_behind)
firm (Leaf kind text f) firm_behind = not (alike (codes ";") text) && cond (opens kind) (firm f firm_behind) true
firm (Listed kind text joint f) firm_behind = not (alike (codes ";") text) && cond (opens kind) (firm f firm_behind) true
firm (ListedDoc inner text f) firm_behind = false
firm (Brk space f) firm_behind = firm f firm_behind
firm (LastComma blanks f) firm_behind = false
firm (Group consistent offset i f) firm_behind = firm i (firm f firm_behind)
firm (Part i f) firm_behind = firm i (firm f firm_behind)
firm (Deeper i f) firm_behind = firm i (firm f firm_behind)
firm (Optional laid bits f) firm_behind = false
firm (Docs inner text f) firm_behind = true
firm (Body braces behind i f) firm_behind = false

abbrev pub passes_each : List Word → List ℕ → Bool
passes_each ws [] = true
passes_each ws (c ∷ cs) = passes ws Punct (c ∷ []) && passes_each ws cs

-- No token of these bits says the next word, and none is a brace.
abbrev pub skips : List Bit → List Word → Bool
skips [] ws = true
skips (Blank ∷ bs) ws = skips bs ws
skips (Fixed kind text ∷ bs) ws = not (opens kind || closes kind) && passes ws kind text && skips bs ws
skips (Operator op ∷ bs) ws = passes_each ws op && skips bs ws
skips (Semicolons ∷ bs) ws = passes ws Punct (codes ";") && skips bs ws

-- If an opening brace is a word, what follows it is calm.
abbrev pub is_settled : Kind → Bool → Bool
is_settled kind calm_behind = not (opens kind) || calm_behind

abbrev pub clear_bits : List Bit → List Word → Bool → Bool
clear_bits [] ws calm_behind = true
clear_bits (Blank ∷ bs) ws calm_behind = clear_bits bs ws calm_behind
clear_bits (Fixed kind text ∷ bs) ws calm_behind = is_settled kind (calm_bits bs calm_behind) && clear_bits bs ws calm_behind
clear_bits (Operator op ∷ bs) ws calm_behind = clear_bits bs ws calm_behind
clear_bits (Semicolons ∷ bs) ws calm_behind = passes (bits_words bs ++ ws) Punct (codes ";") && clear_bits bs ws calm_behind

-- No token that may follow a body says the next word.
abbrev pub passes_behind : Behind → List Word → Bool
passes_behind Nothing ws = true
passes_behind (ArmComma last block_like) ws = passes ws Punct (codes ",")

-- Wherever the form allows tokens that are in no unit, none of them says the next word. These words
-- follow the form.
abbrev pub clear : Form → List Word → Bool → Bool
clear Done ws calm_behind = true
clear (Piece bits f) ws calm_behind = clear_bits bits (words f ++ ws) (calm f calm_behind) && clear f ws calm_behind
clear (Leaf kind text f) ws calm_behind = is_settled kind (calm f calm_behind) && clear f ws calm_behind
clear (Listed kind text joint f) ws calm_behind = is_settled kind (calm f calm_behind) && clear f ws calm_behind
clear (ListedDoc inner text f) ws calm_behind = clear f ws calm_behind
clear (Brk space f) ws calm_behind = clear f ws calm_behind
clear (LastComma blanks f) ws calm_behind = passes (words f ++ ws) Punct (codes ",") && clear f ws calm_behind
clear (Group consistent offset i f) ws calm_behind = clear i (words f ++ ws) (calm f calm_behind) && clear f ws calm_behind
clear (Part i f) ws calm_behind = clear i (words f ++ ws) (calm f calm_behind) && clear f ws calm_behind
clear (Deeper i f) ws calm_behind = clear i (words f ++ ws) (calm f calm_behind) && clear f ws calm_behind
clear (Optional laid bits f) ws calm_behind = skips bits (words f ++ ws) && clear f ws calm_behind
clear (Docs inner text f) ws calm_behind = clear f ws calm_behind
clear (Body braces behind i f) ws calm_behind =
    firm i false && (is_level (words i) && (passes_behind behind (words f ++ ws)
    && (clear i (words f ++ ws) false && clear f ws calm_behind)))
