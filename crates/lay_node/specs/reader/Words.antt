-- The parser of names and words.
use Rattle.std.specs.Prelude.{ℕ, Bool, true, false, if◌then◌else◌, List, [], ◌∷◌, drop, codes, Option, Some, None, is_some}
use Rattle.lay_token.specs.Operators.{is_op}
use Rattle.lay_piece.specs.Word.{class_of}
use Rattle.lay_piece.specs.declared.kind.Kind.{Kind}
use Rattle.lay_piece.specs.declared.kind.Kind.TheVariants.{Ident, RawIdent, Underscore}
use Rattle.lay_node.specs.Ahead.{Tokens}
use Rattle.lay_node.specs.Words.{is_plain, is_path_class}
use Rattle.lay_node.specs.reader.Loops.{Got, ◌>>=◌, repeat}
use Rattle.lay_node.specs.declared.token.GivenName.{GivenName}
use Rattle.lay_node.specs.declared.token.GivenName.TheVariants as given
use Rattle.lay_node.specs.declared.token.Name.{Name}
use Rattle.lay_node.specs.declared.token.Word.{Word}

abbrev pub name_by : Kind → List ℕ → Option Name
name_by Ident text = if is_plain (class_of text) then Some (record { raw = false; text = text }) else None
name_by RawIdent text = Some (record { raw = true; text = text })
name_by _ text = None

unfoldable pub name : Tokens → Got Name
name [] = None
name (t ∷ ts) = do n ← name_by t.kind t.text; Some (n, ts)

-- a name that is given, or `_`
unfoldable pub given_name : Tokens → Got GivenName
given_name [] = None
given_name (t ∷ ts) = by_kind t.kind
  where
    by_kind : Kind → Got GivenName
    by_kind Underscore = Some (given.Underscore, ts)
    by_kind kind = do n ← name_by kind t.text; Some (given.Name n, ts)

abbrev pub word_by : Kind → List ℕ → Option Word
word_by Ident text = if is_path_class (class_of text) then Some (record { raw = false; text = text }) else None
word_by RawIdent text = Some (record { raw = true; text = text })
word_by _ text = None

unfoldable pub word : Tokens → Got Word
word [] = None
word (t ∷ ts) = do w ← word_by t.kind t.text; Some (w, ts)

-- whether a `::` comes next, and what follows it; without one the tokens as they are
abbrev pub global : Tokens → Bool × Tokens
global ts = if is_op (codes "::") ts then (true, drop 2 ts) else (false, ts)

-- a word and the `::` after it
unfoldable pub path_word : Tokens → Got Word
path_word ts = do w ← word ts; if is_op (codes "::") w.1 then Some (w.0, drop 2 w.1) else None

abbrev pub begins_path_word : Tokens → Bool
begins_path_word ts = is_some (path_word ts)

-- the words of a path that have a `::` after them
unfoldable pub path_words : Tokens → Got (List Word)
path_words ts = repeat begins_path_word path_word ts
