-- What a reader of bytes answers.
use Rattle.std.proofs.Common.{◌≡◌, ℕ, List, Result, Ok, Err, None, refl, sym, ap, ◌∙◌, subst, Bool, true, false, cond}
use Rattle.std.specs.Str.{is_utf8}
use Rattle.std.specs.Str.Lossy.{utf8_valid_len}
use Rattle.lay_token.specs.Source.{Source, source}
use Rattle.lay_token.specs.Delimiters.{Balanced}
use Rattle.lay_token.specs.Lexes.{Lexes, Other}
use Rattle.lay_token.specs.declared.token.Token.{Token}
use Rattle.lay_text.specs.declared.refusal.Refusal.{Refusal}
use Rattle.lay_text.specs.declared.refusal.Refusal.TheVariants.{NotUtf8, NoToken, Unbalanced, NoItem}
use Rattle.lay_text.specs.declared.refusal.FormatError.{FormatError}
use Rattle.lay_text.specs.declared.refusal.FormatError.TheVariants as error
use Rattle.lay_code.specs.Reading.{NoItemAt, ReadsAt, IsRefusedAt, SpellsFile}
use Rattle.lay_code.specs.Written.{is_good_shebang}
use Rattle.lay_code.specs.nodes.File.{form_of_file}
use Rattle.lay_code.specs.declared.file.File.{File}
use Rattle.lay_reparse.proofs.file.Items.{file_passes}
use Rattle.lay_reparse.proofs.file.OneAnswer.{one_file}
use Rattle.lay_reparse.proofs.file.Singles.{parts_single}
use Rattle.lay_reparse.proofs.forms.Balance.{are_single, balanced}
use Rattle.lay_reparse.proofs.forms.Passes.{plain}
use Rattle.lay_read_code.specs.Answers.{FileAs}
use Rattle.lay_lex.specs.Lexer.{LexedAs}
use Rattle.lay_lex.specs.Source.{Answers}
use Rattle.lay_nest.specs.Nested.{RefusedAs}
use Rattle.lay_token.specs.Place.{place_of}
use Rattle.lay_files.specs.Places.{number_of, text_or}
use Rattle.lay_files.specs.Readings.{FormattedAs, ReadsOnlyAt, ReadAs, placed_in}
use Rattle.lay_files.specs.declared.reading.FileError.{FileError}
use Rattle.lay_files.specs.declared.reading.FileError.TheVariants.{Refused, NoMemory}

-- Bytes whose tokens spell a file read to it, and to no other.
pub read_only : (depth : ℕ) (bytes : List ℕ) (from : Source) (tokens : List Token) (file : File) → source bytes ≡ Ok from → Lexes from.text from.start tokens
    → Balanced tokens → file.shebang ≡ from.shebang → SpellsFile depth file tokens → ReadsOnlyAt depth bytes file
read_only depth bytes from tokens file e lexes balanced shebang spells =
    let reads : ReadsAt depth bytes file = record { from = from; tokens = tokens; text = e; shebang = sym shebang; lexes = lexes; balanced = balanced; spells = spells } in
    record { reads = reads; only = λ other. one_file bytes file other reads }

-- ---- why and where bytes are refused

-- The error is a refusal of the bytes, or want of memory.
abbrev pub IsRefusal : ℕ → List ℕ → FormatError → Type 0
IsRefusal depth bytes (error.Refused refusal) = IsRefusedAt depth bytes refusal
IsRefusal depth bytes error.NoMemory = Unit {0}

-- a refusal of bytes whose text is at hand is placed in that text
pub placed : (depth : ℕ) (bytes : List ℕ) (from : Source) (e : FormatError) (answer : FileError) → source bytes ≡ Ok from → IsRefusal depth bytes e
    → answer ≡ placed_in from.text e → ReadAs depth bytes (Err answer)
placed depth bytes from (error.Refused refusal) answer e h is =
    subst (λ (a : FileError). ReadAs depth bytes (Err a)) (sym is)
    (h, ap (λ (s : Result Source Refusal). place_of (text_or bytes s) (number_of refusal)) (sym e))
placed depth bytes from error.NoMemory answer e h is = subst (λ (a : FileError). ReadAs depth bytes (Err a)) (sym is) tt

-- bytes that have no text are no UTF-8
no_utf8 : (utf8 : Bool) (from : Source) (at : ℕ) (refusal : Refusal) → cond utf8 (Ok from) (Err (NotUtf8 at)) ≡ Err refusal → NotUtf8 at ≡ refusal
no_utf8 true from at refusal e = let no : ⊥ = cc in absurd no
no_utf8 false from at refusal e = cc

pub unread : (depth : ℕ) (bytes : List ℕ) (e : FormatError) (answer : FileError) → Answers (source bytes) (Err e)
    → answer ≡ placed_in bytes e → ReadAs depth bytes (Err answer)
unread depth bytes (error.Refused refusal) answer h is =
    let none : NotUtf8 (utf8_valid_len bytes) ≡ refusal = no_utf8 (is_utf8 bytes) _ _ refusal h in
    let refused : IsRefusedAt depth bytes refusal =
    subst (IsRefusedAt depth bytes) none (subst (λ (r : Refusal). source bytes ≡ Err r) (sym none) h) in
    subst (λ (a : FileError). ReadAs depth bytes (Err a)) (sym is)
    (refused, ap (λ (s : Result Source Refusal). place_of (text_or bytes s) (number_of refusal)) (sym h))
unread depth bytes error.NoMemory answer h is = subst (λ (a : FileError). ReadAs depth bytes (Err a)) (sym is) tt

pub unlexed : (depth : ℕ) (bytes : List ℕ) (from : Source) (e : FormatError) → source bytes ≡ Ok from → LexedAs from.text from.start (Err e)
    → IsRefusal depth bytes e
unlexed depth bytes from (error.Refused (NotUtf8 at)) e h = absurd h
unlexed depth bytes from (error.Refused (NoToken at)) e h = (from, e, h)
unlexed depth bytes from (error.Refused (Unbalanced at)) e h = absurd h
unlexed depth bytes from (error.Refused (NoItem at)) e h = absurd h
unlexed depth bytes from error.NoMemory e h = tt

pub unnested : (depth : ℕ) (bytes : List ℕ) (from : Source) (tokens : List Token) (e : FormatError) → source bytes ≡ Ok from
    → Lexes from.text from.start tokens → RefusedAs tokens e → IsRefusal depth bytes e
unnested depth bytes from tokens (error.Refused (NotUtf8 at)) e lexes h = absurd h
unnested depth bytes from tokens (error.Refused (NoToken at)) e lexes h = absurd h
unnested depth bytes from tokens (error.Refused (Unbalanced at)) e lexes h = (from, tokens, e, lexes, h)
unnested depth bytes from tokens (error.Refused (NoItem at)) e lexes h = absurd h
unnested depth bytes from tokens error.NoMemory e lexes h = tt

-- what a reader of nested tokens answers is what a reader of their bytes does
pub read_as : (depth : ℕ) (bytes : List ℕ) (from : Source) (tokens nested : List Token) (file : File) → source bytes ≡ Ok from
    → Lexes from.text from.start tokens → nested ≡ tokens → Balanced tokens → FileAs depth nested from.shebang (Ok file) → ReadsOnlyAt depth bytes file
read_as depth bytes from tokens nested file e lexes same balanced h =
    read_only depth bytes from tokens file e lexes balanced h.0 (subst (SpellsFile depth file) same h.1)

pub read_no_file : (depth : ℕ) (bytes : List ℕ) (from : Source) (tokens nested : List Token) (unspelled : FormatError) → source bytes ≡ Ok from
    → Lexes from.text from.start tokens → nested ≡ tokens → Balanced tokens → FileAs depth nested from.shebang (Err unspelled) → IsRefusal depth bytes unspelled
read_no_file depth bytes from tokens nested (error.Refused (NotUtf8 at)) e lexes same balanced h = absurd h
read_no_file depth bytes from tokens nested (error.Refused (NoToken at)) e lexes same balanced h = absurd h
read_no_file depth bytes from tokens nested (error.Refused (Unbalanced at)) e lexes same balanced h = absurd h
read_no_file depth bytes from tokens nested (error.Refused (NoItem at)) e lexes same balanced h =
    (from, tokens, e, lexes, balanced, subst (λ (ts : List Token). NoItemAt depth ts at) same h)
read_no_file depth bytes from tokens nested error.NoMemory e lexes same balanced h = tt

-- Bytes that read to no file are formatted to no text.
pub refused_as : (depth : ℕ) (bytes : List ℕ) (e : FileError) → ReadAs depth bytes (Err e) → FormattedAs depth bytes (Err e)
refused_as depth bytes (Refused refusal place) h = h
refused_as depth bytes NoMemory h = tt

-- ---- by windows

-- A file without its shebang, spelled by tokens to which the text lexes, is read with it.
pub read_by_windows : (depth : ℕ) (bytes : List ℕ) (from : Source) (file : File) → source bytes ≡ Ok from → is_good_shebang from.shebang ≡ true
    → (file.shebang ≡ None) × ((tokens : List Token) × Lexes from.text from.start tokens × SpellsFile depth file tokens)
    → ReadsOnlyAt depth bytes (record { shebang = from.shebang; attrs = file.attrs; items = file.items })
read_by_windows depth bytes from file e good h =
    let tokens = h.1.0 in
    let lexes = h.1.1 in
    let written = h.1.2.0 in
    let whole : File = record { shebang = from.shebang; attrs = file.attrs; items = file.items } in
    let single = ap are_single lexes.3 ∙ parts_single Other lexes.0 lexes.1 from.start lexes.2.fit in
    let passes = (file_passes file written.normal written.pieces).go false in
    let trees = balanced (form_of_file file) false plain plain depth tokens single passes h.1.2.1 in
    read_only depth bytes from tokens whole e lexes trees refl
    (record { shebang = good; normal = written.normal; pieces = written.pieces }, h.1.2.1)
