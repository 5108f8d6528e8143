-- Bytes have one map.
use Rattle.std.proofs.Common.{◌≡◌, ℕ, List, Result, Ok, Err, Option, sym, ap, ap₂, ◌∙◌, subst}
use Rattle.lay_io.specs.Told.{GrewBy, GrewByPrefix}
use Rattle.lay_io.proofs.Growth.{grew_by_prefix-nothing}
use Rattle.lay_text.specs.declared.refusal.Refusal.{Refusal}
use Rattle.lay_token.specs.Lexes.{Lexes}
use Rattle.lay_token.specs.Source.{Source, source}
use Rattle.lay_token.specs.declared.token.Token.{Token}
use Rattle.lay_code.specs.Out.{out}
use Rattle.lay_code.specs.Reading.{Reads, SpellsFile, top}
use Rattle.lay_code.specs.declared.file.File.{File}
use Rattle.lay_reparse.proofs.file.OneAnswer.{one_file, same_tokens}
use Rattle.lay_reparse.proofs.file.Reparse.{again}
use Rattle.lay_map.specs.Pairs.{paired}
use Rattle.lay_map.specs.Places.{ArePlaces}
use Rattle.lay_map.specs.declared.unit.Unit.{Unit}
use Rattle.lay_map.proofs.FileLemmas.{found_places}
use Rattle.lay_map.proofs.LexedLemmas.{lexes_single}
use Rattle.lay_map_lines.specs.Lines.{map_text}
use Rattle.lay_map_lines.specs.Maps.{IsMap, WroteMap, WroteMapPart, units_read}

-- The text lexes from here on to tokens that spell the file.
abbrev pub CanBeRead : File → List ℕ → ℕ → Type 0
CanBeRead file text start = (tokens : List Token) × Lexes text start tokens × SpellsFile top file tokens

abbrev source_in : Source → Result Source Refusal → Source
source_in from (Ok s) = s
source_in from (Err r) = from

module _ (bytes : List ℕ) (file : File) where
  -- The tokens that the bytes lex to are those by which they are read.
  pub tokens_read : (from : Source) (ts : List Token) → source bytes ≡ Ok from → Lexes from.text from.start ts → (r : Reads bytes file) → ts ≡ r.tokens
  tokens_read from ts e l r = same_tokens bytes from r.from ts r.tokens e r.text l r.lexes

  pub places_read : (from : Source) (ts : List Token) (places : List Unit) → source bytes ≡ Ok from → Lexes from.text from.start ts
      → ArePlaces file ts places → (r : Reads bytes file) → places ≡ units_read r
  places_read from ts places e l h r = subst (λ (us : List Token). ArePlaces file us places) (tokens_read from ts e l r) h r.spells.1

  same_source : (from other : Source) → source bytes ≡ Ok from → source bytes ≡ Ok other → from ≡ other
  same_source from other e f = ap (source_in from) (sym e ∙ f)

  -- The text that is lexed of the bytes lexes to them.
  pub lexes_read : (from : Source) → source bytes ≡ Ok from → (r : Reads bytes file) → Lexes from.text from.start r.tokens
  lexes_read from e r = subst (λ (s : Source). Lexes s.text s.start r.tokens) (same_source r.from from r.text e) r.lexes

  pub read_from : (from : Source) → source bytes ≡ Ok from → Reads bytes file → CanBeRead file from.text from.start
  read_from from e r = (r.tokens, lexes_read from e r, r.spells)

  -- The units stand at the same places however the bytes are read.
  read_once : (r q : Reads bytes file) → units_read r ≡ units_read q
  read_once r q =
      let single = lexes_single r.from.text r.from.start r.tokens r.lexes in
      let found : ArePlaces file r.tokens (units_read r) =
      λ s. sym (found_places file r.tokens r.spells.0 single r.spells.1) ∙ found_places file r.tokens r.spells.0 single s in
      places_read r.from r.tokens (units_read r) r.text r.lexes found q

-- ---- one map

one_text : (bytes : List ℕ) (file : File) (lines more : List ℕ) → IsMap bytes file lines → IsMap bytes file more → lines ≡ more
one_text bytes file lines more m n =
    m.are ∙ ap map_text (ap₂ paired (read_once bytes file m.source n.source) (read_once (out file) file m.output n.output)) ∙ sym n.are

pub one_map : (bytes : List ℕ) (file other : File) (lines more : List ℕ) → IsMap bytes file lines → IsMap bytes other more → lines ≡ more
one_map bytes file other lines more m n =
    one_text bytes file lines more m
    (subst (λ (f : File). IsMap bytes f more) (one_file bytes file other m.source n.source) n)

-- ---- what was written of it

-- Whatever are the units, if they are those of every reading, their lines are the map.
abbrev pub AreUnits : List ℕ → File → List Unit → Type 0
AreUnits bytes file units = (reads : Reads bytes file) → units ≡ units_read reads

module _ (bytes : List ℕ) (file : File) (reads : Reads bytes file) where
  is_map : (source output : List Unit) → AreUnits bytes file source → AreUnits (out file) file output → IsMap bytes file (map_text (paired source output))
  is_map source output s o =
      let back = again bytes file reads in
      record { source = reads; output = back; are = ap map_text (ap₂ paired (s reads) (o back)) }

  pub unwritten : (before : Option (List ℕ)) → WroteMapPart bytes file before before
  unwritten before =
      let back = again bytes file reads in
      let lines = map_text (paired (units_read reads) (units_read back)) in
      record {
        lines = lines;
        is = is_map (units_read reads) (units_read back) (read_once bytes file reads) (read_once (out file) file back);
        grew = grew_by_prefix-nothing before lines;
      }

  pub written : (source output : List Unit) (before now : Option (List ℕ)) → AreUnits bytes file source → AreUnits (out file) file output
      → GrewBy before now (map_text (paired source output)) → WroteMap bytes file before now
  written source output before now s o grew = record { lines = map_text (paired source output); is = is_map source output s o; grew = grew }

  pub part_written : (source output : List Unit) (before now : Option (List ℕ)) → AreUnits bytes file source → AreUnits (out file) file output
      → GrewByPrefix before now (map_text (paired source output)) → WroteMapPart bytes file before now
  part_written source output before now s o grew = record { lines = map_text (paired source output); is = is_map source output s o; grew = grew }
