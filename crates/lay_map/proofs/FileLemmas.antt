-- The layout of a file finds the units of the tokens that spell it.
use Rattle.std.proofs.Common.{◌≡◌, ℕ, Bool, true, false, List, [], map, refl, sym, ap, ap₂, ◌∙◌, subst, Option, Some, None, is_some, Result, Ok, Err, IfOk}
use Rattle.lay_text.specs.declared.refusal.NoMemory.{NoMemory}
use Rattle.lay_layout.specs.Document.{stream}
use Rattle.lay_layout.specs.declared.layout.Tok.{Tok}
use Rattle.lay_token.specs.declared.token.Token.{Token}
use Rattle.lay_form.specs.Layout.{document}
use Rattle.lay_form.specs.Spelled.{Spells}
use Rattle.lay_form.specs.Stream.{stream_of}
use Rattle.lay_form.proofs.StreamLaws.{stream_is}
use Rattle.lay_code.specs.Out.{behind_shebang, layout_of_file}
use Rattle.lay_code.specs.Reading.{SpellsFile, top}
use Rattle.lay_code.specs.Written.{Written}
use Rattle.lay_code.specs.nodes.File.{form_of_file}
use Rattle.lay_code.specs.declared.file.File.{File}
use Rattle.lay_read_tokens.specs.Answers.{AreLexed}
use Rattle.lay_stream.specs.Fed.{Puts}
use Rattle.lay_map.specs.spelling.Units.{AreSingle, units, words}
use Rattle.lay_map.specs.Marking.{begun, fed_all, units_of}
use Rattle.lay_map.specs.Meanings.{Seen, mark_meanings}
use Rattle.lay_map.specs.Places.{ArePlaces, place_of}
use Rattle.lay_map.specs.declared.unit.Unit.{Unit}
use Rattle.lay_map.proofs.FoundLemmas.{all_found}
use Rattle.lay_map.proofs.LexedLemmas.{lexed_single}
use Rattle.lay_map.proofs.Rules.{paired}
use Rattle.lay_map.proofs.nodes.Files.{file_tells}

-- What is fed of a file finds what its form finds after its first line.
file_stream : (file : File) (ts : List Token)
    → fed_all (stream (layout_of_file file)) (begun ts (is_some file.shebang)) ≡ fed_all (stream_of (form_of_file file)) (begun ts false)
file_stream file ts = by file.shebang ∙ ap (λ (s : List Tok). fed_all s (begun ts false)) (stream_is (form_of_file file))
  where
    by : (line : Option (List ℕ))
        → fed_all (stream (behind_shebang line (document (form_of_file file)))) (begun ts (is_some line)) ≡ fed_all (stream (document (form_of_file file))) (begun ts false)
    by None = refl
    by (Some line) = refl

-- So it finds the units of each spelling.
pub found_places : (file : File) (ts : List Token) → Written file → AreSingle ts → (s : Spells (form_of_file file) top ts [])
    → units_of (fed_all (stream_of (form_of_file file)) (begun ts false)) ≡ map place_of (units (form_of_file file) top ts [] s)
found_places file ts w single s =
    let t = file_tells file w.normal w.pieces in
    all_found (form_of_file file) top ts t.arrow single t.clears (paired (words (form_of_file file)) (t.levels [])) w.pieces t.flows s

-- before the first token
abbrev pub at_start : List Token → Bool → Seen
at_start ts shebang = record { tokens = ts; shebang = shebang; state = begun ts shebang; failed = false }

pub fed_places : (file : File) (ts : List Token) (old new : Seen) → AreLexed ts → SpellsFile top file ts → old ≡ at_start ts (is_some file.shebang)
    → Puts mark_meanings old (stream (layout_of_file file)) new → ArePlaces file ts (units_of new.state)
fed_places file ts old new l spells begins puts = λ s.
    let p = subst (λ (x : Seen). Puts mark_meanings x (stream (layout_of_file file)) new) begins puts in
    let kept = p.passes (record {}) new (refl, refl) in
    ap units_of
    (p.appends (record { content = []; faults = 0 }) [] (λ live. refl) (live p new.failed refl)
    ∙ ap₂ (λ (x : List Token) (y : Bool). fed_all (stream (layout_of_file file)) (begun x y)) (sym kept.0) (sym kept.1)
    ∙ file_stream file ts)
    ∙ found_places file ts spells.0 (lexed_single ts l) s
  where
    live : Puts mark_meanings (at_start ts (is_some file.shebang)) (stream (layout_of_file file)) new → (b : Bool) → new.failed ≡ b → new.failed ≡ false
    live p false e = e
    live p true e = let no : false ≡ true = p.failed_before e in absurd (cc no)

-- what is answered, if memory was found
pub answered : (file : File) (ts : List Token) (r : Result (List Unit) NoMemory) (places : List Unit) → IfOk r (λ list. list ≡ places)
    → ArePlaces file ts places → IfOk r (λ list. ArePlaces file ts list)
answered file ts (Ok list) places h k = λ s. h ∙ k s
answered file ts (Err fault) places h k = tt
