-- What an `impl` type captures: what is spelled is read.
use Rattle.std.proofs.Common.{◌≡◌, ℕ, ◌<◌, Bool, true, false, ◌||◌, List, map, length, codes, Some, inl, inr, refl, ap, ◌∙◌}
use Rattle.std.specs.List.{list_all}
use Rattle.std.specs.Str.{bytes_eq}
use Rattle.std.proofs.lemmas.Bool.{or_cases}
use Rattle.lay_piece.specs.declared.kind.Kind.TheVariants as kind
use Rattle.lay_token.proofs.Deciding.{bytes_same}
use Rattle.lay_form.specs.Notation.{comma_list}
use Rattle.lay_form.specs.Spelled.{Spells}
use Rattle.lay_node.specs.Ahead.{Tokens, first, is_lifetime, is_lifetime_kind, is_mark}
use Rattle.lay_node.specs.Words.{is_name, is_path_word}
use Rattle.lay_node.specs.nodes.Types.{less, greater, is_captured, is_capture, capture_form}
use Rattle.lay_node.specs.reader.Loops.{Got}
use Rattle.lay_node.specs.reader.Types.{angled, one_capture}
use Rattle.lay_node.specs.declared.token.Word.{Word}
use Rattle.lay_node.specs.declared.types.Capture.{Capture}
use Rattle.lay_node.specs.declared.types.Capture.TheVariants as capture
use Rattle.lay_node.proofs.Fronts.{one_front, one_test, one_shorter, mark_passed}
use Rattle.lay_node.proofs.Parts.{word_kind, word_kinds, leaf_alone}
use Rattle.lay_node.proofs.reader.TypesComplete.{name_is_word}
use Rattle.lay_node.proofs.reader.TypesCompleteParts.{lifetime_complete, lifetime_alone}
use Rattle.lay_node.proofs.reader.TypesFronts.{word_no_mark}
use Rattle.lay_node.proofs.reader.TypesLists.{greater_closes, each_same, each_list_read}
use Rattle.lay_node.proofs.reader.Words.{word_complete}

self_is_word : (raw : Bool) (text : List ℕ) → text ≡ codes "Self" → is_path_word raw text ≡ true
self_is_word true text e = refl
self_is_word false text e = rw e refl

-- A word that is captured may stand in a path.
captured_word : (w : Word) → is_captured w ≡ true → is_path_word w.raw w.text ≡ true
captured_word w g = elim (or_cases (is_name w.raw w.text) (bytes_eq w.text (codes "Self")) g) [
  | inl e ↦ name_is_word w.raw w.text e
  | inr e ↦ self_is_word w.raw w.text (bytes_same w.text (codes "Self") e)
]

-- What is captured is read there, and no `>` begins it.
record CaptureRead (c : Capture) (ts rest : Tokens) : Type 0 where
  pub read : one_capture ts ≡ Some (c, rest)
  pub greater : first (is_mark (codes ">")) ts ≡ false
  pub less : length rest < length ts

capture_read : (c : Capture) (depth : ℕ) (ts rest : Tokens) → Spells (capture_form c) depth ts rest → is_capture c ≡ true
    → CaptureRead c ts rest
unfolding one_capture
capture_read (capture.Region l) depth ts rest s g =
    let o = lifetime_alone l depth ts rest s in
    let r = lifetime_complete l ts rest o in
    record {
      read = rw (r.1, r.0) refl;
      greater = rw (one_front kind.Lifetime l.text ts rest o).1 refl;
      less = one_shorter kind.Lifetime l.text ts rest o;
    }
capture_read (capture.Word w) depth ts rest s g =
    let o = leaf_alone w.raw w.text depth ts rest s in
    let no_lifetime : first is_lifetime ts ≡ false =
    one_test is_lifetime_kind (word_kind w.raw) w.text ts rest o ∙ word_kinds is_lifetime_kind refl refl w.raw in
    record {
      read = rw (no_lifetime, word_complete w ts rest (o, captured_word w g), g) refl;
      greater = word_no_mark (codes ">") w.raw w.text ts rest o;
      less = one_shorter (word_kind w.raw) w.text ts rest o;
    }

pub captured_complete : (cs : List Capture) (depth : ℕ) (ts rest : Tokens)
    → Spells (comma_list true less greater (map capture_form cs)) depth ts rest → list_all is_capture cs ≡ true
    → angled one_capture ts ≡ Some (cs, rest)
captured_complete cs depth ts rest s g =
    let l =
    each_list_read (λ (x y : Capture). y ≡ x) greater (is_mark (codes ">")) greater_closes one_capture capture_form is_capture depth
    (λ c us end t h e. let r = capture_read c depth us end t h in (c, refl, r.read))
    (λ c us end t h. let r = capture_read c depth us end t h in (r.greater, r.less)) less cs ts rest g s in
    let e = l.2 in
    let all = e.2 ∙ ap (λ (xs : List Capture). let found : Got (List Capture) = Some (xs, rest) in found) (each_same cs e.0 e.1) in
    rw (mark_passed (codes "<") ts l.0 l.1, all) refl
