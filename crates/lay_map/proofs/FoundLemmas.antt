-- The units of tokens are those that the stream of the layout finds.
use Rattle.std.proofs.Common.{◌≡◌, ℕ, Bool, true, false, List, [], ◌++◌, map, sym, ap, ◌∙◌, subst, append-nil}
use Rattle.lay_token.specs.declared.token.Token.{Token}
use Rattle.lay_form.specs.Form.{Form}
use Rattle.lay_form.specs.Pieces.{are_pieces}
use Rattle.lay_form.specs.Spelled.{Spells}
use Rattle.lay_form.specs.Stream.{stream_of}
use Rattle.lay_map.specs.spelling.Choice.{chosen, clear, is_level}
use Rattle.lay_map.specs.spelling.Units.{Word, AreSingle, said, units, words}
use Rattle.lay_map.proofs.spelling_lemmas.ChoiceLemmas.{all_units}
use Rattle.lay_map.proofs.spelling_lemmas.UnitLemmas.{told}
use Rattle.lay_map.specs.Flow.{Still, At, flow}
use Rattle.lay_map.specs.Marking.{begun, fed_all, units_of}
use Rattle.lay_map.specs.Places.{place_of}
use Rattle.lay_map.proofs.FeedLemmas.{form_feeds}
use Rattle.lay_map.proofs.PushLemmas.{Found, Walk, last_units}

pub all_found : (f : Form) (depth : ℕ) (ts : List Token) (arrow : Bool) → AreSingle ts → clear f [] true ≡ true → is_level (words f) ≡ true
    → are_pieces f ≡ true → flow (At Still false) f ≡ At Still arrow → (s : Spells f depth ts [])
    → units_of (fed_all (stream_of f) (begun ts false)) ≡ map place_of (units f depth ts [] s)
all_found f depth ts arrow single c level p k s =
    let e : chosen 0 [] (words f) ts ≡ units f depth ts [] s = all_units f depth ts single c level s in
    let w : Walk = record { place = record { ahead = ts; braces = []; units = [] }; row = 0 } in
    let found : Found w (words f ++ []) =
    subst (λ (x : List Word). said (chosen 0 [] x ts) ≡ x) (sym (append-nil (words f))) (ap said e ∙ told f depth ts [] single s) in
    let r = form_feeds f false w Still Still false arrow [] [] p k found in
    ap units_of (r.runs [])
    ∙ last_units r.end r.leads.found
    ∙ sym r.leads.same
    ∙ ap (λ (x : List Word). map place_of (chosen 0 [] x ts)) (append-nil (words f))
    ∙ ap (map place_of) e
