-- The streams of what is laid out around the bodies of arms and of closures.
use Rattle.std.specs.Prelude.{true, List, [], ◌∷◌, codes, pos}
use Rattle.lay_layout.specs.declared.layout.Tok.{Tok}
use Rattle.lay_layout.specs.declared.layout.Tok.TheVariants as tok
use Rattle.lay_form.specs.Form.{ArmComma, Bare, Braces, Marked, Never, Nothing, Unseen}
use Rattle.lay_form.specs.Layout.{break_of, closing_break, opening_break}
use Rattle.lay_out_exprs.specs.declared.bodies.BodyBraces.{BodyBraces}
use Rattle.lay_out_exprs.specs.declared.bodies.BodyBraces.TheVariants as body

abbrev pub seen_as : BodyBraces → Braces
seen_as body.Bare = Bare
seen_as body.Unseen = Unseen
seen_as body.Marked = Marked

-- what opens the body of an arm
abbrev pub arm_opened : Braces → List Tok
arm_opened Marked = tok.Begin true (pos 4) ∷ tok.Break opening_break ∷ []
arm_opened _ = []

-- what closes the body of an arm, whether or not the arm is the last
abbrev pub arm_closed : Braces → List Tok
arm_closed Bare = tok.Text (codes ",") ∷ []
arm_closed Unseen = []
arm_closed Marked = tok.Break (closing_break (ArmComma true true)) ∷ tok.End ∷ []

-- what opens the body of a closure
abbrev pub closure_opened : Braces → List Tok
closure_opened Marked = tok.Break (break_of Never) ∷ tok.Begin true (pos 4) ∷ tok.Break opening_break ∷ []
closure_opened _ = []

-- what closes the body of a closure
abbrev pub closure_closed : Braces → List Tok
closure_closed Marked = tok.Break (closing_break Nothing) ∷ tok.End ∷ []
closure_closed _ = []
