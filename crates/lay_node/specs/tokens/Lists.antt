-- The form of a token list, and the form of a group.
use Rattle.std.specs.Prelude.{Bool, true, false, List, [], ◌∷◌}
use Rattle.lay_piece.specs.declared.kind.Delim.{Delim}
use Rattle.lay_piece.specs.declared.kind.Delim.TheVariants.{Brace}
use Rattle.lay_form.specs.Form.{Form, Done, Piece, Part, opener, closer}
use Rattle.lay_form.specs.Notation.{Z, B, H, Z-, B-, H-, C4, I4, I0, piece}
use Rattle.lay_node.specs.tokens.Listing.{listed_form, Grouping, NoMore, OneToken, OneGroup, in_groups}
use Rattle.lay_node.specs.tokens.Pairs.{Seen, Single, Enclosed, is_line_doc, between, leads, seen_token, at_start, behind_group, seen_all}
use Rattle.lay_node.specs.declared.token.Listed.{Listed}
use Rattle.lay_node.specs.declared.tokens.Group.{Group}

abbrev pub opened_by : Delim → Form → Form
opened_by Brace f = B f
opened_by _ f = Z f

abbrev pub closed_by : Bool → Delim → Form → Form
closed_by true d f = H- f
closed_by false Brace f = B- f
closed_by false _ f = Z- f

-- A group with the form `inner` within it. The flag says that its last token is documentation on a
-- line. A group without tokens is one text.
abbrev pub enclosed_form : Delim → Grouping → Bool → Form → Form → Form
enclosed_form d NoMore line inner f = Piece (opener d ∷ closer d ∷ []) f
enclosed_form d _ line inner f = C4 (Piece (opener d ∷ []) (opened_by d (I0 inner (closed_by line d (piece (closer d ∷ [])))))) f

abbrev pub form_of_grouping : Seen → Grouping → Form
form_of_grouping s NoMore = Done
form_of_grouping s (OneToken t r) = leads (between s (Single t)) (listed_form t (Part (form_of_grouping (seen_token s t) r) Done))
form_of_grouping s (OneGroup d i r) = let last = seen_all (at_start s.count) i in
    leads (between s (Enclosed d))
    (enclosed_form d i (is_line_doc last.last) (form_of_grouping (at_start s.count) i)
    (Part (form_of_grouping (behind_group d last.count) r) Done))

-- The end of a list. After documentation on a line it is a newline, since no break of a group
-- follows.
abbrev pub ended_by : Bool → Form
ended_by true = H Done
ended_by false = Done

abbrev pub ends_in_line : List Listed → Bool
ends_in_line ts = is_line_doc (seen_all (at_start 0) (in_groups ts)).last

-- TOK: a token list
abbrev pub token_list : List Listed → Form
token_list ts = I4 (form_of_grouping (at_start 0) (in_groups ts)) (ended_by (ends_in_line ts))

-- a group by itself, and what follows it
abbrev pub group_form : Group → Form → Form
group_form g f = let i = in_groups g.tokens in
    enclosed_form g.delim i (ends_in_line g.tokens) (form_of_grouping (at_start 0) i) f
