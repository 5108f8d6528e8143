-- Visibilities: when they are well formed, their forms, and what may follow (Rust Reference,
-- "Visibility and privacy").
use Rattle.std.specs.Prelude.{ℕ, ◌&&◌, ◌||◌, not, Bool, true, false, List, [], ◌∷◌, codes, Option, Some, None}
use Rattle.lay_piece.specs.declared.kind.Delim.TheVariants.{Paren}
use Rattle.lay_form.specs.Form.{Bit, Blank, Form, Done, Piece, Part, keyword, opener, closer}
use Rattle.lay_form.specs.Notation.{piece}
use Rattle.lay_node.specs.Ahead.{Tokens, first, tail, is_keyword, opens, closes}
use Rattle.lay_node.specs.nodes.Facts.{Told}
use Rattle.lay_node.specs.nodes.SimplePath.{is_simple_path, simple_path_form}
use Rattle.lay_node.specs.reader.SimplePath.{simple_path}
use Rattle.lay_node.specs.declared.simple_path.SimplePath.{SimplePath}
use Rattle.lay_node.specs.declared.vis.Vis.{Vis}
use Rattle.lay_node.specs.declared.vis.Vis.TheVariants as vis

abbrev pub pub_word : List Bit
pub_word = keyword (codes "pub") ∷ Blank ∷ []

-- `pub` and a word in parentheses
abbrev pub restricted : List ℕ → List Bit
restricted word = keyword (codes "pub") ∷ opener Paren ∷ keyword word ∷ closer Paren ∷ Blank ∷ []

abbrev pub pub_in : List Bit
pub_in = keyword (codes "pub") ∷ opener Paren ∷ keyword (codes "in") ∷ Blank ∷ []

abbrev pub vis_form : Vis → Form
vis_form vis.Inherited = Done
vis_form vis.Public = piece pub_word
vis_form vis.Crate = piece (restricted (codes "crate"))
vis_form vis.Own = piece (restricted (codes "self"))
vis_form vis.Super = piece (restricted (codes "super"))
vis_form (vis.In path) = Piece pub_in (Part (simple_path_form path) (piece (closer Paren ∷ Blank ∷ [])))

abbrev pub is_vis : Vis → Bool
is_vis (vis.In path) = is_simple_path path
is_vis _ = true

-- ---- what would make it longer

-- this word in parentheses
abbrev pub restricts_to : List ℕ → Tokens → Bool
restricts_to word ts = first (opens Paren) ts && (first (is_keyword word) (tail ts) && first (closes Paren) (tail (tail ts)))

abbrev pub is_closed : Option (SimplePath × Tokens) → Bool
is_closed None = false
is_closed (Some p) = first (closes Paren) p.1

-- `in` and a path in parentheses
abbrev pub restricts_in : Tokens → Bool
restricts_in ts = first (opens Paren) ts && (first (is_keyword (codes "in")) (tail ts) && is_closed (simple_path (tail (tail ts))))

abbrev pub restricts : Tokens → Bool
restricts ts =
    restricts_to (codes "crate") ts || (restricts_to (codes "self") ts || (restricts_to (codes "super") ts || restricts_in ts))

-- After no visibility no `pub` may follow, and after `pub` no restriction.
abbrev pub vis_follows : Vis → Tokens → Bool
vis_follows vis.Inherited ts = not (first (is_keyword (codes "pub")) ts)
vis_follows vis.Public ts = not (restricts ts)
vis_follows _ ts = true

abbrev pub about_vis : Vis → Told
about_vis v = record { form = vis_form v; good = is_vis v; follows = vis_follows v }
