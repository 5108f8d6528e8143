-- The break between two neighbours of a token list, decided by them and by what stands before them.
use Rattle.std.specs.Prelude.{ℕ, zero, suc, ◌-◌, Bool, true, false, List, [], ◌∷◌, ◌&&◌, ◌||◌, not, cond, codes}
use Rattle.std.specs.Str.{bytes_eq}
use Rattle.lay_token.specs.Lexes.{is_punct}
use Rattle.lay_piece.specs.Number.{is_index}
use Rattle.lay_piece.specs.Word.{class_of}
use Rattle.lay_piece.specs.declared.kind.Delim.{Delim}
use Rattle.lay_piece.specs.declared.kind.Delim.TheVariants.{Paren, Bracket, Brace}
use Rattle.lay_piece.specs.declared.kind.Kind.TheVariants.{Ident, RawIdent, Int, Float}
use Rattle.lay_piece.specs.declared.word.Class.{Class}
use Rattle.lay_piece.specs.declared.word.Class.TheVariants.{Strict}
use Rattle.lay_form.specs.Form.{Form}
use Rattle.lay_form.specs.Notation.{B, H}
use Rattle.lay_node.specs.tokens.Listing as listing
use Rattle.lay_node.specs.tokens.Listing.{kind_of, text_of, Grouping, NoMore, OneToken, OneGroup}
use Rattle.lay_node.specs.declared.token.Listed.{Listed}

-- ---- neighbours

-- a neighbour of a place: nothing, a single token, or a group in delimiters
pub data Neighbour : Type 0 where
  Nothing : Neighbour
  Single : Listed → Neighbour
  Enclosed : Delim → Neighbour

abbrev pub is_mark : List ℕ → Neighbour → Bool
is_mark character (Single t) = is_punct (kind_of t) && bytes_eq (text_of t) character
is_mark character _ = false

abbrev pub is_joint_neighbour : Neighbour → Bool
is_joint_neighbour (Single t) = listing.is_joint t
is_joint_neighbour _ = false

abbrev pub is_joint_mark : List ℕ → Neighbour → Bool
is_joint_mark character n = is_mark character n && is_joint_neighbour n

abbrev pub is_punct_neighbour : Neighbour → Bool
is_punct_neighbour (Single t) = is_punct (kind_of t)
is_punct_neighbour _ = false

abbrev pub is_doc : Neighbour → Bool
is_doc (Single t) = listing.is_doc t
is_doc _ = false

abbrev pub is_line_doc : Neighbour → Bool
is_line_doc (Single t) = listing.is_line_doc t
is_line_doc _ = false

abbrev pub is_strict_class : Class → Bool
is_strict_class Strict = true
is_strict_class _ = false

abbrev pub is_strict : List ℕ → Bool
is_strict text = is_strict_class (class_of text)

-- a word that is no keyword, a keyword, a word
abbrev pub is_free_word : Neighbour → Bool
is_free_word (Single t) = elim (kind_of t) [ Ident ↦ not (is_strict (text_of t)) | RawIdent ↦ true | _ ↦ false ]
is_free_word _ = false

abbrev pub is_keyword : Neighbour → Bool
is_keyword (Single t) = elim (kind_of t) [ Ident ↦ is_strict (text_of t) | _ ↦ false ]
is_keyword _ = false

abbrev pub is_any_word : Neighbour → Bool
is_any_word (Single t) = elim (kind_of t) [ Ident ↦ true | RawIdent ↦ true | _ ↦ false ]
is_any_word _ = false

abbrev pub is_nothing : Neighbour → Bool
is_nothing Nothing = true
is_nothing _ = false

abbrev pub is_brace : Neighbour → Bool
is_brace (Enclosed Brace) = true
is_brace _ = false

abbrev pub is_bracket : Neighbour → Bool
is_bracket (Enclosed Bracket) = true
is_bracket _ = false

abbrev pub is_paren : Neighbour → Bool
is_paren (Enclosed Paren) = true
is_paren _ = false

-- A number after these two may be a tuple index: after a point, but not after `..`.
abbrev pub is_index_place : Neighbour → Neighbour → Bool
is_index_place before last = is_mark (codes ".") last && not (is_joint_mark (codes ".") before)

-- an Int that is no index, or a Float
abbrev pub is_number : Bool → Neighbour → Bool
is_number place (Single t) = elim (kind_of t) [ Int ↦ not (place && is_index (text_of t)) | Float ↦ true | _ ↦ false ]
is_number place _ = false

-- ---- what stands before a place

-- What the scan of a list knows: the last two neighbours, whether the last one stands where a
-- number may be an index, whether it is a `<` of a turbofish, whether it is the `>` that closes
-- one, and the turbofish's count.
pub record Seen : Type 0 where
  pub before : Neighbour
  pub last : Neighbour
  pub place : Bool
  pub opens : Bool
  pub closes : Bool
  pub count : ℕ

abbrev pub is_positive : ℕ → Bool
is_positive zero = false
is_positive (suc n) = true

-- the turbofish's count, after a `<`, after a `>`, and after any one
abbrev pub raised : Seen → ℕ
raised s = cond (is_positive s.count || is_joint_mark (codes ":") s.last) (suc s.count) s.count

abbrev pub lowered : Seen → ℕ
lowered s = cond (is_joint_mark (codes "-") s.last || is_joint_mark (codes "=") s.last) s.count (s.count - 1)

abbrev pub count_behind : Seen → Neighbour → ℕ
count_behind s r = cond (is_mark (codes "<") r) (raised s) (cond (is_mark (codes ">") r) (lowered s) s.count)

abbrev pub opens_turbofish : Seen → Neighbour → Bool
opens_turbofish s r = is_mark (codes "<") r && is_positive (raised s)

abbrev pub ends_turbofish : Seen → Neighbour → Bool
ends_turbofish s r = is_mark (codes ">") r && is_positive s.count

abbrev pub closes_turbofish : Seen → Neighbour → Bool
closes_turbofish s r = ends_turbofish s r && not (is_positive (lowered s))

abbrev pub seen_token : Seen → Listed → Seen
seen_token s t = record {
  before = s.last;
  last = Single t;
  place = is_index_place s.before s.last;
  opens = opens_turbofish s (Single t);
  closes = closes_turbofish s (Single t);
  count = count_behind s (Single t);
}

-- at the start of a list or of a group
abbrev pub at_start : ℕ → Seen
at_start n = record { before = Nothing; last = Nothing; place = false; opens = false; closes = false; count = n }

-- What stands before a group decides nothing after it.
abbrev pub behind_group : Delim → ℕ → Seen
behind_group d n = record { before = Nothing; last = Enclosed d; place = false; opens = false; closes = false; count = n }

-- after a list
abbrev pub seen_all : Seen → Grouping → Seen
seen_all s NoMore = s
seen_all s (OneToken t r) = seen_all (seen_token s t) r
seen_all s (OneGroup d i r) = seen_all (behind_group d (seen_all (at_start s.count) i).count) r

-- ---- the table

-- what stands between two neighbours; a soft break is a blank or a newline
pub data Separation : Type 0 where
  NoBreak : Separation
  SoftBreak : Separation
  HardBreak : Separation

-- the separation of the first row that fits; without one, a soft break
abbrev pub first_row : List (Bool × Separation) → Separation
first_row [] = SoftBreak
first_row (r ∷ rs) = cond r.0 r.1 (first_row rs)

abbrev pub rows : Seen → Neighbour → List (Bool × Separation)
rows s r = let l = s.last in
    (is_nothing l, NoBreak)
    ∷ (is_line_doc l, HardBreak)
    ∷ (is_doc l || is_doc r, SoftBreak)
    ∷ (is_joint_neighbour l, NoBreak)
    ∷ (is_mark (codes ",") r || is_mark (codes ";") r, NoBreak)
    ∷ (is_punct_neighbour l && is_punct_neighbour r, SoftBreak)
    ∷ (is_mark (codes ".") r && is_number s.place l, SoftBreak)
    ∷ (is_mark (codes ".") r || is_mark (codes "?") r || is_mark (codes ":") r, NoBreak)
    ∷ (is_mark (codes "!") r && not (is_joint_neighbour r) && is_free_word l, NoBreak)
    ∷ (is_mark (codes ".") l || (is_mark (codes ":") l && is_joint_mark (codes ":") s.before && is_any_word r), NoBreak)
    ∷ ((is_mark (codes "!") l || is_mark (codes "$") l) && not (is_brace r), NoBreak)
    ∷ (is_mark (codes "#") l && is_bracket r, NoBreak)
    ∷ (
      (is_mark (codes "&") l || is_mark (codes "*") l || is_mark (codes "-") l)
          && not (is_punct_neighbour s.before && is_joint_neighbour s.before)
          && (is_nothing s.before || (is_punct_neighbour s.before && not (is_mark (codes "?") s.before)) || is_keyword s.before),
      NoBreak,
    )
    ∷ (s.opens || opens_turbofish s r || ends_turbofish s r || (s.closes && is_paren r), NoBreak)
    ∷ ((is_paren r || is_bracket r) && (is_free_word l || is_paren l || is_bracket l), NoBreak)
    ∷ []

abbrev pub between : Seen → Neighbour → Separation
between s r = first_row (rows s r)

abbrev pub leads : Separation → Form → Form
leads NoBreak f = f
leads SoftBreak f = B f
leads HardBreak f = H f
