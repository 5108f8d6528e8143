-- The rows of the table that need no test where a neighbour is no punctuation.
use Rattle.std.proofs.Common.{◌≡◌, Bool, true, false, cond, not, ◌&&◌, ◌||◌, List, drop, ℕ, codes, refl, sym}
use Rattle.std.specs.Str.{bytes_eq}
use Rattle.lay_token.specs.Lexes.{is_punct}
use Rattle.lay_node.specs.tokens.Listing.{kind_of, text_of}
use Rattle.lay_node.specs.tokens.Pairs.{Neighbour, Nothing, Single, Enclosed, Seen, Separation, NoBreak, SoftBreak}
use Rattle.lay_node.specs.tokens.Pairs.{first_row, rows, is_mark, is_joint_mark, is_joint_neighbour, is_punct_neighbour}
use Rattle.lay_node.specs.tokens.Pairs.{is_any_word, is_number, is_free_word, is_keyword, is_nothing, is_brace}
use Rattle.lay_node.specs.tokens.Pairs.{is_bracket}

pub and_false : (a b : Bool) → a ≡ false → (a && b) ≡ false
and_false true b h = cc
and_false false b h = refl

no_mark : (character : List ℕ) (n : Neighbour) → is_punct_neighbour n ≡ false → is_mark character n ≡ false
no_mark character Nothing h = refl
no_mark character (Single t) h = and_false (is_punct (kind_of t)) (bytes_eq (text_of t) character) h
no_mark character (Enclosed d) h = refl

skip_before : (comma semicolon last next point question colon bang : Bool) (number apart free : Bool)
    (rest : Separation)
    → comma ≡ false → semicolon ≡ false → next ≡ false → point ≡ false → question ≡ false → colon ≡ false → bang ≡ false
    → cond (comma || semicolon) NoBreak (cond (last && next) SoftBreak (cond (point && number) SoftBreak
    (cond (point || question || colon) NoBreak (cond (bang && apart && free) NoBreak rest)))) ≡ rest
skip_before comma semicolon true next point question colon bang number apart free rest a b c d e f g =
    rw (a, b, c, d, e, f, g) refl
skip_before comma semicolon false next point question colon bang number apart free rest a b c d e f g =
    rw (a, b, d, e, f, g) refl

-- before what is no punctuation
pub rows_before : (s : Seen) (r : Neighbour) → is_punct_neighbour r ≡ false
    → first_row (drop 9 (rows s r)) ≡ first_row (drop 4 (rows s r))
rows_before s r h =
    sym
    (skip_before (is_mark (codes ",") r) (is_mark (codes ";") r) (is_punct_neighbour s.last) (is_punct_neighbour r)
    (is_mark (codes ".") r) (is_mark (codes "?") r) (is_mark (codes ":") r) (is_mark (codes "!") r)
    (is_number s.place s.last) (not (is_joint_neighbour r)) (is_free_word s.last) (first_row (drop 9 (rows s r)))
    (no_mark _ r h) (no_mark _ r h) h (no_mark _ r h) (no_mark _ r h) (no_mark _ r h) (no_mark _ r h))

skip_behind : (point colon bang dollar hash and star minus : Bool) (path word group bracket apart free : Bool)
    (rest : Separation)
    → point ≡ false → colon ≡ false → bang ≡ false → dollar ≡ false → hash ≡ false → and ≡ false → star ≡ false
    → minus ≡ false
    → cond (point || (colon && path && word)) NoBreak
    (cond ((bang || dollar) && group) NoBreak (cond (hash && bracket) NoBreak
    (cond ((and || star || minus) && apart && free) NoBreak rest))) ≡ rest
skip_behind point colon bang dollar hash and star minus path word group bracket apart free rest a b c d e f g h =
    rw (a, b, c, d, e, f, g, h) refl

-- after what is no punctuation
pub rows_behind : (s : Seen) (r : Neighbour) → is_punct_neighbour s.last ≡ false
    → first_row (drop 13 (rows s r)) ≡ first_row (drop 9 (rows s r))
rows_behind s r h =
    sym
    (skip_behind (is_mark (codes ".") s.last) (is_mark (codes ":") s.last) (is_mark (codes "!") s.last)
    (is_mark (codes "$") s.last)
    (is_mark (codes "#") s.last) (is_mark (codes "&") s.last) (is_mark (codes "*") s.last) (is_mark (codes "-") s.last)
    (is_joint_mark (codes ":") s.before) (is_any_word r) (not (is_brace r)) (is_bracket r)
    (not (is_punct_neighbour s.before && is_joint_neighbour s.before))
    (is_nothing s.before || (is_punct_neighbour s.before && not (is_mark (codes "?") s.before)) || is_keyword s.before)
    (first_row (drop 13 (rows s r)))
    (no_mark _ s.last h) (no_mark _ s.last h) (no_mark _ s.last h) (no_mark _ s.last h)
    (no_mark _ s.last h) (no_mark _ s.last h) (no_mark _ s.last h) (no_mark _ s.last h))

pub no_rows : (a b c d e : Bool) (rest : Separation) → a ≡ false → b ≡ false → c ≡ false → d ≡ false → e ≡ false
    → rest ≡ cond a NoBreak (cond b SoftBreak (cond c SoftBreak (cond d NoBreak (cond e NoBreak rest))))
no_rows a b c d e rest f g h i j = rw (f, g, h, i, j) refl
