-- A text is at most one list of parts.
use Rattle.std.proofs.Common.{◌≡◌, ℕ, ◌+◌, List, [], ◌∷◌, ◌++◌, Bool, sym, refl, ap, ◌∙◌, subst}
use Rattle.std.specs.Prelude.{IsTrue}
use Rattle.lay_piece.specs.Begins.{BeginsNoGap, BeginsNoPiece}
use Rattle.lay_piece.specs.Forms.{Had}
use Rattle.lay_piece.specs.Gap.{is_gap, is_last_gap}
use Rattle.lay_token.specs.Lexes.{Part, spell, Before, Other, is_index_place, step, steps, Fit, Lexes, NoTokenAt, tokens_from, size}
use Rattle.lay_piece.specs.declared.kind.Kind.{Kind}
use Rattle.lay_token.specs.declared.token.Token.{Token}
use Rattle.lay_piece.proofs.GapLaws.{piece_no_gap, gap_unique, last_gap_rest}
use Rattle.lay_piece.proofs.Unique.{same_rest, one_piece}

-- two parts at a place
same_part : (p q : Part) (x y : List ℕ) (b : Before) → p.gap ++ (p.piece ++ x) ≡ q.gap ++ (q.piece ++ y)
    → IsTrue (is_gap p.gap) → IsTrue (is_gap q.gap)
    → Had p.kind p.piece x (is_index_place b) → Had q.kind q.piece y (is_index_place b) → (p ≡ q) × (x ≡ y)
same_part p q x y b e g g2 h h2 =
    let gaps : p.gap ≡ q.gap =
    gap_unique p.gap q.gap (p.piece ++ x) (q.piece ++ y) e g g2
    (piece_no_gap p.kind p.piece x (is_index_place b) h)
    (piece_no_gap q.kind q.piece y (is_index_place b) h2) in
    let rests : p.piece ++ x ≡ q.piece ++ y = same_rest p.gap _ _ (e ∙ ap (λ v. v ++ (q.piece ++ y)) (sym gaps)) in
    let one = one_piece p.kind q.kind p.piece q.piece x y (is_index_place b) rests h h2 in
    let whole : p ≡ q = ap (λ v. record { gap = v; kind = p.kind; piece = p.piece }) gaps
    ∙ ap (λ v. record { gap = q.gap; kind = v; piece = p.piece }) one.kind
    ∙ ap (λ v. record { gap = q.gap; kind = q.kind; piece = v }) one.piece in
    (whole, same_rest q.piece x y (ap (λ v. v ++ x) (sym one.piece) ∙ rests))

-- A gap that ends a text isn't a gap and a piece.
no_more : (g last : List ℕ) (k : Kind) (p r : List ℕ) (i : Bool) → last ≡ g ++ (p ++ r) → IsTrue (is_gap g)
    → Had k p r i → IsTrue (is_last_gap last) → ⊥
no_more g last k p r i e h had l =
    let rest = last_gap_rest g (p ++ r) h (sym (ap is_last_gap e) ∙ l) in
    let n = (piece_no_gap k p r i had).unended in
    cc

pub one_list : (b : Before) (ps qs : List Part) (last end : List ℕ) → spell ps last ≡ spell qs end → Fit b ps last
    → Fit b qs end → IsTrue (is_last_gap last) → IsTrue (is_last_gap end) → ps ≡ qs
one_list b [] [] last end e f g l m = refl
one_list b [] (q ∷ qs) last end e f g l m =
    absurd (no_more q.gap last q.kind q.piece (spell qs end) (is_index_place b) e g.0 g.1 l)
one_list b (p ∷ ps) [] last end e f g l m =
    absurd (no_more p.gap end p.kind p.piece (spell ps last) (is_index_place b) (sym e) f.0 f.1 m)
one_list b (p ∷ ps) (q ∷ qs) last end e f g l m =
    let same = same_part p q (spell ps last) (spell qs end) b e f.0 g.0 f.1 g.1 in
    let fit : Fit (step b q) ps last = let P : Part → Type 0 = λ v. Fit (step b v) ps last in subst P same.0 f.2 in
    ap (λ v. v ∷ ps) same.0 ∙ ap (λ v. q ∷ v) (one_list (step b q) ps qs last end same.1 fit g.2 l m)

-- a text lexes to at most one list of tokens
pub lexes_once : (bytes : List ℕ) (start : ℕ) (ts us : List Token) → Lexes bytes start ts → Lexes bytes start us
    → ts ≡ us
lexes_once bytes start ts us l m =
    let same : l.0 ≡ m.0 = one_list Other l.0 m.0 l.1 m.1 (sym l.2.whole
    ∙ m.2.whole) l.2.fit m.2.fit l.2.end m.2.end in
    l.3 ∙ ap (tokens_from start) same ∙ sym m.3

-- Where lexing stops, the text has no parts to its end.
stops_no_parts : (b : Before) (ps qs : List Part) (gap rest end : List ℕ) → spell ps (gap ++ rest) ≡ spell qs end
    → Fit b ps (gap ++ rest) → Fit b qs end → IsTrue (is_gap gap)
    → BeginsNoGap rest → BeginsNoPiece rest (is_index_place (steps b ps)) → IsTrue (is_last_gap end) → ⊥
stops_no_parts b [] [] gap rest end e f g c n p m =
    let l = last_gap_rest gap rest c (ap is_last_gap e ∙ m) in let u = n.unended in cc
stops_no_parts b [] (q ∷ qs) gap rest end e f g c n p m =
    let gaps : gap ≡ q.gap =
    gap_unique gap q.gap rest (q.piece ++ spell qs end) e c g.0 n
    (piece_no_gap q.kind q.piece (spell qs end) (is_index_place b) g.1) in
    let rests : rest ≡ q.piece ++ spell qs end =
    same_rest gap _ _ (e ∙ ap (λ v. v ++ (q.piece ++ spell qs end)) (sym gaps)) in
    p q.kind q.piece (spell qs end) rests g.1
stops_no_parts b (p ∷ ps) [] gap rest end e f g c n none m =
    no_more p.gap end p.kind p.piece (spell ps (gap ++ rest)) (is_index_place b) (sym e) f.0 f.1 m
stops_no_parts b (p ∷ ps) (q ∷ qs) gap rest end e f g c n none m =
    let same = same_part p q (spell ps (gap ++ rest)) (spell qs end) b e f.0 g.0 f.1 g.1 in
    let fit : Fit (step b q) ps (gap ++ rest) =
    let P : Part → Type 0 = λ v. Fit (step b v) ps (gap ++ rest) in subst P same.0 f.2 in
    let still : BeginsNoPiece rest (is_index_place (steps (step b q) ps)) =
    let P : Part → Type 0 = λ v. BeginsNoPiece rest (is_index_place (steps (step b v) ps)) in
    subst P same.0 none in
    stops_no_parts (step b q) ps qs gap rest end same.1 fit g.2 c n still m

-- It stops at one place.
stops_once : (b : Before) (ps qs : List Part) (gap rest gap2 rest2 : List ℕ)
    → spell ps (gap ++ rest) ≡ spell qs (gap2 ++ rest2) → Fit b ps (gap ++ rest) → Fit b qs (gap2 ++ rest2)
    → IsTrue (is_gap gap) → IsTrue (is_gap gap2) → BeginsNoGap rest → BeginsNoGap rest2
    → BeginsNoPiece rest (is_index_place (steps b ps)) → BeginsNoPiece rest2 (is_index_place (steps b qs))
    → spell ps gap ≡ spell qs gap2
stops_once b [] [] gap rest gap2 rest2 e f g c c2 n n2 p p2 = gap_unique gap gap2 rest rest2 e c c2 n n2
stops_once b [] (q ∷ qs) gap rest gap2 rest2 e f g c c2 n n2 p p2 =
    let gaps : gap ≡ q.gap =
    gap_unique gap q.gap rest (q.piece ++ spell qs (gap2 ++ rest2)) e c g.0 n
    (piece_no_gap q.kind q.piece _ (is_index_place b) g.1) in
    absurd (p q.kind q.piece _
    (same_rest gap _ _ (e ∙ ap (λ v. v ++ (q.piece ++ spell qs (gap2 ++ rest2))) (sym gaps))) g.1)
stops_once b (q ∷ qs) [] gap rest gap2 rest2 e f g c c2 n n2 p p2 =
    let gaps : gap2 ≡ q.gap =
    gap_unique gap2 q.gap rest2 (q.piece ++ spell qs (gap ++ rest)) (sym e) c2 f.0 n2
    (piece_no_gap q.kind q.piece _ (is_index_place b) f.1) in
    absurd (p2 q.kind q.piece _
    (same_rest gap2 _ _ (sym e ∙ ap (λ v. v ++ (q.piece ++ spell qs (gap ++ rest))) (sym gaps))) f.1)
stops_once b (p ∷ ps) (q ∷ qs) gap rest gap2 rest2 e f g c c2 n n2 none none2 =
    let same = same_part p q (spell ps (gap ++ rest)) (spell qs (gap2 ++ rest2)) b e f.0 g.0 f.1 g.1 in
    let fit : Fit (step b q) ps (gap ++ rest) =
    let P : Part → Type 0 = λ v. Fit (step b v) ps (gap ++ rest) in subst P same.0 f.2 in
    let still : BeginsNoPiece rest (is_index_place (steps (step b q) ps)) =
    let P : Part → Type 0 = λ v. BeginsNoPiece rest (is_index_place (steps (step b v) ps)) in
    subst P same.0 none in
    ap (λ v. v.gap ++ (v.piece ++ spell ps gap)) same.0
    ∙ ap (λ v. q.gap ++ (q.piece ++ v))
    (stops_once (step b q) ps qs gap rest gap2 rest2 same.1 fit g.2 c c2 n n2 still none2)

pub no_token_once : (bytes : List ℕ) (start at other : ℕ) → NoTokenAt bytes start at → NoTokenAt bytes start other
    → at ≡ other
no_token_once bytes start at other l m =
    let same = stops_once Other l.0 m.0 l.1 l.2 m.1 m.2 (sym l.3.whole
    ∙ m.3.whole) l.3.fit m.3.fit l.3.closed m.3.closed l.3.no_gap m.3.no_gap l.3.no_piece m.3.no_piece in
    l.4 ∙ ap (λ v. start + size v) same ∙ sym m.4

pub no_token_or_tokens : (bytes : List ℕ) (start at : ℕ) (ts : List Token) → NoTokenAt bytes start at
    → Lexes bytes start ts → ⊥
no_token_or_tokens bytes start at ts l m =
    stops_no_parts Other l.0 m.0 l.1 l.2 m.1 (sym l.3.whole
    ∙ m.2.whole) l.3.fit m.2.fit l.3.closed l.3.no_gap l.3.no_piece m.2.end
