-- The scan is sound: `Had` accepts what it finds.
use Rattle.std.proofs.Common.{◌≡◌, inl, inr, ℕ, List, [], ◌∷◌, ◌++◌, Bool, true, false, cond, not, ◌&&◌, ◌||◌, Option, Some, None, sym, refl, ap, ◌∙◌, subst}
use Rattle.std.specs.Prelude.{◌==◌, codes, option_and_then, encode_utf8_all}
use Rattle.std.specs.List.{list_any}
use Rattle.std.proofs.lemmas.Bool.{cases_Bool, and_parts, and_from, eqb-true, not-true}
use Rattle.lay_piece.specs.Chars.{begins, front, after, behind, begins_suffix, starts_word, in_word}
use Rattle.lay_piece.specs.Scan.{run}
use Rattle.lay_piece.specs.Quoted.{Deep, doc_step}
use Rattle.lay_piece.specs.Word.{is_path_word}
use Rattle.lay_piece.specs.Forms.{had, Had, has_form, may_precede, after_literal, is_punct_char, is_whole}
use Rattle.lay_piece.specs.Found.{FrontPiece, found, or_else, literal, raw_name, raw_word, byte_word, c_word, prefixed, word, lifetime, quote, line_doc, line_comment, block_comment, slash, single, is_mark, is_tick, in_doc_line, is_star_or_slash}
use Rattle.lay_piece.specs.declared.kind.Delim.TheVariants.{Paren, Bracket, Brace}
use Rattle.lay_piece.specs.declared.kind.Kind.{Kind}
use Rattle.lay_piece.specs.declared.kind.Kind.TheVariants.{Ident, RawIdent, Underscore, Lifetime, Char, RawStr, Byte, ByteStr, RawByteStr, CStr, RawCStr, Punct, Opener, Closer, Doc}
use Rattle.lay_piece.proofs.Fronts.{begins_left, front-after, each-front, after-stops, nil_front}
use Rattle.lay_piece.proofs.Literals.{is_literal, literal_had, suffix_front, run-split}
use Rattle.lay_piece.proofs.Booleans.{neither, equal_both}

-- A piece of the kind is had at the beginning of the text, before the rest.
pub record Stands (i : Bool) (cs : List ℕ) (k : Kind) (r : List ℕ) : Type 0 where
  pub piece : List ℕ
  pub whole : cs ≡ piece ++ r
  pub is_had : Had k piece r i

-- What is found, if anything is, stands there.
abbrev pub Sound : Bool → List ℕ → FrontPiece → Type 0
Sound i cs None = Unit {0}
Sound i cs (Some f) = Stands i cs f.0 f.1

pub sound_cond : (i : Bool) (cs : List ℕ) (b : Bool) (x y : FrontPiece) → (b ≡ true → Sound i cs x)
    → (b ≡ false → Sound i cs y) → Sound i cs (cond b x y)
sound_cond i cs true x y f g = f refl
sound_cond i cs false x y f g = g refl

pub sound_or : (i : Bool) (cs : List ℕ) (x y : FrontPiece) → Sound i cs x → Sound i cs y → Sound i cs (or_else x y)
sound_or i cs None y f g = g
sound_or i cs (Some x) y f g = f

-- the first character is known
pub sound_at : (i : Bool) (c n : ℕ) (pre cs : List ℕ) (x : FrontPiece) → c == n ≡ true → Sound i (pre ++ n ∷ cs) x
    → Sound i (pre ++ c ∷ cs) x
sound_at i c n pre cs x e s =
    let P : ℕ → Type 0 = λ v. Sound i (pre ++ v ∷ cs) x in subst P (sym (eqb-true c n e)) s

-- literals
pub literal_sound : (k : Kind) (i : Bool) (cs : List ℕ) (o : Option (List ℕ)) → is_literal k ≡ true
    → after_literal k cs ≡ o → Sound i cs (literal k o)
literal_sound k i cs None l e = tt
literal_sound k i cs (Some y) l e =
    let h = literal_had k cs y i l e in record { piece = h.0; whole = h.1; is_had = h.2 }

-- words
stops_both : (r : List ℕ) → begins in_word r ≡ false → begins is_mark r ≡ false
    → not (begins (λ c. in_word c || c == 34 || c == 39 || c == 35) r) ≡ true
stops_both [] h g = refl
stops_both (c ∷ r) h g = rw h (ap not g)

word_had : (i : Bool) (c : ℕ) (cs : List ℕ) (lone : Bool) → starts_word c ≡ true
    → begins is_mark (after in_word cs) ≡ false
    → c == 95 && not (begins in_word cs) ≡ lone
    → Had (cond lone Underscore Ident) (c ∷ front in_word cs) (after in_word cs) i
unfolding had has_form may_precede
word_had i c cs true h m e = rw (nil_front in_word cs, e) (stops_both (after in_word cs) (after-stops in_word cs) m)
word_had i c cs false h m e =
    rw (h, each-front in_word cs, nil_front in_word cs, e)
    (stops_both (after in_word cs) (after-stops in_word cs) m)

raw_name_had : (i : Bool) (ds : List ℕ)
    → begins_suffix ds && not (is_path_word (encode_utf8_all (front in_word ds))) ≡ true
    → Had RawIdent (114 ∷ 35 ∷ front in_word ds) (after in_word ds) i
unfolding had has_form may_precede
raw_name_had i ds h =
    let parts = and_parts (begins_suffix ds) _ h in
    and_from _ _ (and_from _ _ (suffix_front ds parts.0) parts.1) (ap not (after-stops in_word ds))

raw_name_sound : (i : Bool) (ds : List ℕ) → Sound i (114 ∷ 35 ∷ ds) (raw_name ds)
raw_name_sound i ds = sound_cond i _
    (begins_suffix ds && not (is_path_word (encode_utf8_all (front in_word ds)))) _ _
    (λ h. record {
      piece = 114 ∷ 35 ∷ front in_word ds;
      whole =
          ap (λ l. 114 ∷ 35 ∷ l) (front-after in_word ds);
      is_had = raw_name_had i ds h;
    })
    (λ h. tt)

raw_word_sound : (i : Bool) (cs : List ℕ) → Sound i (114 ∷ cs) (raw_word cs)
unfolding after_literal
raw_word_sound i cs = sound_or i (114 ∷ cs) _ _ (literal_sound RawStr i (114 ∷ cs) _ refl refl) (name cs)
  where
    name : (cs : List ℕ) → Sound i (114 ∷ cs) (behind None (codes "#") raw_name cs)
    name [] = tt
    name (d ∷ ds) = sound_cond i (114 ∷ d ∷ ds) (35 == d) _ _
        (λ e. sound_at i d 35 (114 ∷ []) ds (raw_name ds) (equal_both 35 d e) (raw_name_sound i ds)) (λ e. tt)

byte_word_sound : (i : Bool) (cs : List ℕ) → Sound i (98 ∷ cs) (byte_word cs)
unfolding after_literal
byte_word_sound i [] = tt
byte_word_sound i (c ∷ cs) =
    sound_cond i _ (c == 39) _ _
    (λ e. sound_at i c 39 (98 ∷ []) cs _ e (literal_sound Byte i (98 ∷ 39 ∷ cs) _ refl refl)) (λ n.
    sound_cond i _ (c == 34) _ _
    (λ e. sound_at i c 34 (98 ∷ []) cs _ e (literal_sound ByteStr i (98 ∷ 34 ∷ cs) _ refl refl)) (λ n.
    sound_cond i _ (c == 114) _ _
    (λ e. sound_at i c 114 (98 ∷ []) cs _ e (literal_sound RawByteStr i (98 ∷ 114 ∷ cs) _ refl refl))
    (λ n. tt)))

c_word_sound : (i : Bool) (cs : List ℕ) → Sound i (99 ∷ cs) (c_word cs)
unfolding after_literal
c_word_sound i [] = tt
c_word_sound i (c ∷ cs) =
    sound_cond i _ (c == 34) _ _
    (λ e. sound_at i c 34 (99 ∷ []) cs _ e (literal_sound CStr i (99 ∷ 34 ∷ cs) _ refl refl)) (λ n.
    sound_cond i _ (c == 114) _ _
    (λ e. sound_at i c 114 (99 ∷ []) cs _ e (literal_sound RawCStr i (99 ∷ 114 ∷ cs) _ refl refl)) (λ n. tt))

prefixed_sound : (i : Bool) (c : ℕ) (cs : List ℕ) → Sound i (c ∷ cs) (prefixed c cs)
prefixed_sound i c cs =
    sound_cond i _ (c == 114) _ _ (λ e. sound_at i c 114 [] cs _ e (raw_word_sound i cs)) (λ n.
    sound_cond i _ (c == 98) _ _ (λ e. sound_at i c 98 [] cs _ e (byte_word_sound i cs)) (λ n.
    sound_cond i _ (c == 99) _ _ (λ e. sound_at i c 99 [] cs _ e (c_word_sound i cs)) (λ n. tt)))

pub word_sound : (i : Bool) (c : ℕ) (cs : List ℕ) → starts_word c ≡ true → Sound i (c ∷ cs) (word c cs)
word_sound i c cs h = sound_cond i _ (begins is_mark (after in_word cs)) _ _ (λ m. prefixed_sound i c cs)
    (λ m. record {
      piece = c ∷ front in_word cs;
      whole = ap (λ l. c ∷ l) (front-after in_word cs);
      is_had = word_had i c cs (c == 95 && not (begins in_word cs)) h m refl;
    })

-- lifetimes and characters
tick_stops : (r : List ℕ) → begins in_word r ≡ false → begins is_tick r ≡ false
    → not (begins (λ c. in_word c || c == 39 || c == 35) r) ≡ true
tick_stops [] h g = refl
tick_stops (c ∷ r) h g = rw h (ap not g)

lifetime_had : (i : Bool) (c : ℕ) (cs : List ℕ) → starts_word c && not (begins is_tick (after in_word cs)) ≡ true
    → Had Lifetime (39 ∷ c ∷ front in_word cs) (after in_word cs) i
unfolding had has_form may_precede
lifetime_had i c cs h =
    let parts = and_parts (starts_word c) _ h in
    and_from _ _ (and_from _ _ parts.0 (each-front in_word cs))
    (tick_stops (after in_word cs) (after-stops in_word cs) (not-true _ parts.1))

lifetime_sound : (i : Bool) (cs : List ℕ) → Sound i (39 ∷ cs) (lifetime cs)
lifetime_sound i [] = tt
lifetime_sound i (c ∷ cs) = sound_cond i _ (starts_word c && not (begins is_tick (after in_word cs))) _ _
    (λ h. record {
      piece = 39 ∷ c ∷ front in_word cs;
      whole = ap (λ l. 39 ∷ c ∷ l) (front-after in_word cs);
      is_had =
          lifetime_had i c cs h;
    })
    (λ h. tt)

pub quote_sound : (i : Bool) (cs : List ℕ) → Sound i (39 ∷ cs) (quote cs)
unfolding after_literal
quote_sound i cs = sound_or i (39 ∷ cs) _ _ (literal_sound Char i (39 ∷ cs) _ refl refl) (lifetime_sound i cs)

-- documentation
no_ends : (cs : List ℕ) → list_any (λ c. c == 10 || c == 13) (front in_doc_line cs) ≡ false
no_ends [] = refl
no_ends (c ∷ cs) = elim (cases_Bool (c == 10 || c == 13)) [ inl e ↦ rw e refl | inr e ↦ rw (e, e) (no_ends cs) ]

pub begins_front : (p q : ℕ → Bool) (cs : List ℕ) → begins p cs ≡ false → begins p (front q cs) ≡ false
begins_front p q [] h = refl
begins_front p q (c ∷ cs) h = elim (cases_Bool (q c)) [ inl e ↦ rw e h | inr e ↦ rw e refl ]

line_stops : (r : List ℕ) → begins in_doc_line r ≡ false → begins (λ c. c == 13) r ≡ false
    → not (begins (λ c. not (c == 10)) r) ≡ true
line_stops [] h g = refl
line_stops (c ∷ r) h g = by_case (c == 10) (c == 13) h g
  where
    by_case : (a b : Bool) → not (a || b) ≡ false → b ≡ false → not (not a) ≡ true
    by_case true b h g = refl
    by_case false b h g = cc

inner_line_had : (i : Bool) (cs : List ℕ) → begins (λ c. c == 13) (after in_doc_line cs) ≡ false
    → Had (Doc true false) (47 ∷ 47 ∷ 33 ∷ front in_doc_line cs) (after in_doc_line cs) i
unfolding had has_form may_precede
inner_line_had i cs g =
    and_from _ _ (ap not (no_ends cs)) (line_stops (after in_doc_line cs) (after-stops in_doc_line cs) g)

outer_line_had : (i : Bool) (cs : List ℕ) → begins (λ c. c == 47) cs ≡ false
    → begins (λ c. c == 13) (after in_doc_line cs) ≡ false
    → Had (Doc false false) (47 ∷ 47 ∷ 47 ∷ front in_doc_line cs) (after in_doc_line cs) i
unfolding had has_form may_precede
outer_line_had i cs h g =
    and_from _ _ (and_from _ _ (ap not (begins_front (λ c. c == 47) in_doc_line cs h)) (ap not (no_ends cs)))
    (line_stops (after in_doc_line cs) (after-stops in_doc_line cs) g)

line_sound : (i : Bool) (inner : Bool) (d : ℕ) (cs : List ℕ)
    → (begins (λ c. c == 13) (after in_doc_line cs) ≡ false
    → Had (Doc inner false) (47 ∷ 47 ∷ d ∷ front in_doc_line cs) (after in_doc_line cs) i)
    → Sound i (47 ∷ 47 ∷ d ∷ cs) (line_doc inner cs)
line_sound i inner d cs h =
    sound_cond i _ (begins (λ c. c == 13) (after in_doc_line cs)) _ _ (λ g. tt) (λ g. record {
      piece = 47 ∷ 47 ∷ d ∷ front in_doc_line cs;
      whole = ap (λ l. 47 ∷ 47 ∷ d ∷ l) (front-after in_doc_line cs);
      is_had = h g;
    })

line_comment_sound : (i : Bool) (cs : List ℕ) → Sound i (47 ∷ 47 ∷ cs) (line_comment cs)
line_comment_sound i [] = tt
line_comment_sound i (c ∷ cs) =
    sound_cond i _ (c == 33) _ _
    (λ e. sound_at i c 33 (47 ∷ 47 ∷ []) cs _ e (line_sound i true 33 cs (inner_line_had i cs))) (λ n.
    sound_cond i _ (c == 47 && not (begins (λ d. d == 47) cs)) _ _ (λ e.
    let parts = and_parts (c == 47) _ e in
    sound_at i c 47 (47 ∷ 47 ∷ []) cs _ parts.0
    (line_sound i false 47 cs (outer_line_had i cs (not-true _ parts.1)))) (λ n. tt))

inner_block_had : (i : Bool) (p r : List ℕ) → run doc_step (Deep 0) p ≡ Some []
    → Had (Doc true true) (47 ∷ 42 ∷ 33 ∷ p) r i
unfolding had has_form may_precede
inner_block_had i p r h = and_from _ _ (ap is_whole h) refl

outer_block_had : (i : Bool) (p r : List ℕ) → begins is_star_or_slash p ≡ false → run doc_step (Deep 0) p ≡ Some []
    → Had (Doc false true) (47 ∷ 42 ∷ 42 ∷ p) r i
unfolding had has_form may_precede
outer_block_had i p r g h = and_from _ _ (and_from _ _ (ap not g) (ap is_whole h)) refl

block_sound : (i : Bool) (inner : Bool) (d : ℕ) (cs : List ℕ) (o : Option (List ℕ)) → run doc_step (Deep 0) cs ≡ o
    → ((p r : List ℕ) → cs ≡ p ++ r → run doc_step (Deep 0) p ≡ Some []
    → Had (Doc inner true) (47 ∷ 42 ∷ d ∷ p) r i)
    → Sound i (47 ∷ 42 ∷ d ∷ cs) (option_and_then (λ rest. found (Doc inner true) rest) o)
block_sound i inner d cs None e h = tt
block_sound i inner d cs (Some r) e h =
    let s = run-split doc_step (Deep 0) cs r e in
    record { piece = 47 ∷ 42 ∷ d ∷ s.0; whole = ap (λ l. 47 ∷ 42 ∷ d ∷ l) s.1; is_had = h s.0 r s.1 s.2 }

block_comment_sound : (i : Bool) (cs : List ℕ) → Sound i (47 ∷ 42 ∷ cs) (block_comment cs)
block_comment_sound i [] = tt
block_comment_sound i (c ∷ cs) =
    sound_cond i _ (c == 33) _ _
    (λ e. sound_at i c 33 (47 ∷ 42 ∷ []) cs _ e
    (block_sound i true 33 cs _ refl (λ p r w h. inner_block_had i p r h))) (λ n.
    sound_cond i _ (c == 42 && not (begins is_star_or_slash cs)) _ _ (λ e.
    let parts = and_parts (c == 42) _ e in
    sound_at i c 42 (47 ∷ 42 ∷ []) cs _ parts.0 (block_sound i false 42 cs _ refl
    (λ p r w h. outer_block_had i p r
    (begins_left is_star_or_slash p r (ap (begins is_star_or_slash) (sym w) ∙ not-true _ parts.1)) h)))
    (λ n. tt))

-- single characters
slash_had : (i : Bool) (cs : List ℕ) → begins (λ c. c == 47 || c == 42) cs ≡ false → Had Punct (47 ∷ []) cs i
unfolding had has_form may_precede
slash_had i cs h = ap not h

pub slash_sound : (i : Bool) (cs : List ℕ) → Sound i (47 ∷ cs) (slash cs)
slash_sound i [] = record { piece = 47 ∷ []; whole = refl; is_had = slash_had i [] refl }
slash_sound i (c ∷ cs) =
    sound_cond i _ (c == 47) _ _ (λ e. sound_at i c 47 (47 ∷ []) cs _ e (line_comment_sound i cs)) (λ n.
    sound_cond i _ (c == 42) _ _ (λ e. sound_at i c 42 (47 ∷ []) cs _ e (block_comment_sound i cs)) (λ m.
    record { piece = 47 ∷ []; whole = refl; is_had = slash_had i (c ∷ cs) (neither _ _ n m) }))

punct_had : (i : Bool) (c : ℕ) (cs : List ℕ) → is_punct_char c ≡ true → c == 47 ≡ false → Had Punct (c ∷ []) cs i
unfolding had has_form may_precede
punct_had i c cs h n = rw (h, n) refl

opener_had : (i : Bool) (cs : List ℕ)
    → Had (Opener Paren) (40 ∷ []) cs i × Had (Opener Bracket) (91 ∷ []) cs i × Had (Opener Brace) (123 ∷ []) cs i
unfolding had has_form may_precede
opener_had i cs = (refl, refl, refl)

closer_had : (i : Bool) (cs : List ℕ)
    → Had (Closer Paren) (41 ∷ []) cs i × Had (Closer Bracket) (93 ∷ []) cs i × Had (Closer Brace) (125 ∷ []) cs i
unfolding had has_form may_precede
closer_had i cs = (refl, refl, refl)

one_sound : (i : Bool) (c n : ℕ) (k : Kind) (cs : List ℕ) → Had k (n ∷ []) cs i → c == n ≡ true
    → Sound i (c ∷ cs) (found k cs)
one_sound i c n k cs h e = sound_at i c n [] cs (found k cs) e (record { piece = n ∷ []; whole = refl; is_had = h })

pub single_sound : (i : Bool) (c : ℕ) (cs : List ℕ) → c == 47 ≡ false → Sound i (c ∷ cs) (single c cs)
single_sound i c cs n =
    sound_cond i _ (c == 40) _ _ (one_sound i c 40 (Opener Paren) cs (opener_had i cs).0) (λ e.
    sound_cond i _ (c == 41) _ _ (one_sound i c 41 (Closer Paren) cs (closer_had i cs).0) (λ e.
    sound_cond i _ (c == 91) _ _ (one_sound i c 91 (Opener Bracket) cs (opener_had i cs).1) (λ e.
    sound_cond i _ (c == 93) _ _ (one_sound i c 93 (Closer Bracket) cs (closer_had i cs).1) (λ e.
    sound_cond i _ (c == 123) _ _ (one_sound i c 123 (Opener Brace) cs (opener_had i cs).2) (λ e.
    sound_cond i _ (c == 125) _ _ (one_sound i c 125 (Closer Brace) cs (closer_had i cs).2) (λ e.
    sound_cond i _ (is_punct_char c) _ _
    (λ h. record { piece = c ∷ []; whole = refl; is_had = punct_had i c cs h n }) (λ e. tt)))))))
