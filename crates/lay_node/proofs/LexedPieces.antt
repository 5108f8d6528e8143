-- The tokens that a text lexes to are pieces of their kinds.
use Rattle.std.proofs.Common.{◌≡◌, ℕ, ◌+◌, ◌-◌, List, [], ◌∷◌, ◌++◌, Bool, true, false, cond, not, ◌&&◌, ◌||◌, length, take, drop, refl, sym, ap, ◌∙◌, subst, IsUtf8}
use Rattle.std.specs.Prelude.{◌==◌, codes}
use Rattle.std.specs.List.{list_all, list_any}
use Rattle.std.specs.Char.{is_ascii_digit}
use Rattle.std.specs.Str.{encode_utf8_all, is_utf8}
use Rattle.std.proofs.lemmas.Bool.{and_parts, and_from, ne_eqb, both_ways, or_left}
use Rattle.std.proofs.lemmas.Str.{chars-encodes, scalars-chars}
use lib.Utf8.{scalars}
use Rattle.lay_piece.specs.Chars.{begins, front, after, is_suffix, in_word, in_digits, without_end}
use Rattle.lay_piece.specs.Forms.{had, Had, has_form, may_precede, is_number_kind, is_int_kind}
use Rattle.lay_token.specs.Lexes.{Part, Before, Other, spell, step, is_index_place, Fit, size, doc_text, text_of_piece, tokens_from, Lexes}
use Rattle.lay_piece.specs.Number.{base_of, digits_of, in_run, is_run_in, is_int, is_index, is_int_suffix, fronts_index}
use Rattle.lay_piece.specs.Word.{is_path_word}
use Rattle.lay_piece.specs.declared.piece.numbers.Base.{Base}
use Rattle.lay_piece.specs.declared.piece.numbers.Base.TheVariants.{Decimal}
use Rattle.lay_piece.specs.declared.kind.Kind.{Kind}
use Rattle.lay_piece.specs.declared.kind.Kind.TheVariants.{RawIdent, Int, Doc}
use Rattle.lay_token.specs.declared.token.Token.{Token}
use Rattle.lay_piece.proofs.Characters.{digit_parts}
use Rattle.lay_piece.proofs.Complete.{behind_true}
use Rattle.lay_token.proofs.Encoding.{scalars_parts}
use Rattle.lay_form.specs.Pieces.{is_text_of}
use Rattle.lay_node.specs.tokens.Texts.{are_texts}
use Rattle.lay_node.proofs.Scalars.{text_utf8, scalars_drop, scalars_take, scalars_cond, scalars_without_end}

-- ---- an index is an integer

no_letter : (c n : ℕ) → is_ascii_digit c ≡ true → is_ascii_digit n ≡ false → c == n ≡ false
no_letter c n h g = ne_eqb c n (λ e. both_ways (is_ascii_digit n) g (sym (ap is_ascii_digit e) ∙ h))

either_way : (b : Bool) → cond b Decimal Decimal ≡ Decimal
either_way true = refl
either_way false = refl

index_base : (c : ℕ) (cs : List ℕ) → list_all is_ascii_digit cs ≡ true → base_of (c ∷ cs) ≡ Decimal
index_base c [] h = either_way (48 == c)
index_base c (d ∷ cs) h =
    let g = (and_parts (is_ascii_digit d) (list_all is_ascii_digit cs) h).0 in
    rw (no_letter d 120 g refl, no_letter d 111 g refl, no_letter d 98 g refl) (either_way (48 == c))

digits_front : (cs : List ℕ) → list_all is_ascii_digit cs ≡ true → (front in_digits cs ≡ cs) × (after in_digits cs ≡ [])
digits_front [] h = (refl, refl)
digits_front (c ∷ cs) h =
    let p = and_parts (is_ascii_digit c) (list_all is_ascii_digit cs) h in
    let d : in_digits c ≡ true = (digit_parts c p.0).2 in
    let more = digits_front cs p.1 in
    (rw d (ap (λ l. c ∷ l) more.0), rw d more.1)

digits_run : (cs : List ℕ) → list_all is_ascii_digit cs ≡ true → list_all (λ c. is_ascii_digit c || c == 95) cs ≡ true
digits_run [] h = refl
digits_run (c ∷ cs) h =
    let p = and_parts (is_ascii_digit c) (list_all is_ascii_digit cs) h in
    and_from (is_ascii_digit c || c == 95) _ (digit_parts c p.0).2 (digits_run cs p.1)

-- an integer, where its base is given
abbrev is_int_in : Base → List ℕ → Bool
is_int_in b cs = begins is_ascii_digit cs && is_run_in b (front (in_run b) (digits_of b cs))
    && is_int_suffix b (after (in_run b) (digits_of b cs))

decimal_int : (c : ℕ) (cs : List ℕ) → is_ascii_digit c ≡ true → list_all is_ascii_digit (c ∷ cs) ≡ true
    → is_int_in Decimal (c ∷ cs) ≡ true
decimal_int c cs d h =
    let all = digits_front (c ∷ cs) h in
    let run : is_run_in Decimal (c ∷ cs) ≡ true =
    and_from (list_any is_ascii_digit (c ∷ cs)) _ (or_left (is_ascii_digit c) _ d) (digits_run (c ∷ cs) h) in
    and_from (is_ascii_digit c && is_run_in Decimal (front in_digits (c ∷ cs))) _
    (and_from (is_ascii_digit c) _ d (ap (is_run_in Decimal) all.0 ∙ run)) (ap (is_int_suffix Decimal) all.1)

index_int : (cs : List ℕ) → is_index cs ≡ true → is_int cs ≡ true
index_int [] h = cc
index_int (c ∷ cs) h =
    let p = and_parts (is_ascii_digit c) (list_all is_ascii_digit (c ∷ cs)) h in
    let q = and_parts (is_ascii_digit c) (list_all is_ascii_digit cs) p.1 in
    ap (λ b. is_int_in b (c ∷ cs)) (index_base c cs q.1) ∙ decimal_int c cs p.0 p.1

-- ---- the text of a piece

int_form : (k : Kind) (piece : List ℕ) → is_int_kind k && is_index piece ≡ true → has_form k piece ≡ true
unfolding has_form
int_form Int piece h = index_int piece h
int_form _ piece h = cc

pub had_form : (k : Kind) (piece rest : List ℕ) (index : Bool) → Had k piece rest index → has_form k piece ≡ true
unfolding had
had_form k piece rest index h = by_case (is_number_kind k && index && fronts_index piece rest) h
  where
    by_case : (t : Bool) → cond t (is_int_kind k && is_index piece && not (begins in_word rest))
        (has_form k piece && may_precede k piece rest) ≡ true
        → has_form k piece ≡ true
    by_case true h = int_form k piece (and_parts (is_int_kind k && is_index piece) _ h).0
    by_case false h = (and_parts (has_form k piece) _ h).0

pub raw_again : (piece : List ℕ) → has_form RawIdent piece ≡ true → codes "r#" ++ drop 2 piece ≡ piece
unfolding has_form
raw_again piece h =
    let b = behind_true (codes "r#") (λ ds. is_suffix ds && not (is_path_word (encode_utf8_all ds))) piece h in
    let P : List ℕ → Type 0 = λ x. codes "r#" ++ drop 2 x ≡ x in
    subst P (sym b.1) refl

scalars_doc : (block : Bool) (piece : List ℕ) → scalars piece ≡ true → scalars (doc_text block piece) ≡ true
scalars_doc block piece h =
    let behind = scalars_drop 3 piece h in
    let text = cond block (take (length piece - 5) (drop 3 piece)) (drop 3 piece) in
    let fine = scalars_cond block _ _ (scalars_take (length piece - 5) (drop 3 piece) behind) behind in
    scalars_cond (list_any (λ c. c == 10) text) text (without_end 32 text) fine (scalars_without_end 32 text fine)

pub piece_text : (k : Kind) (piece : List ℕ) → has_form k piece ≡ true → scalars piece ≡ true
    → is_text_of k (encode_utf8_all (text_of_piece k piece)) ≡ true
unfolding is_text_of
piece_text RawIdent piece f h =
    let g = scalars_drop 2 piece h in
    and_from (is_utf8 (encode_utf8_all (drop 2 piece))) _ (text_utf8 (drop 2 piece) g)
    (ap (λ x. has_form RawIdent (codes "r#" ++ x)) (chars-encodes (drop 2 piece) g)
    ∙ ap (has_form RawIdent) (raw_again piece f) ∙ f)
piece_text (Doc inner block) piece f h = text_utf8 (doc_text block piece) (scalars_doc block piece h)
piece_text k piece f h =
    and_from (is_utf8 (encode_utf8_all piece)) _ (text_utf8 piece h) (ap (has_form k) (chars-encodes piece h) ∙ f)

-- ---- the tokens of parts

parts_texts : (b : Before) (parts : List Part) (rest : List ℕ) (at : ℕ) → Fit b parts rest
    → scalars (spell parts rest) ≡ true → are_texts (tokens_from at parts) ≡ true
parts_texts b [] rest at f h = refl
parts_texts b (p ∷ ps) rest at f h =
    let place = at + size p.gap in
    let behind = scalars_parts p.gap (p.piece ++ spell ps rest) h in
    let more = scalars_parts p.piece (spell ps rest) behind.1 in
    and_from _ (are_texts (tokens_from (place + size p.piece) ps))
    (piece_text p.kind p.piece (had_form p.kind p.piece (spell ps rest) (is_index_place b) f.1) more.0)
    (parts_texts (step b p) ps rest (place + size p.piece) f.2 more.1)

-- What text lexes to are pieces.
pub lexed_pieces : (bytes : List ℕ) (start : ℕ) (tokens : List Token) → IsUtf8 (drop start bytes)
    → Lexes bytes start tokens → are_texts tokens ≡ true
lexed_pieces bytes start tokens u l =
    let fine : scalars (spell l.0 l.1) ≡ true = sym (ap scalars l.2.whole) ∙ scalars-chars (drop start bytes) u in
    ap are_texts l.3 ∙ parts_texts Other l.0 l.1 start l.2.fit fine
