-- At each depth bytes read to a file or are refused.
use Rattle.std.proofs.Common.{◌≡◌, ◌⊎◌, inl, inr, ℕ, ◌+◌, ◌≤◌, List, [], ◌∷◌, ◌++◌, true, false, cond, length, drop, Option, None, Ok, Err, refl, sym, ap, ◌∙◌, subst, arith, IsUtf8, append_assoc, append-nil, length-append, length-drop, drop_at}
use Rattle.std.specs.Prelude.{IsTrue, ◌==◌}
use Rattle.std.specs.Str.{chars, encode_utf8_all, is_utf8}
use Rattle.std.specs.Str.Lossy.{utf8_valid_len}
use Rattle.std.proofs.Math.Seq.{drop-append_seam}
use Rattle.std.proofs.lemmas.Bool.{cases_Bool, cond_both, eqb-true, not-false}
use Rattle.std.proofs.lemmas.Str.{IsUtf8-from_is_utf8, encode_ascii, encodes-append, scalars-chars}
use lib.Utf8.{scalars}
use Rattle.lay_text.specs.declared.refusal.Refusal.{Refusal}
use Rattle.lay_text.specs.declared.refusal.Refusal.TheVariants.{NotUtf8, NoToken, Unbalanced, NoItem}
use Rattle.lay_piece.specs.Chars.{after, begins, front as front_chars, is_nil}
use Rattle.lay_piece.proofs.Fronts.{front-after, after-stops}
use Rattle.lay_token.specs.Lexes.{Lexes, size}
use Rattle.lay_token.specs.Delimiters.{Balanced}
use Rattle.lay_token.specs.Source.{Source, source, source_of, folded, is_in_line, is_shebang, line_size, without_mark}
use Rattle.lay_token.specs.declared.token.Token.{Token}
use Rattle.lay_token.proofs.Encoding.{scalars-folded, scalars-without_mark, scalars_parts}
use Rattle.lay_form.specs.Spelled.{Spells}
use Rattle.lay_form.proofs.FormLaws.{is_end}
use Rattle.lay_node.specs.declared.attr.Attr.{Attr}
use Rattle.lay_node.proofs.LexedPieces.{lexed_pieces}
use Rattle.lay_node.proofs.Pieces.{pieces_spelled}
use Rattle.lay_node.proofs.token_lists.FromText.{in_text}
use Rattle.lay_code.specs.Reading.{IsRefusedAt, NoItemAt, ReadsAt, SpellsFile, SpellsFront}
use Rattle.lay_code.specs.Written.{Written, is_good_shebang}
use Rattle.lay_code.specs.nodes.File.{form_of_file}
use Rattle.lay_code.specs.reader.File.{front}
use Rattle.lay_code.specs.declared.file.File.{File}
use Rattle.lay_code.specs.declared.item.Item.{Item}
use Rattle.lay_code.proofs.GoodShebang.{source_good}
use Rattle.lay_code.proofs.reader.File.{front_sound, front_longest}
use Rattle.lay_reparse.proofs.file.SomeNesting.{balanced_or_not}
use Rattle.lay_reparse.proofs.file.SomeTokens.{tokens_or_none}

-- ---- sources

-- What follows a line, and after the LF that ends it, is UTF-8.
behind_line : (line rest : List ℕ) → scalars (line ++ rest) ≡ true → begins is_in_line rest ≡ false
    → IsUtf8 (drop (size line + cond (is_nil rest) 0 1) (encode_utf8_all (line ++ rest)))
behind_line line [] h s =
    let at : size line ≡ size line + 0 = omega arith in
    let none = ap (drop (size line + 0)) (encodes-append line []) ∙ drop_at (encode_utf8_all line) [] (size line + 0) at in
    subst IsUtf8 (sym none) ([], (refl, refl))
behind_line line (c ∷ cs) h s =
    let ten : c ≡ 10 = eqb-true c 10 (not-false (c == 10) s) in
    let feed : encode_utf8_all (c ∷ cs) ≡ 10 ∷ encode_utf8_all cs =
    ap (λ d. encode_utf8_all (d ∷ cs)) ten ∙ ap (λ z. z ++ encode_utf8_all cs) (encode_ascii 10 (omega arith)) in
    let at : length (encode_utf8_all line ++ 10 ∷ []) ≡ size line + 1 = length-append (encode_utf8_all line) (10 ∷ []) in
    let fine = (scalars_parts (c ∷ []) cs (scalars_parts line (c ∷ cs) h).1).1 in
    let left = ap (drop (size line + 1)) (encodes-append line (c ∷ cs) ∙ ap (λ z. encode_utf8_all line ++ z) feed
    ∙ sym (append_assoc (encode_utf8_all line) (10 ∷ []) (encode_utf8_all cs)))
    ∙ drop_at (encode_utf8_all line ++ 10 ∷ []) (encode_utf8_all cs) (size line + 1) at in
    subst IsUtf8 (sym left) (cs, (fine, refl))

utf8_lexed : (text : List ℕ) → scalars text ≡ true → IsUtf8 (drop (source_of text).start (source_of text).text)
utf8_lexed text h =
    let line = front_chars is_in_line text in
    let rest = after is_in_line text in
    let P : ℕ → Type 0 = λ n. IsUtf8 (drop n (encode_utf8_all text)) in
    let whole = front-after is_in_line text in
    let Q : List ℕ → Type 0 = λ l. IsUtf8 (drop (line_size text) (encode_utf8_all l)) in
    cond_both (is_shebang line) (line_size text) 0 P
    (λ e. subst Q (sym whole) (behind_line line rest (sym (ap scalars whole) ∙ h) (after-stops is_in_line text)))
    (λ e. (text, (h, refl)))

-- What is lexed of an input is UTF-8.
source_utf8 : (bytes : List ℕ) (from : Source) → source bytes ≡ Ok from → IsUtf8 (drop from.start from.text)
source_utf8 bytes from e = elim (cases_Bool (is_utf8 bytes)) [
  | inl h ↦
      let fine = scalars-chars bytes (IsUtf8-from_is_utf8 bytes h) in
      let text = folded (without_mark (chars bytes)) in
      let is : source bytes ≡ Ok (source_of text) = rw h refl in
      let same : source_of text ≡ from = cc in
      subst (λ (x : Source). IsUtf8 (drop x.start x.text)) same
      (utf8_lexed text (scalars-folded (without_mark (chars bytes)) (scalars-without_mark (chars bytes) fine)))
  | inr h ↦
      let is : source bytes ≡ Err (NotUtf8 (utf8_valid_len bytes)) = rw h refl in
      absurd (cc)
]

-- ---- runs of inner attributes and items

module _ (depth : ℕ) (bytes : List ℕ) (start : ℕ) (tokens : List Token) (utf8 : IsUtf8 (drop start bytes)) (lexes : Lexes bytes start tokens) where
  abbrev Run : Type 0
  Run = (List Attr × List Item) × List Token

  module _ (attrs : List Attr) (items : List Item) (left : List Token) (e : front depth tokens ≡ ((attrs, items), left)) where
    -- The run that is read is spelled, as a file that can be written after any good shebang.
    front_spelled : (shebang : Option (List ℕ)) → IsTrue (is_good_shebang shebang)
        → (let file : File = record { shebang = shebang; attrs = attrs; items = items } in Written file × Spells (form_of_file file) depth tokens left)
    front_spelled shebang good =
        let file : File = record { shebang = shebang; attrs = attrs; items = items } in
        let read = ap (λ (run : Run). run.0) e in
        let sound = front_sound depth tokens (in_text bytes start [] tokens [] utf8 (subst (Lexes bytes start) (sym (append-nil tokens)) lexes)) file
        (sym (ap (λ (run : List Attr × List Item). run.0) read)) (sym (ap (λ (run : List Attr × List Item). run.1) read)) in
        let spelled : Spells (form_of_file file) depth tokens left =
        subst (λ (us : List Token). Spells (form_of_file file) depth tokens us) (ap (λ (run : Run). run.1) e) sound.0 in
        let pieces = pieces_spelled (form_of_file file) depth tokens left (lexed_pieces bytes start tokens utf8 lexes) spelled in
        (record { shebang = good; normal = sound.1; pieces = pieces }, spelled)

    -- A run that is spelled is no longer than the one that is read.
    none_longer : (more : ℕ) → SpellsFront depth more tokens → more + length left ≤ length tokens
    none_longer more f =
        let file = f.1 in
        let least = front_longest depth file.0 tokens (drop more tokens)
        (in_text bytes start [] tokens [] utf8 (subst (Lexes bytes start) (sym (append-nil tokens)) lexes)) file.2 file.1.normal in
        omega (arith, least, f.0, length-drop more tokens, ap (λ (run : Run). length run.1) e)

  -- Where a token is left after the run, no item begins there.
  no_item : (attrs : List Attr) (items : List Item) (token : Token) (rest : List Token)
      → front depth tokens ≡ ((attrs, items), token ∷ rest) → NoItemAt depth tokens token.at
  no_item attrs items token rest e =
      let file : File = record { shebang = None; attrs = attrs; items = items } in
      let run = front_spelled attrs items (token ∷ rest) e None refl in
      let end = is_end (form_of_file file) depth tokens (token ∷ rest) run.1 in
      let count = length end.before in
      let behind : drop count tokens ≡ token ∷ rest = ap (drop count) end.whole ∙ drop-append_seam end.before (token ∷ rest) in
      let all = ap length end.whole ∙ length-append end.before (token ∷ rest) in
      let within : count ≤ length tokens = omega (arith, all) in
      let spelled = subst (λ (us : List Token). Spells (form_of_file file) depth tokens us) (sym behind) run.1 in
      record {
        count = count;
        token = token;
        rest = rest;
        behind = behind;
        place = refl;
        front = (within, (file, run.0, spelled));
        longest = λ more less f. omega (arith, less, all, none_longer attrs items (token ∷ rest) e more f);
      }

  -- The tokens spell a file after this shebang, or no item begins at a place.
  file_or_not : (shebang : Option (List ℕ)) → IsTrue (is_good_shebang shebang)
      → ((file : File) × (shebang ≡ file.shebang) × SpellsFile depth file tokens) ⊎ ((at : ℕ) × NoItemAt depth tokens at)
  file_or_not shebang good = by (front depth tokens) refl
    where
      by : (run : Run) → front depth tokens ≡ run
          → ((file : File) × (shebang ≡ file.shebang) × SpellsFile depth file tokens) ⊎ ((at : ℕ) × NoItemAt depth tokens at)
      by ((attrs, items), []) e =
          inl (record { shebang = shebang; attrs = attrs; items = items }, refl, front_spelled attrs items [] e shebang good)
      by ((attrs, items), token ∷ rest) e = inr (token.at, no_item attrs items token rest e)

-- ---- bytes

abbrev Answered : ℕ → List ℕ → Type 0
Answered depth bytes = ((file : File) × ReadsAt depth bytes file) ⊎ ((refusal : Refusal) × IsRefusedAt depth bytes refusal)

of_balanced : (depth : ℕ) (bytes : List ℕ) (from : Source) (tokens : List Token) → source bytes ≡ Ok from
    → Lexes from.text from.start tokens → Balanced tokens → Answered depth bytes
of_balanced depth bytes from tokens e l b =
    elim (file_or_not depth from.text from.start tokens (source_utf8 bytes from e) l from.shebang (source_good bytes from e)) [
      | inl f ↦ inl (
        f.0,
        record {
          from = from;
          tokens = tokens;
          text = e;
          shebang = f.1;
          lexes = l;
          balanced = b;
          spells = f.2;
        },
      )
      | inr n ↦ inr (NoItem n.0, (from, tokens, e, l, b, n.1))
    ]

of_tokens : (depth : ℕ) (bytes : List ℕ) (from : Source) (tokens : List Token) → source bytes ≡ Ok from
    → Lexes from.text from.start tokens → Answered depth bytes
of_tokens depth bytes from tokens e l = elim (balanced_or_not tokens) [
  | inl b ↦ of_balanced depth bytes from tokens e l b
  | inr u ↦ inr (Unbalanced u.0, (from, tokens, e, l, u.1))
]

of_source : (depth : ℕ) (bytes : List ℕ) (from : Source) → source bytes ≡ Ok from → Answered depth bytes
of_source depth bytes from e = elim (tokens_or_none from.text from.start) [
  | inl t ↦ of_tokens depth bytes from t.0 e t.1
  | inr n ↦ inr (NoToken n.0, (from, e, n.1))
]

-- At each depth bytes read to a file, or have a refusal.
pub some_answer : (depth : ℕ) (bytes : List ℕ)
    → ((file : File) × ReadsAt depth bytes file) ⊎ ((refusal : Refusal) × IsRefusedAt depth bytes refusal)
some_answer depth bytes = elim (cases_Bool (is_utf8 bytes)) [
  | inl h ↦
      let from : Source = source_of (folded (without_mark (chars bytes))) in
      let e : source bytes ≡ Ok from = rw h refl in
      of_source depth bytes from e
  | inr h ↦
      let at : ℕ = utf8_valid_len bytes in
      let e : source bytes ≡ Err (NotUtf8 at) = rw h refl in
      inr (NotUtf8 at, e)
]
