-- Every text of a file's layout reads to the file.
use Rattle.std.proofs.Common.{◌≡◌, inl, inr, ℕ, ◌+◌, ◌≤◌, List, [], ◌∷◌, ◌++◌, Bool, true, false, cond, not, ◌&&◌, length, drop, drop_at, append_assoc, sym, refl, ap, ◌∙◌, subst, codes, Option, Some, None, Result, Ok, Err, arith}
use Rattle.std.specs.Prelude.{◌==◌}
use Rattle.std.specs.List.{list_all}
use Rattle.std.specs.Str.{chars, encode_utf8_all, is_utf8}
use Rattle.std.specs.Str.Lossy.{utf8_valid_len}
use Rattle.std.proofs.lemmas.Bool.{and_parts, not-true}
use Rattle.std.proofs.lemmas.Slice.Eq.{bytes_eq-Decides}
use Rattle.std.proofs.lemmas.Str.{encodes-append, chars-encodes, scalars-chars, IsUtf8-from_is_utf8, encodes_same, chars-append, encodes-chars, encode_ascii}
use lib.Utf8.{scalars}
use Rattle.lay_piece.specs.Chars.{front, after, is_nil, is_white, kept, without_end}
use Rattle.lay_layout.specs.Document.{Empty, State, write, newline, outside, start}
use Rattle.lay_token.specs.Lexes.{Part, Other, AreParts, size, tokens_from}
use Rattle.lay_token.specs.Source.{Source, source, source_of, folded, without_mark, is_in_line, is_shebang, is_no_command, line_size}
use Rattle.lay_text.specs.declared.refusal.Refusal.{Refusal}
use Rattle.lay_text.specs.declared.refusal.Refusal.TheVariants.{NotUtf8}
use Rattle.lay_piece.proofs.Complete.{behind_true}
use Rattle.lay_piece.proofs.Fronts.{front-append, after-append}
use Rattle.lay_form.specs.Form.{Hard}
use Rattle.lay_form.specs.Layout.{document, laid_out, break_of}
use Rattle.lay_node.proofs.Scalars.{text_utf8, scalars_append}
use Rattle.lay_code.specs.Out.{behind_shebang, layout_of_file, out}
use Rattle.lay_code.specs.nodes.Code.{about_expr}
use Rattle.lay_code.specs.nodes.Exprs.{placed}
use Rattle.lay_code.specs.nodes.File.{form_of_file}
use Rattle.lay_form.specs.Pieces.{are_pieces}
use Rattle.lay_form.specs.Depth.{least_depth}
use Rattle.lay_form.specs.Spelled.{Spells}
use Rattle.lay_code.specs.Reading.{top, Reads, ReadsAt}
use Rattle.lay_code.specs.Written.{Written, is_good_shebang}
use Rattle.lay_form.proofs.FormLaws.{least}
use Rattle.lay_code.specs.declared.exprs.Expr.{Expr}
use Rattle.lay_code.specs.declared.exprs.Place.{Place}
use Rattle.lay_code.specs.declared.file.File.{File}
use Rattle.lay_layout.specs.Anyway.{Leads, Anyway}
use Rattle.lay_reparse.specs.Reparse.{IsSpelled, IsSpelledExpr}
use Rattle.lay_layout.proofs.AnywayLaws.{text_anyway}
use Rattle.lay_reparse.proofs.texts.Characters.{is_clean, clean_scalars, clean_folded}
use Rattle.lay_reparse.proofs.forms.Opened.{even}
use Rattle.lay_reparse.proofs.forms.Passes.{Passes, plain}
use Rattle.lay_reparse.proofs.forms.Sound.{Laid, reparse}
use Rattle.lay_reparse.proofs.forms.Balance.{balanced}
use Rattle.lay_reparse.proofs.file.Code.{expr_passes_at}
use Rattle.lay_reparse.proofs.file.ExprParts.{begins_plain, ends_expr}
use Rattle.lay_reparse.proofs.file.Items.{file_passes}
use Rattle.lay_reparse.proofs.file.Singles.{parts_single}
use Rattle.lay_reparse.proofs.file.FirstItems.{file_fair}
use Rattle.lay_reparse.proofs.file.FirstText.{first_text, leads_first}

-- ---- sources

source_is : (cs : List ℕ) → scalars cs ≡ true → without_mark cs ≡ cs → folded cs ≡ cs
    → source (encode_utf8_all cs) ≡ Ok (source_of cs)
source_is cs s m f =
    ap (λ (b : Bool). cond b (read (chars (encode_utf8_all cs))) (Err (NotUtf8 (utf8_valid_len (encode_utf8_all cs)))))
    (text_utf8 cs s)
    ∙ ap read (chars-encodes cs s) ∙ ap (λ (z : List ℕ). ok (folded z)) m ∙ ap ok f
  where
    ok : List ℕ → Result Source Refusal
    ok z = Ok (source_of z)

    read : List ℕ → Result Source Refusal
    read z = Ok (source_of (folded (without_mark z)))

made : (file : File) (written : Written file) (depth : ℕ) (bytes : List ℕ) (from : Source) (added : List ℕ) (parts : List Part) (last : List ℕ)
    → source bytes ≡ Ok from → from.shebang ≡ file.shebang
    → chars (drop from.start from.text) ≡ added → AreParts added parts last
    → ((at : ℕ) → Spells (form_of_file file) depth (tokens_from at parts) [])
    → Passes even false (form_of_file file) plain plain → ReadsAt depth bytes file
made file written depth bytes from added parts last t s e r k p = record {
  from = from;
  tokens = tokens_from from.start parts;
  text = t;
  shebang = s;
  lexes = (parts, last, subst (λ z. AreParts z parts last) (sym e) r, refl);
  balanced = balanced (form_of_file file) false plain plain depth (tokens_from from.start parts)
      (parts_single Other parts last from.start r.fit) p (k from.start);
  spells = (written, k from.start);
}

-- ---- without a shebang

-- no mark and no shebang stands at the beginning of the characters
record Open (cs : List ℕ) : Type 0 where
  mark : without_mark cs ≡ cs
  plain_line : is_shebang (front is_in_line cs) ≡ false

open_of : (file : File) (added : List ℕ) (end : State) → are_pieces (form_of_file file) ≡ true
    → is_clean added ≡ true → end.text ≡ encode_utf8_all added
    → Leads outside (laid_out false (form_of_file file) Empty) start end → Open added
open_of file added end w c e l = elim (file_fair file w) [
  | inl n ↦
      let k : start ≡ end = subst (λ d. Leads outside d start end) n l in
      let same : [] ≡ added = encodes_same [] added (ap (λ (z : State). z.text) k ∙ e) in
      subst Open same (record { mark = refl; plain_line = refl })
  | inr f ↦
      let g = leads_first outside (laid_out false (form_of_file file) Empty) start end refl l in
      let x = first_text (laid_out false (form_of_file file) Empty) in
      let same : chars x ++ chars g.0 ≡ added = sym (chars-append x g.0 f.utf8) ∙ ap chars (sym g.1 ∙ e)
      ∙ chars-encodes added (clean_scalars added c) in
      subst Open same (record { mark = f.mark (chars g.0); plain_line = f.plain (chars g.0) })
]

plain_reads : (file : File) (written : Written file) (depth : ℕ) (text : List ℕ) (end : State)
    → file.shebang ≡ None → end.text ≡ text
    → Leads outside (laid_out false (form_of_file file) Empty) start end → Laid (form_of_file file) depth start end
    → Passes even false (form_of_file file) plain plain → ReadsAt depth text file
plain_reads file written depth text end n e l k p =
    let o = open_of file k.added end written.pieces k.clean k.grown l in
    let s = clean_scalars k.added k.clean in
    let from : Source = source_of k.added in
    let at : source (encode_utf8_all k.added) ≡ Ok from = source_is k.added s o.mark (clean_folded k.added k.clean) in
    let same : encode_utf8_all k.added ≡ text = sym k.grown ∙ e in
    let none : from.shebang ≡ None = ap (λ b. cond b
    (Some (encode_utf8_all (without_end 13 (front is_in_line k.added)))) None) o.plain_line in
    let zero : from.start ≡ 0 = ap (λ b. cond b (line_size k.added) 0) o.plain_line in
    subst (λ t. ReadsAt depth t file) same
    (made file written depth (encode_utf8_all k.added) from k.added k.parts k.last at (none ∙ sym n)
    (ap (λ i. chars (drop i (encode_utf8_all k.added))) zero ∙ chars-encodes k.added s) k.reads k.spells p)

-- ---- after a shebang

kept_nil : (c d : ℕ) (ds : List ℕ) → cond (c == 13) [] (c ∷ []) ≡ c ∷ d ∷ ds → ⊥
kept_nil c d ds e = by (c == 13) e
  where
    by : (b : Bool) → cond b [] (c ∷ []) ≡ c ∷ d ∷ ds → ⊥
    by true e = cc
    by false e = cc

-- a line that doesn't end in a CR: neither does what is left of it
rest_stays : (c d : ℕ) (ds : List ℕ) → without_end 13 (c ∷ d ∷ ds) ≡ c ∷ d ∷ ds → without_end 13 (d ∷ ds) ≡ d ∷ ds
rest_stays c d ds e = by (without_end 13 (d ∷ ds)) e
  where
    by : (l : List ℕ) → kept 13 c l ≡ c ∷ d ∷ ds → l ≡ d ∷ ds
    by [] e = absurd (kept_nil c d ds e)
    by (x ∷ l) e = cc

last_stays : (c : ℕ) → without_end 13 (c ∷ []) ≡ c ∷ [] → c == 13 ≡ false
last_stays c e = by (c == 13) refl e
  where
    by : (b : Bool) → c == 13 ≡ b → cond b [] (c ∷ []) ≡ c ∷ [] → c == 13 ≡ false
    by true h e = cc
    by false h e = h

folded_line : (l x : List ℕ) → list_all is_in_line l ≡ true → without_end 13 l ≡ l
    → folded (l ++ 10 ∷ x) ≡ l ++ folded (10 ∷ x)
folded_line [] x h e = refl
folded_line (c ∷ []) x h e = ap (λ b. cond (b && true) (folded (10 ∷ x)) (c ∷ folded (10 ∷ x))) (last_stays c e)
folded_line (c ∷ d ∷ l) x h e =
    let a = and_parts (is_in_line c) _ h in
    let b = and_parts (is_in_line d) _ a.1 in
    let more = folded_line (d ∷ l) x a.1 (rest_stays c d l e) in
    let n : c == 13 && (d == 10) ≡ false = no (c == 13) (d == 10) (not-true (d == 10) b.0) in
    ap (λ v. cond v (folded ((d ∷ l) ++ 10 ∷ x)) (c ∷ folded ((d ∷ l) ++ 10 ∷ x))) n ∙ ap (λ z. c ∷ z) more
  where
    no : (a b : Bool) → b ≡ false → a && b ≡ false
    no true b h = h
    no false b h = refl

-- the first line is no mark
line_unmarked : (l r : List ℕ) → is_shebang l ≡ true → without_mark (l ++ r) ≡ l ++ r
line_unmarked l r h =
    let b = behind_true (codes "#!") (λ cs. not (is_no_command (after is_white cs))) l h in
    let P : List ℕ → Type 0 = λ z. without_mark (z ++ r) ≡ z ++ r in
    subst P (sym b.1) refl

record GoodLine (line : List ℕ) : Type 0 where
  same : encode_utf8_all (chars line) ≡ line
  fine : scalars (chars line) ≡ true
  inside : list_all is_in_line (chars line) ≡ true
  shebang : is_shebang (chars line) ≡ true
  stays : without_end 13 (chars line) ≡ chars line

good_of : (line : List ℕ) → is_good_shebang (Some line) ≡ true → GoodLine line
good_of line h =
    let a = and_parts (is_utf8 line && list_all is_in_line (chars line) && is_shebang (chars line)) _ h in
    let b = and_parts (is_utf8 line && list_all is_in_line (chars line)) _ a.0 in
    let c = and_parts (is_utf8 line) _ b.0 in
    let u = IsUtf8-from_is_utf8 line c.0 in
    let same : encode_utf8_all (chars line) ≡ line = encodes-chars line u in
    let back : encode_utf8_all (without_end 13 (chars line)) ≡ line =
    (bytes_eq-Decides (encode_utf8_all (without_end 13 (chars line))) line).0 a.1 in
    record {
      same = same;
      fine = scalars-chars line u;
      inside = c.1;
      shebang = b.1;
      stays = encodes_same (without_end 13 (chars line)) (chars line) (back ∙ sym same);
    }

line_reads : (file : File) (written : Written file) (depth : ℕ) (line text : List ℕ) (s end : State) → file.shebang ≡ Some line
    → is_good_shebang (Some line) ≡ true → end.text ≡ text → s.text ≡ line ++ 10 ∷ []
    → Laid (form_of_file file) depth s end → Passes even false (form_of_file file) plain plain → ReadsAt depth text file
line_reads file written depth line text s end n good e at k p =
    let g = good_of line good in
    let l = chars line in
    let cs = l ++ 10 ∷ k.added in
    let fine : scalars cs ≡ true = scalars_append l (10 ∷ k.added) g.fine (clean_scalars k.added k.clean) in
    let ten : encode_utf8_all (10 ∷ k.added) ≡ 10 ∷ encode_utf8_all k.added =
    ap (λ z. z ++ encode_utf8_all k.added) (encode_ascii 10 (omega arith)) in
    let bytes : encode_utf8_all cs ≡ line ++ 10 ∷ encode_utf8_all k.added = encodes-append l (10 ∷ k.added)
    ∙ (λ i. g.same i ++ ten i) in
    let same : encode_utf8_all cs ≡ text = bytes ∙ sym (append_assoc line (10 ∷ []) (encode_utf8_all k.added))
    ∙ ap (λ z. z ++ encode_utf8_all k.added) (sym at) ∙ sym k.grown ∙ e in
    let fold : folded cs ≡ cs = folded_line l k.added g.inside g.stays
    ∙ ap (λ z. l ++ 10 ∷ z) (clean_folded k.added k.clean) in
    let from : Source = source_of cs in
    let first : front is_in_line cs ≡ l = front-append is_in_line l (10 ∷ k.added) g.inside refl in
    let behind : after is_in_line cs ≡ 10 ∷ k.added = after-append is_in_line l (10 ∷ k.added) g.inside refl in
    let told : is_shebang (front is_in_line cs) ≡ true = ap is_shebang first ∙ g.shebang in
    let shebang : from.shebang ≡ Some line =
    ap (λ b. cond b (Some (encode_utf8_all (without_end 13 (front is_in_line cs)))) None) told
    ∙ ap (λ z. some (encode_utf8_all (without_end 13 z))) first ∙ ap some (ap encode_utf8_all g.stays ∙ g.same) in
    let starts : from.start ≡ length line + 1 =
    ap (λ b. cond b (line_size cs) 0) told ∙ (λ i. size (first i) + cond (is_nil (behind i)) 0 1)
    ∙ ap (λ z. length z + 1) g.same in
    let left : drop from.start from.text ≡ encode_utf8_all k.added =
    (λ i. drop (starts i) (bytes i)) ∙ ap (drop (length line + 1))
    (sym (append_assoc line (10 ∷ []) (encode_utf8_all k.added)))
    ∙ drop_at (line ++ 10 ∷ []) (encode_utf8_all k.added) (length line + 1) (one_more line) in
    subst (λ t. ReadsAt depth t file) same
    (made file written depth (encode_utf8_all cs) from k.added k.parts k.last
    (source_is cs fine (line_unmarked l (10 ∷ k.added) g.shebang) fold) (shebang ∙ sym n)
    (ap chars left ∙ chars-encodes k.added (clean_scalars k.added k.clean)) k.reads k.spells p)
  where
    some : List ℕ → Option (List ℕ)
    some z = Some z

    one_more : (x : List ℕ) → length (x ++ 10 ∷ []) ≡ length x + 1
    one_more [] = refl
    one_more (c ∷ x) = let e = one_more x in omega (arith, e)

-- ---- files

-- Every text of the layout of a file that is written reads to it at each depth that is enough for its form.
pub reparse_at : (file : File) (depth : ℕ) (text : List ℕ) → Written file → least_depth (form_of_file file) ≤ depth
    → Anyway (layout_of_file file) text → ReadsAt depth text file
reparse_at file depth text w n l = by file.shebang refl l.1
  where
    p : Passes even false (form_of_file file) plain plain
    p = (file_passes file w.normal w.pieces).go false

    laid : (m : State) → Leads outside (laid_out false (form_of_file file) Empty) m l.0
        → Laid (form_of_file file) depth m l.0
    laid m h = reparse (form_of_file file) plain depth p refl n outside m l.0 h

    by : (o : Option (List ℕ)) → file.shebang ≡ o
        → Leads outside (behind_shebang o (laid_out false (form_of_file file) Empty)) start l.0
        → ReadsAt depth text file
    by None e h = plain_reads file w depth text l.0 e l.2 h (laid start h) p
    by (Some line) e (inl h) =
        let m = newline (break_of (Hard false)) 0 (write line start) in
        line_reads file w depth line text m l.0 e (ap is_good_shebang (sym e) ∙ w.shebang) l.2 refl (laid m h.1) p
    by (Some line) e (inr h) = absurd (let f : false ≡ true = h.0 in cc)

-- The least depth of its form is one at which it is spelled.
pub attained : (file : File) → Written file → IsSpelled file (least_depth (form_of_file file))
attained file w =
    let r = reparse_at file (least_depth (form_of_file file)) (out file) w (omega arith) (text_anyway (layout_of_file file)) in
    (r.tokens, r.spells.1)

-- An expression is spelled at the least depth of its form too, where a place is told in which it stands.
pub expr_attained : (x : Expr) (place : Place) → placed (about_expr x) place ≡ true → are_pieces (about_expr x).form ≡ true
    → IsSpelledExpr x (least_depth (about_expr x).form)
expr_attained x place stands pieces =
    let form = (about_expr x).form in
    let l = text_anyway (document form) in
    let passes = (expr_passes_at plain begins_plain place x stands pieces).go false in
    let read = reparse form ends_expr (least_depth form) passes refl (omega arith) outside start l.0 l.1 in
    (tokens_from 0 read.parts, read.spells 0)

-- The text that is laid out is one of them.
pub out_reads : (file : File) → Written file → least_depth (form_of_file file) ≤ top → Reads (out file) file
out_reads file w n = reparse_at file top (out file) w n (text_anyway (layout_of_file file))

-- ---- formatted again

-- What bytes read to is laid out as a text that reads to it again.
pub again : (bytes : List ℕ) (file : File) → Reads bytes file → Reads (out file) file
again bytes file r = out_reads file r.spells.0 (least (form_of_file file) top r.tokens [] r.spells.1)
