-- No text of a file's layout is empty.
use Rattle.std.proofs.Common.{◌≡◌, ◌≢◌, ℕ, List, [], ◌∷◌, ◌++◌, Bool, true, false, cond, ◌&&◌, Option, None, Some, codes, refl, ap, ◌∙◌}
use Rattle.std.specs.List.{list_all}
use Rattle.std.specs.Str.{chars, is_utf8}
use Rattle.std.proofs.lemmas.Bool.{and_parts, both_ways}
use Rattle.std.proofs.lemmas.Str.{chars-nil}
use Rattle.lay_layout.specs.Document.{Document, Empty, AddText, AddBreak, stream}
use Rattle.lay_layout.specs.declared.layout.Tok.{Tok}
use Rattle.lay_layout.specs.declared.layout.Tok.TheVariants as tok
use Rattle.lay_piece.specs.Docs.{doc_form}
use Rattle.lay_piece.specs.Forms.{after_literal, doc_opening, has_form}
use Rattle.lay_piece.specs.declared.kind.Kind.{Kind}
use Rattle.lay_piece.specs.declared.kind.Kind.TheVariants.{RawIdent, Doc}
use Rattle.lay_token.specs.Source.{is_in_line, is_shebang}
use Rattle.lay_form.specs.Form.{Behind, Nothing, ArmComma, Bare, Unseen, Marked, Form, Done, Piece, Leaf, Listed, ListedDoc, Brk, LastComma, Group, Part, Deeper, Optional, Docs, Body}
use Rattle.lay_form.specs.Layout.{add, add_behind, add_doc, add_token, bits_end_in_point, closing_break, ends_behind_point, is_block, keeps_point, laid_out, led, point_behind, space_ends_in_point, text_of_bits, token_ends_in_point}
use Rattle.lay_form.specs.Pieces.{are_pieces, is_text_of}
use Rattle.lay_printer.specs.Promises.{AreFull}
use Rattle.lay_code.specs.Out.{behind_shebang, layout_of_file}
use Rattle.lay_code.specs.Written.{Written, is_good_shebang}
use Rattle.lay_code.specs.nodes.File.{form_of_file}
use Rattle.lay_code.specs.declared.file.File.{File}

-- ---- texts

-- no piece is empty
no_form : (k : Kind) → has_form k [] ≡ false
unfolding has_form after_literal
no_form (Doc true true) = refl
no_form (Doc true false) = refl
no_form (Doc false true) = refl
no_form (Doc false false) = refl
no_form _ = refl

no_raw : has_form RawIdent (codes "r#" ++ []) ≡ false
unfolding has_form
no_raw = refl

form_some : (k : Kind) (text : List ℕ) → is_utf8 text && has_form k (chars text) ≡ true → text ≢ []
form_some k text h = λ e.
    let none : has_form k (chars text) ≡ false = ap (λ t. has_form k (chars t)) e ∙ ap (has_form k) chars-nil ∙ no_form k in
    both_ways (has_form k (chars text)) none (and_parts (is_utf8 text) (has_form k (chars text)) h).1

raw_some : (text : List ℕ) → is_text_of RawIdent text ≡ true → text ≢ []
unfolding is_text_of
raw_some text h = λ e.
    let none : has_form RawIdent (codes "r#" ++ chars text) ≡ false =
    ap (λ t. has_form RawIdent (codes "r#" ++ chars t)) e ∙ ap (λ cs. has_form RawIdent (codes "r#" ++ cs)) chars-nil ∙ no_raw in
    both_ways (has_form RawIdent (codes "r#" ++ chars text)) none
    (and_parts (is_utf8 text) (has_form RawIdent (codes "r#" ++ chars text)) h).1

opening_some : (inner block : Bool) → doc_opening inner block ≢ []
opening_some true true = λ e. cc
opening_some true false = λ e. cc
opening_some false true = λ e. cc
opening_some false false = λ e. cc

-- ---- documents

full_behind : (s t : List Tok) → AreFull s → AreFull t → AreFull (s ++ t)
full_behind [] t f g = g
full_behind (tok.Text x ∷ s) t f g = (f.0, full_behind s t f.1 g)
full_behind (tok.Break b ∷ s) t f g = full_behind s t f g
full_behind (tok.Begin c o ∷ s) t f g = full_behind s t f g
full_behind (tok.End ∷ s) t f g = full_behind s t f g

full_add : (text : List ℕ) (d : Document) → AreFull (stream d) → AreFull (stream (add text d))
full_add [] d f = f
full_add (c ∷ cs) d f = (λ e. cc, f)

full_end : (block : Bool) (d : Document) → AreFull (stream d) → AreFull (stream (cond block (AddText (codes "*/") d) d))
full_end true d f = (λ e. cc, f)
full_end false d f = f

full_doc : (inner block : Bool) (text : List ℕ) (d : Document) → AreFull (stream d) → AreFull (stream (add_doc inner block text d))
full_doc inner block text d f =
    (opening_some inner block, full_add text (cond block (AddText (codes "*/") d) d) (full_end block d f))

full_token : (k : Kind) (text : List ℕ) (d : Document) → is_text_of k text ≡ true → AreFull (stream d)
    → AreFull (stream (add_token k text d))
unfolding is_text_of
full_token RawIdent text d h f = (λ e. cc, (raw_some text h, f))
full_token (Doc inner block) text d h f = full_doc inner (is_block (doc_form inner text)) text d f
full_token k text d h f = (form_some k text h, f)

full_comma : (b : Behind) (d : Document) → AreFull (stream d) → AreFull (stream (add_behind b d))
full_comma Nothing d f = f
full_comma (ArmComma last block_like) d f = (λ e. cc, f)

-- ---- forms

full : (point : Bool) (f : Form) (d : Document) → are_pieces f ≡ true → AreFull (stream d) → AreFull (stream (laid_out point f d))
full point Done d h e = e
full point (Piece bits f) d h e = full_add (text_of_bits (led point bits)) _ (full (bits_end_in_point point bits) f d h e)
full point (Leaf kind text f) d h e =
    let p = and_parts (is_text_of kind text) (are_pieces f) h in
    full_token kind text _ p.0 (full (token_ends_in_point kind text) f d p.1 e)
full point (Listed kind text joint f) d h e =
    let p = and_parts (is_text_of kind text) (are_pieces f) h in
    full_token kind text _ p.0 (full (token_ends_in_point kind text) f d p.1 e)
full point (ListedDoc inner text f) d h e =
    full_doc inner (is_block (doc_form inner text)) text _ (full false f d (and_parts (is_utf8 text) (are_pieces f) h).1 e)
full point (Brk space f) d h e = full (space_ends_in_point point space) f d h e
full point (LastComma blanks f) d h e = full (keeps_point point blanks) f d h e
full point (Group consistent offset i f) d h e =
    let p = and_parts (are_pieces i) (are_pieces f) h in
    full_behind (stream (laid_out point i Empty)) (tok.End ∷ stream (laid_out (ends_behind_point point i) f d)) (full point i Empty p.0 tt)
    (full (ends_behind_point point i) f d p.1 e)
full point (Part i f) d h e =
    let p = and_parts (are_pieces i) (are_pieces f) h in full point i _ p.0 (full (ends_behind_point point i) f d p.1 e)
full point (Deeper i f) d h e =
    let p = and_parts (are_pieces i) (are_pieces f) h in full point i _ p.0 (full (ends_behind_point point i) f d p.1 e)
full point (Optional true bits f) d h e = full_add (text_of_bits (led point bits)) _ (full (bits_end_in_point point bits) f d h e)
full point (Optional false bits f) d h e = full point f d h e
full point (Docs inner text f) d h e =
    full_doc inner (is_block (doc_form inner text)) text _ (full false f d (and_parts (is_utf8 text) (are_pieces f) h).1 e)
full point (Body Bare behind i f) d h e =
    let p = and_parts (are_pieces i) (are_pieces f) h in
    full point i _ p.0 (full_comma behind _ (full (point_behind Bare behind (ends_behind_point point i)) f d p.1 e))
full point (Body Unseen behind i f) d h e =
    let p = and_parts (are_pieces i) (are_pieces f) h in full point i _ p.0 (full (ends_behind_point point i) f d p.1 e)
full point (Body Marked behind i f) d h e =
    let p = and_parts (are_pieces i) (are_pieces f) h in
    let inner = laid_out point i (AddBreak (closing_break behind) Empty) in
    let rest = laid_out (point_behind Marked behind (ends_behind_point point i)) f d in
    full_behind (stream inner) (tok.End ∷ stream rest) (full point i (AddBreak (closing_break behind) Empty) p.0 tt)
    (full (point_behind Marked behind (ends_behind_point point i)) f d p.1 e)

-- ---- files

-- a shebang isn't empty
line_some : (line : List ℕ) → is_good_shebang (Some line) ≡ true → line ≢ []
line_some line h = λ e.
    let a = and_parts (is_utf8 line && list_all is_in_line (chars line) && is_shebang (chars line)) _ h in
    let b = and_parts (is_utf8 line && list_all is_in_line (chars line)) (is_shebang (chars line)) a.0 in
    let none : is_shebang (chars line) ≡ false = ap (λ l. is_shebang (chars l)) e ∙ ap is_shebang chars-nil in
    both_ways (is_shebang (chars line)) none b.1

full_line : (line : Option (List ℕ)) (d : Document) → is_good_shebang line ≡ true → AreFull (stream d)
    → AreFull (stream (behind_shebang line d))
full_line None d h e = e
full_line (Some line) d h e = (line_some line h, e)

-- No text of the layout of a file that can be written is empty.
pub full_file : (file : File) → Written file → AreFull (stream (layout_of_file file))
full_file file w = full_line file.shebang _ w.shebang (full false (form_of_file file) Empty w.pieces tt)
