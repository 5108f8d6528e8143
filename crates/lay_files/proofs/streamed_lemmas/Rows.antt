-- Rows of parts, and of a file.
use Rattle.std.proofs.Common.{◌≡◌, ℕ, Bool, true, false, List, [], ◌∷◌, ◌++◌, Option, None, OnOk, Result, Ok, Err, refl, sym, ap, ◌∙◌, subst, append_assoc}
use Rattle.lay_layout.specs.Document.{stream}
use Rattle.lay_layout.specs.declared.layout.Tok.{Tok}
use Rattle.lay_layout.specs.declared.layout.Tok.TheVariants as tok
use Rattle.lay_stream.specs.Fed.{Meanings, Puts, Did}
use Rattle.lay_stream.proofs.Calls.{no_call, then_puts}
use Rattle.lay_form.specs.Form.{Form, Hard}
use Rattle.lay_form.specs.Layout.{break_of, document}
use Rattle.lay_form.specs.Notation.{lines}
use Rattle.lay_form.specs.Stream.{stream_of}
use Rattle.lay_form.proofs.StreamLaws.{stream_is}
use Rattle.lay_code.specs.Out.{behind_shebang, layout_of_file}
use Rattle.lay_code.specs.nodes.File.{form_of_file}
use Rattle.lay_code.specs.declared.file.File.{File}
use Rattle.lay_files.specs.windows.Parts.{parts_of}
use Rattle.lay_out_code.proofs.OutLemmas.{each_lines, lines_joined, next_own_line}
use Rattle.lay_files.specs.streamed.Through.{line_before, line_behind, rows}

-- ---- parts in a row

lines_more : (es fs : List Form) → stream_of (lines es) ++ stream_of (lines fs) ≡ stream_of (lines (es ++ fs))
lines_more [] fs = refl
lines_more (e ∷ es) fs =
    let brk : List Tok = tok.Break (break_of (Hard false)) ∷ stream_of (lines es) in
    ap (λ (s : List Tok). s ++ stream_of (lines fs)) (sym (next_own_line e es))
    ∙ append_assoc (stream_of e) brk (stream_of (lines fs))
    ∙ ap (λ (s : List Tok). stream_of e ++ (tok.Break (break_of (Hard false)) ∷ s)) (lines_more es fs)
    ∙ next_own_line e (es ++ fs)

pub rows_more : (within : Bool) (es fs : List Form) → rows within es ++ rows within fs ≡ rows within (es ++ fs)
rows_more true es fs = lines_joined es fs ∙ sym (each_lines (es ++ fs))
rows_more false es fs = lines_more es fs

-- A part, with its newline.
pub one_row : (within : Bool) (f : Form) → line_before within ++ (stream_of f ++ line_behind within) ≡ rows within (f ∷ [])
one_row true f = sym (each_lines (f ∷ []))
one_row false f = next_own_line f []

-- ---- a file

pub file_rows : (file : File) → file.shebang ≡ None → rows false (parts_of file) ≡ stream (layout_of_file file)
file_rows file none =
    sym (stream_is (form_of_file file))
    ∙ ap (λ (first : Option (List ℕ)). stream (behind_shebang first (document (form_of_file file)))) (sym none)

-- ---- what was appended

no_rows : (within : Bool) → [] ≡ rows within []
no_rows true = refl
no_rows false = refl

pub same_puts : {S F : Type 0} (m : Meanings S F) (a b : S) (s ts : List Tok) → Puts m a s b → s ≡ ts → Puts m a ts b
same_puts m a b s ts p e = subst (λ (l : List Tok). Puts m a l b) e p

-- No part: nothing was appended.
pub nothing_put : {S F : Type 0} (m : Meanings S F) (within : Bool) (a : S) → Puts m a (rows within []) a
nothing_put m within a = same_puts m a a [] (rows within []) ((no_call {T = Unit {0}} {x = tt}).puts tt refl) (no_rows within)

-- Parts after other parts.
pub rows_put : {S F : Type 0} (m : Meanings S F) (within : Bool) (a b c : S) (es fs gs : List Form) → Puts m a (rows within es) b
    → Puts m b (rows within fs) c → gs ≡ es ++ fs → Puts m a (rows within gs) c
rows_put m within a b c es fs gs p q e =
    then_puts p q (rows_more within es fs ∙ ap (rows within) (sym e))

-- Calls that went well have appended it all.
pub all_put : {S F : Type 0} (m : Meanings S F) (a b : S) (ts : List Tok) (fed : Result (Unit {0}) F) → Did m a ts fed b → fed ≡ Ok tt → Puts m a ts b
all_put m a b ts fed d e = d.puts tt e

-- What was told to have gone well did.
pub told_ok : {F G : Type 0} (fed : Result (Unit {0}) F) (result : Result (Unit {0}) G) (Q : Type 0) → OnOk result (fed ≡ Ok tt) → (fed ≡ Ok tt → Q) → OnOk result Q
told_ok fed (Ok x) Q e f = f e
told_ok fed (Err fault) Q e f = tt

-- What was appended, as calls that went well.
pub went_well : {S F : Type 0} (m : Meanings S F) (a b : S) (ts : List Tok) → Puts m a ts b → Did {T = Unit {0}} m a ts (Ok tt) b
went_well m a b ts p = record { puts = λ x e. p; stops = λ f e. cc }
