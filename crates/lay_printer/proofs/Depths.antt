-- How many groups are open.
use Rattle.std.proofs.Common.{◌≡◌, ℕ, zero, suc, ◌+◌, ◌≤◌, List, [], ◌∷◌, ◌++◌, length, drop, refl, sym, ap, ◌∙◌, arith}
use Rattle.lay_layout.specs.declared.layout.Frame.{Frame}
use Rattle.lay_layout.specs.declared.layout.Tok.{Tok}
use Rattle.lay_layout.specs.declared.layout.Tok.TheVariants as tok
use Rattle.lay_layout.specs.Machine.{opened, outer}
use Rattle.lay_stream.proofs.Calls.{opened_append}
use Rattle.lay_ring.specs.declared.entry.Entry.{Entry}
use Rattle.lay_ring.specs.Rows.{IsRun}
use Rattle.lay_queue.specs.Closed.{toks_of}

-- how many groups are open after entries that wait, where these frames are before them
abbrev pub open_in : List Entry → List Frame → ℕ
open_in entries frames = opened (toks_of entries) (length frames)

outer_le : (n : ℕ) → outer n ≤ n
outer_le zero = omega arith
outer_le (suc n) = omega arith

pub opened_le : (ts : List Tok) (n : ℕ) → opened ts n ≤ n + length ts
opened_le [] n = omega arith
opened_le (tok.Text t ∷ ts) n = omega (arith, opened_le ts n)
opened_le (tok.Break b ∷ ts) n = omega (arith, opened_le ts n)
opened_le (tok.Begin c o ∷ ts) n = omega (arith, opened_le ts (suc n))
opened_le (tok.End ∷ ts) n = omega (arith, opened_le ts (outer n), outer_le n)

length_toks : (es : List Entry) → length (toks_of es) ≡ length es
length_toks [] = refl
length_toks (e ∷ es) = ap suc (length_toks es)

pub open_le : (es : List Entry) (fs : List Frame) → open_in es fs ≤ length fs + length es
open_le es fs = omega (arith, opened_le (toks_of es) (length fs), length_toks es)

-- the first entry was printed
pub open_printed : (es es' : List Entry) (e : Entry) (fs fs' : List Frame) → es ≡ e ∷ es' → length fs' ≡ opened (e.tok ∷ []) (length fs) → open_in es' fs' ≡ open_in es fs
open_printed es es' e fs fs' a d = ap (opened (toks_of es')) d ∙ sym (opened_append (e.tok ∷ []) (toks_of es') (length fs)) ∙ ap (λ (x : List Entry). opened (toks_of x) (length fs)) (sym a)

-- a token waits
pub open_more : (es es' : List Entry) (fs fs' : List Frame) (t : Tok) (g g' : ℕ) → g ≡ open_in es fs → fs' ≡ fs → toks_of es' ≡ toks_of es ++ t ∷ [] → g' ≡ opened (t ∷ []) g → g' ≡ open_in es' fs'
open_more es es' fs fs' t g g' a f e h =
    h ∙ ap (opened (t ∷ [])) a ∙ sym (opened_append (toks_of es) (t ∷ []) (length fs)) ∙ ap (λ (x : List Tok). opened x (length fs)) (sym e) ∙ ap (λ (x : List Frame). opened (toks_of es') (length x)) (sym f)

pub open_same : (es es' : List Entry) (fs : List Frame) → toks_of es' ≡ toks_of es → open_in es' fs ≡ open_in es fs
open_same es es' fs e = ap (λ (x : List Tok). opened x (length fs)) e

-- texts open no group
pub run_level : (count : ℕ) (es : List Entry) (bytes : List ℕ) (g : ℕ) → IsRun count es bytes → opened (toks_of (drop count es)) g ≡ opened (toks_of es) g
run_level zero es bytes g h = refl
run_level (suc count) [] bytes g h = absurd h
run_level (suc count) (e ∷ es) bytes g h = run_level count es h.1 g h.4 ∙ sym (ap (λ (t : Tok). opened (t ∷ toks_of es) g) h.2)
