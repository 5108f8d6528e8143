-- What is shown ends in a blank only where the last text does.
use Rattle.std.proofs.Common.{◌≡◌, ◌≢◌, ℕ, Bool, true, false, List, [], ◌∷◌, ◌++◌, replicate, refl, sym, ap, ◌∙◌, append_assoc}
use Rattle.lay_layout.specs.declared.layout.Mark.{Mark}
use Rattle.lay_layout.specs.declared.layout.Mark.TheVariants.{Absent, Comma, OpenBrace, CloseBrace}
use Rattle.lay_layout.specs.declared.layout.Break.{Break}
use Rattle.lay_layout.specs.declared.layout.Frame.{Frame}
use Rattle.lay_layout.specs.declared.layout.Frame.TheVariants.{Flat, Broken}
use Rattle.lay_layout.specs.declared.layout.Tok.{Tok}
use Rattle.lay_layout.specs.declared.layout.Tok.TheVariants as tok
use Rattle.lay_layout.specs.Document.{State, over, write, put_mark, newline, line, shift, break_by}
use Rattle.lay_layout.specs.Machine.{measure, play, step, Layout, top, begun, shown}
use Rattle.lay_printer.specs.Promises.{ends_in_blank, last_blank, AreFull}
use Rattle.std.proofs.Common.{zero, suc, ◌≤◌, take, drop, length, arith}

ends_append : (a : List ℕ) (x : ℕ) (b : List ℕ) → ends_in_blank (a ++ x ∷ b) ≡ ends_in_blank (x ∷ b)
ends_append [] x b = refl
ends_append (y ∷ []) x b = refl
ends_append (y ∷ z ∷ a) x b = ends_append (z ∷ a) x b

ends_write : (t : List ℕ) (s : State) → t ≢ [] → ends_in_blank (write t s).text ≡ ends_in_blank t
ends_write [] s f = absurd (f refl)
ends_write (x ∷ b) s f = ap ends_in_blank (sym (append_assoc s.text (replicate s.pending 32) (x ∷ b))) ∙ ends_append (s.text ++ replicate s.pending 32) x b

-- the state's text ends in a blank only where b is true
abbrev Within : State → Bool → Type 0
Within s b = ends_in_blank s.text ≡ true → b ≡ true

within_mark : (k : Mark) (s : State) (b : Bool) → Within s b → Within (put_mark k s) b
within_mark Absent s b h = h
within_mark Comma s b h = λ e. let q = ends_write (44 ∷ []) s (λ n. cc) in cc
within_mark OpenBrace s b h = λ e. let q = ends_write (123 ∷ []) s (λ n. cc) in cc
within_mark CloseBrace s b h = λ e. let q = ends_write (125 ∷ []) s (λ n. cc) in cc

within_newline : (k : Break) (i : ℕ) (s : State) (b : Bool) → Within (newline k i s) b
within_newline k i s b =
    let t = put_mark k.before s in
    within_mark k.after (line (shift i k.offset) t) b (λ e. let q = ends_append t.text 10 [] in cc)

within_brk : (v : Bool) (f : Frame) (k : Break) (big : Bool) (s : State) (b : Bool) → Within s b → Within (break_by v f k big s) b
within_brk true f k big s b h = within_mark k.instead _ b h
within_brk false Flat k big s b h = within_mark k.instead _ b h
within_brk false (Broken true i) k big s b h = within_newline k i s b
within_brk false (Broken false i) k true s b h = within_newline k i s b
within_brk false (Broken false i) k false s b h = within_mark k.instead _ b h

pub blanks : (ts rest : List Tok) (m : Layout) (b : Bool) → AreFull ts → Within m.state b → Within (play ts rest m).state (last_blank ts b)
blanks [] rest m b f h = h
blanks (tok.Text t ∷ ts) rest m b f h = blanks ts rest (step (tok.Text t) (ts ++ rest) m) (ends_in_blank t) f.1 (λ e. sym (ends_write t m.state f.0) ∙ e)
blanks (tok.Break k ∷ ts) rest m b f h = blanks ts rest (step (tok.Break k) (ts ++ rest) m) b f (within_brk k.never (top m.frames) k (over (measure (tok.Break k) (ts ++ rest)) m.state) m.state b h)
blanks (tok.Begin c o ∷ ts) rest m b f h = blanks ts rest (step (tok.Begin c o) (ts ++ rest) m) b f h
blanks (tok.End ∷ ts) rest m b f h = blanks ts rest (step tok.End (ts ++ rest) m) b f h

full_take : (j : ℕ) (s : List Tok) → AreFull s → AreFull (take j s)
full_take zero s f = tt
full_take (suc j) [] f = tt
full_take (suc j) (tok.Text t ∷ ts) f = (f.0, full_take j ts f.1)
full_take (suc j) (tok.Break k ∷ ts) f = full_take j ts f
full_take (suc j) (tok.Begin c o ∷ ts) f = full_take j ts f
full_take (suc j) (tok.End ∷ ts) f = full_take j ts f

take_front : (j : ℕ) (s r : List Tok) → j ≤ length s → take j (s ++ r) ≡ take j s
take_front zero s r l = refl
take_front (suc j) [] r l = absurd (omega arith)
take_front (suc j) (t ∷ s) r l = ap (λ (x : List Tok). t ∷ x) (take_front j s r (omega arith))

-- what is shown at j ends in a blank only where the last text among the first j tokens does
pub shown_blank : (s r : List Tok) (j : ℕ) → AreFull s → j ≤ length s → ends_in_blank (shown (s ++ r) j) ≡ true → last_blank (take j s) false ≡ true
shown_blank s r j f l h =
    blanks (take j s) (drop j (s ++ r)) begun false (full_take j s f) (λ e. e)
    (ap (λ (x : List Tok). ends_in_blank (play x (drop j (s ++ r)) begun).state.text) (sym (take_front j s r l)) ∙ h)
