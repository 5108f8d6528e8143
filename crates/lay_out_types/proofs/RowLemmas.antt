-- Elements in a row, one more at each turn of a loop.
use Rattle.std.proofs.Common.{◌≡◌, ℕ, zero, suc, ◌+◌, ◌≤◌, ◌<◌, ◌==◌, Bool, true, false, cond, List, [], ◌∷◌, ◌++◌, map}
use Rattle.std.proofs.Common.{length, take, get_or, refl, sym, ap, ◌∙◌, add-one, append-nil, append_assoc, arith}
use Rattle.std.proofs.Math.Dec.{eqb-suc-zero}
use Rattle.lay_layout.specs.declared.layout.Tok.{Tok}
use Rattle.lay_form.specs.Form.{Form}
use Rattle.lay_form.specs.Stream.{stream_of}
use Rattle.lay_out_types.specs.Rows.{further, row}

further_more : {A : Type 0} (form : A → Form) (between : List Tok) (xs : List A) (i : ℕ) (x : A) → i < length xs
    → x ≡ get_or xs i x
    → further between (map form (take i xs)) ++ (between ++ stream_of (form x))
    ≡ further between (map form (take (suc i) xs))
further_more form between [] i x lt is = absurd (omega arith)
further_more form between (y ∷ ys) zero x lt is =
    ap (λ (z : _). between ++ stream_of (form z)) is
    ∙ ap (λ (s : List Tok). between ++ s) (sym (append-nil (stream_of (form y))))
further_more form between (y ∷ ys) (suc i) x lt is =
    append_assoc between _ _
    ∙ ap (λ (s : List Tok). between ++ s)
    (append_assoc (stream_of (form y)) _ _
    ∙ ap (λ (s : List Tok). stream_of (form y) ++ s) (further_more form between ys i x (omega arith) is))

row_more : {A : Type 0} (form : A → Form) (opening between : List Tok) (xs : List A) (i : ℕ) (x : A) → i < length xs
    → x ≡ get_or xs i x
    → row opening between (map form (take i xs)) ++ (cond (i == 0) opening between ++ stream_of (form x))
    ≡ row opening between (map form (take (suc i) xs))
row_more form opening between [] i x lt is = absurd (omega arith)
row_more form opening between (y ∷ ys) zero x lt is =
    ap (λ (z : _). opening ++ stream_of (form z)) is
    ∙ ap (λ (s : List Tok). opening ++ s) (sym (append-nil (stream_of (form y))))
row_more form opening between (y ∷ ys) (suc i) x lt is =
    ap (λ (b : Bool). row opening between (map form (take (suc i) (y ∷ ys))) ++
    (cond b opening between ++ stream_of (form x)))
    (eqb-suc-zero i)
    ∙ append_assoc opening _ _
    ∙ ap (λ (s : List Tok). opening ++ s)
    (append_assoc (stream_of (form y)) _ _
    ∙ ap (λ (s : List Tok). stream_of (form y) ++ s) (further_more form between ys i x (omega arith) is))

-- what one turn puts
pub turn : {A : Type 0} (form : A → Form) (opening between : List Tok) (xs : List A) (i : ℕ) (x : A) → i < length xs
    → x ≡ get_or xs i x → (put : List Tok) → put ≡ cond (i == 0) opening between ++ stream_of (form x)
    → row opening between (map form (take i xs)) ++ put ≡ row opening between (map form (take (i + 1) xs))
turn form opening between xs i x lt is put same =
    ap (λ (s : List Tok). row opening between (map form (take i xs)) ++ s) same
    ∙ rw add-one (row_more form opening between xs i x lt is)

pub take_all : {A : Type 0} (xs : List A) (i : ℕ) → length xs ≤ i → take i xs ≡ xs
take_all [] zero h = refl
take_all [] (suc i) h = refl
take_all (x ∷ xs) zero h = absurd (omega arith)
take_all (x ∷ xs) (suc i) h = ap (λ (ys : List _). x ∷ ys) (take_all xs i (omega arith))

-- at the end of the loop nothing is left
pub all_turns : {A B : Type 0} (what : List A → B) (xs : List A) (i : ℕ) → length xs ≤ i → what (take i xs) ≡ what xs
all_turns what xs i h = ap what (take_all xs i h)

-- nothing leads to an element
pub nothing_before : (b : Bool) (s : List Tok) → s ≡ cond b [] [] ++ s
nothing_before true s = refl
nothing_before false s = refl
