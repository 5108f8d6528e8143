-- The streams of lists, bounds and other rows of parts, and which groups they leave open.
use Rattle.std.proofs.Common.{◌≡◌, ℕ, suc, ◌≤◌, ◌<◌, ◌==◌, Bool, true, false, cond, List, [], ◌∷◌, ◌++◌, map, length}
use Rattle.std.proofs.Common.{take, pos, codes, refl, sym, ap, ◌∙◌, append_assoc, append-nil, arith, OnOk, Result}
use Rattle.std.proofs.Math.Dec.{eqb-suc-zero}
use Rattle.lay_layout.specs.declared.layout.Break.{Break}
use Rattle.lay_layout.specs.Machine.{IsNested, opened}
use Rattle.lay_layout.specs.declared.layout.Tok.{Tok}
use Rattle.lay_layout.specs.declared.layout.Tok.TheVariants as tok
use Rattle.lay_layout.proofs.Whole.{opened_document}
use Rattle.lay_stream.specs.Fed.{Meanings}
use Rattle.lay_stream.proofs.Calls.{opened_append}
use Rattle.lay_form.specs.Form.{Bit, Blank, Operator, Form, Done, LastComma, Optional, Piece, Part, comma}
use Rattle.lay_form.specs.Layout.{comma_break, document, ends_behind_point}
use Rattle.lay_form.specs.Notation.{B, I4, Z, each, comma_gap, comma_list, piece, predicates, where_body}
use Rattle.lay_form.specs.Notation.{where_semicolon}
use Rattle.lay_form.specs.Notation as notation
use Rattle.lay_form.specs.Stream.{fed, stream_of}
use Rattle.lay_form.proofs.StreamLaws.{stream_is}
use Rattle.lay_node.specs.nodes.Types.{joined}
use Rattle.lay_out_tokens.proofs.StreamParts.{fed_more}
use Rattle.lay_out_types.specs.Calls.{Adds}
use Rattle.lay_out_types.specs.Rows.{comma_between, further, last_break, list_closed, list_opened, plus_between, row}
use Rattle.lay_out_types.specs.Rows.{wheres_closed, wheres_opened}
use Rattle.lay_out_types.proofs.Adding.{level_behind, on_ok}
use Rattle.lay_out_types.proofs.RowLemmas.{take_all}

-- A part, and what follows it, which is fed alike after a point.
pub part_more : (e f : Form) → ((q : Bool) → fed q f [] ≡ stream_of f)
    → stream_of e ++ stream_of f ≡ stream_of (Part e f)
part_more e f any =
    ap (λ (s : List Tok). stream_of e ++ s) (sym (any (ends_behind_point false e)))
    ∙ sym (fed_more false e (fed (ends_behind_point false e) f []))

pub part_alone : (e : Form) → stream_of e ≡ stream_of (Part e Done)
part_alone e = refl

-- ---- parts after what leads to each

pub each_is : (lead : Form → Form) (between : List Tok)
    → ((q : Bool) (f : Form) (more : List Tok) → fed q (lead f) more ≡ between ++ fed false f more)
    → (es : List Form) (q : Bool) (more : List Tok) → fed q (each lead es) more ≡ further between es ++ more
each_is lead between leads [] q more = refl
each_is lead between leads (e ∷ es) q more =
    leads q (Part e (each lead es)) more
    ∙ ap (λ (s : List Tok). between ++ s)
    (fed_more false e (fed (ends_behind_point false e) (each lead es) more)
    ∙ ap (λ (s : List Tok). stream_of e ++ s) (each_is lead between leads es (ends_behind_point false e) more)
    ∙ sym (append_assoc (stream_of e) (further between es) more))
    ∙ sym (append_assoc between (stream_of e ++ further between es) more)

pub comma_leads : (q : Bool) (f : Form) (more : List Tok) → fed q (comma_gap f) more ≡ comma_between ++ fed false f more
comma_leads true f more = refl
comma_leads false f more = refl

abbrev plus : Form → Form
plus f = B (Piece (Operator (codes "+") ∷ Blank ∷ []) f)

plus_leads : (q : Bool) (f : Form) (more : List Tok) → fed q (plus f) more ≡ plus_between ++ fed false f more
plus_leads true f more = refl
plus_leads false f more = refl

-- ---- lists

-- There are none.
abbrev pub are_none : {A : Type 0} → List A → Bool
are_none [] = true
are_none (x ∷ xs) = false

pub none_is : {A B : Type 0} (f : A → B) (xs : List A) (b : Bool) → b ≡ (length xs == 0) → b ≡ are_none (map f xs)
none_is f [] b e = e
none_is f (x ∷ xs) true e = let no : true ≡ false = e ∙ eqb-suc-zero _ in cc
none_is f (x ∷ xs) false e = refl

pub none_left : {A B : Type 0} (f : A → B) (xs : List A) (i : ℕ) (b : Bool) → length xs ≤ i → b ≡ (length xs == 0)
    → b ≡ are_none (map f (take i xs))
none_left f xs i b h e = rw (take_all xs i h) (none_is f xs b e)

-- what closes a list with elements
pub closed_is : (may bare : Bool) (both closer : List ℕ) (brk : Break) → bare ≡ false → brk ≡ last_break may
    → tok.Break brk ∷ tok.Text closer ∷ tok.End ∷ [] ≡ list_closed may bare both closer
closed_is may bare both closer brk is e = rw (is, e) refl

last_is : (may : Bool) (closing : Bit) (c : List ℕ)
    → ((q : Bool) (more : List Tok) → fed q (piece (closing ∷ [])) more ≡ tok.Text c ∷ more) → (q : Bool)
    → fed q (notation.last_break may 0 (piece (closing ∷ []))) (tok.End ∷ [])
    ≡ tok.Break (last_break may) ∷ tok.Text c ∷ tok.End ∷ []
last_is true closing c closes q = ap (λ (s : List Tok). tok.Break (last_break true) ∷ s) (closes q _)
last_is false closing c closes q = ap (λ (s : List Tok). tok.Break (last_break false) ∷ s) (closes q _)

-- A list, whose delimiters are these texts.
pub list_is : (may : Bool) (opening closing : Bit) (o both c : List ℕ)
    → ((f : Form) (more : List Tok) → fed false (Piece (opening ∷ []) f) more ≡ tok.Text o ∷ fed false f more)
    → ((q : Bool) (more : List Tok) → fed q (piece (closing ∷ [])) more ≡ tok.Text c ∷ more)
    → stream_of (piece (opening ∷ closing ∷ [])) ≡ tok.Text both ∷ [] → (es : List Form) (bare : Bool)
    → bare ≡ are_none es
    → row (list_opened o) comma_between es ++ list_closed may bare both c ≡ stream_of
    (comma_list may opening closing es)
list_is may opening closing o both c opens closes whole [] bare e = rw e (sym whole)
list_is may opening closing o both c opens closes whole (e ∷ es) bare is =
    let q = ends_behind_point false e in
    let last = notation.last_break may 0 (piece (closing ∷ [])) in
    let end : List Tok = tok.Break (last_break may) ∷ tok.Text c ∷ tok.End ∷ [] in
    ap (λ (b : Bool). row (list_opened o) comma_between (e ∷ es) ++ list_closed may b both c) is
    ∙ ap (λ (s : List Tok). list_opened o ++ s)
    (append_assoc (stream_of e) (further comma_between es) end
    ∙ ap (λ (s : List Tok). stream_of e ++ s)
    (ap (λ (s : List Tok). further comma_between es ++ s)
    (sym (last_is may closing c closes (ends_behind_point q (each comma_gap es))))
    ∙ sym (each_is comma_gap comma_between comma_leads es q _))
    ∙ sym (fed_more false e _))
    ∙ ap (λ (s : List Tok). tok.Begin true (pos 4) ∷ s)
    (sym (opens (Z (Part e (Part (each comma_gap es) last))) (tok.End ∷ [])))

-- ---- one more element

further_end : (between : List Tok) (es : List Form) (e : Form)
    → further between (es ++ e ∷ []) ≡ further between es ++ (between ++ stream_of e)
further_end between [] e = ap (λ (s : List Tok). between ++ s) (append-nil (stream_of e))
further_end between (d ∷ es) e =
    ap (λ (s : List Tok). between ++ (stream_of d ++ s)) (further_end between es e)
    ∙ ap (λ (s : List Tok). between ++ s)
    (sym (append_assoc (stream_of d) (further between es) (between ++ stream_of e)))
    ∙ sym (append_assoc between (stream_of d ++ further between es) (between ++ stream_of e))

pub row_end : (opening between : List Tok) (es : List Form) (e : Form) (bare : Bool) → bare ≡ are_none es
    → row opening between es ++ (cond bare opening between ++ stream_of e) ≡ row opening between (es ++ e ∷ [])
row_end opening between [] e bare is =
    rw is (ap (λ (s : List Tok). opening ++ s) (sym (append-nil (stream_of e))))
row_end opening between (d ∷ es) e bare is =
    rw is (append_assoc opening (stream_of d ++ further between es) (between ++ stream_of e)
    ∙ ap (λ (s : List Tok). opening ++ s)
    (append_assoc (stream_of d) (further between es) (between ++ stream_of e)
    ∙ ap (λ (s : List Tok). stream_of d ++ s) (sym (further_end between es e))))

pub one_there : (es : List Form) (e : Form) → false ≡ are_none (es ++ e ∷ [])
one_there [] e = refl
one_there (d ∷ es) e = refl

-- ---- bounds

pub bounds_are : (es : List Form)
    → (tok.Begin false (pos 4) ∷ row [] plus_between es) ++ (tok.End ∷ []) ≡ stream_of (I4 (joined plus es) Done)
bounds_are [] = refl
bounds_are (e ∷ es) = ap (λ (s : List Tok). tok.Begin false (pos 4) ∷ s)
    (append_assoc (stream_of e) (further plus_between es) (tok.End ∷ [])
    ∙ ap (λ (s : List Tok). stream_of e ++ s)
    (sym (each_is plus plus_between plus_leads es (ends_behind_point false e) (tok.End ∷ [])))
    ∙ sym (fed_more false e _))

-- ---- where clauses

-- what closes predicates before a body
pub body_closed : (body bare : Bool) → bare ≡ false → body ≡ true
    → tok.Break (comma_break 1) ∷ tok.End ∷ [] ≡ wheres_closed body bare
body_closed body bare is e = rw (is, e) refl

abbrev end_of : Bool → Form
end_of true = LastComma 1 Done
end_of false = Optional false comma Done

end_is : (body q : Bool) → fed q (end_of body) (tok.End ∷ []) ≡ wheres_closed body false
end_is true q = refl
end_is false q = refl

predicates_by : (body : Bool) (es : List Form) (bare : Bool) → bare ≡ are_none es
    → row wheres_opened comma_between es ++ wheres_closed body bare ≡ stream_of (predicates (end_of body) es)
predicates_by body [] bare e = rw e refl
predicates_by body (e ∷ es) bare is =
    let q = ends_behind_point false e in
    ap (λ (b : Bool). row wheres_opened comma_between (e ∷ es) ++ wheres_closed body b) is
    ∙ ap (λ (s : List Tok). wheres_opened ++ s)
    (append_assoc (stream_of e) (further comma_between es) (wheres_closed body false)
    ∙ ap (λ (s : List Tok). stream_of e ++ s)
    (ap (λ (s : List Tok). further comma_between es ++ s)
    (sym (end_is body (ends_behind_point q (each comma_gap es))))
    ∙ sym (each_is comma_gap comma_between comma_leads es q _))
    ∙ sym (fed_more false e _))

pub predicates_are : (body : Bool) (es : List Form) (bare : Bool) → bare ≡ are_none es
    → row wheres_opened comma_between es ++ wheres_closed body bare
    ≡ stream_of (cond body (where_body es) (where_semicolon es))
predicates_are true es bare e = predicates_by true es bare e
predicates_are false es bare e = predicates_by false es bare e

-- ---- which groups are open

pub level_form : (f : Form) (n : ℕ) → opened (stream_of f) n ≡ n
level_form f n = ap (λ (s : List Tok). opened s n) (sym (stream_is f)) ∙ opened_document (document f) n

pub level_further : (between : List Tok) → ((n : ℕ) → opened between n ≡ n) → (es : List Form) (n : ℕ)
    → opened (further between es) n ≡ n
level_further between level [] n = refl
level_further between level (e ∷ es) n =
    opened_append between (stream_of e ++ further between es) n
    ∙ ap (opened (stream_of e ++ further between es)) (level n)
    ∙ opened_append (stream_of e) (further between es) n
    ∙ ap (opened (further between es)) (level_form e n)
    ∙ level_further between level es n

pub level_row : (between : List Tok) → ((n : ℕ) → opened between n ≡ n) → (es : List Form) (n : ℕ)
    → opened (row [] between es) n ≡ n
level_row between level [] n = refl
level_row between level (e ∷ es) n =
    opened_append (stream_of e) (further between es) n
    ∙ ap (opened (further between es)) (level_form e n)
    ∙ level_further between level es n

pub one_open : (n : ℕ) {k : ℕ} → k ≡ suc n → (0 < k) × Unit {0}
one_open n e = (omega arith, tt)

level_opened : (f : Form) (es : List Form) (n : ℕ)
    → opened (stream_of f ++ further comma_between es) (suc n) ≡ suc n
level_opened f es n =
    opened_append (stream_of f) (further comma_between es) (suc n)
    ∙ ap (opened (further comma_between es)) (level_form f (suc n))
    ∙ level_further comma_between (λ m. refl) es (suc n)

list_nested : (o both c : List ℕ) (may : Bool) (es : List Form) (bare : Bool) (n k : ℕ) → bare ≡ are_none es
    → k ≡ opened (row (list_opened o) comma_between es) n → IsNested k (list_closed may bare both c)
list_nested o both c may [] bare n k is e = rw is tt
list_nested o both c may (f ∷ es) bare n k is e = rw is (one_open n (e ∙ level_opened f es n))

-- A list may be closed after its elements.
pub may_close : {S F T : Type 0} {m : Meanings S F} {a b : S} {p q : Result T F} (o both c : List ℕ) (may : Bool)
    (es : List Form) (bare : Bool) → bare ≡ are_none es → Adds m p a (row (list_opened o) comma_between es) q b
    → OnOk q (IsNested (m.groups b) (list_closed may bare both c))
may_close {p} {q} o both c may es bare is h =
    on_ok q (λ x e. list_nested o both c may es bare _ _ is (level_behind p q x h e))

wheres_nested : (body : Bool) (es : List Form) (bare : Bool) (n k : ℕ) → bare ≡ are_none es
    → k ≡ opened (row wheres_opened comma_between es) n → IsNested k (wheres_closed body bare)
wheres_nested body [] bare n k is e = rw is tt
wheres_nested true (f ∷ es) bare n k is e = rw is (one_open n (e ∙ level_opened f es n))
wheres_nested false (f ∷ es) bare n k is e = rw is (one_open n (e ∙ level_opened f es n))

-- A where clause may be closed after its predicates.
pub may_close_wheres : {S F T : Type 0} {m : Meanings S F} {a b : S} {p q : Result T F} (body : Bool) (es : List Form)
    (bare : Bool) → bare ≡ are_none es → Adds m p a (row wheres_opened comma_between es) q b
    → OnOk q (IsNested (m.groups b) (wheres_closed body bare))
may_close_wheres {p} {q} body es bare is h =
    on_ok q (λ x e. wheres_nested body es bare _ _ is (level_behind p q x h e))

-- Bounds may be closed after their bounds.
pub may_end : {S F T : Type 0} {m : Meanings S F} {a b : S} {p q : Result T F} (es : List Form)
    → Adds m p a (tok.Begin false (pos 4) ∷ row [] plus_between es) q b → OnOk q (0 < m.groups b)
may_end {m} {a} {p} {q} es h =
    on_ok q (λ x e. (one_open (m.groups a)
    (level_behind p q x h e ∙ level_row plus_between (λ k. refl) es (suc (m.groups a)))).0)
