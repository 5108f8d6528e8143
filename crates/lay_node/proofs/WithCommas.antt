-- Parts with commas in braces, each on a line of its own, are spelled as a list in braces is.
use Rattle.std.proofs.Common.{ℕ, Bool, true, List, [], ◌∷◌, codes, refl, sym, subst, ◌∙◌}
use Rattle.lay_piece.specs.declared.kind.Delim.TheVariants.{Brace}
use Rattle.lay_piece.specs.declared.kind.Kind.TheVariants.{Punct}
use Rattle.lay_form.specs.Form.{Fixed, Form, opener, closer, comma}
use Rattle.lay_form.specs.Notation.{comma_list, fields, with_commas}
use Rattle.lay_form.specs.Spelled.{IsOne, MayBe, Spells}
use Rattle.lay_node.specs.Ahead.{Tokens}
use Rattle.lay_node.specs.nodes.Fields.{blank_if}
use Rattle.lay_node.proofs.Parts.{Closed, Elements, Further, Rows, SpelledAt, bit_piece, body_rows, body_spelled, led_blank, list_elements, list_spelled, piece_bit}

-- an element, those after it, and the last comma
abbrev Commas : ℕ → Form → List Form → Tokens → Tokens → Type 0
Commas depth f fs ts end =
    (mid behind : Tokens) × Spells f depth ts mid × Rows (Further (SpelledAt depth)) fs mid behind × MayBe comma behind end

commas_spelled : (f : Form) (fs : List Form) (depth : ℕ) (ts end : Tokens) → Commas depth f fs ts end → Rows (SpelledAt depth) (with_commas (f ∷ fs)) ts end
commas_spelled f [] depth ts end c =
    let last = subst (λ us. MayBe comma us end) (sym c.3) c.4 in (end, (c.0, c.2, (end, last, refl)), refl)
commas_spelled f (g ∷ gs) depth ts end c =
    let row = c.3 in
    let one = row.1 in
    (one.0, (c.0, c.2, bit_piece (Fixed Punct (codes ",")) depth c.0 one.0 one.1), commas_spelled g gs depth one.0 end (row.0, c.1, one.2, row.2, c.4))

commas_parts : (f : Form) (fs : List Form) (depth : ℕ) (ts end : Tokens) → Rows (SpelledAt depth) (with_commas (f ∷ fs)) ts end → Commas depth f fs ts end
commas_parts f [] depth ts end r =
    let s = r.1 in
    let last = s.2 in
    (s.0, s.0, s.1, refl, subst (λ us. MayBe comma s.0 us) (last.2 ∙ r.2) last.1)
commas_parts f (g ∷ gs) depth ts end r =
    let s = r.1 in
    let mark : IsOne Punct (codes ",") s.0 r.0 = piece_bit (Fixed Punct (codes ",")) depth s.0 r.0 s.2 in
    let more = commas_parts g gs depth r.0 end r.2 in
    (s.0, more.1, s.1, (more.0, (r.0, mark, more.2), more.3), more.4)

elements_commas : (fs : List Form) (depth : ℕ) (ts rest : Tokens) → Elements Brace (SpelledAt depth) fs ts rest
    → (end : Tokens) × Rows (SpelledAt depth) (with_commas fs) ts end × Closed Brace end rest
elements_commas [] depth ts rest r = (ts, refl, r)
elements_commas (f ∷ fs) depth ts rest r =
    let behind = r.2 in
    let last = behind.2 in
    (last.0, commas_spelled f fs depth ts last.0 (r.0, behind.0, r.1, behind.1, last.1), last.2)

commas_elements : (fs : List Form) (depth : ℕ) (ts end rest : Tokens) → Rows (SpelledAt depth) (with_commas fs) ts end → Closed Brace end rest
    → Elements Brace (SpelledAt depth) fs ts rest
commas_elements [] depth ts end rest r c = subst (λ us. Closed Brace us rest) (sym r) c
commas_elements (f ∷ fs) depth ts end rest r c =
    let p = commas_parts f fs depth ts end r in (p.0, p.2, (p.1, p.3, (end, p.4, c)))

-- A leading blank is no token.
pub list_as_fields : (lead : Bool) (fs : List Form) (depth : ℕ) (ts rest : Tokens) → Spells (comma_list true (opener Brace) (closer Brace) fs) depth ts rest
    → Spells (fields (blank_if lead) fs) depth ts rest
list_as_fields lead fs depth ts rest s =
    let l = list_elements Brace fs depth ts rest s in
    let c = elements_commas fs depth l.0 rest l.2 in
    body_spelled (blank_if lead) [] (with_commas fs) depth ts ts l.0 l.0 c.0 rest (led_blank lead ts) l.1 refl c.1 c.2

pub fields_as_list : (lead : Bool) (fs : List Form) (depth : ℕ) (ts rest : Tokens) → Spells (fields (blank_if lead) fs) depth ts rest
    → Spells (comma_list true (opener Brace) (closer Brace) fs) depth ts rest
fields_as_list lead fs depth ts rest s =
    let b = body_rows lead (with_commas fs) depth ts rest s in
    list_spelled Brace fs depth ts b.0 rest b.2 (commas_elements fs depth b.0 b.1 rest b.3 b.4)
