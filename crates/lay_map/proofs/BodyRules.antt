-- Rules for what stands in braces, and for lines.
use Rattle.std.proofs.Common.{◌≡◌, ℕ, suc, Bool, true, false, ◌&&◌, List, [], ◌∷◌, ◌++◌, codes, refl, ap, ◌∙◌}
use Rattle.std.specs.Prelude.{⊤}
use Rattle.std.proofs.lemmas.Bool.{and_parts, and_from}
use Rattle.lay_piece.specs.declared.kind.Delim.TheVariants.{Brace}
use Rattle.lay_piece.specs.declared.kind.Kind.TheVariants.{Punct}
use Rattle.lay_form.specs.Form.{Bit, Blank, Semicolons, Space, Soft, Hard, Never, Form, Done, Piece, Brk, Group, Part, Optional, opener, closer, comma}
use Rattle.lay_form.specs.Layout.{break_of}
use Rattle.lay_form.specs.Notation.{B, H, N, H-, C4, each, comma_gap, last_break, comma_list, body, with_commas, fields, braces, soft, piece}
use Rattle.lay_form.specs.Pieces.{are_pieces}
use Rattle.lay_map.specs.spelling.Choice.{calm, clear, firm, passes}
use Rattle.lay_map.specs.spelling.Units.{Word, bits_words, words}
use Rattle.lay_map.specs.Flow.{Wait, Still, Said, Laid, InLine, Flow, At, break_flow, flow, group_flow, left}
use Rattle.lay_map.proofs.Rules.{All, Closing, Firm, Levels, NoComma, NoSemicolon, Plain, Tells, brk, ends, firm_brk, firm_calm, firm_first, firm_group, firm_part, gaps, group, group_to, last, levels_two, no_levels, part, shut}

-- The form begins with a token that is in a unit.
pub record Calms (f : Form) : Type 0 where
  pub go : are_pieces f ≡ true → (b : Bool) → calm f b ≡ true

pub firm_calms : {f : Form} → Firm f → Calms f
firm_calms {f} t = record { go = λ w b. firm_calm f false b (λ g. absurd (cc g)) (t.go w false) }

pub calms_part : {i f : Form} → Calms i → Calms (Part i f)
calms_part {i} {f} t = record { go = λ w b. t.go (and_parts (are_pieces i) (are_pieces f) w).0 (calm f b) }

pub calms_brk : {f : Form} (space : Space) → Calms f → Calms (Brk space f)
calms_brk space t = record { go = λ w b. t.go w b }

pub calms_group : {i f : Form} (consistent : Bool) (n : ℕ) → Calms i → Calms (Group consistent n i f)
calms_group {i} {f} consistent n t = record { go = λ w b. t.go (and_parts (are_pieces i) (are_pieces f) w).0 (calm f b) }

pub no_semicolon : {f : Form} → Firm f → are_pieces f ≡ true → (ws : List Word) → NoSemicolon (words f ++ ws)
no_semicolon {f} t w ws = firm_first f false ws (λ g. absurd (cc g)) (t.go w false)

-- ---- an opening brace

abbrev pub lead_bits : Bool → List Bit
lead_bits true = Blank ∷ []
lead_bits false = []

abbrev pub skip_bits : Bool → List Bit
skip_bits true = Semicolons ∷ []
skip_bits false = []

-- An opening brace, with a blank before it or without, and before what may be dropped or not.
pub opened : {Next : List Word → Type 0} {n : ℕ} {f : Form} (lead skip : Bool) → Calms f
    → (skip ≡ true → are_pieces f ≡ true → (ws : List Word) → NoSemicolon (words f ++ ws)) → Closing Next (suc n) f
    → Closing Next n (Piece (lead_bits lead ++ (opener Brace ∷ skip_bits skip)) f)
opened {Next} {n} {f} true true c k t = record {
  go = λ w.
      let u = t.go w in
      record {
        flows = λ a. u.flows a;
        clears = λ ws b m.
            and_from (calm f b && (passes (words f ++ ws) Punct (codes ";") && true)) (clear f ws b)
            (and_from (calm f b) (passes (words f ++ ws) Punct (codes ";") && true) (c.go w b) (and_from (passes (words f ++ ws) Punct (codes ";")) true (k refl w ws) refl))
            (u.clears ws b m);
        levels = λ x. let l = u.levels x in record { shut_is = l.shut_is; leaves = l.leaves };
      };
}
opened {Next} {n} {f} false true c k t = record {
  go = λ w.
      let u = t.go w in
      record {
        flows = λ a. u.flows a;
        clears = λ ws b m.
            and_from (calm f b && (passes (words f ++ ws) Punct (codes ";") && true)) (clear f ws b)
            (and_from (calm f b) (passes (words f ++ ws) Punct (codes ";") && true) (c.go w b) (and_from (passes (words f ++ ws) Punct (codes ";")) true (k refl w ws) refl))
            (u.clears ws b m);
        levels = λ x. let l = u.levels x in record { shut_is = l.shut_is; leaves = l.leaves };
      };
}
opened {Next} {n} {f} true false c k t = record {
  go = λ w.
      let u = t.go w in
      record {
        flows = λ a. u.flows a;
        clears = λ ws b m. and_from (calm f b && true) (clear f ws b) (and_from (calm f b) true (c.go w b) refl) (u.clears ws b m);
        levels = λ x. let l = u.levels x in record { shut_is = l.shut_is; leaves = l.leaves };
      };
}
opened {Next} {n} {f} false false c k t = record {
  go = λ w.
      let u = t.go w in
      record {
        flows = λ a. u.flows a;
        clears = λ ws b m. and_from (calm f b && true) (clear f ws b) (and_from (calm f b) true (c.go w b) refl) (u.clears ws b m);
        levels = λ x. let l = u.levels x in record { shut_is = l.shut_is; leaves = l.leaves };
      };
}

pub no_skip : {P : Type 0} → false ≡ true → P
no_skip e = absurd (cc e)

-- ---- lines

-- after which a newline may come
abbrev pub is_rest : Wait → Bool
is_rest Still = true
is_rest InLine = true
is_rest _ = false

pub record Rest (a : Bool) (s : Flow) : Type 0 where
  pub wait : Wait
  pub is : s ≡ At wait a
  pub rests : is_rest wait ≡ true

pub record Lining (f : Form) : Type 0 where
  pub flows : (a : Bool) → Rest a (flow (At Still a) f)
  pub clears : (ws : List Word) (b : Bool) → clear f ws b ≡ true
  pub levels : (stack : List Bool) → Levels (words f) stack stack

-- The form stands on lines of its own.
pub record Lined (f : Form) : Type 0 where
  pub go : are_pieces f ≡ true → Lining f

pub lined : {f : Form} → Plain f → Lined f
lined {f} t = record {
  go = λ w.
      let u = t.go w in
      record {
        flows = λ a. record { wait = Still; is = u.flows a; rests = refl };
        clears = λ ws b. u.clears ws b tt;
        levels = u.levels;
      };
}

-- A newline that isn't after a `,`.
pub line_rest : (back : Bool) (a : Bool) (s : Flow) → Rest a s → break_flow (break_of (Hard back)) s ≡ At Still a
line_rest back a s r = by r.wait r.rests r.is
  where
    by : (w : Wait) → is_rest w ≡ true → s ≡ At w a → break_flow (break_of (Hard back)) s ≡ At Still a
    by Still h e = ap (break_flow (break_of (Hard back))) e
    by InLine h e = ap (break_flow (break_of (Hard back))) e
    by Said h e = absurd (cc h)
    by Laid h e = absurd (cc h)

-- ---- bodies

-- what stands within the braces of a body
abbrev pub inside : List Form → Form
inside es = N (C4 (Part (each H es) (H- Done)) (piece (closer Brace ∷ [])))

pub inside_pieces : (es : List Form) → are_pieces (inside es) ≡ true → are_pieces (each H es) ≡ true
inside_pieces es w = (and_parts (are_pieces (each H es)) true (and_parts (are_pieces (each H es) && true) true w).0).0

-- the words of what stands within, where their braces are pairs, and the closing brace
pub inside_level : (es : List Form) (x : List Bool) → Levels (words (each H es)) (true ∷ x) (true ∷ x) → Levels (words (inside es)) (true ∷ x) x
inside_level es x l =
    levels_two (words (Part (each H es) (H- Done))) (words (piece (closer Brace ∷ [])))
    (levels_two (words (each H es)) [] l (no_levels (true ∷ x))) (record { shut_is = refl; leaves = refl })

pub inside_calm : (e : Form) (es : List Form) → Calms e → Calms (inside (e ∷ es))
inside_calm e es c = record {
  go = λ w b. c.go (and_parts (are_pieces e) (are_pieces (each H es)) (inside_pieces (e ∷ es) w)).0 (calm (each H es) true);
}

pub inside_firm : (e : Form) (es : List Form) → Firm e → are_pieces (inside (e ∷ es)) ≡ true → (ws : List Word) → NoSemicolon (words (inside (e ∷ es)) ++ ws)
inside_firm e es c w ws =
    firm_first (inside (e ∷ es)) false ws (λ g. absurd (cc g))
    (c.go (and_parts (are_pieces e) (are_pieces (each H es)) (inside_pieces (e ∷ es) w)).0 (firm (each H es) (firm (H- Done) true)))

abbrev pub First : (Form → Type 0) → List Form → Type 0
First P [] = ⊤
First P (e ∷ es) = P e

pub first_of : (P : Form → Type 0) (es : List Form) → All P es → First P es
first_of P [] t = tt
first_of P (e ∷ es) t = t.0

pub calm_all : (es : List Form) → All Firm es → All Calms es
calm_all [] c = tt
calm_all (e ∷ es) c = (firm_calms c.0, calm_all es c.1)

pub empty_body : {Next : List Word → Type 0} (lead skip : Bool) → Tells Next (body (lead_bits lead) (skip_bits skip) [])
empty_body true true = record { go = λ w. record { flows = λ a. refl; clears = λ ws b n. refl; levels = λ x. record { shut_is = refl; leaves = refl } } }
empty_body true false = record { go = λ w. record { flows = λ a. refl; clears = λ ws b n. refl; levels = λ x. record { shut_is = refl; leaves = refl } } }
empty_body false true = record { go = λ w. record { flows = λ a. refl; clears = λ ws b n. refl; levels = λ x. record { shut_is = refl; leaves = refl } } }
empty_body false false = record { go = λ w. record { flows = λ a. refl; clears = λ ws b n. refl; levels = λ x. record { shut_is = refl; leaves = refl } } }

-- A body begins with its brace, and is as firm as what stands within.
pub body_firm : (skip : Bool) (es : List Form) → First Firm es → Firm (body [] (skip_bits skip) es)
body_firm true [] c = record { go = λ w b. refl }
body_firm false [] c = record { go = λ w b. refl }
body_firm true (e ∷ es) c = record {
  go = λ w b. c.go (and_parts (are_pieces e) (are_pieces (each H es)) (inside_pieces (e ∷ es) w)).0 (firm (each H es) (firm (H- Done) true));
}
body_firm false (e ∷ es) c = record {
  go = λ w b. c.go (and_parts (are_pieces e) (are_pieces (each H es)) (inside_pieces (e ∷ es) w)).0 (firm (each H es) (firm (H- Done) true));
}

-- ---- fields

fields_pieces : (e : Form) (es : List Form) → are_pieces (each H (with_commas (e ∷ es))) ≡ true
    → (are_pieces e ≡ true) × (are_pieces (each H (with_commas es)) ≡ true)
fields_pieces e [] w = let p = and_parts (are_pieces e && true) true w in ((and_parts (are_pieces e) true p.0).0, refl)
fields_pieces e (f ∷ es) w =
    let p = and_parts (are_pieces e && true) (are_pieces (each H (with_commas (f ∷ es)))) w in
    ((and_parts (are_pieces e) true p.0).0, p.1)

-- The newline after a `,` that is a word.
said_then : (e : Form) (es : List Form) → flow (At Said false) (each H (with_commas (e ∷ es))) ≡ flow (At Still false) (each H (with_commas (e ∷ es)))
said_then e [] = refl
said_then e (f ∷ es) = refl

fields_flow : (e : Form) (es : List Form) → All Plain (e ∷ es) → are_pieces (each H (with_commas (e ∷ es))) ≡ true
    → flow (At Still false) (each H (with_commas (e ∷ es))) ≡ At Laid false
fields_flow e [] t w =
    ap (λ (s : Flow). flow (flow s (Optional true comma Done)) Done) ((t.0.go (fields_pieces e [] w).0).flows false)
fields_flow e (f ∷ es) t w =
    let p = fields_pieces e (f ∷ es) w in
    ap (λ (s : Flow). flow (flow s (piece comma)) (each H (with_commas (f ∷ es)))) ((t.0.go p.0).flows false)
    ∙ said_then f es ∙ fields_flow f es t.1 p.1

fields_clear : (e : Form) (es : List Form) → All Plain (e ∷ es) → are_pieces (each H (with_commas (e ∷ es))) ≡ true
    → (ws : List Word) (b : Bool) → NoComma ws → clear (each H (with_commas (e ∷ es))) ws b ≡ true
fields_clear e [] t w ws b n =
    let p = fields_pieces e [] w in
    and_from (clear (Part e (Optional true comma Done)) ws b) true
    (and_from (clear e ws (calm (Optional true comma Done) b)) (clear (Optional true comma Done) ws b) ((t.0.go p.0).clears ws (calm (Optional true comma Done) b) tt)
    (and_from (passes ws Punct (codes ",") && true) true (and_from (passes ws Punct (codes ",")) true n refl) refl)) refl
fields_clear e (f ∷ es) t w ws b n =
    let p = fields_pieces e (f ∷ es) w in
    let rest = words (each H (with_commas (f ∷ es))) ++ ws in
    let c = calm (each H (with_commas (f ∷ es))) b in
    and_from (clear (Part e (piece comma)) rest c) (clear (each H (with_commas (f ∷ es))) ws b)
    (and_from (clear e (bits_words comma ++ rest) true) true ((t.0.go p.0).clears (bits_words comma ++ rest) true tt) refl)
    (fields_clear f es t.1 p.1 ws b n)

fields_level : (e : Form) (es : List Form) → All Plain (e ∷ es) → are_pieces (each H (with_commas (e ∷ es))) ≡ true → (x : List Bool)
    → Levels (words (each H (with_commas (e ∷ es)))) x x
fields_level e [] t w x =
    levels_two (words (Part e (Optional true comma Done))) [] (levels_two (words e) [] ((t.0.go (fields_pieces e [] w).0).levels x) (no_levels x)) (no_levels x)
fields_level e (f ∷ es) t w x =
    let p = fields_pieces e (f ∷ es) w in
    levels_two (words (Part e (piece comma))) (words (each H (with_commas (f ∷ es))))
    (levels_two (words e) (words (piece comma)) ((t.0.go p.0).levels x) (record { shut_is = refl; leaves = refl })) (fields_level f es t.1 p.1 x)

fields_tell : {Next : List Word → Type 0} (e : Form) (es : List Form) → All Plain (e ∷ es) → Closing Next 1 (inside (with_commas (e ∷ es)))
fields_tell e es t = record {
  go = λ w.
      let p = inside_pieces (with_commas (e ∷ es)) w in
      record {
        flows = λ a.
            ap (λ (s : Flow). flow (left (At Still a) (group_flow (break_flow (break_of (Hard true)) s))) (piece (closer Brace ∷ []))) (fields_flow e es t p);
        clears = λ ws b n.
            let rest = bits_words (closer Brace ∷ []) ++ ws in
            and_from (clear (Part (each H (with_commas (e ∷ es))) (H- Done)) rest true) true
            (and_from (clear (each H (with_commas (e ∷ es))) rest true) true (fields_clear e es t p rest true refl) refl) refl;
        levels = λ x. inside_level (with_commas (e ∷ es)) x (fields_level e es t p (true ∷ x));
      };
}

fields_calm : (e : Form) (es : List Form) → Calms e → Calms (inside (with_commas (e ∷ es)))
fields_calm e [] c = inside_calm (Part e (Optional true comma Done)) [] (calms_part c)
fields_calm e (f ∷ es) c = inside_calm (Part e (piece comma)) (with_commas (f ∷ es)) (calms_part c)

-- FIELDS
pub fields_told : {Next : List Word → Type 0} (lead : Bool) (es : List Form) → All Plain es → First Calms es → Tells Next (fields (lead_bits lead) es)
fields_told lead [] t c = empty_body lead false
fields_told lead (e ∷ []) t c = opened lead false (fields_calm e [] c) (λ s. no_skip s) (fields_tell e [] t)
fields_told lead (e ∷ f ∷ es) t c = opened lead false (fields_calm e (f ∷ es) c) (λ s. no_skip s) (fields_tell e (f ∷ es) t)

-- ---- braces on one line or several

inner_braces : (may : Bool) (e : Form) (es : List Form) → All Plain (e ∷ es)
    → Tells NoComma (B (Part e (Part (each comma_gap es) (last_break may 1 Done))))
inner_braces may e es t = brk (Soft false 1) (part t.0 (part (gaps es t.1) (last may 1 (λ ws n. n) ends)))

-- parts in braces, with commas between them
pub braces_told : {Next : List Word → Type 0} (may : Bool) (es : List Form) → All Plain es → First Calms es → Tells Next (braces may es)
braces_told may [] t c = empty_body true false
braces_told may (e ∷ es) t c =
    opened true false (calms_group true 4 (calms_brk (Soft false 1) (calms_part c))) (λ s. no_skip s)
    (group_to true 4 (λ ws n. refl) (inner_braces may e es t) (shut ends))

-- a list in braces
pub brace_list : {Next : List Word → Type 0} (may : Bool) (es : List Form) → All Plain es → First Calms es
    → Tells Next (comma_list may (opener Brace) (closer Brace) es)
brace_list may [] t c = empty_body false false
brace_list may (e ∷ es) t c =
    group true 4 (opened false false (calms_brk (Soft false 0) (calms_part c)) (λ s. no_skip s)
    (brk (Soft false 0) (part t.0 (part (gaps es t.1) (last may 0 (λ ws n. refl) (shut ends)))))) ends

-- a block of one expression
pub soft_told : {Next : List Word → Type 0} {e : Form} → Plain e → Firm e → Tells Next (soft e)
soft_told {Next} {e} t c =
    let f = firm_brk Never (firm_group true 4 (firm_brk (Soft false 1) (firm_part c))) in
    opened true true (firm_calms f) (λ s w ws. no_semicolon f w ws)
    (brk Never (group true 4 (brk (Soft false 1) (part t (brk (Soft true 1) ends))) (shut ends)))
