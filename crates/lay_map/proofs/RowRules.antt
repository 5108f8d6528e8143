-- Rows: forms on lines of their own, such as statements and the arms of a match. A row says which words may follow it, and
-- what it begins with; the arrow of an arm may stand in it.
use Rattle.std.proofs.Common.{◌≡◌, Bool, true, false, ◌&&◌, List, [], ◌∷◌, ◌++◌, refl, sym, ap, ◌∙◌, subst, append_assoc}
use Rattle.std.proofs.lemmas.Bool.{and_parts, and_from}
use Rattle.lay_piece.specs.declared.kind.Delim.TheVariants.{Brace}
use Rattle.lay_form.specs.Form.{Hard, Braces, Bare, Unseen, Marked, Behind, Nothing, ArmComma, Form, Done, Part, Body, closer}
use Rattle.lay_form.specs.Layout.{break_of, closing_break}
use Rattle.lay_form.specs.Notation.{H, H-, behind_attrs, body, each, lines, piece}
use Rattle.lay_form.specs.Pieces.{are_pieces}
use Rattle.lay_map.specs.spelling.Choice.{calm, clear, firm, is_level, passes_behind}
use Rattle.lay_map.specs.spelling.Units.{Word, bits_words, words}
use Rattle.lay_map.specs.Flow.{Wait, Still, Said, Laid, InLine, Flow, At, behind_flow, break_flow, flow, group_flow, left}
use Rattle.lay_map.proofs.BodyRules.{Calms, First, Lined, Rest, empty_body, firm_calms, inside, inside_calm, inside_firm, inside_level, inside_pieces, is_rest, lead_bits, line_rest, no_semicolon, no_skip, opened, skip_bits}
use Rattle.lay_map.proofs.FrontRules.{Leads, leads_part}
use Rattle.lay_map.proofs.Rules.{All, Any, Closing, Firm, Levels, NoSemicolon, Plain, Tells, level_of, levels_two, no_levels}

-- ---- what a form begins with

firm_leads : {f : Form} → Firm f → Leads NoSemicolon f
firm_leads t = record { go = λ w ws. no_semicolon t w ws }

pub any_lead : (es : List Form) → All (Leads Any) es
any_lead [] = tt
any_lead (e ∷ es) = (record { go = λ w ws. tt }, any_lead es)

pub firm_lead : (es : List Form) → All Firm es → All (Leads NoSemicolon) es
firm_lead [] c = tt
firm_lead (e ∷ es) c = (firm_leads c.0, firm_lead es c.1)

pub leads_attrs : {Next : List Word → Type 0} {f : Form} (es : List Form) → All (Leads Next) es → Leads Next f → Leads Next (behind_attrs es f)
leads_attrs [] l t = t
leads_attrs (e ∷ es) l t = leads_part l.0

-- ---- a row

-- what may wait where a row ends, and whether the arrow of an arm was fed
abbrev pub may_end : Wait → Bool → Bool
may_end Still arrow = true
may_end Said arrow = false
may_end Laid arrow = arrow
may_end InLine arrow = true

pub record Ended (s : Flow) : Type 0 where
  pub wait : Wait
  pub arrow : Bool
  pub is : s ≡ At wait arrow
  pub ends : may_end wait arrow ≡ true

pub record Rowing (Next : List Word → Type 0) (f : Form) : Type 0 where
  pub flows : (a : Bool) → Ended (flow (At Still a) f)
  pub clears : (ws : List Word) (b : Bool) → Next ws → clear f ws b ≡ true
  pub levels : (stack : List Bool) → Levels (words f) stack stack

pub record Row (Next : List Word → Type 0) (f : Form) : Type 0 where
  pub go : are_pieces f ≡ true → Rowing Next f

pub rest_ends : (a : Bool) (s : Flow) → Rest a s → Ended s
rest_ends a s r = record { wait = r.wait; arrow = a; is = r.is; ends = by r.wait r.rests }
  where
    by : (w : Wait) → is_rest w ≡ true → may_end w a ≡ true
    by Still h = refl
    by InLine h = refl
    by Said h = absurd (cc h)
    by Laid h = absurd (cc h)

pub lined_row : {Next : List Word → Type 0} {f : Form} → Lined f → Row Next f
lined_row {Next} {f} t = record {
  go = λ w.
      let u = t.go w in
      record { flows = λ a. rest_ends a (flow (At Still a) f) (u.flows a); clears = λ ws b n. u.clears ws b; levels = u.levels };
}

pub lined_rows : (Next : List Word → Type 0) (es : List Form) → All Lined es → All (Row Next) es
lined_rows Next [] l = tt
lined_rows Next (e ∷ es) l = (lined_row l.0, lined_rows Next es l.1)

pub told_row : {Next : List Word → Type 0} {f : Form} → Tells Next f → Row Next f
told_row {Next} {f} t = record {
  go = λ w.
      let u = t.go w in
      record {
        flows = λ a. record { wait = Still; arrow = a; is = u.flows a; ends = refl };
        clears = u.clears;
        levels = u.levels;
      };
}

pub row_behind : {Next : List Word → Type 0} {f : Form} (es : List Form) → All Lined es → Row Next f → Row Next (behind_attrs es f)
row_behind [] l t = t
row_behind {Next} {f} (e ∷ es) l t = record {
  go = λ w.
      let rest = behind_attrs es f in
      let p = and_parts (are_pieces e) (are_pieces rest) w in
      let u = l.0.go p.0 in
      let v = (row_behind es l.1 t).go p.1 in
      record {
        flows = λ a. subst (λ (s : Flow). Ended (flow s rest)) (sym (line_rest false a (flow (At Still a) e) (u.flows a))) (v.flows a);
        clears = λ ws b n.
            and_from (clear e (words rest ++ ws) (calm rest b)) (clear rest ws b) (u.clears (words rest ++ ws) (calm rest b)) (v.clears ws b n);
        levels = λ x. levels_two (words e) (words rest) (u.levels x) (v.levels x);
      };
}

-- A newline that no `,` but that of an arm stands before.
record Broken (back : Bool) (s : Flow) : Type 0 where
  arrow : Bool
  is : break_flow (break_of (Hard back)) s ≡ At Still arrow

broken : (back : Bool) (s : Flow) → Ended s → Broken back s
broken back s r = by r.wait r.arrow r.ends r.is
  where
    by : (w : Wait) (a : Bool) → may_end w a ≡ true → s ≡ At w a → Broken back s
    by Still a h e = record { arrow = a; is = ap (break_flow (break_of (Hard back))) e }
    by InLine a h e = record { arrow = a; is = ap (break_flow (break_of (Hard back))) e }
    by Laid true h e = record { arrow = true; is = ap (break_flow (break_of (Hard back))) e ∙ free back }
      where
        free : (back : Bool) → break_flow (break_of (Hard back)) (At Laid true) ≡ At Still true
        free true = refl
        free false = refl
    by Laid false h e = absurd (cc h)
    by Said a h e = absurd (cc h)

-- ---- rows after a newline each

rows_flow : (Next : List Word → Type 0) (es : List Form) → All (Row Next) es → are_pieces (each H es) ≡ true → (s : Flow) → Ended s → Ended (flow s (each H es))
rows_flow Next [] t w s r = r
rows_flow Next (e ∷ es) t w s r =
    let p = and_parts (are_pieces e) (are_pieces (each H es)) w in
    let b = broken false s r in
    subst (λ (x : Flow). Ended (flow (flow x e) (each H es))) (sym b.is) (rows_flow Next es t.1 p.1 (flow (At Still b.arrow) e) ((t.0.go p.0).flows b.arrow))

rows_lead : (Next : List Word → Type 0) (es : List Form) → All (Leads Next) es → are_pieces (each H es) ≡ true → (ws : List Word) → Next ws
    → Next (words (each H es) ++ ws)
rows_lead Next [] l w ws n = n
rows_lead Next (e ∷ es) l w ws n =
    subst Next (sym (append_assoc (words e) (words (each H es)) ws))
    (l.0.go (and_parts (are_pieces e) (are_pieces (each H es)) w).0 (words (each H es) ++ ws))

rows_clear : (Next : List Word → Type 0) (es : List Form) → All (Row Next) es → All (Leads Next) es → are_pieces (each H es) ≡ true → (ws : List Word) (b : Bool)
    → Next ws → clear (each H es) ws b ≡ true
rows_clear Next [] t l w ws b n = refl
rows_clear Next (e ∷ es) t l w ws b n =
    let p = and_parts (are_pieces e) (are_pieces (each H es)) w in
    and_from (clear e (words (each H es) ++ ws) (calm (each H es) b)) (clear (each H es) ws b)
    ((t.0.go p.0).clears (words (each H es) ++ ws) (calm (each H es) b) (rows_lead Next es l.1 p.1 ws n)) (rows_clear Next es t.1 l.1 p.1 ws b n)

rows_level : (Next : List Word → Type 0) (es : List Form) → All (Row Next) es → are_pieces (each H es) ≡ true → (x : List Bool)
    → Levels (words (each H es)) x x
rows_level Next [] t w x = no_levels x
rows_level Next (e ∷ es) t w x =
    let p = and_parts (are_pieces e) (are_pieces (each H es)) w in
    levels_two (words e) (words (each H es)) ((t.0.go p.0).levels x) (rows_level Next es t.1 p.1 x)

-- ---- rows in braces

-- A closing brace may follow a row.
abbrev pub MayClose : (List Word → Type 0) → Type 0
MayClose Next = (ws : List Word) → Next (bits_words (closer Brace ∷ []) ++ ws)

rows_tell : (Next : List Word → Type 0) {Outer : List Word → Type 0} (es : List Form) → MayClose Next → All (Row Next) es → All (Leads Next) es → Closing Outer 1 (inside es)
rows_tell Next es k t l = record {
  go = λ w.
      let p = inside_pieces es w in
      record {
        flows = λ a.
            let b = broken true (flow (At Still false) (each H es)) (rows_flow Next es t p (At Still false) (record { wait = Still; arrow = false; is = refl; ends = refl })) in
            ap (λ (s : Flow). flow (left (At Still a) (group_flow s)) (piece (closer Brace ∷ []))) b.is;
        clears = λ ws b n.
            let rest = bits_words (closer Brace ∷ []) ++ ws in
            and_from (clear (Part (each H es) (H- Done)) rest true) true
            (and_from (clear (each H es) rest true) true (rows_clear Next es t l p rest true (k ws)) refl) refl;
        levels = λ x. inside_level es x (rows_level Next es t p (true ∷ x));
      };
}

-- a body whose first row is firm
pub firm_rows : (Next : List Word → Type 0) {Outer : List Word → Type 0} (lead skip : Bool) (es : List Form) → MayClose Next → All (Row Next) es → All (Leads Next) es → First Firm es
    → Tells Outer (body (lead_bits lead) (skip_bits skip) es)
firm_rows Next lead skip [] k t l c = empty_body lead skip
firm_rows Next lead skip (e ∷ es) k t l c =
    opened lead skip (inside_calm e es (firm_calms c)) (λ s w ws. inside_firm e es c w ws) (rows_tell Next (e ∷ es) k t l)

-- a body in which nothing is dropped
pub calm_rows : (Next : List Word → Type 0) {Outer : List Word → Type 0} (lead : Bool) (es : List Form) → MayClose Next → All (Row Next) es → All (Leads Next) es → First Calms es
    → Tells Outer (body (lead_bits lead) [] es)
calm_rows Next lead [] k t l c = empty_body lead false
calm_rows Next lead (e ∷ es) k t l c = opened lead false (inside_calm e es c) (λ s. no_skip s) (rows_tell Next (e ∷ es) k t l)

-- ---- lines of a file

pub record FileTells (f : Form) : Type 0 where
  pub arrow : Bool
  pub flows : flow (At Still false) f ≡ At Still arrow
  pub clears : clear f [] true ≡ true
  pub levels : (stack : List Bool) → Levels (words f) stack stack

lines_flow : (es : List Form) → All (Row Any) es → are_pieces (lines es) ≡ true → (a : Bool) → (z : Bool) × (flow (At Still a) (lines es) ≡ At Still z)
lines_flow [] t w a = (a, refl)
lines_flow (e ∷ es) t w a =
    let p = and_parts (are_pieces e) (are_pieces (lines es)) w in
    let b = broken false (flow (At Still a) e) ((t.0.go p.0).flows a) in
    let r = lines_flow es t.1 p.1 b.arrow in
    (r.0, ap (λ (s : Flow). flow s (lines es)) b.is ∙ r.1)

lines_clear : (es : List Form) → All (Row Any) es → are_pieces (lines es) ≡ true → (ws : List Word) (b : Bool) → clear (lines es) ws b ≡ true
lines_clear [] t w ws b = refl
lines_clear (e ∷ es) t w ws b =
    let p = and_parts (are_pieces e) (are_pieces (lines es)) w in
    and_from (clear e (words (lines es) ++ ws) (calm (lines es) b)) (clear (lines es) ws b)
    ((t.0.go p.0).clears (words (lines es) ++ ws) (calm (lines es) b) tt) (lines_clear es t.1 p.1 ws b)

lines_level : (es : List Form) → All (Row Any) es → are_pieces (lines es) ≡ true → (x : List Bool) → Levels (words (lines es)) x x
lines_level [] t w x = no_levels x
lines_level (e ∷ es) t w x =
    let p = and_parts (are_pieces e) (are_pieces (lines es)) w in
    levels_two (words e) (words (lines es)) ((t.0.go p.0).levels x) (lines_level es t.1 p.1 x)

pub lines_tell : (es : List Form) → All (Row Any) es → are_pieces (lines es) ≡ true → FileTells (lines es)
lines_tell es t w =
    let r = lines_flow es t w false in
    record { arrow = r.0; flows = r.1; clears = lines_clear es t w [] true; levels = lines_level es t w }

-- ---- bodies of arms and of closures

pub body_clear : (marks : Braces) (behind : Behind) {i : Form} → Plain i → Firm i → are_pieces i ≡ true → (ws : List Word) (b : Bool)
    → passes_behind behind ws ≡ true → clear (Body marks behind i Done) ws b ≡ true
body_clear marks behind {i} t c w ws b h =
    and_from (firm i false) (is_level (words i) && (passes_behind behind ws && (clear i ws false && true))) (c.go w false)
    (and_from (is_level (words i)) (passes_behind behind ws && (clear i ws false && true)) (level_of t w)
    (and_from (passes_behind behind ws) (clear i ws false && true) h (and_from (clear i ws false) true ((t.go w).clears ws false tt) refl)))

-- the body of a closure
pub closed_body : {Next : List Word → Type 0} {i : Form} (marks : Braces) → Plain i → Firm i → Tells Next (Body marks Nothing i Done)
closed_body {Next} {i} marks t c = record {
  go = λ w.
      let p = (and_parts (are_pieces i) true w).0 in
      let u = t.go p in
      record {
        flows = λ a. by marks a (u.flows a) (u.flows false);
        clears = λ ws b n. body_clear marks Nothing t c p ws b refl;
        levels = λ x. levels_two (words i) [] (u.levels x) (no_levels x);
      };
}
  where
    by : (m : Braces) (a : Bool) → flow (At Still a) i ≡ At Still a → flow (At Still false) i ≡ At Still false
        → flow (At Still a) (Body m Nothing i Done) ≡ At Still a
    by Bare a h k = h
    by Unseen a h k = h
    by Marked a h k = ap (λ (s : Flow). left (At Still a) (group_flow (break_flow (closing_break Nothing) s))) k

-- the body of an arm, after its arrow
pub arm_body : {i : Form} (marks : Braces) (last block_like : Bool) → Plain i → Firm i
    → are_pieces i ≡ true → Ended (flow (At Still true) (Body marks (ArmComma last block_like) i Done))
arm_body {i} marks last block_like t c w = by marks ((t.go w).flows true) ((t.go w).flows false)
  where
    by : (m : Braces) → flow (At Still true) i ≡ At Still true → flow (At Still false) i ≡ At Still false
        → Ended (flow (At Still true) (Body m (ArmComma last block_like) i Done))
    by Bare h k = record { wait = Laid; arrow = true; is = ap (behind_flow (ArmComma last block_like)) h; ends = refl }
    by Unseen h k = record { wait = Still; arrow = true; is = h; ends = refl }
    by Marked h k = record {
      wait = Still;
      arrow = true;
      is = ap (λ (s : Flow). left (At Still true) (group_flow (break_flow (closing_break (ArmComma last block_like)) s))) k;
      ends = refl;
    }
