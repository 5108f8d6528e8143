-- What a node begins with. Where a part on the left edge isn't wrapped at one place, it isn't at a place that asks no more; so a
-- node whose parts have their places from FREE begins as it does with those that it has where it stands. Therefore what doesn't
-- fit there doesn't without its parentheses.
use Rattle.std.proofs.Common.{◌≡◌, Bool, true, false, not, ◌&&◌, if◌then◌else◌, true≢false, refl, sym, ap, subst, ◌∙◌}
use Rattle.std.proofs.lemmas.Bool.{and_parts, and_from}
use Rattle.lay_code.specs.Operands.{ByParen, ExprLead}
use Rattle.lay_code.specs.nodes.Code.{about_expr}
use Rattle.lay_code.specs.nodes.Exprs.{ExprFacts, is_brace_lead, is_label_lead, is_prefix_lead, may}
use Rattle.lay_code.specs.nodes.Places.{FREE}
use Rattle.lay_code.specs.declared.blocks.Stmt.TheOpen.{Expr-F}
use Rattle.lay_code.specs.declared.exprs.Expr.{Expr}
use Rattle.lay_code.specs.declared.exprs.Expr.TheVariants as expr
use Rattle.lay_code.specs.declared.exprs.Place.{Place}
use Rattle.lay_code.proofs.nodes.ExprsLaws.{expr_paren_is}
use Rattle.lay_paren_defs.specs.loose.Slots.{Any, BeforeElse, BeforeIndex, Optional, Prefixed, Slot, Unlabelled, fits, slot_fits}
use Rattle.lay_paren.specs.Least.{chosen, least_made, wrapped}
use Rattle.lay_paren.specs.Made.{Made}
use Rattle.lay_paren.specs.Parts.{Parts, Placed, expr_made}
use Rattle.lay_paren.proofs.Choice.{in_place, in_slot, refuted, unwritten, written}
use Rattle.lay_paren.proofs.Roots.{Root, Weaker, may_kept, placed_may, root, root_made, root_may, weaker_free}

-- ---- what begins an expression that isn't wrapped

-- a test that `(` doesn't meet
abbrev pub Test : Type 0
Test = (t : ExprLead → Bool) × (t ByParen ≡ false)

abbrev pub lead_at : Test → Expr → Type 0
lead_at t x = t.0 (about_expr x).lead ≡ true

-- a slot that asks the root alone
abbrev pub AsksRoot : Slot → Type 0
AsksRoot Any = Unit {0}
AsksRoot BeforeIndex = Unit {0}
AsksRoot _ = ⊥

-- What begins the result at a place begins it at each that asks no more.
abbrev pub Leads : Placed → Type 0
Leads x = (t : Test) (p q : Place) (s : Slot) → AsksRoot s → Weaker q p → lead_at t (x p s).result → lead_at t (x q s).result

-- The same of a node with its parts, where it isn't wrapped.
abbrev pub PartsLead : Parts Expr-F → Type 0
PartsLead y = (t : Test) (p q : Place) → Weaker q p → lead_at t (expr_made p y).result → lead_at t (expr_made q y).result

paren_lead : (t : Test) (g : Expr) → t.0 (about_expr (expr.Paren g)).lead ≡ false
paren_lead t g = ap (λ (F : ExprFacts). t.0 F.lead) (expr_paren_is g) ∙ t.1

root_fits : (x y : Expr) (p q : Place) (s : Slot) → AsksRoot s → root (about_expr y) ≡ root (about_expr x) → Weaker q p
    → fits (about_expr x) p s ≡ true → fits (about_expr y) q s ≡ true
root_fits x y p q s asks same w h =
    let f = and_parts (may (about_expr x) p) (slot_fits s p.no_struct (about_expr x)) h in
    and_from (may (about_expr y) q) (slot_fits s q.no_struct (about_expr y))
    (ap (λ (r : Root). root_may r q) same ∙ may_kept (root (about_expr x)) p q w f.0) (by s asks f.1)
  where
    by : (s : Slot) → AsksRoot s → slot_fits s p.no_struct (about_expr x) ≡ true → slot_fits s q.no_struct (about_expr y) ≡ true
    by Any asks k = refl
    by BeforeIndex asks k = ap (λ (r : Root). not r.is_number) same ∙ k
    by Prefixed asks k = absurd asks
    by Optional asks k = absurd asks
    by Unlabelled asks k = absurd asks
    by BeforeElse asks k = absurd asks

chosen_lead : (t : Test) (here free : Made Expr) (p : Place) (s : Slot) → lead_at t (chosen here free p s).result
    → (fits (about_expr here.result) p s ≡ true) × lead_at t here.result
chosen_lead t here free p s h = by (fits (about_expr here.result) p s) refl h
  where
    by : (b : Bool) → fits (about_expr here.result) p s ≡ b → lead_at t (if b then here else wrapped free).result
        → (fits (about_expr here.result) p s ≡ true) × lead_at t here.result
    by true is k = (is, k)
    by false is k = absurd (true≢false (sym k ∙ paren_lead t free.result))

lead_chosen : (t : Test) (here free : Made Expr) (p : Place) (s : Slot) → fits (about_expr here.result) p s ≡ true → lead_at t here.result
    → lead_at t (chosen here free p s).result
lead_chosen t here free p s fit k = subst (λ (b : Bool). lead_at t (if b then here else wrapped free).result) (sym fit) k

pub least_lead : (y : Parts Expr-F) → PartsLead y → Leads (least_made y)
least_lead y lead t p q s asks w h =
    let c = chosen_lead t (expr_made p y) (expr_made FREE y) p s h in
    lead_chosen t (expr_made q y) (expr_made FREE y) q s
    (root_fits (expr_made p y).result (expr_made q y).result p q s asks (root_made y q p) w c.0) (lead t p q w c.1)

-- ---- what doesn't fit

-- A value before an `else` stands where nothing is asked.
abbrev pub Apt : Place → Slot → Type 0
Apt p BeforeElse = p ≡ FREE
Apt p _ = Unit {0}

braces : (x y : Expr) (no_struct : Bool) → ((t : Test) → lead_at t x → lead_at t y)
    → not (no_struct && is_brace_lead (about_expr y).lead) ≡ true → not (no_struct && is_brace_lead (about_expr x).lead) ≡ true
braces x y no_struct lead =
    refuted (no_struct && is_brace_lead (about_expr x).lead) (no_struct && is_brace_lead (about_expr y).lead)
    (λ k. let c = and_parts no_struct (is_brace_lead (about_expr x).lead) k in
    and_from no_struct (is_brace_lead (about_expr y).lead) c.0 (lead (is_brace_lead, refl) c.1))

-- What fits a slot fits it with the parts' places from elsewhere, where it begins as it does from there.
slot_kept : (x y : Expr) (s : Slot) (no_struct : Bool) → root (about_expr x) ≡ root (about_expr y)
    → ((t : Test) → lead_at t x → lead_at t y) → (s ≡ BeforeElse → about_expr x ≡ about_expr y)
    → slot_fits s no_struct (about_expr y) ≡ true → slot_fits s no_struct (about_expr x) ≡ true
slot_kept x y Any no_struct same lead alike h = refl
slot_kept x y Prefixed no_struct same lead alike h =
    refuted (is_prefix_lead (about_expr x).lead) (is_prefix_lead (about_expr y).lead) (lead (is_prefix_lead, refl)) h
slot_kept x y Optional no_struct same lead alike h = braces x y no_struct lead h
slot_kept x y Unlabelled no_struct same lead alike h =
    let b = λ (z : Expr). not (no_struct && is_brace_lead (about_expr z).lead) in
    let l = λ (z : Expr). not (is_label_lead (about_expr z).lead) in
    let c = and_parts (b y) (l y) h in
    and_from (b x) (l x) (braces x y no_struct lead c.0)
    (refuted (is_label_lead (about_expr x).lead) (is_label_lead (about_expr y).lead) (lead (is_label_lead, refl)) c.1)
slot_kept x y BeforeElse no_struct same lead alike h =
    subst (λ (F : ExprFacts). slot_fits BeforeElse no_struct F ≡ true) (sym (alike refl)) h
slot_kept x y BeforeIndex no_struct same lead alike h = ap (λ (r : Root). not r.is_number) same ∙ h

-- What doesn't fit where it stands isn't written there without its parentheses, within which its parts have their places from FREE.
pub misfit : (y : Parts Expr-F) → PartsLead y → (p : Place) (s : Slot) → Apt p s → fits (about_expr (expr_made p y).result) p s ≡ false
    → unwritten p s (expr_made FREE y).result ≡ true
misfit y lead p s apt fails =
    let x = (expr_made p y).result in
    let g = (expr_made FREE y).result in
    refuted (written p s g) (fits (about_expr x) p s)
    (λ h. and_from (may (about_expr x) p) (slot_fits s p.no_struct (about_expr x))
    (ap (λ (r : Root). root_may r p) (root_made y p FREE) ∙ placed_may g p (in_place (about_expr g) p s h))
    (slot_kept x g s p.no_struct (root_made y p FREE) (λ t. lead t p FREE (weaker_free p)) (same s apt)
    (in_slot (about_expr g) p s h)))
    (ap not fails)
  where
    same : (s : Slot) → Apt p s → s ≡ BeforeElse → about_expr (expr_made p y).result ≡ about_expr (expr_made FREE y).result
    same BeforeElse apt e = ap (λ (r : Place). about_expr (expr_made r y).result) apt
    same Any apt e = absurd (let no : ⊥ = cc in no)
    same Prefixed apt e = absurd (let no : ⊥ = cc in no)
    same Optional apt e = absurd (let no : ⊥ = cc in no)
    same Unlabelled apt e = absurd (let no : ⊥ = cc in no)
    same BeforeIndex apt e = absurd (let no : ⊥ = cc in no)
