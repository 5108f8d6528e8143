-- What a node asks of its parts is answered alike by a part in parentheses and by a shielded one.
use Rattle.std.proofs.Common.{◌≡◌, Bool, true, false, ◌&&◌, if◌then◌else◌, true≢false, List, [], ◌∷◌, map, None, ℕ, refl, sym, ap, ap₂, ◌∙◌, arith}
use Rattle.std.specs.List.{list_all}
use Rattle.std.proofs.lemmas.Bool.{le-leb}
use Rattle.lay_code.specs.nodes.Bodies.{BlockBody, BodyKind, MacroBody, OtherBody, is_lone_body, sheds}
use Rattle.lay_code.specs.nodes.Code.{about_expr}
use Rattle.lay_code.specs.nodes.Exprs.{ExprFacts, all_free, body_kind, expr_facts, placed}
use Rattle.lay_code.specs.nodes.Layers.{ExprNode}
use Rattle.lay_code.specs.nodes.Places.{FREE, before_op, link_place, plain, statement}
use Rattle.lay_code.specs.declared.blocks.Stmt.TheOpen.{Expr-F}
use Rattle.lay_code.specs.declared.blocks.Stmt.TheViews as views
use Rattle.lay_code.specs.declared.exprs.Expr.{Expr}
use Rattle.lay_code.specs.declared.exprs.Expr.TheVariants as expr
use Rattle.lay_code.proofs.nodes.ExprsLaws as laws
use Rattle.lay_code.proofs.nodes.Layers.{expr_is, expr_told}
use Rattle.lay_paren_defs.specs.Enclosed.{body_part, enclosed, is_bare, is_bare_node, part}
use Rattle.lay_paren_defs.specs.loose.Loose.{loose_about, shielded}
use Rattle.lay_paren.specs.Erased.{erase}
use Rattle.lay_paren.proofs.ErasedFolds.{expr_without_is}
use Rattle.lay_paren.proofs.LooseFolds.{expr_shielded, expr_shielded_is}
use Rattle.lay_paren.proofs.loose_laws_lemmas.Kept.{KeptExpr}

-- ---- facts

-- what is told of what stands in parentheses, where this is told of what is within them, which stands there or doesn't
abbrev pub in_parens : ExprFacts → Bool → ExprFacts
in_parens x stands = record (expr_facts (Expr-F.Paren x)) { within = λ no_struct first. stands }

-- and of a shielded node
abbrev pub behind_shield : ExprFacts → Bool → Bool → BodyKind → ExprFacts
behind_shield x stands block_like kind = record (in_parens x stands) { block_like = block_like; kind = kind }

-- Nothing is asked of a root in FREE, nor of a whole.
pub free_placed : (x : ExprFacts) → placed x FREE ≡ x.within false false
free_placed x = rw (le-leb 0 x.level (omega arith)) refl

whole_placed : (x : ExprFacts) → placed x statement ≡ x.within false true
whole_placed x = rw (le-leb 0 x.level (omega arith)) refl

-- the facts about an expression within its shield
abbrev within_shield : Expr → ExprFacts
within_shield x = expr_facts (expr_shielded (views.out-Expr x))

shield_is : (x : Expr) → loose_about x ≡ shielded (within_shield x)
shield_is x = ap loose_about (sym (views.roll-out-Expr x)) ∙ expr_shielded_is (views.out-Expr x)

-- ---- parts

-- whether what is within the part stands
abbrev stood : KeptExpr → Bool
stood x = placed (within_shield x.0) FREE

loose_told : (x : KeptExpr) → loose_about x.0 ≡ behind_shield (within_shield x.0) (stood x) (within_shield x.0).block_like (within_shield x.0).kind
loose_told x = shield_is x.0

inner : (x : KeptExpr) (first : Bool) → (about_expr (enclosed x.0)).within false first ≡ stood x
inner x first = x.1.within first ∙ ap (λ (F : ExprFacts). F.within false false) (loose_told x)

part_told : (x : KeptExpr) → about_expr (part true x.0) ≡ in_parens (about_expr (enclosed x.0)) (stood x)
part_told x =
    laws.expr_paren_is (enclosed x.0)
    ∙ ap (in_parens (about_expr (enclosed x.0))) (free_placed (about_expr (enclosed x.0)) ∙ inner x false)

-- What is asked alike of any part is answered alike.
pub asked : (x : KeptExpr) (f g : ExprFacts → Bool)
    → ((a b : ExprFacts) (stands block_like : Bool) (kind : BodyKind) → f (in_parens a stands) ≡ g (behind_shield b stands block_like kind))
    → f (about_expr (part true x.0)) ≡ g (loose_about x.0)
asked x f g alike =
    ap f (part_told x)
    ∙ alike (about_expr (enclosed x.0)) (within_shield x.0) (stood x) (within_shield x.0).block_like (within_shield x.0).kind
    ∙ sym (ap g (loose_told x))

pub at : (x : KeptExpr) (level : ℕ) (no_struct : Bool)
    → placed (about_expr (part true x.0)) (plain level no_struct) ≡ placed (loose_about x.0) (plain level no_struct)
at x level no_struct =
    asked x (λ F. placed F (plain level no_struct)) (λ F. placed F (plain level no_struct)) (λ a b stands block_like kind. refl)

pub at_free : (x : KeptExpr) → placed (about_expr (part true x.0)) FREE ≡ placed (loose_about x.0) FREE
at_free x = at x 0 false

pub at_link : (x : KeptExpr) (more : Bool) → placed (about_expr (part true x.0)) (link_place more) ≡ placed (loose_about x.0) (link_place more)
at_link x more = asked x (λ F. placed F (link_place more)) (λ F. placed F (link_place more)) (λ a b stands block_like kind. refl)

-- Nor is anything else asked of it where it begins a statement.
pub before : (x : KeptExpr) (level : ℕ) (first angle : Bool)
    → placed (about_expr (part true x.0)) (before_op level false first angle) ≡ placed (loose_about x.0) (before_op level false false angle)
before x level true angle =
    asked x (λ F. placed F (before_op level false true angle)) (λ F. placed F (before_op level false false angle)) (λ a b stands block_like kind. refl)
before x level false angle =
    asked x (λ F. placed F (before_op level false false angle)) (λ F. placed F (before_op level false false angle)) (λ a b stands block_like kind. refl)

-- ---- wholes and bodies

pub whole : (x : KeptExpr) → placed (about_expr (enclosed x.0)) statement ≡ placed (loose_about x.0) statement
whole x = whole_placed (about_expr (enclosed x.0)) ∙ inner x true ∙ sym (ap (λ (F : ExprFacts). placed F statement) (loose_told x))

-- Only a bare block holds one expression whose braces may be dropped.
bare_node : (y : ExprNode) → is_bare_node y ≡ false → is_lone_body (body_kind (expr_told y)) ≡ false
bare_node (Expr-F.Block None b) h = absurd (true≢false h)
bare_node _ h = refl

bare_expr : (x : Expr) → is_bare x ≡ false → is_lone_body (about_expr x).kind ≡ false
bare_expr x h =
    ap (λ (F : ExprFacts). is_lone_body F.kind) (ap about_expr (sym (views.roll-out-Expr x)) ∙ expr_is (views.out-Expr x))
    ∙ bare_node (views.out-Expr x) h

-- what holds of a body, where the flag says that it is a bare block
by_bare : (z : Expr) (P : Expr → Type 0) (b : Bool) → is_bare z ≡ b → P z → (is_bare z ≡ false → P (expr.Paren z)) → P (if b then z else expr.Paren z)
by_bare z P true e bare enclosed = bare
by_bare z P false e bare enclosed = enclosed e

body : (x : KeptExpr) (P : Expr → Type 0) → P (enclosed x.0) → (is_bare (enclosed x.0) ≡ false → P (part true x.0)) → P (body_part true x.0)
body x P = by_bare (enclosed x.0) P (is_bare (enclosed x.0)) refl

pub body_free : (x : KeptExpr) → placed (about_expr (body_part true x.0)) FREE ≡ placed (loose_about x.0) FREE
body_free x =
    body x (λ z. placed (about_expr z) FREE ≡ placed (loose_about x.0) FREE)
    (free_placed (about_expr (enclosed x.0)) ∙ inner x false ∙ sym (ap (λ (F : ExprFacts). placed F FREE) (loose_told x))) (λ h. at_free x)

pub body_whole : (x : KeptExpr) → placed (about_expr (body_part true x.0)) statement ≡ placed (loose_about x.0) statement
body_whole x =
    body x (λ z. placed (about_expr z) statement ≡ placed (loose_about x.0) statement) (whole x)
    (λ h. asked x (λ F. placed F statement) (λ F. placed F statement) (λ a b stands block_like kind. refl))

pub body_lone : (x : KeptExpr) → is_lone_body (about_expr (body_part true x.0)).kind ≡ is_lone_body (loose_about x.0).kind
body_lone x =
    body x (λ z. is_lone_body (about_expr z).kind ≡ is_lone_body (loose_about x.0).kind) x.1.lone
    (λ h. ap (λ (F : ExprFacts). is_lone_body F.kind) (part_told x) ∙ sym (sym x.1.lone ∙ bare_expr (enclosed x.0) h))

-- Where a struct literal may stand, a closure drops the braces that an arm does.
and_true : (a : Bool) → (a && true) ≡ a
and_true true = refl
and_true false = refl

sheds_lone : (kind : BodyKind) → sheds kind false ≡ is_lone_body kind
sheds_lone MacroBody = refl
sheds_lone (BlockBody lone structless) = and_true lone
sheds_lone OtherBody = refl

pub body_sheds : (x : KeptExpr) → sheds (about_expr (body_part true x.0)).kind false ≡ sheds (loose_about x.0).kind false
body_sheds x = sheds_lone (about_expr (body_part true x.0)).kind ∙ body_lone x ∙ sym (sheds_lone (loose_about x.0).kind)

-- ---- without parentheses

pub part_erased : (x : KeptExpr) → erase (part true x.0) ≡ erase x.0
part_erased x = ap erase (sym (views.rolls-Paren (enclosed x.0))) ∙ expr_without_is (Expr-F.Paren (enclosed x.0)) ∙ x.1.erases

pub body_erased : (x : KeptExpr) → erase (body_part true x.0) ≡ erase x.0
body_erased x = body x (λ z. erase z ≡ erase x.0) x.1.erases (λ h. part_erased x)

-- ---- lists of parts

abbrev pub trees : List KeptExpr → List Expr
trees ys = map (λ (y : KeptExpr). y.0) ys

abbrev pub parts : List KeptExpr → List Expr
parts ys = map (part true) (trees ys)

pub all_placed : (ys : List KeptExpr) → all_free (map about_expr (parts ys)) ≡ all_free (map loose_about (trees ys))
all_placed [] = refl
all_placed (y ∷ ys) = ap₂ (λ (a b : Bool). a && b) (at_free y) (all_placed ys)

pub parts_erased : (ys : List KeptExpr) → map erase (parts ys) ≡ map erase (trees ys)
parts_erased [] = refl
parts_erased (y ∷ ys) = ap₂ (λ x xs. x ∷ xs) (part_erased y) (parts_erased ys)

-- of a list of nodes, each made of another one
pub nodes_good : {N A L G : Type 0} (Is : N → Type 0) (loose : N → L) (closed : N → A) (about : A → G) (was : L → Bool) (is : G → Bool)
    → ((x : N) → Is x → is (about (closed x)) ≡ was (loose x)) → (ys : List ((x : N) × Is x))
    → let trees = map (λ (y : (x : N) × Is x). y.0) ys in list_all is (map about (map closed trees)) ≡ list_all was (map loose trees)
nodes_good Is loose closed about was is each [] = refl
nodes_good Is loose closed about was is each (y ∷ ys) =
    ap₂ (λ (a b : Bool). a && b) (each y.0 y.1) (nodes_good Is loose closed about was is each ys)

pub nodes_erased : {N : Type 0} (Is : N → Type 0) (closed erased : N → N) → ((x : N) → Is x → erased (closed x) ≡ erased x)
    → (ys : List ((x : N) × Is x)) → let trees = map (λ (y : (x : N) × Is x). y.0) ys in map erased (map closed trees) ≡ map erased trees
nodes_erased Is closed erased each [] = refl
nodes_erased Is closed erased each (y ∷ ys) = ap₂ (λ x xs. x ∷ xs) (each y.0 y.1) (nodes_erased Is closed erased each ys)
