-- Statements and blocks that are built.
use Rattle.std.proofs.Common.{IfSome, ◌≡◌, ◌∙◌, ◌+◌, max, Bool, true, false, ◌&&◌, List, [], ◌∷◌, ◌++◌, map, Option, Some, None, if◌then◌else◌, refl, sym, ap, subst, arith}
use Rattle.std.specs.List.{AllByRecursion}
use Rattle.std.proofs.lemmas.Bool.{and_from}
use Rattle.std.proofs.lemmas.List.{map-append}
use Rattle.lay_form.specs.Depth.{least_depth}
use Rattle.lay_form.specs.Form.{Form, Done, Part, semicolon}
use Rattle.lay_form.specs.Notation.{piece}
use Rattle.lay_form.specs.Pieces.{are_pieces}
use Rattle.lay_node.specs.Words.{is_name}
use Rattle.lay_node.specs.nodes.Functions.{may_be_type}
use Rattle.lay_node.specs.nodes.Patterns.{PatFacts, about_pat, pat_facts, pat_good}
use Rattle.lay_node.specs.nodes.Types.{about_type}
use Rattle.lay_node.specs.declared.patterns.FieldPat.TheOpen.{Pat-F}
use Rattle.lay_node.specs.declared.patterns.PatPlace.TheVariants.{Single}
use Rattle.lay_node.specs.declared.token.Name.{Name}
use Rattle.lay_node.specs.declared.types.Ty.{Ty}
use Rattle.lay_node.proofs.nodes.PatternsLaws.{pat_bind_is}
use Rattle.lay_code.specs.nodes.Blocks.{dropped, ended_form, let_type, stmt_form, stmts_good}
use Rattle.lay_code.specs.nodes.Code.{about_block, about_expr, about_stmt}
use Rattle.lay_code.specs.nodes.CodeFacts.{BlockFacts, StmtFacts}
use Rattle.lay_code.specs.nodes.Exprs.{placed, value_form}
use Rattle.lay_code.specs.nodes.Places.{FREE}
use Rattle.lay_code.specs.declared.blocks.Stmt.{Stmt}
use Rattle.lay_code.specs.declared.blocks.Stmt.TheVariants as stmt
use Rattle.lay_code.specs.declared.exprs.Expr.{Expr}
use Rattle.lay_code.proofs.nodes.BlocksLaws as laws
use Rattle.lay_depth.specs.nodes.Depths.{greatest, type_if}
use Rattle.lay_depth.proofs.nodes_lemmas.Forms.{both_are, leaf_is}
use Rattle.lay_depth.proofs.BlockLemmas as depths
use Rattle.lay_build_types.specs.Answers.{IsKept, IsMade, need_if}
use Rattle.lay_build_types.specs.Kinds.{IsBlock, IsName, IsStmt, form_of_block, form_of_expr, form_of_name, form_of_stmt, form_of_type}
use Rattle.lay_build.specs.Nodes as node
use Rattle.lay_build_exprs.proofs.ExprLemmas.{KeptExpr, stands_free, stands_whole}
use Rattle.lay_build_types.proofs.PathLemmas.{KeptName}
use Rattle.lay_build_types.proofs.PieceLemmas.{AllPieces, Pieces, all_behind, body_pieces, ended, front, leaf_pieces}
use Rattle.lay_build_types.proofs.TypeLemmas.{KeptType, bounded}

-- ---- patterns that are names

module _ (n : Name) (made : IsMade form_of_name IsName n) where
  bind_is : about_pat (node.bind n) ≡ pat_facts (Pat-F.Bind false false n None)
  bind_is = pat_bind_is false false n None

  pub bind_pieces : Pieces (about_pat (node.bind n)).told.form
  bind_pieces = ap (λ (f : PatFacts). are_pieces f.told.form) bind_is ∙ ended _ (leaf_pieces n.raw n.text Done made.pieces refl)

  pub bind_good : pat_good Single (about_pat (node.bind n)) ≡ true
  bind_good =
      ap (pat_good Single) bind_is
      ∙ ended (is_name n.raw n.text && true) (ended (is_name n.raw n.text) made.holding)

pub bind_need : (n : Name) → least_depth (about_pat (node.bind n)).told.form ≡ 1
bind_need n =
    let h = ap (λ (f : PatFacts). least_depth f.told.form) (pat_bind_is false false n None) in
    let within = leaf_is n.raw n.text Done in omega (arith, h, within)

-- ---- statements

-- A statement by itself has its form one level deeper.
stmt_by : (s : Stmt) (facts : StmtFacts) → about_stmt s ≡ facts → Pieces facts.form → facts.good ≡ true → facts.ends ≡ true
    → IsMade form_of_stmt IsStmt s
stmt_by s facts is pieces good ends = record {
  pieces = ended (are_pieces (about_stmt s).form) (ap (λ (f : StmtFacts). are_pieces f.form) is ∙ pieces);
  holding = record { good = ap (λ (f : StmtFacts). f.good) is ∙ good; ends = ap (λ (f : StmtFacts). f.ends) is ∙ ends };
}

module _ (x : Expr) (kept : KeptExpr x) where
  expr_stmt_pieces : (done : Bool) → Pieces (Part (form_of_expr x) (ended_form done))
  expr_stmt_pieces true = ended (are_pieces (form_of_expr x)) kept.made.pieces
  expr_stmt_pieces false = ended (are_pieces (form_of_expr x)) kept.made.pieces

  pub expr_stmt_made : IsMade form_of_stmt IsStmt (node.stmt_expr x)
  expr_stmt_made =
      stmt_by (node.stmt_expr x) _ (laws.stmt_expr_is [] x true) (expr_stmt_pieces true)
      (stands_whole (about_expr x) kept.made.holding) refl

  -- The tail of a block is a statement of its own, the last.
  pub tail_pieces : Pieces (about_stmt (stmt.Expr [] x false)).form
  tail_pieces = ap (λ (f : StmtFacts). are_pieces f.form) (laws.stmt_expr_is [] x false) ∙ expr_stmt_pieces false

  pub tail_good : (about_stmt (stmt.Expr [] x false)).good ≡ true
  tail_good = ap (λ (f : StmtFacts). f.good) (laws.stmt_expr_is [] x false) ∙ stands_whole (about_expr x) kept.made.holding

pub expr_stmt_need : (x : Expr) → least_depth (form_of_stmt (node.stmt_expr x)) ≡ least_depth (form_of_expr x) + 1
expr_stmt_need x = let h = depths.expr_is (node.stmt_expr x) [] x true refl in omega (arith, h)

module _ (n : Name) (ty : Option Ty) (x : Expr) (name : KeptName n) (asked : IfSome ty KeptType) (value : KeptExpr x) where
  type_pieces : (t : Option Ty) (f : Form) → IfSome t KeptType → Pieces f → Pieces (let_type t f)
  type_pieces None f h more = more
  type_pieces (Some t) f h more = and_from (are_pieces (form_of_type t)) (are_pieces f) h.made.pieces more

  type_good : (t : Option Ty) → IfSome t KeptType → may_be_type t ≡ true
  type_good None h = refl
  type_good (Some t) h = bounded (about_type t) h.made.holding

  pub let_made : IsMade form_of_stmt IsStmt (node.stmt_let n ty x)
  let_made =
      let p = (about_pat (node.bind n)).told.form in
      let v = form_of_expr x in
      let behind = Part (value_form (Some (about_expr x))) (Part Done (piece semicolon)) in
      let rest = type_pieces ty behind asked (ended (are_pieces v && true) (ended (are_pieces v) value.made.pieces)) in
      let bound = pat_good Single (about_pat (node.bind n)) in
      stmt_by (node.stmt_let n ty x) _ (laws.stmt_let_is [] (node.bind n) ty (Some x) None)
      (and_from (are_pieces p) (are_pieces (let_type ty behind)) (bind_pieces n name.made) rest)
      (ended (bound && may_be_type ty && placed (about_expr x) FREE)
      (and_from (bound && may_be_type ty) (placed (about_expr x) FREE)
      (and_from bound (may_be_type ty) (bind_good n name.made) (type_good ty asked)) (stands_free (about_expr x) value.made.holding))) refl

pub let_need : (n : Name) (ty : Option Ty) (x : Expr)
    → least_depth (form_of_stmt (node.stmt_let n ty x)) ≡ max (max (least_depth (form_of_expr x)) (need_if form_of_type ty)) 1 + 1
let_need n ty x =
    let h = depths.let_alone_is (node.stmt_let n ty x) [] (node.bind n) ty (Some x) None refl refl in
    let p = bind_need n in
    let t = type_need ty in omega (arith, h, p, t)
  where
    type_need : (t : Option Ty) → type_if t ≡ need_if form_of_type t
    type_need None = refl
    type_need (Some t) = refl

-- ---- blocks

abbrev pub KeptStmt : Stmt → Type 0
KeptStmt s = IsKept form_of_stmt IsStmt s

abbrev pub KeptStmts : List Stmt → Type 0
KeptStmts ss = AllByRecursion KeptStmt ss

told_stmt : (s : StmtFacts) → Pieces s.form → Pieces (stmt_form s)
told_stmt s h = by s.unended
  where
    by : (b : Bool) → are_pieces (if b then Part s.form Done else Part s.form (piece dropped)) ≡ true
    by true = ended (are_pieces s.form) h
    by false = ended (are_pieces s.form) h

told_stmts : (ss : List Stmt) → KeptStmts ss → AllPieces (map stmt_form (map about_stmt ss))
told_stmts [] all = tt
told_stmts (s ∷ ss) all = (told_stmt (about_stmt s) (front (are_pieces (about_stmt s).form) all.0.made.pieces), told_stmts ss all.1)

module _ (tail : Option Expr) (last : IfSome tail KeptExpr) where
  tail_told : (t : Option Expr) → IfSome t KeptExpr → AllPieces (map stmt_form (map about_stmt (node.tail_stmt t)))
  tail_told None h = tt
  tail_told (Some x) h = (told_stmt (about_stmt (stmt.Expr [] x false)) (tail_pieces x h), tt)

  alone_good : (t : Option Expr) → IfSome t KeptExpr → stmts_good (map about_stmt (node.tail_stmt t)) ≡ true
  alone_good None h = refl
  alone_good (Some x) h = tail_good x h

  -- Statements that end by themselves stand before it.
  before_good : (s : Stmt) (ss : List StmtFacts) → KeptStmt s → stmts_good ss ≡ true → stmts_good (about_stmt s ∷ ss) ≡ true
  before_good s [] kept h = kept.made.holding.good
  before_good s (t ∷ more) kept h =
      let f = about_stmt s in
      and_from (f.good && f.ends) (stmts_good (t ∷ more)) (and_from f.good f.ends kept.made.holding.good kept.made.holding.ends) h

  all_good : (ss : List Stmt) → KeptStmts ss → stmts_good (map about_stmt (ss ++ node.tail_stmt tail)) ≡ true
  all_good [] all = alone_good tail last
  all_good (s ∷ ss) all = before_good s (map about_stmt (ss ++ node.tail_stmt tail)) all.0 (all_good ss all.1)

  pub block_made : (ss : List Stmt) → KeptStmts ss → IsMade form_of_block IsBlock (node.block ss tail)
  block_made ss all =
      let whole = ss ++ node.tail_stmt tail in
      let told = laws.block_is (node.block ss tail) in
      let told_forms : map stmt_form (map about_stmt whole) ≡ map stmt_form (map about_stmt ss) ++ map stmt_form (map about_stmt (node.tail_stmt tail)) =
      ap (map stmt_form) (map-append about_stmt ss (node.tail_stmt tail)) ∙ map-append stmt_form (map about_stmt ss) (map about_stmt (node.tail_stmt tail)) in
      let pieces = subst AllPieces (sym told_forms) (all_behind Pieces (map stmt_form (map about_stmt ss)) (map stmt_form (map about_stmt (node.tail_stmt tail))) (told_stmts ss all) (tail_told tail last)) in
      record {
        pieces = ended (are_pieces ((about_block (node.block ss tail)).form false))
            (ap (λ (f : BlockFacts). are_pieces (f.form false)) told ∙ body_pieces [] dropped (map stmt_form (map about_stmt whole)) pieces);
        holding = ap (λ (f : BlockFacts). f.good) told ∙ all_good ss all;
      }

-- What the deepest statement needs by itself, and what the tail does one level deeper; an empty block needs 1.
stmts_need : (ss : List Stmt) → max (greatest (map form_of_stmt ss)) 1 ≡ greatest (map depths.stmt_told ss) + 1
stmts_need [] = refl
stmts_need (s ∷ ss) = let h = stmts_need ss in omega (arith, h)

pub block_need : (ss : List Stmt) (tail : Option Expr)
    → least_depth (form_of_block (node.block ss tail)) ≡ max (greatest (map form_of_stmt ss)) (need_if form_of_expr tail + 1)
block_need ss tail =
    let h = depths.block_is (node.block ss tail) false in
    let split = ap greatest (map-append depths.stmt_told ss (node.tail_stmt tail)) ∙ both_are (map depths.stmt_told ss) (map depths.stmt_told (node.tail_stmt tail)) in
    let stmts = stmts_need ss in
    let last = tail_need tail in omega (arith, h, split, stmts, last)
  where
    tail_need : (t : Option Expr) → greatest (map depths.stmt_told (node.tail_stmt t)) ≡ need_if form_of_expr t
    tail_need None = refl
    tail_need (Some x) = let g = depths.expr_is (stmt.Expr [] x false) [] x false refl in omega (arith, g)
