-- Statements, blocks, links, conditions, branches and the arms of a match.
use Rattle.std.proofs.Common.{◌≡◌, Bool, true, false, not, ◌&&◌, ◌||◌, List, [], ◌∷◌, map, Option, Some, None, refl, sym, ap, ap₂, ◌∙◌}
use Rattle.lay_node.specs.nodes.Attr.{are_attrs}
use Rattle.lay_node.specs.nodes.Functions.{may_be_type}
use Rattle.lay_node.specs.nodes.Patterns.{about_pat, pat_good}
use Rattle.lay_node.specs.declared.attr.Attr.{Attr}
use Rattle.lay_node.specs.declared.heads.Site.TheVariants.{Module}
use Rattle.lay_node.specs.declared.patterns.Pat.{Pat}
use Rattle.lay_node.specs.declared.patterns.PatPlace.TheVariants.{Alternatives, Single}
use Rattle.lay_code.specs.nodes.Blocks.{arm_facts, block_facts, branch_facts, is_lone, may_precede_else, stmt_facts, stmts_good}
use Rattle.lay_code.specs.nodes.Code.{about_expr, about_link, about_stmt}
use Rattle.lay_code.specs.nodes.CodeFacts.{ArmFacts, BlockFacts, BranchFacts, ConditionFacts, LinkFacts, StmtFacts}
use Rattle.lay_code.specs.nodes.Conditions.{condition_facts, condition_good, has_let, let_link_good, link_facts, links_good}
use Rattle.lay_code.specs.nodes.Layers.{ArmNode, BlockNode, BranchNode, ConditionNode, LinkNode, StmtNode}
use Rattle.lay_code.specs.declared.blocks.Arm.{Arm}
use Rattle.lay_code.specs.declared.blocks.Block.{Block}
use Rattle.lay_code.specs.declared.blocks.Branch.{Branch}
use Rattle.lay_code.specs.declared.blocks.Stmt.{Stmt}
use Rattle.lay_code.specs.declared.blocks.Stmt.TheOpen.{Arm-F, Block-F, Branch-F, Condition-F, Link-F, Stmt-F}
use Rattle.lay_code.specs.declared.blocks.Stmt.TheVariants as stmt
use Rattle.lay_code.specs.declared.blocks.Stmt.TheViews as views
use Rattle.lay_code.specs.declared.conditions.Condition.{Condition}
use Rattle.lay_code.specs.declared.conditions.Link.{Link}
use Rattle.lay_code.specs.declared.conditions.Link.TheVariants as link
use Rattle.lay_code.specs.declared.exprs.Expr.{Expr}
use Rattle.lay_code.specs.declared.item.Item.{Item}
use Rattle.lay_code.proofs.nodes.BlocksLaws.{arm_is, block_is, branch_is, condition_is, link_expr_is, link_let_is, stmt_expr_is, stmt_item_is, stmt_let_is}
use Rattle.lay_paren_defs.specs.Enclosed.{arm_shell, block_shell, body_part, branch_shell, condition_shell, enclose, enclose_block, enclose_condition, enclose_item, enclose_link, enclose_stmt, link_shell, part, stmt_shell}
use Rattle.lay_paren_defs.specs.loose.Loose.{loose_about}
use Rattle.lay_paren.proofs.ErasedFolds.{arm_without, arm_without_is, block_without, block_without_is, branch_without, branch_without_is, condition_without, condition_without_is, link_erased, link_without, link_without_is, stmt_erased, stmt_without, stmt_without_is}
use Rattle.lay_paren.proofs.LooseFolds.{arm_shielded, block_shielded, branch_shielded, condition_shielded, link_shielded, loose_link, loose_stmt, stmt_shielded}
use Rattle.lay_paren.proofs.loose_laws_lemmas.Kept.{ArmGood, BlockGood, BranchGood, ConditionGood, Kept, KeptExpr, KeptLink, KeptStmt, LinkGood, LinkIs, StmtGood, StmtIs, arm_layer, block_layer, branch_layer, condition_layer, link_layer, stmt_layer}
use Rattle.lay_paren.proofs.loose_laws_lemmas.PartLemmas.{asked, at, at_free, at_link, body_erased, body_lone, body_whole, nodes_erased, part_erased, whole}

-- ---- statements

like_stmt : (x : Stmt) (F loose : StmtFacts) (erased : Stmt) → about_stmt x ≡ F → F.good ≡ loose.good → F.ends ≡ loose.ends → F.bare ≡ loose.bare
    → F.call ≡ loose.call → stmt_erased x ≡ erased → StmtGood loose x erased
like_stmt x F loose erased e good ends bare call erases = record {
  good = ap (λ (G : StmtFacts). G.good) e ∙ good;
  ends = ap (λ (G : StmtFacts). G.ends) e ∙ ends;
  bare = ap (λ (G : StmtFacts). G.bare) e ∙ bare;
  call = ap (λ (G : StmtFacts). G.call) e ∙ call;
  erases = erases;
}

stmt_out : (layer : StmtNode) (x : Stmt) → views.roll-Stmt layer ≡ x → stmt_erased x ≡ views.roll-Stmt (stmt_without layer)
stmt_out layer x rolls = ap stmt_erased (sym rolls) ∙ stmt_without_is layer

pub stmt_step : (y : Kept Stmt-F)
    → StmtGood (stmt_facts (stmt_shielded (stmt_layer y))) (stmt_shell true (stmt_layer y)) (views.roll-Stmt (stmt_without (stmt_layer y)))
stmt_step (Stmt-F.Stmt::Let attrs pat ty None None) =
    like_stmt (stmt.Let attrs pat ty None None) _ _ _ (stmt_let_is attrs pat ty None None) refl refl refl refl
    (stmt_out (Stmt-F.Stmt::Let attrs pat ty None None) (stmt.Let attrs pat ty None None) (views.rolls-Stmt::Let attrs pat ty None None))
stmt_step (Stmt-F.Stmt::Let attrs pat ty None (Some b)) =
    let c = enclose_block true b.0 in
    like_stmt (stmt.Let attrs pat ty None (Some c)) _ _ _ (stmt_let_is attrs pat ty None (Some c))
    refl refl refl refl
    (stmt_out (Stmt-F.Stmt::Let attrs pat ty None (Some c)) (stmt.Let attrs pat ty None (Some c)) (views.rolls-Stmt::Let attrs pat ty None (Some c))
    ∙ ap (λ (z : Block). views.roll-Stmt (Stmt-F.Stmt::Let attrs pat ty None (Some z))) b.1.erases)
stmt_step (Stmt-F.Stmt::Let attrs pat ty (Some x) None) =
    let z = part true x.0 in
    like_stmt (stmt.Let attrs pat ty (Some z) None) _ _ _ (stmt_let_is attrs pat ty (Some z) None)
    (ap (λ (b : Bool). are_attrs false attrs && pat_good Single (about_pat pat) && may_be_type ty && b && true) (at_free x)) refl refl refl
    (stmt_out (Stmt-F.Stmt::Let attrs pat ty (Some z) None) (stmt.Let attrs pat ty (Some z) None) (views.rolls-Stmt::Let attrs pat ty (Some z) None)
    ∙ ap (λ (w : Expr). views.roll-Stmt (Stmt-F.Stmt::Let attrs pat ty (Some w) None)) (part_erased x))
stmt_step (Stmt-F.Stmt::Let attrs pat ty (Some x) (Some b)) =
    let z = part true x.0 in
    let c = enclose_block true b.0 in
    like_stmt (stmt.Let attrs pat ty (Some z) (Some c)) _ _ _ (stmt_let_is attrs pat ty (Some z) (Some c))
    (ap₂ (λ (p q : Bool). p && q)
    (ap (λ (p : Bool). are_attrs false attrs && pat_good Single (about_pat pat) && may_be_type ty && p) (at_free x))
    (ap₂ (λ (p q : Bool). p && q) (asked x may_precede_else may_precede_else (λ f g stands block_like kind. refl)) b.1.good))
    refl refl refl
    (stmt_out (Stmt-F.Stmt::Let attrs pat ty (Some z) (Some c)) (stmt.Let attrs pat ty (Some z) (Some c))
    (views.rolls-Stmt::Let attrs pat ty (Some z) (Some c))
    ∙ ap₂ (λ (w : Expr) (d : Block). views.roll-Stmt (Stmt-F.Stmt::Let attrs pat ty (Some w) (Some d))) (part_erased x) b.1.erases)
stmt_step (Stmt-F.Item i) =
    let j = enclose_item true i.0 in
    like_stmt (stmt.Item j) _ _ _ (stmt_item_is j) (ap₂ (λ (a b : Bool). a && not b) (i.1.good Module) i.1.call) refl refl refl
    (stmt_out (Stmt-F.Item j) (stmt.Item j) (views.rolls-Item j) ∙ ap (λ (z : Item). views.roll-Stmt (Stmt-F.Item z)) i.1.erases)
stmt_step (Stmt-F.Stmt::Expr attrs x ended) =
    let z = enclose true x.0 in
    like_stmt (stmt.Expr attrs z ended) _ _ _ (stmt_expr_is attrs z ended) (ap (λ (b : Bool). are_attrs false attrs && b) (whole x))
    (ap (λ (b : Bool). ended || b) x.1.block_like) refl x.1.macro
    (stmt_out (Stmt-F.Stmt::Expr attrs z ended) (stmt.Expr attrs z ended) (views.rolls-Stmt::Expr attrs z ended)
    ∙ ap (λ (w : Expr). views.roll-Stmt (Stmt-F.Stmt::Expr attrs w ended)) x.1.erases)

-- ---- blocks

abbrev stmt_trees : List KeptStmt → List Stmt
stmt_trees ys = map (λ (y : KeptStmt). y.0) ys

abbrev stmts : List KeptStmt → List Stmt
stmts ys = map (enclose_stmt true) (stmt_trees ys)

abbrev told_stmts : List KeptStmt → List StmtFacts
told_stmts ys = map about_stmt (stmts ys)

abbrev loose_stmts : List KeptStmt → List StmtFacts
loose_stmts ys = map loose_stmt (stmt_trees ys)

stmts_alike : (ys : List KeptStmt) → stmts_good (told_stmts ys) ≡ stmts_good (loose_stmts ys)
stmts_alike [] = refl
stmts_alike (y ∷ []) = y.1.good
stmts_alike (y ∷ z ∷ more) = ap₂ (λ (a b : Bool). a && b) (ap₂ (λ (a b : Bool). a && b) y.1.good y.1.ends) (stmts_alike (z ∷ more))

lone_alike : (attrs : List Attr) (ys : List KeptStmt) → is_lone attrs (told_stmts ys) ≡ is_lone attrs (loose_stmts ys)
lone_alike [] [] = refl
lone_alike [] (y ∷ []) = ap₂ (λ (a b : Bool). a && not b) y.1.bare y.1.call
lone_alike [] (y ∷ z ∷ more) = refl
lone_alike (a ∷ others) ys = refl

stmts_erased : (ys : List KeptStmt) → map stmt_erased (stmts ys) ≡ map stmt_erased (stmt_trees ys)
stmts_erased = nodes_erased StmtIs (enclose_stmt true) stmt_erased (λ x is. is.erases)

abbrev of_stmts : List Attr → List Stmt → Block
of_stmts attrs stmts = record { attrs = attrs; stmts = stmts }

abbrev block_node : List Attr → List Stmt → BlockNode
block_node attrs stmts = record { attrs = attrs; stmts = stmts }

pub block_step : (y : Kept Block-F)
    → BlockGood (block_facts (block_shielded (block_layer y))) (block_shell true (block_layer y)) (views.roll-Block (block_without (block_layer y)))
block_step y =
    let told = block_is (of_stmts y.attrs (stmts y.stmts)) in
    record {
      good = ap (λ (F : BlockFacts). F.good) told ∙ ap (λ (b : Bool). are_attrs true y.attrs && b) (stmts_alike y.stmts);
      lone = ap (λ (F : BlockFacts). F.lone) told ∙ lone_alike y.attrs y.stmts;
      erases =
          block_without_is (block_node y.attrs (stmts y.stmts))
          ∙ ap (λ (all : List Stmt). views.roll-Block (block_node y.attrs all)) (stmts_erased y.stmts);
    }

-- ---- links

like_link : (x : Link) (F loose : LinkFacts) (erased : Link) → about_link x ≡ F → F.is_let ≡ loose.is_let → F.alone ≡ loose.alone
    → ((more : Bool) → F.good more ≡ loose.good more) → link_erased x ≡ erased → LinkGood loose x erased
like_link x F loose erased e is_let alone good erases = record {
  is_let = ap (λ (G : LinkFacts). G.is_let) e ∙ is_let;
  alone = ap (λ (G : LinkFacts). G.alone) e ∙ alone;
  good = λ more. ap (λ (G : LinkFacts). G.good more) e ∙ good more;
  erases = erases;
}

link_out : (layer : LinkNode) (x : Link) → views.roll-Link layer ≡ x → link_erased x ≡ views.roll-Link (link_without layer)
link_out layer x rolls = ap link_erased (sym rolls) ∙ link_without_is layer

pub link_step : (y : Kept Link-F)
    → LinkGood (link_facts (link_shielded (link_layer y))) (link_shell true (link_layer y)) (views.roll-Link (link_without (link_layer y)))
link_step (Link-F.Link::Expr x) =
    let z = part true x.0 in
    like_link (link.Expr z) _ _ _ (link_expr_is z) refl (at x 0 true) (at_link x)
    (link_out (Link-F.Link::Expr z) (link.Expr z) (views.rolls-Link::Expr z)
    ∙ ap (λ (w : Expr). views.roll-Link (Link-F.Link::Expr w)) (part_erased x))
link_step (Link-F.Link::Let pat x) =
    let z = part true x.0 in
    like_link (link.Let pat z) _ _ _ (link_let_is pat z) refl (behind_let false) behind_let
    (link_out (Link-F.Link::Let pat z) (link.Let pat z) (views.rolls-Link::Let pat z)
    ∙ ap (λ (w : Expr). views.roll-Link (Link-F.Link::Let pat w)) (part_erased x))
  where
    behind_let : (more : Bool) → let_link_good pat (about_expr (part true x.0)) more ≡ let_link_good pat (loose_about x.0) more
    behind_let more = ap (λ (b : Bool). pat_good Alternatives (about_pat pat) && b) (at_link x more)

-- ---- conditions

abbrev link_trees : List KeptLink → List Link
link_trees ys = map (λ (y : KeptLink). y.0) ys

abbrev links : List KeptLink → List Link
links ys = map (enclose_link true) (link_trees ys)

abbrev told_links : List KeptLink → List LinkFacts
told_links ys = map about_link (links ys)

abbrev loose_links : List KeptLink → List LinkFacts
loose_links ys = map loose_link (link_trees ys)

lets_alike : (ys : List KeptLink) → has_let (told_links ys) ≡ has_let (loose_links ys)
lets_alike [] = refl
lets_alike (y ∷ ys) = ap₂ (λ (a b : Bool). a || b) y.1.is_let (lets_alike ys)

links_alike : (ys : List KeptLink) → links_good (told_links ys) ≡ links_good (loose_links ys)
links_alike [] = refl
links_alike (y ∷ []) = y.1.good false
links_alike (y ∷ z ∷ more) = ap₂ (λ (a b : Bool). a && b) (y.1.good true) (links_alike (z ∷ more))

condition_alike : (ys : List KeptLink) → condition_good (told_links ys) ≡ condition_good (loose_links ys)
condition_alike [] = refl
condition_alike (y ∷ []) = y.1.alone
condition_alike (y ∷ z ∷ more) = ap₂ (λ (a b : Bool). a && b) (lets_alike (y ∷ z ∷ more)) (links_alike (y ∷ z ∷ more))

links_erased : (ys : List KeptLink) → map link_erased (links ys) ≡ map link_erased (link_trees ys)
links_erased = nodes_erased LinkIs (enclose_link true) link_erased (λ x is. is.erases)

abbrev of_links : List Link → Condition
of_links links = record { links = links }

abbrev condition_node : List Link → ConditionNode
condition_node links = record { links = links }

pub condition_step : (y : Kept Condition-F)
    → ConditionGood (condition_facts (condition_shielded (condition_layer y))) (condition_shell true (condition_layer y))
    (views.roll-Condition (condition_without (condition_layer y)))
condition_step y = record {
  good = ap (λ (F : ConditionFacts). F.good) (condition_is (of_links (links y.links))) ∙ condition_alike y.links;
  erases =
      condition_without_is (condition_node (links y.links))
      ∙ ap (λ (all : List Link). views.roll-Condition (condition_node all)) (links_erased y.links);
}

-- ---- branches

abbrev of_branch : Condition → Block → Branch
of_branch c b = record { condition = c; body = b }

abbrev branch_node : Condition → Block → BranchNode
branch_node c b = record { condition = c; body = b }

pub branch_step : (y : Kept Branch-F)
    → BranchGood (branch_facts (branch_shielded (branch_layer y))) (branch_shell true (branch_layer y)) (views.roll-Branch (branch_without (branch_layer y)))
branch_step y =
    let c = enclose_condition true y.condition.0 in
    let b = enclose_block true y.body.0 in
    record {
      good = ap (λ (F : BranchFacts). F.good) (branch_is (of_branch c b)) ∙ ap₂ (λ (p q : Bool). p && q) y.condition.1.good y.body.1.good;
      erases =
          branch_without_is (branch_node c b)
          ∙ ap₂ (λ (d : Condition) (z : Block). views.roll-Branch (branch_node d z)) y.condition.1.erases y.body.1.erases;
    }

-- ---- arms

abbrev of_arm : List Attr → Pat → Option Expr → Expr → Arm
of_arm attrs pat guard x = record { attrs = attrs; pat = pat; guard = guard; body = x }

abbrev arm_node : List Attr → Pat → Option Expr → Expr → ArmNode
arm_node attrs pat guard x = record { attrs = attrs; pat = pat; guard = guard; body = x }

abbrev ArmStep : Kept Arm-F → Type 0
ArmStep y = ArmGood (arm_facts (arm_shielded (arm_layer y))) (arm_shell true (arm_layer y)) (views.roll-Arm (arm_without (arm_layer y)))

arm_by : (attrs : List Attr) (pat : Pat) (guard : Option KeptExpr) (x : KeptExpr)
    → ArmStep (record { attrs = attrs; pat = pat; guard = guard; body = x })
arm_by attrs pat None x =
    let z = body_part true x.0 in
    record {
      good =
          ap (λ (F : ArmFacts). F.good) (arm_is (of_arm attrs pat None z))
          ∙ ap₂ (λ (p q : Bool). are_attrs false attrs && pat_good Alternatives (about_pat pat) && true && p && not q) (body_whole x) (body_lone x);
      erases =
          arm_without_is (arm_node attrs pat None z) ∙ ap (λ (w : Expr). views.roll-Arm (arm_node attrs pat None w)) (body_erased x);
    }
arm_by attrs pat (Some g) x =
    let z = body_part true x.0 in
    let guard = part true g.0 in
    let given = are_attrs false attrs && pat_good Alternatives (about_pat pat) in
    record {
      good =
          ap (λ (F : ArmFacts). F.good) (arm_is (of_arm attrs pat (Some guard) z))
          ∙ ap₂ (λ (p q : Bool). p && q)
          (ap₂ (λ (p q : Bool). given && p && q) (at_free g) (body_whole x)) (ap not (body_lone x));
      erases =
          arm_without_is (arm_node attrs pat (Some guard) z)
          ∙ ap₂ (λ (k w : Expr). views.roll-Arm (arm_node attrs pat (Some k) w)) (part_erased g) (body_erased x);
    }

pub arm_step : (y : Kept Arm-F) → ArmStep y
arm_step y = arm_by y.attrs y.pat y.guard y.body
