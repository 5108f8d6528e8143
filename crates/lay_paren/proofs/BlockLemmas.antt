-- Statements and blocks.
use Rattle.std.proofs.Common.{◌≡◌, Bool, true, false, not, ◌&&◌, ◌||◌, true≢false, List, [], ◌∷◌, map, Option, Some, None, option_map, refl, sym, ap, ap₂, subst, ◌∙◌}
use Rattle.std.proofs.lemmas.Bool.{and_parts, and_from}
use Rattle.lay_node.specs.nodes.Attr.{are_attrs}
use Rattle.lay_node.specs.nodes.Functions.{may_be_type}
use Rattle.lay_node.specs.nodes.Patterns.{about_pat, pat_good}
use Rattle.lay_node.specs.declared.attr.Attr.{Attr}
use Rattle.lay_node.specs.declared.heads.Site.TheVariants.{Module}
use Rattle.lay_node.specs.declared.patterns.Pat.{Pat}
use Rattle.lay_node.specs.declared.patterns.PatPlace.TheVariants.{Single}
use Rattle.lay_node.specs.declared.types.Ty.{Ty}
use Rattle.lay_code.specs.nodes.Blocks.{block_facts, is_lone, may_precede_else, stmt_facts, stmts_good}
use Rattle.lay_code.specs.nodes.Code.{about_block, about_expr, about_stmt, told_of_item}
use Rattle.lay_code.specs.nodes.CodeFacts.{BlockFacts, StmtFacts}
use Rattle.lay_code.specs.nodes.Exprs.{placed}
use Rattle.lay_code.specs.nodes.Layers.{BlockNode}
use Rattle.lay_code.specs.nodes.Places.{FREE, statement}
use Rattle.lay_code.specs.declared.blocks.Block.{Block}
use Rattle.lay_code.specs.declared.blocks.Stmt.{Stmt}
use Rattle.lay_code.specs.declared.blocks.Stmt.TheOpen.{Block-F, Stmt-F}
use Rattle.lay_code.specs.declared.blocks.Stmt.TheVariants as stmt
use Rattle.lay_code.specs.declared.blocks.Stmt.TheViews as views
use Rattle.lay_code.specs.declared.exprs.Expr.{Expr}
use Rattle.lay_code.specs.declared.item.Item.{Item}
use Rattle.lay_code.proofs.nodes.BlocksLaws.{block_is, stmt_expr_is, stmt_item_is, stmt_let_is}
use Rattle.lay_paren_defs.specs.loose.Slots.{Any, BeforeElse}
use Rattle.lay_paren.specs.Least.{made_of}
use Rattle.lay_paren.specs.Made.{Made, all, both, kept, one}
use Rattle.lay_paren.specs.Parts.{block_made, stmt_made}
use Rattle.lay_paren.proofs.Choice.{Sure, any, both_none, both_sure, by_layer, in_place, kept_sure, list_sure, one_sure, written}
use Rattle.lay_paren.proofs.ErasedFolds.{block_without, block_without_is, stmt_erased, stmt_without, stmt_without_is}
use Rattle.lay_paren.proofs.ExprNeeded.{else_block, some_sure}
use Rattle.lay_paren.proofs.ExprStands.{lowest, part_fits, part_stands}
use Rattle.lay_paren.proofs.Kept.{BlockGood, Kept, KeptBlock, KeptStmt, StmtGood, StmtIs, block_layer, stmt_layer}
use Rattle.lay_paren.proofs.LooseFolds.{block_shielded, loose_block, loose_stmt, stmt_shielded}
use Rattle.lay_paren.specs.Nodes.{block_parts, made_block, made_item, made_stmt, stmt_parts}
use Rattle.lay_paren.proofs.Within.{maybe_written}

-- ---- statements

abbrev StmtStep : Kept Stmt-F → Type 0
StmtStep y = StmtGood (stmt_facts (stmt_shielded (stmt_layer y))) (stmt_made (stmt_parts (stmt_layer y)))
    (views.roll-Stmt (stmt_without (stmt_layer y))) (views.roll-Stmt (stmt_layer y))

stmt_is : (x : Stmt) (F : StmtFacts) → about_stmt x ≡ F → F.good ≡ true → (about_stmt x).good ≡ true
stmt_is x F e h = subst (λ (G : StmtFacts). G.good ≡ true) (sym e) h

is_stmt : (x : Stmt) (F : StmtFacts) → about_stmt x ≡ F → (about_stmt x).good ≡ true → F.good ≡ true
is_stmt x F e h = subst (λ (G : StmtFacts). G.good ≡ true) e h

abbrev good_stmt : Stmt → Bool
good_stmt x = (about_stmt x).good

block_needed : (b : KeptBlock) → Sure else_block (one Some (made_block b.0)) (Some b.0)
block_needed b = one_sure (λ (c : Block). (about_block c).good) else_block Some (λ c h. h) (made_block b.0) b.0 b.1.needed

-- a value that might stand before an `else`
without_else : (x : Option Expr) → maybe_written FREE BeforeElse x ≡ true → maybe_written FREE Any x ≡ true
without_else None h = refl
without_else (Some x) h = any (about_expr x) FREE (in_place (about_expr x) FREE BeforeElse h)

module _ (attrs : List Attr) (pat : Pat) (ty : Option Ty) where
  abbrev let_told : Option Expr → Option Block → StmtFacts
  let_told x b = stmt_facts (Stmt-F.Stmt::Let attrs pat ty (option_map about_expr x) (option_map about_block b))

  -- what stands within one with its value alone
  in_let : (x : Option Expr) → good_stmt (stmt.Let attrs pat ty x None) ≡ true → maybe_written FREE Any x ≡ true
  in_let None h = refl
  in_let (Some x) h =
      let w = and_parts _ _ (is_stmt (stmt.Let attrs pat ty (Some x) None) (let_told (Some x) None) (stmt_let_is attrs pat ty (Some x) None) h) in
      any (about_expr x) FREE (and_parts _ _ w.0).1

  -- and with an `else`
  in_let_else : (x : Option Expr) (b : Block) → good_stmt (stmt.Let attrs pat ty x (Some b)) ≡ true
      → (maybe_written FREE BeforeElse x ≡ true) × ((about_block b).good ≡ true)
  in_let_else None b h =
      let w = and_parts _ _ (is_stmt (stmt.Let attrs pat ty None (Some b)) (let_told None (Some b)) (stmt_let_is attrs pat ty None (Some b)) h) in
      absurd (true≢false (sym (and_parts false (about_block b).good w.1).0))
  in_let_else (Some x) b h =
      let w = and_parts _ _ (is_stmt (stmt.Let attrs pat ty (Some x) (Some b)) (let_told (Some x) (Some b)) (stmt_let_is attrs pat ty (Some x) (Some b)) h) in
      let v = and_parts (may_precede_else (about_expr x)) (about_block b).good w.1 in
      (and_from (placed (about_expr x) FREE) (may_precede_else (about_expr x)) (and_parts _ _ w.0).1 v.0, v.1)

pub stmt_step : (y : Kept Stmt-F) → StmtStep y
stmt_step (Stmt-F.Stmt::Let attrs pat ty None None) =
    let e = stmt_let_is attrs pat ty None None in
    record {
      good = stmt_is (stmt.Let attrs pat ty None None) (let_told attrs pat ty None None) e;
      ends = ap (λ (F : StmtFacts). F.ends) e;
      bare = ap (λ (F : StmtFacts). F.bare) e;
      call = ap (λ (F : StmtFacts). F.call) e;
      needed =
          by_layer good_stmt views.roll-Stmt (Stmt-F.Stmt::Let attrs pat ty None None) (kept (stmt.Let attrs pat ty None None))
          (stmt.Let attrs pat ty None None) (views.rolls-Stmt::Let attrs pat ty None None) (kept_sure good_stmt (stmt.Let attrs pat ty None None));
      erases = ap stmt_erased (sym (views.rolls-Stmt::Let attrs pat ty None None)) ∙ stmt_without_is (Stmt-F.Stmt::Let attrs pat ty None None);
    }
stmt_step (Stmt-F.Stmt::Let attrs pat ty None (Some b)) =
    let made = (made_block b.0).result in
    let e = stmt_let_is attrs pat ty None (Some made) in
    record {
      good = λ h. absurd (true≢false (sym (and_parts false (loose_block b.0).good (and_parts _ _ h).1).0));
      ends = ap (λ (F : StmtFacts). F.ends) e;
      bare = ap (λ (F : StmtFacts). F.bare) e;
      call = ap (λ (F : StmtFacts). F.call) e;
      needed =
          by_layer good_stmt views.roll-Stmt (Stmt-F.Stmt::Let attrs pat ty None (Some b.0))
          (both (λ x c. stmt.Let attrs pat ty x c) (kept None) (one Some (made_block b.0))) (stmt.Let attrs pat ty None (Some b.0))
          (views.rolls-Stmt::Let attrs pat ty None (Some b.0))
          (both_sure (λ (x : Option Expr). true) else_block good_stmt (λ x c. stmt.Let attrs pat ty x c) (λ x c h. (refl, after x c h))
          (kept None) (one Some (made_block b.0)) None (Some b.0) (kept_sure (λ (x : Option Expr). true) None) (block_needed b));
      erases =
          ap stmt_erased (sym (views.rolls-Stmt::Let attrs pat ty None (Some made)))
          ∙ stmt_without_is (Stmt-F.Stmt::Let attrs pat ty None (Some made))
          ∙ ap (λ (z : Block). views.roll-Stmt (Stmt-F.Stmt::Let attrs pat ty None (Some z))) b.1.erases;
    }
  where
    after : (x : Option Expr) (c : Option Block) → good_stmt (stmt.Let attrs pat ty x c) ≡ true → else_block c ≡ true
    after x None h = refl
    after x (Some c) h = (in_let_else attrs pat ty x c h).1
stmt_step (Stmt-F.Stmt::Let attrs pat ty (Some x) None) =
    let made = (made_of x.0 FREE Any).result in
    let e = stmt_let_is attrs pat ty (Some made) None in
    record {
      good = λ h.
          let a = and_parts _ _ h in
          let b = and_parts _ _ a.0 in
          stmt_is (stmt.Let attrs pat ty (Some made) None) (let_told attrs pat ty (Some made) None) e
          (and_from ((are_attrs false attrs && pat_good Single (about_pat pat) && may_be_type ty) && placed (about_expr made) FREE) true
          (and_from (are_attrs false attrs && pat_good Single (about_pat pat) && may_be_type ty) (placed (about_expr made) FREE) b.0
          (part_stands x FREE b.1 FREE Any lowest)) refl);
      ends = ap (λ (F : StmtFacts). F.ends) e;
      bare = ap (λ (F : StmtFacts). F.bare) e;
      call = ap (λ (F : StmtFacts). F.call) e;
      needed =
          by_layer good_stmt views.roll-Stmt (Stmt-F.Stmt::Let attrs pat ty (Some x.0) None)
          (both (λ z c. stmt.Let attrs pat ty z c) (one Some (made_of x.0 FREE Any)) (kept None)) (stmt.Let attrs pat ty (Some x.0) None)
          (views.rolls-Stmt::Let attrs pat ty (Some x.0) None)
          (both_sure (maybe_written FREE Any) (λ (c : Option Block). true) good_stmt (λ z c. stmt.Let attrs pat ty z c)
          (λ z c h. (value z c h, refl)) (one Some (made_of x.0 FREE Any)) (kept None) (Some x.0) None (some_sure FREE Any x tt)
          (kept_sure (λ (c : Option Block). true) None));
      erases =
          ap stmt_erased (sym (views.rolls-Stmt::Let attrs pat ty (Some made) None))
          ∙ stmt_without_is (Stmt-F.Stmt::Let attrs pat ty (Some made) None)
          ∙ ap (λ (z : Expr). views.roll-Stmt (Stmt-F.Stmt::Let attrs pat ty (Some z) None)) (x.1.erases FREE Any);
    }
  where
    value : (z : Option Expr) (c : Option Block) → good_stmt (stmt.Let attrs pat ty z c) ≡ true → maybe_written FREE Any z ≡ true
    value z None h = in_let attrs pat ty z h
    value z (Some c) h = without_else z (in_let_else attrs pat ty z c h).0
stmt_step (Stmt-F.Stmt::Let attrs pat ty (Some x) (Some b)) =
    let made = (made_of x.0 FREE BeforeElse).result in
    let block = (made_block b.0).result in
    let e = stmt_let_is attrs pat ty (Some made) (Some block) in
    record {
      good = λ h.
          let a = and_parts _ _ h in
          let c = and_parts _ _ a.0 in
          let d = and_parts _ _ a.1 in
          stmt_is (stmt.Let attrs pat ty (Some made) (Some block)) (let_told attrs pat ty (Some made) (Some block)) e
          (and_from ((are_attrs false attrs && pat_good Single (about_pat pat) && may_be_type ty) && placed (about_expr made) FREE)
          (may_precede_else (about_expr made) && (about_block block).good)
          (and_from (are_attrs false attrs && pat_good Single (about_pat pat) && may_be_type ty) (placed (about_expr made) FREE) c.0
          (part_stands x FREE c.1 FREE BeforeElse lowest))
          (and_from (may_precede_else (about_expr made)) (about_block block).good (part_fits x FREE c.1 FREE BeforeElse lowest) (b.1.good d.1)));
      ends = ap (λ (F : StmtFacts). F.ends) e;
      bare = ap (λ (F : StmtFacts). F.bare) e;
      call = ap (λ (F : StmtFacts). F.call) e;
      needed =
          by_layer good_stmt views.roll-Stmt (Stmt-F.Stmt::Let attrs pat ty (Some x.0) (Some b.0))
          (both (λ z c. stmt.Let attrs pat ty z c) (one Some (made_of x.0 FREE BeforeElse)) (one Some (made_block b.0)))
          (stmt.Let attrs pat ty (Some x.0) (Some b.0)) (views.rolls-Stmt::Let attrs pat ty (Some x.0) (Some b.0))
          (record {
            needed =
                both_none (maybe_written FREE BeforeElse) else_block good_stmt (λ z c. stmt.Let attrs pat ty z c)
                (one Some (made_of x.0 FREE BeforeElse)) (one Some (made_block b.0)) (λ z h. (in_let_else attrs pat ty z block h).0)
                (λ c h. after (Some made) c h) (some_sure FREE BeforeElse x refl).needed (block_needed b).needed;
            keeps = λ h.
                let w = in_let_else attrs pat ty (Some x.0) b.0 h in
                ap₂ (both (λ z c. stmt.Let attrs pat ty z c)) ((some_sure FREE BeforeElse x refl).keeps w.0) ((block_needed b).keeps w.1);
          });
      erases =
          ap stmt_erased (sym (views.rolls-Stmt::Let attrs pat ty (Some made) (Some block)))
          ∙ stmt_without_is (Stmt-F.Stmt::Let attrs pat ty (Some made) (Some block))
          ∙ ap₂ (λ (z : Expr) (c : Block). views.roll-Stmt (Stmt-F.Stmt::Let attrs pat ty (Some z) (Some c))) (x.1.erases FREE BeforeElse) b.1.erases;
    }
  where
    after : (x : Option Expr) (c : Option Block) → good_stmt (stmt.Let attrs pat ty x c) ≡ true → else_block c ≡ true
    after x None h = refl
    after x (Some c) h = (in_let_else attrs pat ty x c h).1
stmt_step (Stmt-F.Item i) =
    let made = (made_item i.0).result in
    let e = stmt_item_is made in
    record {
      good = λ h.
          let a = and_parts _ _ h in
          stmt_is (stmt.Item made) (stmt_facts (Stmt-F.Item (told_of_item made))) e
          (and_from ((told_of_item made).good Module) (not (told_of_item made).call) (i.1.good Module a.0) (ap not i.1.call ∙ a.1));
      ends = ap (λ (F : StmtFacts). F.ends) e;
      bare = ap (λ (F : StmtFacts). F.bare) e;
      call = ap (λ (F : StmtFacts). F.call) e;
      needed =
          by_layer good_stmt views.roll-Stmt (Stmt-F.Item i.0) (one stmt.Item (made_item i.0)) (stmt.Item i.0) (views.rolls-Item i.0)
          (one_sure (λ (z : Item). (told_of_item z).good Module) good_stmt stmt.Item
          (λ z h. (and_parts ((told_of_item z).good Module) (not (told_of_item z).call)
          (is_stmt (stmt.Item z) (stmt_facts (Stmt-F.Item (told_of_item z))) (stmt_item_is z) h)).0)
          (made_item i.0) i.0 (i.1.needed Module));
      erases =
          ap stmt_erased (sym (views.rolls-Item made)) ∙ stmt_without_is (Stmt-F.Item made)
          ∙ ap (λ (z : Item). views.roll-Stmt (Stmt-F.Item z)) i.1.erases;
    }
stmt_step (Stmt-F.Stmt::Expr attrs x ended) =
    let made = (made_of x.0 statement Any).result in
    let e = stmt_expr_is attrs made ended in
    record {
      good = λ h.
          let a = and_parts _ _ h in
          stmt_is (stmt.Expr attrs made ended) (stmt_facts (Stmt-F.Stmt::Expr attrs (about_expr made) ended)) e
          (and_from (are_attrs false attrs) (placed (about_expr made) statement) a.0 (part_stands x statement a.1 statement Any lowest));
      ends = ap (λ (F : StmtFacts). F.ends) e ∙ ap (λ (b : Bool). ended || b) x.1.whole.block_like;
      bare = ap (λ (F : StmtFacts). F.bare) e;
      call = ap (λ (F : StmtFacts). F.call) e ∙ x.1.whole.macro;
      needed =
          by_layer good_stmt views.roll-Stmt (Stmt-F.Stmt::Expr attrs x.0 ended) (one (λ z. stmt.Expr attrs z ended) (made_of x.0 statement Any))
          (stmt.Expr attrs x.0 ended) (views.rolls-Stmt::Expr attrs x.0 ended)
          (one_sure (written statement Any) good_stmt (λ z. stmt.Expr attrs z ended)
          (λ z h. any (about_expr z) statement
          (and_parts (are_attrs false attrs) (placed (about_expr z) statement)
          (is_stmt (stmt.Expr attrs z ended) (stmt_facts (Stmt-F.Stmt::Expr attrs (about_expr z) ended)) (stmt_expr_is attrs z ended) h)).1)
          (made_of x.0 statement Any) x.0 (x.1.needed statement Any tt));
      erases =
          ap stmt_erased (sym (views.rolls-Stmt::Expr attrs made ended)) ∙ stmt_without_is (Stmt-F.Stmt::Expr attrs made ended)
          ∙ ap (λ (z : Expr). views.roll-Stmt (Stmt-F.Stmt::Expr attrs z ended)) (x.1.erases statement Any);
    }

-- ---- blocks

abbrev stmt_trees : List KeptStmt → List Stmt
stmt_trees ys = map (λ (y : KeptStmt). y.0) ys

abbrev made_stmts : List KeptStmt → Made (List Stmt)
made_stmts ys = all (map made_stmt (stmt_trees ys))

abbrev told_stmts : List KeptStmt → List StmtFacts
told_stmts ys = map about_stmt (made_stmts ys).result

stmts_stand : (ys : List KeptStmt) → stmts_good (map loose_stmt (stmt_trees ys)) ≡ true → stmts_good (told_stmts ys) ≡ true
stmts_stand [] h = refl
stmts_stand (y ∷ []) h = y.1.good h
stmts_stand (y ∷ z ∷ more) h =
    let a = and_parts _ _ h in
    let b = and_parts _ _ a.0 in
    let s = about_stmt (made_stmt y.0).result in
    and_from (s.good && s.ends) (stmts_good (told_stmts (z ∷ more))) (and_from s.good s.ends (y.1.good b.0) (y.1.ends ∙ b.1))
    (stmts_stand (z ∷ more) a.1)

lone_stays : (attrs : List Attr) (ys : List KeptStmt) → is_lone attrs (told_stmts ys) ≡ is_lone attrs (map loose_stmt (stmt_trees ys))
lone_stays [] [] = refl
lone_stays [] (y ∷ []) = ap₂ (λ (a b : Bool). a && not b) y.1.bare y.1.call
lone_stays [] (y ∷ z ∷ more) = refl
lone_stays (a ∷ others) ys = refl

abbrev all_stmts : List Stmt → Bool
all_stmts xs = stmts_good (map about_stmt xs)

stmts_needed : (ys : List KeptStmt) → Sure all_stmts (made_stmts ys) (stmt_trees ys)
stmts_needed ys = list_sure {Is = StmtIs} good_stmt all_stmts down made_stmt (λ x is. is.needed) ys
  where
    down : (x : Stmt) (xs : List Stmt) → all_stmts (x ∷ xs) ≡ true → (good_stmt x ≡ true) × (all_stmts xs ≡ true)
    down x [] h = (h, refl)
    down x (y ∷ xs) h = let a = and_parts _ _ h in ((and_parts _ _ a.0).0, a.1)

stmts_erased : (ys : List KeptStmt) → map stmt_erased (made_stmts ys).result ≡ map stmt_erased (stmt_trees ys)
stmts_erased [] = refl
stmts_erased (y ∷ ys) = ap₂ (λ x xs. x ∷ xs) y.1.erases (stmts_erased ys)

abbrev of_stmts : List Attr → List Stmt → Block
of_stmts attrs stmts = record { attrs = attrs; stmts = stmts }

abbrev block_node : List Attr → List Stmt → BlockNode
block_node attrs stmts = record { attrs = attrs; stmts = stmts }

block_good : (b : Block) → (are_attrs true b.attrs && stmts_good (map about_stmt b.stmts)) ≡ true → (about_block b).good ≡ true
block_good b h = ap (λ (F : BlockFacts). F.good) (block_is b) ∙ h

good_block : (b : Block) → (about_block b).good ≡ true → stmts_good (map about_stmt b.stmts) ≡ true
good_block b h =
    (and_parts (are_attrs true b.attrs) (stmts_good (map about_stmt b.stmts)) (sym (ap (λ (F : BlockFacts). F.good) (block_is b)) ∙ h)).1

abbrev BlockStep : Kept Block-F → Type 0
BlockStep y = BlockGood (block_facts (block_shielded (block_layer y))) (block_made (block_parts (block_layer y)))
    (views.roll-Block (block_without (block_layer y))) (views.roll-Block (block_layer y))

pub block_step : (y : Kept Block-F) → BlockStep y
block_step y =
    let made = of_stmts y.attrs (made_stmts y.stmts).result in
    record {
      good = λ h.
          let a = and_parts _ _ h in
          block_good made (and_from (are_attrs true y.attrs) (stmts_good (told_stmts y.stmts)) a.0 (stmts_stand y.stmts a.1));
      lone = ap (λ (F : BlockFacts). F.lone) (block_is made) ∙ lone_stays y.attrs y.stmts;
      needed =
          one_sure all_stmts (λ (b : Block). (about_block b).good) (of_stmts y.attrs) (λ stmts. good_block (of_stmts y.attrs stmts))
          (made_stmts y.stmts) (stmt_trees y.stmts) (stmts_needed y.stmts);
      erases =
          block_without_is (block_node y.attrs (made_stmts y.stmts).result)
          ∙ ap (λ (stmts : List Stmt). views.roll-Block (block_node y.attrs stmts)) (stmts_erased y.stmts);
    }
