-- Links, conditions, branches and the arms of a match.
use Rattle.std.proofs.Common.{◌≡◌, Bool, true, false, not, ◌&&◌, ◌||◌, if◌then◌else◌, true≢false, List, [], ◌∷◌, map, Option, Some, None, option_map, refl, sym, ap, ap₂, subst, ◌∙◌, arith}
use Rattle.std.specs.List.{list_all}
use Rattle.std.proofs.lemmas.Bool.{and_parts, and_from}
use Rattle.lay_node.specs.nodes.Attr.{are_attrs}
use Rattle.lay_node.specs.nodes.Patterns.{about_pat, pat_good}
use Rattle.lay_node.specs.nodes.Types.{is_there}
use Rattle.lay_node.specs.declared.attr.Attr.{Attr}
use Rattle.lay_node.specs.declared.patterns.Pat.{Pat}
use Rattle.lay_node.specs.declared.patterns.PatPlace.TheVariants.{Alternatives}
use Rattle.lay_code.specs.nodes.Blocks.{arm_facts, branch_facts}
use Rattle.lay_code.specs.nodes.Bodies.{is_lone_body}
use Rattle.lay_code.specs.nodes.Code.{about_arm, about_block, about_branch, about_condition, about_expr, about_link}
use Rattle.lay_code.specs.nodes.CodeFacts.{ArmFacts, BranchFacts, ConditionFacts, LinkFacts}
use Rattle.lay_code.specs.nodes.Conditions.{condition_facts, condition_good, has_let, link_facts, links_good}
use Rattle.lay_code.specs.nodes.Exprs.{placed, value_placed}
use Rattle.lay_code.specs.nodes.Layers.{ArmNode, BranchNode, ConditionNode}
use Rattle.lay_code.specs.nodes.Places.{FREE, link_place, plain, statement}
use Rattle.lay_code.specs.declared.blocks.Arm.{Arm}
use Rattle.lay_code.specs.declared.blocks.Block.{Block}
use Rattle.lay_code.specs.declared.blocks.Branch.{Branch}
use Rattle.lay_code.specs.declared.blocks.Stmt.TheOpen.{Arm-F, Branch-F, Condition-F, Link-F}
use Rattle.lay_code.specs.declared.blocks.Stmt.TheViews as views
use Rattle.lay_code.specs.declared.conditions.Condition.{Condition}
use Rattle.lay_code.specs.declared.conditions.Link.{Link}
use Rattle.lay_code.specs.declared.conditions.Link.TheVariants as link
use Rattle.lay_code.specs.declared.exprs.Expr.{Expr}
use Rattle.lay_code.specs.declared.exprs.Place.{Place}
use Rattle.lay_code.proofs.nodes.BlocksLaws.{arm_is, branch_is, condition_is, link_expr_is, link_let_is}
use Rattle.lay_paren_defs.specs.loose.Loose.{loose_about}
use Rattle.lay_paren_defs.specs.loose.Slots.{Any}
use Rattle.lay_paren.specs.Least.{made_of}
use Rattle.lay_paren.specs.Made.{Made, all, both, kept, one}
use Rattle.lay_paren.specs.Parts.{arm_made, branch_made, condition_links, condition_made, link_made, links_made}
use Rattle.lay_paren.proofs.Choice.{any, both_all, both_none, both_sure, by_layer, kept_sure, none, one_sure, refuted, written}
use Rattle.lay_paren.proofs.ErasedFolds.{arm_without, arm_without_is, branch_without, branch_without_is, condition_without, condition_without_is, link_erased, link_without, link_without_is}
use Rattle.lay_paren.proofs.ExprNeeded.{some_sure}
use Rattle.lay_paren.proofs.ExprStands.{lowest, part_stands}
use Rattle.lay_paren.proofs.Kept.{ArmGood, BranchGood, ConditionGood, Kept, KeptExpr, KeptLink, LinkGood, arm_layer, branch_layer, condition_layer, link_layer}
use Rattle.lay_paren.proofs.LooseFolds.{arm_shielded, branch_shielded, condition_shielded, link_shielded, loose_link}
use Rattle.lay_paren.specs.Nodes.{arm_parts, branch_parts, condition_parts, link_parts, made_block, made_condition, made_link}
use Rattle.lay_paren.proofs.Within.{maybe_written}

-- ---- links

abbrev LinkStep : Kept Link-F → Type 0
LinkStep y = LinkGood (link_facts (link_shielded (link_layer y))) (link_made (link_parts (link_layer y)))
    (views.roll-Link (link_without (link_layer y))) (views.roll-Link (link_layer y))

link_alone : (x : Link) (F : LinkFacts) → about_link x ≡ F → F.alone ≡ true → (about_link x).alone ≡ true
link_alone x F e h = subst (λ (G : LinkFacts). G.alone ≡ true) (sym e) h

alone_link : (x : Link) (F : LinkFacts) → about_link x ≡ F → (about_link x).alone ≡ true → F.alone ≡ true
alone_link x F e h = subst (λ (G : LinkFacts). G.alone ≡ true) e h

link_good : (x : Link) (F : LinkFacts) (more : Bool) → about_link x ≡ F → F.good more ≡ true → (about_link x).good more ≡ true
link_good x F more e h = subst (λ (G : LinkFacts). G.good more ≡ true) (sym e) h

good_link : (x : Link) (F : LinkFacts) (more : Bool) → about_link x ≡ F → (about_link x).good more ≡ true → F.good more ≡ true
good_link x F more e h = subst (λ (G : LinkFacts). G.good more ≡ true) e h

pub link_step : (y : Kept Link-F) → LinkStep y
link_step (Link-F.Link::Expr x) =
    let facts = λ (p : Place). link_facts (Link-F.Link::Expr (about_expr (made_of x.0 p Any).result)) in
    record {
      is_let = λ alone more. ap (λ (F : LinkFacts). F.is_let) (link_expr_is (made_of x.0 (if alone then plain 0 true else link_place more) Any).result);
      alone = λ h.
          link_alone (link.Expr (made_of x.0 (plain 0 true) Any).result) (facts (plain 0 true)) (link_expr_is (made_of x.0 (plain 0 true) Any).result)
          (part_stands x (plain 0 true) h (plain 0 true) Any lowest);
      good = λ more h.
          link_good (link.Expr (made_of x.0 (link_place more) Any).result) (facts (link_place more)) more
          (link_expr_is (made_of x.0 (link_place more) Any).result) (part_stands x (link_place more) h (link_place more) Any (omega arith));
      alone_needed =
          by_layer (λ (z : Link). (about_link z).alone) views.roll-Link (Link-F.Link::Expr x.0) (one link.Expr (made_of x.0 (plain 0 true) Any))
          (link.Expr x.0) (views.rolls-Link::Expr x.0)
          (one_sure (written (plain 0 true) Any) (λ (z : Link). (about_link z).alone) link.Expr
          (λ z h. any (about_expr z) (plain 0 true)
          (alone_link (link.Expr z) (link_facts (Link-F.Link::Expr (about_expr z))) (link_expr_is z) h))
          (made_of x.0 (plain 0 true) Any) x.0 (x.1.needed (plain 0 true) Any tt));
      needed = λ more.
          by_layer (λ (z : Link). (about_link z).good more) views.roll-Link (Link-F.Link::Expr x.0) (one link.Expr (made_of x.0 (link_place more) Any))
          (link.Expr x.0) (views.rolls-Link::Expr x.0)
          (one_sure (written (link_place more) Any) (λ (z : Link). (about_link z).good more) link.Expr
          (λ z h. any (about_expr z) (link_place more)
          (good_link (link.Expr z) (link_facts (Link-F.Link::Expr (about_expr z))) more (link_expr_is z) h))
          (made_of x.0 (link_place more) Any) x.0 (x.1.needed (link_place more) Any tt));
      erases = λ alone more. out (if alone then plain 0 true else link_place more);
    }
  where
    out : (p : Place) → link_erased (link.Expr (made_of x.0 p Any).result) ≡ views.roll-Link (link_without (link_layer (Link-F.Link::Expr x)))
    out p =
        ap link_erased (sym (views.rolls-Link::Expr (made_of x.0 p Any).result)) ∙ link_without_is (Link-F.Link::Expr (made_of x.0 p Any).result)
        ∙ ap (λ (z : Expr). views.roll-Link (Link-F.Link::Expr z)) (x.1.erases p Any)
link_step (Link-F.Link::Let pat x) = record {
  is_let = λ alone more. ap (λ (F : LinkFacts). F.is_let) (link_let_is pat (made_of x.0 (link_place more) Any).result);
  alone = λ h. link_alone (made false) (told false) (link_let_is pat (made_of x.0 (link_place false) Any).result) (stand false h);
  good = λ more h. link_good (made more) (told more) more (link_let_is pat (made_of x.0 (link_place more) Any).result) (stand more h);
  alone_needed =
      by_layer (λ (z : Link). (about_link z).alone) views.roll-Link (Link-F.Link::Let pat x.0) (one (λ z. link.Let pat z) (made_of x.0 (link_place false) Any))
      (link.Let pat x.0) (views.rolls-Link::Let pat x.0)
      (one_sure (written (link_place false) Any) (λ (z : Link). (about_link z).alone) (λ z. link.Let pat z)
      (λ z h. any (about_expr z) (link_place false)
      (and_parts (pat_good Alternatives (about_pat pat)) (placed (about_expr z) (link_place false))
      (alone_link (link.Let pat z) (link_facts (Link-F.Link::Let pat (about_expr z))) (link_let_is pat z) h)).1)
      (made_of x.0 (link_place false) Any) x.0 (x.1.needed (link_place false) Any tt));
  needed = λ more.
      by_layer (λ (z : Link). (about_link z).good more) views.roll-Link (Link-F.Link::Let pat x.0) (one (λ z. link.Let pat z) (made_of x.0 (link_place more) Any))
      (link.Let pat x.0) (views.rolls-Link::Let pat x.0)
      (one_sure (written (link_place more) Any) (λ (z : Link). (about_link z).good more) (λ z. link.Let pat z)
      (λ z h. any (about_expr z) (link_place more)
      (and_parts (pat_good Alternatives (about_pat pat)) (placed (about_expr z) (link_place more))
      (good_link (link.Let pat z) (link_facts (Link-F.Link::Let pat (about_expr z))) more (link_let_is pat z) h)).1)
      (made_of x.0 (link_place more) Any) x.0 (x.1.needed (link_place more) Any tt));
  erases = λ alone more.
      ap link_erased (sym (views.rolls-Link::Let pat (made_of x.0 (link_place more) Any).result))
      ∙ link_without_is (Link-F.Link::Let pat (made_of x.0 (link_place more) Any).result)
      ∙ ap (λ (z : Expr). views.roll-Link (Link-F.Link::Let pat z)) (x.1.erases (link_place more) Any);
}
  where
    made : Bool → Link
    made more = link.Let pat (made_of x.0 (link_place more) Any).result

    told : Bool → LinkFacts
    told more = link_facts (Link-F.Link::Let pat (about_expr (made_of x.0 (link_place more) Any).result))

    stand : (more : Bool) → (pat_good Alternatives (about_pat pat) && placed (loose_about x.0) (link_place more)) ≡ true
        → (pat_good Alternatives (about_pat pat) && placed (about_expr (made_of x.0 (link_place more) Any).result) (link_place more)) ≡ true
    stand more h =
        let a = and_parts (pat_good Alternatives (about_pat pat)) (placed (loose_about x.0) (link_place more)) h in
        and_from (pat_good Alternatives (about_pat pat)) (placed (about_expr (made_of x.0 (link_place more) Any).result) (link_place more)) a.0
        (part_stands x (link_place more) a.1 (link_place more) Any (omega arith))

-- ---- conditions

abbrev link_trees : List KeptLink → List Link
link_trees ys = map (λ (y : KeptLink). y.0) ys

abbrev loose_links : List KeptLink → List LinkFacts
loose_links ys = map loose_link (link_trees ys)

abbrev made_links : List KeptLink → Made (List Link)
made_links ys = all (links_made (map made_link (link_trees ys)))

abbrev condition_of : List KeptLink → Made (List Link)
condition_of ys = all (condition_links (map made_link (link_trees ys)))

lets_stay : (ys : List KeptLink) → has_let (map about_link (made_links ys).result) ≡ has_let (loose_links ys)
lets_stay [] = refl
lets_stay (y ∷ ys) = ap₂ (λ (a b : Bool). a || b) (y.1.is_let false (is_there (map made_link (link_trees ys)))) (lets_stay ys)

links_stand : (ys : List KeptLink) → links_good (loose_links ys) ≡ true → links_good (map about_link (made_links ys).result) ≡ true
links_stand [] h = refl
links_stand (y ∷ []) h = y.1.good false h
links_stand (y ∷ z ∷ more) h =
    let a = and_parts _ _ h in
    and_from ((about_link (made_link y.0 false true).result).good true) (links_good (map about_link (made_links (z ∷ more)).result))
    (y.1.good true a.0) (links_stand (z ∷ more) a.1)

condition_stands : (ys : List KeptLink) → condition_good (loose_links ys) ≡ true → condition_good (map about_link (condition_of ys).result) ≡ true
condition_stands [] h = h
condition_stands (y ∷ []) h = y.1.alone h
condition_stands (y ∷ z ∷ more) h =
    let a = and_parts (has_let (loose_links (y ∷ z ∷ more))) (links_good (loose_links (y ∷ z ∷ more))) h in
    let told = map about_link (made_links (y ∷ z ∷ more)).result in
    and_from (has_let told) (links_good told) (lets_stay (y ∷ z ∷ more) ∙ a.0) (links_stand (y ∷ z ∷ more) a.1)

-- links of which one doesn't stand
abbrev Broken : List Link → Bool
Broken xs = is_there xs && not (links_good (map about_link xs))

links_broken : (y : KeptLink) (ys : List KeptLink) → list_all Broken (made_links (y ∷ ys)).cuts ≡ true
links_broken y [] =
    both_all (λ (z : Link). not ((about_link z).good false)) (λ (zs : List Link). false) Broken (λ z zs. z ∷ zs) (made_link y.0 false false) (kept [])
    (λ z h. h) (λ zs h. absurd (true≢false (sym h))) (y.1.needed false).needed refl
links_broken y (z ∷ more) =
    let first = (made_link y.0 false true).result in
    let rest = made_links (z ∷ more) in
    both_all (λ (x : Link). not ((about_link x).good true)) Broken Broken (λ x xs. x ∷ xs) (made_link y.0 false true) rest
    (λ x h. refuted (links_good (map about_link (x ∷ rest.result))) ((about_link x).good true)
    (λ k. (and_parts ((about_link x).good true) (links_good (map about_link rest.result)) k).0) h)
    (longer first) (y.1.needed true).needed (links_broken z more)
  where
    longer : (first : Link) (xs : List Link) → Broken xs ≡ true → Broken (first ∷ xs) ≡ true
    longer first [] h = absurd (true≢false (sym h))
    longer first (x ∷ xs) h =
        refuted (links_good (map about_link (first ∷ x ∷ xs))) (links_good (map about_link (x ∷ xs)))
        (λ k. (and_parts ((about_link first).good true) (links_good (map about_link (x ∷ xs))) k).1) h

abbrev all_links : List Link → Bool
all_links xs = condition_good (map about_link xs)

condition_needed : (ys : List KeptLink) → none all_links (condition_of ys).cuts ≡ true
condition_needed [] = refl
condition_needed (y ∷ []) =
    both_none (λ (z : Link). (about_link z).alone) (λ (zs : List Link). true) all_links (λ z zs. z ∷ zs) (made_link y.0 true false) (kept [])
    (λ z h. h) (λ zs h. refl) y.1.alone_needed.needed refl
condition_needed (y ∷ z ∷ more) =
    let first = (made_link y.0 false true).result in
    let rest = made_links (z ∷ more) in
    both_all (λ (x : Link). not ((about_link x).good true)) Broken (λ (xs : List Link). not (all_links xs)) (λ x xs. x ∷ xs)
    (made_link y.0 false true) rest
    (λ x h. refuted (all_links (x ∷ rest.result)) ((about_link x).good true)
    (λ k. (and_parts ((about_link x).good true) (links_good (map about_link rest.result))
    (and_parts (has_let (map about_link (x ∷ rest.result))) (links_good (map about_link (x ∷ rest.result))) k).1).0) h)
    (longer first) (y.1.needed true).needed (links_broken z more)
  where
    longer : (first : Link) (xs : List Link) → Broken xs ≡ true → not (all_links (first ∷ xs)) ≡ true
    longer first [] h = absurd (true≢false (sym h))
    longer first (x ∷ xs) h =
        refuted (all_links (first ∷ x ∷ xs)) (links_good (map about_link (x ∷ xs)))
        (λ k. (and_parts ((about_link first).good true) (links_good (map about_link (x ∷ xs)))
        (and_parts (has_let (map about_link (first ∷ x ∷ xs))) (links_good (map about_link (first ∷ x ∷ xs))) k).1).1) h

links_keep : (ys : List KeptLink) → links_good (map about_link (link_trees ys)) ≡ true → made_links ys ≡ kept (link_trees ys)
links_keep [] h = refl
links_keep (y ∷ []) h = ap (λ (m : Made Link). both (λ z zs. z ∷ zs) m (kept [])) ((y.1.needed false).keeps h)
links_keep (y ∷ z ∷ more) h =
    let c = and_parts ((about_link y.0).good true) (links_good (map about_link (link_trees (z ∷ more)))) h in
    ap₂ (both (λ w ws. w ∷ ws)) ((y.1.needed true).keeps c.0) (links_keep (z ∷ more) c.1)

condition_keeps : (ys : List KeptLink) → all_links (link_trees ys) ≡ true → condition_of ys ≡ kept (link_trees ys)
condition_keeps [] h = refl
condition_keeps (y ∷ []) h = ap (λ (m : Made Link). both (λ z zs. z ∷ zs) m (kept [])) (y.1.alone_needed.keeps h)
condition_keeps (y ∷ z ∷ more) h =
    links_keep (y ∷ z ∷ more)
    (and_parts (has_let (map about_link (link_trees (y ∷ z ∷ more)))) (links_good (map about_link (link_trees (y ∷ z ∷ more)))) h).1

links_erased : (ys : List KeptLink) → map link_erased (made_links ys).result ≡ map link_erased (link_trees ys)
links_erased [] = refl
links_erased (y ∷ ys) = ap₂ (λ x xs. x ∷ xs) (y.1.erases false (is_there (map made_link (link_trees ys)))) (links_erased ys)

condition_erases : (ys : List KeptLink) → map link_erased (condition_of ys).result ≡ map link_erased (link_trees ys)
condition_erases [] = refl
condition_erases (y ∷ []) = ap (λ x. x ∷ []) (y.1.erases true false)
condition_erases (y ∷ z ∷ more) = links_erased (y ∷ z ∷ more)

abbrev of_links : List Link → Condition
of_links links = record { links = links }

abbrev condition_node : List Link → ConditionNode
condition_node links = record { links = links }

abbrev ConditionStep : Kept Condition-F → Type 0
ConditionStep y = ConditionGood (condition_facts (condition_shielded (condition_layer y))) (condition_made (condition_parts (condition_layer y)))
    (views.roll-Condition (condition_without (condition_layer y))) (views.roll-Condition (condition_layer y))

pub condition_step : (y : Kept Condition-F) → ConditionStep y
condition_step y =
    let made = of_links (condition_of y.links).result in
    record {
      good = λ h. ap (λ (F : ConditionFacts). F.good) (condition_is made) ∙ condition_stands y.links h;
      needed =
          one_sure all_links (λ (c : Condition). (about_condition c).good) of_links
          (λ links h. sym (ap (λ (F : ConditionFacts). F.good) (condition_is (of_links links))) ∙ h) (condition_of y.links) (link_trees y.links)
          (record { needed = condition_needed y.links; keeps = condition_keeps y.links });
      erases =
          condition_without_is (condition_node (condition_of y.links).result)
          ∙ ap (λ (links : List Link). views.roll-Condition (condition_node links)) (condition_erases y.links);
    }

-- ---- branches

abbrev of_branch : Condition → Block → Branch
of_branch c b = record { condition = c; body = b }

abbrev branch_node : Condition → Block → BranchNode
branch_node c b = record { condition = c; body = b }

branch_parts_good : (c : Condition) (b : Block) → (about_branch (of_branch c b)).good ≡ ((about_condition c).good && (about_block b).good)
branch_parts_good c b = ap (λ (F : BranchFacts). F.good) (branch_is (of_branch c b))

abbrev BranchStep : Kept Branch-F → Type 0
BranchStep y = BranchGood (branch_facts (branch_shielded (branch_layer y))) (branch_made (branch_parts (branch_layer y)))
    (views.roll-Branch (branch_without (branch_layer y))) (views.roll-Branch (branch_layer y))

pub branch_step : (y : Kept Branch-F) → BranchStep y
branch_step y =
    let c = (made_condition y.condition.0).result in
    let b = (made_block y.body.0).result in
    record {
      good = λ h.
          let a = and_parts _ _ h in
          branch_parts_good c b ∙ and_from (about_condition c).good (about_block b).good (y.condition.1.good a.0) (y.body.1.good a.1);
      needed =
          both_sure (λ (z : Condition). (about_condition z).good) (λ (z : Block). (about_block z).good) (λ (z : Branch). (about_branch z).good)
          (λ d z. of_branch d z)
          (λ d z h. and_parts (about_condition d).good (about_block z).good (sym (branch_parts_good d z) ∙ h))
          (made_condition y.condition.0) (made_block y.body.0) y.condition.0 y.body.0 y.condition.1.needed y.body.1.needed;
      erases =
          branch_without_is (branch_node c b)
          ∙ ap₂ (λ (d : Condition) (z : Block). views.roll-Branch (branch_node d z)) y.condition.1.erases y.body.1.erases;
    }

-- ---- arms

abbrev of_arm : List Attr → Pat → Option Expr → Expr → Arm
of_arm attrs pat guard x = record { attrs = attrs; pat = pat; guard = guard; body = x }

abbrev arm_node : List Attr → Pat → Option Expr → Expr → ArmNode
arm_node attrs pat guard x = record { attrs = attrs; pat = pat; guard = guard; body = x }

abbrev arm_test : List Attr → Pat → Option Expr → Expr → Bool
arm_test attrs pat guard x =
    are_attrs false attrs && pat_good Alternatives (about_pat pat) && value_placed (option_map about_expr guard) && placed (about_expr x) statement
    && not (is_lone_body (about_expr x).kind)

module _ (attrs : List Attr) (pat : Pat) where
  arm_good : (guard : Option Expr) (x : Expr) → (about_arm (of_arm attrs pat guard x)).good ≡ arm_test attrs pat guard x
  arm_good guard x = ap (λ (F : ArmFacts). F.good) (arm_is (of_arm attrs pat guard x))

  in_arm : (guard : Option Expr) (x : Expr) → (about_arm (of_arm attrs pat guard x)).good ≡ true
      → (maybe_written FREE Any guard ≡ true) × (written statement Any x ≡ true)
  in_arm guard x h =
      let a = and_parts _ _ (sym (arm_good guard x) ∙ h) in
      let b = and_parts _ _ a.0 in
      let c = and_parts _ _ b.0 in
      (by guard c.1, any (about_expr x) statement b.1)
    where
      by : (guard : Option Expr) → value_placed (option_map about_expr guard) ≡ true → maybe_written FREE Any guard ≡ true
      by None k = refl
      by (Some z) k = any (about_expr z) FREE k

  -- the body of an arm
  body_stands : (x : KeptExpr) → placed (loose_about x.0) statement ≡ true → not (is_lone_body (loose_about x.0).kind) ≡ true →
      let made = (made_of x.0 statement Any).result in
      (placed (about_expr made) statement ≡ true) × (not (is_lone_body (about_expr made).kind) ≡ true)
  body_stands x h k =
      let made = (made_of x.0 statement Any).result in (
        part_stands x statement h statement Any lowest,
        refuted (is_lone_body (about_expr made).kind) (is_lone_body (loose_about x.0).kind) (x.1.whole.lone statement Any) k,
      )

abbrev ArmStep : Kept Arm-F → Type 0
ArmStep y = ArmGood (arm_facts (arm_shielded (arm_layer y))) (arm_made (arm_parts (arm_layer y))) (views.roll-Arm (arm_without (arm_layer y))) (views.roll-Arm (arm_layer y))

arm_by : (attrs : List Attr) (pat : Pat) (guard : Option KeptExpr) (x : KeptExpr)
    → ArmStep (record { attrs = attrs; pat = pat; guard = guard; body = x })
arm_by attrs pat None x =
    let made = (made_of x.0 statement Any).result in
    record {
      good = λ h.
          let a = and_parts _ _ h in
          let b = and_parts _ _ a.0 in
          let s = body_stands attrs pat x b.1 a.1 in
          let given = are_attrs false attrs && pat_good Alternatives (about_pat pat) && true in
          arm_good attrs pat None made
          ∙ and_from (given && placed (about_expr made) statement) (not (is_lone_body (about_expr made).kind))
          (and_from given (placed (about_expr made) statement) b.0 s.0) s.1;
      needed =
          both_sure (maybe_written FREE Any) (written statement Any) (λ (z : Arm). (about_arm z).good) (λ g z. of_arm attrs pat g z)
          (in_arm attrs pat) (kept None) (made_of x.0 statement Any) None x.0 (kept_sure (maybe_written FREE Any) None)
          (x.1.needed statement Any tt);
      erases =
          arm_without_is (arm_node attrs pat None made)
          ∙ ap (λ (z : Expr). views.roll-Arm (arm_node attrs pat None z)) (x.1.erases statement Any);
    }
arm_by attrs pat (Some g) x =
    let made = (made_of x.0 statement Any).result in
    let guard = (made_of g.0 FREE Any).result in
    record {
      good = λ h.
          let a = and_parts _ _ h in
          let b = and_parts _ _ a.0 in
          let c = and_parts _ _ b.0 in
          let s = body_stands attrs pat x b.1 a.1 in
          let given = are_attrs false attrs && pat_good Alternatives (about_pat pat) in
          arm_good attrs pat (Some guard) made
          ∙ and_from (given && placed (about_expr guard) FREE && placed (about_expr made) statement) (not (is_lone_body (about_expr made).kind))
          (and_from (given && placed (about_expr guard) FREE) (placed (about_expr made) statement)
          (and_from given (placed (about_expr guard) FREE) c.0 (part_stands g FREE c.1 FREE Any lowest)) s.0) s.1;
      needed =
          both_sure (maybe_written FREE Any) (written statement Any) (λ (z : Arm). (about_arm z).good) (λ k z. of_arm attrs pat k z)
          (in_arm attrs pat) (one Some (made_of g.0 FREE Any)) (made_of x.0 statement Any) (Some g.0) x.0 (some_sure FREE Any g tt)
          (x.1.needed statement Any tt);
      erases =
          arm_without_is (arm_node attrs pat (Some guard) made)
          ∙ ap₂ (λ (k z : Expr). views.roll-Arm (arm_node attrs pat (Some k) z)) (g.1.erases FREE Any) (x.1.erases statement Any);
    }

pub arm_step : (y : Kept Arm-F) → ArmStep y
arm_step y = arm_by y.attrs y.pat y.guard y.body
