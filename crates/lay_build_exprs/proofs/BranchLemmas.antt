-- Struct literals and branches that are built.
use Rattle.std.proofs.Common.{IfSome, if◌then◌else◌, ◌≡◌, ◌∙◌, ◌+◌, max, Bool, true, false, ◌&&◌, ◌||◌, List, [], ◌∷◌, ◌++◌, map, option_map, Option, Some, None, refl, sym, ap, subst, arith}
use Rattle.std.specs.List.{AllByRecursion}
use Rattle.std.proofs.lemmas.Bool.{and_from}
use Rattle.std.proofs.lemmas.List.{append-nil}
use Rattle.lay_form.specs.Depth.{least_depth}
use Rattle.lay_form.specs.Form.{Bit, Form, Done, Part, Piece}
use Rattle.lay_form.specs.Notation.{body, braces, piece, soft}
use Rattle.lay_form.specs.Pieces.{are_pieces}
use Rattle.lay_node.specs.Words.{is_name}
use Rattle.lay_node.specs.nodes.Attr.{attr_form}
use Rattle.lay_node.specs.nodes.Facts.{Facts, all_good, forms}
use Rattle.lay_node.specs.nodes.Fields.{blank_if}
use Rattle.lay_node.specs.nodes.Types.{about_path, colon}
use Rattle.lay_node.specs.declared.attr.Attr.{Attr}
use Rattle.lay_node.specs.declared.token.Name.{Name}
use Rattle.lay_node.specs.declared.types.Args.TheVariants as args
use Rattle.lay_node.specs.declared.types.PathStyle.TheVariants.{Code}
use Rattle.lay_code.specs.nodes.Blocks.{attrs_before, block_form, branch_facts, dropped, dropped_if, is_plain, soft_form, stmt_form}
use Rattle.lay_code.specs.nodes.Code.{about_block, about_branch, about_condition, about_expr, about_field_expr, about_stmt}
use Rattle.lay_code.specs.nodes.CodeFacts.{BlockFacts, BranchFacts, ConditionFacts, LinkFacts, StmtFacts}
use Rattle.lay_code.specs.nodes.Conditions.{condition_facts, link_facts}
use Rattle.lay_code.specs.nodes.Exprs.{ExprFacts, else_branch_form, expr_facts, field_facts, may_be_good, placed, struct_form}
use Rattle.lay_code.specs.nodes.Layers.{ExprNode}
use Rattle.lay_code.specs.nodes.Places.{FREE, plain}
use Rattle.lay_code.specs.declared.blocks.Block.{Block}
use Rattle.lay_code.specs.declared.blocks.Branch.{Branch}
use Rattle.lay_code.specs.declared.blocks.Stmt.TheOpen.{Expr-F, FieldExpr-F, Link-F}
use Rattle.lay_code.specs.declared.blocks.Stmt.TheViews.{out-Expr}
use Rattle.lay_code.specs.declared.conditions.Link.TheVariants as link
use Rattle.lay_code.specs.declared.exprs.Expr.{Expr}
use Rattle.lay_code.specs.declared.exprs.Expr.TheVariants as expr
use Rattle.lay_code.proofs.nodes.BlocksLaws as blocks
use Rattle.lay_code.proofs.nodes.ExprsLaws as laws
use Rattle.lay_code.proofs.nodes.Layers.{expr_told}
use Rattle.lay_depth.specs.nodes.Depths.{greatest}
use Rattle.lay_depth.proofs.nodes_lemmas.Forms.{leaf_is}
use Rattle.lay_depth.specs.Parts.{block_if}
use Rattle.lay_depth.proofs.BlockLemmas as block_depths
use Rattle.lay_depth.proofs.ExprLemmas as depths
use Rattle.lay_build_types.specs.Answers.{IsKept, IsMade, need_if}
use Rattle.lay_build_types.specs.Kinds.{IsBlock, IsExpr, form_of_block, form_of_expr}
use Rattle.lay_build_exprs.specs.Kinds.{IsField, form_of_field}
use Rattle.lay_build_types.specs.Nodes as names
use Rattle.lay_build_exprs.specs.Nodes as node
use Rattle.lay_build_exprs.specs.declared.kinds.NamedExpr.{NamedExpr}
use Rattle.lay_build_exprs.proofs.ExprLemmas.{KeptExpr, made_by, paren_made, stands_at, stands_free, told_is}
use Rattle.lay_build_types.proofs.PathLemmas.{KeptName, KeptNames, plain_depth, plain_path}
use Rattle.lay_build_types.proofs.PieceLemmas.{AllPieces, Pieces, braces_pieces, ended, front, leaf_pieces, soft_pieces}

-- ---- fields of struct literals

abbrev pub KeptField : NamedExpr → Type 0
KeptField x = IsKept form_of_field IsField x

abbrev pub KeptFields : List NamedExpr → Type 0
KeptFields xs = AllByRecursion KeptField xs

module _ (x : NamedExpr) where
  abbrev told : Facts
  told = field_facts (FieldExpr-F.Named [] x.name (about_expr x.value))

  field_told : about_field_expr (node.field_expr x) ≡ told
  field_told = laws.field_expr_named_is [] x.name x.value

  -- A field by itself has its form one level deeper.
  pub field_made : KeptName x.name → KeptExpr x.value → IsMade form_of_field IsField x
  field_made name value = record {
    pieces = ended (are_pieces told.form) (leaf_pieces x.name.raw x.name.text (Piece colon (Part (form_of_expr x.value) Done)) name.made.pieces (ended (are_pieces (form_of_expr x.value)) value.made.pieces));
    holding = (name.made.holding, value.made.holding);
  }

  pub field_need : least_depth (form_of_field x) ≡ least_depth (form_of_expr x.value) + 1
  field_need =
      let h = leaf_is x.name.raw x.name.text (Piece colon (Part (form_of_expr x.value) Done)) in omega (arith, h)

  field_pieces : KeptField x → Pieces (about_field_expr (node.field_expr x)).form
  field_pieces kept = ap (λ (f : Facts). are_pieces f.form) field_told ∙ front (are_pieces told.form) kept.made.pieces

  field_good : KeptField x → (about_field_expr (node.field_expr x)).good ≡ true
  field_good kept =
      ap (λ (f : Facts). f.good) field_told
      ∙ and_from (is_name x.name.raw x.name.text) (placed (about_expr x.value) FREE) kept.made.holding.0 (stands_free (about_expr x.value) kept.made.holding.1)

  inner_depth : least_depth (form_of_field x) ≡ least_depth (about_field_expr (node.field_expr x)).form + 1
  inner_depth = let h = ap (λ (f : Facts). least_depth f.form) field_told in omega (arith, h)

fields_pieces : (xs : List NamedExpr) → KeptFields xs → AllPieces (forms (map about_field_expr (map node.field_expr xs)))
fields_pieces [] all = tt
fields_pieces (x ∷ xs) all = (field_pieces x all.0, fields_pieces xs all.1)

fields_good : (xs : List NamedExpr) → KeptFields xs → all_good (map about_field_expr (map node.field_expr xs)) ≡ true
fields_good [] all = refl
fields_good (x ∷ xs) all =
    and_from (about_field_expr (node.field_expr x)).good (all_good (map about_field_expr (map node.field_expr xs))) (field_good x all.0) (fields_good xs all.1)

-- Fields need one level more than the deepest form in the facts about them, and 1 if there are none.
fields_depth : (xs : List NamedExpr)
    → max (greatest (map form_of_field xs)) 1 ≡ greatest (forms (map about_field_expr (map node.field_expr xs))) + 1
fields_depth [] = refl
fields_depth (x ∷ xs) =
    let one = inner_depth x in
    let more = fields_depth xs in omega (arith, one, more)

module _ (first : Name) (rest : List Name) (xs : List NamedExpr) where
  pub struct_made : KeptName first → KeptNames rest → KeptFields xs → IsMade form_of_expr IsExpr (node.expr_struct first rest xs)
  struct_made kept others all =
      let p = names.path first rest args.None in
      let h = plain_path first rest kept others in
      let fs = map node.field_expr xs in
      let told = map about_field_expr fs in
      let listed : AllPieces (forms told ++ []) = subst AllPieces (sym (append-nil (forms told))) (fields_pieces xs all) in
      let inside = struct_form p told None in
      made_by (node.expr_struct first rest xs) _ (laws.expr_struct_is p fs None)
      (ended (are_pieces inside) (and_from (are_pieces (about_path p Code).form) (are_pieces (braces true (forms told ++ []))) h.pieces (braces_pieces (forms told ++ []) listed)))
      (record {
        within = λ n f.
            ended ((about_path p Code).good && all_good told)
            (and_from (about_path p Code).good (all_good told) h.good (fields_good xs all));
        closed = refl;
        untyped = refl;
      })

  pub struct_need : least_depth (form_of_expr (node.expr_struct first rest xs)) ≡ max (greatest (map form_of_field xs)) 1
  struct_need =
      let p = names.path first rest args.None in
      let h = depths.struct_is (node.expr_struct first rest xs) p (map node.field_expr xs) None refl in
      let none = plain_depth first rest in
      let fields = fields_depth xs in omega (arith, h, none, fields)

-- ---- tests

record Testable (x : ExprFacts) : Type 0 where
  block : x.block_like ≡ false
  literal : x.is_struct ≡ false

test_root : (y : ExprNode) → node.is_operand_node y || node.is_chain_node y ≡ true → Testable (expr_facts (expr_told y))
test_root (Expr-F.Lit literal) h = record { block = refl; literal = refl }
test_root (Expr-F.Path path) h = record { block = refl; literal = refl }
test_root (Expr-F.Paren inner) h = record { block = refl; literal = refl }
test_root (Expr-F.Tuple elements) h = record { block = refl; literal = refl }
test_root (Expr-F.Postfix base steps) h = record { block = refl; literal = refl }
test_root (Expr-F.Chain operand more) h = record { block = refl; literal = refl }
test_root _ h = absurd (let no : ⊥ = cc in no)

-- A test is made, and stands where no struct literal may.
pub record MadeTest (x : Expr) : Type 0 where
  pub made : IsMade form_of_expr IsExpr x
  pub stands : placed (about_expr x) (plain 0 true) ≡ true

module _ (x : Expr) (kept : KeptExpr x) where
  tested : (y : Expr) → IsMade form_of_expr IsExpr y → Testable (about_expr y) → MadeTest y
  tested y made t = record {
    made = made;
    stands = stands_at (about_expr y) (plain 0 true) made.holding (omega arith) t.block t.literal;
  }

  paren_tested : Testable (about_expr (expr.Paren x))
  paren_tested = subst Testable (sym (laws.expr_paren_is x)) (record { block = refl; literal = refl })

  pub test_made : MadeTest (node.test x)
  test_made = by (node.is_test x) refl
    where
      by : (b : Bool) → node.is_test x ≡ b → MadeTest (node.unless b x)
      by true h = tested x kept.made (subst Testable (sym (told_is x)) (test_root (out-Expr x) h))
      by false h = tested (expr.Paren x) (paren_made x kept) paren_tested

-- ---- blocks

abbrev pub KeptBlock : Block → Type 0
KeptBlock b = IsKept form_of_block IsBlock b

-- The form of a block is the same with a leading blank and without, and on one line.
body_lead : (lead other : Bool) (skipped : List Bit) (es : List Form) → are_pieces (body (blank_if lead) skipped es) ≡ are_pieces (body (blank_if other) skipped es)
body_lead lead other skipped [] = refl
body_lead lead other skipped (e ∷ es) = refl

stmt_pieces : (s : StmtFacts) → Pieces (stmt_form s) → Pieces s.form
stmt_pieces s h = by s.unended h
  where
    by : (b : Bool) → are_pieces (if b then Part s.form Done else Part s.form (piece dropped)) ≡ true → Pieces s.form
    by true h = front (are_pieces s.form) h
    by false h = front (are_pieces s.form) h

soft_of : (attrs : List Attr) (ss : List StmtFacts) → Pieces (block_form attrs ss true) → Pieces (soft_form attrs ss)
soft_of [] [] h = h
soft_of [] (s ∷ []) h = by s.bare
  where
    by : (b : Bool) → are_pieces (if b then soft s.form else block_form [] (s ∷ []) true) ≡ true
    by true = soft_pieces s.form (stmt_pieces s (front (are_pieces (stmt_form s)) (front (are_pieces (stmt_form s) && true) (front ((are_pieces (stmt_form s) && true) && true) h))))
    by false = h
soft_of [] (s ∷ t ∷ more) h = h
soft_of (a ∷ attrs) ss h = h

module _ (b : Block) (kept : KeptBlock b) where
  pub body_pieces_at : (lead : Bool) → Pieces ((about_block b).form lead)
  body_pieces_at lead =
      let same = ap (λ (f : BlockFacts). are_pieces (f.form lead)) (blocks.block_is b) in
      let other = ap (λ (f : BlockFacts). are_pieces (f.form false)) (blocks.block_is b) in
      same ∙ body_lead lead false (dropped_if (is_plain b.attrs)) (attrs_before (map attr_form b.attrs) ++ map stmt_form (map about_stmt b.stmts))
      ∙ sym other ∙ front (are_pieces ((about_block b).form false)) kept.made.pieces

  pub soft_pieces_of : Pieces (about_block b).soft
  soft_pieces_of =
      ap (λ (f : BlockFacts). are_pieces f.soft) (blocks.block_is b)
      ∙ soft_of b.attrs (map about_stmt b.stmts) (sym (ap (λ (f : BlockFacts). are_pieces (f.form true)) (blocks.block_is b)) ∙ body_pieces_at true)

pub block_need : (b : Block) (lead : Bool) → least_depth (form_of_block b) ≡ least_depth ((about_block b).form lead) + 1
block_need b lead =
    let h = block_depths.block_form_is b false in
    let g = block_depths.block_form_is b lead in omega (arith, h, g)

-- ---- branches

module _ (x : Expr) (body : Block) (test : MadeTest x) (kept : KeptBlock body) where
  abbrev branch : Branch
  branch = record { condition = record { links = link.Expr x ∷ [] }; body = body }

  condition_is : about_condition branch.condition ≡ condition_facts (record { links = link_facts (Link-F.Link::Expr (about_expr x)) ∷ [] })
  condition_is = blocks.condition_is branch.condition ∙ ap (λ (l : LinkFacts). condition_facts (record { links = l ∷ [] })) (blocks.link_expr_is x)

  branch_facts_are : about_branch branch ≡ branch_facts (record { condition = about_condition branch.condition; body = about_block body })
  branch_facts_are = blocks.branch_is branch

  condition_pieces : Pieces (about_branch branch).condition
  condition_pieces =
      ap (λ (f : BranchFacts). are_pieces f.condition) branch_facts_are
      ∙ ap (λ (f : ConditionFacts). are_pieces f.form) condition_is ∙ test.made.pieces

  branch_soft : Pieces (about_branch branch).soft
  branch_soft = ap (λ (f : BranchFacts). are_pieces f.soft) branch_facts_are ∙ soft_pieces_of body kept

  branch_good : (about_branch branch).good ≡ true
  branch_good =
      ap (λ (f : BranchFacts). f.good) branch_facts_are
      ∙ and_from (about_condition branch.condition).good (about_block body).good
      (ap (λ (f : ConditionFacts). f.good) condition_is ∙ test.stands) kept.made.holding

  else_pieces : (other : Option Block) → IfSome other KeptBlock → Pieces (else_branch_form (option_map about_block other))
  else_pieces None h = refl
  else_pieces (Some b) h = ended (are_pieces (about_block b).soft) (soft_pieces_of b h)

  else_good : (other : Option Block) → IfSome other KeptBlock → may_be_good (option_map about_block other) ≡ true
  else_good None h = refl
  else_good (Some b) h = h.made.holding

  module _ (other : Option Block) (others : IfSome other KeptBlock) where
    pub if_made : IsMade form_of_expr IsExpr (node.one_branch x body other)
    if_made =
        let c = are_pieces (about_branch branch).condition in
        let s = are_pieces (about_branch branch).soft in
        let e = are_pieces (else_branch_form (option_map about_block other)) in
        let good = (about_branch branch).good in
        made_by (node.one_branch x body other) _ (laws.expr_if_is (branch ∷ []) other)
        (ended ((c && true) && (s && e)) (and_from (c && true) (s && e) (ended c condition_pieces) (and_from s e branch_soft (else_pieces other others))))
        (record {
          within = λ n f.
              and_from (true && (good && true)) (may_be_good (option_map about_block other)) (ended good branch_good) (else_good other others);
          closed = refl;
          untyped = refl;
        })

-- what it needs, its blocks by themselves
pub if_need : (x : Expr) (body : Block) (other : Option Block)
    → least_depth (form_of_expr (node.one_branch x body other))
    ≡ max (max (least_depth (form_of_expr x) + 1) (least_depth (form_of_block body))) (need_if form_of_block other)
if_need x body other =
    let b : Branch = record { condition = record { links = link.Expr x ∷ [] }; body = body } in
    let h = depths.if_is (node.one_branch x body other) (b ∷ []) other refl in
    let one = block_depths.branch_is b in
    let condition = block_depths.condition_is b.condition in
    let tested = block_depths.expr_link_is (link.Expr x) x refl in
    let within = block_need body true in
    let behind = else_need other in
    omega (arith, h, one, condition, tested, within, behind)
  where
    -- a block that isn't there needs nothing
    else_need : (b : Option Block) → max (block_if b + 1) 1 ≡ max (need_if form_of_block b) 1
    else_need None = refl
    else_need (Some b) = let h = block_need b true in omega (arith, h)
