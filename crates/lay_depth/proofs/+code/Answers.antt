use Rattle.std.proofs.Common.{◌≡◌, ◌∙◌, ℕ, ◌+◌, max, true, sym, ap, arith}
use Rattle.lay_code.specs.nodes.Code.{about_field_expr, form_of_item}
use Rattle.lay_form.specs.Depth.{least_depth}
use Rattle.lay_depth.specs.nodes.Depths.{counted, greatest}
use Rattle.lay_depth.proofs.nodes_lemmas.Loops.{all_told, all_turns, form_of, turn}
use Rattle.lay_depth.specs.Parts.{arm_form, block_if, branch_form, expr_if, link_form, operand_form, step_form, target_form}
use Rattle.lay_depth.proofs.BlockLemmas as blocks
use Rattle.lay_depth.proofs.BlockLemmas.{stmt_told}
use Rattle.lay_depth.proofs.ExprLemmas as of
use Rattle.lay_depth.proofs.ExprLemmas.{expr_told}
use Rattle.lay_depth.proofs.ItemLemmas as items
use Rattle.lay_depth.proofs.+code.Goals as goal

-- the deeper of two parts, and one level more
max_counted : (a b : ℕ) {m n most : ℕ} → m ≡ counted a → n ≡ counted b → most ≡ max m n → most ≡ counted (max a b)
max_counted a b one other is = omega (arith, one, other, is)

one_deeper : (a : ℕ) {m deep : ℕ} → m ≡ counted a → deep ≡ counted (m + 1) → deep ≡ counted (a + 1)
one_deeper a one is = omega (arith, one, is)

-- ---- expressions

pub exprs::expr_depth-returns-in-Lit : goal.exprs::expr_depth-returns-in-Lit
exprs::expr_depth-returns-in-Lit g c = of.leaf_is_one c.args.expr.now c.in-Lit.is

pub exprs::expr_depth-returns-in-Lit-2 : goal.exprs::expr_depth-returns-in-Lit-2
exprs::expr_depth-returns-in-Lit-2 g c = of.leaf_is_one c.args.expr.now c.in-Lit.is

pub exprs::expr_depth-returns-in-Lit-3 : goal.exprs::expr_depth-returns-in-Lit-3
exprs::expr_depth-returns-in-Lit-3 g c = of.leaf_is_one c.args.expr.now c.in-Lit.is

pub exprs::expr_depth-returns-in-Lit-4 : goal.exprs::expr_depth-returns-in-Lit-4
exprs::expr_depth-returns-in-Lit-4 g c = of.leaf_is_one c.args.expr.now c.in-Lit.is

pub exprs::expr_depth-returns-in-Path : goal.exprs::expr_depth-returns-in-Path
exprs::expr_depth-returns-in-Path g c =
    let m = of.path_is c.args.expr.now c.in-Path.path c.in-Path.is in
    omega (arith, m, c.path_depth.ensures, c.deeper.ensures)

pub exprs::expr_depth-returns-in-Tuple : goal.exprs::expr_depth-returns-in-Tuple
exprs::expr_depth-returns-in-Tuple g c =
    let m = of.elements_are c.args.expr.now c.in-Tuple.elements c.in-Tuple.is in
    let n = rw c.as_slice-in-Tuple.ensures at c.exprs_depth.ensures in
    omega (arith, m, n, c.deeper-in-Tuple.ensures)

pub exprs::expr_depth-returns-in-Paren : goal.exprs::expr_depth-returns-in-Paren
exprs::expr_depth-returns-in-Paren g c =
    let m = of.inner_is c.args.expr.now c.in-Paren.part c.in-Paren.is in
    let n = rw c.get-in-Paren.ensures at c.expr_depth-in-Paren.ensures in
    omega (arith, m, n, c.deeper-in-Paren.ensures)

pub exprs::expr_depth-returns-in-Struct : goal.exprs::expr_depth-returns-in-Struct
exprs::expr_depth-returns-in-Struct g c =
    let m = of.struct_is c.args.expr.now c.in-Struct.path c.in-Struct.fields c.in-Struct.base c.in-Struct.is in
    let n = rw c.as_slice.ensures at c.fields_depth.ensures in
    omega (arith, m, n, c.path_depth-in-Struct.ensures, c.max-within.ensures, c.base_depth.ensures, c.max.ensures, c.deeper-in-Struct.ensures)

pub exprs::expr_depth-returns-in-Chain : goal.exprs::expr_depth-returns-in-Chain
exprs::expr_depth-returns-in-Chain g c =
    let m = of.chain_is c.args.expr.now c.in-Chain.first c.in-Chain.rest c.in-Chain.is in
    let n = rw c.get.ensures at c.expr_depth.ensures in
    let o = rw c.as_slice-in-Chain.ensures at c.operands_depth.ensures in
    omega (arith, m, n, o, c.max-in-Chain.ensures, c.deeper-in-Chain.ensures)

pub exprs::expr_depth-returns-in-Cast : goal.exprs::expr_depth-returns-in-Cast
exprs::expr_depth-returns-in-Cast g c =
    let m = of.cast_is c.args.expr.now c.in-Cast.operand c.in-Cast.types c.in-Cast.is in
    let n = rw c.get-in-Cast.ensures at c.expr_depth-in-Cast.ensures in
    let o = rw c.as_slice-in-Cast.ensures at c.types_depth.ensures in
    omega (arith, m, n, o, c.max-in-Cast.ensures, c.deeper-in-Cast.ensures)

pub exprs::expr_depth-returns-in-Range : goal.exprs::expr_depth-returns-in-Range
exprs::expr_depth-returns-in-Range g c =
    let m = of.range_is c.args.expr.now c.in-Range.start c.in-Range.inclusive c.in-Range.end c.in-Range.is in
    omega (arith, m, c.operand_depth.ensures, c.operand_depth-in-Range.ensures, c.max-in-Range.ensures, c.deeper-in-Range.ensures)

pub exprs::expr_depth-returns-in-Assign : goal.exprs::expr_depth-returns-in-Assign
exprs::expr_depth-returns-in-Assign g c =
    let m = of.assign_is c.args.expr.now c.in-Assign.targets c.in-Assign.value c.in-Assign.is in
    let n = rw c.as_slice-in-Assign.ensures at c.targets_depth.ensures in
    let o = rw c.get-in-Assign.ensures at c.expr_depth-in-Assign.ensures in
    omega (arith, m, n, o, c.max-in-Assign.ensures, c.deeper-in-Assign.ensures)

pub exprs::expr_depth-returns-in-Postfix : goal.exprs::expr_depth-returns-in-Postfix
exprs::expr_depth-returns-in-Postfix g c =
    let m = of.postfix_is c.args.expr.now c.in-Postfix.base c.in-Postfix.steps c.in-Postfix.is in
    let n = rw c.get-in-Postfix.ensures at c.expr_depth-in-Postfix.ensures in
    let o = rw c.as_slice-in-Postfix.ensures at c.steps_depth.ensures in
    omega (arith, m, n, o, c.max-in-Postfix.ensures, c.deeper-in-Postfix.ensures)

pub exprs::expr_depth-returns-in-Block : goal.exprs::expr_depth-returns-in-Block
exprs::expr_depth-returns-in-Block g c =
    let m = of.body_depth_is c.args.expr.now c.in-Block.body c.in-Block.is in
    omega (arith, m, c.block_depth-in-Block.ensures, c.deeper-in-Block.ensures)

pub exprs::expr_depth-returns-in-If : goal.exprs::expr_depth-returns-in-If
exprs::expr_depth-returns-in-If g c =
    let m = of.if_is c.args.expr.now c.in-If.branches c.in-If.otherwise c.in-If.is in
    let n = rw c.as_slice-in-If.ensures at c.branches_depth.ensures in
    omega (arith, m, n, c.block_or_none_depth.ensures, c.max-in-If.ensures, c.deeper-in-If.ensures)

pub exprs::expr_depth-returns-in-Match : goal.exprs::expr_depth-returns-in-Match
exprs::expr_depth-returns-in-Match g c =
    let m = of.match_is c.args.expr.now c.in-Match.scrutinee c.in-Match.attrs c.in-Match.arms c.in-Match.is in
    let n = rw c.get-in-Match.ensures at c.expr_depth-in-Match.ensures in
    let o = rw c.as_slice-in-Match.ensures at c.arms_depth.ensures in
    omega (arith, m, n, o, c.max-in-Match.ensures, c.deeper-in-Match.ensures)

pub exprs::expr_depth-returns-in-While : goal.exprs::expr_depth-returns-in-While
exprs::expr_depth-returns-in-While g c =
    let m = of.while_is c.args.expr.now c.in-While.label c.in-While.condition c.in-While.body c.in-While.is in
    omega (arith, m, c.condition_depth.ensures, c.block_depth.ensures, c.max-in-While.ensures, c.deeper-in-While.ensures)

pub exprs::expr_depth-returns-in-For : goal.exprs::expr_depth-returns-in-For
exprs::expr_depth-returns-in-For g c =
    let m = of.for_is c.args.expr.now c.in-For.label c.in-For.pat c.in-For.iterated c.in-For.body c.in-For.is in
    let n = rw c.get-in-For.ensures at c.expr_depth-in-For.ensures in
    omega (arith, m, n, c.pat_depth.ensures, c.max-head.ensures, c.block_depth-in-For.ensures, c.max-in-For.ensures, c.deeper-in-For.ensures)

pub exprs::expr_depth-returns-in-Closure : goal.exprs::expr_depth-returns-in-Closure
exprs::expr_depth-returns-in-Closure g c =
    let m = of.closure_is c.args.expr.now c.in-Closure.is_async c.in-Closure.moves c.in-Closure.params c.in-Closure.body c.in-Closure.is in
    let n = rw c.as_slice-in-Closure.ensures at c.params_depth.ensures in
    let o = rw c.get-in-Closure.ensures at c.expr_depth-in-Closure.ensures in
    omega (arith, m, n, o, c.deeper-in-Closure.ensures, c.max-in-Closure.ensures, c.deeper-in-Closure-2.ensures)

pub exprs::expr_depth-returns-in-TypedClosure : goal.exprs::expr_depth-returns-in-TypedClosure
exprs::expr_depth-returns-in-TypedClosure g c =
    let m = of.typed_closure_is c.args.expr.now c.in-TypedClosure.is_async c.in-TypedClosure.moves c.in-TypedClosure.params c.in-TypedClosure.output
    c.in-TypedClosure.body c.in-TypedClosure.is in
    let n = rw c.as_slice-in-TypedClosure.ensures at c.params_depth-in-TypedClosure.ensures in
    omega (
      arith,
      m,
      n,
      c.type_depth.ensures,
      c.max-head-in-TypedClosure.ensures,
      c.block_depth-in-TypedClosure.ensures,
      c.max-in-TypedClosure.ensures,
      c.deeper-in-TypedClosure.ensures,
    )

pub exprs::expr_depth-returns-in-Return : goal.exprs::expr_depth-returns-in-Return
exprs::expr_depth-returns-in-Return g c =
    let m = of.jump_is c.args.expr.now c.in-Return.operand c.in-Return.is in
    omega (arith, m, c.operand_depth-in-Return.ensures, c.deeper-in-Return.ensures)

pub exprs::exprs_depth-loop-expr-preserved : goal.exprs::exprs_depth-loop-expr-preserved
exprs::exprs_depth-loop-expr-preserved g c =
    turn expr_told c.args.exprs.now _ _ _ _ _ c.loop-expr-test.true c.expr-item.is c.loop-expr.invariant
    c.expr_depth.ensures c.max-most.ensures

pub exprs::exprs_depth-returns : goal.exprs::exprs_depth-returns
exprs::exprs_depth-returns g c =
    all_turns expr_told c.args.exprs.now _ _ c.loop-expr-test.false c.loop-expr.invariant
    ∙ ap (λ es. counted (greatest es)) (of.exprs_are c.args.exprs.now)

pub exprs::operand_depth-returns-in-Some : goal.exprs::operand_depth-returns-in-Some
exprs::operand_depth-returns-in-Some g c =
    let m = ap expr_if c.in-Some.is in
    let n = rw c.get.ensures at c.expr_depth.ensures in omega (arith, m, n)

pub exprs::operand_depth-returns-in-None : goal.exprs::operand_depth-returns-in-None
exprs::operand_depth-returns-in-None g c = let m = ap expr_if c.in-None.is in omega (arith, m)

pub exprs::operands_depth-loop-operand-preserved : goal.exprs::operands_depth-loop-operand-preserved
exprs::operands_depth-loop-operand-preserved g c =
    let deep = rw c.get.ensures at c.expr_depth.ensures in
    turn operand_form c.args.operands.now _ _ _ _ _ c.loop-operand-test.true c.loop-operand-item.is c.loop-operand.invariant
    deep c.max-most.ensures

pub exprs::operands_depth-returns : goal.exprs::operands_depth-returns
exprs::operands_depth-returns g c = all_turns operand_form c.args.operands.now _ _ c.loop-operand-test.false c.loop-operand.invariant

pub exprs::targets_depth-loop-target-preserved : goal.exprs::targets_depth-loop-target-preserved
exprs::targets_depth-loop-target-preserved g c =
    let deep = rw c.get.ensures at c.expr_depth.ensures in
    turn target_form c.args.targets.now _ _ _ _ _ c.loop-target-test.true c.loop-target-item.is c.loop-target.invariant
    deep c.max-most.ensures

pub exprs::targets_depth-returns : goal.exprs::targets_depth-returns
exprs::targets_depth-returns g c = all_turns target_form c.args.targets.now _ _ c.loop-target-test.false c.loop-target.invariant

pub exprs::fields_depth-loop-field-preserved : goal.exprs::fields_depth-loop-field-preserved
exprs::fields_depth-loop-field-preserved g c =
    turn (form_of about_field_expr) c.args.fields.now _ _ _ _ _ c.loop-field-test.true c.field-item.is c.loop-field.invariant
    c.field_depth.ensures c.max-most.ensures

pub exprs::fields_depth-returns : goal.exprs::fields_depth-returns
exprs::fields_depth-returns g c = all_told about_field_expr c.args.fields.now _ _ c.loop-field-test.false c.loop-field.invariant

pub exprs::field_depth-returns-in-Named : goal.exprs::field_depth-returns-in-Named
exprs::field_depth-returns-in-Named g c =
    let m = of.field_value_is c.args.field.now c.in-Named.value c.in-Named.is in
    let n = rw c.get.ensures at c.expr_depth.ensures in omega (arith, m, n)

pub exprs::field_depth-returns-in-Short : goal.exprs::field_depth-returns-in-Short
exprs::field_depth-returns-in-Short g c =
    let m = of.short_is c.args.field.now c.in-Short.attrs c.in-Short.name c.in-Short.is in omega (arith, m)

pub exprs::steps_depth-loop-step-preserved : goal.exprs::steps_depth-loop-step-preserved
exprs::steps_depth-loop-step-preserved g c =
    turn step_form c.args.steps.now _ _ _ _ _ c.loop-step-test.true c.step-item.is c.loop-step.invariant
    c.step_depth.ensures c.max-most.ensures

pub exprs::steps_depth-returns : goal.exprs::steps_depth-returns
exprs::steps_depth-returns g c = all_turns step_form c.args.steps.now _ _ c.loop-step-test.false c.loop-step.invariant

pub exprs::step_depth-returns-in-Field : goal.exprs::step_depth-returns-in-Field
exprs::step_depth-returns-in-Field g c = of.leaf_step_is c.args.step.now c.in-Field.is

pub exprs::step_depth-returns-in-Field-2 : goal.exprs::step_depth-returns-in-Field-2
exprs::step_depth-returns-in-Field-2 g c = of.leaf_step_is c.args.step.now c.in-Field.is

pub exprs::step_depth-returns-in-Field-3 : goal.exprs::step_depth-returns-in-Field-3
exprs::step_depth-returns-in-Field-3 g c = of.leaf_step_is c.args.step.now c.in-Field.is

pub exprs::step_depth-returns-in-Field-4 : goal.exprs::step_depth-returns-in-Field-4
exprs::step_depth-returns-in-Field-4 g c = of.leaf_step_is c.args.step.now c.in-Field.is

pub exprs::step_depth-returns-in-None : goal.exprs::step_depth-returns-in-None
exprs::step_depth-returns-in-None g c =
    let x = c.in-Method in
    let m = of.bare_method_is c.args.step.now x.name x.generics x.args x.is c.in-None.is in
    let n = rw c.as_slice.ensures at c.exprs_depth-within.ensures in omega (arith, m, n)

pub exprs::step_depth-returns-in-Some : goal.exprs::step_depth-returns-in-Some
exprs::step_depth-returns-in-Some g c =
    let x = c.in-Method in
    let m = of.given_method_is c.args.step.now x.name x.generics x.args c.in-Some.generics x.is c.in-Some.is in
    let n = rw c.as_slice.ensures at c.exprs_depth-within.ensures in
    let o = rw c.as_slice-in-Some.ensures at c.arguments_depth.ensures in omega (arith, m, n, o, c.max.ensures)

pub exprs::step_depth-returns-in-Apply : goal.exprs::step_depth-returns-in-Apply
exprs::step_depth-returns-in-Apply g c =
    let m = of.apply_is c.args.step.now c.in-Apply.args c.in-Apply.is in
    let n = rw c.as_slice-in-Apply.ensures at c.exprs_depth.ensures in omega (arith, m, n)

pub exprs::step_depth-returns-in-Index : goal.exprs::step_depth-returns-in-Index
exprs::step_depth-returns-in-Index g c =
    let m = of.index_is c.args.step.now c.in-Index.index c.in-Index.is in
    let n = rw c.get.ensures at c.expr_depth.ensures in omega (arith, m, n)

-- ---- blocks

pub blocks::block_depth-loop-stmt-preserved : goal.blocks::block_depth-loop-stmt-preserved
blocks::block_depth-loop-stmt-preserved g c =
    let below = rw c.as_slice-stmt-items.ensures at c.loop-stmt-test.true in
    let is = rw c.as_slice-stmt-items.ensures at c.stmt-item.is in
    turn stmt_told c.args.block.now.stmts _ _ _ _ _ below is c.loop-stmt.invariant c.stmt_depth.ensures c.max-most.ensures

pub blocks::block_depth-returns : goal.blocks::block_depth-returns
blocks::block_depth-returns g c =
    let over = rw c.as_slice-stmt-items.ensures at c.loop-stmt-test.false in
    let m = all_turns stmt_told c.args.block.now.stmts c.loop-stmt.stmt-index c.loop-stmt.most over c.loop-stmt.invariant in
    let n = blocks.block_is c.args.block.now true in omega (arith, m, n)

pub blocks::block_or_none_depth-returns-in-Some : goal.blocks::block_or_none_depth-returns-in-Some
blocks::block_or_none_depth-returns-in-Some g c = let m = ap block_if c.in-Some.is in omega (arith, m, c.block_depth.ensures)

pub blocks::block_or_none_depth-returns-in-None : goal.blocks::block_or_none_depth-returns-in-None
blocks::block_or_none_depth-returns-in-None g c = let m = ap block_if c.in-None.is in omega (arith, m)

pub blocks::stmt_depth-returns-in-None : goal.blocks::stmt_depth-returns-in-None
blocks::stmt_depth-returns-in-None g c =
    let m = blocks.let_alone_is c.args.stmt.now c.in-Let.attrs c.in-Let.pat c.in-Let.ty c.in-Let.value c.in-Let.otherwise
    c.in-Let.is c.in-None.is in
    omega (arith, m, c.pat_depth.ensures, c.type_or_none_depth.ensures, c.max-bound.ensures, c.operand_depth.ensures, c.max-given.ensures)

pub blocks::stmt_depth-returns-in-Some : goal.blocks::stmt_depth-returns-in-Some
blocks::stmt_depth-returns-in-Some g c =
    let bound = max_counted _ _ c.pat_depth.ensures c.type_or_none_depth.ensures c.max-bound.ensures in
    let given = max_counted _ _ bound c.operand_depth.ensures c.max-given.ensures in
    let all = max_counted _ _ given (one_deeper _ c.block_depth.ensures c.deeper.ensures) c.max.ensures in
    all ∙ ap counted (sym (blocks.let_else_is c.args.stmt.now c.in-Let.attrs c.in-Let.pat c.in-Let.ty c.in-Let.value c.in-Let.otherwise
    c.in-Some.block c.in-Let.is c.in-Some.is))

pub blocks::stmt_depth-returns-in-Item : goal.blocks::stmt_depth-returns-in-Item
blocks::stmt_depth-returns-in-Item g c =
    let m = blocks.item_is c.args.stmt.now c.in-Item.item c.in-Item.is in
    let n = rw c.get.ensures at c.item_depth.ensures in omega (arith, m, n)

pub blocks::stmt_depth-returns-in-Expr : goal.blocks::stmt_depth-returns-in-Expr
blocks::stmt_depth-returns-in-Expr g c =
    let m = blocks.expr_is c.args.stmt.now c.in-Expr.attrs c.in-Expr.expr c.in-Expr.ended c.in-Expr.is in
    let n = rw c.get-in-Expr.ensures at c.expr_depth.ensures in omega (arith, m, n)

pub blocks::branches_depth-loop-branch-preserved : goal.blocks::branches_depth-loop-branch-preserved
blocks::branches_depth-loop-branch-preserved g c =
    let branch = c.branch-item.result in
    let m = blocks.branch_is branch in
    let one : c.max.result ≡ counted (least_depth (branch_form branch)) =
    omega (arith, m, c.condition_depth.ensures, c.block_depth.ensures, c.max.ensures) in
    turn branch_form c.args.branches.now _ _ _ _ _ c.loop-branch-test.true c.branch-item.is c.loop-branch.invariant
    one c.max-most.ensures

pub blocks::branches_depth-returns : goal.blocks::branches_depth-returns
blocks::branches_depth-returns g c = all_turns branch_form c.args.branches.now _ _ c.loop-branch-test.false c.loop-branch.invariant

pub blocks::arms_depth-loop-arm-preserved : goal.blocks::arms_depth-loop-arm-preserved
blocks::arms_depth-loop-arm-preserved g c =
    let arm = c.arm-item.result in
    let m = blocks.arm_is arm true in
    let n = rw c.get.ensures at c.expr_depth.ensures in
    let one : c.max.result ≡ counted (least_depth (arm_form arm)) =
    omega (arith, m, n, c.pat_depth.ensures, c.operand_depth.ensures, c.max-head.ensures, c.deeper.ensures, c.max.ensures) in
    turn arm_form c.args.arms.now _ _ _ _ _ c.loop-arm-test.true c.arm-item.is c.loop-arm.invariant
    one c.max-most.ensures

pub blocks::arms_depth-returns : goal.blocks::arms_depth-returns
blocks::arms_depth-returns g c = all_turns arm_form c.args.arms.now _ _ c.loop-arm-test.false c.loop-arm.invariant

-- ---- conditions

pub conditions::condition_depth-returns : goal.conditions::condition_depth-returns
conditions::condition_depth-returns g c =
    let m = blocks.condition_is c.args.condition.now in
    let n = rw c.as_slice.ensures at c.links_depth.ensures in omega (arith, m, n)

pub conditions::links_depth-loop-link-preserved : goal.conditions::links_depth-loop-link-preserved
conditions::links_depth-loop-link-preserved g c =
    turn link_form c.args.links.now _ _ _ _ _ c.loop-link-test.true c.link-item.is c.loop-link.invariant
    c.link_depth.ensures c.max-most.ensures

pub conditions::links_depth-returns : goal.conditions::links_depth-returns
conditions::links_depth-returns g c = all_turns link_form c.args.links.now _ _ c.loop-link-test.false c.loop-link.invariant

pub conditions::link_depth-returns-in-Expr : goal.conditions::link_depth-returns-in-Expr
conditions::link_depth-returns-in-Expr g c =
    let m = blocks.expr_link_is c.args.link.now c.in-Expr.expr c.in-Expr.is in
    let n = rw c.get.ensures at c.expr_depth.ensures in omega (arith, m, n)

pub conditions::link_depth-returns-in-Let : goal.conditions::link_depth-returns-in-Let
conditions::link_depth-returns-in-Let g c =
    let m = blocks.let_link_is c.args.link.now c.in-Let.pat c.in-Let.value c.in-Let.is in
    let n = rw c.get-in-Let.ensures at c.expr_depth-in-Let.ensures in
    omega (arith, m, n, c.pat_depth.ensures, c.max.ensures)

-- ---- items

pub items::item_depth-returns : goal.items::item_depth-returns
items::item_depth-returns g c =
    let m = items.item_is c.args.item.now in
    let n = rw c.get.ensures at c.kind_depth.ensures in omega (arith, m, n, c.deeper.ensures)

pub items::items_depth-loop-item-preserved : goal.items::items_depth-loop-item-preserved
items::items_depth-loop-item-preserved g c =
    turn form_of_item c.args.items.now _ _ _ _ _ c.loop-item-test.true c.item-item.is c.loop-item.invariant
    c.item_depth.ensures c.max-most.ensures

pub items::items_depth-returns : goal.items::items_depth-returns
items::items_depth-returns g c = all_turns form_of_item c.args.items.now _ _ c.loop-item-test.false c.loop-item.invariant

pub items::kind_depth-returns-in-ExternCrate : goal.items::kind_depth-returns-in-ExternCrate
items::kind_depth-returns-in-ExternCrate g c = items.leaf_kind_is c.args.kind.now c.in-ExternCrate.is

pub items::kind_depth-returns-in-ExternCrate-2 : goal.items::kind_depth-returns-in-ExternCrate-2
items::kind_depth-returns-in-ExternCrate-2 g c = items.leaf_kind_is c.args.kind.now c.in-ExternCrate.is

pub items::kind_depth-returns-in-ExternCrate-3 : goal.items::kind_depth-returns-in-ExternCrate-3
items::kind_depth-returns-in-ExternCrate-3 g c = items.leaf_kind_is c.args.kind.now c.in-ExternCrate.is

pub items::kind_depth-returns-in-ExternCrate-4 : goal.items::kind_depth-returns-in-ExternCrate-4
items::kind_depth-returns-in-ExternCrate-4 g c = items.leaf_kind_is c.args.kind.now c.in-ExternCrate.is

pub items::kind_depth-returns-in-Import : goal.items::kind_depth-returns-in-Import
items::kind_depth-returns-in-Import g c =
    let m = items.import_is c.args.kind.now c.in-Import.tree c.in-Import.is in
    let n = rw c.get.ensures at c.use_depth.ensures in
    omega (arith, m, n)

pub items::kind_depth-returns-in-Module : goal.items::kind_depth-returns-in-Module
items::kind_depth-returns-in-Module g c =
    let m = items.listed_is c.args.kind.now c.in-Module.items c.in-Module.is in
    let n = rw c.as_slice-in-Module.ensures at c.items_depth-in-Module.ensures in
    omega (arith, m, n)

pub items::kind_depth-returns-in-Function : goal.items::kind_depth-returns-in-Function
items::kind_depth-returns-in-Function g c =
    let m = items.function_is c.args.kind.now c.in-Function.head c.in-Function.wheres c.in-Function.body c.in-Function.is in
    omega (arith, m, c.fn_head_depth.ensures, c.wheres_depth.ensures, c.max.ensures, c.block_or_none_depth.ensures, c.max-in-Function.ensures)

pub items::kind_depth-returns-in-Alias : goal.items::kind_depth-returns-in-Alias
items::kind_depth-returns-in-Alias g c =
    let m = items.alias_is c.args.kind.now c.in-Alias.item c.in-Alias.is in
    omega (arith, m, c.alias_depth.ensures)

pub items::kind_depth-returns-in-Struct : goal.items::kind_depth-returns-in-Struct
items::kind_depth-returns-in-Struct g c =
    let m = items.struct_is c.args.kind.now c.in-Struct.item c.in-Struct.is in
    omega (arith, m, c.struct_depth.ensures)

pub items::kind_depth-returns-in-Union : goal.items::kind_depth-returns-in-Union
items::kind_depth-returns-in-Union g c =
    let m = items.union_is c.args.kind.now c.in-Union.item c.in-Union.is in
    omega (arith, m, c.union_depth.ensures)

pub items::kind_depth-returns-in-Enum : goal.items::kind_depth-returns-in-Enum
items::kind_depth-returns-in-Enum g c =
    let m = items.enum_is c.args.kind.now c.in-Enum.item c.in-Enum.is in
    omega (arith, m, c.enum_depth.ensures)

pub items::kind_depth-returns-in-Value : goal.items::kind_depth-returns-in-Value
items::kind_depth-returns-in-Value g c =
    let m = items.valued_is c.args.kind.now c.in-Value.head c.in-Value.value c.in-Value.is in
    omega (arith, m, c.value_head_depth.ensures, c.operand_depth.ensures, c.max-in-Value.ensures)

pub items::kind_depth-returns-in-Trait : goal.items::kind_depth-returns-in-Trait
items::kind_depth-returns-in-Trait g c =
    let m = items.trait_is c.args.kind.now c.in-Trait.head c.in-Trait.wheres c.in-Trait.attrs c.in-Trait.items c.in-Trait.is in
    let n = rw c.as_slice.ensures at c.items_depth.ensures in
    omega (arith, m, n, c.trait_head_depth.ensures, c.wheres_depth-in-Trait.ensures, c.max-in-Trait.ensures, c.max-in-Trait-2.ensures)

pub items::kind_depth-returns-in-Impl : goal.items::kind_depth-returns-in-Impl
items::kind_depth-returns-in-Impl g c =
    let m = items.impl_is c.args.kind.now c.in-Impl.head c.in-Impl.wheres c.in-Impl.attrs c.in-Impl.items c.in-Impl.is in
    let n = rw c.as_slice-in-Impl.ensures at c.items_depth-in-Impl.ensures in
    omega (arith, m, n, c.impl_head_depth.ensures, c.wheres_depth-in-Impl.ensures, c.max-in-Impl.ensures, c.max-in-Impl-2.ensures)
