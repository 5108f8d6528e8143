-- Samples of blocks, statements, control flow and closures: what is read.
use Rattle.std.proofs.Common.{◌≡◌, ℕ, suc, true, false, [], ◌∷◌, Some, None, codes, refl}
use Rattle.lay_piece.specs.declared.kind.Delim.TheVariants.{Brace, Paren}
use Rattle.lay_piece.specs.declared.kind.Kind.TheVariants as kind
use Rattle.lay_token.specs.Operators.{op_at}
use Rattle.lay_token.specs.declared.token.Token.{Token}
use Rattle.lay_node.specs.Ahead.{Tokens}
use Rattle.lay_node.specs.Begins.{lead_at}
use Rattle.lay_node.specs.reader.Attr.{attributes}
use Rattle.lay_node.specs.reader.Functions.{fn_head, fn_params}
use Rattle.lay_node.specs.reader.Generics.{generics}
use Rattle.lay_node.specs.reader.Loops.{elements, elements_from, open_elements, open_elements_from, repeat, repeat_from}
use Rattle.lay_node.specs.reader.Patterns.{bind, pat_at, pat_by, path_by, path_pat, single_at}
use Rattle.lay_node.specs.reader.SimplePath.{simple_path}
use Rattle.lay_node.specs.reader.Types.{args_by, chain, lifetime, path, path_type, segment, within}
use Rattle.lay_node.specs.reader.Vis.{visibility}
use Rattle.lay_node.specs.reader.Where.{wheres}
use Rattle.lay_node.specs.reader.Words.{name as name_reading, word as word_reading}
use Rattle.lay_node.specs.declared.heads.Site.TheVariants.{Module}
use Rattle.lay_node.specs.declared.patterns.PatPlace.TheVariants.{Alternatives, Single}
use Rattle.lay_node.proofs.samples.Patterns.{lone}
use Rattle.lay_node.proofs.samples.Trees.{a, b, closes, mark, opens, token, word}
use Rattle.lay_code.specs.Operands.{expr_lead_at}
use Rattle.lay_code.specs.Operators.{binary, strength}
use Rattle.lay_code.specs.nodes.Exprs.{expr_facts}
use Rattle.lay_code.specs.nodes.Places.{FREE, plain, statement}
use Rattle.lay_code.specs.reader.Blocks.{arm_by, block_by, branch_by, expr_stmt, let_stmt, stmt_by, stmt_in_block, undressed}
use Rattle.lay_code.specs.reader.Code.{code_in, expr_at, item_at}
use Rattle.lay_code.specs.reader.Conditions.{condition_by, condition_of, further_links, one_link}
use Rattle.lay_code.specs.reader.Exprs.{block_word_expr, climb, climb_by, closure_expr, closure_param, expr_by, for_expr, head_by, if_expr, label_expr, match_expr, path_expr, return_expr, shed, while_expr}
use Rattle.lay_code.specs.reader.Item.{function_by, item_by, kind_at}
use Rattle.lay_code.specs.reader.ItemLeads.{item_lead}
use Rattle.lay_code.specs.declared.blocks.Stmt.TheOpen.{Expr-F}
use Rattle.lay_code.specs.declared.blocks.Stmt.TheVariants as stmt
use Rattle.lay_code.specs.declared.blocks.Stmt.TheViews as views
use Rattle.lay_code.specs.declared.exprs.Expr.TheVariants as expr
use Rattle.lay_code.specs.declared.item.ItemKind.TheVariants as item
use Rattle.lay_code.proofs.nodes.BlocksLaws as blocks
use Rattle.lay_code.proofs.nodes.ExprsLaws as exprs
use Rattle.lay_code.proofs.nodes.ItemLaws as items
use Rattle.lay_code.proofs.samples.Blocks.{alone_is, alone_of, arm_of, block_of, branch_of, ended_then, name_link, of_links, pair_is, param_named}
use Rattle.lay_code.proofs.samples.Closures.{braced, braced_facts, braced_is, closure}
use Rattle.lay_code.proofs.samples.ExprHeads.{at_level, reads}
use Rattle.lay_code.proofs.samples.Exprs.{name, name_facts, name_is, named_type, tick_a}
use Rattle.lay_code.proofs.samples.Heads.{fn_of, name_pat, unseen}
use Rattle.lay_code.proofs.samples.ItemTrees.{no_wheres}

abbrev semicolon : Token
semicolon = mark (codes ";")

abbrev in_braces : Token → Tokens → Tokens
in_braces t ts = opens Brace ∷ t ∷ closes Brace ∷ ts

-- ---- names where statements and conditions stand

-- before a `}`
last_a : (ts : Tokens) → expr_at statement 1 (word a ∷ closes Brace ∷ ts) ≡ Some ((name a, 1), closes Brace ∷ ts)
unfolding code_in expr_by expr_lead_at binary strength climb op_at path_expr simple_path path chain segment args_by repeat repeat_from word_reading
last_a ts = rw (name_is a, name_is a) refl

last_b : (ts : Tokens) → expr_at statement 1 (word b ∷ closes Brace ∷ ts) ≡ Some ((name b, 1), closes Brace ∷ ts)
unfolding code_in expr_by expr_lead_at binary strength climb op_at path_expr simple_path path chain segment args_by repeat repeat_from word_reading
last_b ts = rw (name_is b, name_is b) refl

-- before a `;`
ended_a : (ts : Tokens) → expr_at statement 1 (word a ∷ semicolon ∷ ts) ≡ Some ((name a, 1), semicolon ∷ ts)
unfolding code_in expr_by expr_lead_at binary strength climb op_at path_expr simple_path path chain segment args_by repeat repeat_from word_reading
ended_a ts = rw (name_is a, name_is a) refl

-- before a block
condition_a : (ts : Tokens) → expr_at (plain 0 true) 1 (word a ∷ opens Brace ∷ ts) ≡ Some ((name a, 1), opens Brace ∷ ts)
unfolding code_in expr_by expr_lead_at binary strength climb op_at path_expr simple_path path chain segment args_by repeat repeat_from word_reading
condition_a ts = rw (name_is a) refl

-- a link before a block
link_a : (ts : Tokens) → expr_at (plain 4 true) 1 (word a ∷ opens Brace ∷ ts) ≡ Some ((name a, 1), opens Brace ∷ ts)
unfolding code_in expr_by expr_lead_at binary strength climb op_at path_expr simple_path path chain segment args_by repeat repeat_from word_reading
link_a ts = rw (name_is a) refl

-- with which nothing goes on
ended_link_a : (ts : Tokens) → (at_level 1).goes_on (name a, 1) (opens Brace ∷ ts) ≡ Some ((name a, 1), opens Brace ∷ ts)
unfolding code_in binary strength climb op_at
ended_link_a ts = rw (name_is a) refl

one_name : (ts : Tokens) → condition_by (at_level 1) (word a ∷ opens Brace ∷ ts) ≡ Some ((of_links (name_link a ∷ []), 1), opens Brace ∷ ts)
unfolding condition_by one_link further_links condition_of binary strength op_at repeat repeat_from
one_name ts = rw (link_a ts, ended_link_a ts) refl

-- ---- statements and blocks

stmt_a : (ts : Tokens) → stmt_in_block (at_level 1) (word a ∷ closes Brace ∷ ts) ≡ Some ((stmt.Expr [] (name a) false, 1), closes Brace ∷ ts)
unfolding stmt_by expr_stmt attributes repeat repeat_from
stmt_a ts = rw (last_a ts, blocks.stmt_expr_is [] (name a) false, name_is a) refl

stmt_b : (ts : Tokens) → stmt_in_block (at_level 1) (word b ∷ closes Brace ∷ ts) ≡ Some ((stmt.Expr [] (name b) false, 1), closes Brace ∷ ts)
unfolding stmt_by expr_stmt attributes repeat repeat_from
stmt_b ts = rw (last_b ts, blocks.stmt_expr_is [] (name b) false, name_is b) refl

-- A `;` after the one that ends a statement is dropped.
stmt_ended : (ts : Tokens) → stmt_in_block (at_level 1) (word a ∷ semicolon ∷ semicolon ∷ word b ∷ ts) ≡ Some ((stmt.Expr [] (name a) true, 1), word b ∷ ts)
unfolding stmt_by expr_stmt attributes repeat repeat_from
stmt_ended ts = rw (ended_a (semicolon ∷ word b ∷ ts), blocks.stmt_expr_is [] (name a) true) refl

-- `{a}`
block_a : (ts : Tokens) → block_by (at_level 1) (in_braces (word a) ts) ≡ Some ((alone_of (name a), 1), ts)
unfolding block_by attributes repeat repeat_from
block_a ts = rw (stmt_a ts) refl

block_b : (ts : Tokens) → block_by (at_level 1) (in_braces (word b) ts) ≡ Some ((alone_of (name b), 1), ts)
unfolding block_by attributes repeat repeat_from
block_b ts = rw (stmt_b ts) refl

-- `{;a;;b}`
block_pair : (ts : Tokens) → block_by (at_level 1) (opens Brace ∷ semicolon ∷ word a ∷ semicolon ∷ semicolon ∷ word b ∷ closes Brace ∷ ts)
    ≡ Some ((block_of (ended_then (name a) (name b)), 1), ts)
unfolding block_by attributes repeat repeat_from
block_pair ts = rw (stmt_ended (closes Brace ∷ ts), stmt_b ts) refl

-- ---- expressions of blocks

-- `unsafe{a}`
unsafe_begun : head_by (at_level 1) false (expr_lead_at (word (codes "unsafe") ∷ in_braces (word a) [])) (word (codes "unsafe") ∷ in_braces (word a) [])
    ≡ Some ((expr.Unsafe (alone_of (name a)), 2), [])
unfolding expr_lead_at block_word_expr
unsafe_begun = rw (block_a []) refl

read_unsafe : expr_at FREE 2 (word (codes "unsafe") ∷ in_braces (word a) []) ≡ Some ((expr.Unsafe (alone_of (name a)), 2), [])
unfolding binary strength climb op_at
read_unsafe =
    reads 1 FREE (word (codes "unsafe") ∷ in_braces (word a) []) (expr.Unsafe (alone_of (name a)), 2) (expr.Unsafe (alone_of (name a)), 2) [] [] _
    unsafe_begun refl (exprs.expr_unsafe_is (alone_of (name a))) refl

-- `const{a}` and `async move{a}`
const_begun : head_by (at_level 1) false (expr_lead_at (word (codes "const") ∷ in_braces (word a) [])) (word (codes "const") ∷ in_braces (word a) [])
    ≡ Some ((expr.ConstBlock (alone_of (name a)), 2), [])
unfolding expr_lead_at block_word_expr
const_begun = rw (block_a []) refl

async_begun : head_by (at_level 1) false (expr_lead_at (word (codes "async") ∷ word (codes "move") ∷ in_braces (word a) []))
    (word (codes "async") ∷ word (codes "move") ∷ in_braces (word a) [])
    ≡ Some ((expr.Async true (alone_of (name a)), 2), [])
unfolding expr_lead_at block_word_expr
async_begun = rw (block_a []) refl

-- `{;a;;b}`
pair_begun : head_by (at_level 1) false
    (expr_lead_at (opens Brace ∷ semicolon ∷ word a ∷ semicolon ∷ semicolon ∷ word b ∷ closes Brace ∷ []))
    (opens Brace ∷ semicolon ∷ word a ∷ semicolon ∷ semicolon ∷ word b ∷ closes Brace ∷ [])
    ≡ Some ((expr.Block None (block_of (ended_then (name a) (name b))), 2), [])
unfolding expr_lead_at
pair_begun = rw (block_pair []) refl

read_pair : expr_at FREE 2 (opens Brace ∷ semicolon ∷ word a ∷ semicolon ∷ semicolon ∷ word b ∷ closes Brace ∷ [])
    ≡ Some ((expr.Block None (block_of (ended_then (name a) (name b))), 2), [])
unfolding binary strength climb op_at
read_pair =
    reads 1 FREE (opens Brace ∷ semicolon ∷ word a ∷ semicolon ∷ semicolon ∷ word b ∷ closes Brace ∷ [])
    (expr.Block None (block_of (ended_then (name a) (name b))), 2) (expr.Block None (block_of (ended_then (name a) (name b))), 2) [] [] _
    pair_begun refl (exprs.expr_block_is None (block_of (ended_then (name a) (name b)))) refl

-- ---- control flow

-- `a{b}`, after an `if`
branch_a : (ts : Tokens) → branch_by (at_level 1) (word a ∷ in_braces (word b) ts) ≡ Some ((branch_of (name_link a ∷ []) b, 1), ts)
unfolding branch_by
branch_a ts = rw (one_name (word b ∷ closes Brace ∷ ts), block_b ts) refl

-- `if a{b}else{a}`
if_begun : head_by (at_level 1) false
    (expr_lead_at (word (codes "if") ∷ word a ∷ in_braces (word b) (word (codes "else") ∷ in_braces (word a) [])))
    (word (codes "if") ∷ word a ∷ in_braces (word b) (word (codes "else") ∷ in_braces (word a) []))
    ≡ Some ((expr.If (branch_of (name_link a ∷ []) b ∷ []) (Some (alone_of (name a))), 2), [])
unfolding expr_lead_at block_word_expr if_expr repeat repeat_from
if_begun = rw (branch_a (word (codes "else") ∷ in_braces (word a) []), block_a []) refl

-- `if a{b}else if a{b}`
else_if_begun : head_by (at_level 1) false
    (expr_lead_at (word (codes "if") ∷ word a ∷ in_braces (word b) (word (codes "else") ∷ word (codes "if") ∷ word a ∷ in_braces (word b) [])))
    (word (codes "if") ∷ word a ∷ in_braces (word b) (word (codes "else") ∷ word (codes "if") ∷ word a ∷ in_braces (word b) []))
    ≡ Some ((expr.If (branch_of (name_link a ∷ []) b ∷ branch_of (name_link a ∷ []) b ∷ []) None, 2), [])
unfolding expr_lead_at block_word_expr if_expr repeat repeat_from
else_if_begun = rw (branch_a (word (codes "else") ∷ word (codes "if") ∷ word a ∷ in_braces (word b) []), branch_a []) refl

-- `'a:loop{b}`
loop_begun : head_by (at_level 1) false
    (expr_lead_at (token kind.Lifetime (codes "'a") false ∷ mark (codes ":") ∷ word (codes "loop") ∷ in_braces (word b) []))
    (token kind.Lifetime (codes "'a") false ∷ mark (codes ":") ∷ word (codes "loop") ∷ in_braces (word b) [])
    ≡ Some ((expr.Loop (Some tick_a) (alone_of (name b)), 2), [])
unfolding expr_lead_at label_expr lifetime op_at
loop_begun = rw (block_b []) refl

-- `while a{b}`
while_begun : head_by (at_level 1) false (expr_lead_at (word (codes "while") ∷ word a ∷ in_braces (word b) [])) (word (codes "while") ∷ word a ∷ in_braces (word b) [])
    ≡ Some ((expr.While None (of_links (name_link a ∷ [])) (alone_of (name b)), 2), [])
unfolding expr_lead_at block_word_expr while_expr
while_begun = rw (one_name (word b ∷ closes Brace ∷ []), block_b []) refl

-- `for b in a{b}`
pattern_in : (ts : Tokens) → pat_at Alternatives 1 (word b ∷ word (codes "in") ∷ ts) ≡ Some ((name_pat b, 1), word (codes "in") ∷ ts)
unfolding single_at pat_by simple_path path_pat path_by bind path chain segment args_by repeat repeat_from word_reading op_at
pattern_in ts = rw (lone b) refl

for_begun : head_by (at_level 1) false (expr_lead_at (word (codes "for") ∷ word b ∷ word (codes "in") ∷ word a ∷ in_braces (word b) []))
    (word (codes "for") ∷ word b ∷ word (codes "in") ∷ word a ∷ in_braces (word b) [])
    ≡ Some ((expr.For None (name_pat b) (name a) (alone_of (name b)), 2), [])
unfolding expr_lead_at block_word_expr for_expr
for_begun = rw (pattern_in (word a ∷ in_braces (word b) []), condition_a (word b ∷ closes Brace ∷ []), block_b []) refl

-- ---- arms

abbrev arrow : Tokens → Tokens
arrow ts = token kind.Punct (codes "=") true ∷ mark (codes ">") ∷ ts

-- the pattern before an `=>`
pattern_b : (ts : Tokens) → pat_at Alternatives 2 (word b ∷ arrow ts) ≡ Some ((name_pat b, 1), arrow ts)
unfolding single_at pat_by simple_path path_pat path_by bind path chain segment args_by repeat repeat_from word_reading op_at
pattern_b ts = rw (lone b) refl

-- `{a}`, which ends a statement
lone_begun : head_by (at_level 1) false (expr_lead_at (in_braces (word a) (closes Brace ∷ []))) (in_braces (word a) (closes Brace ∷ []))
    ≡ Some ((expr.Block None (alone_of (name a)), 2), closes Brace ∷ [])
unfolding expr_lead_at
lone_begun = rw (block_a (closes Brace ∷ [])) refl

lone_ended : climb_by (at_level 1) statement (expr.Block None (alone_of (name a)), 2) (closes Brace ∷ [])
    ≡ Some ((expr.Block None (alone_of (name a)), 2), closes Brace ∷ [])
unfolding op_at
lone_ended = rw (exprs.expr_block_is None (alone_of (name a))) refl

lone_block : expr_at statement 2 (in_braces (word a) (closes Brace ∷ [])) ≡ Some ((expr.Block None (alone_of (name a)), 2), closes Brace ∷ [])
unfolding binary strength climb op_at
lone_block =
    reads 1 statement (in_braces (word a) (closes Brace ∷ [])) (expr.Block None (alone_of (name a)), 2) (expr.Block None (alone_of (name a)), 2)
    (closes Brace ∷ []) (closes Brace ∷ []) _ lone_begun lone_ended (exprs.expr_block_is None (alone_of (name a))) refl

-- The braces of a body that is one expression are dropped,
undressed_a : (turns : ℕ) → undressed (suc (suc turns)) (expr.Block None (alone_of (name a))) ≡ name a
unfolding undressed
undressed_a turns =
    rw (
      exprs.expr_block_is None (alone_of (name a)),
      alone_is a,
      views.outs-Block None (alone_of (name a)),
      views.outs-Stmt::Expr [] (name a) false,
      name_is a,
    )
    refl

-- `b=>{a}`
arm_dropped : arm_by (at_level 2) (word b ∷ arrow (in_braces (word a) (closes Brace ∷ []))) ≡ Some ((arm_of b (name a), 2), closes Brace ∷ [])
unfolding arm_by attributes repeat repeat_from op_at
arm_dropped =
    rw (
      pattern_b (in_braces (word a) (closes Brace ∷ [])),
      lone_block,
      exprs.expr_block_is None (alone_of (name a)),
      alone_is a,
      undressed_a 2,
    )
    refl

-- Others are kept: `b=>{;a;;b}`.
abbrev braced_pair : Tokens → Tokens
braced_pair ts = opens Brace ∷ semicolon ∷ word a ∷ semicolon ∷ semicolon ∷ word b ∷ closes Brace ∷ ts

kept_begun : head_by (at_level 1) false (expr_lead_at (braced_pair (closes Brace ∷ []))) (braced_pair (closes Brace ∷ []))
    ≡ Some ((expr.Block None (block_of (ended_then (name a) (name b))), 2), closes Brace ∷ [])
unfolding expr_lead_at
kept_begun = rw (block_pair (closes Brace ∷ [])) refl

kept_ended : climb_by (at_level 1) statement (expr.Block None (block_of (ended_then (name a) (name b))), 2) (closes Brace ∷ [])
    ≡ Some ((expr.Block None (block_of (ended_then (name a) (name b))), 2), closes Brace ∷ [])
unfolding op_at
kept_ended = rw (exprs.expr_block_is None (block_of (ended_then (name a) (name b)))) refl

kept_block : expr_at statement 2 (braced_pair (closes Brace ∷ []))
    ≡ Some ((expr.Block None (block_of (ended_then (name a) (name b))), 2), closes Brace ∷ [])
unfolding binary strength climb op_at
kept_block =
    reads 1 statement (braced_pair (closes Brace ∷ [])) (expr.Block None (block_of (ended_then (name a) (name b))), 2)
    (expr.Block None (block_of (ended_then (name a) (name b))), 2) (closes Brace ∷ []) (closes Brace ∷ []) _ kept_begun kept_ended
    (exprs.expr_block_is None (block_of (ended_then (name a) (name b)))) refl

kept : (turns : ℕ) → undressed (suc turns) (expr.Block None (block_of (ended_then (name a) (name b)))) ≡ expr.Block None (block_of (ended_then (name a) (name b)))
unfolding undressed
kept turns = rw (exprs.expr_block_is None (block_of (ended_then (name a) (name b))), pair_is) refl

arm_kept : arm_by (at_level 2) (word b ∷ arrow (braced_pair (closes Brace ∷ [])))
    ≡ Some ((arm_of b (expr.Block None (block_of (ended_then (name a) (name b)))), 3), closes Brace ∷ [])
unfolding arm_by attributes repeat repeat_from op_at
arm_kept =
    rw (
      pattern_b (braced_pair (closes Brace ∷ [])),
      kept_block,
      exprs.expr_block_is None (block_of (ended_then (name a) (name b))),
      pair_is,
      kept 7,
    )
    refl

-- `match a{b=>{a}}`
scrutinee_a : (ts : Tokens) → expr_at (plain 0 true) 2 (word a ∷ opens Brace ∷ ts) ≡ Some ((name a, 1), opens Brace ∷ ts)
unfolding code_in expr_by expr_lead_at binary strength climb op_at path_expr simple_path path chain segment args_by repeat repeat_from word_reading
scrutinee_a ts = rw (name_is a) refl

match_begun : head_by (at_level 2) false
    (expr_lead_at (word (codes "match") ∷ word a ∷ opens Brace ∷ word b ∷ arrow (in_braces (word a) (closes Brace ∷ []))))
    (word (codes "match") ∷ word a ∷ opens Brace ∷ word b ∷ arrow (in_braces (word a) (closes Brace ∷ [])))
    ≡ Some ((expr.Match (name a) [] (arm_of b (name a) ∷ []), 3), [])
unfolding expr_lead_at block_word_expr match_expr attributes repeat repeat_from
match_begun = rw (scrutinee_a (word b ∷ arrow (in_braces (word a) (closes Brace ∷ []))), arm_dropped) refl

-- ---- `let` and `else`

pattern_a : (ts : Tokens) → pat_at Single 2 (word a ∷ mark (codes "=") ∷ ts) ≡ Some ((name_pat a, 1), mark (codes "=") ∷ ts)
unfolding single_at pat_by simple_path path_pat path_by bind path chain segment args_by repeat repeat_from word_reading op_at
pattern_a ts = rw (lone a) refl

value_b : (ts : Tokens) → expr_at FREE 2 (word b ∷ word (codes "else") ∷ ts) ≡ Some ((name b, 1), word (codes "else") ∷ ts)
unfolding code_in expr_by expr_lead_at binary strength climb op_at path_expr simple_path path chain segment args_by repeat repeat_from word_reading
value_b ts = rw (name_is b) refl

else_a : (ts : Tokens) → (at_level 2).blocks (in_braces (word a) ts) ≡ Some ((alone_of (name a), 2), ts)
unfolding code_in
else_a ts = rw (block_a ts) refl

-- `a=b else{a};`, after `let`
read_let_else : let_stmt (at_level 2) [] (word a ∷ mark (codes "=") ∷ word b ∷ word (codes "else") ∷ in_braces (word a) (semicolon ∷ []))
    ≡ Some ((stmt.Let [] (name_pat a) None (Some (name b)) (Some (alone_of (name a))), 2), [])
unfolding let_stmt op_at
read_let_else =
    rw (
      pattern_a (word b ∷ word (codes "else") ∷ in_braces (word a) (semicolon ∷ [])),
      value_b (in_braces (word a) (semicolon ∷ [])),
      else_a (semicolon ∷ []),
      name_is b,
    )
    refl

-- ---- closures

param_a : (ts : Tokens) → pat_at Single 1 (word a ∷ mark (codes "|") ∷ ts) ≡ Some ((name_pat a, 1), mark (codes "|") ∷ ts)
unfolding single_at pat_by simple_path path_pat path_by bind path chain segment args_by repeat repeat_from word_reading op_at
param_a ts = rw (lone a) refl

body_b : expr_at (plain 0 false) 1 (word b ∷ []) ≡ Some ((name b, 1), [])
unfolding code_in expr_by expr_lead_at binary strength climb op_at path_expr simple_path path chain segment args_by repeat repeat_from word_reading
body_b = rw (name_is b) refl

-- `move|a|b`
closure_begun : head_by (at_level 1) false
    (expr_lead_at (word (codes "move") ∷ mark (codes "|") ∷ word a ∷ mark (codes "|") ∷ word b ∷ []))
    (word (codes "move") ∷ mark (codes "|") ∷ word a ∷ mark (codes "|") ∷ word b ∷ [])
    ≡ Some ((expr.Closure false true (param_named a None ∷ []) (name b), 3), [])
unfolding expr_lead_at closure_expr closure_param elements elements_from attributes repeat repeat_from op_at shed
closure_begun = rw (param_a (word b ∷ []), body_b, name_is b) refl

-- `async|a|b` and `async move|a|b`
async_closure_begun : head_by (at_level 1) false
    (expr_lead_at (word (codes "async") ∷ mark (codes "|") ∷ word a ∷ mark (codes "|") ∷ word b ∷ []))
    (word (codes "async") ∷ mark (codes "|") ∷ word a ∷ mark (codes "|") ∷ word b ∷ [])
    ≡ Some ((expr.Closure true false (param_named a None ∷ []) (name b), 3), [])
unfolding expr_lead_at closure_expr closure_param elements elements_from attributes repeat repeat_from op_at shed
async_closure_begun = rw (param_a (word b ∷ []), body_b, name_is b) refl

async_move_begun : head_by (at_level 1) false
    (expr_lead_at (word (codes "async") ∷ word (codes "move") ∷ mark (codes "|") ∷ word a ∷ mark (codes "|") ∷ word b ∷ []))
    (word (codes "async") ∷ word (codes "move") ∷ mark (codes "|") ∷ word a ∷ mark (codes "|") ∷ word b ∷ [])
    ≡ Some ((expr.Closure true true (param_named a None ∷ []) (name b), 3), [])
unfolding expr_lead_at closure_expr closure_param elements elements_from attributes repeat repeat_from op_at shed
async_move_begun = rw (param_a (word b ∷ []), body_b, name_is b) refl

-- ---- the braces of their bodies

abbrev bars : Tokens → Tokens
bars ts = mark (codes "|") ∷ mark (codes "|") ∷ ts

-- `{a}` as the body of a closure
pair_a_begun : head_by (at_level 1) false (expr_lead_at (in_braces (word a) [])) (in_braces (word a) []) ≡ Some ((braced (name a), 2), [])
unfolding expr_lead_at
pair_a_begun = rw (block_a []) refl

pair_a : expr_at FREE 2 (in_braces (word a) []) ≡ Some ((braced (name a), 2), [])
unfolding binary strength climb op_at
pair_a = reads 1 FREE (in_braces (word a) []) (braced (name a), 2) (braced (name a), 2) [] [] _ pair_a_begun refl (exprs.expr_block_is None (alone_of (name a))) refl

shed_a : (turns : ℕ) → shed false (suc (suc turns)) (braced (name a)) ≡ name a
unfolding shed
shed_a turns =
    rw (
      braced_is (name a) (name_facts a) (name_is a),
      views.outs-Block None (alone_of (name a)),
      views.outs-Stmt::Expr [] (name a) false,
      name_is a,
    )
    refl

-- `||{a}` is read as `||a` is, and as deep.
one_pair : head_by (at_level 2) false (expr_lead_at (bars (in_braces (word a) []))) (bars (in_braces (word a) [])) ≡ Some ((closure (name a), 3), [])
unfolding expr_lead_at closure_expr elements elements_from repeat repeat_from op_at
one_pair = rw (pair_a, shed_a 1, braced_is (name a) (name_facts a) (name_is a)) refl

-- `{;{a}}`
stmt_pair : stmt_in_block (at_level 2) (in_braces (word a) (closes Brace ∷ [])) ≡ Some ((stmt.Expr [] (braced (name a)) false, 2), closes Brace ∷ [])
unfolding stmt_by expr_stmt attributes repeat repeat_from
stmt_pair = rw (lone_block, blocks.stmt_expr_is [] (braced (name a)) false, exprs.expr_block_is None (alone_of (name a))) refl

abbrev two_pairs : Tokens
two_pairs = opens Brace ∷ semicolon ∷ in_braces (word a) (closes Brace ∷ [])

block_of_pair : block_by (at_level 2) two_pairs ≡ Some ((alone_of (braced (name a)), 2), [])
unfolding block_by attributes repeat repeat_from
block_of_pair = rw (stmt_pair) refl

two_pairs_begun : head_by (at_level 2) false (expr_lead_at two_pairs) two_pairs ≡ Some ((braced (braced (name a)), 3), [])
unfolding expr_lead_at
two_pairs_begun = rw (block_of_pair) refl

two_pairs_read : expr_at FREE 3 two_pairs ≡ Some ((braced (braced (name a)), 3), [])
unfolding binary strength climb op_at
two_pairs_read =
    reads 2 FREE two_pairs (braced (braced (name a)), 3) (braced (braced (name a)), 3) [] [] _ two_pairs_begun refl
    (exprs.expr_block_is None (alone_of (braced (name a)))) refl

shed_two : shed false 6 (braced (braced (name a))) ≡ name a
unfolding shed
shed_two =
    rw (
      braced_is (braced (name a)) (braced_facts (name_facts a)) (braced_is (name a) (name_facts a) (name_is a)),
      views.outs-Block None (alone_of (braced (name a))),
      views.outs-Stmt::Expr [] (braced (name a)) false,
    )
    (shed_a 3)

-- `||{;{a}}` needs one level more.
one_more : head_by (at_level 3) false (expr_lead_at (bars two_pairs)) (bars two_pairs) ≡ Some ((closure (name a), 4), [])
unfolding expr_lead_at closure_expr elements elements_from repeat repeat_from op_at
one_more =
    rw (
      two_pairs_read,
      shed_two,
      braced_is (braced (name a)) (braced_facts (name_facts a)) (braced_is (name a) (name_facts a) (name_is a)),
    )
    refl

-- Of `||{return}a` the closure is read, and `a` is left: it isn't the operand.
abbrev return_word : Token
return_word = word (codes "return")

last_return : (ts : Tokens) → expr_at statement 1 (return_word ∷ closes Brace ∷ ts) ≡ Some ((expr.Return None, 1), closes Brace ∷ ts)
unfolding code_in expr_by expr_lead_at return_expr binary strength climb op_at
last_return ts = rw (exprs.expr_return_is None, exprs.expr_return_is None) refl

stmt_return : (ts : Tokens) → stmt_in_block (at_level 1) (return_word ∷ closes Brace ∷ ts)
    ≡ Some ((stmt.Expr [] (expr.Return None) false, 1), closes Brace ∷ ts)
unfolding stmt_by expr_stmt attributes repeat repeat_from
stmt_return ts = rw (last_return ts, blocks.stmt_expr_is [] (expr.Return None) false, exprs.expr_return_is None) refl

pair_return_begun : (ts : Tokens) → head_by (at_level 1) false (expr_lead_at (in_braces return_word ts)) (in_braces return_word ts)
    ≡ Some ((braced (expr.Return None), 2), ts)
unfolding expr_lead_at block_by attributes repeat repeat_from
pair_return_begun ts = rw (stmt_return ts) refl

pair_return : expr_at FREE 2 (in_braces return_word (word a ∷ [])) ≡ Some ((braced (expr.Return None), 2), word a ∷ [])
unfolding binary strength climb op_at
pair_return =
    reads 1 FREE (in_braces return_word (word a ∷ [])) (braced (expr.Return None), 2) (braced (expr.Return None), 2) (word a ∷ []) (word a ∷ []) _
    (pair_return_begun (word a ∷ [])) refl (exprs.expr_block_is None (alone_of (expr.Return None))) refl

shed_return : shed false 4 (braced (expr.Return None)) ≡ expr.Return None
unfolding shed
shed_return =
    rw (
      braced_is (expr.Return None) (expr_facts (Expr-F.Return None)) (exprs.expr_return_is None),
      views.outs-Block None (alone_of (expr.Return None)),
      views.outs-Stmt::Expr [] (expr.Return None) false,
      exprs.expr_return_is None,
    )
    refl

return_begun : head_by (at_level 2) false (expr_lead_at (bars (in_braces return_word (word a ∷ [])))) (bars (in_braces return_word (word a ∷ [])))
    ≡ Some ((closure (expr.Return None), 3), word a ∷ [])
unfolding expr_lead_at closure_expr elements elements_from repeat repeat_from op_at
return_begun =
    rw (
      pair_return,
      shed_return,
      braced_is (expr.Return None) (expr_facts (Expr-F.Return None)) (exprs.expr_return_is None),
    )
    refl

name_left : expr_at FREE 3 (bars (in_braces return_word (word a ∷ []))) ≡ Some ((closure (expr.Return None), 3), word a ∷ [])
unfolding binary strength climb op_at
name_left =
    reads 2 FREE (bars (in_braces return_word (word a ∷ []))) (closure (expr.Return None), 3) (closure (expr.Return None), 3) (word a ∷ []) (word a ∷ [])
    _ return_begun refl (exprs.expr_closure_is false false [] (expr.Return None)) refl

-- `|a|->u8{b}`
typed_begun : head_by (at_level 1) false
    (expr_lead_at (mark (codes "|") ∷ word a ∷ mark (codes "|") ∷ token kind.Punct (codes "-") true ∷ mark (codes ">") ∷ word (codes "u8") ∷ in_braces (word b) []))
    (mark (codes "|") ∷ word a ∷ mark (codes "|") ∷ token kind.Punct (codes "-") true ∷ mark (codes ">") ∷ word (codes "u8") ∷ in_braces (word b) [])
    ≡ Some ((expr.TypedClosure false false (param_named a None ∷ []) (named_type (codes "u8")) (alone_of (name b)), 2), [])
unfolding expr_lead_at closure_expr closure_param elements elements_from within lead_at path_type simple_path path chain segment args_by word_reading attributes repeat repeat_from op_at strength binary
typed_begun = rw (param_a (token kind.Punct (codes "-") true ∷ mark (codes ">") ∷ word (codes "u8") ∷ in_braces (word b) []), block_b []) refl

-- ---- functions

-- `fn a(){b}`
read_function : item_at Module 2 (word (codes "fn") ∷ word a ∷ opens Paren ∷ closes Paren ∷ in_braces (word b) [])
    ≡ Some ((unseen (item.Function (fn_of None a [] None) no_wheres (Some (alone_of (name b)))), 2), [])
unfolding code_in item_by kind_at item_lead function_by fn_head generics fn_params open_elements open_elements_from wheres name_reading attributes visibility repeat repeat_from op_at
read_function = rw (block_b [], items.function_is (fn_of None a [] None) no_wheres (Some (alone_of (name b)))) refl
