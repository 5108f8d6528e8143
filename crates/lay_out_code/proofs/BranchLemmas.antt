-- The streams of branches and arms, and of the expressions that end in blocks.
use Rattle.std.proofs.Common.{◌≡◌, ℕ, suc, ◌<◌, Bool, true, false, cond, List, [], ◌∷◌, ◌++◌, map, codes, pos, Option, option_map, Some, None, refl, sym, ap, ◌∙◌, append_assoc, OnOk, Result}
use Rattle.lay_layout.specs.Machine.{IsNested, opened}
use Rattle.lay_layout.specs.declared.layout.Tok.{Tok}
use Rattle.lay_layout.specs.declared.layout.Tok.TheVariants as tok
use Rattle.lay_stream.specs.Fed.{Meanings}
use Rattle.lay_stream.proofs.Calls.{opened_append}
use Rattle.lay_form.specs.Form.{ArmComma, Bare, Blank, Body, Braces, Form, Done, Marked, Never, Operator, Part, Piece, Unseen, keyword}
use Rattle.lay_form.specs.Layout.{break_of, ends_behind_point}
use Rattle.lay_form.specs.Notation.{I0, N, behind_attrs, body, comma_list}
use Rattle.lay_form.specs.Stream.{fed, stream_of}
use Rattle.lay_node.specs.nodes.Attr.{attr_form}
use Rattle.lay_node.specs.nodes.Patterns.{about_pat, pat_form}
use Rattle.lay_node.specs.nodes.Types.{about_type}
use Rattle.lay_node.specs.declared.attr.Attr.{Attr}
use Rattle.lay_node.specs.declared.patterns.Pat.{Pat}
use Rattle.lay_node.specs.declared.patterns.PatPlace.TheVariants.{Alternatives}
use Rattle.lay_node.specs.declared.token.Lifetime.{Lifetime}
use Rattle.lay_node.specs.declared.types.Ty.{Ty}
use Rattle.lay_code.specs.nodes.Bodies.{braces_of}
use Rattle.lay_code.specs.nodes.Blocks.{guard_form, is_free}
use Rattle.lay_code.specs.nodes.Code.{about_arm, about_block, about_branch, about_condition, about_expr}
use Rattle.lay_code.specs.nodes.CodeFacts.{ArmFacts, BlockFacts, BranchFacts}
use Rattle.lay_code.specs.nodes.Exprs.{ExprFacts, arm_forms, bar, behind_async, body_braces, branches_form, closure_body, closure_head, closure_param, else_branch_form, labelled, more_branches}
use Rattle.lay_code.specs.declared.blocks.Arm.{Arm}
use Rattle.lay_code.specs.declared.blocks.Block.{Block}
use Rattle.lay_code.specs.declared.blocks.Branch.{Branch}
use Rattle.lay_code.specs.declared.conditions.Condition.{Condition}
use Rattle.lay_code.specs.declared.exprs.ClosureParam.{ClosureParam}
use Rattle.lay_code.specs.declared.exprs.Expr.{Expr}
use Rattle.lay_code.specs.declared.exprs.Expr.TheVariants as expr
use Rattle.lay_code.proofs.nodes.BlocksLaws.{arm_is, branch_is}
use Rattle.lay_code.proofs.nodes.ExprsLaws.{expr_async_is, expr_block_is, expr_closure_is, expr_const_block_is, expr_for_is, expr_if_is, expr_loop_is, expr_match_is, expr_typed_closure_is, expr_unsafe_is, expr_while_is}
use Rattle.lay_out_tokens.proofs.StreamParts.{fed_more}
use Rattle.lay_out_types.specs.Calls.{Adds}
use Rattle.lay_out_types.specs.Rows.{further, row}
use Rattle.lay_out_types.proofs.Adding.{level_behind, on_ok}
use Rattle.lay_out_pats.proofs.FieldLemmas.{lines_more}
use Rattle.lay_out_types.proofs.FormRows.{level_form, one_open, part_more}
use Rattle.lay_out_heads.specs.FieldRows.{line}
use Rattle.lay_out_heads.proofs.Steady.{Steady}
use Rattle.lay_out_exprs.specs.Bodies.{arm_closed, arm_opened, closure_closed, closure_opened}
use Rattle.lay_out_exprs.specs.Blocks.{else_between, lead_row}
use Rattle.lay_out_exprs.proofs.ExprLemmas.{told, told_is}
use Rattle.lay_out_code.specs.Parts.{arm_told, branch_told, head_end, no_forms}
use Rattle.lay_out_code.proofs.BlockLemmas.{same_lines, steady_block, steady_soft}
use Rattle.lay_out_code.proofs.ConditionLemmas.{group_fed}

-- ---- branches

-- a branch
pub branch_parts : (b : Branch)
    → (lead_row (codes "if ") ++ (stream_of (about_condition b.condition).form ++ head_end)) ++ stream_of (about_block b.body).soft
    ≡ stream_of (branch_told b)
branch_parts b =
    group_fed false (keyword (codes "if") ∷ Blank ∷ []) (codes "if ") (about_condition b.condition).form
    (Part (about_block b.body).soft Done) (steady_soft b.body) puts
    ∙ sym (ap (λ (z : BranchFacts). stream_of (I0 (Piece (keyword (codes "if") ∷ Blank ∷ []) (Part z.condition Done)) (Part z.soft Done)))
    (branch_is b))
  where
    puts : (r : Bool) (g : Form) (rest : List Tok)
        → fed r (Piece (keyword (codes "if") ∷ Blank ∷ []) g) rest ≡ tok.Text (codes "if ") ∷ fed false g rest
    puts true g rest = refl
    puts false g rest = refl

more_fed : (bs : List Branch) (q : Bool) (f : Form) → Steady f
    → further else_between (map branch_told bs) ++ stream_of f ≡ fed q (more_branches (map about_branch bs) f) []
more_fed [] q f any = sym (any q)
more_fed (b ∷ bs) true f any =
    ap (λ (s : List Tok). else_between ++ s)
    (append_assoc (stream_of (branch_told b)) (further else_between (map branch_told bs)) (stream_of f)
    ∙ ap (λ (s : List Tok). stream_of (branch_told b) ++ s) (more_fed bs _ f any)
    ∙ sym (fed_more false (branch_told b) _))
more_fed (b ∷ bs) false f any =
    ap (λ (s : List Tok). else_between ++ s)
    (append_assoc (stream_of (branch_told b)) (further else_between (map branch_told bs)) (stream_of f)
    ∙ ap (λ (s : List Tok). stream_of (branch_told b) ++ s) (more_fed bs _ f any)
    ∙ sym (fed_more false (branch_told b) _))

-- branches, and what follows them
branches_fed : (bs : List Branch) (f : Form) → Steady f
    → row [] else_between (map branch_told bs) ++ stream_of f ≡ stream_of (branches_form (map about_branch bs) f)
branches_fed [] f any = refl
branches_fed (b ∷ bs) f any =
    append_assoc (stream_of (branch_told b)) (further else_between (map branch_told bs)) (stream_of f)
    ∙ ap (λ (s : List Tok). stream_of (branch_told b) ++ s) (more_fed bs _ f any)
    ∙ sym (fed_more false (branch_told b) _)

steady_branches : (bs : List Branch) (f : Form) → Steady f → Steady (branches_form (map about_branch bs) f)
steady_branches [] f any q = any q
steady_branches (b ∷ bs) f any true = refl
steady_branches (b ∷ bs) f any false = refl

steady_otherwise : (otherwise : Option BlockFacts) → Steady (else_branch_form otherwise)
steady_otherwise None q = refl
steady_otherwise (Some b) true = refl
steady_otherwise (Some b) false = refl

-- the block after the last one
pub some_else : (otherwise : Option Block) (b : Block) → otherwise ≡ Some b
    → tok.Text (codes " else") ∷ stream_of (about_block b).soft ≡ stream_of (else_branch_form (option_map about_block otherwise))
some_else otherwise b is = rw is refl

-- ---- arms

pub some_guard : (guard : Option Expr) (x : Expr) → guard ≡ Some x
    → tok.Text (codes " if ") ∷ stream_of (about_expr x).form ≡ stream_of (guard_form (option_map about_expr guard))
some_guard guard x is = rw is refl

steady_guard : (guard : Option ExprFacts) → Steady (guard_form guard)
steady_guard None q = refl
steady_guard (Some x) true = refl
steady_guard (Some x) false = refl

-- a body in its braces, or without them
body_fed : (braces : Braces) (last free : Bool) (f : Form)
    → arm_opened braces ++ (stream_of f ++ arm_closed braces) ≡ stream_of (Body braces (ArmComma last free) f Done)
body_fed Bare last free f = sym (fed_more false f (tok.Text (codes ",") ∷ []))
body_fed Unseen last free f = sym (fed_more false f [])
body_fed Marked last free f = ap (λ (s : List Tok). arm_opened Marked ++ s) (sym (fed_more false f (arm_closed Marked)))

-- the pattern of an arm, and its guard
arm_head_fed : (pat : Pat) (guard : Option ExprFacts)
    → stream_of (about_pat pat).told.form ++ stream_of (guard_form guard)
    ≡ stream_of (Part (pat_form Alternatives (about_pat pat)) (guard_form guard))
arm_head_fed pat guard = part_more (about_pat pat).told.form (guard_form guard) (steady_guard guard)

arrow_fed : (q : Bool) (f : Form)
    → tok.Text (codes " => ") ∷ tok.Break (break_of Never) ∷ stream_of f
    ≡ fed q (Piece (Blank ∷ Operator (codes "=>") ∷ Blank ∷ []) (N f)) []
arrow_fed true f = refl
arrow_fed false f = refl

-- an arm, whether or not it is the last
pub arm_parts : (a : Arm) (put : List Attr) (braces : Braces) (last : Bool) → put ≡ a.attrs → braces ≡ braces_of (about_expr a.body).kind
    → stream_of (behind_attrs (map attr_form put) Done) ++ (tok.Begin false (pos 0) ∷ (stream_of (about_pat a.pat).told.form
    ++ (stream_of (guard_form (option_map about_expr a.guard)) ++ (tok.End ∷ tok.Text (codes " => ") ∷ tok.Break (break_of Never)
    ∷ (arm_opened braces ++ (stream_of (about_expr a.body).form ++ arm_closed braces))))))
    ≡ stream_of ((about_arm a).form last)
arm_parts a put braces last same is =
    let guard = option_map about_expr a.guard in
    let x = about_expr a.body in
    let head = Part (pat_form Alternatives (about_pat a.pat)) (guard_form guard) in
    let inner = Body (braces_of x.kind) (ArmComma last (is_free x)) x.form Done in
    let tail = Piece (Blank ∷ Operator (codes "=>") ∷ Blank ∷ []) (N inner) in
    rw (same, is) (ap (λ (s : List Tok). stream_of (behind_attrs (map attr_form a.attrs) Done) ++ (tok.Begin false (pos 0) ∷ s))
    (sym (append_assoc (stream_of (about_pat a.pat).told.form) (stream_of (guard_form guard)) _)
    ∙ ap (λ (s : List Tok). s ++ (tok.End ∷ tok.Text (codes " => ") ∷ tok.Break (break_of Never)
    ∷ (arm_opened (braces_of x.kind) ++ (stream_of x.form ++ arm_closed (braces_of x.kind))))) (arm_head_fed a.pat guard)
    ∙ ap (λ (s : List Tok). stream_of head ++ (tok.End ∷ s))
    (ap (λ (s : List Tok). tok.Text (codes " => ") ∷ tok.Break (break_of Never) ∷ s) (body_fed (braces_of x.kind) last (is_free x) x.form)
    ∙ arrow_fed (ends_behind_point false head) inner)
    ∙ sym (fed_more false head _))
    ∙ lines_more (map attr_form a.attrs) (I0 head tail)
    ∙ sym (ap (λ (z : ArmFacts). stream_of (z.form last)) (arm_is a)))

-- It is the same as the last one.
pub any_arm : (a : Arm) (last : Bool) → stream_of (arm_told a) ≡ stream_of ((about_arm a).form last)
any_arm a last = sym (arm_parts a a.attrs _ true refl refl) ∙ arm_parts a a.attrs _ last refl refl

arms_lines : (marks : List Attr) (arms : List Arm)
    → further line (map attr_form marks ++ map arm_told arms) ≡ further line (map attr_form marks ++ arm_forms (map about_arm arms))
arms_lines (a ∷ marks) arms = ap (λ (s : List Tok). line ++ (stream_of (attr_form a) ++ s)) (arms_lines marks arms)
arms_lines [] [] = refl
arms_lines [] (x ∷ []) = refl
arms_lines [] (x ∷ y ∷ more) =
    ap (λ (s : List Tok). line ++ (s ++ further line (map arm_told (y ∷ more)))) (any_arm x false)
    ∙ ap (λ (s : List Tok). line ++ (stream_of ((about_arm x).form false) ++ s)) (arms_lines [] (y ∷ more))

arms_some : (marks : List Attr) (arms : List Arm)
    → no_forms (map attr_form marks ++ map arm_told arms) ≡ no_forms (map attr_form marks ++ arm_forms (map about_arm arms))
arms_some (a ∷ marks) arms = refl
arms_some [] [] = refl
arms_some [] (x ∷ []) = refl
arms_some [] (x ∷ y ∷ more) = refl

steady_arms : (es : List Form) → Steady (body (Blank ∷ []) [] es)
steady_arms [] true = refl
steady_arms (e ∷ es) true = refl
steady_arms es false = refl

-- ---- expressions

-- a label, and what it stands before
labelled_more : (q : Bool) (label : Option Lifetime) (f : Form) → Steady f
    → stream_of (labelled label Done) ++ stream_of f ≡ fed q (labelled label f) []
labelled_more q None f any = sym (any q)
labelled_more q (Some l) f any = refl

-- a block
pub block_expr : (q : Bool) (x : Expr) (label : Option Lifetime) (b : Block) → x ≡ expr.Block label b
    → stream_of (labelled label Done) ++ stream_of ((about_block b).form false) ≡ told q x
block_expr q x label b is =
    labelled_more q label ((about_block b).form false) (steady_block false b)
    ∙ told_is q x (expr.Block label b) _ is (expr_block_is label b)

-- `unsafe` and `const` blocks
pub unsafe_expr : (q : Bool) (x : Expr) (b : Block) → x ≡ expr.Unsafe b
    → tok.Text (codes "unsafe") ∷ stream_of (about_block b).soft ≡ told q x
unsafe_expr true x b is = told_is true x (expr.Unsafe b) _ is (expr_unsafe_is b)
unsafe_expr false x b is = told_is false x (expr.Unsafe b) _ is (expr_unsafe_is b)

pub const_expr : (q : Bool) (x : Expr) (b : Block) → x ≡ expr.ConstBlock b
    → tok.Text (codes "const") ∷ stream_of (about_block b).soft ≡ told q x
const_expr true x b is = told_is true x (expr.ConstBlock b) _ is (expr_const_block_is b)
const_expr false x b is = told_is false x (expr.ConstBlock b) _ is (expr_const_block_is b)

-- an `async` block
pub async_expr : (q : Bool) (x : Expr) (moves : Bool) (b : Block) → x ≡ expr.Async moves b
    → tok.Text (codes "async") ∷ (cond moves (tok.Text (codes " move") ∷ []) [] ++ stream_of ((about_block b).form true)) ≡ told q x
async_expr true x true b is = told_is true x (expr.Async true b) _ is (expr_async_is true b)
async_expr true x false b is = told_is true x (expr.Async false b) _ is (expr_async_is false b)
async_expr false x true b is = told_is false x (expr.Async true b) _ is (expr_async_is true b)
async_expr false x false b is = told_is false x (expr.Async false b) _ is (expr_async_is false b)

-- branches
pub if_expr : (q : Bool) (x : Expr) (branches put : List Branch) (otherwise : Option Block) → x ≡ expr.If branches otherwise
    → put ≡ branches
    → row [] else_between (map branch_told put) ++ stream_of (else_branch_form (option_map about_block otherwise)) ≡ told q x
if_expr q x branches put otherwise is same =
    let f = else_branch_form (option_map about_block otherwise) in
    rw same (branches_fed branches f (steady_otherwise (option_map about_block otherwise))
    ∙ sym (steady_branches branches f (steady_otherwise (option_map about_block otherwise)) q)
    ∙ told_is q x (expr.If branches otherwise) _ is (expr_if_is branches otherwise))

-- a match
pub match_expr : (q : Bool) (x inner put : Expr) (attrs marks : List Attr) (arms more : List Arm)
    → x ≡ expr.Match inner attrs arms → put ≡ inner → marks ≡ attrs → more ≡ arms
    → (lead_row (codes "match ") ++ (stream_of (about_expr put).form ++ head_end))
    ++ stream_of (body (Blank ∷ []) [] (map attr_form marks ++ map arm_told more)) ≡ told q x
match_expr q x inner put attrs marks arms more is e same sames =
    let es = map attr_form attrs ++ arm_forms (map about_arm arms) in
    rw (e, same, sames)
    (ap (λ (s : List Tok). (lead_row (codes "match ") ++ (stream_of (about_expr inner).form ++ head_end)) ++ s)
    (same_lines true false false _ es (arms_some attrs arms) (arms_lines attrs arms))
    ∙ group_fed q (keyword (codes "match") ∷ Blank ∷ []) (codes "match ") (about_expr inner).form (body (Blank ∷ []) [] es)
    (steady_arms es) puts
    ∙ told_is q x (expr.Match inner attrs arms) _ is (expr_match_is inner attrs arms))
  where
    puts : (r : Bool) (g : Form) (rest : List Tok)
        → fed r (Piece (keyword (codes "match") ∷ Blank ∷ []) g) rest ≡ tok.Text (codes "match ") ∷ fed false g rest
    puts true g rest = refl
    puts false g rest = refl

-- loops
pub loop_expr : (q : Bool) (x : Expr) (label : Option Lifetime) (b : Block) → x ≡ expr.Loop label b
    → stream_of (labelled label Done) ++ (tok.Text (codes "loop") ∷ stream_of ((about_block b).form true)) ≡ told q x
loop_expr q x label b is =
    labelled_more q label (Piece (keyword (codes "loop") ∷ []) (Part ((about_block b).form true) Done)) any
    ∙ told_is q x (expr.Loop label b) _ is (expr_loop_is label b)
  where
    any : Steady (Piece (keyword (codes "loop") ∷ []) (Part ((about_block b).form true) Done))
    any true = refl
    any false = refl

pub while_expr : (q : Bool) (x : Expr) (label : Option Lifetime) (c : Condition) (b : Block) → x ≡ expr.While label c b
    → stream_of (labelled label Done) ++ ((lead_row (codes "while ") ++ (stream_of (about_condition c).form ++ head_end))
    ++ stream_of ((about_block b).form true)) ≡ told q x
while_expr q x label c b is =
    let f = Part ((about_block b).form true) Done in
    ap (λ (s : List Tok). stream_of (labelled label Done) ++ s)
    (group_fed false (keyword (codes "while") ∷ Blank ∷ []) (codes "while ") (about_condition c).form f (steady_block true b) puts)
    ∙ labelled_more q label (I0 (Piece (keyword (codes "while") ∷ Blank ∷ []) (Part (about_condition c).form Done)) f) any
    ∙ told_is q x (expr.While label c b) _ is (expr_while_is label c b)
  where
    puts : (r : Bool) (g : Form) (rest : List Tok)
        → fed r (Piece (keyword (codes "while") ∷ Blank ∷ []) g) rest ≡ tok.Text (codes "while ") ∷ fed false g rest
    puts true g rest = refl
    puts false g rest = refl

    any : Steady (I0 (Piece (keyword (codes "while") ∷ Blank ∷ []) (Part (about_condition c).form Done))
        (Part ((about_block b).form true) Done))
    any true = refl
    any false = refl

in_fed : (q : Bool) (f : Form) (more : List Tok)
    → tok.Text (codes " in ") ∷ fed false f more ≡ fed q (Piece (Blank ∷ keyword (codes "in") ∷ Blank ∷ []) (Part f Done)) more
in_fed true f more = refl
in_fed false f more = refl

for_fed : (p f b : Form) → Steady b
    → stream_of p ++ (tok.Text (codes " in ") ∷ (stream_of f ++ (tok.End ∷ stream_of b)))
    ≡ fed false p (fed (ends_behind_point false p) (Piece (Blank ∷ keyword (codes "in") ∷ Blank ∷ []) (Part f Done))
    (tok.End ∷ fed (ends_behind_point false f) b []))
for_fed p f b any =
    ap (λ (s : List Tok). stream_of p ++ s)
    (ap (λ (s : List Tok). tok.Text (codes " in ") ∷ s)
    (ap (λ (s : List Tok). stream_of f ++ (tok.End ∷ s)) (sym (any (ends_behind_point false f)))
    ∙ sym (fed_more false f _))
    ∙ in_fed (ends_behind_point false p) f _)
    ∙ sym (fed_more false p _)

pub for_expr : (q : Bool) (x : Expr) (label : Option Lifetime) (pat : Pat) (inner put : Expr) (b : Block)
    → x ≡ expr.For label pat inner b → put ≡ inner
    → stream_of (labelled label Done) ++ (tok.Begin false (pos 0) ∷ tok.Text (codes "for ") ∷ (stream_of (about_pat pat).told.form
    ++ (tok.Text (codes " in ") ∷ (stream_of (about_expr put).form ++ (tok.End ∷ stream_of ((about_block b).form true)))))) ≡ told q x
for_expr q x label pat inner put b is e =
    let f = Part ((about_block b).form true) Done in
    let head = Part (pat_form Alternatives (about_pat pat)) (Piece (Blank ∷ keyword (codes "in") ∷ Blank ∷ []) (Part (about_expr inner).form Done)) in
    rw e (ap (λ (s : List Tok). stream_of (labelled label Done) ++ (tok.Begin false (pos 0) ∷ tok.Text (codes "for ") ∷ s))
    (for_fed (about_pat pat).told.form (about_expr inner).form f (steady_block true b))
    ∙ labelled_more q label (I0 (Piece (keyword (codes "for") ∷ Blank ∷ []) head) f) any
    ∙ told_is q x (expr.For label pat inner b) _ is (expr_for_is label pat inner b))
  where
    any : Steady (I0 (Piece (keyword (codes "for") ∷ Blank ∷ []) (Part (pat_form Alternatives (about_pat pat))
        (Piece (Blank ∷ keyword (codes "in") ∷ Blank ∷ []) (Part (about_expr inner).form Done)))) (Part ((about_block b).form true) Done))
    any true = refl
    any false = refl

-- The group of a `for` may be closed.
for_open : (p f : Form) (n : ℕ)
    → opened (tok.Begin false (pos 0) ∷ tok.Text (codes "for ") ∷ (stream_of p ++ (tok.Text (codes " in ") ∷ stream_of f))) n ≡ suc n
for_open p f n =
    opened_append (stream_of p) (tok.Text (codes " in ") ∷ stream_of f) (suc n)
    ∙ ap (opened (stream_of f)) (level_form p (suc n))
    ∙ level_form f (suc n)

pub may_end_for : {S F T : Type 0} {m : Meanings S F} {a b : S} {p q : Result T F} (e f : Form)
    → Adds m p a (tok.Begin false (pos 0) ∷ tok.Text (codes "for ") ∷ (stream_of e ++ (tok.Text (codes " in ") ∷ stream_of f))) q b
    → OnOk q (0 < m.groups b)
may_end_for {m} {a} {p} {q} e f h =
    on_ok q (λ x is. (one_open (m.groups a) (level_behind p q x h is ∙ for_open e f (m.groups a))).0)

-- closures
abbrev params_form : List ClosureParam → Form
params_form params = comma_list true bar bar (map closure_param params)

behind_more : (q moves : Bool) (params : List ClosureParam) (f : Form) → Steady f
    → stream_of (behind_async moves params Done) ++ stream_of f ≡ fed q (behind_async moves params f) []
behind_more true true params f any =
    ap (λ (s : List Tok). tok.Text (codes "move ") ∷ s) (part_more (params_form params) f any)
behind_more false true params f any =
    ap (λ (s : List Tok). tok.Text (codes "move ") ∷ s) (part_more (params_form params) f any)
behind_more false false params f any = part_more (params_form params) f any
behind_more true false [] f any = ap (λ (s : List Tok). tok.Text (codes "||") ∷ s) (sym (any _))
behind_more true false (p ∷ params) f any = part_more (params_form (p ∷ params)) f any

head_more : (q is_async moves : Bool) (params : List ClosureParam) (f : Form) → Steady f
    → stream_of (closure_head is_async moves params Done) ++ stream_of f ≡ fed q (closure_head is_async moves params f) []
head_more true true moves params f any =
    ap (λ (s : List Tok). tok.Text (codes "async ") ∷ s) (behind_more false moves params f any)
head_more false true moves params f any =
    ap (λ (s : List Tok). tok.Text (codes "async ") ∷ s) (behind_more false moves params f any)
head_more q false moves params f any = behind_more q moves params f any

-- the body of a closure in its braces, or without them
closure_fed : (braces : Braces) (f : Form)
    → closure_opened braces ++ (stream_of f ++ closure_closed braces) ≡ stream_of (closure_body braces f)
closure_fed Bare f = sym (fed_more false f [])
closure_fed Unseen f = sym (fed_more false f [])
closure_fed Marked f = ap (λ (s : List Tok). closure_opened Marked ++ s) (sym (fed_more false f (closure_closed Marked)))

pub closure_parts : (x : Expr) (braces : Braces) → braces ≡ body_braces (about_expr x)
    → closure_opened braces ++ (stream_of (about_expr x).form ++ closure_closed braces)
    ≡ stream_of (closure_body (body_braces (about_expr x)) (about_expr x).form)
closure_parts x braces is = rw is (closure_fed (body_braces (about_expr x)) (about_expr x).form)

pub closure_expr : (q : Bool) (x : Expr) (is_async moves : Bool) (params ps : List ClosureParam) (inner put : Expr)
    → x ≡ expr.Closure is_async moves params inner → ps ≡ params → put ≡ inner
    → stream_of (closure_head is_async moves ps Done)
    ++ (tok.Text (codes " ") ∷ stream_of (closure_body (body_braces (about_expr put)) (about_expr put).form)) ≡ told q x
closure_expr q x is_async moves params ps inner put is same e =
    let braced = closure_body (body_braces (about_expr inner)) (about_expr inner).form in
    rw (same, e) (head_more q is_async moves params (Piece (Blank ∷ []) braced) any
    ∙ told_is q x (expr.Closure is_async moves params inner) _ is (expr_closure_is is_async moves params inner))
  where
    any : Steady (Piece (Blank ∷ []) (closure_body (body_braces (about_expr inner)) (about_expr inner).form))
    any true = refl
    any false = refl

pub typed_closure_expr : (q : Bool) (x : Expr) (is_async moves : Bool) (params ps : List ClosureParam) (output : Ty) (b : Block)
    → x ≡ expr.TypedClosure is_async moves params output b → ps ≡ params
    → stream_of (closure_head is_async moves ps Done) ++ (tok.Text (codes " -> ") ∷ (stream_of (about_type output).told.form
    ++ stream_of ((about_block b).form true))) ≡ told q x
typed_closure_expr q x is_async moves params ps output b is same =
    let f = Part ((about_block b).form true) Done in
    let tail = Piece (Blank ∷ Operator (codes "->") ∷ Blank ∷ []) (Part (about_type output).told.form f) in
    rw same (ap (λ (s : List Tok). stream_of (closure_head is_async moves params Done) ++ (tok.Text (codes " -> ") ∷ s))
    (part_more (about_type output).told.form f (steady_block true b))
    ∙ head_more q is_async moves params tail any
    ∙ told_is q x (expr.TypedClosure is_async moves params output b) _ is (expr_typed_closure_is is_async moves params output b))
  where
    any : Steady (Piece (Blank ∷ Operator (codes "->") ∷ Blank ∷ []) (Part (about_type output).told.form (Part ((about_block b).form true) Done)))
    any true = refl
    any false = refl

-- ---- what may be closed

-- attributes before what they belong to
abbrev pub attrs_told : List Attr → Form
attrs_told attrs = behind_attrs (map attr_form attrs) Done

arm_open : (e p f : Form) (n : ℕ)
    → opened (stream_of e ++ (tok.Begin false (pos 0) ∷ (stream_of p ++ stream_of f))) n ≡ suc n
arm_open e p f n =
    opened_append (stream_of e) (tok.Begin false (pos 0) ∷ (stream_of p ++ stream_of f)) n
    ∙ ap (opened (tok.Begin false (pos 0) ∷ (stream_of p ++ stream_of f))) (level_form e n)
    ∙ opened_append (stream_of p) (stream_of f) (suc n)
    ∙ ap (opened (stream_of f)) (level_form p (suc n))
    ∙ level_form f (suc n)

pub may_end_arm_head : {S F T : Type 0} {m : Meanings S F} {a b : S} {p q : Result T F} (e g f : Form)
    → Adds m p a (stream_of e ++ (tok.Begin false (pos 0) ∷ (stream_of g ++ stream_of f))) q b → OnOk q (0 < m.groups b)
may_end_arm_head {m} {a} {p} {q} e g f h =
    on_ok q (λ x is. (one_open (m.groups a) (level_behind p q x h is ∙ arm_open e g f (m.groups a))).0)

arm_nested : (braces : Braces) (f : Form) (n k : ℕ) → k ≡ opened (arm_opened braces ++ stream_of f) n
    → IsNested k (arm_closed braces)
arm_nested Bare f n k e = tt
arm_nested Unseen f n k e = tt
arm_nested Marked f n k e = one_open n (e ∙ level_form f (suc n))

pub may_close_arm : {S F T : Type 0} {m : Meanings S F} {a b : S} {p q : Result T F} (braces : Braces) (f : Form)
    → Adds m p a (arm_opened braces ++ stream_of f) q b → OnOk q (IsNested (m.groups b) (arm_closed braces))
may_close_arm {p} {q} braces f h = on_ok q (λ x is. arm_nested braces f _ _ (level_behind p q x h is))

closure_nested : (braces : Braces) (f : Form) (n k : ℕ) → k ≡ opened (closure_opened braces ++ stream_of f) n
    → IsNested k (closure_closed braces)
closure_nested Bare f n k e = tt
closure_nested Unseen f n k e = tt
closure_nested Marked f n k e = one_open n (e ∙ level_form f (suc n))

pub may_close_closure : {S F T : Type 0} {m : Meanings S F} {a b : S} {p q : Result T F} (braces : Braces) (f : Form)
    → Adds m p a (closure_opened braces ++ stream_of f) q b → OnOk q (IsNested (m.groups b) (closure_closed braces))
may_close_closure {p} {q} braces f h = on_ok q (λ x is. closure_nested braces f _ _ (level_behind p q x h is))
