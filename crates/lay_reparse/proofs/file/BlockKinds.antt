-- Blocks and statements pass, given the facts about them and that what is within them passes.
use Rattle.std.proofs.Common.{◌≡◌, List, [], ◌∷◌, ◌++◌, Bool, true, false, not, if◌then◌else◌, ◌&&◌, refl, codes, map, Option, Some, None}
use Rattle.std.specs.List.{list_all}
use Rattle.std.proofs.lemmas.Bool.{and_parts, and_from}
use Rattle.lay_form.specs.Form as form
use Rattle.lay_form.specs.Form.{Form, Done, Piece, Deeper, Blank, keyword, semicolon}
use Rattle.lay_form.specs.Notation.{piece, soft}
use Rattle.lay_form.specs.Pieces.{are_pieces}
use Rattle.lay_node.specs.nodes.Attr.{are_attrs, attr_form}
use Rattle.lay_node.specs.nodes.Fields.{blank_if}
use Rattle.lay_node.specs.nodes.Functions.{may_be_type}
use Rattle.lay_node.specs.nodes.Patterns.{about_pat, pat_form, pat_good}
use Rattle.lay_node.specs.nodes.Types.{about_type}
use Rattle.lay_node.specs.declared.attr.Attr.{Attr}
use Rattle.lay_node.specs.declared.heads.Site.{Site}
use Rattle.lay_node.specs.declared.heads.Site.TheVariants.{Module}
use Rattle.lay_node.specs.declared.patterns.Pat.{Pat}
use Rattle.lay_node.specs.declared.patterns.PatPlace.TheVariants.{Single}
use Rattle.lay_node.specs.declared.types.Ty.{Ty}
use Rattle.lay_code.specs.nodes.Blocks.{attrs_before, block_facts, block_form, dropped, dropped_if, else_form, else_good, ended_form, is_plain, let_type, precedes_else, soft_form, stmt_facts, stmt_form, stmts_good}
use Rattle.lay_code.specs.nodes.CodeFacts.{BlockFacts, ItemFacts, StmtFacts}
use Rattle.lay_code.specs.nodes.Exprs.{ExprFacts, placed, value_form, value_placed}
use Rattle.lay_code.specs.nodes.Places.{statement}
use Rattle.lay_code.specs.declared.blocks.Stmt.TheOpen.{Stmt-F}
use Rattle.lay_reparse.proofs.borders.Border.{Border}
use Rattle.lay_reparse.proofs.forms.Passes.{plain}
use Rattle.lay_reparse.proofs.forms.Rules.{tables, From, All, wider, ends, fixed, breaks, part, level, with_outer, body_fits, braced, soft_fits, soft_block}
use Rattle.lay_reparse.proofs.file.Nodes.{behind_word, ends_line, attrs_pass, body_pieces, both_pieces, both_all, outer_pieces}
use Rattle.lay_reparse.proofs.file.TypeParts.{ends_type}
use Rattle.lay_reparse.proofs.file.TypeArgs.{Any, Each}
use Rattle.lay_reparse.proofs.file.Types.{type_passes}
use Rattle.lay_reparse.proofs.file.PatternParts.{ends_pat}
use Rattle.lay_reparse.proofs.file.Patterns.{pat_passes_at}
use Rattle.lay_reparse.proofs.file.ExprParts.{ends_expr, ends_stmt, ends_any, opens_block, opens_soft}
use Rattle.lay_reparse.proofs.file.ExprPlaces.{ExprPasses, inner_expr, free_expr}

-- ---- the facts about blocks, statements and items

-- It passes from each border where a block may stand, also on one line.
pub record BlockPasses (x : BlockFacts) : Type 0 where
  pub go : (lead : Bool) (b : Border) → opens_block lead b ≡ true → x.good ≡ true → are_pieces (x.form lead) ≡ true
      → From b (x.form lead) plain
  pub soft : (b : Border) → opens_soft b ≡ true → x.good ≡ true → are_pieces x.soft ≡ true → From b x.soft plain

-- A statement that is an expression alone ends as one does.
abbrev pub stmt_end : Bool → Border
stmt_end true = ends_expr
stmt_end false = ends_stmt

pub record StmtPasses (x : StmtFacts) : Type 0 where
  pub go : x.good ≡ true → are_pieces x.form ≡ true → From plain x.form (stmt_end x.bare)

-- an item, which begins on a line of its own
pub record ItemPasses (x : ItemFacts) : Type 0 where
  pub go : (place : Site) → x.good place ≡ true → are_pieces x.form ≡ true → From plain x.form ends_line

-- ---- statements

-- a type after the pattern of a `let`, and what follows it
let_type_passes : (ty : Option Ty) {i f : Form} → may_be_type ty ≡ true
    → are_pieces (let_type ty (form.Part i f)) ≡ true → From ends_pat i ends_expr → From ends_expr f ends_stmt
    → From ends_pat (let_type ty (form.Part i f)) ends_stmt
unfolding tables
let_type_passes None g w k l = part ends_pat ends_expr refl k l
let_type_passes (Some x) {i} {f} g w k l =
    let q = and_parts (are_pieces (about_type x).told.form) (are_pieces (form.Part i f)) w in
    fixed refl (part plain ends_type refl ((type_passes x).go g q.0) (part ends_pat ends_expr refl k l))

let_type_pieces : (ty : Option Ty) (f : Form) → are_pieces (let_type ty f) ≡ true → are_pieces f ≡ true
let_type_pieces None f w = w
let_type_pieces (Some x) f w = (and_parts (are_pieces (about_type x).told.form) (are_pieces f) w).1

-- a value, if there is one
pub value_from : (x : Option ExprFacts) → Any ExprPasses x → value_placed x ≡ true → are_pieces (value_form x) ≡ true
    → From ends_pat (value_form x) ends_expr × From ends_type (value_form x) ends_expr
unfolding tables
value_from None k g w = (ends refl, ends refl)
value_from (Some x) k g w =
    let p = (and_parts (are_pieces x.form) true w).0 in
    let i = part plain ends_expr refl (free_expr x k g p) (ends refl) in
    (fixed refl (breaks refl i), fixed refl (breaks refl i))

-- the block after an `else`
else_passes : (x : Option ExprFacts) (b : Option BlockFacts) → Any BlockPasses b → else_good x b ≡ true
    → are_pieces (else_form b) ≡ true → From ends_expr (else_form b) ends_expr
unfolding tables
else_passes x None k g w = ends refl
else_passes x (Some b) k g w =
    let n = (and_parts (precedes_else x) b.good g).1 in
    let p = (and_parts (are_pieces (b.form true)) true w).0 in
    fixed refl (level behind_word plain refl (k.go true behind_word refl n p) (ends refl))

pub let_pass : (attrs : List Attr) (pat : Pat) (ty : Option Ty) (x : Option ExprFacts) (b : Option BlockFacts)
    → Any ExprPasses x → Any BlockPasses b → StmtPasses (stmt_facts (Stmt-F.Stmt::Let attrs pat ty x b))
unfolding tables
let_pass attrs pat ty x b k l = record {
  go = λ g w.
      let es = map attr_form attrs in
      let end = form.Part (else_form b) (piece semicolon) in
      let i = form.Part (value_form x) end in
      let n1 = and_parts (are_attrs false attrs && pat_good Single (about_pat pat) && may_be_type ty && value_placed x)
      (else_good x b) g in
      let n2 = and_parts (are_attrs false attrs && pat_good Single (about_pat pat) && may_be_type ty) (value_placed x) n1.0 in
      let n3 = and_parts (are_attrs false attrs && pat_good Single (about_pat pat)) (may_be_type ty) n2.0 in
      let n4 = and_parts (are_attrs false attrs) (pat_good Single (about_pat pat)) n3.0 in
      let q = outer_pieces es (Piece (keyword (codes "let") ∷ Blank ∷ [])
      (form.Part (pat_form Single (about_pat pat)) (let_type ty i))) w in
      let p1 = and_parts (are_pieces (pat_form Single (about_pat pat))) (are_pieces (let_type ty i)) q.1 in
      let p2 = and_parts (are_pieces (value_form x)) (are_pieces end) (let_type_pieces ty i p1.1) in
      let p3 = (and_parts (are_pieces (else_form b)) true p2.1).0 in
      with_outer es ends_line refl (attrs_pass false attrs n4.0 q.0)
      (fixed refl (part plain ends_pat refl (pat_passes_at plain refl Single pat n4.1 p1.0)
      (let_type_passes ty n3.1 p1.1 (value_from x k n2.1 p2.0).0
      (part ends_expr ends_expr refl (else_passes x b l n1.1 p3) (fixed refl (ends refl))))));
}

pub item_stmt_pass : (x : ItemFacts) → ItemPasses x → StmtPasses (stmt_facts (Stmt-F.Item x))
item_stmt_pass x k = record {
  go = λ g w. wider refl (k.go Module (and_parts (x.good Module) (not x.call) g).0 w);
}

-- an expression as a statement, after its attributes
expr_alone : (attrs : List Attr) (ended : Bool) {f : Form} → From plain f ends_expr
    → From plain (form.Part f (ended_form ended)) (stmt_end (is_plain attrs && not ended))
unfolding tables
expr_alone [] true k = part plain ends_expr refl k (fixed refl (ends refl))
expr_alone [] false k = part plain ends_expr refl k (ends refl)
expr_alone (a ∷ attrs) true k = part plain ends_expr refl k (fixed refl (ends refl))
expr_alone (a ∷ attrs) false k = part plain ends_expr refl k (ends refl)

pub expr_stmt_pass : (attrs : List Attr) (x : ExprFacts) (ended : Bool) → ExprPasses x
    → StmtPasses (stmt_facts (Stmt-F.Stmt::Expr attrs x ended))
expr_stmt_pass attrs x ended k = record {
  go = λ g w.
      let es = map attr_form attrs in
      let e = form.Part x.form (ended_form ended) in
      let n = and_parts (are_attrs false attrs) (placed x statement) g in
      let q = outer_pieces es e w in
      let p = (and_parts (are_pieces x.form) (are_pieces (ended_form ended)) q.1).0 in
      with_outer es ends_line refl (attrs_pass false attrs n.0 q.0)
      (expr_alone attrs ended (wider (ends_any x.tail.bare _) (inner_expr x k statement n.1 p)));
}

-- ---- statements of a block

-- A `;` that is dropped may stand after a statement.
stmt_form_passes : (s : StmtFacts) → StmtPasses s → s.good ≡ true → are_pieces (stmt_form s) ≡ true
    → From plain (stmt_form s) ends_stmt
unfolding tables
stmt_form_passes s k g w = at s.unended s.bare w (k.go g)
  where
    at : (unended bare : Bool)
        → are_pieces (if unended then form.Part s.form Done else form.Part s.form (piece dropped)) ≡ true
        → (are_pieces s.form ≡ true → From plain s.form (stmt_end bare))
        → From plain (if unended then form.Part s.form Done else form.Part s.form (piece dropped)) ends_stmt
    at true true w k = part plain ends_expr refl (k (and_parts (are_pieces s.form) true w).0) (ends refl)
    at true false w k = part plain ends_stmt refl (k (and_parts (are_pieces s.form) true w).0) (ends refl)
    at false true w k = part plain ends_expr refl (k (and_parts (are_pieces s.form) true w).0) (fixed refl (ends refl))
    at false false w k = part plain ends_stmt refl (k (and_parts (are_pieces s.form) true w).0) (fixed refl (ends refl))

-- each statement is good
first_good : (s : StmtFacts) (more : List StmtFacts) → stmts_good (s ∷ more) ≡ true
    → (s.good ≡ true) × (stmts_good more ≡ true)
first_good s [] g = (g, refl)
first_good s (t ∷ more) g =
    let n = and_parts (s.good && s.ends) (stmts_good (t ∷ more)) g in ((and_parts s.good s.ends n.0).0, n.1)

stmts_pass : (stmts : List StmtFacts) → Each StmtPasses stmts → stmts_good stmts ≡ true
    → list_all are_pieces (map stmt_form stmts) ≡ true → All plain (map stmt_form stmts) ends_stmt
stmts_pass [] k g w = tt
stmts_pass (s ∷ more) k g w =
    let n = first_good s more g in
    let p = and_parts (are_pieces (stmt_form s)) (list_all are_pieces (map stmt_form more)) w in
    (stmt_form_passes s k.0 n.0 p.0, stmts_pass more k.1 n.1 p.1)

-- inner attributes, the last with a `;` that is dropped
inner_attrs_pass : (es : List Form) → All plain es ends_line → All plain (attrs_before es) ends_stmt
unfolding tables
inner_attrs_pass [] a = tt
inner_attrs_pass (e ∷ []) a = (part plain ends_line refl a.0 (fixed refl (ends refl)), tt)
inner_attrs_pass (e ∷ f ∷ es) a = (wider refl a.0, inner_attrs_pass (f ∷ es) a.1)

inner_attrs_pieces : (es : List Form) → list_all are_pieces (attrs_before es) ≡ true → list_all are_pieces es ≡ true
inner_attrs_pieces [] w = refl
inner_attrs_pieces (e ∷ []) w =
    let p = and_parts (are_pieces e && true) true w in
    and_from (are_pieces e) true (and_parts (are_pieces e) true p.0).0 refl
inner_attrs_pieces (e ∷ f ∷ es) w =
    let p = and_parts (are_pieces e) (list_all are_pieces (attrs_before (f ∷ es))) w in
    and_from (are_pieces e) (list_all are_pieces (f ∷ es)) p.0 (inner_attrs_pieces (f ∷ es) p.1)

-- ---- blocks

block_fits : (lead none : Bool) (b : Border) → opens_block lead b ≡ true
    → body_fits (blank_if lead) (dropped_if none) b plain ends_stmt plain ≡ true
block_fits lead true b h = (and_parts (body_fits (blank_if lead) [] b plain ends_stmt plain) _ h).1
block_fits lead false b h = (and_parts (body_fits (blank_if lead) [] b plain ends_stmt plain) _ h).0

block_form_passes : (attrs : List Attr) (stmts : List StmtFacts) → Each StmtPasses stmts → are_attrs true attrs ≡ true
    → stmts_good stmts ≡ true → (lead : Bool) (b : Border) → opens_block lead b ≡ true
    → are_pieces (block_form attrs stmts lead) ≡ true → From b (block_form attrs stmts lead) plain
block_form_passes attrs stmts k g h lead b fit w =
    let before = map attr_form attrs in
    let es = map stmt_form stmts in
    let skipped = dropped_if (is_plain attrs) in
    let q = both_pieces (attrs_before before) es (body_pieces (blank_if lead) skipped (attrs_before before ++ es) w) in
    braced (blank_if lead) skipped (attrs_before before ++ es) plain ends_stmt (block_fits lead (is_plain attrs) b fit)
    (both_all plain ends_stmt (attrs_before before) es
    (inner_attrs_pass before (attrs_pass true attrs g (inner_attrs_pieces before q.0))) (stmts_pass stmts k h q.1))

soft_pieces : (f : Form) → are_pieces (soft f) ≡ true → are_pieces f ≡ true
soft_pieces f w = (and_parts (are_pieces f) true (and_parts (are_pieces f && true) true w).0).0

soft_form_passes : (attrs : List Attr) (stmts : List StmtFacts) → Each StmtPasses stmts → are_attrs true attrs ≡ true
    → stmts_good stmts ≡ true → (b : Border) → opens_soft b ≡ true → are_pieces (soft_form attrs stmts) ≡ true
    → From b (soft_form attrs stmts) plain
soft_form_passes [] (s ∷ []) k g h b fit w = at s.bare w (k.0.go h)
  where
    fits : (opens_block true b ≡ true) × (soft_fits b plain ends_expr plain ≡ true)
    fits = and_parts (opens_block true b) (soft_fits b plain ends_expr plain) fit

    at : (bare : Bool) → are_pieces (if bare then soft s.form else block_form [] (s ∷ []) true) ≡ true
        → (are_pieces s.form ≡ true → From plain s.form (stmt_end bare))
        → From b (if bare then soft s.form else block_form [] (s ∷ []) true) plain
    at true w l = soft_block plain ends_expr fits.1 (l (soft_pieces s.form w))
    at false w l = block_form_passes [] (s ∷ []) k g h true b fits.0 w
soft_form_passes [] [] k g h b fit w =
    block_form_passes [] [] k g h true b (and_parts (opens_block true b) _ fit).0 w
soft_form_passes [] (s ∷ t ∷ more) k g h b fit w =
    block_form_passes [] (s ∷ t ∷ more) k g h true b (and_parts (opens_block true b) _ fit).0 w
soft_form_passes (a ∷ attrs) stmts k g h b fit w =
    block_form_passes (a ∷ attrs) stmts k g h true b (and_parts (opens_block true b) _ fit).0 w

pub block_pass : (attrs : List Attr) (stmts : List StmtFacts) → Each StmtPasses stmts
    → BlockPasses (block_facts (record { attrs = attrs; stmts = stmts }))
block_pass attrs stmts k = record {
  go = λ lead b fit g w.
      let n = and_parts (are_attrs true attrs) (stmts_good stmts) g in
      block_form_passes attrs stmts k n.0 n.1 lead b fit w;
  soft = λ b fit g w.
      let n = and_parts (are_attrs true attrs) (stmts_good stmts) g in
      soft_form_passes attrs stmts k n.0 n.1 b fit w;
}
