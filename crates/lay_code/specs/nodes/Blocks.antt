-- The forms of blocks, statements, branches and the arms of a match, and when each is well formed
-- (Rust Reference, "Statements and expressions").
use Rattle.std.specs.Prelude.{◌==◌, ◌&&◌, ◌||◌, not, Bool, true, false, if◌then◌else◌, List, [], ◌∷◌, ◌++◌, map, codes, Option, Some, None}
use Rattle.std.specs.List.{list_all}
use Rattle.lay_form.specs.Form.{Blank, Operator, Semicolons, ArmComma, Form, Done, Piece, Part, Deeper, Body, keyword, semicolon, Bit}
use Rattle.lay_form.specs.Notation.{N, I0, piece, body, soft, behind_attrs}
use Rattle.lay_node.specs.nodes.Attr.{are_attrs, attr_form}
use Rattle.lay_node.specs.nodes.Fields.{blank_if}
use Rattle.lay_node.specs.nodes.Functions.{may_be_type}
use Rattle.lay_node.specs.nodes.Patterns.{about_pat, pat_form, pat_good}
use Rattle.lay_node.specs.nodes.Types.{about_type, colon}
use Rattle.lay_node.specs.declared.attr.Attr.{Attr}
use Rattle.lay_node.specs.declared.heads.Site.TheVariants.{Module}
use Rattle.lay_node.specs.declared.patterns.Pat.{Pat}
use Rattle.lay_node.specs.declared.patterns.PatPlace.TheVariants.{Alternatives, Single}
use Rattle.lay_node.specs.declared.types.Ty.{Ty}
use Rattle.lay_code.specs.nodes.CodeFacts.{ArmFacts, BlockFacts, BranchFacts, StmtFacts}
use Rattle.lay_code.specs.nodes.Ends.{ends_in_brace}
use Rattle.lay_code.specs.nodes.Bodies.{braces_of, is_lone_body, is_macro}
use Rattle.lay_code.specs.nodes.Exprs.{ExprFacts, value_form, value_placed, placed, ArmLayer, BlockLayer, BranchLayer, StmtLayer}
use Rattle.lay_code.specs.nodes.Places.{statement}
use Rattle.lay_code.specs.declared.blocks.Stmt.TheOpen.{Stmt-F}

-- ---- statements

-- Which value may stand before an `else`: one that is no chain of `||` or `&&`, that doesn't end in
-- a closure, and whose last token is no `}`.
abbrev pub may_precede_else : ExprFacts → Bool
may_precede_else x = not (x.level == 2) && not (x.level == 3) && not x.tail.closure && not (ends_in_brace x.form)

abbrev pub precedes_else : Option ExprFacts → Bool
precedes_else None = false
precedes_else (Some x) = may_precede_else x

-- the block after an `else`, which stands one level deeper
abbrev pub else_form : Option BlockFacts → Form
else_form None = Done
else_form (Some b) = Piece (Blank ∷ keyword (codes "else") ∷ []) (Deeper (b.form true) Done)

abbrev pub else_good : Option ExprFacts → Option BlockFacts → Bool
else_good x None = true
else_good x (Some b) = precedes_else x && b.good

abbrev pub let_type : Option Ty → Form → Form
let_type None f = f
let_type (Some x) f = Piece colon (Part (about_type x).told.form f)

abbrev pub let_form : List Attr → Pat → Option Ty → Option ExprFacts → Option BlockFacts → Form
let_form attrs pat ty x otherwise = behind_attrs (map attr_form attrs) (Piece (keyword (codes "let") ∷ Blank ∷ [])
    (Part (pat_form Single (about_pat pat)) (let_type ty (Part (value_form x) (Part (else_form otherwise) (piece semicolon))))))

-- the `;` of an expression that has one
abbrev pub ended_form : Bool → Form
ended_form true = piece semicolon
ended_form false = Done

abbrev pub is_plain : List Attr → Bool
is_plain [] = true
is_plain (a ∷ more) = false

abbrev pub stmt_facts : StmtLayer → StmtFacts
stmt_facts (Stmt-F.Stmt::Let attrs pat ty x otherwise) = record {
  form = let_form attrs pat ty x otherwise;
  good = are_attrs false attrs && pat_good Single (about_pat pat) && may_be_type ty && value_placed x && else_good x otherwise;
  unended = false;
  ends = true;
  bare = false;
  call = false;
  structless = true;
}
stmt_facts (Stmt-F.Item item) = record {
  form = item.form;
  good = item.good Module && not item.call;
  unended = false;
  ends = true;
  bare = false;
  call = false;
  structless = true;
}
stmt_facts (Stmt-F.Stmt::Expr attrs x ended) = record {
  form = behind_attrs (map attr_form attrs) (Part x.form (ended_form ended));
  good = are_attrs false attrs && placed x statement;
  unended = not ended;
  ends = ended || x.block_like;
  bare = is_plain attrs && not ended;
  call = is_macro x.kind;
  structless = x.structless;
}

-- ---- blocks

-- the tokens that may follow a statement of a block and aren't laid out
abbrev pub dropped : List Bit
dropped = Semicolons ∷ []

abbrev pub stmt_form : StmtFacts → Form
stmt_form s = if s.unended then Part s.form Done else Part s.form (piece dropped)

-- Inner attributes. Tokens that aren't laid out may follow the last one.
abbrev pub attrs_before : List Form → List Form
attrs_before [] = []
attrs_before (a ∷ []) = Part a (piece dropped) ∷ []
attrs_before (a ∷ b ∷ more) = a ∷ attrs_before (b ∷ more)

abbrev pub dropped_if : Bool → List Bit
dropped_if true = dropped
dropped_if false = []

abbrev pub block_form : List Attr → List StmtFacts → Bool → Form
block_form attrs stmts lead =
    body (blank_if lead) (dropped_if (is_plain attrs)) (attrs_before (map attr_form attrs) ++ map stmt_form stmts)

-- The block holds one expression without a `;`, and nothing else.
abbrev pub is_single : List Attr → List StmtFacts → Bool
is_single [] (s ∷ []) = s.bare
is_single _ _ = false

abbrev pub soft_form : List Attr → List StmtFacts → Form
soft_form [] (s ∷ []) = if s.bare then soft s.form else block_form [] (s ∷ []) true
soft_form attrs stmts = block_form attrs stmts true

-- Each statement but the last ends by itself.
abbrev pub stmts_good : List StmtFacts → Bool
stmts_good [] = true
stmts_good (s ∷ []) = s.good
stmts_good (s ∷ t ∷ more) = s.good && s.ends && stmts_good (t ∷ more)

abbrev pub is_lone : List Attr → List StmtFacts → Bool
is_lone [] (s ∷ []) = s.bare && not s.call
is_lone _ _ = false

abbrev pub stmts_structless : List StmtFacts → Bool
stmts_structless stmts = list_all (λ (s : StmtFacts). s.structless) stmts

abbrev pub block_facts : BlockLayer → BlockFacts
block_facts b = record {
  form = block_form b.attrs b.stmts;
  soft = soft_form b.attrs b.stmts;
  good = are_attrs true b.attrs && stmts_good b.stmts;
  lone = is_lone b.attrs b.stmts;
  structless = stmts_structless b.stmts;
}

-- ---- branches and arms

abbrev pub branch_facts : BranchLayer → BranchFacts
branch_facts b = record {
  condition = b.condition.form;
  soft = b.body.soft;
  good = b.condition.good && b.body.good;
}

-- After such a body an arm needs no comma.
abbrev pub is_free : ExprFacts → Bool
is_free x = x.block_like && not (is_macro x.kind)

abbrev pub guard_form : Option ExprFacts → Form
guard_form None = Done
guard_form (Some x) = Piece (Blank ∷ keyword (codes "if") ∷ Blank ∷ []) (Part x.form Done)

abbrev pub arm_form : List Attr → Pat → Option ExprFacts → ExprFacts → Bool → Form
arm_form attrs pat guard x last = behind_attrs (map attr_form attrs)
    (I0 (Part (pat_form Alternatives (about_pat pat)) (guard_form guard))
    (Piece (Blank ∷ Operator (codes "=>") ∷ Blank ∷ []) (N (Body (braces_of x.kind) (ArmComma last (is_free x)) x.form Done))))

abbrev pub arm_facts : ArmLayer → ArmFacts
arm_facts a = record {
  form = arm_form a.attrs a.pat a.guard a.body;
  good = are_attrs false a.attrs && pat_good Alternatives (about_pat a.pat) && value_placed a.guard && placed a.body statement && not (is_lone_body a.body.kind);
}
