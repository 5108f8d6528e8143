-- Blocks, statements and conditions tell their units, given that what is within them does.
use Rattle.std.proofs.Common.{◌≡◌, Bool, true, false, not, if◌then◌else◌, ◌&&◌, List, [], ◌∷◌, ◌++◌, codes, refl, ap, map, Option, Some, None}
use Rattle.std.proofs.lemmas.Bool.{and_parts, and_from}
use Rattle.lay_piece.specs.declared.kind.Delim.TheVariants.{Brace}
use Rattle.lay_piece.specs.declared.kind.Kind.TheVariants.{Opener, Punct}
use Rattle.lay_form.specs.Form.{Blank, Operator, Soft, Never, Form, Done, Part, keyword, semicolon}
use Rattle.lay_form.specs.Notation.{body, piece, soft}
use Rattle.lay_form.specs.Pieces.{are_pieces}
use Rattle.lay_node.specs.nodes.Attr.{are_attrs, attr_form}
use Rattle.lay_node.specs.nodes.Fields.{blank_if}
use Rattle.lay_node.specs.nodes.Functions.{may_be_type}
use Rattle.lay_node.specs.nodes.Patterns.{about_pat, pat_good}
use Rattle.lay_node.specs.nodes.Types.{colon, equals}
use Rattle.lay_node.specs.declared.attr.Attr.{Attr}
use Rattle.lay_node.specs.declared.heads.Site.{Site}
use Rattle.lay_node.specs.declared.heads.Site.TheVariants.{Module}
use Rattle.lay_node.specs.declared.patterns.Pat.{Pat}
use Rattle.lay_node.specs.declared.patterns.PatPlace.TheVariants.{Alternatives, Single}
use Rattle.lay_node.specs.declared.types.Ty.{Ty}
use Rattle.lay_node.specs.declared.types.TypePlace.TheVariants.{Bounds}
use Rattle.lay_code.specs.nodes.Blocks.{attrs_before, block_facts, block_form, branch_facts, dropped, dropped_if, else_form, else_good, ended_form, is_plain, let_type, precedes_else, soft_form, stmt_facts, stmt_form, stmts_good}
use Rattle.lay_code.specs.nodes.CodeFacts.{BlockFacts, BranchFacts, ConditionFacts, ItemFacts, LinkFacts, StmtFacts}
use Rattle.lay_code.specs.nodes.Conditions.{condition_facts, condition_form, condition_good, has_let, let_link_form, let_link_good, link_facts, links_form, links_good}
use Rattle.lay_code.specs.nodes.Exprs.{ExprFacts, placed, value_form, value_placed}
use Rattle.lay_code.specs.nodes.Places.{FREE, link_place, plain, statement}
use Rattle.lay_code.specs.declared.blocks.Stmt.TheOpen.{Link-F, Stmt-F}
use Rattle.lay_map.specs.spelling.Choice.{calm, clear, passes}
use Rattle.lay_map.specs.spelling.Units.{Word, Told, words}
use Rattle.lay_map.specs.Flow.{At, Still, Flow, flow}
use Rattle.lay_map.proofs.BodyRules.{Lined, body_firm, first_of, lead_bits, skip_bits, soft_told}
use Rattle.lay_map.proofs.RowRules.{Row, firm_lead, firm_rows, lined_row, rest_ends, told_row}
use Rattle.lay_map.proofs.Rules.{All, Firm, NoSemicolon, Plain, Tells, brk, deep, ends, firm_fixed, firm_part, fixed, group, levels_two, no_levels, part}
use Rattle.lay_map.proofs.nodes.Attrs.{attrs_firm, attrs_firm_then, attrs_lined, attrs_then}
use Rattle.lay_map.proofs.nodes.ExprParts.{ExprTells, Sound, at_place, both_all}
use Rattle.lay_map.proofs.nodes.Patterns.{pat_tells}
use Rattle.lay_map.proofs.nodes.TypeArgs.{Each, Given}
use Rattle.lay_map.proofs.nodes.Types.{type_tells_at}

-- ---- what is told

-- An opening brace comes first.
abbrev pub Braced : List Word → Type 0
Braced ws = (more : List Word) × (ws ≡ Told (Opener Brace) (codes "{") ∷ more)

pub record BlockTells (x : BlockFacts) : Type 0 where
  pub go : (lead : Bool) → x.good ≡ true → Plain (x.form lead)
  pub firm_is : x.good ≡ true → Firm (x.form false)
  pub on_line : x.good ≡ true → Plain x.soft
  pub braced : (lead : Bool) (ws : List Word) → Braced (words (x.form lead) ++ ws)

pub record StmtTells (x : StmtFacts) : Type 0 where
  pub go : x.good ≡ true → Sound x.form

pub record LinkTells (x : LinkFacts) : Type 0 where
  pub go : (more : Bool) → x.good more ≡ true → Plain x.form
  pub by_itself : x.alone ≡ true → Plain x.form

pub record ConditionTells (x : ConditionFacts) : Type 0 where
  pub go : x.good ≡ true → Plain x.form

pub record BranchTells (x : BranchFacts) : Type 0 where
  pub condition : x.good ≡ true → Plain x.condition
  pub on_line : x.good ≡ true → Plain x.soft

pub record ItemTells (x : ItemFacts) : Type 0 where
  pub go : (site : Site) → x.good site ≡ true → Sound x.form

-- ---- statements

typed : {Next : List Word → Type 0} {f : Form} (ty : Option Ty) → may_be_type ty ≡ true → Tells Next f → Tells Next (let_type ty f)
typed None g t = t
typed (Some x) g t = fixed colon refl (part (type_tells_at Bounds x g) t)

pub value_tells : {Next : List Word → Type 0} (x : Option ExprFacts) → Given ExprTells x → value_placed x ≡ true → Tells Next (value_form x)
value_tells None k g = ends
value_tells (Some x) k g = fixed equals refl (brk Never (part (at_place x k FREE g).tells ends))

else_tells : (x : Option ExprFacts) (b : Option BlockFacts) → Given BlockTells b → else_good x b ≡ true → Plain (else_form b)
else_tells x None k g = ends
else_tells x (Some b) k g =
    fixed (Blank ∷ keyword (codes "else") ∷ []) refl (deep (k.go true (and_parts (precedes_else x) b.good g).1) ends)

pub let_stmt : (attrs : List Attr) (pat : Pat) (ty : Option Ty) (x : Option ExprFacts) (b : Option BlockFacts) → Given ExprTells x → Given BlockTells b
    → StmtTells (stmt_facts (Stmt-F.Stmt::Let attrs pat ty x b))
let_stmt attrs pat ty x b k l = record {
  go = λ g.
      let n1 = and_parts (are_attrs false attrs && pat_good Single (about_pat pat) && may_be_type ty && value_placed x) (else_good x b) g in
      let n2 = and_parts (are_attrs false attrs && pat_good Single (about_pat pat) && may_be_type ty) (value_placed x) n1.0 in
      let n3 = and_parts (are_attrs false attrs && pat_good Single (about_pat pat)) (may_be_type ty) n2.0 in
      let n4 = and_parts (are_attrs false attrs) (pat_good Single (about_pat pat)) n3.0 in
      record {
        tells = attrs_then (map attr_form attrs) (attrs_lined false attrs n4.0)
            (fixed (keyword (codes "let") ∷ Blank ∷ []) refl (part (pat_tells Single pat n4.1)
            (typed ty n3.1 (part (value_tells x k n2.1) (part (else_tells x b l n1.1) (fixed semicolon refl ends))))));
        firm_is = attrs_firm_then (map attr_form attrs) (attrs_firm attrs) (firm_fixed (keyword (codes "let") ∷ Blank ∷ []) refl);
      };
}

pub item_stmt : (x : ItemFacts) → ItemTells x → StmtTells (stmt_facts (Stmt-F.Item x))
item_stmt x k = record { go = λ g. k.go Module (and_parts (x.good Module) (not x.call) g).0 }

ended : (b : Bool) → Plain (ended_form b)
ended true = fixed semicolon refl ends
ended false = ends

pub expr_stmt : (attrs : List Attr) (x : ExprFacts) (b : Bool) → ExprTells x → StmtTells (stmt_facts (Stmt-F.Stmt::Expr attrs x b))
expr_stmt attrs x b k = record {
  go = λ g.
      let n = and_parts (are_attrs false attrs) (placed x statement) g in
      let s = at_place x k statement n.1 in
      record {
        tells = attrs_then (map attr_form attrs) (attrs_lined false attrs n.0) (part s.tells (ended b));
        firm_is = attrs_firm_then (map attr_form attrs) (attrs_firm attrs) (firm_part s.firm_is);
      };
}

-- ---- what stands in a block, each with what may be dropped after it

drops : Tells NoSemicolon (piece dropped)
drops = record {
  go = λ w. record {
    flows = λ a. refl;
    clears = λ ws b n. and_from (passes ws Punct (codes ";") && true) true (and_from (passes ws Punct (codes ";")) true n refl) refl;
    levels = λ x. record { shut_is = refl; leaves = refl };
  };
}

stmt_row : (s : StmtFacts) → Sound s.form → Row NoSemicolon (stmt_form s) × Firm (stmt_form s)
stmt_row s k = by s.unended
  where
    by : (unended : Bool) → Row NoSemicolon (if unended then Part s.form Done else Part s.form (piece dropped))
        × Firm (if unended then Part s.form Done else Part s.form (piece dropped))
    by true = (told_row (part k.tells ends), firm_part k.firm_is)
    by false = (told_row (part k.tells drops), firm_part k.firm_is)

first_good : (s : StmtFacts) (more : List StmtFacts) → stmts_good (s ∷ more) ≡ true → (s.good ≡ true) × (stmts_good more ≡ true)
first_good s [] g = (g, refl)
first_good s (t ∷ more) g =
    let n = and_parts (s.good && s.ends) (stmts_good (t ∷ more)) g in ((and_parts s.good s.ends n.0).0, n.1)

stmts_rows : (stmts : List StmtFacts) → Each StmtTells stmts → stmts_good stmts ≡ true
    → All (Row NoSemicolon) (map stmt_form stmts) × All Firm (map stmt_form stmts)
stmts_rows [] k g = (tt, tt)
stmts_rows (s ∷ more) k g =
    let n = first_good s more g in
    let p = stmt_row s (k.0.go n.0) in
    let q = stmts_rows more k.1 n.1 in
    ((p.0, q.0), (p.1, q.1))

last_attr : {e : Form} → Lined e → Row NoSemicolon (Part e (piece dropped))
last_attr {e} l = record {
  go = λ w.
      let u = l.go (and_parts (are_pieces e) true w).0 in
      record {
        flows = λ a.
            let r = u.flows a in
            rest_ends a (flow (At Still a) (Part e (piece dropped)))
            (record { wait = r.wait; is = ap (λ (s : Flow). flow s (piece dropped)) r.is; rests = r.rests });
        clears = λ ws b n.
            and_from (clear e ws (calm (piece dropped) b)) (clear (piece dropped) ws b) (u.clears ws (calm (piece dropped) b)) ((drops.go refl).clears ws b n);
        levels = λ x. levels_two (words e) [] (u.levels x) (no_levels x);
      };
}

attrs_rows : (es : List Form) → All Lined es → All (Row NoSemicolon) (attrs_before es)
attrs_rows [] l = tt
attrs_rows (e ∷ []) l = (last_attr l.0, tt)
attrs_rows (e ∷ f ∷ es) l = (lined_row l.0, attrs_rows (f ∷ es) l.1)

before_firm : (es : List Form) → All Firm es → All Firm (attrs_before es)
before_firm [] c = tt
before_firm (e ∷ []) c = (firm_part c.0, tt)
before_firm (e ∷ f ∷ es) c = (c.0, before_firm (f ∷ es) c.1)

-- ---- blocks

pub body_braced : (lead none : Bool) (es : List Form) (ws : List Word) → Braced (words (body (blank_if lead) (dropped_if none) es) ++ ws)
body_braced true true [] ws = (_, refl)
body_braced true true (e ∷ es) ws = (_, refl)
body_braced true false [] ws = (_, refl)
body_braced true false (e ∷ es) ws = (_, refl)
body_braced false true [] ws = (_, refl)
body_braced false true (e ∷ es) ws = (_, refl)
body_braced false false [] ws = (_, refl)
body_braced false false (e ∷ es) ws = (_, refl)

-- the facts about the body of a block
record BodyTells (none : Bool) (es : List Form) : Type 0 where
  go : (lead : Bool) → Plain (body (blank_if lead) (dropped_if none) es)
  firm_is : Firm (body [] (dropped_if none) es)

body_tells : (none : Bool) (es : List Form) → All (Row NoSemicolon) es → All Firm es → BodyTells none es
body_tells none es t c = by none
  where
    told : (lead skip : Bool) → Plain (body (lead_bits lead) (skip_bits skip) es)
    told lead skip = firm_rows NoSemicolon lead skip es (λ ws. refl) t (firm_lead es c) (first_of Firm es c)

    led : (lead : Bool) (n : Bool) → Plain (body (blank_if lead) (dropped_if n) es)
    led true true = told true true
    led true false = told true false
    led false true = told false true
    led false false = told false false

    by : (n : Bool) → BodyTells n es
    by true = record { go = λ lead. led lead true; firm_is = body_firm true es (first_of Firm es c) }
    by false = record { go = λ lead. led lead false; firm_is = body_firm false es (first_of Firm es c) }

block_body : (attrs : List Attr) (stmts : List StmtFacts) → Each StmtTells stmts → are_attrs true attrs ≡ true → stmts_good stmts ≡ true
    → BodyTells (is_plain attrs) (attrs_before (map attr_form attrs) ++ map stmt_form stmts)
block_body attrs stmts k g h =
    let before = attrs_before (map attr_form attrs) in
    let r = stmts_rows stmts k h in
    body_tells (is_plain attrs) (before ++ map stmt_form stmts)
    (both_all (Row NoSemicolon) before (map stmt_form stmts) (attrs_rows (map attr_form attrs) (attrs_lined true attrs g)) r.0)
    (both_all Firm before (map stmt_form stmts) (before_firm (map attr_form attrs) (attrs_firm attrs)) r.1)

soft_tells : (attrs : List Attr) (stmts : List StmtFacts) → Each StmtTells stmts → are_attrs true attrs ≡ true → stmts_good stmts ≡ true
    → Plain (soft_form attrs stmts)
soft_tells [] (s ∷ []) k g h = by s.bare
  where
    by : (bare : Bool) → Plain (if bare then soft s.form else block_form [] (s ∷ []) true)
    by true = let u = k.0.go h in soft_told u.tells u.firm_is
    by false = (block_body [] (s ∷ []) k g h).go true
soft_tells [] [] k g h = (block_body [] [] k g h).go true
soft_tells [] (s ∷ t ∷ more) k g h = (block_body [] (s ∷ t ∷ more) k g h).go true
soft_tells (a ∷ attrs) stmts k g h = (block_body (a ∷ attrs) stmts k g h).go true

pub block_tells : (attrs : List Attr) (stmts : List StmtFacts) → Each StmtTells stmts
    → BlockTells (block_facts (record { attrs = attrs; stmts = stmts }))
block_tells attrs stmts k = record {
  go = λ lead g. let n = parts g in (block_body attrs stmts k n.0 n.1).go lead;
  firm_is = λ g. let n = parts g in (block_body attrs stmts k n.0 n.1).firm_is;
  on_line = λ g. let n = parts g in soft_tells attrs stmts k n.0 n.1;
  braced = λ lead ws. body_braced lead (is_plain attrs) (attrs_before (map attr_form attrs) ++ map stmt_form stmts) ws;
}
  where
    parts : are_attrs true attrs && stmts_good stmts ≡ true → (are_attrs true attrs ≡ true) × (stmts_good stmts ≡ true)
    parts g = and_parts (are_attrs true attrs) (stmts_good stmts) g

-- ---- conditions

let_link_tells : (pat : Pat) (x : ExprFacts) (more : Bool) → ExprTells x → let_link_good pat x more ≡ true → Plain (let_link_form pat x)
let_link_tells pat x more k g =
    let n = and_parts (pat_good Alternatives (about_pat pat)) (placed x (link_place more)) g in
    fixed (keyword (codes "let") ∷ Blank ∷ []) refl (part (pat_tells Alternatives pat n.0)
    (fixed equals refl (part (at_place x k (link_place more) n.1).tells ends)))

pub expr_link : (x : ExprFacts) → ExprTells x → LinkTells (link_facts (Link-F.Link::Expr x))
expr_link x k = record {
  go = λ more g. (at_place x k (link_place more) g).tells;
  by_itself = λ g. (at_place x k (plain 0 true) g).tells;
}

pub let_link : (pat : Pat) (x : ExprFacts) → ExprTells x → LinkTells (link_facts (Link-F.Link::Let pat x))
let_link pat x k = record { go = λ more g. let_link_tells pat x more k g; by_itself = λ g. let_link_tells pat x false k g }

links_tell : (l : LinkFacts) (more : List LinkFacts) → LinkTells l → Each LinkTells more → links_good (l ∷ more) ≡ true
    → Plain (Part l.form (links_form more))
links_tell l [] k each g = part (k.go false g) ends
links_tell l (m ∷ more) k each g =
    let n = and_parts (l.good true) (links_good (m ∷ more)) g in
    part (k.go true n.0) (brk (Soft false 1) (fixed (Operator (codes "&&") ∷ Blank ∷ []) refl (links_tell m more each.0 each.1 n.1)))

condition_told : (links : List LinkFacts) → Each LinkTells links → condition_good links ≡ true → Plain (condition_form links)
condition_told [] each g = absurd (cc g)
condition_told (l ∷ []) each g = each.0.by_itself g
condition_told (l ∷ m ∷ more) each g =
    group false 4 (links_tell l (m ∷ more) each.0 each.1 (and_parts (has_let (l ∷ m ∷ more)) (links_good (l ∷ m ∷ more)) g).1) ends

pub condition_tells : (links : List LinkFacts) → Each LinkTells links → ConditionTells (condition_facts (record { links = links }))
condition_tells links each = record { go = λ g. condition_told links each g }

pub branch_tells : (x : ConditionFacts) (b : BlockFacts) → ConditionTells x → BlockTells b
    → BranchTells (branch_facts (record { condition = x; body = b }))
branch_tells x b k l = record {
  condition = λ g. k.go (and_parts x.good b.good g).0;
  on_line = λ g. l.on_line (and_parts x.good b.good g).1;
}
