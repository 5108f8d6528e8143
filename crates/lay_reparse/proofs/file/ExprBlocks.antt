-- Expressions that hold blocks, and closures, pass, kind by kind, given that what is within them passes.
use Rattle.std.proofs.Common.{◌≡◌, ℕ, List, [], ◌∷◌, ◌++◌, Bool, true, false, ◌&&◌, refl, codes, map, Option, Some, None}
use Rattle.std.proofs.lemmas.Bool.{and_parts}
use Rattle.lay_piece.specs.declared.kind.Kind.TheVariants as kind
use Rattle.lay_form.specs.Form as form
use Rattle.lay_form.specs.Form.{Bit, Blank, Operator, Form, Done, Piece, keyword}
use Rattle.lay_form.specs.Notation.{I0, body}
use Rattle.lay_form.specs.Pieces.{is_text_of, are_pieces}
use Rattle.lay_node.specs.nodes.Attr.{are_attrs, attr_form}
use Rattle.lay_node.specs.nodes.Patterns.{about_pat, pat_form, pat_good}
use Rattle.lay_node.specs.nodes.Types.{is_there, lifetime_form}
use Rattle.lay_node.specs.declared.attr.Attr.{Attr}
use Rattle.lay_node.specs.declared.patterns.Pat.{Pat}
use Rattle.lay_node.specs.declared.patterns.PatPlace.TheVariants.{Alternatives}
use Rattle.lay_node.specs.declared.token.Lifetime.{Lifetime}
use Rattle.lay_code.specs.nodes.CodeFacts.{ArmFacts, BlockFacts, BranchFacts, ConditionFacts}
use Rattle.lay_code.specs.nodes.Exprs.{ExprFacts, placed, expr_facts, labelled, branch_head, branches_good, more_branches, branches_form, else_branch_form, may_be_good, arm_forms, arms_good}
use Rattle.lay_code.specs.nodes.Places as place
use Rattle.lay_code.specs.declared.blocks.Stmt.TheOpen.{Expr-F}
use Rattle.lay_reparse.proofs.borders.Border.{Border, beyond}
use Rattle.lay_reparse.proofs.borders.Move.{under}
use Rattle.lay_reparse.proofs.forms.Passes.{plain}
use Rattle.lay_reparse.proofs.forms.Rules.{tables, From, All, under-refl, wider, ends, simple, fixed, tree_token, within, part, body_fits, braced}
use Rattle.lay_reparse.proofs.file.Nodes.{fits_known, behind_word, ends_line, attrs_pass, body_pieces, both_pieces, both_all}
use Rattle.lay_reparse.proofs.file.TypeParts.{ends_lifetime}
use Rattle.lay_reparse.proofs.file.TypeArgs.{Any, Each}
use Rattle.lay_reparse.proofs.file.TypeKinds.{deep_pieces}
use Rattle.lay_reparse.proofs.file.Patterns.{pat_passes_at}
use Rattle.lay_reparse.proofs.file.ExprParts.{ends_base, ends_expr, ends_stmt, ends_any, shut_deep, leads_to, block_word, move_word, head_word, opens_block, BeginsCode, code_begins, begins_at}
use Rattle.lay_reparse.proofs.file.ExprPlaces.{ExprPasses, inner_expr}
use Rattle.lay_reparse.proofs.file.ExprKinds.{starting}
use Rattle.lay_reparse.proofs.file.BlockKinds.{BlockPasses}
use Rattle.lay_reparse.proofs.file.Conditions.{ConditionPasses}
use Rattle.lay_reparse.proofs.file.ArmKinds.{BranchPasses, ArmPasses, arms_pass}

-- ---- labels and words

-- a word, and what follows it where it leads
by_block_word : {b : Border} (w : List ℕ) {g h c : Border} {i f : Form} → leads_to b (block_word w) g ≡ true
    → From g i h → From h f c → From b (Piece (block_word w) (form.Part i f)) c
by_block_word {b} w {g} {h} fit k l =
    let q = and_parts (simple b (block_word w)) _ fit in fixed q.0 (part g h q.1 k l)

by_head_word : {b : Border} (w : List ℕ) {g h c : Border} {i f : Form} → leads_to b (head_word w) g ≡ true
    → From g i h → From h f c → From b (Piece (head_word w) (form.Part i f)) c
by_head_word {b} w {g} {h} fit k l =
    let q = and_parts (simple b (head_word w)) _ fit in fixed q.0 (part g h q.1 k l)

plain_code : BeginsCode plain
unfolding tables
plain_code = code_begins plain refl

-- a label, if there is one, and what follows it: at the border, or where nothing is asked
labelled_passes : (label : Option Lifetime) (b : Border) → BeginsCode b → {f : Form}
    → are_pieces (labelled label f) ≡ true
    → ((c : Border) → BeginsCode c → are_pieces f ≡ true → From c f ends_base)
    → From b (labelled label f) ends_base
unfolding tables
labelled_passes None b s w k = k b s w
labelled_passes (Some l) b s {f} w k =
    let p = and_parts (are_pieces (lifetime_form l)) (are_pieces (form.Part f Done)) w in
    let t = (and_parts (is_text_of kind.Lifetime l.text) true p.0).0 in
    part b ends_lifetime (under-refl b)
    (tree_token s.label (fits_known kind.Lifetime l.text refl t) (ends refl))
    (fixed refl (part plain ends_base refl (k plain plain_code (and_parts (are_pieces f) true p.1).0) (ends refl)))

-- what begins where an expression may that is no range
code_at : (v : Bool) (level : ℕ) (b : Border) → begins_at v level b ≡ true → BeginsCode b
code_at v level b h = (starting v level b h).code

-- ---- blocks

-- a block at the end, from where one may stand
last_block : (b : Border) → opens_block true b ≡ true → (x : BlockFacts) → BlockPasses x → x.good ≡ true
    → are_pieces (form.Part (x.form true) Done) ≡ true → From b (form.Part (x.form true) Done) ends_base
last_block b fit x k g w =
    part b plain (under-refl b) (k.go true b fit g (and_parts (are_pieces (x.form true)) true w).0) (ends refl)

-- a word and a block
word_block : {b : Border} (w : List ℕ) → leads_to b (block_word w) behind_word ≡ true → (x : BlockFacts)
    → BlockPasses x → x.good ≡ true → are_pieces (form.Part (x.form true) Done) ≡ true
    → From b (Piece (block_word w) (form.Part (x.form true) Done)) ends_base
unfolding tables
word_block w fit x k g p =
    by_block_word w fit (k.go true behind_word refl g (and_parts (are_pieces (x.form true)) true p).0) (ends refl)

word_soft : {b : Border} (w : List ℕ) → leads_to b (block_word w) behind_word ≡ true → (x : BlockFacts)
    → BlockPasses x → x.good ≡ true → are_pieces (form.Part x.soft Done) ≡ true
    → From b (Piece (block_word w) (form.Part x.soft Done)) ends_base
unfolding tables
word_soft w fit x k g p =
    by_block_word w fit (k.soft behind_word refl g (and_parts (are_pieces x.soft) true p).0) (ends refl)

pub block_expr_pass : (label : Option Lifetime) (x : BlockFacts) → BlockPasses x
    → ExprPasses (expr_facts (Expr-F.Block label x))
block_expr_pass label x k = record {
  go = λ v b h no_struct first g w.
      shut_deep (labelled_passes label b (code_at v 14 b h) (deep_pieces (labelled label (x.form false)) w)
      (λ c s p. wider refl (k.go false c s.brace g p)));
}

pub unsafe_pass : (x : BlockFacts) → BlockPasses x → ExprPasses (expr_facts (Expr-F.Unsafe x))
unsafe_pass x k = record {
  go = λ v b h no_struct first g w.
      shut_deep (word_soft (codes "unsafe") (code_at v 14 b h).by_unsafe x k g
      (deep_pieces (Piece (block_word (codes "unsafe")) (form.Part x.soft Done)) w));
}

pub const_block_pass : (x : BlockFacts) → BlockPasses x → ExprPasses (expr_facts (Expr-F.ConstBlock x))
const_block_pass x k = record {
  go = λ v b h no_struct first g w.
      shut_deep (word_soft (codes "const") (code_at v 14 b h).by_const x k g
      (deep_pieces (Piece (block_word (codes "const")) (form.Part x.soft Done)) w));
}

pub async_pass : (moves : Bool) (x : BlockFacts) → BlockPasses x → ExprPasses (expr_facts (Expr-F.Async moves x))
unfolding tables
async_pass false x k = record {
  go = λ v b h no_struct first g w.
      shut_deep (word_block (codes "async") (code_at v 14 b h).by_async x k g
      (deep_pieces (Piece (block_word (codes "async")) (form.Part (x.form true) Done)) w));
}
async_pass true x k = record {
  go = λ v b h no_struct first g w.
      let s = code_at v 14 b h in
      let a = block_word (codes "async") in
      let e = form.Part (x.form true) Done in
      let p = (and_parts (are_pieces (x.form true)) true (deep_pieces (Piece a (Piece move_word e)) w)).0 in
      let q = and_parts (simple b a) (under (beyond b a) behind_word) s.by_async in
      let r = and_parts (simple (beyond b a) move_word) (under (beyond (beyond b a) move_word) behind_word)
      s.by_async_move in
      shut_deep (fixed q.0 (fixed r.0 (part behind_word plain r.1 (k.go true behind_word refl g p) (ends refl))));
}

pub loop_pass : (label : Option Lifetime) (x : BlockFacts) → BlockPasses x
    → ExprPasses (expr_facts (Expr-F.Loop label x))
loop_pass label x k = record {
  go = λ v b h no_struct first g w.
      let e = Piece (block_word (codes "loop")) (form.Part (x.form true) Done) in
      shut_deep (labelled_passes label b (code_at v 14 b h) (deep_pieces (labelled label e) w)
      (λ c s p. word_block (codes "loop") s.by_loop x k g p));
}

-- ---- loops with a head, and `match`

pub while_pass : (label : Option Lifetime) (x : ConditionFacts) (y : BlockFacts) → ConditionPasses x
    → BlockPasses y → ExprPasses (expr_facts (Expr-F.While label x y))
unfolding tables
while_pass label x y k l = record {
  go = λ v b h no_struct first g w.
      let head = Piece (head_word (codes "while")) (form.Part x.form Done) in
      let e = I0 head (form.Part (y.form true) Done) in
      let n = and_parts x.good y.good g in
      shut_deep (labelled_passes label b (code_at v 14 b h) (deep_pieces (labelled label e) w) (λ c s p.
      let q = and_parts (are_pieces head) (are_pieces (form.Part (y.form true) Done)) p in
      let r = (and_parts (are_pieces x.form) true q.0).0 in
      within c ends_expr (under-refl c)
      (by_head_word (codes "while") s.by_while (k.go n.0 r) (ends refl))
      (last_block ends_expr refl y l n.1 q.1)));
}

pub for_pass : (label : Option Lifetime) (pat : Pat) (x : ExprFacts) (y : BlockFacts) → ExprPasses x
    → BlockPasses y → ExprPasses (expr_facts (Expr-F.For label pat x y))
unfolding tables
for_pass label pat x y k l = record {
  go = λ v b h no_struct first g w.
      let over = Piece (Blank ∷ keyword (codes "in") ∷ Blank ∷ []) (form.Part x.form Done) in
      let head = Piece (head_word (codes "for")) (form.Part (pat_form Alternatives (about_pat pat)) over) in
      let e = I0 head (form.Part (y.form true) Done) in
      let n1 = and_parts (pat_good Alternatives (about_pat pat) && placed x (place.plain 0 true)) y.good g in
      let n2 = and_parts (pat_good Alternatives (about_pat pat)) (placed x (place.plain 0 true)) n1.0 in
      shut_deep (labelled_passes label b (code_at v 14 b h) (deep_pieces (labelled label e) w) (λ c s p.
      let q = and_parts (are_pieces head) (are_pieces (form.Part (y.form true) Done)) p in
      let r = and_parts (are_pieces (pat_form Alternatives (about_pat pat))) (are_pieces over) q.0 in
      let t = (and_parts (are_pieces x.form) true r.1).0 in
      within c ends_expr (under-refl c)
      (by_head_word (codes "for") s.by_for (pat_passes_at plain refl Alternatives pat n2.0 r.0)
      (fixed refl (part plain ends_expr refl
      (wider (ends_any x.tail.bare _) (inner_expr x k (place.plain 0 true) n2.1 t)) (ends refl))))
      (last_block ends_expr refl y l n1.1 q.1)));
}

match_fits : body_fits (Blank ∷ []) [] ends_expr plain ends_stmt plain ≡ true
unfolding tables
match_fits = refl

attrs_wide : (es : List Form) → All plain es ends_line → All plain es ends_stmt
attrs_wide [] a = tt
attrs_wide (e ∷ es) a = (wider refl a.0, attrs_wide es a.1)

pub match_pass : (x : ExprFacts) (attrs : List Attr) (arms : List ArmFacts) → ExprPasses x → Each ArmPasses arms
    → ExprPasses (expr_facts (Expr-F.Match x attrs arms))
unfolding tables
match_pass x attrs arms k l = record {
  go = λ v b h no_struct first g w.
      let before = map attr_form attrs in
      let es = arm_forms arms in
      let head = Piece (head_word (codes "match")) (form.Part x.form Done) in
      let e = body (Blank ∷ []) [] (before ++ es) in
      let n1 = and_parts (placed x (place.plain 0 true) && are_attrs true attrs) (arms_good arms) g in
      let n2 = and_parts (placed x (place.plain 0 true)) (are_attrs true attrs) n1.0 in
      let p = and_parts (are_pieces head) (are_pieces e) (deep_pieces (I0 head e) w) in
      let q = (and_parts (are_pieces x.form) true p.0).0 in
      let r = both_pieces before es (body_pieces (Blank ∷ []) [] (before ++ es) p.1) in
      shut_deep (within b ends_expr (under-refl b)
      (by_head_word (codes "match") (code_at v 14 b h).by_match
      (wider {z = ends_expr} (ends_any x.tail.bare _) (inner_expr x k (place.plain 0 true) n2.0 q)) (ends refl))
      (wider {c = plain} refl (braced (Blank ∷ []) [] (before ++ es) plain ends_stmt match_fits
      (both_all plain ends_stmt before es (attrs_wide before (attrs_pass true attrs n2.1 r.0)) (arms_pass arms l n1.1 r.1)))));
}

-- ---- branches

else_branch_passes : (otherwise : Option BlockFacts) → Any BlockPasses otherwise → may_be_good otherwise ≡ true
    → are_pieces (else_branch_form otherwise) ≡ true → From plain (else_branch_form otherwise) ends_base
unfolding tables
else_branch_passes None k g w = ends refl
else_branch_passes (Some x) k g w =
    fixed refl (part behind_word plain refl (k.soft behind_word refl g (and_parts (are_pieces x.soft) true w).0)
    (ends refl))

more_branches_pass : (branches : List BranchFacts) → Each BranchPasses branches → branches_good branches ≡ true
    → {f : Form} → are_pieces (more_branches branches f) ≡ true → From plain f ends_base
    → From plain (more_branches branches f) ends_base
unfolding tables
more_branches_pass [] k g w l = l
more_branches_pass (x ∷ more) k g {f} w l =
    let n = and_parts x.good (branches_good more) g in
    let p = and_parts (are_pieces (branch_head x)) (are_pieces (form.Part x.soft (more_branches more f))) w in
    let q = (and_parts (are_pieces x.condition) true p.0).0 in
    let r = and_parts (are_pieces x.soft) (are_pieces (more_branches more f)) p.1 in
    fixed refl (within plain ends_expr refl (fixed refl (part plain ends_expr refl (k.0.condition n.0 q) (ends refl)))
    (part ends_expr plain refl (k.0.soft ends_expr refl n.0 r.0) (more_branches_pass more k.1 n.1 r.1 l)))

more_branches_pieces : (branches : List BranchFacts) (f : Form) → are_pieces (more_branches branches f) ≡ true
    → are_pieces f ≡ true
more_branches_pieces [] f w = w
more_branches_pieces (x ∷ more) f w =
    let p = and_parts (are_pieces (branch_head x)) (are_pieces (form.Part x.soft (more_branches more f))) w in
    more_branches_pieces more f (and_parts (are_pieces x.soft) (are_pieces (more_branches more f)) p.1).1

pub if_pass : (branches : List BranchFacts) (otherwise : Option BlockFacts) → Each BranchPasses branches
    → Any BlockPasses otherwise → ExprPasses (expr_facts (Expr-F.If branches otherwise))
unfolding tables
if_pass [] otherwise k l = record { go = λ v b h no_struct first g w. let e : false ≡ true = g in cc }
if_pass (x ∷ more) otherwise k l = record {
  go = λ v b h no_struct first g w.
      let last = else_branch_form otherwise in
      let n1 = and_parts (is_there (x ∷ more) && branches_good (x ∷ more)) (may_be_good otherwise) g in
      let n2 = and_parts x.good (branches_good more) n1.0 in
      let p = and_parts (are_pieces (branch_head x)) (are_pieces (form.Part x.soft (more_branches more last)))
      (deep_pieces (branches_form (x ∷ more) last) w) in
      let q = (and_parts (are_pieces x.condition) true p.0).0 in
      let r = and_parts (are_pieces x.soft) (are_pieces (more_branches more last)) p.1 in
      let t = more_branches_pieces more last r.1 in
      shut_deep (within b ends_expr (under-refl b)
      (by_head_word (codes "if") (code_at v 14 b h).by_if (k.0.condition n2.0 q) (ends refl))
      (part ends_expr plain refl (k.0.soft ends_expr refl n2.0 r.0)
      (more_branches_pass more k.1 n2.1 r.1 (else_branch_passes otherwise l n1.1 t))));
}
