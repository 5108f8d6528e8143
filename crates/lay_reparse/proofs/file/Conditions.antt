-- Conditions and their links pass, given the facts about them and that what is within them passes.
use Rattle.std.proofs.Common.{◌≡◌, List, [], ◌∷◌, Bool, true, false, refl}
use Rattle.std.proofs.lemmas.Bool.{and_parts}
use Rattle.lay_form.specs.Form as form
use Rattle.lay_form.specs.Form.{Done}
use Rattle.lay_form.specs.Pieces.{are_pieces}
use Rattle.lay_node.specs.nodes.Patterns.{about_pat, pat_form, pat_good}
use Rattle.lay_node.specs.declared.patterns.Pat.{Pat}
use Rattle.lay_node.specs.declared.patterns.PatPlace.TheVariants.{Alternatives}
use Rattle.lay_code.specs.nodes.CodeFacts.{ConditionFacts, LinkFacts}
use Rattle.lay_code.specs.nodes.Conditions.{condition_facts, condition_form, condition_good, has_let, let_link_form, let_link_good, link_facts, links_form, links_good}
use Rattle.lay_code.specs.nodes.Exprs.{ExprFacts, placed}
use Rattle.lay_code.specs.nodes.Places as place
use Rattle.lay_code.specs.nodes.Places.{link_place}
use Rattle.lay_code.specs.declared.blocks.Stmt.TheOpen.{Link-F}
use Rattle.lay_reparse.proofs.borders.Border.{Border}
use Rattle.lay_reparse.proofs.forms.Passes.{plain}
use Rattle.lay_reparse.proofs.forms.Rules.{tables, From, under-refl, wider, ends, fixed, breaks, within, part}
use Rattle.lay_reparse.proofs.file.TypeArgs.{Each}
use Rattle.lay_reparse.proofs.file.PatternParts.{ends_pat}
use Rattle.lay_reparse.proofs.file.Patterns.{pat_passes_at}
use Rattle.lay_reparse.proofs.file.ExprParts.{ends_operand, ends_expr, ends_any, from_clear}
use Rattle.lay_reparse.proofs.file.ExprPlaces.{ExprPasses, inner_expr, inner_operand}

-- ---- links

-- The flag says that a further link follows.
abbrev pub ends_link : Bool → Border
ends_link true = ends_operand
ends_link false = ends_expr

pub record LinkPasses (x : LinkFacts) : Type 0 where
  pub go : (more : Bool) → x.good more ≡ true → are_pieces x.form ≡ true → From plain x.form (ends_link more)
  pub by_itself : x.alone ≡ true → are_pieces x.form ≡ true → From plain x.form ends_expr

linked : (x : ExprFacts) → ExprPasses x → (more : Bool) → placed x (link_place more) ≡ true → are_pieces x.form ≡ true
    → From plain x.form (ends_link more)
linked x k true g w = inner_operand x k 4 true false false g w
linked x k false g w = wider (ends_any x.tail.bare _) (inner_expr x k (link_place false) g w)

let_passes : (pat : Pat) (x : ExprFacts) → ExprPasses x → (more : Bool) → let_link_good pat x more ≡ true
    → are_pieces (let_link_form pat x) ≡ true → From plain (let_link_form pat x) (ends_link more)
unfolding tables
let_passes pat x k more g w =
    let n = and_parts (pat_good Alternatives (about_pat pat)) (placed x (link_place more)) g in
    let p = and_parts (are_pieces (pat_form Alternatives (about_pat pat))) (are_pieces (form.Part x.form Done)) w in
    let q = (and_parts (are_pieces x.form) true p.1).0 in
    fixed refl (part plain ends_pat refl (pat_passes_at plain refl Alternatives pat n.0 p.0)
    (fixed refl (part plain (ends_link more) refl (linked x k more n.1 q) (ends (under-refl (ends_link more))))))

pub expr_link_pass : (x : ExprFacts) → ExprPasses x → LinkPasses (link_facts (Link-F.Link::Expr x))
expr_link_pass x k = record {
  go = λ more g w. linked x k more g w;
  by_itself = λ g w. wider (ends_any x.tail.bare _) (inner_expr x k (place.plain 0 true) g w);
}

pub let_link_pass : (pat : Pat) (x : ExprFacts) → ExprPasses x → LinkPasses (link_facts (Link-F.Link::Let pat x))
let_link_pass pat x k = record {
  go = λ more g w. let_passes pat x k more g w;
  by_itself = λ g w. let_passes pat x k false g w;
}

-- ---- conditions

-- a link, and further ones, each after an `&&`
links_pass : (l : LinkFacts) (more : List LinkFacts) → LinkPasses l → Each LinkPasses more → links_good (l ∷ more) ≡ true
    → are_pieces (form.Part l.form (links_form more)) ≡ true → From plain (form.Part l.form (links_form more)) ends_expr
unfolding tables
links_pass l [] k each g w =
    part plain ends_expr refl (k.go false g (and_parts (are_pieces l.form) true w).0) (ends refl)
links_pass l (m ∷ more) k each g w =
    let n = and_parts (l.good true) (links_good (m ∷ more)) g in
    let p = and_parts (are_pieces l.form) (are_pieces (links_form (m ∷ more))) w in
    part plain ends_operand refl (k.go true n.0 p.0)
    (breaks refl (fixed refl (from_clear _ refl (links_pass m more each.0 each.1 n.1 p.1))))

pub record ConditionPasses (x : ConditionFacts) : Type 0 where
  pub go : x.good ≡ true → are_pieces x.form ≡ true → From plain x.form ends_expr

condition_passes : (links : List LinkFacts) → Each LinkPasses links → condition_good links ≡ true
    → are_pieces (condition_form links) ≡ true → From plain (condition_form links) ends_expr
unfolding tables
condition_passes [] each g w = let e : false ≡ true = g in cc
condition_passes (l ∷ []) each g w = each.0.by_itself g w
condition_passes (l ∷ m ∷ more) each g w =
    let n = and_parts (has_let (l ∷ m ∷ more)) (links_good (l ∷ m ∷ more)) g in
    let p = (and_parts (are_pieces (form.Part l.form (links_form (m ∷ more)))) true w).0 in
    within plain ends_expr refl (links_pass l (m ∷ more) each.0 each.1 n.1 p) (ends refl)

pub condition_pass : (links : List LinkFacts) → Each LinkPasses links → ConditionPasses (condition_facts (record { links = links }))
condition_pass links each = record { go = λ g w. condition_passes links each g w }
