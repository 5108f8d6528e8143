-- The forms of conditions and of their links, and when each is well formed (Rust Reference, "`if`
-- and `if let` expressions").
use Rattle.std.specs.Prelude.{◌&&◌, Bool, true, false, List, [], ◌∷◌, codes}
use Rattle.std.specs.List.{list_any}
use Rattle.lay_form.specs.Form.{Blank, Operator, Form, Done, Piece, Part, keyword}
use Rattle.lay_form.specs.Notation.{B, I4}
use Rattle.lay_node.specs.nodes.Patterns.{about_pat, pat_form, pat_good}
use Rattle.lay_node.specs.nodes.Types.{equals}
use Rattle.lay_node.specs.declared.patterns.Pat.{Pat}
use Rattle.lay_node.specs.declared.patterns.PatPlace.TheVariants.{Alternatives}
use Rattle.lay_code.specs.nodes.CodeFacts.{ConditionFacts, LinkFacts}
use Rattle.lay_code.specs.nodes.Exprs.{ConditionLayer, ExprFacts, LinkLayer, placed}
use Rattle.lay_code.specs.nodes.Places.{link_place, plain}
use Rattle.lay_code.specs.declared.blocks.Stmt.TheOpen.{Link-F}

-- ---- links

abbrev pub let_link_form : Pat → ExprFacts → Form
let_link_form pat x =
    Piece (keyword (codes "let") ∷ Blank ∷ []) (Part (pat_form Alternatives (about_pat pat)) (Piece equals (Part x.form Done)))

abbrev pub let_link_good : Pat → ExprFacts → Bool → Bool
let_link_good pat x more = pat_good Alternatives (about_pat pat) && placed x (link_place more)

abbrev pub link_facts : LinkLayer → LinkFacts
link_facts (Link-F.Link::Expr x) = record {
  form = x.form;
  is_let = false;
  good = λ more. placed x (link_place more);
  alone = placed x (plain 0 true);
}
link_facts (Link-F.Link::Let pat x) = record {
  form = let_link_form pat x;
  is_let = true;
  good = let_link_good pat x;
  alone = let_link_good pat x false;
}

-- ---- conditions

-- further links
abbrev pub links_form : List LinkFacts → Form
links_form [] = Done
links_form (l ∷ more) = B (Piece (Operator (codes "&&") ∷ Blank ∷ []) (Part l.form (links_form more)))

abbrev pub condition_form : List LinkFacts → Form
condition_form [] = Done
condition_form (l ∷ []) = l.form
condition_form (l ∷ m ∷ more) = I4 (Part l.form (links_form (m ∷ more))) Done

abbrev pub links_good : List LinkFacts → Bool
links_good [] = true
links_good (l ∷ []) = l.good false
links_good (l ∷ m ∷ more) = l.good true && links_good (m ∷ more)

abbrev pub has_let : List LinkFacts → Bool
has_let links = list_any (λ (l : LinkFacts). l.is_let) links

-- A condition is one link, or several of which one has a `let`. Several without a `let` are one
-- expression, whose operator is `&&`.
abbrev pub condition_good : List LinkFacts → Bool
condition_good [] = false
condition_good (l ∷ []) = l.alone
condition_good (l ∷ m ∷ more) = has_let (l ∷ m ∷ more) && links_good (l ∷ m ∷ more)

abbrev pub condition_facts : ConditionLayer → ConditionFacts
condition_facts c = record { form = condition_form c.links; good = condition_good c.links }
