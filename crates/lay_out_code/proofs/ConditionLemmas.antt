-- The streams of conditions and their links, and of the groups that they stand in.
use Rattle.std.proofs.Common.{◌≡◌, ℕ, suc, ◌<◌, ◌≤◌, Bool, true, false, List, [], ◌∷◌, ◌++◌, map, length, get_or, codes, pos, refl, sym, ap, ◌∙◌, append_assoc, arith, OnOk, Result}
use Rattle.lay_layout.specs.declared.layout.Tok.{Tok}
use Rattle.lay_layout.specs.declared.layout.Tok.TheVariants as tok
use Rattle.lay_stream.specs.Fed.{Meanings}
use Rattle.lay_form.specs.Form.{Bit, Done, Form, Part, Piece}
use Rattle.lay_form.specs.Layout.{ends_behind_point}
use Rattle.lay_form.specs.Notation.{I0}
use Rattle.lay_form.specs.Stream.{fed, stream_of}
use Rattle.lay_node.specs.nodes.Patterns.{about_pat}
use Rattle.lay_node.specs.nodes.Types.{equals}
use Rattle.lay_node.specs.declared.patterns.Pat.{Pat}
use Rattle.lay_code.specs.nodes.Code.{about_condition, about_expr, about_link}
use Rattle.lay_code.specs.nodes.CodeFacts.{ConditionFacts, LinkFacts}
use Rattle.lay_code.specs.nodes.Conditions.{condition_form, let_link_form, links_form}
use Rattle.lay_code.specs.nodes.Exprs.{ExprFacts}
use Rattle.lay_code.specs.declared.conditions.Condition.{Condition}
use Rattle.lay_code.specs.declared.conditions.Link.{Link}
use Rattle.lay_code.specs.declared.conditions.Link.TheVariants as link
use Rattle.lay_code.specs.declared.exprs.Expr.{Expr}
use Rattle.lay_code.proofs.nodes.BlocksLaws.{condition_is, link_expr_is, link_let_is}
use Rattle.lay_out_tokens.proofs.StreamParts.{fed_more}
use Rattle.lay_out_types.specs.Calls.{Adds}
use Rattle.lay_out_types.specs.Rows.{further, row}
use Rattle.lay_out_types.proofs.Adding.{level_behind, on_ok}
use Rattle.lay_out_types.proofs.FormRows.{level_form, level_row, one_open}
use Rattle.lay_out_heads.proofs.Steady.{Steady}
use Rattle.lay_out_exprs.specs.Blocks.{lead_row, let_row, link_between}
use Rattle.lay_out_exprs.proofs.Feeds.{Any, both, part_at}
use Rattle.lay_out_code.specs.Parts.{head_end, link_told}

-- ---- links

-- one that is an expression
pub expr_link : (x : Link) (inner put : Expr) → x ≡ link.Expr inner → put ≡ inner
    → stream_of (about_expr put).form ≡ stream_of (about_link x).form
expr_link x inner put is e = rw (e, is) (sym (ap (λ (z : LinkFacts). stream_of z.form) (link_expr_is inner)))

let_fed : (pat : Pat) (x : ExprFacts) → let_row pat ++ stream_of x.form ≡ stream_of (let_link_form pat x)
let_fed pat x =
    ap (λ (s : List Tok). tok.Text (codes "let ") ∷ s)
    (append_assoc (stream_of (about_pat pat).told.form) (tok.Text (codes " = ") ∷ []) (stream_of x.form)
    ∙ ap (λ (s : List Tok). stream_of (about_pat pat).told.form ++ s)
    (equals_fed (ends_behind_point false (about_pat pat).told.form) x.form)
    ∙ sym (fed_more false (about_pat pat).told.form _))
  where
    equals_fed : (q : Bool) (f : Form) → tok.Text (codes " = ") ∷ stream_of f ≡ fed q (Piece equals (Part f Done)) []
    equals_fed true f = refl
    equals_fed false f = refl

-- one that is matched with a pattern
pub let_link : (x : Link) (pat : Pat) (inner put : Expr) → x ≡ link.Let pat inner → put ≡ inner
    → let_row pat ++ stream_of (about_expr put).form ≡ stream_of (about_link x).form
let_link x pat inner put is e =
    rw (e, is) (let_fed pat (about_expr inner) ∙ sym (ap (λ (z : LinkFacts). stream_of z.form) (link_let_is pat inner)))

-- Further links are fed alike after a point.
links_any : (ls : List LinkFacts) → Any (links_form ls)
links_any [] = both refl
links_any (l ∷ ls) = both refl

-- further links
further_links : (rest : List Link) → further link_between (map link_told rest) ≡ stream_of (links_form (map about_link rest))
further_links [] = refl
further_links (x ∷ rest) =
    ap (λ (s : List Tok). link_between ++ (stream_of (link_told x) ++ s)) (further_links rest)
    ∙ ap (λ (s : List Tok). link_between ++ s)
    (part_at false (link_told x) (links_form (map about_link rest)) (links_any (map about_link rest)))

-- ---- the links of a condition

-- none, one, and several
pub no_links : (links : List Link) → length links < 1 → [] ≡ stream_of (condition_form (map about_link links))
no_links [] none = refl
no_links (x ∷ links) none = absurd (omega arith)

pub one_link : (links : List Link) (only : Link) → 1 ≤ length links → length links < 2 → only ≡ get_or links 0 only
    → stream_of (about_link only).form ≡ stream_of (condition_form (map about_link links))
one_link [] only some one is = absurd (omega arith)
one_link (x ∷ []) only some one is = rw is refl
one_link (x ∷ y ∷ links) only some one is = absurd (omega arith)

pub several_links : (links : List Link) → 2 ≤ length links
    → tok.Begin false (pos 4) ∷ (row [] link_between (map link_told links) ++ (tok.End ∷ []))
    ≡ stream_of (condition_form (map about_link links))
several_links [] several = absurd (omega arith)
several_links (x ∷ []) several = absurd (omega arith)
several_links (x ∷ y ∷ rest) several =
    let f = links_form (map about_link (y ∷ rest)) in
    ap (λ (s : List Tok). tok.Begin false (pos 4) ∷ s)
    (ap (λ (s : List Tok). (stream_of (link_told x) ++ s) ++ (tok.End ∷ [])) (further_links (y ∷ rest))
    ∙ ap (λ (s : List Tok). s ++ (tok.End ∷ [])) (part_at false (link_told x) f (links_any (map about_link (y ∷ rest))))
    ∙ sym (fed_more false (Part (link_told x) f) (tok.End ∷ [])))

-- Their group may be closed.
pub may_end_links : {S F T : Type 0} {m : Meanings S F} {a b : S} {p q : Result T F} (links : List Link)
    → Adds m p a (tok.Begin false (pos 4) ∷ row [] link_between (map link_told links)) q b → OnOk q (0 < m.groups b)
may_end_links {m} {a} {p} {q} links h =
    on_ok q (λ x e. (one_open (m.groups a)
    (level_behind p q x h e ∙ level_row link_between (λ n. refl) (map link_told links) (suc (m.groups a)))).0)

-- all links
pub links_told : (c : Condition) (put : List Link) → put ≡ c.links
    → stream_of (condition_form (map about_link put)) ≡ stream_of (about_condition c).form
links_told c put same = rw same (sym (ap (λ (z : ConditionFacts). stream_of z.form) (condition_is c)))

-- ---- groups

-- What opens a group of a head leaves it open.
pub may_end_condition : {S F T : Type 0} {m : Meanings S F} {a b : S} {p q : Result T F} (word : List ℕ) (f : Form)
    → Adds m p a (lead_row word ++ stream_of f) q b → OnOk q (0 < m.groups b)
may_end_condition {m} {a} {p} {q} word f h =
    on_ok q (λ x e. (one_open (m.groups a) (level_behind p q x h e ∙ level_form f (suc (m.groups a)))).0)

-- a head in its group, and what follows it
pub group_fed : (q : Bool) (bits : List Bit) (word : List ℕ) (head f : Form) → Steady f
    → ((r : Bool) (g : Form) (more : List Tok) → fed r (Piece bits g) more ≡ tok.Text word ∷ fed false g more)
    → (lead_row word ++ (stream_of head ++ head_end)) ++ stream_of f ≡ fed q (I0 (Piece bits (Part head Done)) f) []
group_fed q bits word head f any puts =
    ap (λ (s : List Tok). tok.Begin false (pos 0) ∷ s)
    (ap (λ (s : List Tok). tok.Text word ∷ s)
    (append_assoc (stream_of head) head_end (stream_of f)
    ∙ ap (λ (s : List Tok). stream_of head ++ (tok.End ∷ s)) (sym (any _))
    ∙ sym (fed_more false head _))
    ∙ sym (puts q (Part head Done) _))
