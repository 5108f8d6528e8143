-- Conditions are parsed where they are spelled, if that holds one level deeper.
use Rattle.std.proofs.Common.{◌≡◌, ℕ, max, Bool, true, false, List, [], ◌∷◌, map, drop, codes, Option, Some, None, if◌then◌else◌, inl, refl, sym, ap, subst, ◌∙◌, arith, le-leb, eq-eqb}
use Rattle.std.specs.Prelude.{◌==◌}
use Rattle.std.specs.List.{list_any}
use Rattle.std.proofs.lemmas.Bool.{and_parts}
use Rattle.lay_piece.specs.Forms.{opening}
use Rattle.lay_piece.specs.declared.kind.Delim.TheVariants.{Brace}
use Rattle.lay_piece.specs.declared.kind.Kind.TheVariants.{Ident, Opener}
use Rattle.lay_token.specs.Operators.{is_op}
use Rattle.lay_form.specs.Form.{Operator, keyword}
use Rattle.lay_form.specs.Spelled.{IsOne, IsOperator, Spells}
use Rattle.lay_form.proofs.FormLaws.{shorter}
use Rattle.lay_node.specs.Ahead.{Tokens, first, is_keyword}
use Rattle.lay_node.specs.Follow.{begins_dots}
use Rattle.lay_node.specs.nodes.Patterns.{about_pat, pat_good}
use Rattle.lay_node.specs.reader.Loops.{nodes, deepest}
use Rattle.lay_node.specs.declared.patterns.Pat.{Pat}
use Rattle.lay_node.specs.declared.patterns.PatPlace.TheVariants.{Alternatives}
use Rattle.lay_node.proofs.Fronts.{one_no_op, other_op}
use Rattle.lay_node.proofs.Parts.{Rows, before_blank, part_alone}
use Rattle.lay_node.proofs.reader.Exact.{IsRead}
use Rattle.lay_node.proofs.reader.GenericsComplete.{equals_operator}
use Rattle.lay_node.proofs.reader.TypesCompleteParts.{keyword_there, one_left}
use Rattle.lay_code.specs.Operators.{angle_by, binary, is_angle, strength}
use Rattle.lay_code.specs.nodes.Code.{about_condition, about_expr, about_link}
use Rattle.lay_code.specs.nodes.CodeFacts.{ConditionFacts, LinkFacts}
use Rattle.lay_code.specs.nodes.Conditions.{condition_form, condition_good, has_let, link_facts, links_form, links_good}
use Rattle.lay_code.specs.nodes.Exprs.{LinkLayer, placed, stands}
use Rattle.lay_code.specs.nodes.Places.{before_op, link_place, plain}
use Rattle.lay_code.specs.reader.Conditions.{ReadLink, any_let, begins_link, condition_by, condition_of, further_links, is_let, let_link, linked, one_link}
use Rattle.lay_code.specs.reader.Within.{ExprWithin}
use Rattle.lay_code.specs.declared.blocks.Stmt.TheOpen.{Link-F}
use Rattle.lay_code.specs.declared.conditions.Condition.{Condition}
use Rattle.lay_code.specs.declared.conditions.Link.{Link}
use Rattle.lay_code.specs.declared.exprs.Expr.{Expr}
use Rattle.lay_code.specs.declared.operators.Op.TheVariants as op
use Rattle.lay_code.proofs.nodes.BlocksLaws.{LinkView, IsExprLink, IsLetLink, condition_is, link_expr_is, link_let_is, link_view}
use Rattle.lay_code.proofs.reader.ConditionsFronts.{link_no_dots}
use Rattle.lay_code.proofs.reader.ExprFronts.{placed_begins}
use Rattle.lay_code.proofs.reader.ExprHeadsJumps.{plain_follows}
use Rattle.lay_code.proofs.reader.ExprLeads.{expr_no_keyword}
use Rattle.lay_code.proofs.reader.ExprOperators.{not_at_level, op_binary, text_shorter}
use Rattle.lay_code.proofs.reader.ExprOperatorsLoops.{NodeTurn, nodes_repeat}
use Rattle.lay_code.proofs.reader.ExprOperatorsRows.{before_plain, before_tail}
use Rattle.lay_code.proofs.reader.ExprOperatorsTails.{before_parts}
use Rattle.lay_code.proofs.reader.ExprQuiet.{ExprEnds, brace_ends_expr, ends_follow}
use Rattle.lay_code.proofs.reader.ExprReads.{ExprReads}
use Rattle.lay_code.proofs.reader.ExprSoundOperators.{op_strength}
use Rattle.lay_code.proofs.reader.PatternEnds.{equals_follows}

-- ---- links as they are read

abbrev link_layer : ReadLink → LinkLayer
link_layer (None, x) = Link-F.Link::Expr (about_expr x)
link_layer (Some pat, x) = Link-F.Link::Let pat (about_expr x)

-- the facts about one
abbrev told : ReadLink → LinkFacts
told r = link_facts (link_layer r)

record AsRead (l : Link) : Type 0 where
  read : ReadLink
  is : linked read ≡ l
  is_told : about_link l ≡ told read

as_read : (l : Link) → AsRead l
as_read l = by l (link_view l)
  where
    by : (l : Link) → LinkView l → AsRead l
    by _ (IsExprLink x) = record { read = (None, x); is = refl; is_told = link_expr_is x }
    by _ (IsLetLink pat x) = record { read = (Some pat, x); is = refl; is_told = link_let_is pat x }

all_as_read : (ls : List Link) → (rs : List ReadLink) × (map linked rs ≡ ls) × (map about_link ls ≡ map told rs)
all_as_read [] = ([], refl, refl)
all_as_read (l ∷ ls) = let a = as_read l in let m = all_as_read ls in (a.read ∷ m.0, rw (a.is, m.1) refl, rw (a.is_told, m.2) refl)

-- Whether one of them is a `let` is told of them.
let_told : (rs : List ReadLink) → list_any is_let rs ≡ has_let (map told rs)
let_told [] = refl
let_told ((None, x) ∷ rs) = let_told rs
let_told ((Some pat, x) ∷ rs) = refl

-- Further links are spelled one after the other, each after its `&&`.
abbrev LinkSpelled : ℕ → ReadLink → Tokens → Tokens → Type 0
LinkSpelled depth r ts mid = (at : Tokens) × IsOperator (codes "&&") ts at × Spells (told r).form depth at mid

links_spelled : (depth : ℕ) (rs : List ReadLink) (ts rest : Tokens) → Spells (links_form (map told rs)) depth ts rest
    → Rows (LinkSpelled depth) rs ts rest
links_spelled depth [] ts rest s = s
links_spelled depth (r ∷ rs) ts rest s =
    let p = s.2 in (p.0, (s.0, before_blank (Operator (codes "&&")) ts s.0 s.1, p.1), links_spelled depth rs p.0 rest p.2)

module _ (depth : ℕ) (within : ExprWithin) (reads : ExprReads depth within) where
  -- ---- a link

  -- what follows it; the flag says that a further link does, with its `&&`
  abbrev Behind : Bool → Tokens → Type 0
  Behind true ts = binary ts ≡ Some op.AndAnd
  Behind false ts = ExprEnds true ts

  record ValueThere (x : Expr) (ts mid : Tokens) : Type 0 where
    read : IsRead depth (within.exprs (plain 4 true)) x ts mid
    there : placed (about_expr x) (plain 4 true) ≡ true
    ends : (if strength mid == 4 then stands (about_expr x) (link_place true) else true) ≡ true

  value_there : (x : Expr) (more : Bool) (ts mid : Tokens) → Spells (about_expr x).form depth ts mid → placed (about_expr x) (link_place more) ≡ true
      → Behind more mid → ValueThere x ts mid
  value_there x true ts mid s w b =
      let F = about_expr x in
      let stand = (and_parts (stands F (before_op 4 true false false)) (F.within true false) w).0 in
      let parts = before_parts F 4 true false false stand in
      let angled : is_angle mid ≡ false = ap angle_by b in
      let tail = before_tail F 4 true false false parts mid op.AndAnd b angled in
      let strong : strength mid ≡ 4 = op_strength mid op.AndAnd b in
      let here = before_plain F 4 true false w in
      let follow = plain_follows F 4 true mid (le-leb (strength mid) 4 (omega (arith, strong))) tail in
      record { read = reads.exprs (plain 4 true) x ts mid s here (inl follow); there = here; ends = rw (eq-eqb (strength mid) 4 strong) stand }
  value_there x false ts mid s w b = record {
    read = reads.exprs (plain 4 true) x ts mid s w (inl (ends_follow (about_expr x) (plain 4 true) mid b));
    there = w;
    ends = rw (not_at_level 3 mid (omega (arith, b.weak))) refl;
  }

  expr_made : (x : Expr) (n : ℕ) (ts mid : Tokens) → first (is_keyword (codes "let")) ts ≡ false → within.exprs (plain 4 true) ts ≡ Some ((x, n), mid)
      → (if strength mid == 4 then stands (about_expr x) (link_place true) else true) ≡ true → one_link within ts ≡ Some (((None, x), n), mid)
  unfolding one_link
  expr_made x n ts mid l h e = rw (l, h, e) refl

  let_made : (pat : Pat) (x : Expr) (m n : ℕ) (ts start mid behind rest : Tokens) → IsOne Ident (codes "let") ts start
      → within.pats Alternatives start ≡ Some ((pat, m), mid) → IsOperator (codes "=") mid behind
      → within.exprs (plain 4 true) behind ≡ Some ((x, n), rest)
      → (if strength rest == 4 then stands (about_expr x) (link_place true) else true) ≡ true → one_link within ts ≡ Some (((Some pat, x), max m n), rest)
  unfolding one_link let_link
  let_made pat x m n ts start mid behind rest o p e h w =
      rw (keyword_there (codes "let") ts start o, one_left Ident (codes "let") ts start o, p, e.0, e.1, h, w) refl

  -- It is read, and begins with no range.
  link_read : (r : ReadLink) (more : Bool) (ts mid : Tokens) → Spells (told r).form depth ts mid → (told r).good more ≡ true → Behind more mid
      → IsRead depth (one_link within) r ts mid × (begins_dots ts ≡ false)
  link_read (None, x) more ts mid s g b =
      let v = value_there x more ts mid s g b in
      let r = v.read in
      let lead = (placed_begins x (plain 4 true) depth ts mid s v.there).lead in
      let no_let = expr_no_keyword (codes "let") (λ us. refl) ts (about_expr x).lead lead in
      ((r.0, r.1, expr_made x r.0 ts mid no_let r.2 v.ends), link_no_dots x (plain 4 true) depth ts mid s v.there (omega arith))
  link_read (Some pat, x) more ts mid s g b =
      let goods = and_parts (pat_good Alternatives (about_pat pat)) (placed (about_expr x) (link_place more)) g in
      let word : IsOne Ident (codes "let") ts s.0 = before_blank (keyword (codes "let")) ts s.0 s.1 in
      let p = s.2 in
      let q = p.2 in
      let e = equals_operator p.0 q.0 q.1 in
      let no_bar : is_op (codes "|") p.0 ≡ false = other_op (codes "=") (codes "|") refl p.0 e.0 in
      let a = reads.pats Alternatives pat s.0 p.0 p.1 goods.0 (no_bar, equals_follows (about_pat pat) p.0 e.0) in
      let here = part_alone (about_expr x).form depth q.0 mid q.2 in
      let v = value_there x more q.0 mid here goods.1 b in
      let r = v.read in
      let up : is_op (codes "..") ts ≡ false = one_no_op (codes "..") Ident (codes "let") ts s.0 refl word in
      let last : is_op (codes "..=") ts ≡ false = one_no_op (codes "..=") Ident (codes "let") ts s.0 refl word in
      ((max a.0 r.0, omega (arith, a.1, r.1), let_made pat x a.0 r.0 ts s.0 p.0 q.0 mid word a.2 e r.2 v.ends), rw (up, last) refl)

  -- ---- all links

  abbrev further : Tokens → Option ((ReadLink × ℕ) × Tokens)
  further us = one_link within (drop 2 us)

  all_there : (r : ReadLink) (rs : List ReadLink) (ts mid rest : Tokens) → Spells (told r).form depth ts mid → Rows (LinkSpelled depth) rs mid rest
      → links_good (map told (r ∷ rs)) ≡ true → ExprEnds true rest
      → IsRead depth (one_link within) r ts mid × (begins_dots ts ≡ false) × Rows (NodeTurn begins_link further depth) rs mid rest
  all_there r [] ts mid rest s rows g e =
      let l = link_read r false ts mid s g (subst (λ us. ExprEnds true us) (sym rows) e) in (l.0, l.1, rows)
  all_there r (q ∷ rs) ts mid rest s rows g e =
      let next = rows.1 in
      let sign = next.1 in
      let goods = and_parts ((told r).good true) (links_good (map told (q ∷ rs))) g in
      let b = op_binary op.AndAnd mid sign.0 in
      let l = link_read r true ts mid s goods.0 b in
      let more = all_there q rs next.0 rows.0 rest next.2 rows.2 goods.1 e in
      let one = more.0 in
      let read : further mid ≡ Some ((q, one.0), rows.0) = rw sign.1 one.2 in
      let less = text_shorter (codes "&&") refl mid next.0 sign in
      let turn : NodeTurn begins_link further depth q mid rows.0 = (
        one.0,
        one.1,
        (
          eq-eqb (strength mid) 4 (op_strength mid op.AndAnd b),
          read,
          omega (arith, less, shorter (told q).form depth next.0 rows.0 next.2),
        ),
      ) in
      (l.0, l.1, (rows.0, turn, more.2))

  links_made : (c : Condition) (r : ReadLink) (rs : List ReadLink) (n : ℕ) (ys : List (ReadLink × ℕ)) (ts mid rest : Tokens)
      → begins_dots ts ≡ false → one_link within ts ≡ Some ((r, n), mid) → further_links within mid ≡ Some (ys, rest) → nodes ys ≡ rs
      → list_any is_let (r ∷ rs) ≡ true → map linked (r ∷ rs) ≡ c.links → condition_by within ts ≡ Some ((c, max n (deepest ys)), rest)
  unfolding condition_by condition_of
  links_made c r rs n ys ts mid rest d h f e l same =
      let one : any_let (r, n) ys ≡ true = rw e l in
      let links : map linked (r ∷ nodes ys) ≡ c.links = rw e same in
      rw (d, h, f, one, links) refl

  -- links with a `let` among them
  links_read : (c : Condition) (r : ReadLink) (rs : List ReadLink) (ts mid rest : Tokens) → map linked (r ∷ rs) ≡ c.links
      → Spells (told r).form depth ts mid → Rows (LinkSpelled depth) rs mid rest → links_good (map told (r ∷ rs)) ≡ true
      → list_any is_let (r ∷ rs) ≡ true → ExprEnds true rest → IsRead depth (condition_by within) c ts rest
  unfolding further_links
  links_read c r rs ts mid rest same s rows g l e =
      let all = all_there r rs ts mid rest s rows g e in
      let one = all.0 in
      let found = nodes_repeat begins_link further depth rs mid rest all.2 (not_at_level 3 rest (omega (arith, e.weak))) in
      (max one.0 (deepest found.0), omega (arith, one.1, found.2), links_made c r rs one.0 found.0 ts mid rest all.1 one.2 found.3 found.1 l same)

  -- ---- the whole

  -- A condition that is spelled before a `{` is read.
  pub condition_read : (c : Condition) (ts rest inside : Tokens) → Spells (about_condition c).form depth ts rest → (about_condition c).good ≡ true
      → IsOne (Opener Brace) (opening Brace ∷ []) rest inside → IsRead depth (condition_by within) c ts rest
  condition_read c ts rest inside s g o =
      let a = all_as_read c.links in
      let is : about_condition c ≡ record { form = condition_form (map told a.0); good = condition_good (map told a.0) } =
      condition_is c ∙ ap (λ (fs : List LinkFacts). let F : ConditionFacts = record { form = condition_form fs; good = condition_good fs } in F) a.2 in
      let spelled = subst (λ (F : ConditionFacts). Spells F.form depth ts rest) is s in
      let good = subst (λ (F : ConditionFacts). F.good ≡ true) is g in
      by a.0 a.1 spelled good (brace_ends_expr rest inside o)
    where
      by : (rs : List ReadLink) → map linked rs ≡ c.links → Spells (condition_form (map told rs)) depth ts rest → condition_good (map told rs) ≡ true
          → ExprEnds true rest → IsRead depth (condition_by within) c ts rest
      by [] same t h e = absurd (cc)
      by ((None, x) ∷ []) same t h e =
          let r = reads.conditions x ts rest t h (ends_follow (about_expr x) (plain 0 true) rest e) in
          (r.0, r.1, r.2 ∙ ap (λ (ls : List Link). Some ((record { links = ls }, r.0), rest)) same)
      by ((Some pat, x) ∷ []) same t h e = links_read c (Some pat, x) [] ts rest rest same t refl h refl e
      by (r ∷ q ∷ rs) same t h e =
          let goods = and_parts (has_let (map told (r ∷ q ∷ rs))) (links_good (map told (r ∷ q ∷ rs))) h in
          let parts = t.1 in
          let links = subst (λ us. Spells (links_form (map told (q ∷ rs))) depth parts.0 us) t.2 parts.2 in
          links_read c r (q ∷ rs) ts parts.0 rest same parts.1 (links_spelled depth (q ∷ rs) parts.0 rest links) goods.1
          (let_told (r ∷ q ∷ rs) ∙ goods.0) e
