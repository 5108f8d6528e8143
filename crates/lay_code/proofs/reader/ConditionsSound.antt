-- Conditions: what is parsed stands there, if that holds one level deeper.
use Rattle.std.proofs.Common.{◌≡◌, ℕ, suc, ◌≤◌, max, Bool, true, false, ◌||◌, List, [], ◌∷◌, map, inl, inr, codes, drop, Some, None, refl, sym, ap, subst, ◌∙◌, arith, if◌then◌else◌}
use Rattle.std.specs.List.{list_any}
use Rattle.std.proofs.lemmas.Bool.{and_from, and_parts, eqb-true, or_parts}
use Rattle.lay_token.specs.Operators.{is_op}
use Rattle.lay_form.specs.Form.{Operator, keyword}
use Rattle.lay_form.specs.Spelled.{IsOperator, Spells}
use Rattle.lay_form.proofs.FormLaws.{deeper as raise}
use Rattle.lay_node.specs.Ahead.{Tokens, first, tail, is_keyword}
use Rattle.lay_node.specs.Follow.{begins_dots}
use Rattle.lay_node.specs.nodes.Patterns.{about_pat, pat_form, pat_good}
use Rattle.lay_node.specs.reader.Exact.{InText}
use Rattle.lay_node.specs.reader.Loops.{deepest, nodes}
use Rattle.lay_node.specs.declared.patterns.PatPlace.TheVariants.{Alternatives}
use Rattle.lay_node.proofs.Fronts.{keyword_one}
use Rattle.lay_node.proofs.Parts.{Rows}
use Rattle.lay_node.proofs.Steps.{bind_some, chosen, same_some}
use Rattle.lay_node.proofs.reader.Loops.{SoundStep, repeat_sound}
use Rattle.lay_node.proofs.reader.TypesSoundParts.{Out, bit_texts}
use Rattle.lay_code.specs.Operators.{angle_by, binary, is_angle, op_level, strength}
use Rattle.lay_code.specs.nodes.Code.{about_condition, about_expr, about_link}
use Rattle.lay_code.specs.nodes.CodeFacts.{ConditionFacts, LinkFacts}
use Rattle.lay_code.specs.nodes.Conditions.{condition_facts, condition_form, condition_good, has_let, let_link_form, link_facts, links_form, links_good}
use Rattle.lay_code.specs.nodes.Exprs.{ExprFacts, placed, stands}
use Rattle.lay_code.specs.nodes.Places.{before_op, link_place, plain}
use Rattle.lay_code.specs.reader.Conditions.{ReadLink, alone, any_let, begins_link, chain_of, condition_by, condition_of, further_links, is_let, let_link, link_by, link_ends, linked, one_link}
use Rattle.lay_code.specs.reader.Exprs.{operand_ends}
use Rattle.lay_code.specs.reader.Within.{ExprWithin}
use Rattle.lay_code.specs.declared.blocks.Stmt.TheOpen.{Link-F}
use Rattle.lay_code.specs.declared.conditions.Condition.{Condition}
use Rattle.lay_code.specs.declared.exprs.Expr.{Expr}
use Rattle.lay_code.specs.declared.exprs.Expr.TheVariants as expr
use Rattle.lay_code.specs.declared.operators.Op.{Op}
use Rattle.lay_code.specs.declared.operators.Op.TheVariants as op
use Rattle.lay_code.proofs.nodes.BlocksLaws.{condition_is, link_expr_is, link_let_is}
use Rattle.lay_code.proofs.reader.BlocksSound.{most_within}
use Rattle.lay_code.proofs.reader.ExprSoundLevel.{ExprHeld, LeftHeld, SoundExprWithin, tail_held, within_held}
use Rattle.lay_code.proofs.reader.ExprSoundOperands.{OperandRow, chain_stands}
use Rattle.lay_code.proofs.reader.ExprSoundOperators.{binary_op, goes_op}

-- ---- the facts about a link as it is read

abbrev read_facts : ReadLink → LinkFacts
read_facts (None, x) = link_facts (Link-F.Link::Expr (about_expr x))
read_facts (Some pat, x) = link_facts (Link-F.Link::Let pat (about_expr x))

link_told : (l : ReadLink) → about_link (linked l) ≡ read_facts l
link_told (None, x) = link_expr_is x
link_told (Some pat, x) = link_let_is pat x

links_told : (ls : List ReadLink) → map about_link (map linked ls) ≡ map read_facts ls
links_told [] = refl
links_told (l ∷ ls) = rw (link_told l, links_told ls) refl

let_told : (l : ReadLink) → (read_facts l).is_let ≡ is_let l
let_told (None, x) = refl
let_told (Some pat, x) = refl

lets_told : (ls : List ReadLink) → has_let (map read_facts ls) ≡ list_any is_let ls
lets_told [] = refl
lets_told (l ∷ ls) = rw (let_told l, lets_told ls) refl

-- A `let` link may be a condition by itself where it may be the last.
let_alone : (l : ReadLink) → is_let l ≡ true → (read_facts l).good false ≡ true → (read_facts l).alone ≡ true
let_alone (None, x) h g = absurd (cc h)
let_alone (Some pat, x) h g = g

-- Where its expression may stand before an `&&`, so may the link.
more_placed : (x : ExprFacts) → placed x (link_place false) ≡ true → stands x (link_place true) ≡ true → placed x (link_place true) ≡ true
more_placed x h s = and_from (stands x (link_place true)) (x.within true false) s (within_held x (link_place false) h)

more_good : (l : ReadLink) → (read_facts l).good false ≡ true → stands (about_expr l.1) (link_place true) ≡ true
    → (read_facts l).good true ≡ true
more_good (None, x) h s = more_placed (about_expr x) h s
more_good (Some pat, x) h s =
    let told = about_expr x in
    let good = pat_good Alternatives (about_pat pat) in
    let both = and_parts good (placed told (link_place false)) h in
    and_from good (placed told (link_place true)) both.0 (more_placed told both.1 s)

-- ---- an `&&`

only_and : (o : Op) → op_level o ≡ 3 → o ≡ op.AndAnd
only_and op.AndAnd h = refl
only_and _ h = absurd (cc h)

and_op : (ts : Tokens) → begins_link ts ≡ true → binary ts ≡ Some op.AndAnd
and_op ts h =
    let o = goes_op ts 3 (eqb-true (strength ts) 4 h) (λ e. absurd (cc e)) (λ e. absurd (cc e)) in
    subst (λ p. binary ts ≡ Some p) (only_and o.0 o.2) o.1

and_there : (ts : Tokens) → begins_link ts ≡ true → IsOperator (codes "&&") ts (drop 2 ts)
and_there ts h = (binary_op ts op.AndAnd (and_op ts h), refl)

-- What a further link follows may stand before its `&&`.
ends_stand : (l : ReadLink) (ts : Tokens) → begins_link ts ≡ true → link_ends l ts ≡ true → stands (about_expr l.1) (link_place true) ≡ true
ends_stand l ts b h = by (begins_link ts) b h
  where
    by : (b : Bool) → b ≡ true → (if b then stands (about_expr l.1) (link_place true) else true) ≡ true
        → stands (about_expr l.1) (link_place true) ≡ true
    by true e h = h
    by false e h = absurd (cc e)

ends_before : (l : ReadLink) (ts : Tokens) → begins_link ts ≡ true → link_ends l ts ≡ true
    → stands (about_expr l.1) (before_op 4 true false (is_angle ts)) ≡ true
ends_before l ts b h =
    subst (λ a. stands (about_expr l.1) (before_op 4 true false a) ≡ true) (sym (ap angle_by (and_op ts b))) (ends_stand l ts b h)

operand_ended : (l : ReadLink) (ts : Tokens) → link_ends l ts ≡ true → operand_ends 3 true (about_expr l.1) ts ≡ true
operand_ended l ts h = by (begins_link ts) (λ b. ends_before l ts b h)
  where
    by : (b : Bool) → (b ≡ true → stands (about_expr l.1) (before_op 4 true false (is_angle ts)) ≡ true)
        → (if b then stands (about_expr l.1) (before_op 4 true false (is_angle ts)) else true) ≡ true
    by true f = f refl
    by false f = refl

module _ (budget : ℕ) (within : ExprWithin) (sound : SoundExprWithin budget within) where
  -- ---- links

  -- A link stands there; where no `let` begins it, it is an expression.
  record LinkThere (l : ReadLink × ℕ) (ts rest : Tokens) : Type 0 where
    need : l.1 ≤ budget
    form : Spells (read_facts l.0).form l.1 ts rest
    good : (read_facts l.0).good false ≡ true
    lone : is_let l.0 ≡ false → ExprHeld (plain 4 true) budget (l.0.1, l.1) ts rest

  let_sound : (ts : Tokens) (x : ReadLink × ℕ) (rest : Tokens) → InText ts → first (is_keyword (codes "let")) ts ≡ true
      → let_link within (tail ts) ≡ Some (x, rest) → Out LinkThere ts (x, rest)
  unfolding let_link
  let_sound ts x rest t g h =
      let from = tail ts in
      let p = bind_some (within.pats Alternatives from) _ _ h in
      let e = bind_some (if is_op (codes "=") p.0.1 then within.exprs (plain 4 true) (drop 1 p.0.1) else None) _ _ p.2 in
      let word = keyword_one (codes "let") ts g in
      let ps = sound.pats Alternatives from p.0.0 p.0.1 (bit_texts (keyword (codes "let")) ts from word t) p.1 in
      let value = drop 1 p.0.1 in
      elim (chosen (is_op (codes "=") p.0.1) _ _ _ e.1) [
        | inl f ↦
            let o : IsOperator (codes "=") p.0.1 value = (f.0, refl) in
            let s = sound.exprs (plain 4 true) value e.0.0 e.0.1 (bit_texts (Operator (codes "=")) p.0.1 value o ps.1) f.1 in
            let pat = p.0.0.0 in
            let told = about_expr e.0.0.0 in
            let most = max p.0.0.1 e.0.0.1 in
            let P = pat_form Alternatives (about_pat pat) in
            let form : Spells (let_link_form pat told) most ts e.0.1 = (
              from,
              (from, word, (from, refl, refl)),
              (
                p.0.1,
                raise P p.0.0.1 most from p.0.1 (omega arith) ps.0.1,
                (
                  value,
                  (p.0.1, refl, (value, o, (value, refl, refl))),
                  (e.0.1, raise told.form e.0.0.1 most value e.0.1 (omega arith) s.0.1, refl),
                ),
              ),
            ) in
            let there : LinkThere ((Some pat, e.0.0.0), most) ts e.0.1 = record {
              need = most_within p.0.0.1 e.0.0.1 budget ps.0.0 s.0.0;
              form = form;
              good = and_from (pat_good Alternatives (about_pat pat)) (placed told (plain 4 true)) ps.0.2 s.0.2;
              lone = λ n. absurd (cc n);
            } in
            same_some (Out LinkThere ts) (((Some pat, e.0.0.0), most), e.0.1) (x, rest) e.2 (there, s.1)
        | inr f ↦ absurd (cc f.1)
      ]

  link_sound : SoundStep (link_by within) LinkThere
  link_sound ts x rest t h = elim (chosen (first (is_keyword (codes "let")) ts) _ _ _ h) [
    | inl g ↦ let_sound ts x rest t g.0 g.1
    | inr g ↦
        let e = bind_some (within.exprs (plain 4 true) ts) _ _ g.1 in
        let s = sound.exprs (plain 4 true) ts e.0.0 e.0.1 t e.1 in
        let there : LinkThere ((None, e.0.0.0), e.0.0.1) ts e.0.1 =
        record { need = s.0.0; form = s.0.1; good = s.0.2; lone = λ n. s.0 } in
        same_some (Out LinkThere ts) (((None, e.0.0.0), e.0.0.1), e.0.1) (x, rest) e.2 (there, s.1)
  ]

  -- and it may stand before what follows it
  abbrev LinkHeld : ReadLink × ℕ → Tokens → Tokens → Type 0
  LinkHeld l ts rest = LinkThere l ts rest × (link_ends l.0 rest ≡ true)

  one_sound : SoundStep (one_link within) LinkHeld
  unfolding one_link
  one_sound ts x rest t h =
      let l = bind_some (link_by within ts) _ _ h in
      let s = link_sound ts l.0.0 l.0.1 t l.1 in
      elim (chosen (link_ends l.0.0.0 l.0.1) _ _ _ l.2) [
        | inl g ↦ same_some (Out LinkHeld ts) l.0 (x, rest) g.1 ((s.0, g.0), s.1)
        | inr g ↦ absurd (cc g.1)
      ]

  -- ---- further links

  abbrev LinkRow : ReadLink × ℕ → Tokens → Tokens → Type 0
  LinkRow l ts rest = (begins_link ts ≡ true) × LinkHeld l (drop 2 ts) rest

  row_sound : (ts : Tokens) (x : ReadLink × ℕ) (rest : Tokens) → InText ts → begins_link ts ≡ true
      → one_link within (drop 2 ts) ≡ Some (x, rest) → LinkRow x ts rest × InText rest
  row_sound ts x rest t b h =
      let s = one_sound (drop 2 ts) x rest (bit_texts (Operator (codes "&&")) ts (drop 2 ts) (and_there ts b) t) h in ((b, s.0), s.1)

  further_sound : (ts : Tokens) (xs : List (ReadLink × ℕ)) (rest : Tokens) → InText ts → further_links within ts ≡ Some (xs, rest)
      → Rows LinkRow xs ts rest × InText rest
  unfolding further_links
  further_sound ts xs rest t h =
      let r = repeat_sound begins_link (λ us. one_link within (drop 2 us)) LinkRow row_sound ts xs rest t h in (r.0, r.1)

  links_spelled : (most : ℕ) (xs : List (ReadLink × ℕ)) (ts rest : Tokens) → deepest xs ≤ most → Rows LinkRow xs ts rest
      → Spells (links_form (map read_facts (nodes xs))) most ts rest × (deepest xs ≤ budget)
  links_spelled most [] ts rest le r = (r, omega arith)
  links_spelled most (x ∷ xs) ts rest le r =
      let at = drop 2 ts in
      let more = links_spelled most xs r.0 rest (omega (arith, le)) r.2 in
      let there = r.1.1.0 in (
        (
          at,
          (at, and_there ts r.1.0, (at, refl, refl)),
          (r.0, raise (read_facts x.0).form x.1 most at r.0 (omega (arith, le)) there.form, more.0),
        ),
        most_within x.1 (deepest xs) budget there.need more.1,
      )

  links_stand : (x : ReadLink × ℕ) (xs : List (ReadLink × ℕ)) (ts mid rest : Tokens) → LinkHeld x ts mid → Rows LinkRow xs mid rest
      → links_good (map read_facts (x.0 ∷ nodes xs)) ≡ true
  links_stand x [] ts mid rest h r = h.0.good
  links_stand x (y ∷ xs) ts mid rest h r =
      let next = more_good x.0 h.0.good (ends_stand x.0 mid r.1.0 h.1) in
      and_from ((read_facts x.0).good true) (links_good (map read_facts (y.0 ∷ nodes xs))) next
      (links_stand y xs (drop 2 mid) r.0 rest r.1.1 r.2)

  -- ---- conditions

  abbrev pub ConditionHeld : Condition × ℕ → Tokens → Tokens → Type 0
  ConditionHeld x ts rest =
      (x.1 ≤ budget) × Spells (about_condition x.0).form x.1 ts rest × ((about_condition x.0).good ≡ true)

  -- the condition of links that stand there
  links_held : (ls : List ReadLink) (n : ℕ) (ts rest : Tokens) → n ≤ budget → Spells (condition_form (map read_facts ls)) n ts rest
      → condition_good (map read_facts ls) ≡ true → ConditionHeld (record { links = map linked ls }, n) ts rest
  links_held ls n ts rest le s g =
      let made : Condition = record { links = map linked ls } in
      let told : about_condition made ≡ condition_facts (record { links = map read_facts ls }) =
      condition_is made ∙ ap (λ ks. condition_facts (record { links = ks })) (links_told ls) in
      let P : ConditionFacts → Type 0 = λ F. Spells F.form n ts rest × (F.good ≡ true) in
      let both = subst P (sym told) (s, g) in (le, both.0, both.1)

  alone_held : (x : Expr × ℕ) (ts rest : Tokens) → ExprHeld (plain 0 true) budget x ts rest → ConditionHeld (alone x.0, x.1) ts rest
  alone_held x ts rest s = links_held ((None, x.0) ∷ []) x.1 ts rest s.0 s.1 s.2

  -- with a `let`
  lets_held : (x : ReadLink × ℕ) (xs : List (ReadLink × ℕ)) (ts mid rest : Tokens) → LinkHeld x ts mid → Rows LinkRow xs mid rest
      → any_let x xs ≡ true → ConditionHeld (record { links = map linked (x.0 ∷ nodes xs) }, max x.1 (deepest xs)) ts rest
  lets_held x [] ts mid rest h r b =
      let form = subst (λ us. Spells (read_facts x.0).form x.1 ts us) r h.0.form in
      let one : is_let x.0 ≡ true = sole (is_let x.0) b in
      links_held (x.0 ∷ []) (max x.1 0) ts rest (omega (arith, h.0.need))
      (raise (read_facts x.0).form x.1 (max x.1 0) ts rest (omega arith) form) (let_alone x.0 one h.0.good)
    where
      sole : (b : Bool) → (b || false) ≡ true → b ≡ true
      sole true h = refl
      sole false h = absurd (cc h)
  lets_held x (y ∷ xs) ts mid rest h r b =
      let most = max x.1 (deepest (y ∷ xs)) in
      let all = map read_facts (x.0 ∷ nodes (y ∷ xs)) in
      let more = links_spelled most (y ∷ xs) mid rest (omega arith) r in
      links_held (x.0 ∷ nodes (y ∷ xs)) most ts rest (most_within x.1 (deepest (y ∷ xs)) budget h.0.need more.1)
      (rest, (mid, raise (read_facts x.0).form x.1 most ts mid (omega arith) h.0.form, more.0), refl)
      (and_from (has_let all) (links_good all) (lets_told (x.0 ∷ nodes (y ∷ xs)) ∙ b) (links_stand x (y ∷ xs) ts mid rest h r))

  -- ---- without one

  abbrev operand_of : ReadLink × ℕ → (Op × Expr) × ℕ
  operand_of l = ((op.AndAnd, l.0.1), l.1)

  operand_nodes : (xs : List (ReadLink × ℕ)) → nodes (map operand_of xs) ≡ map (λ (n : ReadLink × ℕ). (op.AndAnd, n.0.1)) xs
  operand_nodes [] = refl
  operand_nodes (x ∷ xs) = ap (λ ops. (op.AndAnd, x.0.1) ∷ ops) (operand_nodes xs)

  operand_needs : (xs : List (ReadLink × ℕ)) → deepest (map operand_of xs) ≡ deepest xs
  operand_needs [] = refl
  operand_needs (x ∷ xs) = ap (λ n. max x.1 n) (operand_needs xs)

  operand_rows : (xs : List (ReadLink × ℕ)) (ts rest : Tokens) → list_any is_let (nodes xs) ≡ false → Rows LinkRow xs ts rest
      → Rows (OperandRow budget within sound 3 true) (map operand_of xs) ts rest
  operand_rows [] ts rest n r = r
  operand_rows (x ∷ xs) ts rest n r =
      let none = or_parts (is_let x.0) (list_any is_let (nodes xs)) n in
      let row : OperandRow budget within sound 3 true (operand_of x) ts r.0 = record {
        strong = eqb-true (strength ts) 4 r.1.0;
        named = and_op ts r.1.0;
        held = r.1.1.0.lone none.0;
        ended = operand_ended x.0 r.0 r.1.1.1;
      } in
      (r.0, row, operand_rows xs r.0 rest none.1 r.2)

  -- They are the first operands of an expression.
  operands_left : (x : ReadLink × ℕ) (xs : List (ReadLink × ℕ)) (ts mid rest : Tokens) → LinkHeld x ts mid → Rows LinkRow xs mid rest
      → any_let x xs ≡ false → LeftHeld true false (chain_of x xs) ts rest
  operands_left x xs ts mid rest h r n =
      let none = or_parts (is_let x.0) (list_any is_let (nodes xs)) n in
      let s = h.0.lone none.0 in
      let told = about_expr x.0.1 in
      let left : LeftHeld true false (x.0.1, x.1) ts mid =
      (s.1, within_held told (plain 4 true) s.2, (tail_held (plain 4 true) budget told x.1 ts mid s).1) in
      by xs none.1 r left
    where
      by : (xs : List (ReadLink × ℕ)) → list_any is_let (nodes xs) ≡ false → Rows LinkRow xs mid rest
          → LeftHeld true false (x.0.1, x.1) ts mid → LeftHeld true false (chain_of x xs) ts rest
      by [] n r left = subst (λ us. LeftHeld true false (x.0.1, x.1) ts us) r left
      by (y ∷ ys) n r left =
          let all = map operand_of (y ∷ ys) in
          let made = chain_stands budget within sound true false 3 refl (x.0.1, x.1) ts mid left (ends_before x.0 mid r.1.0 h.1) all rest
          (operand_rows (y ∷ ys) mid rest n r) refl in
          let named = subst (λ ops. LeftHeld true false (expr.Chain x.0.1 ops, suc (max x.1 (deepest all))) ts rest)
          (operand_nodes (y ∷ ys)) made in
          subst (λ m. LeftHeld true false (expr.Chain x.0.1 (map (λ (n : ReadLink × ℕ). (op.AndAnd, n.0.1)) (y ∷ ys)), suc (max x.1 m)) ts rest)
          (operand_needs (y ∷ ys)) named

  -- ---- all of them

  -- A condition that is read stands there.
  pub condition_sound : SoundStep (condition_by within) ConditionHeld
  unfolding condition_by condition_of
  condition_sound ts x rest t h = elim (chosen (begins_dots ts) _ _ _ h) [
    | inl g ↦
        let e = bind_some (within.exprs (plain 0 true) ts) _ _ g.1 in
        let s = sound.exprs (plain 0 true) ts e.0.0 e.0.1 t e.1 in
        same_some (Out ConditionHeld ts) ((alone e.0.0.0, e.0.0.1), e.0.1) (x, rest) e.2 (alone_held e.0.0 ts e.0.1 s.0, s.1)
    | inr g ↦
        let l = bind_some (one_link within ts) _ _ g.1 in
        let more = bind_some (further_links within l.0.1) _ _ l.2 in
        let s = one_sound ts l.0.0 l.0.1 t l.1 in
        let xs = more.0.0 in
        let mid = more.0.1 in
        let r = further_sound l.0.1 xs mid s.1 more.1 in
        elim (chosen (any_let l.0.0 xs) _ _ _ more.2) [
          | inl f ↦
              same_some (Out ConditionHeld ts) ((record { links = map linked (l.0.0.0 ∷ nodes xs) }, max l.0.0.1 (deepest xs)), mid) (x, rest)
              f.1 (lets_held l.0.0 xs ts l.0.1 mid s.0 r.0 f.0, r.1)
          | inr f ↦
              let e = bind_some (within.goes_on (chain_of l.0.0 xs) mid) _ _ f.1 in
              let left = operands_left l.0.0 xs ts l.0.1 mid s.0 r.0 f.0 in
              let k = sound.goes_on (chain_of l.0.0 xs) ts mid left r.1 e.0.0 e.0.1 e.1 in
              same_some (Out ConditionHeld ts) ((alone e.0.0.0, e.0.0.1), e.0.1) (x, rest) e.2 (alone_held e.0.0 ts e.0.1 k.0, k.1)
        ]
  ]
