-- Bodies of closures: what is left of one that is read, without the braces that the syntax tree
-- doesn't hold, stands there within this many pairs of them; and what stands there is read as that
-- many blocks, which are taken off again.
use Rattle.std.proofs.Common.{◌≡◌, ℕ, zero, suc, ◌+◌, ◌-◌, ◌≤◌, ◌<◌, nat_le, Bool, true, false, not, ◌&&◌, ◌||◌, length, [], inl, inr, None, if◌then◌else◌, refl, sym, ap, subst, ◌∙◌, arith, le-leb}
use Rattle.std.proofs.lemmas.Bool.{and_from, and_parts, eq-eqb, not-true}
use Rattle.lay_form.specs.BracedEnds.{EndsBraced}
use Rattle.lay_form.specs.Form.{Bare, Braces, Unseen, Marked, Nothing, Form, Done, Body}
use Rattle.lay_form.specs.Spelled.{Braced, MayBrace, Spells, cost}
use Rattle.lay_form.proofs.BracedEnds.{spelled}
use Rattle.lay_form.proofs.FormLaws.{closes_end}
use Rattle.lay_node.specs.Ahead.{Tokens}
use Rattle.lay_node.proofs.Fronts.{end_shorter}
use Rattle.lay_code.specs.Operators.{strength}
use Rattle.lay_code.specs.nodes.Bodies.{BlockBody, BodyKind, MacroBody, OtherBody, braces_of, is_lone_body, is_macro, sheds}
use Rattle.lay_code.specs.nodes.Code.{about_expr}
use Rattle.lay_code.specs.nodes.Exprs.{ExprFacts, Followed, body_braces, closure_body, follows, placed}
use Rattle.lay_code.specs.nodes.Places.{plain, statement}
use Rattle.lay_code.specs.reader.Blocks.{body_need, undressed}
use Rattle.lay_code.specs.reader.Exprs.{shed}
use Rattle.lay_code.specs.declared.blocks.Stmt.TheViews as views
use Rattle.lay_code.specs.declared.exprs.Expr.{Expr}
use Rattle.lay_code.proofs.nodes.BodyLaws.{body_law, place_law}
use Rattle.lay_code.proofs.reader.ArmsSoundBodies.{undressed_strips}
use Rattle.lay_code.proofs.reader.Dressed.{Strips, about_alone, alone, alone_block, alone_facts, any_pair, braced_no_macro, dress, dressed, dressed_no_macro, dressed_placed, fewer_bare, no_pair, opens_take, strip_dressed, stripped}
use Rattle.lay_code.proofs.reader.Followed.{Ended, SpelledBefore, ended_of, followed, level_of, weak_root}

-- ---- turns

-- The braces of a body go where its expression may stand in its place.
pub lone_sheds : (no_struct : Bool) (kind : BodyKind) → sheds kind no_struct ≡ true → is_lone_body kind ≡ true
lone_sheds no_struct (BlockBody lone structless) h = (and_parts lone (not no_struct || structless) h).0
lone_sheds no_struct MacroBody h = absurd (cc h)
lone_sheds no_struct OtherBody h = absurd (cc h)

pub shed_other : (no_struct : Bool) (n : ℕ) (x : Expr) → sheds (about_expr x).kind no_struct ≡ false → shed no_struct n x ≡ x
unfolding shed
shed_other no_struct zero x h = refl
shed_other no_struct (suc n) x h = rw h refl

pub shed_alone : (no_struct : Bool) (n : ℕ) (y : Expr) → sheds (about_expr (alone y)).kind no_struct ≡ true
    → shed no_struct (suc n) (alone y) ≡ shed no_struct n y
unfolding shed
shed_alone no_struct n y h = rw (h, views.outs-Block None (alone_block y), views.outs-Stmt::Expr [] y false) refl

pub shed_strips : (no_struct : Bool) → Strips (λ kind. sheds kind no_struct) (shed no_struct)
unfolding shed
shed_strips no_struct =
    record { lone = lone_sheds no_struct; none = λ x. refl; other = shed_other no_struct; one = shed_alone no_struct }

-- As many turns as leave no pair round the body of an arm leave none that goes round that of a closure.
pub shed_bare : (no_struct : Bool) (n : ℕ) (x : Expr) → is_lone_body (about_expr (undressed n x)).kind ≡ false
    → sheds (about_expr (shed no_struct n x)).kind no_struct ≡ false
shed_bare no_struct =
    fewer_bare is_lone_body undressed undressed_strips (λ kind. sheds kind no_struct) (shed no_struct) (shed_strips no_struct) (lone_sheds no_struct)

-- ---- a block of one expression as the body of a closure

and_true : (b : Bool) → (b && true) ≡ b
and_true true = refl
and_true false = refl

sheds_alone : (no_struct : Bool) (y : Expr)
    → sheds (about_expr (alone y)).kind no_struct ≡ (not (is_macro (about_expr y).kind) && (not no_struct || (about_expr y).structless))
sheds_alone no_struct y =
    ap (λ (F : ExprFacts). sheds F.kind no_struct) (about_alone y)
    ∙ ap (λ b. not (is_macro (about_expr y).kind) && (not no_struct || b)) (and_true (about_expr y).structless)

-- It stands there where its expression may be a statement.
facts_placed : (no_struct : Bool) (y : Expr) → placed (alone_facts y) (plain 0 no_struct) ≡ placed (about_expr y) statement
facts_placed true y = refl
facts_placed false y = refl

alone_placed : (no_struct : Bool) (y : Expr) → placed (about_expr (alone y)) (plain 0 no_struct) ≡ placed (about_expr y) statement
alone_placed no_struct y = ap (λ (F : ExprFacts). placed F (plain 0 no_struct)) (about_alone y) ∙ facts_placed no_struct y

-- No operator goes on with it, and anything else may follow it.
facts_follow : (no_struct : Bool) (y : Expr) (ts : Tokens) → follows (alone_facts y) (plain 0 no_struct) ts ≡ (nat_le (strength ts) 0 && true)
facts_follow no_struct y ts = refl

alone_follows : (no_struct : Bool) (y : Expr) (ts : Tokens) → strength ts ≡ 0 → follows (about_expr (alone y)) (plain 0 no_struct) ts ≡ true
alone_follows no_struct y ts h =
    let weak : nat_le (strength ts) 0 ≡ true = le-leb (strength ts) 0 (omega (arith, h)) in
    ap (λ (F : ExprFacts). follows F (plain 0 no_struct) ts) (about_alone y) ∙ facts_follow no_struct y ts ∙ and_from (nat_le (strength ts) 0) true weak refl

-- ---- its form

-- Whatever its braces are, it is spelled as a body with nothing after it, and ends as one.
body_spelled : (b : Braces) (f : Form) (depth : ℕ) (ts rest : Tokens) → Spells (Body b Nothing f Done) depth ts rest → Spells (closure_body b f) depth ts rest
body_spelled Bare f depth ts rest s = s
body_spelled Unseen f depth ts rest s = s
body_spelled Marked f depth ts rest s = s

body_parts : (b : Braces) (f : Form) (depth : ℕ) (ts rest : Tokens) → Spells (closure_body b f) depth ts rest → Spells (Body b Nothing f Done) depth ts rest
body_parts Bare f depth ts rest s = s
body_parts Unseen f depth ts rest s = s
body_parts Marked f depth ts rest s = s

body_ends : (b : Braces) (f : Form) (depth : ℕ) (ts rest : Tokens) → EndsBraced (Body b Nothing f Done) depth ts rest
    → EndsBraced (closure_body b f) depth ts rest
body_ends Bare f depth ts rest s = s
body_ends Unseen f depth ts rest s = s
body_ends Marked f depth ts rest s = s

end_parts : (b : Braces) (f : Form) (depth : ℕ) (ts rest : Tokens) → EndsBraced (closure_body b f) depth ts rest
    → EndsBraced (Body b Nothing f Done) depth ts rest
end_parts Bare f depth ts rest s = s
end_parts Unseen f depth ts rest s = s
end_parts Marked f depth ts rest s = s

abbrev pub body_form : Expr → Form
body_form y = closure_body (body_braces (about_expr y)) (about_expr y).form

-- Pairs stand round what may be a statement and is no macro call, and round nothing else.
may_pairs : (whole : Bool) (kind : BodyKind) (k : ℕ) → whole ≡ true → is_macro kind ≡ false → MayBrace (if whole then braces_of kind else Bare) k
may_pairs true kind k e h = any_pair kind k h
may_pairs false kind k e h = absurd (cc e)

pairs_may : (whole : Bool) (kind : BodyKind) (k : ℕ) → MayBrace (if whole then braces_of kind else Bare) k → 1 ≤ k
    → (whole ≡ true) × (is_macro kind ≡ false)
pairs_may true kind k b le = (refl, braced_no_macro k kind b le)
pairs_may false kind k b le = absurd (omega (arith, b, le))

cost_is : (k : ℕ) → 1 ≤ k → cost k ≡ k
cost_is zero le = absurd (omega (arith, le))
cost_is (suc k) le = refl

-- Something stands there as the body of a closure, at this depth, and what follows it may follow it; no operator does.
pub record BodyStands (no_struct : Bool) (y : Expr) (depth : ℕ) (ts rest : Tokens) : Type 0 where
  pub before : SpelledBefore (about_expr y).tail (body_form y) no_struct depth ts rest
  pub stands : placed (about_expr y) (plain 0 no_struct) ≡ true
  pub bare : sheds (about_expr y).kind no_struct ≡ false
  pub weak : strength rest ≡ 0

-- ---- what is read stands there

module _ (no_struct : Bool) where
  -- What stands within blocks as a body may be a statement.
  whole_of : (k : ℕ) (y : Expr) → 1 ≤ k → placed (about_expr (dress k y)) (plain 0 no_struct) ≡ true → placed (about_expr y) statement ≡ true
  whole_of zero y le w = absurd (omega (arith, le))
  whole_of (suc k) y le w = sym (dressed_placed k y) ∙ (sym (alone_placed no_struct (dress k y)) ∙ w)

  none_follows : (x : ExprFacts) (depth : ℕ) (ts rest : Tokens) → Followed x (plain 0 no_struct) depth ts rest → strength rest ≡ 0
  none_follows x depth ts rest f = omega (arith, level_of x (plain 0 no_struct) depth ts rest refl f)

  -- what has no pair
  bare_before : (x : ExprFacts) (m : ℕ) (ts rest : Tokens) → SpelledBefore x.tail x.form no_struct m ts rest
      → SpelledBefore x.tail (closure_body (body_braces x) x.form) no_struct (suc m) ts rest
  bare_before x m ts rest (s, e) =
      let b = body_braces x in
      let same : m ≡ suc m - 1 = omega arith in
      let there = subst (λ d. Spells x.form d ts rest) same s in (
        body_spelled b x.form (suc m) ts rest (0, no_pair b, omega arith, (rest, (ts, refl, (rest, there, refl)), (rest, refl, refl))),
        by e,
      )
    where
      by : Ended x.tail x.form no_struct m ts rest → Ended x.tail (closure_body (body_braces x) x.form) no_struct (suc m) ts rest
      by (inl h) = inl h
      by (inr h) =
          let b = body_braces x in
          let same : m ≡ suc m - 1 = omega arith in
          let ends = subst (λ d. EndsBraced x.form d ts rest) same h.0 in
          inr (body_ends b x.form (suc m) ts rest (0, no_pair b, omega arith, inr (inr (refl, ends, refl, refl))), h.1)

  -- What is read, with its pairs as blocks, stands there without them at the depth that it needs.
  pub body_stands : (n m : ℕ) (x : Expr) (ts rest : Tokens) → length ts ≤ n → Spells (about_expr x).form m ts rest
      → placed (about_expr x) (plain 0 no_struct) ≡ true → Followed (about_expr x) (plain 0 no_struct) m ts rest
      → BodyStands no_struct (shed no_struct n x) (body_need (sheds (about_expr x).kind no_struct) m) ts rest
  body_stands n m x ts rest le s w f = by (sheds (about_expr x).kind no_struct) refl
    where
      by : (b : Bool) → sheds (about_expr x).kind no_struct ≡ b → BodyStands no_struct (shed no_struct n x) (body_need b m) ts rest
      by false h =
          let told = about_expr x in
          let found : BodyStands no_struct x (suc m) ts rest = record {
            before = bare_before told m ts rest (s, ended_of told (plain 0 no_struct) m ts rest f);
            stands = w;
            bare = h;
            weak = none_follows told m ts rest f;
          } in
          subst (λ y. BodyStands no_struct y (suc m) ts rest) (sym (shed_other no_struct n x h)) found
      by true h =
          let y = shed no_struct n x in
          let told = about_expr y in
          let b = body_braces told in
          let p = stripped (λ kind. sheds kind no_struct) (shed no_struct) (shed_strips no_struct) n m x ts rest le s in
          let k = p.pairs in
          let one = p.some h in
          let whole = whole_of k y one (subst (λ z. placed (about_expr z) (plain 0 no_struct) ≡ true) p.around w) in
          let fits = and_parts (not (is_macro told.kind)) (not no_struct || told.structless) (sym (sheds_alone no_struct y) ∙ p.inner one) in
          let stands = sym (place_law y no_struct whole) ∙ fits.1 in
          let may : MayBrace b k = may_pairs (told.starts && told.tight) told.kind k (body_law y no_struct stands ∙ whole) (not-true (is_macro told.kind) fits.0) in
          let c = cost_is k one in
          let cheap : cost k ≤ m = omega (arith, c, p.le) in
          let form = subst (λ d. Spells told.form (m - d) p.at p.end) (sym c) p.form in
          let braced : Braced k (Spells told.form (m - cost k)) ts rest = (p.at, p.opens, (p.end, form, p.closes)) in
          let none = none_follows (about_expr x) m ts rest f in
          record {
            before = (
              body_spelled b told.form m ts rest (k, may, cheap, (rest, braced, (rest, refl, refl))),
              inr (body_ends b told.form m ts rest (k, may, cheap, inr (inl (one, braced, refl, refl))), eq-eqb (strength rest) 0 none),
            );
            stands = stands;
            bare = p.bare;
            weak = none;
          }

-- It takes a token at least, as what stands within its braces does.
pub body_takes : (y : Expr) → ((depth : ℕ) (ts rest : Tokens) → Spells (about_expr y).form depth ts rest → length rest < length ts)
    → (depth : ℕ) (ts rest : Tokens) → Spells (body_form y) depth ts rest → length rest < length ts
body_takes y less depth ts rest s =
    let told = about_expr y in
    let b = body_parts (body_braces told) told.form depth ts rest s in
    let inner = b.3 in
    let braced = inner.1 in
    let end : inner.0 ≡ rest = inner.2.1 ∙ inner.2.2 in
    omega (
      arith,
      opens_take b.0 ts braced.0 braced.1,
      less (depth - cost b.0) braced.0 braced.2.0 braced.2.1,
      end_shorter braced.2.0 inner.0 (closes_end b.0 braced.2.0 inner.0 braced.2.2),
      ap length end,
    )

-- ---- what stands there is read

-- It is spelled as an expression, with its pairs as blocks, of which it is left when they are taken off.
pub record BodyDressed (no_struct : Bool) (y : Expr) (depth : ℕ) (ts rest : Tokens) : Type 0 where
  pub whole : Expr
  pub least : ℕ
  pub le : least ≤ depth
  pub form : Spells (about_expr whole).form least ts rest
  pub stands : placed (about_expr whole) (plain 0 no_struct) ≡ true
  pub follows : Followed (about_expr whole) (plain 0 no_struct) least ts rest
  pub bare : shed no_struct (length ts) whole ≡ y
  pub need : (n : ℕ) → n ≤ least → body_need (sheds (about_expr whole).kind no_struct) n ≤ depth

module _ (no_struct : Bool) (y : Expr) (stands : placed (about_expr y) (plain 0 no_struct) ≡ true)
    (bare : sheds (about_expr y).kind no_struct ≡ false) where
  -- Within blocks it may stand there, where it may be a statement.
  dress_stands : (k : ℕ) → (1 ≤ k → placed (about_expr y) statement ≡ true) → placed (about_expr (dress k y)) (plain 0 no_struct) ≡ true
  dress_stands zero whole = stands
  dress_stands (suc k) whole = alone_placed no_struct (dress k y) ∙ (dressed_placed k y ∙ whole (omega arith))

  -- So each of the blocks goes, unless it is a macro call.
  dress_sheds : (k : ℕ) → placed (about_expr y) statement ≡ true → is_macro (about_expr y).kind ≡ false
      → sheds (about_expr (alone (dress k y))).kind no_struct ≡ true
  dress_sheds k whole macro =
      let told = about_expr (dress k y) in
      let fits = place_law (dress k y) no_struct (dressed_placed k y ∙ whole) ∙ dress_stands k (λ le. whole) in
      sheds_alone no_struct (dress k y)
      ∙ and_from (not (is_macro told.kind)) (not no_struct || told.structless) (ap not (dressed_no_macro k y macro)) fits

  within_blocks : (depth k : ℕ) (ts rest : Tokens) → MayBrace (body_braces (about_expr y)) k → cost k ≤ depth
      → Braced k (Spells (about_expr y).form (depth - cost k)) ts rest → strength rest ≡ 0
      → (k ≡ 0 → Ended (about_expr y).tail (about_expr y).form no_struct (depth - 1) ts rest) → BodyDressed no_struct y depth ts rest
  within_blocks depth k ts rest may cheap braced weak behind =
      record {
        whole = dress k y;
        least = depth - cost k + k;
        le = bound k cheap;
        form = dressed k (depth - cost k) y ts braced.0 braced.2.0 rest braced.1 braced.2.1 braced.2.2;
        stands = dress_stands k (λ le. (whole le).0);
        follows = follows_by k behind;
        bare = strip_dressed (λ kind. sheds kind no_struct) (shed no_struct) (shed_strips no_struct) k (length ts) y
            (omega (arith, opens_take k ts braced.0 braced.1)) bare
            (λ j l. let p = whole (omega (arith, l)) in dress_sheds j p.0 p.1);
        need = need_by k cheap whole;
      }
    where
      bound : (k : ℕ) → cost k ≤ depth → depth - cost k + k ≤ depth
      bound zero c = omega (arith, c)
      bound (suc k) c = omega (arith, c)

      whole : 1 ≤ k → (placed (about_expr y) statement ≡ true) × (is_macro (about_expr y).kind ≡ false)
      whole le =
          let told = about_expr y in
          let p = pairs_may (told.starts && told.tight) told.kind k may le in (sym (body_law y no_struct stands) ∙ p.0, p.1)

      follows_by : (k : ℕ) → (k ≡ 0 → Ended (about_expr y).tail (about_expr y).form no_struct (depth - 1) ts rest)
          → Followed (about_expr (dress k y)) (plain 0 no_struct) (depth - cost k + k) ts rest
      follows_by zero f =
          let told = about_expr y in
          let place = plain 0 no_struct in
          let same : depth - 1 ≡ depth - 1 + 0 = omega arith in
          subst (λ d. Followed told place d ts rest) same (followed told place (depth - 1) ts rest (weak_root told place rest weak) (f refl))
      follows_by (suc k) f = inl (alone_follows no_struct (dress k y) rest weak)

      need_by : (k : ℕ) → cost k ≤ depth → (1 ≤ k → (placed (about_expr y) statement ≡ true) × (is_macro (about_expr y).kind ≡ false))
          → (n : ℕ) → n ≤ depth - cost k + k → body_need (sheds (about_expr (dress k y)).kind no_struct) n ≤ depth
      need_by zero c whole n le = rw bare (omega (arith, c, le))
      need_by (suc k) c whole n le = let p = whole (omega arith) in rw (dress_sheds k p.0 p.1) (omega (arith, c, le))

  -- What stands there is spelled so.
  pub body_dressed : (depth : ℕ) (ts rest : Tokens) → SpelledBefore (about_expr y).tail (body_form y) no_struct depth ts rest
      → strength rest ≡ 0 → BodyDressed no_struct y depth ts rest
  body_dressed depth ts rest (s, inl tail) weak =
      let told = about_expr y in
      let b = body_parts (body_braces told) told.form depth ts rest s in
      let inner = b.3 in
      let end : inner.0 ≡ rest = inner.2.1 ∙ inner.2.2 in
      let braced = subst (λ us. Braced b.0 (Spells told.form (depth - cost b.0)) ts us) end inner.1 in
      within_blocks depth b.0 ts rest b.1 b.2 braced weak (λ e. inl tail)
  body_dressed depth ts rest (s, inr ends) weak =
      by (end_parts (body_braces (about_expr y)) (about_expr y).form depth ts rest ends.0)
    where
      by : EndsBraced (Body (body_braces (about_expr y)) Nothing (about_expr y).form Done) depth ts rest → BodyDressed no_struct y depth ts rest
      by (k, may, le, inl t) = absurd t.2.2
      by (k, may, le, inr (inl t)) = within_blocks depth k ts rest may le t.1 weak (λ e. absurd (omega (arith, e, t.0)))
      by (k, may, le, inr (inr t)) =
          let told = about_expr y in
          let one : cost 0 ≤ depth = subst (λ n. cost n ≤ depth) t.0 le in
          let inner = spelled told.form (depth - 1) ts rest t.1 in
          within_blocks depth 0 ts rest (no_pair (body_braces told)) one (ts, refl, (rest, inner, refl)) weak (λ e. inr (t.1, ends.1))
