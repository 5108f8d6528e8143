-- Bodies of arms: what is read of one, without the braces that the syntax tree doesn't hold, stands
-- there within this many pairs.
use Rattle.std.proofs.Common.{◌≡◌, ℕ, zero, suc, ◌-◌, ◌≤◌, true, false, [], length, None, refl, sym, subst, ◌∙◌, arith}
use Rattle.lay_form.specs.Spelled.{Closes, MayBrace, Opens, Spells}
use Rattle.lay_node.specs.Ahead.{Tokens}
use Rattle.lay_code.specs.nodes.Bodies.{braces_of, is_lone_body}
use Rattle.lay_code.specs.nodes.Code.{about_expr}
use Rattle.lay_code.specs.nodes.Exprs.{placed}
use Rattle.lay_code.specs.nodes.Places.{statement}
use Rattle.lay_code.specs.reader.Blocks.{undressed}
use Rattle.lay_code.specs.declared.blocks.Stmt.TheViews as views
use Rattle.lay_code.specs.declared.exprs.Expr.{Expr}
use Rattle.lay_code.proofs.reader.Dressed.{Strips, alone, alone_block, any_pair, dressed_placed, lone_no_macro, no_pair, stripped}

-- ---- turns

pub undressed_other : (n : ℕ) (x : Expr) → is_lone_body (about_expr x).kind ≡ false → undressed n x ≡ x
unfolding undressed
undressed_other zero x h = refl
undressed_other (suc n) x h = rw h refl

pub undressed_alone : (n : ℕ) (y : Expr) → is_lone_body (about_expr (alone y)).kind ≡ true → undressed (suc n) (alone y) ≡ undressed n y
unfolding undressed
undressed_alone n y h = rw (h, views.outs-Block None (alone_block y), views.outs-Stmt::Expr [] y false) refl

pub undressed_strips : Strips is_lone_body undressed
unfolding undressed
undressed_strips = record { lone = λ kind h. h; none = λ x. refl; other = undressed_other; one = undressed_alone }

-- ---- what is read stands there

-- What is left of a body without its braces stands within this many pairs of them.
pub record Peeled (x y : Expr) (m : ℕ) (ts mid : Tokens) : Type 0 where
  pub pairs : ℕ
  pub le : pairs ≤ m
  pub at : Tokens
  pub end : Tokens
  pub opens : Opens pairs ts at
  pub form : Spells (about_expr y).form (m - pairs) at end
  pub closes : Closes pairs end mid
  pub stands : placed (about_expr y) statement ≡ true
  pub bare : is_lone_body (about_expr y).kind ≡ false
  pub may : MayBrace (braces_of (about_expr y).kind) pairs
  pub some : is_lone_body (about_expr x).kind ≡ true → 1 ≤ pairs
  pub none : is_lone_body (about_expr x).kind ≡ false → (pairs ≡ 0) × (y ≡ x)

-- As many turns as there are tokens take off all braces.
pub peel : (n m : ℕ) (x : Expr) (ts mid : Tokens) → length ts ≤ n → Spells (about_expr x).form m ts mid
    → placed (about_expr x) statement ≡ true → Peeled x (undressed n x) m ts mid
peel n m x ts mid le s w =
    let y = undressed n x in
    let p = stripped is_lone_body undressed undressed_strips n m x ts mid le s in
    record {
      pairs = p.pairs;
      le = p.le;
      at = p.at;
      end = p.end;
      opens = p.opens;
      form = p.form;
      closes = p.closes;
      stands = sym (dressed_placed p.pairs y) ∙ subst (λ z. placed (about_expr z) statement ≡ true) p.around w;
      bare = p.bare;
      may = may p.pairs y p.inner;
      some = p.some;
      none = p.none;
    }
  where
    -- Such a block isn't dropped round a macro call.
    may : (k : ℕ) (y : Expr) → (1 ≤ k → is_lone_body (about_expr (alone y)).kind ≡ true) → MayBrace (braces_of (about_expr y).kind) k
    may zero y inner = no_pair (braces_of (about_expr y).kind)
    may (suc k) y inner = any_pair (about_expr y).kind (suc k) (lone_no_macro y (inner (omega arith)))
