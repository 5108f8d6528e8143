-- Parts and bodies with their parentheses or without them, and lists of what nodes become.
use Rattle.std.proofs.Common.{◌≡◌, ℕ, ◌==◌, ◌≤◌, ◌<◌, ◌&&◌, not, Bool, true, false, List, [], ◌∷◌, ◌++◌, map, length, get_or, codes, refl, sym, ap, ◌∙◌}
use Rattle.std.proofs.lemmas.List.{length-map}
use Rattle.lay_layout.specs.declared.layout.Tok.TheVariants as tok
use Rattle.lay_form.specs.Stream.{fed, stream_of}
use Rattle.lay_code.specs.nodes.Code.{about_expr}
use Rattle.lay_code.specs.declared.exprs.Expr.{Expr}
use Rattle.lay_code.specs.declared.exprs.Expr.TheVariants as expr
use Rattle.lay_paren_defs.specs.Enclosed.{body_part, enclose, enclosed, is_bare, part}
use Rattle.lay_paren_defs.proofs.KeptLemmas.{body_enclosed, body_whole}
use Rattle.lay_out_exprs.proofs.ExprLemmas.{paren_expr}

-- ---- parts and bodies

-- a part in parentheses, and as it is
pub enclosed_part : (d q : Bool) (x : Expr) → d ≡ true
    → tok.Text (codes "(") ∷ (stream_of (about_expr (enclose d x)).form ++ (tok.Text (codes ")") ∷ []))
    ≡ fed q (about_expr (part d x)).form []
enclosed_part true q x is = paren_expr q (expr.Paren (enclosed x)) (enclosed x) (enclosed x) refl refl
enclosed_part false q x is = cc

pub bare_part : (d q : Bool) (x : Expr) → d ≡ false
    → fed q (about_expr (enclose d x)).form [] ≡ fed q (about_expr (part d x)).form []
bare_part true q x is = cc
bare_part false q x is = refl

-- a body that is a part, and one that is none
pub enclosed_body : (d : Bool) (x : Expr) → (d && not (is_bare x)) ≡ true
    → stream_of (about_expr (part d x)).form ≡ stream_of (about_expr (body_part d x)).form
enclosed_body d x is = ap (λ (y : Expr). stream_of (about_expr y).form) (sym (body_enclosed d x is))

pub bare_body_told : (d : Bool) (x : Expr) → (d && not (is_bare x)) ≡ false
    → stream_of (about_expr (enclose d x)).form ≡ stream_of (about_expr (body_part d x)).form
bare_body_told d x is = ap (λ (y : Expr). stream_of (about_expr y).form) (sym (body_whole d x is))

-- ---- lists of what nodes become

-- one step after another is both at once
pub map_twice : {A B C : Type 0} (f : B → C) (g : A → B) (xs : List A) → map (λ (x : A). f (g x)) xs ≡ map f (map g xs)
map_twice f g [] = refl
map_twice {A} f g (x ∷ xs) = ap (λ (ys : List _). f (g x) ∷ ys) (map_twice f g xs)

-- They are as many.
pub same_none : {A B : Type 0} (f : A → B) (xs : List A) (none : Bool) → none ≡ (length xs == 0) → none ≡ (length (map f xs) == 0)
same_none f xs none is = is ∙ ap (λ (n : ℕ). n == 0) (sym (length-map xs f))

pub kept_below : {A B : Type 0} (f : A → B) (xs : List A) {n : ℕ} → length xs < n → length (map f xs) < n
kept_below f xs h = rw (length-map xs f) h

pub kept_least : {A B : Type 0} (f : A → B) (xs : List A) {n : ℕ} → n ≤ length xs → n ≤ length (map f xs)
kept_least f xs h = rw (length-map xs f) h

-- the first of them
pub first_kept : {A B : Type 0} (f : A → B) (xs : List A) (x : A) → x ≡ get_or xs 0 x → f x ≡ get_or (map f xs) 0 (f x)
first_kept f [] x is = refl
first_kept f (y ∷ xs) x is = ap f is
