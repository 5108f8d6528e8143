-- The facts about an expression that passes, and that it passes in each place where it may stand.
use Rattle.std.proofs.Common.{◌≡◌, ℕ, nat_le, List, [], ◌∷◌, Bool, true, false, not, ◌&&◌, ◌||◌, refl}
use Rattle.std.specs.List.{list_all}
use Rattle.std.proofs.lemmas.Bool.{and_parts}
use Rattle.lay_piece.specs.declared.kind.Delim.TheVariants.{Paren}
use Rattle.lay_form.specs.Form.{opener, closer}
use Rattle.lay_form.specs.Pieces.{are_pieces}
use Rattle.lay_code.specs.nodes.Exprs.{is_open, ExprFacts, stands, placed, expr_forms, all_free, args_form}
use Rattle.lay_code.specs.nodes.Places as place
use Rattle.lay_code.specs.nodes.Places.{FREE, before_op}
use Rattle.lay_code.specs.declared.exprs.Place.{Place}
use Rattle.lay_reparse.proofs.borders.Border.{Border}
use Rattle.lay_reparse.proofs.forms.Passes.{plain}
use Rattle.lay_reparse.proofs.forms.Rules.{tables, From, All, wider, list_fits, list}
use Rattle.lay_reparse.proofs.file.Nodes.{list_pieces}
use Rattle.lay_reparse.proofs.file.TypeArgs.{Each}
use Rattle.lay_reparse.proofs.file.ExprParts.{ends_base, ends_operand, ends_expr, ends_by, ends_any, ends_shut, Behind, in_both, behind_wider, begins_at, higher, any_begins, begins_plain}

-- ---- the facts about an expression

-- where it ends
abbrev pub ends_of : ExprFacts → Border
ends_of x = ends_by x.tail.bare (nat_le 14 x.level && not x.is_number)

-- It passes from each border where an expression of its level may begin, if all within it stands in its places.
pub record ExprPasses (x : ExprFacts) : Type 0 where
  pub go : (v : Bool) (b : Border) → begins_at v x.level b ≡ true → (no_struct first : Bool)
      → x.within no_struct first ≡ true → are_pieces x.form ≡ true → Behind v b x.form (ends_of x)

-- ---- in its place

-- what a place says of the expression that stands in it
pub record IsPlaced (x : ExprFacts) (p : Place) : Type 0 where
  pub level : nat_le p.level x.level ≡ true
  pub shut : not (p.op_after && is_open x.tail) ≡ true
  pub inside : x.within p.no_struct (place.begins p.start) ≡ true

pub is_placed : (x : ExprFacts) (p : Place) → placed x p ≡ true → IsPlaced x p
is_placed x p g =
    let q = and_parts (stands x p) _ g in
    let q1 = and_parts _ (not (p.no_struct && x.is_struct)) q.0 in
    let q2 = and_parts _ (not (place.is_part p.start && x.block_like)) q1.0 in
    let q3 = and_parts (nat_le p.level x.level && not (p.op_after && is_open x.tail)) _ q2.0 in
    let q4 = and_parts (nat_le p.level x.level) _ q3.0 in
    record { level = q4.0; shut = q4.1; inside = q.1 }

-- It passes where an expression of the place's level may begin.
pub stands_at : (x : ExprFacts) → ExprPasses x → (p : Place) → placed x p ≡ true → are_pieces x.form ≡ true → (v : Bool)
    (b : Border) → begins_at v p.level b ≡ true → Behind v b x.form (ends_of x)
stands_at x k p g w v b h =
    let q = is_placed x p g in
    k.go v b (higher v b p.level x.level q.level h) p.no_struct (place.begins p.start) q.inside w

-- what an operator may follow lacks no operand
no_bare : (takes_all bare closure : Bool) → not (takes_all || bare || closure) ≡ true → bare ≡ false
no_bare true bare closure h = cc
no_bare false true closure h = cc
no_bare false false closure h = refl

-- Before an operator it lacks no operand.
pub is_whole_before : (x : ExprFacts) (level : ℕ) (no_struct first angle : Bool)
    → placed x (before_op level no_struct first angle) ≡ true → x.tail.bare ≡ false
is_whole_before x level no_struct first angle g =
    no_bare x.tail.takes_all x.tail.bare x.tail.closure (is_placed x (before_op level no_struct first angle) g).shut

-- So it ends as an operand does.
pub operand_at : (x : ExprFacts) → ExprPasses x → (level : ℕ) (no_struct first angle : Bool)
    → placed x (before_op level no_struct first angle) ≡ true → are_pieces x.form ≡ true → (v : Bool) (b : Border)
    → begins_at v level b ≡ true → Behind v b x.form ends_operand
operand_at x k level no_struct first angle g w v b h =
    behind_wider (ends_shut x.tail.bare _ (is_whole_before x level no_struct first angle g))
    (stands_at x k (before_op level no_struct first angle) g w v b h)

-- where nothing is asked
pub inner_expr : (x : ExprFacts) → ExprPasses x → (p : Place) → placed x p ≡ true → are_pieces x.form ≡ true
    → From plain x.form (ends_of x)
inner_expr x k p g w = in_both (λ v. stands_at x k p g w v plain (any_begins v plain p.level begins_plain))

-- the same before an operator
pub inner_operand : (x : ExprFacts) → ExprPasses x → (level : ℕ) (no_struct first angle : Bool)
    → placed x (before_op level no_struct first angle) ≡ true → are_pieces x.form ≡ true
    → From plain x.form ends_operand
inner_operand x k level no_struct first angle g w =
    in_both (λ v. operand_at x k level no_struct first angle g w v plain (any_begins v plain level begins_plain))

-- where anything may stand
pub free_expr : (x : ExprFacts) → ExprPasses x → placed x FREE ≡ true → are_pieces x.form ≡ true
    → From plain x.form ends_expr
free_expr x k g w = wider (ends_any x.tail.bare _) (inner_expr x k FREE g w)

-- each of a list
pub frees_pass : (xs : List ExprFacts) → Each ExprPasses xs → all_free xs ≡ true
    → list_all are_pieces (expr_forms xs) ≡ true → All plain (expr_forms xs) ends_expr
frees_pass [] k g w = tt
frees_pass (x ∷ xs) k g w =
    let n = and_parts (placed x FREE) _ g in
    let p = and_parts (are_pieces x.form) _ w in
    (free_expr x k.0 n.0 p.0, frees_pass xs k.1 n.1 p.1)

args_fit : list_fits true (opener Paren) (closer Paren) ends_operand plain ends_expr ends_base ≡ true
unfolding tables
args_fit = refl

-- arguments after what is called
pub args_passes : (xs : List ExprFacts) → Each ExprPasses xs → all_free xs ≡ true → are_pieces (args_form xs) ≡ true
    → From ends_operand (args_form xs) ends_base
args_passes xs k g w =
    list true (opener Paren) (closer Paren) (expr_forms xs) plain ends_expr args_fit
    (frees_pass xs k g (list_pieces true (opener Paren) (closer Paren) (expr_forms xs) w))
