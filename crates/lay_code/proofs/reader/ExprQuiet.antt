-- What ends an expression, whatever it ends in: a comma, a semicolon, what closes a list, and a `{` where no struct literal may
-- stand.
use Rattle.std.proofs.Common.{◌≡◌, ℕ, Bool, true, false, not, ◌&&◌, ◌||◌, List, [], ◌∷◌, codes, Option, Some, None, refl, inl, inr}
use Rattle.std.specs.Prelude.{◌==◌, option_and_then}
use Rattle.std.proofs.lemmas.Bool.{and_from}
use Rattle.lay_piece.specs.Forms.{opening, closing}
use Rattle.lay_piece.specs.declared.kind.Delim.{Delim}
use Rattle.lay_piece.specs.declared.kind.Delim.TheVariants.{Paren, Bracket, Brace}
use Rattle.lay_piece.specs.declared.kind.Kind.TheVariants.{Punct, Opener, Closer}
use Rattle.lay_token.specs.Operators.{op_at, is_op_of, is_op}
use Rattle.lay_form.specs.Spelled.{IsOne}
use Rattle.lay_node.specs.Ahead.{Tokens, first, is_keyword, is_lifetime, opens}
use Rattle.lay_node.specs.Follow.{may_follow, OfRename, OfColons, OfArgs, OfCodeArgs, OfArrow, OfBang}
use Rattle.lay_node.proofs.Follow.{Quiet, quiet_follows, comma_quiet, semicolon_quiet, closer_quiet}
use Rattle.lay_node.proofs.Fronts.{one_front}
use Rattle.lay_node.proofs.reader.HeadParts.{brace_quiet}
use Rattle.lay_node.proofs.reader.Loops as loops
use Rattle.lay_code.specs.Operands.{begins_operand, expr_lead_at}
use Rattle.lay_code.specs.Operators.{all_ops, named, binary, begins_step, strength}
use Rattle.lay_code.specs.declared.exprs.Place.{Place}
use Rattle.lay_code.specs.nodes.Exprs.{Tail, ExprFacts, begins_pointer, tail_follows, follows, root_follows}
use Rattle.lay_code.proofs.reader.ExprLeads.{one_lead, comma_lead, semicolon_lead}
use Rattle.lay_code.proofs.reader.Followed.{weak_root}

-- Nothing goes on with an expression there, nor with what it ends in. The flag says that no struct literal may stand there.
pub record ExprEnds (no_struct : Bool) (ts : Tokens) : Type 0 where
  pub weak : strength ts ≡ 0
  pub operand : begins_operand no_struct ts ≡ false
  pub brace : (not no_struct && first (opens Brace) ts) ≡ false
  pub lifetime : first is_lifetime ts ≡ false
  pub pointer : begins_pointer ts ≡ false
  pub otherwise : first (is_keyword (codes "else")) ts ≡ false
  pub quiet : Quiet ts

-- ---- what may follow what an expression ends in, test by test

pub record TailFits (t : Tail) (no_struct : Bool) (ts : Tokens) : Type 0 where
  pub all : (not t.takes_all || strength ts == 0) ≡ true
  pub bare : not (t.bare && begins_operand no_struct ts) ≡ true
  pub path : not (t.path && (not no_struct && first (opens Brace) ts)) ≡ true
  pub label : not (t.unlabelled && first is_lifetime ts) ≡ true
  pub raw : not (t.raw && begins_pointer ts) ≡ true
  pub otherwise : not (t.lacks_else && first (is_keyword (codes "else")) ts) ≡ true
  pub refuses : may_follow t.refuses ts ≡ true

seven : (a b c d e f g : Bool) → (a && b && c && d && e && f && g) ≡ true
    → (a ≡ true) × (b ≡ true) × (c ≡ true) × (d ≡ true) × (e ≡ true) × (f ≡ true) × (g ≡ true)
seven true true true true true true true h = (h, h, h, h, h, h, h)
seven _ _ _ _ _ _ _ h = absurd (cc)

pub tail_fits : (t : Tail) (no_struct : Bool) (ts : Tokens) → tail_follows t no_struct ts ≡ true → TailFits t no_struct ts
tail_fits t no_struct ts h =
    let p =
    seven (not t.takes_all || strength ts == 0) (not (t.bare && begins_operand no_struct ts))
    (not (t.path && (not no_struct && first (opens Brace) ts)))
    (not (t.unlabelled && first is_lifetime ts)) (not (t.raw && begins_pointer ts))
    (not (t.lacks_else && first (is_keyword (codes "else")) ts)) (may_follow t.refuses ts) h in
    record { all = p.0; bare = p.1; path = p.2; label = p.3; raw = p.4; otherwise = p.5; refuses = p.6 }

pub fits_tail : (t : Tail) (no_struct : Bool) (ts : Tokens) → TailFits t no_struct ts → tail_follows t no_struct ts ≡ true
fits_tail t no_struct ts f = rw (f.all, f.bare, f.path, f.label, f.raw, f.otherwise) f.refuses

-- ---- it may follow every expression

not_both : (a b : Bool) → b ≡ false → not (a && b) ≡ true
not_both true b e = rw e refl
not_both false b e = refl

pub ends_tail : (t : Tail) (no_struct : Bool) (ts : Tokens) → ExprEnds no_struct ts → tail_follows t no_struct ts ≡ true
ends_tail t no_struct ts e = fits_tail t no_struct ts (record {
  all = rw e.weak (or_true (not t.takes_all));
  bare = not_both t.bare (begins_operand no_struct ts) e.operand;
  path = not_both t.path (not no_struct && first (opens Brace) ts) e.brace;
  label = not_both t.unlabelled (first is_lifetime ts) e.lifetime;
  raw = not_both t.raw (begins_pointer ts) e.pointer;
  otherwise = not_both t.lacks_else (first (is_keyword (codes "else")) ts) e.otherwise;
  refuses = quiet_follows t.refuses ts e.quiet;
})
  where
    or_true : (a : Bool) → (a || true) ≡ true
    or_true true = refl
    or_true false = refl

pub ends_follow : (x : ExprFacts) (place : Place) (ts : Tokens) → ExprEnds place.no_struct ts → follows x place ts ≡ true
ends_follow x place ts e =
    and_from (root_follows x place ts) (tail_follows x.tail place.no_struct ts) (weak_root x place ts e.weak) (ends_tail x.tail place.no_struct ts e)

-- ---- what stands there

pub none_weak : (found : Option (List ℕ)) (ts : Tokens) → op_at ts ≡ found → option_and_then (named all_ops) found ≡ None
    → is_op_of (codes ".") found ≡ false
    → is_op_of (codes "?") found ≡ false → first (is_keyword (codes "as")) ts ≡ false
    → (first (opens Paren) ts || first (opens Bracket) ts) ≡ false
    → strength ts ≡ 0
unfolding strength binary
none_weak found ts e op point question no_as no_open =
    let none : binary ts ≡ None = rw e op in
    let dot : is_op (codes ".") ts ≡ false = rw e point in
    let try : is_op (codes "?") ts ≡ false = rw e question in
    let step : begins_step ts ≡ false = rw (dot, try, no_open) refl in
    rw (none, no_as, step) refl

comma_op : (ts rest : Tokens) → IsOne Punct (codes ",") ts rest → op_at ts ≡ Some (codes ",")
unfolding op_at
comma_op ts rest o = rw (one_front Punct (codes ",") ts rest o).1 refl

semicolon_op : (ts rest : Tokens) → IsOne Punct (codes ";") ts rest → op_at ts ≡ Some (codes ";")
unfolding op_at
semicolon_op ts rest o = rw (one_front Punct (codes ";") ts rest o).1 refl

closer_op : (d : Delim) (ts rest : Tokens) → IsOne (Closer d) (closing d ∷ []) ts rest → op_at ts ≡ None
unfolding op_at
closer_op d ts rest o = rw (one_front (Closer d) (closing d ∷ []) ts rest o).1 refl

brace_op : (ts rest : Tokens) → IsOne (Opener Brace) (opening Brace ∷ []) ts rest → op_at ts ≡ None
unfolding op_at
brace_op ts rest o = rw (one_front (Opener Brace) (opening Brace ∷ []) ts rest o).1 refl

and_false : (a : Bool) → (a && false) ≡ false
and_false true = refl
and_false false = refl

pub comma_ends_expr : (no_struct : Bool) (ts rest : Tokens) → IsOne Punct (codes ",") ts rest → ExprEnds no_struct ts
comma_ends_expr no_struct ts rest o =
    let f = (one_front Punct (codes ",") ts rest o).1 in
    record {
      weak = none_weak (Some (codes ",")) ts (comma_op ts rest o) refl refl refl (rw f refl) (rw f refl);
      operand = rw (comma_lead ts rest o) refl;
      brace = rw f (and_false (not no_struct));
      lifetime = rw f refl;
      pointer = rw f refl;
      otherwise = rw f refl;
      quiet = comma_quiet ts rest o;
    }

pub semicolon_ends_expr : (no_struct : Bool) (ts rest : Tokens) → IsOne Punct (codes ";") ts rest → ExprEnds no_struct ts
semicolon_ends_expr no_struct ts rest o =
    let f = (one_front Punct (codes ";") ts rest o).1 in
    record {
      weak = none_weak (Some (codes ";")) ts (semicolon_op ts rest o) refl refl refl (rw f refl) (rw f refl);
      operand = rw (semicolon_lead ts rest o) refl;
      brace = rw f (and_false (not no_struct));
      lifetime = rw f refl;
      pointer = rw f refl;
      otherwise = rw f refl;
      quiet = semicolon_quiet ts rest o;
    }

pub closer_ends_expr : (no_struct : Bool) (d : Delim) (ts rest : Tokens) → IsOne (Closer d) (closing d ∷ []) ts rest → ExprEnds no_struct ts
closer_ends_expr no_struct d ts rest o =
    let f = (one_front (Closer d) (closing d ∷ []) ts rest o).1 in
    record {
      weak = none_weak None ts (closer_op d ts rest o) refl refl refl (rw f refl) (rw f refl);
      operand = rw (one_lead (Closer d) (closing d ∷ []) ts rest o) refl;
      brace = rw f (and_false (not no_struct));
      lifetime = rw f refl;
      pointer = rw f refl;
      otherwise = rw f refl;
      quiet = closer_quiet d ts rest o;
    }

-- A `{` ends an expression where no struct literal may stand.
pub brace_ends_expr : (ts rest : Tokens) → IsOne (Opener Brace) (opening Brace ∷ []) ts rest → ExprEnds true ts
brace_ends_expr ts rest o =
    let f = (one_front (Opener Brace) (opening Brace ∷ []) ts rest o).1 in
    record {
      weak = none_weak None ts (brace_op ts rest o) refl refl refl (rw f refl) (rw f refl);
      operand = rw (one_lead (Opener Brace) (opening Brace ∷ []) ts rest o) refl;
      brace = refl;
      lifetime = rw f refl;
      pointer = rw f refl;
      otherwise = rw f refl;
      quiet = brace_quiet ts rest o;
    }

-- So does the end.
end_quiet : Quiet []
unfolding op_at
end_quiet OfRename = refl
end_quiet OfColons = refl
end_quiet OfArgs = refl
end_quiet OfCodeArgs = refl
end_quiet OfArrow = refl
end_quiet OfBang = refl

pub nothing_ends_expr : (no_struct : Bool) → ExprEnds no_struct []
unfolding op_at expr_lead_at
nothing_ends_expr no_struct = record {
  weak = none_weak None [] refl refl refl refl refl refl;
  operand = refl;
  brace = and_false (not no_struct);
  lifetime = refl;
  pointer = refl;
  otherwise = refl;
  quiet = end_quiet;
}

-- So does what follows an element of a list.
pub element_ends_expr : (no_struct : Bool) (d : Delim) (ts : Tokens) → loops.Ends d ts → ExprEnds no_struct ts
element_ends_expr no_struct d ts e = elim e.1 [
  | inl o ↦ comma_ends_expr no_struct ts e.0 o
  | inr o ↦ closer_ends_expr no_struct d ts e.0 o
]
