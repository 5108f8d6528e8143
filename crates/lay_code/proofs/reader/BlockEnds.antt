-- What ends expressions, patterns and types where blocks, arms and closures put them.
use Rattle.std.proofs.Common.{◌≡◌, ℕ, Bool, true, false, not, ◌&&◌, ◌||◌, nat_le, List, [], ◌∷◌, codes, Some, None, refl, sym, subst}
use Rattle.std.proofs.lemmas.Bool.{and_from}
use Rattle.lay_piece.specs.declared.kind.Delim.TheVariants.{Brace, Bracket, Paren}
use Rattle.lay_piece.specs.declared.kind.Kind.TheVariants.{Ident, Punct}
use Rattle.lay_token.specs.Operators.{is_op, op_at}
use Rattle.lay_form.specs.Spelled.{IsOne}
use Rattle.lay_node.specs.Ahead.{Tokens, first, is_keyword, is_lifetime, is_lifetime_kind, is_opener, opens}
use Rattle.lay_node.specs.Begins.{begins_bound, begins_span_end, lead_at}
use Rattle.lay_node.specs.nodes.Patterns.{PatFacts}
use Rattle.lay_node.specs.declared.patterns.PatPlace.{PatPlace}
use Rattle.lay_node.specs.declared.patterns.PatPlace.TheVariants.{Alternatives, Single}
use Rattle.lay_node.proofs.Follow.{Quiet, quiet_follows}
use Rattle.lay_node.proofs.Fronts.{one_front, one_no_op, op_front, op_test, other_op}
use Rattle.lay_node.proofs.reader.PatternsFronts.{Fits, Follows, free_quiet}
use Rattle.lay_node.proofs.reader.TypesFronts.{Ends, equals_quiet, kind_quiet, no_other_op, op_first, op_free}
use Rattle.lay_node.proofs.reader.TypesFronts as types
use Rattle.lay_code.specs.Operands.{begins_operand, expr_lead_at}
use Rattle.lay_code.specs.Operators.{strength}
use Rattle.lay_code.specs.nodes.Exprs.{ExprFacts, begins_pointer, follows, root_follows, tail_follows}
use Rattle.lay_code.specs.nodes.Places.{FREE}
use Rattle.lay_code.proofs.reader.ExprLeads.{one_lead}
use Rattle.lay_code.proofs.reader.ExprOperators.{op_is_at}
use Rattle.lay_code.proofs.reader.ExprQuiet.{ExprEnds, fits_tail, none_weak}

-- ---- `=>`

-- It begins no operand.
arrow_lead : (ts : Tokens) → is_op (codes "=>") ts ≡ true → expr_lead_at ts ≡ None
unfolding expr_lead_at
arrow_lead ts h =
    let f = op_first 61 (codes ">") ts h in
    let us : Tokens = record f.0 { kind = Punct; text = 61 ∷ f.2 } ∷ f.1 in
    let n : is_op (codes "::") us ≡ false = subst (λ vs. is_op (codes "::") vs ≡ false) f.3 (other_op (codes "=>") (codes "::") refl ts h) in
    let a : is_op (codes "..") us ≡ false = subst (λ vs. is_op (codes "..") vs ≡ false) f.3 (other_op (codes "=>") (codes "..") refl ts h) in
    let b : is_op (codes "..=") us ≡ false = subst (λ vs. is_op (codes "..=") vs ≡ false) f.3 (other_op (codes "=>") (codes "..=") refl ts h) in
    let g : expr_lead_at us ≡ None = rw (n, a, b) refl in
    subst (λ vs. expr_lead_at vs ≡ None) (sym f.3) g

arrow_free : (ts : Tokens) → is_op (codes "=>") ts ≡ true → types.Free ts
arrow_free = op_free (codes "=>") refl refl refl refl refl refl

no_word : (word op : List ℕ) (ts : Tokens) → is_op op ts ≡ true → first (is_keyword word) ts ≡ false
no_word word op ts h = rw (op_front op ts h).2 refl

-- It ends every expression: a guard.
pub arrow_ends_expr : (no_struct : Bool) (ts : Tokens) → is_op (codes "=>") ts ≡ true → ExprEnds no_struct ts
arrow_ends_expr no_struct ts h =
    let c = no_word (codes "const") (codes "=>") ts h in
    let m = no_word (codes "mut") (codes "=>") ts h in
    let brace = op_test (is_opener Brace) (codes "=>") ts h in
    record {
      weak = none_weak (Some (codes "=>")) ts (op_is_at (codes "=>") ts h) refl refl refl (no_word (codes "as") (codes "=>") ts h) (no_step ts h);
      operand = rw (arrow_lead ts h) refl;
      brace = rw brace (and_false (not no_struct));
      lifetime = op_test is_lifetime_kind (codes "=>") ts h;
      pointer = rw (c, m) refl;
      otherwise = no_word (codes "else") (codes "=>") ts h;
      quiet = free_quiet ts (arrow_free ts h) (no_word (codes "as") (codes "=>") ts h);
    }
  where
    and_false : (a : Bool) → (a && false) ≡ false
    and_false true = refl
    and_false false = refl

    no_step : (us : Tokens) → is_op (codes "=>") us ≡ true → (first (opens Paren) us || first (opens Bracket) us) ≡ false
    no_step us g = rw (op_front (codes "=>") us g).2 refl

-- and every pattern, as it stands before an arm's body
pub arrow_ends : (ts : Tokens) → is_op (codes "=>") ts ≡ true → Ends ts
unfolding lead_at
arrow_ends ts h =
    let f = op_first 61 (codes ">") ts h in
    let us : Tokens = record f.0 { kind = Punct; text = 61 ∷ f.2 } ∷ f.1 in
    let n : is_op (codes "::") us ≡ false = subst (λ vs. is_op (codes "::") vs ≡ false) f.3 (other_op (codes "=>") (codes "::") refl ts h) in
    let span : begins_span_end us ≡ false = rw n refl in
    let bound : begins_bound us ≡ false = rw n refl in
    record {
      pattern = record {
        bar = other_op (codes "=>") (codes "|") refl ts h;
        at = other_op (codes "=>") (codes "@") refl ts h;
        brace = op_test (is_opener Brace) (codes "=>") ts h;
        dots = rw (other_op (codes "=>") (codes "..") refl ts h, other_op (codes "=>") (codes "..=") refl ts h) refl;
        span = subst (λ vs. begins_span_end vs ≡ false) (sym f.3) span;
        rename = no_word (codes "as") (codes "=>") ts h;
      };
      quiet = record { free = arrow_free ts h; plus = other_op (codes "=>") (codes "+") refl ts h };
      colon = other_op (codes "=>") (codes ":") refl ts h;
      equals = other_op (codes "=>") (codes "=") refl ts h;
      bound = subst (λ vs. begins_bound vs ≡ false) (sym f.3) bound;
    }

-- ---- words

-- A word that begins neither a bound nor the end of a span ends every pattern.
word_ends : (word : List ℕ) (ts rest : Tokens) → IsOne Ident word ts rest → begins_span_end ts ≡ false → begins_bound ts ≡ false
    → first (is_keyword (codes "as")) ts ≡ false → Ends ts
word_ends word ts rest o span bound rename =
    let no : (op : List ℕ) → is_op op ts ≡ false = λ op. one_no_op op Ident word ts rest refl o in
    record {
      pattern = record {
        bar = no (codes "|");
        at = no (codes "@");
        brace = rw (one_front Ident word ts rest o).1 refl;
        dots = rw (no (codes ".."), no (codes "..=")) refl;
        span = span;
        rename = rename;
      };
      quiet = kind_quiet Ident word refl refl ts rest o;
      colon = no (codes ":");
      equals = no (codes "=");
      bound = bound;
    }

-- `if`, after which a guard stands
pub if_ends : (ts rest : Tokens) → IsOne Ident (codes "if") ts rest → Ends ts
unfolding lead_at
if_ends ts rest o = let f = (one_front Ident (codes "if") ts rest o).1 in word_ends (codes "if") ts rest o (rw f refl) (rw f refl) (rw f refl)

-- `in`, after the pattern of a loop
pub in_ends : (ts rest : Tokens) → IsOne Ident (codes "in") ts rest → Ends ts
unfolding lead_at
in_ends ts rest o = let f = (one_front Ident (codes "in") ts rest o).1 in word_ends (codes "in") ts rest o (rw f refl) (rw f refl) (rw f refl)

else_op : (ts rest : Tokens) → IsOne Ident (codes "else") ts rest → op_at ts ≡ None
unfolding op_at
else_op ts rest o = rw (one_front Ident (codes "else") ts rest o).1 refl

-- `else` ends an expression that doesn't end in branches without one.
pub else_follows : (x : ExprFacts) (ts rest : Tokens) → IsOne Ident (codes "else") ts rest → x.tail.lacks_else ≡ false → follows x FREE ts ≡ true
else_follows x ts rest o n =
    let f = (one_front Ident (codes "else") ts rest o).1 in
    let none = none_weak None ts (else_op ts rest o) refl refl refl (rw f refl) (rw f refl) in
    let operand : begins_operand false ts ≡ false = rw (one_lead Ident (codes "else") ts rest o) refl in
    let brace : first (opens Brace) ts ≡ false = rw f refl in
    let lifetime : first is_lifetime ts ≡ false = rw f refl in
    let pointer : begins_pointer ts ≡ false = rw f refl in
    let quiet : Quiet ts = free_quiet ts (kind_quiet Ident (codes "else") refl refl ts rest o).free (rw f refl) in
    let tail : tail_follows x.tail false ts ≡ true = fits_tail x.tail false ts (record {
      all = rw none (or_true (not x.tail.takes_all));
      bare = rw operand (not_both x.tail.bare);
      path = rw brace (not_both x.tail.path);
      label = rw lifetime (not_both x.tail.unlabelled);
      raw = rw pointer (not_both x.tail.raw);
      otherwise = rw n refl;
      refuses = quiet_follows x.tail.refuses ts quiet;
    }) in
    let root : nat_le (strength ts) 0 ≡ true = rw none refl in
    and_from (root_follows x FREE ts) (tail_follows x.tail false ts) root tail
  where
    or_true : (a : Bool) → (a || true) ≡ true
    or_true true = refl
    or_true false = refl

    not_both : (a : Bool) → not (a && false) ≡ true
    not_both true = refl
    not_both false = refl

-- ---- `=` and `|` after patterns

-- An `=` may follow every pattern.
pub equals_fits : (place : PatPlace) (x : PatFacts) (ts : Tokens) → is_op (codes "=") ts ≡ true → Fits place x ts
unfolding lead_at
equals_fits place x ts h = by place
  where
    found : Follows x ts
    found =
        let f = op_first 61 [] ts h in
        let us : Tokens = record f.0 { kind = Punct; text = 61 ∷ f.2 } ∷ f.1 in
        let n : is_op (codes "::") us ≡ false = subst (λ vs. is_op (codes "::") vs ≡ false) f.3 (other_op (codes "=") (codes "::") refl ts h) in
        let span : begins_span_end us ≡ false = rw n refl in
        let q = equals_quiet ts h in
        record {
          paren = q.free.paren;
          brace = op_test (is_opener Brace) (codes "=") ts h;
          dots = rw (other_op (codes "=") (codes "..") refl ts h, other_op (codes "=") (codes "..=") refl ts h) refl;
          span = λ e. subst (λ vs. begins_span_end vs ≡ false) (sym f.3) span;
          at = λ e. other_op (codes "=") (codes "@") refl ts h;
          refuses = quiet_follows x.told.refuses ts (free_quiet ts q.free (no_word (codes "as") (codes "=") ts h));
        }

    by : (place : PatPlace) → Fits place x ts
    by Alternatives = (other_op (codes "=") (codes "|") refl ts h, found)
    by Single = found

-- The `|` after the parameters of a closure may follow every pattern, though another one may stand after it.
pub bar_free : (ts rest : Tokens) → IsOne Punct (codes "|") ts rest → types.Free ts
bar_free ts rest o = record {
  colons = no_other_op 58 (codes ":") 124 ts rest refl o;
  bang = no_other_op 33 [] 124 ts rest refl o;
  arrow = no_other_op 45 (codes ">") 124 ts rest refl o;
  args = rw (no_other_op 60 [] 124 ts rest refl o, no_other_op 60 (codes "<") 124 ts rest refl o, no_other_op 60 (codes "-") 124 ts rest refl o) refl;
  paren = rw (one_front Punct (codes "|") ts rest o).1 refl;
}

pub bar_quiet : (ts rest : Tokens) → IsOne Punct (codes "|") ts rest → Quiet ts
bar_quiet ts rest o = free_quiet ts (bar_free ts rest o) (rw (one_front Punct (codes "|") ts rest o).1 refl)

-- and every type, as no bound goes on after it
pub bar_type : (ts rest : Tokens) → IsOne Punct (codes "|") ts rest → types.Quiet ts
bar_type ts rest o = record { free = bar_free ts rest o; plus = no_other_op 43 [] 124 ts rest refl o }

pub bar_fits : (x : PatFacts) (ts rest : Tokens) → IsOne Punct (codes "|") ts rest → Fits Single x ts
unfolding lead_at
bar_fits x ts rest o =
    let g = one_front Punct (codes "|") ts rest o in
    let us : Tokens = record g.0 { kind = Punct; text = codes "|" } ∷ rest in
    let n : is_op (codes "::") us ≡ false = subst (λ vs. is_op (codes "::") vs ≡ false) g.1 (bar_free ts rest o).colons in
    let span : begins_span_end us ≡ false = rw n refl in
    record {
      paren = (bar_free ts rest o).paren;
      brace = rw g.1 refl;
      dots = rw (no_other_op 46 (codes ".") 124 ts rest refl o, no_other_op 46 (codes ".=") 124 ts rest refl o) refl;
      span = λ e. subst (λ vs. begins_span_end vs ≡ false) (sym g.1) span;
      at = λ e. no_other_op 64 [] 124 ts rest refl o;
      refuses = quiet_follows x.told.refuses ts (bar_quiet ts rest o);
    }
