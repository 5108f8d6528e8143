-- What is ahead after a token, and after a group.
use Rattle.std.proofs.Common.{◌≡◌, ℕ, ◌<◌, true, List, [], ◌∷◌, ◌++◌, length, drop, get_or, IsTrue, Some, refl, sym, ap, ◌∙◌, subst, arith, append_assoc, length-append}
use Rattle.std.specs.List.{slice_get}
use Rattle.std.proofs.lemmas.Bool.{false≢true}
use Rattle.lay_token.specs.Delimiters as delimiters
use Rattle.lay_token.specs.Delimiters.{Trees, Paired, Balanced, tokens_of, is_opener, is_closer, is_pair}
use Rattle.lay_token.specs.declared.token.Token.{Token}
use Rattle.lay_nest.specs.Ahead.{Ahead, Last, UpTo, PairedAhead, SpannedAhead, tokens_ahead, spans_ahead}
use Rattle.lay_nest.specs.Groups.{begins_group}
use Rattle.lay_nest.specs.Spans.{Spanned, spans_of}
use Rattle.lay_nest.proofs.Delimiters.{closer_not_opener, pair_closer}

pub length-spans : (trees : Trees) → length (spans_of trees) ≡ length (tokens_of trees)
length-spans delimiters.NoTree = refl
length-spans (delimiters.One t more) = omega (arith, length-spans more)
length-spans (delimiters.Nest o inside c more) =
    omega (arith, length-spans inside, length-spans more, length-append (spans_of inside) (0 ∷ spans_of more), length-append (tokens_of inside) (c ∷ tokens_of more))

length-ahead : (a : Ahead) → length (spans_ahead a) ≡ length (tokens_ahead a)
length-ahead (Last trees) = length-spans trees
length-ahead (UpTo trees closer more) =
    omega (arith, length-spans trees, length-ahead more, length-append (spans_of trees) (0 ∷ spans_ahead more), length-append (tokens_of trees) (closer ∷ tokens_ahead more))

pub same_length : {tokens : List Token} {spans : List ℕ} → SpannedAhead tokens spans → length spans ≡ length tokens
same_length s = ap length s.spans_are ∙ length-ahead s.ahead ∙ ap length (sym s.tokens_are)

-- All the tokens are ahead.
pub all_ahead : {tokens : List Token} {spans : List ℕ} → Spanned tokens spans → SpannedAhead tokens spans
all_ahead s = record {
  ahead = Last s.trees;
  paired = s.paired;
  tokens_are = s.tokens_are;
  spans_are = s.spans_are;
}

step_ahead : (a : Ahead) → PairedAhead a → 0 < length (tokens_ahead a)
    → SpannedAhead (drop 1 (tokens_ahead a)) (drop 1 (spans_ahead a))
step_ahead (Last delimiters.NoTree) p h = absurd (omega arith)
step_ahead (Last (delimiters.One t more)) p h = record {
  ahead = Last more;
  paired = p.2;
  tokens_are = refl;
  spans_are = refl;
}
step_ahead (Last (delimiters.Nest o inside c more)) p h = record {
  ahead = UpTo inside c (Last more);
  paired = (p.1, pair_closer o.kind c.kind p.0, p.2);
  tokens_are = refl;
  spans_are = refl;
}
step_ahead (UpTo delimiters.NoTree closer more) p h = record {
  ahead = more;
  paired = p.2;
  tokens_are = refl;
  spans_are = refl;
}
step_ahead (UpTo (delimiters.One t trees) closer more) p h = record {
  ahead = UpTo trees closer more;
  paired = (p.0.2, p.1, p.2);
  tokens_are = refl;
  spans_are = refl;
}
step_ahead (UpTo (delimiters.Nest o inside c trees) closer more) p h = record {
  ahead = UpTo inside c (UpTo trees closer more);
  paired = (p.0.1, pair_closer o.kind c.kind p.0.0, (p.0.2, p.1, p.2));
  tokens_are = append_assoc (tokens_of inside) (c ∷ tokens_of trees) (closer ∷ tokens_ahead more);
  spans_are = append_assoc (spans_of inside) (0 ∷ spans_of trees) (0 ∷ spans_ahead more);
}

-- What is ahead after a token.
pub stepped : {tokens : List Token} {spans : List ℕ} → SpannedAhead tokens spans → 0 < length tokens
    → SpannedAhead (drop 1 tokens) (drop 1 spans)
stepped {tokens} {spans} s h =
    let P : List Token → Type 0 = λ ts. SpannedAhead (drop 1 ts) (drop 1 (spans_ahead s.ahead)) in
    let Q : List ℕ → Type 0 = λ ns. SpannedAhead (drop 1 tokens) (drop 1 ns) in
    let g : 0 < length (tokens_ahead s.ahead) = omega (arith, ap length s.tokens_are) in
    subst Q (sym s.spans_are) (subst P (sym s.tokens_are) (step_ahead s.ahead s.paired g))

-- An opener that a caller has seen at the beginning begins a group.
pub begins_group_opener : (tokens : List Token) (opener : Token) → slice_get tokens 0 ≡ Some opener
    → is_opener opener.kind ≡ true
    → begins_group tokens ≡ true
begins_group_opener [] opener e h = cc
begins_group_opener (t ∷ ts) opener e h =
    let same : t ≡ opener = cc in ap (λ (o : Token). is_opener o.kind) same ∙ h

-- The group at the beginning, and what is ahead after it.
pub record Opened (tokens : List Token) (spans : List ℕ) : Type 0 where
  pub opener : Token
  pub closer : Token
  pub inside : Trees
  pub behind : Ahead
  pub pair : IsTrue (is_pair opener.kind closer.kind)
  pub paired : Paired inside
  pub behind_paired : PairedAhead behind
  pub tokens_are : tokens ≡ opener ∷ (tokens_of inside ++ closer ∷ tokens_ahead behind)
  pub spans_are : spans ≡ length (tokens_of inside) ∷ (spans_of inside ++ 0 ∷ spans_ahead behind)

pub span_is : {tokens : List Token} {spans : List ℕ} (o : Opened tokens spans)
    → get_or spans 0 0 ≡ length (tokens_of o.inside)
span_is o = ap (λ ns. get_or ns 0 0) o.spans_are

open_ahead : (a : Ahead) → PairedAhead a → IsTrue (begins_group (tokens_ahead a))
    → Opened (tokens_ahead a) (spans_ahead a)
open_ahead (Last delimiters.NoTree) p h = absurd (false≢true h)
open_ahead (Last (delimiters.One t more)) p h = absurd (false≢true (sym p.0 ∙ h))
open_ahead (Last (delimiters.Nest o inside c more)) p h = record {
  opener = o;
  closer = c;
  inside = inside;
  behind = Last more;
  pair = p.0;
  paired = p.1;
  behind_paired = p.2;
  tokens_are = refl;
  spans_are = refl;
}
open_ahead (UpTo delimiters.NoTree closer more) p h = absurd (false≢true (sym (closer_not_opener closer.kind p.1) ∙ h))
open_ahead (UpTo (delimiters.One t trees) closer more) p h = absurd (false≢true (sym p.0.0 ∙ h))
open_ahead (UpTo (delimiters.Nest o inside c trees) closer more) p h = record {
  opener = o;
  closer = c;
  inside = inside;
  behind = UpTo trees closer more;
  pair = p.0.0;
  paired = p.0.1;
  behind_paired = (p.0.2, p.1, p.2);
  tokens_are = ap (λ ts. o ∷ ts) (append_assoc (tokens_of inside) (c ∷ tokens_of trees) (closer ∷ tokens_ahead more));
  spans_are = ap (λ ns. length (tokens_of inside) ∷ ns) (append_assoc (spans_of inside) (0 ∷ spans_of trees) (0 ∷ spans_ahead more));
}

pub opened : {tokens : List Token} {spans : List ℕ} → SpannedAhead tokens spans → IsTrue (begins_group tokens)
    → Opened tokens spans
opened {tokens} {spans} s h =
    let g : IsTrue (begins_group (tokens_ahead s.ahead)) = ap begins_group (sym s.tokens_are) ∙ h in
    let o = open_ahead s.ahead s.paired g in
    record {
      opener = o.opener;
      closer = o.closer;
      inside = o.inside;
      behind = o.behind;
      pair = o.pair;
      paired = o.paired;
      behind_paired = o.behind_paired;
      tokens_are = s.tokens_are ∙ o.tokens_are;
      spans_are = s.spans_are ∙ o.spans_are;
    }
