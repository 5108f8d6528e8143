-- Commas outside the groups of a list, told token by token.
use Rattle.std.proofs.Common.{◌≡◌, ℕ, Bool, true, false, ◌&&◌, ◌||◌, List, [], ◌∷◌, codes, length, Some, refl, sym, ap, ◌∙◌}
use Rattle.std.proofs.lemmas.Bool.{and_right, or_parts}
use Rattle.lay_piece.specs.declared.kind.Delim.{Delim}
use Rattle.lay_piece.specs.declared.kind.Kind.{Kind}
use Rattle.lay_piece.specs.declared.kind.Kind.TheVariants.{Opener, Closer, Doc}
use Rattle.lay_token.specs.declared.token.Token.{Token}
use Rattle.lay_node.specs.Ahead.{is_mark}
use Rattle.lay_node.specs.nodes.Fields.{has_comma, is_comma, is_outside, level_behind}
use Rattle.lay_node.specs.tokens.Listing.{as_listed, listed_by, turned}
use Rattle.lay_node.specs.declared.token.Listed.{Listed}
use Rattle.lay_node.proofs.token_lists.Balance.{closed_is}

-- Where a run goes on to a comma, no comma stands outside the groups of these tokens, or is this token there.
abbrev pub Commaless : Bool → ℕ → List Listed → Type 0
Commaless true level us = has_comma level us ≡ false
Commaless false level us = Unit {0}

abbrev pub CommaApart : Bool → ℕ → Token → Type 0
CommaApart true level t = (is_outside level && is_mark (codes ",") t) ≡ false
CommaApart false level t = Unit {0}

first_comma : (level : ℕ) (t : Token) (us : List Listed)
    → has_comma level (as_listed t ∷ us) ≡ ((is_outside level && is_mark (codes ",") t) || has_comma (level_behind t.kind level) us)
first_comma level t us = by t.kind
  where
    by : (k : Kind) → has_comma level (listed_by k t.text t.joint ∷ us)
        ≡ ((is_outside level && is_comma k t.text) || has_comma (level_behind k level) us)
    by (Doc inner block) = sym (ap (λ b. b || has_comma level us) (and_right (is_outside level) false refl))
    by _ = refl

pub commaless_parts : (to_comma : Bool) (level : ℕ) (t : Token) (us : List Listed) → Commaless to_comma level (as_listed t ∷ us)
    → CommaApart to_comma level t × Commaless to_comma (level_behind t.kind level) us
commaless_parts true level t us c =
    or_parts (is_outside level && is_mark (codes ",") t) (has_comma (level_behind t.kind level) us) (sym (first_comma level t us) ∙ c)
commaless_parts false level t us c = (tt, tt)

pub commaless_joined : (to_comma : Bool) (level : ℕ) (t : Token) (us : List Listed) → CommaApart to_comma level t
    → Commaless to_comma (level_behind t.kind level) us → Commaless to_comma level (as_listed t ∷ us)
commaless_joined true level t us a c = first_comma level t us ∙ rw (a, c) refl
commaless_joined false level t us a c = tt

pub commaless_none : (to_comma : Bool) (level : ℕ) → Commaless to_comma level []
commaless_none true level = refl
commaless_none false level = tt

-- The level counts the delimiters that are open.
pub level_turned : (k : Kind) (within more : List Delim) → turned k within ≡ Some more → level_behind k (length within) ≡ length more
level_turned (Opener d) within more h = let e : d ∷ within ≡ more = cc in ap length e
level_turned (Closer d) [] more h = absurd (cc)
level_turned (Closer d) (e ∷ within) more h =
    let s = (closed_is d (e ∷ within) more h).opens in ap (λ (n : ℕ). level_behind (Closer d) n) (ap length s)
level_turned _ within more h = let e : within ≡ more = cc in ap length e
