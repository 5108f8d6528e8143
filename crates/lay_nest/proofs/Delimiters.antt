-- Which kinds are openers, closers and partners.
use Rattle.std.proofs.Common.{◌≡◌, true, false, not, List, [], ◌∷◌, refl}
use Rattle.std.proofs.lemmas.Bool.{false≢true, and_parts}
use Rattle.lay_token.specs.Delimiters.{is_opener, is_closer, is_pair, is_stray}
use Rattle.lay_piece.specs.declared.kind.Delim.{Delim}
use Rattle.lay_piece.specs.declared.kind.Delim.TheVariants.{Paren, Bracket, Brace}
use Rattle.lay_piece.specs.declared.kind.Kind.{Kind}
use Rattle.lay_piece.specs.declared.kind.Kind.TheVariants.{Opener, Closer}
use Rattle.lay_token.specs.declared.token.Token.{Token}

pub closer_not_opener : (k : Kind) → is_closer k ≡ true → is_opener k ≡ false
closer_not_opener (Opener d) h = absurd (false≢true h)
closer_not_opener _ h = refl

pub opener_not_closer : (k : Kind) → is_opener k ≡ true → is_closer k ≡ false
opener_not_closer (Closer d) h = absurd (false≢true h)
opener_not_closer _ h = refl

pub not_opener : (k : Kind) → ((d : Delim) → k ≡ Opener d → ⊥) → is_opener k ≡ false
not_opener (Opener d) h = absurd (h d refl)
not_opener _ h = refl

pub not_closer : (k : Kind) → ((d : Delim) → k ≡ Closer d → ⊥) → is_closer k ≡ false
not_closer (Closer d) h = absurd (h d refl)
not_closer _ h = refl

pub pair_opener : (a b : Kind) → is_pair a b ≡ true → is_opener a ≡ true
pair_opener (Opener d) b h = refl
pair_opener _ b h = absurd (false≢true h)

closes_paren : (b : Kind) → is_pair (Opener Paren) b ≡ true → is_closer b ≡ true
closes_paren (Closer d) h = refl
closes_paren _ h = absurd (false≢true h)

closes_bracket : (b : Kind) → is_pair (Opener Bracket) b ≡ true → is_closer b ≡ true
closes_bracket (Closer d) h = refl
closes_bracket _ h = absurd (false≢true h)

closes_brace : (b : Kind) → is_pair (Opener Brace) b ≡ true → is_closer b ≡ true
closes_brace (Closer d) h = refl
closes_brace _ h = absurd (false≢true h)

pub pair_closer : (a b : Kind) → is_pair a b ≡ true → is_closer b ≡ true
pair_closer (Opener Paren) b h = closes_paren b h
pair_closer (Opener Bracket) b h = closes_bracket b h
pair_closer (Opener Brace) b h = closes_brace b h
pair_closer _ b h = absurd (false≢true h)

pub pair_not_stray : (o : Token) (os : List Token) (k : Kind) → is_pair o.kind k ≡ true → is_stray (o ∷ os) k ≡ false
pair_not_stray o os k h = let c = pair_closer o.kind k h in rw (c, h) refl

pub plain_not_stray : (os : List Token) (k : Kind) → is_closer k ≡ false → is_stray os k ≡ false
plain_not_stray [] k h = h
plain_not_stray (o ∷ os) k h = rw h refl

pub stray_closer : (os : List Token) (k : Kind) → is_stray os k ≡ true → is_closer k ≡ true
stray_closer [] k h = h
stray_closer (o ∷ os) k h = (and_parts (is_closer k) (not (is_pair o.kind k)) h).0

pub not_pair_stray : (o : Token) (os : List Token) (k : Kind) → is_closer k ≡ true → is_pair o.kind k ≡ false
    → is_stray (o ∷ os) k ≡ true
not_pair_stray o os k h g = rw (h, g) refl
