-- One step of a reader, from what the readers within it give.
use Rattle.std.proofs.Common.{◌≡◌, ℕ, Bool, true, false, refl, if◌then◌else◌, codes, List, [], ◌∷◌, Some, None, slice_get, ap, ◌∙◌}
use Rattle.lay_piece.specs.declared.kind.Kind.{Kind}
use Rattle.lay_piece.specs.declared.kind.Kind.TheVariants as kind
use Rattle.lay_token.specs.declared.token.Token.{Token}
use Rattle.lay_node.specs.Begins.{is_literal_token}
use Rattle.lay_node.specs.Ahead.{Tokens, first, tail, is_mark}
use Rattle.lay_node.specs.Begins.{lead_by, lead_at, lead_of_word}
use Rattle.lay_node.specs.reader.Loops.{Got, ◌>>=◌}
use Rattle.lay_node.specs.reader.Types.{literal, const, negative, braces}
use Rattle.lay_node.specs.declared.types.ConstArg.TheVariants as const_arg
use Rattle.lay_read_parts.specs.Answers.{gathered, literal_if}

-- ---- what begins a type

pub word_lead : (ts : Tokens) (t : Token) → Some t ≡ slice_get ts 0 → t.kind ≡ kind.Ident
    → lead_at ts ≡ lead_of_word t.text
unfolding lead_at
word_lead [] t e k = absurd (cc)
word_lead (u ∷ ts) t e k =
    let same : u ≡ t = cc in
    ap (λ (v : Token). lead_by v.kind v.text (u ∷ ts)) same ∙ ap (λ (j : Kind). lead_by j t.text (u ∷ ts)) k

-- ---- literals

pub literal_is : (p : Token → Bool) (ts : Tokens) → literal p ts ≡ literal_if (first p ts) ts
unfolding literal
literal_is p [] = refl
literal_is p (t ∷ ts) = refl

pub const_literal : (ts : Tokens) → first is_literal_token ts ≡ true
    → const ts ≡ (literal_if true ts >>= (λ l. Some (const_arg.Literal l.0, l.1)))
unfolding const
const_literal ts h = rw (h, literal_is is_literal_token ts, h) refl

pub const_other : (ts : Tokens) → first is_literal_token ts ≡ false
    → const ts ≡ (if first (is_mark (codes "-")) ts then negative (tail ts) else braces ts)
unfolding const
const_other ts h = rw h refl

-- ---- lists

pub gathered_lost : {A B : Type 0} (o : Got (List (A × ℕ))) (f : List (A × ℕ) × Tokens → Got B) → gathered o ≡ None
    → (o >>= f) ≡ None
gathered_lost None f h = refl
gathered_lost (Some xs) f h = absurd (cc)
