-- What begins an expression, by its lead: what is parsed stands there, if that holds one level
-- deeper.
use Rattle.std.proofs.Common.{◌≡◌, ℕ, Bool, codes, inl, inr, Option, Some, None, refl}
use Rattle.lay_piece.specs.declared.kind.Delim.TheVariants.{Paren, Bracket}
use Rattle.lay_form.specs.Form.{keyword, opener}
use Rattle.lay_node.specs.Ahead.{Tokens, first, is_keyword, tail}
use Rattle.lay_node.specs.reader.Types.{begins_call}
use Rattle.lay_node.proofs.Steps.{same_some, chosen}
use Rattle.lay_node.proofs.reader.Loops.{SoundStep}
use Rattle.lay_node.proofs.reader.TypesSoundParts.{Out, bit_texts}
use Rattle.lay_code.specs.Operands.{ExprLead, ByLiteral, ByPath, ByUnderscore, ByLabel, ByParen, ByBracket, ByBrace, ByPrefix, ByRange, ByContinue, ByBreak, ByReturn, ByBlockWord, ByClosure, expr_lead_at}
use Rattle.lay_code.specs.reader.Exprs.{block_word_expr, head_by}
use Rattle.lay_code.specs.reader.Within.{ExprWithin}
use Rattle.lay_code.specs.declared.exprs.Expr.{Expr}
use Rattle.lay_code.specs.declared.exprs.Expr.TheVariants as expr
use Rattle.lay_code.proofs.reader.ArmsSound.{match_head}
use Rattle.lay_code.proofs.reader.ExprSoundBlocks.{async_head, const_head, if_head, label_head, unlabelled_head, unsafe_head}
use Rattle.lay_code.proofs.reader.ExprSoundClosures.{closure_sound}
use Rattle.lay_code.proofs.reader.ExprSoundFirst.{bracket_first, break_first, continue_first, paren_first, range_first, return_first, underscore_first}
use Rattle.lay_code.proofs.reader.ExprSoundHeads.{bracket_head, break_head, call_head, continue_head, literal_head, paren_head, return_head, underscore_head}
use Rattle.lay_code.proofs.reader.ExprSoundLeads.{LedWithin}
use Rattle.lay_code.proofs.reader.ExprSoundLevel.{LeftHeld, SoundExprWithin}
use Rattle.lay_code.proofs.reader.ExprSoundPrefixes.{range_sound, unary_head}
use Rattle.lay_code.proofs.reader.ExprSoundStructs.{path_head}

module _ (budget : ℕ) (within : ExprWithin) (sound : SoundExprWithin budget within) (led : LedWithin within)
    (no_struct starts : Bool) where
  abbrev Left : Expr × ℕ → Tokens → Tokens → Type 0
  Left = LeftHeld no_struct starts

  -- What a word begins before a block stands there.
  word_sound : SoundStep (block_word_expr within) Left
  unfolding block_word_expr
  word_sound ts x rest t h = elim (chosen (first (is_keyword (codes "unsafe")) ts) _ _ _ h) [
    | inl g ↦ unsafe_head budget within sound no_struct starts ts t g.0 x rest g.1
    | inr g ↦ elim (chosen (first (is_keyword (codes "const")) ts) _ _ _ g.1) [
      | inl f ↦ const_head budget within sound no_struct starts ts t f.0 x rest f.1
      | inr f ↦ elim (chosen (first (is_keyword (codes "async")) ts) _ _ _ f.1) [
        | inl e ↦ async_head budget within sound no_struct starts ts t e.0 x rest e.1
        | inr e ↦ elim (chosen (first (is_keyword (codes "if")) ts) _ _ _ e.1) [
          | inl d ↦ if_head budget within sound no_struct starts ts t d.0 x rest d.1
          | inr d ↦ elim (chosen (first (is_keyword (codes "match")) ts) _ _ _ d.1) [
            | inl c ↦ match_head budget within sound no_struct starts ts t c.0 x rest c.1
            | inr c ↦ unlabelled_head budget within sound no_struct starts ts t x rest c.1
          ]
        ]
      ]
    ]
  ]

  -- What begins an expression stands there as it is read, and operators may go on with it.
  pub head_sound : SoundStep (λ us. head_by within no_struct (expr_lead_at us) us) Left
  head_sound ts x rest t h = by (expr_lead_at ts) refl h
    where
      by : (lead : Option ExprLead) → expr_lead_at ts ≡ lead → head_by within no_struct lead ts ≡ Some (x, rest)
          → Out Left ts (x, rest)
      by None e h = absurd (cc h)
      by (Some ByLiteral) e h = literal_head no_struct starts ts x rest t h
      by (Some ByPath) e h = elim (chosen (begins_call ts) _ _ _ h) [
        | inl g ↦ call_head no_struct starts ts x rest t g.1
        | inr g ↦ path_head budget within sound no_struct starts ts x rest t g.1
      ]
      by (Some ByUnderscore) e h =
          same_some (Out Left ts) ((expr.Underscore, 1), tail ts) (x, rest) h
          (underscore_head no_struct starts ts (tail ts) (underscore_first ts t e) t)
      by (Some ByParen) e h =
          let o = paren_first ts t e in
          paren_head no_struct starts budget within sound ts (tail ts) o (bit_texts (opener Paren) ts (tail ts) o t) x rest h
      by (Some ByBracket) e h =
          let o = bracket_first ts t e in
          bracket_head no_struct starts budget within sound ts (tail ts) o (bit_texts (opener Bracket) ts (tail ts) o t) x rest h
      by (Some ByPrefix) e h = unary_head no_struct starts budget within sound led ts e t x rest h
      by (Some ByRange) e h =
          range_sound no_struct starts budget within sound led None 0 ts ts refl (range_first ts e) t x rest h
      by (Some ByContinue) e h =
          let o = continue_first ts e in
          continue_head no_struct starts ts (tail ts) o (bit_texts (keyword (codes "continue")) ts (tail ts) o t) x rest h
      by (Some ByBreak) e h =
          let o = break_first ts e in
          break_head no_struct starts budget within sound led ts (tail ts) o (bit_texts (keyword (codes "break")) ts (tail ts) o t)
          x rest h
      by (Some ByReturn) e h =
          let o = return_first ts e in
          return_head no_struct starts budget within sound led ts (tail ts) o (bit_texts (keyword (codes "return")) ts (tail ts) o t)
          x rest h
      by (Some ByLabel) e h = label_head budget within sound no_struct starts ts x rest t h
      by (Some ByBrace) e h = unlabelled_head budget within sound no_struct starts ts t x rest h
      by (Some ByBlockWord) e h = word_sound ts x rest t h
      by (Some ByClosure) e h = closure_sound budget within sound no_struct starts ts x rest t h
