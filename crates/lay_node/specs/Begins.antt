-- Lookahead: which node the tokens ahead may begin, decided by the first of them.
use Rattle.std.specs.Prelude.{ℕ, ◌||◌, Bool, true, false, if◌then◌else◌, List, [], ◌∷◌, codes, Option, Some, None, is_some}
use Rattle.std.specs.Str.{bytes_eq}
use Rattle.lay_token.specs.Operators.{is_op}
use Rattle.lay_piece.specs.Word.{class_of}
use Rattle.lay_piece.specs.declared.kind.Delim.TheVariants.{Paren, Bracket}
use Rattle.lay_piece.specs.declared.kind.Kind.{Kind}
use Rattle.lay_piece.specs.declared.kind.Kind.TheVariants as kind
use Rattle.lay_token.specs.declared.token.Token.{Token}
use Rattle.lay_node.specs.Ahead.{Tokens, first, is_keyword, is_lifetime, is_mark, opens}
use Rattle.lay_node.specs.Words.{is_path_class, is_literal}

-- the ways in which a type begins
pub data Lead : Type 0 where
  OfPath : Lead
  OfParen : Lead
  OfNever : Lead
  OfInfer : Lead
  OfPointer : Lead
  OfReference : Lead
  OfBracket : Lead
  OfImpl : Lead
  OfDyn : Lead
  OfFunc : Lead

abbrev pub begins_func : List ℕ → Bool
begins_func text = bytes_eq text (codes "fn") || (bytes_eq text (codes "unsafe") || (bytes_eq text (codes "extern") || bytes_eq text (codes "for")))

abbrev pub lead_of_word : List ℕ → Option Lead
lead_of_word text =
    if is_path_class (class_of text) then Some OfPath
    else (if bytes_eq text (codes "impl") then Some OfImpl
    else (if bytes_eq text (codes "dyn") then Some OfDyn
    else (if begins_func text then Some OfFunc else None)))

abbrev pub lead_of_punct : List ℕ → Tokens → Option Lead
lead_of_punct text ts =
    if bytes_eq text (codes "!") then Some OfNever
    else (if bytes_eq text (codes "*") then Some OfPointer
    else (if bytes_eq text (codes "&") then Some OfReference
    else (if bytes_eq text (codes "<") || is_op (codes "::") ts then Some OfPath else None)))

abbrev pub lead_by : Kind → List ℕ → Tokens → Option Lead
lead_by kind.Ident text ts = lead_of_word text
lead_by kind.RawIdent text ts = Some OfPath
lead_by kind.Underscore text ts = Some OfInfer
lead_by kind.Punct text ts = lead_of_punct text ts
lead_by (kind.Opener Paren) text ts = Some OfParen
lead_by (kind.Opener Bracket) text ts = Some OfBracket
lead_by _ text ts = None

-- the way in which a type begins there, if one may
unfoldable pub lead_at : Tokens → Option Lead
lead_at [] = None
lead_at (t ∷ ts) = lead_by t.kind t.text (t ∷ ts)

abbrev pub begins_type : Tokens → Bool
begins_type ts = is_some (lead_at ts)

abbrev pub is_path_lead : Option Lead → Bool
is_path_lead (Some OfPath) = true
is_path_lead _ = false

abbrev pub begins_bound : Tokens → Bool
begins_bound ts =
    first is_lifetime ts || (first (is_keyword (codes "use")) ts || (first (opens Paren) ts
    || (first (is_mark (codes "?")) ts || (first (is_keyword (codes "for")) ts || is_path_lead (lead_at ts)))))

abbrev pub is_literal_token : Token → Bool
is_literal_token t = is_literal t.kind t.text

-- a literal in a pattern, or a number after a `-`
abbrev pub begins_value : Tokens → Bool
begins_value ts = first is_literal_token ts || first (is_mark (codes "-")) ts

abbrev pub begins_span_end : Tokens → Bool
begins_span_end ts = begins_value ts || is_path_lead (lead_at ts)

abbrev pub begins_predicate : Tokens → Bool
begins_predicate ts = first is_lifetime ts || begins_type ts
