-- Lookahead for expressions: what kind of expression the next tokens begin, if any (Rust Reference,
-- "Expressions").
use Rattle.std.specs.Prelude.{ℕ, ◌&&◌, ◌||◌, not, Bool, true, false, if◌then◌else◌, List, [], ◌∷◌, codes, Option, Some, None}
use Rattle.std.specs.List.{list_any}
use Rattle.std.specs.Str.{bytes_eq}
use Rattle.lay_piece.specs.Word.{class_of}
use Rattle.lay_piece.specs.declared.kind.Delim.TheVariants.{Paren, Bracket, Brace}
use Rattle.lay_piece.specs.declared.kind.Kind.{Kind}
use Rattle.lay_piece.specs.declared.kind.Kind.TheVariants as kind
use Rattle.lay_token.specs.Operators.{is_op}
use Rattle.lay_node.specs.Ahead.{Tokens, first, is_keyword, is_mark, opens, tail}
use Rattle.lay_node.specs.Follow.{begins_dots}
use Rattle.lay_node.specs.Words.{is_literal, is_path_class}

pub data ExprLead : Type 0 where
  ByLiteral : ExprLead
  -- a path, or a macro call
  ByPath : ExprLead
  ByUnderscore : ExprLead
  -- a lifetime, which names a block or a loop
  ByLabel : ExprLead
  ByParen : ExprLead
  ByBracket : ExprLead
  ByBrace : ExprLead
  -- an operator before its operand
  ByPrefix : ExprLead
  -- `..` or `..=`
  ByRange : ExprLead
  ByContinue : ExprLead
  ByBreak : ExprLead
  ByReturn : ExprLead
  -- a keyword that begins an expression with a block, such as `if` or `unsafe`
  ByBlockWord : ExprLead
  -- a closure
  ByClosure : ExprLead

abbrev pub is_of : List (List ℕ) → List ℕ → Bool
is_of words text = list_any (λ w. bytes_eq text w) words

-- `const` begins an expression only where a `{` follows it.
abbrev pub is_block_word : List ℕ → Tokens → Bool
is_block_word text ts =
    is_of (codes "for" ∷ codes "if" ∷ codes "loop" ∷ codes "match" ∷ codes "unsafe" ∷ codes "while" ∷ []) text
    || (if bytes_eq text (codes "const") then first (opens Brace) ts else false)

-- A closure begins here: with `|`, or with `move` and then `|`.
abbrev pub begins_closure : Tokens → Bool
begins_closure ts = first (is_mark (codes "|")) ts || (first (is_keyword (codes "move")) ts && first (is_mark (codes "|")) (tail ts))

-- what `async` begins, by the tokens after it: a closure or a block
abbrev pub async_lead : Tokens → ExprLead
async_lead ts = if begins_closure ts then ByClosure else ByBlockWord

abbrev pub expr_lead_of_word : List ℕ → Tokens → Option ExprLead
expr_lead_of_word text ts =
    if is_path_class (class_of text) then Some ByPath
    else (if is_literal kind.Ident text then Some ByLiteral
    else (if bytes_eq text (codes "continue") then Some ByContinue
    else (if bytes_eq text (codes "break") then Some ByBreak
    else (if bytes_eq text (codes "return") then Some ByReturn
    else (if bytes_eq text (codes "move") then Some ByClosure
    else (if bytes_eq text (codes "async") then Some (async_lead ts)
    else (if is_block_word text ts then Some ByBlockWord else None)))))))

abbrev pub expr_lead_of_punct : List ℕ → Tokens → Option ExprLead
expr_lead_of_punct text ts =
    if is_of (codes "-" ∷ codes "*" ∷ codes "!" ∷ codes "&" ∷ []) text then Some ByPrefix
    else (if bytes_eq text (codes "|") then Some ByClosure
    else (if bytes_eq text (codes "<") || is_op (codes "::") ts then Some ByPath
    else (if begins_dots ts then Some ByRange else None)))

abbrev pub expr_lead_by : Kind → List ℕ → Tokens → Option ExprLead
expr_lead_by kind.Ident text ts = expr_lead_of_word text (tail ts)
expr_lead_by kind.RawIdent text ts = Some ByPath
expr_lead_by kind.Underscore text ts = Some ByUnderscore
expr_lead_by kind.Lifetime text ts = Some ByLabel
expr_lead_by kind.Punct text ts = expr_lead_of_punct text ts
expr_lead_by (kind.Opener Paren) text ts = Some ByParen
expr_lead_by (kind.Opener Bracket) text ts = Some ByBracket
expr_lead_by (kind.Opener Brace) text ts = Some ByBrace
expr_lead_by (kind.Closer d) text ts = None
expr_lead_by (kind.Doc inner block) text ts = None
expr_lead_by _ text ts = Some ByLiteral

-- what kind of expression the next tokens begin, if they begin one
unfoldable pub expr_lead_at : Tokens → Option ExprLead
expr_lead_at [] = None
expr_lead_at (t ∷ ts) = expr_lead_by t.kind t.text (t ∷ ts)

abbrev pub is_operand_lead : Bool → Option ExprLead → Bool
is_operand_lead no_struct None = false
is_operand_lead no_struct (Some ByBrace) = not no_struct
is_operand_lead no_struct (Some lead) = true

-- The tokens begin an operand. Where the flag is set no struct literal may stand there, and then no
-- `{` begins one.
abbrev pub begins_operand : Bool → Tokens → Bool
begins_operand no_struct ts = is_operand_lead no_struct (expr_lead_at ts)
