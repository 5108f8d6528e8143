-- In code: which operators begin with a character, and what begins an expression.
use Rattle.std.specs.Prelude.{ℕ, ◌==◌, Bool, false, List, [], ◌∷◌, codes}
use Rattle.std.specs.List.{filter}
use Rattle.lay_code.specs.Operands as operands
use Rattle.lay_code.specs.Operators.{all_ops, op_text}
use Rattle.lay_code.specs.declared.operators.Op.{Op}
use Rattle.lay_ops.specs.declared.operands.ExprLead.{ExprLead}
use Rattle.lay_ops.specs.declared.operands.ExprLead.TheVariants as lead

abbrev pub begins : ℕ → List ℕ → Bool
begins character [] = false
begins character (c ∷ cs) = c == character

-- the operators between operands that begin with the character
abbrev pub led_by : ℕ → List Op
led_by character = filter (λ o. begins character (op_text o)) all_ops

abbrev pub told : ExprLead → operands.ExprLead
told lead.Literal = operands.ByLiteral
told lead.Path = operands.ByPath
told lead.Underscore = operands.ByUnderscore
told lead.Label = operands.ByLabel
told lead.Paren = operands.ByParen
told lead.Bracket = operands.ByBracket
told lead.Brace = operands.ByBrace
told lead.Prefix = operands.ByPrefix
told lead.Range = operands.ByRange
told lead.Continue = operands.ByContinue
told lead.Break = operands.ByBreak
told lead.Return = operands.ByReturn
told lead.BlockWord = operands.ByBlockWord
told lead.Closure = operands.ByClosure

-- the words that begin an expression with a block, whatever follows them
abbrev pub block_words : List (List ℕ)
block_words = codes "for" ∷ codes "if" ∷ codes "loop" ∷ codes "match" ∷ codes "unsafe" ∷ codes "while" ∷ []
