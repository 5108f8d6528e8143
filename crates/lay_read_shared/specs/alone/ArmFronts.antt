-- Arms of a match that stand by themselves at the beginning of the tokens.
use Rattle.std.specs.Prelude.{ℕ, zero, suc, max, nat_le, not, ◌&&◌, ◌||◌, Bool, true, false, if◌then◌else◌, [], ◌∷◌, map, length, drop, codes, Option, option_map, Some, None}
use Rattle.lay_piece.specs.declared.kind.Delim.TheVariants.{Brace}
use Rattle.lay_token.specs.Operators.{is_op}
use Rattle.lay_form.specs.Form.{Blank, Operator, Semicolons, Form, Done, Piece, Part, Deeper, opener, closer, comma}
use Rattle.lay_form.specs.Notation.{I0, piece, when, behind_attrs}
use Rattle.lay_form.specs.Spelled.{MayBrace, cost, Front}
use Rattle.lay_node.specs.Ahead.{Tokens, at_end, first, tail, is_keyword, is_mark}
use Rattle.lay_node.specs.nodes.Attr.{attr_form}
use Rattle.lay_node.specs.nodes.Patterns.{about_pat, pat_form}
use Rattle.lay_node.specs.reader.Attr.{attributes}
use Rattle.lay_node.specs.reader.Loops.{Read, ◌>>=◌}
use Rattle.lay_node.specs.reader.Types.{if_read}
use Rattle.lay_node.specs.declared.patterns.PatPlace.TheVariants.{Alternatives}
use Rattle.lay_code.specs.Operators.{is_dot_or_try}
use Rattle.lay_code.specs.nodes.Bodies.{braces_of, is_lone_body}
use Rattle.lay_code.specs.nodes.Blocks.{guard_form, is_free}
use Rattle.lay_code.specs.nodes.Code.{about_arm, about_expr}
use Rattle.lay_code.specs.nodes.Exprs.{ExprFacts, follows}
use Rattle.lay_code.specs.nodes.Places.{FREE, statement}
use Rattle.lay_code.specs.reader.Blocks.{body_need, undressed}
use Rattle.lay_code.specs.reader.Code.{code_in}
use Rattle.lay_code.specs.reader.Within.{ExprWithin}
use Rattle.lay_code.specs.declared.blocks.Arm.{Arm}
use Rattle.lay_code.specs.declared.exprs.Expr.{Expr}

-- the form, this many levels deeper
abbrev pub levels : ℕ → Form → Form
levels zero f = f
levels (suc n) f = Deeper (levels n f) Done

-- the form within this many pairs of braces, where any number of `;` may follow each opening brace
abbrev pub in_braces : ℕ → Form → Form
in_braces zero f = f
in_braces (suc n) f = Piece (opener Brace ∷ Semicolons ∷ []) (Part (in_braces n f) (piece (closer Brace ∷ [])))

-- An arm whose body stands within this many pairs of braces that aren't in the tree. The flag says
-- that it has its comma.
abbrev pub arm_shape : ℕ → Bool → Arm → Form
arm_shape pairs ended a = behind_attrs (map attr_form a.attrs)
    (I0 (Part (pat_form Alternatives (about_pat a.pat)) (guard_form (option_map about_expr a.guard)))
    (Piece (Blank ∷ Operator (codes "=>") ∷ Blank ∷ [])
    (Part (levels (cost pairs) (in_braces pairs (about_expr a.body).form)) (when ended comma Done))))

-- Which tokens may follow an arm. After its comma any may. Without one no comma may. If the body
-- stands within braces, the next token isn't `.` or `?`, as after a block. If it doesn't, the next
-- token may not go on with the body. Then no token at all may follow, unless the body is block-like
-- and no macro call.
abbrev pub arm_follows : ℕ → Bool → ExprFacts → Tokens → Bool
arm_follows pairs true x ts = true
arm_follows zero false x ts = not (first (is_mark (codes ",")) ts) && follows x statement ts && (is_free x || at_end ts)
arm_follows (suc n) false x ts = not (first (is_mark (codes ",")) ts) && not (is_dot_or_try ts)

abbrev pub ArmFront : Arm → Tokens → ℕ → ℕ → Type 0
ArmFront a ts n depth = (pairs : ℕ) × (ended : Bool) × MayBrace (braces_of (about_expr a.body).kind) pairs
    × Front (Deeper (arm_shape pairs ended a) Done) (about_arm a).good (arm_follows pairs ended (about_expr a.body)) ts n depth

-- ---- readings

-- The body of an arm without the braces that aren't in the tree. The flag that is read says whether
-- the arm needs no comma after it.
abbrev pub body_begun : ExprWithin → Tokens → Read (Expr × Bool)
body_begun within ts = do
  x ← within.exprs statement ts
  Some (((undressed (length ts) x.0.0, is_free (about_expr x.0.0)), body_need (is_lone_body (about_expr x.0.0).kind) x.0.1), x.1)

-- An arm up to its comma. The flag that is read says whether the comma may be missing.
unfoldable pub arm_begun : ExprWithin → Tokens → Read (Arm × Bool)
arm_begun within ts = do
  attrs ← attributes false ts
  p ← within.pats Alternatives attrs.1
  g ← if_read (first (is_keyword (codes "if")) p.1) (λ us. within.exprs FREE (tail us)) p.1
  x ← (if is_op (codes "=>") g.1 then body_begun within (drop 2 g.1) else None)
  Some ((((record { attrs = attrs.0; pat = p.0.0; guard = g.0.0; body = x.0.0.0 }), x.0.0.1), max p.0.1 (max g.0.1 x.0.1)), x.1)

-- The tokens after the comma of an arm by itself. The comma may be missing at the end of the
-- tokens, and where the flag says so.
abbrev pub alone_end : Bool → Tokens → Option Tokens
alone_end free ts = if first (is_mark (codes ",")) ts then Some (tail ts) else (if free || at_end ts then Some ts else None)

-- the arm by itself, with its comma if it has one
abbrev pub arm_alone : ExprWithin → Tokens → Read Arm
arm_alone within ts = do
  x ← arm_begun within ts
  rest ← alone_end x.0.0.1 x.1
  Some ((x.0.0.0, x.0.1), rest)

-- The same one level deeper. A body that drops no braces takes one more level, so the budget is
-- tested.
abbrev pub alone_arm : ℕ → Tokens → Read Arm
alone_arm zero ts = None
alone_arm (suc budget) ts = do x ← arm_alone (code_in budget) ts; if nat_le x.0.1 budget then Some ((x.0.0, suc x.0.1), x.1) else None
