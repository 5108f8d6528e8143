-- How forms are fed after a point, and what operators are fed as.
use Rattle.std.proofs.Common.{◌≡◌, ℕ, suc, ◌+◌, ◌<◌, ◌==◌, ◌&&◌, not, Bool, true, false, List, [], ◌∷◌, ◌++◌, length, get_or, drop, drop-cons, add-one, codes, Option, Some, None, refl, sym, ap, ◌∙◌, append-nil}
use Rattle.std.proofs.Math.Dec.{eqb-suc-zero}
use Rattle.lay_layout.specs.Document.{Empty}
use Rattle.lay_layout.specs.Machine.{opened}
use Rattle.lay_layout.specs.declared.layout.Tok.{Tok}
use Rattle.lay_layout.specs.declared.layout.Tok.TheVariants as tok
use Rattle.lay_layout.proofs.Whole.{opened_document}
use Rattle.lay_form.specs.Form.{Form, Blank, Operator, Done, Piece, Part, Soft, Never}
use Rattle.lay_form.specs.Layout.{break_of, ends_behind_point, laid_out, led, text_of_bits}
use Rattle.lay_form.specs.Stream.{fed, stream_of}
use Rattle.lay_form.proofs.StreamLaws.{laid_fed}
use Rattle.lay_node.specs.nodes.Patterns.{dots}
use Rattle.lay_node.specs.nodes.Types.{deeper}
use Rattle.lay_node.specs.declared.token.Lifetime.{Lifetime}
use Rattle.lay_code.specs.Operators.{op_text}
use Rattle.lay_code.specs.nodes.Exprs.{label_form, prefix_bits, prefixes_form}
use Rattle.lay_code.specs.declared.operators.Op.{Op}
use Rattle.lay_code.specs.declared.operators.Op.TheVariants as op
use Rattle.lay_code.specs.declared.operators.Prefix.{Prefix}
use Rattle.lay_code.specs.declared.operators.Prefix.TheVariants as prefix
use Rattle.lay_out_tokens.proofs.StreamParts.{fed_more}
use Rattle.lay_out_exprs.specs.Parts.{prefix_texts}

-- After a point a form is fed as anywhere.
pub record Any (f : Form) : Type 0 where
  pub at : (q : Bool) → fed q f [] ≡ stream_of f

-- It is enough to see it after a point.
pub both : {f : Form} → fed true f [] ≡ stream_of f → Any f
both {f} e = record { at = by }
  where
    by : (q : Bool) → fed q f [] ≡ stream_of f
    by true = e
    by false = refl

-- One level deeper it is the same.
pub within : {f : Form} → Any f → Any (deeper f)
within any = record { at = any.at }

-- a part, and what follows it, which is fed alike after a point
pub part_at : (q : Bool) (e f : Form) → Any f → fed q e [] ++ stream_of f ≡ fed q (Part e f) []
part_at q e f any =
    ap (λ (s : List Tok). fed q e [] ++ s) (sym (any.at (ends_behind_point q e)))
    ∙ sym (fed_more q e (fed (ends_behind_point q e) f []))

-- A form leaves as many groups open as were open before.
pub level_at : (q : Bool) (f : Form) (n : ℕ) → opened (fed q f []) n ≡ n
level_at q f n =
    ap (λ (s : List Tok). opened s n) (sym (sym (append-nil _) ∙ laid_fed q f Empty []))
    ∙ opened_document (laid_out q f Empty) n

-- ---- operators

-- an operator between operands, and the blank after it
pub op_fed : (o : Op) (f : Form) (more : List Tok)
    → fed false (Piece (Operator (op_text o) ∷ []) (Piece (Blank ∷ []) f)) more
    ≡ tok.Text (op_text o) ∷ tok.Text (codes " ") ∷ fed false f more
op_fed op.Set f more = refl
op_fed op.AddSet f more = refl
op_fed op.SubSet f more = refl
op_fed op.MulSet f more = refl
op_fed op.DivSet f more = refl
op_fed op.RemSet f more = refl
op_fed op.XorSet f more = refl
op_fed op.AndSet f more = refl
op_fed op.OrSet f more = refl
op_fed op.ShlSet f more = refl
op_fed op.ShrSet f more = refl
op_fed op.Upto f more = refl
op_fed op.UptoEq f more = refl
op_fed op.OrOr f more = refl
op_fed op.AndAnd f more = refl
op_fed op.EqEq f more = refl
op_fed op.Differ f more = refl
op_fed op.Less f more = refl
op_fed op.Greater f more = refl
op_fed op.LessEq f more = refl
op_fed op.GreaterEq f more = refl
op_fed op.BitOr f more = refl
op_fed op.BitXor f more = refl
op_fed op.BitAnd f more = refl
op_fed op.Shl f more = refl
op_fed op.Shr f more = refl
op_fed op.Add f more = refl
op_fed op.Sub f more = refl
op_fed op.Mul f more = refl
op_fed op.Div f more = refl
op_fed op.Rem f more = refl

-- an operator before an operand
prefix_fed : (p : Prefix) (q : Bool) (f : Form)
    → fed q (Piece (prefix_bits p) f) [] ≡ tok.Text (text_of_bits (prefix_bits p)) ∷ stream_of f
prefix_fed prefix.Neg true f = refl
prefix_fed prefix.Neg false f = refl
prefix_fed prefix.Deref true f = refl
prefix_fed prefix.Deref false f = refl
prefix_fed prefix.Bang true f = refl
prefix_fed prefix.Bang false f = refl
prefix_fed prefix.Amp true f = refl
prefix_fed prefix.Amp false f = refl
prefix_fed prefix.AmpMut true f = refl
prefix_fed prefix.AmpMut false f = refl
prefix_fed prefix.RawConst true f = refl
prefix_fed prefix.RawConst false f = refl
prefix_fed prefix.RawMut true f = refl
prefix_fed prefix.RawMut false f = refl

-- After an operator or a target that stands there no point reaches the operand.
pub no_point : (q : Bool) (n : ℕ) → (q && (suc n == 0)) ≡ (false && (n == 0))
no_point true n = eqb-suc-zero n
no_point false n = refl

-- operators before an operand, which a point before them reaches where there are none
pub prefixes_fed : (q : Bool) (ps : List Prefix) (f : Form)
    → prefix_texts ps ++ fed (q && (length ps == 0)) f [] ≡ fed q (prefixes_form ps f) []
prefixes_fed true [] f = refl
prefixes_fed false [] f = refl
prefixes_fed q (p ∷ ps) f =
    ap (λ (s : List Tok). tok.Text (text_of_bits (prefix_bits p)) ∷ s)
    (ap (λ (b : Bool). prefix_texts ps ++ fed b f []) (no_point q (length ps))
    ∙ prefixes_fed false ps f)
    ∙ sym (prefix_fed p q (prefixes_form ps f))

-- `..` or `..=`, after a point or not, and what follows it
pub dots_fed : (q i : Bool) (f : Form)
    → tok.Text (text_of_bits (led q (dots i))) ∷ fed (not i) f [] ≡ fed q (Piece (dots i) f) []
dots_fed true true f = refl
dots_fed true false f = refl
dots_fed false true f = refl
dots_fed false false f = refl

-- a label, and what follows it
pub label_more : (label : Option Lifetime) (f : Form)
    → stream_of (label_form label Done) ++ stream_of f ≡ stream_of (label_form label f)
label_more None f = refl
label_more (Some l) f = refl

-- ---- the rows that the code puts

-- an operator that is put by its text, between operands
pub operator_row : {put text : List ℕ} → put ≡ text
    → tok.Break (break_of (Soft false 1)) ∷ tok.Text put ∷ tok.Text (codes " ") ∷ []
    ≡ tok.Break (break_of (Soft false 1)) ∷ tok.Text text ∷ tok.Text (codes " ") ∷ []
operator_row e = rw e refl

-- the same of an assignment
pub assignment_row : {put text : List ℕ} → put ≡ text
    → tok.Text (codes " ") ∷ tok.Text put ∷ tok.Text (codes " ") ∷ tok.Break (break_of Never) ∷ []
    ≡ tok.Text (codes " ") ∷ tok.Text text ∷ tok.Text (codes " ") ∷ tok.Break (break_of Never) ∷ []
assignment_row e = rw e refl

-- what a turn puts
pub prefix_turn : (ps : List Prefix) (i : ℕ) (p : Prefix) (put : List ℕ) → i < length ps
    → put ≡ text_of_bits (prefix_bits (get_or ps i p)) → tok.Text put ∷ prefix_texts (drop (i + 1) ps) ≡ prefix_texts (drop i ps)
prefix_turn ps i p put lt e = rw (add-one, e) (ap prefix_texts (sym (drop-cons ps i p lt)))

-- a label that is there
pub some_label : (label : Option Lifetime) (l : Lifetime) (put : List ℕ) → label ≡ Some l → put ≡ l.text
    → tok.Text (codes " ") ∷ tok.Text put ∷ [] ≡ stream_of (label_form label Done)
some_label label l put is e = rw (is, e) refl
