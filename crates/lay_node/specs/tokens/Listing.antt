-- The tokens of a token list: tests of each token, balanced lists, and groups by delimiters.
use Rattle.std.specs.Prelude.{ℕ, Bool, true, false, cond, not, ◌&&◌, List, [], ◌∷◌, Option, Some, None}
use Rattle.lay_piece.specs.Docs.{doc_form}
use Rattle.lay_token.specs.Lexes.{is_punct}
use Rattle.lay_piece.specs.declared.doc.DocForm.{DocForm}
use Rattle.lay_piece.specs.declared.doc.DocForm.TheVariants as doc
use Rattle.lay_piece.specs.declared.kind.Delim.{Delim}
use Rattle.lay_piece.specs.declared.kind.Kind.{Kind}
use Rattle.lay_piece.specs.declared.kind.Kind.TheVariants.{Opener, Closer, Doc}
use Rattle.lay_token.specs.declared.token.Token.{Token}
use Rattle.lay_form.specs.Form as form
use Rattle.lay_form.specs.Form.{Form}
use Rattle.lay_form.specs.Layout.{is_block}
use Rattle.lay_node.specs.Ahead.{same_delim}
use Rattle.lay_node.specs.declared.token.Listed.{Listed}
use Rattle.lay_node.specs.declared.token.Listed.TheVariants as listed

abbrev pub is_doc_kind : Kind → Bool
is_doc_kind (Doc inner block) = true
is_doc_kind _ = false

-- Whether documentation was a block doesn't count.
abbrev pub kind_of : Listed → Kind
kind_of (listed.Token kind text joint) = kind
kind_of (listed.Doc inner text) = Doc inner false

abbrev pub text_of : Listed → List ℕ
text_of (listed.Token kind text joint) = text
text_of (listed.Doc inner text) = text

abbrev pub is_joint : Listed → Bool
is_joint (listed.Token kind text joint) = joint
is_joint (listed.Doc inner text) = false

abbrev pub is_doc : Listed → Bool
is_doc (listed.Token kind text joint) = false
is_doc (listed.Doc inner text) = true

-- Documentation can be written with the text.
abbrev pub has_form_of_doc : DocForm → Bool
has_form_of_doc doc.Neither = false
has_form_of_doc _ = true

abbrev pub is_doc_text : Bool → List ℕ → Bool
is_doc_text inner text = has_form_of_doc (doc_form inner text)

-- documentation that is laid out on a line
abbrev pub is_line_doc : Listed → Bool
is_line_doc (listed.Token kind text joint) = false
is_line_doc (listed.Doc inner text) = not (is_block (doc_form inner text))

-- a token, and what follows it
abbrev pub listed_form : Listed → Form → Form
listed_form (listed.Token kind text joint) f = form.Listed kind text joint f
listed_form (listed.Doc inner text) f = form.ListedDoc inner text f

-- The token as an element of a list. Only punctuation is joint.
abbrev pub listed_by : Kind → List ℕ → Bool → Listed
listed_by (Doc inner block) text joint = listed.Doc inner text
listed_by kind text joint = listed.Token kind text (is_punct kind && joint)

abbrev pub as_listed : Token → Listed
as_listed t = listed_by t.kind t.text t.joint

-- ---- balance

-- The delimiters that are open after a token of this kind, the last one first, by those open before
-- it. None after a closer that doesn't match the last one.
abbrev pub closed : Delim → List Delim → Option (List Delim)
closed d [] = None
closed d (e ∷ within) = cond (same_delim d e) (Some within) None

abbrev pub turned : Kind → List Delim → Option (List Delim)
turned (Opener d) within = Some (d ∷ within)
turned (Closer d) within = closed d within
turned _ within = Some within

-- All delimiters are closed after the tokens; these are open before them.
abbrev pub balances : List Delim → List Listed → Bool
balances [] [] = true
balances (d ∷ within) [] = false
balances within (t ∷ ts) = elim (turned (kind_of t) within) [ None ↦ false | Some more ↦ balances more ts ]

abbrev pub is_balanced : List Listed → Bool
is_balanced ts = balances [] ts

-- ---- groups

-- the tokens of a list, in groups by their delimiters
pub data Grouping : Type 0 where
  NoMore : Grouping
  OneToken : Listed → Grouping → Grouping
  OneGroup : Delim → Grouping → Grouping → Grouping

-- The tokens from a place on. `grouping` goes up to the closer of the group that the place is in.
-- `outer` is what follows each group that the place is in, from the inside out.
pub record Nested : Type 0 where
  pub grouping : Grouping
  pub outer : List Grouping

abbrev pub enclosed : Delim → Listed → Grouping → List Grouping → Nested
enclosed d t inner [] = record { grouping = OneToken t inner; outer = [] }
enclosed d t inner (behind ∷ outer) = record { grouping = OneGroup d inner behind; outer = outer }

abbrev pub nested_by : Kind → Listed → Nested → Nested
nested_by (Closer d) t s = record { grouping = NoMore; outer = s.grouping ∷ s.outer }
nested_by (Opener d) t s = enclosed d t s.grouping s.outer
nested_by _ t s = record { grouping = OneToken t s.grouping; outer = s.outer }

abbrev pub nested : List Listed → Nested
nested [] = record { grouping = NoMore; outer = [] }
nested (t ∷ ts) = nested_by (kind_of t) t (nested ts)

abbrev pub in_groups : List Listed → Grouping
in_groups ts = (nested ts).grouping
