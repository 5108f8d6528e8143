-- Attributes and documentation: when they are well formed, and their forms (Rust Reference,
-- "Attributes", "Comments").
use Rattle.std.specs.Prelude.{ℕ, Bool, true, false, cond, ◌&&◌, ◌||◌, not, List, [], ◌∷◌, codes, Option, Some, None, encode_utf8_all}
use Rattle.std.specs.List.{list_all}
use Rattle.std.specs.Str.{chars, bytes_eq}
use Rattle.lay_piece.specs.Value.{value_of}
use Rattle.lay_piece.specs.declared.kind.Delim.TheVariants.{Bracket}
use Rattle.lay_form.specs.Form.{Blank, Operator, Form, Done, Piece, Part, Docs, keyword, closer}
use Rattle.lay_form.specs.Notation.{H, piece}
use Rattle.lay_form.specs.Spelled.{attr_opening}
use Rattle.lay_node.specs.nodes.Call.{is_group}
use Rattle.lay_node.specs.nodes.Facts.{Facts}
use Rattle.lay_node.specs.nodes.SimplePath.{is_simple_path, simple_path_form}
use Rattle.lay_node.specs.tokens.Lexed.{is_token_list}
use Rattle.lay_node.specs.tokens.Lists.{group_form, token_list}
use Rattle.lay_node.specs.tokens.Listing.{is_doc_text, is_line_doc}
use Rattle.lay_node.specs.declared.attr.Attr.{Attr}
use Rattle.lay_node.specs.declared.attr.Attr.TheVariants as attr
use Rattle.lay_node.specs.declared.attr.MetaInput.{MetaInput}
use Rattle.lay_node.specs.declared.attr.MetaInput.TheVariants as input
use Rattle.lay_node.specs.declared.attr.MetaPath.{MetaPath}
use Rattle.lay_node.specs.declared.attr.MetaPath.TheVariants as meta_path
use Rattle.lay_node.specs.declared.token.Listed.{Listed}
use Rattle.lay_node.specs.declared.token.Listed.TheVariants as listed
use Rattle.lay_node.specs.declared.token.Word.{Word}

-- ---- what is documentation

abbrev pub is_doc_value : Bool → Option (List ℕ) → Bool
is_doc_value inner None = false
is_doc_value inner (Some value) = is_doc_text inner (encode_utf8_all value)

-- the value of a token list that is one string alone
abbrev pub string_of : List Listed → Option (List ℕ)
string_of (listed.Token kind text joint ∷ []) = value_of kind (chars text)
string_of _ = None

abbrev pub is_doc_word : Word → Bool
is_doc_word word = not word.raw && bytes_eq word.text (codes "doc")

abbrev pub is_doc_words : List Word → Bool
is_doc_words [] = false
is_doc_words (w ∷ []) = is_doc_word w
is_doc_words (w ∷ v ∷ more) = false

abbrev pub is_doc_path : MetaPath → Bool
is_doc_path (meta_path.Path path) = not path.global && is_doc_words path.words
is_doc_path meta_path.Unsafe = false

abbrev pub is_doc_input : Bool → MetaInput → Bool
is_doc_input inner (input.Value tokens) = is_doc_value inner (string_of tokens)
is_doc_input inner _ = false

-- ---- which attributes are well formed

abbrev pub is_meta_path : MetaPath → Bool
is_meta_path (meta_path.Path path) = is_simple_path path
is_meta_path meta_path.Unsafe = true

abbrev pub is_empty : List Listed → Bool
is_empty [] = true
is_empty (t ∷ ts) = false

abbrev pub is_input : MetaInput → Bool
is_input input.Bare = true
is_input (input.Group group) = is_group group
is_input (input.Value tokens) = not (is_empty tokens) && is_token_list tokens

abbrev pub same_flag : Bool → Bool → Bool
same_flag true other = other
same_flag false other = not other

-- The attribute is well formed. It is inner where it says something of what it stands in, and else
-- outer. Documentation that can be written as a comment is Doc. Each other attribute is Meta.
abbrev pub is_attr : Bool → Attr → Bool
is_attr inner (attr.Doc flag text) = same_flag inner flag && is_doc_text inner text
is_attr inner (attr.Meta flag path given) =
    same_flag inner flag && is_meta_path path && is_input given && not (is_doc_path path && is_doc_input inner given)

abbrev pub are_attrs : Bool → List Attr → Bool
are_attrs inner attrs = list_all (is_attr inner) attrs

-- ---- forms

abbrev pub meta_path_form : MetaPath → Form
meta_path_form (meta_path.Path path) = simple_path_form path
meta_path_form meta_path.Unsafe = piece (keyword (codes "unsafe") ∷ [])

abbrev pub input_form : MetaInput → Form → Form
input_form input.Bare f = f
input_form (input.Group group) f = group_form group f
input_form (input.Value tokens) f = Piece (Blank ∷ Operator (codes "=") ∷ Blank ∷ []) (Part (token_list tokens) f)

abbrev pub attr_form : Attr → Form
attr_form (attr.Doc inner text) = Docs inner text Done
attr_form (attr.Meta inner path input) =
    Piece (attr_opening inner) (Part (meta_path_form path) (input_form input (piece (closer Bracket ∷ []))))

-- An attribute within other parts, and what follows it. After an inner one nothing is put. After an
-- outer one a newline is put where `own_line` is true, or where it is documentation on a line; else
-- a blank.
abbrev pub is_line : Attr → Bool
is_line (attr.Doc inner text) = is_line_doc (listed.Doc inner text)
is_line (attr.Meta inner path input) = false

abbrev pub is_inner : Attr → Bool
is_inner (attr.Doc inner text) = inner
is_inner (attr.Meta inner path input) = inner

abbrev pub behind_attr : Bool → Attr → Form → Form
behind_attr own_line a f = cond (is_inner a) f (cond (own_line || is_line a) (H f) (Piece (Blank ∷ []) f))

abbrev pub attr_part : Bool → Attr → Form → Form
attr_part own_line a f = Part (attr_form a) (behind_attr own_line a f)

-- The facts about an inner or an outer attribute. It ends in its `]` or with its comment, so
-- anything may follow.
abbrev pub about_attr : Bool → Attr → Facts
about_attr inner a = record { form = attr_form a; good = is_attr inner a; refuses = [] }
