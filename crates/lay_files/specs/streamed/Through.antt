-- What is fed to the printer from a text that is parsed window by window.
use Rattle.std.specs.Prelude.{ℕ, ◌≡◌, Bool, true, false, not, List, [], ◌∷◌, ◌++◌, codes, map, Option, None, Ok}
use Rattle.lay_layout.specs.Document.{stream}
use Rattle.lay_layout.specs.declared.layout.Tok.{Tok}
use Rattle.lay_layout.specs.declared.layout.Tok.TheVariants as tok
use Rattle.lay_token.specs.declared.token.Token.{Token}
use Rattle.lay_form.specs.Form.{Form, Done}
use Rattle.lay_form.specs.Notation.{H, behind_attrs, each, lines}
use Rattle.lay_form.specs.Stream.{stream_of}
use Rattle.lay_node.specs.nodes.Attr.{attr_form}
use Rattle.lay_node.specs.nodes.Facts.{forms}
use Rattle.lay_node.specs.declared.attr.Attr.{Attr}
use Rattle.lay_node.specs.declared.heads.Site.TheVariants.{Module}
use Rattle.lay_code.specs.Out.{layout_of_file}
use Rattle.lay_code.specs.nodes.Code.{about_item, form_of_item}
use Rattle.lay_code.specs.declared.item.Item.{Item}
use Rattle.lay_code.specs.nodes.Item.{module_head}
use Rattle.lay_code.specs.declared.file.File.{File}
use Rattle.lay_lex.specs.declared.window.Stop.{Stop}
use Rattle.lay_lex.specs.declared.window.Stop.TheVariants.{Closed}
use Rattle.lay_stream.specs.Fed.{Meanings, Puts}
use Rattle.lay_out_heads.specs.FieldRows.{body_closed, body_opened, line}
use Rattle.lay_out_code.specs.Parts.{head_row}
use Rattle.lay_files.specs.windows.Bodies.{BodyAs, FileAs}
use Rattle.lay_files.specs.windows.Parts.{AddsAttrs, AddsInner, AddsItems, PartsAs, module_of, parts_of}
use Rattle.lay_files.specs.declared.windows.heads.Head.{Head}

-- The stream of parts. In a module a newline stands before each part, and in a file after each one.
abbrev pub rows : Bool → List Form → List Tok
rows true parts = stream_of (each H parts)
rows false parts = stream_of (lines parts)

-- ---- modules

-- the newline before a part of a module, and none before a part of a file
abbrev pub line_before : Bool → List Tok
line_before true = line
line_before false = []

abbrev pub line_behind : Bool → List Tok
line_behind true = []
line_behind false = line

-- the head of a module without its `{`, after its attributes
abbrev pub module_row : Head → List Tok
module_row head = stream_of (behind_attrs (map attr_form head.attrs) Done) ++ head_row head.vis (module_head head.name)

-- what a module begins with, up to its braces
abbrev pub module_begun : Bool → Head → List Tok
module_begun within head = line_before within ++ module_row head

abbrev pub opening : Bool → Head → List Tok
opening within head = module_begun within head ++ body_opened true

abbrev pub closing : Bool → List Tok
closing within = body_closed ++ line_behind within

abbrev pub empty_module : Bool → Head → List Tok
empty_module within head = module_begun within head ++ (tok.Text (codes " {}") ∷ line_behind within)

-- ---- parts of a window

-- Inner attributes come next, and their stream was appended.
pub record PutsAttrs {S F : Type 0} (m : Meanings S F) (within : Bool) (ahead left : List Token) (old new : S) : Type 0 where
  pub attrs : List Attr
  pub stand : AddsAttrs true [] attrs ahead left
  pub puts : Puts m old (rows within (map attr_form attrs)) new

-- The same where no item stands before them. Otherwise there are no inner attributes.
pub record PutsInner {S F : Type 0} (m : Meanings S F) (within are_items : Bool) (ahead left : List Token) (old new : S) : Type 0 where
  pub attrs : List Attr
  pub stand : AddsInner (not are_items) [] attrs ahead left
  pub puts : Puts m old (rows within (map attr_form attrs)) new

-- Items come next, and their stream was appended. The second flag is set where the first one is,
-- and where there is an item.
pub record PutsItems {S F : Type 0} (m : Meanings S F) (within : Bool) (depth : ℕ) (before after : Bool) (ahead left : List Token)
    (old new : S) : Type 0 where
  pub items : List Item
  pub stand : AddsItems depth [] items ahead left
  pub none : after ≡ false → (before ≡ false) × (items ≡ [])
  pub puts : Puts m old (rows within (forms (map (about_item Module) items))) new

-- a file that holds nothing
abbrev pub bare : File
bare = record { shebang = None; attrs = []; items = [] }

-- The tokens are parts of a file, and the head of a module if one stands after them. The stream of
-- the parts was appended.
pub record PutsParts {S F : Type 0} (m : Meanings S F) (within : Bool) (depth : ℕ) (tokens : List Token) (before after : Bool)
    (head : Option Head) (old new : S) : Type 0 where
  pub file : File
  pub reads : PartsAs depth tokens bare file (Ok head)
  pub inner : before ≡ true → file.attrs ≡ []
  pub none : after ≡ false → (before ≡ false) × (file.items ≡ [])
  pub puts : Puts m old (rows within (parts_of file)) new

-- ---- answers

-- The window is nothing but the closing brace of a module.
abbrev pub is_empty_body : List Token → Stop → Bool
is_empty_body [] Closed = true
is_empty_body _ _ = false

-- The text lexes to tokens that spell a file at the depth, and the stream of the file's layout was
-- appended.
pub record PutsFile {S F : Type 0} (m : Meanings S F) (depth : ℕ) (text : List ℕ) (start : ℕ) (old new : S) : Type 0 where
  pub file : File
  pub reads : FileAs depth text start (Ok file)
  pub puts : Puts m old (stream (layout_of_file file)) new

-- The same for the parts of a file or of a module, from one position to another. If the body of a
-- module holds nothing, its first window was the closing brace alone.
pub record PutsBody {S F : Type 0} (m : Meanings S F) (within : Bool) (depth : ℕ) (text : List ℕ) (start end : ℕ) (first : List Token)
    (stop : Stop) (closed : Bool) (old new : S) : Type 0 where
  pub file : File
  pub reads : BodyAs depth text start end file (Ok closed)
  pub puts : Puts m old (rows within (parts_of file)) new
  pub empty : closed ≡ true → parts_of file ≡ [] → (first ≡ []) × (stop ≡ Closed)

-- The body of a module stands from one position to another, at the depth, and the stream of the
-- module was appended.
pub record PutsModule {S F : Type 0} (m : Meanings S F) (within : Bool) (depth : ℕ) (text : List ℕ) (start end : ℕ) (head : Head) (old new : S) : Type 0 where
  pub body : File
  pub reads : BodyAs depth text start end body (Ok true)
  pub puts : Puts m old (rows within (form_of_item (module_of head body) ∷ [])) new
