-- The parser of attributes.
use Rattle.std.specs.Prelude.{ℕ, ◌&&◌, ◌||◌, Bool, true, false, if◌then◌else◌, List, [], ◌∷◌, drop, codes, encode_utf8_all, Option, Some, None}
use Rattle.lay_token.specs.Delimiters.{is_opener}
use Rattle.lay_token.specs.Operators.{is_op}
use Rattle.lay_piece.specs.declared.kind.Delim.TheVariants.{Bracket}
use Rattle.lay_piece.specs.declared.kind.Kind.{Kind}
use Rattle.lay_piece.specs.declared.kind.Kind.TheVariants.{Doc}
use Rattle.lay_token.specs.declared.token.Token.{Token}
use Rattle.lay_node.specs.Ahead.{Tokens, first, tail, is_keyword, is_mark, opens, closes}
use Rattle.lay_node.specs.nodes.Attr.{is_doc_path, is_empty, same_flag, string_of}
use Rattle.lay_node.specs.reader.Loops.{Got, ◌>>=◌, passed, repeat}
use Rattle.lay_node.specs.reader.SimplePath.{simple_path}
use Rattle.lay_node.specs.reader.Tokens.{tokens, group}
use Rattle.lay_node.specs.tokens.Listing.{is_doc_text}
use Rattle.lay_node.specs.declared.attr.Attr.{Attr}
use Rattle.lay_node.specs.declared.attr.Attr.TheVariants as attr
use Rattle.lay_node.specs.declared.attr.MetaInput.{MetaInput}
use Rattle.lay_node.specs.declared.attr.MetaInput.TheVariants as input
use Rattle.lay_node.specs.declared.attr.MetaPath.{MetaPath}
use Rattle.lay_node.specs.declared.attr.MetaPath.TheVariants as meta_path

abbrev pub begins_group : Token → Bool
begins_group t = is_opener t.kind

unfoldable pub meta_name : Tokens → Got MetaPath
meta_name ts =
    if first (is_keyword (codes "unsafe")) ts then Some (meta_path.Unsafe, tail ts)
    else (do p ← simple_path ts; Some (meta_path.Path p.0, p.1))

-- a token list of one token at least, after the `=`
unfoldable pub value : Tokens → Got MetaInput
value ts = do us ← tokens (drop 1 ts); if is_empty us.0 then None else Some (input.Value us.0, us.1)

abbrev pub grouped : Tokens → Got MetaInput
grouped ts = do g ← group ts; Some (input.Group g.0, g.1)

unfoldable pub meta_input : Tokens → Got MetaInput
meta_input ts =
    if is_op (codes "=") ts then value ts
    else (if first begins_group ts then grouped ts else Some (input.Bare, ts))

-- documentation, if the value can be written as such; else the other attribute
abbrev pub doc_or : Bool → Option (List ℕ) → Attr → Attr
doc_or inner None other = other
doc_or inner (Some value) other =
    if is_doc_text inner (encode_utf8_all value) then attr.Doc inner (encode_utf8_all value) else other

-- the attribute of this name and input
abbrev pub made : Bool → MetaPath → MetaInput → Attr
made inner path (input.Value us) =
    if is_doc_path path then doc_or inner (string_of us) (attr.Meta inner path (input.Value us))
    else attr.Meta inner path (input.Value us)
made inner path given = attr.Meta inner path given

-- what follows `#[`, or `#![` of an inner attribute
abbrev pub behind_opening : Bool → Tokens → Option Tokens
behind_opening false ts = do mark ← passed (is_mark (codes "#")) ts; passed (opens Bracket) mark
behind_opening true ts = do mark ← passed (is_mark (codes "#")) ts; bang ← passed (is_mark (codes "!")) mark; passed (opens Bracket) bang

unfoldable pub meta_attr : Bool → Tokens → Got Attr
meta_attr inner ts = do
  inside ← behind_opening inner ts
  path ← meta_name inside
  given ← meta_input path.1
  rest ← passed (closes Bracket) given.1
  Some (made inner path.0 given.0, rest)

abbrev pub is_doc_kind : Bool → Kind → Bool
is_doc_kind inner (Doc flag block) = same_flag inner flag
is_doc_kind inner kind = false

abbrev pub is_doc : Bool → Token → Bool
is_doc inner t = is_doc_kind inner t.kind

unfoldable pub doc_attr : Bool → Tokens → Got Attr
doc_attr inner [] = None
doc_attr inner (t ∷ ts) = if is_doc_text inner t.text then Some (attr.Doc inner t.text, ts) else None

unfoldable pub attribute : Bool → Tokens → Got Attr
attribute inner ts = if first (is_doc inner) ts then doc_attr inner ts else meta_attr inner ts

-- An attribute begins. The first token decides it for an outer one, and the first two for an inner
-- one.
abbrev pub begins_attr : Bool → Tokens → Bool
begins_attr false ts = first (is_doc false) ts || first (is_mark (codes "#")) ts
begins_attr true ts = first (is_doc true) ts || first (is_mark (codes "#")) ts && first (is_mark (codes "!")) (tail ts)

unfoldable pub attributes : Bool → Tokens → Got (List Attr)
attributes inner ts = repeat (begins_attr inner) (attribute inner) ts
