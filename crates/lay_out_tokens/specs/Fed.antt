-- The stream of a token list, defined token by token over the flat list.
use Rattle.std.specs.Prelude.{Bool, true, false, cond, List, [], ◌∷◌, ◌++◌, pos}
use Rattle.lay_piece.specs.Forms.{opening, closing}
use Rattle.lay_layout.specs.declared.layout.Tok.{Tok}
use Rattle.lay_layout.specs.declared.layout.Tok.TheVariants.{Text, Break, Begin, End}
use Rattle.lay_piece.specs.declared.kind.Delim.{Delim}
use Rattle.lay_piece.specs.declared.kind.Delim.TheVariants.{Brace}
use Rattle.lay_piece.specs.declared.kind.Kind.{Kind}
use Rattle.lay_piece.specs.declared.kind.Kind.TheVariants.{Opener, Closer}
use Rattle.lay_token.specs.Delimiters.{is_closer}
use Rattle.lay_form.specs.Form.{Space, Soft, Hard, Done}
use Rattle.lay_form.specs.Layout.{break_of}
use Rattle.lay_form.specs.Stream.{stream_of}
use Rattle.lay_node.specs.tokens.Listing.{kind_of, listed_form}
use Rattle.lay_node.specs.tokens.Pairs.{Separation, NoBreak, SoftBreak, HardBreak, Seen, Single, Enclosed, is_nothing}
use Rattle.lay_node.specs.tokens.Pairs.{is_line_doc, between, seen_token, at_start, behind_group}
use Rattle.lay_node.specs.declared.token.Listed.{Listed}

abbrev pub fed_gap : Separation → List Tok
fed_gap NoBreak = []
fed_gap SoftBreak = Break (break_of (Soft false 1)) ∷ []
fed_gap HardBreak = Break (break_of (Hard false)) ∷ []

-- the breaks after an opener, and before a closer
abbrev pub opening_space : Delim → Space
opening_space Brace = Soft false 1
opening_space _ = Soft false 0

abbrev pub closing_space : Bool → Delim → Space
closing_space true d = Hard true
closing_space false Brace = Soft true 1
closing_space false _ = Soft true 0

-- the tokens that open a group, and those that close it; the flag says that its last token is
-- documentation on a line
abbrev pub opened : Delim → List Tok
opened d = Begin true (pos 4) ∷ Text (opening d ∷ []) ∷ Break (break_of (opening_space d)) ∷ Begin false (pos 0) ∷ []

abbrev pub closed : Bool → Delim → List Tok
closed line d = End ∷ Break (break_of (closing_space line d)) ∷ Text (closing d ∷ []) ∷ End ∷ []

-- a group without tokens, as one text
abbrev pub empty_group : Delim → List Tok
empty_group d = Text (opening d ∷ closing d ∷ []) ∷ []

-- The next token is a closer.
abbrev pub closes_at_once : List Listed → Bool
closes_at_once [] = false
closes_at_once (t ∷ ts) = is_closer (kind_of t)

-- A group without tokens is fed at its opener.
abbrev pub fed_opener : Bool → Delim → List Tok
fed_opener empty d = cond empty (empty_group d) (opened d)

abbrev pub fed_closer : Seen → Delim → List Tok
fed_closer s d = cond (is_nothing s.last) [] (closed (is_line_doc s.last) d)

abbrev pub fed_by : Kind → Seen → Listed → List Listed → List Tok
fed_by (Opener d) s t ts = fed_gap (between s (Enclosed d)) ++ fed_opener (closes_at_once ts) d
fed_by (Closer d) s t ts = fed_closer s d
fed_by _ s t ts = fed_gap (between s (Single t)) ++ stream_of (listed_form t Done)

abbrev pub seen_by : Kind → Seen → Listed → Seen
seen_by (Opener d) s t = at_start s.count
seen_by (Closer d) s t = behind_group d s.count
seen_by _ s t = seen_token s t

-- the stream of one token, by those that follow it, and the state of the scan after it
unfoldable pub fed_token : Seen → Listed → List Listed → List Tok
fed_token s t ts = fed_by (kind_of t) s t ts

unfoldable pub seen_behind : Seen → Listed → Seen
seen_behind s t = seen_by (kind_of t) s t

-- the same for a list of tokens
unfoldable pub fed_tokens : Seen → List Listed → List Tok
fed_tokens s [] = []
fed_tokens s (t ∷ ts) = fed_token s t ts ++ fed_tokens (seen_behind s t) ts

unfoldable pub seen_over : Seen → List Listed → Seen
seen_over s [] = s
seen_over s (t ∷ ts) = seen_over (seen_behind s t) ts
