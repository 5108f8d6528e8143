-- The parser of token lists and groups.
use Rattle.std.specs.Prelude.{Bool, true, false, ◌||◌, if◌then◌else◌, List, [], ◌∷◌, map, codes, Some, None}
use Rattle.std.specs.List.{list_all}
use Rattle.lay_token.specs.Delimiters.{is_closer}
use Rattle.lay_piece.specs.declared.kind.Delim.{Delim}
use Rattle.lay_piece.specs.declared.kind.Kind.{Kind}
use Rattle.lay_piece.specs.declared.kind.Kind.TheVariants.{Opener}
use Rattle.lay_token.specs.declared.token.Token.{Token}
use Rattle.lay_node.specs.Ahead.{Tokens, closes, is_mark}
use Rattle.lay_node.specs.reader.Loops.{Got, ◌>>=◌, passed}
use Rattle.lay_node.specs.tokens.Lexed.{may_be_laid}
use Rattle.lay_node.specs.tokens.Listing.{as_listed, turned}
use Rattle.lay_node.specs.declared.token.Listed.{Listed}
use Rattle.lay_node.specs.declared.tokens.Group.{Group}

-- The token ends a run, in which these delimiters are open. It closes the group that the run stands
-- in, or it is a comma where the run goes up to one.
abbrev pub ends_run : Bool → List Delim → Token → Bool
ends_run false [] t = is_closer t.kind
ends_run true [] t = is_closer t.kind || is_mark (codes ",") t
ends_run to_comma (d ∷ within) t = false

-- the tokens up to the closer of the group that they stand in, to a comma if asked for, or to the
-- end; these delimiters are open
unfoldable pub run : Bool → List Delim → Tokens → Got (List Token)
run to_comma [] [] = Some ([], [])
run to_comma (d ∷ within) [] = None
run to_comma within (t ∷ ts) =
    if ends_run to_comma within t then Some ([], t ∷ ts)
    else (do more ← turned t.kind within; r ← run to_comma more ts; Some (t ∷ r.0, r.1))

-- the token list of a run; documentation in it has a text that it may be laid out with
unfoldable pub tokens_of : Bool → Tokens → Got (List Listed)
tokens_of to_comma ts = do
  r ← run to_comma [] ts
  if list_all may_be_laid (map as_listed r.0) then Some (map as_listed r.0, r.1) else None

-- the token list at the start of the tokens
abbrev pub tokens : Tokens → Got (List Listed)
tokens ts = tokens_of false ts

-- the token list up to a comma outside its groups
abbrev pub tokens_before_comma : Tokens → Got (List Listed)
tokens_before_comma ts = tokens_of true ts

-- a group
unfoldable pub group : Tokens → Got Group
group [] = None
group (t ∷ ts) = by_kind t.kind
  where
    by_kind : Kind → Got Group
    by_kind (Opener d) = do us ← tokens ts; rest ← passed (closes d) us.1; Some (record { delim = d; tokens = us.0 }, rest)
    by_kind kind = None
