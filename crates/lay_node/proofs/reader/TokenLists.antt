-- Token lists up to what ends a run of tokens, a closer, or also a comma: what is read is spelled, and what is spelled is
-- read.
use Rattle.std.proofs.Common.{◌≡◌, ℕ, Bool, true, false, [], ◌∷◌, List, codes, Some, refl, subst}
use Rattle.lay_form.specs.Spelled.{Spells}
use Rattle.lay_node.specs.Ahead.{Tokens, first}
use Rattle.lay_node.specs.nodes.Fields.{has_comma}
use Rattle.lay_node.specs.reader.Exact.{InText}
use Rattle.lay_node.specs.reader.Tokens.{ends_run, tokens_before_comma, tokens_of}
use Rattle.lay_node.specs.tokens.Lexed.{is_token_list}
use Rattle.lay_node.specs.tokens.Lists.{ended_by, ends_in_line, token_list}
use Rattle.lay_node.specs.tokens.Pairs as pairs
use Rattle.lay_node.specs.tokens.Pairs.{at_start}
use Rattle.lay_node.specs.declared.token.Listed.{Listed}
use Rattle.lay_node.proofs.InText.{behind_all}
use Rattle.lay_node.proofs.reader.Tokens.{ListTo, StopsAt, list_good, list_row_of, row_tokens, tokens_is}
use Rattle.lay_node.proofs.token_lists.Commas.{Commaless}
use Rattle.lay_node.proofs.token_lists.Spelling.{IsRow, list_row, list_spelled}

-- What ends a run comes next.
abbrev pub EndsRun : Bool → Tokens → Type 0
EndsRun to_comma ts = first (λ t. ends_run to_comma [] t) ts ≡ true

-- What ends a list is laid out alone.
line_ended : (line : Bool) (depth : ℕ) (ts : Tokens) → Spells (ended_by line) depth ts ts
line_ended true depth ts = refl
line_ended false depth ts = refl

line_left : (line : Bool) (depth : ℕ) (ts rest : Tokens) → Spells (ended_by line) depth ts rest → ts ≡ rest
line_left true depth ts rest s = s
line_left false depth ts rest s = s

-- A list that is read after what is no point, up to what ends a run, is spelled there.
pub tokens_held : (to_comma : Bool) (depth : ℕ) (ts : Tokens) (us : List Listed) (mid : Tokens) (i : InText ts) → pairs.is_mark (codes ".") i.last ≡ false
    → ListTo to_comma ts us mid → EndsRun to_comma mid
    → Spells (token_list us) depth ts mid × (is_token_list us ≡ true) × InText mid
tokens_held to_comma depth ts us [] i n l e = absurd (cc)
tokens_held to_comma depth ts us (c ∷ end) i n l e =
    let good = list_good to_comma ts us c end i n e l in
    let row = list_row_of to_comma ts us (c ∷ end) l in
    let inner = list_spelled us (at_start 0) depth ts (c ∷ end) good i.loose row in (
      (c ∷ end, inner, line_ended (ends_in_line us) depth (c ∷ end)),
      good,
      behind_all l.read (c ∷ end) (subst InText l.there.whole i),
    )

-- A list that is spelled before what ends a run is read.
pub list_there : (to_comma : Bool) (us : List Listed) (depth : ℕ) (ts mid : Tokens) → is_token_list us ≡ true → Commaless to_comma 0 us
    → Spells (token_list us) depth ts mid → EndsRun to_comma mid → tokens_of to_comma ts ≡ Some (us, mid)
list_there to_comma us depth ts mid g n s e =
    read_to mid (subst (IsRow us ts) (line_left (ends_in_line us) depth s.0 mid s.2) (list_row us (at_start 0) depth ts s.0 g s.1)) e
  where
    read_to : (mid : Tokens) → IsRow us ts mid → EndsRun to_comma mid → tokens_of to_comma ts ≡ Some (us, mid)
    read_to [] r e = absurd (cc)
    read_to (c ∷ end) r e = row_tokens to_comma us ts c end g n e r

-- ---- up to a comma

-- A run up to a comma stops before a closer, a comma or the end.
pub before_comma_stops : (ts : Tokens) (us : List Listed) (rest : Tokens) → tokens_before_comma ts ≡ Some (us, rest) → StopsAt true rest
before_comma_stops ts us rest h = (tokens_is true ts us rest h).there.stops

-- What is read so, where a closer or a comma stands after it, has no comma outside its groups.
pub before_comma_sound : (depth : ℕ) (ts : Tokens) (us : List Listed) (rest : Tokens) (i : InText ts) → pairs.is_mark (codes ".") i.last ≡ false
    → tokens_before_comma ts ≡ Some (us, rest) → EndsRun true rest
    → Spells (token_list us) depth ts rest × (is_token_list us ≡ true) × (has_comma 0 us ≡ false) × InText rest
before_comma_sound depth ts us rest i n h e =
    let l = tokens_is true ts us rest h in
    let s = tokens_held true depth ts us rest i n l e in
    (s.0, s.1, subst (λ vs. has_comma 0 vs ≡ false) l.listed l.there.commaless, s.2)

pub before_comma_complete : (us : List Listed) (depth : ℕ) (ts mid : Tokens) → is_token_list us ≡ true → has_comma 0 us ≡ false
    → Spells (token_list us) depth ts mid → EndsRun true mid → tokens_before_comma ts ≡ Some (us, mid)
before_comma_complete us depth ts mid g n s e = list_there true us depth ts mid g n s e
