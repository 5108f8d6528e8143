-- Token lists and groups tell their units: each token is a word, and documentation on a line has a newline after it.
use Rattle.std.proofs.Common.{◌≡◌, ℕ, Bool, true, false, cond, not, ◌&&◌, ◌||◌, List, [], ◌∷◌, ◌++◌, codes, refl, sym, ap, ap₂, ◌∙◌, subst, drop}
use Rattle.std.specs.Prelude.{⊤}
use Rattle.std.specs.List.{list_all}
use Rattle.std.specs.Str.{bytes_eq, is_utf8}
use Rattle.std.proofs.lemmas.Bool.{and_parts, and_from, not-true}
use Rattle.std.proofs.lemmas.List.Folds.{list_all-append}
use Rattle.lay_piece.specs.Docs.{doc_form}
use Rattle.lay_piece.specs.declared.kind.Delim.{Delim}
use Rattle.lay_piece.specs.declared.kind.Delim.TheVariants.{Paren, Bracket, Brace}
use Rattle.lay_piece.specs.declared.kind.Kind.{Kind}
use Rattle.lay_piece.specs.declared.kind.Kind.TheVariants.{Opener, Closer, Doc}
use Rattle.lay_token.specs.Delimiters.{is_opener, is_closer}
use Rattle.lay_token.specs.Lexes.{is_punct}
use Rattle.lay_form.specs.Form.{Form, Done, Piece, Listed, ListedDoc, Group, Part, opener, closer}
use Rattle.lay_form.specs.Layout.{is_block}
use Rattle.lay_form.specs.Notation.{I0, piece}
use Rattle.lay_form.specs.Pieces.{is_text_of, are_pieces}
use Rattle.lay_node.specs.tokens.Lexed.{fits, is_had, is_token_list}
use Rattle.lay_node.specs.tokens.Listing.{kind_of, is_doc_kind, listed_form, Grouping, NoMore, OneToken, OneGroup, in_groups}
use Rattle.lay_node.specs.tokens.Lists.{closed_by, ended_by, enclosed_form, ends_in_line, form_of_grouping, group_form, opened_by, token_list}
use Rattle.lay_node.specs.tokens.Pairs.{Neighbour, Nothing, Single, Enclosed, Seen, Separation, NoBreak, SoftBreak, HardBreak, at_start, behind_group, between, first_row, is_line_doc, is_nothing, leads, rows, seen_all, seen_token}
use Rattle.lay_node.specs.declared.token.Listed.{Listed as ListedToken}
use Rattle.lay_node.specs.declared.token.Listed.TheVariants as listed
use Rattle.lay_node.specs.declared.tokens.Group.{Group as TokenGroup}
use Rattle.lay_node.proofs.token_lists.Grouped.{InGroups, closer_token, flat, list_grouped}
use Rattle.lay_map.specs.spelling.Choice.{calm, clear, closes, is_settled, opens}
use Rattle.lay_map.specs.spelling.Units.{Word, Told, words}
use Rattle.lay_map.specs.Flow.{Wait, Still, Said, Laid, InLine, Flow, Lost, At, are_comma, entered, flow, group_flow, is_open, leaf_flow, left}
use Rattle.lay_map.proofs.PieceLemmas.{listed_texts}
use Rattle.lay_map.proofs.Rules.{Closing, Levels, Tells, kept_in, levels_behind, levels_two, no_levels}

-- ---- what stands between two tokens

abbrev is_hard : Separation → Bool
is_hard HardBreak = true
is_hard _ = false

soft_rows : (rs : List (Bool × Separation)) → list_all (λ (r : Bool × Separation). not (is_hard r.1)) rs ≡ true → is_hard (first_row rs) ≡ false
soft_rows [] h = refl
soft_rows (r ∷ rs) h =
    let p = and_parts (not (is_hard r.1)) (list_all (λ (r : Bool × Separation). not (is_hard r.1)) rs) h in
    by r.0 r.1 p.0 (soft_rows rs p.1)
  where
    by : (b : Bool) (s : Separation) → not (is_hard s) ≡ true → is_hard (first_row rs) ≡ false → is_hard (cond b s (first_row rs)) ≡ false
    by true NoBreak g k = refl
    by true SoftBreak g k = refl
    by true HardBreak g k = absurd (cc g)
    by false s g k = k

-- A newline stands after documentation on a line alone.
soft_between : (s : Seen) (r : Neighbour) → is_line_doc s.last ≡ false → is_hard (between s r) ≡ false
soft_between s r h = by (is_nothing s.last)
  where
    rest : is_hard (cond (is_line_doc s.last) HardBreak (first_row (drop 2 (rows s r)))) ≡ false
    rest = ap (λ (b : Bool). is_hard (cond b HardBreak (first_row (drop 2 (rows s r))))) h ∙ soft_rows (drop 2 (rows s r)) refl

    by : (b : Bool) → is_hard (cond b NoBreak (cond (is_line_doc s.last) HardBreak (first_row (drop 2 (rows s r))))) ≡ false
    by true = refl
    by false = rest

no_nothing : (l : Neighbour) → is_line_doc l ≡ true → is_nothing l ≡ false
no_nothing Nothing h = absurd (cc h)
no_nothing (Single t) h = refl
no_nothing (Enclosed d) h = refl

hard_between : (s : Seen) (r : Neighbour) → is_line_doc s.last ≡ true → between s r ≡ HardBreak
hard_between s r h =
    ap₂ (λ (x y : Bool). cond x NoBreak (cond y HardBreak (first_row (drop 2 (rows s r))))) (no_nothing s.last h) h

-- ---- what waits after tokens

-- what waits after these tokens
abbrev Waits : Seen → Wait → Type 0
Waits s Still = ⊤
Waits s Said = is_line_doc s.last ≡ false
Waits s Laid = ⊥
Waits s InLine = is_line_doc s.last ≡ true

-- the same where it is told by a flag whether documentation on a line comes last
abbrev WaitsBy : Bool → Wait → Type 0
WaitsBy line Still = ⊤
WaitsBy line Said = ⊤
WaitsBy line Laid = ⊥
WaitsBy line InLine = line ≡ true

-- From what is told so to what is told so.
record Goes (s : Seen) (a : Bool) (x : Flow) : Type 0 where
  wait : Wait
  is : x ≡ At wait a
  waits : Waits s wait

-- what waits after what leads to a token
record Led (a : Bool) (x : Flow) : Type 0 where
  wait : Wait
  is : x ≡ At wait a
  open_is : is_open wait ≡ true

-- A token is led to by no break, by a soft one or by a hard one.
lead_flow : (s : Seen) (r : Neighbour) (f : Form) (a : Bool) (w : Wait) → Waits s w
    → (v : Wait) × (is_open v ≡ true) × (flow (At w a) (leads (between s r) f) ≡ flow (At v a) f)
lead_flow s r f a Still k = by (between s r)
  where
    by : (x : Separation) → (v : Wait) × (is_open v ≡ true) × (flow (At Still a) (leads x f) ≡ flow (At v a) f)
    by NoBreak = (Still, refl, refl)
    by SoftBreak = (Still, refl, refl)
    by HardBreak = (Still, refl, refl)
lead_flow s r f a Said k = by (between s r) (soft_between s r k)
  where
    by : (x : Separation) → is_hard x ≡ false → (v : Wait) × (is_open v ≡ true) × (flow (At Said a) (leads x f) ≡ flow (At v a) f)
    by NoBreak h = (Said, refl, refl)
    by SoftBreak h = (Still, refl, refl)
    by HardBreak h = absurd (cc h)
lead_flow s r f a Laid k = absurd k
lead_flow s r f a InLine k = (Still, refl, ap (λ (x : Separation). flow (At InLine a) (leads x f)) (hard_between s r k))

-- ---- single tokens

abbrev is_single : ListedToken → Bool
is_single (listed.Token kind text joint) = not (is_doc_kind kind)
is_single (listed.Doc inner text) = true

-- what waits after a single token
token_flow : (s : Seen) (t : ListedToken) (f : Form) (a : Bool) (w : Wait) → is_open w ≡ true → is_single t ≡ true → are_pieces (listed_form t f) ≡ true
    → (v : Wait) × Waits (seen_token s t) v × (flow (At w a) (listed_form t f) ≡ flow (At v a) f)
token_flow s (listed.Token kind text joint) f a w o n p = by (bytes_eq text (codes ",")) refl
  where
    known : (bytes_eq text (codes ",") ≡ true → is_punct kind ≡ true) × (bytes_eq text (codes " => ") ≡ false)
    known = listed_texts kind text (not-true (is_doc_kind kind) n) (and_parts (is_text_of kind text) (are_pieces f) p).0

    -- the flow of a token that is no documentation
    flows : (k : Kind) → is_doc_kind k ≡ false
        → leaf_flow k text (At w a) ≡ cond (is_open w) (cond (bytes_eq text (codes ",")) (cond (are_comma (Told k text ∷ [])) (At Said a) Lost) (At Still (bytes_eq text (codes " => ") || a))) Lost
    flows (Doc inner block) d = absurd (cc d)
    flows k d = refl

    by : (c : Bool) → bytes_eq text (codes ",") ≡ c
        → (v : Wait) × Waits (seen_token s (listed.Token kind text joint)) v × (flow (At w a) (Listed kind text joint f) ≡ flow (At v a) f)
    by true e = (
      Said,
      refl,
      ap (λ (x : Flow). flow x f)
          (flows kind (not-true (is_doc_kind kind) n)
          ∙ ap₂ (λ (x y : Bool). cond x (cond y (cond (is_punct kind && y) (At Said a) Lost) (At Still (bytes_eq text (codes " => ") || a))) Lost) o e
          ∙ ap (λ (x : Bool). cond (x && true) (At Said a) Lost) (known.0 e)),
    )
    by false e = (
      Still,
      tt,
      ap (λ (x : Flow). flow x f)
          (flows kind (not-true (is_doc_kind kind) n)
          ∙ ap₂ (λ (x y : Bool). cond x (cond y (cond (is_punct kind && y) (At Said a) Lost) (At Still (bytes_eq text (codes " => ") || a))) Lost) o e
          ∙ ap (λ (x : Bool). At Still (x || a)) known.1),
    )
token_flow s (listed.Doc inner text) f a w o n p = by (is_block (doc_form inner text)) refl
  where
    by : (c : Bool) → is_block (doc_form inner text) ≡ c
        → (v : Wait) × Waits (seen_token s (listed.Doc inner text)) v × (flow (At w a) (ListedDoc inner text f) ≡ flow (At v a) f)
    by true e = (Still, tt, ap₂ (λ (x y : Bool). flow (cond x (At (cond y Still InLine) a) Lost) f) o e)
    by false e = (InLine, ap not e, ap₂ (λ (x y : Bool). flow (cond x (At (cond y Still InLine) a) Lost) f) o e)

-- ---- groups

abbrev Singles : Grouping → Type 0
Singles NoMore = ⊤
Singles (OneToken t r) = (is_single t ≡ true) × Singles r
Singles (OneGroup d i r) = Singles i × Singles r

rest_pieces : (t : ListedToken) (f : Form) → are_pieces (listed_form t f) ≡ true → are_pieces f ≡ true
rest_pieces (listed.Token kind text joint) f p = (and_parts (is_text_of kind text) (are_pieces f) p).1
rest_pieces (listed.Doc inner text) f p = (and_parts (is_utf8 text) (are_pieces f) p).1

led_pieces : (x : Separation) (f : Form) → are_pieces (leads x f) ≡ true → are_pieces f ≡ true
led_pieces NoBreak f p = p
led_pieces SoftBreak f p = p
led_pieces HardBreak f p = p

-- The brackets of an empty group, and those of one that holds something: what waits before is settled.
empty_flow : (d : Delim) (f : Form) (a : Bool) (w : Wait) → is_open w ≡ true
    → flow (At w a) (Piece (opener d ∷ closer d ∷ []) f) ≡ flow (At Still a) f
empty_flow Paren f a w o = ap (λ (x : Bool). flow (cond x (At Still a) Lost) f) o
empty_flow Bracket f a w o = ap (λ (x : Bool). flow (cond x (At Still a) Lost) f) o
empty_flow Brace f a w o = ap (λ (x : Bool). flow (cond x (At Still a) Lost) f) o

-- what stands within a group after its opener
abbrev within : Delim → Form → Bool → Form
within d inner line = opened_by d (I0 inner (closed_by line d (piece (closer d ∷ []))))

within_flow : (d : Delim) (inner : Form) (line : Bool) (s : Seen) → Goes s false (flow (At Still false) inner)
    → flow (At Still false) (within d inner line) ≡ At Still false
within_flow d inner line s g = opens_by d ∙ by g.wait g.waits g.is
  where
    opens_by : (e : Delim) → flow (At Still false) (opened_by e (I0 inner (closed_by line d (piece (closer d ∷ [])))))
        ≡ flow (left (At Still false) (group_flow (flow (At Still false) inner))) (closed_by line d (piece (closer d ∷ [])))
    opens_by Paren = refl
    opens_by Bracket = refl
    opens_by Brace = refl

    close : (w : Wait) → (line : Bool) (e : Delim) → group_flow (At w false) ≡ At w false → Waits s w
        → flow (At w false) (closed_by line e (piece (closer e ∷ []))) ≡ At Still false
    close Still true Paren q k = refl
    close Still true Bracket q k = refl
    close Still true Brace q k = refl
    close Still false Paren q k = refl
    close Still false Bracket q k = refl
    close Still false Brace q k = refl
    close InLine true Paren q k = refl
    close InLine true Bracket q k = refl
    close InLine true Brace q k = refl
    close InLine false Paren q k = refl
    close InLine false Bracket q k = refl
    close InLine false Brace q k = refl
    close Said line e q k = absurd (let no : ⊥ = cc in no)
    close Laid line e q k = absurd k

    by : (w : Wait) → Waits s w → flow (At Still false) inner ≡ At w false
        → flow (left (At Still false) (group_flow (flow (At Still false) inner))) (closed_by line d (piece (closer d ∷ []))) ≡ At Still false
    by Still k e =
        ap (λ (x : Flow). flow (left (At Still false) (group_flow x)) (closed_by line d (piece (closer d ∷ [])))) e ∙ close Still line d refl k
    by Said k e =
        ap (λ (x : Flow). flow (left (At Still false) (group_flow x)) (closed_by line d (piece (closer d ∷ [])))) e ∙ close Still line d refl tt
    by InLine k e =
        ap (λ (x : Flow). flow (left (At Still false) (group_flow x)) (closed_by line d (piece (closer d ∷ [])))) e ∙ close InLine line d refl k
    by Laid k e = absurd k

opener_flow : (d : Delim) (f : Form) → flow (At Still false) (Piece (opener d ∷ []) f) ≡ flow (At Still false) f
opener_flow Paren f = refl
opener_flow Bracket f = refl
opener_flow Brace f = refl

begin_flow : (w : Wait) (a : Bool) → is_open w ≡ true → group_flow (At w a) ≡ At Still a
begin_flow Still a o = refl
begin_flow Said a o = refl
begin_flow Laid a o = absurd (cc o)
begin_flow InLine a o = absurd (cc o)

full_flow : (d : Delim) (inner f : Form) (line : Bool) (s : Seen) (a : Bool) (w : Wait) → is_open w ≡ true → Goes s false (flow (At Still false) inner)
    → flow (At w a) (Group true 4 (Piece (opener d ∷ []) (within d inner line)) f) ≡ flow (At Still a) f
full_flow d inner f line s a w o g =
    ap (λ (x : Flow). flow (left (At w a) (group_flow (flow (entered x) (Piece (opener d ∷ []) (within d inner line))))) f) (begin_flow w a o)
    ∙ ap (λ (x : Flow). flow (left (At w a) (group_flow x)) f) (opener_flow d (within d inner line) ∙ within_flow d inner line s g)

-- a group, whatever it holds
enclosed_flow : (d : Delim) (i : Grouping) (inner f : Form) (line : Bool) (s : Seen) (a : Bool) (w : Wait) → is_open w ≡ true
    → Goes s false (flow (At Still false) inner) → flow (At w a) (enclosed_form d i line inner f) ≡ flow (At Still a) f
enclosed_flow d NoMore inner f line s a w o g = empty_flow d f a w o
enclosed_flow d (OneToken t r) inner f line s a w o g = full_flow d inner f line s a w o g
enclosed_flow d (OneGroup e i r) inner f line s a w o g = full_flow d inner f line s a w o g

within_pieces : (d : Delim) (inner : Form) (line : Bool) → are_pieces (within d inner line) ≡ true → are_pieces inner ≡ true
within_pieces Paren inner line p = (and_parts (are_pieces inner) (are_pieces (closed_by line Paren (piece (closer Paren ∷ [])))) p).0
within_pieces Bracket inner line p = (and_parts (are_pieces inner) (are_pieces (closed_by line Bracket (piece (closer Bracket ∷ [])))) p).0
within_pieces Brace inner line p = (and_parts (are_pieces inner) (are_pieces (closed_by line Brace (piece (closer Brace ∷ [])))) p).0

-- what a group's pieces are
enclosed_pieces : (d : Delim) (i : Grouping) (s : Seen) (line : Bool) (f : Form) → are_pieces (enclosed_form d i line (form_of_grouping s i) f) ≡ true
    → (are_pieces (form_of_grouping s i) ≡ true) × (are_pieces f ≡ true)
enclosed_pieces d NoMore s line f p = (refl, p)
enclosed_pieces d (OneToken t r) s line f p =
    let q = and_parts (are_pieces (within d (form_of_grouping s (OneToken t r)) line)) (are_pieces f) p in
    (within_pieces d (form_of_grouping s (OneToken t r)) line q.0, q.1)
enclosed_pieces d (OneGroup e i r) s line f p =
    let q = and_parts (are_pieces (within d (form_of_grouping s (OneGroup e i r)) line)) (are_pieces f) p in
    (within_pieces d (form_of_grouping s (OneGroup e i r)) line q.0, q.1)

grouping_flow : (g : Grouping) (s : Seen) (a : Bool) (w : Wait) → Waits s w → Singles g → are_pieces (form_of_grouping s g) ≡ true
    → Goes (seen_all s g) a (flow (At w a) (form_of_grouping s g))
grouping_flow NoMore s a w k n p = record { wait = w; is = refl; waits = k }
grouping_flow (OneToken t r) s a w k n p =
    let f = Part (form_of_grouping (seen_token s t) r) Done in
    let q = led_pieces (between s (Single t)) (listed_form t f) p in
    let rest = and_parts (are_pieces (form_of_grouping (seen_token s t) r)) true (rest_pieces t f q) in
    let one = lead_flow s (Single t) (listed_form t f) a w k in
    let two = token_flow s t f a one.0 one.1 n.0 q in
    let more = grouping_flow r (seen_token s t) a two.0 two.1 n.1 rest.0 in
    record { wait = more.wait; is = one.2 ∙ two.2 ∙ more.is; waits = more.waits }
grouping_flow (OneGroup d i r) s a w k n p =
    let end = seen_all (at_start s.count) i in
    let line = is_line_doc end.last in
    let inner = form_of_grouping (at_start s.count) i in
    let next = behind_group d end.count in
    let f = Part (form_of_grouping next r) Done in
    let q = enclosed_pieces d i (at_start s.count) line f (led_pieces (between s (Enclosed d)) (enclosed_form d i line inner f) p) in
    let rest = and_parts (are_pieces (form_of_grouping next r)) true q.1 in
    let one = lead_flow s (Enclosed d) (enclosed_form d i line inner f) a w k in
    let two = grouping_flow i (at_start s.count) false Still tt n.0 q.0 in
    let more = grouping_flow r next a Still tt n.1 rest.0 in
    record {
      wait = more.wait;
      is = one.2 ∙ enclosed_flow d i inner f line end a one.0 one.1 two ∙ more.is;
      waits = more.waits;
    }

-- ---- what is dropped

no_opening : (k : Kind) → is_opener k ≡ false → opens k ≡ false
no_opening (Opener d) h = absurd (cc h)
no_opening _ h = refl

lead_calm : (x : Separation) (f : Form) (b : Bool) → calm f b ≡ true → calm (leads x f) b ≡ true
lead_calm NoBreak f b h = h
lead_calm SoftBreak f b h = h
lead_calm HardBreak f b h = h

lead_clear : (x : Separation) (f : Form) (ws : List Word) (b : Bool) → clear f ws b ≡ true → clear (leads x f) ws b ≡ true
lead_clear NoBreak f ws b h = h
lead_clear SoftBreak f ws b h = h
lead_clear HardBreak f ws b h = h

token_calm : (t : ListedToken) (f : Form) (b : Bool) → is_opener (kind_of t) ≡ false → calm (listed_form t f) b ≡ true
token_calm (listed.Token kind text joint) f b h = ap (λ (x : Bool). cond x (calm f b) true) (no_opening kind h)
token_calm (listed.Doc inner text) f b h = refl

-- what closes a group is calm, whatever follows
closed_calm : (line : Bool) (d : Delim) (b : Bool) → calm (closed_by line d (piece (closer d ∷ []))) b ≡ true
closed_calm true Paren b = refl
closed_calm true Bracket b = refl
closed_calm true Brace b = refl
closed_calm false Paren b = refl
closed_calm false Bracket b = refl
closed_calm false Brace b = refl

within_calm : (d : Delim) (inner : Form) (line : Bool) (b : Bool) → ((c : Bool) → c ≡ true → calm inner c ≡ true) → calm (within d inner line) b ≡ true
within_calm Paren inner line b k = k (calm (closed_by line Paren (piece (closer Paren ∷ []))) b) (closed_calm line Paren b)
within_calm Bracket inner line b k = k (calm (closed_by line Bracket (piece (closer Bracket ∷ []))) b) (closed_calm line Bracket b)
within_calm Brace inner line b k = k (calm (closed_by line Brace (piece (closer Brace ∷ []))) b) (closed_calm line Brace b)

opener_calm : (d : Delim) (f : Form) (b : Bool) → calm f b ≡ true → calm (Piece (opener d ∷ []) f) b ≡ true
opener_calm Paren f b h = refl
opener_calm Bracket f b h = refl
opener_calm Brace f b h = h

empty_calm : (d : Delim) (f : Form) (b : Bool) → calm (Piece (opener d ∷ closer d ∷ []) f) b ≡ true
empty_calm Paren f b = refl
empty_calm Bracket f b = refl
empty_calm Brace f b = refl

enclosed_calm : (d : Delim) (i : Grouping) (inner f : Form) (line : Bool) (b : Bool) → ((c : Bool) → c ≡ true → calm inner c ≡ true)
    → calm (enclosed_form d i line inner f) b ≡ true
enclosed_calm d NoMore inner f line b k = empty_calm d f b
enclosed_calm d (OneToken t r) inner f line b k = opener_calm d (within d inner line) (calm f b) (within_calm d inner line (calm f b) k)
enclosed_calm d (OneGroup e i r) inner f line b k = opener_calm d (within d inner line) (calm f b) (within_calm d inner line (calm f b) k)

grouping_calm : (g : Grouping) (s : Seen) (b : Bool) → InGroups g → b ≡ true → calm (form_of_grouping s g) b ≡ true
grouping_calm NoMore s b n h = h
grouping_calm (OneToken t r) s b n h =
    lead_calm (between s (Single t)) (listed_form t (Part (form_of_grouping (seen_token s t) r) Done)) b
    (token_calm t (Part (form_of_grouping (seen_token s t) r) Done) b n.0)
grouping_calm (OneGroup d i r) s b n h =
    let end = seen_all (at_start s.count) i in
    let inner = form_of_grouping (at_start s.count) i in
    let f = Part (form_of_grouping (behind_group d end.count) r) Done in
    lead_calm (between s (Enclosed d)) (enclosed_form d i (is_line_doc end.last) inner f) b
    (enclosed_calm d i inner f (is_line_doc end.last) b (λ c k. grouping_calm i (at_start s.count) c n.0 k))

token_clear : (t : ListedToken) (f : Form) (ws : List Word) (b : Bool) → is_opener (kind_of t) ≡ false → clear f ws b ≡ true
    → clear (listed_form t f) ws b ≡ true
token_clear (listed.Token kind text joint) f ws b h k =
    and_from (is_settled kind (calm f b)) (clear f ws b) (ap (λ (x : Bool). not x || calm f b) (no_opening kind h)) k
token_clear (listed.Doc inner text) f ws b h k = k

opener_clear : (d : Delim) (f : Form) (ws : List Word) (b : Bool) → calm f b ≡ true → clear f ws b ≡ true → clear (Piece (opener d ∷ []) f) ws b ≡ true
opener_clear Paren f ws b h k = k
opener_clear Bracket f ws b h k = k
opener_clear Brace f ws b h k = and_from (calm f b && true) (clear f ws b) (and_from (calm f b) true h refl) k

closed_clear : (line : Bool) (d : Delim) (ws : List Word) (b : Bool) → clear (closed_by line d (piece (closer d ∷ []))) ws b ≡ true
closed_clear true Paren ws b = refl
closed_clear true Bracket ws b = refl
closed_clear true Brace ws b = refl
closed_clear false Paren ws b = refl
closed_clear false Bracket ws b = refl
closed_clear false Brace ws b = refl

within_clear : (d : Delim) (inner : Form) (line : Bool) (ws : List Word) (b : Bool) → ((vs : List Word) (c : Bool) → clear inner vs c ≡ true)
    → clear (within d inner line) ws b ≡ true
within_clear d inner line ws b k = by d
  where
    both : (e : Delim) → clear (I0 inner (closed_by line e (piece (closer e ∷ [])))) ws b ≡ true
    both e =
        and_from (clear inner (words (closed_by line e (piece (closer e ∷ []))) ++ ws) (calm (closed_by line e (piece (closer e ∷ []))) b))
        (clear (closed_by line e (piece (closer e ∷ []))) ws b)
        (k (words (closed_by line e (piece (closer e ∷ []))) ++ ws) (calm (closed_by line e (piece (closer e ∷ []))) b)) (closed_clear line e ws b)

    by : (e : Delim) → clear (within e inner line) ws b ≡ true
    by Paren = both Paren
    by Bracket = both Bracket
    by Brace = both Brace

full_clear : (d : Delim) (inner f : Form) (line : Bool) (ws : List Word) (b : Bool) → ((c : Bool) → c ≡ true → calm inner c ≡ true)
    → ((vs : List Word) (c : Bool) → clear inner vs c ≡ true) → clear f ws b ≡ true
    → clear (Group true 4 (Piece (opener d ∷ []) (within d inner line)) f) ws b ≡ true
full_clear d inner f line ws b c k h =
    and_from (clear (Piece (opener d ∷ []) (within d inner line)) (words f ++ ws) (calm f b)) (clear f ws b)
    (opener_clear d (within d inner line) (words f ++ ws) (calm f b) (within_calm d inner line (calm f b) c) (within_clear d inner line (words f ++ ws) (calm f b) k)) h

empty_clear : (d : Delim) (f : Form) (ws : List Word) (b : Bool) → clear f ws b ≡ true → clear (Piece (opener d ∷ closer d ∷ []) f) ws b ≡ true
empty_clear Paren f ws b h = h
empty_clear Bracket f ws b h = h
empty_clear Brace f ws b h = h

enclosed_clear : (d : Delim) (i : Grouping) (inner f : Form) (line : Bool) (ws : List Word) (b : Bool) → ((c : Bool) → c ≡ true → calm inner c ≡ true)
    → ((vs : List Word) (c : Bool) → clear inner vs c ≡ true) → clear f ws b ≡ true → clear (enclosed_form d i line inner f) ws b ≡ true
enclosed_clear d NoMore inner f line ws b c k h = empty_clear d f ws b h
enclosed_clear d (OneToken t r) inner f line ws b c k h = full_clear d inner f line ws b c k h
enclosed_clear d (OneGroup e i r) inner f line ws b c k h = full_clear d inner f line ws b c k h

behind_clear : (i : Form) (ws : List Word) (b : Bool) → ((vs : List Word) (c : Bool) → clear i vs c ≡ true) → clear (Part i Done) ws b ≡ true
behind_clear i ws b k = and_from (clear i ws b) true (k ws b) refl

grouping_clear : (g : Grouping) (s : Seen) → InGroups g → (ws : List Word) (b : Bool) → clear (form_of_grouping s g) ws b ≡ true
grouping_clear NoMore s n ws b = refl
grouping_clear (OneToken t r) s n ws b =
    lead_clear (between s (Single t)) (listed_form t (Part (form_of_grouping (seen_token s t) r) Done)) ws b
    (token_clear t (Part (form_of_grouping (seen_token s t) r) Done) ws b n.0
    (behind_clear (form_of_grouping (seen_token s t) r) ws b (λ vs c. grouping_clear r (seen_token s t) n.2 vs c)))
grouping_clear (OneGroup d i r) s n ws b =
    let end = seen_all (at_start s.count) i in
    let inner = form_of_grouping (at_start s.count) i in
    let next = behind_group d end.count in
    lead_clear (between s (Enclosed d)) (enclosed_form d i (is_line_doc end.last) inner (Part (form_of_grouping next r) Done)) ws b
    (enclosed_clear d i inner (Part (form_of_grouping next r) Done) (is_line_doc end.last) ws b
    (λ c k. grouping_calm i (at_start s.count) c n.0 k) (λ vs c. grouping_clear i (at_start s.count) n.0 vs c)
    (behind_clear (form_of_grouping next r) ws b (λ vs c. grouping_clear r next n.1 vs c)))

-- ---- braces among the words

no_closing : (k : Kind) → is_closer k ≡ false → closes k ≡ false
no_closing (Closer d) h = absurd (cc h)
no_closing _ h = refl

lead_level : (s : Separation) (f : Form) {x y : List Bool} → Levels (words f) x y → Levels (words (leads s f)) x y
lead_level NoBreak f l = l
lead_level SoftBreak f l = l
lead_level HardBreak f l = l

token_level : (t : ListedToken) (f : Form) {x y : List Bool} → is_opener (kind_of t) ≡ false → is_closer (kind_of t) ≡ false → Levels (words f) x y
    → Levels (words (listed_form t f)) x y
token_level (listed.Token kind text joint) f o c l = levels_behind kind text (words f) (no_opening kind o) (no_closing kind c) l
token_level (listed.Doc inner text) f o c l = record { shut_is = l.shut_is; leaves = l.leaves }

-- the kept braces within a group
abbrev enclosed_in : Delim → List Bool → List Bool
enclosed_in Brace x = true ∷ x
enclosed_in _ x = x

opener_level : (d : Delim) (f : Form) (x : List Bool) {y : List Bool} → Levels (words f) (enclosed_in d x) y
    → Levels (words (Piece (opener d ∷ []) f)) x y
opener_level Paren f x l = record { shut_is = l.shut_is; leaves = l.leaves }
opener_level Bracket f x l = record { shut_is = l.shut_is; leaves = l.leaves }
opener_level Brace f x l = record { shut_is = l.shut_is; leaves = l.leaves }

closed_level : (line : Bool) (d : Delim) (x : List Bool) → Levels (words (closed_by line d (piece (closer d ∷ [])))) (enclosed_in d x) x
closed_level true Paren x = record { shut_is = refl; leaves = refl }
closed_level true Bracket x = record { shut_is = refl; leaves = refl }
closed_level true Brace x = record { shut_is = refl; leaves = refl }
closed_level false Paren x = record { shut_is = refl; leaves = refl }
closed_level false Bracket x = record { shut_is = refl; leaves = refl }
closed_level false Brace x = record { shut_is = refl; leaves = refl }

within_level : (d : Delim) (inner : Form) (line : Bool) (x : List Bool) → ((y : List Bool) → Levels (words inner) y y)
    → Levels (words (within d inner line)) (enclosed_in d x) x
within_level d inner line x k = by d
  where
    both : (e : Delim) → Levels (words (I0 inner (closed_by line e (piece (closer e ∷ []))))) (enclosed_in e x) x
    both e = levels_two (words inner) (words (closed_by line e (piece (closer e ∷ [])))) (k (enclosed_in e x)) (closed_level line e x)

    by : (e : Delim) → Levels (words (within e inner line)) (enclosed_in e x) x
    by Paren = both Paren
    by Bracket = both Bracket
    by Brace = both Brace

full_level : (d : Delim) (inner f : Form) (line : Bool) (x : List Bool) {y : List Bool} → ((z : List Bool) → Levels (words inner) z z) → Levels (words f) x y
    → Levels (words (Group true 4 (Piece (opener d ∷ []) (within d inner line)) f)) x y
full_level d inner f line x k l =
    levels_two (words (Piece (opener d ∷ []) (within d inner line))) (words f) (opener_level d (within d inner line) x (within_level d inner line x k)) l

empty_level : (d : Delim) (f : Form) (x : List Bool) {y : List Bool} → Levels (words f) x y → Levels (words (Piece (opener d ∷ closer d ∷ []) f)) x y
empty_level Paren f x l = record { shut_is = l.shut_is; leaves = l.leaves }
empty_level Bracket f x l = record { shut_is = l.shut_is; leaves = l.leaves }
empty_level Brace f x l = record { shut_is = l.shut_is; leaves = l.leaves }

enclosed_level : (d : Delim) (i : Grouping) (inner f : Form) (line : Bool) (x : List Bool) {y : List Bool} → ((z : List Bool) → Levels (words inner) z z)
    → Levels (words f) x y → Levels (words (enclosed_form d i line inner f)) x y
enclosed_level d NoMore inner f line x k l = empty_level d f x l
enclosed_level d (OneToken t r) inner f line x k l = full_level d inner f line x k l
enclosed_level d (OneGroup e i r) inner f line x k l = full_level d inner f line x k l

behind_level : (i : Form) (x : List Bool) → Levels (words i) x x → Levels (words (Part i Done)) x x
behind_level i x l = levels_two (words i) [] l (no_levels x)

grouping_level : (g : Grouping) (s : Seen) → InGroups g → (x : List Bool) → Levels (words (form_of_grouping s g)) x x
grouping_level NoMore s n x = no_levels x
grouping_level (OneToken t r) s n x =
    let f = form_of_grouping (seen_token s t) r in
    lead_level (between s (Single t)) (listed_form t (Part f Done))
    (token_level t (Part f Done) n.0 n.1 (behind_level f x (grouping_level r (seen_token s t) n.2 x)))
grouping_level (OneGroup d i r) s n x =
    let end = seen_all (at_start s.count) i in
    let inner = form_of_grouping (at_start s.count) i in
    let next = behind_group d end.count in
    let f = form_of_grouping next r in
    lead_level (between s (Enclosed d)) (enclosed_form d i (is_line_doc end.last) inner (Part f Done))
    (enclosed_level d i inner (Part f Done) (is_line_doc end.last) x (λ y. grouping_level i (at_start s.count) n.0 y)
    (behind_level f x (grouping_level r next n.1 x)))

-- ---- lists

single_of : (place : Bool) (t : ListedToken) → is_had place t ≡ true → is_single t ≡ true
single_of place (listed.Token kind text joint) h = (and_parts (not (is_doc_kind kind)) _ (and_parts (not (is_doc_kind kind) && is_utf8 text) _ h).0).0
single_of place (listed.Doc inner text) h = refl

fit_singles : (before last : Neighbour) (us : List ListedToken) → fits before last us ≡ true → list_all is_single us ≡ true
fit_singles before last [] f = refl
fit_singles before last (u ∷ us) f =
    let a = and_parts _ (fits last (Single u) us) f in
    and_from (is_single u) (list_all is_single us) (single_of _ u (and_parts _ _ a.0).1) (fit_singles last (Single u) us a.1)

flat_singles : (g : Grouping) → list_all is_single (flat g) ≡ true → Singles g
flat_singles NoMore h = tt
flat_singles (OneToken t r) h = let p = and_parts (is_single t) (list_all is_single (flat r)) h in (p.0, flat_singles r p.1)
flat_singles (OneGroup d i r) h =
    let p = and_parts (list_all is_single (flat i)) (list_all is_single (closer_token d ∷ flat r)) (sym (list_all-append is_single (flat i) (closer_token d ∷ flat r)) ∙ h) in
    (flat_singles i p.0, flat_singles r p.1)

pub record InList (us : List ListedToken) : Type 0 where
  pub groups : InGroups (in_groups us)
  pub singles : Singles (in_groups us)

pub in_list : (us : List ListedToken) → is_token_list us ≡ true → InList us
in_list us h =
    let g = list_grouped us h in
    let f = (and_parts _ _ (and_parts _ _ (and_parts _ _ h).0).0).0 in
    record {
      groups = g.groups;
      singles = flat_singles (in_groups us) (subst (λ (x : List ListedToken). list_all is_single x ≡ true) (sym g.whole) (fit_singles Nothing Nothing us f));
    }

-- a token list
pub tokens_tell : {Next : List Word → Type 0} (us : List ListedToken) → is_token_list us ≡ true → Tells Next (token_list us)
tokens_tell us h = record {
  go = λ w.
      let l = in_list us h in
      let line = ends_in_line us in
      let inner = form_of_grouping (at_start 0) (in_groups us) in
      let p = and_parts (are_pieces inner) (are_pieces (ended_by line)) w in
      let g = grouping_flow (in_groups us) (at_start 0) false Still tt l.singles p.0 in
      record {
        flows = λ a. ap (λ (x : Flow). flow (left (At Still a) (group_flow x)) (ended_by line)) g.is ∙ ended line a g.wait refl g.waits;
        clears = λ ws b n.
            and_from (clear inner (words (ended_by line) ++ ws) (calm (ended_by line) b)) (clear (ended_by line) ws b)
            (grouping_clear (in_groups us) (at_start 0) l.groups (words (ended_by line) ++ ws) (calm (ended_by line) b)) (end_clear line ws b);
        levels = λ x. levels_two (words inner) (words (ended_by line)) (grouping_level (in_groups us) (at_start 0) l.groups x) (end_level line x);
      };
}
  where
    end_clear : (line : Bool) (ws : List Word) (b : Bool) → clear (ended_by line) ws b ≡ true
    end_clear true ws b = refl
    end_clear false ws b = refl

    end_level : (line : Bool) (x : List Bool) → Levels (words (ended_by line)) x x
    end_level true x = no_levels x
    end_level false x = no_levels x

    at : (line : Bool) (a : Bool) (w : Wait) → (x : Bool) → x ≡ line → WaitsBy x w
        → flow (left (At Still a) (group_flow (At w false))) (ended_by line) ≡ At Still a
    at true a Still x e k = refl
    at false a Still x e k = refl
    at true a Said x e k = refl
    at false a Said x e k = refl
    at line a Laid x e k = absurd k
    at true a InLine x e k = refl
    at false a InLine x e k = absurd (let no : true ≡ false = sym k ∙ e in cc no)

    ended : (line : Bool) (a : Bool) (w : Wait) → is_line_doc (seen_all (at_start 0) (in_groups us)).last ≡ line → Waits (seen_all (at_start 0) (in_groups us)) w
        → flow (left (At Still a) (group_flow (At w false))) (ended_by line) ≡ At Still a
    ended line a Still e k = at line a Still line refl tt
    ended line a Said e k = at line a Said line refl tt
    ended line a Laid e k = absurd k
    ended line a InLine e k = at line a InLine (is_line_doc (seen_all (at_start 0) (in_groups us)).last) e k

-- a group, and what follows it
pub group_tells : {Next : List Word → Type 0} {m : ℕ} {f : Form} (g : TokenGroup) → is_token_list g.tokens ≡ true → Closing Next m f
    → Closing Next m (group_form g f)
group_tells {Next} {m} {f} g h t = record {
  go = λ w.
      let l = in_list g.tokens h in
      let i = in_groups g.tokens in
      let inner = form_of_grouping (at_start 0) i in
      let p = enclosed_pieces g.delim i (at_start 0) (ends_in_line g.tokens) f w in
      let u = t.go p.1 in
      let k = grouping_flow i (at_start 0) false Still tt l.singles p.0 in
      record {
        flows = λ a. enclosed_flow g.delim i inner f (ends_in_line g.tokens) (seen_all (at_start 0) i) a Still refl k ∙ u.flows a;
        clears = λ ws b n.
            enclosed_clear g.delim i inner f (ends_in_line g.tokens) ws b (λ c e. grouping_calm i (at_start 0) c l.groups e)
            (λ vs c. grouping_clear i (at_start 0) l.groups vs c) (u.clears ws b n);
        levels = λ x. enclosed_level g.delim i inner f (ends_in_line g.tokens) (kept_in m x) (λ y. grouping_level i (at_start 0) l.groups y) (u.levels x);
      };
}
