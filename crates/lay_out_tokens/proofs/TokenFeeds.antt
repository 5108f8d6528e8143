-- A token list is fed the same as a flat list and in groups.
use Rattle.std.proofs.Common.{◌≡◌, length, ℕ, suc, Bool, true, false, subst, cond, IsTrue, List, []}
use Rattle.std.proofs.Common.{◌∷◌, ◌++◌, Option, Some, None, refl, sym, ap, ◌∙◌, append_assoc, append-nil, arith}
use Rattle.lay_layout.specs.Document.{Document, Empty, AddText, AddBreak, AddGroup, stream}
use Rattle.lay_layout.specs.Machine as machine
use Rattle.lay_layout.specs.Machine.{IsNested}
use Rattle.lay_layout.specs.declared.layout.Tok.{Tok}
use Rattle.lay_layout.specs.declared.layout.Tok.TheVariants as tok
use Rattle.lay_piece.specs.declared.kind.Delim.{Delim}
use Rattle.lay_piece.specs.declared.kind.Delim.TheVariants.{Paren, Bracket, Brace}
use Rattle.lay_piece.specs.declared.kind.Kind.TheVariants.{Opener, Closer, Doc}
use Rattle.lay_form.specs.Form.{Form, Done, Part}
use Rattle.lay_form.specs.Layout.{document, token_ends_in_point}
use Rattle.lay_form.specs.Stream.{fed, feed_doc, stream_of}
use Rattle.lay_form.proofs.StreamLaws.{stream_is}
use Rattle.lay_node.specs.Ahead.{same_delim}
use Rattle.lay_node.specs.tokens.Lists.{enclosed_form, ends_in_line, form_of_grouping, group_form}
use Rattle.lay_node.specs.tokens.Listing.{balances, turned, is_balanced, kind_of, listed_form, enclosed, Nested, nested}
use Rattle.lay_node.specs.tokens.Listing.{nested_by, in_groups, Grouping, NoMore, OneToken, OneGroup}
use Rattle.lay_node.specs.tokens.Pairs.{Separation, NoBreak, SoftBreak, HardBreak, Seen, Single, Enclosed, is_nothing}
use Rattle.lay_node.specs.tokens.Pairs.{is_line_doc, between, leads, seen_token, at_start, behind_group, seen_all}
use Rattle.lay_node.specs.declared.token.Listed.{Listed}
use Rattle.lay_node.specs.declared.token.Listed.TheVariants as listed
use Rattle.lay_node.specs.declared.tokens.Group.{Group}
use Rattle.lay_out_tokens.specs.Fed as feeds
use Rattle.lay_out_tokens.specs.Fed.{fed_gap, empty_group, opened, fed_opener, fed_closer, closes_at_once, fed_by}
use Rattle.lay_token.specs.Delimiters.{is_closer}
use Rattle.lay_out_tokens.specs.Fed.{fed_token, fed_tokens, seen_by, seen_behind, seen_over}
use Rattle.lay_out_tokens.proofs.StreamParts.{group_alone}

-- ---- one part after a text that ends in a point or doesn't

gap_fed : (p : Bool) (sep : Separation) (f : Form) (more : List Tok)
    → (q : Bool) × (fed p (leads sep f) more ≡ fed_gap sep ++ fed q f more)
gap_fed p NoBreak f more = (p, refl)
gap_fed p SoftBreak f more = (false, refl)
gap_fed p HardBreak f more = (false, refl)

doc_more : (inner block : Bool) (text : List ℕ) (more : List Tok)
    → feed_doc inner block text more ≡ feed_doc inner block text [] ++ more
doc_more inner true [] more = refl
doc_more inner true (c ∷ cs) more = refl
doc_more inner false [] more = refl
doc_more inner false (c ∷ cs) more = refl

single_fed : (p : Bool) (t : Listed) (f : Form) (more : List Tok)
    → (q : Bool) × (fed p (listed_form t f) more ≡ stream_of (listed_form t Done) ++ fed q f more)
single_fed p (listed.Token (Doc inner block) text joint) f more =
    (token_ends_in_point (Doc inner block) text, doc_more inner _ text _)
single_fed p (listed.Token kind text joint) f more = (token_ends_in_point kind text, refl)
single_fed p (listed.Doc inner text) f more = (false, doc_more inner _ text _)

-- ---- groups

-- what a group is fed as where these tokens are fed within it, with what follows it
whole_group : Delim → Grouping → Bool → Form → List Tok → List Tok
whole_group d NoMore line inner more = empty_group d ++ more
whole_group d _ line inner more = opened d ++ fed false inner (feeds.closed line d ++ more)

abbrev Pointless : Form → List Tok → Type 0
Pointless f more = (q : Bool) → fed q f more ≡ fed false f more

full_fed : (p : Bool) (d : Delim) (t : Listed) (r : Grouping) (line : Bool) (inner f : Form) (more : List Tok)
    → Pointless f more
    → fed p (enclosed_form d (OneToken t r) line inner (Part f Done)) more
    ≡ opened d ++ fed false inner (feeds.closed line d ++ fed false f more)
full_fed p Paren t r true inner f more any =
    ap (λ (s : List Tok). opened Paren ++ fed false inner (feeds.closed true Paren ++ s)) (any _)
full_fed p Bracket t r true inner f more any =
    ap (λ (s : List Tok). opened Bracket ++ fed false inner (feeds.closed true Bracket ++ s)) (any _)
full_fed p Brace t r true inner f more any =
    ap (λ (s : List Tok). opened Brace ++ fed false inner (feeds.closed true Brace ++ s)) (any _)
full_fed p Paren t r false inner f more any =
    ap (λ (s : List Tok). opened Paren ++ fed false inner (feeds.closed false Paren ++ s)) (any _)
full_fed p Bracket t r false inner f more any =
    ap (λ (s : List Tok). opened Bracket ++ fed false inner (feeds.closed false Bracket ++ s)) (any _)
full_fed p Brace t r false inner f more any =
    ap (λ (s : List Tok). opened Brace ++ fed false inner (feeds.closed false Brace ++ s)) (any _)

group_fed : (p : Bool) (d : Delim) (i : Grouping) (line : Bool) (inner f : Form) (more : List Tok) → Pointless f more
    → fed p (enclosed_form d i line inner (Part f Done)) more ≡ whole_group d i line inner (fed false f more)
unfolding whole_group
group_fed p Paren NoMore line inner f more any = ap (λ (s : List Tok). empty_group Paren ++ s) (any _)
group_fed p Bracket NoMore line inner f more any = ap (λ (s : List Tok). empty_group Bracket ++ s) (any _)
group_fed p Brace NoMore line inner f more any = ap (λ (s : List Tok). empty_group Brace ++ s) (any _)
group_fed p d (OneToken t r) line inner f more any = full_fed p d t r line inner f more any
group_fed p d (OneGroup e i r) line inner f more any = full_fed p d (listed.Doc false []) r line inner f more any

single_point : (p : Bool) (sep : Separation) (t : Listed) (f : Form) (more : List Tok) → Pointless f more
    → fed p (leads sep (listed_form t (Part f Done))) more
    ≡ fed_gap sep ++ (stream_of (listed_form t Done) ++ fed false f more)
single_point p sep t f more any =
    let gap = gap_fed p sep (listed_form t (Part f Done)) more in
    let one = single_fed gap.0 t (Part f Done) more in
    gap.1 ∙ ap (λ (s : List Tok). fed_gap sep ++ s)
    (one.1 ∙ ap (λ (s : List Tok). stream_of (listed_form t Done) ++ s) (any one.0))

group_point : (p : Bool) (sep : Separation) (d : Delim) (i : Grouping) (line : Bool) (inner f : Form) (more : List Tok)
    → Pointless f more
    → fed p (leads sep (enclosed_form d i line inner (Part f Done))) more
    ≡ fed_gap sep ++ whole_group d i line inner (fed false f more)
group_point p sep d i line inner f more any =
    let gap = gap_fed p sep (enclosed_form d i line inner (Part f Done)) more in
    gap.1 ∙ ap (λ (s : List Tok). fed_gap sep ++ s) (group_fed gap.0 d i line inner f more any)

-- No text of a token list gets a blank for its point.
no_point : (s : Seen) (g : Grouping) (more : List Tok) → Pointless (form_of_grouping s g) more
no_point s NoMore more = λ q. refl
no_point s (OneToken t r) more = λ q.
    let any = no_point (seen_token s t) r more in
    single_point q (between s (Single t)) t (form_of_grouping (seen_token s t) r) more any
    ∙ sym (single_point false (between s (Single t)) t (form_of_grouping (seen_token s t) r) more any)
no_point s (OneGroup d i r) more = λ q.
    let last = seen_all (at_start s.count) i in
    let line = is_line_doc last.last in
    let inner = form_of_grouping (at_start s.count) i in
    let f = form_of_grouping (behind_group d last.count) r in
    let any = no_point (behind_group d last.count) r more in
    group_point q (between s (Enclosed d)) d i line inner f more any
    ∙ sym (group_point false (between s (Enclosed d)) d i line inner f more any)

-- ---- what follows a group

not_nothing : (s : Seen) (g : Grouping) → is_nothing s.last ≡ false → is_nothing (seen_all s g).last ≡ false
not_nothing s NoMore e = e
not_nothing s (OneToken t r) e = not_nothing (seen_token s t) r refl
not_nothing s (OneGroup d i r) e = not_nothing (behind_group d (seen_all (at_start s.count) i).count) r refl

is_none : Grouping → Bool
is_none NoMore = true
is_none _ = false

by_test : (b : Bool) (x : List Tok) → b ≡ false → cond b [] x ≡ x
by_test true x e = cc
by_test false x e = refl

-- what opens a group, what is fed within it and what closes it are the group
closer_full : (s : Seen) (d : Delim) → is_nothing s.last ≡ false → fed_closer s d ≡ feeds.closed (is_line_doc s.last) d
closer_full s d e = by_test (is_nothing s.last) (feeds.closed (is_line_doc s.last) d) e

opener_parts : (n : ℕ) (d : Delim) (i : Grouping) (more : List Tok)
    → fed_opener (is_none i) d ++ fed false (form_of_grouping (at_start n) i)
    (fed_closer (seen_all (at_start n) i) d ++ more)
    ≡ whole_group d i (is_line_doc (seen_all (at_start n) i).last) (form_of_grouping (at_start n) i) more
unfolding whole_group is_none
opener_parts n d NoMore more = refl
opener_parts n d (OneToken t r) more =
    ap (λ (s : List Tok). opened d ++ fed false (form_of_grouping (at_start n) (OneToken t r)) (s ++ more))
    (closer_full (seen_all (at_start n) (OneToken t r)) d (not_nothing (seen_token (at_start n) t) r refl))
opener_parts n d (OneGroup e i r) more =
    ap (λ (s : List Tok). opened d ++ fed false (form_of_grouping (at_start n) (OneGroup e i r)) (s ++ more))
    (closer_full (seen_all (at_start n) (OneGroup e i r)) d
    (not_nothing (behind_group e (seen_all (at_start n) i).count) r refl))

-- ---- the groups that a place is in

-- For each delimiter that is open there is what follows its group.
abbrev HasOuter : List Delim → List Grouping → Type 0
HasOuter [] outer = Unit {0}
HasOuter (d ∷ within) [] = ⊥
HasOuter (d ∷ within) (g ∷ outer) = HasOuter within outer

-- what is fed from the closer of the innermost group on, and what is seen at the end
abbrev rest_of : Seen → List Delim → List Grouping → List Tok
rest_of s [] outer = []
rest_of s (d ∷ within) [] = []
rest_of s (d ∷ within) (g ∷ outer) =
    fed_closer s d ++ fed false (form_of_grouping (behind_group d s.count) g)
    (rest_of (seen_all (behind_group d s.count) g) within outer)

abbrev last_of : Seen → List Delim → List Grouping → Seen
last_of s [] outer = s
last_of s (d ∷ within) [] = s
last_of s (d ∷ within) (g ∷ outer) = last_of (seen_all (behind_group d s.count) g) within outer

-- These tokens are what the groups are fed as from a place on, and this is seen at the end.
record FlatOf (s : Seen) (within : List Delim) (n : Nested) (toks : List Tok) (end : Seen) : Type 0 where
  has : HasOuter within n.outer
  same : toks ≡ fed false (form_of_grouping s n.grouping) (rest_of (seen_all s n.grouping) within n.outer)
  seen : end ≡ last_of (seen_all s n.grouping) within n.outer

-- ---- the three kinds of tokens

record Plain (t : Listed) : Type 0 where
  turn : (within : List Delim) → turned (kind_of t) within ≡ Some within
  nest : (n : Nested) → nested_by (kind_of t) t n ≡ record { grouping = OneToken t n.grouping; outer = n.outer }
  feed : (s : Seen) (ts : List Listed)
      → fed_by (kind_of t) s t ts ≡ fed_gap (between s (Single t)) ++ stream_of (listed_form t Done)
  seen : (s : Seen) → seen_by (kind_of t) s t ≡ seen_token s t
  closer : is_closer (kind_of t) ≡ false

data TokenView : Listed → Type 0 where
  IsOpener : (d : Delim) (text : List ℕ) (joint : Bool) → TokenView (listed.Token (Opener d) text joint)
  IsCloser : (d : Delim) (text : List ℕ) (joint : Bool) → TokenView (listed.Token (Closer d) text joint)
  IsPlain : (t : Listed) → Plain t → TokenView t

token_view : (t : Listed) → TokenView t
token_view (listed.Token (Opener d) text joint) = IsOpener d text joint
token_view (listed.Token (Closer d) text joint) = IsCloser d text joint
token_view (listed.Token kind text joint) =
    IsPlain (listed.Token kind text joint)
    (record { turn = λ w. refl; nest = λ n. refl; feed = λ s ts. refl; seen = λ s. refl; closer = refl })
token_view (listed.Doc inner text) =
    IsPlain (listed.Doc inner text)
    (record { turn = λ w. refl; nest = λ n. refl; feed = λ s ts. refl; seen = λ s. refl; closer = refl })

-- ---- balance

opener_balance : (within : List Delim) (d : Delim) (text : List ℕ) (joint : Bool) (ts : List Listed)
    → IsTrue (balances within (listed.Token (Opener d) text joint ∷ ts)) → IsTrue (balances (d ∷ within) ts)
opener_balance [] d text joint ts h = h
opener_balance (e ∷ within) d text joint ts h = h

turn_on : (o : Option (List Delim)) (more : List Delim) (ts : List Listed) → o ≡ Some more
    → IsTrue (elim o [ None ↦ false | Some w ↦ balances w ts ]) → IsTrue (balances more ts)
turn_on o more ts e h =
    subst (λ (x : Option (List Delim)). IsTrue (elim x [ None ↦ false | Some w ↦ balances w ts ])) e h

plain_balance : (within : List Delim) (t : Listed) (ts : List Listed) → turned (kind_of t) within ≡ Some within
    → IsTrue (balances within (t ∷ ts)) → IsTrue (balances within ts)
plain_balance [] t ts e h = turn_on (turned (kind_of t) []) [] ts e h
plain_balance (d ∷ within) t ts e h = turn_on (turned (kind_of t) (d ∷ within)) (d ∷ within) ts e h

closer_split : (b : Bool) (within : List Delim) (ts : List Listed)
    → IsTrue (elim (cond b (Some within) None) [ None ↦ false | Some w ↦ balances w ts ])
    → IsTrue b × IsTrue (balances within ts)
closer_split true within ts h = (refl, h)
closer_split false within ts h = let no : ⊥ = cc in absurd no

same_is : (d e : Delim) → IsTrue (same_delim d e) → d ≡ e
same_is Paren Paren h = refl
same_is Bracket Bracket h = refl
same_is Brace Brace h = refl
same_is Paren Bracket h = cc
same_is Paren Brace h = cc
same_is Bracket Paren h = cc
same_is Bracket Brace h = cc
same_is Brace Paren h = cc
same_is Brace Bracket h = cc

-- ---- a closer is the next token where the group has none

opener_some : (d : Delim) (t : Listed) (i : Grouping) (outer : List Grouping)
    → false ≡ is_none (enclosed d t i outer).grouping
unfolding is_none
opener_some d t i [] = refl
opener_some d t i (g ∷ outer) = refl

once_by : (t : Listed) → TokenView t → (ts : List Listed)
    → is_closer (kind_of t) ≡ is_none (nested_by (kind_of t) t (nested ts)).grouping
unfolding is_none
once_by _ (IsOpener d text joint) ts =
    opener_some d (listed.Token (Opener d) text joint) (nested ts).grouping (nested ts).outer
once_by _ (IsCloser d text joint) ts = refl
once_by _ (IsPlain t p) ts = p.closer ∙ sym (ap (λ (n : Nested). is_none n.grouping) (p.nest (nested ts)))

once : (ts : List Listed) (d : Delim) (within : List Delim) → HasOuter (d ∷ within) (nested ts).outer
    → closes_at_once ts ≡ is_none (nested ts).grouping
once [] d within h = absurd h
once (t ∷ ts) d within h = once_by t (token_view t) ts

-- ---- token by token

flat_same : (s : Seen) (within : List Delim) (m n : Nested) (toks put : List Tok) (end seen : Seen) → m ≡ n
    → put ≡ toks → seen ≡ end
    → FlatOf s within m toks end → FlatOf s within n put seen
flat_same s within m n toks put end seen en et ee x = record {
  has = subst (λ (n : Nested). HasOuter within n.outer) en x.has;
  same = et ∙ x.same ∙ ap (λ (n : Nested). fed false (form_of_grouping s n.grouping)
      (rest_of (seen_all s n.grouping) within n.outer)) en;
  seen = ee ∙ x.seen ∙ ap (λ (n : Nested). last_of (seen_all s n.grouping) within n.outer) en;
}

plain_flat : (s : Seen) (t : Listed) (within : List Delim) (n : Nested) (toks : List Tok) (end : Seen)
    → FlatOf (seen_token s t) within n toks end
    → FlatOf s within (record { grouping = OneToken t n.grouping; outer = n.outer })
    ((fed_gap (between s (Single t)) ++ stream_of (listed_form t Done)) ++ toks) end
plain_flat s t within n toks end x =
    let gap = fed_gap (between s (Single t)) in
    let one = stream_of (listed_form t Done) in
    let f = form_of_grouping (seen_token s t) n.grouping in
    let rest = rest_of (seen_all (seen_token s t) n.grouping) within n.outer in
    record {
      has = x.has;
      same = append_assoc gap one toks ∙ ap (λ (l : List Tok). gap ++ (one ++ l)) x.same
          ∙ sym (single_point false (between s (Single t)) t f rest (no_point (seen_token s t) n.grouping rest));
      seen = x.seen;
    }

closer_flat : (s : Seen) (d : Delim) (within : List Delim) (n : Nested) (toks : List Tok) (end : Seen)
    → FlatOf (behind_group d s.count) within n toks end
    → FlatOf s (d ∷ within) (record { grouping = NoMore; outer = n.grouping ∷ n.outer }) (fed_closer s d ++ toks) end
closer_flat s d within n toks end x =
    record { has = x.has; same = ap (λ (l : List Tok). fed_closer s d ++ l) x.same; seen = x.seen }

opener_flat : (s : Seen) (d : Delim) (t : Listed) (within : List Delim) (empty : Bool) (i : Grouping)
    (outer : List Grouping) (toks : List Tok) (end : Seen)
    → empty ≡ is_none i → FlatOf (at_start s.count) (d ∷ within) (record { grouping = i; outer = outer }) toks end
    → FlatOf s within (enclosed d t i outer) ((fed_gap (between s (Enclosed d)) ++ fed_opener empty d) ++ toks) end
opener_flat s d t within empty i [] toks end e x = absurd x.has
opener_flat s d t within empty i (g ∷ outer) toks end e x =
    let gap = fed_gap (between s (Enclosed d)) in
    let last = seen_all (at_start s.count) i in
    let inner = form_of_grouping (at_start s.count) i in
    let f = form_of_grouping (behind_group d last.count) g in
    let rest = rest_of (seen_all (behind_group d last.count) g) within outer in
    record {
      has = x.has;
      same = append_assoc gap (fed_opener empty d) toks
          ∙ ap (λ (l : List Tok). gap ++ l)
          (ap (λ (b : Bool). fed_opener b d ++ toks) e
          ∙ ap (λ (l : List Tok). fed_opener (is_none i) d ++ l) x.same
          ∙ opener_parts s.count d i (fed false f rest))
          ∙ sym (group_point false (between s (Enclosed d)) d i (is_line_doc last.last) inner f rest
          (no_point (behind_group d last.count) g rest));
      seen = x.seen;
    }

abbrev Flat : List Listed → List Delim → Seen → Type 0
Flat ts within s = FlatOf s within (nested ts) (fed_tokens s ts) (seen_over s ts)

flat_by : (t : Listed) → TokenView t → (ts : List Listed) (within : List Delim) (s : Seen)
    → IsTrue (balances within (t ∷ ts))
    → ((w : List Delim) (z : Seen) → IsTrue (balances w ts) → Flat ts w z) → Flat (t ∷ ts) within s
unfolding fed_tokens fed_token seen_behind seen_over
flat_by _ (IsOpener d text joint) ts within s h more =
    let x = more (d ∷ within) (at_start s.count) (opener_balance within d text joint ts h) in
    opener_flat s d (listed.Token (Opener d) text joint) within (closes_at_once ts) (nested ts).grouping
    (nested ts).outer _ _ (once ts d within x.has) x
flat_by _ (IsCloser d text joint) ts [] s h more = let no : ⊥ = cc in absurd no
flat_by _ (IsCloser d text joint) ts (e ∷ within) s h more =
    let split = closer_split (same_delim d e) within ts h in
    let x = more within (behind_group d s.count) split.1 in
    subst
    (λ (e : Delim). FlatOf s (e ∷ within)
    (record { grouping = NoMore; outer = (nested ts).grouping ∷ (nested ts).outer })
    (fed_closer s d ++ fed_tokens (behind_group d s.count) ts) (seen_over (behind_group d s.count) ts))
    (same_is d e split.0) (closer_flat s d within (nested ts) _ _ x)
flat_by _ (IsPlain t p) ts within s h more =
    let x = more within (seen_token s t) (plain_balance within t ts (p.turn within) h) in
    flat_same s within _ _ _ _ _ _ (sym (p.nest (nested ts)))
    (ap (λ (l : List Tok). l ++ fed_tokens (seen_by (kind_of t) s t) ts) (p.feed s ts)
    ∙ ap (λ (z : Seen). (fed_gap (between s (Single t)) ++ stream_of (listed_form t Done)) ++ fed_tokens z ts)
    (p.seen s))
    (ap (λ (z : Seen). seen_over z ts) (p.seen s))
    (plain_flat s t within (nested ts) _ _ x)

flat : (ts : List Listed) (within : List Delim) (s : Seen) → IsTrue (balances within ts) → Flat ts within s
unfolding fed_tokens seen_over
flat [] [] s h = record { has = tt; same = refl; seen = refl }
flat [] (d ∷ within) s h = let no : ⊥ = cc in absurd no
flat (t ∷ ts) within s h = flat_by t (token_view t) ts within s h (λ w z k. flat ts w z k)

-- ---- whole lists

pub list_fed : (ts : List Listed) → IsTrue (is_balanced ts)
    → fed_tokens (at_start 0) ts ≡ stream_of (form_of_grouping (at_start 0) (in_groups ts))
list_fed ts h = (flat ts [] (at_start 0) h).same

pub list_seen : (ts : List Listed) → IsTrue (is_balanced ts)
    → is_line_doc (seen_over (at_start 0) ts).last ≡ ends_in_line ts
list_seen ts h = ap (λ (s : Seen). is_line_doc s.last) (flat ts [] (at_start 0) h).seen

-- ---- groups of a layout

nested_stream : (d : Document) (n : ℕ) (s : List Tok) → IsNested n s → IsNested n (stream d ++ s)
nested_stream Empty n s h = h
nested_stream (AddText t rest) n s h = nested_stream rest n s h
nested_stream (AddBreak b rest) n s h = nested_stream rest n s h
nested_stream (AddGroup c o inner rest) n s h =
    rw append_assoc (nested_stream inner (suc n) (tok.End ∷ (stream rest ++ s)) (omega arith, nested_stream rest n s h))

-- In the stream of a form each end closes a group.
pub form_nested : (f : Form) (n : ℕ) → IsNested n (stream_of f)
form_nested f n =
    subst (IsNested n) (append-nil (stream (document f)) ∙ stream_is f) (nested_stream (document f) n [] tt)

pub nested_parts : (a b : List Tok) (n : ℕ) → IsNested n (a ++ b) → IsNested n a × IsNested (machine.opened a n) b
nested_parts [] b n h = (tt, h)
nested_parts (tok.Text t ∷ a) b n h = nested_parts a b n h
nested_parts (tok.Break x ∷ a) b n h = nested_parts a b n h
nested_parts (tok.Begin c o ∷ a) b n h = nested_parts a b (suc n) h
nested_parts (tok.End ∷ a) b n h = let more = nested_parts a b (machine.outer n) h.1 in ((h.0, more.0), more.1)

-- ---- the loop over a list

pub list_nested : (s : Seen) (ts : List Listed) (n : ℕ) → s ≡ at_start 0 → IsTrue (is_balanced ts)
    → IsNested n (fed_tokens s ts)
list_nested s ts n e h =
    subst (IsNested n) (sym (ap (λ (z : Seen). fed_tokens z ts) e ∙ list_fed ts h))
    (form_nested (form_of_grouping (at_start 0) (in_groups ts)) n)

pub step_fed : (s : Seen) (t : Listed) (ts rest : List Listed) (next : Seen) → rest ≡ t ∷ ts → next ≡ seen_behind s t
    → fed_token s t ts ++ fed_tokens next ts ≡ fed_tokens s rest
unfolding fed_tokens
step_fed s t ts rest next e f =
    ap (λ (z : Seen). fed_token s t ts ++ fed_tokens z ts) f ∙ sym (ap (λ (xs : List Listed). fed_tokens s xs) e)

pub step_seen : (s : Seen) (t : Listed) (ts rest : List Listed) (next : Seen) → rest ≡ t ∷ ts → next ≡ seen_behind s t
    → seen_over next ts ≡ seen_over s rest
unfolding seen_over
step_seen s t ts rest next e f = ap (λ (z : Seen). seen_over z ts) f ∙ sym (ap (λ (xs : List Listed). seen_over s xs) e)

pub step_nested : (s : Seen) (t : Listed) (ts rest : List Listed) (next : Seen) (n m : ℕ) → rest ≡ t ∷ ts
    → IsNested n (fed_tokens s rest)
    → m ≡ machine.opened (fed_token s t ts) n → next ≡ seen_behind s t
    → IsNested n (fed_token s t ts) × IsNested m (fed_tokens next ts)
unfolding fed_tokens
step_nested s t ts rest next n m e h k f =
    let both = nested_parts (fed_token s t ts) (fed_tokens (seen_behind s t) ts) n
    (subst (λ (xs : List Listed). IsNested n (fed_tokens s xs)) e h) in (
      both.0,
      subst (λ (z : Seen). IsNested m (fed_tokens z ts)) (sym f)
          (subst (λ (j : ℕ). IsNested j (fed_tokens (seen_behind s t) ts)) (sym k) both.1),
    )

pub end_fed : (s : Seen) (rest : List Listed) → length rest ≡ 0 → [] ≡ fed_tokens s rest
unfolding fed_tokens
end_fed s [] e = refl
end_fed s (t ∷ ts) e = absurd (omega arith)

pub end_seen : (s : Seen) (rest : List Listed) → length rest ≡ 0 → s ≡ seen_over s rest
unfolding seen_over
end_seen s [] e = refl
end_seen s (t ∷ ts) e = absurd (omega arith)

pub closed_nested : (line : Bool) (d : Delim) (n m : ℕ) → n ≡ suc (suc m) → IsNested n (feeds.closed line d)
closed_nested line d n m e =
    subst (λ (k : ℕ). IsNested k (feeds.closed line d)) (sym e) (omega arith, (omega arith, tt))

-- Balanced tokens, of which there are some, are in some group or are some token.
some_by : (t : Listed) → TokenView t → (ts : List Listed) → IsTrue (balances [] (t ∷ ts))
    → is_none (nested_by (kind_of t) t (nested ts)).grouping ≡ false
unfolding is_none
some_by _ (IsOpener d text joint) ts h =
    sym (opener_some d (listed.Token (Opener d) text joint) (nested ts).grouping (nested ts).outer)
some_by _ (IsCloser d text joint) ts h = let no : ⊥ = cc in absurd no
some_by _ (IsPlain t p) ts h = ap (λ (n : Nested). is_none n.grouping) (p.nest (nested ts))

some_tokens : (ts : List Listed) → IsTrue (is_balanced ts) → (length ts ≡ 0 → ⊥) → in_groups ts ≡ NoMore → ⊥
unfolding is_none
some_tokens [] h k e = k refl
some_tokens (t ∷ ts) h k e =
    let some = some_by t (token_view t) ts h in
    let none : is_none (in_groups (t ∷ ts)) ≡ true = ap is_none e in
    cc

pub full_group : (g : Group) (put : List Listed) → put ≡ g.tokens → IsTrue (is_balanced g.tokens) → (length put ≡ 0 → ⊥)
    → feeds.opened g.delim ++ (stream_of (form_of_grouping (at_start 0) (in_groups put))
    ++ feeds.closed (ends_in_line put) g.delim) ≡ stream_of (group_form g Done)
full_group g put e h k =
    group_alone g.delim (in_groups put) (ends_in_line put) (form_of_grouping (at_start 0) (in_groups put))
    (some_tokens put (subst (λ (ts : List Listed). IsTrue (is_balanced ts)) (sym e) h) k)
    ∙ ap (λ (ts : List Listed). stream_of
    (enclosed_form g.delim (in_groups ts) (ends_in_line ts) (form_of_grouping (at_start 0) (in_groups ts)) Done)) e
