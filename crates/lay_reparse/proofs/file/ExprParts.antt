-- Where expressions begin and end, and what of a form begins with an expression. An expression may begin with a word, a
-- lifetime, a literal, an operator, `..`, `(`, `[`, `{`, `|`, `<`, `::` or `_`, so the borders before it are named by a
-- test. A `..` that follows a point gets a blank, so the flag for a text that ends in a point is part of it.
use Rattle.std.proofs.Common.{◌≡◌, ℕ, nat_le, List, [], ◌∷◌, Bool, true, false, ◌&&◌, ◌||◌, refl, subst, codes, arith, Option}
use Rattle.std.proofs.lemmas.Bool.{and_parts, and_from, or_left, or_right, leb-true, le-leb}
use Rattle.lay_piece.specs.declared.kind.Delim.{Delim}
use Rattle.lay_piece.specs.declared.kind.Delim.TheVariants.{Paren, Bracket}
use Rattle.lay_piece.specs.declared.kind.Kind.TheVariants as kind
use Rattle.lay_form.specs.Form as form
use Rattle.lay_form.specs.Form.{Bit, Blank, Form, Done, Piece, Leaf, Group, keyword, opener, closer}
use Rattle.lay_form.specs.Layout.{led}
use Rattle.lay_node.specs.nodes.Fields.{blank_if}
use Rattle.lay_node.specs.nodes.Patterns.{dots}
use Rattle.lay_node.specs.nodes.Types.{deeper}
use Rattle.lay_code.specs.nodes.Blocks.{dropped}
use Rattle.lay_code.specs.nodes.Exprs.{bar, prefix_bits}
use Rattle.lay_code.specs.declared.operators.Prefix.{Prefix}
use Rattle.lay_code.specs.declared.operators.Prefix.TheVariants as before
use Rattle.lay_reparse.proofs.borders.Need as need
use Rattle.lay_reparse.proofs.borders.Need.{Need, RawWord, Grow, all}
use Rattle.lay_reparse.proofs.borders.Border.{Other, Border, Spot, Clear, At, beyond}
use Rattle.lay_reparse.proofs.borders.Move.{under}
use Rattle.lay_reparse.proofs.forms.Opened.{even}
use Rattle.lay_reparse.proofs.forms.Passes.{Passes, plain, leads, piece_passes}
use Rattle.lay_reparse.proofs.forms.Rules.{tables, On, From, under-refl, to_wider, simple, list_fits, body_fits, soft_fits}
use Rattle.lay_reparse.proofs.file.Nodes.{behind_word}
use Rattle.lay_reparse.proofs.file.PatternParts.{ends_pat, literals_lead, begins_call, wild}
use Rattle.lay_reparse.proofs.file.Types.{begins_path}

-- ---- where an expression may have ended

-- an expression after which a tuple index may stand: no number without suffix
abbrev pub ends_base : Border
ends_base = record {
  needs =
      need.Word ∷ RawWord ∷ need.Life ∷ need.Literal ∷ need.Number ∷ need.FloatWord ∷ Grow (codes "?") ∷ [];
  spot = At Other;
}

-- an expression that lacks no operand
abbrev pub ends_operand : Border
ends_operand = record { needs = need.IntBare ∷ ends_base.needs; spot = At Other }

-- any, also a range without an end
abbrev pub ends_expr : Border
ends_expr = record { needs = Grow (codes "..") ∷ ends_operand.needs; spot = Clear }

-- The flags say that a last operand may be left out, and that a tuple index may stand after it.
abbrev pub ends_by : Bool → Bool → Border
ends_by true base = ends_expr
ends_by false true = ends_base
ends_by false false = ends_operand

-- Each of these asks for no more than the next: where a tuple index may stand, where none may, and where any may end.
pub ends_wide : (bare base : Bool) → under (ends_by bare base) (ends_by bare false) ≡ true
ends_wide true base = refl
ends_wide false true = refl
ends_wide false false = refl

pub ends_any : (bare base : Bool) → under (ends_by bare base) ends_expr ≡ true
ends_any true base = refl
ends_any false true = refl
ends_any false false = refl

-- What lacks no operand ends as an operand does.
pub ends_shut : (bare base : Bool) → bare ≡ false → under (ends_by bare base) ends_operand ≡ true
ends_shut true base h = cc
ends_shut false true h = refl
ends_shut false false h = refl

pub operand_under : (bare : Bool) → under ends_operand (ends_by bare false) ≡ true
operand_under true = refl
operand_under false = refl

-- ---- forms after a text that ends in a point, or in none

-- The form passes from b to c, where the flag says that the text before ends in a point.
pub record Behind (v : Bool) (b : Border) (f : Form) (c : Border) : Type 0 where
  pub now : Passes even v f b c

-- whatever stands before
pub always : {v : Bool} {b c : Border} {f : Form} → From b f c → Behind v b f c
always {v} k = record { now = k.go v }

-- in both cases, so whatever stands before
pub in_both : {b c : Border} {f : Form} → ((v : Bool) → Behind v b f c) → From b f c
in_both k = record { go = λ v. (k v).now }

pub behind_wider : {v : Bool} {b c z : Border} {f : Form} → under c z ≡ true → Behind v b f c → Behind v b f z
behind_wider {v} {b} {c} {z} {f} u k = record { now = to_wider even v f b c z u k.now }

-- one level deeper
pub deep : {v : Bool} {b c z : Border} {f : Form} → under c z ≡ true → Behind v b f c → Behind v b (deeper f) z
deep {v} {b} {c} u k = record { now = (b, c, under-refl b, k.now, u) }

-- the same, where an expression ends after which a tuple index may stand
pub shut_deep : {v : Bool} {b : Border} {f : Form} → From b f ends_base → Behind v b (deeper f) ends_base
shut_deep k = deep (under-refl ends_base) (always k)

-- The first part of a form stands where the form does, and so does what begins a group.
pub first_part : {v : Bool} {b c z : Border} {i f : Form} → Behind v b i c → From c f z
    → Behind v b (form.Part i f) z
first_part {v} {b} {c} k l = record { now = (b, c, under-refl b, k.now, l.go _) }

pub in_group : {v : Bool} {k : Bool} {n : ℕ} {b c : Border} {f : Form} → Behind v b f c
    → Behind v b (Group k n f Done) c
in_group {v} {k} {n} {b} {c} p = record { now = (b, c, under-refl b, p.now, under-refl c) }

-- ---- where an expression may begin

-- nothing is asked there, and no point stands before
abbrev is_other : Spot → Bool
is_other (At Other) = true
is_other _ = false

abbrev asks_none : List Need → Bool
asks_none [] = true
asks_none (n ∷ ns) = false

abbrev pub is_clear : Border → Bool
is_clear b = asks_none b.needs && is_other b.spot

-- Then it is where nothing is asked.
pub clear_is : (b : Border) → is_clear b ≡ true → plain ≡ b
clear_is b h = at b.needs b.spot h
  where
    at : (ns : List Need) (o : Spot) → asks_none ns && is_other o ≡ true → plain ≡ record { needs = ns; spot = o }
    at [] (At Other) h = refl
    at [] _ h = cc
    at (n ∷ ns) o h = cc

pub from_clear : {o : Option (List Delim)} (b : Border) {f : Form} {c : Border} → is_clear b ≡ true → On o plain f c
    → On o b f c
from_clear {o} b {f} {c} h k = subst (λ z. On o z f c) (clear_is b h) k

abbrev pub gap : List Bit
gap = Blank ∷ []

-- A word that needs no operand may have ended, and one may stand after it.
abbrev pub may_lack_operand : Border → Bool
may_lack_operand b = under b ends_base && (simple b gap && is_clear (beyond b gap))

abbrev pub begins_word : Border → List Bit → Bool
begins_word b p = simple b p && may_lack_operand (beyond b p)

abbrev pub return_word : List Bit
return_word = keyword (codes "return") ∷ []

abbrev pub break_word : List Bit
break_word = keyword (codes "break") ∷ []

abbrev pub continue_word : List Bit
continue_word = keyword (codes "continue") ∷ []

abbrev pub begins_words : Border → Bool
begins_words b = begins_word b return_word && (begins_word b break_word && begins_word b continue_word)

-- an operator before an operand, after which nothing is asked
abbrev pub begins_by : Border → Prefix → Bool
begins_by b p = simple b (prefix_bits p) && is_clear (beyond b (prefix_bits p))

abbrev pub begins_prefix : Border → Bool
begins_prefix b =
    begins_by b before.Neg
    && (begins_by b before.Deref
    && (begins_by b before.Bang
    && (begins_by b before.Amp
    && (begins_by b before.AmpMut && (begins_by b before.RawConst && begins_by b before.RawMut)))))

-- each of them
pub prefix_at : (b : Border) → begins_prefix b ≡ true → (p : Prefix) → begins_by b p ≡ true
prefix_at b h p =
    let h1 = and_parts (begins_by b before.Neg) _ h in
    let h2 = and_parts (begins_by b before.Deref) _ h1.1 in
    let h3 = and_parts (begins_by b before.Bang) _ h2.1 in
    let h4 = and_parts (begins_by b before.Amp) _ h3.1 in
    let h5 = and_parts (begins_by b before.AmpMut) _ h4.1 in
    let h6 = and_parts (begins_by b before.RawConst) _ h5.1 in
    by h1.0 h2.0 h3.0 h4.0 h5.0 h6.0 h6.1 p
  where
    by : begins_by b before.Neg ≡ true → begins_by b before.Deref ≡ true → begins_by b before.Bang ≡ true
        → begins_by b before.Amp ≡ true → begins_by b before.AmpMut ≡ true → begins_by b before.RawConst ≡ true
        → begins_by b before.RawMut ≡ true → (p : Prefix) → begins_by b p ≡ true
    by neg deref bang amp amp_mut raw_const raw_mut before.Neg = neg
    by neg deref bang amp amp_mut raw_const raw_mut before.Deref = deref
    by neg deref bang amp amp_mut raw_const raw_mut before.Bang = bang
    by neg deref bang amp amp_mut raw_const raw_mut before.Amp = amp
    by neg deref bang amp amp_mut raw_const raw_mut before.AmpMut = amp_mut
    by neg deref bang amp amp_mut raw_const raw_mut before.RawConst = raw_const
    by neg deref bang amp amp_mut raw_const raw_mut before.RawMut = raw_mut

abbrev pub opens_by : Border → Bit → Bool
opens_by b o = simple b (o ∷ []) && is_clear (beyond b (o ∷ []))

-- what stands in parentheses or brackets: lists, and one expression
abbrev pub begins_group : Border → Bool
begins_group b =
    list_fits true (opener Paren) (closer Paren) b plain ends_expr ends_base
    && (list_fits true (opener Bracket) (closer Bracket) b plain ends_expr ends_base
    && (opens_by b (opener Paren) && opens_by b (opener Bracket)))

abbrev pub begins_wild : Border → Bool
begins_wild b = simple b wild && under (beyond b wild) ends_base

-- after a statement: an expression or an item may have ended
abbrev pub ends_stmt : Border
ends_stmt = record { needs = need.LineDoc ∷ ends_expr.needs; spot = Clear }

-- A block may stand there, with a blank before it or not; and one that may stand on one line.
abbrev pub opens_block : Bool → Border → Bool
opens_block lead b =
    body_fits (blank_if lead) [] b plain ends_stmt plain && body_fits (blank_if lead) dropped b plain ends_stmt plain

abbrev pub opens_soft : Border → Bool
opens_soft b = opens_block true b && soft_fits b plain ends_expr plain

-- The bits lead to where no more is asked than at that border.
abbrev pub leads_to : Border → List Bit → Border → Bool
leads_to b p c = simple b p && under (beyond b p) c

-- a word before a block, and one before what begins where nothing is asked
abbrev pub block_word : List ℕ → List Bit
block_word w = keyword w ∷ []

abbrev pub head_word : List ℕ → List Bit
head_word w = keyword w ∷ gap

-- the `move` after an `async`
abbrev pub move_word : List Bit
move_word = Blank ∷ keyword (codes "move") ∷ []

abbrev pub begins_block_words : Border → Bool
begins_block_words b =
    leads_to b (block_word (codes "unsafe")) behind_word
    && (leads_to b (block_word (codes "const")) behind_word
    && (leads_to b (block_word (codes "async")) behind_word
    && (leads_to (beyond b (block_word (codes "async"))) move_word behind_word
    && leads_to b (block_word (codes "loop")) behind_word)))

abbrev pub begins_head_words : Border → Bool
begins_head_words b =
    leads_to b (head_word (codes "if")) plain
    && (leads_to b (head_word (codes "match")) plain
    && (leads_to b (head_word (codes "while")) plain
    && (leads_to b (head_word (codes "for")) plain
    && (leads_to b (head_word (codes "async")) plain
    && (leads_to (beyond b (head_word (codes "async"))) (head_word (codes "move")) plain
    && leads_to b (head_word (codes "move")) plain)))))

-- the parameters of a closure
abbrev pub begins_bars : Border → Bool
begins_bars b = list_fits true bar bar b plain ends_pat plain

-- What holds a block may begin there, with a label or without one, and a closure.
abbrev pub begins_code : Border → Bool
begins_code b =
    all (leads kind.Lifetime) b.needs
    && (opens_block false b && (begins_bars b && (begins_block_words b && begins_head_words b)))

-- the same, part by part
pub record BeginsCode (b : Border) : Type 0 where
  pub label : all (leads kind.Lifetime) b.needs ≡ true
  pub brace : opens_block false b ≡ true
  pub bars : begins_bars b ≡ true
  pub by_unsafe : leads_to b (block_word (codes "unsafe")) behind_word ≡ true
  pub by_const : leads_to b (block_word (codes "const")) behind_word ≡ true
  pub by_async : leads_to b (block_word (codes "async")) behind_word ≡ true
  pub by_async_move : leads_to (beyond b (block_word (codes "async"))) move_word behind_word ≡ true
  pub by_loop : leads_to b (block_word (codes "loop")) behind_word ≡ true
  pub by_if : leads_to b (head_word (codes "if")) plain ≡ true
  pub by_match : leads_to b (head_word (codes "match")) plain ≡ true
  pub by_while : leads_to b (head_word (codes "while")) plain ≡ true
  pub by_for : leads_to b (head_word (codes "for")) plain ≡ true
  pub by_async_bars : leads_to b (head_word (codes "async")) plain ≡ true
  pub by_async_move_bars : leads_to (beyond b (head_word (codes "async"))) (head_word (codes "move")) plain ≡ true
  pub by_move : leads_to b (head_word (codes "move")) plain ≡ true

pub code_begins : (b : Border) → begins_code b ≡ true → BeginsCode b
code_begins b h =
    let p1 = and_parts (all (leads kind.Lifetime) b.needs) _ h in
    let p2 = and_parts (opens_block false b) _ p1.1 in
    let p3 = and_parts (begins_bars b) _ p2.1 in
    let p4 = and_parts (begins_block_words b) _ p3.1 in
    let w1 = and_parts (leads_to b (block_word (codes "unsafe")) behind_word) _ p4.0 in
    let w2 = and_parts (leads_to b (block_word (codes "const")) behind_word) _ w1.1 in
    let w3 = and_parts (leads_to b (block_word (codes "async")) behind_word) _ w2.1 in
    let w4 = and_parts (leads_to (beyond b (block_word (codes "async"))) move_word behind_word) _ w3.1 in
    let h1 = and_parts (leads_to b (head_word (codes "if")) plain) _ p4.1 in
    let h2 = and_parts (leads_to b (head_word (codes "match")) plain) _ h1.1 in
    let h3 = and_parts (leads_to b (head_word (codes "while")) plain) _ h2.1 in
    let h4 = and_parts (leads_to b (head_word (codes "for")) plain) _ h3.1 in
    let h5 = and_parts (leads_to b (head_word (codes "async")) plain) _ h4.1 in
    let h6 = and_parts (leads_to (beyond b (head_word (codes "async"))) (head_word (codes "move")) plain) _ h5.1 in
    record {
      label = p1.0;
      brace = p2.0;
      bars = p3.0;
      by_unsafe = w1.0;
      by_const = w2.0;
      by_async = w3.0;
      by_async_move = w4.0;
      by_loop = w4.1;
      by_if = h1.0;
      by_match = h2.0;
      by_while = h3.0;
      by_for = h4.0;
      by_async_bars = h5.0;
      by_async_move_bars = h6.0;
      by_move = h6.1;
    }

-- An expression may begin there that doesn't begin with `..`.
abbrev pub begins_operand : Border → Bool
begins_operand b =
    begins_code b
    && (begins_path b
    && (begins_call b
    && (literals_lead b && (begins_wild b && (begins_words b && (begins_prefix b && begins_group b))))))

-- the same, part by part
pub record Begins (b : Border) : Type 0 where
  pub code : BeginsCode b
  pub path : begins_path b ≡ true
  pub call : begins_call b ≡ true
  pub literal : literals_lead b ≡ true
  pub wilds : begins_wild b ≡ true
  pub returns : begins_word b return_word ≡ true
  pub breaks : begins_word b break_word ≡ true
  pub continues : begins_word b continue_word ≡ true
  pub prefix : begins_prefix b ≡ true
  pub round : list_fits true (opener Paren) (closer Paren) b plain ends_expr ends_base ≡ true
  pub square : list_fits true (opener Bracket) (closer Bracket) b plain ends_expr ends_base ≡ true
  pub opens_round : opens_by b (opener Paren) ≡ true
  pub opens_square : opens_by b (opener Bracket) ≡ true

pub begins : (b : Border) → begins_operand b ≡ true → Begins b
begins b h =
    let p0 = and_parts (begins_code b) _ h in
    let p1 = and_parts (begins_path b) _ p0.1 in
    let p2 = and_parts (begins_call b) _ p1.1 in
    let p3 = and_parts (literals_lead b) _ p2.1 in
    let p4 = and_parts (begins_wild b) _ p3.1 in
    let p5 = and_parts (begins_words b) _ p4.1 in
    let p6 = and_parts (begins_prefix b) _ p5.1 in
    let w1 = and_parts (begins_word b return_word) _ p5.0 in
    let w2 = and_parts (begins_word b break_word) _ w1.1 in
    let g1 = and_parts (list_fits true (opener Paren) (closer Paren) b plain ends_expr ends_base) _ p6.1 in
    let g2 = and_parts (list_fits true (opener Bracket) (closer Bracket) b plain ends_expr ends_base) _ g1.1 in
    let g3 = and_parts (opens_by b (opener Paren)) _ g2.1 in
    record {
      code = code_begins b p0.0;
      path = p1.0;
      call = p2.0;
      literal = p3.0;
      wilds = p4.0;
      returns = w1.0;
      breaks = w2.0;
      continues = w2.1;
      prefix = p6.0;
      round = g1.0;
      square = g2.0;
      opens_round = g3.0;
      opens_square = g3.1;
    }

-- `..` or `..=`, with the blank that it gets after a point, and an operand after it
abbrev pub begins_dots : Bool → Border → List Bit → Bool
begins_dots v b p = piece_passes v b p && begins_operand (beyond b (led v p))

abbrev pub begins_range : Bool → Border → Bool
begins_range v b =
    begins_dots v b (dots true)
    && (begins_dots v b (dots false) && under (beyond b (led v (dots false))) ends_expr)

-- An expression of this level may begin there: a range, and an assignment to one, are of no higher level than 1.
abbrev pub begins_at : Bool → ℕ → Border → Bool
begins_at v level b = begins_operand b && (nat_le 2 level || begins_range v b)

-- Any may, whatever stands before.
abbrev pub begins_expr : Border → Bool
begins_expr b = begins_operand b && (begins_range false b && begins_range true b)

-- a level from 2 on, and one as high
two_higher : (l m : ℕ) → nat_le l m ≡ true → nat_le 2 l ≡ true → nat_le 2 m ≡ true
two_higher l m h g =
    let a = leb-true l m h in
    let b = leb-true 2 l g in
    le-leb 2 m (omega arith)

-- where one of a level may begin, one of a higher level may
pub higher : (v : Bool) (b : Border) (l m : ℕ) → nat_le l m ≡ true → begins_at v l b ≡ true → begins_at v m b ≡ true
higher v b l m h g =
    let q = and_parts (begins_operand b) _ g in
    and_from (begins_operand b) _ q.0 (at (nat_le 2 l) (nat_le 2 m) (two_higher l m h) q.1)
  where
    at : (x y : Bool) → (x ≡ true → y ≡ true) → x || begins_range v b ≡ true → y || begins_range v b ≡ true
    at true y f k = or_left y _ (f refl)
    at false y f k = or_right y _ k

-- where an operand may begin, one of a level that is no range's may
pub operand_begins : (v : Bool) (b : Border) (l : ℕ) → nat_le 2 l ≡ true → begins_operand b ≡ true
    → begins_at v l b ≡ true
operand_begins v b l h g = and_from (begins_operand b) _ g (or_left (nat_le 2 l) (begins_range v b) h)

pub any_begins : (v : Bool) (b : Border) (l : ℕ) → begins_expr b ≡ true → begins_at v l b ≡ true
any_begins v b l h =
    let q = and_parts (begins_operand b) _ h in
    let r = and_parts (begins_range false b) _ q.1 in
    and_from (begins_operand b) _ q.0 (or_right (nat_le 2 l) (begins_range v b) (at v r.0 r.1))
  where
    at : (v : Bool) → begins_range false b ≡ true → begins_range true b ≡ true → begins_range v b ≡ true
    at false h k = h
    at true h k = k

-- one may begin where nothing is asked
pub begins_plain : begins_expr plain ≡ true
unfolding tables
begins_plain = refl

-- `..` may stand after an operand
pub ranges_behind_operand : (v : Bool) → begins_range v ends_operand ≡ true
unfolding tables
ranges_behind_operand true = refl
ranges_behind_operand false = refl

-- an expression may stand after the `..` of a struct literal, also one that begins with `..`
pub begins_based : (v : Bool) → begins_at true 0 (beyond plain (led v (dots false))) ≡ true
unfolding tables
begins_based true = refl
begins_based false = refl
