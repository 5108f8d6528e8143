-- What reading of lifetimes, literals, binders, constants and lists leaves: the tokens after those that are read.
use Rattle.std.proofs.Common.{◌≡◌, ℕ, zero, suc, ◌<◌, Bool, true, false, List, [], ◌∷◌, length, drop, codes, Some, None, if◌then◌else◌, ap, arith}
use Rattle.lay_token.specs.Operators.{is_op}
use Rattle.lay_piece.specs.declared.kind.Delim.TheVariants.{Brace}
use Rattle.lay_token.specs.declared.token.Token.{Token}
use Rattle.lay_node.specs.Begins.{is_literal_token}
use Rattle.lay_node.specs.Ahead.{Tokens, first, tail, is_keyword, is_mark, is_lifetime, opens, closes}
use Rattle.lay_node.specs.nodes.Types.{is_captured}
use Rattle.lay_node.specs.reader.Attr.{attributes}
use Rattle.lay_node.specs.reader.Exact.{needless}
use Rattle.lay_node.specs.reader.Loops.{Got, Read, passed, repeat, open_elements_from, open_elements}
use Rattle.lay_node.specs.reader.Tokens.{tokens}
use Rattle.lay_node.specs.reader.Types as r
use Rattle.lay_node.specs.reader.Types.{Within, within}
use Rattle.lay_node.specs.reader.Words.{word}
use Rattle.lay_node.specs.declared.attr.Attr.{Attr}
use Rattle.lay_read_tokens.proofs.Left.{Left, Leaves, Passes, unread, dropped, one_read, further, chain, chain_passed, choice, first_read, passed_left, repeat_left, elements_left, word_left, tokens_left, attributes_left, shorter}

-- ---- small parts

pub operator_left : (op : List ℕ) (ts : Tokens) → Passes 0 ts (r.operator op ts)
operator_left op ts = by (is_op op ts)
  where
    by : (b : Bool) → Passes 0 ts (if b then Some (drop (length op) ts) else None)
    by true = dropped (length op) ts
    by false = tt

pub flag_left : (p : Token → Bool) (ts : Tokens) → Left 0 ts (r.flag p ts).1
flag_left p [] = unread []
flag_left p (t ∷ ts) = by (p t)
  where
    by : (b : Bool) → (let pair : Bool × Tokens = if b then (true, ts) else (false, t ∷ ts) in Left 0 (t ∷ ts) pair.1)
    by true = dropped 1 (t ∷ ts)
    by false = unread (t ∷ ts)

pub weaker : {A : Type 0} (ts : Tokens) (o : Got A) → Leaves 1 ts o → Leaves 0 ts o
weaker ts o h = further 0 0 1 ts ts o (omega arith) (unread ts) h

pub there_left : {A : Type 0} (b : Bool) (one : Tokens → Got A) (ts : Tokens) → Leaves 0 ts (one ts)
    → Leaves 0 ts (r.if_there b one ts)
there_left true one ts h = chain 0 0 0 ts (one ts) _ (omega arith) h (λ x. unread x.1)
there_left false one ts h = unread ts

pub read_left : {A : Type 0} (b : Bool) (one : Tokens → Read A) (ts : Tokens) → Leaves 0 ts (one ts)
    → Leaves 0 ts (r.if_read b one ts)
read_left true one ts h = chain 0 0 0 ts (one ts) _ (omega arith) h (λ x. unread x.1)
read_left false one ts h = unread ts

pub lifetime_left : (ts : Tokens) → Leaves 1 ts (r.lifetime ts)
unfolding r.lifetime
lifetime_left [] = tt
lifetime_left (t ∷ ts) = choice 1 (t ∷ ts) (is_lifetime t) _ None (λ h. one_read t ts) tt

pub literal_left : (p : Token → Bool) (ts : Tokens) → Leaves 1 ts (r.literal p ts)
unfolding r.literal
literal_left p [] = tt
literal_left p (t ∷ ts) = choice 1 (t ∷ ts) (p t) _ None (λ h. one_read t ts) tt

module _ {A : Type 0} (one : Tokens → Got A) (one_left : (ts : Tokens) → Leaves 1 ts (one ts)) where
  pub joint_left : (n : ℕ) (ts : Tokens) → Leaves 1 ts (one (drop n ts))
  joint_left n ts = further 1 0 1 ts (drop n ts) _ (omega arith) (dropped n ts) (one_left (drop n ts))

  pub chain_left : (op : List ℕ) (ts : Tokens) → Leaves 1 ts (r.chain op one ts)
  unfolding r.chain
  chain_left op ts = chain 1 1 0 ts (one ts) _ (omega arith) (one_left ts)
      (λ x. chain 0 0 0 x.1 (repeat (is_op op) (λ us. one (drop (length op) us)) x.1) _ (omega arith)
      (repeat_left (λ us. one (drop (length op) us)) (joint_left (length op)) (is_op op) x.1) (λ more. unread more.1))

  pub angled_left : (ts : Tokens) → Leaves 1 ts (r.angled one ts)
  angled_left ts = chain_passed 1 1 0 ts (passed (is_mark (codes "<")) ts) _ (omega arith)
      (passed_left (is_mark (codes "<")) ts)
      (λ inside. weaker inside _ (elements_left one one_left (is_mark (codes ">")) inside))

  open_from_left : (begins : Tokens → Bool) (n : ℕ) (found : List A) (ts : Tokens)
      → Leaves 0 ts (open_elements_from begins one n found ts)
  unfolding open_elements_from
  open_from_left begins zero found ts = tt
  open_from_left begins (suc n) found ts = choice 0 ts (begins ts) _ _
      (λ h. chain 0 1 0 ts (one ts) _ (omega arith) (one_left ts)
      (λ x. choice 0 x.1 (first (is_mark (codes ",")) x.1) _ _
      (λ c. further 0 1 0 x.1 (tail x.1) _ (omega arith) (first_read (is_mark (codes ",")) x.1 c)
      (open_from_left begins n _ (tail x.1))) (unread x.1)))
      (unread ts)

  pub open_left : (begins : Tokens → Bool) (ts : Tokens) → Leaves 0 ts (open_elements begins one ts)
  unfolding open_elements
  open_left begins ts = open_from_left begins (suc (length ts)) [] ts

pub lifetimes_left : (ts : Tokens) → Leaves 0 ts (r.lifetimes ts)
lifetimes_left ts = choice 0 ts (first is_lifetime ts) _ _
    (λ h. weaker ts _ (chain_left r.lifetime lifetime_left (codes "+") ts)) (unread ts)

outlived_left : (ts : Tokens) → Leaves 0 ts (r.outlived ts)
outlived_left ts = choice 0 ts (is_op (codes ":") ts) _ _
    (λ h. further 0 0 0 ts (drop 1 ts) _ (omega arith) (dropped 1 ts) (lifetimes_left (drop 1 ts))) (unread ts)

pub behind_left : (attrs : List Attr) (ts : Tokens) → Leaves 1 ts (r.lifetime_behind attrs ts)
unfolding r.lifetime_behind
behind_left attrs ts = chain 1 1 0 ts (r.lifetime ts) _ (omega arith) (lifetime_left ts)
    (λ l. chain 0 0 0 l.1 (r.outlived l.1) _ (omega arith) (outlived_left l.1) (λ bounds. unread bounds.1))

pub lifetime_param_left : (ts : Tokens) → Leaves 1 ts (r.lifetime_param ts)
lifetime_param_left ts = chain 1 0 1 ts (attributes false ts) _ (omega arith) (attributes_left false ts)
    (λ attrs. behind_left attrs.0 attrs.1)

binder_left : (ts : Tokens) → Leaves 1 ts (r.binder ts)
unfolding r.binder
binder_left ts = chain_passed 1 1 0 ts (passed (is_keyword (codes "for")) ts) _ (omega arith)
    (passed_left (is_keyword (codes "for")) ts)
    (λ behind. chain 0 1 0 behind (r.angled r.lifetime_param behind) _ (omega arith)
    (angled_left r.lifetime_param lifetime_param_left behind) (λ params. unread params.1))

pub binder_if_left : (ts : Tokens) → Leaves 0 ts (r.binder_if ts)
binder_if_left ts = there_left (first (is_keyword (codes "for")) ts) r.binder ts (weaker ts _ (binder_left ts))

capture_left : (ts : Tokens) → Leaves 1 ts (r.one_capture ts)
unfolding r.one_capture
capture_left ts = choice 1 ts (first is_lifetime ts) _ _
    (λ h. chain 1 1 0 ts (r.lifetime ts) _ (omega arith) (lifetime_left ts) (λ l. unread l.1))
    (chain 1 1 0 ts (word ts) _ (omega arith) (word_left ts)
    (λ w. choice 0 w.1 (is_captured w.0) _ None (λ h. unread w.1) tt))

pub captured_left : (ts : Tokens) → Leaves 1 ts (r.angled r.one_capture ts)
captured_left ts = angled_left r.one_capture capture_left ts

-- ---- the same of what needs no depth

free_left : {A : Type 0} (one : Tokens → Got A) (ts : Tokens) → Leaves 1 ts (one ts) → Leaves 1 ts (needless one 0 ts)
free_left one ts h = chain 1 1 0 ts (one ts) _ (omega arith) h (λ x. unread x.1)

pub lifetime_free : (ts : Tokens) → Leaves 1 ts (needless r.lifetime 0 ts)
lifetime_free ts = free_left r.lifetime ts (lifetime_left ts)

pub param_free : (ts : Tokens) → Leaves 1 ts (needless r.lifetime_param 0 ts)
param_free ts = free_left r.lifetime_param ts (lifetime_param_left ts)

pub capture_free : (ts : Tokens) → Leaves 1 ts (needless r.one_capture 0 ts)
capture_free ts = free_left r.one_capture ts (capture_left ts)

-- ---- constants

pub const_left : (ts : Tokens) → Leaves 1 ts (r.const ts)
unfolding r.const
const_left ts = choice 1 ts (first is_literal_token ts) _ _
    (λ h. chain 1 1 0 ts (r.literal is_literal_token ts) _ (omega arith) (literal_left is_literal_token ts)
    (λ l. unread l.1))
    (choice 1 ts (first (is_mark (codes "-")) ts) _ _
    (λ h. further 1 1 0 ts (tail ts) _ (omega arith) (first_read (is_mark (codes "-")) ts h)
    (chain 0 1 0 (tail ts) (r.literal _ (tail ts)) _ (omega arith) (literal_left _ (tail ts)) (λ n. unread n.1)))
    (chain_passed 1 1 0 ts (passed (opens Brace) ts) _ (omega arith) (passed_left (opens Brace) ts)
    (λ inside. chain 0 0 0 inside (tokens inside) _ (omega arith) (tokens_left inside)
    (λ us. chain_passed 0 1 0 us.1 (passed (closes Brace) us.1) _ (omega arith) (passed_left (closes Brace) us.1)
    unread))))

pub abi_left : (ts : Tokens) → Leaves 1 ts (r.abi ts)
unfolding r.abi
abi_left ts = chain_passed 1 1 0 ts (passed (is_keyword (codes "extern")) ts) _ (omega arith)
    (passed_left (is_keyword (codes "extern")) ts)
    (λ behind. chain 0 0 0 behind (r.if_there (first r.is_string_token behind) (r.literal r.is_string_token) behind) _
    (omega arith) (there_left (first r.is_string_token behind) (r.literal r.is_string_token) behind
    (weaker behind _ (literal_left r.is_string_token behind))) (λ l. unread l.1))

-- ---- what is left, where something is read

-- after a part and a comma
pub behind_shorter : {A : Type 0} (ts : Tokens) (got : Got A) (x : A) (mid rest : Tokens) → Leaves 1 ts got
    → got ≡ Some (x, mid) → first (is_mark (codes ",")) mid ≡ true → rest ≡ tail mid → length rest < length ts
behind_shorter ts got x mid rest a e c k =
    omega (arith, shorter ts got x mid a e, (first_read (is_mark (codes ",")) mid c).fewer, ap length k)
