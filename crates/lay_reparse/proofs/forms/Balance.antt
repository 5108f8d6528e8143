-- Tokens that spell a form which passes are balanced, if each token of punctuation is one character.
use Rattle.std.proofs.Common.{◌≡◌, ℕ, zero, suc, ◌-◌, ◌⊎◌, inl, inr, List, [], ◌∷◌, ◌++◌, Bool, true, false, cond, not, ◌&&◌, ◌||◌, sym, refl, ap, ◌∙◌, subst, drop, length, append_assoc, Option, Some, None}
use Rattle.std.specs.Prelude.{codes}
use Rattle.std.proofs.lemmas.Bool.{and_parts, and_from}
use Rattle.std.specs.List.{list_all}
use Rattle.std.specs.Str.{chars, bytes_eq}
use Rattle.std.proofs.lemmas.List.Folds.{list_all-append}
use Rattle.std.proofs.lemmas.Slice.Eq.{bytes_eq-Decides}
use Rattle.lay_piece.specs.Forms.{has_form}
use Rattle.lay_token.specs.Delimiters.{is_opener, is_closer, is_pair, Trees, NoTree as NoTrees, One, Nest as Grouped, tokens_of, Paired, Balanced}
use Rattle.lay_token.specs.Lexes.{is_punct}
use Rattle.lay_token.specs.Operators.{operators, begins_op, first_op, or_lone, op_at, is_op_of, is_op}
use Rattle.lay_piece.specs.Value.{value_of}
use Rattle.lay_piece.specs.declared.kind.Delim.{Delim}
use Rattle.lay_piece.specs.declared.kind.Delim.TheVariants.{Paren, Bracket, Brace}
use Rattle.lay_piece.specs.declared.kind.Kind.{Kind}
use Rattle.lay_piece.specs.declared.kind.Kind.TheVariants.{Punct, Opener, Closer, Doc}
use Rattle.lay_token.specs.declared.token.Token.{Token}
use Rattle.lay_token.proofs.Deciding.{punct_is}
use Rattle.lay_form.specs.Form as form
use Rattle.lay_form.specs.Form.{Bit, Blank, Fixed, Operator, Semicolons, Braces, Bare, Unseen, Marked, Behind, Nothing, ArmComma, Form, Done, Piece, Leaf, Listed, ListedDoc, Brk, LastComma, Group, Deeper, Optional, Docs, Body, keyword, opener, closer, comma}
use Rattle.lay_form.specs.Spelled.{IsOne, AreSemicolons, AreBits, IsBit, IsListed, IsComment, IsString, IsDoc, attr_opening, Opens, Closes, Braced, IsBehind, MayBe, Spells, cost}
use Rattle.lay_node.specs.Ahead.{same_delim}
use Rattle.lay_node.specs.tokens.Listing.{closed}
use Rattle.lay_reparse.proofs.forms.Opened.{turned, open_after, bit_open, bits_open, is_even, even}
use Rattle.lay_reparse.proofs.texts.Laid.{is_leaf_kind}
use Rattle.lay_reparse.proofs.borders.Border.{Border}
use Rattle.lay_reparse.proofs.borders.OperatorRuns.{is_lone, is_operator, no_operator}
use Rattle.lay_reparse.proofs.forms.Passes.{Passes, ops_fine, piece_ops}
use Rattle.lay_form.proofs.FormLaws.{IsEnd, is_end, bits_end, one_end, listed_end, comment_end, may_be_end, doc_opening_end, string_end, doc_end, opens_end, closes_end, behind_end}

abbrev onto : Option (List Delim) → List Delim → Option (List Delim)
onto None z = None
onto (Some ds) z = Some (ds ++ z)

abbrev is_some : Option (List Delim) → Bool
is_some None = false
is_some (Some ds) = true

-- tokens that are no delimiters
plain_turn : (k : Kind) (o : Option (List Delim)) → ((ds : List Delim) → turned k (Some ds) ≡ Some ds) → turned k o ≡ o
plain_turn k None h = refl
plain_turn k (Some ds) h = h ds

leaf_turn : (k : Kind) (o : Option (List Delim)) → is_leaf_kind k ≡ true → turned k o ≡ o
leaf_turn k None h = refl
leaf_turn (Opener d) (Some ds) h = cc
leaf_turn (Closer d) (Some ds) h = cc
leaf_turn _ (Some ds) h = refl

punct_turn : (o : Option (List Delim)) → turned Punct o ≡ o
punct_turn None = refl
punct_turn (Some ds) = refl

one_after : (o : Option (List Delim)) (k : Kind) (t : List ℕ) (ts mid : List Token) → IsOne k t ts mid
    → open_after o ts ≡ open_after (turned k o) mid
one_after o k t [] mid h = absurd h
one_after o k t (u ∷ us) mid h = (λ i. open_after (turned (h.0 i) o) (h.2 i))

-- A token of punctuation is one character.
abbrev pub is_single : Token → Bool
is_single t = not (is_punct t.kind) || is_lone t.text

abbrev pub are_single : List Token → Bool
are_single ts = list_all is_single ts

behind : {ts rest : List Token} → IsEnd rest ts → are_single ts ≡ true → are_single rest ≡ true
behind {ts} {rest} e h =
    (and_parts (are_single e.before) (are_single rest)
    (sym (list_all-append is_single e.before rest) ∙ sym (ap are_single e.whole) ∙ h)).1

punct_after : (o : Option (List Delim)) (t : Token) (ts : List Token) → is_punct t.kind ≡ true
    → open_after o (t ∷ ts) ≡ open_after o ts
punct_after o t ts h = ap (λ k. open_after (turned k o) ts) (punct_is t.kind h)
    ∙ ap (λ q. open_after q ts) (punct_turn o)

begins_after : (o : Option (List Delim)) (op : List ℕ) (ts : List Token) → begins_op op ts ≡ true
    → open_after o ts ≡ open_after o (drop (length op) ts)
begins_after o [] ts h = refl
begins_after o (c ∷ cs) [] h = cc
begins_after o (c ∷ []) (t ∷ ts) h = punct_after o t ts
    (and_parts (is_punct t.kind) _ (and_parts (is_punct t.kind && bytes_eq t.text (c ∷ [])) _ h).0).0
begins_after o (c ∷ d ∷ cs) (t ∷ ts) h =
    let a = and_parts (is_punct t.kind && bytes_eq t.text (c ∷ [])) _ h in
    punct_after o t ts (and_parts (is_punct t.kind) _ a.0).0 ∙ begins_after o (d ∷ cs) ts (and_parts t.joint _ a.1).1

-- what stands at the beginning of the tokens
OperatorAt : List ℕ → List Token → Type 0
OperatorAt op ts = (begins_op op ts ≡ true)
    ⊎ ((t : Token) × (us : List Token) × (ts ≡ t ∷ us) × (is_punct t.kind ≡ true) × (op ≡ t.text))

operator_at : (op : List ℕ) (ts : List Token) (ops : List (List ℕ)) → is_op_of op (or_lone (first_op ops ts) ts) ≡ true
    → OperatorAt op ts
unfolding OperatorAt
operator_at op [] [] h = cc
operator_at op (t ∷ us) [] h = at (is_punct t.kind) refl h
  where
    at : (b : Bool) → is_punct t.kind ≡ b → is_op_of op (cond b (Some t.text) None) ≡ true → OperatorAt op (t ∷ us)
    at true e h = inr (t, us, refl, e, (bytes_eq-Decides op t.text).0 h)
    at false e h = cc
operator_at op ts (x ∷ ops) h = at (begins_op x ts) refl h (operator_at op ts ops)
  where
    at : (b : Bool) → begins_op x ts ≡ b → is_op_of op (or_lone (cond b (Some x) (first_op ops ts)) ts) ≡ true
        → (is_op_of op (or_lone (first_op ops ts) ts) ≡ true → OperatorAt op ts) → OperatorAt op ts
    at true e h r = inl (ap (λ z. begins_op z ts) ((bytes_eq-Decides op x).0 h) ∙ e)
    at false e h r = r h

op_after : (o : Option (List Delim)) (op : List ℕ) (ts : List Token) → is_operator op ≡ true → are_single ts ≡ true
    → is_op op ts ≡ true
    → open_after o ts ≡ open_after o (drop (length op) ts)
unfolding OperatorAt op_at
op_after o [] ts n g h = absurd (no_operator n)
op_after o (c ∷ cs) ts n g h = elim (operator_at (c ∷ cs) ts operators h) [
  | inl e ↦ begins_after o (c ∷ cs) ts e
  | inr e ↦
      let s : are_single (e.0 ∷ e.1) ≡ true = ap are_single (sym e.2) ∙ g in
      let l : is_lone e.0.text ≡ true = lone (is_punct e.0.kind) (is_lone e.0.text) e.3
      (and_parts (is_single e.0) _ s).0 in
      let k = nil_is cs (ap is_lone e.4 ∙ l) in
      subst (λ z. open_after o ts ≡ open_after o (drop (length (c ∷ z)) ts)) (sym k)
      (ap (open_after o) e.2 ∙ punct_after o e.0 e.1 e.3 ∙ ap (λ z. open_after o (drop 1 z)) (sym e.2))
]
  where
    lone : (a b : Bool) → a ≡ true → not a || b ≡ true → b ≡ true
    lone true b e h = h
    lone false b e h = cc

    nil_is : (cs : List ℕ) → is_lone (c ∷ cs) ≡ true → cs ≡ []
    nil_is [] h = refl
    nil_is (d ∷ cs) h = cc

semis_after : (o : Option (List Delim)) (n : ℕ) (ts mid : List Token) → AreSemicolons n ts mid
    → open_after o ts ≡ open_after o mid
semis_after o zero ts mid h = ap (open_after o) h
semis_after o (suc n) ts mid h = one_after o Punct (codes ";") ts h.0 h.1 ∙ ap (λ q. open_after q h.0) (punct_turn o)
    ∙ semis_after o n h.0 mid h.2

-- fixed pieces
none_open : (p : List Bit) → bits_open None p ≡ None
none_open [] = refl
none_open (Blank ∷ p) = none_open p
none_open (Fixed k t ∷ p) = none_open p
none_open (Operator cs ∷ p) = none_open p
none_open (Semicolons ∷ p) = none_open p

some_first : (o : Option (List Delim)) (p : List Bit) → is_some (bits_open o p) ≡ true → is_some o ≡ true
some_first None p h = ap is_some (sym (none_open p)) ∙ h
some_first (Some ds) p h = refl

onto_turn : (k : Kind) (o : Option (List Delim)) (z : List Delim) → is_some (turned k o) ≡ true
    → turned k (onto o z) ≡ onto (turned k o) z
onto_turn k None z h = refl
onto_turn (Opener d) (Some ds) z h = refl
onto_turn (Closer d) (Some []) z h = cc
onto_turn (Closer d) (Some (e ∷ ds)) z h = at (same_delim d e) h
  where
    at : (b : Bool) → is_some (cond b (Some ds) None) ≡ true
        → cond b (Some (ds ++ z)) None ≡ onto (cond b (Some ds) None) z
    at true h = refl
    at false h = cc
onto_turn _ (Some ds) z h = refl

-- the tokens of a bit, and what is open after them
bit_after : (x : Bit) (o : Option (List Delim)) (z : List Delim) (ts mid : List Token) → is_some (bit_open x o) ≡ true
    → ops_fine (x ∷ []) ≡ true → are_single ts ≡ true
    → IsBit x ts mid → open_after (onto o z) ts ≡ open_after (onto (bit_open x o) z) mid
bit_after Blank o z ts mid s n g h = ap (open_after (onto o z)) h
bit_after (Fixed k t) o z ts mid s n g h = one_after (onto o z) k t ts mid h
    ∙ ap (λ q. open_after q mid) (onto_turn k o z s)
bit_after (Operator cs) o z ts mid s n g h = op_after (onto o z) cs ts (and_parts (is_operator cs) _ n).0 g h.0
    ∙ ap (open_after (onto o z)) h.1
bit_after Semicolons o z ts mid s n g h = semis_after (onto o z) h.0 ts mid h.1

ops_first : (x : Bit) (p : List Bit) → ops_fine (x ∷ p) ≡ true → (ops_fine (x ∷ []) ≡ true) × (ops_fine p ≡ true)
ops_first (Operator cs) p h = let a = and_parts (is_operator cs) _ h in (and_from (is_operator cs) true a.0 refl, a.1)
ops_first Blank p h = (refl, h)
ops_first (Fixed k t) p h = (refl, h)
ops_first Semicolons p h = (refl, h)

bits_after : (p : List Bit) (o : Option (List Delim)) (z : List Delim) (ts mid : List Token)
    → is_some (bits_open o p) ≡ true → ops_fine p ≡ true → are_single ts ≡ true
    → AreBits p ts mid → open_after (onto o z) ts ≡ open_after (onto (bits_open o p) z) mid
bits_after [] o z ts mid s n g h = ap (open_after (onto o z)) h
bits_after (x ∷ p) o z ts mid s n g h =
    let m = ops_first x p n in
    bit_after x o z ts h.0 (some_first (bit_open x o) p s) m.0 g h.1
    ∙ bits_after p (bit_open x o) z h.0 mid s m.1 (behind (bits_end (x ∷ []) ts h.0 (h.0, h.1, refl)) g) h.2

-- doc attributes
abbrev doc_bits : Bool → List Bit
doc_bits inner = attr_opening inner ++ keyword (codes "doc") ∷ Operator (codes "=") ∷ []

doc_open : (inner : Bool) → bits_open even (doc_bits inner) ≡ Some (Bracket ∷ [])
doc_open true = refl
doc_open false = refl

doc_ops : (inner : Bool) → ops_fine (doc_bits inner) ≡ true
unfolding is_operator has_form
doc_ops true = refl
doc_ops false = refl

doc_turn : (inner block : Bool) (o : Option (List Delim)) → turned (Doc inner block) o ≡ o
doc_turn inner block None = refl
doc_turn inner block (Some ds) = refl

str_turn : (k : Kind) (piece value : List ℕ) (z : List Delim) → value_of k piece ≡ Some value
    → turned k (Some z) ≡ Some z
str_turn (Opener d) piece value z h = cc
str_turn (Closer d) piece value z h = cc
str_turn _ piece value z h = refl

string_after : (t : List ℕ) (z : List Delim) (ts mid : List Token) → IsString t ts mid
    → open_after (Some z) ts ≡ open_after (Some z) mid
string_after t z [] mid h = absurd h
string_after t z (u ∷ us) mid h = ap (λ q. open_after q us) (str_turn u.kind (chars u.text) h.0.0 z h.0.1)
    ∙ ap (open_after (Some z)) h.1

comment_after : (inner : Bool) (t : List ℕ) (o : Option (List Delim)) (ts mid : List Token) → IsComment inner t ts mid
    → open_after o ts ≡ open_after o mid
comment_after inner t o [] mid h = absurd h
comment_after inner t o (u ∷ us) mid h = ap (λ k. open_after (turned k o) us) h.1
    ∙ ap (λ q. open_after q us) (doc_turn inner h.0 o) ∙ ap (open_after o) h.3

doc_after : (inner : Bool) (t : List ℕ) (z : List Delim) (ts mid : List Token) → are_single ts ≡ true
    → IsDoc inner t ts mid → open_after (Some z) ts ≡ open_after (Some z) mid
doc_after inner t z ts mid g (inl h) = comment_after inner t (Some z) ts mid h
doc_after inner t z ts mid g (inr h) =
    let g1 = behind (doc_opening_end inner ts h.0 h.1) g in
    bits_after (doc_bits inner) even z ts h.0 (ap is_some (doc_open inner)) (doc_ops inner) g h.1
    ∙ ap (λ q. open_after (onto q z) h.0) (doc_open inner)
    ∙ string_after t (Bracket ∷ z) h.0 h.2.0 h.2.1
    ∙ bits_after (closer Bracket ∷ []) (Some (Bracket ∷ [])) z h.2.0 mid refl refl
    (behind (string_end t h.0 h.2.0 h.2.1) g1) h.2.2

-- braces that are not in the tree
abbrev in_braces : ℕ → List Delim → List Delim
in_braces zero z = z
in_braces (suc n) z = in_braces n (Brace ∷ z)

brace_out : (n : ℕ) (z : List Delim) → in_braces n (Brace ∷ z) ≡ Brace ∷ in_braces n z
brace_out zero z = refl
brace_out (suc n) z = brace_out n (Brace ∷ z)

opens_after : (n : ℕ) (z : List Delim) (ts mid : List Token) → are_single ts ≡ true → Opens n ts mid
    → open_after (Some z) ts ≡ open_after (Some (in_braces n z)) mid
opens_after zero z ts mid g h = ap (open_after (Some z)) h
opens_after (suc n) z ts mid g h =
    bits_after (opener Brace ∷ Semicolons ∷ []) even z ts h.0 refl refl g h.1
    ∙ opens_after n (Brace ∷ z) h.0 mid (behind (bits_end (opener Brace ∷ Semicolons ∷ []) ts h.0 h.1) g) h.2

closes_after : (n : ℕ) (z : List Delim) (ts mid : List Token) → are_single ts ≡ true → Closes n ts mid
    → open_after (Some (in_braces n z)) ts ≡ open_after (Some z) mid
closes_after zero z ts mid g h = ap (open_after (Some z)) h
closes_after (suc n) z ts mid g h =
    ap (λ q. open_after (Some q) ts) (brace_out n z)
    ∙ bits_after (closer Brace ∷ []) (Some (Brace ∷ [])) (in_braces n z) ts h.0 refl refl g h.1
    ∙ closes_after n z h.0 mid (behind (bits_end (closer Brace ∷ []) ts h.0 h.1) g) h.2

behind_after : (b : Behind) (n : ℕ) (z : List Delim) (ts mid : List Token) → are_single ts ≡ true → IsBehind b n ts mid
    → open_after (Some z) ts ≡ open_after (Some z) mid
behind_after Nothing n z ts mid g h = ap (open_after (Some z)) h
behind_after (ArmComma last like) n z ts mid g (inl h) = ap (open_after (Some z)) h.1
behind_after (ArmComma last like) n z ts mid g (inr h) = bits_after comma even z ts mid refl refl g h

maybe_after : (p : List Bit) (o : Option (List Delim)) (z : List Delim) (ts mid : List Token) → is_some o ≡ true
    → bits_open o p ≡ o → ops_fine p ≡ true → are_single ts ≡ true → MayBe p ts mid
    → open_after (onto o z) ts ≡ open_after (onto o z) mid
maybe_after p o z ts mid s e n g (inl h) = ap (open_after (onto o z)) h
maybe_after p o z ts mid s e n g (inr h) = bits_after p o z ts mid (ap is_some e ∙ s) n g h
    ∙ ap (λ q. open_after (onto q z) mid) e

-- what is even in itself changes no open delimiter
inside : (o : Option (List Delim)) (z : List Delim) (ts mid : List Token) → is_some o ≡ true
    → ((y : List Delim) → open_after (Some y) ts ≡ open_after (Some y) mid)
    → open_after (onto o z) ts ≡ open_after (onto o z) mid
inside None z ts mid s f = cc
inside (Some ds) z ts mid s f = f (ds ++ z)

-- what passes within a body, and after it
record Passed (o : Option (List Delim)) (v : Bool) (i f : Form) (c : Border) : Type 0 where
  from : Border
  to : Border
  within : Passes even v i from to
  point : Bool
  border : Border
  rest : Passes o point f border c

body_passed : (braces : Braces) (after : Behind) (i f : Form) (o : Option (List Delim)) (v : Bool) (b c : Border)
    → Passes o v (Body braces after i f) b c → Passed o v i f c
body_passed Bare Nothing i f o v b c q =
    record { from = q.0; to = q.1; within = q.3; point = _; border = q.1; rest = q.4 }
body_passed Bare (ArmComma last like) i f o v b c q =
    record { from = q.0; to = q.1; within = q.3; point = _; border = _; rest = q.5 }
body_passed Unseen Nothing i f o v b c q =
    record { from = q.0; to = q.1; within = q.3; point = _; border = q.1; rest = q.4 }
body_passed Unseen (ArmComma last like) i f o v b c q =
    record { from = q.1; to = q.2; within = q.4; point = _; border = q.2; rest = q.5 }
body_passed Marked Nothing i f o v b c q =
    record { from = q.0; to = q.1; within = q.4; point = _; border = _; rest = q.5 }
body_passed Marked (ArmComma last like) i f o v b c q =
    record { from = q.0; to = q.1; within = q.4; point = _; border = _; rest = q.6 }

-- a form passes only with matching delimiters
alive : (f : Form) (o : Option (List Delim)) (v : Bool) (b c : Border) → Passes o v f b c → is_some o ≡ true
alive Done o v b c p = at o (and_parts (is_even o) _ p).0
  where
    at : (o : Option (List Delim)) → is_even o ≡ true → is_some o ≡ true
    at None h = cc
    at (Some ds) h = refl
alive (Piece p f) o v b c q = some_first o p (alive f (bits_open o p) _ _ c q.1)
alive (Leaf k t f) o v b c q = alive f o _ _ c q.2
alive (Listed k t joint f) o v b c q = at o (alive f (turned k o) _ _ c q.2)
  where
    at : (o : Option (List Delim)) → is_some (turned k o) ≡ true → is_some o ≡ true
    at None h = h
    at (Some ds) h = refl
alive (ListedDoc inner t f) o v b c q = alive f o _ _ c q.1
alive (Brk g f) o v b c q = alive f o _ _ c q.1
alive (LastComma n f) o v b c q = alive f o _ _ c q.1
alive (Group k n i f) o v b c q = alive f o _ _ c q.4
alive (form.Part i f) o v b c q = alive f o _ _ c q.4
alive (Deeper i f) o v b c q = alive f o _ _ c q.4
alive (Optional true p f) o v b c q = alive f o _ _ c q.2
alive (Optional false p f) o v b c q = alive f o _ _ c q.2
alive (Docs i t f) o v b c q = alive f o _ _ c q.1
alive (Body braces after i f) o v b c q = let p = body_passed braces after i f o v b c q in
    alive f o p.point p.border c p.rest

-- a body within braces, with what follows it
in_body : (n : ℕ) (after : Behind) (i : Form) (d : ℕ) (y : List Delim) (ts last rest : List Token)
    → are_single ts ≡ true → ((first mid : List Token) (y : List Delim) → are_single first ≡ true → Spells i d first mid
    → open_after (Some y) first ≡ open_after (Some y) mid)
    → Braced n (Spells i d) ts last → IsBehind after n last rest
    → open_after (Some y) ts ≡ open_after (Some y) rest
in_body n after i d y ts last rest g same s m =
    let g1 = behind (opens_end n ts s.0 s.1) g in
    let g2 = behind (is_end i d s.0 s.2.0 s.2.1) g1 in
    opens_after n y ts s.0 g s.1 ∙ same s.0 s.2.0 (in_braces n y) g1 s.2.1
    ∙ closes_after n y s.2.0 last g2 s.2.2
    ∙ behind_after after n y last rest (behind (closes_end n s.2.0 last s.2.2) g2) m

left : (n : ℕ) (after : Behind) (i : Form) (d : ℕ) (ts last rest : List Token) → are_single ts ≡ true
    → Braced n (Spells i d) ts last → IsBehind after n last rest → are_single rest ≡ true
left n after i d ts last rest g s m =
    behind (behind_end after n last rest m)
    (behind (closes_end n s.2.0 last s.2.2) (behind (is_end i d s.0 s.2.0 s.2.1) (behind (opens_end n ts s.0 s.1) g)))

pub opened : (f : Form) (o : Option (List Delim)) (v : Bool) (b c : Border) (d : ℕ) (ts rest : List Token)
    (z : List Delim) → are_single ts ≡ true → Passes o v f b c → Spells f d ts rest
    → open_after (onto o z) ts ≡ open_after (Some z) rest
opened Done o v b c d ts rest z g p s = at o (and_parts (is_even o) _ p).0
  where
    at : (o : Option (List Delim)) → is_even o ≡ true → open_after (onto o z) ts ≡ open_after (Some z) rest
    at None h = cc
    at (Some []) h = ap (open_after (Some z)) s
    at (Some (e ∷ ds)) h = cc
opened (Piece p f) o v b c d ts rest z g q s =
    bits_after p o z ts s.0 (alive f (bits_open o p) _ _ c q.1) (piece_ops v b p q.0) g s.1
    ∙ opened f (bits_open o p) _ _ c d s.0 rest z (behind (bits_end p ts s.0 s.1) g) q.1 s.2
opened (Leaf k t f) o v b c d ts rest z g q s =
    one_after (onto o z) k t ts s.0 s.1
    ∙ ap (λ w. open_after w s.0) (leaf_turn k (onto o z) (and_parts (is_leaf_kind k) _ q.0).0)
    ∙ opened f o _ _ c d s.0 rest z (behind (one_end k t ts s.0 s.1) g) q.2 s.2
opened (Listed k t joint f) o v b c d ts rest z g q s =
    token_after ts s.0 s.1 ∙ ap (λ w. open_after w s.0) (onto_turn k o z (alive f (turned k o) _ _ c q.2))
    ∙ opened f (turned k o) _ _ c d s.0 rest z (behind (listed_end k t joint ts s.0 s.1) g) q.2 s.2
  where
    token_after : (ts mid : List Token) → IsListed k t joint ts mid
        → open_after (onto o z) ts ≡ open_after (turned k (onto o z)) mid
    token_after [] mid h = absurd h
    token_after (x ∷ xs) mid h = ap (λ l. open_after (turned l (onto o z)) xs) h.0
        ∙ ap (open_after (turned k (onto o z))) h.3
opened (ListedDoc inner t f) o v b c d ts rest z g q s =
    comment_after inner t (onto o z) ts s.0 s.1
    ∙ opened f o _ _ c d s.0 rest z (behind (comment_end inner t ts s.0 s.1) g) q.1 s.2
opened (Brk a f) o v b c d ts rest z g q s = opened f o _ _ c d ts rest z g q.1 s
opened (LastComma n f) o v b c d ts rest z g q s =
    maybe_after comma o z ts s.0 (alive f o _ _ c q.1) (punct_turn o) refl g s.1
    ∙ opened f o _ _ c d s.0 rest z (behind (may_be_end comma ts s.0 s.1) g) q.1 s.2
opened (Group k n i f) o v b c d ts rest z g q s =
    inside o z ts s.0 (alive f o _ _ c q.4) (λ y. opened i even v q.0 q.1 d ts s.0 y g q.3 s.1)
    ∙ opened f o _ _ c d s.0 rest z (behind (is_end i d ts s.0 s.1) g) q.4 s.2
opened (form.Part i f) o v b c d ts rest z g q s =
    inside o z ts s.0 (alive f o _ _ c q.4) (λ y. opened i even v q.0 q.1 d ts s.0 y g q.3 s.1)
    ∙ opened f o _ _ c d s.0 rest z (behind (is_end i d ts s.0 s.1) g) q.4 s.2
opened (Deeper i f) o v b c zero ts rest z g q s = absurd s
opened (Deeper i f) o v b c (suc d) ts rest z g q s =
    inside o z ts s.0 (alive f o _ _ c q.4) (λ y. opened i even v q.0 q.1 d ts s.0 y g q.3 s.1)
    ∙ opened f o _ _ c (suc d) s.0 rest z (behind (is_end i d ts s.0 s.1) g) q.4 s.2
opened (Optional true p f) o v b c d ts rest z g q s =
    maybe_after p o z ts s.0 (alive f o _ _ c q.2) q.1 (piece_ops v b p q.0) g s.1
    ∙ opened f o _ _ c d s.0 rest z (behind (may_be_end p ts s.0 s.1) g) q.2 s.2
opened (Optional false p f) o v b c d ts rest z g q s =
    maybe_after p o z ts s.0 (alive f o _ _ c q.2) q.1 q.0 g s.1
    ∙ opened f o _ _ c d s.0 rest z (behind (may_be_end p ts s.0 s.1) g) q.2 s.2
opened (Docs i t f) o v b c d ts rest z g q s =
    inside o z ts s.0 (alive f o _ _ c q.1) (λ y. doc_after i t y ts s.0 g s.1)
    ∙ opened f o _ _ c d s.0 rest z (behind (doc_end i t ts s.0 s.1) g) q.1 s.2
opened (Body braces after i f) o v b c d ts rest z g q s =
    let p = body_passed braces after i f o v b c q in
    let e = d - cost s.0 in
    inside o z ts s.3.2.0 (alive f o p.point p.border c p.rest)
    (λ y. in_body s.0 after i e y ts s.3.0 s.3.2.0 g
    (λ first mid w k r. opened i even v p.from p.to e first mid w k p.within r) s.3.1 s.3.2.1)
    ∙ opened f o p.point p.border c d s.3.2.0 rest z (left s.0 after i e ts s.3.0 s.3.2.0 g s.3.1 s.3.2.1) p.rest s.3.2.2

-- ---- token trees

pair_of : (d e : Delim) → same_delim d e ≡ true → is_pair (Opener e) (Closer d) ≡ true
pair_of Paren Paren h = refl
pair_of Bracket Bracket h = refl
pair_of Brace Brace h = refl
pair_of _ _ h = cc

-- The tokens go on with trees, close the delimiters that are open, each after more trees, and end in trees.
abbrev Closed : List Delim → List Token → Type 0
Closed [] ts = Balanced ts
Closed (d ∷ ds) ts = (inside : Trees) × (closer : Token) × (rest : List Token) × Paired inside
    × (is_pair (Opener d) closer.kind ≡ true) × (ts ≡ tokens_of inside ++ closer ∷ rest) × Closed ds rest

add_plain : (ds : List Delim) (t : Token) (ts : List Token) → is_opener t.kind ≡ false → is_closer t.kind ≡ false
    → Closed ds ts → Closed ds (t ∷ ts)
add_plain [] t ts a b c = (One t c.0, (a, b, c.1), ap (λ (l : List Token). t ∷ l) c.2)
add_plain (d ∷ ds) t ts a b c = (One t c.0, c.1, c.2, (a, b, c.3), c.4, ap (λ (l : List Token). t ∷ l) c.5, c.6)

grouped : (t : Token) (inside : Trees) (closer : Token) (more : Trees) (rest : List Token)
    → tokens_of (Grouped t inside closer more) ++ rest ≡ t ∷ (tokens_of inside ++ closer ∷ (tokens_of more ++ rest))
grouped t inside closer more rest = ap (λ (l : List Token). t ∷ l)
    (append_assoc (tokens_of inside) (closer ∷ tokens_of more) rest)

add_group : (ds : List Delim) (d : Delim) (t : Token) (ts : List Token) → t.kind ≡ Opener d → Closed (d ∷ ds) ts
    → Closed ds (t ∷ ts)
add_group [] d t ts e c = (
  Grouped t c.0 c.1 c.6.0,
  (ap (λ k. is_pair k c.1.kind) e ∙ c.4, c.3, c.6.1),
  ap (λ (l : List Token). t ∷ l) (c.5 ∙ ap (λ (l : List Token). tokens_of c.0 ++ c.1 ∷ l) c.6.2),
)
add_group (x ∷ ds) d t ts e c =
    let n = c.6 in (
      Grouped t c.0 c.1 n.0,
      n.1,
      n.2,
      (ap (λ k. is_pair k c.1.kind) e ∙ c.4, c.3, n.3),
      n.4,
      ap (λ (l : List Token). t ∷ l) (c.5 ∙ ap (λ (l : List Token). tokens_of c.0 ++ c.1 ∷ l) n.5)
          ∙ sym (grouped t c.0 c.1 n.0 (n.1 ∷ n.2)),
      n.6,
    )

none_after : (ts : List Token) → open_after None ts ≡ None
none_after [] = refl
none_after (t ∷ ts) = none_after ts

closed_of : (ts : List Token) (ds : List Delim) → open_after (Some ds) ts ≡ Some [] → Closed ds ts
closed_of [] [] h = (NoTrees, tt, refl)
closed_of [] (d ∷ ds) h = absurd (let e : false ≡ true = ap is_even h in cc)
closed_of (t ∷ ts) ds h = by t.kind refl h (λ es. closed_of ts es)
  where
    close : (d : Delim) (ds : List Delim) → t.kind ≡ Closer d → open_after (closed d ds) ts ≡ Some []
        → ((es : List Delim) → open_after (Some es) ts ≡ Some [] → Closed es ts) → Closed ds (t ∷ ts)
    close d [] e h r = absurd (let k : None ≡ Some [] = sym (none_after ts) ∙ h in cc)
    close d (x ∷ ds) e h r = at (same_delim d x) refl h
      where
        at : (b : Bool) → same_delim d x ≡ b → open_after (cond b (Some ds) None) ts ≡ Some []
            → Closed (x ∷ ds) (t ∷ ts)
        at true q h = (NoTrees, t, ts, tt, ap (is_pair (Opener x)) e ∙ pair_of d x q, refl, r ds h)
        at false q h = absurd (let k : None ≡ Some [] = sym (none_after ts) ∙ h in cc)

    by : (k : Kind) → t.kind ≡ k → open_after (turned k (Some ds)) ts ≡ Some []
        → ((es : List Delim) → open_after (Some es) ts ≡ Some [] → Closed es ts) → Closed ds (t ∷ ts)
    by (Opener d) e h r = add_group ds d t ts e (r (d ∷ ds) h)
    by (Closer d) e h r = close d ds e h r
    by k e h r = add_plain ds t ts (ap is_opener e) (ap is_closer e) (r ds h)

pub balanced : (f : Form) (v : Bool) (b c : Border) (d : ℕ) (ts : List Token) → are_single ts ≡ true
    → Passes even v f b c → Spells f d ts [] → Balanced ts
balanced f v b c d ts g p s = closed_of ts [] (opened f even v b c d ts [] [] g p s)
