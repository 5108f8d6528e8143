-- Balanced lists: what follows one sees the same delimiters open as what stands before it; and the test says what
-- `Balanced` says of the tokens.
use Rattle.std.proofs.Common.{◌≡◌, ℕ, List, [], ◌∷◌, ◌++◌, Bool, true, false, cond, Option, Some, None, map, refl, sym, ap, ◌∙◌, append_assoc, append-nil}
use Rattle.lay_token.specs.Delimiters.{is_opener, is_closer, is_pair, Trees, NoTree, One, Nest, tokens_of, Paired, Balanced}
use Rattle.lay_piece.specs.declared.kind.Delim.{Delim}
use Rattle.lay_piece.specs.declared.kind.Delim.TheVariants.{Paren, Bracket, Brace}
use Rattle.lay_piece.specs.declared.kind.Kind.{Kind}
use Rattle.lay_piece.specs.declared.kind.Kind.TheVariants.{Opener, Closer, Doc}
use Rattle.lay_token.specs.declared.token.Token.{Token}
use Rattle.lay_node.specs.Ahead.{same_delim}
use Rattle.lay_node.specs.declared.token.Listed.{Listed}
use Rattle.lay_node.specs.tokens.Listing.{kind_of, as_listed, listed_by, closed, turned, balances, is_balanced}

-- ---- delimiters

pub same_delim_is : (d e : Delim) → same_delim d e ≡ true → d ≡ e
same_delim_is Paren Paren h = refl
same_delim_is Bracket Bracket h = refl
same_delim_is Brace Brace h = refl
same_delim_is _ _ h = cc

pub same_delim_self : (d : Delim) → same_delim d d ≡ true
same_delim_self Paren = refl
same_delim_self Bracket = refl
same_delim_self Brace = refl

-- A closer closes the last one open.
pub record IsClosed (d : Delim) (left more : List Delim) : Type 0 where
  pub opens : left ≡ d ∷ more

pub closed_is : (d : Delim) (left more : List Delim) → closed d left ≡ Some more → IsClosed d left more
closed_is d [] more h = cc
closed_is d (e ∷ within) more h = by (same_delim d e) refl h
  where
    by : (b : Bool) → same_delim d e ≡ b → cond b (Some within) None ≡ Some more → IsClosed d (e ∷ within) more
    by true s g = let w : within ≡ more = cc in
        record { opens = (λ i. sym (same_delim_is d e s) i ∷ w i) }
    by false s g = cc

-- ---- a token at a time

behind_turn : Option (List Delim) → List Listed → Bool
behind_turn None ts = false
behind_turn (Some more) ts = balances more ts

first_turn : (left : List Delim) (t : Listed) (ts : List Listed)
    → balances left (t ∷ ts) ≡ behind_turn (turned (kind_of t) left) ts
unfolding behind_turn
first_turn [] t ts = by (turned (kind_of t) [])
  where
    by : (o : Option (List Delim)) → elim o [ None ↦ false | Some more ↦ balances more ts ] ≡ behind_turn o ts
    by None = refl
    by (Some more) = refl
first_turn (d ∷ within) t ts = by (turned (kind_of t) (d ∷ within))
  where
    by : (o : Option (List Delim)) → elim o [ None ↦ false | Some more ↦ balances more ts ] ≡ behind_turn o ts
    by None = refl
    by (Some more) = refl

pub balances_turned : (left more : List Delim) (t : Listed) (ts : List Listed) → turned (kind_of t) left ≡ Some more
    → balances left (t ∷ ts) ≡ balances more ts
unfolding behind_turn
balances_turned left more t ts e = first_turn left t ts ∙ ap (λ o. behind_turn o ts) e

-- What a balanced list begins with turns the delimiters that are open, and the rest is balanced after it.
pub record Turns (left : List Delim) (t : Listed) (ts : List Listed) : Type 0 where
  pub more : List Delim
  pub turn : turned (kind_of t) left ≡ Some more
  pub rest : balances more ts ≡ true

pub turns : (left : List Delim) (t : Listed) (ts : List Listed) → balances left (t ∷ ts) ≡ true → Turns left t ts
unfolding behind_turn
turns left t ts h = by (turned (kind_of t) left) refl (sym (first_turn left t ts) ∙ h)
  where
    by : (o : Option (List Delim)) → turned (kind_of t) left ≡ o → behind_turn o ts ≡ true → Turns left t ts
    by None e g = cc
    by (Some more) e g = record { more = more; turn = e; rest = g }

-- ---- one list after another

-- Delimiters that are open further out change nothing.
pub turned_within : (k : Kind) (inner more left : List Delim) → turned k inner ≡ Some more
    → turned k (inner ++ left) ≡ Some (more ++ left)
turned_within (Opener d) inner more left h =
    let e : d ∷ inner ≡ more = cc in
    ap (λ x. Some (x ++ left)) e
turned_within (Closer d) [] more left h = cc
turned_within (Closer d) (e ∷ inner) more left h = by (same_delim d e) h
  where
    by : (b : Bool) → cond b (Some inner) None ≡ Some more → cond b (Some (inner ++ left)) None ≡ Some (more ++ left)
    by true g = let e : inner ≡ more = cc in ap (λ x. Some (x ++ left)) e
    by false g = cc
turned_within _ inner more left h =
    let e : inner ≡ more = cc in
    ap (λ x. Some (x ++ left)) e

pub balances_behind : (inner left : List Delim) (xs ys : List Listed) → balances inner xs ≡ true
    → balances (inner ++ left) (xs ++ ys) ≡ balances left ys
balances_behind [] left [] ys h = refl
balances_behind (d ∷ inner) left [] ys h = cc
balances_behind inner left (t ∷ xs) ys h =
    let s = turns inner t xs h in
    balances_turned (inner ++ left) (s.more ++ left) t (xs ++ ys) (turned_within (kind_of t) inner s.more left s.turn)
    ∙ balances_behind s.more left xs ys s.rest

-- A balanced list leaves what is open as it is.
pub balanced_behind : (left : List Delim) (xs ys : List Listed) → is_balanced xs ≡ true
    → balances left (xs ++ ys) ≡ balances left ys
balanced_behind left xs ys h = balances_behind [] left xs ys h

-- ---- tokens of a text

pub turned_listed : (k : Kind) (text : List ℕ) (joint : Bool) (left : List Delim)
    → turned (kind_of (listed_by k text joint)) left ≡ turned k left
turned_listed (Doc inner block) text joint left = refl
turned_listed _ text joint left = refl

pub turned_plain : (k : Kind) (left : List Delim) → is_opener k ≡ false → is_closer k ≡ false → turned k left ≡ Some left
turned_plain (Opener d) left o c = cc
turned_plain (Closer d) left o c = cc
turned_plain _ left o c = refl

-- An opener, and the closer of its own delimiter.
pub record IsPair (k l : Kind) : Type 0 where
  pub delim : Delim
  pub opens : k ≡ Opener delim
  pub closes : l ≡ Closer delim

pub pair_of : (k l : Kind) → is_pair k l ≡ true → IsPair k l
pair_of (Opener Paren) (Closer Paren) h = record { delim = Paren; opens = refl; closes = refl }
pair_of (Opener Bracket) (Closer Bracket) h = record { delim = Bracket; opens = refl; closes = refl }
pair_of (Opener Brace) (Closer Brace) h = record { delim = Brace; opens = refl; closes = refl }
pair_of _ _ h = cc

step_over : (left more : List Delim) (t : Token) (ts : List Token) → turned t.kind left ≡ Some more
    → balances left (map as_listed (t ∷ ts)) ≡ balances more (map as_listed ts)
step_over left more t ts e =
    balances_turned left more (as_listed t) (map as_listed ts) (turned_listed t.kind t.text t.joint left ∙ e)

pub turned_closer : (d : Delim) (left : List Delim) → turned (Closer d) (d ∷ left) ≡ Some left
turned_closer d left = ap (λ b. cond b (Some left) None) (same_delim_self d)

trees_over : (trees : Trees) (left : List Delim) (ys : List Token) → Paired trees
    → balances left (map as_listed (tokens_of trees ++ ys)) ≡ balances left (map as_listed ys)
trees_over NoTree left ys p = refl
trees_over (One t more) left ys p =
    step_over left left t (tokens_of more ++ ys) (turned_plain t.kind left p.0 p.1) ∙ trees_over more left ys p.2
trees_over (Nest o inside c more) left ys p =
    let q = pair_of o.kind c.kind p.0 in
    let behind = tokens_of more ++ ys in
    let around = (tokens_of inside ++ c ∷ tokens_of more) ++ ys in
    step_over left (q.delim ∷ left) o around (ap (λ k. turned k left) q.opens)
    ∙ ap (λ l. balances (q.delim ∷ left) (map as_listed l)) (append_assoc (tokens_of inside) (c ∷ tokens_of more) ys)
    ∙ trees_over inside (q.delim ∷ left) (c ∷ behind) p.1
    ∙ step_over (q.delim ∷ left) left c behind
    (ap (λ k. turned k (q.delim ∷ left)) q.closes ∙ turned_closer q.delim left)
    ∙ trees_over more left ys p.2

-- Tokens that are balanced are a balanced list.
pub balanced_listed : (tokens : List Token) → Balanced tokens → is_balanced (map as_listed tokens) ≡ true
balanced_listed tokens b =
    ap (λ l. is_balanced (map as_listed l)) (b.2 ∙ sym (append-nil (tokens_of b.0))) ∙ trees_over b.0 [] [] b.1
