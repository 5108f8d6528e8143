-- A walk that is told the words one by one finds the units of the first match.
use Rattle.std.proofs.Common.{◌≡◌, ℕ, zero, suc, Bool, true, false, cond, ◌&&◌, List, [], ◌∷◌, ◌++◌, map, take, drop, length, codes, refl, sym, ap, ap₂, ◌∙◌, subst, append_assoc}
use Rattle.std.specs.Prelude.{◌==◌, nat_le, ⊤}
use Rattle.lay_piece.specs.Characters as char
use Rattle.lay_piece.specs.declared.kind.Delim.TheVariants.{Paren, Bracket, Brace}
use Rattle.lay_piece.specs.declared.kind.Kind.{Kind}
use Rattle.lay_piece.specs.declared.kind.Kind.TheVariants.{Opener}
use Rattle.lay_token.specs.declared.token.Token.{Token}
use Rattle.lay_map.specs.spelling.Units as units
use Rattle.lay_map.specs.spelling.Units.{Word, Told, Comment, Documented, said}
use Rattle.lay_map.specs.spelling.Choice.{alike, behind_token, chosen, closes, fits, is_loose, leading, more, more_doc, openers, opens, says, takes, top, under, unit_of}
use Rattle.lay_map.specs.Flow.{same}
use Rattle.lay_map.specs.Places.{end_of, place_of}
use Rattle.lay_map.specs.Walks.{Place, first_length, is_sought, last_of, more_of, placed_in, sought_in, taken_from, unit_from}
use Rattle.lay_map.specs.declared.unit.Unit.{Unit}
use Rattle.lay_map.specs.declared.walk.Sought.{Sought}
use Rattle.lay_map.specs.declared.walk.Sought.TheVariants.{First, Docs}

-- ---- what is left to find

abbrev pub place_at : List Token → List Bool → List Unit → Place
place_at ts bs us = record { ahead = ts; braces = bs; units = us }

-- the units of these words from a place on
abbrev pub left : Place → List Word → List units.Unit
left p ws = chosen 0 p.braces ws p.ahead

-- where they and those before stand
abbrev pub total : Place → List Word → List Unit
total p ws = p.units ++ map place_of (left p ws)

-- From the one place these words are found, and from the other what is left of them, and all units are the same.
pub record Goes (p q : Place) (ws vs : List Word) : Type 0 where
  pub finds : said (left q vs) ≡ vs
  pub total : total p ws ≡ total q vs

pub stays : (p : Place) (ws : List Word) → said (left p ws) ≡ ws → Goes p p ws ws
stays p ws h = record { finds = h; total = refl }

-- The first unit is found, and then the others.
goes_one : (p q r : Place) (w : Word) (ws vs : List Word) (u : units.Unit) → left p (w ∷ ws) ≡ u ∷ left q ws
    → q.units ≡ p.units ++ place_of u ∷ [] → Goes q r ws vs → Goes p r (w ∷ ws) vs
goes_one p q r w ws vs u e f g = record {
  finds = g.finds;
  total =
      ap (λ (x : List units.Unit). p.units ++ map place_of x) e
      ∙ sym (append_assoc p.units (place_of u ∷ []) (map place_of (left q ws)))
      ∙ ap (λ (x : List Unit). x ++ map place_of (left q ws)) (sym f)
      ∙ g.total;
}

-- A token is passed.
goes_on : (p q r : Place) (ws vs : List Word) → left p ws ≡ left q ws → q.units ≡ p.units → Goes q r ws vs → Goes p r ws vs
goes_on p q r ws vs e f g = record {
  finds = g.finds;
  total = ap₂ (λ (x : List Unit) (y : List units.Unit). x ++ map place_of y) (sym f) e ∙ g.total;
}

said_tail : (u : units.Unit) (us : List units.Unit) (w : Word) (ws : List Word) → said (u ∷ us) ≡ w ∷ ws → said us ≡ ws
said_tail u us w ws h = cc

said_head : (u : units.Unit) (us : List units.Unit) (w : Word) (ws : List Word) → said (u ∷ us) ≡ w ∷ ws → u.word ≡ w
said_head u us w ws h = cc

-- ---- one token

nothing : (n : ℕ) (stack : List Bool) (ts : List Token) → chosen n stack [] ts ≡ []
nothing n stack [] = refl
nothing n stack (t ∷ ts) = refl

-- What is left of the tokens of the unit before is passed over.
dropped : (n : ℕ) (stack : List Bool) (ws : List Word) (ts : List Token) → chosen n stack ws ts ≡ chosen 0 stack ws (drop n ts)
dropped zero stack ws ts = refl
dropped (suc n) stack ws [] = refl
dropped (suc n) stack [] (t ∷ ts) = sym (nothing 0 stack (drop n ts))
dropped (suc n) stack (w ∷ ws) (t ∷ ts) = dropped n stack (w ∷ ws) ts

taken : (stack : List Bool) (w : Word) (ws : List Word) (t : Token) (ts : List Token) → takes stack w ws t ts ≡ true
    → chosen 0 stack (w ∷ ws) (t ∷ ts) ≡ unit_of w t ts ∷ chosen 0 (behind_token true t.kind stack) ws (drop (more w t.kind) ts)
taken stack w ws t ts h =
    ap (λ (b : Bool). cond b (unit_of w t ts ∷ chosen (more w t.kind) (behind_token true t.kind stack) ws ts)
    (chosen 0 (behind_token false t.kind stack) (w ∷ ws) ts)) h
    ∙ ap (λ (x : List units.Unit). unit_of w t ts ∷ x) (dropped (more w t.kind) (behind_token true t.kind stack) ws ts)

passed : (stack : List Bool) (w : Word) (ws : List Word) (t : Token) (ts : List Token) → takes stack w ws t ts ≡ false
    → chosen 0 stack (w ∷ ws) (t ∷ ts) ≡ chosen 0 (behind_token false t.kind stack) (w ∷ ws) ts
passed stack w ws t ts h =
    ap (λ (b : Bool). cond b (unit_of w t ts ∷ chosen (more w t.kind) (behind_token true t.kind stack) ws ts)
    (chosen 0 (behind_token false t.kind stack) (w ∷ ws) ts)) h

-- The place of documentation is that of its tokens.
last_taken : (n : ℕ) (t : Token) (ts : List Token) → end_of t (take n ts) ≡ last_of n t ts
last_taken zero t ts = refl
last_taken (suc n) t [] = refl
last_taken (suc n) t (u ∷ us) = last_taken n u us

place_taken : (w : Word) (t : Token) (ts : List Token) → place_of (unit_of w t ts) ≡ unit_from t (last_of (more w t.kind) t ts)
place_taken (Told kind text) t ts = refl
place_taken (Comment inner text) t ts = ap (unit_from t) (last_taken (more_doc inner t.kind) t ts)
place_taken (Documented inner text) t ts = ap (unit_from t) (last_taken (more_doc inner t.kind) t ts)

-- ---- rows of braces

abbrev pub brace : Word
brace = Told (Opener Brace) (codes "{")

-- this many opening braces and then these words
abbrev pub braces : ℕ → List Word → List Word
braces zero ws = ws
braces (suc k) ws = brace ∷ braces k ws

leading_braces : (k : ℕ) (ws : List Word) → leading ws ≡ 0 → leading (braces k ws) ≡ k
leading_braces zero ws h = h
leading_braces (suc k) ws h = ap suc (leading_braces k ws h)

loose_braces : (k : ℕ) (ws : List Word) → is_loose (braces k ws) ≡ is_loose ws
loose_braces zero ws = refl
loose_braces (suc k) ws = loose_braces k ws

pub braces_before : (k : ℕ) (ws : List Word) → braces k (brace ∷ ws) ≡ brace ∷ braces k ws
braces_before zero ws = refl
braces_before (suc k) ws = ap (λ (x : List Word). brace ∷ x) (braces_before k ws)

-- as many braces as the row has fit
fits_row : (loose : Bool) (k : ℕ) (ws : List Word) (ts : List Token) → leading ws ≡ 0 → is_loose ws ≡ loose
    → fits (brace ∷ braces k ws) ts ≡ nat_le (openers loose ts) (suc k)
fits_row loose k ws ts h l =
    ap₂ (λ (b : Bool) (n : ℕ). nat_le (openers b ts) (suc n)) (loose_braces k ws ∙ l) (leading_braces k ws h)

pub opens_brace : (kind : Kind) → opens kind ≡ true → kind ≡ Opener Brace
opens_brace (Opener Brace) h = refl
opens_brace (Opener Paren) h = absurd (cc h)
opens_brace (Opener Bracket) h = absurd (cc h)
opens_brace _ h = absurd (cc h)

-- no brace of another kind begins like one
no_brace : (t : Token) (u : units.Unit) (us : List units.Unit) (ws : List Word) → opens t.kind ≡ false → u.word ≡ Told t.kind t.text
    → said (u ∷ us) ≡ brace ∷ ws → ⊥
no_brace t u us ws o e h =
    let k : t.kind ≡ Opener Brace = let q : Told t.kind t.text ≡ brace = sym e ∙ said_head u us brace ws h in cc in
    let p : opens t.kind ≡ true = ap opens k in
    cc

-- one token of a row, where more of it is known to go
row_step : (loose : Bool) (k : ℕ) (t : Token) (ts : List Token) (bs : List Bool) (us : List Unit) (ws : List Word)
    → leading ws ≡ 0 → is_loose ws ≡ loose → said (chosen 0 bs (brace ∷ braces k ws) (t ∷ ts)) ≡ brace ∷ braces k ws
    → ((cs : List Bool) (vs : List Unit) → said (chosen 0 cs (braces k ws) ts) ≡ braces k ws
    → Goes (place_at ts cs vs) (placed_in loose k ts cs vs) (braces k ws) ws)
    → ((cs : List Bool) (vs : List Unit) → said (chosen 0 cs (brace ∷ braces k ws) ts) ≡ brace ∷ braces k ws
    → Goes (place_at ts cs vs) (placed_in loose (suc k) ts cs vs) (brace ∷ braces k ws) ws)
    → Goes (place_at (t ∷ ts) bs us) (placed_in loose (suc k) (t ∷ ts) bs us) (brace ∷ braces k ws) ws
row_step loose k t ts bs us ws lead l h kept past = by (opens t.kind) refl
  where
    -- which tests decide
    decided : (o c a : Bool) → opens t.kind ≡ o → closes t.kind ≡ c → says brace t.kind t.text ≡ a
        → takes bs brace (braces k ws) t ts ≡ cond o (nat_le (openers loose (t ∷ ts)) (suc k)) (cond c false a)
    decided o c a e f g =
        ap (λ (x : Bool). cond x (fits (brace ∷ braces k ws) (t ∷ ts)) (cond (closes t.kind) false (says brace t.kind t.text))) e
        ∙ ap (λ (x : Bool). cond o (fits (brace ∷ braces k ws) (t ∷ ts)) (cond x false (says brace t.kind t.text))) f
        ∙ ap₂ (λ (x y : Bool). cond o x (cond c false y)) (fits_row loose k ws (t ∷ ts) lead l) g

    past_by : (cs : List Bool) → behind_token false t.kind bs ≡ cs → takes bs brace (braces k ws) t ts ≡ false
        → Goes (place_at (t ∷ ts) bs us) (placed_in loose (suc k) ts cs us) (brace ∷ braces k ws) ws
    past_by cs q n =
        let e = passed bs brace (braces k ws) t ts n ∙ ap (λ (x : List Bool). chosen 0 x (brace ∷ braces k ws) ts) q in
        goes_on (place_at (t ∷ ts) bs us) (place_at ts cs us) (placed_in loose (suc k) ts cs us) (brace ∷ braces k ws) ws e refl
        (past cs us (sym (ap said e) ∙ h))

    kept_by : opens t.kind ≡ true → takes bs brace (braces k ws) t ts ≡ true → Goes (place_at (t ∷ ts) bs us) (placed_in loose k ts (true ∷ bs) (us ++ unit_from t t ∷ [])) (brace ∷ braces k ws) ws
    kept_by o n =
        let q : behind_token true t.kind bs ≡ true ∷ bs = ap (λ (x : Bool). cond x (true ∷ bs) (cond (closes t.kind) (under bs) bs)) o in
        let e = taken bs brace (braces k ws) t ts n
        ∙ ap (λ (x : List Bool). unit_of brace t ts ∷ chosen 0 x (braces k ws) ts) q in
        goes_one (place_at (t ∷ ts) bs us) (place_at ts (true ∷ bs) (us ++ unit_from t t ∷ [])) (placed_in loose k ts (true ∷ bs) (us ++ unit_from t t ∷ [])) brace (braces k ws) ws
        (unit_of brace t ts) e refl
        (kept (true ∷ bs) (us ++ unit_from t t ∷ [])
        (said_tail (unit_of brace t ts) (chosen 0 (true ∷ bs) (braces k ws) ts) brace (braces k ws) (sym (ap said e) ∙ h)))

    by : (o : Bool) → opens t.kind ≡ o
        → Goes (place_at (t ∷ ts) bs us) (cond o (cond (nat_le (openers loose (t ∷ ts)) (suc k)) (placed_in loose k ts (true ∷ bs) (us ++ unit_from t t ∷ [])) (placed_in loose (suc k) ts (false ∷ bs) us)) (placed_in loose (suc k) ts (behind_token false t.kind bs) us)) (brace ∷ braces k ws) ws
    by true o = by_count (nat_le (openers loose (t ∷ ts)) (suc k)) refl
      where
        by_count : (b : Bool) → nat_le (openers loose (t ∷ ts)) (suc k) ≡ b → Goes (place_at (t ∷ ts) bs us) (cond b (placed_in loose k ts (true ∷ bs) (us ++ unit_from t t ∷ [])) (placed_in loose (suc k) ts (false ∷ bs) us)) (brace ∷ braces k ws) ws
        by_count true n = kept_by o (decided true (closes t.kind) (says brace t.kind t.text) o refl refl ∙ n)
        by_count false n =
            past_by (false ∷ bs) (ap (λ (x : Bool). cond x (false ∷ bs) (cond (closes t.kind) (under bs) bs)) o)
            (decided true (closes t.kind) (says brace t.kind t.text) o refl refl ∙ n)
    by false o = by_close (closes t.kind) (says brace t.kind t.text) refl refl
      where
        by_close : (c a : Bool) → closes t.kind ≡ c → says brace t.kind t.text ≡ a → Goes (place_at (t ∷ ts) bs us) (placed_in loose (suc k) ts (behind_token false t.kind bs) us) (brace ∷ braces k ws) ws
        by_close true a e g = past_by (behind_token false t.kind bs) refl (decided false true a o e g)
        by_close false false e g = past_by (behind_token false t.kind bs) refl (decided false false false o e g)
        by_close false true e g =
            let f = taken bs brace (braces k ws) t ts (decided false false true o e g) in
            absurd (no_brace t (unit_of brace t ts) (chosen 0 (behind_token true t.kind bs) (braces k ws) ts) (braces k ws) o refl (sym (ap said f) ∙ h))

-- The braces of a row are found.
pub row_found : (loose : Bool) (k : ℕ) (ts : List Token) (bs : List Bool) (us : List Unit) (ws : List Word)
    → leading ws ≡ 0 → is_loose ws ≡ loose → said (chosen 0 bs (braces k ws) ts) ≡ braces k ws
    → Goes (place_at ts bs us) (placed_in loose k ts bs us) (braces k ws) ws
row_found loose zero ts bs us ws lead l h = record { finds = h; total = refl }
row_found loose (suc k) [] bs us ws lead l h = absurd (let no : ⊥ = cc in no)
row_found loose (suc k) (t ∷ ts) bs us ws lead l h =
    row_step loose k t ts bs us ws lead l h
    (λ cs vs g. row_found loose k ts cs vs ws lead l g)
    (λ cs vs g. row_found loose (suc k) ts cs vs ws lead l g)

-- ---- words that are no opening brace

-- The word is looked for so.
abbrev pub Seeks : Word → Sought → Type 0
Seeks w sought = (bs : List Bool) (ws : List Word) (t : Token) (ts : List Token) → takes bs w ws t ts ≡ is_sought sought bs t

-- how many tokens after the first belong to the unit of the word
abbrev pub more_ahead : Word → List Token → ℕ
more_ahead (Told kind text) ts = 0
more_ahead (Comment inner text) ts = more_of inner ts
more_ahead (Documented inner text) ts = more_of inner ts

abbrev pub behind_word : Word → Place → Place
behind_word w p = taken_from (more_ahead w p.ahead) p

more_same : (w : Word) (t : Token) (ts : List Token) → more_ahead w (t ∷ ts) ≡ more w t.kind
more_same (Told kind text) t ts = refl
more_same (Comment inner text) t ts = refl
more_same (Documented inner text) t ts = refl

-- The token that is found has the word's text.
abbrev pub HasText : Word → List Token → Type 0
HasText (Told kind text) ts = first_length ts ≡ length text
HasText (Comment inner text) ts = ⊤
HasText (Documented inner text) ts = ⊤

has_text : (w : Word) (t : Token) (ts : List Token) → (unit_of w t ts).word ≡ w → HasText w (t ∷ ts)
has_text (Told kind text) t ts h = let e : t.text ≡ text = cc in ap length e
has_text (Comment inner text) t ts h = tt
has_text (Documented inner text) t ts h = tt

pub record Finds (w : Word) (ws : List Word) (p q : Place) : Type 0 where
  pub goes : Goes p (behind_word w q) (w ∷ ws) ws
  pub text : HasText w q.ahead

word_step : (w : Word) (sought : Sought) (t : Token) (ts : List Token) (bs : List Bool) (us : List Unit) (ws : List Word) → Seeks w sought
    → said (chosen 0 bs (w ∷ ws) (t ∷ ts)) ≡ w ∷ ws
    → ((cs : List Bool) → said (chosen 0 cs (w ∷ ws) ts) ≡ w ∷ ws
    → Finds w ws (place_at ts cs us) (sought_in sought ts cs us))
    → Finds w ws (place_at (t ∷ ts) bs us) (sought_in sought (t ∷ ts) bs us)
word_step w sought t ts bs us ws k h past = by (is_sought sought bs t) refl
  where
    by : (b : Bool) → is_sought sought bs t ≡ b → Finds w ws (place_at (t ∷ ts) bs us) (cond b (place_at (t ∷ ts) bs us) (sought_in sought ts (behind_token false t.kind bs) us))
    by true n =
        let e = taken bs w ws t ts (k bs ws t ts ∙ n) in
        let u = unit_of w t ts in
        let rest = chosen 0 (behind_token true t.kind bs) ws (drop (more w t.kind) ts) in
        let s : said (u ∷ rest) ≡ w ∷ ws = sym (ap said e) ∙ h in
        let m = more_same w t ts in
        let q : Place = record { ahead = drop (more w t.kind) ts; braces = behind_token true t.kind bs; units = us ++ unit_from t (last_of (more w t.kind) t ts) ∷ [] } in
        record {
          goes = subst (λ (n : ℕ). Goes (place_at (t ∷ ts) bs us) (taken_from n (place_at (t ∷ ts) bs us)) (w ∷ ws) ws) (sym m)
              (goes_one (place_at (t ∷ ts) bs us) q q w ws ws u e (ap (λ (x : Unit). us ++ x ∷ []) (sym (place_taken w t ts)))
              (stays q ws (said_tail u rest w ws s)));
          text = has_text w t ts (said_head u rest w ws s);
        }
    by false n =
        let e = passed bs w ws t ts (k bs ws t ts ∙ n) in
        let f = past (behind_token false t.kind bs) (sym (ap said e) ∙ h) in
        record {
          goes = goes_on (place_at (t ∷ ts) bs us) (place_at ts (behind_token false t.kind bs) us) (behind_word w (sought_in sought ts (behind_token false t.kind bs) us)) (w ∷ ws) ws e refl f.goes;
          text = f.text;
        }

-- The token of a word is found.
pub word_found : (w : Word) (sought : Sought) (ts : List Token) (bs : List Bool) (us : List Unit) (ws : List Word) → Seeks w sought
    → said (chosen 0 bs (w ∷ ws) ts) ≡ w ∷ ws
    → Finds w ws (place_at ts bs us) (sought_in sought ts bs us)
word_found w sought [] bs us ws k h = absurd (let no : ⊥ = cc in no)
word_found w sought (t ∷ ts) bs us ws k h =
    word_step w sought t ts bs us ws k h (λ cs g. word_found w sought ts cs us ws k g)

-- ---- how words are looked for

pub same_is : (a b : Bool) → same a b ≡ true → a ≡ b
same_is true b h = sym h
same_is false false h = refl
same_is false true h = absurd (cc h)

alike_first : (c : ℕ) (cs given : List ℕ) → alike given (c ∷ cs) ≡ alike given (c ∷ [])
alike_first c cs [] = refl
alike_first c cs (g ∷ gs) = refl

-- where each of the three tests is the same
sought_by : (o c s x y : Bool) (f : Bool) → x ≡ false → cond o (x && f) (cond c y s) ≡ cond o false (cond c y s)
sought_by o c s x y f e = ap (λ (z : Bool). cond o (z && f) (cond c y s)) e

pub seeks_told : (kind : Kind) (c : ℕ) (cs : List ℕ) → opens kind ≡ false → closes kind ≡ (c == char.close_brace)
    → Seeks (Told kind (c ∷ cs)) (First c)
seeks_told kind c cs o k = λ bs ws t ts.
    sought_by (opens t.kind) (closes t.kind) (alike t.text (c ∷ cs)) (opens kind) (closes kind && top bs) (fits (Told kind (c ∷ cs) ∷ ws) (t ∷ ts)) o
    ∙ ap₂ (λ (x y : Bool). cond (opens t.kind) false (cond (closes t.kind) (x && top bs) y)) k (alike_first c cs t.text)

pub seeks_comment : (inner : Bool) (text : List ℕ) → Seeks (Comment inner text) Docs
seeks_comment inner text = λ bs ws t ts. refl

pub seeks_documented : (inner : Bool) (text : List ℕ) → Seeks (Documented inner text) Docs
seeks_documented inner text = λ bs ws t ts. refl
