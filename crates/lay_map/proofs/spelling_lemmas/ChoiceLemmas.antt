-- The first match gives the units of a spelling, where the form is clear.
use Rattle.std.proofs.Common.{◌≡◌, inl, inr, ℕ, zero, suc, ◌-◌, ◌≤◌, Bool, true, false, cond, not, ◌&&◌, ◌||◌, List, [], ◌∷◌, ◌++◌, map, take, drop, length, codes, refl, sym, ap, ap₂, ◌∙◌, subst, arith, append_assoc, append-nil, le-leb, eq-eqb, length-append}
use Rattle.std.proofs.lemmas.Bool.{and_parts, and_from, and_right, or_parts, lt-leb}
use Rattle.lay_piece.specs.declared.kind.Delim.TheVariants.{Bracket, Brace}
use Rattle.lay_piece.specs.declared.kind.Kind.{Kind}
use Rattle.lay_piece.specs.declared.kind.Kind.TheVariants.{Ident, Punct, Opener, Closer}
use Rattle.lay_token.specs.declared.token.Token.{Token}
use Rattle.lay_form.specs.Form.{Bit, Blank, Fixed, Operator, Semicolons, Behind, Nothing, ArmComma, Form, Done, Piece, Leaf, Listed, ListedDoc, Brk, LastComma, Group, Part, Deeper, Optional, Docs, Body, comma}
use Rattle.lay_form.specs.Spelled.{IsOne, AreBits, AreSemicolons, MayBe, IsListed, IsComment, IsString, IsDoc, Opens, Closes, IsBehind, cost, Spells}
use Rattle.lay_form.proofs.FormLaws.{one_end, bits_end, may_be_end, listed_end, comment_end, doc_end, opens_end, closes_end, behind_end, is_end}
use Rattle.lay_map.specs.spelling.Units.{Word, Told, Comment, Documented, Unit, kept, first_unit, take_one, spent, op_units, bits_units, units, punct_word, bits_words, words, AreSingle}
use Rattle.lay_map.specs.spelling.Choice.{opens, closes, alike, begins_doc, more_doc, says, passes, word_opens, word_closes, leading, is_loose, openers, fits, top, under, behind_token, behind_word, behind_words, shuts, none, is_level, takes, more, unit_of, chosen, calm_bits, calm, firm, passes_each, skips, is_settled, clear_bits, passes_behind, clear}
use Rattle.lay_map.proofs.spelling_lemmas.OperatorLemmas.{Reads, op_reads}
use Rattle.lay_map.proofs.spelling_lemmas.RowLemmas.{not_true, Runs, Firm, bit_behind, semicolons_open, opened_row, one_row, listed_row, bits_row, form_row, form_firm}
use Rattle.lay_map.proofs.spelling_lemmas.UnitLemmas.{behind}

-- ---- the braces that are open

-- Words whose braces are pairs leave those that were open before as they were.
lifted : (w : Word) (x stack : List Bool) → (not (word_closes w) || top x) ≡ true
    → (behind_word w (x ++ stack) ≡ behind_word w x ++ stack) × ((not (word_closes w) || top (x ++ stack)) ≡ true)
lifted w x stack h = by (word_opens w) (word_closes w) x h
  where
    by : (o c : Bool) (y : List Bool) → (not c || top y) ≡ true
        → (cond o (true ∷ (y ++ stack)) (cond c (under (y ++ stack)) (y ++ stack)) ≡ cond o (true ∷ y) (cond c (under y) y) ++ stack)
        × ((not c || top (y ++ stack)) ≡ true)
    by o true [] g = absurd (cc g)
    by true true (b ∷ bs) g = (refl, g)
    by false true (b ∷ bs) g = (refl, g)
    by true false y g = (refl, refl)
    by false false y g = (refl, refl)

shut_within : (ws : List Word) (x stack : List Bool) → shuts ws x ≡ true
    → (shuts ws (x ++ stack) ≡ true) × (behind_words ws (x ++ stack) ≡ behind_words ws x ++ stack)
shut_within [] x stack h = (refl, refl)
shut_within (w ∷ ws) x stack h =
    let p = and_parts (not (word_closes w) || top x) (shuts ws (behind_word w x)) h in
    let l = lifted w x stack p.0 in
    let m = shut_within ws (behind_word w x) stack p.1 in (
      and_from (not (word_closes w) || top (x ++ stack)) (shuts ws (behind_word w (x ++ stack))) l.1
          (subst (λ (y : List Bool). shuts ws y ≡ true) (sym l.0) m.0),
      ap (behind_words ws) l.0 ∙ m.1,
    )

none_left : (x : List Bool) → none x ≡ true → x ≡ []
none_left [] h = refl
none_left (b ∷ bs) h = absurd (cc h)

level_shuts : (ws : List Word) (stack : List Bool) → is_level ws ≡ true → shuts ws stack ≡ true
level_shuts ws stack h = (shut_within ws [] stack (and_parts (shuts ws []) (none (behind_words ws [])) h).0).0

level_leaves : (ws : List Word) (stack : List Bool) → is_level ws ≡ true → behind_words ws stack ≡ stack
level_leaves ws stack h =
    let p = and_parts (shuts ws []) (none (behind_words ws [])) h in
    (shut_within ws [] stack p.0).1 ∙ ap (λ (x : List Bool). x ++ stack) (none_left (behind_words ws []) p.1)

-- first these words and then those
behind_two : (a b : List Word) (stack : List Bool) → behind_words (a ++ b) stack ≡ behind_words b (behind_words a stack)
behind_two [] b stack = refl
behind_two (w ∷ a) b stack = behind_two a b (behind_word w stack)

shut_two : (a b : List Word) (stack : List Bool) → shuts (a ++ b) stack ≡ true
    → (shuts a stack ≡ true) × (shuts b (behind_words a stack) ≡ true)
shut_two [] b stack h = (refl, h)
shut_two (w ∷ a) b stack h =
    let p = and_parts (not (word_closes w) || top stack) (shuts (a ++ b) (behind_word w stack)) h in
    let q = shut_two a b (behind_word w stack) p.1 in
    (and_from (not (word_closes w) || top stack) (shuts a (behind_word w stack)) p.0 q.0, q.1)

-- braces that are in no unit
abbrev opened : ℕ → List Bool → List Bool
opened zero stack = stack
opened (suc n) stack = false ∷ opened n stack

opened_before : (n : ℕ) (stack : List Bool) → opened n (false ∷ stack) ≡ false ∷ opened n stack
opened_before zero stack = refl
opened_before (suc n) stack = ap (λ (x : List Bool). false ∷ x) (opened_before n stack)

-- ---- one token

nothing : (n : ℕ) (stack : List Bool) (ts : List Token) → chosen n stack [] ts ≡ []
nothing n stack [] = refl
nothing n stack (t ∷ ts) = refl

taken : (stack : List Bool) (w : Word) (ws : List Word) (t : Token) (ts : List Token) → takes stack w ws t ts ≡ true
    → chosen 0 stack (w ∷ ws) (t ∷ ts) ≡ unit_of w t ts ∷ chosen (more w t.kind) (behind_token true t.kind stack) ws ts
taken stack w ws t ts h =
    ap (λ (b : Bool). cond b (unit_of w t ts ∷ chosen (more w t.kind) (behind_token true t.kind stack) ws ts)
    (chosen 0 (behind_token false t.kind stack) (w ∷ ws) ts)) h

left : (stack : List Bool) (w : Word) (ws : List Word) (t : Token) (ts : List Token) → takes stack w ws t ts ≡ false
    → chosen 0 stack (w ∷ ws) (t ∷ ts) ≡ chosen 0 (behind_token false t.kind stack) (w ∷ ws) ts
left stack w ws t ts h =
    ap (λ (b : Bool). cond b (unit_of w t ts ∷ chosen (more w t.kind) (behind_token true t.kind stack) ws ts)
    (chosen 0 (behind_token false t.kind stack) (w ∷ ws) ts)) h

-- which of the tests of a kind decides
by_kind : (o c x y z : Bool) → (o ≡ true → x ≡ true) → (c ≡ true → y ≡ true) → z ≡ true → cond o x (cond c y z) ≡ true
by_kind true c x y z p q r = p refl
by_kind false true x y z p q r = q refl
by_kind false false x y z p q r = r

alike_self : (text : List ℕ) → alike text text ≡ true
alike_self [] = refl
alike_self (c ∷ cs) = eq-eqb c c refl

same_text : (text given : List ℕ) → given ≡ text → alike given text ≡ true
same_text text given e = subst (λ (x : List ℕ). alike x text ≡ true) (sym e) (alike_self text)

fit : (ws : List Word) (ts : List Token) → Runs ws ts → fits ws ts ≡ true
fit ws ts h = le-leb (openers (is_loose ws) ts) (leading ws) h

shut_top : (c b : Bool) → (not c || b) ≡ true → c ≡ true → (c && b) ≡ true
shut_top true b h e = h
shut_top false b h e = absurd (cc e)

told_taken : (kind : Kind) (text : List ℕ) (stack : List Bool) (ws : List Word) (t : Token) (ts : List Token) → t.kind ≡ kind → t.text ≡ text
    → (opens kind ≡ true → Runs (Told kind text ∷ ws) (t ∷ ts)) → (not (closes kind) || top stack) ≡ true
    → chosen 0 stack (Told kind text ∷ ws) (t ∷ ts) ≡ kept t ∷ chosen 0 (behind_word (Told kind text) stack) ws ts
told_taken kind text stack ws t ts k e row shut =
    taken stack (Told kind text) ws t ts
    (by_kind (opens t.kind) (closes t.kind) (opens kind && fits (Told kind text ∷ ws) (t ∷ ts)) (closes kind && top stack) (alike t.text text)
    (λ o. let p : opens kind ≡ true = sym (ap opens k) ∙ o in
    and_from (opens kind) (fits (Told kind text ∷ ws) (t ∷ ts)) p (fit (Told kind text ∷ ws) (t ∷ ts) (row p)))
    (λ c. shut_top (closes kind) (top stack) shut (sym (ap closes k) ∙ c))
    (same_text text t.text e))
    ∙ ap (λ (x : Kind). kept t ∷ chosen 0 (behind_token true x stack) ws ts) k

one_taken : (kind : Kind) (text : List ℕ) (stack : List Bool) (ws : List Word) (ts rest : List Token) → IsOne kind text ts rest
    → (opens kind ≡ true → Runs ws rest) → (not (closes kind) || top stack) ≡ true
    → chosen 0 stack (Told kind text ∷ ws) ts ≡ first_unit ts ++ chosen 0 (behind_word (Told kind text) stack) ws rest
one_taken kind text stack ws [] rest s row shut = absurd s
one_taken kind text stack ws (t ∷ ts) rest s row shut =
    told_taken kind text stack ws t ts s.0 s.1 (λ o. one_row kind text ws (t ∷ ts) rest s row) shut
    ∙ ap (λ (x : List Token). kept t ∷ chosen 0 (behind_word (Told kind text) stack) ws x) s.2

listed_taken : (kind : Kind) (text : List ℕ) (joint : Bool) (stack : List Bool) (ws : List Word) (ts rest : List Token)
    → IsListed kind text joint ts rest → (opens kind ≡ true → Runs ws rest) → (not (closes kind) || top stack) ≡ true
    → chosen 0 stack (Told kind text ∷ ws) ts ≡ first_unit ts ++ chosen 0 (behind_word (Told kind text) stack) ws rest
listed_taken kind text joint stack ws [] rest s row shut = absurd s
listed_taken kind text joint stack ws (t ∷ ts) rest s row shut =
    told_taken kind text stack ws t ts s.0 s.1 (λ o. listed_row kind text joint ws (t ∷ ts) rest s row) shut
    ∙ ap (λ (x : List Token). kept t ∷ chosen 0 (behind_word (Told kind text) stack) ws x) s.3

-- what takes a token that is no brace
plain_taken : (stack : List Bool) (w : Word) (ws : List Word) (t : Token) (ts : List Token) → opens t.kind ≡ false → closes t.kind ≡ false
    → says w t.kind t.text ≡ true
    → chosen 0 stack (w ∷ ws) (t ∷ ts) ≡ unit_of w t ts ∷ chosen (more w t.kind) stack ws ts
plain_taken stack w ws t ts o c h =
    taken stack w ws t ts
    (ap (λ (b : Bool). cond b (word_opens w && fits (w ∷ ws) (t ∷ ts)) (cond (closes t.kind) (word_closes w && top stack) (says w t.kind t.text))) o
    ∙ ap (λ (b : Bool). cond b (word_closes w && top stack) (says w t.kind t.text)) c ∙ h)
    ∙ ap (λ (x : List Bool). unit_of w t ts ∷ chosen (more w t.kind) x ws ts)
    (ap (λ (b : Bool). cond b (true ∷ stack) (cond (closes t.kind) (under stack) stack)) o
    ∙ ap (λ (b : Bool). cond b (under stack) stack) c)

plain_passed : (stack : List Bool) (ws : List Word) (t : Token) (ts : List Token) → opens t.kind ≡ false → closes t.kind ≡ false
    → passes ws t.kind t.text ≡ true → chosen 0 stack ws (t ∷ ts) ≡ chosen 0 stack ws ts
plain_passed stack [] t ts o c h = sym (nothing 0 stack ts)
plain_passed stack (w ∷ ws) t ts o c h =
    left stack w ws t ts
    (ap (λ (b : Bool). cond b (word_opens w && fits (w ∷ ws) (t ∷ ts)) (cond (closes t.kind) (word_closes w && top stack) (says w t.kind t.text))) o
    ∙ ap (λ (b : Bool). cond b (word_closes w && top stack) (says w t.kind t.text)) c ∙ not_true (says w t.kind t.text) h)
    ∙ ap (λ (x : List Bool). chosen 0 x (w ∷ ws) ts)
    (ap (λ (b : Bool). cond b (false ∷ stack) (cond (closes t.kind) (under stack) stack)) o
    ∙ ap (λ (b : Bool). cond b (under stack) stack) c)

one_passed : (kind : Kind) (text : List ℕ) (stack : List Bool) (ws : List Word) (ts rest : List Token) → IsOne kind text ts rest
    → not (opens kind || closes kind) ≡ true → passes ws kind text ≡ true → chosen 0 stack ws ts ≡ chosen 0 stack ws rest
one_passed kind text stack ws [] rest s n h = absurd s
one_passed kind text stack ws (t ∷ ts) rest s n h =
    let p = or_parts (opens kind) (closes kind) (not_true (opens kind || closes kind) n) in
    plain_passed stack ws t ts (ap opens s.0 ∙ p.0) (ap closes s.0 ∙ p.1) (ap₂ (passes ws) s.0 s.1 ∙ h)
    ∙ ap (chosen 0 stack ws) s.2

-- ---- documentation

comment_taken : (inner : Bool) (text : List ℕ) (stack : List Bool) (ws : List Word) (ts rest : List Token) → IsComment inner text ts rest
    → chosen 0 stack (Comment inner text ∷ ws) ts ≡ record { word = Comment inner text; tokens = take_one ts } ∷ chosen 0 stack ws rest
comment_taken inner text stack ws [] rest s = absurd s
comment_taken inner text stack ws (t ∷ ts) rest s =
    plain_taken stack (Comment inner text) ws t ts (ap opens s.1) (ap closes s.1) (ap (λ (x : Kind). begins_doc x t.text) s.1)
    ∙ ap₂ (λ (n : ℕ) (x : List Token). record { word = Comment inner text; tokens = t ∷ take n ts } ∷ chosen n stack ws x)
    (ap (more_doc inner) s.1) s.3

-- What is left of the tokens of the unit before is passed over.
dropped : (n : ℕ) (stack : List Bool) (ws : List Word) (ts : List Token) → chosen n stack ws ts ≡ chosen 0 stack ws (drop n ts)
dropped zero stack ws ts = refl
dropped (suc n) stack ws [] = refl
dropped (suc n) stack [] (t ∷ ts) = sym (nothing 0 stack (drop n ts))
dropped (suc n) stack (w ∷ ws) (t ∷ ts) = dropped n stack (w ∷ ws) ts

take_before : (before rest : List Token) → take (length before) (before ++ rest) ≡ before
take_before [] rest = refl
take_before (t ∷ before) rest = ap (λ (x : List Token). t ∷ x) (take_before before rest)

drop_before : (before rest : List Token) → drop (length before) (before ++ rest) ≡ rest
drop_before [] rest = refl
drop_before (t ∷ before) rest = drop_before before rest

spent_before : (before rest : List Token) → spent (before ++ rest) rest ≡ before
spent_before before rest =
    let n = length-append before rest in
    let e : length (before ++ rest) - length rest ≡ length before = omega (arith, n) in
    ap (λ (k : ℕ). take k (before ++ rest)) e ∙ take_before before rest

-- this many tokens, and then what is left
abbrev Count : ℕ → List Token → List Token → Type 0
Count n ts rest = (before : List Token) × (length before ≡ n) × (ts ≡ before ++ rest)

no_count : (ts rest : List Token) → ts ≡ rest → Count 0 ts rest
no_count ts rest e = ([], refl, e)

first_count : (n : ℕ) (t : Token) (ts mid rest : List Token) → ts ≡ mid → Count n mid rest → Count (suc n) (t ∷ ts) rest
first_count n t ts mid rest e c = (t ∷ c.0, ap suc c.1, ap (λ (x : List Token). t ∷ x) (e ∙ c.2))

one_count : (kind : Kind) (text : List ℕ) (n : ℕ) (ts mid rest : List Token) → IsOne kind text ts mid → Count n mid rest → Count (suc n) ts rest
one_count kind text n [] mid rest s c = absurd s
one_count kind text n (t ∷ ts) mid rest s c = first_count n t ts mid rest s.2 c

string_count : (text : List ℕ) (n : ℕ) (ts mid rest : List Token) → IsString text ts mid → Count n mid rest → Count (suc n) ts rest
string_count text n [] mid rest s c = absurd s
string_count text n (t ∷ ts) mid rest s c = first_count n t ts mid rest s.1 c

op_count : (c : ℕ) (n : ℕ) (ts mid rest : List Token) → Reads (c ∷ []) ts → drop 1 ts ≡ mid → Count n mid rest → Count (suc n) ts rest
op_count c n [] mid rest r e k = absurd r
op_count c n (t ∷ ts) mid rest r e k = first_count n t ts mid rest e k

-- The first token says the documentation, and this many more belong to it.
doc_unit : (inner : Bool) (text : List ℕ) (n : ℕ) (stack : List Bool) (ws : List Word) (t : Token) (ts rest : List Token)
    → opens t.kind ≡ false → closes t.kind ≡ false → says (Documented inner text) t.kind t.text ≡ true
    → more (Documented inner text) t.kind ≡ n → Count n ts rest
    → chosen 0 stack (Documented inner text ∷ ws) (t ∷ ts)
    ≡ record { word = Documented inner text; tokens = spent (t ∷ ts) rest } ∷ chosen 0 stack ws rest
doc_unit inner text n stack ws t ts rest o c h m k =
    plain_taken stack (Documented inner text) ws t ts o c h
    ∙ ap (λ (x : ℕ). record { word = Documented inner text; tokens = t ∷ take x ts } ∷ chosen x stack ws ts) (m ∙ sym k.1)
    ∙ ap₂ (λ (x : List Token) (y : List Unit). record { word = Documented inner text; tokens = x } ∷ y)
    (ap (λ (x : List Token). t ∷ take (length k.0) x) k.2 ∙ ap (λ (x : List Token). t ∷ x) (take_before k.0 rest)
    ∙ sym (spent_before (t ∷ k.0) rest) ∙ ap (λ (x : List Token). spent (t ∷ x) rest) (sym k.2))
    (dropped (length k.0) stack ws ts
    ∙ ap (λ (x : List Token). chosen 0 stack ws (drop (length k.0) x)) k.2
    ∙ ap (chosen 0 stack ws) (drop_before k.0 rest))

doc_attr : (inner : Bool) (text : List ℕ) (n : ℕ) (stack : List Bool) (ws : List Word) (ts mid rest : List Token) → cond inner 6 5 ≡ n
    → IsOne Punct (codes "#") ts mid → Count n mid rest
    → chosen 0 stack (Documented inner text ∷ ws) ts ≡ record { word = Documented inner text; tokens = spent ts rest } ∷ chosen 0 stack ws rest
doc_attr inner text n stack ws [] mid rest m s k = absurd s
doc_attr inner text n stack ws (t ∷ ts) mid rest m s k =
    doc_unit inner text n stack ws t ts rest (ap opens s.0) (ap closes s.0)
    (ap₂ begins_doc s.0 s.1)
    (ap (more_doc inner) s.0 ∙ m)
    (k.0, k.1, s.2 ∙ k.2)

doc_taken : (inner : Bool) (text : List ℕ) (stack : List Bool) (ws : List Word) (ts rest : List Token) → AreSingle ts → IsDoc inner text ts rest
    → chosen 0 stack (Documented inner text ∷ ws) ts ≡ record { word = Documented inner text; tokens = spent ts rest } ∷ chosen 0 stack ws rest
doc_taken inner text stack ws [] rest single (inl s) = absurd s
doc_taken inner text stack ws (t ∷ ts) rest single (inl s) =
    doc_unit inner text 0 stack ws t ts rest (ap opens s.1) (ap closes s.1)
    (ap (λ (x : Kind). begins_doc x t.text) s.1)
    (ap (more_doc inner) s.1)
    (no_count ts rest s.3)
doc_taken false text stack ws ts rest single (inr s) =
    let hash = s.1 in
    let bracket = hash.2 in
    let doc = bracket.2 in
    let equals = doc.2 in
    let one = behind ts hash.0 single (one_end Punct (codes "#") ts hash.0 hash.1) in
    let two = behind hash.0 bracket.0 one (one_end (Opener Bracket) (codes "[") hash.0 bracket.0 bracket.1) in
    let three = behind bracket.0 doc.0 two (one_end Ident (codes "doc") bracket.0 doc.0 doc.1) in
    doc_attr false text 5 stack ws ts hash.0 rest refl hash.1
    (one_count (Opener Bracket) (codes "[") 4 hash.0 bracket.0 rest bracket.1
    (one_count Ident (codes "doc") 3 bracket.0 doc.0 rest doc.1
    (op_count 61 2 doc.0 equals.0 rest (op_reads (codes "=") doc.0 three equals.1.0) equals.1.1
    (string_count text 1 equals.0 s.2.0 rest (subst (λ (x : List Token). IsString text x s.2.0) (sym equals.2) s.2.1)
    (one_count (Closer Bracket) (codes "]") 0 s.2.0 s.2.2.0 rest s.2.2.1 (no_count s.2.2.0 rest s.2.2.2))))))
doc_taken true text stack ws ts rest single (inr s) =
    let hash = s.1 in
    let bang = hash.2 in
    let bracket = bang.2 in
    let doc = bracket.2 in
    let equals = doc.2 in
    let one = behind ts hash.0 single (one_end Punct (codes "#") ts hash.0 hash.1) in
    let two = behind hash.0 bang.0 one (one_end Punct (codes "!") hash.0 bang.0 bang.1) in
    let three = behind bang.0 bracket.0 two (one_end (Opener Bracket) (codes "[") bang.0 bracket.0 bracket.1) in
    let four = behind bracket.0 doc.0 three (one_end Ident (codes "doc") bracket.0 doc.0 doc.1) in
    doc_attr true text 6 stack ws ts hash.0 rest refl hash.1
    (one_count Punct (codes "!") 5 hash.0 bang.0 rest bang.1
    (one_count (Opener Bracket) (codes "[") 4 bang.0 bracket.0 rest bracket.1
    (one_count Ident (codes "doc") 3 bracket.0 doc.0 rest doc.1
    (op_count 61 2 doc.0 equals.0 rest (op_reads (codes "=") doc.0 four equals.1.0) equals.1.1
    (string_count text 1 equals.0 s.2.0 rest (subst (λ (x : List Token). IsString text x s.2.0) (sym equals.2) s.2.1)
    (one_count (Closer Bracket) (codes "]") 0 s.2.0 s.2.2.0 rest s.2.2.1 (no_count s.2.2.0 rest s.2.2.2)))))))

-- ---- pieces

op_taken : (op : List ℕ) (stack : List Bool) (ws : List Word) (ts : List Token) → Reads op ts
    → chosen 0 stack (map punct_word op ++ ws) ts
    ≡ op_units op ts ++ chosen 0 (behind_words (map punct_word op) stack) ws (drop (length op) ts)
op_taken [] stack ws ts r = refl
op_taken (c ∷ cs) stack ws [] r = absurd r
op_taken (c ∷ cs) stack ws (t ∷ ts) r =
    told_taken Punct (c ∷ []) stack (map punct_word cs ++ ws) t ts r.0 r.1 (λ o. absurd (cc o)) refl
    ∙ ap (λ (x : List Unit). kept t ∷ x) (op_taken cs stack ws ts r.2)

op_passed : (op : List ℕ) (stack : List Bool) (ws : List Word) (ts : List Token) → Reads op ts → passes_each ws op ≡ true
    → chosen 0 stack ws ts ≡ chosen 0 stack ws (drop (length op) ts)
op_passed [] stack ws ts r h = refl
op_passed (c ∷ cs) stack ws [] r h = absurd r
op_passed (c ∷ cs) stack ws (t ∷ ts) r h =
    let p = and_parts (passes ws Punct (c ∷ [])) (passes_each ws cs) h in
    plain_passed stack ws t ts (ap opens r.0) (ap closes r.0) (ap₂ (passes ws) r.0 r.1 ∙ p.0)
    ∙ op_passed cs stack ws ts r.2 p.1

semicolons_passed : (n : ℕ) (stack : List Bool) (ws : List Word) (ts rest : List Token) → AreSemicolons n ts rest
    → passes ws Punct (codes ";") ≡ true → chosen 0 stack ws ts ≡ chosen 0 stack ws rest
semicolons_passed zero stack ws ts rest s h = ap (chosen 0 stack ws) s
semicolons_passed (suc n) stack ws ts rest s h =
    one_passed Punct (codes ";") stack ws ts s.0 s.1 refl h ∙ semicolons_passed n stack ws s.0 rest s.2 h

settled : (o c : Bool) → (not o || c) ≡ true → o ≡ true → c ≡ true
settled true c h e = h
settled false c h e = absurd (cc e)

-- one part and then what follows
joined : (a b ws : List Word) (stack : List Bool) (ts mid rest : List Token) (us vs : List Unit)
    → chosen 0 stack (a ++ (b ++ ws)) ts ≡ us ++ chosen 0 (behind_words a stack) (b ++ ws) mid
    → chosen 0 (behind_words a stack) (b ++ ws) mid ≡ vs ++ chosen 0 (behind_words b (behind_words a stack)) ws rest
    → chosen 0 stack ((a ++ b) ++ ws) ts ≡ (us ++ vs) ++ chosen 0 (behind_words (a ++ b) stack) ws rest
joined a b ws stack ts mid rest us vs h k =
    ap (λ (x : List Word). chosen 0 stack x ts) (append_assoc a b ws) ∙ h ∙ ap (λ (x : List Unit). us ++ x) k
    ∙ sym (append_assoc us vs (chosen 0 (behind_words b (behind_words a stack)) ws rest))
    ∙ ap (λ (x : List Bool). (us ++ vs) ++ chosen 0 x ws rest) (sym (behind_two a b stack))

bits_taken : (bits : List Bit) (stack : List Bool) (ws : List Word) (b : Bool) (ts rest : List Token) → AreSingle ts
    → clear_bits bits ws b ≡ true → (b ≡ true → Runs ws rest) → shuts (bits_words bits) stack ≡ true → (s : AreBits bits ts rest)
    → chosen 0 stack (bits_words bits ++ ws) ts ≡ bits_units bits ts rest s ++ chosen 0 (behind_words (bits_words bits) stack) ws rest
bits_taken [] stack ws b ts rest single c h shut s = ap (chosen 0 stack ws) s
bits_taken (Blank ∷ bs) stack ws b ts rest single c h shut s =
    ap (chosen 0 stack (bits_words bs ++ ws)) s.1 ∙ bits_taken bs stack ws b s.0 rest (bit_behind Blank ts s.0 single s.1) c h shut s.2
bits_taken (Fixed kind text ∷ bs) stack ws b ts rest single c h shut s =
    let p = and_parts (is_settled kind (calm_bits bs b)) (clear_bits bs ws b) c in
    let q = and_parts (not (closes kind) || top stack) (shuts (bits_words bs) (behind_word (Told kind text) stack)) shut in
    let after = bit_behind (Fixed kind text) ts s.0 single s.1 in
    joined (Told kind text ∷ []) (bits_words bs) ws stack ts s.0 rest (first_unit ts) (bits_units bs s.0 rest s.2)
    (one_taken kind text stack (bits_words bs ++ ws) ts s.0 s.1
    (λ o. bits_row bs ws b s.0 rest after (settled (opens kind) (calm_bits bs b) p.0 o) h s.2) q.0)
    (bits_taken bs (behind_word (Told kind text) stack) ws b s.0 rest after p.1 h q.1 s.2)
bits_taken (Operator op ∷ bs) stack ws b ts rest single c h shut s =
    let q = shut_two (map punct_word op) (bits_words bs) stack shut in
    joined (map punct_word op) (bits_words bs) ws stack ts s.0 rest (op_units op ts) (bits_units bs s.0 rest s.2)
    (op_taken op stack (bits_words bs ++ ws) ts (op_reads op ts single s.1.0)
    ∙ ap (λ (x : List Token). op_units op ts ++ chosen 0 (behind_words (map punct_word op) stack) (bits_words bs ++ ws) x) s.1.1)
    (bits_taken bs (behind_words (map punct_word op) stack) ws b s.0 rest (bit_behind (Operator op) ts s.0 single s.1) c h q.1 s.2)
bits_taken (Semicolons ∷ bs) stack ws b ts rest single c h shut s =
    let p = and_parts (passes (bits_words bs ++ ws) Punct (codes ";")) (clear_bits bs ws b) c in
    semicolons_passed s.1.0 stack (bits_words bs ++ ws) ts s.0 s.1.1 p.0
    ∙ bits_taken bs stack ws b s.0 rest (bit_behind Semicolons ts s.0 single s.1) p.1 h shut s.2

bits_passed : (bits : List Bit) (stack : List Bool) (ws : List Word) (ts rest : List Token) → AreSingle ts → skips bits ws ≡ true
    → AreBits bits ts rest → chosen 0 stack ws ts ≡ chosen 0 stack ws rest
bits_passed [] stack ws ts rest single h s = ap (chosen 0 stack ws) s
bits_passed (Blank ∷ bs) stack ws ts rest single h s =
    ap (chosen 0 stack ws) s.1 ∙ bits_passed bs stack ws s.0 rest (bit_behind Blank ts s.0 single s.1) h s.2
bits_passed (Fixed kind text ∷ bs) stack ws ts rest single h s =
    let p = and_parts (not (opens kind || closes kind) && passes ws kind text) (skips bs ws) h in
    let q = and_parts (not (opens kind || closes kind)) (passes ws kind text) p.0 in
    one_passed kind text stack ws ts s.0 s.1 q.0 q.1
    ∙ bits_passed bs stack ws s.0 rest (bit_behind (Fixed kind text) ts s.0 single s.1) p.1 s.2
bits_passed (Operator op ∷ bs) stack ws ts rest single h s =
    let p = and_parts (passes_each ws op) (skips bs ws) h in
    op_passed op stack ws ts (op_reads op ts single s.1.0) p.0 ∙ ap (chosen 0 stack ws) s.1.1
    ∙ bits_passed bs stack ws s.0 rest (bit_behind (Operator op) ts s.0 single s.1) p.1 s.2
bits_passed (Semicolons ∷ bs) stack ws ts rest single h s =
    let p = and_parts (passes ws Punct (codes ";")) (skips bs ws) h in
    semicolons_passed s.1.0 stack ws ts s.0 s.1.1 p.0
    ∙ bits_passed bs stack ws s.0 rest (bit_behind Semicolons ts s.0 single s.1) p.1 s.2

may_be_passed : (bits : List Bit) (stack : List Bool) (ws : List Word) (ts rest : List Token) → AreSingle ts → skips bits ws ≡ true
    → MayBe bits ts rest → chosen 0 stack ws ts ≡ chosen 0 stack ws rest
may_be_passed bits stack ws ts rest single h (inl e) = ap (chosen 0 stack ws) e
may_be_passed bits stack ws ts rest single h (inr s) = bits_passed bits stack ws ts rest single h s

comma_passed : (stack : List Bool) (ws : List Word) (ts rest : List Token) → AreSingle ts → passes ws Punct (codes ",") ≡ true
    → MayBe comma ts rest → chosen 0 stack ws ts ≡ chosen 0 stack ws rest
comma_passed stack ws ts rest single h s = may_be_passed comma stack ws ts rest single (and_from (passes ws Punct (codes ",")) true h refl) s

-- ---- bodies

-- More opening braces stand there than words say, so the first one is in no unit.
one_too_many : (ws : List Word) (t : Token) (ts : List Token) → opens t.kind ≡ true → leading ws ≤ openers true ts → is_loose ws ≡ true
    → fits ws (t ∷ ts) ≡ false
one_too_many ws t ts o h l =
    let e = ap (λ (b : Bool). openers b (t ∷ ts)) l ∙ opened_row true t ts o in
    lt-leb (openers (is_loose ws) (t ∷ ts)) (leading ws) (omega (arith, e, h))

brace_passed : (stack : List Bool) (ws : List Word) (ts rest : List Token) → IsOne (Opener Brace) (codes "{") ts rest → Firm ws rest
    → chosen 0 stack ws ts ≡ chosen 0 (false ∷ stack) ws rest
brace_passed stack ws [] rest s h = absurd s
brace_passed stack [] (t ∷ ts) rest s h = sym (nothing 0 (false ∷ stack) rest)
brace_passed stack (w ∷ ws) (t ∷ ts) rest s h =
    let g = subst (Firm (w ∷ ws)) (sym s.2) h in
    left stack w ws t ts
    (ap (λ (x : Kind). cond (opens x) (word_opens w && fits (w ∷ ws) (t ∷ ts)) (cond (closes x) (word_closes w && top stack) (says w x t.text))) s.0
    ∙ and_right (word_opens w) (fits (w ∷ ws) (t ∷ ts)) (one_too_many (w ∷ ws) t ts (ap opens s.0) g.0 g.1))
    ∙ ap₂ (λ (x : Kind) (y : List Token). chosen 0 (behind_token false x stack) (w ∷ ws) y) s.0 s.2

-- At least as many stand before the braces as after them.
opens_more : (n : ℕ) (ts rest : List Token) → Opens n ts rest → openers true rest ≤ openers true ts
opens_more zero ts rest s = let e = ap (openers true) s in omega (arith, e)
opens_more (suc n) [] rest s = absurd s.1.1
opens_more (suc n) (t ∷ ts) rest s =
    let a = opens_more n s.0 rest s.2 in
    let b = semicolons_open s.1.2.1.0 s.1.0 s.1.2.0 s.1.2.1.1 in
    let c = ap (openers true) s.1.2.2 in
    let d = ap (openers true) s.1.1.2 in
    let e = opened_row true t ts (ap opens s.1.1.0) in
    omega (arith, a, b, c, d, e)

opens_passed : (n : ℕ) (stack : List Bool) (ws : List Word) (ts rest : List Token) → Opens n ts rest → Firm ws rest
    → chosen 0 stack ws ts ≡ chosen 0 (opened n stack) ws rest
opens_passed zero stack ws ts rest s h = ap (chosen 0 stack ws) s
opens_passed (suc n) stack ws ts rest s h =
    let brace = s.1 in
    let marks = brace.2 in
    let a = opens_more n s.0 rest s.2 in
    let b = ap (openers true) marks.2 in
    let c = semicolons_open marks.1.0 brace.0 marks.0 marks.1.1 in
    let less = h.0 in
    brace_passed stack ws ts brace.0 brace.1 (omega (arith, a, b, c, less), h.1, h.2)
    ∙ semicolons_passed marks.1.0 (false ∷ stack) ws brace.0 marks.0 marks.1.1 h.2
    ∙ ap (chosen 0 (false ∷ stack) ws) marks.2
    ∙ opens_passed n (false ∷ stack) ws s.0 rest s.2 h
    ∙ ap (λ (x : List Bool). chosen 0 x ws rest) (opened_before n stack)

closer_passed : (stack : List Bool) (ws : List Word) (ts rest : List Token) → IsOne (Closer Brace) (codes "}") ts rest
    → chosen 0 (false ∷ stack) ws ts ≡ chosen 0 stack ws rest
closer_passed stack ws [] rest s = absurd s
closer_passed stack [] (t ∷ ts) rest s = sym (nothing 0 stack rest)
closer_passed stack (w ∷ ws) (t ∷ ts) rest s =
    left (false ∷ stack) w ws t ts
    (ap (λ (x : Kind). cond (opens x) (word_opens w && fits (w ∷ ws) (t ∷ ts)) (cond (closes x) (word_closes w && false) (says w x t.text))) s.0
    ∙ and_right (word_closes w) false refl)
    ∙ ap₂ (λ (x : Kind) (y : List Token). chosen 0 (behind_token false x (false ∷ stack)) (w ∷ ws) y) s.0 s.2

closes_passed : (n : ℕ) (stack : List Bool) (ws : List Word) (ts rest : List Token) → Closes n ts rest
    → chosen 0 (opened n stack) ws ts ≡ chosen 0 stack ws rest
closes_passed zero stack ws ts rest s = ap (chosen 0 stack ws) s
closes_passed (suc n) stack ws ts rest s =
    closer_passed (opened n stack) ws ts s.1.0 s.1.1 ∙ ap (chosen 0 (opened n stack) ws) s.1.2 ∙ closes_passed n stack ws s.0 rest s.2

behind_passed : (back : Behind) (n : ℕ) (stack : List Bool) (ws : List Word) (ts rest : List Token) → AreSingle ts
    → passes_behind back ws ≡ true → IsBehind back n ts rest → chosen 0 stack ws ts ≡ chosen 0 stack ws rest
behind_passed Nothing n stack ws ts rest single h s = ap (chosen 0 stack ws) s
behind_passed (ArmComma last block_like) n stack ws ts rest single h (inl s) = ap (chosen 0 stack ws) s.1
behind_passed (ArmComma last block_like) n stack ws ts rest single h (inr s) = comma_passed stack ws ts rest single h (inr s)

-- ---- forms

pub chosen_units : (f : Form) (depth : ℕ) (stack : List Bool) (ws : List Word) (b : Bool) (ts rest : List Token) → AreSingle ts
    → clear f ws b ≡ true → (b ≡ true → Runs ws rest) → shuts (words f) stack ≡ true → (s : Spells f depth ts rest)
    → chosen 0 stack (words f ++ ws) ts ≡ units f depth ts rest s ++ chosen 0 (behind_words (words f) stack) ws rest
chosen_units Done depth stack ws b ts rest single c h shut s = ap (chosen 0 stack ws) s
chosen_units (Piece bits f) depth stack ws b ts rest single c h shut s =
    let p = and_parts (clear_bits bits (words f ++ ws) (calm f b)) (clear f ws b) c in
    let q = shut_two (bits_words bits) (words f) stack shut in
    let after = behind ts s.0 single (bits_end bits ts s.0 s.1) in
    joined (bits_words bits) (words f) ws stack ts s.0 rest (bits_units bits ts s.0 s.1) (units f depth s.0 rest s.2)
    (bits_taken bits stack (words f ++ ws) (calm f b) ts s.0 single p.0 (λ g. form_row f depth ws b s.0 rest after g h s.2) q.0 s.1)
    (chosen_units f depth (behind_words (bits_words bits) stack) ws b s.0 rest after p.1 h q.1 s.2)
chosen_units (Leaf kind text f) depth stack ws b ts rest single c h shut s =
    let p = and_parts (is_settled kind (calm f b)) (clear f ws b) c in
    let q = and_parts (not (closes kind) || top stack) (shuts (words f) (behind_word (Told kind text) stack)) shut in
    let after = behind ts s.0 single (one_end kind text ts s.0 s.1) in
    joined (Told kind text ∷ []) (words f) ws stack ts s.0 rest (first_unit ts) (units f depth s.0 rest s.2)
    (one_taken kind text stack (words f ++ ws) ts s.0 s.1
    (λ o. form_row f depth ws b s.0 rest after (settled (opens kind) (calm f b) p.0 o) h s.2) q.0)
    (chosen_units f depth (behind_word (Told kind text) stack) ws b s.0 rest after p.1 h q.1 s.2)
chosen_units (Listed kind text joint f) depth stack ws b ts rest single c h shut s =
    let p = and_parts (is_settled kind (calm f b)) (clear f ws b) c in
    let q = and_parts (not (closes kind) || top stack) (shuts (words f) (behind_word (Told kind text) stack)) shut in
    let after = behind ts s.0 single (listed_end kind text joint ts s.0 s.1) in
    joined (Told kind text ∷ []) (words f) ws stack ts s.0 rest (first_unit ts) (units f depth s.0 rest s.2)
    (listed_taken kind text joint stack (words f ++ ws) ts s.0 s.1
    (λ o. form_row f depth ws b s.0 rest after (settled (opens kind) (calm f b) p.0 o) h s.2) q.0)
    (chosen_units f depth (behind_word (Told kind text) stack) ws b s.0 rest after p.1 h q.1 s.2)
chosen_units (ListedDoc inner text f) depth stack ws b ts rest single c h shut s =
    comment_taken inner text stack (words f ++ ws) ts s.0 s.1
    ∙ ap (λ (x : List Unit). record { word = Comment inner text; tokens = take_one ts } ∷ x)
    (chosen_units f depth stack ws b s.0 rest (behind ts s.0 single (comment_end inner text ts s.0 s.1)) c h shut s.2)
chosen_units (Brk space f) depth stack ws b ts rest single c h shut s = chosen_units f depth stack ws b ts rest single c h shut s
chosen_units (LastComma blanks f) depth stack ws b ts rest single c h shut s =
    let p = and_parts (passes (words f ++ ws) Punct (codes ",")) (clear f ws b) c in
    comma_passed stack (words f ++ ws) ts s.0 single p.0 s.1
    ∙ chosen_units f depth stack ws b s.0 rest (behind ts s.0 single (may_be_end comma ts s.0 s.1)) p.1 h shut s.2
chosen_units (Group consistent offset i f) depth stack ws b ts rest single c h shut s =
    let p = and_parts (clear i (words f ++ ws) (calm f b)) (clear f ws b) c in
    let q = shut_two (words i) (words f) stack shut in
    let after = behind ts s.0 single (is_end i depth ts s.0 s.1) in
    joined (words i) (words f) ws stack ts s.0 rest (units i depth ts s.0 s.1) (units f depth s.0 rest s.2)
    (chosen_units i depth stack (words f ++ ws) (calm f b) ts s.0 single p.0 (λ g. form_row f depth ws b s.0 rest after g h s.2) q.0 s.1)
    (chosen_units f depth (behind_words (words i) stack) ws b s.0 rest after p.1 h q.1 s.2)
chosen_units (Part i f) depth stack ws b ts rest single c h shut s =
    let p = and_parts (clear i (words f ++ ws) (calm f b)) (clear f ws b) c in
    let q = shut_two (words i) (words f) stack shut in
    let after = behind ts s.0 single (is_end i depth ts s.0 s.1) in
    joined (words i) (words f) ws stack ts s.0 rest (units i depth ts s.0 s.1) (units f depth s.0 rest s.2)
    (chosen_units i depth stack (words f ++ ws) (calm f b) ts s.0 single p.0 (λ g. form_row f depth ws b s.0 rest after g h s.2) q.0 s.1)
    (chosen_units f depth (behind_words (words i) stack) ws b s.0 rest after p.1 h q.1 s.2)
chosen_units (Deeper i f) zero stack ws b ts rest single c h shut s = absurd s
chosen_units (Deeper i f) (suc depth) stack ws b ts rest single c h shut s =
    let p = and_parts (clear i (words f ++ ws) (calm f b)) (clear f ws b) c in
    let q = shut_two (words i) (words f) stack shut in
    let after = behind ts s.0 single (is_end i depth ts s.0 s.1) in
    joined (words i) (words f) ws stack ts s.0 rest (units i depth ts s.0 s.1) (units f (suc depth) s.0 rest s.2)
    (chosen_units i depth stack (words f ++ ws) (calm f b) ts s.0 single p.0 (λ g. form_row f (suc depth) ws b s.0 rest after g h s.2) q.0 s.1)
    (chosen_units f (suc depth) (behind_words (words i) stack) ws b s.0 rest after p.1 h q.1 s.2)
chosen_units (Optional laid bits f) depth stack ws b ts rest single c h shut s =
    let p = and_parts (skips bits (words f ++ ws)) (clear f ws b) c in
    may_be_passed bits stack (words f ++ ws) ts s.0 single p.0 s.1
    ∙ chosen_units f depth stack ws b s.0 rest (behind ts s.0 single (may_be_end bits ts s.0 s.1)) p.1 h shut s.2
chosen_units (Docs inner text f) depth stack ws b ts rest single c h shut s =
    doc_taken inner text stack (words f ++ ws) ts s.0 single s.1
    ∙ ap (λ (x : List Unit). record { word = Documented inner text; tokens = spent ts s.0 } ∷ x)
    (chosen_units f depth stack ws b s.0 rest (behind ts s.0 single (doc_end inner text ts s.0 s.1)) c h shut s.2)
chosen_units (Body braces back i f) depth stack ws b ts rest single c h shut s =
    let p = and_parts (firm i false) (is_level (words i) && (passes_behind back (words f ++ ws) && (clear i (words f ++ ws) false && clear f ws b))) c in
    let q = and_parts (is_level (words i)) (passes_behind back (words f ++ ws) && (clear i (words f ++ ws) false && clear f ws b)) p.1 in
    let r = and_parts (passes_behind back (words f ++ ws)) (clear i (words f ++ ws) false && clear f ws b) q.1 in
    let u = and_parts (clear i (words f ++ ws) false) (clear f ws b) r.1 in
    let braced = s.3.1 in
    let within = braced.2 in
    let stands = s.3.2 in
    let one = behind ts braced.0 single (opens_end s.0 ts braced.0 braced.1) in
    let two = behind braced.0 within.0 one (is_end i (depth - cost s.0) braced.0 within.0 within.1) in
    let three = behind within.0 s.3.0 two (closes_end s.0 within.0 s.3.0 within.2) in
    let four = behind s.3.0 stands.0 three (behind_end back s.0 s.3.0 stands.0 stands.1) in
    let inner = units i (depth - cost s.0) braced.0 within.0 within.1 in
    let row = form_firm i (depth - cost s.0) (words f ++ ws) false braced.0 within.0 one p.0 (λ g. absurd (cc g)) within.1 in
    let level : behind_words (words i) stack ≡ stack = level_leaves (words i) stack q.0 in
    joined (words i) (words f) ws stack ts stands.0 rest inner (units f depth stands.0 rest stands.2)
    (opens_passed s.0 stack (words i ++ (words f ++ ws)) ts braced.0 braced.1 row
    ∙ chosen_units i (depth - cost s.0) (opened s.0 stack) (words f ++ ws) false braced.0 within.0 one u.0 (λ g. absurd (cc g))
    (level_shuts (words i) (opened s.0 stack) q.0) within.1
    ∙ ap (λ (x : List Unit). inner ++ x)
    (ap (λ (x : List Bool). chosen 0 x (words f ++ ws) within.0) (level_leaves (words i) (opened s.0 stack) q.0)
    ∙ closes_passed s.0 stack (words f ++ ws) within.0 s.3.0 within.2
    ∙ behind_passed back s.0 stack (words f ++ ws) s.3.0 stands.0 three r.0 stands.1
    ∙ ap (λ (x : List Bool). chosen 0 x (words f ++ ws) stands.0) (sym level)))
    (chosen_units f depth (behind_words (words i) stack) ws b stands.0 rest four u.1 h (shut_two (words i) (words f) stack shut).1 stands.2)

-- The units of all the tokens.
pub all_units : (f : Form) (depth : ℕ) (ts : List Token) → AreSingle ts → clear f [] true ≡ true → is_level (words f) ≡ true
    → (s : Spells f depth ts []) → chosen 0 [] (words f) ts ≡ units f depth ts [] s
all_units f depth ts single c level s =
    ap (λ (x : List Word). chosen 0 [] x ts) (sym (append-nil (words f)))
    ∙ chosen_units f depth [] [] true ts [] single c (λ g. omega arith) (level_shuts (words f) [] level) s
    ∙ append-nil (units f depth ts [] s)
