-- A list of tokens in which each group is closed is the flattening of exactly one document.
use Rattle.std.proofs.Common.{◌≡◌, ℕ, zero, suc, List, [], ◌∷◌, ◌++◌, refl, sym, ap, ap₂, ◌∙◌, subst, append_assoc, append-nil, arith}
use Rattle.lay_layout.specs.declared.layout.Break.{Break}
use Rattle.lay_layout.specs.declared.layout.Tok.{Tok}
use Rattle.lay_layout.specs.declared.layout.Tok.TheVariants as tok
use Rattle.lay_layout.specs.Document.{Document, Empty, AddText, AddBreak, AddGroup, stream, IsWhole}
use Rattle.lay_layout.specs.Machine.{opened, IsNested, IsClosed}

-- the documents of what is open, one after another
abbrev Parts : ℕ → List Tok → Type 0
Parts zero s = (d : Document) × (stream d ≡ s)
Parts (suc n) s = (d : Document) × (s' : List Tok) × (stream d ++ tok.End ∷ s' ≡ s) × Parts n s'

add_text : (n : ℕ) (t : List ℕ) (s : List Tok) → Parts n s → Parts n (tok.Text t ∷ s)
add_text zero t s (d, e) = (AddText t d, ap (λ (x : List Tok). tok.Text t ∷ x) e)
add_text (suc n) t s p = (AddText t p.0, p.1, ap (λ (x : List Tok). tok.Text t ∷ x) p.2, p.3)

add_break : (n : ℕ) (b : _) (s : List Tok) → Parts n s → Parts n (tok.Break b ∷ s)
add_break zero b s p = (AddBreak b p.0, ap (λ (x : List Tok). tok.Break b ∷ x) p.1)
add_break (suc n) b s p = (AddBreak b p.0, p.1, ap (λ (x : List Tok). tok.Break b ∷ x) p.2, p.3)

add_group : (n : ℕ) (c : _) (o : _) (s : List Tok) → Parts (suc n) s → Parts n (tok.Begin c o ∷ s)
add_group zero c o s p =
    (AddGroup c o p.0 p.3.0, ap (λ (x : List Tok). tok.Begin c o ∷ x) (ap (λ (y : List Tok). stream p.0 ++ tok.End ∷ y) p.3.1 ∙ p.2))
add_group (suc n) c o s p =
    (AddGroup c o p.0 p.3.0, p.3.1, ap (λ (x : List Tok). tok.Begin c o ∷ x) (append_assoc (stream p.0) (tok.End ∷ stream p.3.0) (tok.End ∷ p.3.1) ∙ ap (λ (y : List Tok). stream p.0 ++ tok.End ∷ y) p.3.2 ∙ p.2), p.3.3)

parts : (s : List Tok) (n : ℕ) → IsNested n s → opened s n ≡ 0 → Parts n s
parts [] zero h k = (Empty, refl)
parts [] (suc n) h k = absurd (omega arith)
parts (tok.Text t ∷ s) n h k = add_text n t s (parts s n h k)
parts (tok.Break b ∷ s) n h k = add_break n b s (parts s n h k)
parts (tok.Begin c o ∷ s) n h k = add_group n c o s (parts s (suc n) h k)
parts (tok.End ∷ s) zero h k = absurd (omega (arith, h.0))
parts (tok.End ∷ s) (suc n) h k = (Empty, s, refl, parts s n h.1 k)

pub whole_of : (s : List Tok) → IsClosed 0 s → IsWhole s
whole_of s h = parts s 0 h.0 h.1

-- what follows a document's tokens is nested, and leaves open, as if they weren't there
nested_stream : (d : Document) (n : ℕ) (s : List Tok) → IsNested n s → IsNested n (stream d ++ s)
nested_stream Empty n s h = h
nested_stream (AddText t rest) n s h = nested_stream rest n s h
nested_stream (AddBreak b rest) n s h = nested_stream rest n s h
nested_stream (AddGroup c o inner rest) n s h =
    rw append_assoc (nested_stream inner (suc n) (tok.End ∷ (stream rest ++ s)) (omega arith, nested_stream rest n s h))

opened_stream : (d : Document) (n : ℕ) (s : List Tok) → opened (stream d ++ s) n ≡ opened s n
opened_stream Empty n s = refl
opened_stream (AddText t rest) n s = opened_stream rest n s
opened_stream (AddBreak b rest) n s = opened_stream rest n s
opened_stream (AddGroup c o inner rest) n s =
    rw append_assoc (opened_stream inner (suc n) (tok.End ∷ (stream rest ++ s)) ∙ opened_stream rest n s)

-- A document leaves as many groups open as were open before.
pub opened_document : (d : Document) (n : ℕ) → opened (stream d) n ≡ n
opened_document d n = rw append-nil at (opened_stream d n [])

pub closed_stream : (d : Document) → IsClosed 0 (stream d)
closed_stream d =
    let nested : IsNested 0 (stream d ++ []) = nested_stream d 0 [] tt in
    (rw append-nil at nested, rw append-nil at (opened_stream d 0 []))

-- the rest of a level begins with End, or is empty
abbrev Ended : List Tok → Type 0
Ended [] = Unit {0}
Ended (tok.Text t ∷ s) = ⊥
Ended (tok.Break b ∷ s) = ⊥
Ended (tok.Begin c o ∷ s) = ⊥
Ended (tok.End ∷ s) = Unit {0}

not_ended : {P : Type 0} (x : Tok) (s m : List Tok) → Ended m → (Ended (x ∷ s) → ⊥) → m ≡ x ∷ s → P
not_ended x s m h k e = absurd (k (subst Ended e h))

unique_before : (d e : Document) (m n : List Tok) → Ended m → Ended n → stream d ++ m ≡ stream e ++ n → (d ≡ e) × (m ≡ n)
unique_before Empty Empty m n h k q = (refl, q)
unique_before Empty (AddText t e) m n h k q = not_ended (tok.Text t) (stream e ++ n) m h (λ z. z) q
unique_before Empty (AddBreak b e) m n h k q = not_ended (tok.Break b) (stream e ++ n) m h (λ z. z) q
unique_before Empty (AddGroup c o i e) m n h k q = not_ended (tok.Begin c o) ((stream i ++ tok.End ∷ stream e) ++ n) m h (λ z. z) q
unique_before (AddText t d) Empty m n h k q = not_ended (tok.Text t) (stream d ++ m) n k (λ z. z) (sym q)
unique_before (AddText t d) (AddText u e) m n h k q =
    let a : t ≡ u = cc in
    let b : stream d ++ m ≡ stream e ++ n = cc in
    let r = unique_before d e m n h k b in
    (ap₂ (λ (x : List ℕ) (y : Document). AddText x y) a r.0, r.1)
unique_before (AddText t d) (AddBreak b e) m n h k q = cc
unique_before (AddText t d) (AddGroup c o i e) m n h k q = cc
unique_before (AddBreak b d) Empty m n h k q = not_ended (tok.Break b) (stream d ++ m) n k (λ z. z) (sym q)
unique_before (AddBreak b d) (AddText u e) m n h k q = cc
unique_before (AddBreak b d) (AddBreak a e) m n h k q =
    let f : b ≡ a = cc in
    let g : stream d ++ m ≡ stream e ++ n = cc in
    let r = unique_before d e m n h k g in
    (ap₂ (λ (x : Break) (y : Document). AddBreak x y) f r.0, r.1)
unique_before (AddBreak b d) (AddGroup c o i e) m n h k q = cc
unique_before (AddGroup c o i d) Empty m n h k q = not_ended (tok.Begin c o) ((stream i ++ tok.End ∷ stream d) ++ m) n k (λ z. z) (sym q)
unique_before (AddGroup c o i d) (AddText u e) m n h k q = cc
unique_before (AddGroup c o i d) (AddBreak a e) m n h k q = cc
unique_before (AddGroup c o i d) (AddGroup c' o' i' e) m n h k q =
    let f : c ≡ c' = cc in
    let g : o ≡ o' = cc in
    let l : (stream i ++ tok.End ∷ stream d) ++ m ≡ (stream i' ++ tok.End ∷ stream e) ++ n = cc in
    let r = unique_before i i' (tok.End ∷ (stream d ++ m)) (tok.End ∷ (stream e ++ n)) tt tt (sym (append_assoc (stream i) (tok.End ∷ stream d) m) ∙ l ∙ append_assoc (stream i') (tok.End ∷ stream e) n) in
    let w : tok.End ∷ (stream d ++ m) ≡ tok.End ∷ (stream e ++ n) = r.1 in
    let v : stream d ++ m ≡ stream e ++ n = cc in
    let z = unique_before d e m n h k v in
    let x : i ≡ i' = r.0 in
    let y : d ≡ e = z.0 in
    (cc, z.1)

-- no two documents have one stream
pub unique : (d e : Document) → stream d ≡ stream e → d ≡ e
unique d e h = (unique_before d e [] [] tt tt (append-nil (stream d) ∙ h ∙ sym (append-nil (stream e)))).0
