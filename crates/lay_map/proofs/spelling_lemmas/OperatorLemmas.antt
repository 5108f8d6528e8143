-- An operator is spelled by its characters, one a token.
use Rattle.std.proofs.Common.{◌≡◌, ℕ, Bool, true, false, cond, ◌&&◌, ◌||◌, List, [], ◌∷◌, Option, Some, None, refl, sym, subst, ◌∙◌}
use Rattle.std.specs.Prelude.{⊤}
use Rattle.std.specs.Str.{bytes_eq}
use Rattle.std.proofs.lemmas.Bool.{and_parts}
use Rattle.lay_piece.specs.Chars.{is_nil}
use Rattle.lay_piece.specs.declared.kind.Kind.TheVariants.{Punct}
use Rattle.lay_token.specs.Lexes.{is_punct}
use Rattle.lay_token.specs.Operators.{operators, begins_op, first_op, lone_op, or_lone, op_at, is_op_of, is_op}
use Rattle.lay_token.specs.declared.token.Token.{Token}
use Rattle.lay_token.proofs.Deciding.{punct_is, bytes_same}
use Rattle.lay_map.specs.spelling.Units.{AreSingle}

-- these characters, one a token of punctuation
abbrev pub Reads : List ℕ → List Token → Type 0
Reads [] ts = ⊤
Reads (c ∷ cs) [] = ⊥
Reads (c ∷ cs) (t ∷ ts) = (t.kind ≡ Punct) × (t.text ≡ c ∷ []) × Reads cs ts

first_there : (ops : List (List ℕ)) (ts : List Token) (op : List ℕ) → first_op ops ts ≡ Some op → begins_op op ts ≡ true
first_there [] ts op h = absurd (cc)
first_there (o ∷ ops) ts op h = by (begins_op o ts) refl h (λ g. first_there ops ts op g)
  where
    by : (b : Bool) → begins_op o ts ≡ b → cond b (Some o) (first_op ops ts) ≡ Some op
        → (first_op ops ts ≡ Some op → begins_op op ts ≡ true) → begins_op op ts ≡ true
    by true e g more = let q : o ≡ op = cc g in subst (λ (x : List ℕ). begins_op x ts ≡ true) q e
    by false e g more = more g

more_reads : (joint : Bool) (cs : List ℕ) (ts : List Token) → (is_nil cs || joint && begins_op cs ts) ≡ true → Reads cs ts
more_reads joint [] ts h = tt
more_reads joint (c ∷ cs) [] h = let p = and_parts joint false h in absurd (cc)
more_reads joint (c ∷ cs) (t ∷ ts) h =
    let g = (and_parts joint (begins_op (c ∷ cs) (t ∷ ts)) h).1 in
    let q = and_parts (is_punct t.kind && bytes_eq t.text (c ∷ [])) (is_nil cs || t.joint && begins_op cs ts) g in
    let p = and_parts (is_punct t.kind) (bytes_eq t.text (c ∷ [])) q.0 in
    (punct_is t.kind p.0, bytes_same t.text (c ∷ []) p.1, more_reads t.joint cs ts q.1)

begun_reads : (op : List ℕ) (ts : List Token) → begins_op op ts ≡ true → Reads op ts
begun_reads [] ts h = tt
begun_reads (c ∷ cs) ts h = more_reads true (c ∷ cs) ts h

lone_reads : (op : List ℕ) (ts : List Token) → AreSingle ts → is_op_of op (lone_op ts) ≡ true → Reads op ts
lone_reads op [] single h = absurd (cc)
lone_reads op (t ∷ ts) single h = by (is_punct t.kind) refl h
  where
    at : (c : ℕ) → t.kind ≡ Punct → t.text ≡ c ∷ [] → op ≡ c ∷ [] → Reads op (t ∷ ts)
    at c k e q = subst (λ (x : List ℕ). Reads x (t ∷ ts)) (sym q) (k, e, tt)

    by : (b : Bool) → is_punct t.kind ≡ b → is_op_of op (cond b (Some t.text) None) ≡ true → Reads op (t ∷ ts)
    by true p g =
        let k = punct_is t.kind p in
        let e = single [] ts t refl k in
        at e.0 k e.1 (bytes_same op t.text g ∙ e.1)
    by false p g = absurd (cc)

pub op_reads : (op : List ℕ) (ts : List Token) → AreSingle ts → is_op op ts ≡ true → Reads op ts
unfolding op_at
op_reads op ts single h = by (first_op operators ts) refl h
  where
    by : (o : Option (List ℕ)) → first_op operators ts ≡ o → is_op_of op (or_lone o ts) ≡ true → Reads op ts
    by None e g = lone_reads op ts single g
    by (Some x) e g =
        let q : op ≡ x = bytes_same op x g in
        begun_reads op ts (subst (λ (y : List ℕ). begins_op y ts ≡ true) (sym q) (first_there operators ts x e))
