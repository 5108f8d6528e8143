-- Runs of tokens pass over balanced ones: where they go on to a comma, over ones with no comma outside their groups.
use Rattle.std.proofs.Common.{◌≡◌, List, [], ◌∷◌, ◌++◌, Bool, true, false, Some, None, length, map, refl, sym, ap, subst, ◌∙◌, append_assoc}
use Rattle.lay_token.specs.Delimiters.{is_closer}
use Rattle.lay_piece.specs.declared.kind.Delim.{Delim}
use Rattle.lay_piece.specs.declared.kind.Kind.{Kind}
use Rattle.lay_piece.specs.declared.kind.Kind.TheVariants.{Closer}
use Rattle.lay_token.specs.declared.token.Token.{Token}
use Rattle.lay_node.specs.Ahead.{Tokens}
use Rattle.lay_node.specs.reader.Loops.{Got, ◌>>=◌}
use Rattle.lay_node.specs.reader.Tokens.{ends_run, run}
use Rattle.lay_node.specs.tokens.Listing.{as_listed, turned, balances, is_balanced}
use Rattle.lay_node.proofs.token_lists.Balance.{turned_listed, turned_within, turns}
use Rattle.lay_node.proofs.token_lists.Commas.{Commaless, CommaApart, commaless_joined, commaless_none, commaless_parts, level_turned}

-- what a run gives after these tokens
abbrev pub onto : List Token → Got (List Token) → Got (List Token)
onto xs None = None
onto xs (Some r) = Some (xs ++ r.0, r.1)

goes_on : (to_comma : Bool) (inner left more : List Delim) (t : Token) → turned t.kind inner ≡ Some more
    → CommaApart to_comma (length (inner ++ left)) t → ends_run to_comma (inner ++ left) t ≡ false
goes_on to_comma (e ∷ inner) left more t h c = refl
goes_on to_comma [] (e ∷ left) more t h c = refl
goes_on to_comma [] [] more t h c = at to_comma c (by t.kind h)
  where
    by : (k : Kind) → turned k [] ≡ Some more → is_closer k ≡ false
    by (Closer d) g = cc
    by _ g = refl

    at : (to_comma : Bool) → CommaApart to_comma 0 t → is_closer t.kind ≡ false → ends_run to_comma [] t ≡ false
    at false c e = e
    at true c e = rw (e, c) refl

-- A token that the run doesn't end at turns the delimiters that are open.
pub run_turned : (to_comma : Bool) (within more : List Delim) (t : Token) (ts : Tokens) → ends_run to_comma within t ≡ false
    → turned t.kind within ≡ Some more → run to_comma within (t ∷ ts) ≡ onto (t ∷ []) (run to_comma more ts)
unfolding run
run_turned to_comma [] more t ts e h = rw (e, h) (by (run to_comma more ts))
  where
    by : (g : Got (List Token)) → (do r ← g; Some (t ∷ r.0, r.1)) ≡ onto (t ∷ []) g
    by None = refl
    by (Some r) = refl
run_turned to_comma (d ∷ within) more t ts e h = rw h (by (run to_comma more ts))
  where
    by : (g : Got (List Token)) → (do r ← g; Some (t ∷ r.0, r.1)) ≡ onto (t ∷ []) g
    by None = refl
    by (Some r) = refl

pub onto_none : (g : Got (List Token)) → onto [] g ≡ g
onto_none None = refl
onto_none (Some r) = refl

pub onto_both : (xs ys : List Token) (g : Got (List Token)) → onto xs (onto ys g) ≡ onto (xs ++ ys) g
onto_both xs ys None = refl
onto_both xs ys (Some r) =
    ap (λ (all : List Token). let got : Got (List Token) = Some (all, r.1) in got) (sym (append_assoc xs ys r.0))

run_behind : (to_comma : Bool) (inner left : List Delim) (xs rest : List Token) → balances inner (map as_listed xs) ≡ true
    → Commaless to_comma (length (inner ++ left)) (map as_listed xs)
    → run to_comma (inner ++ left) (xs ++ rest) ≡ onto xs (run to_comma left rest)
run_behind to_comma [] left [] rest h c = sym (onto_none (run to_comma left rest))
run_behind to_comma (d ∷ inner) left [] rest h c = cc
run_behind to_comma inner left (t ∷ xs) rest h c =
    let s = turns inner (as_listed t) (map as_listed xs) h in
    let e : turned t.kind inner ≡ Some s.more = sym (turned_listed t.kind t.text t.joint inner) ∙ s.turn in
    let p = commaless_parts to_comma (length (inner ++ left)) t (map as_listed xs) c in
    let wide = turned_within t.kind inner s.more left e in
    let more = subst (λ n. Commaless to_comma n (map as_listed xs)) (level_turned t.kind (inner ++ left) (s.more ++ left) wide) p.1 in
    run_turned to_comma (inner ++ left) (s.more ++ left) t (xs ++ rest) (goes_on to_comma inner left s.more t e p.0) wide
    ∙ ap (onto (t ∷ [])) (run_behind to_comma s.more left xs rest s.rest more) ∙ onto_both (t ∷ []) xs (run to_comma left rest)

-- A run passes over what is balanced.
pub run_over : (to_comma : Bool) (left : List Delim) (xs rest : List Token) → is_balanced (map as_listed xs) ≡ true
    → Commaless to_comma (length left) (map as_listed xs) → run to_comma left (xs ++ rest) ≡ onto xs (run to_comma left rest)
run_over to_comma left xs rest h c = run_behind to_comma [] left xs rest h c

-- In a group all commas are.
commaless_inside : (to_comma : Bool) (d : Delim) (inner left : List Delim) (xs : List Token)
    → balances inner (map as_listed xs) ≡ true → Commaless to_comma (length (inner ++ d ∷ left)) (map as_listed xs)
commaless_inside to_comma d [] left [] h = commaless_none to_comma (length (d ∷ left))
commaless_inside to_comma d (e ∷ inner) left [] h = cc
commaless_inside to_comma d inner left (t ∷ xs) h =
    let s = turns inner (as_listed t) (map as_listed xs) h in
    let e : turned t.kind inner ≡ Some s.more = sym (turned_listed t.kind t.text t.joint inner) ∙ s.turn in
    let wide = turned_within t.kind inner s.more (d ∷ left) e in
    commaless_joined to_comma (length (inner ++ d ∷ left)) t (map as_listed xs) (apart to_comma inner)
    (subst (λ n. Commaless to_comma n (map as_listed xs)) (sym (level_turned t.kind (inner ++ d ∷ left) (s.more ++ d ∷ left) wide))
    (commaless_inside to_comma d s.more left xs s.rest))
  where
    apart : (to_comma : Bool) (inner : List Delim) → CommaApart to_comma (length (inner ++ d ∷ left)) t
    apart false inner = tt
    apart true [] = refl
    apart true (f ∷ inner) = refl

-- So any run passes over what is balanced in a group.
pub run_inside : (to_comma : Bool) (d : Delim) (left : List Delim) (xs rest : List Token)
    → is_balanced (map as_listed xs) ≡ true
    → run to_comma (d ∷ left) (xs ++ rest) ≡ onto xs (run to_comma (d ∷ left) rest)
run_inside to_comma d left xs rest h =
    run_over to_comma (d ∷ left) xs rest h (commaless_inside to_comma d [] left xs h)
