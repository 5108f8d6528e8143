-- The parts of a raw string.
use Rattle.std.proofs.Common.{◌≡◌, ℕ, zero, suc, ◌+◌, ◌-◌, ◌*◌, ◌≤◌, List, [], ◌∷◌, ◌++◌, length, take, drop, Bool, true, false, cond, ◌&&◌, Option, Some, None, sym, refl, ap, ◌∙◌, arith, add-one, add-zero, zero-add, append_assoc, length-append, IsUtf8}
use Rattle.std.specs.Prelude.{◌==◌, nat_lt}
use Rattle.std.specs.List.{list_all}
use Rattle.std.specs.Str.{chars, encode_utf8_all}
use Rattle.std.proofs.Math.Seq.{take-append_seam, drop-append_seam}
use Rattle.std.proofs.lemmas.List.{append-nil}
use Rattle.std.proofs.lemmas.Bool.{eqb-true, and_parts}
use Rattle.std.proofs.lemmas.Str.{encodes-append, encodes-chars}
use lib.Utf8.{encode}
use Rattle.lay_piece.specs.Chars.{front, after}
use Rattle.lay_piece.specs.Scan.{Next, Go, End, Bad, run}
use Rattle.lay_piece.specs.Quoted.{InRaw, Hashes, Inside, Closing, raw_step, inside_step, is_plain}
use Rattle.lay_piece.specs.Value.{is_hash, raw_value}
use Rattle.lay_piece.specs.declared.piece.quoted.Contents.TheVariants as of
use Rattle.lay_piece.proofs.Runs.{next, run-nil, run-cons}
use Rattle.lay_piece.proofs.Fronts.{front-append, after-append}
use Rattle.lay_cook.specs.Steps.{ClosesRaw}

-- this many hashes
abbrev pub hashes : ℕ → List ℕ
hashes zero = []
hashes (suc n) = 35 ∷ hashes n

hashes-more : (n : ℕ) (cs : List ℕ) → hashes n ++ 35 ∷ cs ≡ hashes (suc n) ++ cs
hashes-more zero cs = refl
hashes-more (suc n) cs = ap (λ l. 35 ∷ l) (hashes-more n cs)

each_hash : (n : ℕ) → list_all is_hash (hashes n) ≡ true
each_hash zero = refl
each_hash (suc n) = each_hash n

length-hashes : (n : ℕ) → length (hashes n) ≡ n
length-hashes zero = refl
length-hashes (suc n) = ap (λ k. suc k) (length-hashes n)

encode-hashes : (n : ℕ) → encode_utf8_all (hashes n) ≡ hashes n
unfolding encode
encode-hashes zero = refl
encode-hashes (suc n) = ap (λ l. 35 ∷ l) (encode-hashes n)

-- within this many hashes, and maybe after a quote and this many hashes
abbrev within : ℕ → Option ℕ → InRaw
within n None = Inside n
within n (Some k) = Closing n k

abbrev begun : Option ℕ → List ℕ
begun None = []
begun (Some k) = 34 ∷ hashes k

-- The text ends in the closing quote and this many hashes.
abbrev EndsIn : ℕ → List ℕ → Type 0
EndsIn n cs = (body : List ℕ) × (cs ≡ body ++ 34 ∷ hashes n)

abbrev step : InRaw → ℕ → Next InRaw
step = raw_step of.Chars

inside_parts : (n c : ℕ) (cs : List ℕ) → next step cs (inside_step of.Chars n c) ≡ Some []
    → (run step (Inside n) cs ≡ Some [] → EndsIn n cs)
    → (run step (Closing n 0) cs ≡ Some [] → EndsIn n (34 ∷ cs))
    → EndsIn n (c ∷ cs)
inside_parts n c cs h plain quote = go (c == 34) (n == 0) (is_plain of.Chars c) refl refl h
  where
    go : (a b d : Bool) → c == 34 ≡ a → n == 0 ≡ b
        → next step cs (cond a (cond b End (Go (Closing n 0))) (cond d (Go (Inside n)) Bad)) ≡ Some []
        → EndsIn n (c ∷ cs)
    go true true d e f h =
        let none : cs ≡ [] = cc in
        ([], ap (λ l. c ∷ l) none ∙ ap (λ v. v ∷ []) (eqb-true c 34 e) ∙ ap (λ k. 34 ∷ hashes k) (sym (eqb-true n 0 f)))
    go true false d e f h = let r = quote h in (r.0, ap (λ v. v ∷ cs) (eqb-true c 34 e) ∙ r.1)
    go false b true e f h = let r = plain h in (c ∷ r.0, ap (λ l. c ∷ l) r.1)
    go false b false e f h = cc

inside_is : (n c : ℕ) → step (Inside n) c ≡ inside_step of.Chars n c
unfolding raw_step
inside_is n c = refl

closing_is : (n k c : ℕ) → step (Closing n k) c
    ≡ cond (c == 35) (cond (k + 1 == n) End (Go (Closing n (k + 1)))) (inside_step of.Chars n c)
unfolding raw_step
closing_is n k c = refl

parts : (cs : List ℕ) (n : ℕ) (o : Option ℕ) → run step (within n o) cs ≡ Some [] → EndsIn n (begun o ++ cs)
parts [] n o h = let f = run-nil step (within n o) in cc
parts (c ∷ cs) n None h =
    inside_parts n c cs (ap (next step cs) (sym (inside_is n c)) ∙ sym (run-cons step (Inside n) c cs) ∙ h)
    (λ e. parts cs n None e) (λ e. parts cs n (Some 0) e)
parts (c ∷ cs) n (Some k) h =
    go (c == 35) (k + 1 == n) refl refl
    (ap (next step cs) (sym (closing_is n k c)) ∙ sym (run-cons step (Closing n k) c cs) ∙ h)
    (λ e. parts cs n (Some (k + 1)) e)
    (λ g. inside_parts n c cs g (λ e. parts cs n None e) (λ e. parts cs n (Some 0) e))
  where
    go : (a b : Bool) → c == 35 ≡ a → k + 1 == n ≡ b
        → next step cs (cond a (cond b End (Go (Closing n (k + 1)))) (inside_step of.Chars n c)) ≡ Some []
        → (run step (Closing n (k + 1)) cs ≡ Some [] → EndsIn n (34 ∷ (hashes (k + 1) ++ cs)))
        → (next step cs (inside_step of.Chars n c) ≡ Some [] → EndsIn n (c ∷ cs))
        → EndsIn n (34 ∷ (hashes k ++ c ∷ cs))
    go true true e f h more other =
        let none : cs ≡ [] = cc in
        let count : suc k ≡ n = sym (add-one k) ∙ eqb-true (k + 1) n f in (
          [],
          ap (λ l. 34 ∷ l) (ap (λ l. hashes k ++ c ∷ l) none ∙ ap (λ v. hashes k ++ v ∷ []) (eqb-true c 35 e)
              ∙ hashes-more k [] ∙ append-nil (hashes (suc k)) ∙ ap hashes count),
        )
    go true false e f h more other =
        let r = more h in (
          r.0,
          ap (λ l. 34 ∷ l) (ap (λ v. hashes k ++ v ∷ cs) (eqb-true c 35 e) ∙ hashes-more k cs
              ∙ ap (λ m. hashes m ++ cs) (sym (add-one k))) ∙ r.1,
        )
    go false b e f h more other =
        let r = other h in
        let closing : List ℕ = 34 ∷ hashes k in
        (closing ++ r.0, ap (λ l. closing ++ l) r.1 ∙ sym (append_assoc closing r.0 (34 ∷ hashes n)))

hashes_is : (n c : ℕ) → step (Hashes n) c
    ≡ cond (c == 35 && nat_lt n 255) (Go (Hashes (n + 1))) (cond (c == 34) (Go (Inside n)) Bad)
unfolding raw_step
hashes_is n c = refl

abbrev Opened : ℕ → List ℕ → Type 0
Opened n cs = (m : ℕ) × (body : List ℕ) × (cs ≡ hashes m ++ 34 ∷ (body ++ 34 ∷ hashes (n + m)))

opened_parts : (cs : List ℕ) (n : ℕ) → run step (Hashes n) cs ≡ Some [] → Opened n cs
opened_parts [] n h = let f = run-nil step (Hashes n) in cc
opened_parts (c ∷ cs) n h =
    go (c == 35 && nat_lt n 255) (c == 34) refl refl
    (ap (next step cs) (sym (hashes_is n c)) ∙ sym (run-cons step (Hashes n) c cs) ∙ h)
    (λ e. opened_parts cs (n + 1) e)
  where
    go : (a b : Bool) → c == 35 && nat_lt n 255 ≡ a → c == 34 ≡ b
        → next step cs (cond a (Go (Hashes (n + 1))) (cond b (Go (Inside n)) Bad)) ≡ Some []
        → (run step (Hashes (n + 1)) cs ≡ Some [] → Opened (n + 1) cs)
        → Opened n (c ∷ cs)
    go true b e f h more =
        let r = more h in
        let count : n + 1 + r.0 ≡ n + suc r.0 = omega arith in (
          suc r.0,
          r.1,
          ap (λ v. v ∷ cs) (eqb-true c 35 (and_parts _ _ e).0) ∙ ap (λ l. 35 ∷ l) r.2
              ∙ ap (λ k. 35 ∷ (hashes r.0 ++ 34 ∷ (r.1 ++ 34 ∷ hashes k))) count,
        )
    go false true e f h more =
        let r = parts cs n None h in (
          0,
          r.0,
          ap (λ v. v ∷ cs) (eqb-true c 34 f) ∙ ap (λ l. 34 ∷ l) r.1
              ∙ ap (λ k. 34 ∷ (r.0 ++ 34 ∷ hashes k)) (sym (add-zero n)),
        )
    go false false e f h more = cc

-- hashes and a quote, the value, and as much again
pub record RawParts (cs : List ℕ) : Type 0 where
  pub count : ℕ
  pub body : List ℕ
  pub whole : cs ≡ hashes count ++ 34 ∷ (body ++ 34 ∷ hashes count)

raw_parts : (cs : List ℕ) → ClosesRaw cs → RawParts cs
raw_parts cs h =
    let r = opened_parts cs 0 h in record {
      count = r.0;
      body = r.1;
      whole = r.2 ∙ ap (λ k. hashes r.0 ++ 34 ∷ (r.1 ++ 34 ∷ hashes k)) (zero-add r.0);
    }

-- what stands within as much on both sides
middle : (k : ℕ) (cs front body back : List ℕ) → cs ≡ front ++ (body ++ back) → length front ≡ k → length back ≡ k
    → (length cs ≡ k + length body + k) × (take (length body) (drop k cs) ≡ body)
middle k cs front body back e f b =
    let size : length cs ≡ k + length body + k =
    omega (arith, ap length e, length-append front (body ++ back), length-append body back, f, b) in (
      size,
      ap (λ n. take (length body) (drop n cs)) (sym f) ∙ ap (λ l. take (length body) (drop (length front) l)) e
          ∙ ap (take (length body)) (drop-append_seam front (body ++ back)) ∙ take-append_seam body back,
    )

-- a quote on either side of the value belongs to what is around it
around : (m : ℕ) (cs body : List ℕ) → cs ≡ hashes m ++ 34 ∷ (body ++ 34 ∷ hashes m)
    → (length cs ≡ m + 1 + length body + (m + 1)) × (take (length body) (drop (m + 1) cs) ≡ body)
around m cs body e =
    let size = length-hashes m in
    let one : length (hashes m ++ 34 ∷ []) ≡ m + 1 = length-append (hashes m) (34 ∷ []) ∙ ap (λ k. k + 1) size in
    let two : length (34 ∷ hashes m) ≡ m + 1 = omega (arith, size) in
    middle (m + 1) cs (hashes m ++ 34 ∷ []) body (34 ∷ hashes m)
    (e ∙ sym (append_assoc (hashes m) (34 ∷ []) (body ++ 34 ∷ hashes m))) one two

value_is : (cs : List ℕ) (p : RawParts cs) → raw_value cs ≡ p.body
value_is cs p =
    let run : front is_hash cs ≡ hashes p.count = ap (front is_hash) p.whole
    ∙ front-append is_hash (hashes p.count) (34 ∷ (p.body ++ 34 ∷ hashes p.count)) (each_hash p.count) refl in
    let count : length (front is_hash cs) + 1 ≡ p.count + 1 = ap (λ l. length l + 1) run ∙ ap (λ k. k + 1) (length-hashes p.count) in
    let m = around p.count cs p.body p.whole in
    let size : length cs - 2 * (p.count + 1) ≡ length p.body = omega (arith, m.0) in
    ap (λ k. take (length cs - 2 * k) (drop k cs)) count ∙ ap (λ n. take n (drop (p.count + 1) cs)) size ∙ m.1

-- the same of the bytes
pub record RawBytes (q o : List ℕ) : Type 0 where
  pub fits : length q - length o + 1 ≤ length q
  pub room : length q - length o + 1 ≤ length q - (length q - length o + 1)
  pub value : take (length q - (length q - length o + 1) - (length q - length o + 1)) (drop (length q - length o + 1) q)
      ≡ encode_utf8_all (raw_value (chars q))

encode-quote : (cs : List ℕ) → encode_utf8_all (34 ∷ cs) ≡ 34 ∷ encode_utf8_all cs
unfolding encode
encode-quote cs = refl

closing_bytes : (body : List ℕ) (m : ℕ)
    → encode_utf8_all (34 ∷ (body ++ 34 ∷ hashes m)) ≡ 34 ∷ (encode_utf8_all body ++ 34 ∷ hashes m)
closing_bytes body m =
    encode-quote (body ++ 34 ∷ hashes m) ∙ ap (λ l. 34 ∷ l) (encodes-append body (34 ∷ hashes m)
    ∙ ap (λ l. encode_utf8_all body ++ l) (encode-quote (hashes m) ∙ ap (λ l. 34 ∷ l) (encode-hashes m)))

pub raw_bytes : (q o : List ℕ) → IsUtf8 q → IsUtf8 o → ClosesRaw (chars q) → chars o ≡ after is_hash (chars q)
    → RawBytes q o
raw_bytes q o uq uo h e =
    let p = raw_parts (chars q) h in
    let m = p.count in
    let rest : List ℕ = 34 ∷ (p.body ++ 34 ∷ hashes m) in
    let bytes : q ≡ hashes m ++ 34 ∷ (encode_utf8_all p.body ++ 34 ∷ hashes m) =
    sym (encodes-chars q uq) ∙ ap encode_utf8_all p.whole ∙ encodes-append (hashes m) rest
    ∙ ap (λ l. l ++ encode_utf8_all rest) (encode-hashes m) ∙ ap (λ l. hashes m ++ l) (closing_bytes p.body m) in
    let opened : o ≡ 34 ∷ (encode_utf8_all p.body ++ 34 ∷ hashes m) =
    sym (encodes-chars o uo) ∙ ap encode_utf8_all (e ∙ ap (after is_hash) p.whole
    ∙ after-append is_hash (hashes m) rest (each_hash m) refl) ∙ closing_bytes p.body m in
    let a = around m q (encode_utf8_all p.body) bytes in
    let size : length q ≡ m + length o =
    ap length bytes ∙ length-append (hashes m) _ ∙ ap (λ k. k + length (34 ∷ (encode_utf8_all p.body ++ 34 ∷ hashes m))) (length-hashes m)
    ∙ ap (λ l. m + length l) (sym opened) in
    let k : length q - length o + 1 ≡ m + 1 = omega (arith, size) in
    let left : length q - (length q - length o + 1) - (length q - length o + 1) ≡ length (encode_utf8_all p.body) = omega (arith, k, a.0) in
    record {
      fits = omega (arith, k, a.0);
      room = omega (arith, k, a.0);
      value = ap (λ n. take n (drop (length q - length o + 1) q)) left ∙ ap (λ n. take (length (encode_utf8_all p.body)) (drop n q)) k
          ∙ a.1 ∙ ap encode_utf8_all (sym (value_is (chars q) p));
    }
