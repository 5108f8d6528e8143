-- Calls of an Emit, one after another.
use Rattle.std.proofs.Common.{◌≡◌, ℕ, suc, le_trans, le_refl, List, [], ◌∷◌, ◌++◌, refl, sym, ap, ◌∙◌, subst, append_assoc, append-nil, IsErrAnd, Result, Ok, Err}
use Rattle.lay_layout.specs.declared.layout.Tok.{Tok}
use Rattle.lay_layout.specs.Machine.{outer, opened}
use Rattle.lay_layout.specs.declared.layout.Tok.TheVariants as tok
use Rattle.lay_stream.specs.Fed.{Meanings, Puts, Stops, Did}

pub opened_append : (s t : List Tok) (n : ℕ) → opened (s ++ t) n ≡ opened t (opened s n)
opened_append [] t n = refl
opened_append (tok.Text x ∷ s) t n = opened_append s t n
opened_append (tok.Break x ∷ s) t n = opened_append s t n
opened_append (tok.Begin c o ∷ s) t n = opened_append s t (suc n)
opened_append (tok.End ∷ s) t n = opened_append s t (outer n)

ok_no_err : {T F : Type 0} (r : Result T F) (x : T) (f : F) → r ≡ Ok x → IsErrAnd r (λ y. y ≡ f) → ⊥
ok_no_err (Ok y) x f e k = k
ok_no_err (Err y) x f e k = cc

same_err : {T F : Type 0} (r : Result T F) (f y : F) → IsErrAnd r (λ y. y ≡ f) → r ≡ Err y → f ≡ y
same_err (Ok x) f y k e = absurd k
same_err (Err z) f y k e = let q : z ≡ y = cc in sym k ∙ q

pub then_puts : {S F : Type 0} {m : Meanings S F} {a b c : S} {s t : List Tok} {ts : List Tok} →
    Puts m a s b → Puts m b t c → s ++ t ≡ ts → Puts m a ts c
then_puts {m} {a} {b} {c} {s} {t} p q e = record {
  appends = λ start x h. subst (λ (y : List Tok). m.fed c start y) (append_assoc x s t ∙ ap (λ (y : List Tok). x ++ y) e) (q.appends start (x ++ s) (p.appends start x h));
  level = q.level ∙ ap (opened t) p.level ∙ sym (opened_append s t (m.groups a)) ∙ ap (λ (y : List Tok). opened y (m.groups a)) e;
  later = le_trans p.later q.later;
  passes = λ f d h. p.passes f d (q.passes f d h);
  failed_before = λ h. p.failed_before (q.failed_before h);
  failed_after = λ h. q.failed_after (p.failed_after h);
  same_loans = q.same_loans ∙ p.same_loans;
}

pub then_stops : {S F : Type 0} {m : Meanings S F} {a b c : S} {s t : List Tok} {ts : List Tok} {e : F} →
    Puts m a s b → Stops m b t e c → (u : List Tok) → s ++ (t ++ u) ≡ ts → Stops m a ts e c
then_stops {m} {a} {b} {c} {s} {t} p q u e = record {
  appends = λ start x h.
      let f = q.appends start (x ++ s) (p.appends start x h) in
      record {
        front = s ++ f.front;
        back = f.back ++ u;
        both = append_assoc s f.front (f.back ++ u) ∙ ap (λ (y : List Tok). s ++ y) (sym (append_assoc f.front f.back u) ∙ ap (λ (y : List Tok). y ++ u) f.both) ∙ e;
        is_fed = subst (λ (y : List Tok). m.fed c start y) (append_assoc x s f.front) f.is_fed;
      };
  later = le_trans p.later q.later;
  because = p.passes _ _ q.because;
  has_failed = q.has_failed;
  same_loans = q.same_loans ∙ p.same_loans;
}

pub stops_more : {S F : Type 0} {m : Meanings S F} {a b : S} {t : List Tok} {ts : List Tok} {e : F} →
    Stops m a t e b → (u : List Tok) → t ++ u ≡ ts → Stops m a ts e b
stops_more {m} q u e = record {
  appends = λ start x h.
      let f = q.appends start x h in
      record {
        front = f.front;
        back = f.back ++ u;
        both = sym (append_assoc f.front f.back u) ∙ ap (λ (y : List Tok). y ++ u) f.both ∙ e;
        is_fed = f.is_fed;
      };
  later = q.later;
  because = q.because;
  has_failed = q.has_failed;
  same_loans = q.same_loans;
}

-- one more call, after calls that answered Ok
pub next : {S F T U : Type 0} {m : Meanings S F} {a b c : S} {s t : List Tok} {q : Result T F} {x : T} {r : Result U F} →
    Did m a s q b → q ≡ Ok x → Did m b t r c → Did m a (s ++ t) r c
next {s} {t} d e f = record {
  puts = λ y k. then_puts (d.puts _ e) (f.puts y k) refl;
  stops = λ y k. then_stops (d.puts _ e) (f.stops y k) [] (ap (λ (z : List Tok). s ++ z) (append-nil t));
}

-- the last call's result is handed on
pub last : {S F T : Type 0} {m : Meanings S F} {a b : S} {s ts : List Tok} {r : Result T F} →
    Did m a s r b → s ≡ ts → Did m a ts r b
last {m} {a} {b} {r} d e = subst (λ (y : List Tok). Did m a y r b) e d

-- a fault is handed on
pub leave : {S F T U : Type 0} {m : Meanings S F} {a b : S} {s ts : List Tok} {q : Result T F} {f : F} {r : Result U F} →
    Did m a s q b → q ≡ Err f → IsErrAnd r (λ y. y ≡ f) → (u : List Tok) → s ++ u ≡ ts → Did m a ts r b
leave {m} {a} {b} {s} {f} {r} d e k u h = record {
  puts = λ x j. absurd (ok_no_err r x f j k);
  stops = λ y j. stops_more (subst (λ (z : _). Stops m a s z b) (same_err r f y k j) (d.stops _ e)) u h;
}

-- The same forms, where the code matches on the results: one more call after a call that answered Ok, and a fault that is handed on.
pub after : {S F T U : Type 0} {m : Meanings S F} {a b c : S} {s t ts : List Tok} {x : T} {r : Result U F} →
    Did m a s (Ok x) b → Did m b t r c → s ++ t ≡ ts → Did m a ts r c
after d f e = last (next d refl f) e

pub cut : {S F T U : Type 0} {m : Meanings S F} {a b : S} {s ts : List Tok} {f : F} (u : List Tok) →
    Did {T = T} m a s (Err f) b → s ++ u ≡ ts → Did {T = U} m a ts (Err f) b
cut u d h = leave d refl refl u h

-- The same, token by token from the first, for a search.
pub call_on : {S F T U : Type 0} {m : Meanings S F} {a b c : S} {k : Tok} {ts : List Tok} {x : T} {r : Result U F} →
    Did m a (k ∷ []) (Ok x) b → Did m b ts r c → Did m a (k ∷ ts) r c
call_on d f = after d f refl

pub stream_on : {S F T U : Type 0} {m : Meanings S F} {a b c : S} {s ts : List Tok} {x : T} {r : Result U F} →
    Did m a s (Ok x) b → Did m b ts r c → Did m a (s ++ ts) r c
stream_on d f = after d f refl

pub cut_on : {S F T U : Type 0} {m : Meanings S F} {a b : S} {k : Tok} {ts : List Tok} {f : F} →
    Did {T = T} m a (k ∷ []) (Err f) b → Did {T = U} m a (k ∷ ts) (Err f) b
cut_on {ts} d = cut ts d refl

pub stream_cut : {S F T U : Type 0} {m : Meanings S F} {a b : S} {s : List Tok} {f : F} → (ts : List Tok) →
    Did {T = T} m a s (Err f) b → Did {T = U} m a (s ++ ts) (Err f) b
stream_cut ts d = cut ts d refl

pub leave_on : {S F T U : Type 0} {m : Meanings S F} {a b : S} {k : Tok} {ts : List Tok} {f : F} {r : Result U F} →
    Did {T = T} m a (k ∷ []) (Err f) b → IsErrAnd r (λ y. y ≡ f) → Did m a (k ∷ ts) r b
leave_on {ts} d h = leave d refl h ts refl

pub stream_leave : {S F T U : Type 0} {m : Meanings S F} {a b : S} {s : List Tok} {f : F} {r : Result U F} → (ts : List Tok) →
    Did {T = T} m a s (Err f) b → IsErrAnd r (λ y. y ≡ f) → Did m a (s ++ ts) r b
stream_leave ts d h = leave d refl h ts refl

pub ruleset calls = (call_on, stream_on, cut_on, stream_cut, leave_on, stream_leave)

pub level_of : {S F T : Type 0} {m : Meanings S F} {a b : S} {s : List Tok} {x : T} → Did m a s (Ok x) b → m.groups b ≡ opened s (m.groups a)
level_of d = (d.puts _ refl).level

-- no call at all
pub no_call : {S F T : Type 0} {m : Meanings S F} {a : S} {x : T} → Did {F = F} m a [] (Ok x) a
no_call {m} {a} = record {
  puts = λ y e. record {
    appends = λ start s h. subst (λ (z : List Tok). m.fed a start z) (sym (append-nil s)) h;
    level = refl;
    later = le_refl (m.faults a);
    passes = λ f c h. h;
    failed_before = λ h. h;
    failed_after = λ h. h;
    same_loans = refl;
  };
  stops = λ f e. cc;
}
