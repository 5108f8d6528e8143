-- Calls after other calls, one after another.
use Rattle.std.proofs.Common.{◌≡◌, List, [], ◌++◌, Bool, true, false, cond, refl, sym, ◌∙◌, subst, OnOk}
use Rattle.std.proofs.Common.{Result, Ok, Err}
use Rattle.lay_layout.specs.Machine.{opened}
use Rattle.lay_layout.specs.declared.layout.Tok.{Tok}
use Rattle.lay_stream.specs.Fed.{Meanings, Did}
use Rattle.lay_stream.proofs.Calls.{no_call, stream_on, stream_cut}
use Rattle.lay_out_types.specs.Calls.{Adds}

after_all : {S F T : Type 0} {m : Meanings S F} {a b c : S} {s t : List Tok} {r : Result T F} (q : Result T F)
    → Did m a s q b → Adds m q b t r c → Did m a (s ++ t) r c
after_all (Ok x) d k = stream_on d (k.goes_on x refl)
after_all {m} {a} {b} {s} {t} {r} (Err f) d k =
    subst (λ (z : _). Did m a (s ++ t) r z) (sym (k.stays f refl))
    (subst (λ (y : Result _ _). Did m a (s ++ t) y b) (sym (k.hands_on f refl)) (stream_cut t d))

-- one more call
pub adds_on : {S F T : Type 0} {m : Meanings S F} {a b c : S} {s t : List Tok} {p q r : Result T F}
    → Adds m p a s q b → Adds m q b t r c → Adds m p a (s ++ t) r c
adds_on {q} h k = record {
  goes_on = λ x e. after_all q (h.goes_on x e) k;
  hands_on = λ f e. k.hands_on f (h.hands_on f e);
  stays = λ f e. k.stays f (h.hands_on f e) ∙ h.stays f e;
}

-- the last call, of which all are told
pub adds : {S F T : Type 0} {m : Meanings S F} {a b : S} {s ts : List Tok} {p q : Result T F}
    → Adds m p a s q b → s ≡ ts → Adds m p a ts q b
adds {m} {a} {b} {p} {q} h e = subst (λ (y : List Tok). Adds m p a y q b) e h

-- no call at all
pub adds_nothing : {S F T : Type 0} {m : Meanings S F} {a : S} {p : Result T F} → Adds m p a [] p a
adds_nothing {m} {a} = record {
  goes_on = λ x e. subst (λ (q : Result _ _). Did m a [] q a) (sym e) no_call;
  hands_on = λ f e. e;
  stays = λ f e. refl;
}

-- calls after calls that went well
pub went_well : {S F T : Type 0} {m : Meanings S F} {a b : S} {ts : List Tok} {p q : Result T F} {x : T} → p ≡ Ok x
    → Did m a ts q b → Adds m p a ts q b
went_well e d = record { goes_on = λ y k. d; hands_on = λ f k. cc; stays = λ f k. cc }

-- where all went well, as many groups are open as the tokens leave open
pub level_behind : {S F T : Type 0} {m : Meanings S F} {a b : S} {s : List Tok} (p q : Result T F) (x : T)
    → Adds m p a s q b → q ≡ Ok x → m.groups b ≡ opened s (m.groups a)
level_behind (Ok y) q x h e = ((h.goes_on y refl).puts x e).level
level_behind (Err f) q x h e = let k : q ≡ Err f = h.hands_on f refl in cc

pub on_ok : {F T P : Type 0} (q : Result T F) → ((x : T) → q ≡ Ok x → P) → OnOk q P
on_ok (Ok x) h = h x refl
on_ok (Err f) h = tt

-- the second one of two
pub other : {A : Type 0} (x y : A) (b : Bool) → b ≡ false → y ≡ cond b x y
other x y true e = cc
other x y false e = refl
