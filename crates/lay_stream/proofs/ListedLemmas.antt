-- A list of tokens as an Emit.
use Rattle.std.proofs.Common.{◌≡◌, ℕ, suc, List, [], ◌∷◌, ◌++◌, refl, sym, ap, ◌∙◌, subst, append-nil, Result, Ok, Err, OnOk, OnErr, le_refl}
use Rattle.std.proofs.lemmas.Result.{MatchResult-at_ok, MatchResult-at_err}
use Rattle.lay_layout.specs.declared.layout.Tok.{Tok}
use Rattle.lay_layout.specs.Machine.{outer, opened, IsNested}
use Rattle.lay_layout.specs.declared.layout.Tok.TheVariants as tok
use Rattle.lay_stream.specs.Fed.{Puts, Stops, Did}
use Rattle.lay_stream.specs.Listed.{list_meanings}
use Rattle.lay_stream.proofs.Calls.{opened_append}

pub nested_append : (s t : List Tok) (n : ℕ) → IsNested n s → IsNested (opened s n) t → IsNested n (s ++ t)
nested_append [] t n h k = k
nested_append (tok.Text x ∷ s) t n h k = nested_append s t n h k
nested_append (tok.Break x ∷ s) t n h k = nested_append s t n h k
nested_append (tok.Begin c o ∷ s) t n h k = nested_append s t (suc n) h k
nested_append (tok.End ∷ s) t n h k = (h.0, nested_append s t (outer n) h.1 k)

list_puts : (F : Type 0) (a ts b : List Tok) → b ≡ a ++ ts → Puts (list_meanings F) a ts b
list_puts F a ts b e = record {
  appends = λ start s h. e ∙ ap (λ (x : List Tok). x ++ ts) h;
  level = ap (λ (x : List Tok). opened x 0) e ∙ opened_append a ts 0;
  later = le_refl 0;
  passes = λ f c h. tt;
  failed_before = λ h. tt;
  failed_after = λ h. tt;
  same_loans = refl;
}

list_stops : (F : Type 0) (a ts : List Tok) (f : F) (b : List Tok) → b ≡ a → Stops (list_meanings F) a ts f b
list_stops F a ts f b e = record {
  appends = λ start s h. record { front = []; back = ts; both = refl; is_fed = e ∙ h ∙ sym (append-nil s) };
  later = le_refl 0;
  because = tt;
  has_failed = tt;
  same_loans = refl;
}

pub list_did : (F T : Type 0) (a ts : List Tok) (r : Result T F) (b : List Tok) → OnOk r (b ≡ a ++ ts) → OnErr r (b ≡ a) → Did (list_meanings F) a ts r b
list_did F T a ts r b h k = record {
  puts = λ x e. list_puts F a ts b (MatchResult-at_ok _ _ x e h);
  stops = λ f e. list_stops F a ts f b (MatchResult-at_err _ _ f e k);
}

pub nested_either : (F T : Type 0) (a ts : List Tok) (r : Result T F) (b : List Tok) → OnOk r (b ≡ a ++ ts) → OnErr r (b ≡ a) →
    IsNested 0 a → IsNested (opened a 0) ts → IsNested 0 b
nested_either F T a ts (Ok x) b h k i j = subst (IsNested 0) (sym h) (nested_append a ts 0 i j)
nested_either F T a ts (Err f) b h k i j = subst (IsNested 0) (sym k) i
