-- What is put together, and where memory is wanting for it.
use Rattle.std.proofs.Common.{◌≡◌, ◌∙◌, Result, Ok, Err, IsErrAnd, MatchResult, sym, ap, subst}
use Rattle.lay_form.specs.Form.{Form}
use Rattle.lay_build_types.specs.Answers.{Gives, Makes}
use Rattle.lay_build_types.specs.declared.built.BuildError.{BuildError}
use Rattle.lay_build_types.specs.declared.built.BuildError.TheVariants.{NoMemory}
use Rattle.lay_build_types.proofs.AnswerLemmas.{wants}

-- ---- where a call goes no further

abbrev pub Lost : {A : Type 0} → BuildError → Result A BuildError → Type 0
Lost why result = IsErrAnd result (λ e. e ≡ why)

module _ {A : Type 0} (why : BuildError) (result : Result A BuildError) (wanting : why ≡ NoMemory) (lost : Lost why result) where
  pub lost_part : (P : A → Type 0) → Gives result P
  lost_part P = by result lost
    where
      by : (r : Result A BuildError) → Lost why r → Gives r P
      by (Ok x) h = absurd h
      by (Err e) h = h ∙ wanting

  pub lost_node : (form : A → Form) (node : A) → Makes form node result
  lost_node form node = by result lost
    where
      by : (r : Result A BuildError) → Lost why r → Makes form node r
      by (Ok x) h = absurd h
      by (Err e) h = wants form node e (h ∙ wanting)

-- ---- two parts

-- The result is of both parts, or tells why the first that wasn't made wasn't.
abbrev pub Both : {A B : Type 0} → Result A BuildError → Result B BuildError → Result (A × B) BuildError → Type 0
Both first second result =
    MatchResult first (λ a. MatchResult second (λ b. result ≡ Ok (a, b)) (λ why. result ≡ Err why)) (λ why. result ≡ Err why)

module _ {A B : Type 0} where
  pub both_lost : (P : A → Type 0) (Q : B → Type 0) (first : Result A BuildError) (second : Result B BuildError) (why : BuildError)
      → Gives first P → Gives second Q → Both first second (Err why) → why ≡ NoMemory
  both_lost P Q (Ok a) (Ok b) why g h m = absurd (let no : ⊥ = cc in no)
  both_lost P Q (Ok a) (Err w) why g h m = let same : why ≡ w = cc in same ∙ h
  both_lost P Q (Err w) second why g h m = let same : why ≡ w = cc in same ∙ g

  pub both_parts : (P : A → Type 0) (Q : B → Type 0) (first : Result A BuildError) (second : Result B BuildError) (a : A) (b : B)
      → Gives first P → Gives second Q → Both first second (Ok (a, b)) → P a × Q b
  both_parts P Q (Ok x) (Ok y) a b g h m =
      let same : (a, b) ≡ (x, y) = cc in
      (subst P (sym (ap (λ (p : A × B). p.0) same)) g, subst Q (sym (ap (λ (p : A × B). p.1) same)) h)
  both_parts P Q (Ok x) (Err w) a b g h m = absurd (let no : ⊥ = cc in no)
  both_parts P Q (Err w) second a b g h m = absurd (let no : ⊥ = cc in no)
