-- Postfix steps: what is parsed stands there, if that holds one level deeper.
use Rattle.std.proofs.Common.{◌≡◌, ℕ, ◌≤◌, max, Bool, true, false, not, ◌&&◌, ◌||◌, List, [], ◌∷◌, inl, inr, map, drop, codes, Option, Some, None, if◌then◌else◌, refl, sym, subst, ◌∙◌, arith}
use Rattle.std.specs.Prelude.{nat_le}
use Rattle.std.specs.Str.{chars}
use Rattle.std.proofs.lemmas.Bool.{and_parts, and_from}
use Rattle.lay_piece.specs.Forms.{opening}
use Rattle.lay_piece.specs.Number.{is_index}
use Rattle.lay_piece.specs.declared.kind.Delim.TheVariants.{Paren, Bracket}
use Rattle.lay_piece.specs.declared.kind.Kind.TheVariants as kind
use Rattle.lay_token.specs.Operators.{is_op}
use Rattle.lay_form.specs.Form.{Fixed, Form, Operator, Done, Part, closer, keyword, opener}
use Rattle.lay_form.specs.Spelled.{IsOne, IsOperator, Spells}
use Rattle.lay_form.proofs.FormLaws.{deeper as raise}
use Rattle.lay_node.specs.Ahead.{Tokens, first, tail, closes, is_keyword, opens, opens_args, opens_args_late}
use Rattle.lay_node.specs.Words.{is_name}
use Rattle.lay_node.specs.nodes.Facts.{all_good}
use Rattle.lay_node.specs.nodes.Types.{about_arg, angle_form, is_there}
use Rattle.lay_node.specs.Follow.{OfColons}
use Rattle.lay_node.specs.reader.Exact.{InText}
use Rattle.lay_node.specs.reader.Loops.{deepest, nodes, passed}
use Rattle.lay_node.specs.reader.Patterns.{is_int}
use Rattle.lay_node.specs.reader.Types.{angled, literal, one_arg}
use Rattle.lay_node.specs.reader.Words.{name}
use Rattle.lay_node.specs.declared.token.Name.{Name}
use Rattle.lay_node.specs.declared.types.Arg.{Arg}
use Rattle.lay_node.proofs.Fronts.{closer_passed_is, keyword_one, opener_passed_is, opens_one}
use Rattle.lay_node.proofs.Parts.{Rows, leaf_spelled, word_kind}
use Rattle.lay_node.proofs.Steps.{same_some, chosen, bind_some}
use Rattle.lay_node.proofs.reader.Loops.{SoundStep}
use Rattle.lay_node.proofs.reader.PatternsSoundFields.{int_kind}
use Rattle.lay_node.proofs.reader.TypesSoundParts.{Out, bit_texts, literal_sound}
use Rattle.lay_node.proofs.reader.TypesSoundPaths.{angled_sound}
use Rattle.lay_node.proofs.reader.Words.{name_sound}
use Rattle.lay_code.specs.Operators.{is_dot_or_try}
use Rattle.lay_code.specs.nodes.Code.{about_expr, about_step}
use Rattle.lay_code.specs.nodes.Exprs.{StepFacts, all_free, are_generics, are_steps, args_form, break_if, first_step, generics_form, group_if, is_call, is_dotted, is_field, is_method, is_tuple_index, postfix_form, ExprFacts, methods, step_facts, steps_form, tail_follows, tail_of_steps, shut, shut_by}
use Rattle.lay_code.specs.nodes.Places.{FREE}
use Rattle.lay_code.specs.reader.Exprs.{begins_tuple_index, call_step, dot_step, free_elements, index_step, is_index_token, member_by, method_by, one_step}
use Rattle.lay_code.specs.reader.Within.{ExprWithin}
use Rattle.lay_code.specs.declared.blocks.Stmt.TheOpen.{Step-F}
use Rattle.lay_code.specs.declared.exprs.Step.{Step}
use Rattle.lay_code.specs.declared.exprs.Step.TheVariants as step
use Rattle.lay_code.proofs.nodes.ExprsLaws.{step_apply_is, step_await_is, step_field_is, step_index_is, step_method_is, step_try_is, step_tuple_index_is}
use Rattle.lay_code.proofs.reader.ExprSoundLevel.{SoundExprWithin}
use Rattle.lay_code.proofs.reader.ExprSoundLists.{free_sound, free_spelled}

-- A step with these facts stands there.
pub record IsStep (s : StepFacts) (n : ℕ) (ts rest : Tokens) : Type 0 where
  pub form : Spells s.form n ts rest
  pub good : s.good ≡ true
  -- what its first token tells
  pub dotted : is_dotted s.kind ≡ is_dot_or_try ts
  pub called : is_call s.kind ≡ true → first (opens Paren) ts ≡ true
  pub numbered : is_tuple_index s.kind ≡ true → begins_tuple_index ts ≡ true
  -- what doesn't follow a field
  pub argless : is_field s.kind ≡ true → first (opens Paren) rest ≡ false
  pub pathless : is_field s.kind ≡ true → is_op (codes "::") rest ≡ false

abbrev pub StepHeld : Step × ℕ → Tokens → Tokens → Type 0
StepHeld x ts rest = IsStep (about_step x.0) x.1 ts rest

step_told : (X F : StepFacts) (n : ℕ) (ts rest : Tokens) → X ≡ F → IsStep F n ts rest → IsStep X n ts rest
step_told X F n ts rest e s = subst (λ (z : StepFacts). IsStep z n ts rest) (sym e) s

dot_first : (ts : Tokens) → is_op (codes ".") ts ≡ true → true ≡ is_dot_or_try ts
dot_first ts h = rw h refl

module _ (budget : ℕ) (within : ExprWithin) (sound : SoundExprWithin budget within) where
  -- ---- after a `.`

  module _ (begun ts : Tokens) (dot : IsOperator (codes ".") begun ts) where
    -- Generic arguments after a name and `::`, or nothing.
    abbrev GenericsHeld : Option (List Arg) → ℕ → Tokens → Tokens → Type 0
    GenericsHeld None need us rest = us ≡ rest
    GenericsHeld (Some args) need us rest =
        (at : Tokens) × IsOperator (codes "::") us at × Spells (angle_form (map about_arg args)) need at rest
        × (all_good (map about_arg args) ≡ true)

    generics_spelled : (generics : Option (List Arg)) (need n : ℕ) (f : Form) (us mid rest : Tokens) → need ≤ n
        → GenericsHeld generics need us mid → Spells f n mid rest → Spells (generics_form generics f) n us rest
    generics_spelled None need n f us mid rest le k s = subst (λ vs. Spells f n vs rest) (sym k) s
    generics_spelled (Some args) need n f us mid rest le k s =
        (k.0, (k.0, k.1, refl), (mid, raise (angle_form (map about_arg args)) need n k.0 mid le k.2, s))

    generics_good : (generics : Option (List Arg)) (need : ℕ) (us mid : Tokens) → GenericsHeld generics need us mid
        → are_generics generics ≡ true
    generics_good None need us mid k = refl
    generics_good (Some args) need us mid k = k.3

    module _ (n : Name) (at : Tokens) (o : IsOne (word_kind n.raw) n.text ts at) (named : is_name n.raw n.text ≡ true) where
      method_held : (generics : Option (List Arg)) (need : ℕ) (mid : Tokens) → GenericsHeld generics need at mid → InText mid
          → (x : Step × ℕ) (rest : Tokens) → method_by within n generics need mid ≡ Some (x, rest)
          → Out StepHeld begun (x, rest)
      method_held generics need mid k t x rest h =
          let p = bind_some (passed (opens Paren) mid) _ _ h in
          let xs = bind_some (free_elements within (closes Paren) p.0) _ _ p.2 in
          let opened = opener_passed_is Paren mid p.0 t p.1 in
          let l = free_sound budget within sound Paren p.0 xs.0.0 xs.0.1 (bit_texts (opener Paren) mid p.0 opened t) xs.1 in
          let s = free_spelled budget within sound Paren xs.0.0 mid p.0 xs.0.1 opened l.0 in
          let args = xs.0.0.0 in
          let told = map about_expr args in
          let most = max need xs.0.0.1 in
          let end = xs.0.1 in
          let behind : Form = Part (args_form told) Done in
          let list : Spells behind most mid end = (end, raise (args_form told) xs.0.0.1 most mid end (omega arith) s.0, refl) in
          let form = generics_spelled generics need most behind at mid end (omega arith) k list in
          let leaf = leaf_spelled n.raw n.text (generics_form generics behind) most ts at end o form in
          let names = and_from (is_name n.raw n.text) (are_generics generics) named (generics_good generics need at mid k) in
          same_some (Out StepHeld begun) ((step.Method n generics args, most), end) (x, rest) xs.2 (
            step_told (about_step (step.Method n generics args)) (step_facts (Step-F.Method n generics told)) most begun end
                (step_method_is n generics args) (record {
                  form = (ts, (ts, dot, refl), leaf);
                  good = and_from (is_name n.raw n.text && are_generics generics) (all_free told) names s.1;
                  dotted = dot_first begun dot.0;
                  called = λ e. absurd (cc e);
                  numbered = λ e. absurd (cc e);
                  argless = λ e. absurd (cc e);
                  pathless = λ e. absurd (cc e);
                }),
            l.1,
          )

      member_held : InText at → (x : Step × ℕ) (rest : Tokens) → member_by within n at ≡ Some (x, rest)
          → Out StepHeld begun (x, rest)
      member_held t x rest h = elim (chosen (first (opens Paren) at) _ _ _ h) [
        | inl g ↦ method_held None 0 at refl t x rest g.1
        | inr g ↦ elim (chosen (opens_args_late at) _ _ _ g.1) [
          | inl f ↦
              let after = drop 2 at in
              let c : IsOperator (codes "::") at after = ((and_parts (is_op (codes "::") at) (opens_args after) f.0).0, refl) in
              let args = bind_some (angled (one_arg within.kinds) after) _ _ f.1 in
              let l = angled_sound budget within.kinds sound.kinds after args.0.0 args.0.1
              (bit_texts (Operator (codes "::")) at after c t) args.1 in
              method_held (Some (nodes args.0.0)) (deepest args.0.0) args.0.1 (after, c, l.1, l.2) l.3 x rest args.2
          | inr f ↦ elim (chosen (is_op (codes "::") at) _ _ _ f.1) [
            | inl e ↦ absurd (cc e.1)
            | inr e ↦
                same_some (Out StepHeld begun) ((step.Field n, 0), at) (x, rest) e.1 (
                  step_told (about_step (step.Field n)) (step_facts (Step-F.Field n)) 0 begun at (step_field_is n) (record {
                    form = (ts, (ts, dot, refl), leaf_spelled n.raw n.text Done 0 ts at at o refl);
                    good = named;
                    dotted = dot_first begun dot.0;
                    called = λ i. absurd (cc i);
                    numbered = λ i. absurd (cc i);
                    argless = λ i. g.0;
                    pathless = λ i. e.0;
                  }),
                  t,
                )
          ]
        ]
      ]

    dot_held : drop 1 begun ≡ ts → InText ts → (x : Step × ℕ) (rest : Tokens) → dot_step within ts ≡ Some (x, rest)
        → Out StepHeld begun (x, rest)
    unfolding dot_step
    dot_held same t x rest h = elim (chosen (first (is_keyword (codes "await")) ts) _ _ _ h) [
      | inl g ↦
          let o = keyword_one (codes "await") ts g.0 in
          let at = tail ts in
          same_some (Out StepHeld begun) ((step.Await, 0), at) (x, rest) g.1 (
            step_told (about_step step.Await) (step_facts Step-F.Await) 0 begun at step_await_is (record {
              form = (at, (ts, dot, (at, o, refl)), refl);
              good = refl;
              dotted = dot_first begun dot.0;
              called = λ e. absurd (cc e);
              numbered = λ e. absurd (cc e);
              argless = λ e. absurd (cc e);
              pathless = λ e. absurd (cc e);
            }),
            bit_texts (keyword (codes "await")) ts at o t,
          )
      | inr g ↦ elim (chosen (first is_index_token ts) _ _ _ g.1) [
        | inl f ↦
            let i = bind_some (literal is_index_token ts) _ _ f.1 in
            let s = literal_sound (λ k text. is_int k && is_index (chars text)) ts i.0.0 i.0.1 t i.1 in
            let l = i.0.0 in
            let both = and_parts (is_int l.kind) (is_index (chars l.text)) s.0.1 in
            let o : IsOne kind.Int l.text ts i.0.1 = subst (λ k. IsOne k l.text ts i.0.1) (int_kind l.kind both.0) s.0.0 in
            let begins = subst (λ us. first is_index_token us ≡ true) (sym same) f.0 in
            same_some (Out StepHeld begun) ((step.TupleIndex l.text, 0), i.0.1) (x, rest) i.2 (
              step_told (about_step (step.TupleIndex l.text)) (step_facts (Step-F.TupleIndex l.text)) 0 begun i.0.1
                  (step_tuple_index_is l.text) (record {
                    form = (ts, (ts, dot, refl), (i.0.1, o, refl));
                    good = both.1;
                    dotted = dot_first begun dot.0;
                    called = λ e. absurd (cc e);
                    numbered = λ e. and_from (is_op (codes ".") begun) (first is_index_token (drop 1 begun)) dot.0 begins;
                    argless = λ e. absurd (cc e);
                    pathless = λ e. absurd (cc e);
                  }),
              s.1,
            )
        | inr f ↦
            let n = bind_some (name ts) _ _ f.1 in
            let i = name_sound ts n.0.0 n.0.1 n.1 in
            member_held n.0.0 n.0.1 i.0 i.1 (bit_texts (Fixed (word_kind n.0.0.raw) n.0.0.text) ts n.0.1 i.0 t) x rest n.2
      ]
    ]

  -- ---- in delimiters

  not_dotted : (ts : Tokens) → is_op (codes ".") ts ≡ false → is_op (codes "?") ts ≡ false → false ≡ is_dot_or_try ts
  not_dotted ts a b = rw (a, b) refl

  call_held : (ts at : Tokens) → IsOne (kind.Opener Paren) (opening Paren ∷ []) ts at → first (opens Paren) ts ≡ true
      → false ≡ is_dot_or_try ts → InText at
      → (x : Step × ℕ) (rest : Tokens) → call_step within at ≡ Some (x, rest) → Out StepHeld ts (x, rest)
  call_held ts at o p d t x rest h =
      let xs = bind_some (free_elements within (closes Paren) at) _ _ h in
      let l = free_sound budget within sound Paren at xs.0.0 xs.0.1 t xs.1 in
      let s = free_spelled budget within sound Paren xs.0.0 ts at xs.0.1 o l.0 in
      let args = xs.0.0.0 in
      same_some (Out StepHeld ts) ((step.Apply args, xs.0.0.1), xs.0.1) (x, rest) xs.2 (
        step_told (about_step (step.Apply args)) (step_facts (Step-F.Apply (map about_expr args))) xs.0.0.1 ts xs.0.1
            (step_apply_is args) (record {
              form = s.0;
              good = s.1;
              dotted = d;
              called = λ e. p;
              numbered = λ e. absurd (cc e);
              argless = λ e. absurd (cc e);
              pathless = λ e. absurd (cc e);
            }),
        l.1,
      )

  index_held : (ts at : Tokens) → IsOne (kind.Opener Bracket) (opening Bracket ∷ []) ts at → false ≡ is_dot_or_try ts → InText at
      → (x : Step × ℕ) (rest : Tokens) → index_step within at ≡ Some (x, rest) → Out StepHeld ts (x, rest)
  index_held ts at o d t x rest h =
      let y = bind_some (within.exprs FREE at) _ _ h in
      let s = sound.exprs FREE at y.0.0 y.0.1 t y.1 in
      let c = bind_some (passed (closes Bracket) y.0.1) _ _ y.2 in
      let shut = closer_passed_is Bracket y.0.1 c.0 s.1 c.1 in
      let inner = y.0.0.0 in
      same_some (Out StepHeld ts) ((step.Index inner, y.0.0.1), c.0) (x, rest) c.2 (
        step_told (about_step (step.Index inner)) (step_facts (Step-F.Index (about_expr inner))) y.0.0.1 ts c.0
            (step_index_is inner) (record {
              form = (c.0, (at, (at, o, refl), (y.0.1, s.0.1, (c.0, (c.0, shut, refl), refl))), refl);
              good = s.0.2;
              dotted = d;
              called = λ e. absurd (cc e);
              numbered = λ e. absurd (cc e);
              argless = λ e. absurd (cc e);
              pathless = λ e. absurd (cc e);
            }),
        bit_texts (closer Bracket) y.0.1 c.0 shut s.1,
      )

  -- ---- any

  -- A step stands there as it is read.
  pub step_sound : SoundStep (one_step within) StepHeld
  unfolding one_step
  step_sound ts x rest t h = elim (chosen (is_op (codes ".") ts) _ _ _ h) [
    | inl g ↦
        let at = drop 1 ts in
        let o : IsOperator (codes ".") ts at = (g.0, refl) in
        dot_held ts at o refl (bit_texts (Operator (codes ".")) ts at o t) x rest g.1
    | inr g ↦ elim (chosen (is_op (codes "?") ts) _ _ _ g.1) [
      | inl f ↦
          let at = drop 1 ts in
          let o : IsOperator (codes "?") ts at = (f.0, refl) in
          same_some (Out StepHeld ts) ((step.Try, 0), at) (x, rest) f.1 (
            step_told (about_step step.Try) (step_facts Step-F.Try) 0 ts at step_try_is (record {
              form = (at, (at, o, refl), refl);
              good = refl;
              dotted = rw (g.0, f.0) refl;
              called = λ e. absurd (cc e);
              numbered = λ e. absurd (cc e);
              argless = λ e. absurd (cc e);
              pathless = λ e. absurd (cc e);
            }),
            bit_texts (Operator (codes "?")) ts at o t,
          )
      | inr f ↦ elim (chosen (first (opens Paren) ts) _ _ _ f.1) [
        | inl e ↦
            let o = opens_one Paren ts t e.0 in
            call_held ts (tail ts) o e.0 (not_dotted ts g.0 f.0) (bit_texts (opener Paren) ts (tail ts) o t) x rest e.1
        | inr e ↦
            let p = bind_some (passed (opens Bracket) ts) _ _ e.1 in
            let o = opener_passed_is Bracket ts p.0 t p.1 in
            index_held ts p.0 o (not_dotted ts g.0 f.0) (bit_texts (opener Bracket) ts p.0 o t) x rest p.2
      ]
    ]
  ]

-- ---- all of them

-- the facts about steps that were read
abbrev pub told_steps : List (Step × ℕ) → List StepFacts
told_steps xs = map about_step (nodes xs)

break_spelled : (b : Bool) (f : Form) (n : ℕ) (ts rest : Tokens) → Spells f n ts rest → Spells (break_if b f) n ts rest
break_spelled true f n ts rest s = s
break_spelled false f n ts rest s = s

steps_spelled : (most : ℕ) (several behind : Bool) (xs : List (Step × ℕ)) (ts rest : Tokens) → deepest xs ≤ most
    → Rows StepHeld xs ts rest → Spells (steps_form several behind (told_steps xs)) most ts rest
steps_spelled most several behind [] ts rest le r = r
steps_spelled most several behind (x ∷ xs) ts rest le r =
    let told = about_step x.0 in
    let more = behind || is_method told.kind in
    let s : Spells (Part told.form (steps_form several more (told_steps xs))) most ts rest = (
      r.0,
      raise told.form x.1 most ts r.0 (omega (arith, le)) r.1.form,
      steps_spelled most several more xs r.0 rest (omega (arith, le)) r.2,
    ) in
    break_spelled (several && (behind && is_method told.kind)) (Part told.form (steps_form several more (told_steps xs))) most ts rest
    s

group_spelled : (b : Bool) (f : Form) (n : ℕ) (ts rest : Tokens) → Spells f n ts rest → Spells (group_if b f) n ts rest
group_spelled true f n ts rest s = (rest, s, refl)
group_spelled false f n ts rest s = s

-- A base and its steps are spelled at the greatest need of theirs.
pub postfix_spelled : (x : ExprFacts) (xs : List (Step × ℕ)) (n most : ℕ) (ts mid rest : Tokens) → n ≤ most → deepest xs ≤ most
    → Spells x.form n ts mid → Rows StepHeld xs mid rest → Spells (postfix_form x (told_steps xs)) most ts rest
postfix_spelled x xs n most ts mid rest le less s r =
    let several = nat_le 2 (methods (told_steps xs)) in
    group_spelled several (Part x.form (steps_form several false (told_steps xs))) most ts rest
    (mid, raise x.form n most ts mid le s, steps_spelled most several false xs mid rest less r)

no_call : (field call : Bool) (paren : Bool) → (field ≡ true → paren ≡ false) → (call ≡ true → paren ≡ true)
    → not (field && call) ≡ true
no_call true true paren f g = absurd (cc (sym (f refl) ∙ g refl))
no_call true false paren f g = refl
no_call false call paren f g = refl

-- They are well formed, and no call stands directly after a field.
pub steps_good : (xs : List (Step × ℕ)) (ts rest : Tokens) → Rows StepHeld xs ts rest → are_steps (told_steps xs) ≡ true
steps_good [] ts rest r = refl
steps_good (x ∷ []) ts rest r = r.1.good
steps_good (x ∷ y ∷ xs) ts rest r =
    let a = about_step x.0 in
    let b = about_step y.0 in
    let apart = no_call (is_field a.kind) (is_call b.kind) (first (opens Paren) r.0) r.1.argless r.2.1.called in
    and_from (a.good && not (is_field a.kind && is_call b.kind)) (are_steps (told_steps (y ∷ xs)))
    (and_from a.good (not (is_field a.kind && is_call b.kind)) r.1.good apart) (steps_good (y ∷ xs) r.0 rest r.2)

-- what the first of them begins with
pub steps_begin : (xs : List (Step × ℕ)) (ts rest : Tokens) → Rows StepHeld xs ts rest → is_there xs ≡ true
    → first_step is_dotted (told_steps xs) ≡ is_dot_or_try ts
steps_begin [] ts rest r h = absurd (cc h)
steps_begin (x ∷ xs) ts rest r h = r.1.dotted

-- Where the first is a tuple index, one begins there.
pub steps_number : (xs : List (Step × ℕ)) (ts rest : Tokens) → Rows StepHeld xs ts rest
    → first_step is_tuple_index (told_steps xs) ≡ true → begins_tuple_index ts ≡ true
steps_number [] ts rest r h = absurd (cc h)
steps_number (x ∷ xs) ts rest r h = r.1.numbered h

pub steps_there : (xs : List (Step × ℕ)) → is_there xs ≡ true → is_there (told_steps xs) ≡ true
steps_there [] h = absurd (cc h)
steps_there (x ∷ xs) h = refl

-- What follows the last may follow it.
pub steps_end : (no_struct : Bool) (xs : List (Step × ℕ)) (ts rest : Tokens) → Rows StepHeld xs ts rest
    → tail_follows (tail_of_steps (told_steps xs)) no_struct rest ≡ true
steps_end no_struct [] ts rest r = refl
steps_end no_struct (x ∷ []) ts rest r =
    by (is_field (about_step x.0).kind) (λ e. subst (λ us. is_op (codes "::") us ≡ false) r.2 (r.1.pathless e))
  where
    by : (field : Bool) → (field ≡ true → is_op (codes "::") rest ≡ false)
        → tail_follows (if field then shut_by (OfColons ∷ []) else shut) no_struct rest ≡ true
    by true f = rw (f refl) refl
    by false f = refl
steps_end no_struct (x ∷ y ∷ xs) ts rest r = steps_end no_struct (y ∷ xs) r.0 rest r.2
