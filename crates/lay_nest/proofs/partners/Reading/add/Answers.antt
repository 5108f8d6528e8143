use Rattle.std.proofs.Common.{◌≡◌, ℕ, ◌+◌, ◌-◌, ◌++◌, ◌∷◌, [], length, true, false, List, Result, Ok, Some, ap, sym, ◌∙◌, subst, set}
use Rattle.std.specs.Prelude.{OnOk}
use Rattle.std.proofs.lemmas.List.{length_push, length-set}
use Rattle.lay_token.specs.Delimiters.{is_opener, is_closer, is_pair}
use Rattle.lay_token.specs.declared.token.Token.{Token}
use Rattle.lay_nest.specs.Partial.{Added, SoFar}
use Rattle.lay_nest.specs.declared.partners.Reading.{Reading}
use Rattle.lay_nest.proofs.Delimiters.{not_opener, not_closer}
use Rattle.lay_nest.proofs.Places.{last_open, below_tokens, below_spans, opener_at, read_plain, read_opener, read_closer, stray_alone, stray_behind, nil_by_length}
use Rattle.lay_nest.proofs.partners.Reading.add.Goals as goal
use Rattle.lay_nest.proofs.partners.Reading.add.Goals.{in-Opener, in-Closer+in-Some, in_default, in_default-pop-via-in-Some+else-is_pair, in_default-pop-via-in_default-pop}

pub token_at-requires : goal.token_at-requires
token_at-requires c =
    below_tokens (last_open c.pop.new.self.items c.in-Some.place c.requires.read c.in-Some.ensures.items)

pub close-requires : goal.close-requires
close-requires c =
    below_spans (last_open c.pop.new.self.items c.in-Some.place c.requires.read c.in-Some.ensures.items)

pub returns-in_default-pop : goal.returns-in_default-pop
returns-in_default-pop c = rw c.unbalanced.ensures (elim c.in_default-pop.branch [
  | in_default-pop-via-in-Some+else-is_pair w ↦
      let l = last_open c.pop.new.self.items w.in-Some.place c.requires.read w.in-Some.ensures.items in
      let found : Some w.token_at.result.now ≡ Some l.opener = sym w.token_at.ensures ∙ opener_at l in
      let same : w.token_at.result.now ≡ l.opener = cc in
      let apart : is_pair l.opener.kind c.args.token.now.kind ≡ false =
      ap (λ (t : Token). is_pair t.kind c.args.token.now.kind) (sym same) ∙ sym w.is_pair.ensures ∙ w.if-is_pair.false in
      stray_behind l c.args.token.now c.requires.next (ap is_closer c.in-Closer.is) apart
  | in_default-pop-via-in_default-pop w ↦
      let none : c.args.self.now.places.items ≡ [] = nil_by_length c.args.self.now.places.items (sym c.args.self.now.places.ok.0 ∙ w.in_default-pop.ensures.cases.0) in
      stray_alone c.requires.read c.args.token.now c.requires.next none (ap is_closer c.in-Closer.is)
])

got : {A E : Type 0} (Q : Type 0) (r : Result A E) (x : A) → r ≡ Ok x → OnOk r Q → Q
got {A} {E} Q r x e h = let P : Result A E → Type 0 = λ s. OnOk s Q in subst P e h

added : (tokens : List Token) (len : ℕ) (reading : Reading) (spans places : List ℕ) → reading.spans.items ≡ spans
    → reading.places.items ≡ places
    → SoFar tokens spans places
    → length spans ≡ len + 1
    → Added tokens len reading
added tokens len reading spans places e f s n = record {
  read = rw (e, f) s;
  one_more = ap length e ∙ n;
}

pub returns-in-Ok : goal.returns-in-Ok
returns-in-Ok c =
    let spans = c.args.self.now.spans.items in
    let places = c.args.self.now.places.items in
    let t = c.args.token.now in
    elim c.match-kind.branch [
      | in-Opener w ↦
          let ok = sym w.added-is ∙ c.in-Ok.is in
          rw w.self-is
          (added c.args.tokens.now (length spans) w.open-added.new.self (spans ++ 0 ∷ []) (places ++ length spans ∷ [])
          (got (w.open-added.new.self.spans.items ≡ spans ++ 0 ∷ []) w.open-added.result c.in-Ok.field-0 ok w.open-added.ensures.spans)
          (got (w.open-added.new.self.places.items ≡ places ++ length spans ∷ []) w.open-added.result c.in-Ok.field-0 ok w.open-added.ensures.places)
          (read_opener c.requires.read t c.requires.next (ap is_opener w.in-Opener.is))
          (length_push spans 0))
      | in-Closer+in-Some w ↦
          let l = last_open w.pop.new.self.items w.in-Some.place c.requires.read w.in-Some.ensures.items in
          let found : Some w.token_at.result.now ≡ Some l.opener = sym w.token_at.ensures ∙ opener_at l in
          let same : w.token_at.result.now ≡ l.opener = cc in
          let pair : is_pair l.opener.kind c.args.token.now.kind ≡ true =
          ap (λ (o : Token). is_pair o.kind c.args.token.now.kind) (sym same) ∙ sym w.is_pair.ensures ∙ w.if-is_pair.true in
          let span = length spans - w.in-Some.place - 1 in
          let ok = sym w.added-is ∙ c.in-Ok.is in
          rw w.self-is
          (added c.args.tokens.now (length spans) w.close.new.self (set spans w.in-Some.place span ++ 0 ∷ []) w.pop.new.self.items
          (got (w.close.new.self.spans.items ≡ set spans w.in-Some.place span ++ 0 ∷ []) w.close.result c.in-Ok.field-0 ok w.close.ensures.spans)
          (ap (λ v. v.items) w.close.ensures.places)
          (read_closer l t c.requires.next pair)
          (length_push (set spans w.in-Some.place span) 0 ∙ ap (λ n. n + 1) (length-set spans w.in-Some.place span)))
      | in_default w ↦
          let ok = sym w.added-is ∙ c.in-Ok.is in
          rw w.self-is
          (added c.args.tokens.now (length spans) w.pass-added.new.self (spans ++ 0 ∷ []) places
          (got (w.pass-added.new.self.spans.items ≡ spans ++ 0 ∷ []) w.pass-added.result c.in-Ok.field-0 ok w.pass-added.ensures.spans)
          (ap (λ v. v.items) w.pass-added.ensures.places)
          (read_plain c.requires.read t c.requires.next (not_opener t.kind w.in_default.not-Opener) (not_closer t.kind w.in_default.not-Closer))
          (length_push spans 0))
    ]
