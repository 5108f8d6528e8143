use Rattle.std.proofs.Common.{rules, ◌≡◌, ◌++◌, ◌-◌, true, length, refl, IsUtf8, sym, subst}
use Rattle.std.specs.Str.{chars}
use Rattle.lay_piece.specs.Forms.{Had}
use Rattle.lay_piece.specs.Begins.{BeginsNoPiece}
use Rattle.lay_token.specs.Lexes.{is_index_place}
use Rattle.lay_lex.specs.Added.{before}
use Rattle.lay_lex.specs.Tokens.{so_far}
use Rattle.lay_lex.proofs.Gaps.{last_gap}
use Rattle.lay_lex.specs.Window.{ends_in_stop}
use Rattle.lay_lex.specs.declared.window.Stop.TheVariants.{More}
use Rattle.lay_lex.proofs.Windows.{left_behind, up_to, goes_to, lexes_to}
use Rattle.lay_lex.proofs.Parts.{reach, turn, ended, stopped, shrinks}
use Rattle.lay_lex.proofs.lexer.window_of.Goals as goal

pub overflow_sub-at : goal.overflow_sub-at
overflow_sub-at c =
    let ur : IsUtf8 c.in-Some.rest.now = search rules in
    let r = reach c.args.text.now c.loop-rest.ahead.now c.in-Some.rest.now c.loop-rest.invariant.read c.in-Some.ensures
    c.utf8.text c.requires c.loop-rest.invariant.text ur in
    r.within

pub returns-in-None-clause-window : goal.returns-in-None-clause-window
returns-in-None-clause-window c =
    let ur : IsUtf8 c.in-Some.rest.now = search rules in
    let r = reach c.args.text.now c.loop-rest.ahead.now c.in-Some.rest.now c.loop-rest.invariant.read c.in-Some.ensures
    c.utf8.text c.requires c.loop-rest.invariant.text ur in
    let none : BeginsNoPiece (chars c.in-Some.rest.now) (is_index_place (before c.loop-rest.tokens.before)) = λ k piece more e h.
    c.in-None.ensures.only k piece more e
    (subst (λ i. Had k piece more i) (sym c.is_index_place.ensures) h) in
    stopped r none

pub loop-rest-smaller : goal.loop-rest-smaller
loop-rest-smaller c =
    let ur : IsUtf8 c.in-Some.rest.now = search rules in
    let ub : IsUtf8 c.cut.result.1.now = search rules in
    let r = reach c.args.text.now c.loop-rest.ahead.now c.in-Some.rest.now c.loop-rest.invariant.read c.in-Some.ensures
    c.utf8.text c.requires c.loop-rest.invariant.text ur in
    let f = c.in-Some-piece_at.ensures.found in
    let whole : chars c.in-Some.rest.now ≡ f.0 ++ f.1 = f.2 in
    let parts = c.cut.ensures f.0 f.1 whole f.4 in
    shrinks c.in-Some-piece_at.found.kind f.0 f.1 c.cut.result.1.now c.is_index_place.result r whole f.3 parts.1 ur ub

pub loop-rest-preserved : goal.loop-rest-preserved
loop-rest-preserved c =
    let ur : IsUtf8 c.in-Some.rest.now = search rules in
    let r = reach c.args.text.now c.loop-rest.ahead.now c.in-Some.rest.now c.loop-rest.invariant.read c.in-Some.ensures
    c.utf8.text c.requires c.loop-rest.invariant.text ur in
    let f = c.in-Some-piece_at.ensures.found in
    let whole : chars c.in-Some.rest.now ≡ f.0 ++ f.1 = f.2 in
    let had = subst (λ i. Had c.in-Some-piece_at.found.kind f.0 f.1 i) c.is_index_place.ensures f.3 in
    let parts = c.cut.ensures f.0 f.1 whole f.4 in
    record {
      text = search rules;
      read = turn c.in-Some-piece_at.found.kind f.0 f.1 c.cut.result.0.now c.cut.result.1.now r whole had
          parts.0 parts.1 c.in-Ok-add.ensures;
    }

pub overflow_sub-text : goal.overflow_sub-text
overflow_sub-text c =
    let ua : IsUtf8 c.loop-rest.ahead.now = search rules in
    let s = c.loop-rest.invariant.read in
    (left_behind c.args.start c.args.text.now c.loop-rest.ahead.now s.parts c.utf8.text c.requires ua s.whole).within

pub returns-then-ends_before-clause-window : goal.returns-then-ends_before-clause-window
returns-then-ends_before-clause-window c =
    let ua : IsUtf8 c.loop-rest.ahead.now = search rules in
    let stops : ends_in_stop (so_far c.loop-rest.tokens) ≡ true = rw c.as_slice.ensures at (c.if-ends_before.ensures.stops refl) in
    goes_to c.args.text.now c.args.start (length c.args.text.now - length c.loop-rest.ahead.now) (so_far c.loop-rest.tokens) More c.window.result
    c.window.ensures refl (up_to c.utf8.text c.requires ua c.loop-rest.invariant.read stops)

pub overflow_sub-text-in-Some-ends_behind : goal.overflow_sub-text-in-Some-ends_behind
overflow_sub-text-in-Some-ends_behind c =
    let ur : IsUtf8 c.in-Some.rest.now = search rules in
    let ub : IsUtf8 c.cut.result.1.now = search rules in
    let r = reach c.args.text.now c.loop-rest.ahead.now c.in-Some.rest.now c.loop-rest.invariant.read c.in-Some.ensures
    c.utf8.text c.requires c.loop-rest.invariant.text ur in
    let f = c.in-Some-piece_at.ensures.found in
    let whole : chars c.in-Some.rest.now ≡ f.0 ++ f.1 = f.2 in
    let had = subst (λ i. Had c.in-Some-piece_at.found.kind f.0 f.1 i) c.is_index_place.ensures f.3 in
    let parts = c.cut.ensures f.0 f.1 whole f.4 in
    let s = turn c.in-Some-piece_at.found.kind f.0 f.1 c.cut.result.0.now c.cut.result.1.now r whole had parts.0 parts.1 c.in-Ok-add.ensures in
    (left_behind c.args.start c.args.text.now c.cut.result.1.now s.parts c.utf8.text c.requires ub s.whole).within

pub returns-in-Some-ends_behind-clause-window : goal.returns-in-Some-ends_behind-clause-window
returns-in-Some-ends_behind-clause-window c =
    let ur : IsUtf8 c.in-Some.rest.now = search rules in
    let ub : IsUtf8 c.cut.result.1.now = search rules in
    let r = reach c.args.text.now c.loop-rest.ahead.now c.in-Some.rest.now c.loop-rest.invariant.read c.in-Some.ensures
    c.utf8.text c.requires c.loop-rest.invariant.text ur in
    let f = c.in-Some-piece_at.ensures.found in
    let whole : chars c.in-Some.rest.now ≡ f.0 ++ f.1 = f.2 in
    let had = subst (λ i. Had c.in-Some-piece_at.found.kind f.0 f.1 i) c.is_index_place.ensures f.3 in
    let parts = c.cut.ensures f.0 f.1 whole f.4 in
    let s = turn c.in-Some-piece_at.found.kind f.0 f.1 c.cut.result.0.now c.cut.result.1.now r whole had parts.0 parts.1 c.in-Ok-add.ensures in
    let stops : ends_in_stop (so_far c.add.new.self) ≡ true = rw c.as_slice-in-Some-piece_at.ensures at (c.in-Some-ends_behind.ensures.stops refl) in
    goes_to c.args.text.now c.args.start (length c.args.text.now - length c.cut.result.1.now) (so_far c.add.new.self) c.in-Some-ends_behind.stop
    c.window-in-Some-ends_behind.result c.window-in-Some-ends_behind.ensures c.in-Some-ends_behind.ensures.more (up_to c.utf8.text c.requires ub s stops)

pub returns-clause-window : goal.returns-clause-window
returns-clause-window c =
    lexes_to c.args.text.now c.args.start (length c.args.text.now) (so_far c.loop-rest.tokens) c.window-2.result c.window-2.ensures
    (ended c.loop-rest.invariant.read (last_gap (chars c.loop-rest.ahead.now) c.in_default.ensures))
