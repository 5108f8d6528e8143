-- The gap and the piece that were found are the part at the beginning.
use Rattle.std.proofs.Common.{rules, ◌≡◌, ℕ, Bool, List, ◌∷◌, ◌++◌, ◌-◌, Option, IsUtf8, length, refl, sym, ap, ◌∙◌, subst}
use Rattle.std.specs.Prelude.{encode_utf8_all}
use Rattle.std.specs.Str.{chars}
use Rattle.lay_piece.specs.Begins.{BeginsNoPiece}
use Rattle.lay_piece.specs.Forms.{Had}
use Rattle.lay_token.specs.Lexes.{Before, is_index_place, is_joint, size, step, text_of_piece, tokens_from}
use Rattle.lay_token.specs.declared.token.Token.{Token}
use Rattle.lay_lex.specs.Added.{before as seen}
use Rattle.lay_lex.specs.one_by_one.Ahead.{IsNext, parts_of, tokens_ahead}
use Rattle.lay_lex.specs.declared.one_by_one.cursor.Lexeme.{Lexeme}
use Rattle.lay_lex.proofs.one_by_one_lemmas.PartLemmas.{none_there}
use Rattle.lay_lex.proofs.one_by_one_lemmas.TokenLemmas.{none_ahead, turned}
use Rattle.lay_lex.proofs.one_by_one.cursor.Cursor.next.Goals as goal

pub returns-in_err-found : goal.returns-in_err-found
returns-in_err-found c =
    let self = c.args.self.now in
    let rest = c.in_ok-rest.rest.now in
    let none : BeginsNoPiece (chars rest) (is_index_place (seen self.before)) = λ k piece more e h.
    c.in_err-found.ensures.only k piece more e (subst (λ (i : Bool). Had k piece more i) (sym c.is_index_place.ensures) h) in
    let nothing = none_ahead (seen self.before) (self.end - length self.ahead.now) (chars self.ahead.now)
    (none_there (seen self.before) (chars rest) (chars self.ahead.now) c.in_ok-rest.ensures none) in
    subst (λ (x : Option Lexeme). IsNext (tokens_ahead self) x (tokens_ahead self)) (sym c.from_residual-in_err-found.ensures) (nothing, nothing)

pub overflow_sub-lexeme : goal.overflow_sub-lexeme
overflow_sub-lexeme c =
    let self = c.args.self.now in
    let ua : IsUtf8 self.ahead.now = search rules in
    let ur : IsUtf8 c.in_ok-rest.rest.now = search rules in
    let ub : IsUtf8 c.cut.result.1.now = search rules in
    let f = c.in_ok-found.ensures.found in
    let parts = c.cut.ensures f.0 f.1 f.2 f.4 in
    let whole : chars c.in_ok-rest.rest.now ≡ f.0 ++ chars c.cut.result.1.now = f.2 ∙ ap (λ (x : List ℕ). f.0 ++ x) (sym parts.1) in
    let had = subst (λ (x : List ℕ). Had c.in_ok-found.found.kind f.0 x (is_index_place (seen self.before))) (sym parts.1)
    (subst (λ (i : Bool). Had c.in_ok-found.found.kind f.0 f.1 i) c.is_index_place.ensures f.3) in
    (turned (seen self.before) self.end self.ahead.now c.in_ok-rest.rest.now c.cut.result.1.now f.0 c.in_ok-found.found.kind
    c.in_ok-rest.ensures whole had self.within ua ur ub).within

pub invariant_of-self : goal.invariant_of-self
invariant_of-self c =
    let self = c.args.self.now in
    let ua : IsUtf8 self.ahead.now = search rules in
    let ur : IsUtf8 c.in_ok-rest.rest.now = search rules in
    let ub : IsUtf8 c.cut.result.1.now = search rules in
    let f = c.in_ok-found.ensures.found in
    let parts = c.cut.ensures f.0 f.1 f.2 f.4 in
    let whole : chars c.in_ok-rest.rest.now ≡ f.0 ++ chars c.cut.result.1.now = f.2 ∙ ap (λ (x : List ℕ). f.0 ++ x) (sym parts.1) in
    let had = subst (λ (x : List ℕ). Had c.in_ok-found.found.kind f.0 x (is_index_place (seen self.before))) (sym parts.1)
    (subst (λ (i : Bool). Had c.in_ok-found.found.kind f.0 f.1 i) c.is_index_place.ensures f.3) in
    let t = turned (seen self.before) self.end self.ahead.now c.in_ok-rest.rest.now c.cut.result.1.now f.0 c.in_ok-found.found.kind
    c.in_ok-rest.ensures whole had self.within ua ur ub in
    record { within = t.behind_within }

pub returns : goal.returns
returns c =
    let self = c.args.self.now in
    let kind = c.in_ok-found.found.kind in
    let behind = c.cut.result.1.now in
    let ua : IsUtf8 self.ahead.now = search rules in
    let ur : IsUtf8 c.in_ok-rest.rest.now = search rules in
    let ub : IsUtf8 c.cut.result.1.now = search rules in
    let f = c.in_ok-found.ensures.found in
    let parts = c.cut.ensures f.0 f.1 f.2 f.4 in
    let whole : chars c.in_ok-rest.rest.now ≡ f.0 ++ chars behind = f.2 ∙ ap (λ (x : List ℕ). f.0 ++ x) (sym parts.1) in
    let had = subst (λ (x : List ℕ). Had kind f.0 x (is_index_place (seen self.before))) (sym parts.1)
    (subst (λ (i : Bool). Had kind f.0 f.1 i) c.is_index_place.ensures f.3) in
    let t = turned (seen self.before) self.end self.ahead.now c.in_ok-rest.rest.now behind f.0 kind c.in_ok-rest.ensures whole had self.within ua ur ub in
    let token : Token = record {
      kind = kind;
      text = encode_utf8_all (text_of_piece kind f.0);
      joint = is_joint t.part (parts_of (step (seen self.before) t.part) (chars behind));
      at = self.end - length c.in_ok-rest.rest.now;
      len = size f.0;
    } in
    let before = c.behind_piece-self.ensures t.part t.kind_is (t.piece_is ∙ sym parts.0) t.touches in (
      token,
      t.tokens ∙ ap (λ (b : Before). token ∷ tokens_from (self.end - length behind) (parts_of b (chars behind))) (sym before),
      record {
        kind = refl;
        text = sym (c.text_of_piece.ensures ∙ ap (λ (x : List ℕ). encode_utf8_all (text_of_piece kind x)) parts.0);
        at = refl;
        len = sym f.4;
      },
    )
