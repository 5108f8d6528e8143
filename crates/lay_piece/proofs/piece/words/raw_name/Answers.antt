use Rattle.std.proofs.Common.{◌≡◌, ℕ, List, ◌++◌, Bool, true, false, cond, not, sym, refl, ap, ◌∙◌, ◌-◌, length, take, IsUtf8, rules}
use Rattle.std.specs.Str.{chars, encode_utf8_all}
use Rattle.lay_piece.specs.Chars.{after, front, in_word, begins_suffix}
use Rattle.lay_piece.specs.Word.{is_path_word}
use Rattle.lay_piece.specs.Found.{found, raw_name}
use Rattle.lay_piece.specs.declared.kind.Kind.TheVariants.{RawIdent}
use Rattle.std.proofs.Common.{None}
use Rattle.lay_piece.proofs.Fronts.{front-after}
use Rattle.lay_piece.proofs.Texts.{bytes_before}
use Rattle.lay_piece.proofs.piece.words.raw_name.Goals as goal

-- the word and what follows it, where the bytes of the word are known
name_at : (s r bytes : List ℕ) (path : Bool) → IsUtf8 s → IsUtf8 r → begins_suffix (chars s) ≡ true
    → chars r ≡ after in_word (chars s)
    → bytes ≡ take (length s - length r) s → path ≡ is_path_word bytes
    → raw_name (chars s) ≡ cond (not path) (found RawIdent (chars r)) None
name_at s r bytes path us ur b e f p =
    let parts : chars s ≡ front in_word (chars s) ++ chars r = front-after in_word (chars s)
    ∙ ap (λ x. front in_word (chars s) ++ x) (sym e) in
    let word : bytes ≡ encode_utf8_all (front in_word (chars s)) = f
    ∙ bytes_before s r (front in_word (chars s)) us ur parts in
    rw (b, e, p, word) refl

pub returns-then-is_path_word : goal.returns-then-is_path_word
returns-then-is_path_word c =
    let ur : IsUtf8 c.after-rest.result.now = search rules in
    name_at c.args.s.now c.after-rest.result.now c.before-2.result.now true c.utf8.s ur
    (sym c.if-not-begins_suffix.ensures) c.after-rest.ensures.run
    c.before-2.ensures c.if-is_path_word.ensures

pub returns : goal.returns
returns c =
    let ur : IsUtf8 c.after-rest.result.now = search rules in
    name_at c.args.s.now c.after-rest.result.now c.before-2.result.now false c.utf8.s ur
    (sym c.if-not-begins_suffix.ensures) c.after-rest.ensures.run
    c.before-2.ensures c.if-is_path_word.ensures
