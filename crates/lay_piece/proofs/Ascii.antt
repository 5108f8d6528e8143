-- The tables of characters at ASCII, proved by trying each character.
use Rattle.std.proofs.Common.{◌≡◌, ℕ, ◌<◌, true, ◌||◌, refl}
use Rattle.std.specs.Prelude.{◌==◌}
use Rattle.std.specs.Char.{is_ascii_alphabetic, is_ascii_digit}
use Rattle.std.proofs.lemmas.Bool.{agree_below, agree_below_at}
use Rattle.unicode_ident.proofs.Computing.{unicode_ident}
use Rattle.lay_piece.specs.Chars.{starts_word, in_word}

starts_table : agree_below starts_word (λ c. is_ascii_alphabetic c || c == 95) 128 ≡ true
unfolding unicode_ident starts_word
starts_table = refl

pub ascii_starts : (c : ℕ) → c < 128 → starts_word c ≡ (is_ascii_alphabetic c || c == 95)
ascii_starts c h = agree_below_at starts_word (λ c. is_ascii_alphabetic c || c == 95) 128 c starts_table h

word_table : agree_below in_word (λ c. is_ascii_alphabetic c || is_ascii_digit c || c == 95) 128 ≡ true
unfolding unicode_ident in_word
word_table = refl

pub ascii_in_word : (c : ℕ) → c < 128 → in_word c ≡ (is_ascii_alphabetic c || is_ascii_digit c || c == 95)
ascii_in_word c h = agree_below_at in_word (λ c. is_ascii_alphabetic c || is_ascii_digit c || c == 95) 128 c word_table h
