-- What a call answers.
use Rattle.std.specs.Prelude.{ℕ, ◌≡◌, ◌⊎◌, List, ◌++◌, take, drop, length}
use Rattle.lay_text.specs.declared.refusal.Refusal.{Refusal}
use Rattle.lay_text.specs.declared.refusal.Refusal.TheVariants.{NotUtf8, NoToken, Unbalanced, NoItem}
use Rattle.lay_token.specs.declared.place.Place2.{Place2}
use Rattle.lay_code.specs.Out.{out}
use Rattle.lay_code.specs.Reading.{IsRefused}
use Rattle.lay_code.specs.declared.file.File.{File}
use Rattle.lay_files.specs.Places.{place_in}
use Rattle.lay_files.specs.Readings.{ReadsOnlyTo}
use Rattle.lay_c.specs.declared.LayAnswer.{LayAnswer}

-- a buffer with a prefix of the text in it, as much as fits; after it stands what stood there
abbrev pub filled : List ℕ → List ℕ → List ℕ
filled text buffer = take (length buffer) text ++ drop (length text) buffer

-- a text of this length was made
abbrev pub done_answer : ℕ → LayAnswer
done_answer count = record { length = count; at = 0; line = 0; column = 0; status = 0 }

-- no text, by the status that stands for the cause, and the place
abbrev pub refused_by : ℕ → ℕ → Place2 → LayAnswer
refused_by status at place = record { length = 0; at = at; line = place.line; column = place.column; status = status }

abbrev pub refused_answer : Refusal → Place2 → LayAnswer
refused_answer (NotUtf8 at) place = refused_by 1 at place
refused_answer (NoToken at) place = refused_by 2 at place
refused_answer (Unbalanced at) place = refused_by 3 at place
refused_answer (NoItem at) place = refused_by 4 at place

-- no text for want of memory
abbrev pub wanting_answer : LayAnswer
wanting_answer = record { length = 0; at = 0; line = 0; column = 0; status = 5 }

-- The input reads to one file alone, and a prefix of its text stands in the buffer.
pub record IsDone (input : List ℕ) (answer : LayAnswer) (old new : List ℕ) : Type 0 where
  pub file : File
  pub reads : ReadsOnlyTo input file
  pub answers : answer ≡ done_answer (length (out file))
  pub bytes : new ≡ filled (out file) old

-- The input is refused, which is told with the place, and the buffer stays.
pub record IsRefusedWith (input : List ℕ) (answer : LayAnswer) (old new : List ℕ) : Type 0 where
  pub refusal : Refusal
  pub refuses : IsRefused input refusal
  pub answers : answer ≡ refused_answer refusal (place_in input refusal)
  pub same : new ≡ old

-- Memory was not found, and the buffer stays.
pub record IsWanting (answer : LayAnswer) (old new : List ℕ) : Type 0 where
  pub answers : answer ≡ wanting_answer
  pub same : new ≡ old

-- One of the three.
abbrev pub AnswersAs : List ℕ → LayAnswer → List ℕ → List ℕ → Type 0
AnswersAs input answer old new = IsDone input answer old new ⊎ (IsRefusedWith input answer old new ⊎ IsWanting answer old new)
