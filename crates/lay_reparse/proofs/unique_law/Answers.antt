use Rattle.lay_reparse.proofs.file.OneAnswer as answer
use Rattle.lay_reparse.proofs.file.SomeAnswer.{some_answer}
use Rattle.lay_reparse.proofs.unique_law.Goals as goal

pub returns : goal.returns
returns c = record {
  some_answer = some_answer;
  one_file = λ depth. answer.one_file;
  one_refusal = answer.one_refusal;
  never_both = λ depth. answer.never_both;
}
