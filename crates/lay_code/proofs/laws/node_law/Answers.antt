use Rattle.lay_code.proofs.reader.ExprExact.{one_expr}
use Rattle.lay_code.proofs.reader.File.{one_file}
use Rattle.lay_code.proofs.reader.ItemExact.{one_item}
use Rattle.lay_code.proofs.laws.node_law.Goals as goal

pub returns : goal.returns
returns c = record {
  one_expr = λ node other place. one_expr place node other;
  one_item = λ node other site. one_item site node other;
  one_file = one_file;
}
