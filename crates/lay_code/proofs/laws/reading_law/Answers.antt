use Rattle.lay_code.proofs.GoodShebang.{source_good}
use Rattle.lay_code.proofs.reader.ExprExact.{exprs_exact}
use Rattle.lay_code.proofs.reader.ItemExact.{items_exact}
use Rattle.lay_code.proofs.laws.reading_law.Goals as goal

pub returns : goal.returns
returns c = record {
  exprs = exprs_exact;
  items = items_exact;
  good_shebang = source_good;
}
