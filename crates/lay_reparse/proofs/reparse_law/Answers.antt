use Rattle.lay_reparse.proofs.file.Reparse.{reparse_at, attained, expr_attained, out_reads, again}
use Rattle.lay_reparse.proofs.reparse_law.Goals as goal

pub returns : goal.returns
returns c = record { each_text = reparse_at; attained = attained; expr_attained = expr_attained; own_text = out_reads; again = again }
