use Rattle.lay_reparse.proofs.tokens.TokenLists.{token_list_reads, token_list_decides}
use Rattle.lay_reparse.proofs.token_list_law.Goals as goal

pub returns : goal.returns
returns c = record { reads = token_list_reads; decides = token_list_decides }
