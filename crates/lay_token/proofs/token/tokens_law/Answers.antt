use Rattle.lay_token.proofs.Unique.{lexes_once, no_token_once, no_token_or_tokens}
use Rattle.lay_token.proofs.token.tokens_law.Goals as goal

pub returns : goal.returns
returns c = record { one_list = lexes_once; one_place = no_token_once; never_both = no_token_or_tokens }
