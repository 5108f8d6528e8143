use Rattle.lay_read_tokens.proofs.Lexed.{lexed_texts}
use Rattle.lay_read_tokens.proofs.ahead.Ahead.new.Goals as goal

pub invariant_of-result : goal.invariant_of-result
invariant_of-result c = lexed_texts c.args.at c.requires
