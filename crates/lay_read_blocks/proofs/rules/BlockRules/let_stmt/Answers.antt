use Rattle.lay_code.specs.reader.Blocks.{let_stmt}
use Rattle.lay_read_tokens.proofs.Steps.{lost}
use Rattle.lay_read_shared.specs.Code.{code_within}
use Rattle.lay_read_blocks.specs.Answers.{let_head}
use Rattle.lay_read_blocks.proofs.Chains.{let_in, let_none, let_read}
use Rattle.lay_read_blocks.proofs.rules.BlockRules.let_stmt.Goals as goal

pub returns-in-Ok-clause-read : goal.returns-in-Ok-clause-read
returns-in-Ok-clause-read g c =
    rw c.let_of.ensures (let_read (code_within c.args.self.now.depth) c.args.at.now c.args.attrs c.in-Ok.head c.let_head.new.at
    c.let_behind-behind.result c.let_behind-behind.new.at c.in-Ok.ensures.read c.let_behind-behind.ensures.read)

pub returns-in-Ok-clause-within : goal.returns-in-Ok-clause-within
returns-in-Ok-clause-within g c =
    rw c.let_of.ensures (let_in c.args.attrs c.in-Ok.head c.let_behind-behind.result c.args.self.now.depth c.in-Ok.ensures.within
    c.let_behind-behind.ensures.within)

pub returns-in-Err-clause-read : goal.returns-in-Err-clause-read
returns-in-Err-clause-read g c =
    let deeper = code_within c.args.self.now.depth in
    let ts = c.args.at.now in
    lost (let_head deeper ts) (let_stmt deeper c.args.attrs ts) c.in-Err.none c.in-Err.ensures.read (let_none deeper ts c.args.attrs)
