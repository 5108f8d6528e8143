use Rattle.lay_code.specs.reader.Blocks.{branch_by}
use Rattle.lay_read_tokens.proofs.Steps.{lost}
use Rattle.lay_read_shared.specs.Code.{code_within}
use Rattle.lay_read_branches.specs.Answers.{branches}
use Rattle.lay_read_branches.proofs.Chains.{branches_in, branches_none, branches_read}
use Rattle.lay_read_branches.proofs.rules.BranchRules.branches.Goals as goal

pub returns-in-Ok-clause-read : goal.returns-in-Ok-clause-read
returns-in-Ok-clause-read g c =
    branches_read (code_within c.args.self.now.rules.depth) c.args.at.now c.in-Ok.first c.branch_by.new.at c.else_branches-more.result
    c.else_branches-more.new.at c.branches_of.result c.in-Ok.ensures.read c.else_branches-more.ensures.read c.branches_of.ensures

pub returns-in-Ok-clause-within : goal.returns-in-Ok-clause-within
returns-in-Ok-clause-within g c =
    branches_in c.in-Ok.first c.else_branches-more.result c.branches_of.result c.args.self.now.rules.depth c.in-Ok.ensures.within
    c.else_branches-more.ensures.within c.branches_of.ensures

pub returns-in-Err-clause-read : goal.returns-in-Err-clause-read
returns-in-Err-clause-read g c =
    let deeper = code_within c.args.self.now.rules.depth in
    let ts = c.args.at.now in
    lost (branch_by deeper ts) (branches deeper ts) c.in-Err.none c.in-Err.ensures.read (branches_none deeper ts)
