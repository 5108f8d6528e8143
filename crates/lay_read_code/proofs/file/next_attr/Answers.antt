use Rattle.std.proofs.Common.{rules}
use Rattle.lay_read_code.proofs.Files.{attr_read, lexed_attr, no_attr_read}
use Rattle.lay_read_code.proofs.file.next_attr.Goals as goal

pub returns-in-Ok-clause-lexed : goal.returns-in-Ok-clause-lexed
returns-in-Ok-clause-lexed c = lexed_attr c.args.at.now c.read_attr.new.at c.in-Ok.attr c.requires c.in-Ok.ensures.0

pub returns-in-Ok-clause-next : goal.returns-in-Ok-clause-next
returns-in-Ok-clause-next c = attr_read c.args.at.now c.read_attr.new.at c.in-Ok.attr c.in-Ok.ensures.0

pub returns-in-Err-NoReading-clause-next : goal.returns-in-Err-NoReading-clause-next
returns-in-Err-NoReading-clause-next c =
    no_attr_read c.args.at.now c.read_attr.new.at c.in-Err-NoReading.field-0 (search rules) c.requires c.in-Err-NoReading.ensures
