use Rattle.lay_read_tokens.proofs.Lexed.{front_string, front_utf8}
use Rattle.lay_read_tokens.proofs.ahead.Ahead.front.Goals as goal

pub returns-clause-string : goal.returns-clause-string
returns-clause-string c = front_string c.self.inside.at c.peek.result c.peek.ensures.token c.self.invariant

pub returns-clause-text : goal.returns-clause-text
returns-clause-text c = front_utf8 c.self.inside.at c.peek.result c.peek.ensures.token c.self.invariant
