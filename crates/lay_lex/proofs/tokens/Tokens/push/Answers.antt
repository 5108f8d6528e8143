use Rattle.std.proofs.Common.{true, sym, ap, ◌∙◌}
use Rattle.lay_lex.specs.Added.{before, ends_in_mark, ends_joint}
use Rattle.lay_lex.proofs.Added.{apart_added, ends_added, other_added, other_behind, other_mark}
use Rattle.lay_lex.proofs.tokens.Tokens.push.Goals as goal

pub invariant_of-self-2 : goal.invariant_of-self-2
invariant_of-self-2 c =
    let old = c.args.self.now in
    let tokens = other_added true old.mark c.args.token old.read.items c.push.new.self.items old.last old.apart c.requires.kind c.in_ok-push.ensures.items in
    record {
      last = sym (ap ends_in_mark tokens ∙ ends_added true c.args.token old.read.items ∙ other_mark c.args.token c.requires.kind);
      apart = ap ends_joint tokens ∙ apart_added true c.args.token old.read.items ∙ c.requires.apart;
    }

pub returns : goal.returns
returns c touches =
    let old = c.args.self.now in
    record {
      tokens = other_added touches old.mark c.args.token old.read.items c.push.new.self.items old.last old.apart c.requires.kind c.in_ok-push.ensures.items;
      before = other_behind (before old.before) touches c.args.token c.requires.kind;
    }
