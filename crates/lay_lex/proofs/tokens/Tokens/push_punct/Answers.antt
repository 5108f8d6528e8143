use Rattle.std.proofs.Common.{Bool, ◌&&◌, cond, not, sym, ap, ◌∙◌}
use Rattle.lay_token.specs.Lexes.{is_point, Other, Point, Points}
use Rattle.lay_lex.specs.Added.{before, ends_in_mark, ends_joint}
use Rattle.lay_lex.proofs.Added.{apart_added, ends_added, pushed, punct_mark, punct_behind}
use Rattle.lay_lex.proofs.tokens.Tokens.push_punct.Goals as goal

pub invariant_of-self-2 : goal.invariant_of-self-2
invariant_of-self-2 c =
    let old = c.args.self.now in
    let mark = ap not c.is_separator-mark.ensures ∙ punct_mark c.args.token c.args.text.now c.requires.kind c.requires.text in
    let tokens = pushed c.args.touches old.mark (not c.is_separator-mark.result) c.is_joint-joint.result c.args.token old.read.items
    c.reserve.new.self.items c.join_last.new.tokens.items c.push_reserved.new.self.items old.last old.apart mark
    c.is_joint-joint.ensures c.reserve.ensures.items c.join_last.ensures.items c.push_reserved.ensures.items in
    record {
      last = mark ∙ sym (ends_added c.args.touches c.args.token old.read.items) ∙ ap ends_in_mark (sym tokens);
      apart = ap ends_joint tokens ∙ apart_added c.args.touches c.args.token old.read.items ∙ c.requires.apart;
    }

pub returns : goal.returns
returns c =
    let old = c.args.self.now in
    let mark = ap not c.is_separator-mark.ensures ∙ punct_mark c.args.token c.args.text.now c.requires.kind c.requires.text in
    record {
      tokens = pushed c.args.touches old.mark (not c.is_separator-mark.result) c.is_joint-joint.result c.args.token old.read.items
          c.reserve.new.self.items c.join_last.new.tokens.items c.push_reserved.new.self.items old.last old.apart mark
          c.is_joint-joint.ensures c.reserve.ensures.items c.join_last.ensures.items c.push_reserved.ensures.items;
      before =
          c.behind-before.ensures
          ∙ ap (λ (p : Bool). cond p (cond (is_point (before old.before) && c.args.touches) Points Point) Other) c.is_point.ensures
          ∙ punct_behind (before old.before) c.args.touches c.args.token c.args.text.now c.requires.kind c.requires.text;
    }
