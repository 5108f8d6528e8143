use Rattle.std.proofs.Common.{rules, ◌≡◌, List, [], None, Some, sym, subst}
use Rattle.lay_token.specs.declared.token.Token.{Token}
use Rattle.lay_read_tokens.specs.Answers.{AreLexed}
use Rattle.lay_files.proofs.windows_lemmas.Reading.{end_is}
use Rattle.lay_files.specs.streamed.Through.{PutsParts}
use Rattle.lay_files.proofs.streamed_lemmas.ReadParts.{inner_lexed, parts_led, parts_put}
use Rattle.lay_files.proofs.streamed.parts.put_parts.Goals as goal

pub put_inner-requires : goal.put_inner-requires
put_inner-requires g c = subst AreLexed (sym c.cursor-at.ensures.tokens) c.requires

pub put_items-requires : goal.put_items-requires
put_items-requires g c =
    inner_lexed g.E.Emit.meanings c.args.within c.args.are_items.now c.cursor-at.result c.put_inner.new.at c.args.out.now c.put_inner.new.out
    c.in_ok-put_inner.ensures (subst AreLexed (sym c.cursor-at.ensures.tokens) c.requires)

pub read_head-requires : goal.read_head-requires
read_head-requires g c = c.in_ok-put_items.ensures.stand.lexed

pub returns-then-is_end : goal.returns-then-is_end
returns-then-is_end g c =
    let m = g.E.Emit.meanings in
    let none : c.put_items.new.at ≡ [] = end_is c.put_items.new.at (search rules) in
    subst (λ (ts : List Token). PutsParts m c.args.within c.args.depth ts c.args.are_items.now c.put_items.new.are_items None c.args.out.now c.put_items.new.out)
    c.cursor-at.ensures.tokens
    (parts_put m c.args.within c.args.depth c.args.are_items.now c.put_items.new.are_items c.cursor-at.result c.put_inner.new.at c.put_items.new.at
    c.args.out.now c.put_inner.new.out c.put_items.new.out c.in_ok-put_inner.ensures c.in_ok-put_items.ensures none)

pub returns-in-Ok : goal.returns-in-Ok
returns-in-Ok g c =
    let m = g.E.Emit.meanings in
    subst (λ (ts : List Token). PutsParts m c.args.within c.args.depth ts c.args.are_items.now c.put_items.new.are_items (Some c.in-Ok.head) c.args.out.now c.put_items.new.out)
    c.cursor-at.ensures.tokens
    (parts_led m c.args.within c.args.depth c.args.are_items.now c.put_items.new.are_items c.cursor-at.result c.put_inner.new.at c.put_items.new.at
    c.args.out.now c.put_inner.new.out c.put_items.new.out c.in_ok-put_inner.ensures c.in_ok-put_items.ensures c.in-Ok.head (search rules) c.in-Ok.ensures)
