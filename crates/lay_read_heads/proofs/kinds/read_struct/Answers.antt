use Rattle.std.proofs.Common.{sym, ap, ◌∙◌, codes}
use Rattle.lay_node.specs.Ahead.{first, is_keyword}
use Rattle.lay_read_heads.proofs.AsKinds.{struct_front, union_front}
use Rattle.lay_read_heads.proofs.kinds.read_struct.Goals as goal

pub returns-then-is_at_keyword : goal.returns-then-is_at_keyword
returns-then-is_at_keyword c = union_front c.args.depth c.args.at.now c.read_union_alone.new.at (ap (first (is_keyword (codes "union"))) (sym (c.new-ahead.ensures ∙ c.fork.ensures)) ∙ sym c.if-is_at_keyword.ensures) c.read_union_alone.result c.read_union_alone.ensures

pub returns-else-is_at_keyword : goal.returns-else-is_at_keyword
returns-else-is_at_keyword c = struct_front c.args.depth c.args.at.now c.read_struct_alone.new.at (ap (first (is_keyword (codes "union"))) (sym (c.new-ahead.ensures ∙ c.fork.ensures)) ∙ sym c.if-is_at_keyword.ensures) c.read_struct_alone.result c.read_struct_alone.ensures
