use Rattle.std.proofs.Common.{rules, ◌≡◌, true}
use Rattle.std.specs.Prelude.{codes}
use Rattle.lay_node.specs.Ahead.{first, is_keyword, tail}
use Rattle.lay_files.proofs.windows_lemmas.Reading.{module_name}
use Rattle.lay_files.proofs.windows.heads.read_module_name.Goals as goal

pub returns-then-is_end : goal.returns-then-is_end
returns-then-is_end c =
    let start : c.new-ahead.result ≡ c.args.at.now = search rules in
    let word : first (is_keyword (codes "mod")) c.args.at.now ≡ true = search rules in
    let behind : c.takes_keyword.new.at ≡ tail c.args.at.now = search rules in
    module_name c.args.at.now c.takes_keyword.new.at c.read_name.new.at c.in_ok-name.name word behind c.in_ok-name.ensures (search rules)
