-- The parser of visibilities.
use Rattle.std.specs.Prelude.{if◌then◌else◌, drop, codes, Some}
use Rattle.lay_piece.specs.declared.kind.Delim.TheVariants.{Paren}
use Rattle.lay_node.specs.Ahead.{Tokens, first, tail, is_keyword, closes}
use Rattle.lay_node.specs.nodes.Vis.{restricts_in, restricts_to}
use Rattle.lay_node.specs.reader.Loops.{Got, ◌>>=◌, passed}
use Rattle.lay_node.specs.reader.SimplePath.{simple_path}
use Rattle.lay_node.specs.declared.vis.Vis.{Vis}
use Rattle.lay_node.specs.declared.vis.Vis.TheVariants as vis

-- the path after `(in`, and the `)` after it
abbrev pub vis_path : Tokens → Got Vis
vis_path ts = do p ← simple_path ts; rest ← passed (closes Paren) p.1; Some (vis.In p.0, rest)

-- what follows `pub`
abbrev pub vis_behind : Tokens → Got Vis
vis_behind ts =
    if restricts_to (codes "crate") ts then Some (vis.Crate, drop 3 ts)
    else (if restricts_to (codes "self") ts then Some (vis.Own, drop 3 ts)
    else (if restricts_to (codes "super") ts then Some (vis.Super, drop 3 ts)
    else (if restricts_in ts then vis_path (drop 2 ts) else Some (vis.Public, ts))))

unfoldable pub visibility : Tokens → Got Vis
visibility ts = if first (is_keyword (codes "pub")) ts then vis_behind (tail ts) else Some (vis.Inherited, ts)
