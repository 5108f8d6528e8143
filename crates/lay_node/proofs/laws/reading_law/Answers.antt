use Rattle.lay_node.proofs.reader.AttrRead.{attrs_exact}
use Rattle.lay_node.proofs.reader.Call.{groups, calls}
use Rattle.lay_node.proofs.reader.AliasComplete.{aliases_exact}
use Rattle.lay_node.proofs.reader.FunctionsComplete.{fn_heads_exact}
use Rattle.lay_node.proofs.reader.ImplHeadsComplete.{impl_heads_exact}
use Rattle.lay_node.proofs.reader.OutsideExact.{extern_crates_exact}
use Rattle.lay_node.proofs.reader.StructsExact.{enums_exact, structs_exact, unions_exact}
use Rattle.lay_node.proofs.reader.TraitHeads.{trait_heads_exact}
use Rattle.lay_node.proofs.reader.ValueHeads.{value_heads_exact}
use Rattle.lay_node.proofs.reader.Vis.{vis_exact}
use Rattle.lay_node.proofs.reader.PatternsExact.{pats_exact}
use Rattle.lay_node.proofs.reader.SimplePath.{simple_paths}
use Rattle.lay_node.proofs.reader.TypesExact.{types_exact, paths_exact, args_exact, bounds_exact, generics_exact, wheres_exact}
use Rattle.lay_node.proofs.reader.Use.{use_trees}
use Rattle.lay_node.proofs.laws.reading_law.Goals as goal

pub returns : goal.returns
returns c = record {
  simple_paths = simple_paths;
  groups = groups;
  calls = calls;
  attrs = attrs_exact;
  types = types_exact;
  paths = paths_exact;
  args = args_exact;
  bounds = bounds_exact;
  generics = generics_exact;
  wheres = wheres_exact;
  pats = pats_exact;
  use_trees = use_trees;
  visibilities = vis_exact;
  extern_crates = extern_crates_exact;
  aliases = aliases_exact;
  structs = structs_exact;
  unions = unions_exact;
  enums = enums_exact;
  fn_heads = fn_heads_exact;
  value_heads = value_heads_exact;
  trait_heads = trait_heads_exact;
  impl_heads = impl_heads_exact;
}
