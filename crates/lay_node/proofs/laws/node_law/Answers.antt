use Rattle.lay_node.specs.nodes.Attr.{about_attr}
use Rattle.lay_node.specs.nodes.Call.{about_group, about_call}
use Rattle.lay_node.specs.nodes.SimplePath.{about_simple_path}
use Rattle.lay_node.specs.nodes.Use.{about_use}
use Rattle.lay_node.specs.reader.Attr.{attribute}
use Rattle.lay_node.specs.reader.Call.{call}
use Rattle.lay_node.specs.reader.Exact.{needless}
use Rattle.lay_node.specs.reader.SimplePath.{simple_path}
use Rattle.lay_node.specs.reader.Tokens.{group}
use Rattle.lay_node.specs.reader.Use.{use_at}
use Rattle.lay_node.proofs.reader.AttrRead.{attrs_exact}
use Rattle.lay_node.proofs.reader.Call.{groups, calls}
use Rattle.lay_node.proofs.reader.Exact.{one_at_most}
use Rattle.lay_node.proofs.reader.HeadsExact.{one_alias, one_enum, one_extern_crate, one_fn_head, one_impl_head, one_struct, one_trait_head, one_union, one_value_head, one_vis}
use Rattle.lay_node.proofs.reader.PatternsExact.{one_pat}
use Rattle.lay_node.proofs.reader.SimplePath.{simple_paths}
use Rattle.lay_node.proofs.reader.TypesExact.{one_type, one_path, one_args, one_bounds, one_generics, one_wheres}
use Rattle.lay_node.proofs.reader.Use.{use_trees}
use Rattle.lay_node.proofs.laws.node_law.Goals as goal

pub returns : goal.returns
returns c = record {
  one_simple_path = one_at_most about_simple_path (needless simple_path) simple_paths;
  one_group = one_at_most about_group (needless group) groups;
  one_call = one_at_most about_call (needless call) calls;
  one_attr = λ node other inner. one_at_most (about_attr inner) (needless (attribute inner)) (attrs_exact inner) node other;
  one_type = λ node other place. one_type place node other;
  one_path = λ node other style. one_path style node other;
  one_args = λ node other style. one_args style node other;
  one_bounds = one_bounds;
  one_generics = one_generics;
  one_wheres = one_wheres;
  one_pat = λ node other place. one_pat place node other;
  one_use = one_at_most about_use use_at use_trees;
  one_vis = one_vis;
  one_extern_crate = one_extern_crate;
  one_alias = λ node other site. one_alias site node other;
  one_struct = one_struct;
  one_union = one_union;
  one_enum = one_enum;
  one_fn_head = λ node other site. one_fn_head site node other;
  one_value_head = one_value_head;
  one_trait_head = one_trait_head;
  one_impl_head = one_impl_head;
}
