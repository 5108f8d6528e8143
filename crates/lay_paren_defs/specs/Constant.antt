-- The file `const _: () = x;` of an expression x.
use Rattle.std.specs.Prelude.{[], ◌∷◌, Some, None}
use Rattle.lay_node.specs.declared.heads.ValueHead.TheVariants as head
use Rattle.lay_node.specs.declared.token.GivenName.TheVariants as given
use Rattle.lay_node.specs.declared.types.Ty.TheVariants as ty
use Rattle.lay_node.specs.declared.vis.Vis.TheVariants as vis
use Rattle.lay_code.specs.declared.exprs.Expr.{Expr}
use Rattle.lay_code.specs.declared.file.File.{File}
use Rattle.lay_code.specs.declared.item.Item.{Item}
use Rattle.lay_code.specs.declared.item.ItemKind.TheVariants as kind

-- `const _: () = x;`
abbrev pub constant_item : Expr → Item
constant_item x =
    record { attrs = []; vis = vis.Inherited; kind = kind.Value (head.Const given.Underscore (ty.Tuple [])) (Some x) }

-- the file that holds this item and nothing else
abbrev pub constant : Expr → File
constant x = record { shebang = None; attrs = []; items = constant_item x ∷ [] }
