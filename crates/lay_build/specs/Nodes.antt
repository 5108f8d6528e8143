-- Which node each call that builds statements, blocks, items or files makes.
use Rattle.std.specs.Prelude.{ℕ, Bool, true, false, List, [], ◌∷◌, ◌++◌, map, codes, Option, Some, None}
use Rattle.lay_piece.specs.Docs.{doc_form}
use Rattle.lay_piece.specs.declared.doc.DocForm.{DocForm}
use Rattle.lay_piece.specs.declared.doc.DocForm.TheVariants.{Neither}
use Rattle.lay_piece.specs.declared.kind.Kind.TheVariants as kind
use Rattle.lay_node.specs.declared.attr.Attr.{Attr}
use Rattle.lay_node.specs.declared.attr.Attr.TheVariants as attr
use Rattle.lay_node.specs.declared.attr.MetaInput.TheVariants as input
use Rattle.lay_node.specs.declared.attr.MetaPath.{MetaPath}
use Rattle.lay_node.specs.declared.attr.MetaPath.TheVariants as meta_path
use Rattle.lay_node.specs.declared.fields.Field.{Field}
use Rattle.lay_node.specs.declared.fields.Fields.TheVariants as fields
use Rattle.lay_node.specs.declared.functions.FnHead.{FnHead}
use Rattle.lay_node.specs.declared.functions.Param.{Param}
use Rattle.lay_node.specs.declared.functions.ParamKind.TheVariants as param_kind
use Rattle.lay_node.specs.declared.generics.Generics.{Generics}
use Rattle.lay_node.specs.declared.generics.Wheres.{Wheres}
use Rattle.lay_node.specs.declared.heads.ValueHead.TheVariants as head
use Rattle.lay_node.specs.declared.patterns.Pat.{Pat}
use Rattle.lay_node.specs.declared.patterns.Pat.TheVariants as pat
use Rattle.lay_node.specs.declared.token.GivenName.TheVariants as given_name
use Rattle.lay_node.specs.declared.token.Listed.{Listed}
use Rattle.lay_node.specs.declared.token.Listed.TheVariants as listed
use Rattle.lay_node.specs.declared.token.Name.{Name}
use Rattle.lay_node.specs.declared.types.Ty.{Ty}
use Rattle.lay_node.specs.declared.vis.Vis.{Vis}
use Rattle.lay_node.specs.declared.vis.Vis.TheVariants as vis
use Rattle.lay_code.specs.declared.blocks.Block.{Block}
use Rattle.lay_code.specs.declared.blocks.Stmt.{Stmt}
use Rattle.lay_code.specs.declared.blocks.Stmt.TheVariants as stmt
use Rattle.lay_code.specs.declared.exprs.Expr.{Expr}
use Rattle.lay_code.specs.declared.file.File.{File}
use Rattle.lay_code.specs.declared.item.Item.{Item}
use Rattle.lay_code.specs.declared.item.ItemKind.{ItemKind}
use Rattle.lay_code.specs.declared.item.ItemKind.TheVariants as item
use Rattle.lay_build_types.specs.Strings.{string_text}
use Rattle.lay_build.specs.declared.kinds.NamedType.{NamedType}

-- ---- statements and blocks

-- the pattern that binds this name
abbrev pub bind : Name → Pat
bind given = pat.Bind false false given None

abbrev pub stmt_let : Name → Option Ty → Expr → Stmt
stmt_let given asked value = stmt.Let [] (bind given) asked (Some value) None

abbrev pub stmt_expr : Expr → Stmt
stmt_expr x = stmt.Expr [] x true

abbrev pub tail_stmt : Option Expr → List Stmt
tail_stmt None = []
tail_stmt (Some x) = stmt.Expr [] x false ∷ []

abbrev pub block_of : List Stmt → Block
block_of stmts = record { attrs = []; stmts = stmts }

abbrev pub block : List Stmt → Option Expr → Block
block stmts tail = block_of (stmts ++ tail_stmt tail)

-- ---- parameters, which are fields of structs too

abbrev pub param : Name → Ty → NamedType
param given of = record { name = given; ty = of }

-- ---- items

abbrev pub visibility : Bool → Vis
visibility true = vis.Public
visibility false = vis.Inherited

abbrev pub item_of : Bool → ItemKind → Item
item_of public what = record { attrs = []; vis = visibility public; kind = what }

abbrev pub no_generics : Generics
no_generics = record { params = [] }

abbrev pub no_wheres : Wheres
no_wheres = record { predicates = [] }

abbrev pub field_of : NamedType → Field
field_of x = record { attrs = []; vis = vis.Inherited; name = x.name; ty = x.ty }

abbrev pub param_of : NamedType → Param
param_of x = record { attrs = []; kind = param_kind.Typed (bind x.name) x.ty }

abbrev pub item_struct : Bool → Name → List NamedType → Item
item_struct public given parts = item_of public (item.Struct (record {
  name = given;
  generics = no_generics;
  fields = fields.Named (map field_of parts);
  wheres = no_wheres;
}))

abbrev pub item_const : Bool → Name → Ty → Expr → Item
item_const public given of value = item_of public (item.Value (head.Const (given_name.Name given) of) (Some value))

abbrev pub fn_head : Name → List Param → Option Ty → FnHead
fn_head given params output = record {
  is_const = false;
  is_async = false;
  safety = None;
  abi = None;
  name = given;
  generics = no_generics;
  params = params;
  output = output;
}

abbrev pub item_fn : Bool → Name → List NamedType → Option Ty → Block → Item
item_fn public given params output body =
    item_of public (item.Function (fn_head given (map param_of params) output) no_wheres (Some body))

abbrev pub item_mod : Bool → Name → List Item → Item
item_mod public given items = item_of public (item.Module given [] items)

-- ---- documentation

abbrev pub doc_path : MetaPath
doc_path = meta_path.Path (record { global = false; words = record { raw = false; text = codes "doc" } ∷ [] })

-- the token list of one string literal
abbrev pub string_list : List ℕ → List Listed
string_list text = listed.Token kind.Str (string_text text) false ∷ []

abbrev pub doc_attr : List ℕ → Attr
doc_attr text = attr.Meta false doc_path (input.Value (string_list text))

abbrev pub doc_by : DocForm → List ℕ → Attr
doc_by Neither text = doc_attr text
doc_by _ text = attr.Doc false text

-- the outer documentation with this text
abbrev pub doc : List ℕ → Attr
doc text = doc_by (doc_form false text) text

abbrev pub with_attr : Item → Attr → Item
with_attr one more = record one { attrs = one.attrs ++ more ∷ [] }

abbrev pub with_doc : Item → List ℕ → Item
with_doc one text = with_attr one (doc text)

-- ---- files

abbrev pub file : List Item → File
file items = record { shebang = None; attrs = []; items = items }
