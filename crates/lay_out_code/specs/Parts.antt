-- The streams of heads of items, and of what stands within blocks and items.
use Rattle.std.specs.Prelude.{Bool, true, false, List, [], ◌∷◌, ◌++◌, codes, pos, Option}
use Rattle.lay_layout.specs.declared.layout.Tok.{Tok}
use Rattle.lay_layout.specs.declared.layout.Tok.TheVariants as tok
use Rattle.lay_form.specs.Form.{Form, Done, Part, Piece, keyword}
use Rattle.lay_form.specs.Notation.{I0}
use Rattle.lay_form.specs.Stream.{stream_of}
use Rattle.lay_node.specs.nodes.Heads.{unsafe_form}
use Rattle.lay_node.specs.nodes.Vis.{vis_form}
use Rattle.lay_node.specs.declared.token.Literal.{Literal}
use Rattle.lay_node.specs.declared.use_tree.UseTree.{UseTree}
use Rattle.lay_node.specs.declared.vis.Vis.{Vis}
use Rattle.lay_code.specs.nodes.Code.{about_arm, about_branch, about_link, about_stmt}
use Rattle.lay_code.specs.nodes.CodeFacts.{KindFacts}
use Rattle.lay_code.specs.nodes.Exprs.{branch_head}
use Rattle.lay_code.specs.nodes.Item.{about_import, foreign_abi, kind_form}
use Rattle.lay_code.specs.declared.blocks.Arm.{Arm}
use Rattle.lay_code.specs.declared.blocks.Branch.{Branch}
use Rattle.lay_code.specs.declared.blocks.Stmt.{Stmt}
use Rattle.lay_code.specs.declared.conditions.Link.{Link}

-- The list of forms is empty.
abbrev pub no_forms : List Form → Bool
no_forms [] = true
no_forms (f ∷ fs) = false

-- a head after its visibility, as a group
abbrev pub head_row : Vis → Form → List Tok
head_row v head = tok.Begin false (pos 0) ∷ (stream_of (vis_form v) ++ (stream_of head ++ (tok.End ∷ [])))

-- an item without its attributes
abbrev pub kind_row : Vis → KindFacts → List Tok
kind_row v kind = stream_of (kind_form v kind.head kind.tail)

-- the heads of imports and of foreign blocks
abbrev pub import_head : UseTree → Form
import_head tree = (about_import tree).head

abbrev pub foreign_head : Bool → Option Literal → Form
foreign_head is_unsafe abi = unsafe_form is_unsafe (Piece (keyword (codes "extern") ∷ []) (foreign_abi abi))

-- what closes the group of a head
abbrev pub head_end : List Tok
head_end = tok.End ∷ []

-- the form of a statement, of a link, of an arm as the last one, and of a branch
abbrev pub stmt_told : Stmt → Form
stmt_told x = (about_stmt x).form

abbrev pub link_told : Link → Form
link_told x = (about_link x).form

abbrev pub arm_told : Arm → Form
arm_told x = (about_arm x).form true

abbrev pub branch_told : Branch → Form
branch_told x = I0 (branch_head (about_branch x)) (Part (about_branch x).soft Done)
