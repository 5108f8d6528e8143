-- The form of a file, and when its syntax tree is normal (Rust Reference, "Crates and source
-- files").
use Rattle.std.specs.Prelude.{Bool, true, ◌&&◌, ◌++◌, map}
use Rattle.lay_form.specs.Form.{Form}
use Rattle.lay_form.specs.Notation.{lines}
use Rattle.lay_node.specs.nodes.Attr.{are_attrs, attr_form}
use Rattle.lay_node.specs.nodes.Facts.{forms, all_good}
use Rattle.lay_node.specs.declared.heads.Site.TheVariants.{Module}
use Rattle.lay_code.specs.declared.file.File.{File}
use Rattle.lay_code.specs.nodes.Code.{about_item}

-- the inner attributes of a file and then its items, each on a line of its own
abbrev pub form_of_file : File → Form
form_of_file file = lines (map attr_form file.attrs ++ forms (map (about_item Module) file.items))

-- The tree is normal, and each node meets the conditions of its form.
abbrev pub is_normal : File → Bool
is_normal file = are_attrs true file.attrs && all_good (map (about_item Module) file.items)
