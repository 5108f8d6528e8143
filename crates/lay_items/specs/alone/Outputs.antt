-- The text of a file, part by part.
use Rattle.std.specs.Prelude.{ℕ, List, [], ◌∷◌, None, map, flat_map}
use Rattle.lay_code.specs.Out.{out}
use Rattle.lay_code.specs.nodes.Code.{form_of_item}
use Rattle.lay_code.specs.declared.file.File.{File}
use Rattle.lay_code.specs.declared.item.Item.{Item}
use Rattle.lay_items.specs.alone.Lines.{line_text}

-- the text of an item of a file, with the newline after it
abbrev pub item_text : Item → List ℕ
item_text item = line_text (form_of_item item)

-- a file with this item alone
abbrev pub alone : Item → File
alone item = record { shebang = None; attrs = []; items = item ∷ [] }

-- the text before the items of a file: the shebang if there is one, and the inner attributes
abbrev pub head_text : File → List ℕ
head_text file = out (record file { items = [] })

-- the texts of the items
abbrev pub item_texts : File → List ℕ
item_texts file = flat_map item_text file.items
