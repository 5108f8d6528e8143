-- What it means to put an item into a file, to replace one and to remove one.
use Rattle.std.specs.Prelude.{ℕ, ◌≡◌, false, List, length, insert, remove, slice_set, is_some, Result, Ok, Err}
use Rattle.lay_text.specs.declared.refusal.FormatError.{FormatError}
use Rattle.lay_text.specs.declared.refusal.FormatError.TheVariants as format
use Rattle.lay_code.specs.Reading.{IsRefused}
use Rattle.lay_code.specs.declared.file.File.{File}
use Rattle.lay_code.specs.declared.item.Item.{Item}
use Rattle.lay_files.specs.Readings.{ReadsOnlyTo}
use Rattle.lay_items.specs.alone.Outputs.{alone, item_text}
use Rattle.lay_items.specs.declared.reading.EditError.{EditError}
use Rattle.lay_items.specs.declared.reading.EditError.TheVariants as edit
use Rattle.lay_items.specs.declared.reading.Laid.{Laid}
use Rattle.lay_items.specs.declared.reading.Shape.{Shape}

-- The bytes parse to no file, for this reason. Memory may run out.
abbrev pub IsUnread : List ℕ → FormatError → Type 0
IsUnread bytes (format.Refused refusal) = IsRefused bytes refusal
IsUnread bytes format.NoMemory = Unit {0}

-- ---- texts of one item

-- how much a file holds
abbrev pub shape_of : File → Shape
shape_of file = record { shebang = is_some file.shebang; attrs = length file.attrs; items = length file.items }

-- a file of one item and nothing else
abbrev pub one_item : Shape
one_item = record { shebang = false; attrs = 0; items = 1 }

-- The text isn't one item, for this reason. Memory may run out.
abbrev pub IsNotOne : List ℕ → EditError → Type 0
IsNotOne text (edit.Refused refusal) = IsRefused text refusal
IsNotOne text (edit.NotOneItem shape) = (file : File) × ReadsOnlyTo text file × (shape ≡ shape_of file) × (shape ≡ one_item → ⊥)
IsNotOne text edit.NoMemory = Unit {0}

-- The answer is the one item of a text with the item's own text, or why the text isn't one item.
abbrev pub IsOneItem : List ℕ → Result Laid EditError → Type 0
IsOneItem text (Ok laid) = ReadsOnlyTo text (alone laid.item) × (laid.output ≡ item_text laid.item)
IsOneItem text (Err why) = IsNotOne text why

-- The answer is the one item of a file that holds nothing else, or what the file holds.
abbrev pub IsOnly : File → Result Item Shape → Type 0
IsOnly file (Ok item) = file ≡ alone item
IsOnly file (Err shape) = (shape ≡ shape_of file) × (shape ≡ one_item → ⊥)

-- ---- edits

-- a file with this item put in at a place
abbrev pub with_item : File → ℕ → Item → File
with_item file index item = record file { items = insert file.items index item }

-- a file with this item in the place of the one at an index
abbrev pub with_other : File → ℕ → Item → File
with_other file index item = record file { items = slice_set file.items index item }

-- a file without the item at a place
abbrev pub without_item : File → ℕ → File
without_item file index = record file { items = remove file.items index }

-- The one item of the text is put in. If the text isn't one item, the file stays.
abbrev pub Inserts : File → ℕ → List ℕ → Result (Unit {0}) EditError → File → Type 0
Inserts old index text (Ok done) new = (item : Item) × ReadsOnlyTo text (alone item) × (new ≡ with_item old index item)
Inserts old index text (Err why) new = IsNotOne text why × (new ≡ old)

-- The one item of the text takes the place of another. If the text isn't one item, the file stays.
abbrev pub Replaces : File → ℕ → List ℕ → Result (Unit {0}) EditError → File → Type 0
Replaces old index text (Ok done) new = (item : Item) × ReadsOnlyTo text (alone item) × (new ≡ with_other old index item)
Replaces old index text (Err why) new = IsNotOne text why × (new ≡ old)
