-- Inputs that an object in memory holds: the bytes of each, and what is left of them.
use Rattle.std.specs.Prelude.{ℕ, Bool, true, false, List, drop, Option, None, Some, option_map, find, if◌then◌else◌}
use Rattle.std.specs.Str.{bytes_eq}
use Rattle.lay_io.specs.declared.outside.Which.{Which}
use Rattle.lay_io.specs.declared.outside.Which.TheVariants.{Stdin, File}
use Rattle.lay_io.specs.declared.stored.NamedFile.{NamedFile}

abbrev pub same_input : Which → Which → Bool
same_input Stdin Stdin = true
same_input (File a) (File b) = bytes_eq a b
same_input _ _ = false

abbrev pub is_chosen : Option Which → Which → Bool
is_chosen None which = false
is_chosen (Some chosen) which = same_input chosen which

-- the bytes of the first file of this name
abbrev pub file_of : List NamedFile → List ℕ → Option (List ℕ)
file_of files name = option_map (λ file. file.bytes) (find (λ file. bytes_eq file.name name) files)

-- the bytes of an input, if the object holds it
abbrev pub content_of : List ℕ → List NamedFile → Which → Option (List ℕ)
content_of stdin files Stdin = Some stdin
content_of stdin files (File name) = file_of files name

-- what is left of an input; this many bytes were taken from the chosen one
abbrev pub left_after : Option Which → ℕ → Option (List ℕ) → Which → Option (List ℕ)
left_after chosen taken content which = option_map (drop (if is_chosen chosen which then taken else 0)) content
