-- Which syntax trees are files that can be written. Their nodes are normal and meet the conditions
-- of their forms, and each name, word and literal is a piece of its kind.
use Rattle.std.specs.Prelude.{ℕ, Bool, true, ◌&&◌, List, Option, Some, None, IsTrue, encode_utf8_all}
use Rattle.std.specs.List.{list_all}
use Rattle.std.specs.Str.{chars, is_utf8, bytes_eq}
use Rattle.lay_piece.specs.Chars.{without_end}
use Rattle.lay_token.specs.Source.{is_shebang, is_in_line}
use Rattle.lay_form.specs.Pieces.{are_pieces}
use Rattle.lay_code.specs.nodes.File.{form_of_file, is_normal}
use Rattle.lay_code.specs.declared.file.File.{File}

-- A good shebang is one line of UTF-8 that is a shebang and doesn't end in a carriage return.
abbrev pub is_good_shebang : Option (List ℕ) → Bool
is_good_shebang None = true
is_good_shebang (Some line) =
    is_utf8 line && list_all is_in_line (chars line) && is_shebang (chars line)
    && bytes_eq (encode_utf8_all (without_end 13 (chars line))) line

-- The file can be written.
pub record Written (file : File) : Type 0 where
  pub shebang : IsTrue (is_good_shebang file.shebang)
  pub normal : IsTrue (is_normal file)
  pub pieces : IsTrue (are_pieces (form_of_file file))
