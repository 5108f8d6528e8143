-- The file that was found is the one of this name.
use Rattle.std.proofs.Common.{◌≡◌, ℕ, List, Some, find}
use Rattle.std.specs.Str.{bytes_eq}
use Rattle.lay_io.specs.Stored.{content_of}
use Rattle.lay_io.specs.declared.stored.NamedFile.{NamedFile}
use Rattle.lay_io.specs.declared.outside.Which.{Which}
use Rattle.lay_io.specs.declared.outside.Which.TheVariants.{File}
use Rattle.lay_io.proofs.stored.content.Goals as goal

found : (stdin : List ℕ) (files items : List NamedFile) (which : Which) (name given bytes : List ℕ) (file : NamedFile) → which ≡ File name
    → given ≡ name → items ≡ files → Some file ≡ find (λ f. bytes_eq f.name given) items → bytes ≡ file.bytes
    → Some bytes ≡ content_of stdin files which
found stdin files items which name given bytes file is_file same_name same_files is_found same_bytes =
    rw (is_file, ← same_name, ← same_files, ← is_found, same_bytes)

pub returns-in-Some : goal.returns-in-Some
returns-in-Some c = found _ _ _ _ _ _ _ _ c.in-File.is c.as_bytes.ensures c.as_slice-in-File.ensures c.in-Some.ensures c.as_slice-in-Some.ensures
