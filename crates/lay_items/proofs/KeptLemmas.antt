-- The texts of a file's parts are the text of the file.
use Rattle.std.proofs.Common.{◌≡◌, ℕ, List, [], ◌∷◌, ◌++◌, map, Result, Ok, Err, OnOk, OnErr, refl, sym, ap, ap₂, ◌∙◌}
use Rattle.std.specs.Prelude.{flat_map, insert, remove, slice_set}
use Rattle.std.specs.List.{concat}
use Rattle.lay_code.specs.declared.file.File.{File}
use Rattle.lay_code.specs.declared.item.Item.{Item}
use Rattle.lay_items.specs.Kept.{Keeps}
use Rattle.lay_items.proofs.ListLemmas.{map_insert, map_put, map_remove}
use Rattle.lay_items.specs.alone.Outputs.{head_text, item_text}
use Rattle.lay_items.proofs.alone_lemmas.OutputLemmas.{file_text}

concat_map : {X : Type 0} (f : X → List ℕ) (xs : List X) → concat (map f xs) ≡ flat_map f xs
concat_map f [] = refl
concat_map f (x ∷ xs) = ap (λ (t : List ℕ). f x ++ t) (concat_map f xs)

pub kept : (file : File) (head : List ℕ) (outputs : List (List ℕ)) → head ≡ head_text file → outputs ≡ map item_text file.items
    → Keeps file head outputs
kept file head outputs before each = record {
  before = before;
  each = each;
  whole =
      ap₂ (λ (h : List ℕ) (os : List (List ℕ)). h ++ concat os) before each
      ∙ ap (λ (t : List ℕ). head_text file ++ t) (concat_map item_text file.items)
      ∙ sym (file_text file);
}

-- ---- edits

-- a file with these items
abbrev pub of_items : File → List Item → File
of_items file items = record { shebang = file.shebang; attrs = file.attrs; items = items }

-- The lists where there is room for one more, and where there is none.
pub kept_with : {E : Type 0} (result : Result (Unit {0}) E) (file : File) (head : List ℕ) (outputs : List (List ℕ)) (items : List Item) (texts : List (List ℕ))
    (index : ℕ) (item : Item) (output : List ℕ)
    → Keeps file head outputs → OnOk result ((items ≡ insert file.items index item) × (texts ≡ insert outputs index output))
    → OnErr result ((items ≡ file.items) × (texts ≡ outputs)) → output ≡ item_text item → Keeps (of_items file items) head texts
kept_with (Ok done) file head outputs items texts index item output keeps put stays is =
    kept (of_items file items) head texts keeps.before
    (put.1
    ∙ ap₂ (λ (ts : List (List ℕ)) (t : List ℕ). insert ts index t) keeps.each is
    ∙ sym (map_insert item_text file.items index item)
    ∙ ap (map item_text) (sym put.0))
kept_with (Err why) file head outputs items texts index item output keeps put stays is =
    kept (of_items file items) head texts keeps.before (stays.1 ∙ keeps.each ∙ ap (map item_text) (sym stays.0))

pub kept_other : (file : File) (head : List ℕ) (outputs : List (List ℕ)) (items : List Item) (texts : List (List ℕ)) (index : ℕ) (item : Item) (output : List ℕ)
    → Keeps file head outputs → items ≡ slice_set file.items index item → texts ≡ slice_set outputs index output → output ≡ item_text item
    → Keeps (of_items file items) head texts
kept_other file head outputs items texts index item output keeps put also is =
    kept (of_items file items) head texts keeps.before
    (also
    ∙ ap₂ (λ (ts : List (List ℕ)) (t : List ℕ). slice_set ts index t) keeps.each is
    ∙ sym (map_put item_text file.items index item)
    ∙ ap (map item_text) (sym put))

pub kept_without : (file : File) (head : List ℕ) (outputs : List (List ℕ)) (items : List Item) (texts : List (List ℕ)) (index : ℕ)
    → Keeps file head outputs → items ≡ remove file.items index → texts ≡ remove outputs index → Keeps (of_items file items) head texts
kept_without file head outputs items texts index keeps put also =
    kept (of_items file items) head texts keeps.before
    (also
    ∙ ap (λ (ts : List (List ℕ)). remove ts index) keeps.each
    ∙ sym (map_remove item_text file.items index)
    ∙ ap (map item_text) (sym put))
