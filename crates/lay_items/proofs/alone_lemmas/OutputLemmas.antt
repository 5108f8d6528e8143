-- The text of a file is that of its head and those of its items.
use Rattle.std.proofs.Common.{◌≡◌, ℕ, false, List, [], ◌∷◌, ◌++◌, map, Option, Some, None, refl, sym, ap, ap₂, ◌∙◌, append_assoc, append-nil}
use Rattle.std.specs.Prelude.{flat_map}
use Rattle.lay_layout.specs.Document.{Document, Empty, AddText, AddBreak, text_of}
use Rattle.lay_form.specs.Form.{Form, Hard}
use Rattle.lay_form.specs.Layout.{break_of, document}
use Rattle.lay_form.specs.Notation.{lines}
use Rattle.lay_node.specs.nodes.Attr.{attr_form}
use Rattle.lay_node.specs.nodes.Facts.{Facts, forms}
use Rattle.lay_node.specs.declared.attr.Attr.{Attr}
use Rattle.lay_node.specs.declared.heads.Site.TheVariants.{Module}
use Rattle.lay_code.specs.Out.{out, behind_shebang, layout_of_file}
use Rattle.lay_code.specs.nodes.Code.{about_item, form_of_item}
use Rattle.lay_code.specs.nodes.File.{form_of_file}
use Rattle.lay_code.specs.declared.file.File.{File}
use Rattle.lay_code.specs.declared.item.Item.{Item}
use Rattle.lay_items.specs.alone.Lines.{before, ended, line_text}
use Rattle.lay_items.specs.alone.Outputs.{item_text, alone, head_text, item_texts}
use Rattle.lay_items.proofs.alone_lemmas.LineLemmas.{one_line, all_lines, two_lines}

-- the text after a shebang
behind : (line : Option (List ℕ)) (d : Document)
    → text_of (behind_shebang line d) ≡ text_of (behind_shebang line Empty) ++ text_of d
behind None d = refl
behind (Some line) d = one_line (AddText line Empty) d

item_forms : (items : List Item) → forms (map (about_item Module) items) ≡ map form_of_item items
item_forms [] = refl
item_forms (item ∷ items) = ap (λ (x : List Form). form_of_item item ∷ x) (item_forms items)

texts_of : (items : List Item) → flat_map line_text (forms (map (about_item Module) items)) ≡ flat_map item_text items
texts_of [] = refl
texts_of (item ∷ items) = ap (λ (x : List ℕ). item_text item ++ x) (texts_of items)

lines_text : (attrs : List Attr) (items : List Item)
    → text_of (document (lines (map attr_form attrs ++ forms (map (about_item Module) items))))
    ≡ text_of (document (lines (map attr_form attrs ++ []))) ++ flat_map item_text items
lines_text attrs items =
    two_lines (map attr_form attrs) (forms (map (about_item Module) items))
    ∙ ap₂ (λ (x y : List ℕ). x ++ y)
    (ap (λ (x : List Form). text_of (document (lines x))) (sym (append-nil (map attr_form attrs))))
    (all_lines (forms (map (about_item Module) items)) ∙ texts_of items)

pub file_text : (file : File) → out file ≡ head_text file ++ item_texts file
file_text file =
    behind file.shebang (document (form_of_file file))
    ∙ ap (λ (x : List ℕ). text_of (behind_shebang file.shebang Empty) ++ x) (lines_text file.attrs file.items)
    ∙ sym (append_assoc (text_of (behind_shebang file.shebang Empty)) (text_of (document (lines (map attr_form file.attrs ++ [])))) (item_texts file))
    ∙ ap (λ (x : List ℕ). x ++ item_texts file) (sym (behind file.shebang (document (lines (map attr_form file.attrs ++ [])))))

pub alone_text : (item : Item) → out (alone item) ≡ item_text item
alone_text item = all_lines (form_of_item item ∷ []) ∙ append-nil (item_text item)
