use Rattle.std.proofs.Common.{rules, ◌≡◌, true, [], ◌∷◌, refl, subst}
use Rattle.lay_form.specs.Form.{Done, Deeper}
use Rattle.lay_code.specs.declared.file.File.{File}
use Rattle.lay_files.specs.windows.Parts.{Adds, head_form}
use Rattle.lay_files.proofs.windows_lemmas.Standing.{lead_row, none_there, parts_added}
use Rattle.lay_files.proofs.windows_lemmas.Reading.{end_is}
use Rattle.lay_files.proofs.windows.parts.read_parts.Goals as goal

pub returns-then-is_end : goal.returns-then-is_end
returns-then-is_end c =
    let last : File = record { shebang = c.args.file.now.shebang; attrs = c.add_inner.new.attrs; items = c.add_items.new.items } in
    let first : c.is_empty-is_first.result ≡ true → c.args.file.now.items ≡ [] = λ e. none_there c.args.file.now.items c.is_empty-is_first.result (search rules) e in
    let none : c.add_items.new.at ≡ [] = end_is c.add_items.new.at (search rules) in
    subst (λ ts. Adds c.args.depth ts c.args.file.now last []) c.cursor-at.ensures.tokens
    (parts_added c.args.depth c.args.file.now last c.is_empty-is_first.result c.cursor-at.result c.add_inner.new.at c.add_items.new.at [] first
    c.in_ok-add_inner.ensures c.in_ok-add_items.ensures refl none)

pub returns-in-Ok : goal.returns-in-Ok
returns-in-Ok c =
    let last : File = record { shebang = c.args.file.now.shebang; attrs = c.add_inner.new.attrs; items = c.add_items.new.items } in
    let first : c.is_empty-is_first.result ≡ true → c.args.file.now.items ≡ [] = λ e. none_there c.args.file.now.items c.is_empty-is_first.result (search rules) e in
    let row = lead_row c.args.depth c.in-Ok.head c.add_items.new.at (search rules) c.in-Ok.ensures in (
      subst (λ ts. Adds c.args.depth ts c.args.file.now last (Deeper (head_form c.in-Ok.head) Done ∷ [])) c.cursor-at.ensures.tokens
          (parts_added c.args.depth c.args.file.now last c.is_empty-is_first.result c.cursor-at.result c.add_inner.new.at c.add_items.new.at
          (Deeper (head_form c.in-Ok.head) Done ∷ []) first c.in_ok-add_inner.ensures c.in_ok-add_items.ensures refl row),
      c.in-Ok.ensures.attrs,
      c.in-Ok.ensures.vis,
      c.in-Ok.ensures.name,
    )
