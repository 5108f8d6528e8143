-- A file can be written exactly where its text reads to it, within its own depth.
use Rattle.std.proofs.Common.{◌≡◌, ◌↔◌, ◌+◌, ◌*◌, ◌<◌, ◌≤◌, ℕ, List, Bool, true, false, IsTrue, sym, subst, arith}
use Rattle.lay_text.specs.declared.refusal.Refusal.{Refusal}
use Rattle.lay_layout.proofs.AnywayLaws.{text_anyway}
use Rattle.lay_form.specs.Depth.{least_depth}
use Rattle.lay_code.specs.Out.{layout_of_file, out}
use Rattle.lay_code.specs.Reading.{IsRefusedAt, ReadsAt, top}
use Rattle.lay_code.specs.Written.{Written}
use Rattle.lay_code.specs.nodes.Code.{about_expr}
use Rattle.lay_code.specs.nodes.File.{form_of_file}
use Rattle.lay_code.specs.declared.exprs.Expr.{Expr}
use Rattle.lay_code.specs.declared.file.File.{File}
use Rattle.lay_paren_defs.specs.Constant.{constant}
use Rattle.lay_paren_defs.specs.Enclosed.{part}
use Rattle.lay_paren_defs.specs.loose.Loose.{Loose}
use Rattle.lay_paren.proofs.loose_laws_lemmas.EnclosedLemmas.{constant_deep, written}
use Rattle.lay_reparse.proofs.file.OneAnswer.{never_both}
use Rattle.lay_reparse.proofs.file.Reparse.{reparse_at}
use Rattle.lay_depth.specs.nodes.Depths.{counted}
use Rattle.lay_files.specs.Readings.{ReadsOnlyAt}

never : {P : Type 0} → IsTrue false → P
never h = absurd (let no : ⊥ = cc in no)

-- ---- a file whose text is read at a depth at which it stands

module _ (file : File) (depth : ℕ) (text : List ℕ) (enough : least_depth (form_of_file file) ≤ depth) (laid : text ≡ out file) where
  -- the text of a file that is written reads to it
  reads_back : Written file → ReadsAt depth text file
  reads_back w =
      subst (λ (t : List ℕ). ReadsAt depth t file) (sym laid)
      (reparse_at file depth (out file) w enough (text_anyway (layout_of_file file)))

  -- the one file that its text reads to is this one, or another
  by_read : (read : File) (answer : Bool) → ReadsOnlyAt depth text read → (IsTrue answer ↔ (read ≡ file)) → IsTrue answer ↔ Written file
  by_read read answer only told = (
    λ told_so. (subst (ReadsAt depth text) (told.0 told_so) only.reads).spells.0,
    λ w. told.1 (sym (only.only file (reads_back w))),
  )

  -- its text is refused
  by_refused : (refusal : Refusal) → IsRefusedAt depth text refusal → IsTrue false ↔ Written file
  by_refused refusal refused = (never, λ w. absurd (never_both text file refusal (reads_back w) refused))

-- ---- files that are counted

-- It is deeper than files may be.
pub by_depth : (file : File) (depth : ℕ) → depth ≡ counted (least_depth (form_of_file file)) → top < depth
    → IsTrue false ↔ (Written file × (least_depth (form_of_file file) ≤ top))
by_depth file depth is more = (never, λ w. absurd (omega (arith, is, more, w.1)))

module _ (file : File) (depth : ℕ) (text : List ℕ) (is : depth ≡ counted (least_depth (form_of_file file))) (within : depth ≤ top)
    (laid : text ≡ out file) where
  enough : least_depth (form_of_file file) ≤ depth
  enough = omega (arith, is, within)

  no_deeper : (answer : Bool) → IsTrue answer ↔ Written file → IsTrue answer ↔ (Written file × (least_depth (form_of_file file) ≤ top))
  no_deeper answer told = (λ told_so. (told.0 told_so, omega (arith, is, within)), λ w. told.1 w.0)

  pub by_reading : (read : File) (answer : Bool) → ReadsOnlyAt depth text read → (IsTrue answer ↔ (read ≡ file))
      → IsTrue answer ↔ (Written file × (least_depth (form_of_file file) ≤ top))
  by_reading read answer only told = no_deeper answer (by_read file depth text enough laid read answer only told)

  pub by_refusal : (refusal : Refusal) → IsRefusedAt depth text refusal → IsTrue false ↔ (Written file × (least_depth (form_of_file file) ≤ top))
  by_refusal refusal refused = no_deeper false (by_refused file depth text enough laid refusal refused)

-- ---- expressions, by the constant of them with each part in parentheses

-- It is deeper than files may be.
pub loose_by_depth : (x : Expr) (depth : ℕ) → depth ≡ counted (least_depth (about_expr x).form) → top < depth → IsTrue false ↔ Loose x
loose_by_depth x depth is more = (never, λ l. let deep = l.depth in absurd (omega (arith, is, more, deep)))

module _ (x : Expr) (depth room : ℕ) (text : List ℕ) (is : depth ≡ counted (least_depth (about_expr x).form)) (within : depth ≤ top)
    (has : room ≡ 2 * depth + 2) (laid : text ≡ out (constant (part true x))) where
  enough_room : least_depth (form_of_file (constant (part true x))) ≤ room
  enough_room = let deep = constant_deep x in omega (arith, is, within, has, deep)

  is_loose_where : (answer : Bool) → IsTrue answer ↔ Written (constant (part true x)) → IsTrue answer ↔ Loose x
  is_loose_where answer told = (
    λ told_so. (written x).1 (told.0 told_so, omega (arith, is, within)),
    λ l. told.1 ((written x).0 l).0,
  )

  pub loose_by_reading : (read : File) (answer : Bool) → ReadsOnlyAt room text read → (IsTrue answer ↔ (read ≡ constant (part true x)))
      → IsTrue answer ↔ Loose x
  loose_by_reading read answer only told =
      is_loose_where answer (by_read (constant (part true x)) room text enough_room laid read answer only told)

  pub loose_by_refusal : (refusal : Refusal) → IsRefusedAt room text refusal → IsTrue false ↔ Loose x
  loose_by_refusal refusal refused = is_loose_where false (by_refused (constant (part true x)) room text enough_room laid refusal refused)
