-- Lines that are written one after another.
use Rattle.std.proofs.Common.{◌≡◌, ℕ, List, [], ◌∷◌, ◌++◌, Option, refl, sym, ap, ap₂, ◌∙◌, subst, append_assoc, append-nil}
use Rattle.lay_io.specs.Told.{GrewBy, GrewByPrefix}
use Rattle.lay_io.proofs.Growth.{grew_by-more, grew_by-nothing, grew_by_prefix-longer, grew_by_prefix-more}
use Rattle.lay_map_lines.specs.Lines.{line_of, map_text}
use Rattle.lay_map.specs.Pairs.{paired}
use Rattle.lay_map.specs.declared.unit.Unit.{Unit}

-- Of the lines of the units, those before the units that are left were written.
pub record Lined (source output units others : List Unit) (before now : Option (List ℕ)) : Type 0 where
  pub done : List ℕ
  pub all : map_text (paired source output) ≡ done ++ map_text (paired units others)
  pub grew : GrewBy before now done

pub none_yet : (source output : List Unit) (before : Option (List ℕ)) → Lined source output source output before before
none_yet source output before = record { done = []; all = refl; grew = grew_by-nothing before }

module _ (source output units others : List Unit) (before middle now : Option (List ℕ)) (h : Lined source output units others before middle) where
  -- where no units are left on a side
  pub all_written : map_text (paired units others) ≡ [] → GrewBy before middle (map_text (paired source output))
  all_written none =
      subst (GrewBy before middle) (sym (h.all ∙ ap (λ (x : List ℕ). h.done ++ x) none ∙ append-nil h.done)) h.grew

  one_more : (unit other : Unit) (more behind : List Unit) → units ≡ unit ∷ more → others ≡ other ∷ behind
      → map_text (paired source output) ≡ h.done ++ (line_of (record { source = unit; output = other }) ++ map_text (paired more behind))
  one_more unit other more behind e f = h.all ∙ ap (λ (x : List ℕ). h.done ++ x) (ap map_text (ap₂ paired e f))

  pub line_written : (unit other : Unit) (more behind : List Unit) → units ≡ unit ∷ more → others ≡ other ∷ behind
      → GrewBy middle now (line_of (record { source = unit; output = other })) → Lined source output more behind before now
  line_written unit other more behind e f grew =
      let line = line_of (record { source = unit; output = other }) in
      record {
        done = h.done ++ line;
        all = one_more unit other more behind e f ∙ sym (append_assoc h.done line (map_text (paired more behind)));
        grew = grew_by-more before middle now h.done line h.grew grew;
      }

  pub part_written : (unit other : Unit) (more behind : List Unit) → units ≡ unit ∷ more → others ≡ other ∷ behind
      → GrewByPrefix middle now (line_of (record { source = unit; output = other }))
      → GrewByPrefix before now (map_text (paired source output))
  part_written unit other more behind e f grew =
      let line = line_of (record { source = unit; output = other }) in
      subst (GrewByPrefix before now) (sym (one_more unit other more behind e f))
      (grew_by_prefix-more before middle now h.done (line ++ map_text (paired more behind)) h.grew
      (grew_by_prefix-longer middle now line (map_text (paired more behind)) grew))
