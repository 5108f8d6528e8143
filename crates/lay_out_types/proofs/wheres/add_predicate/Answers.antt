use Rattle.lay_out_types.proofs.Adding.{adds, adds_on}
use Rattle.lay_out_types.proofs.ClauseLemmas.{bare_bounded, bare_region, bounded_is, region_is}
use Rattle.lay_out_types.proofs.wheres.add_predicate.Goals as goal

pub returns-then-is_empty : goal.returns-then-is_empty
returns-then-is_empty g c =
    adds (adds_on c.add_text-lifetime.ensures c.add_text.ensures)
    (bare_region _ c.in-Region.lifetime _ c.in-Region.bounds _ _ c.in-Region.is c.as_bytes.ensures
    c.as_slice-bounds.ensures c.is_empty.ensures c.if-is_empty.true)

pub returns-else-is_empty : goal.returns-else-is_empty
returns-else-is_empty g c =
    adds (adds_on c.add_text-lifetime.ensures c.add_outlived.ensures)
    (region_is _ c.in-Region.lifetime _ c.in-Region.bounds _ _ c.in-Region.is c.as_bytes.ensures
    c.as_slice-bounds.ensures c.is_empty.ensures c.if-is_empty.false)

pub returns-then-is_empty-2 : goal.returns-then-is_empty-2
returns-then-is_empty-2 g c =
    adds (adds_on c.add_binder-binder.ensures (adds_on c.add_type-ty.ensures c.add_text-then-is_empty-2.ensures))
    (bare_bounded _ c.in-Bounded.binder c.in-Bounded.ty c.in-Bounded.bounds _ _ c.in-Bounded.is
    c.as_slice-bounds-in-Bounded.ensures c.is_empty-in-Bounded.ensures c.if-is_empty-2.true)

pub returns-else-is_empty-2 : goal.returns-else-is_empty-2
returns-else-is_empty-2 g c =
    adds (adds_on c.add_binder-binder.ensures (adds_on c.add_type-ty.ensures c.add_asked.ensures))
    (bounded_is _ c.in-Bounded.binder c.in-Bounded.ty c.in-Bounded.bounds _ _ c.in-Bounded.is
    c.as_slice-bounds-in-Bounded.ensures c.is_empty-in-Bounded.ensures c.if-is_empty-2.false)
