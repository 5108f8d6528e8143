-- How a `Boxed` holds its value, for types that contain boxes of themselves. The logic asks for
-- these names. A box is seen as its value, and it is stored as std's box.
use mathlib.Core.Path.{refl}
use mathlib.Core.List.{List}
use mathlib.Core.Former.{Former, this, const, pair, via}
use Prim.Native.Nat.{ℕ}
use mir.Syntax.{Ty}
use mir.Val.{Val}
use base.Stored.{gnil}
use base.Fml.{Fml, Lft, ftrue}
use denote.RattleType.{RattleType}
use denote.Memory.{part_of}
use denote.RawPtr.{Ptr}
use denote.Sharing.{nothing}
use denote.HoleLaws.{Alike}
use denote.HolePlaces.{Recodes, struct_places, laid, one_value}
use denote.Hole.Fix.{over}
use denote.Param.Weighed.{Weighed}
use denote.Model.Placed.{view_places}
use Rattle.std.specs.declared.boxed.Box.{Box}
use Rattle.std.specs.contracts.boxed.Box as boxes
use Rattle.std.specs.declared.alloc.Global.{Global}
use Rattle.std.specs.contracts.alloc.Global as global
use Rattle.std.specs.contracts.impls.GlobalAllocator.TheImpl.{ghosts}
use Rattle.lay_node.specs.declared.boxed.Boxed.TheInside.{Inside}
use Rattle.lay_node.specs.declared.boxed.Boxed.TheView.{view, invariant}
use Rattle.lay_node.specs.contracts.boxed.Boxed as whole
use Rattle.lay_node.specs.contracts.boxed.Boxed.TheInside as fields

-- what a box is made of: as clauses see it, and as it is stored
abbrev pub the_former : Former {0} → Former {0}
the_former value = value

abbrev stored : Former {0}
stored = via (pair (const (Ptr × Global)) this) Inside (λ X f. ((f.inner.ptr, f.inner.alloc), f.inner.value))
    (λ X v. record { inner = record { ptr = v.0.0; alloc = v.0.1; value = v.1 } }) (λ X f. refl) (λ X v. refl)

-- the measure of the value
abbrev pub the_weighed : {value : Former {0}} → Weighed value → Weighed (the_former value)
the_weighed weighed = weighed

-- the same place on the heap, with another value in it
abbrev refilled : {X Y : Type 0} → Box X Global → Y → Box Y Global
refilled place y = record { ptr = place.ptr; alloc = place.alloc; value = y }

abbrev box_of : RattleType → RattleType
box_of R = boxes.the_row R global.the_row ghosts

-- Two boxes with values of two types are stored alike, where their values are alike. What a box
-- owns and lends depends on the layout of its value, and on what that value owns and lends.
module _ (R S : RattleType) (h : R.Denot → S.Denot) where
  abbrev box_at : List Ty → (List Val → Fml) → (ℕ → ℕ → Lft → Fml) → RattleType
  box_at layout owns lends = box_of (one_value R layout owns lends gnil)

  abbrev mapped : Box R.Denot Global → Box S.Denot Global
  mapped place = refilled place (h place.value)

  box_places : Alike R S h → Alike (box_of R) (box_of S) mapped
  unfolding part_of
  box_places alike = record {
    mir_same = λ i. (box_at (alike.mir_same i) (λ _. ftrue) (λ _ _. nothing)).mir;
    own_same = λ place i. (box_at (alike.mir_same i) (alike.own_same place.value i) (alike.shr_same place.value i)).own_val (refilled place tt);
    shr_same = λ place i. (box_at (alike.mir_same i) (alike.own_same place.value i) (alike.shr_same place.value i)).shr_at (refilled place tt);
  }

  pub the_places : Alike R S h → Alike (whole.the_row R) (whole.the_row S) ((the_former this).map R.Denot S.Denot h)
  the_places alike =
      let inside = struct_places (fields.the_type R) (fields.the_type S) (mapped, tt) _ (λ f. refl) refl
      (laid _ _ _ (box_places alike), tt) in
      view_places stored this view (λ X Y k u. refl) (λ X u. refl) R.Denot S.Denot h (whole.the_row R).coded (whole.the_row S).coded
      (invariant R.Denot) (invariant S.Denot) (λ u p q. refl) (λ u p q. refl) (λ u e. tt) (λ u e. tt)
      (over (fields.the_row R)) (over (fields.the_row S)) inside

  pub the_codes_placed : Recodes R S h → Recodes (whole.the_row R) (whole.the_row S) ((the_former this).map R.Denot S.Denot h)
  the_codes_placed same = same
