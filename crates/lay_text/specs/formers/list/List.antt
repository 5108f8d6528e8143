-- How a `List` holds its items, for types that contain lists of themselves. The logic asks for
-- these names. A list is seen as the list of its items, and it is stored as a vector.
use mathlib.Core.Path.{◌≡◌, refl, sym}
use mathlib.Core.List.{List, []}
use mathlib.Core.Former.{Former, this, list, via, children}
use base.Stored.{code_map}
use denote.RattleType.{RattleType}
use denote.HoleLaws.{Alike}
use denote.HolePlaces.{Recodes, struct_places, laid}
use denote.Hole.Carrier.{listed, list-listed}
use denote.Hole.Fix.{over}
use denote.Param.Weighed.{Weighed, w_list}
use denote.Model.Placed.{view_places}
use Rattle.std.specs.formers.vec.Vec as vectors
use Rattle.std.specs.declared.alloc.Global.{Global}
use Rattle.std.specs.contracts.alloc.Global as global
use Rattle.std.specs.contracts.impls.GlobalAllocator.TheImpl.{ghosts}
use Rattle.lay_text.specs.declared.list.List.TheInside.{Inside}
use Rattle.lay_text.specs.declared.list.List.TheView.{view, invariant}
use Rattle.lay_text.specs.contracts.list.List as whole
use Rattle.lay_text.specs.contracts.list.List.TheInside as fields

-- what a list is made of: as clauses see it, and as it is stored
abbrev pub the_former : Former {0} → Former {0}
the_former item = list item

abbrev stored : Former {0}
stored = via (vectors.the_former this Global) Inside (λ X f. f.items) (λ X v. record { items = v }) (λ X f. refl) (λ X v. refl)

-- the items, in order
abbrev pub the_items : (X : Type 0) → List X → List X
the_items X items = items

pub the_items_listed : (X : Type 0) (items : List X) → listed _ (children (the_former this) X items) ≡ the_items X items
the_items_listed X items = list-listed X items

-- the largest measure among the items; a list may have no items
abbrev pub the_weighed : {item : Former {0}} → Weighed item → Weighed (the_former item)
the_weighed weighed = w_list weighed

pub the_empty : List ⊥
the_empty = []

-- Two lists with items of two types are stored alike, where their items are alike one by one.
module _ (R S : RattleType) (h : R.Denot → S.Denot) where
  pub the_places : Alike R S h → Alike (whole.the_row R) (whole.the_row S) ((the_former this).map R.Denot S.Denot h)
  the_places alike =
      let inside = struct_places (fields.the_type R) (fields.the_type S) (vectors.mapped h, tt) _ (λ f. refl) refl
      (laid _ _ _ (vectors.the_places global.the_row ghosts R S h alike), tt) in
      view_places stored (list this) view (λ X Y k u. refl) (λ X u. refl) R.Denot S.Denot h (whole.the_row R).coded (whole.the_row S).coded
      (invariant R.Denot) (invariant S.Denot) (λ u p q. refl) (λ u p q. refl) (λ u e. tt) (λ u e. tt)
      (over (fields.the_row R)) (over (fields.the_row S)) inside

  pub the_codes_placed : Recodes R S h → Recodes (whole.the_row R) (whole.the_row S) ((the_former this).map R.Denot S.Denot h)
  the_codes_placed same items = sym (code_map R.coded.code S.coded.code h (λ x. sym (same x)) items)
