-- What a node asks of a part in addition to the rules of the part's place.
use Rattle.std.specs.Prelude.{◌&&◌, not, Bool, true}
use Rattle.lay_code.specs.nodes.Blocks.{may_precede_else}
use Rattle.lay_code.specs.nodes.Exprs.{ExprFacts, begins_free, is_label_lead, is_prefix_lead, may}
use Rattle.lay_code.specs.declared.exprs.Place.{Place}

pub data Slot : Type 0 where
  -- nothing more is asked
  Any : Slot
  -- the operand of prefix operators
  Prefixed : Slot
  -- an optional operand: of a `return`, of a `break` with a label, or the end of a range
  Optional : Slot
  -- the operand of a `break` without a label
  Unlabelled : Slot
  -- the value of a `let` with an `else`
  BeforeElse : Slot
  -- the expression directly before a tuple index
  BeforeIndex : Slot

-- The expression may stand in the slot. The flag says that no struct literal may stand there.
abbrev pub slot_fits : Slot → Bool → ExprFacts → Bool
slot_fits Any no_struct x = true
slot_fits Prefixed no_struct x = not (is_prefix_lead x.lead)
slot_fits Optional no_struct x = begins_free no_struct x
slot_fits Unlabelled no_struct x = begins_free no_struct x && not (is_label_lead x.lead)
slot_fits BeforeElse no_struct x = may_precede_else x
slot_fits BeforeIndex no_struct x = not x.is_number

-- An expression fits in a place and a slot, as far as its root and its edges tell.
abbrev pub fits : ExprFacts → Place → Slot → Bool
fits x place slot = may x place && slot_fits slot place.no_struct x
