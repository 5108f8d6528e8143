-- What stays where entries are printed, and how many wait.
use Rattle.std.proofs.Common.{◌≡◌, ◌+◌, ◌∙◌, List, [], ◌∷◌, ◌++◌, length, ap, le_trans, length-append, arith}
use Rattle.lay_layout.specs.declared.layout.Tok.{Tok}
use Rattle.lay_ring.specs.declared.entry.Entry.{Entry}
use Rattle.lay_printer.specs.declared.engine.Engine.{Engine}
use Rattle.lay_queue.specs.Closed.{toks_of}
use Rattle.lay_printer.specs.Engines.{Stays}
use Rattle.lay_queue.proofs.Queueing.{length_toks}

pub stays_then : {a b c : Engine} → Stays a b → Stays b c → Stays a c
stays_then x y = record {
  ended = y.ended ∙ x.ended;
  groups = y.groups ∙ x.groups;
  number = y.number ∙ x.number;
  room = le_trans x.room y.room;
}

-- one more waits
pub length_comes : (es es' : List Entry) (t : Tok) → toks_of es' ≡ toks_of es ++ t ∷ [] → length es' ≡ length es + 1
length_comes es es' t e = omega (arith, length_toks es, length_toks es', ap length e, length-append (toks_of es) (t ∷ []))
