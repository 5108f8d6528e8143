-- Scans after one more token.
use Rattle.std.proofs.Common.{ℕ, suc, ◌+◌, length}
use Rattle.lay_layout.specs.declared.layout.Tok.{Tok}
use Rattle.lay_layout.specs.declared.layout.Tok.TheVariants as tok
use Rattle.lay_layout.specs.Document.{width_of_break}
use Rattle.lay_layout.specs.Machine.{outer}
use Rattle.lay_queue.specs.Scan.{Scan, Stopped, Going}
use Rattle.lay_queue.specs.Notes.{stop}

abbrev pub grow : ℕ → Scan → Scan
grow k (Stopped n) = Stopped n
grow k (Going n d) = Going (n + k) d

abbrev pub deepen : Scan → Scan
deepen (Stopped n) = Stopped n
deepen (Going n d) = Going n (suc d)

abbrev pub leave : Scan → Scan
leave (Stopped n) = Stopped n
leave (Going n d) = Going n (outer d)

abbrev pub advance : Tok → Scan → Scan
advance (tok.Text t) c = grow (length t) c
advance (tok.Break b) c = grow (width_of_break b) (stop c)
advance (tok.Begin o k) c = deepen c
advance tok.End c = leave c
