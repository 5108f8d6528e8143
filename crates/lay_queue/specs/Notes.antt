-- The notes about the entries whose size isn't known yet, the oldest first.
use Rattle.std.specs.Prelude.{◌≡◌, ℕ, zero, ◌+◌, ◌-◌, ◌%◌, ◌^◌, min, List, [], ◌∷◌}
use Rattle.lay_layout.specs.declared.layout.Tok.{Tok}
use Rattle.lay_queue.specs.declared.close.Note.{Note}
use Rattle.lay_queue.specs.Scan.{Scan, Stopped, Going, scan_of, cap}

-- the scan of each token that waits
abbrev pub scans : List Tok → List Scan
scans [] = []
scans (t ∷ ts) = scan_of t ts ∷ scans ts

-- a scan after a break was fed: at depth 0 it stops
abbrev pub stop : Scan → Scan
stop (Going n zero) = Stopped n
stop c = c

-- the width from the entry of the oldest note on; acc is the width from that of the newest note on
abbrev pub acc_of : ℕ → List Note → ℕ
acc_of acc [] = acc
acc_of acc (m ∷ ms) = min (acc_of acc ms + m.delta) cap

-- the least number of groups open since the oldest note; low is that since the newest note
abbrev pub low_of : ℕ → List Note → ℕ
low_of low [] = low
low_of low (m ∷ ms) = min m.level (low_of low ms)

-- of each entry whose scan goes on: its number modulo 2^64, its width so far and its depth
abbrev pub going : ℕ → List Scan → List (ℕ × ℕ × ℕ)
going i [] = []
going i (Stopped n ∷ cs) = going (i + 1) cs
going i (Going n d ∷ cs) = (i % 2 ^ 64, min n cap, d) ∷ going (i + 1) cs

-- the same, computed from the notes; cur groups are open
abbrev pub noted : (acc low cur : ℕ) → List Note → List (ℕ × ℕ × ℕ)
noted acc low cur [] = []
noted acc low cur (m ∷ ms) = (m.number, acc_of acc ms, cur - low_of low (m ∷ ms)) ∷ noted acc low cur ms

abbrev pub Fits : (i acc low cur : ℕ) → List Scan → List Note → Type 0
Fits i acc low cur cs ms = going i cs ≡ noted acc low cur ms
