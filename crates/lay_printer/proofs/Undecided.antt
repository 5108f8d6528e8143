-- When the oldest entry isn't decided.
use Rattle.std.proofs.Common.{pos, negsuc, ◌≡◌, ℕ, ◌+◌, ◌<◌, ◌≤◌, List, [], ◌∷◌, ◌++◌, length, Some, None, Bool, refl, sym, ap, ◌∙◌, subst, arith}
use Rattle.lay_layout.specs.Margins.{margin}
use Rattle.lay_layout.specs.declared.layout.Tok.{Tok}
use Rattle.lay_layout.specs.declared.layout.Tok.TheVariants as tok
use Rattle.lay_ring.specs.declared.entry.Size.{Size}
use Rattle.lay_ring.specs.declared.entry.Size.TheVariants.{Unknown, Known, Forced}
use Rattle.lay_ring.specs.declared.entry.Entry.{Entry}
use Rattle.lay_queue.specs.Closed.{toks_of}
use Rattle.lay_queue.specs.Entries.{least_width}
use Rattle.lay_queue.specs.Scan.{text_length}
use Rattle.lay_queue.specs.Queues.{IsAdded}
use Rattle.lay_stream.specs.declared.line.Line.{Line}
use Rattle.lay_printer.specs.Queued.{Decided, IsLimit, IsUndecided, MayStay, Says}

pub undecided_of : (es : List Entry) (wait : ℕ) (p : Line) → Decided es wait p None → IsUndecided es p
undecided_of [] wait p d = tt
undecided_of (e ∷ es) wait p d = (wait, d)

pub some_wait : (es : List Entry) (wait : ℕ) (p : Line) (big : Bool) → Decided es wait p (Some big) → 0 < length es
some_wait [] wait p big d = cc
some_wait (e ∷ es) wait p big d = omega arith

too_long : (z : Size) (least wait : ℕ) (p : Line) → p.room ≤ margin → margin < wait → Says z least wait p None → ⊥
too_long Unknown least wait p r l d = absurd (omega (arith, d))
too_long (Known (pos k)) least wait p r l d = cc
too_long (Known (negsuc k)) least wait p r l d = cc
too_long Forced least wait p r l d = cc

-- after a text that is longer than any space nothing stays undecided
pub none_long : (es : List Entry) (wait more : ℕ) (p : Line) → p.room ≤ margin → margin < more → Decided es (wait + more) p None → es ≡ []
none_long [] wait more p r l d = refl
none_long (e ∷ es) wait more p r l d = absurd (too_long e.size (least_width e.tok) (wait + more) p r (omega (arith, l)) d)

-- what stays undecided with a token that came last
pub record Stayed (es : List Entry) (wait limit : ℕ) (p : Line) : Type 0 where
  pub undecided : Decided es wait p None
  pub limited : IsLimit es p limit

open_says : (z : Size) (least wait : ℕ) (p : Line) → z ≡ Unknown → p.used + (least + wait) ≤ p.room → Says z least wait p None
open_says z least wait p e l = subst (λ (y : Size). Says y least wait p None) (sym e) l

stayed_open : (e : Entry) (es : List Entry) (wait limit : ℕ) (p : Line) → e.size ≡ Unknown → p.used + (least_width e.tok + limit) ≡ p.room → wait ≤ limit → Stayed (e ∷ es) wait limit p
stayed_open e es wait limit p z l w = record { undecided = open_says e.size (least_width e.tok) wait p z (omega (arith, l, w)); limited = (z, l) }

says_within : (z : Size) (least wait limit : ℕ) (p : Line) → z ≡ Unknown → p.used + (least + limit) ≡ p.room → Says z least wait p None → wait ≤ limit
says_within z least wait limit p e l d = let k : p.used + (least + wait) ≤ p.room = subst (λ (y : Size). Says y least wait p None) e d in omega (arith, k, l)

added_front : (e : Entry) (es new : List Entry) (x : Entry) (wait limit : ℕ) (p : Line) → new ≡ (e ∷ es) ++ x ∷ [] → e.size ≡ Unknown → p.used + (least_width e.tok + limit) ≡ p.room → wait ≤ limit → Stayed new wait limit p
added_front e es new x wait limit p a z l w = subst (λ (y : List Entry). Stayed y wait limit p) (sym a) (stayed_open e (es ++ x ∷ []) wait limit p z l w)

pub stayed : (t : Tok) (old new : List Entry) (w w' limit : ℕ) (p : Line) → 0 < length old → IsAdded t old new → toks_of new ≡ toks_of old ++ t ∷ [] → w' ≡ w + text_length t →
    IsLimit old p limit → Decided old w p None → MayStay t new w' limit → Stayed new w' limit p
stayed t [] new w w' limit p n a k v l d m = absurd (omega (arith, n))
stayed (tok.Text t) (e ∷ es) new w w' limit p n a k v l d m = added_front e es new _ w' limit p a.1 l.0 l.1 m
stayed (tok.Begin c o) (e ∷ es) new w w' limit p n a k v l d m = added_front e es new _ w' limit p a.1 l.0 l.1 (omega (arith, v, says_within e.size (least_width e.tok) w limit p l.0 l.1 d))
stayed tok.End (e ∷ es) new w w' limit p n a k v l d m = added_front e es new _ w' limit p a.1 l.0 l.1 (omega (arith, v, says_within e.size (least_width e.tok) w limit p l.0 l.1 d))
stayed (tok.Break b) (e ∷ es) [] w w' limit p n a k v l d m = absurd m
stayed (tok.Break b) (e ∷ es) (x ∷ new) w w' limit p n a k v l d m =
    let q : x.tok ≡ e.tok = cc in
    stayed_open x new w' limit p m (ap (λ (y : Tok). p.used + (least_width y + limit)) q ∙ l.1) (omega (arith, v, says_within e.size (least_width e.tok) w limit p l.0 l.1 d))
