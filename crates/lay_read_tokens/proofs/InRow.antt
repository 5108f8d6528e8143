-- Attributes in a row at the beginning, from what reading gives.
use Rattle.std.proofs.Common.{◌≡◌, ℕ, Bool, List, [], ◌∷◌, Some, None, Ok, Err, refl, sym, ap, subst, ◌∙◌}
use Rattle.lay_form.specs.Spelled.{Spells}
use Rattle.lay_node.specs.Ahead.{Tokens}
use Rattle.lay_node.specs.nodes.Attr.{about_attr}
use Rattle.lay_node.specs.nodes.Facts.{Front}
use Rattle.lay_node.specs.reader.Attr.{attributes, begins_attr}
use Rattle.lay_node.specs.declared.attr.Attr.{Attr}
use Rattle.lay_node.proofs.Parts.{GoodAt, Rows}
use Rattle.lay_node.proofs.reader.Attr.{attributes_sound}
use Rattle.lay_node.proofs.reader.AttrRead.{attributes_complete}
use Rattle.lay_node.proofs.reader.Exact.{counted}
use Rattle.lay_read_tokens.specs.Answers.{AreAll, AreLexed, AreRead, StandInRow, StandsBefore, Stopped}
use Rattle.lay_read_tokens.specs.declared.stop.ReadNone.{ReadNone}
use Rattle.lay_read_tokens.specs.declared.stop.ReadNone.TheVariants.{NoReading, NoMemory}
use Rattle.lay_read_tokens.proofs.Lexed.{lexed_in_text}
use Rattle.lay_read_tokens.proofs.Lists.{some_is}

module _ (inner : Bool) where
  abbrev AttrFront : Attr → Tokens → ℕ → ℕ → Type 0
  AttrFront x = Front (about_attr inner x)

  stands : (attr : Attr) (ts rest : Tokens) → GoodAt (about_attr inner) 0 attr ts rest → StandsBefore AttrFront 0 ts attr rest
  stands attr ts rest g = let c = counted (about_attr inner attr) 0 ts rest (g.0, g.1, refl) in (c.0, sym c.1, c.2)

  good : (attr : Attr) (ts rest : Tokens) → StandsBefore AttrFront 0 ts attr rest → GoodAt (about_attr inner) 0 attr ts rest
  good attr ts rest s = (subst (Spells (about_attr inner attr).form 0 ts) (sym s.1) s.2.1, s.2.2)

  in_row : (attrs : List Attr) (ts rest : Tokens) → Rows (GoodAt (about_attr inner) 0) attrs ts rest → StandInRow AttrFront ts attrs rest
  in_row [] ts rest r = sym r
  in_row (attr ∷ attrs) ts rest r = (r.0, stands attr ts r.0 r.1, in_row attrs r.0 rest r.2)

  of_row : (attrs : List Attr) (ts rest : Tokens) → StandInRow AttrFront ts attrs rest → Rows (GoodAt (about_attr inner) 0) attrs ts rest
  of_row [] ts rest s = sym s
  of_row (attr ∷ attrs) ts rest s = (s.0, good attr ts s.0 s.1, of_row attrs s.0 rest s.2)

  read_back : (attrs : List Attr) (ts rest : Tokens) → AreAll AttrFront (begins_attr inner) ts attrs rest → attributes inner ts ≡ Some (attrs, rest)
  read_back attrs ts rest a = attributes_complete inner attrs 0 ts rest (of_row attrs ts rest a.0) a.1

  module _ (ts : Tokens) (l : AreLexed ts) (fork : Tokens) (e : fork ≡ ts) where
    pub all_read : (attrs : List Attr) (left : Tokens) → attributes inner fork ≡ Some (attrs, left)
        → AreRead AttrFront (begins_attr inner) ts (Ok attrs) left
    all_read attrs left h =
        let here : attributes inner ts ≡ Some (attrs, left) = ap (attributes inner) (sym e) ∙ h in
        let s = attributes_sound inner 0 ts attrs left (lexed_in_text ts l) here in (
          (in_row attrs ts left s.0, s.2),
          λ others rest o.
              let same = some_is {A = List Attr × Tokens} (others, rest) (attrs, left) (sym (read_back others ts rest o) ∙ here) in
              (ap (λ (x : List Attr × Tokens). x.0) same, ap (λ (x : List Attr × Tokens). x.1) same),
        )

    pub none_read : (none : ReadNone) → Stopped (attributes inner fork) none → AreRead AttrFront (begins_attr inner) ts (Err none) ts
    none_read NoReading h =
        let here : attributes inner ts ≡ None = ap (attributes inner) (sym e) ∙ h in
        (refl, λ attrs rest a. let back = read_back attrs ts rest a in absurd (cc))
    none_read NoMemory h = refl
