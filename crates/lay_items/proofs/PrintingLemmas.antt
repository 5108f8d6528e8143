-- Items and texts, one after another.
use Rattle.std.proofs.Common.{◌≡◌, ℕ, suc, ◌+◌, ◌<◌, ◌≤◌, false, List, [], ◌∷◌, ◌++◌, length, get_or, drop, Result, IfOk, drop-cons, add-one, append_assoc, append-nil, sym, ap, ◌∙◌, subst}
use Rattle.std.proofs.Math.ListN.{drop_of_length-le}
use Rattle.std.specs.List.{concat}
use Rattle.lay_layout.specs.Document.{stream}
use Rattle.lay_layout.specs.declared.layout.Tok.TheVariants as tok
use Rattle.lay_form.specs.Form.{Hard}
use Rattle.lay_form.specs.Layout.{break_of}
use Rattle.lay_form.specs.Stream.{stream_of}
use Rattle.lay_form.proofs.StreamLaws.{stream_is}
use Rattle.lay_code.specs.Out.{layout_of_file}
use Rattle.lay_code.specs.nodes.Code.{form_of_item}
use Rattle.lay_code.specs.nodes.File.{form_of_file}
use Rattle.lay_code.specs.declared.item.Item.{Item}
use Rattle.lay_items.specs.alone.Outputs.{alone}
use Rattle.lay_out_tokens.proofs.StreamParts.{fed_more}

-- The stream of an item and a newline is that of a file with the item alone.
pub alone_parts : (item : Item)
    → stream_of (form_of_item item) ++ (tok.Break (break_of (Hard false)) ∷ []) ≡ stream (layout_of_file (alone item))
alone_parts item =
    sym (fed_more false (form_of_item item) (tok.Break (break_of (Hard false)) ∷ []))
    ∙ sym (stream_is (form_of_file (alone item)))

-- a text that is another
pub told : {E : Type 0} (result : Result (List ℕ) E) (given wanted : List ℕ) → IfOk result (λ text. text ≡ given) → given ≡ wanted
    → IfOk result (λ text. text ≡ wanted)
told result given wanted h is = subst (λ (t : List ℕ). IfOk result (λ text. text ≡ t)) is h

-- ---- texts, one after another

-- One more text is added, and what is left of the texts stands after it.
pub one_more : (text new part : List ℕ) (parts : List (List ℕ)) (i : ℕ) → i < length parts → part ≡ get_or parts i part
    → new ≡ text ++ part → new ++ concat (drop (i + 1) parts) ≡ text ++ concat (drop i parts)
one_more text new part parts i within is grew =
    let first : drop i parts ≡ part ∷ drop (i + 1) parts =
    rw add-one (drop-cons parts i part within ∙ ap (λ (y : List ℕ). y ∷ drop (suc i) parts) (sym is)) in
    ap (λ (t : List ℕ). t ++ concat (drop (i + 1) parts)) grew
    ∙ append_assoc text part (concat (drop (i + 1) parts))
    ∙ ap (λ (ps : List (List ℕ)). text ++ concat ps) (sym first)

-- Where no text is left, all were added.
pub no_more : (text : List ℕ) (parts : List (List ℕ)) (i : ℕ) → length parts ≤ i → text ++ concat (drop i parts) ≡ text
no_more text parts i past = ap (λ (ps : List (List ℕ)). text ++ concat ps) (drop_of_length-le parts past) ∙ append-nil text
