-- Groups by themselves, and macro calls.
use Rattle.std.proofs.Common.{◌≡◌, ℕ, true, false, drop, codes, inl, inr, Some, None, refl, ap, ◌∙◌}
use Rattle.std.proofs.lemmas.Bool.{and_parts, and_from}
use Rattle.lay_token.specs.Operators.{is_op}
use Rattle.lay_piece.specs.declared.kind.Delim.{Delim}
use Rattle.lay_piece.specs.declared.kind.Delim.TheVariants.{Paren, Bracket, Brace}
use Rattle.lay_form.specs.Form.{Done, Operator, punct}
use Rattle.lay_form.specs.Spelled.{IsOperator, AreBits, Spells}
use Rattle.lay_form.proofs.FormLaws.{bits_end, is_end}
use Rattle.lay_node.specs.Ahead.{Tokens}
use Rattle.lay_node.specs.nodes.Call.{is_group, about_group, bang, end_form, about_call}
use Rattle.lay_node.specs.nodes.Facts.{Front}
use Rattle.lay_node.specs.nodes.SimplePath.{simple_path_form, about_simple_path}
use Rattle.lay_node.specs.reader.Call.{behind_bang, call, behind_end}
use Rattle.lay_node.specs.reader.Exact.{InText, Exact, needless}
use Rattle.lay_node.specs.reader.Loops.{Got, ◌>>=◌}
use Rattle.lay_node.specs.reader.SimplePath.{simple_path}
use Rattle.lay_node.specs.reader.Tokens.{group}
use Rattle.lay_node.specs.tokens.Lists.{group_form}
use Rattle.lay_node.specs.declared.simple_path.SimplePath.{SimplePath}
use Rattle.lay_node.specs.declared.tokens.Group.{Group}
use Rattle.lay_node.specs.declared.tokens.MacroCall.{MacroCall}
use Rattle.lay_node.proofs.Fronts.{texts_behind, mark_passed, mark_passed_is, other_op}
use Rattle.lay_node.proofs.Parts.{bit_alone, bit_piece, piece_bit, before_blank}
use Rattle.lay_node.proofs.Steps.{same_some, chosen, bind_some}
use Rattle.lay_node.proofs.reader.Exact.{Stands, exact, needless_sound, needless_complete}
use Rattle.lay_node.proofs.reader.SimplePath.{simple_path_sound, simple_path_complete}
use Rattle.lay_node.proofs.reader.Tokens.{group_sound, SpelledGroup, group_complete}

-- ---- groups

group_alone : (depth : ℕ) (ts : Tokens) (g : Group) (rest : Tokens) → InText ts → group ts ≡ Some (g, rest)
    → Spells (group_form g Done) depth ts rest × (is_group g ≡ true)
group_alone depth ts g rest t h = group_sound depth ts g rest Done rest t h refl

group_reads : (g : Group) (depth : ℕ) (ts rest : Tokens) → Stands (about_group g) depth ts rest → group ts ≡ Some (g, rest)
group_reads g depth ts rest s =
    let r = group_complete g Done depth ts rest s.0 s.1 in r.read ∙ ap (λ (z : Tokens). let found : Got Group = Some (g, z) in found) r.after

pub groups : Exact (needless group) (λ (x : Group). Front (about_group x))
groups =
    exact about_group (needless group)
    (needless_sound about_group group (λ ts g rest t h. let s = group_alone 0 ts g rest t h in (s.0, s.1, refl)))
    (needless_complete about_group group group_reads)

-- ---- the `!`, and what ends an item

bang_bits : (d : Delim) (ts rest : Tokens) → IsOperator (codes "!") ts rest → AreBits (bang d) ts rest
bang_bits Paren ts rest o = (rest, o, refl)
bang_bits Bracket ts rest o = (rest, o, refl)
bang_bits Brace ts rest o = (rest, o, (rest, refl, refl))

pub bang_operator : (d : Delim) (ts rest : Tokens) → AreBits (bang d) ts rest → IsOperator (codes "!") ts rest
bang_operator Paren ts rest s = bit_alone (Operator (codes "!")) ts rest s
bang_operator Bracket ts rest s = bit_alone (Operator (codes "!")) ts rest s
bang_operator Brace ts rest s = before_blank (Operator (codes "!")) ts rest s

pub end_spelled : (d : Delim) (depth : ℕ) (ts rest : Tokens) → behind_end d ts ≡ Some rest → Spells (end_form d) depth ts rest
end_spelled Brace depth ts rest h = let e : ts ≡ rest = cc h in e
end_spelled Paren depth ts rest h = bit_piece (punct 59) depth ts rest (mark_passed_is (codes ";") ts rest h)
end_spelled Bracket depth ts rest h = bit_piece (punct 59) depth ts rest (mark_passed_is (codes ";") ts rest h)

pub end_read : (d : Delim) (depth : ℕ) (ts rest : Tokens) → Spells (end_form d) depth ts rest → behind_end d ts ≡ Some rest
end_read Brace depth ts rest s = ap (λ (z : Tokens). Some z) s
end_read Paren depth ts rest s = mark_passed (codes ";") ts rest (piece_bit (punct 59) depth ts rest s)
end_read Bracket depth ts rest s = mark_passed (codes ";") ts rest (piece_bit (punct 59) depth ts rest s)

-- ---- macro calls

pub call_sound : (depth : ℕ) (ts : Tokens) (c : MacroCall) (rest : Tokens) → InText ts → call ts ≡ Some (c, rest) → Stands (about_call c) depth ts rest
unfolding call
call_sound depth ts c rest t h =
    let last : SimplePath → (Group × Tokens) → Got MacroCall = λ p g. Some (record { path = p; tokens = g.0 }, g.1) in
    let b = bind_some (simple_path ts) (λ p. behind_bang p.1 >>= (λ within. group within >>= last p.0)) (c, rest) h in
    let o = bind_some (behind_bang b.0.1) (λ within. group within >>= last b.0.0) (c, rest) b.2 in
    let g = bind_some (group o.0) (last b.0.0) (c, rest) o.2 in
    let p = simple_path_sound depth ts b.0.0 b.0.1 t b.1 in
    let left = texts_behind ts b.0.1 (is_end (simple_path_form b.0.0) depth ts b.0.1 p.0) t in
    let mark = bang_is b.0.1 o.0 o.1 in
    let bits = bang_bits g.0.0.delim b.0.1 o.0 mark in
    let inside = texts_behind b.0.1 o.0 (bits_end (bang g.0.0.delim) b.0.1 o.0 bits) left in
    let s = group_alone depth o.0 g.0.0 g.0.1 inside g.1 in
    let good = and_from (about_simple_path b.0.0).good (is_group g.0.0) p.1 s.1 in
    let stands : Stands (about_call (record { path = b.0.0; tokens = g.0.0 })) depth ts g.0.1 = ((b.0.1, p.0, (o.0, bits, s.0)), good, refl) in
    same_some (λ (r : MacroCall × Tokens). Stands (about_call r.0) depth ts r.1) (record { path = b.0.0; tokens = g.0.0 }, g.0.1) (c, rest) g.2 stands
  where
    bang_is : (ts within : Tokens) → behind_bang ts ≡ Some within → IsOperator (codes "!") ts within
    bang_is ts within h = elim (chosen (is_op (codes "!") ts) (Some (drop 1 ts)) None (Some within) h) [
      | inl g ↦ let e : drop 1 ts ≡ within = cc g.1 in (g.0, e)
      | inr g ↦ absurd (cc)
    ]

-- what spells a macro call, and what is read of it
pub record SpelledCall (c : MacroCall) (depth : ℕ) (ts rest : Tokens) : Type 0 where
  pub mid : Tokens
  pub within : Tokens
  pub path : Spells (simple_path_form c.path) depth ts mid
  pub good : (about_simple_path c.path).good ≡ true
  pub mark : IsOperator (codes "!") mid within
  pub group : SpelledGroup c.tokens Done depth within rest
  pub read : call ts ≡ Some (c, rest)

pub call_complete : (c : MacroCall) (depth : ℕ) (ts rest : Tokens) → Stands (about_call c) depth ts rest → SpelledCall c depth ts rest
unfolding call
call_complete c depth ts rest s =
    let spelled = s.0 in
    let mid = spelled.0 in
    let inner = spelled.2 in
    let goods = and_parts (about_simple_path c.path).good (is_group c.tokens) s.1 in
    let o = bang_operator c.tokens.delim mid inner.0 inner.1 in
    let no_colons : is_op (codes "::") mid ≡ false = other_op (codes "!") (codes "::") refl mid o.0 in
    let p = simple_path_complete c.path depth ts mid (spelled.1, goods.0, rw no_colons refl) in
    let g = group_complete c.tokens Done depth inner.0 rest inner.2 goods.1 in
    let read : group inner.0 ≡ Some (c.tokens, rest) = g.read ∙ ap (λ (z : Tokens). let found : Got Group = Some (c.tokens, z) in found) g.after in
    record {
      mid = mid;
      within = inner.0;
      path = spelled.1;
      good = goods.0;
      mark = o;
      group = g;
      read = rw (p, o.0, o.1, read) refl;
    }

pub calls : Exact (needless call) (λ (x : MacroCall). Front (about_call x))
calls =
    exact about_call (needless call) (needless_sound about_call call (call_sound 0))
    (needless_complete about_call call (λ c depth ts rest s. (call_complete c depth ts rest s).read))
