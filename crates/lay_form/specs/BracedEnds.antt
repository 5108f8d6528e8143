-- Spellings that end in a brace that isn't in the tree. What follows then follows a block.
use Rattle.std.specs.Prelude.{ℕ, zero, suc, ◌-◌, ◌≤◌, ◌≡◌, List, ◌⊎◌}
use Rattle.lay_token.specs.declared.token.Token.{Token}
use Rattle.lay_form.specs.Form.{Form, Done, Piece, Leaf, Listed, ListedDoc, Brk, LastComma, Group, Part, Deeper, Optional, Docs, Body, comma}
use Rattle.lay_form.specs.Spelled.{AreBits, Braced, IsBehind, IsComment, IsDoc, IsListed, IsOne, MayBe, MayBrace, Spells, Then, cost}

-- The second part ends so, after the first. Or the first ends so, and the second has no tokens.
abbrev pub EndsIn : (List Token → List Token → Type 0) → (List Token → List Token → Type 0) → (List Token → List Token → Type 0)
    → (List Token → List Token → Type 0) → List Token → List Token → Type 0
EndsIn First FirstEnds Second SecondEnds ts rest = Then First SecondEnds ts rest ⊎ (FirstEnds ts rest × Second rest rest)

-- The tokens up to the rest spell the form at the depth, and the last of them is a brace that isn't
-- in the tree.
abbrev pub EndsBraced : Form → ℕ → List Token → List Token → Type 0
EndsBraced Done depth ts rest = ⊥
EndsBraced (Piece bits f) depth ts rest = Then (AreBits bits) (EndsBraced f depth) ts rest
EndsBraced (Leaf kind text f) depth ts rest = Then (IsOne kind text) (EndsBraced f depth) ts rest
EndsBraced (Listed kind text joint f) depth ts rest = Then (IsListed kind text joint) (EndsBraced f depth) ts rest
EndsBraced (ListedDoc inner text f) depth ts rest = Then (IsComment inner text) (EndsBraced f depth) ts rest
EndsBraced (Brk space f) depth ts rest = EndsBraced f depth ts rest
EndsBraced (LastComma blanks f) depth ts rest = Then (MayBe comma) (EndsBraced f depth) ts rest
EndsBraced (Group consistent offset i f) depth ts rest =
    EndsIn (Spells i depth) (EndsBraced i depth) (Spells f depth) (EndsBraced f depth) ts rest
EndsBraced (Part i f) depth ts rest = EndsIn (Spells i depth) (EndsBraced i depth) (Spells f depth) (EndsBraced f depth) ts rest
EndsBraced (Deeper i f) zero ts rest = ⊥
EndsBraced (Deeper i f) (suc depth) ts rest =
    EndsIn (Spells i depth) (EndsBraced i depth) (Spells f (suc depth)) (EndsBraced f (suc depth)) ts rest
EndsBraced (Optional laid bits f) depth ts rest = Then (MayBe bits) (EndsBraced f depth) ts rest
EndsBraced (Docs inner text f) depth ts rest = Then (IsDoc inner text) (EndsBraced f depth) ts rest
EndsBraced (Body braces behind i f) depth ts rest = (n : ℕ) × MayBrace braces n × (cost n ≤ depth)
    × (Then (Braced n (Spells i (depth - cost n))) (Then (IsBehind behind n) (EndsBraced f depth)) ts rest
    ⊎ ((1 ≤ n) × Braced n (Spells i (depth - cost n)) ts rest × IsBehind behind n rest rest × Spells f depth rest rest)
    ⊎ ((n ≡ 0) × EndsBraced i (depth - 1) ts rest × IsBehind behind 0 rest rest × Spells f depth rest rest))
