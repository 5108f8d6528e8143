-- A spelling that ends in a brace that isn't in the tree is a spelling of the form.
use Rattle.std.proofs.Common.{ℕ, zero, suc, ◌-◌, ◌≤◌, List, inl, inr, refl, sym, subst, arith}
use Rattle.lay_token.specs.declared.token.Token.{Token}
use Rattle.lay_form.specs.Form.{Bit, Form, Done, Piece, Leaf, Listed, ListedDoc, Brk, LastComma, Group, Part, Deeper, Optional, Docs, Body}
use Rattle.lay_form.specs.Spelled.{AreBits, Braced, IsBehind, Spells, Then, cost}
use Rattle.lay_form.proofs.FormLaws.{deeper as raise}
use Rattle.lay_form.specs.BracedEnds.{EndsBraced}

-- a body without braces
body_of : (i : Form) (depth : ℕ) (ts rest : List Token) → Spells i (depth - 1) ts rest → Braced 0 (Spells i (depth - 1)) ts rest
body_of i depth ts rest s = (ts, refl, (rest, s, refl))

pub spelled : (f : Form) (depth : ℕ) (ts rest : List Token) → EndsBraced f depth ts rest → Spells f depth ts rest
spelled Done depth ts rest w = absurd w
spelled (Piece bits f) depth ts rest w = (w.0, w.1, spelled f depth w.0 rest w.2)
spelled (Leaf kind text f) depth ts rest w = (w.0, w.1, spelled f depth w.0 rest w.2)
spelled (Listed kind text joint f) depth ts rest w = (w.0, w.1, spelled f depth w.0 rest w.2)
spelled (ListedDoc inner text f) depth ts rest w = (w.0, w.1, spelled f depth w.0 rest w.2)
spelled (Brk space f) depth ts rest w = spelled f depth ts rest w
spelled (LastComma blanks f) depth ts rest w = (w.0, w.1, spelled f depth w.0 rest w.2)
spelled (Group consistent offset i f) depth ts rest (inl w) = (w.0, w.1, spelled f depth w.0 rest w.2)
spelled (Group consistent offset i f) depth ts rest (inr w) = (rest, spelled i depth ts rest w.0, w.1)
spelled (Part i f) depth ts rest (inl w) = (w.0, w.1, spelled f depth w.0 rest w.2)
spelled (Part i f) depth ts rest (inr w) = (rest, spelled i depth ts rest w.0, w.1)
spelled (Deeper i f) zero ts rest w = absurd w
spelled (Deeper i f) (suc depth) ts rest (inl w) = (w.0, w.1, spelled f (suc depth) w.0 rest w.2)
spelled (Deeper i f) (suc depth) ts rest (inr w) = (rest, spelled i depth ts rest w.0, w.1)
spelled (Optional laid bits f) depth ts rest w = (w.0, w.1, spelled f depth w.0 rest w.2)
spelled (Docs inner text f) depth ts rest w = (w.0, w.1, spelled f depth w.0 rest w.2)
spelled (Body braces behind i f) depth ts rest (n, may, le, inl w) =
    (n, may, le, (w.0, w.1, (w.2.0, w.2.1, spelled f depth w.2.0 rest w.2.2)))
spelled (Body braces behind i f) depth ts rest (n, may, le, inr (inl w)) = (n, may, le, (rest, w.1, (rest, w.2, w.3)))
spelled (Body braces behind i f) depth ts rest (n, may, le, inr (inr w)) =
    let whole : Braced n (Spells i (depth - cost n)) ts rest =
    subst (λ m. Braced m (Spells i (depth - cost m)) ts rest) (sym w.0) (body_of i depth ts rest (spelled i (depth - 1) ts rest w.1)) in
    (n, may, le, (rest, whole, (rest, subst (λ m. IsBehind behind m rest rest) (sym w.0) w.2, w.3)))

braced_raise : (i : Form) (n depth more : ℕ) (ts rest : List Token) → depth ≤ more → Braced n (Spells i depth) ts rest → Braced n (Spells i more) ts rest
braced_raise i n depth more ts rest h b = (b.0, b.1, (b.2.0, raise i depth more b.0 b.2.0 h b.2.1, b.2.2))

pub deeper : (f : Form) (depth more : ℕ) (ts rest : List Token) → depth ≤ more → EndsBraced f depth ts rest → EndsBraced f more ts rest
deeper Done depth more ts rest h w = absurd w
deeper (Piece bits f) depth more ts rest h w = (w.0, w.1, deeper f depth more w.0 rest h w.2)
deeper (Leaf kind text f) depth more ts rest h w = (w.0, w.1, deeper f depth more w.0 rest h w.2)
deeper (Listed kind text joint f) depth more ts rest h w = (w.0, w.1, deeper f depth more w.0 rest h w.2)
deeper (ListedDoc inner text f) depth more ts rest h w = (w.0, w.1, deeper f depth more w.0 rest h w.2)
deeper (Brk space f) depth more ts rest h w = deeper f depth more ts rest h w
deeper (LastComma blanks f) depth more ts rest h w = (w.0, w.1, deeper f depth more w.0 rest h w.2)
deeper (Group consistent offset i f) depth more ts rest h (inl w) = inl (w.0, raise i depth more ts w.0 h w.1, deeper f depth more w.0 rest h w.2)
deeper (Group consistent offset i f) depth more ts rest h (inr w) = inr (deeper i depth more ts rest h w.0, raise f depth more rest rest h w.1)
deeper (Part i f) depth more ts rest h (inl w) = inl (w.0, raise i depth more ts w.0 h w.1, deeper f depth more w.0 rest h w.2)
deeper (Part i f) depth more ts rest h (inr w) = inr (deeper i depth more ts rest h w.0, raise f depth more rest rest h w.1)
deeper (Deeper i f) zero more ts rest h w = absurd w
deeper (Deeper i f) (suc depth) zero ts rest h w = absurd (omega (arith, h))
deeper (Deeper i f) (suc depth) (suc more) ts rest h (inl w) =
    inl (w.0, raise i depth more ts w.0 (omega (arith, h)) w.1, deeper f (suc depth) (suc more) w.0 rest h w.2)
deeper (Deeper i f) (suc depth) (suc more) ts rest h (inr w) =
    inr (deeper i depth more ts rest (omega (arith, h)) w.0, raise f (suc depth) (suc more) rest rest h w.1)
deeper (Optional laid bits f) depth more ts rest h w = (w.0, w.1, deeper f depth more w.0 rest h w.2)
deeper (Docs inner text f) depth more ts rest h w = (w.0, w.1, deeper f depth more w.0 rest h w.2)
deeper (Body braces behind i f) depth more ts rest h (n, may, le, inl w) = (
  n,
  may,
  omega (arith, le, h),
  inl (w.0, braced_raise i n (depth - cost n) (more - cost n) ts w.0 (omega (arith, h)) w.1, (w.2.0, w.2.1, deeper f depth more w.2.0 rest h w.2.2)),
)
deeper (Body braces behind i f) depth more ts rest h (n, may, le, inr (inl w)) = (
  n,
  may,
  omega (arith, le, h),
  inr (inl (w.0, braced_raise i n (depth - cost n) (more - cost n) ts rest (omega (arith, h)) w.1, w.2, raise f depth more rest rest h w.3)),
)
deeper (Body braces behind i f) depth more ts rest h (n, may, le, inr (inr w)) = (
  n,
  may,
  omega (arith, le, h),
  inr (inr (w.0, deeper i (depth - 1) (more - 1) ts rest (omega (arith, h)) w.1, w.2, raise f depth more rest rest h w.3)),
)

pub last : (bits : List Bit) (i : Form) (depth : ℕ) (ts rest : List Token)
    → EndsBraced (Piece bits (Part i Done)) depth ts rest → Then (AreBits bits) (EndsBraced i depth) ts rest
last bits i depth ts rest (mid, b, inl w) = absurd w.2
last bits i depth ts rest (mid, b, inr w) = (mid, b, w.0)
