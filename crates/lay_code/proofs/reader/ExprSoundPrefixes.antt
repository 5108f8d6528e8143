-- Prefix operators and their operand, and ranges: what is parsed stands there, if that holds one
-- level deeper.
use Rattle.std.proofs.Common.{◌≡◌, ℕ, zero, suc, ◌≤◌, max, Bool, true, false, not, ◌&&◌, ◌||◌, List, [], ◌∷◌, inl, inr, drop, codes, Option, option_map, Some, None, is_some, if◌then◌else◌, refl, sym, ap, subst, ◌∙◌, arith}
use Rattle.std.specs.Str.{bytes_eq}
use Rattle.std.proofs.lemmas.Bool.{and_parts, and_from}
use Rattle.lay_piece.specs.declared.kind.Kind.{Kind}
use Rattle.lay_piece.specs.declared.kind.Kind.TheVariants as kind
use Rattle.lay_token.specs.Lexes.{is_punct}
use Rattle.lay_token.specs.Operators.{is_op}
use Rattle.lay_token.specs.declared.token.Token.{Token}
use Rattle.lay_token.proofs.Deciding.{bytes_same}
use Rattle.lay_form.specs.Form.{Blank, Fixed, Form, Operator, Done, Part, Piece, keyword}
use Rattle.lay_form.specs.Spelled.{AreBits, IsOne, IsOperator, Spells}
use Rattle.lay_form.proofs.FormLaws.{bits_end, deeper as raise}
use Rattle.lay_node.specs.Ahead.{Tokens, first, tail, is_keyword}
use Rattle.lay_node.specs.Follow.{begins_dots}
use Rattle.lay_node.specs.nodes.Patterns.{dots}
use Rattle.lay_node.specs.nodes.Types.{about_path, is_there, lone_word}
use Rattle.lay_node.specs.reader.Exact.{InText}
use Rattle.lay_node.specs.reader.Loops.{repeat}
use Rattle.lay_node.specs.declared.token.Word.{Word}
use Rattle.lay_node.specs.declared.types.Path.{Path}
use Rattle.lay_node.specs.declared.types.PathStyle.TheVariants.{Code}
use Rattle.lay_node.proofs.Fronts.{keyword_one, texts_behind}
use Rattle.lay_node.proofs.Parts.{Rows, word_kind}
use Rattle.lay_node.proofs.Steps.{same_some, chosen, bind_some}
use Rattle.lay_node.proofs.reader.Loops.{repeat_sound}
use Rattle.lay_node.proofs.reader.PatternsSoundBinds.{word_there}
use Rattle.lay_node.proofs.reader.TypesSoundParts.{Out, bit_texts}
use Rattle.lay_code.specs.Operands.{ByPrefix, expr_lead_at}
use Rattle.lay_code.specs.Operators.{amp_by, prefix, prefix_by, prefix_length, raw_by}
use Rattle.lay_code.specs.nodes.Code.{about_expr}
use Rattle.lay_code.specs.nodes.Exprs.{ExprFacts, Tail, begins_free, begins_pointer, end_placed, ends_in_amp, expr_facts, is_amp, is_prefix_lead, is_raw_path, is_raw_word, lacks_operand, placed, prefix_bits, prefixes_form, start_placed, tail_of, ExprLayer}
use Rattle.lay_code.specs.nodes.Exprs as exprs
use Rattle.lay_code.specs.nodes.Places.{before_op, plain}
use Rattle.lay_code.specs.reader.Exprs.{one_prefix, operand_if, range_by, range_expr, unary_expr}
use Rattle.lay_code.specs.reader.Within.{ExprWithin}
use Rattle.lay_code.specs.declared.exprs.Expr.{Expr}
use Rattle.lay_code.specs.declared.blocks.Stmt.TheOpen.{Expr-F}
use Rattle.lay_code.specs.declared.exprs.Expr.TheVariants as expr
use Rattle.lay_code.specs.declared.operators.Prefix.{Prefix}
use Rattle.lay_code.specs.declared.operators.Prefix.TheVariants as before
use Rattle.lay_code.proofs.nodes.ExprsLaws.{expr_range_is, expr_unary_is}
use Rattle.lay_code.proofs.reader.ExprSoundFirst.{no_prefix, prefix_first}
use Rattle.lay_code.proofs.reader.ExprSoundLeads.{LedWithin}
use Rattle.lay_code.proofs.reader.ExprSoundLevel.{LeftHeld, SoundExprWithin, amp_follows, bare_follows, layer_of, made_before, tail_held}
use Rattle.lay_code.proofs.reader.ExprSoundLists.{OperandHeld, operand_sound}
use Rattle.lay_code.proofs.reader.Followed.{SpelledBefore, before_deeper, ended_as, last_made, part_made, piece_made}

-- ---- one operator

-- A prefix operator is spelled there, and where it is a `&` before the word `raw`, then after that stands no `const` and
-- no `mut`.
abbrev PrefixHeld : Prefix → Tokens → Tokens → Type 0
PrefixHeld p ts rest =
    AreBits (prefix_bits p) ts rest
    × (is_amp p ≡ true → first (is_keyword (codes "raw")) rest ≡ true → begins_pointer (tail rest) ≡ false)

-- the operator, by its length
abbrev Named : Tokens → Prefix → Type 0
Named ts p = PrefixHeld p ts (drop (prefix_length p) ts)

tail_drop : (ts : Tokens) → tail ts ≡ drop 1 ts
tail_drop [] = refl
tail_drop (t ∷ ts) = refl

tails_drop : (ts : Tokens) → tail (tail ts) ≡ drop 2 ts
tails_drop [] = refl
tails_drop (t ∷ []) = refl
tails_drop (t ∷ u ∷ ts) = refl

module _ (t : Token) (ts : Tokens) (k : t.kind ≡ kind.Punct) where
  -- what follows `&` and `raw`
  raw_named : t.text ≡ codes "&" → first (is_keyword (codes "raw")) ts ≡ true → Named (t ∷ ts) (raw_by (tail ts))
  raw_named e r =
      by (first (is_keyword (codes "const")) (tail ts)) (first (is_keyword (codes "mut")) (tail ts)) refl refl
    where
      raw_bits : (word : List ℕ) → first (is_keyword word) (tail ts) ≡ true
          → AreBits (Fixed kind.Punct (codes "&") ∷ keyword (codes "raw") ∷ Blank ∷ keyword word ∷ Blank ∷ []) (t ∷ ts) (drop 2 ts)
      raw_bits word f =
          let at = tail ts in
          let last : AreBits (keyword word ∷ Blank ∷ []) at (drop 2 ts) =
          (tail at, keyword_one word at f, (tail at, refl, tails_drop ts)) in
          (ts, (k, e, refl), (at, keyword_one (codes "raw") ts r, (at, refl, last)))

      by : (a b : Bool) → first (is_keyword (codes "const")) (tail ts) ≡ a → first (is_keyword (codes "mut")) (tail ts) ≡ b
          → Named (t ∷ ts) (if a then before.RawConst else (if b then before.RawMut else before.Amp))
      by true b f g = (raw_bits (codes "const") f, λ a. absurd (cc a))
      by false true f g = (raw_bits (codes "mut") g, λ a. absurd (cc a))
      by false false f g = ((ts, (k, e, refl), refl), λ a b. rw (f, g) refl)

  -- what follows `&`
  amp_named : t.text ≡ codes "&" → Named (t ∷ ts) (amp_by ts)
  amp_named e = by (first (is_keyword (codes "mut")) ts) (first (is_keyword (codes "raw")) ts) refl refl
    where
      by : (a b : Bool) → first (is_keyword (codes "mut")) ts ≡ a → first (is_keyword (codes "raw")) ts ≡ b
          → Named (t ∷ ts) (if a then before.AmpMut else (if b then raw_by (tail ts) else before.Amp))
      by true b f g = (
        (ts, (k, e, refl), (tail ts, keyword_one (codes "mut") ts f, (tail ts, refl, tail_drop ts))),
        λ a. absurd (cc a),
      )
      by false true f g = raw_named e g
      by false false f g = ((ts, (k, e, refl), refl), λ a b. absurd (cc (sym g ∙ b)))

  -- an operator of one character
  lone_named : (p : Prefix) (text : List ℕ) → prefix_bits p ≡ Fixed kind.Punct text ∷ [] → prefix_length p ≡ 1 → is_amp p ≡ false
      → t.text ≡ text → Named (t ∷ ts) p
  lone_named p text bits one plain e =
      let here : AreBits (Fixed kind.Punct text ∷ []) (t ∷ ts) ts = (ts, (k, e, refl), refl) in (
        subst (λ bs. AreBits bs (t ∷ ts) (drop (prefix_length p) (t ∷ ts))) (sym bits)
            (subst (λ n. AreBits (Fixed kind.Punct text ∷ []) (t ∷ ts) (drop n (t ∷ ts))) (sym one) here),
        λ a. absurd (cc (sym plain ∙ a)),
      )

  named : (p : Prefix) → prefix_by t.text ts ≡ Some p → Named (t ∷ ts) p
  named p h =
      let lone : (q : Prefix) (text : List ℕ) → prefix_bits q ≡ Fixed kind.Punct text ∷ [] → prefix_length q ≡ 1 → is_amp q ≡ false
      → bytes_eq t.text text ≡ true → Some q ≡ Some p → Named (t ∷ ts) p =
      λ q text a b c d e. same_some (Named (t ∷ ts)) q p e (lone_named q text a b c (bytes_same t.text text d)) in
      elim (chosen (bytes_eq t.text (codes "-")) _ _ _ h) [
        | inl g ↦ lone before.Neg (codes "-") refl refl refl g.0 g.1
        | inr g ↦ elim (chosen (bytes_eq t.text (codes "*")) _ _ _ g.1) [
          | inl f ↦ lone before.Deref (codes "*") refl refl refl f.0 f.1
          | inr f ↦ elim (chosen (bytes_eq t.text (codes "!")) _ _ _ f.1) [
            | inl e ↦ lone before.Bang (codes "!") refl refl refl e.0 e.1
            | inr e ↦ elim (chosen (bytes_eq t.text (codes "&")) _ _ _ e.1) [
              | inl d ↦ same_some (Named (t ∷ ts)) (amp_by ts) p d.1 (amp_named (bytes_same t.text (codes "&") d.0))
              | inr d ↦ absurd (cc d.1)
            ]
          ]
        ]
      ]

punct_kind : (k : Kind) → is_punct k ≡ true → k ≡ kind.Punct
punct_kind kind.Punct h = refl
punct_kind _ h = absurd (cc h)

prefix_named : (ts : Tokens) (p : Prefix) → prefix ts ≡ Some p → Named ts p
unfolding prefix
prefix_named [] p h = absurd (cc h)
prefix_named (t ∷ ts) p h = elim (chosen (is_punct t.kind) _ _ _ h) [
  | inl g ↦ named t ts (punct_kind t.kind g.0) p g.1
  | inr g ↦ absurd (cc g.1)
]

one_sound : (ts : Tokens) (p : Prefix) (rest : Tokens) → InText ts → one_prefix ts ≡ Some (p, rest)
    → Out PrefixHeld ts (p, rest)
one_sound ts p rest t h =
    let b = bind_some (prefix ts) _ _ h in
    let n = prefix_named ts b.0 b.1 in
    let at = drop (prefix_length b.0) ts in
    same_some (Out PrefixHeld ts) (b.0, at) (p, rest) b.2 (n, texts_behind ts at (bits_end (prefix_bits b.0) ts at n.0) t)

-- ---- all of them

prefixes_spelled : (t : Tail) (no_struct : Bool) (n : ℕ) (f : Form) (ps : List Prefix) (ts mid rest : Tokens) → Rows PrefixHeld ps ts mid
    → SpelledBefore t f no_struct n mid rest → SpelledBefore t (prefixes_form ps f) no_struct n ts rest
prefixes_spelled t no_struct n f [] ts mid rest r s = subst (λ us. SpelledBefore t f no_struct n us rest) (sym r) s
prefixes_spelled t no_struct n f (p ∷ ps) ts mid rest r s =
    piece_made t no_struct n (prefix_bits p) (prefixes_form ps f) ts r.0 rest r.1.0 (prefixes_spelled t no_struct n f ps r.0 mid rest r.2 s)

-- Where a test holds before parts and not after them, some stand there.
pub rows_there : {A : Type 0} (more : Tokens → Bool) (P : A → Tokens → Tokens → Type 0) (xs : List A) (ts rest : Tokens)
    → Rows P xs ts rest → more ts ≡ true → more rest ≡ false → is_there xs ≡ true
rows_there more P [] ts rest r h n = absurd (cc (sym h ∙ ap more r ∙ n))
rows_there more P (x ∷ xs) ts rest r h n = refl

-- Where the last is a `&` before the word `raw`, then after that stands no `const` and no `mut`.
last_amp : (ps : List Prefix) (ts mid : Tokens) → Rows PrefixHeld ps ts mid → ends_in_amp ps ≡ true
    → first (is_keyword (codes "raw")) mid ≡ true → begins_pointer (tail mid) ≡ false
last_amp [] ts mid r h f = absurd (cc h)
last_amp (p ∷ []) ts mid r h f =
    let held : PrefixHeld p ts mid = subst (λ us. PrefixHeld p ts us) r.2 r.1 in held.1 h f
last_amp (p ∷ q ∷ ps) ts mid r h f = last_amp (q ∷ ps) r.0 mid r.2 h f

-- ---- the path `raw`

raw_layer : (k : ExprLayer) → is_raw_path k ≡ true
    → (p : Path) × (k ≡ Expr-F.Path p) × (is_raw_word (lone_word p) ≡ true)
raw_layer (Expr-F.Path p) h = (p, refl, h)
raw_layer _ h = absurd (cc h)

-- It is the one word.
raw_there : (x : Expr) (n : ℕ) (ts rest : Tokens) → Spells (about_expr x).form n ts rest → (about_expr x).is_raw ≡ true
    → (first (is_keyword (codes "raw")) ts ≡ true) × (tail ts ≡ rest)
raw_there x n ts rest s h =
    let k = layer_of x in
    let l = raw_layer k.0 (subst (λ (z : ExprFacts). z.is_raw ≡ true) k.1 h) in
    let told : about_expr x ≡ expr_facts (Expr-F.Path l.0) = k.1 ∙ ap expr_facts l.1 in
    by_need l.0 n (subst (λ (z : ExprFacts). Spells z.form n ts rest) told s) (lone_word l.0) refl l.2
  where
    front : (w : Word) (ts rest : Tokens) → (not w.raw && bytes_eq w.text (codes "raw")) ≡ true → IsOne (word_kind w.raw) w.text ts rest
        → (first (is_keyword (codes "raw")) ts ≡ true) × (tail ts ≡ rest)
    front w [] rest h o = absurd o
    front w (t ∷ ts) rest h o =
        let both = and_parts (not w.raw) (bytes_eq w.text (codes "raw")) h in
        let k : t.kind ≡ kind.Ident = plain w.raw both.0 o.0 in
        let e : bytes_eq t.text (codes "raw") ≡ true = ap (λ u. bytes_eq u (codes "raw")) o.1 ∙ both.1 in
        (rw (k, e) refl, o.2)
      where
        plain : (raw : Bool) → not raw ≡ true → t.kind ≡ word_kind raw → t.kind ≡ kind.Ident
        plain false h e = e
        plain true h e = absurd (cc h)

    by_need : (p : Path) (n : ℕ) → Spells (expr_facts (Expr-F.Path p)).form n ts rest → (o : Option Word) → lone_word p ≡ o
        → is_raw_word o ≡ true → (first (is_keyword (codes "raw")) ts ≡ true) × (tail ts ≡ rest)
    by_need p zero s o e h = absurd s
    by_need p (suc n) s None e h = absurd (cc h)
    by_need p (suc n) s (Some w) e h =
        let spelled : Spells (about_path p Code).form n ts rest = subst (λ us. Spells (about_path p Code).form n ts us) s.2 s.1 in
        front w ts rest h (word_there p w n ts rest e spelled)

module _ (no_struct starts : Bool) (budget : ℕ) (within : ExprWithin) (sound : SoundExprWithin budget within)
    (led : LedWithin within) where
  abbrev Left : Expr × ℕ → Tokens → Tokens → Type 0
  Left = LeftHeld no_struct starts

  -- prefix operators and their operand
  pub unary_head : (ts : Tokens) → expr_lead_at ts ≡ Some ByPrefix → InText ts → (x : Expr × ℕ) (rest : Tokens)
      → unary_expr within no_struct ts ≡ Some (x, rest) → Out Left ts (x, rest)
  unfolding unary_expr
  unary_head ts lead t x rest h =
      let place = plain 12 no_struct in
      let more : Tokens → Bool = λ us. is_some (prefix us) in
      let ps = bind_some (repeat more one_prefix ts) _ _ h in
      let y = bind_some (within.exprs place ps.0.1) _ _ ps.2 in
      let r = repeat_sound more one_prefix PrefixHeld (λ us p left i m g. one_sound us p left i g) ts ps.0.0 ps.0.1 t ps.1 in
      let at = ps.0.1 in
      let s = sound.exprs place at y.0.0 y.0.1 r.1 y.1 in
      let inner = y.0.0.0 in
      let need = y.0.0.1 in
      let end = y.0.1 in
      let told = about_expr inner in
      let begun = no_prefix at told.lead (led place at y.0 y.1) r.2 in
      let there = rows_there more PrefixHeld ps.0.0 ts at r.0 (prefix_first ts lead) r.2 in
      let free : (ends_in_amp ps.0.0 && told.is_raw) ≡ true → begins_pointer end ≡ false =
      λ b.
      let both = and_parts (ends_in_amp ps.0.0) told.is_raw b in
      let raw = raw_there inner need at end s.0.1 both.1 in
      subst (λ us. begins_pointer us ≡ false) raw.1 (last_amp ps.0.0 ts at r.0 both.0 raw.0) in
      let kind : ExprLayer = Expr-F.Unary ps.0.0 told in
      let ended = ended_as told.tail (tail_of kind) told.form no_struct need at end
      (amp_follows told.tail (ends_in_amp ps.0.0 && told.is_raw) no_struct end free) (tail_held place budget told need at end s.0) in
      let spelled = prefixes_spelled (tail_of kind) no_struct need (Part told.form Done) ps.0.0 ts at end r.0
      (last_made (tail_of kind) no_struct need told.form at end ended) in
      same_some (Out Left ts) ((expr.Unary ps.0.0 inner, suc need), end) (x, rest) y.2 (
        made_before no_struct starts (about_expr (expr.Unary ps.0.0 inner)) kind need ts end (expr_unary_is ps.0.0 inner) spelled
            (and_from (is_there ps.0.0 && placed told place) (not (is_prefix_lead told.lead))
            (and_from (is_there ps.0.0) (placed told place) there s.0.2) begun),
        s.1,
      )

  -- ---- ranges

  -- The first end stands there, or nothing.
  abbrev pub StartHeld : Option Expr → ℕ → Tokens → Tokens → Type 0
  StartHeld None need ts rest = ts ≡ rest
  StartHeld (Some x) need ts rest =
      Spells (about_expr x).form need ts rest × (placed (about_expr x) (before_op 2 no_struct starts false) ≡ true)

  start_spelled : (t : Tail) (start : Option Expr) (need n : ℕ) (f : Form) (begun ts rest : Tokens) → need ≤ n → StartHeld start need begun ts
      → SpelledBefore t f no_struct n ts rest → SpelledBefore t (exprs.end_form (option_map about_expr start) f) no_struct n begun rest
  start_spelled t None need n f begun ts rest le k s = subst (λ us. SpelledBefore t f no_struct n us rest) (sym k) s
  start_spelled t (Some x) need n f begun ts rest le k s =
      let told = about_expr x in
      part_made t no_struct n told.form f begun ts rest (raise told.form need n begun ts le k.0) s

  start_good : (start : Option Expr) (need : ℕ) (begun ts : Tokens) → StartHeld start need begun ts
      → start_placed (option_map about_expr start) no_struct starts ≡ true
  start_good None need begun ts k = refl
  start_good (Some x) need begun ts k = k.1

  range_held : (start : Option Expr) (first_need : ℕ) (inclusive : Bool) (end : Option Expr) (need : ℕ) (begun ts at rest : Tokens)
      → StartHeld start first_need begun ts → AreBits (dots inclusive) ts at
      → OperandHeld budget within sound 2 no_struct end need at rest → (inclusive && not (is_some end)) ≡ false
      → Left (expr.Range start inclusive end, suc (max first_need need)) begun rest
  range_held start first_need inclusive None need begun ts at rest k o e n =
      let most = max first_need need in
      let told = option_map about_expr start in
      let form : Form = Piece (dots inclusive) Done in
      made_before no_struct starts (about_expr (expr.Range start inclusive None)) (Expr-F.Range told inclusive None) most begun rest
      (expr_range_is start inclusive None)
      (start_spelled lacks_operand start first_need most form begun ts rest (omega arith) k ((at, o, e.0), inl (bare_follows no_struct rest e.1)))
      (and_from (start_placed told no_struct starts) (not inclusive) (start_good start first_need begun ts k) (endless inclusive n))
    where
      endless : (inclusive : Bool) → (inclusive && true) ≡ false → not inclusive ≡ true
      endless true h = absurd (cc h)
      endless false h = refl
  range_held start first_need inclusive (Some x) need begun ts at rest k o e n =
      let most = max first_need need in
      let told = option_map about_expr start in
      let last = about_expr x in
      let form : Form = Part last.form Done in
      let ended = before_deeper last.tail last.form no_struct need most at rest (omega arith)
      (tail_held (plain 2 no_struct) budget last need at rest e.0) in
      made_before no_struct starts (about_expr (expr.Range start inclusive (Some x))) (Expr-F.Range told inclusive (Some last)) most begun rest
      (expr_range_is start inclusive (Some x))
      (start_spelled last.tail start first_need most (Piece (dots inclusive) form) begun ts rest (omega arith) k
      (piece_made last.tail no_struct most (dots inclusive) form ts at rest o (last_made last.tail no_struct most last.form at rest ended)))
      (and_from (start_placed told no_struct starts) (end_placed (Some last) inclusive no_struct)
      (start_good start first_need begun ts k)
      (and_from (placed last (plain 2 no_struct)) (begins_free no_struct last) e.0.2 e.1))

  range_by_sound : (start : Option Expr) (need : ℕ) (inclusive : Bool) (begun ts at : Tokens) → StartHeld start need begun ts
      → AreBits (dots inclusive) ts at → InText at → (x : Expr × ℕ) (rest : Tokens)
      → range_by within no_struct start need inclusive at ≡ Some (x, rest) → Out Left begun (x, rest)
  range_by_sound start need inclusive begun ts at k o t x rest h =
      let y = bind_some (operand_if within 2 no_struct at) _ _ h in
      let s = operand_sound budget within sound led 2 no_struct at y.0.0 y.0.1 t y.1 in
      elim (chosen (inclusive && not (is_some y.0.0.0)) _ _ _ y.2) [
        | inl g ↦ absurd (cc g.1)
        | inr g ↦
            same_some (Out Left begun) ((expr.Range start inclusive y.0.0.0, suc (max need y.0.0.1)), y.0.1) (x, rest) g.1
            (range_held start need inclusive y.0.0.0 y.0.0.1 begun ts at y.0.1 k o s.0 g.0, s.1)
      ]

  left_of : (a b : Bool) → (a || b) ≡ true → b ≡ false → a ≡ true
  left_of true b h e = refl
  left_of false b h e = absurd (cc (sym e ∙ h))

  -- a range, from its operator on
  pub range_sound : (start : Option Expr) (need : ℕ) (begun ts : Tokens) → StartHeld start need begun ts → begins_dots ts ≡ true
      → InText ts → (x : Expr × ℕ) (rest : Tokens) → range_expr within no_struct start need ts ≡ Some (x, rest)
      → Out Left begun (x, rest)
  unfolding range_expr
  range_sound start need begun ts k d t x rest h = elim (chosen (is_op (codes "..=") ts) _ _ _ h) [
    | inl g ↦
        let at = drop 3 ts in
        let o : IsOperator (codes "..=") ts at = (g.0, refl) in
        range_by_sound start need true begun ts at k (at, o, refl) (bit_texts (Operator (codes "..=")) ts at o t) x rest g.1
    | inr g ↦
        let at = drop 2 ts in
        let o : IsOperator (codes "..") ts at = (left_of (is_op (codes "..") ts) (is_op (codes "..=") ts) d g.0, refl) in
        range_by_sound start need false begun ts at k (at, o, refl) (bit_texts (Operator (codes "..")) ts at o t) x rest g.1
  ]
