-- Unary expressions are parsed where they are spelled: the operators one by one, and the operand
-- after the last of them.
use Rattle.std.proofs.Common.{◌≡◌, ℕ, suc, ◌≤◌, ◌<◌, leb-true, Bool, true, false, not, ◌&&◌, ◌||◌, nat_le, List, [], ◌∷◌, length, drop, codes, Some, is_some, inl, inr, refl, arith}
use Rattle.std.proofs.lemmas.Bool.{and_parts, cases_Bool, not-true}
use Rattle.lay_piece.specs.declared.kind.Kind.TheVariants.{Ident, Punct}
use Rattle.lay_token.specs.declared.token.Token.{Token}
use Rattle.lay_form.specs.Form.{Blank, Fixed, Form, Done, Part, keyword}
use Rattle.lay_form.specs.Spelled.{IsOne, AreBits, Spells, Then}
use Rattle.lay_node.specs.Ahead.{Tokens, first, tail, is_keyword}
use Rattle.lay_node.specs.nodes.Types.{is_there}
use Rattle.lay_node.proofs.Fronts.{one_front, one_shorter}
use Rattle.lay_node.proofs.Parts.{Rows, bit_alone, behind_blank, before_blank}
use Rattle.lay_node.proofs.reader.Exact.{IsRead}
use Rattle.lay_node.proofs.reader.Loops.{Turn, repeat_complete}
use Rattle.lay_node.proofs.reader.TypesCompleteParts.{none_left, none_right}
use Rattle.lay_code.specs.Operators.{raw_by, amp_by, prefix_by, prefix, prefix_length, strength}
use Rattle.lay_code.specs.nodes.Code.{about_expr}
use Rattle.lay_code.specs.nodes.Exprs.{ExprFacts, Tail, stands, placed, begins_pointer, tail_follows, prefix_bits, prefixes_form, is_amp, ends_in_amp, is_prefix_lead, tail_of}
use Rattle.lay_code.specs.nodes.Places.{plain}
use Rattle.lay_code.specs.reader.Exprs.{one_prefix, unary_expr}
use Rattle.lay_code.specs.reader.Within.{ExprWithin}
use Rattle.lay_code.specs.declared.exprs.Expr.{Expr}
use Rattle.lay_code.specs.declared.blocks.Stmt.TheOpen.{Expr-F}
use Rattle.lay_code.specs.declared.exprs.Expr.TheVariants as expr
use Rattle.lay_code.specs.declared.exprs.Place.{Place}
use Rattle.lay_code.specs.declared.operators.Prefix.{Prefix}
use Rattle.lay_code.specs.declared.operators.Prefix.TheVariants as before
use Rattle.lay_code.proofs.nodes.ExprsLaws.{expr_unary_is}
use Rattle.lay_code.proofs.reader.BodilessKinds.{raw_bare}
use Rattle.lay_code.proofs.reader.ExprFronts.{placed_begins}
use Rattle.lay_code.proofs.reader.ExprHeads.{IsHead, head_of}
use Rattle.lay_code.proofs.reader.ExprHeadsJumps.{OperandBefore, plain_followed}
use Rattle.lay_code.proofs.reader.ExprHeadsRaw.{begins_raw, stands_level, expr_raw}
use Rattle.lay_code.proofs.reader.ExprLeads.{expr_no_keyword, lead_no_prefix}
use Rattle.lay_code.proofs.reader.ExprQuiet.{fits_tail, tail_fits}
use Rattle.lay_code.proofs.reader.ExprReads.{ExprReads}
use Rattle.lay_code.proofs.reader.ExprSoundLevel.{within_held}
use Rattle.lay_code.proofs.reader.Followed.{Ended, SpelledBefore, bodiless_tail, ended_as, last_parts, piece_parts}

-- ---- one operator

-- After it stands what is no more of a `&`.
abbrev Stops : Prefix → Tokens → Type 0
Stops p ts = is_amp p ≡ true → amp_by ts ≡ before.Amp

abbrev IsPrefix : Prefix → Tokens → Tokens → Type 0
IsPrefix p ts rest = (prefix ts ≡ Some p) × (drop (prefix_length p) ts ≡ rest) × (length rest < length ts)

-- one character
char_prefix : (p : Prefix) (c : ℕ) (ts rest : Tokens) → ((us : Tokens) → prefix_by (c ∷ []) us ≡ Some p) → prefix_length p ≡ 1
    → IsOne Punct (c ∷ []) ts rest
    → IsPrefix p ts rest
unfolding prefix
char_prefix p c ts rest is one o =
    let f = one_front Punct (c ∷ []) ts rest o in
    let front : (prefix ts ≡ Some p) = rw f.1 (is rest) in
    (front, rw (one, f.1) refl, one_shorter Punct (c ∷ []) ts rest o)

-- a `&`, by what follows it
amp_prefix : (p : Prefix) (ts at : Tokens) → IsOne Punct (codes "&") ts at → amp_by at ≡ p → prefix ts ≡ Some p
unfolding prefix
amp_prefix p ts at o e = rw (one_front Punct (codes "&") ts at o).1 (rw e refl)

-- `&raw` and a word
raw_prefix : (p : Prefix) (word : List ℕ) (ts rest : Tokens)
    → ((t : Token) (us : Tokens) → raw_by (record t { kind = Ident; text = word } ∷ us) ≡ p)
    → prefix_length p ≡ 3
    → AreBits (Fixed Punct (codes "&") ∷ keyword (codes "raw") ∷ Blank ∷ keyword word ∷ Blank ∷ []) ts rest → IsPrefix p ts rest
raw_prefix p word ts rest is three b =
    let at = b.0 in
    let o : IsOne Punct (codes "&") ts at = b.1 in
    let behind = b.2 in
    let w : IsOne Ident (codes "raw") at behind.0 = behind.1 in
    let last : IsOne Ident word behind.0 rest =
    before_blank (keyword word) behind.0 rest (behind_blank (keyword word ∷ Blank ∷ []) behind.0 rest behind.2) in
    let f = one_front Ident word behind.0 rest last in
    let g = (one_front Ident (codes "raw") at behind.0 w).1 in
    let named : raw_by behind.0 ≡ p = rw f.1 (is f.0 rest) in
    let amp : amp_by at ≡ p = rw g named in
    let left : drop 3 ts ≡ rest = rw (one_front Punct (codes "&") ts at o).1 (rw g (rw f.1 refl)) in (
      amp_prefix p ts at o amp,
      rw three left,
      omega (
        arith,
        one_shorter Punct (codes "&") ts at o,
        one_shorter Ident
            (codes "raw") at behind.0 w,
        one_shorter Ident word behind.0 rest last,
      ),
    )

-- An operator is read where it is spelled.
prefix_read : (p : Prefix) (ts rest : Tokens) → AreBits (prefix_bits p) ts rest → Stops p rest → IsPrefix p ts rest
prefix_read before.Neg ts rest b stops = char_prefix before.Neg 45 ts rest (λ us. refl) refl (bit_alone (Fixed Punct (codes "-")) ts rest b)
prefix_read before.Deref ts rest b stops =
    char_prefix before.Deref 42 ts rest (λ us. refl) refl (bit_alone (Fixed Punct (codes "*")) ts rest b)
prefix_read before.Bang ts rest b stops =
    char_prefix before.Bang 33 ts rest (λ us. refl) refl (bit_alone (Fixed Punct (codes "!")) ts rest b)
prefix_read before.Amp ts rest b stops =
    let o : IsOne Punct (codes "&") ts rest = bit_alone (Fixed Punct (codes "&")) ts rest b in (
      amp_prefix before.Amp ts rest o (stops refl),
      rw (one_front Punct (codes "&") ts rest o).1 refl,
      one_shorter Punct
          (codes "&") ts rest o,
    )
prefix_read before.AmpMut ts rest b stops =
    let o : IsOne Punct (codes "&") ts b.0 = b.1 in
    let m : IsOne Ident (codes "mut") b.0 rest = before_blank (keyword (codes "mut")) b.0 rest b.2 in
    let f = (one_front Ident (codes "mut") b.0 rest m).1 in
    let is : amp_by b.0 ≡ before.AmpMut = rw f refl in
    let left : drop 2 ts ≡ rest = rw (one_front Punct (codes "&") ts b.0 o).1 (rw f refl) in (
      amp_prefix before.AmpMut ts b.0 o is,
      left,
      omega
          (arith, one_shorter Punct (codes "&") ts b.0 o, one_shorter Ident (codes "mut") b.0 rest m),
    )
prefix_read before.RawConst ts rest b stops = raw_prefix before.RawConst (codes "const") ts rest (λ t us. refl) refl b
prefix_read before.RawMut ts rest b stops = raw_prefix before.RawMut (codes "mut") ts rest (λ t us. refl) refl b

-- An operator isn't more of the `&` before it.
prefix_stops : (q : Prefix) (ts rest : Tokens) → AreBits (prefix_bits q) ts rest → amp_by ts ≡ before.Amp
prefix_stops q ts rest b = by q b
  where
    mark : (text : List ℕ) (at : Tokens) → IsOne Punct text ts at → amp_by ts ≡ before.Amp
    mark text at o = rw (one_front Punct text ts at o).1 refl

    by : (q : Prefix) → AreBits (prefix_bits q) ts rest → amp_by ts ≡ before.Amp
    by before.Neg c = mark (codes "-") c.0 c.1
    by before.Deref c = mark (codes "*") c.0 c.1
    by before.Bang c = mark (codes "!") c.0 c.1
    by before.Amp c = mark (codes "&") c.0 c.1
    by before.AmpMut c = mark (codes "&") c.0 c.1
    by before.RawConst c = mark (codes "&") c.0 c.1
    by before.RawMut c = mark (codes "&") c.0 c.1

-- ---- all of them

abbrev PrefixTurn : Prefix → Tokens → Tokens → Type 0
PrefixTurn = Turn (λ us. is_some (prefix us)) one_prefix

prefix_turn : (p : Prefix) (ts rest : Tokens) → IsPrefix p ts rest → PrefixTurn p ts rest
prefix_turn p ts rest r = (rw r.0 refl, rw (r.0, r.1) refl, r.2)

-- an operator, spelled
abbrev PrefixSpelled : Prefix → Tokens → Tokens → Type 0
PrefixSpelled p ts rest = AreBits (prefix_bits p) ts rest

-- They are spelled one after the other, before the operand.
prefixes_before : (ps : List Prefix) (t : Tail) (f : Form) (no_struct : Bool) (depth : ℕ) (ts rest : Tokens)
    → SpelledBefore t (prefixes_form ps f) no_struct depth ts rest → Then (Rows PrefixSpelled ps) (SpelledBefore t f no_struct depth) ts rest
prefixes_before [] t f no_struct depth ts rest s = (ts, refl, s)
prefixes_before (p ∷ ps) t f no_struct depth ts rest s =
    let one = piece_parts t no_struct depth (prefix_bits p) (prefixes_form ps f) ts rest s in
    let more = prefixes_before ps t f no_struct depth one.0 rest one.2 in
    (more.0, (one.0, one.1, more.1), more.2)

-- The operators are read one by one, up to the operand.
prefix_rows : (ps : List Prefix) (ts rest : Tokens) → Rows PrefixSpelled ps ts rest → (ends_in_amp ps ≡ true → amp_by rest ≡ before.Amp)
    → Rows PrefixTurn ps ts rest
prefix_rows [] ts rest r stops = r
prefix_rows (p ∷ []) ts rest r stops =
    (r.0, prefix_turn p ts r.0 (prefix_read p ts r.0 r.1 (λ e. rw r.2 (stops e))), r.2)
prefix_rows (p ∷ q ∷ ps) ts rest r stops =
    let t = r.2 in
    let one = prefix_turn p ts r.0 (prefix_read p ts r.0 r.1 (λ e. prefix_stops q r.0 t.0 t.1)) in
    (r.0, one, prefix_rows (q ∷ ps) r.0 rest t stops)

-- ---- the operand

-- the tail of the operand, which the operators before it only add to
operand_fits : (t : Tail) (more no_struct : Bool) (ts : Tokens) → tail_follows (record t { raw = t.raw || more }) no_struct ts ≡ true
    → tail_follows t no_struct ts ≡ true
operand_fits t more no_struct ts h =
    let f = tail_fits (record t { raw = t.raw || more }) no_struct ts h in
    fits_tail t no_struct ts (record {
      all = f.all;
      bare = f.bare;
      path = f.path;
      label = f.label;
      raw = less t.raw f.raw;
      otherwise = f.otherwise;
      refuses = f.refuses;
    })
  where
    less : (a : Bool) → not ((a || more) && begins_pointer ts) ≡ true → not (a && begins_pointer ts) ≡ true
    less true h = h
    less false h = refl

-- After a `&` that ends the operators stands no more of it.
operand_stops : (x : Expr) (no_struct : Bool) (depth : ℕ) (ts rest : Tokens) → Spells (about_expr x).form depth ts rest
    → placed (about_expr x) (plain 12 no_struct) ≡ true → ((about_expr x).is_raw ≡ true → begins_pointer rest ≡ false)
    → amp_by ts ≡ before.Amp
operand_stops x no_struct depth ts rest s g alone = elim (cases_Bool (begins_raw ts)) [
  | inl e ↦ by e (elim (expr_raw depth x no_struct false ts rest s (within_held F place g) high e) [
    | inl n ↦ n
    | inr k ↦ rw k.1 (alone k.0)
  ])
  | inr e ↦ rw (no_mut, e) refl
]
  where
    F : ExprFacts
    F = about_expr x

    place : Place
    place = plain 12 no_struct

    high : nat_le 12 F.level ≡ true
    high = stands_level F place (and_parts (stands F place) (F.within no_struct false) g).0

    no_mut : first (is_keyword (codes "mut")) ts ≡ false
    no_mut = expr_no_keyword (codes "mut") (λ us. refl) ts F.lead (placed_begins x place depth ts rest s g).lead

    by : begins_raw ts ≡ true → begins_pointer (tail ts) ≡ false → amp_by ts ≡ before.Amp
    by e n =
        let a = none_left (first (is_keyword (codes "const")) (tail ts)) _ n in
        let b = none_right (first (is_keyword (codes "const")) (tail ts)) _ n in
        rw (no_mut, e, a, b) refl

module _ (depth : ℕ) (within : ExprWithin) (reads : ExprReads depth within) where
  -- operators and an operand after them
  unary_there : (ps : List Prefix) (x : Expr) (no_struct : Bool) (ts mid rest : Tokens) → Rows PrefixTurn ps ts mid
      → OperandBefore x no_struct depth mid rest
      → placed (about_expr x) (plain 12 no_struct) ≡ true → not (is_prefix_lead (about_expr x).lead) ≡ true
      → strength rest ≤ 12 → IsRead (suc depth) (unary_expr within no_struct) (expr.Unary ps x) ts rest
  unfolding unary_expr
  unary_there ps x no_struct ts mid rest rows s g lead weak =
      let b = placed_begins x (plain 12 no_struct) depth mid rest s.0 g in
      let stops = lead_no_prefix mid (about_expr x).lead b.lead lead in
      let prefixes = repeat_complete one_prefix (λ us. is_some (prefix us)) ps ts mid rows stops in
      let r = reads.exprs (plain 12 no_struct) x mid rest s.0 g (plain_followed (about_expr x) 12 no_struct depth mid rest weak s.1) in
      (suc r.0, omega (arith, r.1), rw (prefixes, r.2) refl)

  -- Neither `const` nor `mut` stands after `&raw`.
  none_pointer : (ps : List Prefix) (x : Expr) (no_struct : Bool) (mid rest : Tokens) → ends_in_amp ps ≡ true → (about_expr x).is_raw ≡ true
      → Ended (tail_of (Expr-F.Unary ps (about_expr x))) (about_expr x).form no_struct depth mid rest → begins_pointer rest ≡ false
  none_pointer ps x no_struct mid rest a k e =
      let t = tail_of (Expr-F.Unary ps (about_expr x)) in
      let f = tail_fits t no_struct rest (bodiless_tail t (about_expr x).form no_struct depth mid rest (raw_bare x k) e) in
      pointer_none (about_expr x).tail.raw (ends_in_amp ps) (about_expr x).is_raw a k f.raw
    where
      pointer_none : (a b c : Bool) → b ≡ true → c ≡ true → not ((a || (b && c)) && begins_pointer rest) ≡ true → begins_pointer rest ≡ false
      pointer_none true true true e k h = not-true (begins_pointer rest) h
      pointer_none false true true e k h = not-true (begins_pointer rest) h
      pointer_none a true false e k h = absurd (cc)
      pointer_none a false c e k h = absurd (cc)

  -- a unary expression
  pub unary_head : (ps : List Prefix) (x : Expr) → IsHead depth within (expr.Unary ps x)
  unary_head ps x = head_of depth within (expr.Unary ps x) (Expr-F.Unary ps (about_expr x)) (expr_unary_is ps x)
      (λ no_struct first_flag ts rest h.
      let F = about_expr x in
      let place = plain 12 no_struct in
      let goods = and_parts (is_there ps && placed F place) (not (is_prefix_lead F.lead)) h.inside in
      let good = (and_parts (is_there ps) (placed F place) goods.0).1 in
      let t = tail_of (Expr-F.Unary ps F) in
      let p = prefixes_before ps t (Part F.form Done) no_struct depth ts rest (h.spelled, h.tail) in
      let operand = last_parts t no_struct depth F.form p.0 rest p.2 in
      let stops : ends_in_amp ps ≡ true → amp_by p.0 ≡ before.Amp =
      λ e. operand_stops x no_struct depth p.0 rest operand.0 good (λ k. none_pointer ps x no_struct p.0 rest e k operand.1) in
      let fits = operand_fits F.tail (ends_in_amp ps && F.is_raw) no_struct rest in
      unary_there ps x no_struct ts p.0 rest (prefix_rows ps ts p.0 p.1 stops)
      (ended_as t F.tail F.form no_struct depth p.0 rest fits operand) good goods.1 (leb-true (strength rest) 12 h.weak))
