-- The parts of patterns that have no patterns within them, where they are spelled: values, and the ends of spans.
use Rattle.std.proofs.Common.{◌≡◌, ℕ, suc, ◌≤◌, ◌<◌, max, Bool, true, false, not, ◌&&◌, ◌||◌, [], ◌∷◌, length, drop, codes, Option, Some, None, is_some, refl, ◌∙◌, arith}
use Rattle.std.proofs.lemmas.Bool.{and_parts}
use Rattle.lay_piece.specs.declared.kind.Kind.TheVariants.{Punct}
use Rattle.lay_token.specs.Operators.{is_op}
use Rattle.lay_form.specs.Form.{Operator, Done, Piece, punct}
use Rattle.lay_form.specs.Notation.{when}
use Rattle.lay_form.specs.Spelled.{IsOne, IsOperator, Spells}
use Rattle.lay_node.specs.Ahead.{Tokens, first, is_mark}
use Rattle.lay_node.specs.Begins.{OfPath, is_literal_token, begins_value, begins_span_end}
use Rattle.lay_node.specs.Follow.{may_follow}
use Rattle.lay_node.specs.Words.{is_literal, is_number}
use Rattle.lay_node.specs.nodes.Patterns.{value_form, is_value, end_form, is_end, end_refuses, dots, last_end, may_end, last_end_refuses, has_ends}
use Rattle.lay_node.specs.nodes.Types.{about_path, literal_form}
use Rattle.lay_node.specs.reader.Patterns.{is_number_token, value, one_end, span}
use Rattle.lay_node.specs.reader.Types.{Within}
use Rattle.lay_node.specs.declared.patterns.Pat.TheVariants as pat
use Rattle.lay_node.specs.declared.patterns.PatValue.{PatValue}
use Rattle.lay_node.specs.declared.patterns.SpanEnd.{SpanEnd}
use Rattle.lay_node.specs.declared.patterns.SpanEnd.TheVariants as span_end
use Rattle.lay_node.specs.declared.token.Literal.{Literal}
use Rattle.lay_node.specs.declared.types.PathStyle.TheVariants.{Code}
use Rattle.lay_node.proofs.Fronts.{one_front, other_op, one_shorter}
use Rattle.lay_node.proofs.Parts.{bit_alone, part_alone}
use Rattle.lay_node.proofs.reader.Exact.{IsRead}
use Rattle.lay_node.proofs.reader.PatternsFronts.{Front, lead_front, mark_front, literal_front}
use Rattle.lay_node.proofs.reader.TypesBegins.{path_begins}
use Rattle.lay_node.proofs.reader.TypesComplete.{Reads}
use Rattle.lay_node.proofs.reader.TypesCompleteParts.{one_alone, one_left, literal_complete, literal_kinds}
use Rattle.lay_node.proofs.reader.TypesCompletePaths.{path_read}
use Rattle.lay_node.proofs.reader.TypesFronts.{lead_no_value, follows_clear}

-- ---- values

pub record ValueRead (v : PatValue) (ts rest : Tokens) : Type 0 where
  pub begins : begins_value ts ≡ true
  pub read : value ts ≡ Some (v, rest)
  pub front : Front ts
  pub less : length rest < length ts

pub value_complete : (v : PatValue) (depth : ℕ) (ts rest : Tokens) → Spells (value_form v) depth ts rest → is_value v ≡ true → ValueRead v ts rest
unfolding value
value_complete v depth ts rest s g = at v.negative v.literal s g
  where
    at : (negative : Bool) (l : Literal) → Spells (when negative (punct 45 ∷ []) (literal_form l Done)) depth ts rest
        → (is_literal l.kind l.text && (not negative || is_number l.kind)) ≡ true → ValueRead (record { negative = negative; literal = l }) ts rest
    at false l t h =
        let good = (and_parts (is_literal l.kind l.text) true h).0 in
        let o = one_alone l.kind l.text ts t.0 rest t.1 t.2 in
        let r = literal_complete is_literal_token l ts rest (λ u. good) o in
        let no_minus : first (is_mark (codes "-")) ts ≡ false =
        rw ((one_front l.kind l.text ts rest o).1, (literal_kinds l.kind l.text good).0) refl in
        record {
          begins = rw r.1 refl;
          read = rw (no_minus, r.0) refl;
          front = literal_front l.kind l.text good ts rest o;
          less = one_shorter l.kind l.text ts rest o;
        }
    at true l t h =
        let goods = and_parts (is_literal l.kind l.text) (is_number l.kind) h in
        let o : IsOne Punct (codes "-") ts t.0 = bit_alone (punct 45) ts t.0 t.1 in
        let number = t.2 in
        let n = one_alone l.kind l.text t.0 number.0 rest number.1 number.2 in
        let r = literal_complete is_number_token l t.0 rest (λ u. goods.1) n in
        let f = one_front Punct (codes "-") ts t.0 o in
        let there : first (is_mark (codes "-")) ts ≡ true = rw f.1 refl in
        let no_literal : first is_literal_token ts ≡ false = rw f.1 refl in
        record {
          begins = rw (no_literal, there) refl;
          read = rw (there, one_left Punct (codes "-") ts t.0 o, r.0) refl;
          front = mark_front 45 refl refl ts t.0 o;
          less = omega (arith, one_shorter Punct (codes "-") ts t.0 o, one_shorter l.kind l.text t.0 rest n);
        }

-- ---- the ends of spans

pub record EndFront (ts rest : Tokens) : Type 0 where
  pub begins : begins_span_end ts ≡ true
  pub front : Front ts
  pub less : length rest < length ts

pub end_front : (e : SpanEnd) (depth : ℕ) (ts rest : Tokens) → Spells (end_form e) depth ts rest → is_end e ≡ true → EndFront ts rest
end_front (span_end.Value v) depth ts rest s g =
    let r = value_complete v depth ts rest s g in record { begins = rw r.begins refl; front = r.front; less = r.less }
end_front (span_end.Path p) depth ts rest s g =
    let b = path_begins Code p depth ts rest s g in
    record { begins = rw (lead_no_value ts OfPath b.lead, b.lead) refl; front = lead_front ts OfPath b.lead; less = b.less }

module _ (depth : ℕ) (inner : Within) (reads : Reads depth inner) where
  end_read : (e : SpanEnd) (ts rest : Tokens) → Spells (end_form e) depth ts rest → is_end e ≡ true → may_follow (end_refuses e) rest ≡ true
      → IsRead depth (one_end inner) e ts rest
  unfolding one_end
  end_read (span_end.Value v) ts rest s g f = let r = value_complete v depth ts rest s g in (0, omega arith, rw (r.begins, r.read) refl)
  end_read (span_end.Path p) ts rest s g f =
      let b = path_begins Code p depth ts rest s g in
      let r = path_read depth inner reads Code p ts rest s g (follows_clear (about_path p Code).refuses rest f) in
      (r.0, r.1, rw (lead_no_value ts OfPath b.lead, r.2) refl)

  -- the `..` or `..=` of a span, and its last end
  pub span_read : (start : Option SpanEnd) (need : ℕ) → need ≤ depth → (inclusive : Bool) (end : Option SpanEnd) (ts rest : Tokens)
      → Spells (Piece (dots inclusive) (last_end end)) depth ts rest → has_ends start inclusive end ≡ true → may_end end ≡ true
      → (not (is_some end) ≡ true → begins_span_end rest ≡ false) → may_follow (last_end_refuses end) rest ≡ true
      → IsRead (suc depth) (span inner start need) (pat.Span start inclusive end) ts rest
  unfolding span
  span_read start need le true None ts rest s g h f k = let e = (and_parts (is_some start || false) false g).1 in absurd (cc)
  span_read start need le true (Some e) ts rest s g h f k =
      let o : IsOperator (codes "..=") ts s.0 = bit_alone (Operator (codes "..=")) ts s.0 s.1 in
      let r = end_read e s.0 rest (part_alone (end_form e) depth s.0 rest s.2) h k in
      (suc (max need r.0), omega (arith, le, r.1), rw (o.0, o.1, r.2) refl)
  span_read start need le false (Some e) ts rest s g h f k =
      let o : IsOperator (codes "..") ts s.0 = bit_alone (Operator (codes "..")) ts s.0 s.1 in
      let spelled = part_alone (end_form e) depth s.0 rest s.2 in
      let r = end_read e s.0 rest spelled h k in
      let there = (end_front e depth s.0 rest spelled h).begins in
      let no : is_op (codes "..=") ts ≡ false = other_op (codes "..") (codes "..=") refl ts o.0 in
      (suc (max need r.0), omega (arith, le, r.1), rw (no, o.1, there, r.2) refl)
  span_read None need le false None ts rest s g h f k = absurd (cc)
  span_read (Some x) need le false None ts rest s g h f k =
      let o : IsOperator (codes "..") ts s.0 = bit_alone (Operator (codes "..")) ts s.0 s.1 in
      let no : is_op (codes "..=") ts ≡ false = other_op (codes "..") (codes "..=") refl ts o.0 in
      let left : drop 2 ts ≡ rest = o.1 ∙ s.2 in
      (suc need, omega (arith, le), rw (no, left, f refl) refl)
