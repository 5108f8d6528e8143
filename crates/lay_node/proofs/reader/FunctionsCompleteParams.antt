-- Parameters of functions: what is spelled is read, where what is one level deeper is read.
use Rattle.std.proofs.Common.{◌≡◌, ℕ, ◌≤◌, ◌<◌, max, Bool, true, false, not, ◌&&◌, ◌||◌, List, [], ◌∷◌, map, length, codes, Option, Some, None, inl, inr, refl, sym, ap, subst, ◌∙◌, arith, drop}
use Rattle.std.specs.List.{list_all}
use Rattle.std.proofs.lemmas.Bool.{and_from, and_parts, or_right}
use Rattle.lay_piece.specs.Forms.{closing, opening}
use Rattle.lay_piece.specs.declared.kind.Delim.TheVariants.{Paren}
use Rattle.lay_piece.specs.declared.kind.Kind.TheVariants as kind
use Rattle.lay_piece.specs.declared.kind.Kind.TheVariants.{Closer, Ident, Opener, Punct}
use Rattle.lay_token.specs.Operators.{is_op}
use Rattle.lay_form.proofs.FormLaws.{shorter}
use Rattle.lay_form.specs.Form.{Bit, Blank, Done, Fixed, Form, Operator, Part, Piece, closer, keyword, opener}
use Rattle.lay_form.specs.Notation.{comma_gap, comma_list, each, piece, when}
use Rattle.lay_form.specs.Spelled.{IsOne, IsOperator, Spells}
use Rattle.lay_node.specs.Ahead.{Tokens, closes, first, is_keyword, is_lifetime, is_mark, tail}
use Rattle.lay_node.specs.nodes.Attr.{about_attr, are_attrs}
use Rattle.lay_node.specs.nodes.Functions.{are_fn_params, ends_variadic, fn_param_form, fn_params_form, is_fn_param, is_param_kind, may_be_type, mut_word, param_kind_form, receives_first, self_type, self_word, varies_last}
use Rattle.lay_node.specs.nodes.Patterns.{about_pat, pat_form, pat_good}
use Rattle.lay_node.specs.nodes.Types.{about_type, good_at, ref_lifetime}
use Rattle.lay_node.specs.reader.Attr.{begins_attr}
use Rattle.lay_node.specs.reader.Functions.{are_in_order, begins_fn_param, begins_own_self, begins_ref_self, behind_lifetime, ends_param, fn_param, fn_params, mut_flag, own_self, param_kind, ref_self, typed, typed_by}
use Rattle.lay_node.specs.reader.Loops.{Read, deepest, nodes, open_elements}
use Rattle.lay_node.specs.reader.Patterns.{PatWithin}
use Rattle.lay_node.specs.reader.Types.{if_read, if_there, lifetime}
use Rattle.lay_node.specs.declared.functions.Param.{Param}
use Rattle.lay_node.specs.declared.functions.ParamKind.{ParamKind}
use Rattle.lay_node.specs.declared.functions.ParamKind.TheVariants as param
use Rattle.lay_node.specs.declared.patterns.Pat.{Pat}
use Rattle.lay_node.specs.declared.patterns.PatPlace.TheVariants.{Single}
use Rattle.lay_node.specs.declared.token.Lifetime.{Lifetime}
use Rattle.lay_node.specs.declared.types.Ty.{Ty}
use Rattle.lay_node.specs.declared.types.TypePlace.TheVariants.{Bounds}
use Rattle.lay_node.proofs.Fronts.{closer_first, closer_passed, one_front, one_shorter, op_shorter, opener_passed}
use Rattle.lay_node.proofs.Parts.{GoodAt, Rows, before_blank, behind_blank, bit_alone, part_alone, piece_bit}
use Rattle.lay_node.proofs.nodes.TypesLaws.{type_view}
use Rattle.lay_node.proofs.reader.AttrRead.{attributes_complete}
use Rattle.lay_node.proofs.reader.Exact.{IsRead}
use Rattle.lay_node.proofs.reader.FunctionsPatterns.{pat_start}
use Rattle.lay_node.proofs.reader.PatternsBegins.{single_begins}
use Rattle.lay_node.proofs.reader.PatternsCompletePaths.{PatReads}
use Rattle.lay_node.proofs.reader.PatternsFronts.{colon_follows}
use Rattle.lay_node.proofs.reader.TypesBegins.{lead_of, type_begins}
use Rattle.lay_node.proofs.reader.TypesComplete.{and_none, operator_read, quiet_read}
use Rattle.lay_node.proofs.reader.TypesCompleteKinds.{keyword_other}
use Rattle.lay_node.proofs.reader.TypesCompleteParts.{attrs_front, blank_left, colon_operator, flag_complete, keyword_there, lifetime_alone, lifetime_complete, one_left, param_attrs_rows}
use Rattle.lay_node.proofs.reader.TypesFronts.{Ends, closer_ends, comma_ends, lead_no_dots, op_first}
use Rattle.lay_node.proofs.reader.TypesLists.{Ending, last_of_all, open_none, open_read}

-- ---- what follows a parameter

pub record ParamEnds (ts : Tokens) : Type 0 where
  pub ends : Ends ts
  pub param : ends_param ts ≡ true

comma_param : (ts rest : Tokens) → IsOne Punct (codes ",") ts rest → ParamEnds ts
comma_param ts rest o = record { ends = comma_ends ts rest o; param = rw (one_front Punct (codes ",") ts rest o).1 refl }

closer_param : (ts rest : Tokens) → IsOne (Closer Paren) (closing Paren ∷ []) ts rest → ParamEnds ts
closer_param ts rest o = record { ends = closer_ends Paren ts rest o; param = rw (one_front (Closer Paren) (closing Paren ∷ []) ts rest o).1 refl }

-- ---- receivers

-- a lifetime after a `&`, or none
lifetime_parts : (l : Option Lifetime) (f : Form) (depth : ℕ) (ts rest : Tokens) → Spells (ref_lifetime l f) depth ts rest
    → ((us : Tokens) → Spells f depth us rest → first is_lifetime us ≡ false)
    → (mid : Tokens) × (if_there (first is_lifetime ts) lifetime ts ≡ Some (l, mid)) × (behind_lifetime ts ≡ mid) × Spells f depth mid rest
lifetime_parts None f depth ts rest s none =
    let n = none ts s in (ts, rw n refl, rw (n, behind_lifetime) refl, s)
lifetime_parts (Some l) f depth ts rest s none =
    let part = s.2 in
    let o = lifetime_alone l depth ts s.0 s.1 in
    let r = lifetime_complete l ts s.0 o in
    let left : behind_lifetime ts ≡ s.0 = rw (r.1, behind_lifetime) (one_left kind.Lifetime l.text ts s.0 o) in
    (s.0, rw (r.1, r.0) refl, left, subst (λ us. Spells f depth us rest) (sym (blank_left s.0 part.0 part.1)) part.2)

-- `mut`, or none, before a `self`
record SelfParts (mutable : Bool) (f : Form) (depth : ℕ) (ts rest : Tokens) : Type 0 where
  pub mid : Tokens
  pub end : Tokens
  pub flag : mut_flag ts ≡ (mutable, mid)
  pub word : first (is_keyword (codes "self")) mid ≡ true
  pub left : tail mid ≡ end
  pub behind : Spells f depth end rest

self_parts : (mutable : Bool) (f : Form) (depth : ℕ) (ts rest : Tokens) → Spells (when mutable mut_word (Piece self_word f)) depth ts rest
    → SelfParts mutable f depth ts rest
self_parts mutable f depth ts rest s =
    let m = flag_complete (codes "mut") mutable (Piece self_word f) depth ts rest s
    (λ us v. keyword_other (codes "self") (codes "mut") refl us v.0 (bit_alone (keyword (codes "self")) us v.0 v.1)) in
    let t = m.2 in
    let o : IsOne Ident (codes "self") m.0 t.0 = bit_alone (keyword (codes "self")) m.0 t.0 t.1 in
    record {
      mid = m.0;
      end = t.0;
      flag = m.1;
      word = keyword_there (codes "self") m.0 t.0 o;
      left = one_left Ident (codes "self") m.0 t.0 o;
      behind = t.2;
    }

-- No mark stands before it.
record SelfFront (ts rest : Tokens) : Type 0 where
  pub attr : begins_attr false ts ≡ false
  pub paren : first (closes Paren) ts ≡ false
  pub lifetime : first is_lifetime ts ≡ false
  pub mark : first (is_mark (codes "&")) ts ≡ false
  pub less : length rest < length ts

self_front : (mutable : Bool) (f : Form) (depth : ℕ) (ts rest : Tokens) → Spells (when mutable mut_word (Piece self_word f)) depth ts rest
    → SelfFront ts rest
self_front mutable f depth ts rest s = by mutable s
  where
    at : (word : List ℕ) (mid : Tokens) → IsOne Ident word ts mid → length rest ≤ length mid → SelfFront ts rest
    at word mid o le =
        let e = (one_front Ident word ts mid o).1 in
        record { attr = rw e refl; paren = rw e refl; lifetime = rw e refl; mark = rw e refl; less = omega (arith, le, one_shorter Ident word ts mid o) }

    by : (mutable : Bool) → Spells (when mutable mut_word (Piece self_word f)) depth ts rest → SelfFront ts rest
    by true t = at (codes "mut") t.0 (before_blank (keyword (codes "mut")) ts t.0 t.1) (shorter (Piece self_word f) depth t.0 rest t.2)
    by false t = at (codes "self") t.0 (bit_alone (keyword (codes "self")) ts t.0 t.1) (shorter f depth t.0 rest t.2)

-- ---- kinds of parameters

module _ (depth : ℕ) (inner : PatWithin) (reads : PatReads depth inner) where
  abbrev Has : {A : Type 0} → (Tokens → Read A) → A → Tokens → Tokens → Type 0
  Has one x ts rest = IsRead depth one x ts rest

  -- how a parameter begins after its attributes, and that it is read
  record KindThere (k : ParamKind) (ts rest : Tokens) : Type 0 where
    pub attr : begins_attr false ts ≡ false
    pub paren : first (closes Paren) ts ≡ false
    pub less : length rest < length ts
    pub read : ParamEnds rest → Has (param_kind inner) k ts rest

  ref_self_there : (l : Option Lifetime) (mutable : Bool) (ts rest : Tokens) → Spells (param_kind_form (param.RefSelf l mutable)) depth ts rest
      → KindThere (param.RefSelf l mutable) ts rest
  unfolding param_kind ref_self
  ref_self_there l mutable ts rest s =
      let f : Form = when mutable mut_word (piece self_word) in
      let o : IsOne Punct (codes "&") ts s.0 = bit_alone (Fixed Punct (codes "&")) ts s.0 s.1 in
      let e = (one_front Punct (codes "&") ts s.0 o).1 in
      let there : first (is_mark (codes "&")) ts ≡ true = rw e refl in
      let at = one_left Punct (codes "&") ts s.0 o in
      let r = lifetime_parts l f depth s.0 rest s.2 (λ us v. (self_front mutable Done depth us rest v).lifetime) in
      let p = self_parts mutable Done depth r.0 rest r.3 in
      record {
        attr = rw e refl;
        paren = rw e refl;
        less = omega (arith, one_shorter Punct (codes "&") ts s.0 o, shorter (ref_lifetime l f) depth s.0 rest s.2);
        read = λ g.
            let end : tail p.mid ≡ rest = p.left ∙ p.behind in
            let begun : begins_ref_self ts ≡ true = rw (there, at, r.2, p.flag, p.word, end, g.param) refl in
            let one : ref_self s.0 ≡ Some (param.RefSelf l mutable, rest) = rw (r.1, p.flag, end) refl in
            (0, omega arith, rw (begun, at, one) refl);
      }

  own_type_read : (x : Option Ty) (ts rest : Tokens) → Spells (self_type x) depth ts rest → may_be_type x ≡ true → ParamEnds rest
      → Has (λ us. if_read (is_op (codes ":") us) (λ vs. inner.kinds.types Bounds (drop 1 vs)) us) x ts rest
      × ((ends_param ts || is_op (codes ":") ts) ≡ true)
  own_type_read None ts rest s g e = ((0, omega arith, rw s (rw e.ends.colon refl)), rw s (rw e.param refl))
  own_type_read (Some x) ts rest s g e =
      let o = colon_operator ts s.0 s.1 in
      let r = quiet_read depth inner.kinds reads.kinds Bounds x s.0 rest (part_alone (about_type x).told.form depth s.0 rest s.2) g e.ends.quiet in
      ((r.0, r.1, rw (o.0, o.1, r.2) refl), or_right (ends_param ts) (is_op (codes ":") ts) o.0)

  own_self_there : (mutable : Bool) (x : Option Ty) (ts rest : Tokens) → Spells (param_kind_form (param.OwnSelf mutable x)) depth ts rest
      → may_be_type x ≡ true → KindThere (param.OwnSelf mutable x) ts rest
  unfolding param_kind own_self
  own_self_there mutable x ts rest s g =
      let f = self_front mutable (self_type x) depth ts rest s in
      let p = self_parts mutable (self_type x) depth ts rest s in
      record {
        attr = f.attr;
        paren = f.paren;
        less = f.less;
        read = λ e.
            let t = own_type_read x p.end rest p.behind g e in
            let r = t.0 in
            let no_ref : begins_ref_self ts ≡ false = rw f.mark refl in
            let begun : begins_own_self ts ≡ true = rw (p.flag, p.word, p.left, t.1) refl in
            let one : own_self inner.kinds ts ≡ Some ((param.OwnSelf mutable x, r.0), rest) = rw (p.flag, p.left, r.2) refl in
            (r.0, r.1, rw (no_ref, begun, one) refl);
      }

  variadic_there : (ts rest : Tokens) → Spells (param_kind_form param.Variadic) depth ts rest → KindThere param.Variadic ts rest
  unfolding param_kind
  variadic_there ts rest s =
      let o : IsOperator (codes "...") ts rest = piece_bit (Operator (codes "...")) depth ts rest s in
      let e = (op_first 46 (codes "..") ts o.0).3 in
      let no_ref : begins_ref_self ts ≡ false = rw e refl in
      let no_own : begins_own_self ts ≡ false = rw e refl in
      record {
        attr = rw e refl;
        paren = rw e refl;
        less = op_shorter 46 (codes "..") ts rest o;
        read = λ g. (0, omega arith, rw (no_ref, no_own, o.0, o.1) refl);
      }

  -- a pattern and a `:`
  pattern_there : (k : ParamKind) (p : Pat) (bits : List Bit) (f : Form) (ts rest : Tokens)
      → Spells (Part (pat_form Single (about_pat p)) (Piece (Operator (codes ":") ∷ bits) f)) depth ts rest
      → pat_good Single (about_pat p) ≡ true
      → ((need : ℕ) (at : Tokens) → need ≤ depth → Spells (Piece bits f) depth at rest → ParamEnds rest → Has (typed_by inner.kinds (p, need)) k at rest)
      → KindThere k ts rest
  unfolding param_kind typed
  pattern_there k p bits f ts rest s g go_on =
      let mid = s.0 in
      let colon = s.2.1 in
      let o : IsOperator (codes ":") mid colon.0 = colon.1 in
      let b = single_begins p depth ts mid s.1 g in
      let n = pat_start depth p ts mid s.1 g in
      let one = reads.pats Single p ts mid s.1 g (colon_follows (about_pat p) mid o.0) in
      record {
        attr = n.attr;
        paren = b.closer Paren;
        less = omega (arith, b.less, shorter (Piece (Operator (codes ":") ∷ bits) f) depth mid rest s.2);
        read = λ e.
            let r = go_on one.0 colon.0 one.1 (s.2.0, colon.2, s.2.2) e in
            (r.0, r.1, rw (n.ref, n.own, n.dots, one.2, operator_read (codes ":") mid colon.0 o) r.2);
      }

  typed_there : (p : Pat) (x : Ty) (ts rest : Tokens) → Spells (param_kind_form (param.Typed p x)) depth ts rest
      → is_param_kind (param.Typed p x) ≡ true → KindThere (param.Typed p x) ts rest
  typed_there p x ts rest s g =
      let goods = and_parts (pat_good Single (about_pat p)) (good_at Bounds (about_type x)) g in
      let form : Form = (about_type x).told.form in
      pattern_there (param.Typed p x) p (Blank ∷ []) (Part form Done) ts rest s goods.0
      (λ need at le t e.
      let u = subst (λ us. Spells form depth us rest) (sym (blank_left at t.0 t.1)) (part_alone form depth t.0 rest t.2) in
      let b = type_begins x Bounds depth at rest u goods.1 in
      let no_dots = lead_no_dots at (lead_of x (type_view x)) b.lead in
      let r = quiet_read depth inner.kinds reads.kinds Bounds x at rest u goods.1 e.ends.quiet in
      (max need r.0, omega (arith, le, r.1), rw (no_dots, r.2) refl))

  named_variadic_there : (p : Pat) (ts rest : Tokens) → Spells (param_kind_form (param.NamedVariadic p)) depth ts rest
      → pat_good Single (about_pat p) ≡ true → KindThere (param.NamedVariadic p) ts rest
  named_variadic_there p ts rest s g =
      pattern_there (param.NamedVariadic p) p (Blank ∷ Operator (codes "...") ∷ []) Done ts rest s g
      (λ need at le t e.
      let bits = behind_blank (Operator (codes "...") ∷ []) at t.0 t.1 in
      let o : IsOperator (codes "...") at t.0 = bit_alone (Operator (codes "...")) at t.0 bits in
      (need, le, rw (o.0, o.1, t.2) refl))

  kind_there : (k : ParamKind) (ts rest : Tokens) → Spells (param_kind_form k) depth ts rest → is_param_kind k ≡ true → KindThere k ts rest
  kind_there (param.RefSelf l mutable) ts rest s g = ref_self_there l mutable ts rest s
  kind_there (param.OwnSelf mutable x) ts rest s g = own_self_there mutable x ts rest s g
  kind_there (param.Typed p x) ts rest s g = typed_there p x ts rest s g
  kind_there param.Variadic ts rest s g = variadic_there ts rest s
  kind_there (param.NamedVariadic p) ts rest s g = named_variadic_there p ts rest s g

  -- ---- parameters

  -- the attributes of a parameter, and what follows them
  record ParamParts (p : Param) (ts rest : Tokens) : Type 0 where
    pub mid : Tokens
    pub rows : Rows (GoodAt (about_attr false) depth) p.attrs ts mid
    pub there : KindThere p.kind mid rest

  param_parts : (p : Param) (ts rest : Tokens) → Spells (fn_param_form p) depth ts rest → is_fn_param p ≡ true → ParamParts p ts rest
  param_parts p ts rest s g =
      let goods = and_parts (are_attrs false p.attrs) (is_param_kind p.kind) g in
      let rows = param_attrs_rows p.attrs (Part (param_kind_form p.kind) Done) depth ts rest s goods.0 in
      let spelled = part_alone (param_kind_form p.kind) depth rows.0 rest rows.2 in
      record { mid = rows.0; rows = rows.1; there = kind_there p.kind rows.0 rest spelled goods.1 }

  param_read : (p : Param) (ts rest : Tokens) → Spells (fn_param_form p) depth ts rest → is_fn_param p ≡ true → ParamEnds rest
      → Has (fn_param inner) p ts rest
  unfolding fn_param
  param_read p ts rest s g e =
      let parts = param_parts p ts rest s g in
      let r = parts.there.read e in
      (r.0, r.1, rw (attributes_complete false p.attrs depth ts parts.mid parts.rows parts.there.attr, r.2) refl)

  param_starts : (p : Param) (ts rest : Tokens) → Spells (fn_param_form p) depth ts rest → is_fn_param p ≡ true
      → (begins_fn_param ts ≡ true) × (length rest < length ts)
  param_starts p ts rest s g =
      let parts = param_parts p ts rest s g in
      let before = attrs_front p.attrs depth ts parts.mid parts.rows in
      (ap not (before.closer Paren parts.there.paren), omega (arith, before.shorter, parts.there.less))

  -- ---- all of them

  abbrev Follows : Param → Tokens → Type 0
  Follows p ts = ParamEnds ts

  abbrev OpenParams : List Param → Bool → Tokens → Tokens → Type 0
  OpenParams ps last ts rest =
      (ys : List (Param × ℕ)) × (nodes ys ≡ ps) × (deepest ys ≤ depth) × (open_elements begins_fn_param (fn_param inner) ts ≡ Some ((ys, last), rest))

  some_params : (last : Bool) (p : Param) (ps : List Param) (ts mid end rest : Tokens) → list_all is_fn_param (p ∷ ps) ≡ true
      → Spells (fn_param_form p) depth ts mid → Spells (each comma_gap (map fn_param_form ps)) depth mid end
      → Ending begins_fn_param Follows last (p ∷ ps) end rest → OpenParams (p ∷ ps) last ts rest
  some_params last p ps ts mid end rest g one s ending =
      open_read begins_fn_param (fn_param inner) fn_param_form is_fn_param Follows depth param_read param_starts (λ q us at o h. comma_param us at o)
      last p ps ts mid end rest g one s ending

  no_params : (ts : Tokens) → begins_fn_param ts ≡ false → OpenParams [] true ts ts
  no_params ts h = ([], refl, omega arith, open_none begins_fn_param (fn_param inner) ts h)

  abbrev Close : Tokens → Tokens → Type 0
  Close ts rest = IsOne (Closer Paren) (closing Paren ∷ []) ts rest

  close_no_param : (ts rest : Tokens) → Close ts rest → begins_fn_param ts ≡ false
  close_no_param ts rest o = ap not (closer_first Paren ts rest o).0

  -- what follows the opening parenthesis
  params_made : (ps : List Param) (last : Bool) (ts inside end rest : Tokens) → IsOne (Opener Paren) (opening Paren ∷ []) ts inside
      → OpenParams ps last inside end → Close end rest → are_in_order ps last ≡ true → Has (fn_params inner) ps ts rest
  unfolding fn_params
  params_made ps last ts inside end rest o r c order = (deepest r.0, r.2, made r.0 r.1 r.3)
    where
      made : (ys : List (Param × ℕ)) → nodes ys ≡ ps → open_elements begins_fn_param (fn_param inner) inside ≡ Some ((ys, last), end)
          → fn_params inner ts ≡ Some ((ps, deepest ys), rest)
      made ys same h = rw (opener_passed Paren ts inside o, h, closer_passed Paren end rest c, same, order) refl

  in_order : (ps : List Param) (last : Bool) → (receives_first ps && varies_last ps) ≡ true → (ends_variadic ps && last) ≡ false
      → are_in_order ps last ≡ true
  in_order ps last g n = rw (g, n) refl

  -- by whether the last of them takes further arguments
  list_there : (p : Param) (ps : List Param) (variadic : Bool) → ends_variadic (p ∷ ps) ≡ variadic → (ts rest : Tokens)
      → Spells (comma_list (not variadic) (opener Paren) (closer Paren) (map fn_param_form (p ∷ ps))) depth ts rest
      → list_all is_fn_param (p ∷ ps) ≡ true → (receives_first (p ∷ ps) && varies_last (p ∷ ps)) ≡ true → Has (fn_params inner) (p ∷ ps) ts rest
  list_there p ps true v ts rest s g order =
      let inside = s.1.0 in
      let o : IsOne (Opener Paren) (opening Paren ∷ []) ts inside = bit_alone (opener Paren) ts inside s.1.1 in
      let row = s.1.2 in
      let more = row.2 in
      let end = more.0 in
      let close : Close end rest = subst (λ us. Close end us) s.2 (piece_bit (closer Paren) depth end s.0 more.2) in
      let no_comma : first (is_mark (codes ",")) end ≡ false = rw (one_front (Closer Paren) (closing Paren ∷ []) end rest close).1 refl in
      let r = some_params false p ps inside row.0 end end g row.1 more.1 (refl, no_comma, last_of_all ParamEnds (p ∷ ps) end (closer_param end rest close)) in
      params_made (p ∷ ps) false ts inside end rest o r close (in_order (p ∷ ps) false order (and_none (ends_variadic (p ∷ ps))))
  list_there p ps false v ts rest s g order =
      let inside = s.1.0 in
      let o : IsOne (Opener Paren) (opening Paren ∷ []) ts inside = bit_alone (opener Paren) ts inside s.1.1 in
      let row = s.1.2 in
      let more = row.2 in
      let last = more.2 in
      let end = last.0 in
      let close : Close end rest = subst (λ us. Close end us) s.2 (piece_bit (closer Paren) depth end s.0 last.2) in
      let no_comma : first (is_mark (codes ",")) end ≡ false = rw (one_front (Closer Paren) (closing Paren ∷ []) end rest close).1 refl in
      elim last.1 [
        | inl e ↦
            let r = some_params false p ps inside row.0 more.0 end g row.1 more.1 (e, no_comma, last_of_all ParamEnds (p ∷ ps) end (closer_param end rest close)) in
            params_made (p ∷ ps) false ts inside end rest o r close (in_order (p ∷ ps) false order (and_none (ends_variadic (p ∷ ps))))
        | inr b ↦
            let here : IsOne Punct (codes ",") more.0 end = bit_alone (Fixed Punct (codes ",")) more.0 end b in
            let r = some_params true p ps inside row.0 more.0 end g row.1 more.1 (here, close_no_param end rest close) in
            params_made (p ∷ ps) true ts inside end rest o r close (in_order (p ∷ ps) true order (rw v refl))
      ]

  pub params_there : (ps : List Param) (ts rest : Tokens) → Spells (fn_params_form ps) depth ts rest → are_fn_params ps ≡ true
      → Has (fn_params inner) ps ts rest
  params_there [] ts rest s g =
      let inside = s.1.0 in
      let close : Close inside rest = subst (λ us. Close inside us) s.2 (bit_alone (closer Paren) inside s.0 s.1.2) in
      params_made [] true ts inside inside rest s.1.1 (no_params inside (close_no_param inside rest close)) close refl
  params_there (p ∷ ps) ts rest s g =
      let goods = and_parts (list_all is_fn_param (p ∷ ps) && receives_first (p ∷ ps)) (varies_last (p ∷ ps)) g in
      let two = and_parts (list_all is_fn_param (p ∷ ps)) (receives_first (p ∷ ps)) goods.0 in
      list_there p ps (ends_variadic (p ∷ ps)) refl ts rest s two.0 (and_from (receives_first (p ∷ ps)) (varies_last (p ∷ ps)) two.1 goods.1)
