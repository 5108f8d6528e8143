-- Each kind of type is read where it is spelled, where what is one level deeper is read; and so is every type, and what is not
-- counted by itself.
use Rattle.std.proofs.Common.{◌≡◌, ℕ, zero, suc, ◌≤◌, ◌<◌, max, Bool, true, false, not, ◌&&◌, List, [], ◌∷◌, ◌++◌, map, length, drop, codes, Option, option_map, Some, None, inl, inr, if◌then◌else◌, refl, sym, subst, ◌∙◌, append-nil, arith}
use Rattle.std.specs.List.{list_all}
use Rattle.std.specs.Str.{bytes_eq}
use Rattle.std.proofs.lemmas.Bool.{and_parts, not-true}
use Rattle.std.proofs.lemmas.List.Folds.{list_all-map}
use Rattle.lay_piece.specs.Forms.{opening, closing}
use Rattle.lay_piece.specs.declared.kind.Delim.TheVariants.{Paren, Bracket}
use Rattle.lay_piece.specs.declared.kind.Kind.TheVariants.{Ident, RawIdent, Underscore, Punct, Opener, Closer}
use Rattle.lay_token.specs.Delimiters as delimiters
use Rattle.lay_token.specs.Operators.{is_op}
use Rattle.lay_form.specs.Form.{Blank, Fixed, Operator, Form, Done, Piece, Part, punct, keyword, opener, closer, comma, semicolon}
use Rattle.lay_form.specs.Notation.{when, each, piece, comma_gap, comma_list}
use Rattle.lay_form.specs.Spelled.{IsOne, IsBit, IsOperator, MayBe, Spells}
use Rattle.lay_form.proofs.FormLaws.{shorter}
use Rattle.lay_node.specs.Ahead.{Tokens, first, tail, is_keyword, is_lifetime, is_mark, is_closer, closes}
use Rattle.lay_node.specs.Begins.{OfPath}
use Rattle.lay_node.specs.Follow.{OfBang}
use Rattle.lay_node.specs.nodes.Attr.{is_empty, are_attrs, about_attr}
use Rattle.lay_node.specs.nodes.Call.{about_call}
use Rattle.lay_node.specs.nodes.Facts.{Facts, forms, all_good}
use Rattle.lay_node.specs.nodes.Types as types
use Rattle.lay_node.specs.nodes.Types.{TypeFacts, PathFacts, good_at, all_types_good, type_follows, output_form, output_good, output_refuses, bounds_form, bounds_good, is_several, binder_form, is_binder, abi_form, is_abi, ty_facts, deeper, tuple_form, pointer_word, ref_lifetime, bounds_word, is_param_name, params_form, dots, about_type, about_path, about_bound, about_constraint, about_func_param}
use Rattle.lay_node.specs.tokens.Lexed.{is_token_list}
use Rattle.lay_node.specs.tokens.Lists.{token_list}
use Rattle.lay_node.specs.reader.Attr.{begins_attr}
use Rattle.lay_node.specs.reader.Loops.{Read, passed, nodes, deepest, elements, open_elements}
use Rattle.lay_node.specs.reader.Tokens.{tokens}
use Rattle.lay_node.specs.reader.Types.{Within, flag, path, bounds_by, begins_call, path_type, paren_by, paren_type, array_by, bracket_type, reference_type, is_mutable, pointer_type, bounds_type, is_string_token, func_param, begins_param, func_params, func_type, type_by, within, type_at}
use Rattle.lay_node.specs.declared.token.GivenName.{GivenName}
use Rattle.lay_node.specs.declared.token.GivenName.TheVariants as given
use Rattle.lay_node.specs.declared.token.Lifetime.{Lifetime}
use Rattle.lay_node.specs.declared.token.Listed.{Listed}
use Rattle.lay_node.specs.declared.tokens.MacroCall.{MacroCall}
use Rattle.lay_node.specs.declared.types.Abi.{Abi}
use Rattle.lay_node.specs.declared.types.Arg.TheOpen.{Ty-F}
use Rattle.lay_node.specs.declared.types.Binder.{Binder}
use Rattle.lay_node.specs.declared.types.Bound.{Bound}
use Rattle.lay_node.specs.declared.types.FuncParam.{FuncParam}
use Rattle.lay_node.specs.declared.types.Path.{Path}
use Rattle.lay_node.specs.declared.types.PathStyle.TheVariants.{Kind as InKind}
use Rattle.lay_node.specs.declared.types.Ty.{Ty}
use Rattle.lay_node.specs.declared.types.Ty.TheVariants as ty
use Rattle.lay_node.specs.declared.types.TypePlace.{TypePlace}
use Rattle.lay_node.specs.declared.types.TypePlace.TheVariants.{Bounds, NoBounds}
use Rattle.lay_node.proofs.Fronts.{one_test, one_front, one_no_op, op_test, one_shorter, mark_passed, opener_passed, closer_first, closer_passed}
use Rattle.lay_node.proofs.Parts.{Rows, GoodAt, bit_alone, before_blank, piece_bit, part_alone, word_kind, leaf_parts}
use Rattle.lay_node.proofs.nodes.TypesLaws.{TyView, IsPath, IsCall, IsParen, IsTuple, IsNever, IsInfer, IsPtr, IsRef, IsSlice, IsArray, IsFunc, IsBounds, type_view, type_path_is, type_call_is, type_paren_is, type_tuple_is, type_never_is, type_infer_is, type_ptr_is, type_ref_is, type_slice_is, type_array_is, type_func_is, type_bounds_is, func_param_is, path_is}
use Rattle.lay_node.proofs.reader.AttrRead.{attributes_complete}
use Rattle.lay_node.proofs.reader.Call.{call_complete}
use Rattle.lay_node.proofs.reader.Exact.{IsRead}
use Rattle.lay_node.proofs.reader.TokenLists.{EndsRun, list_there}
use Rattle.lay_node.proofs.reader.TypesBegins.{good_of, lead_of, type_begins}
use Rattle.lay_node.proofs.reader.TypesCalls.{path_no_call, call_there}
use Rattle.lay_node.proofs.reader.TypesComplete.{Fits, fits_clear, follows_fits, Reads, quiet_read, output_read, TypesRead, type_starts, types_goods}
use Rattle.lay_node.proofs.reader.TypesCompleteParts.{keyword_there, one_left, blank_left, lifetime_complete, lifetime_alone, flag_complete, binder_complete, abi_complete, param_attrs_rows, attrs_front, param_name_complete}
use Rattle.lay_node.proofs.reader.TypesCompletePaths.{path_read, bounds_read, constraint_read}
use Rattle.lay_node.proofs.reader.TypesFronts.{lead_no_closer, lead_no_lifetime, lead_no_keyword, lead_no_attr, lead_no_dots, Clear, Ends, comma_ends, closer_ends, semicolon_quiet}
use Rattle.lay_node.proofs.reader.TypesLists.{forms_of, paren_closes, some_read, none_read, last_of_all, Ending, open_none, open_read}

pub inner_of : (f : Form) (depth : ℕ) (ts rest : Tokens) → Spells (deeper f) (suc depth) ts rest → Spells f depth ts rest
inner_of f depth ts rest s = subst (λ us. Spells f depth ts us) s.2 s.1

-- ---- parameters of function types

pub keyword_other : (at other : List ℕ) → bytes_eq at other ≡ false → (ts rest : Tokens) → IsOne Ident at ts rest → first (is_keyword other) ts ≡ false
keyword_other at other h ts rest o = rw ((one_front Ident at ts rest o).1, h) refl

-- what follows the attributes of a parameter
record ParamFront (ts : Tokens) : Type 0 where
  pub attr : begins_attr false ts ≡ false
  pub paren : first (closes Paren) ts ≡ false
  pub dots : is_op (codes "...") ts ≡ false

param_front : (n : Option GivenName) (x : Ty) (depth : ℕ) (ts rest : Tokens) → Spells (types.param_name n (Part (about_type x).told.form Done)) depth ts rest
    → good_at Bounds (about_type x) ≡ true → ParamFront ts × (length rest < length ts)
param_front None x depth ts rest s g =
    let b = type_begins x Bounds depth ts rest (part_alone (about_type x).told.form depth ts rest s) g in
    let l = lead_of x (type_view x) in
    (record { attr = lead_no_attr ts l b.lead; paren = lead_no_closer Paren ts l b.lead; dots = lead_no_dots ts l b.lead }, b.less)
param_front (Some (given.Name n)) x depth ts rest s g =
    let behind : Form = Piece types.colon (Part (about_type x).told.form Done) in
    let l = leaf_parts n.raw n.text behind depth ts rest s in
    (word_front n.raw n.text ts l.0 l.1, omega (arith, one_shorter (word_kind n.raw) n.text ts l.0 l.1, shorter behind depth l.0 rest l.2))
  where
    word_front : (raw : Bool) (text : List ℕ) (us at : Tokens) → IsOne (word_kind raw) text us at → ParamFront us
    word_front true text us at o =
        let f = (one_front RawIdent text us at o).1 in
        record { attr = rw f refl; paren = rw f refl; dots = one_no_op (codes "...") RawIdent text us at refl o }
    word_front false text us at o =
        let f = (one_front Ident text us at o).1 in
        record { attr = rw f refl; paren = rw f refl; dots = one_no_op (codes "...") Ident text us at refl o }
param_front (Some given.Underscore) x depth ts rest s g =
    let f = (one_front Underscore (codes "_") ts s.0 s.1).1 in
    let behind : Form = Piece types.colon (Part (about_type x).told.form Done) in (
      record { attr = rw f refl; paren = rw f refl; dots = one_no_op (codes "...") Underscore (codes "_") ts s.0 refl s.1 },
      omega (arith, one_shorter Underscore (codes "_") ts s.0 s.1, shorter behind depth s.0 rest s.2),
    )

-- a last element that is laid out as the others are
pub last_part : (fs : List Form) (g : Form) (depth : ℕ) (ts rest : Tokens) → Spells (each comma_gap (fs ++ g ∷ [])) depth ts rest
    → (end at : Tokens) × Spells (each comma_gap fs) depth ts end × IsOne Punct (codes ",") end at × Spells g depth at rest
last_part [] g depth ts rest s =
    let part = s.2 in
    (ts, s.0, refl, bit_alone (Fixed Punct (codes ",")) ts s.0 s.1, subst (λ us. Spells g depth s.0 us) part.2 part.1)
last_part (f ∷ fs) g depth ts rest s =
    let part = s.2 in
    let r = last_part fs g depth part.0 rest part.2 in
    (r.0, r.1, (s.0, s.1, (part.0, part.1, r.2)), r.3, r.4)

-- ---- each kind

module _ (depth : ℕ) (inner : Within) (reads : Reads depth inner) where
  abbrev Has : {A : Type 0} → (Tokens → Read A) → A → Tokens → Tokens → Type 0
  Has one x ts rest = IsRead depth one x ts rest

  abbrev Made : (Tokens → Read Ty) → Ty → Tokens → Tokens → Type 0
  Made one x ts rest = IsRead (suc depth) one x ts rest

  path_made : (place : TypePlace) (p : Path) (ts rest : Tokens) → Spells (deeper (about_path p InKind).form) (suc depth) ts rest
      → (about_path p InKind).good ≡ true
      → Clear (OfBang ∷ (about_path p InKind).refuses) rest → Made (type_by inner place (Some OfPath)) (ty.Path p) ts rest
  unfolding path_type
  path_made place p ts rest s g f =
      let t = inner_of (about_path p InKind).form depth ts rest s in
      let c = and_parts (not (is_op (codes "!") rest)) _ f in
      let no_bang = not-true (is_op (codes "!") rest) c.0 in
      let r = path_read depth inner reads InKind p ts rest t g c.1 in
      let no_colons = path_stops rest c.1 in
      (suc r.0, omega (arith, r.1), made r.0 (path_no_call InKind p depth ts rest t g no_colons no_bang) r.2 no_bang)
    where
      made : (n : ℕ) → begins_call ts ≡ false → path inner InKind ts ≡ Some ((p, n), rest) → is_op (codes "!") rest ≡ false
          → type_by inner place (Some OfPath) ts ≡ Some ((ty.Path p, suc n), rest)
      made n no_call h no_bang = rw (no_call, h, no_bang) refl

      path_stops : (us : Tokens) → Clear (about_path p InKind).refuses us → is_op (codes "::") us ≡ false
      path_stops us h =
          let k = subst (λ (F : PathFacts). Clear (F InKind).refuses us) (path_is p) h in
          not-true (is_op (codes "::") us) (and_parts (not (is_op (codes "::") us)) _ k).0

  call_made : (place : TypePlace) (c : MacroCall) (ts rest : Tokens) → Spells (deeper (about_call c).form) (suc depth) ts rest → (about_call c).good ≡ true
      → Made (type_by inner place (Some OfPath)) (ty.Call c) ts rest
  call_made place c ts rest s g =
      let t = inner_of (about_call c).form depth ts rest s in
      let r = call_complete c depth ts rest (t, g, refl) in
      (1, omega arith, rw (call_there c depth ts rest t g, r.read) refl)

  -- ---- in parentheses

  paren_open : (x : Ty) (n : ℕ) (ts mid : Tokens) (r : Read Ty) → first (closes Paren) ts ≡ false → inner.types Bounds ts ≡ Some ((x, n), mid)
      → paren_by inner (x, n) mid ≡ r → paren_type inner ts ≡ r
  unfolding paren_type
  paren_open x n ts mid r no_close h e = rw (no_close, h) e

  paren_made : (x : Ty) (ts rest : Tokens) → Spells (ty_facts (Ty-F.Paren (about_type x))).told.form (suc depth) ts rest → good_at Bounds (about_type x) ≡ true
      → Made (λ us. paren_type inner (tail us)) (ty.Paren x) ts rest
  paren_made x ts rest s g =
      let f : Form = Part (about_type x).told.form (piece (closer Paren ∷ [])) in
      let t = inner_of (Piece (opener Paren ∷ []) f) depth ts rest s in
      let o : IsOne (Opener Paren) (opening Paren ∷ []) ts t.0 = bit_alone (opener Paren) ts t.0 t.1 in
      let p = t.2 in
      let mid = p.0 in
      let close : IsOne (Closer Paren) (closing Paren ∷ []) mid rest = piece_bit (closer Paren) depth mid rest p.2 in
      let r = quiet_read depth inner reads Bounds x t.0 mid p.1 g (closer_ends Paren mid rest close).quiet in
      let b = type_starts depth inner reads x t.0 mid p.1 g in
      let c = closer_first Paren mid rest close in
      let made = paren_open x r.0 t.0 mid (Some ((ty.Paren x, suc r.0), rest)) b.0 r.2 (rw (c.0, c.1) refl) in
      (suc r.0, omega (arith, r.1), rw (one_left (Opener Paren) (opening Paren ∷ []) ts t.0 o) made)

  comma_by : (x : Ty) (xs : List Ty) (n : ℕ) (mid behind rest : Tokens) (ys : List (Ty × ℕ)) → IsOne Punct (codes ",") mid behind → nodes ys ≡ xs
      → elements (closes Paren) (inner.types Bounds) behind ≡ Some (ys, rest)
      → paren_by inner (x, n) mid ≡ Some ((ty.Tuple (x ∷ xs), suc (max n (deepest ys))), rest)
  comma_by x xs n mid behind rest ys o same h =
      let no_close : first (closes Paren) mid ≡ false = rw (one_front Punct (codes ",") mid behind o).1 refl in
      rw (no_close, mark_passed (codes ",") mid behind o, h, same) refl

  more_read : (x : Ty) (xs : List Ty) (ts mid end rest : Tokens) → list_all (λ y. good_at Bounds (about_type y)) (x ∷ xs) ≡ true
      → Spells (about_type x).told.form depth ts mid → Spells (each comma_gap (map (λ y. (about_type y).told.form) xs)) depth mid end
      → (last : Tokens) × MayBe comma end last × IsBit (closer Paren) last rest → TypesRead depth inner reads (x ∷ xs) ts rest
  more_read x xs ts mid end rest g one s last =
      some_read (closer Paren) (closes Paren) paren_closes (inner.types Bounds) (λ y. (about_type y).told.form) (λ y. good_at Bounds (about_type y)) depth
      (λ y us at t h e. quiet_read depth inner reads Bounds y us at t h e.quiet) (type_starts depth inner reads) x xs ts mid end rest g one s last

  no_more : (ts rest : Tokens) → IsOne (Closer Paren) (closing Paren ∷ []) ts rest → TypesRead depth inner reads [] ts rest
  no_more ts rest o =
      none_read (closer Paren) (closes Paren) paren_closes (inner.types Bounds) (λ y. (about_type y).told.form) (λ y. good_at Bounds (about_type y)) depth
      (λ y us at t h e. quiet_read depth inner reads Bounds y us at t h e.quiet) (type_starts depth inner reads) ts rest o

  tuple_made : (xs : List Ty) (ts rest : Tokens) → Spells (ty_facts (Ty-F.Tuple (map about_type xs))).told.form (suc depth) ts rest
      → all_types_good (map about_type xs) ≡ true → Made (λ us. paren_type inner (tail us)) (ty.Tuple xs) ts rest
  unfolding paren_type
  tuple_made [] ts rest s g =
      let t = inner_of (tuple_form []) depth ts rest s in
      let o : IsOne (Opener Paren) (opening Paren ∷ []) ts t.1.0 = t.1.1 in
      let close : IsOne (Closer Paren) (closing Paren ∷ []) t.1.0 rest =
      subst (λ us. IsOne (Closer Paren) (closing Paren ∷ []) t.1.0 us) t.2 (bit_alone (closer Paren) t.1.0 t.0 t.1.2) in
      let c = closer_first Paren t.1.0 rest close in
      (1, omega arith, rw (one_left (Opener Paren) (opening Paren ∷ []) ts t.1.0 o, c.0, c.1) refl)
  tuple_made (x ∷ []) ts rest s g =
      let t = inner_of (tuple_form (about_type x ∷ [])) depth ts rest s in
      let good = (and_parts (good_at Bounds (about_type x)) true g).0 in
      let o : IsOne (Opener Paren) (opening Paren ∷ []) ts t.0 = bit_alone (opener Paren) ts t.0 t.1 in
      let p = t.2 in
      let mid = p.0 in
      let end = p.2 in
      let bits = end.1 in
      let comma : IsOne Punct (codes ",") mid bits.0 = bits.1 in
      let close : IsOne (Closer Paren) (closing Paren ∷ []) bits.0 rest =
      subst (λ us. IsOne (Closer Paren) (closing Paren ∷ []) bits.0 us) end.2 (bit_alone (closer Paren) bits.0 end.0 bits.2) in
      let r = quiet_read depth inner reads Bounds x t.0 mid p.1 good (comma_ends mid bits.0 comma).quiet in
      let b = type_starts depth inner reads x t.0 mid p.1 good in
      let n = no_more bits.0 rest close in
      let made =
      paren_open x r.0 t.0 mid (Some ((ty.Tuple (x ∷ []), suc (max r.0 (deepest n.0))), rest)) b.0 r.2 (comma_by x [] r.0 mid bits.0 rest n.0 comma n.1 n.3) in
      (suc (max r.0 (deepest n.0)), omega (arith, r.1, n.2), rw (one_left (Opener Paren) (opening Paren ∷ []) ts t.0 o) made)
  tuple_made (x ∷ y ∷ ys) ts rest s g =
      let u = inner_of (tuple_form (map about_type (x ∷ y ∷ ys))) depth ts rest s in
      let t =
      subst (λ fs. Spells (comma_list true (opener Paren) (closer Paren) fs) depth ts rest) (forms_of (λ (z : TypeFacts). z.told.form) about_type (x ∷ y ∷ ys)) u in
      let all = types_goods depth inner reads (x ∷ y ∷ ys) g in
      let goods = and_parts (good_at Bounds (about_type x)) (list_all (λ z. good_at Bounds (about_type z)) (y ∷ ys)) all in
      let inside = t.1.0 in
      let o : IsOne (Opener Paren) (opening Paren ∷ []) ts inside = bit_alone (opener Paren) ts inside t.1.1 in
      let row = t.1.2 in
      let mid = row.0 in
      let more = row.2 in
      let next = more.1 in
      let comma : IsOne Punct (codes ",") mid next.0 = bit_alone (Fixed Punct (codes ",")) mid next.0 next.1 in
      let part = next.2 in
      let last = more.2 in
      let close : IsOne (Closer Paren) (closing Paren ∷ []) last.0 rest =
      subst (λ us. IsOne (Closer Paren) (closing Paren ∷ []) last.0 us) t.2 (piece_bit (closer Paren) depth last.0 t.0 last.2) in
      let n = more_read y ys next.0 part.0 more.0 rest goods.1 part.1 part.2 (last.0, last.1, close) in
      let r = quiet_read depth inner reads Bounds x inside mid row.1 goods.0 (comma_ends mid next.0 comma).quiet in
      let b = type_starts depth inner reads x inside mid row.1 goods.0 in
      let made =
      paren_open x r.0 inside mid (Some ((ty.Tuple (x ∷ y ∷ ys), suc (max r.0 (deepest n.0))), rest)) b.0 r.2 (comma_by x (y ∷ ys) r.0 mid next.0 rest n.0 comma n.1 n.3) in
      (suc (max r.0 (deepest n.0)), omega (arith, r.1, n.2), rw (one_left (Opener Paren) (opening Paren ∷ []) ts inside o) made)

  -- ---- in brackets

  slice_made : (x : Ty) (ts rest : Tokens) → Spells (ty_facts (Ty-F.Slice (about_type x))).told.form (suc depth) ts rest → good_at Bounds (about_type x) ≡ true
      → Made (λ us. bracket_type inner (tail us)) (ty.Slice x) ts rest
  unfolding bracket_type
  slice_made x ts rest s g =
      let f : Form = Part (about_type x).told.form (piece (closer Bracket ∷ [])) in
      let t = inner_of (Piece (opener Bracket ∷ []) f) depth ts rest s in
      let o : IsOne (Opener Bracket) (opening Bracket ∷ []) ts t.0 = bit_alone (opener Bracket) ts t.0 t.1 in
      let p = t.2 in
      let mid = p.0 in
      let close : IsOne (Closer Bracket) (closing Bracket ∷ []) mid rest = piece_bit (closer Bracket) depth mid rest p.2 in
      let r = quiet_read depth inner reads Bounds x t.0 mid p.1 g (closer_ends Bracket mid rest close).quiet in
      let no_semicolon : first (is_mark (codes ";")) mid ≡ false = rw (one_front (Closer Bracket) (closing Bracket ∷ []) mid rest close).1 refl in
      (suc r.0, omega (arith, r.1), rw (one_left (Opener Bracket) (opening Bracket ∷ []) ts t.0 o, r.2, no_semicolon, closer_passed Bracket mid rest close) refl)

  array_made : (x : Ty) (us : List Listed) (ts rest : Tokens) → Spells (ty_facts (Ty-F.Array (about_type x) us)).told.form (suc depth) ts rest
      → (ty_facts (Ty-F.Array (about_type x) us)).told.good ≡ true → Made (λ vs. bracket_type inner (tail vs)) (ty.Array x us) ts rest
  unfolding bracket_type
  array_made x us ts rest s g =
      let f : Form = Part (about_type x).told.form (Piece (semicolon ++ Blank ∷ []) (Part (token_list us) (piece (closer Bracket ∷ [])))) in
      let t = inner_of (Piece (opener Bracket ∷ []) f) depth ts rest s in
      let goods = and_parts (good_at Bounds (about_type x) && not (is_empty us)) (is_token_list us) g in
      let good = and_parts (good_at Bounds (about_type x)) (not (is_empty us)) goods.0 in
      let o : IsOne (Opener Bracket) (opening Bracket ∷ []) ts t.0 = bit_alone (opener Bracket) ts t.0 t.1 in
      let p = t.2 in
      let mid = p.0 in
      let q = p.2 in
      let mark : IsOne Punct (codes ";") mid q.0 = before_blank (punct 59) mid q.0 q.1 in
      let list = q.2 in
      let close : IsOne (Closer Bracket) (closing Bracket ∷ []) list.0 rest = piece_bit (closer Bracket) depth list.0 rest list.2 in
      let r = quiet_read depth inner reads Bounds x t.0 mid p.1 good.0 (semicolon_quiet mid q.0 mark) in
      let there : first (is_mark (codes ";")) mid ≡ true = rw (one_front Punct (codes ";") mid q.0 mark).1 refl in
      let left = one_left Punct (codes ";") mid q.0 mark in
      let shuts : EndsRun false list.0 = one_test delimiters.is_closer (Closer Bracket) (closing Bracket ∷ []) list.0 rest close in
      let listed = list_there false us depth q.0 list.0 goods.1 tt list.1 shuts in
      let made = array_by_read r.0 q.0 list.0 listed (closer_passed Bracket list.0 rest close) (not-true (is_empty us) good.1) in
      (suc r.0, omega (arith, r.1), rw (one_left (Opener Bracket) (opening Bracket ∷ []) ts t.0 o, r.2, there, left) made)
    where
      array_by_read : (n : ℕ) (at mid : Tokens) → tokens at ≡ Some (us, mid) → passed (closes Bracket) mid ≡ Some rest → is_empty us ≡ false
          → array_by (x, n) at ≡ Some ((ty.Array x us, suc n), rest)
      array_by_read n at mid h c some = rw (h, c, some) refl

  -- ---- pointers and references

  pointer_made : (mutable : Bool) (x : Ty) (ts rest : Tokens) → Spells (ty_facts (Ty-F.Ptr mutable (about_type x))).told.form (suc depth) ts rest
      → good_at NoBounds (about_type x) ≡ true → Clear (about_type x).told.refuses rest → Made (λ us. pointer_type inner (tail us)) (ty.Ptr mutable x) ts rest
  unfolding pointer_type
  pointer_made mutable x ts rest s g f =
      let t = inner_of (Piece (punct 42 ∷ pointer_word mutable ∷ Blank ∷ []) (Part (about_type x).told.form Done)) depth ts rest s in
      let bits = t.1 in
      let left = one_left Punct (codes "*") ts bits.0 bits.1 in
      let m = word_is mutable bits.0 t.0 (before_blank (pointer_word mutable) bits.0 t.0 bits.2) in
      let r = reads.types NoBounds x t.0 rest (part_alone (about_type x).told.form depth t.0 rest t.2) g f in
      (suc r.0, omega (arith, r.1), rw (left, m, r.2) refl)
    where
      word_is : (m : Bool) (us vs : Tokens) → IsBit (pointer_word m) us vs → is_mutable us ≡ Some (m, vs)
      word_is true us vs o = rw (one_front Ident (codes "mut") us vs o).1 refl
      word_is false us vs o = rw (one_front Ident (codes "const") us vs o).1 refl

  reference_made : (l : Option Lifetime) (mutable : Bool) (x : Ty) (ts rest : Tokens)
      → Spells (ty_facts (Ty-F.Ref l mutable (about_type x))).told.form (suc depth) ts rest
      → good_at NoBounds (about_type x) ≡ true → Clear (about_type x).told.refuses rest
      → Made (λ us. reference_type inner (tail us)) (ty.Ref l mutable x) ts rest
  unfolding reference_type
  reference_made l mutable x ts rest s g f = by l (inner_of (Piece (Fixed Punct (codes "&") ∷ []) (ref_lifetime l (behind mutable))) depth ts rest s)
    where
      behind : Bool → Form
      behind m = when m (keyword (codes "mut") ∷ Blank ∷ []) (Part (about_type x).told.form Done)

      no_lifetime : (m : Bool) (us : Tokens) → Spells (behind m) depth us rest → first is_lifetime us ≡ false
      no_lifetime true us t =
          let o : IsOne Ident (codes "mut") us t.0 = before_blank (keyword (codes "mut")) us t.0 t.1 in rw (one_front Ident (codes "mut") us t.0 o).1 refl
      no_lifetime false us t =
          lead_no_lifetime us (lead_of x (type_view x)) (type_begins x NoBounds depth us rest (part_alone (about_type x).told.form depth us rest t) g).lead

      mut_read : (us : Tokens) → Spells (behind mutable) depth us rest
          → (mid : Tokens) × (flag (is_keyword (codes "mut")) us ≡ (mutable, mid)) × Has (inner.types NoBounds) x mid rest
      mut_read us t =
          let d = flag_complete (codes "mut") mutable (Part (about_type x).told.form Done) depth us rest t
          (λ vs v. lead_no_keyword (codes "mut") refl vs (lead_of x (type_view x)) (type_begins x NoBounds depth vs rest (part_alone (about_type x).told.form depth vs rest v) g).lead) in
          (d.0, d.1, reads.types NoBounds x d.0 rest (part_alone (about_type x).told.form depth d.0 rest d.2) g f)

      by : (l : Option Lifetime) → Spells (Piece (Fixed Punct (codes "&") ∷ []) (ref_lifetime l (behind mutable))) depth ts rest
          → Made (λ us. reference_type inner (tail us)) (ty.Ref l mutable x) ts rest
      by None t =
          let o : IsOne Punct (codes "&") ts t.0 = bit_alone (Fixed Punct (codes "&")) ts t.0 t.1 in
          let d = mut_read t.0 t.2 in
          let r = d.2 in
          (suc r.0, omega (arith, r.1), rw (one_left Punct (codes "&") ts t.0 o, no_lifetime mutable t.0 t.2, d.1, r.2) refl)
      by (Some l) t =
          let o : IsOne Punct (codes "&") ts t.0 = bit_alone (Fixed Punct (codes "&")) ts t.0 t.1 in
          let p = t.2 in
          let q = p.2 in
          let lr = lifetime_complete l t.0 p.0 (lifetime_alone l depth t.0 p.0 p.1) in
          let spelled : Spells (behind mutable) depth p.0 rest = subst (λ us. Spells (behind mutable) depth us rest) (sym (blank_left p.0 q.0 q.1)) q.2 in
          let d = mut_read p.0 spelled in
          let r = d.2 in
          (suc r.0, omega (arith, r.1), rw (one_left Punct (codes "&") ts t.0 o, lr.1, lr.0, d.1, r.2) refl)

  -- ---- bounds

  bounds_made : (dynamic : Bool) (place : TypePlace) (bs : List Bound) (ts rest : Tokens)
      → Spells (ty_facts (Ty-F.Bounds dynamic (map about_bound bs))).told.form (suc depth) ts rest
      → good_at place (ty_facts (Ty-F.Bounds dynamic (map about_bound bs))) ≡ true → Fits place (ty_facts (Ty-F.Bounds dynamic (map about_bound bs))) rest
      → Made (λ us. bounds_type inner dynamic place (tail us)) (ty.Bounds dynamic bs) ts rest
  unfolding bounds_type
  bounds_made dynamic place bs ts rest s g f =
      let t = inner_of (Piece (bounds_word dynamic ∷ Blank ∷ []) (Part (bounds_form (map about_bound bs)) Done)) depth ts rest s in
      let o = before_blank (bounds_word dynamic) ts t.0 t.1 in
      let r = by place g f t.0 (part_alone (bounds_form (map about_bound bs)) depth t.0 rest t.2) in
      (suc r.0, omega (arith, r.1), rw (left dynamic t.0 o, r.2) refl)
    where
      left : (d : Bool) (us : Tokens) → IsBit (bounds_word d) ts us → tail ts ≡ us
      left true us o = one_left Ident (codes "dyn") ts us o
      left false us o = one_left Ident (codes "impl") ts us o

      by : (place : TypePlace) → good_at place (ty_facts (Ty-F.Bounds dynamic (map about_bound bs))) ≡ true
          → Fits place (ty_facts (Ty-F.Bounds dynamic (map about_bound bs))) rest
          → (us : Tokens) → Spells (bounds_form (map about_bound bs)) depth us rest → Has (bounds_by inner place) bs us rest
      by Bounds h k us t = bounds_read depth inner reads Bounds bs us rest t h tt k.1 k.0
      by NoBounds h k us t =
          let goods = and_parts (bounds_good (map about_bound bs)) (not (is_several (map about_bound bs))) h in
          bounds_read depth inner reads NoBounds bs us rest t goods.0 (not-true (is_several (map about_bound bs)) goods.1) k tt

  -- ---- function types

  -- the attributes of a parameter, and what follows them
  record ParamParts (p : FuncParam) (ts rest : Tokens) : Type 0 where
    pub mid : Tokens
    pub rows : Rows (GoodAt (about_attr false) depth) p.attrs ts mid
    pub spelled : Spells (types.param_name p.name (Part (about_type p.ty).told.form Done)) depth mid rest
    pub named : is_param_name p.name ≡ true
    pub good : good_at Bounds (about_type p.ty) ≡ true
    pub front : ParamFront mid
    pub less : length rest < length mid

  param_parts : (p : FuncParam) (ts rest : Tokens) → Spells (about_func_param p).form depth ts rest → (about_func_param p).good ≡ true → ParamParts p ts rest
  param_parts p ts rest s g =
      let t = subst (λ (F : Facts). Spells F.form depth ts rest) (func_param_is p) s in
      let good = subst (λ (F : Facts). F.good ≡ true) (func_param_is p) g in
      let goods = and_parts (are_attrs false p.attrs && is_param_name p.name) (good_at Bounds (about_type p.ty)) good in
      let named = and_parts (are_attrs false p.attrs) (is_param_name p.name) goods.0 in
      let rows = param_attrs_rows p.attrs (types.param_name p.name (Part (about_type p.ty).told.form Done)) depth ts rest t named.0 in
      let front = param_front p.name p.ty depth rows.0 rest rows.2 goods.1 in
      record { mid = rows.0; rows = rows.1; spelled = rows.2; named = named.1; good = goods.1; front = front.0; less = front.1 }

  param_read : (p : FuncParam) (ts rest : Tokens) → Spells (about_func_param p).form depth ts rest → (about_func_param p).good ≡ true → Ends rest
      → Has (func_param inner) p ts rest
  unfolding func_param
  param_read p ts rest s g e =
      let form : Form = (about_type p.ty).told.form in
      let parts = param_parts p ts rest s g in
      let attrs = attributes_complete false p.attrs depth ts parts.mid parts.rows parts.front.attr in
      let n = param_name_complete p.name (Part form Done) depth parts.mid rest parts.spelled parts.named
      (λ us v. (type_begins p.ty Bounds depth us rest (part_alone form depth us rest v) parts.good).plain e.colon) in
      let r = quiet_read depth inner reads Bounds p.ty n.0 rest (part_alone form depth n.0 rest n.2) parts.good e.quiet in
      (r.0, r.1, rw (attrs, n.1, r.2) refl)

  param_starts : (p : FuncParam) (ts rest : Tokens) → Spells (about_func_param p).form depth ts rest → (about_func_param p).good ≡ true
      → (begins_param ts ≡ true) × (length rest < length ts)
  param_starts p ts rest s g =
      let parts = param_parts p ts rest s g in
      let before = attrs_front p.attrs depth ts parts.mid parts.rows in
      (rw (before.closer Paren parts.front.paren, before.dots parts.front.dots) refl, omega (arith, before.shorter, parts.less))

  abbrev Follows : FuncParam → Tokens → Type 0
  Follows p ts = Ends ts

  abbrev OpenParams : List FuncParam → Bool → Tokens → Tokens → Type 0
  OpenParams ps last ts rest =
      (ys : List (FuncParam × ℕ)) × (nodes ys ≡ ps) × (deepest ys ≤ depth) × (open_elements begins_param (func_param inner) ts ≡ Some ((ys, last), rest))

  some_params : (last : Bool) (p : FuncParam) (ps : List FuncParam) (ts mid end rest : Tokens) → all_good (map about_func_param (p ∷ ps)) ≡ true
      → Spells (about_func_param p).form depth ts mid → Spells (each comma_gap (map (λ q. (about_func_param q).form) ps)) depth mid end
      → Ending begins_param Follows last (p ∷ ps) end rest → OpenParams (p ∷ ps) last ts rest
  some_params last p ps ts mid end rest g one s ending =
      open_read begins_param (func_param inner) (λ q. (about_func_param q).form) (λ q. (about_func_param q).good) Follows depth param_read param_starts
      (λ q us at o h. comma_ends us at o) last p ps ts mid end rest (sym (list_all-map (λ (F : Facts). F.good) about_func_param (p ∷ ps)) ∙ g) one s ending

  no_params : (ts : Tokens) → begins_param ts ≡ false → OpenParams [] true ts ts
  no_params ts h = ([], refl, omega arith, open_none begins_param (func_param inner) ts h)

  closer_no_param : (ts rest : Tokens) → IsOne (Closer Paren) (closing Paren ∷ []) ts rest → (begins_param ts ≡ false) × (is_op (codes "...") ts ≡ false)
  closer_no_param ts rest o =
      let c = closer_first Paren ts rest o in (rw c.0 refl, one_no_op (codes "...") (Closer Paren) (closing Paren ∷ []) ts rest refl o)

  dots_no_param : (ts : Tokens) → is_op (codes "...") ts ≡ true → begins_param ts ≡ false
  dots_no_param ts h = let c : first (closes Paren) ts ≡ false = op_test (is_closer Paren) (codes "...") ts h in rw (c, h) refl

  -- what follows the opening parenthesis
  params_made : (ps : List FuncParam) (variadic last : Bool) (ts inside end rest : Tokens) → IsOne (Opener Paren) (opening Paren ∷ []) ts inside
      → OpenParams ps last inside end → (last && is_op (codes "...") end) ≡ variadic → passed (closes Paren) (if variadic then drop 3 end else end) ≡ Some rest
      → Has (func_params inner) (ps, variadic) ts rest
  unfolding func_params
  params_made ps variadic last ts inside end rest o r v c =
      (deepest r.0, r.2, made r.0 r.1 r.3)
    where
      made : (ys : List (FuncParam × ℕ)) → nodes ys ≡ ps → open_elements begins_param (func_param inner) inside ≡ Some ((ys, last), end)
          → func_params inner ts ≡ Some (((ps, variadic), deepest ys), rest)
      made ys same h = rw (opener_passed Paren ts inside o, h, v, c, same) refl

  params_read : (ps : List FuncParam) (variadic : Bool) (ts rest : Tokens) → Spells (params_form (map about_func_param ps) variadic) depth ts rest
      → all_good (map about_func_param ps) ≡ true → Has (func_params inner) (ps, variadic) ts rest
  params_read [] false ts rest s g =
      let o : IsOne (Opener Paren) (opening Paren ∷ []) ts s.1.0 = s.1.1 in
      let close : IsOne (Closer Paren) (closing Paren ∷ []) s.1.0 rest =
      subst (λ us. IsOne (Closer Paren) (closing Paren ∷ []) s.1.0 us) s.2 (bit_alone (closer Paren) s.1.0 s.0 s.1.2) in
      let n = closer_no_param s.1.0 rest close in
      params_made [] false true ts s.1.0 s.1.0 rest o (no_params s.1.0 n.0) n.1 (closer_passed Paren s.1.0 rest close)
  params_read [] true ts rest s g =
      let inside = s.1.0 in
      let o : IsOne (Opener Paren) (opening Paren ∷ []) ts inside = bit_alone (opener Paren) ts inside s.1.1 in
      let row = s.1.2 in
      let d : IsOperator (codes "...") inside row.0 = piece_bit (Operator (codes "...")) depth inside row.0 row.1 in
      let end = row.2 in
      let closing_there = piece_bit (closer Paren) depth end.0 s.0 end.2 in
      let close : IsOne (Closer Paren) (closing Paren ∷ []) row.0 rest =
      subst (λ us. IsOne (Closer Paren) (closing Paren ∷ []) us rest) (sym end.1) (subst (λ us. IsOne (Closer Paren) (closing Paren ∷ []) end.0 us) s.2 closing_there) in
      params_made [] true true ts inside inside rest o (no_params inside (dots_no_param inside d.0)) d.0 (rw d.1 (closer_passed Paren row.0 rest close))
  params_read (p ∷ ps) false ts rest s g =
      let fs = map (λ q. (about_func_param q).form) ps in
      let more_forms : (forms (map about_func_param ps) ++ []) ≡ fs =
      append-nil (forms (map about_func_param ps)) ∙ forms_of (λ (F : Facts). F.form) about_func_param ps in
      let t = subst (λ gs. Spells (comma_list true (opener Paren) (closer Paren) ((about_func_param p).form ∷ gs)) depth ts rest) more_forms s in
      let inside = t.1.0 in
      let o : IsOne (Opener Paren) (opening Paren ∷ []) ts inside = bit_alone (opener Paren) ts inside t.1.1 in
      let row = t.1.2 in
      let more = row.2 in
      let last = more.2 in
      let close : IsOne (Closer Paren) (closing Paren ∷ []) last.0 rest =
      subst (λ us. IsOne (Closer Paren) (closing Paren ∷ []) last.0 us) t.2 (piece_bit (closer Paren) depth last.0 t.0 last.2) in
      let n = closer_no_param last.0 rest close in
      let passes = closer_passed Paren last.0 rest close in
      elim last.1 [
        | inl e ↦
            let no_comma : first (is_mark (codes ",")) last.0 ≡ false = rw (one_front (Closer Paren) (closing Paren ∷ []) last.0 rest close).1 refl in
            let r =
            some_params false p ps inside row.0 more.0 last.0 g row.1 more.1 (e, no_comma, last_of_all Ends (p ∷ ps) last.0 (closer_ends Paren last.0 rest close)) in
            params_made (p ∷ ps) false false ts inside last.0 rest o r refl passes
        | inr b ↦
            let here : IsOne Punct (codes ",") more.0 last.0 = bit_alone (Fixed Punct (codes ",")) more.0 last.0 b in
            let r = some_params true p ps inside row.0 more.0 last.0 g row.1 more.1 (here, n.0) in
            params_made (p ∷ ps) false true ts inside last.0 rest o r n.1 passes
      ]
  params_read (p ∷ ps) true ts rest s g =
      let inside = s.1.0 in
      let o : IsOne (Opener Paren) (opening Paren ∷ []) ts inside = bit_alone (opener Paren) ts inside s.1.1 in
      let row = s.1.2 in
      let more = row.2 in
      let l = last_part (forms (map about_func_param ps)) (piece (Operator (codes "...") ∷ [])) depth row.0 more.0 more.1 in
      let spelled = subst (λ fs. Spells (each comma_gap fs) depth row.0 l.0) (forms_of (λ (F : Facts). F.form) about_func_param ps) l.2 in
      let d : IsOperator (codes "...") l.1 more.0 = piece_bit (Operator (codes "...")) depth l.1 more.0 l.4 in
      let close : IsOne (Closer Paren) (closing Paren ∷ []) more.0 rest =
      subst (λ us. IsOne (Closer Paren) (closing Paren ∷ []) more.0 us) s.2 (piece_bit (closer Paren) depth more.0 s.0 more.2) in
      let r = some_params true p ps inside row.0 l.0 l.1 g row.1 spelled (l.3, dots_no_param l.1 d.0) in
      params_made (p ∷ ps) true true ts inside l.1 rest o r d.0 (rw d.1 (closer_passed Paren more.0 rest close))

  func_made : (binder : Option Binder) (is_unsafe : Bool) (a : Option Abi) (ps : List FuncParam) (variadic : Bool) (y : Option Ty) (ts rest : Tokens)
      → Spells (ty_facts (Ty-F.Func binder is_unsafe a (map about_func_param ps) variadic (option_map about_type y))).told.form (suc depth) ts rest
      → (ty_facts (Ty-F.Func binder is_unsafe a (map about_func_param ps) variadic (option_map about_type y))).told.good ≡ true
      → Clear (output_refuses (option_map about_type y)) rest → Made (func_type inner) (ty.Func binder is_unsafe a ps variadic y) ts rest
  unfolding func_type
  func_made binder is_unsafe a ps variadic y ts rest s g f =
      let t = inner_of (binder_form binder behind_binder) depth ts rest s in
      let goods = and_parts (is_binder binder && is_abi a && all_good (map about_func_param ps)) (output_good (option_map about_type y)) g in
      let before = and_parts (is_binder binder && is_abi a) (all_good (map about_func_param ps)) goods.0 in
      let first_goods = and_parts (is_binder binder) (is_abi a) before.0 in
      let b = binder_complete binder behind_binder depth ts rest t first_goods.0 (no_for is_unsafe) in
      let u = flag_complete (codes "unsafe") is_unsafe behind_unsafe depth b.0 rest b.2 no_unsafe in
      let e = abi_complete a behind_abi depth u.0 rest u.2 first_goods.1 no_extern in
      let fn_there = e.2 in
      let o : IsOne Ident (codes "fn") e.0 fn_there.0 = bit_alone (keyword (codes "fn")) e.0 fn_there.0 fn_there.1 in
      let part = fn_there.2 in
      let p = params_read ps variadic fn_there.0 part.0 part.1 before.1 in
      let r = output_read depth inner reads y part.0 rest part.2 goods.1 f in
      let there = keyword_there (codes "fn") e.0 fn_there.0 o in
      (suc (max p.0 r.0), omega (arith, p.1, r.1), rw (b.1, u.1, e.1, there, one_left Ident (codes "fn") e.0 fn_there.0 o, p.2, r.2) refl)
    where
      behind_abi : Form
      behind_abi = Piece (keyword (codes "fn") ∷ []) (Part (params_form (map about_func_param ps) variadic) (output_form (option_map about_type y)))

      behind_unsafe : Form
      behind_unsafe = abi_form a behind_abi

      behind_binder : Form
      behind_binder = when is_unsafe (keyword (codes "unsafe") ∷ Blank ∷ []) behind_unsafe

      no_extern : (us : Tokens) → Spells behind_abi depth us rest → (first (is_keyword (codes "extern")) us ≡ false) × (first is_string_token us ≡ false)
      no_extern us v =
          let o : IsOne Ident (codes "fn") us v.0 = bit_alone (keyword (codes "fn")) us v.0 v.1 in
          (keyword_other (codes "fn") (codes "extern") refl us v.0 o, no_string us v.0 o)
        where
          no_string : (us at : Tokens) → IsOne Ident (codes "fn") us at → first is_string_token us ≡ false
          no_string us at o = rw (one_front Ident (codes "fn") us at o).1 refl

      behind_word : (other : List ℕ) → bytes_eq (codes "extern") other ≡ false → bytes_eq (codes "fn") other ≡ false
          → (n : Option Abi) (us : Tokens) → Spells (abi_form n behind_abi) depth us rest → first (is_keyword other) us ≡ false
      behind_word other h k None us v = keyword_other (codes "fn") other k us v.0 (bit_alone (keyword (codes "fn")) us v.0 v.1)
      behind_word other h k (Some n) us v = keyword_other (codes "extern") other h us v.0 (before_blank (keyword (codes "extern")) us v.0 v.1)

      no_unsafe : (us : Tokens) → Spells behind_unsafe depth us rest → first (is_keyword (codes "unsafe")) us ≡ false
      no_unsafe = behind_word (codes "unsafe") refl refl a

      no_for : (m : Bool) (us : Tokens) → Spells (when m (keyword (codes "unsafe") ∷ Blank ∷ []) behind_unsafe) depth us rest
          → first (is_keyword (codes "for")) us ≡ false
      no_for true us v = keyword_other (codes "unsafe") (codes "for") refl us v.0 (before_blank (keyword (codes "unsafe")) us v.0 v.1)
      no_for false us v = behind_word (codes "for") refl refl a us v

  -- ---- any type

  abbrev Told : TypePlace → (x : Ty) → TyView x → Tokens → Tokens → TypeFacts → Type 0
  Told place x v ts rest F =
      Spells F.told.form (suc depth) ts rest → good_at place F ≡ true → Fits place F rest → Made (type_by inner place (Some (lead_of x v))) x ts rest

  type_made : (place : TypePlace) (x : Ty) (v : TyView x) (ts rest : Tokens) → Told place x v ts rest (about_type x)
  type_made place x v ts rest = at x v
    where
      by : (x : Ty) (v : TyView x) (F : TypeFacts) → about_type x ≡ F → Told place x v ts rest F → Told place x v ts rest (about_type x)
      by x v F e f = subst (Told place x v ts rest) (sym e) f

      clear : (F : TypeFacts) → Fits place F rest → Clear F.told.refuses rest
      clear F = fits_clear place F rest

      at : (x : Ty) (v : TyView x) → Told place x v ts rest (about_type x)
      at _ (IsPath p) = by (ty.Path p) (IsPath p) (ty_facts (Ty-F.Path (about_path p))) (type_path_is p)
          (λ s g f. path_made place p ts rest s (good_of place (ty_facts (Ty-F.Path (about_path p))) g) (clear (ty_facts (Ty-F.Path (about_path p))) f))
      at _ (IsCall c) =
          by (ty.Call c) (IsCall c) (ty_facts (Ty-F.Call c)) (type_call_is c) (λ s g f. call_made place c ts rest s (good_of place (ty_facts (Ty-F.Call c)) g))
      at _ (IsParen x) = by (ty.Paren x) (IsParen x) (ty_facts (Ty-F.Paren (about_type x))) (type_paren_is x)
          (λ s g f. paren_made x ts rest s (good_of place (ty_facts (Ty-F.Paren (about_type x))) g))
      at _ (IsTuple xs) = by (ty.Tuple xs) (IsTuple xs) (ty_facts (Ty-F.Tuple (map about_type xs))) (type_tuple_is xs)
          (λ s g f. tuple_made xs ts rest s (good_of place (ty_facts (Ty-F.Tuple (map about_type xs))) g))
      at _ IsNever = by ty.Never IsNever (ty_facts Ty-F.Never) type_never_is
          (λ s g f.
          let o : IsOne Punct (codes "!") ts rest = piece_bit (punct 33) depth ts rest (inner_of (piece (punct 33 ∷ [])) depth ts rest s) in
          (1, omega arith, rw (one_left Punct (codes "!") ts rest o) refl))
      at _ IsInfer = by ty.Infer IsInfer (ty_facts Ty-F.Infer) type_infer_is
          (λ s g f.
          let o : IsOne Underscore (codes "_") ts rest =
          piece_bit (Fixed Underscore (codes "_")) depth ts rest (inner_of (piece (Fixed Underscore (codes "_") ∷ [])) depth ts rest s) in
          (1, omega arith, rw (one_left Underscore (codes "_") ts rest o) refl))
      at _ (IsPtr m x) = by (ty.Ptr m x) (IsPtr m x) (ty_facts (Ty-F.Ptr m (about_type x))) (type_ptr_is m x)
          (λ s g f. pointer_made m x ts rest s (good_of place (ty_facts (Ty-F.Ptr m (about_type x))) g) (clear (ty_facts (Ty-F.Ptr m (about_type x))) f))
      at _ (IsRef l m x) = by (ty.Ref l m x) (IsRef l m x) (ty_facts (Ty-F.Ref l m (about_type x))) (type_ref_is l m x)
          (λ s g f. reference_made l m x ts rest s (good_of place (ty_facts (Ty-F.Ref l m (about_type x))) g) (clear (ty_facts (Ty-F.Ref l m (about_type x))) f))
      at _ (IsSlice x) = by (ty.Slice x) (IsSlice x) (ty_facts (Ty-F.Slice (about_type x))) (type_slice_is x)
          (λ s g f. slice_made x ts rest s (good_of place (ty_facts (Ty-F.Slice (about_type x))) g))
      at _ (IsArray x us) = by (ty.Array x us) (IsArray x us) (ty_facts (Ty-F.Array (about_type x) us)) (type_array_is x us)
          (λ s g f. array_made x us ts rest s (good_of place (ty_facts (Ty-F.Array (about_type x) us)) g))
      at _ (IsFunc b u a ps variadic y) =
          by (ty.Func b u a ps variadic y) (IsFunc b u a ps variadic y)
          (ty_facts (Ty-F.Func b u a (map about_func_param ps) variadic (option_map about_type y))) (type_func_is b u a ps variadic y)
          (λ s g f.
          func_made b u a ps variadic y ts rest s
          (good_of place (ty_facts (Ty-F.Func b u a (map about_func_param ps) variadic (option_map about_type y))) g)
          (clear (ty_facts (Ty-F.Func b u a (map about_func_param ps) variadic (option_map about_type y))) f))
      at _ (IsBounds true bs) = by (ty.Bounds true bs) (IsBounds true bs) (ty_facts (Ty-F.Bounds true (map about_bound bs))) (type_bounds_is true bs)
          (bounds_made true place bs ts rest)
      at _ (IsBounds false bs) = by (ty.Bounds false bs) (IsBounds false bs) (ty_facts (Ty-F.Bounds false (map about_bound bs))) (type_bounds_is false bs)
          (bounds_made false place bs ts rest)

-- ---- at every depth

-- At depth 0 no type is spelled.
no_depth : (x : Ty) (ts rest : Tokens) → Spells (about_type x).told.form 0 ts rest → ⊥
no_depth x ts rest = at x (type_view x)
  where
    by : (x : Ty) (F : TypeFacts) → about_type x ≡ F → (Spells F.told.form 0 ts rest → ⊥) → Spells (about_type x).told.form 0 ts rest → ⊥
    by x F e f = subst (λ (G : TypeFacts). Spells G.told.form 0 ts rest → ⊥) (sym e) f

    at : (x : Ty) → TyView x → Spells (about_type x).told.form 0 ts rest → ⊥
    at _ (IsPath p) = by (ty.Path p) (ty_facts (Ty-F.Path (about_path p))) (type_path_is p) (λ s. s)
    at _ (IsCall c) = by (ty.Call c) (ty_facts (Ty-F.Call c)) (type_call_is c) (λ s. s)
    at _ (IsParen x) = by (ty.Paren x) (ty_facts (Ty-F.Paren (about_type x))) (type_paren_is x) (λ s. s)
    at _ (IsTuple xs) = by (ty.Tuple xs) (ty_facts (Ty-F.Tuple (map about_type xs))) (type_tuple_is xs) (λ s. s)
    at _ IsNever = by ty.Never (ty_facts Ty-F.Never) type_never_is (λ s. s)
    at _ IsInfer = by ty.Infer (ty_facts Ty-F.Infer) type_infer_is (λ s. s)
    at _ (IsPtr m x) = by (ty.Ptr m x) (ty_facts (Ty-F.Ptr m (about_type x))) (type_ptr_is m x) (λ s. s)
    at _ (IsRef l m x) = by (ty.Ref l m x) (ty_facts (Ty-F.Ref l m (about_type x))) (type_ref_is l m x) (λ s. s)
    at _ (IsSlice x) = by (ty.Slice x) (ty_facts (Ty-F.Slice (about_type x))) (type_slice_is x) (λ s. s)
    at _ (IsArray x us) = by (ty.Array x us) (ty_facts (Ty-F.Array (about_type x) us)) (type_array_is x us) (λ s. s)
    at _ (IsFunc b u a ps variadic y) =
        by (ty.Func b u a ps variadic y) (ty_facts (Ty-F.Func b u a (map about_func_param ps) variadic (option_map about_type y))) (type_func_is b u a ps variadic y) (λ s. s)
    at _ (IsBounds d bs) = by (ty.Bounds d bs) (ty_facts (Ty-F.Bounds d (map about_bound bs))) (type_bounds_is d bs) (λ s. s)

-- What is one level deeper than a budget is read within it, and within every greater one.
pub within_reads : (depth budget : ℕ) → depth ≤ budget → Reads depth (within budget)
unfolding within
within_reads zero budget h = record {
  types = λ place x ts rest s g f. absurd (no_depth x ts rest s);
  constraints = λ c ts rest s g e. absurd s;
}
within_reads (suc depth) zero h = absurd (omega arith)
within_reads (suc depth) (suc budget) h =
    let reads = within_reads depth budget (omega arith) in
    record {
      types = λ place x ts rest s g f.
          let r = type_made depth (within budget) reads place x (type_view x) ts rest s g f in
          let b = type_begins x place (suc depth) ts rest s g in
          (r.0, r.1, rw b.lead r.2);
      constraints = λ c ts rest s g e.
          constraint_read depth (within budget) reads c ts rest (inner_of (about_constraint c).form depth ts rest s) g e;
    }

-- A type that stands there is read.
pub type_complete : (place : TypePlace) (x : Ty) (depth budget : ℕ) (ts rest : Tokens) → depth ≤ budget
    → Spells (about_type x).told.form depth ts rest → good_at place (about_type x) ≡ true
    → type_follows place (about_type x) rest ≡ true → IsRead depth (type_at place budget) x ts rest
type_complete place x depth budget ts rest h s g f = (within_reads depth budget h).types place x ts rest s g (follows_fits place (about_type x) rest f)
