-- Where clauses: what is spelled is read, and handed back with whether its last part is spelled.
use Rattle.std.proofs.Common.{◌≡◌, ℕ, ◌≤◌, ◌<◌, max, Bool, true, false, not, ◌&&◌, ◌||◌, List, [], ◌∷◌, map, length, codes, Option, option_map, Some, None, is_some, refl, sym, ap, subst, ◌∙◌, arith}
use Rattle.std.specs.List.{list_all}
use Rattle.std.proofs.lemmas.Bool.{and_parts, not-true}
use Rattle.lay_piece.specs.declared.kind.Kind.TheVariants as kind
use Rattle.lay_piece.specs.declared.kind.Kind.TheVariants.{Ident, Punct}
use Rattle.lay_token.specs.Operators.{is_op}
use Rattle.lay_form.specs.Form.{Blank, Fixed, Operator, Form, Piece, Part, keyword}
use Rattle.lay_form.specs.LastParts.{last_follows}
use Rattle.lay_form.specs.Notation.{when, each, comma_gap, comma_list, wheres_spelled}
use Rattle.lay_form.specs.Spelled.{IsOne, IsOperator, Spells}
use Rattle.lay_form.proofs.FormLaws.{shorter}
use Rattle.lay_node.specs.Ahead.{Tokens, first, is_keyword, is_lifetime, is_mark}
use Rattle.lay_node.specs.Begins.{Lead, OfPath, OfParen, OfNever, OfInfer, OfPointer, OfReference, OfBracket, OfImpl, OfDyn, OfFunc, lead_at, begins_bound, begins_predicate}
use Rattle.lay_node.specs.nodes.Generics.{are_bounds}
use Rattle.lay_node.specs.nodes.Types as types
use Rattle.lay_node.specs.nodes.Types.{TypeFacts, about_bound, about_type, about_func_param, abi_form, abi_name, binder_form, bounds_follow, bounds_form, deeper, good_at, is_binder, last_refuses, lifetime_form, lifetimes_form, lifetime_param_form, output_form, params_form, ty_facts}
use Rattle.lay_node.specs.nodes.Where as where_nodes
use Rattle.lay_node.specs.nodes.Where.{bare_colon, outlives_form, predicate_form, is_predicate, predicate_follow, last_predicate_follow, begins_last_part, are_predicates}
use Rattle.lay_node.specs.reader.Generics.{met}
use Rattle.lay_node.specs.reader.Loops.{Read, nodes, deepest, open_elements_from, open_elements}
use Rattle.lay_node.specs.reader.Types.{Within, binder_if, lifetimes}
use Rattle.lay_node.specs.reader.Where.{lifetime_predicate, type_predicate, one_predicate, wheres, wheres_at}
use Rattle.lay_node.specs.declared.generics.Predicate.{Predicate}
use Rattle.lay_node.specs.declared.generics.Predicate.TheVariants as predicate
use Rattle.lay_node.specs.declared.generics.Wheres.{Wheres}
use Rattle.lay_node.specs.declared.token.Lifetime.{Lifetime}
use Rattle.lay_node.specs.declared.types.Abi.{Abi}
use Rattle.lay_node.specs.declared.types.Binder.{Binder}
use Rattle.lay_node.specs.declared.types.Bound.{Bound}
use Rattle.lay_node.specs.declared.types.Ty.{Ty}
use Rattle.lay_node.specs.declared.types.TypePlace.TheVariants.{Bounds}
use Rattle.lay_node.proofs.Fronts.{one_front, one_shorter}
use Rattle.lay_node.proofs.Parts.{bit_alone, before_blank, piece_bit, part_alone}
use Rattle.lay_node.proofs.nodes.TypesLaws.{TyView, IsPath, IsCall, IsParen, IsTuple, IsNever, IsInfer, IsPtr, IsRef, IsSlice, IsArray, IsFunc, IsBounds, type_view, type_func_is}
use Rattle.lay_node.proofs.reader.Exact.{IsRead}
use Rattle.lay_node.proofs.reader.TypesBegins.{lead_of, opened, type_begins}
use Rattle.lay_node.proofs.reader.TypesComplete.{Reads, quiet_read, operator_read}
use Rattle.lay_node.proofs.reader.TypesCompleteAlone.{alone_read}
use Rattle.lay_node.proofs.reader.TypesCompleteKinds.{keyword_other}
use Rattle.lay_node.proofs.reader.TypesCompleteParts.{none_left, none_right, keyword_there, one_left, ends_no_lifetime, lifetime_complete, lifetime_alone, lifetimes_complete, colon_operator, some_binder}
use Rattle.lay_node.proofs.reader.TypesCompletePaths.{all_bounds_read}
use Rattle.lay_node.proofs.reader.TypesFronts.{lead_no_lifetime, lead_other_keyword, Clear, follows_clear, free_clear, Ends, comma_ends, colon_quiet}
use Rattle.lay_node.proofs.reader.TypesLists.{LastFollows, Ending, open_read}

-- ---- what a type without a binder begins with

func_no_for : (is_unsafe : Bool) (a : Option Abi) (f : Form) (depth : ℕ) (ts rest : Tokens)
    → Spells (when is_unsafe (keyword (codes "unsafe") ∷ Blank ∷ []) (abi_form a (Piece (keyword (codes "fn") ∷ []) f))) depth ts rest
    → first (is_keyword (codes "for")) ts ≡ false
func_no_for true a f depth ts rest s = keyword_other (codes "unsafe") (codes "for") refl ts s.0 (before_blank (keyword (codes "unsafe")) ts s.0 s.1)
func_no_for false (Some a) f depth ts rest s = keyword_other (codes "extern") (codes "for") refl ts s.0 (before_blank (keyword (codes "extern")) ts s.0 s.1)
func_no_for false None f depth ts rest s = keyword_other (codes "fn") (codes "for") refl ts s.0 (bit_alone (keyword (codes "fn")) ts s.0 s.1)

pub type_no_for : (x : Ty) (depth : ℕ) (ts rest : Tokens) → Spells (about_type x).told.form depth ts rest → good_at Bounds (about_type x) ≡ true
    → (about_type x).binds ≡ false → first (is_keyword (codes "for")) ts ≡ false
type_no_for x depth ts rest s g b = by x (type_view x) s b (type_begins x Bounds depth ts rest s g).lead
  where
    other : (l : Lead) → (Some OfFunc ≡ Some l → ⊥) → lead_at ts ≡ Some l → first (is_keyword (codes "for")) ts ≡ false
    other l differ h = lead_other_keyword (codes "for") OfFunc l refl differ ts h

    by : (x : Ty) (v : TyView x) → Spells (about_type x).told.form depth ts rest → (about_type x).binds ≡ false → lead_at ts ≡ Some (lead_of x v)
        → first (is_keyword (codes "for")) ts ≡ false
    by _ (IsFunc (Some d) u a ps variadic y) t n l =
        let e = sym (ap (λ (F : TypeFacts). F.binds) (type_func_is (Some d) u a ps variadic y)) ∙ n in absurd (cc)
    by _ (IsFunc None u a ps variadic y) t n l =
        let f : Form = Part (params_form (map about_func_param ps) variadic) (output_form (option_map about_type y)) in
        let i = opened (when u (keyword (codes "unsafe") ∷ Blank ∷ []) (abi_form a (Piece (keyword (codes "fn") ∷ []) f))) depth ts rest
        (subst (λ (F : TypeFacts). Spells F.told.form depth ts rest) (type_func_is None u a ps variadic y) t) in
        func_no_for u a f i.0 ts rest i.2
    by _ (IsPath p) t n l = other OfPath (λ e. cc) l
    by _ (IsCall c) t n l = other OfPath (λ e. cc) l
    by _ (IsParen x) t n l = other OfParen (λ e. cc) l
    by _ (IsTuple xs) t n l = other OfParen (λ e. cc) l
    by _ IsNever t n l = other OfNever (λ e. cc) l
    by _ IsInfer t n l = other OfInfer (λ e. cc) l
    by _ (IsPtr m x) t n l = other OfPointer (λ e. cc) l
    by _ (IsRef r m x) t n l = other OfReference (λ e. cc) l
    by _ (IsSlice x) t n l = other OfBracket (λ e. cc) l
    by _ (IsArray x us) t n l = other OfBracket (λ e. cc) l
    by _ (IsBounds true bs) t n l = other OfDyn (λ e. cc) l
    by _ (IsBounds false bs) t n l = other OfImpl (λ e. cc) l

-- ---- what may follow a predicate, as far as its reading depends on it

abbrev OutlivesFits : List Lifetime → Tokens → Type 0
OutlivesFits [] ts = first is_lifetime ts ≡ false
OutlivesFits (l ∷ ls) ts = is_op (codes "+") ts ≡ false

abbrev MeetsFits : List Bound → Tokens → Type 0
MeetsFits [] ts = begins_bound ts ≡ false
MeetsFits (b ∷ bs) ts = (is_op (codes "+") ts ≡ false) × Clear (last_refuses (map about_bound (b ∷ bs))) ts

abbrev Fits : Predicate → Tokens → Type 0
Fits (predicate.Region l ls) ts = OutlivesFits ls ts
Fits (predicate.Bounded binder x bs) ts = MeetsFits bs ts

follow_fits : (p : Predicate) (ts : Tokens) → predicate_follow p ts ≡ true → Fits p ts
follow_fits (predicate.Region l []) ts h = not-true (first is_lifetime ts) h
follow_fits (predicate.Region l (m ∷ ls)) ts h = not-true (is_op (codes "+") ts) h
follow_fits (predicate.Bounded binder x []) ts h = not-true (begins_bound ts) h
follow_fits (predicate.Bounded binder x (b ∷ bs)) ts h =
    let p = and_parts (not (is_op (codes "+") ts)) _ h in
    (not-true (is_op (codes "+") ts) p.0, follows_clear (last_refuses (map about_bound (b ∷ bs))) ts p.1)

ends_fits : (p : Predicate) (ts : Tokens) → Ends ts → Fits p ts
ends_fits (predicate.Region l []) ts e = ends_no_lifetime ts e
ends_fits (predicate.Region l (m ∷ ls)) ts e = e.quiet.plus
ends_fits (predicate.Bounded binder x []) ts e = e.bound
ends_fits (predicate.Bounded binder x (b ∷ bs)) ts e = (e.quiet.plus, free_clear (last_refuses (map about_bound (b ∷ bs))) ts e.quiet.free)

last_fits : (ps : List Predicate) (ts : Tokens) → last_predicate_follow ps ts ≡ true → LastFollows Fits ps ts
last_fits [] ts h = tt
last_fits (p ∷ []) ts h = follow_fits p ts h
last_fits (p ∷ q ∷ ps) ts h = last_fits (q ∷ ps) ts h

-- ---- what a binder begins with

for_begins : (ts rest : Tokens) → IsOne Ident (codes "for") ts rest → (first is_lifetime ts ≡ false) × (begins_predicate ts ≡ true)
unfolding lead_at
for_begins ts rest o = let f = (one_front Ident (codes "for") ts rest o).1 in (rw f refl, rw f refl)

module _ (depth : ℕ) (inner : Within) (reads : Reads depth inner) where
  abbrev Has : {A : Type 0} → (Tokens → Read A) → A → Tokens → Tokens → Type 0
  Has one x ts rest = IsRead depth one x ts rest

  -- ---- lifetimes

  outlives_read : (ls : List Lifetime) (ts rest : Tokens) → Spells (outlives_form ls) depth ts rest → OutlivesFits ls rest
      → (at : Tokens) × IsOperator (codes ":") ts at × (lifetimes at ≡ Some (ls, rest))
  outlives_read [] ts rest s f =
      let o : IsOperator (codes ":") ts rest = piece_bit (Operator (codes ":")) depth ts rest s in (rest, o, rw f refl)
  outlives_read (l ∷ ls) ts rest s f = (s.0, colon_operator ts s.0 s.1, lifetimes_complete l ls depth s.0 rest s.2 f)

  region_read : (l : Lifetime) (ls : List Lifetime) (ts rest : Tokens) → Spells (predicate_form (predicate.Region l ls)) depth ts rest → OutlivesFits ls rest
      → Has (one_predicate inner) (predicate.Region l ls) ts rest
  unfolding lifetime_predicate
  region_read l ls ts rest s f =
      let r = lifetime_complete l ts s.0 (lifetime_alone l depth ts s.0 s.1) in
      let o = outlives_read ls s.0 rest s.2 f in
      (0, omega arith, rw (r.1, r.0, operator_read (codes ":") s.0 o.0 o.1, o.2) refl)

  -- ---- types

  meets_read : (bs : List Bound) (ts rest : Tokens) → Spells (where_nodes.meets_form bs) depth ts rest → are_bounds bs ≡ true → MeetsFits bs rest
      → (at : Tokens) × IsOperator (codes ":") ts at × Has (met inner) bs at rest
  meets_read [] ts rest s g f =
      let o : IsOperator (codes ":") ts rest = piece_bit (Operator (codes ":")) depth ts rest s in (rest, o, (0, omega arith, rw f refl))
  meets_read (b ∷ bs) ts rest s g f =
      let r = all_bounds_read depth inner reads b bs s.0 rest (part_alone (bounds_form (map about_bound (b ∷ bs))) depth s.0 rest s.2) g f.1 f.0 in
      let n = r.0 in
      (s.0, colon_operator ts s.0 s.1, (n.0, n.1, rw (r.1) n.2))

  meets_colon : (bs : List Bound) (ts rest : Tokens) → Spells (where_nodes.meets_form bs) depth ts rest → is_op (codes ":") ts ≡ true
  meets_colon [] ts rest s = let o : IsOperator (codes ":") ts rest = piece_bit (Operator (codes ":")) depth ts rest s in o.0
  meets_colon (b ∷ bs) ts rest s = (colon_operator ts s.0 s.1).0

  -- a predicate about a type, by its parts
  abbrev BoundedForm : Ty → List Bound → Form
  BoundedForm x bs = Part (about_type x).told.form (where_nodes.meets_form bs)

  bounded_goods : (b : Option Binder) (x : Ty) (bs : List Bound) → is_predicate (predicate.Bounded b x bs) ≡ true
      → (is_binder b ≡ true) × (good_at Bounds (about_type x) ≡ true) × ((is_some b || not (about_type x).binds) ≡ true) × (are_bounds bs ≡ true)
  bounded_goods b x bs g =
      let p = and_parts (is_binder b && good_at Bounds (about_type x) && (is_some b || not (about_type x).binds)) (are_bounds bs) g in
      let q = and_parts (is_binder b && good_at Bounds (about_type x)) (is_some b || not (about_type x).binds) p.0 in
      let r = and_parts (is_binder b) (good_at Bounds (about_type x)) q.0 in
      (r.0, r.1, q.1, p.1)

  bounded_begins : (b : Option Binder) (x : Ty) (bs : List Bound) (ts rest : Tokens) → Spells (predicate_form (predicate.Bounded b x bs)) depth ts rest
      → is_predicate (predicate.Bounded b x bs) ≡ true → (first is_lifetime ts ≡ false) × (begins_predicate ts ≡ true) × (length rest < length ts)
  bounded_begins None x bs ts rest s g =
      let goods = bounded_goods None x bs g in
      let t = type_begins x Bounds depth ts s.0 s.1 goods.1 in
      let l = lead_no_lifetime ts (lead_of x (type_view x)) t.lead in
      (l, rw (l, t.lead) refl, omega (arith, t.less, shorter (where_nodes.meets_form bs) depth s.0 rest s.2))
  bounded_begins (Some b) x bs ts rest s g =
      let o : IsOne Ident (codes "for") ts s.0 = bit_alone (keyword (codes "for")) ts s.0 s.1 in
      let f = for_begins ts s.0 o in
      let behind : Form = Part (comma_list true types.less types.greater (map lifetime_param_form b.params)) (Piece (Blank ∷ []) (BoundedForm x bs)) in
      (f.0, f.1, omega (arith, one_shorter Ident (codes "for") ts s.0 o, shorter behind depth s.0 rest s.2))

  binder_read : (b : Option Binder) (x : Ty) (bs : List Bound) (ts rest : Tokens) → Spells (predicate_form (predicate.Bounded b x bs)) depth ts rest
      → is_predicate (predicate.Bounded b x bs) ≡ true → (mid : Tokens) × (binder_if ts ≡ Some (b, mid)) × Spells (BoundedForm x bs) depth mid rest
  binder_read None x bs ts rest s g =
      let goods = bounded_goods None x bs g in
      let none = type_no_for x depth ts s.0 s.1 goods.1 (not-true (about_type x).binds goods.2) in
      (ts, rw none refl, s)
  binder_read (Some b) x bs ts rest s g = some_binder b (BoundedForm x bs) depth ts rest s (bounded_goods (Some b) x bs g).0

  bounded_read : (b : Option Binder) (x : Ty) (bs : List Bound) (ts rest : Tokens) → Spells (predicate_form (predicate.Bounded b x bs)) depth ts rest
      → is_predicate (predicate.Bounded b x bs) ≡ true → MeetsFits bs rest → Has (one_predicate inner) (predicate.Bounded b x bs) ts rest
  unfolding type_predicate
  bounded_read b x bs ts rest s g f =
      let goods = bounded_goods b x bs g in
      let n = bounded_begins b x bs ts rest s g in
      let d = binder_read b x bs ts rest s g in
      let t = d.2 in
      let r = quiet_read depth inner reads Bounds x d.0 t.0 t.1 goods.1 (colon_quiet t.0 (meets_colon bs t.0 rest t.2)) in
      let m = meets_read bs t.0 rest t.2 goods.3 f in
      let q = m.2 in
      (max r.0 q.0, omega (arith, r.1, q.1), rw (n.0, d.1, r.2, operator_read (codes ":") t.0 m.0 m.1, q.2) refl)

  -- ---- the clause

  predicate_read : (p : Predicate) (ts rest : Tokens) → Spells (predicate_form p) depth ts rest → is_predicate p ≡ true → Fits p rest
      → Has (one_predicate inner) p ts rest
  predicate_read (predicate.Region l ls) ts rest s g f = region_read l ls ts rest s f
  predicate_read (predicate.Bounded b x bs) ts rest s g f = bounded_read b x bs ts rest s g f

  predicate_starts : (p : Predicate) (ts rest : Tokens) → Spells (predicate_form p) depth ts rest → is_predicate p ≡ true
      → (begins_predicate ts ≡ true) × (length rest < length ts)
  predicate_starts (predicate.Region l ls) ts rest s g =
      let o = lifetime_alone l depth ts s.0 s.1 in
      (rw (lifetime_complete l ts s.0 o).1 refl, omega (arith, one_shorter kind.Lifetime l.text ts s.0 o, shorter (outlives_form ls) depth s.0 rest s.2))
  predicate_starts (predicate.Bounded b x bs) ts rest s g = let n = bounded_begins b x bs ts rest s g in (n.1, n.2)

  abbrev Clause : List Predicate → Bool → Tokens → Tokens → Type 0
  Clause ps last ts rest = (ys : List (Predicate × ℕ)) × (nodes ys ≡ ps) × (deepest ys ≤ depth)
      × (open_elements begins_predicate (one_predicate inner) ts ≡ Some ((ys, last), rest))

  some_predicates : (last : Bool) (p : Predicate) (ps : List Predicate) (ts mid end rest : Tokens) → list_all is_predicate (p ∷ ps) ≡ true
      → Spells (predicate_form p) depth ts mid → Spells (each comma_gap (map predicate_form ps)) depth mid end
      → Ending begins_predicate Fits last (p ∷ ps) end rest → Clause (p ∷ ps) last ts rest
  some_predicates last p ps ts mid end rest g one s ending =
      open_read begins_predicate (one_predicate inner) predicate_form is_predicate Fits depth predicate_read predicate_starts
      (λ q us at o h. ends_fits q us (comma_ends us at o)) last p ps ts mid end rest g one s ending

  no_predicates : (ts : Tokens) → begins_predicate ts ≡ false → Clause [] true ts ts
  unfolding open_elements open_elements_from
  no_predicates ts h = ([], refl, omega arith, rw h refl)

  clause_read : (ps : List Predicate) (last : Bool) (ts inside rest : Tokens) → IsOne Ident (codes "where") ts inside → Clause ps last inside rest
      → Has (wheres inner) (record { predicates = ps }, last) ts rest
  unfolding wheres
  clause_read ps last ts inside rest o c = (deepest c.0, c.2, made c.0 c.1 c.3)
    where
      made : (ys : List (Predicate × ℕ)) → nodes ys ≡ ps → open_elements begins_predicate (one_predicate inner) inside ≡ Some ((ys, last), rest)
          → wheres inner ts ≡ Some (((record { predicates = ps }, last), deepest ys), rest)
      made ys same h = rw (keyword_there (codes "where") ts inside o, one_left Ident (codes "where") ts inside o, h, same) refl

  pub wheres_read : (last : Bool) (ps : List Predicate) (ts rest : Tokens) → Spells (wheres_spelled last (map predicate_form ps)) depth ts rest
      → list_all is_predicate ps ≡ true → last_follows last (begins_last_part ps) begins_predicate rest ≡ true
      → Has (wheres inner) (record { predicates = ps }, last) ts rest
  unfolding wheres
  wheres_read true [] ts rest s g f =
      let o : IsOne Ident (codes "where") ts rest = piece_bit (keyword (codes "where")) depth ts rest s in
      clause_read [] true ts rest rest o (no_predicates rest (not-true (begins_predicate rest) f))
  wheres_read false [] ts rest s g f =
      let none = not-true (first (is_keyword (codes "where")) rest) f in (0, omega arith, rw s (rw none refl))
  wheres_read true (p ∷ ps) ts rest s g f =
      let w = s.1 in
      let o : IsOne Ident (codes "where") ts w.0 = bit_alone (keyword (codes "where")) ts w.0 w.1 in
      let row = w.2 in
      let more = row.2 in
      let end : IsOne Punct (codes ",") more.0 rest =
      subst (λ us. IsOne Punct (codes ",") more.0 us) s.2 (piece_bit (Fixed Punct (codes ",")) depth more.0 s.0 more.2) in
      clause_read (p ∷ ps) true ts w.0 rest o (some_predicates true p ps w.0 row.0 more.0 rest g row.1 more.1 (end, not-true (begins_predicate rest) f))
  wheres_read false (p ∷ ps) ts rest s g f =
      let w = s.1 in
      let o : IsOne Ident (codes "where") ts w.0 = bit_alone (keyword (codes "where")) ts w.0 w.1 in
      let row = w.2 in
      let more = row.2 in
      let end : more.0 ≡ rest = more.2 ∙ s.2 in
      let stops = not-true (first (is_mark (codes ",")) rest || not (last_predicate_follow (p ∷ ps) rest)) f in
      let no_comma = none_left (first (is_mark (codes ",")) rest) _ stops in
      let follows = kept (last_predicate_follow (p ∷ ps) rest) (none_right (first (is_mark (codes ",")) rest) _ stops) in
      clause_read (p ∷ ps) false ts w.0 rest o (some_predicates false p ps w.0 row.0 more.0 rest g row.1 more.1 (end, no_comma, last_fits (p ∷ ps) rest follows))
    where
      kept : (b : Bool) → not b ≡ false → b ≡ true
      kept true h = refl
      kept false h = absurd (cc)

-- Where clauses by themselves.
pub wheres_complete : (last : Bool) (w : Wheres) (depth budget : ℕ) (ts rest : Tokens) → depth ≤ budget
    → Spells (deeper (wheres_spelled last (map predicate_form w.predicates))) depth ts rest
    → are_predicates w ≡ true → last_follows last (begins_last_part w.predicates) begins_predicate rest ≡ true
    → IsRead depth (wheres_at budget) (w, last) ts rest
wheres_complete last w depth budget ts rest h s good f =
    alone_read wheres (w, last) (wheres_spelled last (map predicate_form w.predicates)) depth budget h ts rest s (λ least inner reads t.
    wheres_read least inner reads last w.predicates ts rest t good f)
