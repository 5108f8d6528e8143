-- Generic arguments, paths and bounds: what is spelled is read, where what is one level deeper is read.
use Rattle.std.proofs.Common.{◌≡◌, ℕ, zero, suc, ◌≤◌, ◌<◌, max, Bool, true, false, not, ◌&&◌, ◌||◌, List, [], ◌∷◌, map, length, drop, codes, Option, option_map, Some, None, inl, inr, refl, sym, ap, subst, ◌∙◌, arith}
use Rattle.std.specs.List.{list_all}
use Rattle.std.proofs.lemmas.Bool.{and_parts, not-true}
use Rattle.std.proofs.lemmas.List.Folds.{list_all-map}
use Rattle.lay_piece.specs.Forms.{opening}
use Rattle.lay_piece.specs.Word.{class_of}
use Rattle.lay_piece.specs.declared.kind.Delim.TheVariants.{Paren}
use Rattle.lay_piece.specs.declared.kind.Kind.TheVariants as kind
use Rattle.lay_piece.specs.declared.kind.Kind.TheVariants.{Ident, Punct, Opener}
use Rattle.lay_piece.specs.declared.word.Class.{Class}
use Rattle.lay_piece.specs.declared.word.Class.TheVariants.{Plain}
use Rattle.lay_token.specs.Operators.{begins_op, is_op}
use Rattle.lay_form.specs.Form.{Bit, Blank, Operator, Form, Done, Part, Deeper, opener, closer}
use Rattle.lay_form.specs.Notation.{comma_list}
use Rattle.lay_form.specs.Spelled.{IsOne, IsBit, IsOperator, AreBits, Spells}
use Rattle.lay_form.proofs.FormLaws.{shorter}
use Rattle.lay_node.specs.Ahead.{Tokens, first, is_mark, is_opener, opens, closes, opens_args, opens_args_late}
use Rattle.lay_node.specs.Words.{is_plain, is_path_class, is_name, is_path_word, leaf_of}
use Rattle.lay_node.specs.nodes.Facts.{Facts, all_good}
use Rattle.lay_node.specs.nodes.Types.{TypeFacts, ArgsFacts, PathFacts, in_style, less, greater, equals, good_at, all_types_good, type_forms, type_follows, output_form, output_good, output_refuses, angle_form, round_form, deeper, about_type, about_path, about_start, about_args, about_arg, about_constraint, starts_plain}
use Rattle.lay_node.specs.reader.Loops.{Read, nodes, deepest, elements}
use Rattle.lay_node.specs.reader.Types.{Within, operator, as_path, path_in, named_type, begins_constraint, one_arg, angle, output, round, args_by}
use Rattle.lay_node.specs.declared.token.Lifetime.{Lifetime}
use Rattle.lay_node.specs.declared.token.Name.{Name}
use Rattle.lay_node.specs.declared.token.Word.{Word}
use Rattle.lay_node.specs.declared.types.Arg.{Arg}
use Rattle.lay_node.specs.declared.types.Arg.TheViews as views
use Rattle.lay_node.specs.declared.types.Args.{Args}
use Rattle.lay_node.specs.declared.types.Args.TheVariants as args
use Rattle.lay_node.specs.declared.types.Constraint.{Constraint}
use Rattle.lay_node.specs.declared.types.Path.{Path}
use Rattle.lay_node.specs.declared.types.PathStart.TheVariants as start
use Rattle.lay_node.specs.declared.types.PathStyle.{PathStyle}
use Rattle.lay_node.specs.declared.types.PathStyle.TheVariants.{Code, Kind as InKind}
use Rattle.lay_node.specs.declared.types.Ty.{Ty}
use Rattle.lay_node.specs.declared.types.Ty.TheVariants as ty
use Rattle.lay_node.specs.declared.types.TypePlace.{TypePlace}
use Rattle.lay_node.specs.declared.types.TypePlace.TheVariants.{Bounds, NoBounds}
use Rattle.lay_node.proofs.Fronts.{one_front, one_no_op, op_test, other_op, one_shorter, mark_passed, opener_passed}
use Rattle.lay_node.proofs.Parts.{bit_alone, behind_blank, before_blank, part_alone, word_kind, leaf_spelled, leaf_parts}
use Rattle.lay_node.proofs.nodes.TypesLaws.{ArgsView, IsNone, IsAngle, IsRound, ArgView, IsRegion, IsPlain, IsConst, IsNamed, ConstraintView, IsEqual, IsEqualConst, IsLimit, type_view, args_view, arg_view, constraint_view, type_path_is, start_local_is, args_none_is, args_angle_is, args_round_is, arg_region_is, arg_plain_is, arg_const_is, arg_named_is, constraint_equal_is, constraint_equal_const_is, constraint_limit_is, path_is}
use Rattle.lay_node.proofs.reader.Exact.{IsRead}
use Rattle.lay_node.proofs.reader.TypesBegins.{lead_of, opened, list_front, type_begins, type_no_shift}
use Rattle.lay_node.proofs.reader.TypesCompleteParts.{none_left, none_right, lifetime_complete, lifetime_alone, colon_operator, const_complete}
use Rattle.lay_node.proofs.reader.TypesFronts.{no_begins, opens_there, lead_no_closer, lead_no_lifetime, lead_no_greater, lead_no_equals, lead_no_const, word_no_mark, Clear, follows_clear, free_clear, Quiet, Ends, equals_quiet, colon_quiet}
use Rattle.lay_node.proofs.reader.TypesLists.{forms_of, paren_closes, greater_closes, list_read}
use Rattle.lay_node.proofs.reader.Words.{word_no_op}

-- ---- what may follow

-- Of what may follow a type at a place, what its reading depends on.
abbrev pub Fits : TypePlace → TypeFacts → Tokens → Type 0
Fits Bounds x ts = ((x.bounded && is_op (codes "+") ts) ≡ false) × Clear x.told.refuses ts
Fits NoBounds x ts = Clear x.told.refuses ts

pub follows_fits : (place : TypePlace) (x : TypeFacts) (ts : Tokens) → type_follows place x ts ≡ true → Fits place x ts
follows_fits Bounds x ts h =
    let p = and_parts (not (x.bounded && is_op (codes "+") ts)) _ h in
    (not-true (x.bounded && is_op (codes "+") ts) p.0, follows_clear x.told.refuses ts p.1)
follows_fits NoBounds x ts h = follows_clear x.told.refuses ts h

pub fits_clear : (place : TypePlace) (x : TypeFacts) (ts : Tokens) → Fits place x ts → Clear x.told.refuses ts
fits_clear Bounds x ts f = f.1
fits_clear NoBounds x ts f = f

pub and_none : (a : Bool) → (a && false) ≡ false
and_none true = refl
and_none false = refl

pub quiet_fits : (place : TypePlace) (x : TypeFacts) (ts : Tokens) → Quiet ts → Fits place x ts
quiet_fits Bounds x ts q = (rw q.plus (and_none x.bounded), free_clear x.told.refuses ts q.free)
quiet_fits NoBounds x ts q = free_clear x.told.refuses ts q.free

-- What is one level deeper is read.
pub record Reads (depth : ℕ) (within : Within) : Type 0 where
  pub types : (place : TypePlace) (x : Ty) (ts rest : Tokens) → Spells (about_type x).told.form depth ts rest → good_at place (about_type x) ≡ true
      → Fits place (about_type x) rest → IsRead depth (within.types place) x ts rest
  pub constraints : (c : Constraint) (ts rest : Tokens) → Spells (deeper (about_constraint c).form) depth ts rest → (about_constraint c).good ≡ true
      → Ends rest → IsRead depth within.constraints c ts rest

-- ---- facts that need no reading

-- an operator, read
pub operator_read : (op : List ℕ) (ts rest : Tokens) → IsOperator op ts rest → operator op ts ≡ Some rest
operator_read op ts rest o = rw (o.0, o.1) refl

pub deeper_parts : (f g : Form) (depth : ℕ) (ts rest : Tokens) → Spells (Deeper f g) depth ts rest
    → (least : ℕ) × (depth ≡ suc least) × (mid : Tokens) × Spells f least ts mid × Spells g depth mid rest
deeper_parts f g zero ts rest s = absurd s
deeper_parts f g (suc depth) ts rest s = (depth, refl, s.0, s.1, s.2)

pub deeper_from : (f : Form) (depth least : ℕ) (ts rest : Tokens) → depth ≡ suc least → Spells f least ts rest → Spells (deeper f) depth ts rest
deeper_from f depth least ts rest e s = subst (λ d. Spells (deeper f) d ts rest) (sym e) (rest, s, refl)

pub plain_class : (c : Class) → is_plain c ≡ true → is_path_class c ≡ true
plain_class Plain h = refl
plain_class _ h = absurd (cc)

pub name_is_word : (raw : Bool) (text : List ℕ) → is_name raw text ≡ true → is_path_word raw text ≡ true
name_is_word true text h = refl
name_is_word false text h = plain_class (class_of text) h

-- a path as a type
pub path_as_type : (p : Path) (depth least : ℕ) (ts rest : Tokens) → depth ≡ suc least → Spells (about_path p InKind).form least ts rest
    → Spells (about_type (ty.Path p)).told.form depth ts rest
path_as_type p depth least ts rest e s =
    subst (λ (F : TypeFacts). Spells F.told.form depth ts rest) (sym (type_path_is p)) (deeper_from (about_path p InKind).form depth least ts rest e s)

pub path_type_good : (place : TypePlace) (p : Path) → (about_path p InKind).good ≡ true → good_at place (about_type (ty.Path p)) ≡ true
path_type_good Bounds p g = subst (λ (F : TypeFacts). good_at Bounds F ≡ true) (sym (type_path_is p)) g
path_type_good NoBounds p g = subst (λ (F : TypeFacts). good_at NoBounds F ≡ true) (sym (type_path_is p)) (rw g refl)

pub as_path_is : (p : Path) → as_path (ty.Path p) ≡ Some p
as_path_is p = ap path_in (views.outs-Path p)

-- the path that a name with its arguments is
abbrev name_path : Name → Args → Path
name_path n a = record { start = start.Local; segments = (record { raw = n.raw; text = n.text }, a) ∷ [] }

name_path_spelled : (n : Name) (a : Args) (depth : ℕ) (ts mid rest : Tokens) → IsOne (word_kind n.raw) n.text ts mid
    → Spells (about_args a).kind.form depth mid rest
    → Spells (about_path (name_path n a) InKind).form depth ts rest
name_path_spelled n a depth ts mid rest o s =
    let local : Spells (about_start start.Local).form depth ts ts = subst (λ (F : Facts). Spells F.form depth ts ts) (sym start_local_is) refl in
    let segments = leaf_spelled n.raw n.text (Part (about_args a).kind.form Done) depth ts mid rest o (rest, s, refl) in
    subst (λ (F : PathFacts). Spells (F InKind).form depth ts rest) (sym (path_is (name_path n a))) (ts, local, segments)

name_path_good : (n : Name) (a : Args) → is_name n.raw n.text ≡ true → (about_args a).kind.good ≡ true → (about_path (name_path n a) InKind).good ≡ true
name_path_good n a g h =
    let local : (about_start start.Local).good ≡ true = subst (λ (F : Facts). F.good ≡ true) (sym start_local_is) refl in
    subst (λ (F : PathFacts). (F InKind).good ≡ true) (sym (path_is (name_path n a)))
    (rw (local, name_is_word n.raw n.text g, h) refl)

named_type_is : (n : Name) (a : Args) → is_name n.raw n.text ≡ true → (about_args a).round ≡ false → named_type (ty.Path (name_path n a)) ≡ Some (n, a)
named_type_is n a g h =
    let local : starts_plain (views.out-PathStart start.Local) ≡ true = ap starts_plain views.outs-Local in
    rw (as_path_is (name_path n a), local, h, g) refl

-- what is asked of a name stands after `=` or `:`
constraint_front : (c : Constraint) (depth : ℕ) (ts rest : Tokens) → Spells (about_constraint c).form depth ts rest → (begins_constraint ts ≡ true) × Quiet ts
constraint_front c depth ts rest s = by c (constraint_view c) s
  where
    equal_there : (mid : Tokens) → AreBits equals ts mid → (begins_constraint ts ≡ true) × Quiet ts
    equal_there mid b =
        let o : IsOperator (codes "=") ts mid = before_blank (Operator (codes "=")) ts mid (behind_blank (Operator (codes "=") ∷ Blank ∷ []) ts mid b) in
        (rw o.0 refl, equals_quiet ts o.0)

    by : (c : Constraint) → ConstraintView c → Spells (about_constraint c).form depth ts rest → (begins_constraint ts ≡ true) × Quiet ts
    by _ (IsEqual x) t = let u = subst (λ (F : Facts). Spells F.form depth ts rest) (constraint_equal_is x) t in equal_there u.0 u.1
    by _ (IsEqualConst value) t = let u = subst (λ (F : Facts). Spells F.form depth ts rest) (constraint_equal_const_is value) t in equal_there u.0 u.1
    by _ (IsLimit bounds) t =
        let u = subst (λ (F : Facts). Spells F.form depth ts rest) (constraint_limit_is bounds) t in
        let o = colon_operator ts u.0 u.1 in
        let no_equals : is_op (codes "=") ts ≡ false = other_op (codes ":") (codes "=") refl ts o.0 in
        (rw (no_equals, o.0) refl, colon_quiet ts o.0)

-- ---- what an argument begins with

record ArgBegun (ts rest : Tokens) : Type 0 where
  pub greater : first (is_mark (codes ">")) ts ≡ false
  pub equals : first (is_mark (codes "=")) ts ≡ false
  pub shift : begins_op (codes "<=") ts ≡ false
  pub less : length rest < length ts

lifetime_begun : (l : Lifetime) (ts rest : Tokens) → IsOne kind.Lifetime l.text ts rest → ArgBegun ts rest
lifetime_begun l ts rest o =
    let f = one_front kind.Lifetime l.text ts rest o in
    record { greater = rw f.1 refl; equals = rw f.1 refl; shift = rw f.1 refl; less = one_shorter kind.Lifetime l.text ts rest o }

arg_begins : (x : Arg) (depth : ℕ) (ts rest : Tokens) → Spells (about_arg x).form depth ts rest → (about_arg x).good ≡ true → ArgBegun ts rest
arg_begins x depth ts rest s g = by x (arg_view x) s g
  where
    by : (x : Arg) → ArgView x → Spells (about_arg x).form depth ts rest → (about_arg x).good ≡ true → ArgBegun ts rest
    by _ (IsRegion l) t h = lifetime_begun l ts rest (lifetime_alone l depth ts rest (subst (λ (F : Facts). Spells F.form depth ts rest) (arg_region_is l) t))
    by _ (IsPlain x) t h =
        let u = subst (λ (F : Facts). Spells F.form depth ts rest) (arg_plain_is x) t in
        let k = subst (λ (F : Facts). F.good ≡ true) (arg_plain_is x) h in
        let b = type_begins x Bounds depth ts rest u k in
        let l = lead_of x (type_view x) in
        record { greater = lead_no_greater ts l b.lead; equals = lead_no_equals ts l b.lead; shift = type_no_shift x Bounds depth ts rest u k; less = b.less }
    by _ (IsConst value) t h =
        let u = subst (λ (F : Facts). Spells F.form depth ts rest) (arg_const_is value) t in
        let c = const_complete value depth ts rest u (subst (λ (F : Facts). F.good ≡ true) (arg_const_is value) h) in
        record { greater = c.greater; equals = c.equals; shift = no_begins 60 (codes "=") ts c.smaller; less = c.less }
    by _ (IsNamed n a c) t h =
        let behind : Form = Part (about_args a).kind.form (Part (about_constraint c).form Done) in
        let i = opened (leaf_of n.raw n.text behind) depth ts rest (subst (λ (F : Facts). Spells F.form depth ts rest) (arg_named_is n a c) t) in
        let l = leaf_parts n.raw n.text behind i.0 ts rest i.2 in
        record {
          greater = word_no_mark (codes ">") n.raw n.text ts l.0 l.1;
          equals = word_no_mark (codes "=") n.raw n.text ts l.0 l.1;
          shift = no_begins 60 (codes "=") ts (word_no_mark (codes "<") n.raw n.text ts l.0 l.1);
          less = omega (arith, one_shorter (word_kind n.raw) n.text ts l.0 l.1, shorter behind i.0 l.0 rest l.2);
        }

-- A `<` that arguments stand after opens them.
angle_opens : (xs : List Arg) (depth : ℕ) (ts rest : Tokens) → Spells (angle_form (map about_arg xs)) depth ts rest → all_good (map about_arg xs) ≡ true
    → opens_args ts ≡ true
angle_opens [] depth ts rest s g =
    let f = one_front Punct (codes ">") s.1.0 s.1.2.0 s.1.2.1 in opens_there ts s.1.0 s.1.1 (rw f.1 refl) (rw f.1 refl)
angle_opens (x ∷ xs) depth ts rest s g =
    let inside = s.1.0 in
    let row = s.1.2 in
    let b = arg_begins x depth inside row.0 row.1 (and_parts (about_arg x).good (all_good (map about_arg xs)) g).0 in
    opens_there ts inside (bit_alone less ts inside s.1.1) b.equals b.shift

word_no_args : (raw : Bool) (text : List ℕ) (ts rest : Tokens) → IsOne (word_kind raw) text ts rest → opens_args ts ≡ false
word_no_args raw text ts rest o =
    rw (word_no_op (codes "<") raw text ts rest o, word_no_op (codes "<<") raw text ts rest o, word_no_op (codes "<-") raw text ts rest o) refl

colons_no_args : (ts : Tokens) → is_op (codes "::") ts ≡ true → opens_args ts ≡ false
colons_no_args ts h =
    rw (other_op (codes "::") (codes "<") refl ts h, other_op (codes "::") (codes "<<") refl ts h, other_op (codes "::") (codes "<-") refl ts h) refl

-- What follows arguments that aren't the last of a path doesn't go on with them.
pub colons_clear : (style : PathStyle) (a : Args) (w : Word) (ts at mid : Tokens) → (about_args a).returns ≡ false → IsOperator (codes "::") ts at
    → IsOne (word_kind w.raw) w.text at mid → Clear (in_style style (about_args a)).refuses ts
colons_clear style a w ts at mid r o s = by style a (args_view a) r
  where
    late : opens_args_late ts ≡ false
    late = rw (o.0, o.1, word_no_args w.raw w.text at mid s) refl

    paren : first (opens Paren) ts ≡ false
    paren = op_test (is_opener Paren) (codes "::") ts o.0

    arrow : is_op (codes "->") ts ≡ false
    arrow = other_op (codes "::") (codes "->") refl ts o.0

    by : (style : PathStyle) (a : Args) → ArgsView a → (about_args a).returns ≡ false → Clear (in_style style (about_args a)).refuses ts
    by Code _ IsNone h = subst (λ (F : ArgsFacts). Clear F.code.refuses ts) (sym args_none_is) (rw late refl)
    by InKind _ IsNone h = subst (λ (F : ArgsFacts). Clear F.kind.refuses ts) (sym args_none_is) (rw (colons_no_args ts o.0, late, paren) refl)
    by Code _ (IsAngle xs) h = subst (λ (F : ArgsFacts). Clear F.code.refuses ts) (sym (args_angle_is xs)) refl
    by InKind _ (IsAngle xs) h = subst (λ (F : ArgsFacts). Clear F.kind.refuses ts) (sym (args_angle_is xs)) refl
    by Code _ (IsRound xs None) h = subst (λ (F : ArgsFacts). Clear F.code.refuses ts) (sym (args_round_is xs None)) (rw arrow refl)
    by InKind _ (IsRound xs None) h = subst (λ (F : ArgsFacts). Clear F.kind.refuses ts) (sym (args_round_is xs None)) (rw arrow refl)
    by style _ (IsRound xs (Some y)) h = let e = sym (ap (λ (F : ArgsFacts). F.returns) (args_round_is xs (Some y))) ∙ h in absurd (cc)

-- ---- what is read

module _ (depth : ℕ) (within : Within) (reads : Reads depth within) where
  abbrev pub Is : {A : Type 0} → (Tokens → Read A) → A → Tokens → Tokens → Type 0
  Is one x ts rest = IsRead depth one x ts rest

  pub quiet_read : (place : TypePlace) (x : Ty) (ts rest : Tokens) → Spells (about_type x).told.form depth ts rest
      → good_at place (about_type x) ≡ true → Quiet rest
      → Is (within.types place) x ts rest
  quiet_read place x ts rest s g q = reads.types place x ts rest s g (quiet_fits place (about_type x) rest q)

  -- ---- return types

  pub output_read : (y : Option Ty) (ts rest : Tokens) → Spells (output_form (option_map about_type y)) depth ts rest
      → output_good (option_map about_type y) ≡ true
      → Clear (output_refuses (option_map about_type y)) rest → Is (output within) y ts rest
  output_read None ts rest s g f =
      let arrow = not-true (is_op (codes "->") rest) (and_parts (not (is_op (codes "->") rest)) true f).0 in
      (0, omega arith, rw s (rw arrow refl))
  output_read (Some x) ts rest s g f =
      let o : IsOperator (codes "->") ts s.0 = before_blank (Operator (codes "->")) ts s.0 (behind_blank (Operator (codes "->") ∷ Blank ∷ []) ts s.0 s.1) in
      let r = reads.types NoBounds x s.0 rest (part_alone (about_type x).told.form depth s.0 rest s.2) g f in
      (r.0, r.1, rw (o.0, o.1, r.2) refl)

  -- ---- arguments

  pub arg_read : (x : Arg) (ts rest : Tokens) → Spells (about_arg x).form depth ts rest → (about_arg x).good ≡ true → Ends rest → Is (one_arg within) x ts rest
  unfolding one_arg
  arg_read x ts rest s g e = by x (arg_view x) s g
    where
      by : (x : Arg) → ArgView x → Spells (about_arg x).form depth ts rest → (about_arg x).good ≡ true → Is (one_arg within) x ts rest
      by _ (IsRegion l) t h =
          let r = lifetime_complete l ts rest (lifetime_alone l depth ts rest (subst (λ (F : Facts). Spells F.form depth ts rest) (arg_region_is l) t)) in
          (0, omega arith, rw (r.1, r.0) refl)
      by _ (IsPlain x) t h =
          let u = subst (λ (F : Facts). Spells F.form depth ts rest) (arg_plain_is x) t in
          let k = subst (λ (F : Facts). F.good ≡ true) (arg_plain_is x) h in
          let b = type_begins x Bounds depth ts rest u k in
          let l = lead_of x (type_view x) in
          let r = quiet_read Bounds x ts rest u k e.quiet in
          (r.0, r.1, rw (lead_no_lifetime ts l b.lead, lead_no_const ts l b.lead, r.2, e.equals, e.colon) refl)
      by _ (IsConst value) t h =
          let u = subst (λ (F : Facts). Spells F.form depth ts rest) (arg_const_is value) t in
          let c = const_complete value depth ts rest u (subst (λ (F : Facts). F.good ≡ true) (arg_const_is value) h) in
          (0, omega arith, rw (c.lifetime, c.begins, c.read) refl)
      by _ (IsNamed n a c) t h =
          let behind : Form = Part (about_args a).kind.form (Part (about_constraint c).form Done) in
          let i = opened (leaf_of n.raw n.text behind) depth ts rest (subst (λ (F : Facts). Spells F.form depth ts rest) (arg_named_is n a c) t) in
          let k = subst (λ (F : Facts). F.good ≡ true) (arg_named_is n a c) h in
          let k3 = and_parts (is_name n.raw n.text && not (about_args a).round && (about_args a).kind.good) (about_constraint c).good k in
          let k2 = and_parts (is_name n.raw n.text && not (about_args a).round) (about_args a).kind.good k3.0 in
          let k1 = and_parts (is_name n.raw n.text) (not (about_args a).round) k2.0 in
          let l = leaf_parts n.raw n.text behind i.0 ts rest i.2 in
          let p = l.2 in
          let mid = p.0 in
          let asked = part_alone (about_constraint c).form i.0 mid rest p.2 in
          let front = constraint_front c i.0 mid rest asked in
          let x : Ty = ty.Path (name_path n a) in
          let spelled = path_as_type (name_path n a) depth i.0 ts mid i.1 (name_path_spelled n a i.0 ts l.0 mid l.1 p.1) in
          let good = path_type_good Bounds (name_path n a) (name_path_good n a k1.0 k2.1) in
          let b = type_begins x Bounds depth ts mid spelled good in
          let lead = lead_of x (type_view x) in
          let r = quiet_read Bounds x ts mid spelled good front.1 in
          let q = reads.constraints c mid rest (deeper_from (about_constraint c).form depth i.0 mid rest i.1 asked) k3.1 e in
          let named = named_type_is n a k1.0 (not-true (about_args a).round k1.1) in
          (max r.0 q.0, omega (arith, r.1, q.1), rw (lead_no_lifetime ts lead b.lead, lead_no_const ts lead b.lead, r.2, front.0, named, q.2) refl)

  arg_starts : (x : Arg) (ts rest : Tokens) → Spells (about_arg x).form depth ts rest → (about_arg x).good ≡ true
      → (first (is_mark (codes ">")) ts ≡ false) × (length rest < length ts)
  arg_starts x ts rest s g = let b = arg_begins x depth ts rest s g in (b.greater, b.less)

  angle_read : (xs : List Arg) (ts rest : Tokens) → Spells (angle_form (map about_arg xs)) depth ts rest → all_good (map about_arg xs) ≡ true
      → Is (angle within) (args.Angle xs) ts rest
  unfolding angle
  angle_read xs ts rest s g =
      let spelled = subst (λ fs. Spells (comma_list true less greater fs) depth ts rest) (forms_of (λ (x : Facts). x.form) about_arg xs) s in
      let goods = sym (list_all-map (λ (x : Facts). x.good) about_arg xs) ∙ g in
      let l =
      list_read greater (is_mark (codes ">")) greater_closes (one_arg within) (λ x. (about_arg x).form) (λ x. (about_arg x).good) depth arg_read arg_starts
      less xs ts rest goods spelled in
      let there = mark_passed (codes "<") ts l.0 l.1 in
      let ys = l.2 in
      (deepest ys.0, ys.2, rw (there, ys.3, ys.1) refl)

  pub type_starts : (x : Ty) (ts rest : Tokens) → Spells (about_type x).told.form depth ts rest → good_at Bounds (about_type x) ≡ true
      → (first (closes Paren) ts ≡ false) × (length rest < length ts)
  type_starts x ts rest s g =
      let b = type_begins x Bounds depth ts rest s g in
      (lead_no_closer Paren ts (lead_of x (type_view x)) b.lead, b.less)

  abbrev pub TypesRead : List Ty → Tokens → Tokens → Type 0
  TypesRead xs ts rest = (ys : List (Ty × ℕ)) × (nodes ys ≡ xs) × (deepest ys ≤ depth) × (elements (closes Paren) (within.types Bounds) ts ≡ Some (ys, rest))

  pub types_goods : (xs : List Ty) → all_types_good (map about_type xs) ≡ true → list_all (λ x. good_at Bounds (about_type x)) xs ≡ true
  types_goods xs g = sym (list_all-map (good_at Bounds) about_type xs) ∙ g

  pub types_read : (o : Bit) (xs : List Ty) (ts rest : Tokens) → all_types_good (map about_type xs) ≡ true
      → Spells (comma_list true o (closer Paren) (type_forms (map about_type xs))) depth ts rest
      → (inside : Tokens) × IsBit o ts inside × TypesRead xs inside rest
  types_read o xs ts rest g s =
      list_read (closer Paren) (closes Paren) paren_closes (within.types Bounds) (λ x. (about_type x).told.form) (λ x. good_at Bounds (about_type x)) depth
      (λ x us end t h e. quiet_read Bounds x us end t h e.quiet) type_starts o xs ts rest (types_goods xs g)
      (subst (λ fs. Spells (comma_list true o (closer Paren) fs) depth ts rest) (forms_of (λ (x : TypeFacts). x.told.form) about_type xs) s)

  round_read : (xs : List Ty) (y : Option Ty) (ts rest : Tokens) → Spells (round_form (map about_type xs) (option_map about_type y)) depth ts rest
      → (all_types_good (map about_type xs) && output_good (option_map about_type y)) ≡ true → Clear (output_refuses (option_map about_type y)) rest
      → Is (round within) (args.Round xs y) ts rest
  unfolding round
  round_read xs y ts rest s g f =
      let goods = and_parts (all_types_good (map about_type xs)) (output_good (option_map about_type y)) g in
      let l = types_read (opener Paren) xs ts s.0 goods.0 s.1 in
      let o = output_read y s.0 rest s.2 goods.1 f in
      let there = opener_passed Paren ts l.0 l.1 in
      let ys = l.2 in
      (max (deepest ys.0) o.0, omega (arith, ys.2, o.1), rw (there, ys.3, o.2, ys.1) refl)

  pub args_read : (style : PathStyle) (a : Args) (ts rest : Tokens) → Spells (in_style style (about_args a)).form depth ts rest
      → (in_style style (about_args a)).good ≡ true → Clear (in_style style (about_args a)).refuses rest → Is (args_by within style) a ts rest
  unfolding args_by
  args_read style a ts rest s g f = by style a (args_view a) s g f
    where
      Wanted : PathStyle → Args → Type 0
      Wanted style a = Spells (in_style style (about_args a)).form depth ts rest → (in_style style (about_args a)).good ≡ true
          → Clear (in_style style (about_args a)).refuses rest → Is (args_by within style) a ts rest

      late_read : (xs : List Arg) (mid : Tokens) → IsOperator (codes "::") ts mid → Spells (angle_form (map about_arg xs)) depth mid rest
          → all_good (map about_arg xs) ≡ true
          → (opens_args_late ts ≡ true) × Is (λ us. angle within (drop 2 us)) (args.Angle xs) ts rest
      late_read xs mid o l h =
          let r = angle_read xs mid rest l h in
          (rw (o.0, o.1, angle_opens xs depth mid rest l h) refl, (r.0, r.1, rw o.1 r.2))

      by : (style : PathStyle) (a : Args) → ArgsView a → Wanted style a
      by Code _ IsNone t h k =
          let u = subst (λ (F : ArgsFacts). Spells F.code.form depth ts rest) args_none_is t in
          let c = subst (λ (F : ArgsFacts). Clear F.code.refuses rest) args_none_is k in
          let late = not-true (opens_args_late rest) (and_parts (not (opens_args_late rest)) true c).0 in
          (0, omega arith, rw u (rw late refl))
      by InKind _ IsNone t h k =
          let u = subst (λ (F : ArgsFacts). Spells F.kind.form depth ts rest) args_none_is t in
          let c = subst (λ (F : ArgsFacts). Clear F.kind.refuses rest) args_none_is k in
          let none = not-true (opens_args rest || (opens_args_late rest || first (opens Paren) rest))
          (and_parts (not (opens_args rest || (opens_args_late rest || first (opens Paren) rest))) true c).0 in
          let n1 = none_left (opens_args rest) _ none in
          let n2 = none_right (opens_args rest) _ none in
          let n3 = none_left (opens_args_late rest) _ n2 in
          let n4 = none_right (opens_args_late rest) _ n2 in
          (0, omega arith, rw u (rw (n1, n3, n4) refl))
      by Code _ (IsAngle xs) t h k =
          let u = subst (λ (F : ArgsFacts). Spells F.code.form depth ts rest) (args_angle_is xs) t in
          let r = late_read xs u.0 (bit_alone (Operator (codes "::")) ts u.0 u.1) u.2 (subst (λ (F : ArgsFacts). F.code.good ≡ true) (args_angle_is xs) h) in
          let n = r.1 in
          (n.0, n.1, rw r.0 n.2)
      by InKind _ (IsAngle xs) t h k =
          let u = subst (λ (F : ArgsFacts). Spells F.kind.form depth ts rest) (args_angle_is xs) t in
          let good = subst (λ (F : ArgsFacts). F.kind.good ≡ true) (args_angle_is xs) h in
          elim u.1 [
            | inl e ↦
                let l : Spells (angle_form (map about_arg xs)) depth ts rest = subst (λ us. Spells (angle_form (map about_arg xs)) depth us rest) (sym e) u.2 in
                let r = angle_read xs ts rest l good in
                (r.0, r.1, rw (angle_opens xs depth ts rest l good) r.2)
            | inr b ↦
                let o : IsOperator (codes "::") ts u.0 = bit_alone (Operator (codes "::")) ts u.0 b in
                let r = late_read xs u.0 o u.2 good in
                let n = r.1 in
                (n.0, n.1, rw (colons_no_args ts o.0, r.0) n.2)
          ]
      by Code _ (IsRound xs y) t h k = let e = sym (ap (λ (F : ArgsFacts). F.code.good) (args_round_is xs y)) ∙ h in absurd (cc)
      by InKind _ (IsRound xs y) t h k =
          let u = subst (λ (F : ArgsFacts). Spells F.kind.form depth ts rest) (args_round_is xs y) t in
          let good = subst (λ (F : ArgsFacts). F.kind.good ≡ true) (args_round_is xs y) h in
          let c = subst (λ (F : ArgsFacts). Clear F.kind.refuses rest) (args_round_is xs y) k in
          let r = round_read xs y ts rest u good c in
          let f = list_front (opener Paren) (closer Paren) (type_forms (map about_type xs)) depth ts u.0 u.1 in
          let n = paren_front ts f.0 f.1 in
          (r.0, r.1, rw (n.0, n.1, n.2) r.2)
        where
          paren_front : (us at : Tokens) → IsOne (Opener Paren) (opening Paren ∷ []) us at
              → (opens_args us ≡ false) × (opens_args_late us ≡ false) × (first (opens Paren) us ≡ true)
          paren_front us at o =
              let no : (op : List ℕ) → is_op op us ≡ false = λ op. one_no_op op (Opener Paren) (opening Paren ∷ []) us at refl o in
              (rw (no (codes "<"), no (codes "<<"), no (codes "<-")) refl, rw (no (codes "::")) refl, rw (one_front (Opener Paren) (opening Paren ∷ []) us at o).1 refl)
