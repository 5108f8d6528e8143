-- Generic arguments, paths and bounds: what is read stands there, where what is one level deeper is read so.
use Rattle.std.proofs.Common.{◌≡◌, ℕ, suc, ◌≤◌, max, Bool, true, false, not, ◌&&◌, ◌||◌, List, [], ◌∷◌, inl, inr, map, drop, codes, Option, option_map, Some, refl, sym, ap, subst, ◌∙◌, arith}
use Rattle.std.specs.List.{list_all}
use Rattle.std.proofs.lemmas.Bool.{and_parts, and_from}
use Rattle.std.proofs.lemmas.List.Folds.{list_all-map}
use Rattle.lay_piece.specs.declared.kind.Delim.TheVariants.{Paren}
use Rattle.lay_token.specs.Operators.{is_op}
use Rattle.lay_form.specs.Form.{Fixed, Operator, Form, Done, Piece, Part, keyword, opener, closer}
use Rattle.lay_form.specs.Notation.{piece, comma_list}
use Rattle.lay_form.specs.Spelled.{IsOperator, AreBits, MayBe, Spells}
use Rattle.lay_form.proofs.FormLaws.{deeper as raise}
use Rattle.lay_node.specs.Ahead.{Tokens, first, tail, is_keyword, is_mark, is_lifetime, opens, closes, opens_args, opens_args_late}
use Rattle.lay_node.specs.Follow.{may_follow}
use Rattle.lay_node.specs.Words.{is_name, is_path_word, colons, leaf_of}
use Rattle.lay_node.specs.nodes.Facts.{Facts, all_good}
use Rattle.lay_node.specs.nodes.Types as types
use Rattle.lay_node.specs.nodes.Types.{TypeFacts, ArgsFacts, good_at, all_types_good, type_forms, in_style, output_form, output_good, output_refuses, angle_form, round_form, args_facts, arg_facts, segment_form, segments_form, segment_good, segments_good, segments_refuse, of_form, of_good, start_facts, path_facts, ty_facts, less, greater, about_type, about_path, about_start, about_args, about_arg, about_constraint, starts_plain}
use Rattle.lay_node.specs.reader.Exact.{InText}
use Rattle.lay_node.specs.reader.Loops.{passed, nodes, deepest, elements}
use Rattle.lay_node.specs.reader.Types.{Within, operator, if_read, lifetime, chain, angled, begins_const, const, path_in, as_path, as_name, named_segments, named_type, begins_constraint, arg_by, one_arg, angle, output, round, args_by, segment, trait_path, qualified, path_start, returns_last, path}
use Rattle.lay_node.specs.reader.Words.{word}
use Rattle.lay_node.specs.declared.token.Name.{Name}
use Rattle.lay_node.specs.declared.token.Word.{Word}
use Rattle.lay_node.specs.declared.types.Arg.{Arg}
use Rattle.lay_node.specs.declared.types.Arg.TheOpen.{Arg-F, Args-F, PathStart-F, Ty-F}
use Rattle.lay_node.specs.declared.types.Arg.TheVariants as arg
use Rattle.lay_node.specs.declared.types.Arg.TheViews as views
use Rattle.lay_node.specs.declared.types.Args.{Args}
use Rattle.lay_node.specs.declared.types.Args.TheVariants as args
use Rattle.lay_node.specs.declared.types.Bound.{Bound}
use Rattle.lay_node.specs.declared.types.Constraint.{Constraint}
use Rattle.lay_node.specs.declared.types.FuncParam.{FuncParam}
use Rattle.lay_node.specs.declared.types.Path.{Path}
use Rattle.lay_node.specs.declared.types.PathStart.{PathStart}
use Rattle.lay_node.specs.declared.types.PathStart.TheVariants as start
use Rattle.lay_node.specs.declared.types.PathStyle.{PathStyle}
use Rattle.lay_node.specs.declared.types.PathStyle.TheVariants.{Code, Kind}
use Rattle.lay_node.specs.declared.types.Ty.{Ty}
use Rattle.lay_node.specs.declared.types.Ty.TheVariants as ty
use Rattle.lay_node.specs.declared.types.TypePlace.TheVariants.{Bounds, NoBounds}
use Rattle.lay_node.proofs.Fronts.{keyword_one, closes_one, mark_passed_is, opener_passed_is}
use Rattle.lay_node.proofs.Parts.{Rows, part_alone, word_kind, leaf_spelled, leaf_parts}
use Rattle.lay_node.proofs.Steps.{or_else, got_same, same_some, chosen, bind_some}
use Rattle.lay_node.proofs.nodes.TypesLaws.{about_segment, type_path_is, start_local_is, start_global_is, start_qualified_is, args_none_is, args_angle_is, args_round_is, arg_region_is, arg_plain_is, arg_const_is, arg_named_is, path_is}
use Rattle.lay_node.proofs.reader.Exact.{Stands}
use Rattle.lay_node.proofs.reader.Loops.{SoundStep}
use Rattle.lay_node.proofs.reader.TypesSoundNeeds.{Held, held, forms_of, goods_of, listed, both_deeper, deeper_then}
use Rattle.lay_node.proofs.reader.TypesSoundParts.{Out, bit_texts, operator_is, if_read_sound, BehindOp, Chain, chain_sound, Shuts, lifetime_sound, greater_shuts, const_sound}
use Rattle.lay_node.proofs.reader.TypesSoundLevel.{TypeHeld, asked, SoundWithin, type_told, bounds_refused, lone_good}
use Rattle.lay_node.proofs.reader.Words.{word_sound}

-- ---- which path a type is

pub path_layer : (layer : Ty-F Arg Args Bound Constraint PathStart Ty FuncParam Path) (p : Path)
    → path_in layer ≡ Some p → layer ≡ Ty-F.Path p
path_layer (Ty-F.Path q) p h =
    ap (λ (z : Path). let one : Ty-F Arg Args Bound Constraint PathStart Ty FuncParam Path = Ty-F.Path z in one)
    (ap (or_else q) h)
path_layer _ p h = absurd (cc)

pub as_path_is : (x : Ty) (p : Path) → as_path x ≡ Some p → x ≡ ty.Path p
as_path_is x p h = sym (views.roll-out-Ty x) ∙ ap views.roll-Ty (path_layer (views.out-Ty x) p h) ∙ views.rolls-Path p

local_layer : (layer : PathStart-F Arg Args Bound Constraint PathStart Ty FuncParam Path) → starts_plain layer ≡ true
    → layer ≡ PathStart-F.Local
local_layer PathStart-F.Local h = refl
local_layer _ h = absurd (cc)

pub local_is : (s : PathStart) → starts_plain (views.out-PathStart s) ≡ true → s ≡ start.Local
local_is s h =
    sym (views.roll-out-PathStart s) ∙ ap views.roll-PathStart (local_layer (views.out-PathStart s) h)
    ∙ views.rolls-Local

-- ---- a name among arguments, which is read as a type first

abbrev name_of : Word → Name
name_of w = record { raw = w.raw; text = w.text }

-- the facts about a type that is one word with arguments
abbrev one_segment : Word → ArgsFacts → TypeFacts
one_segment w a =
    ty_facts (Ty-F.Path (path_facts (record { start = start_facts PathStart-F.Local; segments = (w, a) ∷ [] })))

record NamedIs (y : Ty) (n : Name) (a : Args) : Type 0 where
  word : Word
  told : about_type y ≡ one_segment word (about_args a)
  same : name_of word ≡ n
  good : is_name word.raw word.text ≡ true
  plain : (about_args a).round ≡ false

record LoneIs (ss : List (Word × Args)) (n : Name) (a : Args) : Type 0 where
  word : Word
  whole : ss ≡ (word, a) ∷ []
  same : name_of word ≡ n
  good : is_name word.raw word.text ≡ true
  plain : (about_args a).round ≡ false

lone_is : (ss : List (Word × Args)) (n : Name) (a : Args) → named_segments ss ≡ Some (n, a) → LoneIs ss n a
lone_is [] n a h = absurd (cc)
lone_is (s ∷ []) n a h = elim (chosen (about_args s.1).round _ _ _ h) [
  | inl g ↦ absurd (cc g.1)
  | inr g ↦
      let b = bind_some (as_name s.0) _ _ g.1 in
      let e = got_same {A = Name} {B = Args} b.0 n s.1 a b.2 in
      elim (chosen (is_name s.0.raw s.0.text) _ _ _ b.1) [
        | inl f ↦
            record {
              word = s.0;
              whole = ap (λ (z : Args). let one : List (Word × Args) = (s.0, z) ∷ [] in one) e.1;
              same = ap (or_else (name_of s.0)) f.1 ∙ e.0;
              good = f.0;
              plain = subst (λ z. (about_args z).round ≡ false) e.1 g.0;
            }
        | inr f ↦ absurd (cc f.1)
      ]
]
lone_is (s ∷ t ∷ more) n a h = absurd (cc)

named_is : (y : Ty) (n : Name) (a : Args) → named_type y ≡ Some (n, a) → NamedIs y n a
named_is y n a h =
    let p = bind_some (as_path y) _ _ h in
    elim (chosen (starts_plain (views.out-PathStart p.0.start)) _ _ _ p.2) [
      | inl g ↦
          let l = lone_is p.0.segments n a g.1 in
          let starts : about_start p.0.start ≡ start_facts PathStart-F.Local =
          ap about_start (local_is p.0.start g.0) ∙ start_local_is in
          let told : about_path p.0 ≡ path_facts (record {
            start = start_facts PathStart-F.Local;
            segments = (
              l.word,
              about_args a,
            ) ∷ [];
          }) =
          path_is p.0
          ∙ ap (λ (z : Facts). path_facts (record { start = z; segments = map about_segment p.0.segments })) starts
          ∙ ap (λ (z : List (Word × Args)). path_facts
          (record { start = start_facts PathStart-F.Local; segments = map about_segment z })) l.whole in
          record {
            word = l.word;
            told =
                ap about_type (as_path_is y p.0 p.1) ∙ type_path_is p.0 ∙ ap
                (λ (z : types.PathFacts). ty_facts (Ty-F.Path z)) told;
            same = l.same;
            good = l.good;
            plain = l.plain;
          }
      | inr g ↦ absurd (cc g.1)
    ]

named_held : (budget : ℕ) (ts : Tokens) (y : Ty × ℕ) (mid rest : Tokens) (n : Name) (a : Args) (c : Constraint × ℕ)
    → TypeHeld Bounds budget y ts mid
    → NamedIs y.0 n a → Held asked budget c mid rest → Held about_arg budget (arg.Named n a c.0, max y.1 c.1) ts rest
named_held budget ts y mid rest n a c s i k =
    let w = i.word in
    let A = about_args a in
    let K = about_constraint c.0 in
    let most = max y.1 c.1 in
    let inner : Form = Part A.kind.form Done in
    let lone : Form = Part Done (leaf_of w.raw w.text inner) in
    let behind : Form = Part A.kind.form (Part K.form Done) in
    let f = type_told Bounds budget (about_type y.0) (one_segment w A) y.1 ts mid i.told s in
    let p = raise (types.deeper lone) y.1 most ts mid (omega arith) f.1 in
    let q = raise (types.deeper K.form) c.1 most mid rest (omega arith) k.1.0 in
    let b = both_deeper lone K.form most ts mid rest p q in
    let one : Spells (leaf_of w.raw w.text inner) b.0 ts mid =
    subst (λ us. Spells (leaf_of w.raw w.text inner) b.0 us mid) (sym b.2.1) b.2.2 in
    let leaf = leaf_parts w.raw w.text inner b.0 ts mid one in
    let form : Spells (types.deeper (leaf_of w.raw w.text behind)) (suc b.0) ts rest = (
      rest,
      leaf_spelled w.raw w.text behind b.0 ts leaf.0 rest leaf.1
          (mid, part_alone A.kind.form b.0 leaf.0 mid leaf.2, (rest, b.3, refl)),
      refl,
    ) in
    let named = and_from (is_name w.raw w.text) (not A.round) i.good (ap not i.plain) in
    let given = and_from (is_name w.raw w.text && not A.round) A.kind.good named
    (and_parts (is_path_word w.raw w.text) A.kind.good f.2).1 in
    let good = and_from (is_name w.raw w.text && not A.round && A.kind.good) K.good given k.1.1 in
    let there : Stands (arg_facts (Arg-F.Named (name_of w) A K)) most ts rest =
    (subst (λ m. Spells (types.deeper (leaf_of w.raw w.text behind)) m ts rest) (sym b.1) form, good, k.1.2) in
    let le : most ≤ budget = omega (arith, s.0, k.0) in
    subst (λ (m : Name). Held about_arg budget (arg.Named m a c.0, most) ts rest) i.same
    (held (about_arg (arg.Named (name_of w) a c.0)) (arg_facts (Arg-F.Named (name_of w) A K)) budget most ts rest
    (arg_named_is (name_of w) a c.0) le there)

pub paren_shuts : Shuts (closes Paren) (closer Paren)
paren_shuts ts t h = closes_one Paren ts t h

-- What is left out may not begin.
none_of : (a b c : Bool) → a ≡ false → b ≡ false → c ≡ false → (not (a || (b || c)) && true) ≡ true
none_of a b c x y z = rw (x, y, z) refl

no_one : (a : Bool) → a ≡ false → (not a && true) ≡ true
no_one a x = rw x refl

abbrev pub output_told : Option Ty → Facts
output_told o = record {
  form = output_form (option_map about_type o);
  good = output_good (option_map about_type o);
  refuses = output_refuses (option_map about_type o);
}

-- the facts about a segment by itself
abbrev pub segment_told : PathStyle → Word × Args → Facts
segment_told style s = record {
  form = segment_form style (about_segment s) Done;
  good = segment_good style (about_segment s);
  refuses = (in_style style (about_args s.1)).refuses;
}

abbrev pub args_told : PathStyle → Args → Facts
args_told style a = in_style style (about_args a)

abbrev pub path_told : PathStyle → Path → Facts
path_told style p = about_path p style

pub type_list : (xs : List Ty) → (type_forms (map about_type xs) ≡ map (λ x. (about_type x).told.form) xs)
    × (all_types_good (map about_type xs) ≡ list_all (λ x. good_at Bounds (about_type x)) xs)
type_list xs = (forms_are xs, list_all-map (good_at Bounds) about_type xs)
  where
    forms_are : (xs : List Ty) → type_forms (map about_type xs) ≡ map (λ x. (about_type x).told.form) xs
    forms_are [] = refl
    forms_are (x ∷ xs) = ap (λ fs. (about_type x).told.form ∷ fs) (forms_are xs)

module _ (budget : ℕ) (within : Within) (sound : SoundWithin budget within) where
  -- ---- arguments

  arg_by_sound : (ts : Tokens) (y : Ty × ℕ) (mid : Tokens) → TypeHeld Bounds budget y ts mid → InText mid
      → (x : Arg × ℕ) (rest : Tokens)
      → arg_by within y mid ≡ Some (x, rest) → Out (Held about_arg budget) ts (x, rest)
  arg_by_sound ts y mid s t x rest h = elim (chosen (begins_constraint mid) _ _ _ h) [
    | inl g ↦
        let n = bind_some (named_type y.0) _ _ g.1 in
        let c = bind_some (within.constraints mid) _ _ n.2 in
        let k = sound.constraints mid c.0.0 c.0.1 t c.1 in
        same_some (Out (Held about_arg budget) ts) ((arg.Named n.0.0 n.0.1 c.0.0.0, max y.1 c.0.0.1), c.0.1) (x, rest)
        c.2
        (named_held budget ts y mid c.0.1 n.0.0 n.0.1 c.0.0 s (named_is y.0 n.0.0 n.0.1 n.1) k.0, k.1)
    | inr g ↦
        same_some (Out (Held about_arg budget) ts) ((arg.Plain y.0, y.1), mid) (x, rest) g.1 (
          held (about_arg (arg.Plain y.0)) (arg_facts (Arg-F.Plain (about_type y.0))) budget y.1 ts mid
              (arg_plain_is y.0) s.0
              (s.1, s.2, bounds_refused (about_type y.0) mid s.3),
          t,
        )
  ]

  arg_sound : SoundStep (one_arg within) (Held about_arg budget)
  unfolding one_arg
  arg_sound ts x rest t h = elim (chosen (first is_lifetime ts) _ _ _ h) [
    | inl g ↦
        let b = bind_some (lifetime ts) _ _ g.1 in
        let s = lifetime_sound ts b.0.0 b.0.1 t b.1 in
        let there : Stands (arg_facts (Arg-F.Region b.0.0)) 0 ts b.0.1 = ((b.0.1, s.0, refl), refl, refl) in
        same_some (Out (Held about_arg budget) ts) ((arg.Region b.0.0, 0), b.0.1) (x, rest) b.2 (
          held (about_arg (arg.Region b.0.0)) (arg_facts (Arg-F.Region b.0.0)) budget 0 ts b.0.1 (arg_region_is b.0.0)
              (omega arith) there,
          s.1,
        )
    | inr g ↦ elim (chosen (begins_const ts) _ _ _ g.1) [
      | inl c ↦
          let b = bind_some (const ts) _ _ c.1 in
          let s = const_sound ts b.0.0 b.0.1 t b.1 in
          let there : Stands (arg_facts (Arg-F.Const b.0.0)) 0 ts b.0.1 = (s.0.0, s.0.1, refl) in
          same_some (Out (Held about_arg budget) ts) ((arg.Const b.0.0, 0), b.0.1) (x, rest) b.2 (
            held (about_arg (arg.Const b.0.0)) (arg_facts (Arg-F.Const b.0.0)) budget 0 ts b.0.1 (arg_const_is b.0.0)
                (omega arith) there,
            s.1,
          )
      | inr c ↦
          let y = bind_some (within.types Bounds ts) _ _ c.1 in
          let s = sound.types Bounds ts y.0.0 y.0.1 t y.1 in
          arg_by_sound ts y.0.0 y.0.1 s.0 s.1 x rest y.2
    ]
  ]

  -- Arguments in `<` and `>` are spelled, at their greatest need, and well formed.
  pub angled_sound : (ts : Tokens) (xs : List (Arg × ℕ)) (rest : Tokens) → InText ts
      → angled (one_arg within) ts ≡ Some (xs, rest)
      → (deepest xs ≤ budget) × Spells (angle_form (map about_arg (nodes xs))) (deepest xs) ts rest
      × (all_good (map about_arg (nodes xs)) ≡ true) × InText rest
  angled_sound ts xs rest t h =
      let o = bind_some (passed (is_mark (codes "<")) ts) _ _ h in
      let mark = mark_passed_is (codes "<") ts o.0 o.1 in
      let l = listed budget (λ y. (about_arg y).form) (λ y. (about_arg y).good) (Held about_arg budget)
      (λ y us mid s. (s.0, s.1.0, s.1.1))
      (is_mark (codes ">")) less greater greater_shuts (one_arg within) arg_sound ts o.0 xs rest mark
      (bit_texts less ts o.0 mark t) o.2 in
      let ys = nodes xs in
      let list : Spells (angle_form (map about_arg ys)) (deepest xs) ts rest =
      subst (λ fs. Spells (comma_list true less greater fs) (deepest xs) ts rest) (sym (forms_of about_arg ys)) l.1 in
      (l.0, list, goods_of about_arg ys ∙ l.2, l.3)

  abbrev IsAngle : Args × ℕ → Tokens → Tokens → Type 0
  IsAngle x ts rest =
      (xs : List Arg) × (x.0 ≡ args.Angle xs) × (x.1 ≤ budget) × Spells (angle_form (map about_arg xs)) x.1 ts rest
      × (all_good (map about_arg xs) ≡ true)

  angle_sound : SoundStep (angle within) IsAngle
  unfolding angle
  angle_sound ts x rest t h =
      let xs = bind_some (angled (one_arg within) ts) _ _ h in
      let l = angled_sound ts xs.0.0 xs.0.1 t xs.1 in
      same_some (Out IsAngle ts) ((args.Angle (nodes xs.0.0), deepest xs.0.0), xs.0.1) (x, rest) xs.2
      ((nodes xs.0.0, refl, l.0, l.1, l.2), l.3)

  abbrev ColonsBefore : PathStyle → Tokens → Tokens → Type 0
  ColonsBefore Code ts at = AreBits colons ts at
  ColonsBefore Kind ts at = MayBe colons ts at

  angle_held : (style : PathStyle) (x : Args × ℕ) (ts at rest : Tokens) → ColonsBefore style ts at → IsAngle x at rest
      → Held (args_told style) budget x ts rest
  angle_held Code x ts at rest c i =
      let there : Stands (args_facts (Args-F.Angle (map about_arg i.0))).code x.1 ts rest = ((at, c, i.3), i.4, refl) in
      held (args_told Code x.0) (args_facts (Args-F.Angle (map about_arg i.0))).code budget x.1 ts rest
      (ap (args_told Code) i.1 ∙ ap (in_style Code) (args_angle_is i.0)) i.2 there
  angle_held Kind x ts at rest c i =
      let there : Stands (args_facts (Args-F.Angle (map about_arg i.0))).kind x.1 ts rest = ((at, c, i.3), i.4, refl) in
      held (args_told Kind x.0) (args_facts (Args-F.Angle (map about_arg i.0))).kind budget x.1 ts rest
      (ap (args_told Kind) i.1 ∙ ap (in_style Kind) (args_angle_is i.0)) i.2 there

  -- a return type
  pub output_sound : SoundStep (output within) (Held output_told budget)
  output_sound ts x rest t h =
      if_read_sound (Held output_told budget) (λ us. within.types NoBounds (drop 2 us)) (is_op (codes "->") ts) ts
      (λ g y mid e.
      let o : IsOperator (codes "->") ts (drop 2 ts) = (g, refl) in
      let s = sound.types NoBounds (drop 2 ts) y mid (bit_texts (Operator (codes "->")) ts (drop 2 ts) o t) e in (
        (s.0.0, ((drop 2 ts, (ts, refl, (drop 2 ts, o, (drop 2 ts, refl, refl))), (mid, s.0.1, refl)), s.0.2, s.0.3)),
        s.1,
      ))
      (λ g. (omega arith, (refl, refl, no_one (is_op (codes "->") ts) g))) t x rest h

  abbrev IsRound : Args × ℕ → Tokens → Tokens → Type 0
  IsRound x ts rest = Held (args_told Kind) budget x ts rest

  round_sound : SoundStep (round within) IsRound
  unfolding round
  round_sound ts x rest t h =
      let o = bind_some (passed (opens Paren) ts) _ _ h in
      let xs = bind_some (elements (closes Paren) (within.types Bounds) o.0) _ _ o.2 in
      let y = bind_some (output within xs.0.1) _ _ xs.2 in
      let paren = opener_passed_is Paren ts o.0 t o.1 in
      let l = listed budget (λ z. (about_type z).told.form) (λ z. good_at Bounds (about_type z))
      (TypeHeld Bounds budget) (λ z us mid s. (s.0, s.1, s.2))
      (closes Paren) (opener Paren) (closer Paren) paren_shuts (within.types Bounds) (sound.types Bounds)
      ts o.0 xs.0.0 xs.0.1 paren
      (bit_texts (opener Paren) ts o.0 paren t) xs.1 in
      let s = output_sound xs.0.1 y.0.0 y.0.1 l.3 y.1 in
      let inputs = nodes xs.0.0 in
      let out = y.0.0.0 in
      let most = max (deepest xs.0.0) y.0.0.1 in
      let told = type_list inputs in
      let list : Spells (comma_list true (opener Paren) (closer Paren) (type_forms (map about_type inputs)))
      (deepest xs.0.0) ts xs.0.1 =
      subst (λ fs. Spells (comma_list true (opener Paren) (closer Paren) fs) (deepest xs.0.0) ts xs.0.1) (sym told.0)
      l.1 in
      let form : Spells (round_form (map about_type inputs) (option_map about_type out)) most ts y.0.1 = (
        xs.0.1,
        raise (comma_list true (opener Paren) (closer Paren) (type_forms (map about_type inputs))) (deepest xs.0.0)
            most ts xs.0.1 (omega arith) list,
        raise (output_form (option_map about_type out)) y.0.0.1 most xs.0.1 y.0.1 (omega arith) s.0.1.0,
      ) in
      let good = and_from (all_types_good (map about_type inputs)) (output_good (option_map about_type out))
      (told.1 ∙ l.2) s.0.1.1 in
      let there : Stands (args_facts (Args-F.Round (map about_type inputs)
      (option_map about_type out))).kind most ts y.0.1 = (form, good, s.0.1.2) in
      same_some (Out IsRound ts) ((args.Round inputs out, most), y.0.1) (x, rest) y.2 (
        held (args_told Kind (args.Round inputs out))
            (args_facts (Args-F.Round (map about_type inputs) (option_map about_type out))).kind budget most ts y.0.1
            (ap (in_style Kind) (args_round_is inputs out)) (omega (arith, l.0, s.0.0)) there,
        s.1,
      )

  pub args_sound : (style : PathStyle) → SoundStep (args_by within style) (Held (args_told style) budget)
  unfolding args_by
  args_sound Code ts x rest t h = elim (chosen (opens_args_late ts) _ _ _ h) [
    | inl g ↦
        let o : IsOperator (codes "::") ts (drop 2 ts) =
        ((and_parts (is_op (codes "::") ts) (opens_args (drop 2 ts)) g.0).0, refl) in
        let s = angle_sound (drop 2 ts) x rest (bit_texts (Operator (codes "::")) ts (drop 2 ts) o t) g.1 in
        (angle_held Code x ts (drop 2 ts) rest (drop 2 ts, o, refl) s.0, s.1)
    | inr g ↦
        let there : Stands (args_facts Args-F.None).code 0 ts ts = (refl, refl, no_one (opens_args_late ts) g.0) in
        same_some (Out (Held (args_told Code) budget) ts) ((args.None, 0), ts) (x, rest) g.1 (
          held (args_told Code args.None) (args_facts Args-F.None).code budget 0 ts ts (ap (in_style Code) args_none_is)
              (omega arith) there,
          t,
        )
  ]
  args_sound Kind ts x rest t h = elim (chosen (opens_args ts) _ _ _ h) [
    | inl g ↦ let s = angle_sound ts x rest t g.1 in (angle_held Kind x ts ts rest (inl refl) s.0, s.1)
    | inr g ↦ elim (chosen (opens_args_late ts) _ _ _ g.1) [
      | inl f ↦
          let o : IsOperator (codes "::") ts (drop 2 ts) =
          ((and_parts (is_op (codes "::") ts) (opens_args (drop 2 ts)) f.0).0, refl) in
          let s = angle_sound (drop 2 ts) x rest (bit_texts (Operator (codes "::")) ts (drop 2 ts) o t) f.1 in
          (angle_held Kind x ts (drop 2 ts) rest (inr (drop 2 ts, o, refl)) s.0, s.1)
      | inr f ↦ elim (chosen (first (opens Paren) ts) _ _ _ f.1) [
        | inl e ↦ round_sound ts x rest t e.1
        | inr e ↦
            let there : Stands (args_facts Args-F.None).kind 0 ts ts =
            (refl, refl, none_of (opens_args ts) (opens_args_late ts) (first (opens Paren) ts) g.0 f.0 e.0) in
            same_some (Out (Held (args_told Kind) budget) ts) ((args.None, 0), ts) (x, rest) e.1 (
              held (args_told Kind args.None) (args_facts Args-F.None).kind budget 0 ts ts
                  (ap (in_style Kind) args_none_is) (omega arith) there,
              t,
            )
      ]
    ]
  ]

  -- ---- paths

  segment_sound : (style : PathStyle) → SoundStep (segment within style) (Held (segment_told style) budget)
  unfolding segment
  segment_sound style ts x rest t h =
      let w = bind_some (word ts) _ _ h in
      let a = bind_some (args_by within style w.0.1) _ _ w.2 in
      let o = word_sound ts w.0.0 w.0.1 w.1 in
      let s = args_sound style w.0.1 a.0.0 a.0.1 (bit_texts (Fixed (word_kind w.0.0.raw) w.0.0.text) ts w.0.1 o.0 t)
      a.1 in
      let inner : Form = Part (args_told style a.0.0.0).form Done in
      same_some (Out (Held (segment_told style) budget) ts) (((w.0.0, a.0.0.0), a.0.0.1), a.0.1) (x, rest) a.2 (
        (
          s.0.0,
          (
            leaf_spelled w.0.0.raw w.0.0.text inner a.0.0.1 ts w.0.1 a.0.1 o.0 (a.0.1, s.0.1.0, refl),
            and_from (is_path_word w.0.0.raw w.0.0.text) (args_told style a.0.0.0).good o.1 s.0.1.1,
            s.0.1.2,
          ),
        ),
        s.1,
      )

  -- segments, as they stand in a path
  abbrev AreSegments : PathStyle → ℕ → List ((Word × Args) × ℕ) → Tokens → Tokens → Type 0
  AreSegments style most ss ts rest =
      (deepest ss ≤ budget) × Spells (segments_form style (map about_segment (nodes ss))) most ts rest
      × (segments_good style (map about_segment (nodes ss)) ≡ true)
      × (may_follow (segments_refuse style (map about_segment (nodes ss))) rest ≡ true)

  segments_held : (style : PathStyle) (most : ℕ) (s : (Word × Args) × ℕ) (ss : List ((Word × Args) × ℕ))
      (ts at rest : Tokens) → deepest (s ∷ ss) ≤ most
      → Held (segment_told style) budget s ts at
      → Rows (BehindOp (codes "::") (Held (segment_told style) budget)) ss at rest
      → returns_last (nodes (s ∷ ss)) ≡ true → AreSegments style most (s ∷ ss) ts rest
  segments_held style most s [] ts at rest le k r g =
      let one = raise (segment_told style s.0).form s.1 most ts at (omega (arith, le)) k.1.0 in (
        omega (arith, k.0),
        subst (λ us. Spells (segment_told style s.0).form most ts us) r one,
        k.1.1,
        subst (λ us. may_follow (segment_told style s.0).refuses us ≡ true) r k.1.2,
      )
  segments_held style most s (n ∷ ss) ts at rest le k r g =
      let row = r.1 in
      let w = s.0.0 in
      let A = args_told style s.0.1 in
      let returns = (about_args s.0.1).returns in
      let last = and_parts (not returns) (returns_last (nodes (n ∷ ss))) g in
      let more = segments_held style most n ss row.0 r.0 rest (omega (arith, le)) row.2 r.2 last.1 in
      let others = map about_segment (nodes (n ∷ ss)) in
      let behind : Form = Piece colons (segments_form style others) in
      let one = raise (segment_told style s.0).form s.1 most ts at (omega (arith, le)) k.1.0 in
      let leaf = leaf_parts w.raw w.text (Part A.form Done) most ts at one in
      let form = leaf_spelled w.raw w.text (Part A.form behind) most ts leaf.0 rest leaf.1
      (at, part_alone A.form most leaf.0 at leaf.2, (row.0, (row.0, row.1, refl), more.1)) in
      let good = and_from (segment_good style (about_segment s.0) && not returns) (segments_good style others)
      (and_from (segment_good style (about_segment s.0)) (not returns) k.1.1 last.0) more.2 in
      (omega (arith, k.0, more.0), form, good, more.3)

  chain_held : (style : PathStyle) (most : ℕ) (ss : List ((Word × Args) × ℕ)) (ts rest : Tokens) → deepest ss ≤ most
      → Chain (codes "::") (Held (segment_told style) budget) ss ts rest → returns_last (nodes ss) ≡ true
      → AreSegments style most ss ts rest
  chain_held style most [] ts rest le c g = absurd c
  chain_held style most (s ∷ ss) ts rest le c g = segments_held style most s ss ts c.0 rest le c.1 c.2 g

  -- the trait after `as`, which is read as a type that is a path
  abbrev IsTrait : Path × ℕ → Tokens → Tokens → Type 0
  IsTrait x ts rest =
      (x.1 ≤ budget) × Spells (types.deeper (path_told Kind x.0).form) x.1 ts rest × ((path_told Kind x.0).good ≡ true)

  trait_sound : SoundStep (trait_path within) IsTrait
  trait_sound ts x rest t h =
      let y = bind_some (within.types NoBounds ts) _ _ h in
      let p = bind_some (as_path y.0.0.0) _ _ y.2 in
      let s = sound.types NoBounds ts y.0.0 y.0.1 t y.1 in
      let told : about_type y.0.0.0 ≡ ty_facts (Ty-F.Path (about_path p.0)) =
      ap about_type (as_path_is y.0.0.0 p.0 p.1) ∙ type_path_is p.0 in
      let f = type_told NoBounds budget (about_type y.0.0.0) (ty_facts (Ty-F.Path (about_path p.0)))
      y.0.0.1 ts y.0.1 told s.0 in
      same_some (Out IsTrait ts) ((p.0, y.0.0.1), y.0.1) (x, rest) p.2
      ((f.0, f.1, lone_good (ty_facts (Ty-F.Path (about_path p.0))) f.2), s.1)

  -- the trait, before whatever follows it at the depth
  abbrev IsOf : Option Path × ℕ → Tokens → Tokens → Type 0
  IsOf x ts rest = (x.1 ≤ budget) × (of_good (option_map about_path x.0) ≡ true)
      × ((f : Form) (n : ℕ) (end : Tokens) → x.1 ≤ n → Spells f n rest end
      → Spells (of_form (option_map about_path x.0) f) n ts end)

  of_sound : (ts : Tokens) (x : Option Path × ℕ) (rest : Tokens) → InText ts
      → if_read (first (is_keyword (codes "as")) ts) (λ us. trait_path within (tail us)) ts ≡ Some (x, rest)
      → Out IsOf ts (x, rest)
  of_sound ts x rest t h =
      if_read_sound IsOf (λ us. trait_path within (tail us)) (first (is_keyword (codes "as")) ts) ts
      (λ g y mid e.
      let k = keyword_one (codes "as") ts g in
      let s = trait_sound (tail ts) y mid (bit_texts (keyword (codes "as")) ts (tail ts) k t) e in (
        (
          s.0.0,
          s.0.2,
          λ f n end le r. (
            tail ts,
            (ts, refl, (tail ts, k, (tail ts, refl, refl))),
            deeper_then (path_told Kind y.0).form f n (tail ts) mid end
                (raise (types.deeper (path_told Kind y.0).form) y.1 n (tail ts) mid le s.0.1) r,
          ),
        ),
        s.1,
      ))
      (λ g. (omega arith, refl, λ f n end le r. r)) t x rest h

  qualified_sound : SoundStep (qualified within) (Held about_start budget)
  unfolding qualified
  qualified_sound ts x rest t h =
      let o = bind_some (passed (is_mark (codes "<")) ts) _ _ h in
      let y = bind_some (within.types Bounds o.0) _ _ o.2 in
      let p = bind_some (if_read (first (is_keyword (codes "as")) y.0.1) (λ us. trait_path within (tail us)) y.0.1)
      _ _ y.2 in
      let c = bind_some (passed (is_mark (codes ">")) p.0.1) _ _ p.2 in
      let d = bind_some (operator (codes "::") c.0) _ _ c.2 in
      let mark = mark_passed_is (codes "<") ts o.0 o.1 in
      let s = sound.types Bounds o.0 y.0.0 y.0.1 (bit_texts less ts o.0 mark t) y.1 in
      let f = of_sound y.0.1 p.0.0 p.0.1 s.1 p.1 in
      let shut = mark_passed_is (codes ">") p.0.1 c.0 c.1 in
      let colon = operator_is (codes "::") c.0 d.0 d.1 in
      let left = bit_texts (Operator (codes "::")) c.0 d.0 colon (bit_texts greater p.0.1 c.0 shut f.1) in
      let inner = y.0.0.0 in
      let of = p.0.0.0 in
      let most = max y.0.0.1 p.0.0.1 in
      let told = start_facts (PathStart-F.Qualified (about_type inner) (option_map about_path of)) in
      let end : Spells (piece (greater ∷ colons)) most p.0.1 d.0 = (d.0, (c.0, shut, (d.0, colon, refl)), refl) in
      let there : Stands told most ts d.0 = (
        (
          o.0,
          (o.0, mark, refl),
          (
            y.0.1,
            raise (about_type inner).told.form y.0.0.1 most o.0 y.0.1 (omega arith) s.0.1,
            f.0.2 (piece (greater ∷ colons)) most d.0 (omega arith) end,
          ),
        ),
        and_from (good_at Bounds (about_type inner)) (of_good (option_map about_path of)) s.0.2 f.0.1,
        refl,
      ) in
      same_some (Out (Held about_start budget) ts) ((start.Qualified inner of, most), d.0) (x, rest) d.2 (
        held (about_start (start.Qualified inner of)) told budget most ts d.0 (start_qualified_is inner of)
            (omega (arith, s.0.0, f.0.0)) there,
        left,
      )

  start_sound : SoundStep (path_start within) (Held about_start budget)
  start_sound ts x rest t h = elim (chosen (first (is_mark (codes "<")) ts) _ _ _ h) [
    | inl g ↦ qualified_sound ts x rest t g.1
    | inr g ↦ elim (chosen (is_op (codes "::") ts) _ _ _ g.1) [
      | inl f ↦
          let o : IsOperator (codes "::") ts (drop 2 ts) = (f.0, refl) in
          let there : Stands (start_facts PathStart-F.Global) 0 ts (drop 2 ts) =
          ((drop 2 ts, (drop 2 ts, o, refl), refl), refl, refl) in
          same_some (Out (Held about_start budget) ts) ((start.Global, 0), drop 2 ts) (x, rest) f.1 (
            held (about_start start.Global) (start_facts PathStart-F.Global) budget 0 ts (drop 2 ts) start_global_is
                (omega arith) there,
            bit_texts (Operator (codes "::")) ts (drop 2 ts) o t,
          )
      | inr f ↦
          let there : Stands (start_facts PathStart-F.Local) 0 ts ts = (refl, refl, refl) in
          same_some (Out (Held about_start budget) ts) ((start.Local, 0), ts) (x, rest) f.1 (
            held (about_start start.Local) (start_facts PathStart-F.Local) budget 0 ts ts start_local_is (omega arith)
                there,
            t,
          )
    ]
  ]

  pub path_sound : (style : PathStyle) → SoundStep (path within style) (Held (path_told style) budget)
  unfolding path
  path_sound style ts x rest t h =
      let begun = bind_some (path_start within ts) _ _ h in
      let ss = bind_some (chain (codes "::") (segment within style) begun.0.1) _ _ begun.2 in
      let most = max begun.0.0.1 (deepest ss.0.0) in
      let b = start_sound ts begun.0.0 begun.0.1 t begun.1 in
      let c = chain_sound (codes "::") (segment within style) (Held (segment_told style) budget) (segment_sound style)
      begun.0.1 ss.0.0 ss.0.1 b.1 ss.1 in
      let p : Path = record { start = begun.0.0.0; segments = nodes ss.0.0 } in
      elim (chosen (returns_last (nodes ss.0.0)) _ _ _ ss.2) [
        | inl g ↦
            let k = chain_held style most ss.0.0 begun.0.1 ss.0.1 (omega arith) c.0 g.0 in
            let all = map about_segment (nodes ss.0.0) in
            let told = path_facts (record { start = about_start begun.0.0.0; segments = all }) style in
            let there : Stands told most ts ss.0.1 = (
              (
                begun.0.1,
                raise (about_start begun.0.0.0).form begun.0.0.1 most ts begun.0.1 (omega arith) b.0.1.0,
                k.1,
              ),
              and_from (about_start begun.0.0.0).good (segments_good style all) b.0.1.1 k.2,
              and_from (not (is_op (codes "::") ss.0.1)) (may_follow (segments_refuse style all) ss.0.1) (ap not c.2)
                  k.3,
            ) in
            same_some (Out (Held (path_told style) budget) ts) ((p, most), ss.0.1) (x, rest) g.1 (
              held (path_told style p) told budget most ts ss.0.1 (ap (λ (f : types.PathFacts). f style) (path_is p))
                  (omega (arith, b.0.0, k.0)) there,
              c.1,
            )
        | inr g ↦ absurd (cc g.1)
      ]
