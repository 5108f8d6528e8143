-- Names that are bound, and paths in patterns: what is read stands there, where what is one level deeper is read so.
use Rattle.std.proofs.Common.{◌≡◌, ℕ, suc, Bool, true, false, not, ◌&&◌, ◌||◌, List, [], ◌∷◌, inl, inr, map, drop, codes, Option, Some, None, refl, sym, ap, subst, ◌∙◌, arith}
use Rattle.std.proofs.lemmas.Bool.{and_from, or_parts}
use Rattle.lay_token.specs.Operators.{is_op}
use Rattle.lay_form.specs.Form.{Blank, Fixed, Operator, Form, Done, Piece, Part, keyword}
use Rattle.lay_form.specs.Notation.{when}
use Rattle.lay_form.specs.Spelled.{IsOne, IsOperator, AreBits, Spells}
use Rattle.lay_node.specs.Ahead.{Tokens, first, tail, is_keyword}
use Rattle.lay_node.specs.Follow.{Begin, may_follow}
use Rattle.lay_node.specs.Words.{is_name, leaf_of}
use Rattle.lay_node.specs.nodes.Facts.{Facts}
use Rattle.lay_node.specs.nodes.Patterns.{is_self, may_be_path, pat_facts, pat_good, about_pat}
use Rattle.lay_node.specs.nodes.Types as types
use Rattle.lay_node.specs.nodes.Types.{args_facts, about_args, about_path, about_start, are_none, lone_segment, lone_word, path_facts, start_facts, starts_plain}
use Rattle.lay_node.specs.reader.Exact.{InText}
use Rattle.lay_node.specs.reader.Patterns.{PatWithin, bind, marked_bind, plain_path, word_pat}
use Rattle.lay_node.specs.reader.Types.{flag}
use Rattle.lay_node.specs.reader.Words.{name}
use Rattle.lay_node.specs.declared.patterns.FieldPat.TheOpen.{Pat-F}
use Rattle.lay_node.specs.declared.patterns.Pat.{Pat}
use Rattle.lay_node.specs.declared.patterns.Pat.TheVariants as pat
use Rattle.lay_node.specs.declared.patterns.PatPlace.TheVariants.{Single}
use Rattle.lay_node.specs.declared.token.Name.{Name}
use Rattle.lay_node.specs.declared.token.Word.{Word}
use Rattle.lay_node.specs.declared.types.Arg.{Arg}
use Rattle.lay_node.specs.declared.types.Arg.TheOpen.{Args-F, PathStart-F}
use Rattle.lay_node.specs.declared.types.Arg.TheViews as views
use Rattle.lay_node.specs.declared.types.Args.{Args}
use Rattle.lay_node.specs.declared.types.Bound.{Bound}
use Rattle.lay_node.specs.declared.types.Constraint.{Constraint}
use Rattle.lay_node.specs.declared.types.FuncParam.{FuncParam}
use Rattle.lay_node.specs.declared.types.Path.{Path}
use Rattle.lay_node.specs.declared.types.PathStart.{PathStart}
use Rattle.lay_node.specs.declared.types.PathStyle.TheVariants.{Code}
use Rattle.lay_node.specs.declared.types.Ty.{Ty}
use Rattle.lay_node.proofs.Fronts.{keyword_one}
use Rattle.lay_node.proofs.Parts.{part_alone, word_kind, leaf_parts, leaf_spelled}
use Rattle.lay_node.proofs.Steps.{or_else, same_some, chosen, bind_some}
use Rattle.lay_node.proofs.nodes.PatternsLaws.{pat_path_is, pat_bind_is}
use Rattle.lay_node.proofs.nodes.TypesLaws.{about_segment, args_none_is, path_is, start_local_is}
use Rattle.lay_node.proofs.reader.Loops.{SoundStep}
use Rattle.lay_node.proofs.reader.PatternsSoundLevel.{SoundPatWithin, PatOpen, follows_parts, open_told}
use Rattle.lay_node.proofs.reader.TypesSoundNeeds.{Held}
use Rattle.lay_node.proofs.reader.TypesSoundParts.{Out, Leads, bit_texts, flag_leads, flag_texts}
use Rattle.lay_node.proofs.reader.TypesSoundPaths.{local_is, path_told}
use Rattle.lay_node.proofs.reader.Words.{name_sound}

-- ---- a path that is one word

none_layer : (layer : Args-F Arg Args Bound Constraint PathStart Ty FuncParam Path) → are_none layer ≡ true
    → layer ≡ Args-F.None
none_layer Args-F.None h = refl
none_layer _ h = absurd (cc)

none_is : (a : Args) → are_none (views.out-Args a) ≡ true → about_args a ≡ args_facts Args-F.None
none_is a h =
    ap about_args
    (sym (views.roll-out-Args a) ∙ ap views.roll-Args (none_layer (views.out-Args a) h) ∙ views.rolls-None)
    ∙ args_none_is

lone_segments : (ss : List (Word × Args)) (w : Word) → lone_segment ss ≡ Some w
    → map about_segment ss ≡ (w, args_facts Args-F.None) ∷ []
lone_segments [] w h = absurd (cc)
lone_segments (s ∷ []) w h = elim (chosen (are_none (views.out-Args s.1)) _ _ _ h) [
  | inl g ↦
      ap (λ (z : Word). let one : List (Word × types.ArgsFacts) = (z, about_args s.1) ∷ [] in one)
      (ap (or_else s.0) g.1)
      ∙ ap (λ (z : types.ArgsFacts). let one : List (Word × types.ArgsFacts) = (w, z) ∷ [] in one) (none_is s.1 g.0)
  | inr g ↦ absurd (cc g.1)
]
lone_segments (s ∷ r ∷ more) w h = absurd (cc)

-- the facts about a path that is one word
abbrev pub word_told : Word → types.PathFacts
word_told w =
    path_facts (record { start = start_facts PathStart-F.Local; segments = (w, args_facts Args-F.None) ∷ [] })

pub lone_path : (p : Path) (w : Word) → lone_word p ≡ Some w → about_path p ≡ word_told w
lone_path p w h = elim (chosen (starts_plain (views.out-PathStart p.start)) _ _ _ h) [
  | inl g ↦
      path_is p
      ∙ ap (λ (z : Facts). path_facts (record { start = z; segments = map about_segment p.segments }))
      (ap about_start (local_is p.start g.0) ∙ start_local_is)
      ∙ ap (λ (z : List (Word × types.ArgsFacts)). path_facts
      (record { start = start_facts PathStart-F.Local; segments = z })) (lone_segments p.segments w g.1)
  | inr g ↦ absurd (cc g.1)
]

-- The word stands there.
pub word_there : (p : Path) (w : Word) (n : ℕ) (ts rest : Tokens) → lone_word p ≡ Some w
    → Spells (path_told Code p).form n ts rest → IsOne (word_kind w.raw) w.text ts rest
word_there p w n ts rest e s =
    let f = subst (λ (z : types.PathFacts). Spells (z Code).form n ts rest) (lone_path p w e) s in
    let inner : Form = leaf_of w.raw w.text (Part Done Done) in
    let one : Spells inner n ts rest = subst (λ us. Spells inner n us rest) (sym f.1) f.2 in
    let leaf = leaf_parts w.raw w.text (Part Done Done) n ts rest one in
    subst (λ us. IsOne (word_kind w.raw) w.text ts us) (part_alone Done n leaf.0 rest leaf.2) leaf.1

-- ---- names that are bound

-- the words before a name, the name, and what follows it
abbrev pub name_form : Bool → Bool → Name → Form → Form
name_form by_ref mutable n f =
    when by_ref (keyword (codes "ref") ∷ Blank ∷ []) (when mutable (keyword (codes "mut") ∷ Blank ∷ [])
    (leaf_of n.raw n.text f))

-- No `::` and no `!` stands there.
none_behind : (refuses : List Begin) (ts : Tokens) → is_op (codes "::") ts || is_op (codes "!") ts ≡ false
    → may_follow refuses ts ≡ true
    → (not (is_op (codes "::") ts) && (not (is_op (codes "!") ts) && may_follow refuses ts)) ≡ true
none_behind refuses ts h f =
    let b = or_parts (is_op (codes "::") ts) (is_op (codes "!") ts) h in
    let last = not (is_op (codes "!") ts) && may_follow refuses ts in
    and_from (not (is_op (codes "::") ts)) last (ap not b.0)
    (and_from (not (is_op (codes "!") ts)) (may_follow refuses ts) (ap not b.1) f)

module _ (budget : ℕ) (within : PatWithin) (sound : SoundPatWithin budget within) where
  -- what is bound to a name that stands before it, if anything
  pub bind_sound : (by_ref mutable : Bool) (n : Name) (begun ts : Tokens) → Leads (name_form by_ref mutable n) begun ts
      → is_name n.raw n.text ≡ true → InText ts → (x : Pat × ℕ) (rest : Tokens)
      → bind within by_ref mutable n ts ≡ Some (x, rest) → Out (PatOpen (suc budget)) begun (x, rest)
  unfolding bind
  bind_sound by_ref mutable n begun ts lead i t x rest h = elim (chosen (is_op (codes "@") ts) _ _ _ h) [
    | inl g ↦
        let at = drop 1 ts in
        let o : IsOperator (codes "@") ts at = (g.0, refl) in
        let y = bind_some (within.pats Single at) _ _ g.1 in
        let s = sound.pats Single at y.0.0 y.0.1 (bit_texts (Operator (codes "@")) ts at o t) y.1 in
        let end = y.0.1 in
        let told = about_pat y.0.0.0 in
        let need = y.0.0.1 in
        let k = follows_parts told end s.0.3 in
        let F = pat_facts (Pat-F.Bind by_ref mutable n (Some told)) in
        elim (chosen (is_op (codes "::") end || is_op (codes "!") end) _ _ _ y.2) [
          | inl f ↦ absurd (cc f.1)
          | inr f ↦
              same_some (Out (PatOpen (suc budget)) begun)
              ((pat.Bind by_ref mutable n (Some y.0.0.0), suc need), end) (x, rest) f.1 (
                open_told (suc budget) (about_pat (pat.Bind by_ref mutable n (Some y.0.0.0))) F (suc need) begun end
                    (pat_bind_is by_ref mutable n (Some y.0.0.0)) (record {
                      need = omega (arith, s.0.0);
                      form = (
                        end,
                        lead (Piece (Blank ∷ Operator (codes "@") ∷ Blank ∷ []) (Part told.told.form Done)) need end
                            (at, (ts, refl, (at, o, (at, refl, refl))), (end, s.0.1, refl)),
                        refl,
                      );
                      good = and_from (is_name n.raw n.text) (pat_good Single told) i s.0.2;
                      single = refl;
                      no_end = k.no_end;
                      no_bound = k.no_bound;
                      refused = none_behind told.told.refuses end f.0 k.refused;
                    }),
                s.1,
              )
        ]
    | inr g ↦
        let F = pat_facts (Pat-F.Bind by_ref mutable n None) in
        elim (chosen (is_op (codes "::") ts || is_op (codes "!") ts) _ _ _ g.1) [
          | inl f ↦ absurd (cc f.1)
          | inr f ↦
              same_some (Out (PatOpen (suc budget)) begun) ((pat.Bind by_ref mutable n None, 1), ts) (x, rest) f.1 (
                open_told (suc budget) (about_pat (pat.Bind by_ref mutable n None)) F 1 begun ts
                    (pat_bind_is by_ref mutable n None) (record {
                      need = omega arith;
                      form = (ts, lead Done 0 ts refl, refl);
                      good = and_from (is_name n.raw n.text) true i refl;
                      single = refl;
                      no_end = refl;
                      no_bound = ap not g.0;
                      refused = none_behind [] ts f.0 refl;
                    }),
                t,
              )
        ]
  ]

  -- a name after `ref` or `mut`, or both
  pub marked_bind_sound : SoundStep (marked_bind within) (PatOpen (suc budget))
  unfolding marked_bind
  marked_bind_sound ts x rest t h =
      let mark = is_keyword (codes "ref") in
      let bits = keyword (codes "ref") ∷ Blank ∷ [] in
      let mark_mut = is_keyword (codes "mut") in
      let bits_mut = keyword (codes "mut") ∷ Blank ∷ [] in
      let behind = (flag mark ts).1 in
      let by_ref = (flag mark ts).0 in
      let at = (flag mark_mut behind).1 in
      let mutable = (flag mark_mut behind).0 in
      let n = bind_some (name at) _ _ h in
      let are : first mark ts ≡ true → AreBits bits ts (tail ts) =
      λ e. (tail ts, keyword_one (codes "ref") ts e, (tail ts, refl, refl)) in
      let are_mut : first mark_mut behind ≡ true → AreBits bits_mut behind (tail behind) =
      λ e. (tail behind, keyword_one (codes "mut") behind e, (tail behind, refl, refl)) in
      let i = name_sound at n.0.0 n.0.1 n.1 in
      let raw = n.0.0.raw in
      let text = n.0.0.text in
      let left = flag_texts mark_mut bits_mut behind are_mut (flag_texts mark bits ts are t) in
      let lead : Leads (name_form by_ref mutable n.0.0) ts n.0.1 =
      λ f depth end s.
      flag_leads mark bits ts are (when mutable bits_mut (leaf_of raw text f)) depth end
      (flag_leads mark_mut bits_mut behind are_mut (leaf_of raw text f) depth end
      (leaf_spelled raw text f depth at n.0.1 end i.0 s)) in
      bind_sound by_ref mutable n.0.0 ts n.0.1 lead i.1
      (bit_texts (Fixed (word_kind raw) text) at n.0.1 i.0 left) x rest
      n.2

  -- ---- paths

  plain_path_sound : (p : Path × ℕ) (begun ts : Tokens) → Held (path_told Code) budget p begun ts
      → may_be_path (lone_word p.0) ≡ true → InText ts → (x : Pat × ℕ) (rest : Tokens)
      → plain_path p ts ≡ Some (x, rest) → Out (PatOpen (suc budget)) begun (x, rest)
  plain_path_sound p begun ts k may t x rest h =
      let told = path_told Code p.0 in
      elim (chosen (is_op (codes "!") ts) _ _ _ h) [
        | inl g ↦ absurd (cc g.1)
        | inr g ↦
            same_some (Out (PatOpen (suc budget)) begun) ((pat.Path p.0, suc p.1), ts) (x, rest) g.1 (
              open_told (suc budget) (about_pat (pat.Path p.0)) (pat_facts (Pat-F.Path p.0)) (suc p.1) begun ts
                  (pat_path_is p.0) (record {
                    need = omega (arith, k.0);
                    form = (ts, k.1.0, refl);
                    good = and_from told.good (may_be_path (lone_word p.0)) k.1.1 may;
                    single = refl;
                    no_end = refl;
                    no_bound = refl;
                    refused =
                        and_from (not (is_op (codes "!") ts)) (may_follow told.refuses ts) (ap not g.0) k.1.2;
                  }),
              t,
            )
      ]

  -- A path that is one word: a name is bound, and `self` is no pattern.
  pub word_pat_sound : (p : Path × ℕ) (o : Option Word) → lone_word p.0 ≡ o → (begun ts : Tokens)
      → Held (path_told Code) budget p begun ts → InText ts → (x : Pat × ℕ) (rest : Tokens)
      → word_pat within p o ts ≡ Some (x, rest) → Out (PatOpen (suc budget)) begun (x, rest)
  word_pat_sound p None e begun ts k t x rest h = plain_path_sound p begun ts k (ap may_be_path e) t x rest h
  word_pat_sound p (Some w) e begun ts k t x rest h = elim (chosen (is_name w.raw w.text) _ _ _ h) [
    | inl g ↦
        let n : Name = record { raw = w.raw; text = w.text } in
        let o = word_there p.0 w p.1 begun ts e k.1.0 in
        let lead : Leads (name_form false false n) begun ts =
        λ f depth end s. leaf_spelled w.raw w.text f depth begun ts end o s in
        bind_sound false false n begun ts lead g.0 t x rest g.1
    | inr g ↦ elim (chosen (is_self w) _ _ _ g.1) [
      | inl f ↦ absurd (cc f.1)
      | inr f ↦
          let may = and_from (not (is_name w.raw w.text)) (not (is_self w)) (ap not g.0) (ap not f.0) in
          plain_path_sound p begun ts k (ap may_be_path e ∙ may) t x rest f.1
    ]
  ]
