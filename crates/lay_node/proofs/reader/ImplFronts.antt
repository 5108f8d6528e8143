-- What the heads of implementations depend on of the beginning of types and paths: whether a `<` stands there, and whether a
use Rattle.std.proofs.Common.{Bool, List, None, Option, Some, [], ap, codes, false, inl, inr, map, not, refl, subst, sym, true, ℕ, ◌&&◌, ◌∙◌, ◌∷◌, ◌≡◌}
use Rattle.std.proofs.lemmas.Bool.{and_from, and_parts}
use Rattle.lay_piece.specs.declared.kind.Delim.TheVariants.{Paren}
use Rattle.lay_piece.specs.declared.kind.Kind.TheVariants.{Punct}
use Rattle.lay_token.specs.Operators.{is_op}
use Rattle.lay_form.specs.Form.{Blank, Done, Fixed, Form, Operator, Part, Piece, keyword}
use Rattle.lay_form.specs.Notation.{when}
use Rattle.lay_form.specs.Spelled.{IsOne, IsOperator, Spells}
use Rattle.lay_node.specs.Ahead.{Tokens, first, is_mark, is_opener, tail}
use Rattle.lay_node.specs.Begins.{Lead, OfBracket, OfDyn, OfFunc, OfImpl, OfInfer, OfNever, OfParen, OfPath, OfPointer, OfReference, lead_at}
use Rattle.lay_node.specs.Follow.{OfArgs}
use Rattle.lay_node.specs.Words.{are_path_words, colons, is_path_word}
use Rattle.lay_node.specs.nodes.Call.{about_call}
use Rattle.lay_node.specs.nodes.Facts.{Facts}
use Rattle.lay_node.specs.nodes.Heads.{begins_qualified, is_trait_ref, opens_less, path_opens_less, trait_ref_form, type_opens_less}
use Rattle.lay_node.specs.nodes.SimplePath.{are_simple_words, is_simple_path, simple_path_form, simple_words_form}
use Rattle.lay_node.specs.nodes.Types as types
use Rattle.lay_node.specs.nodes.Types.{about_args, about_path, about_start, about_type, good_at, in_style, segment_good, segments_form, segments_good, segments_refuse, ty_facts, ArgsFacts, PathFacts, TypeFacts}
use Rattle.lay_node.specs.reader.Types.{Within, path, path_start, segment, chain}
use Rattle.lay_node.specs.reader.Words.{word}
use Rattle.lay_node.specs.declared.heads.TraitRef.{TraitRef}
use Rattle.lay_node.specs.declared.simple_path.SimplePath.{SimplePath}
use Rattle.lay_node.specs.declared.token.Word.{Word}
use Rattle.lay_node.specs.declared.types.Arg.TheViews as views
use Rattle.lay_node.specs.declared.types.Args.TheVariants as args
use Rattle.lay_node.specs.declared.types.Args.{Args}
use Rattle.lay_node.specs.declared.types.Path.{Path}
use Rattle.lay_node.specs.declared.types.PathStart.TheVariants as start
use Rattle.lay_node.specs.declared.types.PathStart.{PathStart}
use Rattle.lay_node.specs.declared.types.PathStyle.TheVariants.{Kind as InKind}
use Rattle.lay_node.specs.declared.types.PathStyle.{PathStyle}
use Rattle.lay_node.specs.declared.types.Ty.TheVariants as ty
use Rattle.lay_node.specs.declared.types.Ty.{Ty}
use Rattle.lay_node.specs.declared.types.TypePlace.TheVariants.{Bounds}
use Rattle.lay_node.proofs.Fronts.{mark_one, one_front, op_test, other_op}
use Rattle.lay_node.proofs.Parts.{bit_alone, bit_piece, leaf_parts, leaf_spelled, part_alone, piece_bit}
use Rattle.lay_node.proofs.Steps.{bind_some, chosen, same_some}
use Rattle.lay_node.proofs.nodes.TypesLaws.{IsArray, IsBounds, IsCall, IsFunc, IsGlobal, IsInfer, IsLocal, IsNever, IsParen, IsPath, IsPtr, IsQualified, IsRef, IsSlice, IsTuple, PathStartView, TyView, about_segment, args_none_is, path_is, start_global_is, start_local_is, start_qualified_is, start_view, type_call_is, type_path_is, type_view}
use Rattle.lay_node.proofs.reader.Call.{bang_operator}
use Rattle.lay_node.proofs.reader.TypesBegins.{lead_of, opened, path_goods, path_parts, segments_front, type_begins, lead_no_less}
use Rattle.lay_node.proofs.reader.TypesFronts.{Clear, colons_lead, less_lead, op_first, word_lead, word_no_mark}
use Rattle.lay_node.proofs.reader.Words.{word_sound}

-- path and `for` do.

-- ---- a path of words alone, as a path

abbrev pub bare : List Word → List (Word × Args)
bare ws = map (λ w. (w, args.None)) ws

abbrev pub start_of : Bool → PathStart
start_of true = start.Global
start_of false = start.Local

abbrev pub words_path : SimplePath → Path
words_path p = record { start = start_of p.global; segments = bare p.words }

none_spelled : (depth : ℕ) (ts : Tokens) → Spells (in_style InKind (about_args args.None)).form depth ts ts
none_spelled depth ts = subst (λ (F : ArgsFacts). Spells F.kind.form depth ts ts) (sym args_none_is) refl

none_good : (in_style InKind (about_args args.None)).good ≡ true
none_good = ap (λ (F : ArgsFacts). F.kind.good) args_none_is

none_returns : (about_args args.None).returns ≡ false
none_returns = ap (λ (F : ArgsFacts). F.returns) args_none_is

bare_spelled : (ws : List Word) (depth : ℕ) (ts rest : Tokens) → Spells (simple_words_form ws Done) depth ts rest → are_simple_words ws ≡ true
    → Spells (segments_form InKind (map about_segment (bare ws))) depth ts rest
bare_spelled [] depth ts rest s g = absurd (cc)
bare_spelled (w ∷ []) depth ts rest s g =
    let l = leaf_parts w.raw w.text Done depth ts rest s in
    leaf_spelled w.raw w.text (Part (in_style InKind (about_args args.None)).form Done) depth ts l.0 rest l.1 (l.0, none_spelled depth l.0, l.2)
bare_spelled (w ∷ v ∷ more) depth ts rest s g =
    let goods = and_parts (is_path_word w.raw w.text) (are_path_words (v ∷ more)) g in
    let l = leaf_parts w.raw w.text (Piece colons (simple_words_form (v ∷ more) Done)) depth ts rest s in
    let c = l.2 in
    let next : Form = Piece colons (segments_form InKind (map about_segment (bare (v ∷ more)))) in
    let behind : Spells next depth l.0 rest = (c.0, c.1, bare_spelled (v ∷ more) depth c.0 rest c.2 goods.1) in
    leaf_spelled w.raw w.text (Part (in_style InKind (about_args args.None)).form next) depth ts l.0 rest l.1 (l.0, none_spelled depth l.0, behind)

bare_good : (ws : List Word) → are_simple_words ws ≡ true → segments_good InKind (map about_segment (bare ws)) ≡ true
bare_good [] g = absurd (cc)
bare_good (w ∷ []) g = let goods = and_parts (is_path_word w.raw w.text) true g in rw (goods.0, none_good) refl
bare_good (w ∷ v ∷ more) g =
    let goods = and_parts (is_path_word w.raw w.text) (are_path_words (v ∷ more)) g in
    let one : segment_good InKind (about_segment (w, args.None)) ≡ true = rw (goods.0, none_good) refl in
    let kept : not (about_args args.None).returns ≡ true = rw none_returns refl in
    and_from (segment_good InKind (about_segment (w, args.None)) && not (about_args args.None).returns)
    (segments_good InKind (map about_segment (bare (v ∷ more))))
    (and_from (segment_good InKind (about_segment (w, args.None))) (not (about_args args.None).returns) one kept) (bare_good (v ∷ more) goods.1)

-- A `!` may follow it, as far as its reading depends on it.
bang_clear : (ws : List Word) (ts : Tokens) → is_op (codes "!") ts ≡ true → Clear (segments_refuse InKind (map about_segment (bare ws))) ts
bang_clear [] ts h = refl
bang_clear (w ∷ []) ts h =
    let clear : Clear (OfArgs ∷ []) ts =
    rw (
      other_op (codes "!") (codes "<") refl ts h,
      other_op (codes "!") (codes "<<") refl ts h,
      other_op (codes "!") (codes "<-") refl ts h,
      other_op (codes "!") (codes "::") refl ts h,
      op_test (is_opener Paren) (codes "!") ts h,
    ) refl in
    subst (λ (F : ArgsFacts). Clear F.kind.refuses ts) (sym args_none_is) clear
bang_clear (w ∷ v ∷ more) ts h = bang_clear (v ∷ more) ts h

start_good : (leads : Bool) → (about_start (start_of leads)).good ≡ true
start_good true = ap (λ (F : Facts). F.good) start_global_is
start_good false = ap (λ (F : Facts). F.good) start_local_is

-- So it is spelled as a path, before a `!`.
pub record WordsPath (p : SimplePath) (depth : ℕ) (ts rest : Tokens) : Type 0 where
  pub spelled : Spells (about_path (words_path p) InKind).form depth ts rest
  pub good : (about_path (words_path p) InKind).good ≡ true
  pub clear : Clear (about_path (words_path p) InKind).refuses rest

pub words_are_path : (p : SimplePath) (depth : ℕ) (ts rest : Tokens) → Spells (simple_path_form p) depth ts rest → is_simple_path p ≡ true
    → is_op (codes "!") rest ≡ true → WordsPath p depth ts rest
words_are_path p depth ts rest s g h =
    let segments = bare_good p.words g in
    let no_colons : is_op (codes "::") rest ≡ false = other_op (codes "!") (codes "::") refl rest h in
    let stops : not (is_op (codes "::") rest) ≡ true = ap not no_colons in
    record {
      spelled = subst (λ (F : PathFacts). Spells (F InKind).form depth ts rest) (sym (path_is (words_path p))) (begun p.global s);
      good = subst (λ (F : PathFacts). (F InKind).good ≡ true) (sym (path_is (words_path p)))
          (and_from (about_start (start_of p.global)).good (segments_good InKind (map about_segment (bare p.words))) (start_good p.global) segments);
      clear = subst (λ (F : PathFacts). Clear (F InKind).refuses rest) (sym (path_is (words_path p)))
          (and_from (not (is_op (codes "::") rest)) _ stops (bang_clear p.words rest h));
    }
  where
    begun : (leads : Bool) → Spells (when leads colons (simple_words_form p.words Done)) depth ts rest
        → Spells (Part (about_start (start_of leads)).form (segments_form InKind (map about_segment (bare p.words)))) depth ts rest
    begun true t =
        let o : IsOperator (codes "::") ts t.0 = bit_alone (Operator (codes "::")) ts t.0 t.1 in
        let global : Spells (about_start start.Global).form depth ts t.0 =
        subst (λ (F : Facts). Spells F.form depth ts t.0) (sym start_global_is) (bit_piece (Operator (codes "::")) depth ts t.0 o) in
        (t.0, global, bare_spelled p.words depth t.0 rest t.2 g)
    begun false t =
        let local : Spells (about_start start.Local).form depth ts ts = subst (λ (F : Facts). Spells F.form depth ts ts) (sym start_local_is) refl in
        (ts, local, bare_spelled p.words depth ts rest t g)

-- ---- a `<` at the beginning

mark_there : (ts rest : Tokens) → IsOne Punct (codes "<") ts rest → first (is_mark (codes "<")) ts ≡ true
mark_there ts rest o = rw (one_front Punct (codes "<") ts rest o).1 refl

-- A path begins with a `<` just where it begins with a type in `<` and `>`.
pub path_less : (style : PathStyle) (p : Path) (depth : ℕ) (ts rest : Tokens) → Spells (about_path p style).form depth ts rest
    → (about_path p style).good ≡ true → first (is_mark (codes "<")) ts ≡ path_opens_less p
path_less style p depth ts rest s g =
    let t = path_parts style p depth ts rest s in
    let goods = path_goods style p g in
    by p.start (start_view p.start) t.0 t.1 t.2 goods.1
  where
    by : (b : PathStart) → PathStartView b → (mid : Tokens) → Spells (about_start b).form depth ts mid
        → Spells (segments_form style (map about_segment p.segments)) depth mid rest → segments_good style (map about_segment p.segments) ≡ true
        → first (is_mark (codes "<")) ts ≡ begins_qualified (views.out-PathStart b)
    by _ IsLocal mid t u k =
        let e : ts ≡ mid = subst (λ (F : Facts). Spells F.form depth ts mid) start_local_is t in
        let f = segments_front style p.segments depth mid rest k u in
        let none : first (is_mark (codes "<")) ts ≡ false = rw e (word_no_mark (codes "<") f.raw f.text mid f.behind f.word) in
        none ∙ sym (ap begins_qualified views.outs-Local)
    by _ IsGlobal mid t u k =
        let o : IsOperator (codes "::") ts mid =
        piece_bit (Operator (codes "::")) depth ts mid (subst (λ (F : Facts). Spells F.form depth ts mid) start_global_is t) in
        let none : first (is_mark (codes "<")) ts ≡ false = rw (op_first 58 (codes ":") ts o.0).3 refl in
        none ∙ sym (ap begins_qualified views.outs-Global)
    by _ (IsQualified x of) mid t u k =
        let v = subst (λ (F : Facts). Spells F.form depth ts mid) (start_qualified_is x of) t in
        mark_there ts v.0 (bit_alone types.less ts v.0 v.1) ∙ sym (ap begins_qualified (views.outs-Qualified x of))

words_plain : (leads : Bool) → begins_qualified (views.out-PathStart (start_of leads)) ≡ false
words_plain true = ap begins_qualified views.outs-Global
words_plain false = ap begins_qualified views.outs-Local

-- A type begins with a `<` just where it is such a path.
pub type_less : (x : Ty) (depth : ℕ) (ts rest : Tokens) → Spells (about_type x).told.form depth ts rest → good_at Bounds (about_type x) ≡ true
    → first (is_mark (codes "<")) ts ≡ type_opens_less (views.out-Ty x)
type_less x depth ts rest s g = by x (type_view x) s g (type_begins x Bounds depth ts rest s g).lead
  where
    other : (y : Ty) (l : Lead) → (Some OfPath ≡ Some l → ⊥) → lead_at ts ≡ Some l → type_opens_less (views.out-Ty y) ≡ false
        → first (is_mark (codes "<")) ts ≡ type_opens_less (views.out-Ty y)
    other y l differ h e = lead_no_less ts l differ h ∙ sym e

    by : (y : Ty) (v : TyView y) → Spells (about_type y).told.form depth ts rest → (about_type y).told.good ≡ true → lead_at ts ≡ Some (lead_of y v)
        → first (is_mark (codes "<")) ts ≡ type_opens_less (views.out-Ty y)
    by _ (IsPath p) t h l =
        let u = subst (λ (F : TypeFacts). Spells F.told.form depth ts rest) (type_path_is p) t in
        let i = opened (about_path p InKind).form depth ts rest u in
        path_less InKind p i.0 ts rest i.2 (subst (λ (F : TypeFacts). F.told.good ≡ true) (type_path_is p) h) ∙ sym (ap type_opens_less (views.outs-Path p))
    by _ (IsCall c) t h l =
        let u = subst (λ (F : TypeFacts). Spells F.told.form depth ts rest) (type_call_is c) t in
        let i = opened (about_call c).form depth ts rest u in
        let call = i.2 in
        let good = (and_parts (is_simple_path c.path) _ (subst (λ (F : TypeFacts). F.told.good ≡ true) (type_call_is c) h)).0 in
        let inner = call.2 in
        let o = bang_operator c.tokens.delim call.0 inner.0 inner.1 in
        let w = words_are_path c.path i.0 ts call.0 call.1 good o.0 in
        path_less InKind (words_path c.path) i.0 ts call.0 w.spelled w.good ∙ words_plain c.path.global ∙ sym (ap type_opens_less (views.outs-Call c))
    by _ (IsParen y) t h l = other (ty.Paren y) OfParen (λ e. cc) l (ap type_opens_less (views.outs-Paren y))
    by _ (IsTuple ys) t h l = other (ty.Tuple ys) OfParen (λ e. cc) l (ap type_opens_less (views.outs-Tuple ys))
    by _ IsNever t h l = other ty.Never OfNever (λ e. cc) l (ap type_opens_less views.outs-Never)
    by _ IsInfer t h l = other ty.Infer OfInfer (λ e. cc) l (ap type_opens_less views.outs-Infer)
    by _ (IsPtr m y) t h l = other (ty.Ptr m y) OfPointer (λ e. cc) l (ap type_opens_less (views.outs-Ptr m y))
    by _ (IsRef r m y) t h l = other (ty.Ref r m y) OfReference (λ e. cc) l (ap type_opens_less (views.outs-Ref r m y))
    by _ (IsSlice y) t h l = other (ty.Slice y) OfBracket (λ e. cc) l (ap type_opens_less (views.outs-Slice y))
    by _ (IsArray y us) t h l = other (ty.Array y us) OfBracket (λ e. cc) l (ap type_opens_less (views.outs-Array y us))
    by _ (IsFunc b u a ps v o) t h l = other (ty.Func b u a ps v o) OfFunc (λ e. cc) l (ap type_opens_less (views.outs-Func b u a ps v o))
    by _ (IsBounds true bs) t h l = other (ty.Bounds true bs) OfDyn (λ e. cc) l (ap type_opens_less (views.outs-Bounds true bs))
    by _ (IsBounds false bs) t h l = other (ty.Bounds false bs) OfImpl (λ e. cc) l (ap type_opens_less (views.outs-Bounds false bs))

-- What follows the generic parameters of an implementation begins so just where it is told.
pub ref_less : (of : Option TraitRef) (x : Ty) (depth : ℕ) (ts rest : Tokens) → Spells (trait_ref_form of (Part (about_type x).told.form Done)) depth ts rest
    → is_trait_ref of ≡ true → good_at Bounds (about_type x) ≡ true → first (is_mark (codes "<")) ts ≡ opens_less of x
ref_less None x depth ts rest s r g = type_less x depth ts rest (part_alone (about_type x).told.form depth ts rest s) g
ref_less (Some r) x depth ts rest s h g = by r.negative s
  where
    behind : Form
    behind = Part (about_path r.path InKind).form (Piece (Blank ∷ keyword (codes "for") ∷ Blank ∷ []) (Part (about_type x).told.form Done))

    by : (negative : Bool) → Spells (when negative (Fixed Punct (codes "!") ∷ []) behind) depth ts rest
        → first (is_mark (codes "<")) ts ≡ (not negative && path_opens_less r.path)
    by true t =
        let o : IsOne Punct (codes "!") ts t.0 = bit_alone (Fixed Punct (codes "!")) ts t.0 t.1 in
        rw (one_front Punct (codes "!") ts t.0 o).1 refl
    by false t = path_less InKind r.path depth ts t.0 t.1 h

-- ---- a path that is read

module _ (inner : Within) (style : PathStyle) where
  -- A path that is read begins as one.
  pub path_lead : (ts : Tokens) (y : (Path × ℕ) × Tokens) → path inner style ts ≡ Some y → lead_at ts ≡ Some OfPath
  unfolding path chain segment
  path_lead ts y h =
      let b = bind_some (path_start inner ts) _ _ h in
      let ss = bind_some (chain (codes "::") (segment inner style) b.0.1) _ _ b.2 in
      let s = bind_some (segment inner style b.0.1) _ _ ss.1 in
      let w = bind_some (word b.0.1) _ _ s.1 in
      let i = word_sound b.0.1 w.0.0 w.0.1 w.1 in
      let lead = word_lead w.0.0.raw w.0.0.text b.0.1 w.0.1 i.0 i.1 in
      elim (chosen (first (is_mark (codes "<")) ts) _ _ _ b.1) [
        | inl g ↦ less_lead ts (tail ts) (mark_one (codes "<") ts g.0)
        | inr g ↦ elim (chosen (is_op (codes "::") ts) _ _ _ g.1) [
          | inl f ↦ colons_lead ts f.0
          | inr f ↦ same_some (λ (z : (PathStart × ℕ) × Tokens). lead_at z.1 ≡ Some OfPath → lead_at ts ≡ Some OfPath) ((start.Local, 0), ts) b.0 f.1 (λ k. k) lead
        ]
      ]
