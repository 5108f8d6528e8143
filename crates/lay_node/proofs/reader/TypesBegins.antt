-- What a path and a type begin with: the first token depends on the root alone, but for a path after a `<`, which begins with
-- a type in turn.
use Rattle.std.proofs.Common.{◌≡◌, ℕ, zero, suc, ◌≤◌, ◌<◌, Bool, true, false, not, ◌&&◌, List, [], ◌∷◌, ◌++◌, map, length, drop, codes, Option, option_map, Some, None, refl, sym, subst, ◌∙◌, arith, inl, inr}
use Rattle.std.specs.Prelude.{◌==◌}
use Rattle.std.specs.Str.{bytes_eq}
use Rattle.std.proofs.lemmas.Bool.{and_parts, false_from_ne_true}
use Rattle.lay_piece.specs.Forms.{opening}
use Rattle.lay_piece.specs.declared.kind.Delim.TheVariants.{Paren, Bracket}
use Rattle.lay_piece.specs.declared.kind.Kind.{Kind}
use Rattle.lay_piece.specs.declared.kind.Kind.TheVariants.{Ident, Underscore, Punct, Opener}
use Rattle.lay_token.specs.Lexes.{is_punct}
use Rattle.lay_token.specs.Operators.{begins_op, is_op}
use Rattle.lay_token.specs.declared.token.Token.{Token}
use Rattle.lay_form.specs.Form.{Bit, Blank, Fixed, Operator, Form, Done, Piece, LastComma, Part, punct, keyword, opener, closer, semicolon}
use Rattle.lay_form.specs.Notation.{when, piece, each, comma_gap, comma_list}
use Rattle.lay_form.specs.Spelled.{IsOne, IsBit, IsOperator, Spells}
use Rattle.lay_form.proofs.FormLaws.{shorter}
use Rattle.lay_node.specs.Ahead.{Tokens, first, tail, is_mark}
use Rattle.lay_node.specs.Begins.{Lead, OfPath, OfParen, OfNever, OfInfer, OfPointer, OfReference, OfBracket, OfImpl, OfDyn, OfFunc, lead_by, lead_at}
use Rattle.lay_node.specs.Words.{is_path_word, are_path_words, colons}
use Rattle.lay_node.specs.nodes.Call.{bang, about_call}
use Rattle.lay_node.specs.nodes.Facts.{Facts, forms}
use Rattle.lay_node.specs.nodes.SimplePath.{are_simple_words, is_simple_path, simple_words_form, simple_path_form}
use Rattle.lay_node.specs.nodes.Types.{TypeFacts, ArgsFacts, PathFacts, ty_facts, in_style, good_at, less, greater, lifetime_param_form, binder_form, abi_name, abi_form, segments_form, segments_good, of_form, of_good, deeper, tuple_form, type_forms, pointer_word, ref_lifetime, bounds_form, params_form, output_form, about_type, about_path, about_start, about_args, about_arg, about_bound, about_func_param}
use Rattle.lay_node.specs.tokens.Lists.{group_form, token_list}
use Rattle.lay_node.specs.reader.Types.{begins_given}
use Rattle.lay_node.specs.reader.Words.{given_name}
use Rattle.lay_node.specs.declared.simple_path.SimplePath.{SimplePath}
use Rattle.lay_node.specs.declared.token.Word.{Word}
use Rattle.lay_node.specs.declared.tokens.MacroCall.{MacroCall}
use Rattle.lay_node.specs.declared.types.Abi.{Abi}
use Rattle.lay_node.specs.declared.types.Arg.TheOpen.{Ty-F}
use Rattle.lay_node.specs.declared.types.Args.{Args}
use Rattle.lay_node.specs.declared.types.Binder.{Binder}
use Rattle.lay_node.specs.declared.types.Path.{Path}
use Rattle.lay_node.specs.declared.types.PathStart.{PathStart}
use Rattle.lay_node.specs.declared.types.PathStyle.{PathStyle}
use Rattle.lay_node.specs.declared.types.PathStyle.TheVariants.{Code, Kind as InKind}
use Rattle.lay_node.specs.declared.types.Ty.{Ty}
use Rattle.lay_node.specs.declared.types.Ty.TheVariants as ty
use Rattle.lay_node.specs.declared.types.TypePlace.{TypePlace}
use Rattle.lay_node.specs.declared.types.TypePlace.TheVariants.{Bounds, NoBounds}
use Rattle.lay_node.proofs.Fronts.{mark_one, one_front, one_no_op, other_op, one_shorter, op_shorter}
use Rattle.lay_node.proofs.Parts.{bit_alone, before_blank, piece_bit, word_kind, leaf_parts}
use Rattle.lay_node.proofs.nodes.TypesLaws.{TyView, IsPath, IsCall, IsParen, IsTuple, IsNever, IsInfer, IsPtr, IsRef, IsSlice, IsArray, IsFunc, IsBounds, PathStartView, IsLocal, IsGlobal, IsQualified, ArgsView, IsNone, IsAngle, IsRound, about_segment, type_view, start_view, args_view, type_path_is, type_call_is, type_paren_is, type_tuple_is, type_never_is, type_infer_is, type_ptr_is, type_ref_is, type_slice_is, type_array_is, type_func_is, type_bounds_is, start_local_is, start_global_is, start_qualified_is, args_none_is, args_angle_is, args_round_is, path_is}
use Rattle.lay_node.proofs.reader.Call.{bang_operator}
use Rattle.lay_node.proofs.reader.TypesFronts.{no_other_op, op_first, no_begins, lead_no_equals, word_lead, colons_lead, less_lead, word_no_mark, word_no_given}

-- ---- lists and forms

pub list_opens : (may : Bool) (o c : Bit) (fs : List Form) (depth : ℕ) (ts rest : Tokens) → Spells (comma_list may o c fs) depth ts rest
    → (inside : Tokens) × IsBit o ts inside
list_opens may o c [] depth ts rest s = (s.1.0, s.1.1)
list_opens may o c (f ∷ fs) depth ts rest s = (s.1.0, bit_alone o ts s.1.0 s.1.1)

pub list_front : (o c : Bit) (fs : List Form) (depth : ℕ) (ts rest : Tokens) → Spells (comma_list true o c fs) depth ts rest
    → (inside : Tokens) × IsBit o ts inside
list_front = list_opens true

pub opened : (f : Form) (depth : ℕ) (ts rest : Tokens) → Spells (deeper f) depth ts rest → (least : ℕ) × (depth ≡ suc least) × Spells f least ts rest
opened f zero ts rest s = absurd s
opened f (suc depth) ts rest s = (depth, refl, subst (λ us. Spells f depth ts us) s.2 s.1)

-- ---- what follows a word of a path

pub data ArgsFront (ts rest : Tokens) : Type 0 where
  OfNothing : ts ≡ rest → ArgsFront ts rest
  OfLess : (at : Tokens) → IsOne Punct (codes "<") ts at → ArgsFront ts rest
  OfLate : (at : Tokens) → is_op (codes "::") ts ≡ true → IsOne Punct (codes "<") (drop 2 ts) at → ArgsFront ts rest
  OfRound : (at : Tokens) → IsOne (Opener Paren) (opening Paren ∷ []) ts at → ArgsFront ts rest

pub args_front : (style : PathStyle) (a : Args) (depth : ℕ) (ts rest : Tokens) → Spells (in_style style (about_args a)).form depth ts rest → ArgsFront ts rest
args_front style a depth ts rest s = by style a (args_view a) s
  where
    late : (fs : List Form) (mid : Tokens) → IsOperator (codes "::") ts mid → Spells (comma_list true less greater fs) depth mid rest → ArgsFront ts rest
    late fs mid o l =
        let f = list_front less greater fs depth mid rest l in
        OfLate f.0 o.0 (subst (λ us. IsOne Punct (codes "<") us f.0) (sym o.1) f.1)

    by : (style : PathStyle) (a : Args) → ArgsView a → Spells (in_style style (about_args a)).form depth ts rest → ArgsFront ts rest
    by Code _ IsNone t = OfNothing (subst (λ (F : ArgsFacts). Spells F.code.form depth ts rest) args_none_is t)
    by InKind _ IsNone t = OfNothing (subst (λ (F : ArgsFacts). Spells F.kind.form depth ts rest) args_none_is t)
    by Code _ (IsAngle xs) t =
        let u = subst (λ (F : ArgsFacts). Spells F.code.form depth ts rest) (args_angle_is xs) t in
        late (forms (map about_arg xs)) u.0 (bit_alone (Operator (codes "::")) ts u.0 u.1) u.2
    by InKind _ (IsAngle xs) t =
        let u = subst (λ (F : ArgsFacts). Spells F.kind.form depth ts rest) (args_angle_is xs) t in
        elim u.1 [
          | inl e ↦ let f =
              list_front less greater (forms (map about_arg xs)) depth u.0 rest u.2 in OfLess f.0 (subst (λ us. IsOne Punct (codes "<") us f.0) (sym e) f.1)
          | inr b ↦ late (forms (map about_arg xs)) u.0 (bit_alone (Operator (codes "::")) ts u.0 b) u.2
        ]
    by Code _ (IsRound xs y) t =
        let u = subst (λ (F : ArgsFacts). Spells F.code.form depth ts rest) (args_round_is xs y) t in
        let f = list_front (opener Paren) (closer Paren) (type_forms (map about_type xs)) depth ts u.0 u.1 in OfRound f.0 f.1
    by InKind _ (IsRound xs y) t =
        let u = subst (λ (F : ArgsFacts). Spells F.kind.form depth ts rest) (args_round_is xs y) t in
        let f = list_front (opener Paren) (closer Paren) (type_forms (map about_type xs)) depth ts u.0 u.1 in OfRound f.0 f.1

-- Another operator stands there only where it follows the arguments.
pub args_no_op : (c : ℕ) (cs : List ℕ) (ts rest : Tokens) → (c == 60) ≡ false → bytes_eq (codes "::") (c ∷ cs) ≡ false → ArgsFront ts rest
    → is_op (c ∷ cs) rest ≡ false → is_op (c ∷ cs) ts ≡ false
args_no_op c cs ts rest no_less no_colons (OfNothing e) h = rw e h
args_no_op c cs ts rest no_less no_colons (OfLess at s) h = no_other_op c cs 60 ts at no_less s
args_no_op c cs ts rest no_less no_colons (OfLate at o s) h = other_op (codes "::") (c ∷ cs) no_colons ts o
args_no_op c cs ts rest no_less no_colons (OfRound at s) h = one_no_op (c ∷ cs) (Opener Paren) (opening Paren ∷ []) ts at refl s

-- ---- paths

pub path_parts : (style : PathStyle) (p : Path) (depth : ℕ) (ts rest : Tokens) → Spells (about_path p style).form depth ts rest
    → (mid : Tokens) × Spells (about_start p.start).form depth ts mid × Spells (segments_form style (map about_segment p.segments)) depth mid rest
path_parts style p depth ts rest s = subst (λ (F : PathFacts). Spells (F style).form depth ts rest) (path_is p) s

pub path_goods : (style : PathStyle) (p : Path) → (about_path p style).good ≡ true
    → ((about_start p.start).good ≡ true) × (segments_good style (map about_segment p.segments) ≡ true)
path_goods style p g =
    and_parts (about_start p.start).good (segments_good style (map about_segment p.segments)) (subst (λ (F : PathFacts). (F style).good ≡ true) (path_is p) g)

-- the first word, and what follows it
pub record SegmentsFront (depth : ℕ) (ts rest : Tokens) : Type 0 where
  pub raw : Bool
  pub text : List ℕ
  pub behind : Tokens
  pub word : IsOne (word_kind raw) text ts behind
  pub good : is_path_word raw text ≡ true
  pub colon : is_op (codes ":") rest ≡ false → is_op (codes ":") behind ≡ false
  pub shorter : length rest ≤ length behind

pub segments_front : (style : PathStyle) (ss : List (Word × Args)) (depth : ℕ) (ts rest : Tokens) → segments_good style (map about_segment ss) ≡ true
    → Spells (segments_form style (map about_segment ss)) depth ts rest → SegmentsFront depth ts rest
segments_front style [] depth ts rest g s = absurd (cc)
segments_front style (w ∷ []) depth ts rest g s =
    let args = in_style style (about_args w.1) in
    let l = leaf_parts w.0.raw w.0.text (Part args.form Done) depth ts rest s in
    let a = l.2 in
    let spelled : Spells args.form depth l.0 rest = subst (λ us. Spells args.form depth l.0 us) a.2 a.1 in
    record {
      raw = w.0.raw;
      text = w.0.text;
      behind = l.0;
      word = l.1;
      good = (and_parts (is_path_word w.0.raw w.0.text) args.good g).0;
      colon = λ h. args_no_op 58 [] l.0 rest refl refl (args_front style w.1 depth l.0 rest spelled) h;
      shorter = shorter args.form depth l.0 rest spelled;
    }
segments_front style (w ∷ v ∷ more) depth ts rest g s =
    let args = in_style style (about_args w.1) in
    let next : Form = Piece colons (segments_form style (map about_segment (v ∷ more))) in
    let l = leaf_parts w.0.raw w.0.text (Part args.form next) depth ts rest s in
    let a = l.2 in
    let b = a.2 in
    let o : IsOperator (codes "::") a.0 b.0 = bit_alone (Operator (codes "::")) a.0 b.0 b.1 in
    let goods =
    (and_parts (is_path_word w.0.raw w.0.text && args.good && not (about_args w.1).returns) (segments_good style (map about_segment (v ∷ more))) g).0 in
    let goods2 = (and_parts (is_path_word w.0.raw w.0.text && args.good) (not (about_args w.1).returns) goods).0 in
    record {
      raw = w.0.raw;
      text = w.0.text;
      behind = l.0;
      word = l.1;
      good = (and_parts (is_path_word w.0.raw w.0.text) args.good goods2).0;
      colon = λ h. args_no_op 58 [] l.0 a.0 refl refl (args_front style w.1 depth l.0 a.0 a.1) (other_op (codes "::") (codes ":") refl a.0 o.0);
      shorter = omega (arith, shorter args.form depth l.0 a.0 a.1, shorter next depth a.0 rest b);
    }

pub record Begun (l : Lead) (ts rest : Tokens) : Type 0 where
  pub lead : lead_at ts ≡ Some l
  pub less : length rest < length ts
  -- It isn't a parameter's name.
  pub plain : is_op (codes ":") rest ≡ false → begins_given ts ≡ false

op_no_given : (c : ℕ) (cs : List ℕ) (ts : Tokens) → is_op (c ∷ cs) ts ≡ true → begins_given ts ≡ false
unfolding given_name
op_no_given c cs ts h = rw (op_first c cs ts h).3 refl

mark_no_given : (text : List ℕ) (ts rest : Tokens) → IsOne Punct text ts rest → begins_given ts ≡ false
unfolding given_name
mark_no_given text ts rest s = rw (one_front Punct text ts rest s).1 refl

pub path_begins : (style : PathStyle) (p : Path) (depth : ℕ) (ts rest : Tokens) → Spells (about_path p style).form depth ts rest
    → (about_path p style).good ≡ true → Begun OfPath ts rest
path_begins style p depth ts rest s g =
    let t = path_parts style p depth ts rest s in
    let goods = path_goods style p g in
    by p.start (start_view p.start) t.0 t.1 t.2 goods.1
  where
    segments : Form
    segments = segments_form style (map about_segment p.segments)

    by : (b : PathStart) → PathStartView b → (mid : Tokens) → Spells (about_start b).form depth ts mid → Spells segments depth mid rest
        → segments_good style (map about_segment p.segments) ≡ true → Begun OfPath ts rest
    by _ IsLocal mid t u h =
        let e : ts ≡ mid = subst (λ (F : Facts). Spells F.form depth ts mid) start_local_is t in
        let f = segments_front style p.segments depth mid rest h u in
        subst (λ us. Begun OfPath us rest) (sym e) (record {
          lead = word_lead f.raw f.text mid f.behind f.word f.good;
          less = omega (arith, one_shorter (word_kind f.raw) f.text mid f.behind f.word, f.shorter);
          plain = λ n. word_no_given f.raw f.text mid f.behind f.word (f.colon n);
        })
    by _ IsGlobal mid t u h =
        let o : IsOperator (codes "::") ts mid =
        piece_bit (Operator (codes "::")) depth ts mid (subst (λ (F : Facts). Spells F.form depth ts mid) start_global_is t) in
        record {
          lead = colons_lead ts o.0;
          less = omega (arith, op_shorter 58 (codes ":") ts mid o, shorter segments depth mid rest u);
          plain = λ n. op_no_given 58 (codes ":") ts o.0;
        }
    by _ (IsQualified x of) mid t u h =
        let v = subst (λ (F : Facts). Spells F.form depth ts mid) (start_qualified_is x of) t in
        let o : IsOne Punct (codes "<") ts v.0 = bit_alone less ts v.0 v.1 in
        let behind : Form = Part (about_type x).told.form (of_form (option_map about_path of) (piece (greater ∷ colons))) in
        record {
          lead = less_lead ts v.0 o;
          less = omega (arith, one_shorter Punct (codes "<") ts v.0 o, shorter behind depth v.0 mid v.2, shorter segments depth mid rest u);
          plain = λ n. mark_no_given (codes "<") ts v.0 o;
        }

-- a path of words alone, before a sign that isn't `:`
simple_begins : (p : SimplePath) (depth : ℕ) (ts rest : Tokens) → is_simple_path p ≡ true → Spells (simple_path_form p) depth ts rest → Begun OfPath ts rest
simple_begins p depth ts rest g s = at p.global p.words g s
  where
    at : (leads : Bool) (words : List Word) → are_simple_words words ≡ true → Spells (when leads colons (simple_words_form words Done)) depth ts rest
        → Begun OfPath ts rest
    at leads [] g s = absurd (cc)
    at true (one ∷ more) g s =
        let o : IsOperator (codes "::") ts s.0 = bit_alone (Operator (codes "::")) ts s.0 s.1 in
        record {
          lead = colons_lead ts o.0;
          less = omega (arith, op_shorter 58 (codes ":") ts s.0 o, shorter (simple_words_form (one ∷ more) Done) depth s.0 rest s.2);
          plain = λ n. op_no_given 58 (codes ":") ts o.0;
        }
    at false (one ∷ []) g s =
        let l = leaf_parts one.raw one.text Done depth ts rest s in
        let word : IsOne (word_kind one.raw) one.text ts rest = subst (λ us. IsOne (word_kind one.raw) one.text ts us) l.2 l.1 in
        record {
          lead = word_lead one.raw one.text ts rest word (and_parts (is_path_word one.raw one.text) true g).0;
          less = one_shorter (word_kind one.raw) one.text ts rest word;
          plain = λ n. word_no_given one.raw one.text ts rest word n;
        }
    at false (one ∷ two ∷ more) g s =
        let next : Form = Piece colons (simple_words_form (two ∷ more) Done) in
        let l = leaf_parts one.raw one.text next depth ts rest s in
        let b = l.2 in
        let o : IsOperator (codes "::") l.0 b.0 = bit_alone (Operator (codes "::")) l.0 b.0 b.1 in
        record {
          lead = word_lead one.raw one.text ts l.0 l.1 (and_parts (is_path_word one.raw one.text) (are_path_words (two ∷ more)) g).0;
          less = omega (arith, one_shorter (word_kind one.raw) one.text ts l.0 l.1, shorter next depth l.0 rest b);
          plain = λ n. word_no_given one.raw one.text ts l.0 l.1 (other_op (codes "::") (codes ":") refl l.0 o.0);
        }

pub call_begins : (c : MacroCall) (depth : ℕ) (ts rest : Tokens) → Spells (about_call c).form depth ts rest → (about_call c).good ≡ true → Begun OfPath ts rest
call_begins c depth ts rest s g =
    let p = simple_begins c.path depth ts s.0 (and_parts (is_simple_path c.path) _ g).0 s.1 in
    let behind : Form = Piece (bang c.tokens.delim) (group_form c.tokens Done) in
    let o = bang_operator c.tokens.delim s.0 s.2.0 s.2.1 in
    record {
      lead = p.lead;
      less = omega (arith, p.less, shorter behind depth s.0 rest s.2);
      plain = λ n. p.plain (other_op (codes "!") (codes ":") refl s.0 o.0);
    }

-- ---- types

abbrev pub lead_of : (x : Ty) → TyView x → Lead
lead_of _ (IsPath path) = OfPath
lead_of _ (IsCall call) = OfPath
lead_of _ (IsParen x) = OfParen
lead_of _ (IsTuple xs) = OfParen
lead_of _ IsNever = OfNever
lead_of _ IsInfer = OfInfer
lead_of _ (IsPtr mutable x) = OfPointer
lead_of _ (IsRef lifetime mutable x) = OfReference
lead_of _ (IsSlice x) = OfBracket
lead_of _ (IsArray x tokens) = OfBracket
lead_of _ (IsFunc binder is_unsafe abi params variadic output) = OfFunc
lead_of _ (IsBounds true bounds) = OfDyn
lead_of _ (IsBounds false bounds) = OfImpl

begun_by : (k : Kind) (text : List ℕ) (l : Lead) → ((us : Tokens) → lead_by k text us ≡ Some l) → (ts mid rest : Tokens)
    → ((t : Token) → begins_given (record t { kind = k; text = text } ∷ mid) ≡ false) → IsOne k text ts mid → length rest ≤ length mid → Begun l ts rest
unfolding lead_at
begun_by k text l is ts mid rest none s le =
    let f = one_front k text ts mid s in
    let t : Token = record f.0 { kind = k; text = text } in
    record {
      lead = rw f.1 (is (t ∷ mid));
      less = omega (arith, le, one_shorter k text ts mid s);
      plain = λ n. subst (λ us. begins_given us ≡ false) (sym f.1) (none f.0);
    }

pub good_of : (place : TypePlace) (x : TypeFacts) → good_at place x ≡ true → x.told.good ≡ true
good_of Bounds x g = g
good_of NoBounds x g = (and_parts x.told.good (not x.several) g).0

func_begins : (binder : Option Binder) (is_unsafe : Bool) (abi : Option Abi) (f : Form) (depth : ℕ) (ts rest : Tokens)
    → Spells (binder_form binder (when is_unsafe (keyword (codes "unsafe") ∷ Blank ∷ []) (abi_form abi (Piece (keyword (codes "fn") ∷ []) f)))) depth ts rest
    → Begun OfFunc ts rest
unfolding given_name
func_begins (Some b) is_unsafe abi f depth ts rest s =
    begun_by Ident (codes "for") OfFunc (λ us. refl) ts s.0 rest (λ t. refl) (bit_alone (keyword (codes "for")) ts s.0 s.1)
    (shorter (Part (comma_list true less greater (map lifetime_param_form b.params)) (Piece (Blank ∷ [])
    (when is_unsafe (keyword (codes "unsafe") ∷ Blank ∷ []) (abi_form abi (Piece (keyword (codes "fn") ∷ []) f))))) depth s.0 rest s.2)
func_begins None true abi f depth ts rest s =
    begun_by Ident (codes "unsafe") OfFunc (λ us. refl) ts s.0 rest (λ t. refl) (before_blank (keyword (codes "unsafe")) ts s.0 s.1)
    (shorter (abi_form abi (Piece (keyword (codes "fn") ∷ []) f)) depth s.0 rest s.2)
func_begins None false (Some a) f depth ts rest s =
    begun_by Ident (codes "extern") OfFunc (λ us. refl) ts s.0 rest (λ t. refl) (before_blank (keyword (codes "extern")) ts s.0 s.1)
    (shorter (abi_name a.name (Piece (keyword (codes "fn") ∷ []) f)) depth s.0 rest s.2)
func_begins None false None f depth ts rest s =
    begun_by Ident (codes "fn") OfFunc (λ us. refl) ts s.0 rest (λ t. refl) (bit_alone (keyword (codes "fn")) ts s.0 s.1) (shorter f depth s.0 rest s.2)

infer_begins : (ts rest : Tokens) → IsOne Underscore (codes "_") ts rest → Begun OfInfer ts rest
unfolding lead_at given_name
infer_begins ts rest s = record {
  lead = rw (one_front Underscore (codes "_") ts rest s).1 refl;
  less = one_shorter Underscore (codes "_") ts rest s;
  plain = λ n. rw ((one_front Underscore (codes "_") ts rest s).1, n) refl;
}

module _ (depth : ℕ) (ts rest : Tokens) where
  -- a type with these facts begins so
  abbrev Begins : Lead → TypeFacts → Type 0
  Begins l F = Spells F.told.form depth ts rest → F.told.good ≡ true → Begun l ts rest

  told_begins : (l : Lead) (x : Ty) (F : TypeFacts) → about_type x ≡ F → Begins l F → Begins l (about_type x)
  told_begins l x F e f = subst (λ (G : TypeFacts). Begins l G) (sym e) f

  bracketed : (l : Lead) (k : Kind) (text : List ℕ) → ((us : Tokens) → lead_by k text us ≡ Some l)
      → ((t : Token) (us : Tokens) → begins_given (record t { kind = k; text = text } ∷ us) ≡ false)
      → (f : Form) (good : Bool) → Spells (deeper (Piece (Fixed k text ∷ []) f)) depth ts rest → good ≡ true → Begun l ts rest
  bracketed l k text is none f good s g =
      let i = opened (Piece (Fixed k text ∷ []) f) depth ts rest s in
      let t = i.2 in
      begun_by k text l is ts t.0 rest (λ u. none u t.0) (bit_alone (Fixed k text) ts t.0 t.1) (shorter f i.0 t.0 rest t.2)

  tuple_begins : (xs : List Ty) → Begins OfParen (ty_facts (Ty-F.Tuple (map about_type xs)))
  unfolding given_name
  tuple_begins xs s g =
      let i = opened (tuple_form (map about_type xs)) depth ts rest s in
      let f = front xs i.0 i.2 in begun_by (Opener Paren) (opening Paren ∷ []) OfParen (λ us. refl) ts f.0 rest (λ t. refl) f.1 f.2
    where
      list : (fs : List Form) (d : ℕ) → Spells (comma_list true (opener Paren) (closer Paren) fs) d ts rest
          → (inside : Tokens) × IsOne (Opener Paren) (opening Paren ∷ []) ts inside × (length rest ≤ length inside)
      list [] d t = (t.1.0, t.1.1, shorter (piece (closer Paren ∷ [])) d t.1.0 rest (t.0, t.1.2, t.2))
      list (e ∷ es) d t =
          let u = t.1 in
          let inner : Form = Part e (Part (each comma_gap es) (LastComma 0 (piece (closer Paren ∷ [])))) in
          (u.0, bit_alone (opener Paren) ts u.0 u.1, subst (λ us. length us ≤ length u.0) t.2 (shorter inner d u.0 t.0 u.2))

      front : (xs : List Ty) (d : ℕ) → Spells (tuple_form (map about_type xs)) d ts rest
          → (inside : Tokens) × IsOne (Opener Paren) (opening Paren ∷ []) ts inside × (length rest ≤ length inside)
      front [] d t = list [] d t
      front (x ∷ []) d t =
          (t.0, bit_alone (opener Paren) ts t.0 t.1, shorter (Part (about_type x).told.form (piece (punct 44 ∷ closer Paren ∷ []))) d t.0 rest t.2)
      front (x ∷ y ∷ ys) d t = list (type_forms (map about_type (x ∷ y ∷ ys))) d t

  begins : (x : Ty) (v : TyView x) → Begins (lead_of x v) (about_type x)
  unfolding given_name
  begins _ (IsPath p) = told_begins OfPath (ty.Path p) (ty_facts (Ty-F.Path (about_path p))) (type_path_is p)
      (λ s g. let i = opened (about_path p InKind).form depth ts rest s in path_begins InKind p i.0 ts rest i.2 g)
  begins _ (IsCall c) = told_begins OfPath (ty.Call c) (ty_facts (Ty-F.Call c)) (type_call_is c)
      (λ s g. let i = opened (about_call c).form depth ts rest s in call_begins c i.0 ts rest i.2 g)
  begins _ (IsParen x) = told_begins OfParen (ty.Paren x) (ty_facts (Ty-F.Paren (about_type x))) (type_paren_is x)
      (bracketed OfParen (Opener Paren) (opening Paren ∷ []) (λ us. refl) (λ t us. refl) (Part (about_type x).told.form (piece (closer Paren ∷ []))) _)
  begins _ (IsTuple xs) = told_begins OfParen (ty.Tuple xs) (ty_facts (Ty-F.Tuple (map about_type xs))) (type_tuple_is xs) (tuple_begins xs)
  begins _ IsNever = told_begins OfNever ty.Never (ty_facts Ty-F.Never) type_never_is
      (bracketed OfNever Punct (codes "!") (λ us. refl) (λ t us. refl) Done _)
  begins _ IsInfer = told_begins OfInfer ty.Infer (ty_facts Ty-F.Infer) type_infer_is
      (λ s g.
      let i = opened (piece (Fixed Underscore (codes "_") ∷ [])) depth ts rest s in
      let o : IsOne Underscore (codes "_") ts rest = piece_bit (Fixed Underscore (codes "_")) i.0 ts rest i.2 in
      infer_begins ts rest o)
  begins _ (IsPtr m x) = told_begins OfPointer (ty.Ptr m x) (ty_facts (Ty-F.Ptr m (about_type x))) (type_ptr_is m x)
      (λ s g.
      let f : Form = Part (about_type x).told.form Done in
      let i = opened (Piece (punct 42 ∷ pointer_word m ∷ Blank ∷ []) f) depth ts rest s in
      let t = i.2 in
      let bits = t.1 in
      begun_by Punct (codes "*") OfPointer (λ us. refl) ts bits.0 rest (λ t. refl) bits.1 (shorter (Piece (pointer_word m ∷ Blank ∷ []) f) i.0 bits.0 rest (t.0, bits.2, t.2)))
  begins _ (IsRef l m x) = told_begins OfReference (ty.Ref l m x) (ty_facts (Ty-F.Ref l m (about_type x))) (type_ref_is l m x)
      (bracketed OfReference Punct (codes "&") (λ us. refl) (λ t us. refl)
      (ref_lifetime l (when m (keyword (codes "mut") ∷ Blank ∷ []) (Part (about_type x).told.form Done))) _)
  begins _ (IsSlice x) = told_begins OfBracket (ty.Slice x) (ty_facts (Ty-F.Slice (about_type x))) (type_slice_is x)
      (bracketed OfBracket (Opener Bracket) (opening Bracket ∷ []) (λ us. refl) (λ t us. refl) (Part (about_type x).told.form (piece (closer Bracket ∷ []))) _)
  begins _ (IsArray x us) = told_begins OfBracket (ty.Array x us) (ty_facts (Ty-F.Array (about_type x) us)) (type_array_is x us)
      (bracketed OfBracket (Opener Bracket) (opening Bracket ∷ []) (λ us. refl) (λ t us. refl)
      (Part (about_type x).told.form (Piece (semicolon ++ Blank ∷ []) (Part (token_list us) (piece (closer Bracket ∷ []))))) _)
  begins _ (IsFunc binder is_unsafe abi params variadic output) =
      told_begins OfFunc (ty.Func binder is_unsafe abi params variadic output)
      (ty_facts (Ty-F.Func binder is_unsafe abi (map about_func_param params) variadic (option_map about_type output)))
      (type_func_is binder is_unsafe abi params variadic output)
      (λ s g.
      let f : Form = Part (params_form (map about_func_param params) variadic) (output_form (option_map about_type output)) in
      let i =
      opened (binder_form binder (when is_unsafe (keyword (codes "unsafe") ∷ Blank ∷ []) (abi_form abi (Piece (keyword (codes "fn") ∷ []) f)))) depth ts rest s in
      func_begins binder is_unsafe abi f i.0 ts rest i.2)
  begins _ (IsBounds true bs) = told_begins OfDyn (ty.Bounds true bs) (ty_facts (Ty-F.Bounds true (map about_bound bs))) (type_bounds_is true bs)
      (λ s g.
      let f : Form = Part (bounds_form (map about_bound bs)) Done in
      let i = opened (Piece (keyword (codes "dyn") ∷ Blank ∷ []) f) depth ts rest s in
      let t = i.2 in
      begun_by Ident (codes "dyn") OfDyn (λ us. refl) ts t.0 rest (λ t. refl) (before_blank (keyword (codes "dyn")) ts t.0 t.1) (shorter f i.0 t.0 rest t.2))
  begins _ (IsBounds false bs) = told_begins OfImpl (ty.Bounds false bs) (ty_facts (Ty-F.Bounds false (map about_bound bs))) (type_bounds_is false bs)
      (λ s g.
      let f : Form = Part (bounds_form (map about_bound bs)) Done in
      let i = opened (Piece (keyword (codes "impl") ∷ Blank ∷ []) f) depth ts rest s in
      let t = i.2 in
      begun_by Ident (codes "impl") OfImpl (λ us. refl) ts t.0 rest (λ t. refl) (before_blank (keyword (codes "impl")) ts t.0 t.1) (shorter f i.0 t.0 rest t.2))

pub type_begins : (x : Ty) (place : TypePlace) (depth : ℕ) (ts rest : Tokens) → Spells (about_type x).told.form depth ts rest
    → good_at place (about_type x) ≡ true → Begun (lead_of x (type_view x)) ts rest
type_begins x place depth ts rest s g = begins depth ts rest x (type_view x) s (good_of place (about_type x) g)

-- ---- what follows a first `<`

-- the first characters of an operator that more of it would have to follow
shift_behind : (c d : ℕ) (cs : List ℕ) (ts rest : Tokens) → IsOne Punct (c ∷ []) ts rest → begins_op (d ∷ cs) rest ≡ false → begins_op (c ∷ d ∷ cs) ts ≡ false
shift_behind c d cs [] rest s h = absurd s
shift_behind c d cs (t ∷ us) rest s h = false_from_ne_true (begins_op (c ∷ d ∷ cs) (t ∷ us)) (λ e.
    let p = and_parts (is_punct t.kind && bytes_eq t.text (c ∷ [])) (t.joint && begins_op (d ∷ cs) us) e in
    let q = (and_parts t.joint (begins_op (d ∷ cs) us) p.1).1 in
    let r : begins_op (d ∷ cs) rest ≡ true = subst (λ vs. begins_op (d ∷ cs) vs ≡ true) s.2 q in
    absurd (cc))

pub lead_no_less : (ts : Tokens) (l : Lead) → (Some OfPath ≡ Some l → ⊥) → lead_at ts ≡ Some l → first (is_mark (codes "<")) ts ≡ false
lead_no_less ts l differ h =
    false_from_ne_true (first (is_mark (codes "<")) ts) (λ e. differ (sym (less_lead ts (tail ts) (mark_one (codes "<") ts e)) ∙ h))

lead_no_shift : (ts : Tokens) (l : Lead) → (Some OfPath ≡ Some l → ⊥) → lead_at ts ≡ Some l → begins_op (codes "<=") ts ≡ false
lead_no_shift ts l differ h = no_begins 60 (codes "=") ts (lead_no_less ts l differ h)

op_no_less : (ts : Tokens) → is_op (codes "::") ts ≡ true → begins_op (codes "<=") ts ≡ false
op_no_less ts h = rw (op_first 58 (codes ":") ts h).3 refl

pub path_no_shift : (style : PathStyle) (p : Path) (depth : ℕ) (ts rest : Tokens) → Spells (about_path p style).form depth ts rest
    → (about_path p style).good ≡ true → begins_op (codes "<=") ts ≡ false
path_no_shift style p depth ts rest s g =
    let t = path_parts style p depth ts rest s in
    let goods = path_goods style p g in
    by p.start (start_view p.start) t.0 t.1 t.2 goods.0 goods.1
  where
    by : (b : PathStart) → PathStartView b → (mid : Tokens) → Spells (about_start b).form depth ts mid
        → Spells (segments_form style (map about_segment p.segments)) depth mid rest
        → (about_start b).good ≡ true → segments_good style (map about_segment p.segments) ≡ true → begins_op (codes "<=") ts ≡ false
    by _ IsLocal mid t u h k =
        let e : ts ≡ mid = subst (λ (F : Facts). Spells F.form depth ts mid) start_local_is t in
        let f = segments_front style p.segments depth mid rest k u in
        rw e (no_begins 60 (codes "=") mid (word_no_mark (codes "<") f.raw f.text mid f.behind f.word))
    by _ IsGlobal mid t u h k =
        let o : IsOperator (codes "::") ts mid =
        piece_bit (Operator (codes "::")) depth ts mid (subst (λ (F : Facts). Spells F.form depth ts mid) start_global_is t) in
        op_no_less ts o.0
    by _ (IsQualified x of) mid t u h k =
        let v = subst (λ (F : Facts). Spells F.form depth ts mid) (start_qualified_is x of) t in
        let good = subst (λ (F : Facts). F.good ≡ true) (start_qualified_is x of) h in
        let o : IsOne Punct (codes "<") ts v.0 = bit_alone less ts v.0 v.1 in
        let b = type_begins x Bounds depth v.0 v.2.0 v.2.1 (and_parts (good_at Bounds (about_type x)) (of_good (option_map about_path of)) good).0 in
        shift_behind 60 61 [] ts v.0 o (no_begins 61 [] v.0 (lead_no_equals v.0 (lead_of x (type_view x)) b.lead))

simple_no_shift : (p : SimplePath) (depth : ℕ) (ts rest : Tokens) → Spells (simple_path_form p) depth ts rest → is_simple_path p ≡ true
    → begins_op (codes "<=") ts ≡ false
simple_no_shift p depth ts rest s g = at p.global p.words g s
  where
    at : (leads : Bool) (words : List Word) → are_simple_words words ≡ true → Spells (when leads colons (simple_words_form words Done)) depth ts rest
        → begins_op (codes "<=") ts ≡ false
    at leads [] g s = absurd (cc)
    at true (one ∷ more) g s = let o : IsOperator (codes "::") ts s.0 = bit_alone (Operator (codes "::")) ts s.0 s.1 in op_no_less ts o.0
    at false (one ∷ []) g s =
        let l = leaf_parts one.raw one.text Done depth ts rest s in no_begins 60 (codes "=") ts (word_no_mark (codes "<") one.raw one.text ts l.0 l.1)
    at false (one ∷ two ∷ more) g s =
        let l = leaf_parts one.raw one.text (Piece colons (simple_words_form (two ∷ more) Done)) depth ts rest s in
        no_begins 60 (codes "=") ts (word_no_mark (codes "<") one.raw one.text ts l.0 l.1)

-- No type begins with `<=`.
pub type_no_shift : (x : Ty) (place : TypePlace) (depth : ℕ) (ts rest : Tokens) → Spells (about_type x).told.form depth ts rest
    → good_at place (about_type x) ≡ true → begins_op (codes "<=") ts ≡ false
type_no_shift x place depth ts rest s g = by x (type_view x) s (good_of place (about_type x) g) (type_begins x place depth ts rest s g).lead
  where
    by : (x : Ty) (v : TyView x) → Spells (about_type x).told.form depth ts rest → (about_type x).told.good ≡ true → lead_at ts ≡ Some (lead_of x v)
        → begins_op (codes "<=") ts ≡ false
    by _ (IsPath p) t h l =
        let u = subst (λ (F : TypeFacts). Spells F.told.form depth ts rest) (type_path_is p) t in
        let i = opened (about_path p InKind).form depth ts rest u in
        path_no_shift InKind p i.0 ts rest i.2 (subst (λ (F : TypeFacts). F.told.good ≡ true) (type_path_is p) h)
    by _ (IsCall c) t h l =
        let u = subst (λ (F : TypeFacts). Spells F.told.form depth ts rest) (type_call_is c) t in
        let i = opened (about_call c).form depth ts rest u in
        let w = i.2 in
        simple_no_shift c.path i.0 ts w.0 w.1 (and_parts (is_simple_path c.path) _ (subst (λ (F : TypeFacts). F.told.good ≡ true) (type_call_is c) h)).0
    by _ (IsParen x) t h l = lead_no_shift ts OfParen (λ e. cc) l
    by _ (IsTuple xs) t h l = lead_no_shift ts OfParen (λ e. cc) l
    by _ IsNever t h l = lead_no_shift ts OfNever (λ e. cc) l
    by _ IsInfer t h l = lead_no_shift ts OfInfer (λ e. cc) l
    by _ (IsPtr m x) t h l = lead_no_shift ts OfPointer (λ e. cc) l
    by _ (IsRef r m x) t h l = lead_no_shift ts OfReference (λ e. cc) l
    by _ (IsSlice x) t h l = lead_no_shift ts OfBracket (λ e. cc) l
    by _ (IsArray x us) t h l = lead_no_shift ts OfBracket (λ e. cc) l
    by _ (IsFunc binder is_unsafe abi params variadic output) t h l = lead_no_shift ts OfFunc (λ e. cc) l
    by _ (IsBounds true bs) t h l = lead_no_shift ts OfDyn (λ e. cc) l
    by _ (IsBounds false bs) t h l = lead_no_shift ts OfImpl (λ e. cc) l
