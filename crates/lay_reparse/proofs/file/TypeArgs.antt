-- Generic arguments, bounds and paths pass, given the facts about them and that what is within them passes.
use Rattle.std.proofs.Common.{◌≡◌, ℕ, List, [], ◌∷◌, Bool, true, false, not, ◌&&◌, refl, codes, Option, Some, None}
use Rattle.std.specs.List.{list_all}
use Rattle.std.proofs.lemmas.Bool.{and_parts}
use Rattle.lay_piece.specs.declared.kind.Delim.TheVariants.{Paren}
use Rattle.lay_piece.specs.declared.kind.Kind.TheVariants as kind
use Rattle.lay_form.specs.Form as form
use Rattle.lay_form.specs.Form.{Blank, Operator, Form, Done, Piece, opener, closer}
use Rattle.lay_form.specs.Notation.{B, piece, when, comma_list}
use Rattle.lay_form.specs.Pieces.{are_pieces}
use Rattle.lay_node.specs.Words.{is_name, is_path_word, leaf_of, colons}
use Rattle.lay_node.specs.nodes.Facts.{Facts, forms, all_good}
use Rattle.lay_node.specs.nodes.Types.{const_form, TypeFacts, type_forms, all_types_good, ArgsFacts, in_style, PathFacts, output_form, output_good, round_form, args_facts, is_there, bounds_form, bounds_good, meets_form, bound_facts, constraint_facts, arg_facts, segment_form, segments_form, segment_good, segments_good, of_form, of_good, start_facts, path_facts, less, greater, joined, binder_form, is_binder}
use Rattle.lay_node.specs.declared.token.Lifetime.{Lifetime}
use Rattle.lay_node.specs.declared.token.Name.{Name}
use Rattle.lay_node.specs.declared.token.Word.{Word}
use Rattle.lay_node.specs.declared.types.Arg.TheOpen.{Arg-F, Args-F, Bound-F, Constraint-F, PathStart-F}
use Rattle.lay_node.specs.declared.types.Binder.{Binder}
use Rattle.lay_node.specs.declared.types.Capture.{Capture}
use Rattle.lay_node.specs.declared.types.ConstArg.{ConstArg}
use Rattle.lay_node.specs.declared.types.PathStyle.{PathStyle}
use Rattle.lay_node.specs.declared.types.PathStyle.TheVariants as style
use Rattle.lay_reparse.proofs.borders.Need.{all}
use Rattle.lay_reparse.proofs.borders.Border.{Border}
use Rattle.lay_reparse.proofs.borders.Move.{under}
use Rattle.lay_reparse.proofs.forms.Passes.{plain, leads}
use Rattle.lay_reparse.proofs.forms.Rules.{same_whenever, wider, tables, From, All, Leads, ends, fixed, breaks, within, part, level, left_out, list_fits, list}
use Rattle.lay_reparse.proofs.file.Nodes.{ends_name, start_path, word, rest_pieces, list_pieces}
use Rattle.lay_reparse.proofs.file.TypeParts.{ends_type, ends_arg, joined_passes, joined_pieces, leaf_passes, binder_passes, binder_pieces, captures_form_passes, const_passes}

-- ---- the facts about a node

-- Its form passes from b to c, if it is well formed and made of pieces.
pub record Passing (b c : Border) (x : Facts) : Type 0 where
  pub go : x.good ≡ true → are_pieces x.form ≡ true → From b x.form c

abbrev pub TypePasses : TypeFacts → Type 0
TypePasses x = Passing plain ends_type x.told

-- in both styles
pub record ArgsPass (x : ArgsFacts) : Type 0 where
  pub in_code : Passing ends_name ends_type x.code
  pub in_kind : Passing ends_name ends_type x.kind

pub record PathPasses (x : PathFacts) : Type 0 where
  pub go : (s : PathStyle) → Passing plain ends_type (x s)

args_in : (s : PathStyle) {x : ArgsFacts} → ArgsPass x → Passing ends_name ends_type (in_style s x)
args_in style.Code p = p.in_code
args_in style.Kind p = p.in_kind

-- each of a list, and the one of an option
abbrev pub Each : {A : Type 0} → (A → Type 0) → List A → Type 0
Each P [] = Unit {0}
Each P (x ∷ xs) = P x × Each P xs

abbrev pub Any : {A : Type 0} → (A → Type 0) → Option A → Type 0
Any P None = Unit {0}
Any P (Some x) = P x

pub all_pass : (b c : Border) (xs : List Facts) → Each (Passing b c) xs → all_good xs ≡ true
    → list_all are_pieces (forms xs) ≡ true → All b (forms xs) c
all_pass b c [] k g w = tt
all_pass b c (x ∷ xs) k g w =
    let n = and_parts x.good _ g in
    let p = and_parts (are_pieces x.form) _ w in
    (k.0.go n.0 p.0, all_pass b c xs k.1 n.1 p.1)

pub types_pass : (xs : List TypeFacts) → Each TypePasses xs → all_types_good xs ≡ true
    → list_all are_pieces (type_forms xs) ≡ true → All plain (type_forms xs) ends_type
types_pass [] k g w = tt
types_pass (x ∷ xs) k g w =
    let n = and_parts x.told.good _ g in
    let p = and_parts (are_pieces x.told.form) _ w in
    (k.0.go n.0 p.0, types_pass xs k.1 n.1 p.1)

-- ---- return types

pub output_passes : (output : Option TypeFacts) → Any TypePasses output → output_good output ≡ true
    → are_pieces (output_form output) ≡ true → From plain (output_form output) ends_type
unfolding tables
output_passes None k g w = ends refl
output_passes (Some x) k g w =
    fixed refl (part plain ends_type refl
    (k.go (and_parts x.told.good _ g).0 (and_parts (are_pieces x.told.form) true w).0) (ends refl))

-- ---- generic arguments

code_args : list_fits true less greater start_path plain ends_arg ends_type ≡ true
unfolding tables
code_args = refl

kind_args : list_fits true less greater ends_name plain ends_arg ends_type ≡ true
unfolding tables
kind_args = refl

round_args : list_fits true (opener Paren) (closer Paren) ends_name plain ends_type plain ≡ true
unfolding tables
round_args = refl

round_passes : (inputs : List TypeFacts) (output : Option TypeFacts) → Each TypePasses inputs → Any TypePasses output
    → all_types_good inputs && output_good output ≡ true
    → are_pieces (round_form inputs output) ≡ true
    → From ends_name (round_form inputs output) ends_type
round_passes inputs output k l g w =
    let es = type_forms inputs in
    let n = and_parts (all_types_good inputs) _ g in
    let p = and_parts (are_pieces (comma_list true (opener Paren) (closer Paren) es)) _ w in
    part ends_name plain refl
    (list true (opener Paren) (closer Paren) es plain ends_type round_args
    (types_pass inputs k n.0 (list_pieces true (opener Paren) (closer Paren) es p.0)))
    (output_passes output l n.1 p.1)

pub none_pass : ArgsPass (args_facts Args-F.None)
unfolding tables
none_pass = record {
  in_code = record { go = λ g w. ends refl };
  in_kind = record { go = λ g w. ends refl };
}

pub angle_pass : (xs : List Facts) → Each (Passing plain ends_arg) xs → ArgsPass (args_facts (Args-F.Angle xs))
unfolding tables
angle_pass xs k = record {
  in_code = record {
    go = λ g w.
        fixed refl (list true less greater (forms xs) plain ends_arg code_args
        (all_pass plain ends_arg xs k g (list_pieces true less greater (forms xs) w)));
  };
  in_kind = record {
    go = λ g w.
        left_out refl refl (list true less greater (forms xs) plain ends_arg kind_args
        (all_pass plain ends_arg xs k g (list_pieces true less greater (forms xs) w)));
  };
}

pub round_pass : (inputs : List TypeFacts) (output : Option TypeFacts) → Each TypePasses inputs → Any TypePasses output
    → ArgsPass (args_facts (Args-F.Round inputs output))
round_pass inputs output k l = record {
  in_code = record { go = λ g w. cc };
  in_kind = record { go = λ g w. round_passes inputs output k l g w };
}

-- ---- bounds

further_bound : Leads (λ f. B (Piece (Operator (codes "+") ∷ Blank ∷ []) f)) plain ends_type
unfolding tables
further_bound = record { to = λ e f k l. breaks refl (fixed refl (part plain ends_type refl k l)) }

-- bounds with `+` between them
pub bounds_pass : (xs : List Facts) → Each (Passing plain ends_type) xs → bounds_good xs ≡ true
    → are_pieces (bounds_form xs) ≡ true → From plain (bounds_form xs) ends_type
unfolding tables
bounds_pass xs k g w =
    let lead : Form → Form = λ f. B (Piece (Operator (codes "+") ∷ Blank ∷ []) f) in
    let p = (and_parts (are_pieces (joined lead (forms xs))) true w).0 in
    within plain ends_type refl
    (joined_passes (forms xs) refl further_bound
    (all_pass plain ends_type xs k (and_parts (is_there xs) _ g).1 (joined_pieces lead (λ f. refl) (forms xs) p)))
    (ends refl)

maybe_pieces : (maybe : Bool) (f : Form) → are_pieces (when maybe (form.Fixed kind.Punct (codes "?") ∷ []) f) ≡ true
    → are_pieces f ≡ true
maybe_pieces true f w = w
maybe_pieces false f w = w

meets_passes : (maybe : Bool) (binder : Option Binder) (x : Facts) → Passing plain ends_type x
    → is_binder binder && x.good ≡ true → are_pieces (meets_form maybe binder x.form) ≡ true
    → From plain (meets_form maybe binder x.form) ends_type
unfolding tables
meets_passes maybe binder x k g w =
    let n = and_parts (is_binder binder) _ g in
    let f = form.Part x.form Done in
    let p = maybe_pieces maybe (binder_form binder f) w in
    same_whenever maybe (form.Fixed kind.Punct (codes "?") ∷ []) refl refl refl (binder_passes binder n.0 p
    (part plain ends_type refl (k.go n.1 (and_parts (are_pieces x.form) true (binder_pieces binder f p)).0)
    (ends refl)))

pub outlives_pass : (l : Lifetime) → Passing plain ends_type (bound_facts (Bound-F.Outlives l))
unfolding tables
outlives_pass l = record {
  go = λ g w.
      leaf_passes kind.Lifetime l.text refl
      (and_parts _ true w).0 (ends refl);
}

pub meets_pass : (parens maybe : Bool) (binder : Option Binder) (path : PathFacts) → PathPasses path
    → Passing plain ends_type (bound_facts (Bound-F.Meets parens maybe binder path))
unfolding tables
meets_pass true maybe binder path k = record {
  go = λ g w.
      fixed refl (part plain ends_type refl
      (meets_passes maybe binder (path style.Kind) (k.go style.Kind) g
      (and_parts (are_pieces (meets_form maybe binder (path style.Kind).form)) true w).0)
      (fixed refl (ends refl)));
}
meets_pass false maybe binder path k = record {
  go = λ g w. meets_passes maybe binder (path style.Kind) (k.go style.Kind) g w;
}

pub captures_pass : (captured : List Capture) → Passing plain ends_type (bound_facts (Bound-F.Captures captured))
captures_pass captured = record { go = λ g w. captures_form_passes captured w }

-- ---- arguments

pub equal_pass : (x : TypeFacts) → TypePasses x → Passing ends_type ends_arg (constraint_facts (Constraint-F.Equal x))
unfolding tables
equal_pass x k = record {
  go = λ g w.
      fixed refl (part plain ends_type refl (k.go g (and_parts (are_pieces x.told.form) true w).0) (ends refl));
}

pub limit_pass : (xs : List Facts) → Each (Passing plain ends_type) xs
    → Passing ends_type ends_arg (constraint_facts (Constraint-F.Limit xs))
unfolding tables
limit_pass xs k = record {
  go = λ g w.
      fixed refl (part plain ends_type refl
      (bounds_pass xs k g (and_parts (are_pieces (bounds_form xs)) true w).0) (ends refl));
}

named_pass : (raw : Bool) (t : List ℕ) (x : ArgsFacts) (y : Facts) → ArgsPass x → Passing ends_type ends_arg y
    → (x.kind.good ≡ true) × (y.good ≡ true)
    → are_pieces (leaf_of raw t (form.Part x.kind.form (form.Part y.form Done))) ≡ true
    → From plain (leaf_of raw t (form.Part x.kind.form (form.Part y.form Done))) ends_arg
unfolding tables
named_pass raw t x y k l g w =
    let q = rest_pieces raw t (form.Part x.kind.form (form.Part y.form Done)) w in
    let p = and_parts (are_pieces x.kind.form) _ q in
    let a = k.in_kind.go g.0 p.0 in
    let z : From ends_type (form.Part y.form Done) ends_arg =
    part ends_type ends_arg refl (l.go g.1 (and_parts (are_pieces y.form) true p.1).0) (ends refl) in
    word raw t refl w (part ends_name ends_type refl a z) (part ends_name ends_type refl a z)

pub region_pass : (l : Lifetime) → Passing plain ends_arg (arg_facts (Arg-F.Region l))
unfolding tables
region_pass l = record { go = λ g w. leaf_passes kind.Lifetime l.text refl (and_parts _ true w).0 (ends refl) }

pub plain_pass : (x : TypeFacts) → TypePasses x → Passing plain ends_arg (arg_facts (Arg-F.Plain x))
plain_pass x k = record { go = λ g w. wider refl (k.go g w) }

pub const_pass : (value : ConstArg) → Passing plain ends_arg (arg_facts (Arg-F.Const value))
const_pass value = record { go = λ g w. const_passes value g w }

pub equal_const_pass : (value : ConstArg)
    → Passing ends_type ends_arg (constraint_facts (Constraint-F.EqualConst value))
unfolding tables
equal_const_pass value = record {
  go = λ g w.
      fixed refl (part plain ends_arg refl
      (const_passes value g (and_parts (are_pieces (const_form value)) true w).0) (ends refl));
}

pub named_arg_pass : (name : Name) (x : ArgsFacts) (y : Facts) → ArgsPass x → Passing ends_type ends_arg y
    → Passing plain ends_arg (arg_facts (Arg-F.Named name x y))
named_arg_pass name x y k l = record {
  go = λ g w.
      let n = and_parts (is_name name.raw name.text && not x.round && x.kind.good) y.good g in
      let q = (and_parts (is_name name.raw name.text && not x.round) x.kind.good n.0).1 in
      level plain ends_arg refl
      (named_pass name.raw name.text x y k l (q, n.1) (and_parts _ true w).0) (ends refl);
}

-- ---- paths

-- a word may stand there
abbrev pub words_lead : Border → Bool
words_lead b = all (leads kind.Ident) b.needs && all (leads kind.RawIdent) b.needs

segment_passes : (b : Border) → words_lead b ≡ true → (s : PathStyle) (x : Word × ArgsFacts) {f : Form} {c : Border}
    → ArgsPass x.1 → segment_good s x ≡ true → are_pieces (segment_form s x f) ≡ true → From ends_type f c
    → From b (segment_form s x f) c
unfolding tables
segment_passes b h s x {f} k g w l =
    let q = rest_pieces x.0.raw x.0.text (form.Part (in_style s x.1).form f) w in
    let a = (args_in s k).go (and_parts (is_path_word x.0.raw x.0.text) _ g).1
    (and_parts (are_pieces (in_style s x.1).form) _ q).0 in
    word x.0.raw x.0.text h w (part ends_name ends_type refl a l) (part ends_name ends_type refl a l)

segment_pieces : (s : PathStyle) (x : Word × ArgsFacts) (f : Form) → are_pieces (segment_form s x f) ≡ true
    → are_pieces f ≡ true
segment_pieces s x f w =
    (and_parts (are_pieces (in_style s x.1).form) (are_pieces f)
    (rest_pieces x.0.raw x.0.text (form.Part (in_style s x.1).form f) w)).1

abbrev pub SegmentPasses : Word × ArgsFacts → Type 0
SegmentPasses x = ArgsPass x.1

pub segments_pass : (b : Border) → words_lead b ≡ true → (s : PathStyle) (xs : List (Word × ArgsFacts))
    → Each SegmentPasses xs → segments_good s xs ≡ true → are_pieces (segments_form s xs) ≡ true
    → From b (segments_form s xs) ends_type
unfolding tables
segments_pass b h s [] k g w = cc
segments_pass b h s (x ∷ []) k g w = segment_passes b h s x k.0 g w (ends refl)
segments_pass b h s (x ∷ y ∷ more) k g w =
    let n = and_parts (segment_good s x && not x.1.returns) _ g in
    let rest = Piece colons (segments_form s (y ∷ more)) in
    segment_passes b h s x k.0 (and_parts (segment_good s x) _ n.0).0 w
    (fixed refl (segments_pass start_path refl s (y ∷ more) k.1 n.1 (segment_pieces s x rest w)))

pub local_pass : Passing plain start_path (start_facts PathStart-F.Local)
local_pass = record { go = λ g w. ends refl }

pub global_pass : Passing plain start_path (start_facts PathStart-F.Global)
unfolding tables
global_pass = record { go = λ g w. fixed refl (ends refl) }

-- after the `<`
pub qualified_passes : (b : Border) → under b plain ≡ true → (x : TypeFacts) (of : Option PathFacts) → TypePasses x
    → Any PathPasses of → x.told.good && of_good of ≡ true
    → are_pieces (form.Part x.told.form (of_form of (piece (greater ∷ colons)))) ≡ true
    → From b (form.Part x.told.form (of_form of (piece (greater ∷ colons)))) start_path
unfolding tables
qualified_passes b u x None k l g w =
    let n = and_parts x.told.good _ g in
    part plain ends_type u (k.go n.0 (and_parts (are_pieces x.told.form) _ w).0) (fixed refl (ends refl))
qualified_passes b u x (Some path) k l g w =
    let n = and_parts x.told.good _ g in
    let p = and_parts (are_pieces x.told.form) _ w in
    part plain ends_type u (k.go n.0 p.0)
    (fixed refl (level plain ends_type refl
    ((l.go style.Kind).go n.1 (and_parts (are_pieces (path style.Kind).form) _ p.1).0)
    (fixed refl (ends refl))))

pub qualified_pass : (x : TypeFacts) (of : Option PathFacts) → TypePasses x → Any PathPasses of
    → Passing plain start_path (start_facts (PathStart-F.Qualified x of))
unfolding tables
qualified_pass x of k l = record { go = λ g w. fixed refl (qualified_passes plain refl x of k l g w) }

pub path_pass : (start : Facts) (xs : List (Word × ArgsFacts)) → Passing plain start_path start → Each SegmentPasses xs
    → PathPasses (path_facts (record { start = start; segments = xs }))
path_pass start xs k l = record {
  go = λ s. record {
    go = λ g w.
        let n = and_parts start.good _ g in
        let p = and_parts (are_pieces start.form) _ w in
        part plain start_path refl (k.go n.0 p.0) (segments_pass start_path refl s xs l n.1 p.1);
  };
}
