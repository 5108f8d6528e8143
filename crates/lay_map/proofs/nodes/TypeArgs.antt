-- Generic arguments, bounds and paths tell their units, given the facts about them, where what is within them does.
use Rattle.std.proofs.Common.{◌≡◌, Bool, true, false, not, ◌&&◌, List, [], ◌∷◌, ◌++◌, codes, refl, Option, Some, None}
use Rattle.std.specs.Prelude.{⊤}
use Rattle.std.proofs.lemmas.Bool.{and_parts}
use Rattle.lay_piece.specs.declared.kind.Delim.TheVariants.{Paren}
use Rattle.lay_piece.specs.declared.kind.Kind.TheVariants as kind
use Rattle.lay_form.specs.Form.{Blank, Fixed, Operator, Soft, Form, Piece, keyword, opener, closer}
use Rattle.lay_form.specs.Notation.{B, comma_list}
use Rattle.lay_node.specs.Words.{colons, is_name, is_path_word}
use Rattle.lay_node.specs.nodes.Facts.{Facts, all_good, forms}
use Rattle.lay_node.specs.nodes.Types.{ArgsFacts, PathFacts, TypeFacts, all_types_good, angle_form, arg_facts, args_facts, bound_facts, bounds_form, bounds_good, colon, constraint_facts, equals, greater, in_style, is_binder, is_there, less, meets_form, of_form, of_good, output_form, output_good, path_facts, segment_good, segments_form, segments_good, start_facts, type_forms}
use Rattle.lay_node.specs.declared.token.Lifetime.{Lifetime}
use Rattle.lay_node.specs.declared.token.Name.{Name}
use Rattle.lay_node.specs.declared.token.Word as node
use Rattle.lay_node.specs.declared.types.Arg.TheOpen.{Arg-F, Args-F, Bound-F, Constraint-F, PathStart-F}
use Rattle.lay_node.specs.declared.types.Binder.{Binder}
use Rattle.lay_node.specs.declared.types.Capture.{Capture}
use Rattle.lay_node.specs.declared.types.ConstArg.{ConstArg}
use Rattle.lay_node.specs.declared.types.PathStyle.{PathStyle}
use Rattle.lay_node.specs.declared.types.PathStyle.TheVariants as style
use Rattle.lay_map.specs.spelling.Units.{Word, words}
use Rattle.lay_map.proofs.FrontRules.{Skipped, left_out}
use Rattle.lay_map.proofs.Rules.{All, Plain, Tells, brk, deep, ends, fixed, group, list, part}
use Rattle.lay_map.proofs.nodes.Attrs.{whenever, word}
use Rattle.lay_map.proofs.nodes.TypeParts.{binder_tells, captures_tell, const_tells, joined_by, lifetime_tells}

-- ---- the facts about a node

-- A well formed node tells its units.
pub record NodeTells (x : Facts) : Type 0 where
  pub go : x.good ≡ true → Plain x.form

abbrev pub TypeTells : TypeFacts → Type 0
TypeTells x = NodeTells x.told

-- in both styles
pub record ArgsTell (x : ArgsFacts) : Type 0 where
  pub in_code : NodeTells x.code
  pub in_kind : NodeTells x.kind

pub record PathTells (x : PathFacts) : Type 0 where
  pub go : (s : PathStyle) → NodeTells (x s)

args_in : (s : PathStyle) {x : ArgsFacts} → ArgsTell x → NodeTells (in_style s x)
args_in style.Code t = t.in_code
args_in style.Kind t = t.in_kind

-- each of a list, and the one of an option
abbrev pub Each : {A : Type 0} → (A → Type 0) → List A → Type 0
Each P [] = ⊤
Each P (x ∷ xs) = P x × Each P xs

abbrev pub Given : {A : Type 0} → (A → Type 0) → Option A → Type 0
Given P None = ⊤
Given P (Some x) = P x

pub all_tell : (xs : List Facts) → Each NodeTells xs → all_good xs ≡ true → All Plain (forms xs)
all_tell [] k g = tt
all_tell (x ∷ xs) k g =
    let n = and_parts x.good (all_good xs) g in
    (k.0.go n.0, all_tell xs k.1 n.1)

pub types_tell : (xs : List TypeFacts) → Each TypeTells xs → all_types_good xs ≡ true → All Plain (type_forms xs)
types_tell [] k g = tt
types_tell (x ∷ xs) k g =
    let n = and_parts x.told.good (all_types_good xs) g in
    (k.0.go n.0, types_tell xs k.1 n.1)

-- ---- return types

pub output_tells : {Next : List Word → Type 0} (output : Option TypeFacts) → Given TypeTells output → output_good output ≡ true
    → Tells Next (output_form output)
output_tells None k g = ends
output_tells (Some x) k g =
    fixed (Blank ∷ Operator (codes "->") ∷ Blank ∷ []) refl (part (k.go (and_parts x.told.good (not x.several) g).0) ends)

-- ---- generic arguments

pub angle_tells : {Next : List Word → Type 0} (xs : List Facts) → Each NodeTells xs → all_good xs ≡ true → Tells Next (angle_form xs)
angle_tells xs k g = list true less greater (forms xs) refl refl refl (λ ws. refl) (all_tell xs k g)

-- A list of arguments begins with `<`.
angle_front : (es : List Form) (ws : List Word) → Skipped colons (words (comma_list true less greater es) ++ ws)
angle_front [] ws = refl
angle_front (e ∷ es) ws = refl

pub no_args_tell : ArgsTell (args_facts Args-F.None)
no_args_tell = record { in_code = record { go = λ g. ends }; in_kind = record { go = λ g. ends } }

pub angle_told : (xs : List Facts) → Each NodeTells xs → ArgsTell (args_facts (Args-F.Angle xs))
angle_told xs k = record {
  in_code = record { go = λ g. fixed colons refl (angle_tells xs k g) };
  in_kind = record { go = λ g. left_out colons (λ w ws n. angle_front (forms xs) ws) (angle_tells xs k g) };
}

pub round_args_tell : (inputs : List TypeFacts) (output : Option TypeFacts) → Each TypeTells inputs → Given TypeTells output
    → ArgsTell (args_facts (Args-F.Round inputs output))
round_args_tell inputs output k l = record {
  in_code = record { go = λ g. absurd (cc g) };
  in_kind = record {
    go = λ g.
        let n = and_parts (all_types_good inputs) (output_good output) g in
        part (list true (opener Paren) (closer Paren) (type_forms inputs) refl refl refl (λ ws. refl) (types_tell inputs k n.0))
        (output_tells output l n.1);
  };
}

-- ---- bounds

pub bounds_tell : {Next : List Word → Type 0} (xs : List Facts) → Each NodeTells xs → bounds_good xs ≡ true → Tells Next (bounds_form xs)
bounds_tell xs k g =
    group false 4
    (joined_by (λ f. B (Piece (Operator (codes "+") ∷ Blank ∷ []) f)) (forms xs)
    (λ f t. brk (Soft false 1) (fixed (Operator (codes "+") ∷ Blank ∷ []) refl t))
    (all_tell xs k (and_parts (is_there xs) (all_good xs) g).1))
    ends

meets_tell : {Next : List Word → Type 0} (maybe : Bool) (binder : Option Binder) (path : PathFacts) → PathTells path
    → is_binder binder && (path style.Kind).good ≡ true → Tells Next (meets_form maybe binder (path style.Kind).form)
meets_tell maybe binder path k g =
    let n = and_parts (is_binder binder) (path style.Kind).good g in
    whenever maybe (Fixed kind.Punct (codes "?") ∷ []) refl (binder_tells binder n.0 (part ((k.go style.Kind).go n.1) ends))

pub outlives_bound : (l : Lifetime) → NodeTells (bound_facts (Bound-F.Outlives l))
outlives_bound l = record { go = λ g. lifetime_tells l }

pub meets_bound : (parens maybe : Bool) (binder : Option Binder) (path : PathFacts) → PathTells path
    → NodeTells (bound_facts (Bound-F.Meets parens maybe binder path))
meets_bound true maybe binder path k = record {
  go = λ g. fixed (opener Paren ∷ []) refl (part (meets_tell maybe binder path k g) (fixed (closer Paren ∷ []) refl ends));
}
meets_bound false maybe binder path k = record { go = λ g. meets_tell maybe binder path k g }

pub captures_bound : (captured : List Capture) → NodeTells (bound_facts (Bound-F.Captures captured))
captures_bound captured = record { go = λ g. captures_tell captured }

-- ---- arguments

pub equal_tells : (x : TypeFacts) → TypeTells x → NodeTells (constraint_facts (Constraint-F.Equal x))
equal_tells x k = record { go = λ g. fixed equals refl (part (k.go g) ends) }

pub equal_const_tells : (value : ConstArg) → NodeTells (constraint_facts (Constraint-F.EqualConst value))
equal_const_tells value = record { go = λ g. fixed equals refl (part (const_tells value g) ends) }

pub limit_tells : (xs : List Facts) → Each NodeTells xs → NodeTells (constraint_facts (Constraint-F.Limit xs))
limit_tells xs k = record { go = λ g. fixed colon refl (part (bounds_tell xs k g) ends) }

pub region_tells : (l : Lifetime) → NodeTells (arg_facts (Arg-F.Region l))
region_tells l = record { go = λ g. lifetime_tells l }

pub plain_tells : (x : TypeFacts) → TypeTells x → NodeTells (arg_facts (Arg-F.Plain x))
plain_tells x k = record { go = λ g. k.go g }

pub const_arg_tells : (value : ConstArg) → NodeTells (arg_facts (Arg-F.Const value))
const_arg_tells value = record { go = λ g. const_tells value g }

pub named_tells : (name : Name) (x : ArgsFacts) (c : Facts) → ArgsTell x → NodeTells c → NodeTells (arg_facts (Arg-F.Named name x c))
named_tells name x c k l = record {
  go = λ g.
      let n1 = and_parts (is_name name.raw name.text && not x.round && x.kind.good) c.good g in
      let n2 = and_parts (is_name name.raw name.text && not x.round) x.kind.good n1.0 in
      deep (word name.raw name.text (part (k.in_kind.go n2.1) (part (l.go n1.1) ends))) ends;
}

-- ---- paths

abbrev pub SegmentTells : node.Word × ArgsFacts → Type 0
SegmentTells s = ArgsTell s.1

segments_tell : {Next : List Word → Type 0} (s : PathStyle) (xs : List (node.Word × ArgsFacts)) → Each SegmentTells xs → segments_good s xs ≡ true
    → Tells Next (segments_form s xs)
segments_tell s [] k g = ends
segments_tell s (x ∷ []) k g =
    let n = and_parts (is_path_word x.0.raw x.0.text) (in_style s x.1).good g in
    word x.0.raw x.0.text (part ((args_in s k.0).go n.1) ends)
segments_tell s (x ∷ y ∷ more) k g =
    let n1 = and_parts (segment_good s x && not x.1.returns) (segments_good s (y ∷ more)) g in
    let n2 = and_parts (segment_good s x) (not x.1.returns) n1.0 in
    let n3 = and_parts (is_path_word x.0.raw x.0.text) (in_style s x.1).good n2.0 in
    word x.0.raw x.0.text (part ((args_in s k.0).go n3.1) (fixed colons refl (segments_tell s (y ∷ more) k.1 n1.1)))

pub local_tells : NodeTells (start_facts PathStart-F.Local)
local_tells = record { go = λ g. ends }

pub global_tells : NodeTells (start_facts PathStart-F.Global)
global_tells = record { go = λ g. fixed colons refl ends }

of_tells : {Next : List Word → Type 0} {f : Form} (of : Option PathFacts) → Given PathTells of → of_good of ≡ true → Tells Next f → Tells Next (of_form of f)
of_tells None k g t = t
of_tells (Some path) k g t = fixed (Blank ∷ keyword (codes "as") ∷ Blank ∷ []) refl (deep ((k.go style.Kind).go g) t)

pub qualified_tells : (x : TypeFacts) (of : Option PathFacts) → TypeTells x → Given PathTells of → NodeTells (start_facts (PathStart-F.Qualified x of))
qualified_tells x of k l = record {
  go = λ g.
      let n = and_parts x.told.good (of_good of) g in
      fixed (less ∷ []) refl (part (k.go n.0) (of_tells of l n.1 (fixed (greater ∷ colons) refl ends)));
}

pub path_told : (start : Facts) (xs : List (node.Word × ArgsFacts)) → NodeTells start → Each SegmentTells xs
    → PathTells (path_facts (record { start = start; segments = xs }))
path_told start xs k l = record {
  go = λ s. record {
    go = λ g.
        let n = and_parts start.good (segments_good s xs) g in
        part (k.go n.0) (segments_tell s xs l n.1);
  };
}
