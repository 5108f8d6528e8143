-- What the forms of the notation need: what their parts do, and words and tokens nothing.
use Rattle.std.proofs.Common.{◌≡◌, ◌∙◌, ℕ, max, Bool, true, false, cond, ◌||◌, List, [], ◌∷◌, ◌++◌, map, refl, ap, arith}
use Rattle.lay_piece.specs.declared.kind.Delim.{Delim}
use Rattle.lay_piece.specs.declared.kind.Delim.TheVariants.{Brace, Bracket}
use Rattle.lay_form.specs.Depth.{least_depth}
use Rattle.lay_form.specs.Form.{Bit, Blank, Form, closer, Done, Piece, Part}
use Rattle.lay_form.specs.Notation.{H, each, comma_gap, comma_list, body, with_commas, fields, braces, soft, predicates, behind_attrs, lines, piece, when}
use Rattle.lay_node.specs.Words.{leaf_of}
use Rattle.lay_node.specs.nodes.Attr.{attr_form, behind_attr, input_form, is_inner, is_line, meta_path_form}
use Rattle.lay_node.specs.nodes.Call.{call_form}
use Rattle.lay_node.specs.nodes.SimplePath.{simple_path_form, simple_words_form}
use Rattle.lay_node.specs.nodes.Types.{joined, param_attrs}
use Rattle.lay_node.specs.tokens.Lists.{closed_by, enclosed_form, ended_by, ends_in_line, form_of_grouping, group_form, opened_by, token_list}
use Rattle.lay_node.specs.tokens.Listing.{Grouping, NoMore, OneToken, OneGroup, in_groups, listed_form}
use Rattle.lay_node.specs.tokens.Pairs.{Enclosed, HardBreak, NoBreak, Seen, Separation, Single, SoftBreak, at_start, behind_group, between, is_line_doc, leads, seen_all, seen_token}
use Rattle.lay_node.specs.declared.attr.Attr.{Attr}
use Rattle.lay_node.specs.declared.attr.Attr.TheVariants as attr
use Rattle.lay_node.specs.declared.attr.MetaInput.{MetaInput}
use Rattle.lay_node.specs.declared.attr.MetaInput.TheVariants as input
use Rattle.lay_node.specs.declared.attr.MetaPath.{MetaPath}
use Rattle.lay_node.specs.declared.attr.MetaPath.TheVariants as meta_path
use Rattle.lay_node.specs.declared.simple_path.SimplePath.{SimplePath}
use Rattle.lay_node.specs.declared.token.Listed.{Listed}
use Rattle.lay_node.specs.declared.token.Listed.TheVariants as listed
use Rattle.lay_node.specs.declared.token.Word.{Word}
use Rattle.lay_node.specs.declared.tokens.Group.{Group}
use Rattle.lay_node.specs.declared.tokens.MacroCall.{MacroCall}
use Rattle.lay_depth.specs.nodes.Depths.{greatest}

-- ---- several parts

pub each_is : (lead : Form → Form) → ((f : Form) → least_depth (lead f) ≡ least_depth f) → (es : List Form)
    → least_depth (each lead es) ≡ greatest es
each_is lead same [] = refl
each_is lead same (e ∷ es) = same (Part e (each lead es)) ∙ ap (max (least_depth e)) (each_is lead same es)

pub joined_is : (lead : Form → Form) → ((f : Form) → least_depth (lead f) ≡ least_depth f) → (es : List Form)
    → least_depth (joined lead es) ≡ greatest es
joined_is lead same [] = refl
joined_is lead same (e ∷ es) = ap (max (least_depth e)) (each_is lead same es)

pub list_is : (may : Bool) (opening closing : Bit) (es : List Form) → least_depth (comma_list may opening closing es) ≡ greatest es
list_is may opening closing [] = refl
list_is true opening closing (e ∷ es) = let m = each_is comma_gap (λ f. refl) es in omega (arith, m)
list_is false opening closing (e ∷ es) = let m = each_is comma_gap (λ f. refl) es in omega (arith, m)

pub body_is : (before skipped : List Bit) (es : List Form) → least_depth (body before skipped es) ≡ greatest es
body_is before skipped [] = refl
body_is before skipped (e ∷ es) = let m = each_is H (λ f. refl) (e ∷ es) in omega (arith, m)

pub commas_are : (es : List Form) → greatest (with_commas es) ≡ greatest es
commas_are [] = refl
commas_are (e ∷ []) = omega arith
commas_are (e ∷ f ∷ es) = let m = commas_are (f ∷ es) in omega (arith, m)

pub fields_are : (before : List Bit) (es : List Form) → least_depth (fields before es) ≡ greatest es
fields_are before es = body_is before [] (with_commas es) ∙ commas_are es

pub braces_are : (may : Bool) (es : List Form) → least_depth (braces may es) ≡ greatest es
braces_are may [] = refl
braces_are true (e ∷ es) = let m = each_is comma_gap (λ f. refl) es in omega (arith, m)
braces_are false (e ∷ es) = let m = each_is comma_gap (λ f. refl) es in omega (arith, m)

pub soft_is : (e : Form) → least_depth (soft e) ≡ least_depth e
soft_is e = omega arith

pub predicates_are : (end : Form) → least_depth end ≡ 0 → (es : List Form) → least_depth (predicates end es) ≡ greatest es
predicates_are end none [] = refl
predicates_are end none (e ∷ es) = let m = each_is comma_gap (λ f. refl) es in omega (arith, m, none)

pub lines_are : (es : List Form) → least_depth (lines es) ≡ greatest es
lines_are [] = refl
lines_are (e ∷ es) = ap (max (least_depth e)) (lines_are es)

pub both_are : (es fs : List Form) → greatest (es ++ fs) ≡ max (greatest es) (greatest fs)
both_are [] fs = omega arith
both_are (e ∷ es) fs = let m = both_are es fs in omega (arith, m)

-- ---- words and tokens

pub leaf_is : (raw : Bool) (text : List ℕ) (f : Form) → least_depth (leaf_of raw text f) ≡ least_depth f
leaf_is true text f = refl
leaf_is false text f = refl

pub when_is : (there : Bool) (bits : List Bit) (f : Form) → least_depth (when there bits f) ≡ least_depth f
when_is true bits f = refl
when_is false bits f = refl

leads_is : (s : Separation) (f : Form) → least_depth (leads s f) ≡ least_depth f
leads_is NoBreak f = refl
leads_is SoftBreak f = refl
leads_is HardBreak f = refl

listed_is : (t : Listed) (f : Form) → least_depth (listed_form t f) ≡ least_depth f
listed_is (listed.Token kind text joint) f = refl
listed_is (listed.Doc inner text) f = refl

opened_is : (d : Delim) (f : Form) → least_depth (opened_by d f) ≡ least_depth f
opened_is Brace f = refl
opened_is _ f = refl

closed_is : (line : Bool) (d : Delim) (f : Form) → least_depth (closed_by line d f) ≡ least_depth f
closed_is true d f = refl
closed_is false Brace f = refl
closed_is false _ f = refl

enclosed_is : (d : Delim) (i : Grouping) (line : Bool) (inner f : Form) → least_depth inner ≡ 0
    → least_depth (enclosed_form d i line inner f) ≡ least_depth f
enclosed_is d NoMore line inner f none = refl
enclosed_is d (OneToken t r) line inner f none = rw (opened_is d _, closed_is line d _) (omega (arith, none))
enclosed_is d (OneGroup e i r) line inner f none = rw (opened_is d _, closed_is line d _) (omega (arith, none))

grouping_is : (s : Seen) (i : Grouping) → least_depth (form_of_grouping s i) ≡ 0
grouping_is s NoMore = refl
grouping_is s (OneToken t r) =
    leads_is (between s (Single t)) _ ∙ listed_is t _ ∙ (let m = grouping_is (seen_token s t) r in omega (arith, m))
grouping_is s (OneGroup d i r) =
    let last = seen_all (at_start s.count) i in
    leads_is (between s (Enclosed d)) _
    ∙ enclosed_is d i (is_line_doc last.last) (form_of_grouping (at_start s.count) i) _ (grouping_is (at_start s.count) i)
    ∙ (let m = grouping_is (behind_group d last.count) r in omega (arith, m))

ended_is : (line : Bool) → least_depth (ended_by line) ≡ 0
ended_is true = refl
ended_is false = refl

pub tokens_are : (ts : List Listed) → least_depth (token_list ts) ≡ 0
tokens_are ts =
    let m = grouping_is (at_start 0) (in_groups ts) in
    let n = ended_is (ends_in_line ts) in omega (arith, m, n)

pub group_is : (g : Group) (f : Form) → least_depth (group_form g f) ≡ least_depth f
group_is g f =
    enclosed_is g.delim (in_groups g.tokens) (ends_in_line g.tokens) (form_of_grouping (at_start 0) (in_groups g.tokens)) f
    (grouping_is (at_start 0) (in_groups g.tokens))

-- ---- paths of words, attributes and macro calls

words_are : (words : List Word) (f : Form) → least_depth (simple_words_form words f) ≡ least_depth f
words_are [] f = refl
words_are (w ∷ []) f = leaf_is w.raw w.text f
words_are (w ∷ v ∷ more) f = leaf_is w.raw w.text _ ∙ words_are (v ∷ more) f

pub simple_path_is : (path : SimplePath) → least_depth (simple_path_form path) ≡ 0
simple_path_is path = when_is path.global _ _ ∙ words_are path.words Done

meta_path_is : (path : MetaPath) → least_depth (meta_path_form path) ≡ 0
meta_path_is (meta_path.Path path) = simple_path_is path
meta_path_is meta_path.Unsafe = refl

input_is : (given : MetaInput) (f : Form) → least_depth (input_form given f) ≡ least_depth f
input_is input.Bare f = refl
input_is (input.Group group) f = group_is group f
input_is (input.Value tokens) f = let m = tokens_are tokens in omega (arith, m)

pub attr_is : (a : Attr) → least_depth (attr_form a) ≡ 0
attr_is (attr.Doc inner text) = refl
attr_is (attr.Meta inner path given) =
    let m = meta_path_is path in
    let n = input_is given (piece (closer Bracket ∷ [])) in omega (arith, m, n)

behind_attr_is : (own_line : Bool) (a : Attr) (f : Form) → least_depth (behind_attr own_line a f) ≡ least_depth f
behind_attr_is own_line a f = by (is_inner a) (own_line || is_line a)
  where
    by : (b c : Bool) → least_depth (cond b f (cond c (H f) (Piece (Blank ∷ []) f))) ≡ least_depth f
    by true c = refl
    by false true = refl
    by false false = refl

pub param_attrs_are : (attrs : List Attr) (f : Form) → least_depth (param_attrs attrs f) ≡ least_depth f
param_attrs_are [] f = refl
param_attrs_are (a ∷ more) f =
    let m = attr_is a in
    let n = behind_attr_is false a (param_attrs more f) in
    let o = param_attrs_are more f in omega (arith, m, n, o)

pub attrs_are : (attrs : List Attr) → greatest (map attr_form attrs) ≡ 0
attrs_are [] = refl
attrs_are (a ∷ more) = let m = attr_is a in let n = attrs_are more in omega (arith, m, n)

pub behind_attrs_is : (attrs : List Attr) (f : Form) → least_depth (behind_attrs (map attr_form attrs) f) ≡ least_depth f
behind_attrs_is [] f = refl
behind_attrs_is (a ∷ more) f = let m = attr_is a in let n = behind_attrs_is more f in omega (arith, m, n)

pub call_is : (call : MacroCall) → least_depth (call_form call) ≡ 0
call_is call =
    let m = simple_path_is call.path in
    let n = group_is call.tokens Done in omega (arith, m, n)
