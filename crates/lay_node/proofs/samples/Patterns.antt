-- Samples of patterns: how they are laid out, and what is read.
use Rattle.std.proofs.Common.{◌≡◌, ℕ, Bool, true, false, List, [], ◌∷◌, ◌++◌, Some, None, codes, ap, refl}
use Rattle.std.specs.Prelude.{replicate}
use Rattle.std.specs.Str.{chars}
use Rattle.lay_piece.specs.declared.kind.Delim.TheVariants.{Paren, Bracket, Brace}
use Rattle.lay_piece.specs.declared.kind.Kind.TheVariants as kind
use Rattle.lay_token.specs.Operators.{op_at}
use Rattle.lay_token.specs.declared.token.Token.{Token}
use Rattle.lay_node.specs.Begins.{lead_at}
use Rattle.lay_node.specs.nodes.Patterns.{PatFacts, about_pat, field_facts, pat_facts}
use Rattle.lay_node.specs.nodes.Types.{lone_word}
use Rattle.lay_node.specs.reader.Attr.{attributes}
use Rattle.lay_node.specs.reader.Call.{call}
use Rattle.lay_node.specs.reader.Loops.{repeat_from, repeat, elements_from, elements, open_elements_from, open_elements}
use Rattle.lay_node.specs.reader.Patterns.{PatWithin, bind, fields, marked_bind, one_end, one_field, paren_pat, pat_at, pat_by, path_by, path_pat, pat_in, ref_pat, short_field, single_at, slice_pat, span, value, value_pat}
use Rattle.lay_node.specs.reader.SimplePath.{simple_path}
use Rattle.lay_node.specs.reader.Tokens.{run, tokens_of, group}
use Rattle.lay_node.specs.reader.Types.{within, path_type, path, chain, segment, args_by, angle, one_arg, literal}
use Rattle.lay_node.specs.reader.Words.{name as name_reading, word as word_reading}
use Rattle.lay_node.specs.declared.attr.Attr.{Attr}
use Rattle.lay_node.specs.declared.patterns.FieldPat.{FieldPat}
use Rattle.lay_node.specs.declared.patterns.FieldPat.TheOpen.{FieldPat-F, Pat-F}
use Rattle.lay_node.specs.declared.patterns.FieldPat.TheVariants as field
use Rattle.lay_node.specs.declared.patterns.Pat.{Pat}
use Rattle.lay_node.specs.declared.patterns.Pat.TheVariants as pat
use Rattle.lay_node.specs.declared.patterns.PatPlace.TheVariants.{Alternatives, Single}
use Rattle.lay_node.specs.declared.patterns.PatValue.{PatValue}
use Rattle.lay_node.specs.declared.patterns.SpanEnd.{SpanEnd}
use Rattle.lay_node.specs.declared.patterns.SpanEnd.TheVariants as span_end
use Rattle.lay_node.specs.declared.tokens.MacroCall.{MacroCall}
use Rattle.lay_node.specs.declared.types.Arg.TheViews as views
use Rattle.lay_node.specs.declared.types.Arg.TheVariants as arg
use Rattle.lay_node.specs.declared.types.Path.{Path}
use Rattle.lay_node.proofs.nodes.PatternsLaws as pats
use Rattle.lay_node.proofs.nodes.TypesLaws as types
use Rattle.lay_node.proofs.samples.Trees.{named, plain, a, b, c, laid, token, word, mark, colons, opens, closes}
use Rattle.lay_node.proofs.samples.Types.{local, local_is, B, B_is, a_of_B, B_then_C}

-- ---- trees and tokens

-- a name that is bound, after `ref` and `mut` or not
abbrev bound : Bool → Bool → List ℕ → Pat
bound by_ref mutable text = pat.Bind by_ref mutable (named text) None

abbrev name_a : Pat
name_a = bound false false a

abbrev name_b : Pat
name_b = bound false false b

abbrev A : Path
A = local (codes "A")

abbrev number : Bool → List ℕ → PatValue
number negative text = record { negative = negative; literal = record { kind = kind.Int; text = text } }

abbrev one : SpanEnd
one = span_end.Value (number false (codes "1"))

abbrev two : SpanEnd
two = span_end.Value (number false (codes "2"))

-- `1..=2`
abbrev one_to_two : Pat
one_to_two = pat.Span (Some one) true (Some two)

-- `m!()`
abbrev called : MacroCall
called = record {
  path = record { global = false; words = plain (codes "m") ∷ [] };
  tokens = record { delim = Paren; tokens = [] };
}

abbrev digits : List ℕ → Token
digits text = token kind.Int text false

abbrev underscore : Token
underscore = token kind.Underscore (codes "_") false

abbrev dots : List Token → List Token
dots ts = token kind.Punct (codes ".") true ∷ mark (codes ".") ∷ ts

abbrev dots_to : List Token → List Token
dots_to ts = token kind.Punct (codes ".") true ∷ token kind.Punct (codes ".") true ∷ mark (codes "=") ∷ ts

-- tokens in parentheses, and in braces after `A`
abbrev in_parens : List Token → List Token
in_parens ts = opens Paren ∷ (ts ++ closes Paren ∷ [])

abbrev of_A : List Token → List Token
of_A ts = word (codes "A") ∷ opens Brace ∷ (ts ++ closes Brace ∷ [])

-- ---- the facts about them

-- The word that a path is.
pub lone : (text : List ℕ) → lone_word (local text) ≡ Some (plain text)
lone text = rw (views.outs-Local, views.outs-None) refl

name_is : (text : List ℕ) → about_pat (bound false false text) ≡ pat_facts (Pat-F.Bind false false (named text) None)
name_is text = pats.pat_bind_is false false (named text) None

-- ---- layouts

abbrev laid_pat : Pat → List ℕ
laid_pat x = laid (about_pat x).told

-- `A { b: _, 0: a, ref c, .. }`, and without its last part
abbrev fields_of_three : List FieldPat
fields_of_three =
    field.Named [] (named b) pat.Wild ∷ field.Index [] (codes "0") name_a ∷ field.Short [] (bound true false c) ∷ []

abbrev three_fields : Bool → Pat
three_fields rest = pat.Struct A fields_of_three rest

three_are : (rest : Bool) → about_pat (three_fields rest)
    ≡ pat_facts (Pat-F.Struct A (field_facts (FieldPat-F.Named [] (named b) (pat_facts Pat-F.Wild))
    ∷ field_facts (FieldPat-F.Index [] (codes "0") (pat_facts (Pat-F.Bind false false (named a) None)))
    ∷ field_facts (FieldPat-F.Short [] (pat_facts (Pat-F.Bind true false (named c) None))) ∷ []) rest)
three_are rest =
    rw (
      pats.pat_struct_is A fields_of_three rest,
      pats.field_named_is [] (named b) pat.Wild,
      pats.field_index_is [] (codes "0") name_a,
      pats.field_short_is [] (bound true false c),
      pats.pat_wild_is,
      name_is a,
      pats.pat_bind_is true false (named c) None,
    )
    refl

laid_struct_with_rest : laid_pat (three_fields true) ≡ codes "A { b: _, 0: a, ref c, .. }"
laid_struct_with_rest = rw (three_are true, local_is (codes "A")) refl

laid_struct : laid_pat (three_fields false) ≡ codes "A { b: _, 0: a, ref c }"
laid_struct = rw (three_are false, local_is (codes "A")) refl

laid_rest_alone : laid_pat (pat.Struct A [] true) ≡ codes "A { .. }"
laid_rest_alone = rw (pats.pat_struct_is A [] true, local_is (codes "A")) refl

laid_no_fields : laid_pat (pat.Struct A [] false) ≡ codes "A {}"
laid_no_fields = rw (pats.pat_struct_is A [] false, local_is (codes "A")) refl

-- lines of 89 columns, and what would be lines of 90
abbrev one_field_of : List ℕ → Bool → Pat
one_field_of text rest = pat.Struct A (field.Named [] (named text) pat.Wild ∷ []) rest

one_is : (text : List ℕ) (rest : Bool) → about_pat (one_field_of text rest)
    ≡ pat_facts (Pat-F.Struct A (field_facts (FieldPat-F.Named [] (named text) (pat_facts Pat-F.Wild)) ∷ []) rest)
one_is text rest =
    rw (
      pats.pat_struct_is A (field.Named [] (named text) pat.Wild ∷ []) rest,
      pats.field_named_is [] (named text) pat.Wild,
      pats.pat_wild_is,
    )
    refl

rest_of_89 : laid_pat (one_field_of (replicate 76 98) true) ≡ codes "A { " ++ (replicate 76 98 ++ codes ": _, .. }")
rest_of_89 = rw (one_is (replicate 76 98) true, local_is (codes "A")) refl

-- No comma stands after the `..`.
rest_of_90 : laid_pat (one_field_of (replicate 77 98) true)
    ≡ codes "A {\n    " ++ (replicate 77 98 ++ codes ": _,\n    ..\n}")
rest_of_90 = rw (one_is (replicate 77 98) true, local_is (codes "A")) refl

field_of_90 : laid_pat (one_field_of (replicate 81 98) false)
    ≡ codes "A {\n    " ++ (replicate 81 98 ++ codes ": _,\n}")
field_of_90 = rw (one_is (replicate 81 98) false, local_is (codes "A")) refl

laid_tuple_of_one : laid_pat (pat.Tuple (name_a ∷ [])) ≡ codes "(a,)"
laid_tuple_of_one = rw (pats.pat_tuple_is (name_a ∷ []), name_is a) refl

laid_rest_in_parens : laid_pat (pat.Tuple (pat.Rest ∷ [])) ≡ codes "(..)"
laid_rest_in_parens = rw (pats.pat_tuple_is (pat.Rest ∷ []), pats.pat_rest_is) refl

laid_tuple : laid_pat (pat.Tuple (name_a ∷ pat.Rest ∷ [])) ≡ codes "(a, ..)"
laid_tuple = rw (pats.pat_tuple_is (name_a ∷ pat.Rest ∷ []), name_is a, pats.pat_rest_is) refl

laid_no_tuple : laid_pat (pat.Tuple []) ≡ codes "()"
laid_no_tuple = rw (pats.pat_tuple_is []) refl

laid_paren : laid_pat (pat.Paren name_a) ≡ codes "(a)"
laid_paren = rw (pats.pat_paren_is name_a, name_is a) refl

laid_slice : laid_pat (pat.Slice (name_a ∷ pat.Rest ∷ [])) ≡ codes "[a, ..]"
laid_slice = rw (pats.pat_slice_is (name_a ∷ pat.Rest ∷ []), name_is a, pats.pat_rest_is) refl

laid_tuple_struct : laid_pat (pat.TupleStruct a_of_B (name_a ∷ pat.Rest ∷ [])) ≡ codes "a::<B>(a, ..)"
laid_tuple_struct =
    rw (
      pats.pat_tuple_struct_is a_of_B (name_a ∷ pat.Rest ∷ []),
      name_is a,
      pats.pat_rest_is,
      types.path_is a_of_B,
      types.start_local_is,
      types.args_angle_is (arg.Plain B ∷ []),
      types.arg_plain_is B,
      B_is,
    )
    refl

laid_or : laid_pat (pat.Or (name_a ∷ name_b ∷ [])) ≡ codes "a | b"
laid_or = rw (pats.pat_or_is (name_a ∷ name_b ∷ []), name_is a, name_is b) refl

abbrev either_of : ℕ → Pat
either_of n = pat.Or (bound false false (replicate 44 97) ∷ bound false false (replicate n 98) ∷ [])

either_is : (n : ℕ) → about_pat (either_of n)
    ≡ pat_facts (Pat-F.Or (pat_facts (Pat-F.Bind false false (named (replicate 44 97)) None)
    ∷ pat_facts (Pat-F.Bind false false (named (replicate n 98)) None) ∷ []))
either_is n =
    rw (
      pats.pat_or_is (bound false false (replicate 44 97) ∷ bound false false (replicate n 98) ∷ []),
      name_is (replicate 44 97),
      name_is (replicate n 98),
    )
    refl

or_of_89 : laid_pat (either_of 42) ≡ replicate 44 97 ++ (codes " | " ++ replicate 42 98)
or_of_89 = rw (either_is 42) refl

or_of_90 : laid_pat (either_of 43) ≡ replicate 44 97 ++ (codes "\n| " ++ replicate 43 98)
or_of_90 = rw (either_is 43) refl

laid_bind : laid_pat (pat.Bind true true (named a) (Some one_to_two)) ≡ codes "ref mut a @ 1..=2"
laid_bind =
    rw (pats.pat_bind_is true true (named a) (Some one_to_two), pats.pat_span_is (Some one) true (Some two)) refl

laid_open_span : laid_pat (pat.Span (Some one) false None) ≡ codes "1.."
laid_open_span = rw (pats.pat_span_is (Some one) false None) refl

-- A `..` that stands directly after the point of a number has a blank before it.
abbrev point : SpanEnd
point = span_end.Value (record { negative = false; literal = record { kind = kind.Float; text = codes "1." } })

laid_behind_point : laid_pat (pat.Span (Some point) true (Some two)) ≡ codes "1. ..=2"
unfolding chars
laid_behind_point = rw (pats.pat_span_is (Some point) true (Some two)) refl

laid_span_to : laid_pat (pat.Span None false (Some one)) ≡ codes "..1"
laid_span_to = rw (pats.pat_span_is None false (Some one)) refl

laid_negative : laid_pat (pat.Value (number true (codes "1"))) ≡ codes "-1"
laid_negative = rw (pats.pat_value_is (number true (codes "1"))) refl

laid_reference : laid_pat (pat.Ref false (pat.Ref true name_a)) ≡ codes "&&mut a"
laid_reference = rw (pats.pat_ref_is false (pat.Ref true name_a), pats.pat_ref_is true name_a, name_is a) refl

-- ---- what is read: values, names and paths

read_number : pat_at Single 1 (mark (codes "-") ∷ digits (codes "1") ∷ [])
    ≡ Some ((pat.Value (number true (codes "1")), 1), [])
unfolding single_at pat_by value_pat value literal op_at
read_number = refl

-- Only a number stands after a `-`.
not_negative_name : pat_at Single 1 (mark (codes "-") ∷ word a ∷ []) ≡ None
unfolding single_at pat_by value_pat value literal
not_negative_name = refl

read_wild : pat_at Single 1 (underscore ∷ []) ≡ Some ((pat.Wild, 1), [])
unfolding single_at pat_by op_at
read_wild = refl

read_name : pat_at Single 1 (word a ∷ []) ≡ Some ((name_a, 1), [])
unfolding single_at pat_by simple_path path_pat path_by bind path chain segment args_by repeat repeat_from word_reading op_at
read_name = rw (lone a) refl

not_at_zero : pat_at Single 0 (word a ∷ []) ≡ None
unfolding single_at
not_at_zero = refl

-- A path that is no name is no name that is bound.
read_crate : pat_at Single 1 (word (codes "crate") ∷ []) ≡ Some ((pat.Path (local (codes "crate")), 1), [])
unfolding single_at pat_by simple_path path_pat path_by path chain segment args_by repeat repeat_from word_reading op_at
read_crate = rw (lone (codes "crate")) refl

-- `self` is no pattern.
not_self : pat_at Single 1 (word (codes "self") ∷ []) ≡ None
unfolding single_at pat_by simple_path path_pat path_by path chain segment args_by repeat repeat_from word_reading op_at
not_self = rw (lone (codes "self")) refl

read_path : pat_at Single 1 (word (codes "B") ∷ colons (word (codes "C") ∷ [])) ≡ Some ((pat.Path B_then_C, 1), [])
unfolding single_at pat_by simple_path path_pat path_by path chain segment args_by repeat repeat_from word_reading op_at
read_path = rw (types.args_none_is, views.outs-Local) refl

-- Generic arguments stand after a `::` and cost a level.
read_args : pat_at Single 2 (word a ∷ colons (mark (codes "<") ∷ word (codes "B") ∷ mark (codes ">") ∷ []))
    ≡ Some ((pat.Path a_of_B, 2), [])
unfolding single_at pat_by simple_path path_pat path_by path chain segment args_by repeat repeat_from word_reading op_at lead_at within path_type angle elements elements_from one_arg
read_args = rw (views.outs-Local, views.outs-Angle) refl

-- Without it a name ends before them.
read_before_less : pat_at Single 2 (word a ∷ mark (codes "<") ∷ word (codes "B") ∷ mark (codes ">") ∷ [])
    ≡ Some ((name_a, 1), mark (codes "<") ∷ word (codes "B") ∷ mark (codes ">") ∷ [])
unfolding single_at pat_by simple_path path_pat path_by bind path chain segment args_by repeat repeat_from word_reading op_at
read_before_less = rw (lone a) refl

-- So there is no pattern `(a<B>)`.
not_before_less : pat_at Single 3 (in_parens (word a ∷ mark (codes "<") ∷ word (codes "B") ∷ mark (codes ">") ∷ []))
    ≡ None
unfolding single_at pat_by simple_path path_pat path_by bind path chain segment args_by repeat repeat_from word_reading op_at paren_pat
not_before_less = rw (lone a) refl

read_call : pat_at Single 1 (word (codes "m") ∷ mark (codes "!") ∷ in_parens [])
    ≡ Some ((pat.Call called, 1), [])
unfolding single_at pat_by simple_path call group tokens_of run repeat repeat_from word_reading op_at
read_call = refl

-- A name isn't followed by `!`.
not_name_before_bang : pat_at Single 1 (word a ∷ mark (codes "!") ∷ []) ≡ None
unfolding single_at pat_by simple_path call group repeat repeat_from word_reading op_at
not_name_before_bang = refl

not_ref_before_bang : pat_at Single 1 (word (codes "ref") ∷ word a ∷ mark (codes "!") ∷ []) ≡ None
unfolding single_at pat_by marked_bind bind name_reading op_at
not_ref_before_bang = refl

not_path_before_bang : pat_at Single 2 (word a
    ∷ colons (mark (codes "<") ∷ word (codes "B") ∷ mark (codes ">") ∷ mark (codes "!") ∷ [])) ≡ None
unfolding single_at pat_by simple_path path_pat path_by path chain segment args_by repeat repeat_from word_reading op_at lead_at within path_type angle elements elements_from one_arg
not_path_before_bang = rw (views.outs-Local, views.outs-Angle) refl

-- But it is by `!=`.
read_before_not_equal : pat_at Single 1 (word a ∷ token kind.Punct (codes "!") true ∷ mark (codes "=") ∷ [])
    ≡ Some ((name_a, 1), token kind.Punct (codes "!") true ∷ mark (codes "=") ∷ [])
unfolding single_at pat_by simple_path path_pat path_by bind path chain segment args_by repeat repeat_from word_reading op_at
read_before_not_equal = rw (lone a) refl

not_ref_of_path : pat_at Single 1 (word (codes "ref") ∷ word a ∷ colons (word b ∷ [])) ≡ None
unfolding single_at pat_by marked_bind bind name_reading op_at
not_ref_of_path = refl

read_bind : pat_at Single 2 (word (codes "ref") ∷ word (codes "mut") ∷ word a ∷ mark (codes "@") ∷ digits (codes "1")
    ∷ dots_to (digits (codes "2") ∷ []))
    ≡ Some ((pat.Bind true true (named a) (Some one_to_two), 2), [])
unfolding single_at pat_by value_pat value literal span one_end op_at marked_bind bind name_reading
read_bind = refl

-- ---- what is read: spans and references

read_span_of_paths : pat_at Single 1 (word a ∷ dots (word b ∷ []))
    ≡ Some ((pat.Span (Some (span_end.Path (local a))) false (Some (span_end.Path (local b))), 1), [])
unfolding single_at pat_by span one_end simple_path path_pat path_by path chain segment args_by repeat repeat_from word_reading op_at lead_at
read_span_of_paths = refl

read_open_span : pat_at Single 1 (digits (codes "1") ∷ dots []) ≡ Some ((pat.Span (Some one) false None, 1), [])
unfolding single_at pat_by value_pat value literal span op_at lead_at
read_open_span = refl

read_span_to : pat_at Single 1 (dots (digits (codes "1") ∷ [])) ≡ Some ((pat.Span None false (Some one), 1), [])
unfolding single_at pat_by value literal span one_end op_at
read_span_to = refl

read_rest : pat_at Single 1 (dots []) ≡ Some ((pat.Rest, 1), [])
unfolding single_at pat_by span op_at lead_at
read_rest = refl

-- After `..=` an end stands.
not_without_end : pat_at Single 1 (digits (codes "1") ∷ dots_to []) ≡ None
unfolding single_at pat_by value_pat value literal span one_end path chain segment word_reading op_at
not_without_end = refl

-- No pattern is followed by `(`, and none by `..`.
not_before_paren : pat_at Single 1 (digits (codes "1") ∷ opens Paren ∷ []) ≡ None
unfolding single_at pat_by value_pat value literal op_at
not_before_paren = refl

not_before_dots : pat_at Single 1 (dots (digits (codes "1") ∷ dots [])) ≡ None
unfolding single_at pat_by value literal span one_end op_at
not_before_dots = refl

not_span_under_reference : pat_at Single 3 (mark (codes "&") ∷ digits (codes "1") ∷ dots (digits (codes "2") ∷ []))
    ≡ None
unfolding single_at pat_by value_pat value literal span one_end op_at ref_pat
not_span_under_reference = rw (pats.pat_span_is (Some one) false (Some two)) refl

-- `&mut a` is a mutable reference, and no reference to `mut a`,
read_mutable : pat_at Single 2 (mark (codes "&") ∷ word (codes "mut") ∷ word a ∷ [])
    ≡ Some ((pat.Ref true name_a, 2), [])
unfolding single_at pat_by simple_path path_pat path_by bind path chain segment args_by repeat repeat_from word_reading op_at ref_pat
read_mutable = rw (lone a, name_is a) refl

-- which stands in parentheses.
read_reference_to_mut : pat_at Single 3 (mark (codes "&") ∷ in_parens (word (codes "mut") ∷ word a ∷ []))
    ≡ Some ((pat.Ref false (pat.Paren (bound false true a)), 3), [])
unfolding single_at pat_by ref_pat paren_pat marked_bind bind chain repeat repeat_from name_reading op_at
read_reference_to_mut = rw (pats.pat_bind_is false true (named a) None, pats.pat_paren_is (bound false true a)) refl

-- `&&` are two references.
read_references : pat_at Single 3 (token kind.Punct (codes "&") true ∷ mark (codes "&") ∷ word a ∷ [])
    ≡ Some ((pat.Ref false (pat.Ref false name_a), 3), [])
unfolding single_at pat_by simple_path path_pat path_by bind path chain segment args_by repeat repeat_from word_reading op_at ref_pat
read_references = rw (lone a, name_is a, pats.pat_ref_is false name_a) refl

-- ---- what is read: alternatives

read_or : pat_at Alternatives 2 (word a ∷ mark (codes "|") ∷ word b ∷ [])
    ≡ Some ((pat.Or (name_a ∷ name_b ∷ []), 2), [])
unfolding single_at pat_by simple_path path_pat path_by bind path chain segment args_by repeat repeat_from word_reading op_at
read_or = rw (lone a, lone b) refl

-- A bar before them isn't in the tree,
read_behind_bar : pat_at Alternatives 2 (mark (codes "|") ∷ word a ∷ mark (codes "|") ∷ word b ∷ [])
    ≡ Some ((pat.Or (name_a ∷ name_b ∷ []), 2), [])
unfolding single_at pat_by simple_path path_pat path_by bind path chain segment args_by repeat repeat_from word_reading op_at
read_behind_bar = rw (lone a, lone b) refl

-- nor before one alone.
read_one_behind_bar : pat_at Alternatives 1 (mark (codes "|") ∷ word a ∷ []) ≡ Some ((name_a, 1), [])
unfolding single_at pat_by simple_path path_pat path_by bind path chain segment args_by repeat repeat_from word_reading op_at
read_one_behind_bar = rw (lone a) refl

-- Alternatives are one level above each of them.
not_or_within_one : pat_at Alternatives 1 (word a ∷ mark (codes "|") ∷ word b ∷ []) ≡ None
unfolding single_at pat_by simple_path path_pat path_by bind path chain segment args_by repeat repeat_from word_reading op_at
not_or_within_one = rw (lone a, lone b) refl

-- Where one may stand, one is read,
read_single_before_bar : pat_at Single 2 (word a ∷ mark (codes "|") ∷ word b ∷ [])
    ≡ Some ((name_a, 1), mark (codes "|") ∷ word b ∷ [])
unfolding single_at pat_by simple_path path_pat path_by bind path chain segment args_by repeat repeat_from word_reading op_at
read_single_before_bar = rw (lone a) refl

-- and no bar before it.
not_single_behind_bar : pat_at Single 2 (mark (codes "|") ∷ word a ∷ []) ≡ None
unfolding single_at pat_by simple_path path_pat path chain segment word_reading op_at
not_single_behind_bar = refl

-- ---- what is read: delimiters

read_no_tuple : pat_at Single 1 (in_parens []) ≡ Some ((pat.Tuple [], 1), [])
unfolding single_at pat_by paren_pat op_at
read_no_tuple = refl

read_tuple_of_one : pat_at Single 2 (in_parens (word a ∷ mark (codes ",") ∷ []))
    ≡ Some ((pat.Tuple (name_a ∷ []), 2), [])
unfolding single_at pat_by simple_path path_pat path_by bind path chain segment args_by repeat repeat_from word_reading op_at paren_pat elements elements_from
read_tuple_of_one = rw (lone a, name_is a) refl

read_tuple : pat_at Single 2 (in_parens (word a ∷ mark (codes ",") ∷ dots []))
    ≡ Some ((pat.Tuple (name_a ∷ pat.Rest ∷ []), 2), [])
unfolding single_at pat_by span simple_path path_pat path_by bind path chain segment args_by repeat repeat_from word_reading op_at lead_at paren_pat elements elements_from
read_tuple = rw (lone a) refl

read_paren : pat_at Single 2 (in_parens (word a ∷ [])) ≡ Some ((pat.Paren name_a, 2), [])
unfolding single_at pat_by simple_path path_pat path_by bind path chain segment args_by repeat repeat_from word_reading op_at paren_pat
read_paren = rw (lone a, name_is a) refl

read_or_in_parens : pat_at Single 3 (in_parens (mark (codes "|") ∷ word a ∷ mark (codes "|") ∷ word b ∷ []))
    ≡ Some ((pat.Paren (pat.Or (name_a ∷ name_b ∷ [])), 3), [])
unfolding single_at pat_by simple_path path_pat path_by bind path chain segment args_by repeat repeat_from word_reading op_at paren_pat
read_or_in_parens = rw (lone a, lone b, pats.pat_or_is (name_a ∷ name_b ∷ [])) refl

-- `..` alone in parentheses is a tuple, also after a bar,
read_rest_in_parens : pat_at Single 2 (in_parens (dots [])) ≡ Some ((pat.Tuple (pat.Rest ∷ []), 2), [])
unfolding single_at pat_by span op_at lead_at paren_pat chain repeat repeat_from
read_rest_in_parens = rw pats.pat_rest_is refl

read_rest_behind_bar : pat_at Single 2 (in_parens (mark (codes "|") ∷ dots []))
    ≡ Some ((pat.Tuple (pat.Rest ∷ []), 2), [])
unfolding single_at pat_by span op_at lead_at paren_pat chain repeat repeat_from
read_rest_behind_bar = rw pats.pat_rest_is refl

-- one level above it,
not_rest_within_one : pat_at Single 1 (in_parens (dots [])) ≡ None
unfolding single_at pat_by op_at paren_pat chain repeat repeat_from
not_rest_within_one = refl

-- and without a comma.
not_rest_with_comma : pat_at Single 2 (in_parens (dots (mark (codes ",") ∷ []))) ≡ None
unfolding single_at pat_by span op_at lead_at paren_pat elements elements_from chain repeat repeat_from
not_rest_with_comma = rw pats.pat_rest_is refl

read_slice : pat_at Single 2 (opens Bracket ∷ word a ∷ mark (codes ",") ∷ dots (closes Bracket ∷ []))
    ≡ Some ((pat.Slice (name_a ∷ pat.Rest ∷ []), 2), [])
unfolding single_at pat_by span simple_path path_pat path_by bind path chain segment args_by repeat repeat_from word_reading op_at lead_at slice_pat elements elements_from
read_slice = rw (lone a) refl

read_tuple_struct : pat_at Single 2 (word (codes "A") ∷ in_parens (word a ∷ mark (codes ",") ∷ dots []))
    ≡ Some ((pat.TupleStruct A (name_a ∷ pat.Rest ∷ []), 2), [])
unfolding single_at pat_by span simple_path path_pat path_by bind path chain segment args_by repeat repeat_from word_reading op_at lead_at elements elements_from
read_tuple_struct = rw (lone a) refl

-- ---- what is read: fields

read_fields : pat_at Single 2 (of_A (word b ∷ mark (codes ":") ∷ underscore ∷ mark (codes ",")
    ∷ digits (codes "0") ∷ mark (codes ":") ∷ word a ∷ mark (codes ",") ∷ word (codes "ref") ∷ word c ∷ mark (codes ",")
    ∷ dots []))
    ≡ Some ((three_fields true, 2), [])
unfolding single_at pat_by simple_path path_pat path_by bind path chain segment args_by repeat repeat_from word_reading op_at fields one_field open_elements open_elements_from attributes name_reading marked_bind
read_fields = rw (lone a, pats.pat_bind_is true false (named c) None) refl

read_no_fields : pat_at Single 1 (of_A []) ≡ Some ((pat.Struct A [] false, 1), [])
unfolding single_at pat_by simple_path path_pat path_by path chain segment args_by repeat repeat_from word_reading op_at fields open_elements open_elements_from
read_no_fields = refl

read_rest_of_fields : pat_at Single 1 (of_A (dots [])) ≡ Some ((pat.Struct A [] true, 1), [])
unfolding single_at pat_by simple_path path_pat path_by path chain segment args_by repeat repeat_from word_reading op_at fields open_elements open_elements_from
read_rest_of_fields = refl

-- Nothing stands after the `..`,
not_behind_rest : pat_at Single 3 (of_A (dots (mark (codes ",") ∷ word a ∷ []))) ≡ None
unfolding single_at pat_by simple_path path_pat path_by path chain segment args_by repeat repeat_from word_reading op_at fields open_elements open_elements_from
not_behind_rest = refl

-- no comma either,
not_comma_behind_rest : pat_at Single 3 (of_A (dots (mark (codes ",") ∷ []))) ≡ None
unfolding single_at pat_by simple_path path_pat path_by path chain segment args_by repeat repeat_from word_reading op_at fields open_elements open_elements_from
not_comma_behind_rest = refl

-- and it stands after one.
not_rest_without_comma : pat_at Single 3 (of_A (word (codes "ref") ∷ word a ∷ dots [])) ≡ None
unfolding single_at pat_by simple_path path_pat path_by bind path chain segment args_by repeat repeat_from word_reading op_at fields one_field open_elements open_elements_from attributes name_reading marked_bind
not_rest_without_comma = refl

-- A name that is bound to its field costs a level.
read_short : pat_at Single 2 (of_A (word a ∷ mark (codes ",") ∷ []))
    ≡ Some ((pat.Struct A (field.Short [] name_a ∷ []) false, 2), [])
unfolding single_at pat_by simple_path path_pat path_by bind path chain segment args_by repeat repeat_from word_reading op_at fields one_field open_elements open_elements_from attributes name_reading
read_short = rw (lone a, name_is a) refl

not_short_within_one : pat_at Single 1 (of_A (word a ∷ [])) ≡ None
unfolding single_at pat_by simple_path path_pat path_by path chain segment args_by repeat repeat_from word_reading op_at fields one_field open_elements open_elements_from attributes name_reading
not_short_within_one = refl

-- A pattern that is no name alone is no field.
not_short : (inner : PatWithin) (attrs : List Attr) (ts : List Token) (x : Pat × ℕ) (rest : List Token)
    → inner.pats Single ts ≡ Some (x, rest) → (about_pat x.0).short ≡ false → short_field inner attrs ts ≡ None
not_short inner attrs ts x rest h e = rw (h, e) refl

abbrev within_three : PatWithin
within_three = record { pats = λ place us. pat_in 3 (single_at 3) place us; kinds = within 3 }

-- `a @ 1 }`
abbrev a_at_one : List Token
a_at_one = word a ∷ mark (codes "@") ∷ digits (codes "1") ∷ closes Brace ∷ []

abbrev name_at_one : Pat
name_at_one = pat.Bind false false (named a) (Some (pat.Value (number false (codes "1"))))

read_at_one : pat_at Single 3 a_at_one ≡ Some ((name_at_one, 2), closes Brace ∷ [])
unfolding single_at pat_by value_pat value literal simple_path path_pat path_by bind path chain segment args_by repeat repeat_from word_reading op_at
read_at_one = rw (lone a) refl

at_one_is : (about_pat name_at_one).short ≡ false
at_one_is =
    ap (λ (x : PatFacts). x.short)
    (pats.pat_bind_is false false (named a) (Some (pat.Value (number false (codes "1")))))

no_field_at_one : one_field within_three a_at_one ≡ None
unfolding one_field attributes repeat repeat_from name_reading op_at
no_field_at_one = not_short within_three [] a_at_one (name_at_one, 2) (closes Brace ∷ []) read_at_one at_one_is

-- It is bound to nothing else,
not_short_with_pattern : pat_at Single 4 (word (codes "A") ∷ opens Brace ∷ a_at_one) ≡ None
unfolding single_at pat_by simple_path path_pat path_by path chain segment args_by repeat repeat_from word_reading op_at lead_at fields open_elements open_elements_from
not_short_with_pattern = rw no_field_at_one refl

-- A name alone is one.
short_read : (inner : PatWithin) (attrs : List Attr) (ts : List Token) (x : Pat × ℕ) (rest : List Token)
    → inner.pats Single ts ≡ Some (x, rest) → (about_pat x.0).short ≡ true
    → short_field inner attrs ts ≡ Some ((field.Short attrs x.0, x.1), rest)
short_read inner attrs ts x rest h e = rw (h, e) refl

-- `ref a | b }`
abbrev behind_ref_a : List Token
behind_ref_a = mark (codes "|") ∷ word b ∷ closes Brace ∷ []

field_ref_a : one_field within_three (word (codes "ref") ∷ word a ∷ behind_ref_a)
    ≡ Some ((field.Short [] (bound true false a), 1), behind_ref_a)
unfolding one_field attributes repeat repeat_from name_reading op_at single_at pat_by marked_bind bind
field_ref_a =
    short_read within_three [] (word (codes "ref") ∷ word a ∷ behind_ref_a) (bound true false a, 1) behind_ref_a refl
    (ap (λ (x : PatFacts). x.short) (pats.pat_bind_is true false (named a) None))

-- and no alternative.
not_short_or : pat_at Single 4 (word (codes "A") ∷ opens Brace ∷ word (codes "ref") ∷ word a ∷ behind_ref_a) ≡ None
unfolding single_at pat_by simple_path path_pat path_by path chain segment args_by repeat repeat_from word_reading op_at fields open_elements open_elements_from
not_short_or = rw field_ref_a refl
