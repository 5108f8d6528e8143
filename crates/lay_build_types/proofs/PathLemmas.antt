-- Paths of names: they are well formed in both styles, and need what their last arguments do.
use Rattle.std.proofs.Common.{◌≡◌, ◌∙◌, ℕ, max, Bool, true, false, ◌&&◌, ◌||◌, not, List, [], ◌∷◌, map, refl, sym, ap, subst, arith}
use Rattle.std.specs.List.{AllByRecursion}
use Rattle.std.proofs.lemmas.Bool.{and_from}
use Rattle.lay_piece.specs.Word.{class_of}
use Rattle.lay_piece.specs.declared.word.Class.{Class}
use Rattle.lay_piece.specs.declared.word.Class.TheVariants.{Plain}
use Rattle.lay_form.specs.Depth.{least_depth}
use Rattle.lay_form.specs.Form.{Form, Done, Part, Piece}
use Rattle.lay_form.specs.Pieces.{are_pieces}
use Rattle.lay_node.specs.Follow.{Begin, OfBang, OfColons}
use Rattle.lay_node.specs.Words.{colons, is_name, is_path_class, is_path_word, is_plain, leaf_of}
use Rattle.lay_node.specs.nodes.Facts.{Facts}
use Rattle.lay_node.specs.nodes.Types.{ArgsFacts, about_args, about_path, about_start, args_facts, in_style, path_facts, segment_good, segments_form, segments_good, segments_refuse, PathFacts, start_facts}
use Rattle.lay_node.specs.declared.token.Name.{Name}
use Rattle.lay_node.specs.declared.token.Word.{Word}
use Rattle.lay_node.specs.declared.types.Arg.TheOpen.{Args-F, PathStart-F}
use Rattle.lay_node.specs.declared.types.Args.{Args}
use Rattle.lay_node.specs.declared.types.Args.TheVariants as args
use Rattle.lay_node.specs.declared.types.Path.{Path}
use Rattle.lay_node.specs.declared.types.PathStyle.{PathStyle}
use Rattle.lay_node.specs.declared.types.PathStyle.TheVariants.{Code, Kind}
use Rattle.lay_node.specs.declared.types.PathStart.TheVariants as start
use Rattle.lay_node.proofs.nodes.TypesLaws as laws
use Rattle.lay_node.proofs.nodes.TypesLaws.{about_segment}
use Rattle.lay_code.specs.nodes.Exprs.{lacks_args}
use Rattle.lay_depth.specs.nodes.Depths.{greatest, segment_args}
use Rattle.lay_depth.proofs.nodes_lemmas.PathLemmas as depths
use Rattle.lay_build_types.specs.Answers.{IsKept}
use Rattle.lay_build_types.specs.Kinds.{IsName, form_of_name}
use Rattle.lay_build_types.specs.Nodes as node
use Rattle.lay_build_types.proofs.PieceLemmas.{Pieces, leaf_pieces}

-- a name that was built, and several
abbrev pub KeptName : Name → Type 0
KeptName n = IsKept form_of_name IsName n

abbrev pub KeptNames : List Name → Type 0
KeptNames ns = AllByRecursion KeptName ns

-- ---- words

plain_class : (c : Class) → is_plain c ≡ true → is_path_class c ≡ true
plain_class Plain h = refl
plain_class _ h = cc

-- A name is a word of a path.
pub name_word : (raw : Bool) (text : List ℕ) → is_name raw text ≡ true → is_path_word raw text ≡ true
name_word true text h = refl
name_word false text h = plain_class (class_of text) h

-- ---- segments, of which all is told

-- no arguments
abbrev none : ArgsFacts
none = args_facts Args-F.None

abbrev told_before : List Name → ArgsFacts → ArgsFacts
told_before [] last = last
told_before (n ∷ rest) last = none

abbrev told_further : List Name → ArgsFacts → List (Word × ArgsFacts)
told_further [] last = []
told_further (n ∷ rest) last = (node.word n, told_before rest last) ∷ told_further rest last

abbrev told : Name → List Name → ArgsFacts → List (Word × ArgsFacts)
told first rest last = (node.word first, told_before rest last) ∷ told_further rest last

before_is : (rest : List Name) (last : Args) → about_args (node.args_before rest last) ≡ told_before rest (about_args last)
before_is [] last = refl
before_is (n ∷ rest) last = laws.args_none_is

further_are : (rest : List Name) (last : Args) → map about_segment (node.further rest last) ≡ told_further rest (about_args last)
further_are [] last = refl
further_are (n ∷ rest) last =
    ap (λ (a : ArgsFacts). (node.word n, a) ∷ map about_segment (node.further rest last)) (before_is rest last)
    ∙ ap (λ (ss : List (Word × ArgsFacts)). (node.word n, told_before rest (about_args last)) ∷ ss) (further_are rest last)

told_is : (first : Name) (rest : List Name) (last : Args)
    → map about_segment (node.segments first rest last) ≡ told first rest (about_args last)
told_is first rest last =
    ap (λ (a : ArgsFacts). (node.word first, a) ∷ map about_segment (node.further rest last)) (before_is rest last)
    ∙ ap (λ (ss : List (Word × ArgsFacts)). (node.word first, told_before rest (about_args last)) ∷ ss) (further_are rest last)

-- What holds of the arguments that a path ends in.
pub record GoodArgs (style : PathStyle) (last : ArgsFacts) : Type 0 where
  pub pieces : are_pieces (in_style style last).form ≡ true
  pub good : (in_style style last).good ≡ true
  pub returns : last.returns ≡ false

pub good_none : (style : PathStyle) → GoodArgs style none
good_none Code = record { pieces = refl; good = refl; returns = refl }
good_none Kind = record { pieces = refl; good = refl; returns = refl }

module _ (style : PathStyle) (last : ArgsFacts) (h : GoodArgs style last) where
  before_good : (rest : List Name) → GoodArgs style (told_before rest last)
  before_good [] = h
  before_good (n ∷ rest) = good_none style

  segment_pieces : (n : Name) (rest : List Name) (f : Form) → KeptName n → Pieces f
      → Pieces (leaf_of n.raw n.text (Part (in_style style (told_before rest last)).form f))
  segment_pieces n rest f kept more =
      let a = (in_style style (told_before rest last)).form in
      leaf_pieces n.raw n.text (Part a f) kept.made.pieces
      (and_from (are_pieces a) (are_pieces f) (before_good rest).pieces more)

  pub told_pieces : (first : Name) (rest : List Name) → KeptName first → KeptNames rest → Pieces (segments_form style (told first rest last))
  told_pieces first [] kept all = segment_pieces first [] Done kept refl
  told_pieces first (n ∷ rest) kept all =
      segment_pieces first (n ∷ rest) (Piece colons (segments_form style (told n rest last))) kept (told_pieces n rest all.0 all.1)

  one_good : (n : Name) (rest : List Name) → KeptName n → segment_good style (node.word n, told_before rest last) ≡ true
  one_good n rest kept =
      and_from (is_path_word n.raw n.text) (in_style style (told_before rest last)).good
      (name_word n.raw n.text kept.made.holding) (before_good rest).good

  pub told_good : (first : Name) (rest : List Name) → KeptName first → KeptNames rest → segments_good style (told first rest last) ≡ true
  told_good first [] kept all = one_good first [] kept
  told_good first (n ∷ rest) kept all =
      let one = segment_good style (node.word first, none) in
      and_from (one && true) (segments_good style (told n rest last))
      (and_from one true (one_good first (n ∷ rest) kept) refl) (told_good n rest all.0 all.1)

told_refuses : (style : PathStyle) (last : ArgsFacts) (first : Name) (rest : List Name)
    → segments_refuse style (told first rest last) ≡ (in_style style last).refuses
told_refuses style last first [] = refl
told_refuses style last first (n ∷ rest) = told_refuses style last n rest

-- ---- paths

-- All that is asked of a path.
pub record GoodPath (p : Path) (style : PathStyle) (refuses : List Begin) : Type 0 where
  pub pieces : are_pieces (about_path p style).form ≡ true
  pub good : (about_path p style).good ≡ true
  pub refused : (about_path p style).refuses ≡ OfColons ∷ refuses

module _ (first : Name) (rest : List Name) (last : Args) (style : PathStyle) (kept : KeptName first) (all : KeptNames rest)
    (h : GoodArgs style (about_args last)) where
  abbrev facts : PathFacts
  facts = path_facts (record { start = start_facts PathStart-F.Local; segments = told first rest (about_args last) })

  facts_are : about_path (node.path first rest last) ≡ facts
  facts_are =
      laws.path_is (node.path first rest last)
      ∙ ap (λ (x : Facts). path_facts (record { start = x; segments = map about_segment (node.segments first rest last) })) laws.start_local_is
      ∙ ap (λ (ss : List (Word × ArgsFacts)). path_facts (record { start = start_facts PathStart-F.Local; segments = ss })) (told_is first rest last)

  pub path_good : GoodPath (node.path first rest last) style (in_style style (about_args last)).refuses
  path_good =
      let a = about_args last in
      record {
        pieces = ap (λ (f : PathFacts). are_pieces (f style).form) facts_are ∙ told_pieces style a h first rest kept all;
        good = ap (λ (f : PathFacts). (f style).good) facts_are ∙ told_good style a h first rest kept all;
        refused = ap (λ (f : PathFacts). (f style).refuses) facts_are ∙ ap (λ (bs : List Begin). OfColons ∷ bs) (told_refuses style a first rest);
      }

pub no_args : least_depth (about_args args.None).kind.form ≡ 0
no_args = ap (λ (a : ArgsFacts). least_depth a.kind.form) laws.args_none_is

local_start : least_depth (about_start start.Local).form ≡ 0
local_start = ap (λ (f : Facts). least_depth f.form) laws.start_local_is

-- It needs what its last arguments do.
before_depth : (rest : List Name) (last : Args) (n : Name)
    → greatest (map segment_args (node.segments n rest last)) ≡ least_depth (about_args last).kind.form
before_depth [] last n = omega arith
before_depth (m ∷ rest) last n =
    let here = no_args in
    let more = before_depth rest last m in omega (arith, here, more)

pub path_depth : (first : Name) (rest : List Name) (last : Args)
    → least_depth (about_path (node.path first rest last) Kind).form ≡ least_depth (about_args last).kind.form
path_depth first rest last =
    let whole = depths.path_is (node.path first rest last) Kind in
    let begun = local_start in
    let more = before_depth rest last first in omega (arith, whole, begun, more)

-- ---- paths without arguments, in code

pub plain_path : (first : Name) (rest : List Name) → KeptName first → KeptNames rest
    → GoodPath (node.path first rest args.None) Code (none.code.refuses)
plain_path first rest kept all =
    let h : GoodArgs Code (about_args args.None) = subst (GoodArgs Code) (sym laws.args_none_is) (good_none Code) in
    let p = path_good first rest args.None Code kept all h in
    subst (λ (a : ArgsFacts). GoodPath (node.path first rest args.None) Code (in_style Code a).refuses) laws.args_none_is p

pub plain_depth : (first : Name) (rest : List Name) → least_depth (about_path (node.path first rest args.None) Kind).form ≡ 0
plain_depth first rest = path_depth first rest args.None ∙ no_args
