-- Which node each call that builds names, paths or types makes.
use Rattle.std.specs.Prelude.{ℕ, ◌&&◌, not, Bool, true, false, List, [], ◌∷◌, map, None}
use Rattle.lay_piece.specs.Word.{class_of, is_path_word}
use Rattle.lay_piece.specs.declared.kind.Kind.TheVariants as kind
use Rattle.lay_piece.specs.declared.word.Class.{Class}
use Rattle.lay_piece.specs.declared.word.Class.TheVariants.{Strict, Reserved}
use Rattle.lay_form.specs.Pieces.{is_text_of}
use Rattle.lay_node.specs.declared.token.Name.{Name}
use Rattle.lay_node.specs.declared.token.Word.{Word}
use Rattle.lay_node.specs.declared.types.Arg.TheVariants as arg
use Rattle.lay_node.specs.declared.types.Args.{Args}
use Rattle.lay_node.specs.declared.types.Args.TheVariants as args
use Rattle.lay_node.specs.declared.types.Path.{Path}
use Rattle.lay_node.specs.declared.types.PathStart.TheVariants as start
use Rattle.lay_node.specs.declared.types.Ty.{Ty}
use Rattle.lay_node.specs.declared.types.Ty.TheVariants as ty

-- ---- names and paths

-- The text is an identifier other than `_`, and no keyword that may stand in a path.
abbrev pub may_be_name : List ℕ → Bool
may_be_name text = is_text_of kind.Ident text && not (is_path_word text)

-- A keyword that may not stand in a path is a name if it is raw.
abbrev pub is_raw : Class → Bool
is_raw Strict = true
is_raw Reserved = true
is_raw _ = false

abbrev pub name : List ℕ → Name
name text = record { raw = is_raw (class_of text); text = text }

abbrev pub word : Name → Word
word given = record { raw = given.raw; text = given.text }

-- the arguments of a word in a path: those of the path if it is the last word, and otherwise none
abbrev pub args_before : List Name → Args → Args
args_before [] arguments = arguments
args_before (next ∷ rest) arguments = args.None

abbrev pub further : List Name → Args → List (Word × Args)
further [] arguments = []
further (next ∷ rest) arguments = (word next, args_before rest arguments) ∷ further rest arguments

-- the words of a path, of which the last one has the arguments
abbrev pub segments : Name → List Name → Args → List (Word × Args)
segments first rest arguments = (word first, args_before rest arguments) ∷ further rest arguments

abbrev pub path : Name → List Name → Args → Path
path first rest arguments = record { start = start.Local; segments = segments first rest arguments }

-- ---- types

abbrev pub type_args : List Ty → Args
type_args [] = args.None
type_args (t ∷ ts) = args.Angle (map arg.Plain (t ∷ ts))

abbrev pub type_path : Name → List Name → List Ty → Ty
type_path first rest arguments = ty.Path (path first rest (type_args arguments))

abbrev pub type_ref : Bool → Ty → Ty
type_ref writable of = ty.Ref None writable of

abbrev pub type_tuple : List Ty → Ty
type_tuple parts = ty.Tuple parts
