-- The parser of the heads of items, and of the items that are heads alone.
use Rattle.std.specs.Prelude.{ℕ, max, ◌&&◌, ◌||◌, not, Bool, if◌then◌else◌, List, drop, codes, Option, Some, None}
use Rattle.lay_token.specs.Operators.{is_op}
use Rattle.lay_piece.specs.declared.kind.Delim.TheVariants.{Paren, Brace}
use Rattle.lay_node.specs.Ahead.{Tokens, first, tail, is_keyword, is_mark, opens}
use Rattle.lay_node.specs.nodes.Heads.{ends_head, is_crate_word, may_be_given}
use Rattle.lay_node.specs.nodes.Types.{is_there}
use Rattle.lay_node.specs.reader.Fields.{named_fields, tuple_fields, variants}
use Rattle.lay_node.specs.reader.Generics.{generics, met_if}
use Rattle.lay_node.specs.reader.Loops.{Got, Read, ◌>>=◌, passed}
use Rattle.lay_node.specs.reader.Types.{Within, flag, if_read, operator, path}
use Rattle.lay_node.specs.reader.Use.{renamed}
use Rattle.lay_node.specs.reader.Where.{wheres}
use Rattle.lay_node.specs.reader.Words.{given_name, name, word}
use Rattle.lay_node.specs.declared.fields.Fields.TheVariants as fields
use Rattle.lay_node.specs.declared.generics.Generics.{Generics}
use Rattle.lay_node.specs.declared.heads.Alias.{Alias}
use Rattle.lay_node.specs.declared.heads.Enum.{Enum}
use Rattle.lay_node.specs.declared.heads.ExternCrate.{ExternCrate}
use Rattle.lay_node.specs.declared.heads.ImplHead.{ImplHead}
use Rattle.lay_node.specs.declared.heads.Site.{Site}
use Rattle.lay_node.specs.declared.heads.Struct.{Struct}
use Rattle.lay_node.specs.declared.heads.TraitHead.{TraitHead}
use Rattle.lay_node.specs.declared.heads.TraitRef.{TraitRef}
use Rattle.lay_node.specs.declared.heads.Union.{Union}
use Rattle.lay_node.specs.declared.heads.ValueHead.{ValueHead}
use Rattle.lay_node.specs.declared.heads.ValueHead.TheVariants as value
use Rattle.lay_node.specs.declared.token.Name.{Name}
use Rattle.lay_node.specs.declared.types.Path.{Path}
use Rattle.lay_node.specs.declared.types.PathStyle.TheVariants.{Kind as InKind}
use Rattle.lay_node.specs.declared.types.Ty.{Ty}
use Rattle.lay_node.specs.declared.types.TypePlace.TheVariants.{Bounds}

abbrev pub semicolon : Tokens → Option Tokens
semicolon ts = passed (is_mark (codes ";")) ts

-- a keyword and a name, with generic parameters after it
abbrev pub called : Within → List ℕ → Tokens → Read (Name × Generics)
called within keyword ts = do
  behind ← passed (is_keyword keyword) ts
  n ← name behind
  g ← generics within n.1
  Some (((n.0, g.0.0.0), g.0.1), g.1)

-- ---- what is outside

unfoldable pub extern_crate : Tokens → Got ExternCrate
extern_crate ts = do
  behind ← passed (is_keyword (codes "extern")) ts
  at ← passed (is_keyword (codes "crate")) behind
  w ← word at
  r ← renamed w.1
  rest ← semicolon r.1
  if is_crate_word w.0 then Some (record { word = w.0; renamed = r.0 }, rest) else None

-- ---- types with a name

-- a type after a `=`, if one is given
abbrev pub given : Within → Tokens → Read (Option Ty)
given within ts = if_read (is_op (codes "=") ts) (λ us. within.types Bounds (drop 1 us)) ts

unfoldable pub alias : Site → Within → Tokens → Read Alias
alias site within ts = do
  c ← called within (codes "type") ts
  b ← met_if within c.1
  x ← given within b.1
  w ← wheres within x.1
  rest ← semicolon w.1
  if may_be_given site x.0.0
      then Some (
        (
          record { name = c.0.0.0; generics = c.0.0.1; bounds = b.0.0; ty = x.0.0; wheres = w.0.0.0 },
          max c.0.1 (max b.0.1 (max x.0.1 w.0.1)),
        ),
        rest,
      )
      else None

-- ---- structs, unions and enumerations

-- the rest of a struct with tuple fields: these, a where clause and a `;`
abbrev pub tuple_struct : Within → (Name × Generics) × ℕ → Tokens → Read Struct
tuple_struct within c ts = do
  fs ← tuple_fields within ts
  w ← wheres within fs.1
  rest ← semicolon w.1
  Some ((record { name = c.0.0; generics = c.0.1; fields = fields.Tuple fs.0.0; wheres = w.0.0.0 }, max c.1 (max fs.0.1 w.0.1)), rest)

-- the rest of another struct: a where clause, and then named fields or a `;`
abbrev pub other_struct : Within → (Name × Generics) × ℕ → Tokens → Read Struct
other_struct within c ts = do
  w ← wheres within ts
  if first (opens Brace) w.1
      then (do
        fs ← named_fields within w.1
        Some ((record { name = c.0.0; generics = c.0.1; fields = fields.Named fs.0.0; wheres = w.0.0.0 }, max c.1 (max w.0.1 fs.0.1)), fs.1))
      else (do
        rest ← semicolon w.1
        Some ((record { name = c.0.0; generics = c.0.1; fields = fields.Unit; wheres = w.0.0.0 }, max c.1 w.0.1), rest))

unfoldable pub struct : Within → Tokens → Read Struct
struct within ts = do
  c ← called within (codes "struct") ts
  if first (opens Paren) c.1 then tuple_struct within c.0 c.1 else other_struct within c.0 c.1

unfoldable pub union : Within → Tokens → Read Union
union within ts = do
  c ← called within (codes "union") ts
  w ← wheres within c.1
  fs ← named_fields within w.1
  Some ((record { name = c.0.0.0; generics = c.0.0.1; wheres = w.0.0.0; fields = fs.0.0 }, max c.0.1 (max w.0.1 fs.0.1)), fs.1)

unfoldable pub enum : Within → Tokens → Read Enum
enum within ts = do
  c ← called within (codes "enum") ts
  w ← wheres within c.1
  vs ← variants within w.1
  Some ((record { name = c.0.0.0; generics = c.0.0.1; wheres = w.0.0.0; variants = vs.0.0 }, max c.0.1 (max w.0.1 vs.0.1)), vs.1)

-- ---- constants and statics

-- a type after a `:`
abbrev pub of_type : Within → Tokens → Read Ty
of_type within ts = do at ← operator (codes ":") ts; within.types Bounds at

abbrev pub const_head : Within → Tokens → Read ValueHead
const_head within ts = do n ← given_name ts; x ← of_type within n.1; Some ((value.Const n.0 x.0.0, x.0.1), x.1)

abbrev pub static_head : Within → Tokens → Read ValueHead
static_head within ts = do
  n ← name (flag (is_keyword (codes "mut")) ts).1
  x ← of_type within n.1
  Some ((value.Static (flag (is_keyword (codes "mut")) ts).0 n.0 x.0.0, x.0.1), x.1)

unfoldable pub value_head : Within → Tokens → Read ValueHead
value_head within ts =
    if first (is_keyword (codes "const")) ts then const_head within (tail ts)
    else (do behind ← passed (is_keyword (codes "static")) ts; static_head within behind)

-- ---- traits

abbrev pub unsafe_flag : Tokens → Bool × Tokens
unsafe_flag ts = flag (is_keyword (codes "unsafe")) ts

-- a head; whether the `<` and `>` of its generic parameters are spelled; and whether a `:` stands after them
unfoldable pub trait_head : Within → Tokens → Read (TraitHead × (Bool × Bool))
trait_head within ts = do
  behind ← passed (is_keyword (codes "trait")) (unsafe_flag ts).1
  n ← name behind
  g ← generics within n.1
  b ← met_if within g.1
  Some (
    (
      (record { is_unsafe = (unsafe_flag ts).0; name = n.0; generics = g.0.0.0; bounds = b.0.0 }, (g.0.0.1, is_op (codes ":") g.1)),
      max g.0.1 b.0.1,
    ),
    b.1,
  )

-- ---- implementations

-- the trait that is implemented, if a path and `for` are found
abbrev pub trait_found : Bool → Tokens → Got (Path × ℕ) → Read (Option TraitRef)
trait_found negative ts None = Some ((None, 0), ts)
trait_found negative ts (Some p) =
    if first (is_keyword (codes "for")) p.1 then Some ((Some (record { negative = negative; path = p.0.0 }), p.0.1), tail p.1)
    else Some ((None, 0), ts)

-- the trait that is implemented and the `for` after it, if they stand there, since a type may begin as they do
unfoldable pub trait_ref : Within → Tokens → Read (Option TraitRef)
trait_ref within ts =
    trait_found (flag (is_mark (codes "!")) ts).0 ts (path within InKind (flag (is_mark (codes "!")) ts).1)

-- Where no generic parameters are spelled, no `<` may follow.
unfoldable pub impl_head : Within → Tokens → Read ImplHead
impl_head within ts = do
  behind ← passed (is_keyword (codes "impl")) (unsafe_flag ts).1
  g ← generics within behind
  r ← trait_ref within g.1
  x ← within.types Bounds r.1
  if (is_there g.0.0.0.params || not (first (is_mark (codes "<")) g.1)) && ends_head x.1
      then Some ((record { is_unsafe = (unsafe_flag ts).0; generics = g.0.0.0; of = r.0.0; ty = x.0.0 }, max g.0.1 (max r.0.1 x.0.1)), x.1)
      else None
