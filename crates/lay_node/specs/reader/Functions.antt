-- The parser of the heads of functions.
use Rattle.std.specs.Prelude.{ℕ, zero, suc, max, ◌&&◌, ◌||◌, not, Bool, true, false, if◌then◌else◌, List, drop, codes, Option, Some, None}
use Rattle.lay_token.specs.Operators.{is_op}
use Rattle.lay_piece.specs.declared.kind.Delim.TheVariants.{Paren}
use Rattle.lay_piece.specs.declared.kind.Kind.{Kind}
use Rattle.lay_piece.specs.declared.kind.Kind.TheVariants as kind
use Rattle.lay_node.specs.Ahead.{Tokens, first, tail, is_keyword, is_lifetime, is_mark, opens, closes}
use Rattle.lay_node.specs.nodes.Functions.{ends_variadic, may_say, receives_first, varies_last}
use Rattle.lay_node.specs.reader.Attr.{attributes}
use Rattle.lay_node.specs.reader.Generics.{generics}
use Rattle.lay_node.specs.reader.Loops.{Got, Read, ◌>>=◌, passed, nodes, deepest, open_elements}
use Rattle.lay_node.specs.reader.Patterns.{PatWithin, pat_at}
use Rattle.lay_node.specs.reader.Types.{Within, abi, flag, if_read, if_there, lifetime, operator, within}
use Rattle.lay_node.specs.reader.Words.{name}
use Rattle.lay_node.specs.declared.functions.FnHead.{FnHead}
use Rattle.lay_node.specs.declared.functions.Param.{Param}
use Rattle.lay_node.specs.declared.functions.ParamKind.{ParamKind}
use Rattle.lay_node.specs.declared.functions.ParamKind.TheVariants as param
use Rattle.lay_node.specs.declared.functions.Safety.{Safety}
use Rattle.lay_node.specs.declared.functions.Safety.TheVariants as safety
use Rattle.lay_node.specs.declared.heads.Site.{Site}
use Rattle.lay_node.specs.declared.patterns.Pat.{Pat}
use Rattle.lay_node.specs.declared.patterns.PatPlace.TheVariants.{Single}
use Rattle.lay_node.specs.declared.types.Ty.{Ty}
use Rattle.lay_node.specs.declared.types.TypePlace.TheVariants.{Bounds}

-- the parsers of what is within the heads of items, by the budget
abbrev pub insides : ℕ → PatWithin
insides budget = record { pats = λ place ts. pat_at place budget ts; kinds = within budget }

-- a node with types and patterns within it, parsed by itself: they are one level deeper
abbrev pub head_at : {A : Type 0} → (PatWithin → Tokens → Read A) → ℕ → Tokens → Read A
head_at one zero ts = None
head_at one (suc budget) ts = do x ← one (insides budget) ts; Some ((x.0.0, suc x.0.1), x.1)

-- ---- receivers

abbrev pub mut_flag : Tokens → Bool × Tokens
mut_flag ts = flag (is_keyword (codes "mut")) ts

abbrev pub behind_lifetime : Tokens → Tokens
behind_lifetime ts = (flag is_lifetime ts).1

-- `self`, at the end of a parameter
abbrev pub ends_param : Tokens → Bool
ends_param ts = first (is_mark (codes ",")) ts || first (closes Paren) ts

abbrev pub is_self_by_ref : Tokens → Bool
is_self_by_ref ts = first (is_keyword (codes "self")) ts && ends_param (tail ts)

abbrev pub is_self_by_itself : Tokens → Bool
is_self_by_itself ts = first (is_keyword (codes "self")) ts && (ends_param (tail ts) || is_op (codes ":") (tail ts))

-- A receiver begins: elsewhere `self` leads a pattern.
abbrev pub begins_ref_self : Tokens → Bool
begins_ref_self ts = first (is_mark (codes "&")) ts && is_self_by_ref (mut_flag (behind_lifetime (tail ts))).1

abbrev pub begins_own_self : Tokens → Bool
begins_own_self ts = is_self_by_itself (mut_flag ts).1

-- what follows the `&` of a receiver
unfoldable pub ref_self : Tokens → Got ParamKind
ref_self ts = do
  l ← if_there (first is_lifetime ts) lifetime ts
  Some (param.RefSelf l.0 (mut_flag l.1).0, tail (mut_flag l.1).1)

unfoldable pub own_self : Within → Tokens → Read ParamKind
own_self within ts = do
  x ← if_read (is_op (codes ":") (tail (mut_flag ts).1)) (λ us. within.types Bounds (drop 1 us)) (tail (mut_flag ts).1)
  Some ((param.OwnSelf (mut_flag ts).0 x.0.0, x.0.1), x.1)

-- ---- parameters

-- what follows a pattern and a `:`
abbrev pub typed_by : Within → Pat × ℕ → Tokens → Read ParamKind
typed_by within p ts =
    if is_op (codes "...") ts then Some ((param.NamedVariadic p.0, p.1), drop 3 ts)
    else (do x ← within.types Bounds ts; Some ((param.Typed p.0 x.0.0, max p.1 x.0.1), x.1))

unfoldable pub typed : PatWithin → Tokens → Read ParamKind
typed within ts = do
  p ← within.pats Single ts
  at ← operator (codes ":") p.1
  typed_by within.kinds p.0 at

unfoldable pub param_kind : PatWithin → Tokens → Read ParamKind
param_kind within ts =
    if begins_ref_self ts then (do k ← ref_self (tail ts); Some ((k.0, 0), k.1))
    else (if begins_own_self ts then own_self within.kinds ts
    else (if is_op (codes "...") ts then Some ((param.Variadic, 0), drop 3 ts) else typed within ts))

unfoldable pub fn_param : PatWithin → Tokens → Read Param
fn_param within ts = do
  attrs ← attributes false ts
  k ← param_kind within attrs.1
  Some ((record { attrs = attrs.0; kind = k.0.0 }, k.0.1), k.1)

abbrev pub begins_fn_param : Tokens → Bool
begins_fn_param ts = not (first (closes Paren) ts)

-- Receivers and variadic parameters stand where they may, and no comma stands after a variadic one.
abbrev pub are_in_order : List Param → Bool → Bool
are_in_order ps comma = receives_first ps && varies_last ps && not (ends_variadic ps && comma)

unfoldable pub fn_params : PatWithin → Tokens → Read (List Param)
fn_params within ts = do
  inside ← passed (opens Paren) ts
  ps ← open_elements begins_fn_param (fn_param within) inside
  rest ← passed (closes Paren) ps.1
  if are_in_order (nodes ps.0.0) ps.0.1 then Some ((nodes ps.0.0, deepest ps.0.0), rest) else None

-- ---- heads

abbrev pub safety_at : Tokens → Option Safety × Tokens
safety_at ts =
    if first (is_keyword (codes "unsafe")) ts then (Some safety.Unsafe, tail ts)
    else (if first (is_keyword (codes "safe")) ts then (Some safety.Safe, tail ts) else (None, ts))

abbrev pub const_flag : Tokens → Bool × Tokens
const_flag ts = flag (is_keyword (codes "const")) ts

abbrev pub async_flag : Tokens → Bool × Tokens
async_flag ts = flag (is_keyword (codes "async")) ts

-- what follows `const` and `async`
abbrev pub safety_behind : Tokens → Option Safety × Tokens
safety_behind ts = safety_at (async_flag (const_flag ts).1).1

abbrev pub is_string_kind : Kind → Bool
is_string_kind kind.Str = true
is_string_kind kind.RawStr = true
is_string_kind _ = false

-- what follows the string after `extern`, if one stands there
abbrev pub behind_string : Tokens → Tokens
behind_string ts = if first (λ t. is_string_kind t.kind) ts then tail ts else ts

-- what follows an ABI, if one comes next
abbrev pub behind_abi : Tokens → Tokens
behind_abi ts = if first (is_keyword (codes "extern")) ts then behind_string (tail ts) else ts

-- what follows the words that may stand before `fn`
abbrev pub behind_qualifiers : Tokens → Tokens
behind_qualifiers ts = behind_abi (safety_behind ts).1

abbrev pub head_output : Within → Tokens → Read (Option Ty)
head_output within ts = if_read (is_op (codes "->") ts) (λ us. within.types Bounds (drop 2 us)) ts

unfoldable pub fn_head : Site → PatWithin → Tokens → Read FnHead
fn_head site within ts = do
  a ← if_there (first (is_keyword (codes "extern")) (safety_behind ts).1) abi (safety_behind ts).1
  behind ← passed (is_keyword (codes "fn")) a.1
  n ← name behind
  g ← generics within.kinds n.1
  ps ← fn_params within g.1
  o ← head_output within.kinds ps.1
  if may_say site (safety_behind ts).0
      then Some (
        (
          record {
            is_const = (const_flag ts).0;
            is_async = (async_flag (const_flag ts).1).0;
            safety = (safety_behind ts).0;
            abi = a.0;
            name = n.0;
            generics = g.0.0.0;
            params = ps.0.0;
            output = o.0.0;
          },
          max g.0.1 (max ps.0.1 o.0.1),
        ),
        o.1,
      )
      else None
