-- One step of a reader, from what the readers within it give.
use Rattle.std.proofs.Common.{◌≡◌, ℕ, max, Bool, true, false, if◌then◌else◌, List, codes, Option, Some, None, refl, sym, ap, ◌∙◌}
use Rattle.lay_piece.specs.declared.kind.Delim.TheVariants.{Paren}
use Rattle.lay_node.specs.Ahead.{Tokens, first, tail, is_keyword, opens, closes}
use Rattle.lay_node.specs.reader.Fields.{variants}
use Rattle.lay_node.specs.reader.Functions.{are_in_order, async_flag, begins_fn_param, const_flag, fn_head, fn_param, fn_params, safety_at, safety_behind}
use Rattle.lay_node.specs.reader.Heads as r
use Rattle.lay_node.specs.reader.Loops.{Got, Read, ◌>>=◌, passed, nodes, deepest, open_elements}
use Rattle.lay_node.specs.reader.Patterns.{PatWithin}
use Rattle.lay_node.specs.reader.Types.{Within, abi, if_there}
use Rattle.lay_node.specs.reader.Where.{wheres}
use Rattle.lay_node.specs.declared.functions.Param.{Param}
use Rattle.lay_node.specs.declared.functions.Safety.{Safety}
use Rattle.lay_node.specs.declared.heads.Site.{Site}
use Rattle.lay_node.specs.declared.types.Abi.{Abi}
use Rattle.lay_read_parts.specs.Answers.{gathered_open}
use Rattle.lay_read_head_rules.specs.Answers.{closed_params, named_fn, qualifiers, with_abi}
use Rattle.lay_read_head_rules.specs.declared.functions.Qualifiers.{Qualifiers}

-- ---- parameters

pub fn_params_is : (w : PatWithin) (ts : Tokens) → fn_params w ts
    ≡ (passed (opens Paren) ts >>= (λ inside. gathered_open (open_elements begins_fn_param (fn_param w) inside)
    >>= (λ ps. closed_params ps.0 ps.1)))
unfolding fn_params
fn_params_is w ts = by (first (opens Paren) ts)
  where
    read : (o : Got (List (Param × ℕ) × Bool))
        → (o >>= (λ ps. passed (closes Paren) ps.1 >>= (λ rest. let got : Read (List Param) =
        if are_in_order (nodes ps.0.0) ps.0.1 then Some ((nodes ps.0.0, deepest ps.0.0), rest) else None in got)))
        ≡ (gathered_open o >>= (λ ps. closed_params ps.0 ps.1))
    read None = refl
    read (Some ps) = refl

    by : (b : Bool) → ((if b then Some (tail ts) else None)
        >>= (λ inside. open_elements begins_fn_param (fn_param w) inside
        >>= (λ ps. passed (closes Paren) ps.1 >>= (λ rest. let got : Read (List Param) =
        if are_in_order (nodes ps.0.0) ps.0.1 then Some ((nodes ps.0.0, deepest ps.0.0), rest) else None in got))))
        ≡ ((if b then Some (tail ts) else None) >>= (λ inside. gathered_open (open_elements begins_fn_param (fn_param w) inside)
        >>= (λ ps. closed_params ps.0 ps.1)))
    by true = read (open_elements begins_fn_param (fn_param w) (tail ts))
    by false = refl

-- ---- heads of functions

abbrev with_safety : Bool → Bool → Option Safety × Tokens → Got Qualifiers
with_safety is_const is_async s = with_abi is_const is_async s.0 s.1

pub qualifiers_are : (ts mid behind rest : Tokens) (is_const is_async : Bool) (safety : Option Safety)
    → is_const ≡ (const_flag ts).0 → mid ≡ (const_flag ts).1 → is_async ≡ (async_flag mid).0 → behind ≡ (async_flag mid).1
    → safety_at behind ≡ (safety, rest) → qualifiers ts ≡ with_abi is_const is_async safety rest
qualifiers_are ts mid behind rest is_const is_async safety c m a b s =
    (λ i. with_safety (sym c i) (async_flag (sym m i)).0 (safety_at (async_flag (sym m i)).1))
    ∙ (λ i. with_safety is_const (sym a i) (safety_at (sym b i)))
    ∙ ap (with_safety is_const is_async) s

pub fn_head_is : (site : Site) (w : PatWithin) (ts : Tokens)
    → fn_head site w ts ≡ (qualifiers ts >>= (λ q. named_fn site w q.0 q.1))
unfolding fn_head
fn_head_is site w ts = by (if_there (first (is_keyword (codes "extern")) (safety_behind ts).1) abi (safety_behind ts).1)
  where
    told : Option Abi → Qualifiers
    told a = record {
      is_const = (const_flag ts).0;
      is_async = (async_flag (const_flag ts).1).0;
      safety = (safety_behind ts).0;
      abi = a;
    }

    at : (a : Option Abi) (o : Option Tokens) → (o >>= (λ behind. named_fn site w (told a) behind))
        ≡ ((o >>= (λ rest. let got : Got Qualifiers = Some (told a, rest) in got)) >>= (λ q. named_fn site w q.0 q.1))
    at a None = refl
    at a (Some behind) = refl

    by : (o : Got (Option Abi))
        → (o >>= (λ a. passed (is_keyword (codes "fn")) a.1 >>= (λ behind. named_fn site w (told a.0) behind)))
        ≡ ((o >>= (λ a. passed (is_keyword (codes "fn")) a.1 >>= (λ rest. let got : Got Qualifiers = Some (told a.0, rest) in got)))
        >>= (λ q. named_fn site w q.0 q.1))
    by None = refl
    by (Some a) = at a.0 (passed (is_keyword (codes "fn")) a.1)

-- ---- structs and enumerations, whose names in the code would be keywords

pub struct_is : (w : Within) (ts : Tokens) → r.struct w ts
    ≡ (r.called w (codes "struct") ts >>= (λ c. if first (opens Paren) c.1 then r.tuple_struct w c.0 c.1 else r.other_struct w c.0 c.1))
unfolding r.struct
struct_is w ts = refl

pub enum_is : (w : Within) (ts : Tokens) → r.enum w ts
    ≡ (r.called w (codes "enum") ts >>= (λ c. wheres w c.1 >>= (λ x. variants w x.1 >>= (λ vs. Some (
      (record { name = c.0.0.0; generics = c.0.0.1; wheres = x.0.0.0; variants = vs.0.0 }, max c.0.1 (max x.0.1 vs.0.1)),
      vs.1,
    )))))
unfolding r.enum
enum_is w ts = refl
