-- What the parsers of heads answer.
use Rattle.std.specs.Prelude.{ℕ, max, not, Bool, if◌then◌else◌, List, drop, codes, Option, Some, None}
use Rattle.std.specs.List.{list_all}
use Rattle.lay_piece.specs.declared.kind.Delim.TheVariants.{Paren}
use Rattle.lay_node.specs.Ahead.{Tokens, first, is_keyword, closes}
use Rattle.lay_node.specs.nodes.Functions.{is_receiver, may_say}
use Rattle.lay_node.specs.nodes.Vis.{restricts_in}
use Rattle.lay_node.specs.reader.Fields.{named_fields}
use Rattle.lay_node.specs.reader.Functions.{are_in_order, async_flag, const_flag, fn_params, head_output, safety_behind}
use Rattle.lay_node.specs.reader.Generics.{generics}
use Rattle.lay_node.specs.reader.Loops.{Got, Read, ◌>>=◌, passed}
use Rattle.lay_node.specs.reader.Patterns.{PatWithin}
use Rattle.lay_node.specs.reader.Types.{Within, abi, if_there}
use Rattle.lay_node.specs.reader.Vis.{vis_path}
use Rattle.lay_node.specs.declared.fields.Fields.TheVariants as fields
use Rattle.lay_node.specs.reader.Words.{name}
use Rattle.lay_node.specs.declared.functions.FnHead.{FnHead}
use Rattle.lay_node.specs.declared.functions.Param.{Param}
use Rattle.lay_node.specs.declared.functions.Safety.{Safety}
use Rattle.lay_node.specs.declared.generics.Generics.{Generics}
use Rattle.lay_node.specs.declared.generics.Wheres.{Wheres}
use Rattle.lay_node.specs.declared.heads.Site.{Site}
use Rattle.lay_node.specs.declared.heads.Struct.{Struct}
use Rattle.lay_node.specs.declared.token.Name.{Name}
use Rattle.lay_node.specs.declared.vis.Vis.{Vis}
use Rattle.lay_node.specs.declared.vis.Vis.TheVariants as vis
use Rattle.lay_read_head_rules.specs.declared.functions.Qualifiers.{Qualifiers}

-- a visibility after its `pub`: `(in` and a path, or nothing more
abbrev pub vis_in : Tokens → Got Vis
vis_in ts = if restricts_in ts then vis_path (drop 2 ts) else Some (vis.Public, ts)

abbrev pub none_receives : List Param → Bool
none_receives ps = list_all (λ (p : Param). not (is_receiver p.kind)) ps

-- the parameters up to their `)`, if they stand in order
abbrev pub closed_params : (List Param × Bool) × ℕ → Tokens → Read (List Param)
closed_params ps ts = do
  rest ← passed (closes Paren) ts
  if are_in_order ps.0.0 ps.0.1 then Some ((ps.0.0, ps.1), rest) else None

-- a struct with named fields, after its name and its where clause
abbrev pub named_struct : Within → (Name × Generics) × ℕ → (Wheres × Bool) × ℕ → Tokens → Read Struct
named_struct within c w ts = do
  fs ← named_fields within ts
  Some ((record { name = c.0.0; generics = c.0.1; fields = fields.Named fs.0.0; wheres = w.0.0 }, max c.1 (max w.1 fs.0.1)), fs.1)

-- the qualifiers of a function after its safety, up to and with its `fn`
abbrev pub with_abi : Bool → Bool → Option Safety → Tokens → Got Qualifiers
with_abi is_const is_async safety ts = do
  a ← if_there (first (is_keyword (codes "extern")) ts) abi ts
  rest ← passed (is_keyword (codes "fn")) a.1
  Some (record { is_const = is_const; is_async = is_async; safety = safety; abi = a.0 }, rest)

-- the qualifiers of a function, up to and with its `fn`
abbrev pub qualifiers : Tokens → Got Qualifiers
qualifiers ts = with_abi (const_flag ts).0 (async_flag (const_flag ts).1).0 (safety_behind ts).0 (safety_behind ts).1

-- the head of a function after its `fn`
abbrev pub named_fn : Site → PatWithin → Qualifiers → Tokens → Read FnHead
named_fn site within q ts = do
  n ← name ts
  g ← generics within.kinds n.1
  ps ← fn_params within g.1
  o ← head_output within.kinds ps.1
  if may_say site q.safety
      then Some (
        (
          record {
            is_const = q.is_const;
            is_async = q.is_async;
            safety = q.safety;
            abi = q.abi;
            name = n.0;
            generics = g.0.0.0;
            params = ps.0.0;
            output = o.0.0;
          },
          max g.0.1 (max ps.0.1 o.0.1),
        ),
        o.1,
      )
      else None
