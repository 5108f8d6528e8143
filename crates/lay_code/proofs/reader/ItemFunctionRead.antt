-- What follows the head of a function: its where clause, and a body or a `;`, are parsed where they
-- are spelled.
use Rattle.std.proofs.Common.{◌≡◌, ℕ, max, Bool, true, false, [], ◌∷◌, map, codes, Option, option_map, Some, None, inl, inr, refl, sym, subst, arith}
use Rattle.std.specs.Prelude.{is_some}
use Rattle.lay_piece.specs.Forms.{opening}
use Rattle.lay_piece.specs.declared.kind.Delim.TheVariants.{Brace}
use Rattle.lay_piece.specs.declared.kind.Kind.TheVariants.{Ident, Punct, Opener}
use Rattle.lay_form.specs.Form.{Fixed}
use Rattle.lay_form.specs.Spelled.{IsOne, Spells}
use Rattle.lay_node.specs.Ahead.{Tokens, first, is_keyword, opens}
use Rattle.lay_node.specs.nodes.Functions.{output_follows}
use Rattle.lay_node.specs.nodes.Heads.{leads}
use Rattle.lay_node.specs.nodes.Types.{about_type, type_follows}
use Rattle.lay_node.specs.nodes.Where.{are_predicates, predicate_form, wheres_before_body}
use Rattle.lay_node.specs.reader.Functions.{fn_head}
use Rattle.lay_node.specs.reader.Where.{wheres}
use Rattle.lay_node.specs.declared.functions.FnHead.{FnHead}
use Rattle.lay_node.specs.declared.generics.Wheres.{Wheres}
use Rattle.lay_node.specs.declared.heads.Site.{Site}
use Rattle.lay_node.specs.declared.types.Ty.{Ty}
use Rattle.lay_node.specs.declared.types.TypePlace.TheVariants.{Bounds}
use Rattle.lay_node.proofs.Follow.{quiet_follows}
use Rattle.lay_node.proofs.Fronts.{mark_passed, one_front, one_no_op}
use Rattle.lay_node.proofs.Parts.{part_alone, piece_bit}
use Rattle.lay_node.proofs.reader.Exact.{IsRead}
use Rattle.lay_node.proofs.reader.HeadEnds.{tail_ends}
use Rattle.lay_node.proofs.reader.HeadParts.{body_wheres, brace_ends_wheres, semicolon_ends_wheres, wheres_front, wheres_there}
use Rattle.lay_node.proofs.reader.PatternsCompletePaths.{PatReads}
use Rattle.lay_node.proofs.reader.PatternsFronts.{free_quiet}
use Rattle.lay_node.proofs.reader.TypesComplete.{and_none}
use Rattle.lay_node.proofs.reader.TypesFronts.{Ends, Quiet}
use Rattle.lay_code.specs.nodes.Code.{about_block}
use Rattle.lay_code.specs.nodes.Exprs.{may_be_good}
use Rattle.lay_code.specs.nodes.Item.{function_tail, may_be_bodied}
use Rattle.lay_code.specs.reader.Blocks.{block_by}
use Rattle.lay_code.specs.reader.Item.{ItemWithin, fn_body, function_by}
use Rattle.lay_code.specs.declared.blocks.Block.{Block}
use Rattle.lay_code.specs.declared.item.ItemKind.TheVariants as item
use Rattle.lay_code.proofs.reader.BlockReads.{Fronts}
use Rattle.lay_code.proofs.reader.BlocksComplete.{block_at, block_read}
use Rattle.lay_code.proofs.reader.ExprReads.{ExprReads}
use Rattle.lay_code.proofs.reader.PatternEnds.{brace_quiet, where_quiet}

-- What follows a head before its where clause and a `;` may follow a return type, and the type of a value.
pub quiet_type : (x : Ty) (ts : Tokens) → Quiet ts → first (is_keyword (codes "as")) ts ≡ false → type_follows Bounds (about_type x) ts ≡ true
quiet_type x ts q r = rw (q.plus, and_none (about_type x).bounded, quiet_follows (about_type x).told.refuses ts (free_quiet ts q.free r)) refl

ends_type : (x : Ty) (ts : Tokens) → Ends ts → type_follows Bounds (about_type x) ts ≡ true
ends_type x ts e = quiet_type x ts e.quiet e.pattern.rename

ends_output : (x : Option Ty) (ts : Tokens) → Ends ts → output_follows x ts ≡ true
ends_output None ts e = rw e.quiet.free.arrow refl
ends_output (Some x) ts e = ends_type x ts e

-- So may a where clause that has its word, and a body.
where_output : (x : Option Ty) (ts rest : Tokens) → IsOne Ident (codes "where") ts rest → output_follows x ts ≡ true
where_output None ts rest o = rw (one_no_op (codes "->") Ident (codes "where") ts rest refl o) refl
where_output (Some x) ts rest o = quiet_type x ts (where_quiet ts rest o) (rw (one_front Ident (codes "where") ts rest o).1 refl)

brace_output : (x : Option Ty) (ts rest : Tokens) → IsOne (Opener Brace) (opening Brace ∷ []) ts rest → output_follows x ts ≡ true
brace_output None ts rest o = rw (one_no_op (codes "->") (Opener Brace) (opening Brace ∷ []) ts rest refl o) refl
brace_output (Some x) ts rest o = quiet_type x ts (brace_quiet ts rest o) (rw (one_front (Opener Brace) (opening Brace ∷ []) ts rest o).1 refl)

module _ (fronts : Fronts) (at : Site) (depth : ℕ) (within : ItemWithin) (inner : PatReads depth within.heads) (code : ExprReads depth within.code) where
  pub function_made : (h : FnHead) (w : Wheres) (last : Bool) (b : Option Block) (m n k : ℕ) (ts mid end rest : Tokens) → fn_head at within.heads ts ≡ Some ((h, m), mid)
      → wheres within.heads.kinds mid ≡ Some (((w, last), n), end) → fn_body within.code end ≡ Some ((b, k), rest) → may_be_bodied at (is_some b) ≡ true
      → function_by at within ts ≡ Some ((item.Function h w b, max m (max n k)), rest)
  unfolding function_by
  function_made h w last b m n k ts mid end rest c d e f = rw (c, d, e, f) refl

  bodied_made : (b : Block) (n : ℕ) (ts inside rest : Tokens) → IsOne (Opener Brace) (opening Brace ∷ []) ts inside → block_by within.code ts ≡ Some ((b, n), rest)
      → fn_body within.code ts ≡ Some ((Some b, n), rest)
  bodied_made b n ts inside rest o r =
      let there : first (opens Brace) ts ≡ true = rw (one_front (Opener Brace) (opening Brace ∷ []) ts inside o).1 refl in rw (there, r) refl

  bodiless_made : (ts rest : Tokens) → IsOne Punct (codes ";") ts rest → fn_body within.code ts ≡ Some ((None, 0), rest)
  bodiless_made ts rest o =
      let none : first (opens Brace) ts ≡ false = rw (one_front Punct (codes ";") ts rest o).1 refl in rw (none, mark_passed (codes ";") ts rest o) refl

  -- what follows the head of a function: a where clause, and a body or a `;`
  pub record Tailed (h : FnHead) (w : Wheres) (b : Option Block) (ts rest : Tokens) : Type 0 where
    pub mid : Tokens
    pub fits : output_follows h.output ts ≡ true
    pub last : Bool
    pub clause : IsRead depth (wheres within.heads.kinds) (w, last) ts mid
    pub body : IsRead depth (fn_body within.code) b mid rest

  pub function_tailed : (h : FnHead) (w : Wheres) (b : Option Block) (ts rest : Tokens) → Spells (function_tail w (option_map about_block b)) depth ts rest
      → are_predicates w ≡ true → may_be_good (option_map about_block b) ≡ true → Tailed h w b ts rest
  function_tailed h w None ts rest s g k =
      let e : IsOne Punct (codes ";") s.0 rest = piece_bit (Fixed Punct (codes ";")) depth s.0 rest s.2 in
      let ends = tail_ends w depth ts s.0 rest s.1 e in
      let fs = map predicate_form w.predicates in
      let v = wheres_there depth within.heads.kinds inner.kinds w ts s.0 (body_wheres fs depth ts s.0 s.1) g (semicolon_ends_wheres s.0 rest e) in
      record { mid = s.0; fits = ends_output h.output ts ends.0; last = v.0; clause = v.1; body = (0, omega arith, bodiless_made s.0 rest e) }
  function_tailed h w (Some b) ts rest s g k =
      let p = block_at b (leads w) depth s.0 rest (part_alone ((about_block b).form (leads w)) depth s.0 rest s.2) in
      let v = wheres_there depth within.heads.kinds inner.kinds w ts s.0 s.1 g (brace_ends_wheres s.0 p.inside p.opened) in
      let r = block_read fronts depth within.code code b s.0 rest p k in
      record {
        mid = s.0;
        fits = bodied_output h.output ts s.0 p.inside s.1 p.opened;
        last = v.0;
        clause = v.1;
        body = (r.0, r.1, bodied_made b r.0 s.0 p.inside rest p.opened r.2);
      }
    where
      -- Before a body a where clause is nothing, or begins with its word.
      bodied_output : (x : Option Ty) (us mid inside : Tokens) → Spells (wheres_before_body w) depth us mid → IsOne (Opener Brace) (opening Brace ∷ []) mid inside
          → output_follows x us ≡ true
      bodied_output x us mid inside t o = elim (wheres_front (map predicate_form w.predicates) depth us mid t) [
        | inl e ↦ brace_output x us inside (subst (λ vs. IsOne (Opener Brace) (opening Brace ∷ []) vs inside) (sym e) o)
        | inr q ↦ where_output x us q.0 q.1
      ]
