-- The heads of functions: what is spelled is read; so they are read exactly where they stand.
use Rattle.std.proofs.Common.{◌≡◌, ℕ, max, true, false, not, [], ◌∷◌, codes, Option, Some, None, refl, arith, map}
use Rattle.std.proofs.lemmas.Bool.{not-true}
use Rattle.lay_piece.specs.Forms.{opening}
use Rattle.lay_piece.specs.declared.kind.Delim.TheVariants.{Paren}
use Rattle.lay_piece.specs.declared.kind.Kind.TheVariants.{Ident, Opener}
use Rattle.lay_token.specs.Operators.{is_op}
use Rattle.lay_form.specs.Form.{Blank, Done, Form, Operator, Part, closer, opener}
use Rattle.lay_form.specs.Spelled.{IsOperator, Spells}
use Rattle.lay_node.specs.Ahead.{Tokens, first, is_mark}
use Rattle.lay_node.specs.nodes.Facts.{ToldFront, by_itself}
use Rattle.lay_node.specs.nodes.Functions as functions
use Rattle.lay_node.specs.nodes.Functions.{about_fn_head, ends_variadic, fn_param_form, fn_params_form, may_be_type, output_follows}
use Rattle.lay_node.specs.nodes.Generics.{generics_form}
use Rattle.lay_node.specs.nodes.Types.{about_type}
use Rattle.lay_node.specs.reader.Exact.{Exact}
use Rattle.lay_node.specs.reader.Functions as reader
use Rattle.lay_node.specs.reader.Functions.{fn_head, head_at}
use Rattle.lay_node.specs.reader.Patterns.{PatWithin}
use Rattle.lay_node.specs.declared.functions.FnHead.{FnHead}
use Rattle.lay_node.specs.declared.heads.Site.{Site}
use Rattle.lay_node.specs.declared.types.Ty.{Ty}
use Rattle.lay_node.specs.declared.types.TypePlace.TheVariants.{Bounds}
use Rattle.lay_node.proofs.Fronts.{one_front}
use Rattle.lay_node.proofs.Parts.{before_blank, behind_blank, leaf_parts, part_alone}
use Rattle.lay_node.proofs.reader.Exact.{IsRead}
use Rattle.lay_node.proofs.reader.FunctionsBegins.{good_fn_head, fn_parts}
use Rattle.lay_node.proofs.reader.FunctionsCompleteParams.{params_there}
use Rattle.lay_node.proofs.reader.FunctionsSound.{fn_head_sound}
use Rattle.lay_node.proofs.reader.HeadParts.{generics_there}
use Rattle.lay_node.proofs.reader.HeadsLevel.{CompleteHead, head_exact}
use Rattle.lay_node.proofs.reader.PatternsCompletePaths.{PatReads}
use Rattle.lay_node.proofs.reader.TypesBegins.{list_opens}
use Rattle.lay_node.proofs.reader.TypesComplete.{follows_fits}
use Rattle.lay_node.proofs.reader.TypesCompleteParts.{keyword_there, one_left}
use Rattle.lay_node.proofs.reader.Words.{name_complete}

module _ (depth : ℕ) (inner : PatWithin) (reads : PatReads depth inner) where
  output_there : (y : Option Ty) (ts rest : Tokens) → Spells (functions.head_output y) depth ts rest → may_be_type y ≡ true
      → output_follows y rest ≡ true → IsRead depth (reader.head_output inner.kinds) y ts rest
  output_there None ts rest s g f = (0, omega arith, rw s (rw (not-true (is_op (codes "->") rest) f) refl))
  output_there (Some x) ts rest s g f =
      let o : IsOperator (codes "->") ts s.0 = before_blank (Operator (codes "->")) ts s.0 (behind_blank (Operator (codes "->") ∷ Blank ∷ []) ts s.0 s.1) in
      let spelled = part_alone (about_type x).told.form depth s.0 rest s.2 in
      let r = reads.kinds.types Bounds x s.0 rest spelled g (follows_fits Bounds (about_type x) rest f) in
      (r.0, r.1, rw (o.0, o.1, r.2) refl)

-- What is spelled is read, wherever what is within it is.
pub fn_head_complete : (site : Site) → CompleteHead (about_fn_head site) (fn_head site)
unfolding fn_head
fn_head_complete site depth inner reads h ts rest s g f =
    let k = good_fn_head site h g in
    let p = fn_parts h depth rest ts s k.abi in
    let params_form : Form = fn_params_form h.params in
    let l =
    leaf_parts h.name.raw h.name.text (Part (generics_form h.generics) (Part params_form (Part (functions.head_output h.output) Done))) depth p.behind rest p.signature in
    let generic = l.2 in
    let params = generic.2 in
    let output = part_alone (functions.head_output h.output) depth params.0 rest params.2 in
    let named = name_complete h.name p.behind l.0 (l.1, k.named) in
    let opens = list_opens (not (ends_variadic h.params)) (opener Paren) (closer Paren) (map fn_param_form h.params) depth generic.0 params.0 params.1 in
    let no_less : first (is_mark (codes "<")) generic.0 ≡ false = rw (one_front (Opener Paren) (opening Paren ∷ []) generic.0 opens.0 opens.1).1 refl in
    let gs = (generics_there depth inner.kinds reads.kinds h.generics l.0 generic.0 generic.1 k.generics no_less).1 in
    let ps = params_there depth inner reads h.params generic.0 params.0 params.1 k.params in
    let y = output_there depth inner reads h.output params.0 rest output k.output f in
    let there = keyword_there (codes "fn") p.at p.behind p.word in
    let left = one_left Ident (codes "fn") p.at p.behind p.word in
    (max gs.0 (max ps.0 y.0), omega (arith, gs.1, ps.1, y.1), rw (p.const, p.async, p.safe, p.extern, there, left, named, gs.2, ps.2, y.2, k.say) refl)

-- So a head is read exactly where it stands.
pub fn_heads_exact : (site : Site) → Exact (head_at (fn_head site)) (λ (x : FnHead). ToldFront (by_itself (about_fn_head site x)))
fn_heads_exact site = head_exact (about_fn_head site) (fn_head site) (fn_head_sound site) (fn_head_complete site)
