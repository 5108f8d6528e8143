-- What follows the word `async` tells what it begins: after that of a closure its bars do, or `move` and its bars.
use Rattle.std.proofs.Common.{◌≡◌, ℕ, Bool, true, false, List, [], ◌∷◌, map, codes, Some, refl, ap, ◌∙◌}
use Rattle.lay_piece.specs.Forms.{opening}
use Rattle.lay_piece.specs.declared.kind.Delim.TheVariants.{Brace}
use Rattle.lay_piece.specs.declared.kind.Kind.TheVariants.{Ident, Opener, Punct}
use Rattle.lay_form.specs.Form.{Blank, Done, Form, Part, keyword}
use Rattle.lay_form.specs.Notation.{when}
use Rattle.lay_form.specs.Spelled.{IsOne, Spells}
use Rattle.lay_node.specs.Ahead.{Tokens, first, is_mark}
use Rattle.lay_node.proofs.Fronts.{one_front}
use Rattle.lay_node.proofs.Parts.{before_blank, behind_blank, bit_alone, part_alone}
use Rattle.lay_node.proofs.reader.TypesBegins.{list_front}
use Rattle.lay_node.proofs.reader.TypesCompleteParts.{one_left}
use Rattle.lay_code.specs.Operands.{async_lead, begins_closure, expr_lead_at}
use Rattle.lay_code.specs.nodes.Code.{about_block}
use Rattle.lay_code.specs.nodes.Exprs.{bar, behind_async, closure_param}
use Rattle.lay_code.specs.declared.blocks.Block.{Block}
use Rattle.lay_code.specs.declared.exprs.ClosureParam.{ClosureParam}
use Rattle.lay_code.proofs.reader.BlockForms.{block_opened}
use Rattle.lay_code.proofs.reader.ExprLeads.{one_lead}

pub async_begins : (ts mid : Tokens) → IsOne Ident (codes "async") ts mid → expr_lead_at ts ≡ Some (async_lead mid)
async_begins ts mid o =
    one_lead Ident (codes "async") ts mid o ∙ ap (λ (us : Tokens). Some (async_lead us)) (one_left Ident (codes "async") ts mid o)

-- the rest of a closure
pub closure_begins : (moves : Bool) (params : List ClosureParam) (f : Form) (depth : ℕ) (ts rest : Tokens)
    → Spells (behind_async moves params f) depth ts rest → begins_closure ts ≡ true
closure_begins true params f depth ts rest s =
    let o : IsOne Ident (codes "move") ts s.0 = before_blank (keyword (codes "move")) ts s.0 s.1 in
    let b = list_front bar bar (map closure_param params) depth s.0 s.2.0 s.2.1 in
    let there : first (is_mark (codes "|")) s.0 ≡ true = rw (one_front Punct (codes "|") s.0 b.0 b.1).1 refl in
    rw ((one_front Ident (codes "move") ts s.0 o).1, there) refl
closure_begins false params f depth ts rest s =
    let b = list_front bar bar (map closure_param params) depth ts s.0 s.1 in rw (one_front Punct (codes "|") ts b.0 b.1).1 refl

-- the rest of a block
pub block_no_closure : (moves : Bool) (b : Block) (depth : ℕ) (ts rest : Tokens)
    → Spells (when moves (Blank ∷ keyword (codes "move") ∷ []) (Part ((about_block b).form true) Done)) depth ts rest
    → begins_closure ts ≡ false
block_no_closure true b depth ts rest s =
    let o : IsOne Ident (codes "move") ts s.0 = bit_alone (keyword (codes "move")) ts s.0 (behind_blank (keyword (codes "move") ∷ []) ts s.0 s.1) in
    let c = block_opened b true depth s.0 rest (part_alone ((about_block b).form true) depth s.0 rest s.2) in
    let none : first (is_mark (codes "|")) s.0 ≡ false = rw (one_front (Opener Brace) (opening Brace ∷ []) s.0 c.0 c.1).1 refl in
    rw ((one_front Ident (codes "move") ts s.0 o).1, none) refl
block_no_closure false b depth ts rest s =
    let c = block_opened b true depth ts rest (part_alone ((about_block b).form true) depth ts rest s) in
    rw (one_front (Opener Brace) (opening Brace ∷ []) ts c.0 c.1).1 refl
