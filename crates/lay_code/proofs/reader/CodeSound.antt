-- Expressions, blocks and items within a budget: what is read stands there, at the depth that it needs.
use Rattle.std.proofs.Common.{◌≡◌, ℕ, zero, suc, ◌≤◌, true, drop, length, length-append, Some, refl, sym, ap, subst, ◌∙◌, arith}
use Rattle.std.proofs.lemmas.List.{drop_at}
use Rattle.lay_form.specs.Spelled.{Spells}
use Rattle.lay_form.proofs.FormLaws.{is_end}
use Rattle.lay_node.specs.Ahead.{Tokens}
use Rattle.lay_node.specs.nodes.Facts.{Facts}
use Rattle.lay_node.specs.reader.Exact.{InText}
use Rattle.lay_node.specs.reader.Functions.{insides}
use Rattle.lay_node.specs.reader.Loops.{Read}
use Rattle.lay_node.specs.reader.Use.{use_at}
use Rattle.lay_node.specs.declared.heads.Site.{Site}
use Rattle.lay_node.proofs.Fronts.{texts_behind}
use Rattle.lay_node.proofs.Steps.{bind_some, same_some}
use Rattle.lay_node.proofs.reader.AliasSound.{aliases_sound}
use Rattle.lay_node.proofs.reader.Exact.{Sound}
use Rattle.lay_node.proofs.reader.FunctionsSound.{fn_head_sound}
use Rattle.lay_node.proofs.reader.HeadsLevel.{insides_sound}
use Rattle.lay_node.proofs.reader.ImplHeadsSound.{impl_heads_sound}
use Rattle.lay_node.proofs.reader.Loops.{SoundStep}
use Rattle.lay_node.proofs.reader.OutsideExact.{extern_crate_sound}
use Rattle.lay_node.proofs.reader.PatternsSound.{pat_at_sound}
use Rattle.lay_node.proofs.reader.StructsSound.{enum_sound, struct_sound, union_sound}
use Rattle.lay_node.proofs.reader.TraitHeads.{trait_held}
use Rattle.lay_node.proofs.reader.TypesSound.{within_sound}
use Rattle.lay_node.proofs.reader.TypesSoundNeeds.{Held}
use Rattle.lay_node.proofs.reader.TypesSoundParts.{Out}
use Rattle.lay_node.proofs.reader.Use.{use_sound}
use Rattle.lay_node.proofs.reader.ValueHeads.{value_heads_sound}
use Rattle.lay_code.specs.nodes.Code.{about_expr, about_item}
use Rattle.lay_code.specs.nodes.Exprs.{ExprFront, Followed}
use Rattle.lay_code.specs.reader.Blocks.{block_by}
use Rattle.lay_code.specs.reader.Code.{code_in, deeper_block, expr_at, item_at}
use Rattle.lay_code.specs.reader.Item.{ItemWithin}
use Rattle.lay_code.specs.reader.Within.{ExprWithin}
use Rattle.lay_code.specs.declared.exprs.Expr.{Expr}
use Rattle.lay_code.specs.declared.exprs.Place.{Place}
use Rattle.lay_code.proofs.reader.BlocksSoundWhole.{block_sound}
use Rattle.lay_code.proofs.reader.ExprSound.{climbed_on_sound, expr_by_sound}
use Rattle.lay_code.proofs.reader.ExprSoundLeads.{code_led}
use Rattle.lay_code.proofs.reader.ExprSoundLevel.{DeepBlock, ExprHeld, SoundExprWithin}
use Rattle.lay_code.proofs.reader.Item.{item_by_sound}
use Rattle.lay_code.proofs.reader.ItemSound.{HeadsSound}

pub heads_sound : HeadsSound
heads_sound = record {
  extern_crates = extern_crate_sound;
  aliases = aliases_sound;
  structs = struct_sound;
  unions = union_sound;
  enums = enum_sound;
  values = value_heads_sound;
  functions = fn_head_sound;
  impls = impl_heads_sound;
  traits = λ budget inner sound. trait_held budget inner.kinds sound.kinds;
}

-- A block one level deeper stands there.
deeper_sound : (budget : ℕ) (within : ExprWithin) → SoundExprWithin budget within → SoundStep (deeper_block within) (DeepBlock (suc budget))
deeper_sound budget within sound ts x rest t h =
    let b = bind_some (block_by within ts) _ _ h in
    let s = block_sound budget within sound ts b.0.0 b.0.1 t b.1 in
    same_some (Out (DeepBlock (suc budget)) ts) ((b.0.0.0, suc b.0.0.1), b.0.1) (x, rest) b.2
    ((omega (arith, s.0.need), (b.0.1, s.0.form true, refl), s.0.good), s.1)

-- What is read of a node leaves tokens of the text.
step_of : {A : Type 0} (about : A → Facts) (budget : ℕ) (read : Tokens → Read A) → Sound about budget read → SoundStep read (Held about budget)
step_of about budget read sound ts x rest t h =
    let s = sound ts x.0 x.1 rest t h in (s, texts_behind ts rest (is_end (about x.0).form x.1 ts rest s.1.0) t)

-- what an item holds, over code within a budget
abbrev item_within : ℕ → ItemWithin
item_within budget = record { items = (code_in budget).items; trees = use_at budget; heads = insides budget; code = code_in budget }

-- What is read of code within a budget stands there.
pub code_sound : (budget : ℕ) → SoundExprWithin budget (code_in budget)
unfolding code_in
code_sound zero = record {
  exprs = λ place ts x rest t h. absurd (cc h);
  kinds = within_sound zero;
  pats = λ place. pat_at_sound place zero;
  blocks = λ ts x rest t h. absurd (cc h);
  items = λ at ts x rest t h. absurd (cc h);
  goes_on = λ lhs begun ts k t x rest h. absurd (cc h);
}
code_sound (suc budget) =
    let sound = code_sound budget in
    record {
      exprs = λ place ts x rest t h.
          expr_by_sound budget (code_in budget) sound (code_led budget) place (suc budget) ts x rest t h;
      kinds = within_sound (suc budget);
      pats = λ place. pat_at_sound place (suc budget);
      blocks = λ ts x rest t h. deeper_sound budget (code_in budget) sound ts x rest t h;
      items = λ at.
          step_of (about_item at) (suc budget) ((code_in (suc budget)).items at)
          (item_by_sound heads_sound at budget (item_within budget) (insides_sound budget)
          (λ s us one need left i e. (sound.items s us (one, need) left i e).0) (use_sound budget) sound);
      goes_on = λ lhs begun ts k t x rest h.
          climbed_on_sound budget (code_in budget) sound (code_led budget) (suc budget) lhs begun ts k t x rest h;
    }

-- What is read within a budget stands there.
pub expr_in_sound : (budget : ℕ) (place : Place) → SoundStep (expr_at place budget) (ExprHeld place budget)
expr_in_sound budget place = (code_sound budget).exprs place

-- An expression that is read stands there, at the depth that it needs, and the tokens after it may follow it at its place.
pub exprs_stand : (place : Place) (budget : ℕ) (ts : Tokens) (x : Expr) (need : ℕ) (rest : Tokens) → InText ts
    → expr_at place budget ts ≡ Some ((x, need), rest)
    → (n : ℕ) × (drop n ts ≡ rest) × (need ≤ budget) × ExprFront place (about_expr x) ts n need
exprs_stand place budget ts x need rest t h =
    let told = about_expr x in
    let k = (expr_in_sound budget place ts (x, need) rest t h).0 in
    let e = is_end told.form need ts rest k.1 in
    let n = length e.before in
    let dropped : drop n ts ≡ rest = ap (λ (us : Tokens). drop n us) e.whole ∙ drop_at e.before rest n refl in
    let le : n ≤ length ts = omega (arith, ap length e.whole, length-append e.before rest) in
    let front : ExprFront place told ts n need = (
      le,
      subst (λ us. Spells told.form need ts us) (sym dropped) k.1,
      k.2,
      subst (λ us. Followed told place need ts us) (sym dropped) k.3,
    ) in
    (n, dropped, k.0, front)

-- An item that is read stands there, at the depth that it needs.
pub item_sound : (at : Site) (budget : ℕ) → Sound (about_item at) budget (item_at at budget)
item_sound at budget ts one need rest t h = ((code_sound budget).items at ts (one, need) rest t h).0
