-- Items: what is read is spelled.
use Rattle.std.proofs.Common.{◌≡◌, ℕ, suc, ◌≤◌, Bool, true, false, ◌&&◌, ◌||◌, List, [], ◌∷◌, map, drop, codes, inl, inr, Option, Some, None, if◌then◌else◌, refl, sym, subst, arith}
use Rattle.std.proofs.lemmas.Bool.{and_parts, and_from}
use Rattle.std.specs.Prelude.{is_some}
use Rattle.lay_token.specs.Operators.{is_op}
use Rattle.lay_piece.specs.declared.kind.Delim.{Delim}
use Rattle.lay_piece.specs.declared.kind.Delim.TheVariants.{Paren, Bracket, Brace}
use Rattle.lay_piece.specs.declared.kind.Kind.TheVariants.{Ident}
use Rattle.lay_form.specs.Form.{Blank, Operator, Form, Done, Part, keyword}
use Rattle.lay_form.specs.Spelled.{IsOne, IsOperator, AreBits, Spells}
use Rattle.lay_form.proofs.FormLaws.{bits_end, is_end, one_end}
use Rattle.lay_form.proofs.FormLaws.{deeper as raise}
use Rattle.lay_node.specs.Ahead.{Tokens, first, tail, is_keyword}
use Rattle.lay_node.specs.Words.{is_name}
use Rattle.lay_node.specs.nodes.Attr.{are_attrs, attr_form}
use Rattle.lay_node.specs.nodes.Call.{is_group, before_rules, end_form}
use Rattle.lay_node.specs.nodes.Use.{about_use}
use Rattle.lay_node.specs.nodes.Vis.{is_vis, vis_form}
use Rattle.lay_node.specs.reader.Attr.{attributes}
use Rattle.lay_node.specs.reader.Call.{call, behind_end}
use Rattle.lay_node.specs.reader.Exact.{InText}
use Rattle.lay_node.specs.reader.Tokens.{group}
use Rattle.lay_node.specs.reader.Vis.{visibility}
use Rattle.lay_node.specs.reader.Words.{name}
use Rattle.lay_node.specs.tokens.Lists.{group_form}
use Rattle.lay_node.specs.declared.heads.Site.{Site}
use Rattle.lay_node.specs.declared.vis.Vis.{Vis}
use Rattle.lay_node.specs.declared.vis.Vis.TheVariants as vis
use Rattle.lay_node.proofs.Fronts.{texts_behind, keyword_one}
use Rattle.lay_node.proofs.Parts.{behind_attrs_spelled, word_kind, leaf_spelled}
use Rattle.lay_node.proofs.Steps.{same_some, chosen, bind_some}
use Rattle.lay_node.proofs.reader.Attr.{attributes_sound, attrs_spelled}
use Rattle.lay_node.proofs.reader.Call.{end_spelled, call_sound}
use Rattle.lay_node.proofs.reader.Exact.{Stands, Sound}
use Rattle.lay_node.proofs.reader.Loops.{SoundStep}
use Rattle.lay_node.proofs.reader.PatternsSoundLevel.{SoundPatWithin}
use Rattle.lay_node.proofs.reader.Tokens.{group_sound}
use Rattle.lay_node.proofs.reader.TypesSoundParts.{Out}
use Rattle.lay_node.proofs.reader.Vis.{vis_sound}
use Rattle.lay_node.proofs.reader.Words.{name_sound}
use Rattle.lay_code.specs.nodes.Code.{about_item, told_of_kind}
use Rattle.lay_code.specs.nodes.Item.{call_item_form, in_module, is_inherited, kind_facts, kind_form, rules_form}
use Rattle.lay_code.specs.reader.Item.{ItemWithin, call_item, item_by, kind_at, kind_by, may_stand, rules_item}
use Rattle.lay_code.specs.reader.ItemLeads.{ItemLead, OfAlias, OfCall, OfEnum, OfExternCrate, OfForeign, OfFunction, OfImpl, OfImport, OfModule, OfRules, OfStruct, OfTrait, OfUnion, OfValue, begins_function, begins_rules, begins_union, extern_lead, item_lead, unsafe_lead}
use Rattle.lay_code.specs.declared.item.Item.{Item}
use Rattle.lay_code.specs.declared.item.ItemKind.{ItemKind}
use Rattle.lay_code.specs.declared.item.ItemKind.TheVariants as item
use Rattle.lay_code.specs.declared.blocks.Stmt.TheOpen.{ItemKind-F}
use Rattle.lay_code.proofs.nodes.ItemLaws as laws
use Rattle.lay_code.proofs.nodes.ItemLaws.{item_is}
use Rattle.lay_code.proofs.reader.ExprSoundLevel.{SoundExprWithin}
use Rattle.lay_code.proofs.reader.ItemFunction.{function_sound}
use Rattle.lay_code.proofs.reader.ItemSound.{HeadsSound, KindHeld, alias_sound, alone, enum_sound, extern_sound, foreign_sound, impl_sound, import_sound, kind_alone, kind_told, module_sound, struct_sound, trait_sound, union_sound, value_sound}

-- ---- macros

two_behind : (ts : Tokens) → drop 1 (tail ts) ≡ drop 2 ts
two_behind [] = refl
two_behind (t ∷ ts) = refl

-- what leads a declaration of a macro
record RulesFront (ts : Tokens) : Type 0 where
  word : IsOne Ident (codes "macro_rules") ts (tail ts)
  mark : IsOperator (codes "!") (tail ts) (drop 2 ts)

rules_front : (ts : Tokens) → begins_rules ts ≡ true → RulesFront ts
rules_front ts h =
    let a = and_parts (first (is_keyword (codes "macro_rules")) ts && is_op (codes "!") (tail ts)) (is_some (name (drop 1 (tail ts)))) h in
    let b = and_parts (first (is_keyword (codes "macro_rules")) ts) (is_op (codes "!") (tail ts)) a.0 in
    record { word = keyword_one (codes "macro_rules") ts b.0; mark = (b.1, two_behind ts) }

rules_spelled : (d : Delim) (f : Form) (depth : ℕ) (ts rest : Tokens) → Spells f depth ts rest → Spells (before_rules d f) depth ts rest
rules_spelled Paren f depth ts rest s = s
rules_spelled Bracket f depth ts rest s = s
rules_spelled Brace f depth ts rest s = (ts, (ts, refl, refl), s)

-- What is read has the texts of what it leaves.
out_texts : (at : Site) (budget : ℕ) (x : ItemKind × ℕ) (ts rest : Tokens) → InText ts → KindHeld at budget x ts rest → Out (KindHeld at budget) ts (x, rest)
out_texts at budget x ts rest t k = (k, texts_behind ts rest (is_end (alone (told_of_kind x.0)) x.1 ts rest k.1.0) t)

rules_sound : (at : Site) (budget : ℕ) (ts : Tokens) → begins_rules ts ≡ true → in_module at ≡ true → InText ts → (x : ItemKind × ℕ) (rest : Tokens)
    → rules_item ts ≡ Some (x, rest) → Out (KindHeld at budget) ts (x, rest)
unfolding rules_item
rules_sound at budget ts m i t x rest h =
    let b = bind_some (name (drop 2 ts)) _ _ h in
    let c = bind_some (group b.0.1) _ _ b.2 in
    let e = bind_some (behind_end c.0.0.delim c.0.1) _ _ c.2 in
    let n = b.0.0 in
    let g = c.0.0 in
    let r = rules_front ts m in
    let bits : AreBits (keyword (codes "macro_rules") ∷ Operator (codes "!") ∷ Blank ∷ []) ts (drop 2 ts) =
    (tail ts, r.word, (drop 2 ts, r.mark, (drop 2 ts, refl, refl))) in
    let t1 = texts_behind ts (drop 2 ts) (bits_end (keyword (codes "macro_rules") ∷ Operator (codes "!") ∷ Blank ∷ []) ts (drop 2 ts) bits) t in
    let s = name_sound (drop 2 ts) n b.0.1 b.1 in
    let t2 = texts_behind (drop 2 ts) b.0.1 (one_end (word_kind n.raw) n.text (drop 2 ts) b.0.1 s.0) t1 in
    let p = group_sound 0 b.0.1 g c.0.1 (end_form g.delim) e.0 t2 c.1 (end_spelled g.delim 0 c.0.1 e.0 e.1) in
    let spelled : Spells (rules_form n g) 0 ts e.0 = (
      drop 2 ts,
      bits,
      leaf_spelled n.raw n.text (before_rules g.delim (group_form g (end_form g.delim))) 0 (drop 2 ts) b.0.1 e.0 s.0
          (rules_spelled g.delim (group_form g (end_form g.delim)) 0 b.0.1 e.0 p.0),
    ) in
    let good = and_from (is_name n.raw n.text && is_group g) (in_module at) (and_from (is_name n.raw n.text) (is_group g) s.1 p.1) i in
    same_some (Out (KindHeld at budget) ts) ((item.MacroRules n g, 0), e.0) (x, rest) e.2
    (out_texts at budget (item.MacroRules n g, 0) ts e.0 t
    (omega arith, kind_told at 0 (item.MacroRules n g) (kind_facts (ItemKind-F.MacroRules n g)) ts e.0 (laws.rules_is n g) spelled good))

call_item_sound : (at : Site) (budget : ℕ) → SoundStep call_item (KindHeld at budget)
unfolding call_item
call_item_sound at budget ts x rest t h =
    let b = bind_some (call ts) _ _ h in
    let e = bind_some (behind_end b.0.0.tokens.delim b.0.1) _ _ b.2 in
    let c = b.0.0 in
    let s = call_sound 0 ts c b.0.1 t b.1 in
    let spelled : Spells (call_item_form c) 0 ts e.0 = (b.0.1, s.0, end_spelled c.tokens.delim 0 b.0.1 e.0 e.1) in
    same_some (Out (KindHeld at budget) ts) ((item.Call c, 0), e.0) (x, rest) e.2
    (out_texts at budget (item.Call c, 0) ts e.0 t
    (omega arith, kind_told at 0 (item.Call c) (kind_facts (ItemKind-F.ItemKind::Call c)) ts e.0 (laws.call_is c) spelled s.1))

-- ---- what an item is

abbrev is_rules : ItemLead → Bool
is_rules OfRules = true
is_rules _ = false

-- What isn't chosen for what it is, is chosen for what follows it.
passes : (b : Bool) (x y : ItemLead) → is_rules x ≡ false → (if b then x else y) ≡ OfRules → y ≡ OfRules
passes true x y n h = absurd (cc n)
passes false x y n h = h

unsafe_passes : (b c : Bool) → is_rules (if b then OfTrait else (if c then OfImpl else OfForeign)) ≡ false
unsafe_passes true c = refl
unsafe_passes false true = refl
unsafe_passes false false = refl

extern_passes : (b : Bool) → is_rules (if b then OfExternCrate else OfForeign) ≡ false
extern_passes true = refl
extern_passes false = refl

call_is_none : (b : Bool) → (if b then OfRules else OfCall) ≡ OfRules → b ≡ true
call_is_none true h = refl
call_is_none false h = absurd (cc)

rules_begin : (ts : Tokens) → item_lead ts ≡ OfRules → begins_rules ts ≡ true
unfolding item_lead
rules_begin ts h =
    let is : List ℕ → Bool = λ word. first (is_keyword word) ts in
    let behind = tail ts in
    let h1 = passes (begins_function ts) OfFunction _ refl h in
    let h2 = passes (is (codes "use")) OfImport _ refl h1 in
    let h3 = passes (is (codes "mod")) OfModule _ refl h2 in
    let h4 = passes (is (codes "type")) OfAlias _ refl h3 in
    let h5 = passes (is (codes "struct")) OfStruct _ refl h4 in
    let h6 = passes (is (codes "enum")) OfEnum _ refl h5 in
    let h7 = passes (is (codes "const")) OfValue _ refl h6 in
    let h8 = passes (is (codes "static")) OfValue _ refl h7 in
    let h9 = passes (is (codes "trait")) OfTrait _ refl h8 in
    let h10 = passes (is (codes "impl")) OfImpl _ refl h9 in
    let h11 = passes (is (codes "unsafe")) (unsafe_lead behind) _
    (unsafe_passes (first (is_keyword (codes "trait")) behind) (first (is_keyword (codes "impl")) behind)) h10 in
    let h12 = passes (is (codes "extern")) (extern_lead behind) _ (extern_passes (first (is_keyword (codes "crate")) behind)) h11 in
    call_is_none (begins_rules ts) (passes (begins_union ts) OfUnion _ refl h12)

module _ (heads : HeadsSound) (at : Site) (budget : ℕ) (within : ItemWithin) (inner : SoundPatWithin budget within.heads)
    (items : (s : Site) → Sound (about_item s) budget (within.items s)) (trees : Sound about_use budget within.trees)
    (code : SoundExprWithin budget within.code) where
  by_lead : (lead : ItemLead) → may_stand at lead ≡ true → (ts : Tokens) → item_lead ts ≡ lead → (x : ItemKind × ℕ) (rest : Tokens) → InText ts
      → kind_by at within lead ts ≡ Some (x, rest) → Out (KindHeld at budget) ts (x, rest)
  by_lead OfExternCrate m ts l x rest t h = extern_sound heads at budget within inner items trees m ts x rest t h
  by_lead OfImport m ts l x rest t h = import_sound heads at budget within inner items trees m ts x rest t h
  by_lead OfModule m ts l x rest t h = module_sound heads at budget within inner items trees m ts x rest t h
  by_lead OfFunction m ts l x rest t h = function_sound heads at budget within inner code ts x rest t h
  by_lead OfAlias m ts l x rest t h = alias_sound heads at budget within inner items trees ts x rest t h
  by_lead OfStruct m ts l x rest t h = struct_sound heads at budget within inner items trees m ts x rest t h
  by_lead OfUnion m ts l x rest t h = union_sound heads at budget within inner items trees m ts x rest t h
  by_lead OfEnum m ts l x rest t h = enum_sound heads at budget within inner items trees m ts x rest t h
  by_lead OfValue m ts l x rest t h = value_sound heads at budget within inner items trees code ts x rest t h
  by_lead OfTrait m ts l x rest t h = trait_sound heads at budget within inner items trees m ts x rest t h
  by_lead OfImpl m ts l x rest t h = impl_sound heads at budget within inner items trees m ts x rest t h
  by_lead OfForeign m ts l x rest t h = foreign_sound heads at budget within inner items trees m ts x rest t h
  by_lead OfRules m ts l x rest t h = rules_sound at budget ts (rules_begin ts l) m t x rest h
  by_lead OfCall m ts l x rest t h = call_item_sound at budget ts x rest t h

  kind_sound : SoundStep (kind_at at within) (KindHeld at budget)
  unfolding kind_at
  kind_sound ts x rest t h = elim (chosen (may_stand at (item_lead ts)) (kind_by at within (item_lead ts) ts) None (Some (x, rest)) h) [
    | inl g ↦ by_lead (item_lead ts) g.0 ts refl x rest t g.1
    | inr g ↦ absurd (cc)
  ]

-- ---- with a visibility

-- A visibility stands before a head, and none before a macro.
led : (v : Vis) (head : Option Form) (behind : Form) (depth : ℕ) (ts mid rest : Tokens) → (is_some head || is_inherited v) ≡ true
    → Spells (vis_form v) depth ts mid → Spells (kind_alone head behind) depth mid rest → Spells (kind_form v head behind) depth ts rest
led v (Some head) behind depth ts mid rest g s k = (k.0, (mid, s, k.1), k.2)
led vis.Inherited None behind depth ts mid rest g s k = subst (λ us. Spells behind depth us rest) (sym s) k
led vis.Public None behind depth ts mid rest g s k = absurd (cc)
led vis.Crate None behind depth ts mid rest g s k = absurd (cc)
led vis.Own None behind depth ts mid rest g s k = absurd (cc)
led vis.Super None behind depth ts mid rest g s k = absurd (cc)
led (vis.In path) None behind depth ts mid rest g s k = absurd (cc)

module _ (heads : HeadsSound) (at : Site) (budget : ℕ) (within : ItemWithin) (inner : SoundPatWithin budget within.heads)
    (items : (s : Site) → Sound (about_item s) budget (within.items s)) (trees : Sound about_use budget within.trees)
    (code : SoundExprWithin budget within.code) where
  -- An item that is read stands there, where what is one level deeper is read so.
  pub item_by_sound : Sound (about_item at) (suc budget) (item_by at within)
  unfolding item_by
  item_by_sound ts one need rest t h =
      let a = bind_some (attributes false ts) _ _ h in
      let v = bind_some (visibility a.0.1) _ _ a.2 in
      let k = bind_some (kind_at at within v.0.1) _ _ v.2 in
      let attrs = a.0.0 in
      let seen = v.0.0 in
      let kind = k.0.0.0 in
      let n = k.0.0.1 in
      let K = told_of_kind kind in
      let inner_attrs = attributes_sound false n ts attrs a.0.1 t a.1 in
      let w = vis_sound a.0.1 seen v.0.1 inner_attrs.1 v.1 in
      let s = kind_sound heads at budget within inner items trees code v.0.1 k.0.0 k.0.1 w.1 k.1 in
      let held = s.0 in
      let made : Item = record { attrs = attrs; vis = seen; kind = kind } in
      let may = is_some K.head || is_inherited seen in
      elim (chosen may (Some ((made, suc n), k.0.1)) None (Some ((one, need), rest)) k.2) [
        | inl g ↦
            let before = attrs_spelled false n attrs ts a.0.1 inner_attrs.0 in
            let named = led seen K.head K.tail n a.0.1 v.0.1 k.0.1 g.0 (raise (vis_form seen) 0 n a.0.1 v.0.1 (omega arith) w.0.0) held.1.0 in
            let body : Form = kind_form seen K.head K.tail in
            let inside : Spells (Part body Done) n a.0.1 k.0.1 = (k.0.1, named, refl) in
            let spelled = behind_attrs_spelled (map attr_form attrs) (Part body Done) n ts a.0.1 k.0.1 before.0 inside in
            let g1 = and_from (are_attrs false attrs) (is_vis seen) before.1 w.0.1 in
            let g2 = and_from (are_attrs false attrs && is_vis seen) may g1 g.0 in
            let good = and_from (are_attrs false attrs && is_vis seen && may) (K.good at) g2 held.1.1 in
            let stands : Stands (about_item at made) (suc n) ts k.0.1 = rw (item_is made) ((k.0.1, spelled, refl), good, refl) in
            same_some (λ (m : (Item × ℕ) × Tokens). (m.0.1 ≤ suc budget) × Stands (about_item at m.0.0) m.0.1 ts m.1) ((made, suc n), k.0.1) ((one, need), rest) g.1
            (omega (arith, held.0), stands)
        | inr g ↦ absurd (cc)
      ]
