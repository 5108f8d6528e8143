-- Files: the longest prefix of inner attributes and items is spelled, no run that is spelled is
-- longer, and the tokens spell one file at most.
use Rattle.std.proofs.Common.{◌≡◌, ℕ, zero, suc, ◌≤◌, Bool, true, false, ◌&&◌, List, [], ◌∷◌, ◌++◌, length, map, codes, Option, Some, None, refl, sym, ap, subst, ◌∙◌, arith}
use Rattle.std.proofs.lemmas.Bool.{and_parts, and_from, or_parts}
use Rattle.lay_token.specs.declared.token.Token.{Token}
use Rattle.lay_form.specs.Notation.{lines}
use Rattle.lay_form.specs.Spelled.{Spells}
use Rattle.lay_form.proofs.FormLaws.{IsEnd, deeper, is_end}
use Rattle.lay_node.specs.Ahead.{Tokens, first, tail, is_mark}
use Rattle.lay_node.specs.nodes.Attr.{are_attrs, attr_form, about_attr}
use Rattle.lay_node.specs.nodes.Facts.{forms, all_good}
use Rattle.lay_node.specs.reader.Attr.{attribute, attributes, begins_attr, is_doc, meta_attr}
use Rattle.lay_node.specs.reader.Exact.{InText}
use Rattle.lay_node.specs.reader.Loops.{Got, repeat, repeat_from}
use Rattle.lay_node.specs.declared.attr.Attr.{Attr}
use Rattle.lay_node.specs.declared.heads.Site.TheVariants.{Module}
use Rattle.lay_node.proofs.Fronts.{end_shorter, texts_behind}
use Rattle.lay_node.proofs.Parts.{Rows, rows_to, rows_joined, rows_parts, rows_spelled, rows_good, GoodAt, SpelledAt, lines_spelled, lines_rows}
use Rattle.lay_node.proofs.Steps.{got_same, bind_some}
use Rattle.lay_node.proofs.reader.Attr.{attribute_sound, attrs_spelled, attrs_rows}
use Rattle.lay_node.proofs.reader.AttrRead.{attribute_complete, attr_shorter}
use Rattle.lay_node.proofs.reader.Loops.{SoundStep}
use Rattle.lay_code.specs.Reading.{SpellsFile}
use Rattle.lay_code.specs.nodes.File.{form_of_file, is_normal}
use Rattle.lay_code.specs.nodes.Code.{about_item}
use Rattle.lay_code.specs.reader.File.{longest_from, longest, file_item, front}
use Rattle.lay_token.specs.Operators.{op_at}
use Rattle.lay_node.specs.reader.Tokens.{group}
use Rattle.lay_node.specs.reader.Vis.{visibility}
use Rattle.lay_node.specs.reader.Words.{word as word_reading}
use Rattle.lay_node.specs.reader.Call.{call}
use Rattle.lay_node.specs.reader.SimplePath.{simple_path}
use Rattle.lay_code.specs.reader.Code.{code_in, item_at}
use Rattle.lay_code.specs.reader.Item.{item_by, kind_at, call_item}
use Rattle.lay_code.specs.reader.ItemLeads.{item_lead}
use Rattle.lay_code.specs.declared.file.File.{File}
use Rattle.lay_code.specs.declared.item.Item.{Item}
use Rattle.lay_code.proofs.reader.CodeComplete.{item_complete}
use Rattle.lay_code.proofs.reader.CodeSound.{item_sound}
use Rattle.lay_code.proofs.reader.FrontsHeld.{fronts}
use Rattle.lay_code.proofs.reader.ItemKinds.{item_begins, items_begin}
use Rattle.lay_code.proofs.reader.Longest.{Reads, longest_from_sound, longest_sound, longest_end, longest_past}

-- ---- where none is read

-- Where no inner attribute begins, none is read.
no_inner : (ts : Tokens) → begins_attr true ts ≡ false → attribute true ts ≡ None
unfolding attribute meta_attr
no_inner ts h =
    by (first (is_mark (codes "#")) ts) refl
    (or_parts (first (is_doc true) ts) (first (is_mark (codes "#")) ts && first (is_mark (codes "!")) (tail ts)) h)
  where
    by : (b : Bool) → first (is_mark (codes "#")) ts ≡ b
        → (first (is_doc true) ts ≡ false) × (first (is_mark (codes "#")) ts && first (is_mark (codes "!")) (tail ts) ≡ false)
        → attribute true ts ≡ None
    by true e parts =
        let no_bang : first (is_mark (codes "!")) (tail ts) ≡ false = rw e at parts.1 in rw (parts.0, e, no_bang) refl
    by false e parts = rw (parts.0, e) refl

-- Where no token is left, no item is read.
no_item_left : (budget : ℕ) → item_at Module budget [] ≡ None
unfolding code_in item_by attributes repeat repeat_from visibility kind_at item_lead call_item call simple_path word_reading op_at group
no_item_left zero = refl
no_item_left (suc budget) = refl

-- ---- one attribute, and one item

module _ (depth : ℕ) where
  abbrev AttrAt : Attr → Tokens → Tokens → Type 0
  AttrAt = GoodAt (about_attr true) depth

  abbrev ItemAt : Item → Tokens → Tokens → Type 0
  ItemAt = GoodAt (about_item Module) depth

  attr_sound : SoundStep (attribute true) AttrAt
  attr_sound ts a rest t h =
      let s = attribute_sound true depth ts a rest t h in (s, texts_behind ts rest (is_end (attr_form a) depth ts rest s.0) t)

  item_stands : SoundStep (file_item depth) ItemAt
  item_stands ts one rest t h =
      let b = bind_some (item_at Module depth ts) (λ x. let found : Got Item = Some (x.0.0, x.1) in found) (one, rest) h in
      let read = b.0.0.0 in
      let left = b.0.1 in
      let s = item_sound Module depth ts read b.0.0.1 left t b.1 in
      let up = deeper (about_item Module read).form b.0.0.1 depth ts left s.0 s.1.0 in
      let behind = texts_behind ts left (is_end (about_item Module read).form depth ts left up) t in
      let e = got_same read one left rest b.2 in
      (subst (λ x. ItemAt x ts rest) e.0 (subst (λ us. ItemAt read ts us) e.1 (up, s.1.1)), subst InText e.1 behind)

  attr_reads : (a : Attr) (ts rest : Tokens) → AttrAt a ts rest → Reads (attribute true) a ts rest
  attr_reads a ts rest g = (attribute_complete true a depth ts rest g, attr_shorter true a depth ts rest g)

  item_reads : (one : Item) (ts rest : Tokens) → ItemAt one ts rest → Reads (file_item depth) one ts rest
  item_reads one ts rest g =
      let r = item_complete fronts Module depth depth (omega arith) one ts rest (g.0, g.1, refl) in
      (rw r.2 refl, (item_begins Module depth one ts rest g).1)

  none_left : file_item depth [] ≡ None
  none_left = rw (no_item_left depth) refl

  -- ---- the parts of a run

  -- inner attributes and then items, each spelled and well formed
  abbrev Run : List Attr → List Item → Tokens → Tokens → Type 0
  Run attrs items ts rest = (mid : Tokens) × Rows AttrAt attrs ts mid × Rows ItemAt items mid rest

  run_spelled : (file : File) (ts rest : Tokens) → Run file.attrs file.items ts rest
      → Spells (form_of_file file) depth ts rest × (is_normal file ≡ true)
  run_spelled file ts rest r =
      let before = attrs_spelled true depth file.attrs ts r.0 r.1 in
      let behind = rows_spelled (about_item Module) depth file.items r.0 rest r.2 in
      let items = forms (map (about_item Module) file.items) in
      let parts = rows_joined (SpelledAt depth) (map attr_form file.attrs) items ts r.0 rest before.0 behind.0 in (
        lines_spelled (map attr_form file.attrs ++ items) depth ts rest parts,
        and_from (are_attrs true file.attrs) (all_good (map (about_item Module) file.items)) before.1 behind.1,
      )

  run_parts : (file : File) (ts rest : Tokens) → Spells (form_of_file file) depth ts rest → is_normal file ≡ true
      → Run file.attrs file.items ts rest
  run_parts file ts rest s g =
      let goods = and_parts (are_attrs true file.attrs) (all_good (map (about_item Module) file.items)) g in
      let items = forms (map (about_item Module) file.items) in
      let a = rows_parts (SpelledAt depth) (map attr_form file.attrs) items ts rest
      (lines_rows (map attr_form file.attrs ++ items) depth ts rest s) in (
        a.0,
        attrs_rows true depth file.attrs ts a.0 a.1 goods.0,
        rows_good (about_item Module) depth file.items a.0 rest a.2 goods.1,
      )

  attrs_end : (attrs : List Attr) (ts rest : Tokens) → Rows AttrAt attrs ts rest → IsEnd rest ts
  attrs_end attrs ts rest r =
      is_end (lines (map attr_form attrs)) depth ts rest
      (lines_spelled (map attr_form attrs) depth ts rest (attrs_spelled true depth attrs ts rest r).0)

  items_end : (items : List Item) (ts rest : Tokens) → Rows ItemAt items ts rest → IsEnd rest ts
  items_end items ts rest r =
      let fs = forms (map (about_item Module) items) in
      is_end (lines fs) depth ts rest (lines_spelled fs depth ts rest (rows_spelled (about_item Module) depth items ts rest r).0)

  -- ---- what is read

  -- What is read of inner attributes and items is spelled, and normal.
  pub front_sound : (ts : Tokens) → InText ts → (file : File) → file.attrs ≡ (front depth ts).0.0 → file.items ≡ (front depth ts).0.1
      → Spells (form_of_file file) depth ts (front depth ts).1 × (is_normal file ≡ true)
  unfolding front
  front_sound ts t file a i =
      let attrs = longest (attribute true) ts in
      let items = longest (file_item depth) attrs.1 in
      let before = longest_sound (attribute true) AttrAt attr_sound ts t in
      let behind = longest_sound (file_item depth) ItemAt item_stands attrs.1 before.1 in
      run_spelled file ts items.1 (attrs.1, rw a before.0, rw i behind.0)

  -- ---- what is spelled

  -- Where no inner attribute begins after those that stand there, they are read, and then the items.
  front_past : (attrs : List Attr) (items : List Item) (ts mid rest : Tokens) → Rows AttrAt attrs ts mid → Rows ItemAt items mid rest
      → begins_attr true mid ≡ false
      → (m : ℕ) × (front depth ts ≡ (let read = longest_from (file_item depth) m items rest in ((attrs, read.0), read.1)))
  unfolding front
  front_past attrs items ts mid rest a i h =
      let p = longest_past (attribute true) attrs ts mid (rows_to AttrAt (Reads (attribute true)) attr_reads attrs ts mid a) in
      let q = longest_past (file_item depth) items mid rest (rows_to ItemAt (Reads (file_item depth)) item_reads items mid rest i) in
      (q.0, rw (p.1, longest_end (attribute true) p.0 attrs mid (no_inner mid h), q.1) refl)

  -- A normal file that is spelled by them is read, and nothing is left.
  pub front_complete : (file : File) (ts : Tokens) → Spells (form_of_file file) depth ts [] → is_normal file ≡ true
      → front depth ts ≡ ((file.attrs, file.items), [])
  front_complete file ts s g =
      let r = run_parts file ts [] s g in
      let p = front_past file.attrs file.items ts r.0 [] r.1 r.2 (items_begin Module file.items depth r.0 [] r.2 refl) in
      p.1 ∙ rw (longest_end (file_item depth) p.0 file.items [] none_left) refl

  -- what is left after what is read is no longer than what was there
  attrs_left : (n : ℕ) (found : List Attr) (ts : Tokens) → InText ts
      → (length (longest_from (attribute true) n found ts).1 ≤ length ts) × InText (longest_from (attribute true) n found ts).1
  attrs_left n found ts t =
      let s = longest_from_sound (attribute true) AttrAt attr_sound n found ts t in
      (end_shorter ts (longest_from (attribute true) n found ts).1 (attrs_end s.0 ts (longest_from (attribute true) n found ts).1 s.2), s.3)

  items_left : (n : ℕ) (found : List Item) (ts : Tokens) → InText ts → length (longest_from (file_item depth) n found ts).1 ≤ length ts
  items_left n found ts t =
      let s = longest_from_sound (file_item depth) ItemAt item_stands n found ts t in
      end_shorter ts (longest_from (file_item depth) n found ts).1 (items_end s.0 ts (longest_from (file_item depth) n found ts).1 s.2)

  -- a run of inner attributes alone, and one with items
  attrs_longest : (attrs : List Attr) (ts mid : Tokens) → InText ts → Rows AttrAt attrs ts mid → length (front depth ts).1 ≤ length mid
  unfolding front longest
  attrs_longest attrs ts mid t a =
      let p = longest_past (attribute true) attrs ts mid (rows_to AttrAt (Reads (attribute true)) attr_reads attrs ts mid a) in
      let before = attrs_left p.0 attrs mid (texts_behind ts mid (attrs_end attrs ts mid a) t) in
      let left = (longest_from (attribute true) p.0 attrs mid).1 in
      rw p.1 (omega (arith, before.0, items_left (length left) [] left before.1))

  run_longest : (attrs : List Attr) (items : List Item) (ts mid rest : Tokens) → InText ts → Rows AttrAt attrs ts mid → Rows ItemAt items mid rest
      → length (front depth ts).1 ≤ length rest
  run_longest attrs [] ts mid rest t a i = omega (arith, attrs_longest attrs ts mid t a, ap length i)
  run_longest attrs (one ∷ items) ts mid rest t a i =
      let p = front_past attrs (one ∷ items) ts mid rest a i (item_begins Module depth one mid i.0 i.1).0.1 in
      let here = texts_behind ts mid (attrs_end attrs ts mid a) t in
      rw p.1 (items_left p.0 (one ∷ items) rest (texts_behind mid rest (items_end (one ∷ items) mid rest i) here))

  -- No run of inner attributes and items that is spelled, and normal, is longer.
  pub front_longest : (file : File) (ts rest : Tokens) → InText ts → Spells (form_of_file file) depth ts rest → is_normal file ≡ true
      → length (front depth ts).1 ≤ length rest
  front_longest file ts rest t s g =
      let r = run_parts file ts rest s g in run_longest file.attrs file.items ts r.0 rest t r.1 r.2

  -- Tokens spell one file at most.
  pub file_unique : (file other : File) (ts : Tokens) → Spells (form_of_file file) depth ts [] → is_normal file ≡ true
      → Spells (form_of_file other) depth ts [] → is_normal other ≡ true → file.shebang ≡ other.shebang → file ≡ other
  file_unique file other ts s g t h e =
      let both = ap (λ (run : (List Attr × List Item) × Tokens). run.0) (sym (front_complete file ts s g) ∙ front_complete other ts t h) in
      ap (λ (line : Option (List ℕ)). record file { shebang = line }) e
      ∙ ap (λ (attrs : List Attr). record other { attrs = attrs; items = file.items }) (ap (λ (run : List Attr × List Item). run.0) both)
      ∙ ap (λ (items : List Item). record other { items = items }) (ap (λ (run : List Attr × List Item). run.1) both)

  pub one_file : (file other : File) (ts : List Token) → file.shebang ≡ other.shebang → SpellsFile depth file ts → SpellsFile depth other ts → file ≡ other
  one_file file other ts e s t = file_unique file other ts s.1 s.0.normal t.1 t.0.normal e
