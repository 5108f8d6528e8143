-- Use trees.
use Rattle.std.proofs.Common.{◌≡◌, ℕ, zero, suc, ◌<◌, ◌≤◌, Bool, true, false, not, List, [], ◌∷◌, drop, length, map, codes, inl, inr, Option, Some, None, if◌then◌else◌, refl, ap, subst, ◌∙◌, arith}
use Rattle.std.proofs.lemmas.Bool.{and_parts, and_from, not-true}
use Rattle.lay_piece.specs.Forms.{opening}
use Rattle.lay_token.specs.Operators.{is_op}
use Rattle.lay_piece.specs.declared.kind.Delim.TheVariants.{Brace}
use Rattle.lay_piece.specs.declared.kind.Kind.{Kind}
use Rattle.lay_piece.specs.declared.kind.Kind.TheVariants.{Ident, RawIdent, Underscore, Punct, Opener}
use Rattle.lay_token.specs.declared.token.Token.{Token}
use Rattle.lay_form.specs.Form.{Blank, Operator, Form, Done, Piece, Part, keyword, opener, closer}
use Rattle.lay_form.specs.Notation.{piece, when, each, comma_gap, last_break, comma_list}
use Rattle.lay_form.specs.Spelled.{IsOne, IsOperator, AreBits, Spells}
use Rattle.lay_form.proofs.FormLaws.{one_end, bits_end, shorter}
use Rattle.lay_node.specs.Ahead.{Tokens, first, tail, is_keyword, is_opener, is_closer, opens, closes}
use Rattle.lay_node.specs.Follow.{OfColons, begins_there, may_follow}
use Rattle.lay_node.specs.Words.{is_name, is_path_word, are_path_words, leaf_of, colons}
use Rattle.lay_node.specs.nodes.Facts.{Facts, forms, Front}
use Rattle.lay_node.specs.nodes.Use.{is_rename, rename_form, refuses_rename, words_form, about_use, about_use_end}
use Rattle.lay_node.specs.reader.Exact.{InText, Exact}
use Rattle.lay_node.specs.reader.Loops.{Got, Read, ◌>>=◌, nodes, deepest, elements}
use Rattle.lay_node.specs.reader.Use.{renamed, use_word, use_end_by, ended, use_by, use_at}
use Rattle.lay_node.specs.reader.Words.{given_name, name_by, word, global, path_word, path_words}
use Rattle.lay_node.specs.declared.token.GivenName.{GivenName}
use Rattle.lay_node.specs.declared.token.GivenName.TheVariants as given
use Rattle.lay_node.specs.declared.token.Name.{Name}
use Rattle.lay_node.specs.declared.token.Word.{Word}
use Rattle.lay_node.specs.declared.use_tree.UseEnd.{UseEnd}
use Rattle.lay_node.specs.declared.use_tree.UseEnd.TheVariants as use_end
use Rattle.lay_node.specs.declared.use_tree.UseTree.{UseTree}
use Rattle.lay_node.proofs.Follow.{Quiet, quiet_follows, comma_quiet, closer_quiet}
use Rattle.lay_node.proofs.InText.{only_text, IsText, text_one}
use Rattle.lay_node.proofs.Fronts.{texts_behind, end_shorter, keyword_one, opens_one, one_front, one_test, one_no_op, op_front, op_test, other_op, one_shorter, op_shorter}
use Rattle.lay_node.proofs.Parts.{GoodAt, bit_alone, behind_blank, before_blank, bit_piece, piece_bit, part_alone, word_kind, word_kinds, leaf_spelled, leaf_parts, leaf_alone}
use Rattle.lay_node.proofs.Steps.{same_some, chosen, bind_some}
use Rattle.lay_node.proofs.nodes.UseLaws.{EndView, IsWord, IsGlob, IsGroup, end_view, use_is, word_is, glob_is, group_is}
use Rattle.lay_node.proofs.reader.Exact.{Stands, Sound, IsRead, Complete, exact}
use Rattle.lay_node.proofs.reader.Loops.{Ends}
use Rattle.lay_node.proofs.reader.Needs.{list_sound, list_complete}
use Rattle.lay_node.proofs.reader.Words.{name_by_is, GoodName, word_sound, word_complete, word_no_op, global_leads, global_texts, global_parts, path_words_sound, words_spelled, words_good, last_word, no_word, path_words_complete}

-- ---- another name, read

-- what spells another name
abbrev pub RenameIs : GivenName → Tokens → Tokens → Type 0
RenameIs (given.Name n) ts rest = GoodName n ts rest
RenameIs given.Underscore ts rest = IsOne Underscore (codes "_") ts rest

name_rename : (k : Kind) (text : List ℕ) (t : Token) (ts : Tokens) (r : GivenName) (rest : Tokens) → t.kind ≡ k → t.text ≡ text
    → (name_by k text >>= (λ (n : Name). let found : Got GivenName = Some (given.Name n, ts) in found)) ≡ Some (r, rest) → RenameIs r (t ∷ ts) rest
name_rename k text t ts r rest is has h =
    let b = bind_some (name_by k text) (λ (n : Name). let found : Got GivenName = Some (given.Name n, ts) in found) (r, rest) h in
    let i = name_by_is k text b.0 b.1 in
    same_some (λ (m : GivenName × Tokens). RenameIs m.0 (t ∷ ts) m.1) (given.Name b.0, ts) (r, rest) b.2 ((is ∙ i.0, has ∙ i.1, refl), i.2)

other_by_kind : (k : Kind) (t : Token) (ts : Tokens) (r : GivenName) (rest : Tokens) → IsText (only_text k) t.text
    → given_name (record t { kind = k } ∷ ts) ≡ Some (r, rest) → RenameIs r (record t { kind = k } ∷ ts) rest
unfolding given_name
other_by_kind Underscore t ts r rest u h =
    same_some (λ (m : GivenName × Tokens). RenameIs m.0 (record t { kind = Underscore } ∷ ts) m.1) (given.Underscore, ts) (r, rest) h (refl, u, refl)
other_by_kind k t ts r rest u h = name_rename k t.text (record t { kind = k }) ts r rest refl refl h

pub given_name_is : (ts : Tokens) (r : GivenName) (rest : Tokens) → InText ts → given_name ts ≡ Some (r, rest) → RenameIs r ts rest
unfolding given_name
given_name_is [] r rest t h = absurd (cc)
given_name_is (t ∷ ts) r rest p h = other_by_kind t.kind t ts r rest (text_one t ts p) h

abbrev pub GoodRename : ℕ → Option GivenName → Tokens → Tokens → Type 0
GoodRename depth r ts rest = Spells (rename_form r) depth ts rest × (is_rename r ≡ true) × (may_follow (refuses_rename r) rest ≡ true)

rename_spelled : (depth : ℕ) (r : GivenName) (ts inside rest : Tokens) → IsOne Ident (codes "as") ts inside → RenameIs r inside rest → GoodRename depth (Some r) ts rest
rename_spelled depth (given.Name n) ts inside rest k i =
    ((inside, (ts, refl, (inside, k, (inside, refl, refl))), leaf_spelled n.raw n.text Done depth inside rest rest i.0 refl), i.1, refl)
rename_spelled depth given.Underscore ts inside rest k i = ((inside, (ts, refl, (inside, k, (inside, refl, refl))), (rest, i, refl)), refl, refl)

pub renamed_sound : (depth : ℕ) (ts : Tokens) (r : Option GivenName) (rest : Tokens) → InText ts → renamed ts ≡ Some (r, rest) → GoodRename depth r ts rest
unfolding renamed
renamed_sound depth ts r rest t h =
    let go_on : (GivenName × Tokens) → Got (Option GivenName) = λ m. Some (Some m.0, m.1) in
    let R : Option GivenName × Tokens → Type 0 = λ m. GoodRename depth m.0 ts m.1 in
    elim (chosen (first (is_keyword (codes "as")) ts) (given_name (tail ts) >>= go_on) (Some (None, ts)) (Some (r, rest)) h) [
      | inl g ↦
          let b = bind_some (given_name (tail ts)) go_on (r, rest) g.1 in
          let k = keyword_one (codes "as") ts g.0 in
          let i = given_name_is (tail ts) b.0.0 b.0.1 (texts_behind ts (tail ts) (one_end Ident (codes "as") ts (tail ts) k) t) b.1 in
          same_some R (Some b.0.0, b.0.1) (r, rest) b.2 (rename_spelled depth b.0.0 ts (tail ts) b.0.1 k i)
      | inr g ↦ same_some R (None, ts) (r, rest) g.1 (refl, refl, rw g.0 refl)
    ]

-- ---- what is read is spelled

use_word_sound : (ts : Tokens) (e : UseEnd) (need : ℕ) (rest : Tokens) → InText ts → use_word ts ≡ Some ((e, need), rest)
    → (need ≡ 0) × Stands (about_use_end e) need ts rest
use_word_sound ts e need rest t h =
    let last : Word → (Option GivenName × Tokens) → Read UseEnd = λ w r. Some ((use_end.Word w r.0, 0), r.1) in
    let b = bind_some (word ts) (λ w. renamed w.1 >>= last w.0) ((e, need), rest) h in
    let c = bind_some (renamed b.0.1) (last b.0.0) ((e, need), rest) b.2 in
    let w = b.0.0 in
    let i = word_sound ts w b.0.1 b.1 in
    let r = renamed_sound 0 b.0.1 c.0.0 c.0.1 (texts_behind ts b.0.1 (one_end (word_kind w.raw) w.text ts b.0.1 i.0) t) c.1 in
    let spelled = leaf_spelled w.raw w.text (rename_form c.0.0) 0 ts b.0.1 c.0.1 i.0 r.0 in
    let good = and_from (is_path_word w.raw w.text) (is_rename c.0.0) i.1 r.1 in
    let end : Stands (about_use_end (use_end.Word w c.0.0)) 0 ts c.0.1 = rw (word_is w c.0.0) (spelled, good, r.2) in
    same_some (λ (m : (UseEnd × ℕ) × Tokens). (m.0.1 ≡ 0) × Stands (about_use_end m.0.0) m.0.1 ts m.1) ((use_end.Word w c.0.0, 0), c.0.1) ((e, need), rest) c.2
    (refl, end)

abbrev tree_of : Bool → List Word → UseEnd → UseTree
tree_of leads path end = record { global = leads; path = path; end = end }

module _ (budget : ℕ) (within : Tokens → Read UseTree) (sound : Sound about_use budget within) where
  use_end_sound : Sound about_use_end budget (use_end_by within)
  use_end_sound ts e need rest t h =
      let R : (UseEnd × ℕ) × Tokens → Type 0 = λ m. (m.0.1 ≤ budget) × Stands (about_use_end m.0.0) m.0.1 ts m.1 in
      let grouped : (List (UseTree × ℕ) × Tokens) → Read UseEnd = λ trees. Some ((use_end.Group (nodes trees.0), deepest trees.0), trees.1) in
      let others : Read UseEnd = if is_op (codes "*") ts then Some ((use_end.Glob, 0), drop 1 ts) else use_word ts in
      elim (chosen (first (opens Brace) ts) (elements (closes Brace) within (tail ts) >>= grouped) others (Some ((e, need), rest)) h) [
        | inl g ↦
            let b = bind_some (elements (closes Brace) within (tail ts)) grouped ((e, need), rest) g.1 in
            let o = opens_one Brace ts t g.0 in
            let left = texts_behind ts (tail ts) (one_end (Opener Brace) (opening Brace ∷ []) ts (tail ts) o) t in
            let l = list_sound about_use budget within sound Brace ts (tail ts) b.0.0 b.0.1 o left b.1 in
            let trees = nodes b.0.0 in
            let end : Stands (about_use_end (use_end.Group trees)) (deepest b.0.0) ts b.0.1 = rw (group_is trees) (l.1, l.2, refl) in
            same_some R ((use_end.Group trees, deepest b.0.0), b.0.1) ((e, need), rest) b.2 (l.0, end)
        | inr g ↦ elim (chosen (is_op (codes "*") ts) (Some ((use_end.Glob, 0), drop 1 ts)) (use_word ts) (Some ((e, need), rest)) g.1) [
          | inl f ↦
              let end : Stands (about_use_end use_end.Glob) 0 ts (drop 1 ts) =
              rw glob_is (bit_piece (Operator (codes "*")) 0 ts (drop 1 ts) (f.0, refl), refl, refl) in
              same_some R ((use_end.Glob, 0), drop 1 ts) ((e, need), rest) f.1 (omega arith, end)
          | inr f ↦ let w = use_word_sound ts e need rest t f.1 in (omega (arith, w.0), w.1)
        ]
      ]

  use_by_sound : Sound about_use (suc budget) (use_by within)
  use_by_sound ts tree need rest t h =
      let leads = (global ts).0 in
      let start = (global ts).1 in
      let last : List Word → ((UseEnd × ℕ) × Tokens) → Read UseTree = λ path end. ended (tree_of leads path end.0.0, suc end.0.1) end.1 in
      let b = bind_some (path_words start) (λ path. use_end_by within path.1 >>= last path.0) ((tree, need), rest) h in
      let c = bind_some (use_end_by within b.0.1) (last b.0.0) ((tree, need), rest) b.2 in
      let path = b.0.0 in
      let end = c.0.0.0 in
      let n = c.0.0.1 in
      let at = c.0.1 in
      let w = path_words_sound start path b.0.1 (global_texts ts t) b.1 in
      let e = use_end_sound b.0.1 end n at w.1 c.1 in
      let s = e.1 in
      let inner : Spells (Part (about_use_end end).form Done) n b.0.1 at = (at, s.0, refl) in
      let spelled = global_leads ts (words_form path (Part (about_use_end end).form Done)) n at
      (words_spelled path (Part (about_use_end end).form Done) n start b.0.1 at w.0 inner) in
      elim (chosen (begins_there OfColons at) None (Some ((tree_of leads path end, suc n), at)) (Some ((tree, need), rest)) c.2) [
        | inl g ↦ absurd (cc g.1)
        | inr g ↦
            let good = and_from (are_path_words path) (about_use_end end).good (words_good path start b.0.1 w.0) s.1 in
            let follows : may_follow (OfColons ∷ (about_use_end end).refuses) at ≡ true = rw (g.0, s.2) refl in
            let stands : Stands (about_use (tree_of leads path end)) (suc n) ts at = rw (use_is (tree_of leads path end)) ((at, spelled, refl), good, follows) in
            same_some (λ (m : (UseTree × ℕ) × Tokens). (m.0.1 ≤ suc budget) × Stands (about_use m.0.0) m.0.1 ts m.1)
            ((tree_of leads path end, suc n), at) ((tree, need), rest) g.1 (omega (arith, e.0), stands)
      ]

pub use_sound : (budget : ℕ) → Sound about_use budget (use_at budget)
unfolding use_at
use_sound zero ts tree need rest t h = absurd (cc)
use_sound (suc budget) ts tree need rest t h = use_by_sound budget (use_at budget) (use_sound budget) ts tree need rest t h

-- ---- another name, spelled

pub given_name_complete : (n : Name) (ts rest : Tokens) → GoodName n ts rest → given_name ts ≡ Some (given.Name n, rest)
unfolding given_name
given_name_complete n ts rest g = at n.raw n.text g.1 g.0
  where
    at : (raw : Bool) (text : List ℕ) → is_name raw text ≡ true → IsOne (word_kind raw) text ts rest
        → given_name ts ≡ Some (given.Name (record { raw = raw; text = text }), rest)
    at true text g o = rw (one_front RawIdent text ts rest o).1 refl
    at false text g o = rw ((one_front Ident text ts rest o).1, g) refl

pub underscore_complete : (ts rest : Tokens) → IsOne Underscore (codes "_") ts rest → given_name ts ≡ Some (given.Underscore, rest)
unfolding given_name
underscore_complete ts rest o = rw (one_front Underscore (codes "_") ts rest o).1 refl

-- Another name is read after `as`, and no `::` stands before it.
as_complete : (r : GivenName) (ts mid rest : Tokens) → AreBits (Blank ∷ keyword (codes "as") ∷ Blank ∷ []) ts mid → given_name mid ≡ Some (r, rest)
    → (renamed ts ≡ Some (Some r, rest)) × (is_op (codes "::") ts ≡ false)
unfolding renamed
as_complete r ts mid rest s h =
    let o : IsOne Ident (codes "as") ts mid = before_blank (keyword (codes "as")) ts mid (behind_blank (keyword (codes "as") ∷ Blank ∷ []) ts mid s) in
    (rw ((one_front Ident (codes "as") ts mid o).1, h) refl, one_no_op (codes "::") Ident (codes "as") ts mid refl o)

pub rename_complete : (r : Option GivenName) (depth : ℕ) (ts rest : Tokens) → GoodRename depth r ts rest → is_op (codes "::") rest ≡ false
    → (renamed ts ≡ Some (r, rest)) × (is_op (codes "::") ts ≡ false)
unfolding renamed
rename_complete None depth ts rest g h =
    let stops : first (is_keyword (codes "as")) rest ≡ false =
    not-true (first (is_keyword (codes "as")) rest) (and_parts (not (first (is_keyword (codes "as")) rest)) true g.2).0 in
    (rw (g.0, stops) refl, rw g.0 h)
rename_complete (Some (given.Name n)) depth ts rest g h =
    let s = g.0 in as_complete (given.Name n) ts s.0 rest s.1 (given_name_complete n s.0 rest (leaf_alone n.raw n.text depth s.0 rest s.2, g.1))
rename_complete (Some given.Underscore) depth ts rest g h =
    let s = g.0 in
    let one : IsOne Underscore (codes "_") s.0 rest = subst (λ us. IsOne Underscore (codes "_") s.0 us) s.2.2 s.2.1 in
    as_complete given.Underscore ts s.0 rest s.1 (underscore_complete s.0 rest one)

-- ---- the beginning of a use tree

-- Neither `::` nor what closes a list stands there, and fewer tokens are left.
abbrev EndFront : Tokens → Tokens → Type 0
EndFront ts rest = (is_op (codes "::") ts ≡ false) × (first (closes Brace) ts ≡ false) × (length rest < length ts)

list_front : (fs : List Form) (depth : ℕ) (ts rest : Tokens) → Spells (comma_list true (opener Brace) (closer Brace) fs) depth ts rest
    → (mid : Tokens) × IsOne (Opener Brace) (opening Brace ∷ []) ts mid × (length rest ≤ length mid)
list_front [] depth ts rest s =
    let b = s.1 in (b.0, b.1, omega (arith, end_shorter b.0 s.0 (bits_end (closer Brace ∷ []) b.0 s.0 b.2), ap length s.2))
list_front (f ∷ fs) depth ts rest s =
    let b = s.1 in
    let more = Part f (Part (each comma_gap fs) (last_break true 0 (piece (closer Brace ∷ [])))) in
    (b.0, bit_alone (opener Brace) ts b.0 b.1, omega (arith, shorter more depth b.0 s.0 b.2, ap length s.2))

word_front : (w : Word) (f : Form) (depth : ℕ) (ts rest : Tokens) → Spells (leaf_of w.raw w.text f) depth ts rest → EndFront ts rest
word_front w f depth ts rest s =
    let l = leaf_parts w.raw w.text f depth ts rest s in (
      word_no_op (codes "::") w.raw w.text ts l.0 l.1,
      one_test (is_closer Brace) (word_kind w.raw) w.text ts l.0 l.1 ∙ word_kinds (is_closer Brace) refl refl w.raw,
      omega (arith, one_shorter (word_kind w.raw) w.text ts l.0 l.1, shorter f depth l.0 rest l.2),
    )

end_front : (e : UseEnd) (depth : ℕ) (ts rest : Tokens) → Spells (about_use_end e).form depth ts rest → EndFront ts rest
end_front e depth ts rest s = by e (end_view e) s
  where
    by : (e : UseEnd) → EndView e → Spells (about_use_end e).form depth ts rest → EndFront ts rest
    by _ (IsWord w r) s = word_front w (rename_form r) depth ts rest (subst (λ (F : Facts). Spells F.form depth ts rest) (word_is w r) s)
    by _ IsGlob s =
        let o : IsOperator (codes "*") ts rest = piece_bit (Operator (codes "*")) depth ts rest (subst (λ (F : Facts). Spells F.form depth ts rest) glob_is s) in
        (other_op (codes "*") (codes "::") refl ts o.0, op_test (is_closer Brace) (codes "*") ts o.0, op_shorter 42 [] ts rest o)
    by _ (IsGroup trees) s =
        let l = list_front (forms (map about_use trees)) depth ts rest (subst (λ (F : Facts). Spells F.form depth ts rest) (group_is trees) s) in (
          one_no_op (codes "::") (Opener Brace) (opening Brace ∷ []) ts l.0 refl l.1,
          one_test (is_closer Brace) (Opener Brace) (opening Brace ∷ []) ts l.0 l.1,
          omega (arith, one_shorter (Opener Brace) (opening Brace ∷ []) ts l.0 l.1, l.2),
        )

-- a path and an end
abbrev behind_lead : List Word → UseEnd → Form
behind_lead ws e = words_form ws (Part (about_use_end e).form Done)

words_front : (ws : List Word) (e : UseEnd) (depth : ℕ) (ts rest : Tokens) → Spells (behind_lead ws e) depth ts rest → EndFront ts rest
words_front [] e depth ts rest s = end_front e depth ts rest (part_alone (about_use_end e).form depth ts rest s)
words_front (w ∷ ws) e depth ts rest s = word_front w (Piece colons (behind_lead ws e)) depth ts rest s

-- What closes a list begins no use tree, and fewer tokens are left after one.
lead_front : (leads : Bool) (ws : List Word) (e : UseEnd) (depth : ℕ) (ts rest : Tokens) → Spells (when leads colons (behind_lead ws e)) depth ts rest
    → (first (closes Brace) ts ≡ false) × (length rest < length ts)
lead_front true ws e depth ts rest s =
    let o : IsOperator (codes "::") ts s.0 = bit_alone (Operator (codes "::")) ts s.0 s.1 in
    (op_test (is_closer Brace) (codes "::") ts o.0, omega (arith, op_shorter 58 (codes ":") ts s.0 o, shorter (behind_lead ws e) depth s.0 rest s.2))
lead_front false ws e depth ts rest s = let f = words_front ws e depth ts rest s in (f.1, f.2)

use_none : (tree : UseTree) (ts rest : Tokens) → Spells (about_use tree).form zero ts rest → ⊥
use_none tree ts rest s = subst (λ (F : Facts). Spells F.form zero ts rest) (use_is tree) s

use_spelled : (tree : UseTree) (depth : ℕ) (ts rest : Tokens) → Spells (about_use tree).form (suc depth) ts rest
    → Spells (when tree.global colons (behind_lead tree.path tree.end)) depth ts rest
use_spelled tree depth ts rest s =
    let inside = subst (λ (F : Facts). Spells F.form (suc depth) ts rest) (use_is tree) s in
    subst (λ us. Spells (when tree.global colons (behind_lead tree.path tree.end)) depth ts us) inside.2 inside.1

use_front : (depth : ℕ) (tree : UseTree) (ts rest : Tokens) → Spells (about_use tree).form depth ts rest
    → (first (closes Brace) ts ≡ false) × (length rest < length ts)
use_front zero tree ts rest s = absurd (use_none tree ts rest s)
use_front (suc depth) tree ts rest s = lead_front tree.global tree.path tree.end depth ts rest (use_spelled tree depth ts rest s)

-- ---- what is spelled is read

module _ (depth : ℕ) (within : Tokens → Read UseTree) (complete : Complete about_use depth within) where
  element : (x : UseTree) (ts rest : Tokens) → GoodAt about_use depth x ts rest → Ends Brace rest
      → (first (closes Brace) ts ≡ false) × IsRead depth within x ts rest × (length rest < length ts)
  element x ts rest g ends =
      let f = use_front depth x ts rest g.0 in
      let quiet : Quiet rest = elim ends.1 [ inl o ↦ comma_quiet rest ends.0 o | inr o ↦ closer_quiet Brace rest ends.0 o ] in
      (f.0, complete x ts rest (g.0, g.1, quiet_follows (about_use x).refuses rest quiet), f.1)

  group_read : (trees : List UseTree) (read : List (UseTree × ℕ)) (ts inside rest : Tokens) → IsOne (Opener Brace) (opening Brace ∷ []) ts inside
      → elements (closes Brace) within inside ≡ Some (read, rest) → nodes read ≡ trees
      → use_end_by within ts ≡ Some ((use_end.Group trees, deepest read), rest)
  group_read trees read ts inside rest o e n = rw ((one_front (Opener Brace) (opening Brace ∷ []) ts inside o).1, e, n) refl

  tree_read : (tree : UseTree) (n : ℕ) (ts at mid rest : Tokens) → global ts ≡ (tree.global, at) → path_words at ≡ Some (tree.path, mid)
      → use_end_by within mid ≡ Some ((tree.end, n), rest) → is_op (codes "::") rest ≡ false → use_by within ts ≡ Some ((tree, suc n), rest)
  tree_read tree n ts at mid rest g p e h = rw (g, p, e, h) refl

  -- An end is read, and it is no word with a `::` after it.
  end_complete : (e : UseEnd) (ts rest : Tokens) → Stands (about_use_end e) depth ts rest → is_op (codes "::") rest ≡ false
      → IsRead depth (use_end_by within) e ts rest × (path_word ts ≡ None)
  end_complete e ts rest s h = by e (end_view e) s
    where
      by : (e : UseEnd) → EndView e → Stands (about_use_end e) depth ts rest → IsRead depth (use_end_by within) e ts rest × (path_word ts ≡ None)
      by _ (IsWord w r) s =
          let t = subst (λ (F : Facts). Stands F depth ts rest) (word_is w r) s in
          let l = leaf_parts w.raw w.text (rename_form r) depth ts rest t.0 in
          let goods = and_parts (is_path_word w.raw w.text) (is_rename r) t.1 in
          let behind = rename_complete r depth l.0 rest (l.2, goods.1, t.2) h in
          let not_open : first (opens Brace) ts ≡ false =
          one_test (is_opener Brace) (word_kind w.raw) w.text ts l.0 l.1 ∙ word_kinds (is_opener Brace) refl refl w.raw in (
            (0, omega arith, rw (not_open, word_no_op (codes "*") w.raw w.text ts l.0 l.1, word_complete w ts l.0 (l.1, goods.0), behind.0) refl),
            last_word w ts l.0 (l.1, goods.0) behind.1,
          )
      by _ IsGlob s =
          let t = subst (λ (F : Facts). Stands F depth ts rest) glob_is s in
          let o : IsOperator (codes "*") ts rest = piece_bit (Operator (codes "*")) depth ts rest t.0 in
          let front = op_front (codes "*") ts o.0 in
          let not_open : first (opens Brace) ts ≡ false = op_test (is_opener Brace) (codes "*") ts o.0 in
          ((0, omega arith, rw (not_open, o.0, o.1) refl), no_word ts front.1 (record front.0 { kind = Punct }) front.2 refl)
      by _ (IsGroup trees) s =
          let t = subst (λ (F : Facts). Stands F depth ts rest) (group_is trees) s in
          let l = list_complete about_use depth within Brace element trees ts rest t.0 t.1 in
          let front = one_front (Opener Brace) (opening Brace ∷ []) ts l.0 l.1 in (
            (deepest l.2, l.4, group_read trees l.2 ts l.0 rest l.1 l.5 l.3),
            no_word ts l.0 (record front.0 { kind = Opener Brace; text = opening Brace ∷ [] }) front.1 refl,
          )

  use_by_complete : (tree : UseTree) (ts rest : Tokens) → Stands (about_use tree) (suc depth) ts rest → IsRead (suc depth) (use_by within) tree ts rest
  use_by_complete tree ts rest s =
      let spelled = use_spelled tree depth ts rest s.0 in
      let good = subst (λ (F : Facts). F.good ≡ true) (use_is tree) s.1 in
      let goods = and_parts (are_path_words tree.path) (about_use_end tree.end).good good in
      let follows = subst (λ (F : Facts). may_follow F.refuses rest ≡ true) (use_is tree) s.2 in
      let stops = and_parts (not (is_op (codes "::") rest)) (may_follow (about_use_end tree.end).refuses rest) follows in
      let no_colons = not-true (is_op (codes "::") rest) stops.0 in
      let end = Part (about_use_end tree.end).form Done in
      let read : (us : Tokens) → Spells end depth us rest → IsRead depth (use_end_by within) tree.end us rest × (path_word us ≡ None) =
      λ us x. end_complete tree.end us rest (part_alone (about_use_end tree.end).form depth us rest x, goods.1, stops.1) no_colons in
      let lead = global_parts tree.global (behind_lead tree.path tree.end) depth ts rest spelled (λ us x. (words_front tree.path tree.end depth us rest x).0) in
      let path = path_words_complete tree.path end depth lead.0 rest goods.0 lead.2 (λ us x. (read us x).1) in
      let e = (read path.0 path.2).0 in
      (suc e.0, omega (arith, e.1), tree_read tree e.0 ts lead.0 path.0 rest lead.1 path.1 e.2 no_colons)

pub use_complete : (depth budget : ℕ) → depth ≤ budget → Complete about_use depth (use_at budget)
unfolding use_at
use_complete zero budget h tree ts rest s = absurd (use_none tree ts rest s.0)
use_complete (suc depth) zero h tree ts rest s = absurd (omega arith)
use_complete (suc depth) (suc budget) h tree ts rest s =
    use_by_complete depth (use_at budget) (use_complete depth budget (omega arith)) tree ts rest s

pub use_trees : Exact use_at (λ (x : UseTree). Front (about_use x))
use_trees = exact about_use use_at use_sound use_complete
