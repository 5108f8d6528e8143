-- Documentation of items that are built.
use Rattle.std.proofs.Common.{MatchBool, IsUtf8, Result, Ok, Err, ◌≡◌, ◌∙◌, ℕ, Bool, true, false, ◌&&◌, ◌||◌, List, [], ◌∷◌, ◌++◌, map, refl, sym, ap, subst, arith}
use Rattle.std.specs.Prelude.{codes, is_some}
use Rattle.std.specs.Str.{chars, is_utf8}
use Rattle.std.proofs.lemmas.Bool.{and_parts, and_from}
use Rattle.std.proofs.lemmas.List.{map-append}
use Rattle.std.proofs.lemmas.List.Folds.{list_all-append}
use Rattle.std.proofs.lemmas.Str.{IsUtf8-from_is_utf8, encodes-chars, is_utf8-from_IsUtf8}
use Rattle.lay_piece.specs.Docs.{doc_form}
use Rattle.lay_piece.specs.Forms.{after_literal, had, has_form, is_whole, literal_may_stop, may_precede}
use Rattle.lay_piece.specs.declared.doc.DocForm.{DocForm}
use Rattle.lay_piece.specs.declared.doc.DocForm.TheVariants as doc
use Rattle.lay_piece.specs.declared.kind.Kind.TheVariants.{Ident, Str}
use Rattle.lay_piece.proofs.Ascii.{ascii_in_word, ascii_starts}
use Rattle.lay_form.specs.Depth.{least_depth}
use Rattle.lay_form.specs.Form.{Done, Part}
use Rattle.lay_form.specs.Notation.{behind_attrs}
use Rattle.lay_form.specs.Pieces.{are_pieces, is_text_of}
use Rattle.lay_node.specs.nodes.Attr.{are_attrs, attr_form, is_attr, is_doc_input, is_doc_value}
use Rattle.lay_node.specs.nodes.Vis.{is_vis}
use Rattle.lay_node.specs.tokens.Lexed.{is_token_list}
use Rattle.lay_node.specs.tokens.Listing.{has_form_of_doc}
use Rattle.lay_node.specs.declared.attr.Attr.{Attr}
use Rattle.lay_node.specs.declared.attr.MetaInput.TheVariants as input
use Rattle.lay_node.specs.declared.heads.Site.TheVariants.{Module}
use Rattle.lay_code.specs.nodes.Code.{told_of_kind}
use Rattle.lay_code.specs.nodes.CodeFacts.{ItemFacts}
use Rattle.lay_code.specs.nodes.Item.{is_inherited, kind_form}
use Rattle.lay_code.specs.declared.item.Item.{Item}
use Rattle.lay_code.proofs.nodes.ItemLaws as laws
use Rattle.lay_depth.proofs.ItemLemmas as depths
use Rattle.lay_build_types.specs.Answers.{Gives, IsMade, Makes, Refuses}
use Rattle.lay_build_types.specs.Kinds.{IsItem, form_of_item}
use Rattle.lay_build_types.specs.Strings.{string_text}
use Rattle.lay_build_types.specs.declared.built.BuildError.{BuildError}
use Rattle.lay_build_types.specs.declared.built.BuildError.TheVariants.{BadText}
use Rattle.lay_build_types.proofs.AnswerLemmas.{wants}
use Rattle.lay_build_types.proofs.PieceLemmas.{AllPieces, Pieces, all_behind, behind_parts, behind_pieces, ended, front}
use Rattle.lay_build_types.proofs.StringLemmas.{literal_piece, literal_value}
use Rattle.lay_build_exprs.proofs.JoinLemmas.{Both, both_lost, both_parts}
use Rattle.lay_build.specs.Nodes as node
use Rattle.lay_build.proofs.ItemLemmas.{KeptItem}

-- ---- the word `doc`

doc_word : is_text_of Ident (codes "doc") ≡ true
unfolding is_text_of has_form is_utf8 chars lib.Utf8.encode
doc_word = rw (ascii_starts 100 (omega arith), ascii_in_word 111 (omega arith), ascii_in_word 99 (omega arith)) refl

-- ---- a string alone is a token list

string_stops : (cs : List ℕ) → has_form Str cs ≡ true → had Str cs [] false ≡ true
unfolding had may_precede
string_stops cs h = and_from (has_form Str cs) (may_precede Str cs []) h (by (is_whole (after_literal Str cs)))
  where
    by : (bare : Bool) → literal_may_stop bare [] ≡ true
    by true = refl
    by false = refl

module _ (text : List ℕ) (utf8 : is_utf8 text ≡ true) where
  string_had : (is_utf8 (string_text text) && had Str (chars (string_text text)) [] false) ≡ true
  unfolding is_text_of
  string_had =
      let cs = chars (string_text text) in
      let parts = and_parts (is_utf8 (string_text text)) (has_form Str cs) (literal_piece text (IsUtf8-from_is_utf8 text utf8)) in
      and_from (is_utf8 (string_text text)) (had Str cs [] false) parts.0 (string_stops cs parts.1)

  listed : is_token_list (node.string_list text) ≡ true
  listed = rw string_had refl

  -- ---- the attribute

  -- What no comment can say is said by an attribute.
  no_comment : doc_form false text ≡ doc.Neither → is_doc_input false (input.Value (node.string_list text)) ≡ false
  no_comment neither =
      ap (is_doc_value false) (literal_value text (IsUtf8-from_is_utf8 text utf8))
      ∙ ap (λ (bytes : List ℕ). has_form_of_doc (doc_form false bytes)) (encodes-chars text (IsUtf8-from_is_utf8 text utf8))
      ∙ ap has_form_of_doc neither

  by_form : (form : DocForm) → doc_form false text ≡ form → is_attr false (node.doc_by form text) ≡ true
  by_form doc.Neither is = rw (listed, no_comment is) refl
  by_form doc.Line is = ap has_form_of_doc is
  by_form doc.Block is = ap has_form_of_doc is

  doc_good : is_attr false (node.doc text) ≡ true
  doc_good = by_form (doc_form false text) refl

  pieces_by : (form : DocForm) → Pieces (attr_form (node.doc_by form text))
  pieces_by doc.Neither = rw (doc_word, literal_piece text (IsUtf8-from_is_utf8 text utf8)) refl
  pieces_by doc.Line = ended (is_utf8 text) utf8
  pieces_by doc.Block = ended (is_utf8 text) utf8

  doc_pieces : Pieces (attr_form (node.doc text))
  doc_pieces = pieces_by (doc_form false text)

  -- ---- an item with it

  module _ (one : Item) where
    more_attrs : are_attrs false one.attrs ≡ true → are_attrs false (one.attrs ++ node.doc text ∷ []) ≡ are_attrs false one.attrs
    more_attrs good =
        list_all-append (is_attr false) one.attrs (node.doc text ∷ [])
        ∙ and_from (are_attrs false one.attrs) (is_attr false (node.doc text) && true) good (ended (is_attr false (node.doc text)) doc_good) ∙ sym good

    pub doc_made : KeptItem one → IsMade form_of_item IsItem (node.with_doc one text)
    doc_made kept =
        let told = told_of_kind one.kind in
        let rest = Part (kind_form one.vis told.head told.tail) Done in
        let forms = map attr_form one.attrs in
        let a = are_attrs false one.attrs in
        let b = is_vis one.vis in
        let c = is_some told.head || is_inherited one.vis in
        let d = told.good Module in
        let parts =
        behind_parts forms rest (front (are_pieces (behind_attrs forms rest))
        (sym (ap (λ (f : ItemFacts). are_pieces f.form) (laws.item_is one)) ∙ kept.made.pieces)) in
        let all : AllPieces (map attr_form (one.attrs ++ node.doc text ∷ [])) =
        subst AllPieces (sym (map-append attr_form one.attrs (node.doc text ∷ [])))
        (all_behind Pieces forms (attr_form (node.doc text) ∷ []) parts.0 (doc_pieces, tt)) in
        let old : (a && b && c && d) ≡ true = sym (ap (λ (f : ItemFacts). f.good Module) (laws.item_is one)) ∙ kept.made.holding in
        let good = (and_parts a b (and_parts (a && b) c (and_parts (a && b && c) d old).0).0).0 in
        record {
          pieces = ap (λ (f : ItemFacts). are_pieces f.form) (laws.item_is (node.with_doc one text))
              ∙ ended _ (behind_pieces (map attr_form (one.attrs ++ node.doc text ∷ [])) rest all parts.1);
          holding = ap (λ (f : ItemFacts). f.good Module) (laws.item_is (node.with_doc one text))
              ∙ (ap (λ (z : Bool). z && b && c && d) (more_attrs good) ∙ old);
        }

-- No attribute makes an item deeper.
pub doc_need : (one : Item) (text : List ℕ) → least_depth (form_of_item (node.with_doc one text)) ≡ least_depth (form_of_item one)
doc_need one text = depths.item_is (node.with_doc one text) ∙ sym (depths.item_is one)

-- ---- what is answered, where the text may be bad

abbrev Refused : {N : Type 0} → Result N BuildError → Type 0
Refused result = Refuses BadText result

abbrev Told : List ℕ → Result Attr BuildError → Type 0
Told text result = Gives result (λ a. a ≡ node.doc text)

module _ (text : List ℕ) (result : Result Attr BuildError) where
  pub doc_told : IsUtf8 text → Told text result → MatchBool (is_utf8 text) (Told text result) (Refused result)
  doc_told utf8 told =
      subst (λ (b : Bool). MatchBool b (Told text result) (Refused result)) (sym (is_utf8-from_IsUtf8 text utf8)) told

  pub doc_refused : (IsUtf8 text → ⊥) → Refused result → MatchBool (is_utf8 text) (Told text result) (Refused result)
  doc_refused never refused = by (is_utf8 text) refl
    where
      by : (b : Bool) → is_utf8 text ≡ b → MatchBool b (Told text result) (Refused result)
      by true h = absurd (never (IsUtf8-from_is_utf8 text h))
      by false h = refused

module _ (one : Item) (text : List ℕ) (made : Result Attr BuildError) (second : Item × ℕ) where
  -- Why there is no documentation is why there is no item with it.
  pub doc_lost : (good : Bool) (why : BuildError) → MatchBool good (Told text made) (Refused made) → Both made (Ok second) (Err why)
      → MatchBool good (Makes form_of_item (node.with_doc one text) (Err why)) (Refused {N = Item} (Err why))
  doc_lost true why is both =
      wants form_of_item (node.with_doc one text) why
      (both_lost (λ (a : Attr). a ≡ node.doc text) (λ (p : Item × ℕ). p ≡ second) made (Ok second) why is refl both)
  doc_lost false why is both = by made is both
    where
      by : (r : Result Attr BuildError) → Refused r → Both r (Ok second) (Err why) → Refused {N = Item} (Err why)
      by (Ok a) told m = absurd told
      by (Err w) told m = let same : w ≡ why = cc in subst (λ (e : BuildError). Refused {N = Item} (Err e)) same told

  pub doc_got : (good : Bool) (a : Attr) (b : Item × ℕ) → MatchBool good (Told text made) (Refused made) → Both made (Ok second) (Ok (a, b))
      → (good ≡ true) × ((a ≡ node.doc text) × (b ≡ second))
  doc_got true a b is both =
      (refl, both_parts (λ (x : Attr). x ≡ node.doc text) (λ (p : Item × ℕ). p ≡ second) made (Ok second) a b is refl both)
  doc_got false a b is both = by made is both
    where
      by : (r : Result Attr BuildError) → Refused r → Both r (Ok second) (Ok (a, b)) → (false ≡ true) × ((a ≡ node.doc text) × (b ≡ second))
      by (Ok x) told m = absurd told
      by (Err w) told m = absurd (let no : ⊥ = cc in no)
