-- Extern crates are read exactly where they stand.
use Rattle.std.specs.Str.{bytes_eq}
use Rattle.std.proofs.Common.{Bool, List, None, Option, Some, [], codes, false, inl, inr, refl, true, ℕ, ◌∷◌, ◌≡◌}
use Rattle.std.proofs.lemmas.Bool.{and_from, and_parts, or_cases}
use Rattle.lay_piece.specs.Word.{class_of}
use Rattle.lay_piece.specs.declared.kind.Kind.TheVariants.{Ident, Punct}
use Rattle.lay_token.proofs.Deciding.{bytes_same}
use Rattle.lay_form.specs.Form.{Blank, Fixed, Form, Piece, keyword}
use Rattle.lay_form.specs.Spelled.{AreBits, IsOne, Spells}
use Rattle.lay_form.proofs.FormLaws.{is_end}
use Rattle.lay_node.specs.Ahead.{Tokens, first, is_keyword, tail}
use Rattle.lay_node.specs.Follow.{may_follow}
use Rattle.lay_node.specs.Words.{is_path_word, is_plain, leaf_of}
use Rattle.lay_node.specs.nodes.Facts.{Told, ToldFront}
use Rattle.lay_node.specs.nodes.Heads.{about_extern_crate, headed, is_crate_word}
use Rattle.lay_node.specs.nodes.Use.{is_rename, refuses_rename, rename_form}
use Rattle.lay_node.specs.reader.Exact.{Exact, needless}
use Rattle.lay_node.specs.reader.Heads.{extern_crate, semicolon}
use Rattle.lay_node.specs.reader.Loops.{passed}
use Rattle.lay_node.specs.reader.Use.{renamed}
use Rattle.lay_node.specs.reader.Words.{word}
use Rattle.lay_node.specs.declared.heads.ExternCrate.{ExternCrate}
use Rattle.lay_node.specs.declared.token.GivenName.{GivenName}
use Rattle.lay_node.specs.declared.token.Word.{Word}
use Rattle.lay_node.proofs.Fronts.{mark_passed, mark_passed_is, one_front, semicolon_no_colons, texts_behind}
use Rattle.lay_node.proofs.Parts.{before_blank, behind_blank, bit_piece, leaf_parts, leaf_spelled, piece_bit, word_kind}
use Rattle.lay_node.proofs.Steps.{same_some, bind_some, chosen}
use Rattle.lay_node.proofs.reader.HeadsLevel.{StoodFree, free_exact}
use Rattle.lay_node.proofs.reader.Loops.{SoundStep}
use Rattle.lay_node.proofs.reader.TypesComplete.{plain_class}
use Rattle.lay_node.proofs.reader.TypesCompleteParts.{keyword_there, one_left}
use Rattle.lay_node.proofs.reader.TypesSoundParts.{Out, bit_texts, keyword_passed_is}
use Rattle.lay_node.proofs.reader.Use.{rename_complete, renamed_sound}
use Rattle.lay_node.proofs.reader.Words.{word_complete, word_sound}

abbrev about : ExternCrate → Told
about x = headed (about_extern_crate x)

-- ---- what is read is spelled

pub extern_crate_sound : SoundStep extern_crate (StoodFree about)
unfolding extern_crate
extern_crate_sound ts x rest t h =
    let e = bind_some (passed (is_keyword (codes "extern")) ts) _ _ h in
    let c = bind_some (passed (is_keyword (codes "crate")) e.0) _ _ e.2 in
    let w = bind_some (word c.0) _ _ c.2 in
    let r = bind_some (renamed w.0.1) _ _ w.2 in
    let m = bind_some (semicolon r.0.1) _ _ r.2 in
    let extern_word = keyword_passed_is (codes "extern") ts e.0 e.1 in
    let crate_word = keyword_passed_is (codes "crate") e.0 c.0 c.1 in
    let named = word_sound c.0 w.0.0 w.0.1 w.1 in
    let raw = w.0.0.raw in
    let text = w.0.0.text in
    let t1 = bit_texts (keyword (codes "extern")) ts e.0 extern_word t in
    let t2 = bit_texts (keyword (codes "crate")) e.0 c.0 crate_word t1 in
    let t3 = bit_texts (Fixed (word_kind raw) text) c.0 w.0.1 named.0 t2 in
    let k = renamed_sound 0 w.0.1 r.0.0 r.0.1 t3 r.1 in
    let t4 = texts_behind w.0.1 r.0.1 (is_end (rename_form r.0.0) 0 w.0.1 r.0.1 k.0) t3 in
    let mark = mark_passed_is (codes ";") r.0.1 m.0 m.1 in
    let t5 = bit_texts (Fixed Punct (codes ";")) r.0.1 m.0 mark t4 in
    let leaf = leaf_spelled raw text (rename_form r.0.0) 0 c.0 w.0.1 r.0.1 named.0 k.0 in
    let words : AreBits (keyword (codes "extern") ∷ Blank ∷ keyword (codes "crate") ∷ Blank ∷ []) ts c.0 =
    (e.0, extern_word, (e.0, refl, (c.0, crate_word, (c.0, refl, refl)))) in
    elim (chosen (is_crate_word w.0.0) (Some (record { word = w.0.0; renamed = r.0.0 }, m.0)) None (Some (x, rest)) m.2) [
      | inl g ↦
          let good = and_from (is_crate_word w.0.0) (is_rename r.0.0) g.0 k.1 in
          same_some (Out (StoodFree about) ts) (record { word = w.0.0; renamed = r.0.0 }, m.0) (x, rest) g.1
          (((r.0.1, (c.0, words, leaf), bit_piece (Fixed Punct (codes ";")) 0 r.0.1 m.0 mark), good, refl), t5)
      | inr g ↦ absurd (cc)
    ]

-- ---- what is spelled is read

-- Both words of an extern crate, and what follows them.
pub crate_words : (f : Form) (depth : ℕ) (ts rest : Tokens)
    → Spells (Piece (keyword (codes "extern") ∷ Blank ∷ keyword (codes "crate") ∷ Blank ∷ []) f) depth ts rest
    → (at mid : Tokens) × IsOne Ident (codes "extern") ts at × IsOne Ident (codes "crate") at mid × Spells f depth mid rest
crate_words f depth ts rest s =
    let w = s.1 in
    let behind = behind_blank (keyword (codes "crate") ∷ Blank ∷ []) w.0 s.0 w.2 in
    (w.0, s.0, w.1, before_blank (keyword (codes "crate")) w.0 s.0 behind, s.2)

crate_path_word : (w : Word) → is_crate_word w ≡ true → is_path_word w.raw w.text ≡ true
crate_path_word w h = by w.raw w.text h
  where
    by : (raw : Bool) (text : List ℕ) → is_crate_word (record { raw = raw; text = text }) ≡ true → is_path_word raw text ≡ true
    by true text h = refl
    by false text h = elim (or_cases (is_plain (class_of text)) (bytes_eq text (codes "self")) h) [
      | inl e ↦ plain_class (class_of text) e
      | inr e ↦ rw (bytes_same text (codes "self") e) refl
    ]

-- No other name follows a `;`.
semicolon_no_rename : (r : Option GivenName) (ts rest : Tokens) → IsOne Punct (codes ";") ts rest → may_follow (refuses_rename r) ts ≡ true
semicolon_no_rename None ts rest o = rw (one_front Punct (codes ";") ts rest o).1 refl
semicolon_no_rename (Some r) ts rest o = refl

pub extern_crate_complete : (x : ExternCrate) (depth : ℕ) (ts rest : Tokens) → Spells (about x).form depth ts rest → (about x).good ≡ true
    → (about x).follows rest ≡ true → extern_crate ts ≡ Some (x, rest)
unfolding extern_crate
extern_crate_complete x depth ts rest s g f =
    let w = x.word in
    let goods = and_parts (is_crate_word w) (is_rename x.renamed) g in
    let c = crate_words (leaf_of w.raw w.text (rename_form x.renamed)) depth ts s.0 s.1 in
    let l = leaf_parts w.raw w.text (rename_form x.renamed) depth c.1 s.0 c.4 in
    let mark : IsOne Punct (codes ";") s.0 rest = piece_bit (Fixed Punct (codes ";")) depth s.0 rest s.2 in
    let r = rename_complete x.renamed depth l.0 s.0 (l.2, goods.1, semicolon_no_rename x.renamed s.0 rest mark) (semicolon_no_colons s.0 rest mark) in
    let extern_there = keyword_there (codes "extern") ts c.0 c.2 in
    let extern_left = one_left Ident (codes "extern") ts c.0 c.2 in
    let crate_there = keyword_there (codes "crate") c.0 c.1 c.3 in
    let crate_left = one_left Ident (codes "crate") c.0 c.1 c.3 in
    let named = word_complete w c.1 l.0 (l.1, crate_path_word w goods.0) in
    rw (extern_there, extern_left, crate_there, crate_left, named, r.0, mark_passed (codes ";") s.0 rest mark, goods.0) refl

-- An extern crate begins with its two words.
pub extern_crate_begins : (x : ExternCrate) (depth : ℕ) (ts rest : Tokens) → Spells (about x).form depth ts rest
    → (first (is_keyword (codes "extern")) ts ≡ true) × (first (is_keyword (codes "crate")) (tail ts) ≡ true)
extern_crate_begins x depth ts rest s =
    let w = x.word in
    let c = crate_words (leaf_of w.raw w.text (rename_form x.renamed)) depth ts s.0 s.1 in
    let left = one_left Ident (codes "extern") ts c.0 c.2 in
    (keyword_there (codes "extern") ts c.0 c.2, rw left (keyword_there (codes "crate") c.0 c.1 c.3))

pub extern_crates_exact : Exact (needless extern_crate) (λ (x : ExternCrate). ToldFront (headed (about_extern_crate x)))
extern_crates_exact = free_exact about extern_crate extern_crate_sound extern_crate_complete
