-- Files: the longest run of inner attributes and items is what the tokens spell.
use Rattle.std.proofs.Common.{◌≡◌, ℕ, ◌+◌, ◌≤◌, true, List, [], ◌∷◌, ◌++◌, length, take, drop, Option, Some, None, Err, Bor, option_copied, slice_get, refl, sym, ap, subst, ◌∙◌, IsTrue, arith, append_assoc, length-append, length-drop}
use Rattle.std.proofs.Math.Seq.{drop-append_seam}
use Rattle.std.proofs.lemmas.List.{take-append-drop}
use Rattle.lay_token.specs.Lexes.{Lexes}
use Rattle.lay_token.specs.declared.token.Token.{Token}
use Rattle.lay_form.specs.Spelled.{Spells}
use Rattle.lay_form.proofs.FormLaws.{is_end}
use Rattle.lay_node.specs.Ahead.{Tokens}
use Rattle.lay_node.specs.nodes.Attr.{about_attr}
use Rattle.lay_node.specs.nodes.Facts.{Front}
use Rattle.lay_node.specs.reader.Attr.{attribute}
use Rattle.lay_node.specs.reader.Exact.{needless}
use Rattle.lay_node.specs.reader.Loops.{Got}
use Rattle.lay_node.specs.declared.attr.Attr.{Attr}
use Rattle.lay_node.proofs.Pieces.{pieces_spelled}
use Rattle.lay_node.proofs.reader.AttrRead.{attribute_complete, attrs_exact}
use Rattle.lay_code.specs.Reading.{NoItemAt, SpellsFile, SpellsFront}
use Rattle.lay_code.specs.Written.{Written, is_good_shebang}
use Rattle.lay_code.specs.nodes.File.{form_of_file}
use Rattle.lay_code.specs.reader.File.{front}
use Rattle.lay_code.specs.declared.file.File.{File}
use Rattle.lay_code.specs.declared.item.Item.{Item}
use Rattle.lay_code.proofs.reader.File.{front_sound, front_longest}
use Rattle.lay_read_tokens.specs.Answers.{AreLexed, IsRead, StandsBefore}
use Rattle.lay_read_tokens.specs.declared.stop.ReadNone.{ReadNone}
use Rattle.lay_read_tokens.specs.declared.stop.ReadNone.TheVariants.{NoReading, NoMemory}
use Rattle.lay_read_tokens.proofs.Lexed.{lexed_in_text, lexed_texts}

module _ (depth : ℕ) (tokens : List Token) (l : AreLexed tokens) (attrs : List Attr) (items : List Item) (left : List Token)
    (e : front depth tokens ≡ ((attrs, items), left)) where
  -- The run that is read is spelled, as a file that can be written after any good shebang.
  front_spelled : (shebang : Option (List ℕ)) → IsTrue (is_good_shebang shebang)
      → (let file : File = record { shebang = shebang; attrs = attrs; items = items } in Written file × Spells (form_of_file file) depth tokens left)
  front_spelled shebang good =
      let file : File = record { shebang = shebang; attrs = attrs; items = items } in
      let read = ap (λ (run : (List Attr × List Item) × List Token). run.0) e in
      let sound = front_sound depth tokens (lexed_in_text tokens l) file (sym (ap (λ (run : List Attr × List Item). run.0) read))
      (sym (ap (λ (run : List Attr × List Item). run.1) read)) in
      let spelled : Spells (form_of_file file) depth tokens left =
      subst (λ (us : List Token). Spells (form_of_file file) depth tokens us) (ap (λ (run : (List Attr × List Item) × List Token). run.1) e) sound.0 in
      let pieces = pieces_spelled (form_of_file file) depth tokens left (lexed_texts tokens l) spelled in
      (record { shebang = good; normal = sound.1; pieces = pieces }, spelled)

  -- A run that is spelled is no longer than the one that is read.
  none_longer : (more : ℕ) → SpellsFront depth more tokens → more + length left ≤ length tokens
  none_longer more f =
      let file = f.1 in
      let least = front_longest depth file.0 tokens (drop more tokens) (lexed_in_text tokens l) file.2 file.1.normal in
      omega (arith, least, f.0, length-drop more tokens, ap (λ (run : (List Attr × List Item) × List Token). length run.1) e)

-- Where nothing is left after the run, it is a file.
pub file_spelled : (depth : ℕ) (tokens : List Token) (shebang : Option (List ℕ)) (attrs : List Attr) (items : List Item)
    → AreLexed tokens → IsTrue (is_good_shebang shebang)
    → front depth tokens ≡ ((attrs, items), []) → SpellsFile depth (record { shebang = shebang; attrs = attrs; items = items }) tokens
file_spelled depth tokens shebang attrs items l good e = front_spelled depth tokens l attrs items [] e shebang good

-- Where a token is left after it, no item begins there.
pub no_item : (depth : ℕ) (tokens : List Token) (attrs : List Attr) (items : List Item) (token : Token) (rest : List Token)
    → AreLexed tokens → front depth tokens ≡ ((attrs, items), token ∷ rest) → NoItemAt depth tokens token.at
no_item depth tokens attrs items token rest l e =
    let file : File = record { shebang = None; attrs = attrs; items = items } in
    let run = front_spelled depth tokens l attrs items (token ∷ rest) e None refl in
    let end = is_end (form_of_file file) depth tokens (token ∷ rest) run.1 in
    let count = length end.before in
    let behind : drop count tokens ≡ token ∷ rest = ap (drop count) end.whole ∙ drop-append_seam end.before (token ∷ rest) in
    let all = ap length end.whole ∙ length-append end.before (token ∷ rest) in
    let within : count ≤ length tokens = omega (arith, all) in
    let spelled = subst (λ (us : List Token). Spells (form_of_file file) depth tokens us) (sym behind) run.1 in
    record {
      count = count;
      token = token;
      rest = rest;
      behind = behind;
      place = refl;
      front = (within, (file, run.0, spelled));
      longest = λ more less f. omega (arith, less, all, none_longer depth tokens l attrs items (token ∷ rest) e more f);
    }

-- Tokens that are parted stand in the same row.
parted : (before ts after : List Token) (n : ℕ) → before ++ take n ts ++ drop n ts ++ after ≡ before ++ ts ++ after
parted before ts after n = rw (append_assoc before (take n ts) (drop n ts), take-append-drop n ts) refl

-- What follows tokens of a text stands in it too.
lexed_behind : (n : ℕ) (ts : List Token) → AreLexed ts → AreLexed (drop n ts)
lexed_behind n ts l = record {
  bytes = l.bytes;
  start = l.start;
  before = l.before ++ take n ts;
  after = l.after;
  utf8 = l.utf8;
  lexes = subst (λ us. Lexes l.bytes l.start us) (sym (parted l.before ts l.after n)) l.lexes;
}

-- ---- inner attributes

abbrev AttrFront : Attr → Tokens → ℕ → ℕ → Type 0
AttrFront attr = Front (about_attr true attr)

-- The tokens after an attribute stand in a row too.
pub lexed_attr : (ts rest : Tokens) (attr : Attr) → AreLexed ts → StandsBefore AttrFront 0 ts attr rest → AreLexed rest
lexed_attr ts rest attr l s = subst AreLexed (sym s.1) (lexed_behind s.0 ts l)

pub attr_read : (ts rest : Tokens) (attr : Attr) → StandsBefore AttrFront 0 ts attr rest → attribute true ts ≡ Some (attr, rest)
attr_read ts rest attr s =
    attribute_complete true attr 0 ts rest (subst (Spells (about_attr true attr).form 0 ts) (sym s.1) s.2.1, s.2.2)

no_attr : (ts : Tokens) → AreLexed ts → ((attr : Attr) (n : ℕ) → AttrFront attr ts n 0 → ⊥) → attribute true ts ≡ None
no_attr ts l none = by (attribute true ts) refl
  where
    by : (got : Got Attr) → attribute true ts ≡ got → attribute true ts ≡ None
    by None e = e
    by (Some (attr, rest)) e =
        let read : needless (attribute true) 0 ts ≡ Some ((attr, 0), rest) = rw e refl in
        let s = (attrs_exact true).sound 0 ts attr 0 rest (lexed_in_text ts l) read in
        absurd (none attr s.0 s.3)

pub no_attr_read : (ts left : Tokens) (none : ReadNone) → none ≡ NoReading → AreLexed ts → IsRead AttrFront ts (Err none) left
    → (attribute true ts ≡ None) × (left ≡ ts)
no_attr_read ts left NoReading e l read = (no_attr ts l read.1, read.0)
no_attr_read ts left NoMemory e l read = absurd (cc)

-- ---- the token at which the run ends

pub none_ahead : (ts : List Token) (o : Option (Bor Token)) → option_copied o ≡ slice_get ts 0 → o ≡ None → ts ≡ []
none_ahead [] o e h = refl
none_ahead (t ∷ ts) None e h = absurd (cc)
none_ahead (t ∷ ts) (Some b) e h = absurd (cc)

pub one_ahead : (ts : List Token) (o : Option (Bor Token)) (b : Bor Token) → option_copied o ≡ slice_get ts 0 → o ≡ Some b
    → (rest : List Token) × (ts ≡ b.now ∷ rest)
one_ahead ts None b e h = absurd (cc)
one_ahead [] (Some a) b e h = absurd (cc)
one_ahead (t ∷ ts) (Some a) b e h = let same : t ≡ b.now = cc in (ts, rw same refl)
