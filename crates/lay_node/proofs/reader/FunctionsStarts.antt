-- What a pattern begins with, where a parameter may begin: no attribute, no `...`, and no receiver.
use Rattle.std.proofs.Common.{◌≡◌, ℕ, Bool, true, false, not, ◌&&◌, [], ◌∷◌, ◌⊎◌, codes, Some, refl, sym, ap, subst, List, inl, inr, map, ◌||◌, ◌∙◌}
use Rattle.std.specs.Str.{bytes_eq}
use Rattle.std.proofs.lemmas.Bool.{and_parts, cases_Bool, false_from_ne_true}
use Rattle.lay_piece.specs.Forms.{opening}
use Rattle.lay_piece.specs.Word.{class_of}
use Rattle.lay_piece.specs.declared.kind.Delim.{Delim}
use Rattle.lay_piece.specs.declared.kind.Kind.TheVariants.{Doc, Ident, Lifetime, Opener, Punct, RawIdent}
use Rattle.lay_piece.specs.declared.kind.Kind.{Kind}
use Rattle.lay_token.proofs.Deciding.{bytes_same}
use Rattle.lay_token.specs.Lexes.{is_punct}
use Rattle.lay_token.specs.Operators.{is_op}
use Rattle.lay_form.specs.Form.{Blank, Done, Form, Operator, Part, Piece, keyword, punct}
use Rattle.lay_form.specs.Notation.{when}
use Rattle.lay_form.specs.Spelled.{IsOne, IsOperator, Spells}
use Rattle.lay_node.specs.Ahead.{Tokens, first, is_ident, is_keyword, is_lifetime, is_lifetime_kind, is_mark, tail}
use Rattle.lay_node.specs.Begins.{OfPath, lead_at}
use Rattle.lay_node.specs.Words.{colons, is_literal, is_name, is_number, is_path_word, is_plain, leaf_of}
use Rattle.lay_node.specs.nodes.Call.{about_call}
use Rattle.lay_node.specs.nodes.Facts.{Facts}
use Rattle.lay_node.specs.nodes.Patterns.{dots, is_value, value_form}
use Rattle.lay_node.specs.nodes.SimplePath.{are_simple_words, is_simple_path, simple_words_form}
use Rattle.lay_node.specs.nodes.Types.{ArgsFacts, about_args, about_path, about_start, are_none, less, literal_form, lone_segment, lone_word, segments_form, segments_good, starts_plain}
use Rattle.lay_node.specs.reader.Attr.{begins_attr, is_doc_kind}
use Rattle.lay_node.specs.reader.Functions.{begins_own_self, begins_ref_self, ends_param, is_self_by_itself}
use Rattle.lay_node.specs.declared.patterns.PatValue.{PatValue}
use Rattle.lay_node.specs.declared.token.Literal.{Literal}
use Rattle.lay_node.specs.declared.token.Name.{Name}
use Rattle.lay_node.specs.declared.token.Word.{Word}
use Rattle.lay_node.specs.declared.tokens.MacroCall.{MacroCall}
use Rattle.lay_node.specs.declared.types.Arg.TheViews as views
use Rattle.lay_node.specs.declared.types.Args.{Args}
use Rattle.lay_node.specs.declared.types.Path.{Path}
use Rattle.lay_node.specs.declared.types.PathStart.TheVariants as start
use Rattle.lay_node.specs.declared.types.PathStart.{PathStart}
use Rattle.lay_node.specs.declared.types.PathStyle.TheVariants.{Code}
use Rattle.lay_node.proofs.Fronts.{keyword_one, one_front, one_no_op, other_op}
use Rattle.lay_node.proofs.Parts.{before_blank, bit_alone, leaf_parts, part_alone, piece_bit, word_kind}
use Rattle.lay_node.proofs.nodes.TypesLaws.{ArgsView, IsAngle, IsGlobal, IsLocal, IsNone, IsQualified, IsRound, PathStartView, about_segment, args_angle_is, args_none_is, args_round_is, args_view, start_global_is, start_local_is, start_qualified_is, start_view}
use Rattle.lay_node.proofs.reader.Call.{bang_operator}
use Rattle.lay_node.proofs.reader.PatternsFronts.{path_led}
use Rattle.lay_node.proofs.reader.TypesBegins.{call_begins, path_begins, path_goods, path_parts}
use Rattle.lay_node.proofs.reader.TypesComplete.{name_is_word}
use Rattle.lay_node.proofs.reader.TypesCompleteParts.{one_alone}
use Rattle.lay_node.proofs.reader.TypesFronts.{lead_no_attr, lead_no_dots, lead_no_keyword, lead_no_lifetime, no_other_op, op_first, word_lead}

-- ---- what follows a `self` that is no receiver

pub record GoesOn (ts : Tokens) : Type 0 where
  pub ends : ends_param ts ≡ false
  pub colon : is_op (codes ":") ts ≡ false

pub op_goes_on : (c : ℕ) (cs : List ℕ) → ((more : List ℕ) → bytes_eq (c ∷ more) (codes ",") ≡ false) → bytes_eq (c ∷ cs) (codes ":") ≡ false
    → (ts : Tokens) → is_op (c ∷ cs) ts ≡ true → GoesOn ts
op_goes_on c cs comma colon ts h =
    let f = op_first c cs ts h in
    record { ends = rw (f.3, comma f.2) refl; colon = other_op (c ∷ cs) (codes ":") colon ts h }

colons_go_on : (ts : Tokens) → is_op (codes "::") ts ≡ true → GoesOn ts
colons_go_on = op_goes_on 58 (codes ":") (λ more. refl) refl

pub opener_goes_on : (d : Delim) (ts rest : Tokens) → IsOne (Opener d) (opening d ∷ []) ts rest → GoesOn ts
opener_goes_on d ts rest o = record {
  ends = rw (one_front (Opener d) (opening d ∷ []) ts rest o).1 refl;
  colon = one_no_op (codes ":") (Opener d) (opening d ∷ []) ts rest refl o;
}

self_by : (ts : Tokens) → (first (is_keyword (codes "self")) ts ≡ true → GoesOn (tail ts)) → is_self_by_itself ts ≡ false
self_by ts go = by (first (is_keyword (codes "self")) ts) refl
  where
    by : (b : Bool) → first (is_keyword (codes "self")) ts ≡ b → is_self_by_itself ts ≡ false
    by true h = let g = go h in rw (h, g.ends, g.colon) refl
    by false h = rw h refl

-- A word that is `self` is so in writing.
word_self : (raw : Bool) (text : List ℕ) (ts rest : Tokens) → IsOne (word_kind raw) text ts rest → first (is_keyword (codes "self")) ts ≡ true
    → (raw ≡ false) × (text ≡ codes "self") × (tail ts ≡ rest)
word_self true text ts rest o h =
    let n : first (is_keyword (codes "self")) ts ≡ false = rw (one_front RawIdent text ts rest o).1 refl in absurd (cc)
word_self false text [] rest o h = absurd o
word_self false text (t ∷ ts) rest o h = let k = keyword_one (codes "self") (t ∷ ts) h in (refl, sym o.1 ∙ k.1, o.2)

-- ---- how a pattern begins

pub record PatStart (ts : Tokens) : Type 0 where
  pub attr : begins_attr false ts ≡ false
  pub dots : is_op (codes "...") ts ≡ false
  pub lifetime : first is_lifetime ts ≡ false
  pub self : is_self_by_itself ts ≡ false
  pub ref : begins_ref_self ts ≡ false
  pub own : begins_own_self ts ≡ false

-- where neither `&` nor `mut` stands
pub plain_start : (ts : Tokens) → begins_attr false ts ≡ false → is_op (codes "...") ts ≡ false → first is_lifetime ts ≡ false
    → is_self_by_itself ts ≡ false → first (is_mark (codes "&")) ts ≡ false → first (is_keyword (codes "mut")) ts ≡ false → PatStart ts
plain_start ts attr dots lifetime self mark word = record {
  attr = attr;
  dots = dots;
  lifetime = lifetime;
  self = self;
  ref = rw mark refl;
  own = rw word self;
}

path_start : (ts : Tokens) → lead_at ts ≡ Some OfPath → is_self_by_itself ts ≡ false → PatStart ts
path_start ts h self =
    plain_start ts (lead_no_attr ts OfPath h) (lead_no_dots ts OfPath h) (lead_no_lifetime ts OfPath h) self (path_led ts h).ref
    (lead_no_keyword (codes "mut") refl ts OfPath h)

-- a token that is no punctuation, and no such word
pub kind_start : (k : Kind) (text : List ℕ) → is_punct k ≡ false → is_doc_kind false k ≡ false → is_lifetime_kind k ≡ false
    → (is_ident k && bytes_eq text (codes "self")) ≡ false → (is_ident k && bytes_eq text (codes "mut")) ≡ false
    → (ts rest : Tokens) → IsOne k text ts rest → PatStart ts
kind_start k text punct doc life self mut ts rest o =
    let f = (one_front k text ts rest o).1 in
    let word : first (is_keyword (codes "self")) ts ≡ false = rw (f, self) refl in
    plain_start ts (rw (f, doc, punct) refl) (one_no_op (codes "...") k text ts rest punct o) (rw (f, life) refl) (rw word refl)
    (rw (f, punct) refl) (rw (f, mut) refl)

-- ---- values

literal_start : (k : Kind) (text : List ℕ) → is_literal k text ≡ true → (ts rest : Tokens) → IsOne k text ts rest → PatStart ts
literal_start k text g ts rest o = let n = by k g in kind_start k text n.0 n.1 n.2 n.3 n.4 ts rest o
  where
    word : (other : List ℕ) → bytes_eq (codes "true") other ≡ false → bytes_eq (codes "false") other ≡ false
        → (bytes_eq text (codes "true") || bytes_eq text (codes "false")) ≡ true → bytes_eq text other ≡ false
    word other on off h = elim (cases_Bool (bytes_eq text (codes "true"))) [
      | inl a ↦ rw (bytes_same text (codes "true") a) on
      | inr a ↦ let b : bytes_eq text (codes "false") ≡ true = sym (ap (λ c. c || bytes_eq text (codes "false")) a) ∙ h in
          rw (bytes_same text (codes "false") b) off
    ]

    by : (k : Kind) → is_literal k text ≡ true
        → (is_punct k ≡ false) × (is_doc_kind false k ≡ false) × (is_lifetime_kind k ≡ false) × ((is_ident k && bytes_eq text (codes "self")) ≡ false)
        × ((is_ident k && bytes_eq text (codes "mut")) ≡ false)
    by Ident h = (refl, refl, refl, word (codes "self") refl refl h, word (codes "mut") refl refl h)
    by Punct h = absurd (cc)
    by (Doc inner block) h = absurd (cc)
    by Lifetime h = absurd (cc)
    by _ h = (refl, refl, refl, refl, refl)

pub value_start : (v : PatValue) (depth : ℕ) (ts rest : Tokens) → Spells (value_form v) depth ts rest → is_value v ≡ true → PatStart ts
value_start v depth ts rest s g = at v.negative v.literal s g
  where
    at : (negative : Bool) (l : Literal) → Spells (when negative (punct 45 ∷ []) (literal_form l Done)) depth ts rest
        → (is_literal l.kind l.text && (not negative || is_number l.kind)) ≡ true → PatStart ts
    at false l t h =
        literal_start l.kind l.text (and_parts (is_literal l.kind l.text) true h).0 ts rest (one_alone l.kind l.text ts t.0 rest t.1 t.2)
    at true l t h =
        let o : IsOne Punct (codes "-") ts t.0 = bit_alone (punct 45) ts t.0 t.1 in
        let f = (one_front Punct (codes "-") ts t.0 o).1 in
        plain_start ts (rw f refl) (no_other_op 46 (codes "..") 45 ts t.0 refl o) (rw f refl) (rw f refl) (rw f refl) (rw f refl)

-- ---- `..` and `..=`

pub dots_start : (inclusive : Bool) (f : Form) (depth : ℕ) (ts rest : Tokens) → Spells (Piece (dots inclusive) f) depth ts rest → PatStart ts
dots_start inclusive f depth ts rest s = by inclusive s
  where
    at : (cs : List ℕ) → bytes_eq (46 ∷ cs) (codes "...") ≡ false → is_op (46 ∷ cs) ts ≡ true → PatStart ts
    at cs other h =
        let e = (op_first 46 cs ts h).3 in
        plain_start ts (rw e refl) (other_op (46 ∷ cs) (codes "...") other ts h) (rw e refl) (rw e refl) (rw e refl) (rw e refl)

    by : (inclusive : Bool) → Spells (Piece (dots inclusive) f) depth ts rest → PatStart ts
    by true t = let o : IsOperator (codes "..=") ts t.0 = bit_alone (Operator (codes "..=")) ts t.0 t.1 in at (codes ".=") refl o.0
    by false t = let o : IsOperator (codes "..") ts t.0 = bit_alone (Operator (codes "..")) ts t.0 t.1 in at (codes ".") refl o.0

-- ---- names

name_no_word : (word : List ℕ) → is_plain (class_of word) ≡ false → (raw : Bool) (text : List ℕ) (ts rest : Tokens)
    → IsOne (word_kind raw) text ts rest → is_name raw text ≡ true → first (is_keyword word) ts ≡ false
name_no_word word other true text ts rest o g = rw (one_front RawIdent text ts rest o).1 refl
name_no_word word other false text ts rest o g =
    let n : bytes_eq text word ≡ false =
    false_from_ne_true (bytes_eq text word) (λ e. let same = ap (λ w. is_plain (class_of w)) (bytes_same text word e) in absurd (cc)) in
    rw ((one_front Ident text ts rest o).1, n) refl

name_start : (raw : Bool) (text : List ℕ) (ts rest : Tokens) → IsOne (word_kind raw) text ts rest → is_name raw text ≡ true → PatStart ts
name_start raw text ts rest o g =
    let n : is_self_by_itself ts ≡ false = rw (name_no_word (codes "self") refl raw text ts rest o g) refl in
    path_start ts (word_lead raw text ts rest o (name_is_word raw text g)) n

pub bind_start : (by_ref mutable : Bool) (n : Name) (f : Form) (depth : ℕ) (ts rest : Tokens)
    → Spells (when by_ref (keyword (codes "ref") ∷ Blank ∷ []) (when mutable (keyword (codes "mut") ∷ Blank ∷ []) (leaf_of n.raw n.text f))) depth ts rest
    → is_name n.raw n.text ≡ true → PatStart ts
bind_start true mutable n f depth ts rest s g =
    kind_start Ident (codes "ref") refl refl refl refl refl ts s.0 (before_blank (keyword (codes "ref")) ts s.0 s.1)
bind_start false true n f depth ts rest s g =
    let o : IsOne Ident (codes "mut") ts s.0 = before_blank (keyword (codes "mut")) ts s.0 s.1 in
    let e = (one_front Ident (codes "mut") ts s.0 o).1 in
    let l = leaf_parts n.raw n.text f depth s.0 rest s.2 in
    let no : first (is_keyword (codes "self")) s.0 ≡ false = name_no_word (codes "self") refl n.raw n.text s.0 l.0 l.1 g in
    record {
      attr = rw e refl;
      dots = one_no_op (codes "...") Ident (codes "mut") ts s.0 refl o;
      lifetime = rw e refl;
      self = rw e refl;
      ref = rw e refl;
      own = rw (e, no) refl;
    }
bind_start false false n f depth ts rest s g =
    let l = leaf_parts n.raw n.text f depth ts rest s in name_start n.raw n.text ts l.0 l.1 g

-- ---- paths

-- generic arguments in code
args_go_on : (a : Args) (depth : ℕ) (ts rest : Tokens) → Spells (about_args a).code.form depth ts rest → (about_args a).code.good ≡ true
    → ((are_none (views.out-Args a) ≡ true) × (ts ≡ rest)) ⊎ GoesOn ts
args_go_on a depth ts rest s g = by a (args_view a) s g
  where
    by : (a : Args) → ArgsView a → Spells (about_args a).code.form depth ts rest → (about_args a).code.good ≡ true
        → ((are_none (views.out-Args a) ≡ true) × (ts ≡ rest)) ⊎ GoesOn ts
    by _ IsNone t h = inl (ap are_none views.outs-None, subst (λ (F : ArgsFacts). Spells F.code.form depth ts rest) args_none_is t)
    by _ (IsAngle xs) t h =
        let u = subst (λ (F : ArgsFacts). Spells F.code.form depth ts rest) (args_angle_is xs) t in
        let o : IsOperator (codes "::") ts u.0 = bit_alone (Operator (codes "::")) ts u.0 u.1 in
        inr (colons_go_on ts o.0)
    by _ (IsRound xs y) t h = let e = sym (ap (λ (F : ArgsFacts). F.code.good) (args_round_is xs y)) ∙ h in absurd (cc)

abbrev pub the_self : Word
the_self = record { raw = false; text = codes "self" }

-- After a `self` that is all of a path stands what goes on with it.
path_self : (p : Path) (depth : ℕ) (ts rest : Tokens) → Spells (about_path p Code).form depth ts rest → (about_path p Code).good ≡ true
    → (lone_word p ≡ Some the_self → GoesOn rest) → is_self_by_itself ts ≡ false
path_self p depth ts rest s g go =
    let t = path_parts Code p depth ts rest s in
    let goods = path_goods Code p g in
    self_by ts (λ h. by p.start (start_view p.start) p.segments t.0 t.1 t.2 goods.1 go h)
  where
    at_word : (w : Word) (f : Form) (mid : Tokens) → Spells (leaf_of w.raw w.text f) depth mid rest → first (is_keyword (codes "self")) mid ≡ true
        → (behind : Tokens) × (w ≡ the_self) × (tail mid ≡ behind) × Spells f depth behind rest
    at_word w f mid t h =
        let l = leaf_parts w.raw w.text f depth mid rest t in
        let i = word_self w.raw w.text mid l.0 l.1 h in
        (l.0, ap (λ r. record { raw = r; text = w.text }) i.0 ∙ ap (λ x. record { raw = false; text = x }) i.1, i.2, l.2)

    segments : (ss : List (Word × Args)) (mid : Tokens) → Spells (segments_form Code (map about_segment ss)) depth mid rest
        → segments_good Code (map about_segment ss) ≡ true → (lone_segment ss ≡ Some the_self → GoesOn rest)
        → first (is_keyword (codes "self")) mid ≡ true → GoesOn (tail mid)
    segments [] mid t h lone k = absurd (cc)
    segments (w ∷ []) mid t h lone k =
        let form : Form = (about_args w.1).code.form in
        let i = at_word w.0 (Part form Done) mid t k in
        let good = (and_parts (is_path_word w.0.raw w.0.text) (about_args w.1).code.good h).1 in
        elim (args_go_on w.1 depth i.0 rest (part_alone form depth i.0 rest i.3) good) [
          | inl e ↦
              let is : lone_segment (w ∷ []) ≡ Some the_self = rw (e.0, i.1) refl in
              subst GoesOn (sym (i.2 ∙ e.1)) (lone is)
          | inr e ↦ subst GoesOn (sym i.2) e
        ]
    segments (w ∷ v ∷ more) mid t h lone k =
        let args = (about_args w.1).code in
        let next : Form = Piece colons (segments_form Code (map about_segment (v ∷ more))) in
        let i = at_word w.0 (Part args.form next) mid t k in
        let part = i.3 in
        let behind = part.2 in
        let o : IsOperator (codes "::") part.0 behind.0 = bit_alone (Operator (codes "::")) part.0 behind.0 behind.1 in
        let goods =
        (and_parts (is_path_word w.0.raw w.0.text && args.good && not (about_args w.1).returns) (segments_good Code (map about_segment (v ∷ more))) h).0 in
        let goods2 = (and_parts (is_path_word w.0.raw w.0.text && args.good) (not (about_args w.1).returns) goods).0 in
        elim (args_go_on w.1 depth i.0 part.0 part.1 (and_parts (is_path_word w.0.raw w.0.text) args.good goods2).1) [
          | inl e ↦ subst GoesOn (sym (i.2 ∙ e.1)) (colons_go_on part.0 o.0)
          | inr e ↦ subst GoesOn (sym i.2) e
        ]

    by : (b : PathStart) → PathStartView b → (ss : List (Word × Args)) (mid : Tokens) → Spells (about_start b).form depth ts mid
        → Spells (segments_form Code (map about_segment ss)) depth mid rest → segments_good Code (map about_segment ss) ≡ true
        → (lone_word (record { start = b; segments = ss }) ≡ Some the_self → GoesOn rest)
        → first (is_keyword (codes "self")) ts ≡ true → GoesOn (tail ts)
    by _ IsLocal ss mid t u h lone k =
        let e : ts ≡ mid = subst (λ (F : Facts). Spells F.form depth ts mid) start_local_is t in
        let local : starts_plain (views.out-PathStart start.Local) ≡ true = ap starts_plain views.outs-Local in
        let go_on : lone_segment ss ≡ Some the_self → GoesOn rest = λ x. lone (rw local x) in
        subst (λ us. GoesOn (tail us)) (sym e) (segments ss mid u h go_on (subst (λ us. first (is_keyword (codes "self")) us ≡ true) e k))
    by _ IsGlobal ss mid t u h lone k =
        let o : IsOperator (codes "::") ts mid =
        piece_bit (Operator (codes "::")) depth ts mid (subst (λ (F : Facts). Spells F.form depth ts mid) start_global_is t) in
        let n : first (is_keyword (codes "self")) ts ≡ false = rw (op_first 58 (codes ":") ts o.0).3 refl in
        absurd (cc)
    by _ (IsQualified x of) ss mid t u h lone k =
        let v = subst (λ (F : Facts). Spells F.form depth ts mid) (start_qualified_is x of) t in
        let o : IsOne Punct (codes "<") ts v.0 = bit_alone less ts v.0 v.1 in
        let n : first (is_keyword (codes "self")) ts ≡ false = rw (one_front Punct (codes "<") ts v.0 o).1 refl in
        absurd (cc)

-- a path with more after it, or that is no `self` alone
pub path_starts : (p : Path) (depth : ℕ) (ts rest : Tokens) → Spells (about_path p Code).form depth ts rest → (about_path p Code).good ≡ true
    → (lone_word p ≡ Some the_self → GoesOn rest) → PatStart ts
path_starts p depth ts rest s g go = path_start ts (path_begins Code p depth ts rest s g).lead (path_self p depth ts rest s g go)

pub call_start : (c : MacroCall) (depth : ℕ) (ts rest : Tokens) → Spells (about_call c).form depth ts rest → (about_call c).good ≡ true → PatStart ts
call_start c depth ts rest s g =
    path_start ts (call_begins c depth ts rest s g).lead (self_by ts (at c.path.global c.path.words (and_parts (is_simple_path c.path) _ g).0 s.1))
  where
    bang_behind : GoesOn s.0
    bang_behind = op_goes_on 33 [] (λ more. refl) refl s.0 (bang_operator c.tokens.delim s.0 s.2.0 s.2.1).0

    at : (leads : Bool) (words : List Word) → are_simple_words words ≡ true
        → Spells (when leads colons (simple_words_form words Done)) depth ts s.0 → first (is_keyword (codes "self")) ts ≡ true → GoesOn (tail ts)
    at leads [] h t k = absurd (cc)
    at true (one ∷ more) h t k =
        let o : IsOperator (codes "::") ts t.0 = bit_alone (Operator (codes "::")) ts t.0 t.1 in
        let n : first (is_keyword (codes "self")) ts ≡ false = rw (op_first 58 (codes ":") ts o.0).3 refl in
        absurd (cc)
    at false (one ∷ []) h t k =
        let l = leaf_parts one.raw one.text Done depth ts s.0 t in
        let i = word_self one.raw one.text ts l.0 l.1 k in
        subst GoesOn (sym (i.2 ∙ l.2)) bang_behind
    at false (one ∷ two ∷ more) h t k =
        let l = leaf_parts one.raw one.text (Piece colons (simple_words_form (two ∷ more) Done)) depth ts s.0 t in
        let i = word_self one.raw one.text ts l.0 l.1 k in
        let b = l.2 in
        let o : IsOperator (codes "::") l.0 b.0 = bit_alone (Operator (codes "::")) l.0 b.0 b.1 in
        subst GoesOn (sym i.2) (colons_go_on l.0 o.0)
