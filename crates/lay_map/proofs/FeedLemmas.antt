-- What is fed of a form finds the units of its words, where its layout tells them.
use Rattle.std.proofs.Common.{◌≡◌, ℕ, Bool, true, false, cond, not, ◌&&◌, ◌||◌, List, [], ◌∷◌, ◌++◌, codes, refl, sym, ap, ap₂, ◌∙◌, subst, append_assoc, append-nil, pos, Option, Some, None}
use Rattle.std.specs.Prelude.{◌==◌}
use Rattle.std.specs.Str.{bytes_eq, is_utf8}
use Rattle.std.proofs.lemmas.Bool.{and_parts, eqb-true, not-true}
use Rattle.lay_piece.specs.Characters as char
use Rattle.lay_piece.specs.Chars.{begins}
use Rattle.lay_piece.specs.Docs.{doc_form}
use Rattle.lay_piece.specs.Forms.{doc_opening}
use Rattle.lay_piece.specs.declared.kind.Kind.{Kind}
use Rattle.lay_piece.specs.declared.kind.Kind.TheVariants.{RawIdent, Punct, Doc}
use Rattle.lay_layout.specs.declared.layout.Break.{Break}
use Rattle.lay_layout.specs.declared.layout.Tok.{Tok}
use Rattle.lay_layout.specs.declared.layout.Tok.TheVariants as tok
use Rattle.lay_token.specs.Lexes.{is_punct}
use Rattle.lay_token.proofs.Deciding.{punct_is, bytes_same}
use Rattle.lay_form.specs.Form.{Bit, Blank, Fixed, Operator, Semicolons, Bare, Unseen, Marked, Behind, Nothing, ArmComma, Form, Done, Piece, Leaf, Listed, ListedDoc, Brk, LastComma, Group, Part, Deeper, Optional, Docs, Body}
use Rattle.lay_form.specs.Layout.{text_of_bits, is_block, token_ends_in_point, bits_end_in_point, keeps_point, space_ends_in_point, point_behind, ends_behind_point, led, break_of, comma_break, opening_break, closing_break}
use Rattle.lay_form.specs.Pieces.{is_text_of, are_pieces}
use Rattle.lay_form.specs.Stream.{feed_text, feed_doc, feed_token, feed_behind, fed}
use Rattle.lay_map.specs.spelling.Units.{Word, Told, Comment, Documented, bits_words, words}
use Rattle.lay_map.specs.Flow.{Wait, Still, Said, Laid, InLine, Flow, Lost, At, is_open, is_none, is_plain, is_proper, are_proper, are_comma, text_flow, words_flow, piece_flow, doc_flow, leaf_flow, comma_flow, optional_flow, behind_flow, break_flow, group_flow, entered, left, flow}
use Rattle.lay_map.specs.Marking.{State, code_words, comma_settled, documented, fed_all, fed_one, is_free, opening_of, read, read_by, words_of}
use Rattle.lay_map.specs.declared.marking.Opening.{Opening}
use Rattle.lay_map.specs.declared.marking.Within.TheVariants.{Code, Line, Block}
use Rattle.lay_map.proofs.PieceLemmas.{leaf_proper, leaf_plain}
use Rattle.lay_map.proofs.PushLemmas.{Found, Leads, Reads, Walk, comment_leads, doc_behind, documented_leads, leads_from, leads_on, reads_bits, reads_word, state, still, walk_behind, word_leads}

-- ---- what waits

abbrev pub comma_word : Word
comma_word = Told Punct (codes ",")

-- the word that waits
abbrev pub waiting : Wait → List Word
waiting Said = comma_word ∷ []
waiting _ = []

abbrev pub waits : Wait → Walk → Bool → List Bool → State
waits Still w arrow outer = still w arrow outer
waits Said w arrow outer = state w true Code arrow outer
waits Laid w arrow outer = state w true Code arrow outer
waits InLine w arrow outer = state w false Line arrow outer

-- Feeding these tokens leads on, by which the words are found.
pub record Feeds (w : Walk) (wait : Wait) (arrow : Bool) (outer : List Bool) (F : List Tok → List Tok) (xs ws : List Word) (then_wait : Wait) (then_arrow : Bool) : Type 0 where
  pub end : Walk
  pub runs : (more : List Tok) → fed_all (F more) (waits wait w arrow outer) ≡ fed_all more (waits then_wait end then_arrow outer)
  pub leads : Leads w end (waiting wait ++ (xs ++ ws)) (waiting then_wait ++ ws)

feeds_none : (w : Walk) (wait : Wait) (arrow : Bool) (outer : List Bool) (ws : List Word) → Found w (waiting wait ++ ws)
    → Feeds w wait arrow outer (λ more. more) [] ws wait arrow
feeds_none w wait arrow outer ws h = record { end = w; runs = λ more. refl; leads = leads_from w (waiting wait ++ ws) h }

feeds_two : (w : Walk) (wait next last : Wait) (a b c : Bool) (outer : List Bool) (F G : List Tok → List Tok) (xs ys ws : List Word)
    → (k : Feeds w wait a outer F xs (ys ++ ws) next b) → Feeds k.end next b outer G ys ws last c
    → Feeds w wait a outer (λ more. F (G more)) (xs ++ ys) ws last c
feeds_two w wait next last a b c outer F G xs ys ws k l = record {
  end = l.end;
  runs = λ more. k.runs (G more) ∙ l.runs more;
  leads = subst (λ (x : List Word). Leads w l.end (waiting wait ++ x) (waiting last ++ ws)) (sym (append_assoc xs ys ws))
      (leads_on w k.end l.end (waiting wait ++ (xs ++ (ys ++ ws))) (waiting next ++ (ys ++ ws)) (waiting last ++ ws) k.leads l.leads);
}

-- ---- the comma

-- The `,` that waits, if one does, is settled.
record Settles (w : Walk) (wait : Wait) (arrow : Bool) (outer : List Bool) (ws : List Word) : Type 0 where
  pub end : Walk
  pub settles : comma_settled (waits wait w arrow outer) ≡ still end arrow outer
  pub leads : Leads w end (waiting wait ++ ws) ws

settle : (w : Walk) (wait : Wait) (arrow : Bool) (outer : List Bool) (ws : List Word) → is_open wait ≡ true → Found w (waiting wait ++ ws)
    → Settles w wait arrow outer ws
settle w Still arrow outer ws k h = record { end = w; settles = refl; leads = leads_from w ws h }
settle w Said arrow outer ws k h =
    record { end = walk_behind true char.comma w; settles = refl; leads = (word_leads w Punct char.comma [] ws refl refl h).leads }
settle w Laid arrow outer ws k h = absurd (cc k)
settle w InLine arrow outer ws k h = absurd (cc k)

-- Where a text may come it is read after the comma.
text_read : (wait : Wait) (w : Walk) (arrow : Bool) (outer : List Bool) (text : List ℕ) → is_open wait ≡ true
    → fed_one (tok.Text text) (waits wait w arrow outer) ≡ read text (comma_settled (waits wait w arrow outer))
text_read Still w arrow outer text k = refl
text_read Said w arrow outer text k = refl
text_read Laid w arrow outer text k = absurd (cc k)
text_read InLine w arrow outer text k = absurd (cc k)

-- a text that does this to a state in which nothing waits
text_feeds : (w : Walk) (wait next : Wait) (a b : Bool) (outer : List Bool) (text : List ℕ) (xs ws : List Word) → is_open wait ≡ true
    → Found w (waiting wait ++ (xs ++ ws))
    → ((v : Walk) → Found v (xs ++ ws) → (end : Walk) × (read text (still v a outer) ≡ waits next end b outer) × Leads v end (xs ++ ws) (waiting next ++ ws))
    → Feeds w wait a outer (λ more. tok.Text text ∷ more) xs ws next b
text_feeds w wait next a b outer text xs ws k h one =
    let s = settle w wait a outer (xs ++ ws) k h in
    let t = one s.end s.leads.found in
    record {
      end = t.0;
      runs = λ more. ap (fed_all more) (text_read wait w a outer text k ∙ ap (read text) s.settles ∙ t.1);
      leads = leads_on w s.end t.0 (waiting wait ++ (xs ++ ws)) (xs ++ ws) (waiting next ++ ws) s.leads t.2;
    }

-- ---- plain texts

plain_read : (text : List ℕ) (s : State) → is_plain text ≡ true → read text s
    ≡ cond (bytes_eq text (codes ",")) (record s { comma = true }) (code_words text s)
plain_read text s h =
    let p = and_parts (is_none (opening_of text)) (not (bytes_eq text (codes "r#"))) h in
    ap (λ (x : Option Opening). read_by x text s) (none (opening_of text) p.0)
    ∙ ap (λ (b : Bool). cond b s (cond (bytes_eq text (codes ",")) (record s { comma = true }) (code_words text s)))
    (not-true (bytes_eq text (codes "r#")) p.1)
  where
    none : (x : Option Opening) → is_none x ≡ true → x ≡ None
    none None h = refl
    none (Some o) h = absurd (cc h)

words_read : (v : Walk) (a : Bool) (outer : List Bool) (text : List ℕ) (xs ws : List Word) → (r : Reads v a outer text xs ws)
    → code_words text (still v a outer) ≡ still r.end (bytes_eq text (codes " => ") || a) outer
words_read v a outer text xs ws r =
    let e : words_of 0 text (still v a outer) ≡ still r.end a outer =
    ap (λ (x : List ℕ). words_of 0 x (still v a outer)) (sym (append-nil text)) ∙ r.reads [] in
    ap (λ (t : State). record t { arrow = bytes_eq text (codes " => ") || t.arrow }) e

comma_only : (xs : List Word) → are_comma xs ≡ true → xs ≡ comma_word ∷ []
comma_only [] h = absurd (cc h)
comma_only (Told kind text ∷ []) h =
    let p = and_parts (is_punct kind) (bytes_eq text (codes ",")) h in
    ap₂ (λ (x : Kind) (y : List ℕ). Told x y ∷ []) (punct_is kind p.0) (bytes_same text (codes ",") p.1)
comma_only (Comment inner text ∷ []) h = absurd (cc h)
comma_only (Documented inner text ∷ []) h = absurd (cc h)
comma_only (Told kind text ∷ v ∷ ws) h = absurd (cc h)
comma_only (Comment inner text ∷ v ∷ ws) h = absurd (cc h)
comma_only (Documented inner text ∷ v ∷ ws) h = absurd (cc h)

-- A text of words: the flow is told by the text that it stands for, before which a blank may stand.
plain_feeds : (w : Walk) (wait next : Wait) (a b : Bool) (outer : List Bool) (text : List ℕ) (xs ws : List Word)
    → is_plain text ≡ true → ((v : Walk) → Found v (xs ++ ws) → Reads v a outer text xs ws)
    → text_flow xs text wait a ≡ At next b → Found w (waiting wait ++ (xs ++ ws))
    → Feeds w wait a outer (λ more. tok.Text text ∷ more) xs ws next b
plain_feeds w wait next a b outer text xs ws plain reads k h = by_open (is_open wait) refl k
  where
    by_comma : is_open wait ≡ true → (c : Bool) → bytes_eq text (codes ",") ≡ c
        → cond c (cond (are_comma xs) (At Said a) Lost) (At Still (bytes_eq text (codes " => ") || a)) ≡ At next b → Feeds w wait a outer (λ more. tok.Text text ∷ more) xs ws next b
    by_comma o true c e = by_words (are_comma xs) refl e
      where
        by_words : (d : Bool) → are_comma xs ≡ d → cond d (At Said a) Lost ≡ At next b → Feeds w wait a outer (λ more. tok.Text text ∷ more) xs ws next b
        by_words true d f =
            let n : Said ≡ next = cc in
            let m : a ≡ b = cc in
            subst (λ (x : Wait). Feeds w wait a outer (λ more. tok.Text text ∷ more) xs ws x b) n
            (subst (λ (x : Bool). Feeds w wait a outer (λ more. tok.Text text ∷ more) xs ws Said x) m
            (text_feeds w wait Said a a outer text xs ws o h
            (λ v g. (
              v,
              plain_read text (still v a outer) plain
                  ∙ ap (λ (x : Bool). cond x (state v true Code a outer) (code_words text (still v a outer))) c,
              subst (λ (x : List Word). Leads v v (x ++ ws) (comma_word ∷ ws)) (sym (comma_only xs d))
                  (leads_from v (comma_word ∷ ws) (subst (λ (x : List Word). Found v (x ++ ws)) (comma_only xs d) g)),
            ))))
        by_words false d f = absurd (cc f)
    by_comma o false c e =
        let n : Still ≡ next = cc in
        let m : (bytes_eq text (codes " => ") || a) ≡ b = cc in
        subst (λ (x : Wait). Feeds w wait a outer (λ more. tok.Text text ∷ more) xs ws x b) n
        (subst (λ (x : Bool). Feeds w wait a outer (λ more. tok.Text text ∷ more) xs ws Still x) m
        (text_feeds w wait Still a (bytes_eq text (codes " => ") || a) outer text xs ws o h
        (λ v g. let r = reads v g in (
          r.end,
          plain_read text (still v a outer) plain
              ∙ ap (λ (x : Bool). cond x (state v true Code a outer) (code_words text (still v a outer))) c
              ∙ words_read v a outer text xs ws r,
          r.leads,
        ))))

    by_open : (o : Bool) → is_open wait ≡ o
        → cond o (cond (bytes_eq text (codes ",")) (cond (are_comma xs) (At Said a) Lost) (At Still (bytes_eq text (codes " => ") || a))) Lost ≡ At next b → Feeds w wait a outer (λ more. tok.Text text ∷ more) xs ws next b
    by_open true o e = by_comma o (bytes_eq text (codes ",")) refl e
    by_open false o e = absurd (cc e)

-- ---- pieces

-- The flow of a text is that of the text with a blank before it, where it begins with a point.
led_flow : (xs : List Word) (text : List ℕ) (w : Wait) (a : Bool) → begins (λ (c : ℕ). c == char.point) text ≡ true
    → words_flow xs text w a ≡ text_flow xs (char.blank ∷ text) w a
led_flow xs [] w a h = absurd (cc h)
led_flow xs (c ∷ cs) w a h =
    let e : c ≡ char.point = eqb-true c char.point h in
    ap (λ (x : ℕ). text_flow xs (x ∷ cs) w a) e
    ∙ sym (ap (λ (x : ℕ). text_flow xs (char.blank ∷ x ∷ cs) w a) e)

-- no text where no words are
no_text : (bits : List Bit) → are_proper (bits_words bits) ≡ true → text_of_bits bits ≡ [] → bits_words bits ≡ []
no_text [] k e = refl
no_text (Blank ∷ ys) k e = absurd (let no : ⊥ = cc in no)
no_text (Fixed kind [] ∷ ys) k e = absurd (cc k)
no_text (Fixed kind (c ∷ cs) ∷ ys) k e = absurd (let no : ⊥ = cc in no)
no_text (Operator [] ∷ ys) k e = no_text ys k e
no_text (Operator (c ∷ cs) ∷ ys) k e = absurd (let no : ⊥ = cc in no)
no_text (Semicolons ∷ ys) k e = no_text ys k e

-- a text of bits, xs it stands
bits_feed : (w : Walk) (wait next : Wait) (a b : Bool) (outer : List Bool) (bits : List Bit) (ws : List Word)
    → are_proper (bits_words bits) ≡ true → is_plain (text_of_bits bits) ≡ true
    → words_flow (bits_words bits) (text_of_bits bits) wait a ≡ At next b → Found w (waiting wait ++ (bits_words bits ++ ws))
    → Feeds w wait a outer (feed_text (text_of_bits bits)) (bits_words bits) ws next b
bits_feed w wait next a b outer bits ws proper plain k h = by (text_of_bits bits) refl
  where
    by : (text : List ℕ) → text_of_bits bits ≡ text → Feeds w wait a outer (feed_text text) (bits_words bits) ws next b
    by [] e =
        let q : At wait a ≡ At next b = sym (ap (λ (x : List ℕ). words_flow (bits_words bits) x wait a) e) ∙ k in
        let n : wait ≡ next = cc in
        let m : a ≡ b = cc in
        let z = no_text bits proper e in
        subst (λ (x : Wait). Feeds w wait a outer (λ more. more) (bits_words bits) ws x b) n
        (subst (λ (x : Bool). Feeds w wait a outer (λ more. more) (bits_words bits) ws wait x) m
        (subst (λ (x : List Word). Feeds w wait a outer (λ more. more) x ws wait a) (sym z)
        (feeds_none w wait a outer ws (subst (λ (x : List Word). Found w (waiting wait ++ (x ++ ws))) z h))))
    by (c ∷ cs) e =
        plain_feeds w wait next a b outer (c ∷ cs) (bits_words bits) ws (subst (λ (x : List ℕ). is_plain x ≡ true) e plain)
        (λ v g. subst (λ (x : List ℕ). Reads v a outer x (bits_words bits) ws) e (reads_bits v a outer bits ws proper g))
        (sym (ap (λ (x : List ℕ). words_flow (bits_words bits) x wait a) e) ∙ k) h

-- the same with a blank before it
blank_feed : (w : Walk) (wait next : Wait) (a b : Bool) (outer : List Bool) (bits : List Bit) (ws : List Word)
    → are_proper (bits_words bits) ≡ true → begins (λ (c : ℕ). c == char.point) (text_of_bits bits) ≡ true
    → words_flow (bits_words bits) (text_of_bits bits) wait a ≡ At next b → Found w (waiting wait ++ (bits_words bits ++ ws))
    → Feeds w wait a outer (feed_text (text_of_bits (Blank ∷ bits))) (bits_words bits) ws next b
blank_feed w wait next a b outer bits ws proper point k h =
    plain_feeds w wait next a b outer (char.blank ∷ text_of_bits bits) (bits_words bits) ws refl
    (λ v g. reads_bits v a outer (Blank ∷ bits) ws proper g)
    (sym (led_flow (bits_words bits) (text_of_bits bits) wait a point) ∙ k) h

piece_feeds : (w : Walk) (wait next : Wait) (a b point : Bool) (outer : List Bool) (bits : List Bit) (ws : List Word)
    → piece_flow bits (At wait a) ≡ At next b → Found w (waiting wait ++ (bits_words bits ++ ws))
    → Feeds w wait a outer (feed_text (text_of_bits (led point bits))) (bits_words bits) ws next b
piece_feeds w wait next a b point outer bits ws k h = by (are_proper (bits_words bits) && is_plain (text_of_bits bits)) refl k
  where
    by_point : are_proper (bits_words bits) ≡ true → is_plain (text_of_bits bits) ≡ true
        → words_flow (bits_words bits) (text_of_bits bits) wait a ≡ At next b
        → (d : Bool) → (begins (λ (c : ℕ). c == char.point) (text_of_bits bits) && point) ≡ d
        → Feeds w wait a outer (feed_text (text_of_bits (cond d (Blank ∷ bits) bits))) (bits_words bits) ws next b
    by_point proper plain e false d = bits_feed w wait next a b outer bits ws proper plain e h
    by_point proper plain e true d =
        blank_feed w wait next a b outer bits ws proper
        (and_parts (begins (λ (c : ℕ). c == char.point) (text_of_bits bits)) point d).0 e h

    by : (c : Bool) → (are_proper (bits_words bits) && is_plain (text_of_bits bits)) ≡ c
        → cond c (words_flow (bits_words bits) (text_of_bits bits) wait a) Lost ≡ At next b
        → Feeds w wait a outer (feed_text (text_of_bits (led point bits))) (bits_words bits) ws next b
    by true c e =
        let p = and_parts (are_proper (bits_words bits)) (is_plain (text_of_bits bits)) c in
        by_point p.0 p.1 e (begins (λ (c : ℕ). c == char.point) (text_of_bits bits) && point) refl
    by false c e = absurd (cc e)

-- a `,` that is in no unit
laid_feeds : (w : Walk) (wait next : Wait) (a b : Bool) (outer : List Bool) (ws : List Word) → comma_flow (At wait a) ≡ At next b
    → Found w (waiting wait ++ ws) → Feeds w wait a outer (λ more. tok.Text (codes ",") ∷ more) [] ws next b
laid_feeds w wait next a b outer ws k h = by (is_open wait) refl k
  where
    by : (o : Bool) → is_open wait ≡ o → cond o (At Laid a) Lost ≡ At next b
        → Feeds w wait a outer (λ more. tok.Text (codes ",") ∷ more) [] ws next b
    by true o e =
        let n : Laid ≡ next = cc in
        let m : a ≡ b = cc in
        subst (λ (x : Wait). Feeds w wait a outer (λ more. tok.Text (codes ",") ∷ more) [] ws x b) n
        (subst (λ (x : Bool). Feeds w wait a outer (λ more. tok.Text (codes ",") ∷ more) [] ws Laid x) m
        (text_feeds w wait Laid a a outer (codes ",") [] ws o h (λ v g. (v, refl, leads_from v ws g))))
    by false o e = absurd (cc e)

optional_feeds : (w : Walk) (wait next : Wait) (a b point : Bool) (outer : List Bool) (bits : List Bit) (ws : List Word)
    → optional_flow bits (At wait a) ≡ At next b → Found w (waiting wait ++ ws)
    → Feeds w wait a outer (feed_text (text_of_bits (led point bits))) [] ws next b
optional_feeds w wait next a b point outer bits ws k h = by (bytes_eq (text_of_bits bits) (codes ",")) refl k
  where
    by : (c : Bool) → bytes_eq (text_of_bits bits) (codes ",") ≡ c → cond c (comma_flow (At wait a)) Lost ≡ At next b
        → Feeds w wait a outer (feed_text (text_of_bits (led point bits))) [] ws next b
    by true c e =
        let t : text_of_bits bits ≡ codes "," = bytes_same (text_of_bits bits) (codes ",") c in
        let l : text_of_bits (led point bits) ≡ codes "," =
        ap (λ (x : List ℕ). text_of_bits (cond (begins (λ (c : ℕ). c == char.point) x && point) (Blank ∷ bits) bits)) t ∙ t in
        subst (λ (x : List ℕ). Feeds w wait a outer (feed_text x) [] ws next b) (sym l)
        (laid_feeds w wait next a b outer ws e h)
    by false c e = absurd (cc e)

behind_feeds : (w : Walk) (wait next : Wait) (a b : Bool) (outer : List Bool) (behind : Behind) (ws : List Word)
    → behind_flow behind (At wait a) ≡ At next b → Found w (waiting wait ++ ws)
    → Feeds w wait a outer (feed_behind behind) [] ws next b
behind_feeds w wait next a b outer Nothing ws k h =
    let n : wait ≡ next = cc in
    let m : a ≡ b = cc in
    subst (λ (x : Wait). Feeds w wait a outer (λ more. more) [] ws x b) n
    (subst (λ (x : Bool). Feeds w wait a outer (λ more. more) [] ws wait x) m (feeds_none w wait a outer ws h))
behind_feeds w wait next a b outer (ArmComma last block_like) ws k h = laid_feeds w wait next a b outer ws k h

-- ---- tokens

-- a text that is one word
told_feeds : (w : Walk) (wait next : Wait) (a b : Bool) (outer : List Bool) (kind : Kind) (text : List ℕ) (ws : List Word)
    → is_proper (Told kind text) ≡ true → is_plain text ≡ true → text_flow (Told kind text ∷ []) text wait a ≡ At next b
    → Found w (waiting wait ++ (Told kind text ∷ ws))
    → Feeds w wait a outer (λ more. tok.Text text ∷ more) (Told kind text ∷ []) ws next b
told_feeds w wait next a b outer kind text ws proper plain k h =
    plain_feeds w wait next a b outer text (Told kind text ∷ []) ws plain (λ v g. reads_word v a outer kind text ws proper g) k h

-- `r#` before a name
raw_feeds : (w : Walk) (wait : Wait) (a : Bool) (outer : List Bool) (ws : List Word) → is_open wait ≡ true → Found w (waiting wait ++ ws)
    → Feeds w wait a outer (λ more. tok.Text (codes "r#") ∷ more) [] ws Still a
raw_feeds w wait a outer ws k h = text_feeds w wait Still a a outer (codes "r#") [] ws k h (λ v g. (v, refl, leads_from v ws g))

leaf_feeds : (kind : Kind) (text : List ℕ) (w : Walk) (wait next : Wait) (a b : Bool) (outer : List Bool) (ws : List Word)
    → is_text_of kind text ≡ true → leaf_flow kind text (At wait a) ≡ At next b → Found w (waiting wait ++ (Told kind text ∷ ws))
    → Feeds w wait a outer (feed_token kind text) (Told kind text ∷ []) ws next b
leaf_feeds (Doc inner block) text w wait next a b outer ws p k h = absurd (cc k)
leaf_feeds RawIdent text w wait next a b outer ws p k h = by (is_open wait) refl k
  where
    by : (o : Bool) → is_open wait ≡ o
        → cond o (cond (bytes_eq text (codes ",")) (cond (are_comma (Told RawIdent text ∷ [])) (At Said a) Lost) (At Still (bytes_eq text (codes " => ") || a))) Lost ≡ At next b
        → Feeds w wait a outer (λ more. tok.Text (codes "r#") ∷ tok.Text text ∷ more) (Told RawIdent text ∷ []) ws next b
    by true o e =
        let one = raw_feeds w wait a outer (Told RawIdent text ∷ ws) o h in
        feeds_two w wait Still next a a b outer (λ more. tok.Text (codes "r#") ∷ more) (λ more. tok.Text text ∷ more) [] (Told RawIdent text ∷ []) ws one
        (told_feeds one.end Still next a b outer RawIdent text ws (leaf_proper RawIdent text refl p) (leaf_plain RawIdent text refl p) e one.leads.found)
    by false o e = absurd (cc e)
leaf_feeds kind text w wait next a b outer ws p k h =
    told_feeds w wait next a b outer kind text ws (leaf_proper kind text refl p) (leaf_plain kind text refl p) k h

-- ---- documentation

-- the text of documentation in a block isn't empty
block_text : (inner : Bool) (text : List ℕ) → is_block (doc_form inner text) ≡ true → (c : ℕ) × (cs : List ℕ) × (text ≡ c ∷ cs)
unfolding doc_form
block_text true [] h = absurd (cc h)
block_text false [] h = absurd (cc h)
block_text inner (c ∷ cs) h = (c, cs, refl)

opening_read : (inner block : Bool) (s : State) → read (doc_opening inner block) s ≡ documented (record { inner = inner; block = block }) s
opening_read true true s = refl
opening_read true false s = refl
opening_read false true s = refl
opening_read false false s = refl

-- where documentation that leads so begins
doc_begun : (w : Walk) (wait : Wait) (a : Bool) (outer : List Bool) (inner : Bool) (word : Word) (ws : List Word)
    → is_open wait ≡ true → ((v : Walk) → Found v (word ∷ ws) → Leads v (doc_behind inner v) (word ∷ ws) ws)
    → Found w (waiting wait ++ (word ∷ ws))
    → (end : Walk) × ((block : Bool) → fed_one (tok.Text (doc_opening inner block)) (waits wait w a outer) ≡ state end false (cond block Block Line) a outer)
    × Leads w end (waiting wait ++ (word ∷ ws)) ws
doc_begun w wait a outer inner word ws k leads h =
    let s = settle w wait a outer (word ∷ ws) k h in (
      doc_behind inner s.end,
      λ block.
          text_read wait w a outer (doc_opening inner block) k ∙ ap (read (doc_opening inner block)) s.settles
          ∙ opening_read inner block (still s.end a outer),
      leads_on w s.end (doc_behind inner s.end) (waiting wait ++ (word ∷ ws)) (word ∷ ws) ws s.leads (leads s.end s.leads.found),
    )

doc_feeds : (w : Walk) (wait next : Wait) (a b : Bool) (outer : List Bool) (inner : Bool) (text : List ℕ) (word : Word) (ws : List Word)
    → ((v : Walk) → Found v (word ∷ ws) → Leads v (doc_behind inner v) (word ∷ ws) ws)
    → doc_flow inner text (At wait a) ≡ At next b → Found w (waiting wait ++ (word ∷ ws))
    → Feeds w wait a outer (feed_doc inner (is_block (doc_form inner text)) text) (word ∷ []) ws next b
doc_feeds w wait next a b outer inner text word ws leads k h = by_open (is_open wait) refl k
  where
    by_block : is_open wait ≡ true → (d : Bool) → is_block (doc_form inner text) ≡ d → At (cond d Still InLine) a ≡ At next b
        → Feeds w wait a outer (feed_doc inner d text) (word ∷ []) ws next b
    by_block o true d e =
        let n : Still ≡ next = cc in
        let m : a ≡ b = cc in
        let s = doc_begun w wait a outer inner word ws o leads h in
        let t = block_text inner text d in
        subst (λ (x : Wait). Feeds w wait a outer (feed_doc inner true text) (word ∷ []) ws x b) n
        (subst (λ (x : Bool). Feeds w wait a outer (feed_doc inner true text) (word ∷ []) ws Still x) m
        (subst (λ (x : List ℕ). Feeds w wait a outer (feed_doc inner true x) (word ∷ []) ws Still a) (sym t.2)
        (record {
          end = s.0;
          runs = λ more. ap (λ (x : State). fed_all (tok.Text (t.0 ∷ t.1) ∷ tok.Text (codes "*/") ∷ more) x) (s.1 true);
          leads = s.2;
        })))
    by_block o false d e =
        let n : InLine ≡ next = cc in
        let m : a ≡ b = cc in
        let s = doc_begun w wait a outer inner word ws o leads h in
        subst (λ (x : Wait). Feeds w wait a outer (feed_doc inner false text) (word ∷ []) ws x b) n
        (subst (λ (x : Bool). Feeds w wait a outer (feed_doc inner false text) (word ∷ []) ws InLine x) m
        (record {
          end = s.0;
          runs = λ more. ap (λ (x : State). fed_all (feed_text text more) x) (s.1 false) ∙ line text more s.0;
          leads = s.2;
        }))
      where
        -- the text of a line is passed over
        line : (t : List ℕ) (more : List Tok) (v : Walk) → fed_all (feed_text t more) (state v false Line a outer) ≡ fed_all more (state v false Line a outer)
        line [] more v = refl
        line (c ∷ cs) more v = refl

    by_open : (o : Bool) → is_open wait ≡ o → cond o (At (cond (is_block (doc_form inner text)) Still InLine) a) Lost ≡ At next b
        → Feeds w wait a outer (feed_doc inner (is_block (doc_form inner text)) text) (word ∷ []) ws next b
    by_open true o e = by_block o (is_block (doc_form inner text)) refl e
    by_open false o e = absurd (cc e)

-- ---- breaks

break_feeds : (w : Walk) (wait next : Wait) (a b : Bool) (outer : List Bool) (t : Break) (ws : List Word)
    → break_flow t (At wait a) ≡ At next b → Found w (waiting wait ++ ws) → Feeds w wait a outer (λ more. tok.Break t ∷ more) [] ws next b
break_feeds w Still next a b outer t ws k h =
    let n : Still ≡ next = cc in
    let m : a ≡ b = cc in
    subst (λ (x : Wait). Feeds w Still a outer (λ more. tok.Break t ∷ more) [] ws x b) n
    (subst (λ (x : Bool). Feeds w Still a outer (λ more. tok.Break t ∷ more) [] ws Still x) m
    (record { end = w; runs = λ more. refl; leads = leads_from w ws h }))
break_feeds w InLine next a b outer t ws k h =
    let n : Still ≡ next = cc in
    let m : a ≡ b = cc in
    subst (λ (x : Wait). Feeds w InLine a outer (λ more. tok.Break t ∷ more) [] ws x b) n
    (subst (λ (x : Bool). Feeds w InLine a outer (λ more. tok.Break t ∷ more) [] ws Still x) m
    (record { end = w; runs = λ more. refl; leads = leads_from w ws h }))
break_feeds w Said next a b outer t ws k h = by (is_free t a) refl k
  where
    by : (f : Bool) → is_free t a ≡ f → cond f Lost (At Still a) ≡ At next b → Feeds w Said a outer (λ more. tok.Break t ∷ more) [] ws next b
    by true f e = absurd (cc e)
    by false f e =
        let n : Still ≡ next = cc in
        let m : a ≡ b = cc in
        subst (λ (x : Wait). Feeds w Said a outer (λ more. tok.Break t ∷ more) [] ws x b) n
        (subst (λ (x : Bool). Feeds w Said a outer (λ more. tok.Break t ∷ more) [] ws Still x) m
        (record {
          end = walk_behind true char.comma w;
          runs = λ more. ap (λ (x : Bool). fed_all more (comma_settled (state w (not x) Code a outer))) f;
          leads = (word_leads w Punct char.comma [] ws refl refl h).leads;
        }))
break_feeds w Laid next a b outer t ws k h = by (is_free t a) refl k
  where
    by : (f : Bool) → is_free t a ≡ f → cond f (At Still a) Lost ≡ At next b → Feeds w Laid a outer (λ more. tok.Break t ∷ more) [] ws next b
    by false f e = absurd (cc e)
    by true f e =
        let n : Still ≡ next = cc in
        let m : a ≡ b = cc in
        subst (λ (x : Wait). Feeds w Laid a outer (λ more. tok.Break t ∷ more) [] ws x b) n
        (subst (λ (x : Bool). Feeds w Laid a outer (λ more. tok.Break t ∷ more) [] ws Still x) m
        (record {
          end = w;
          runs = λ more. ap (λ (x : Bool). fed_all more (comma_settled (state w (not x) Code a outer))) f;
          leads = leads_from w ws h;
        }))

-- ---- groups

-- what is known where a group begins or ends
record Bounds (w : Walk) (wait : Wait) (a : Bool) (outer : List Bool) (ws : List Word) (next : Wait) : Type 0 where
  pub end : Walk
  pub begins : (consistent : Bool) (n : ℕ) → fed_one (tok.Begin consistent (pos n)) (waits wait w a outer) ≡ waits next end false (a ∷ outer)
  pub ends : (b : Bool) → fed_one tok.End (waits wait w b (a ∷ outer)) ≡ waits next end a outer
  pub leads : Leads w end (waiting wait ++ ws) (waiting next ++ ws)

bounds : (w : Walk) (wait next : Wait) (a b c : Bool) (outer : List Bool) (ws : List Word) → group_flow (At wait b) ≡ At next c
    → Found w (waiting wait ++ ws) → Bounds w wait a outer ws next
bounds w Still next a b c outer ws k h =
    let n : Still ≡ next = cc in
    subst (Bounds w Still a outer ws) n
    (record { end = w; begins = λ consistent n. refl; ends = λ b. refl; leads = leads_from w ws h })
bounds w InLine next a b c outer ws k h =
    let n : InLine ≡ next = cc in
    subst (Bounds w InLine a outer ws) n
    (record { end = w; begins = λ consistent n. refl; ends = λ b. refl; leads = leads_from w ws h })
bounds w Said next a b c outer ws k h =
    let n : Still ≡ next = cc in
    subst (Bounds w Said a outer ws) n
    (record {
      end = walk_behind true char.comma w;
      begins = λ consistent n. refl;
      ends = λ b. refl;
      leads = (word_leads w Punct char.comma [] ws refl refl h).leads;
    })
bounds w Laid next a b c outer ws k h = absurd (cc k)

-- what a group begins with, what is within it, and its end
group_feeds : (X : Flow → Flow) (F : List Tok → List Tok) (xs : List Word) (consistent : Bool) (n : ℕ) (w : Walk) (wait next : Wait) (a b : Bool) (outer : List Bool) (ws : List Word)
    → X Lost ≡ Lost
    → ((v : Walk) (one two : Wait) (c : Bool) → X (At one false) ≡ At two c → Found v (waiting one ++ (xs ++ ws))
    → Feeds v one false (a ∷ outer) F xs ws two c)
    → left (At wait a) (group_flow (X (entered (group_flow (At wait a))))) ≡ At next b → Found w (waiting wait ++ (xs ++ ws))
    → Feeds w wait a outer (λ more. tok.Begin consistent (pos n) ∷ F (tok.End ∷ more)) xs ws next b
group_feeds X F xs consistent n w wait next a b outer ws lost inner k h = by_first (group_flow (At wait a)) refl k
  where
    by_last : (one : Wait) (c : Bool) → group_flow (At wait a) ≡ At one c → (two : Wait) (d : Bool) → X (At one false) ≡ At two d
        → (s : Flow) → group_flow (At two d) ≡ s → left (At wait a) s ≡ At next b → Feeds w wait a outer (λ more. tok.Begin consistent (pos n) ∷ F (tok.End ∷ more)) xs ws next b
    by_last one c e two d f Lost g r = absurd (cc r)
    by_last one c e two d f (At three m) g r =
        let p : three ≡ next = cc in
        let q : a ≡ b = cc in
        let first = bounds w wait one a a c outer (xs ++ ws) e h in
        let mid = inner first.end one two d f first.leads.found in
        let last = bounds mid.end two three a d m outer ws g mid.leads.found in
        subst (λ (x : Wait). Feeds w wait a outer (λ more. tok.Begin consistent (pos n) ∷ F (tok.End ∷ more)) xs ws x b) p
        (subst (λ (x : Bool). Feeds w wait a outer (λ more. tok.Begin consistent (pos n) ∷ F (tok.End ∷ more)) xs ws three x) q
        (record {
          end = last.end;
          runs = λ more.
              ap (fed_all (F (tok.End ∷ more))) (first.begins consistent n) ∙ mid.runs (tok.End ∷ more) ∙ ap (fed_all more) (last.ends d);
          leads = leads_on w first.end last.end (waiting wait ++ (xs ++ ws)) (waiting one ++ (xs ++ ws)) (waiting three ++ ws) first.leads
              (leads_on first.end mid.end last.end (waiting one ++ (xs ++ ws)) (waiting two ++ ws) (waiting three ++ ws) mid.leads last.leads);
        }))

    by_inner : (one : Wait) (c : Bool) → group_flow (At wait a) ≡ At one c → (s : Flow) → X (At one false) ≡ s
        → left (At wait a) (group_flow s) ≡ At next b → Feeds w wait a outer (λ more. tok.Begin consistent (pos n) ∷ F (tok.End ∷ more)) xs ws next b
    by_inner one c e Lost f g = absurd (cc g)
    by_inner one c e (At two d) f g = by_last one c e two d f (group_flow (At two d)) refl g

    by_first : (s : Flow) → group_flow (At wait a) ≡ s → left (At wait a) (group_flow (X (entered s))) ≡ At next b → Feeds w wait a outer (λ more. tok.Begin consistent (pos n) ∷ F (tok.End ∷ more)) xs ws next b
    by_first Lost e g =
        let z : left (At wait a) Lost ≡ At next b = sym (ap (λ (x : Flow). left (At wait a) (group_flow x)) lost) ∙ g in
        absurd (cc z)
    by_first (At one c) e g = by_inner one c e (X (At one false)) refl g

-- ---- forms

behind_lost : (behind : Behind) → behind_flow behind Lost ≡ Lost
behind_lost Nothing = refl
behind_lost (ArmComma last block_like) = refl

-- What is lost stays so.
lost : (f : Form) → flow Lost f ≡ Lost
lost Done = refl
lost (Piece bits f) = lost f
lost (Leaf kind text f) = lost f
lost (Listed kind text joint f) = lost f
lost (ListedDoc inner text f) = lost f
lost (Brk space f) = lost f
lost (LastComma blanks f) = lost f
lost (Group consistent offset i f) = lost f
lost (Part i f) = ap (λ (s : Flow). flow s f) (lost i) ∙ lost f
lost (Deeper i f) = ap (λ (s : Flow). flow s f) (lost i) ∙ lost f
lost (Optional true bits f) = lost f
lost (Optional false bits f) = lost f
lost (Docs inner text f) = lost f
lost (Body Bare behind i f) =
    ap (λ (s : Flow). flow (behind_flow behind s) f) (lost i) ∙ ap (λ (s : Flow). flow s f) (behind_lost behind) ∙ lost f
lost (Body Unseen behind i f) = ap (λ (s : Flow). flow s f) (lost i) ∙ lost f
lost (Body Marked behind i f) = lost f

-- One sign, and then a form.
sign_then : (s : Flow) (f : Form) (F G : List Tok → List Tok) (xs : List Word) (w : Walk) (wait last : Wait) (a b : Bool) (outer : List Bool) (ws : List Word)
    → ((next : Wait) (c : Bool) → s ≡ At next c → Found w (waiting wait ++ (xs ++ (words f ++ ws))) → Feeds w wait a outer F xs (words f ++ ws) next c)
    → ((v : Walk) (next : Wait) (c : Bool) → flow (At next c) f ≡ At last b → Found v (waiting next ++ (words f ++ ws))
    → Feeds v next c outer G (words f) ws last b)
    → flow s f ≡ At last b → Found w (waiting wait ++ ((xs ++ words f) ++ ws))
    → Feeds w wait a outer (λ more. F (G more)) (xs ++ words f) ws last b
sign_then Lost f F G xs w wait last a b outer ws one more k h =
    let z : Lost ≡ At last b = sym (lost f) ∙ k in
    absurd (cc z)
sign_then (At next c) f F G xs w wait last a b outer ws one more k h =
    let first = one next c refl (subst (λ (x : List Word). Found w (waiting wait ++ x)) (append_assoc xs (words f) ws) h) in
    feeds_two w wait next last a c b outer F G xs (words f) ws first (more first.end next c k first.leads.found)

-- where the first of two steps leads
flow_two : (s : Flow) (T : Flow → Flow) (next : Wait) (b : Bool) → T Lost ≡ Lost → T s ≡ At next b
    → (one : Wait) × (c : Bool) × (s ≡ At one c) × (T (At one c) ≡ At next b)
flow_two Lost T next b lost k = let z : Lost ≡ At next b = sym lost ∙ k in absurd (cc z)
flow_two (At one c) T next b lost k = (one, c, refl, k)

-- a form, and what follows a body
bare_feeds : (s : Flow) (behind : Behind) (F : List Tok → List Tok) (xs : List Word) (w : Walk) (wait next : Wait) (a b : Bool) (outer : List Bool) (ws : List Word)
    → ((two : Wait) (d : Bool) → s ≡ At two d → Found w (waiting wait ++ (xs ++ ws)) → Feeds w wait a outer F xs ws two d)
    → behind_flow behind s ≡ At next b → Found w (waiting wait ++ (xs ++ ws))
    → Feeds w wait a outer (λ more. F (feed_behind behind more)) xs ws next b
bare_feeds s behind F xs w wait next a b outer ws one k h =
    let x = flow_two s (behind_flow behind) next b (behind_lost behind) k in
    let first = one x.0 x.1 x.2 h in
    subst (λ (z : List Word). Feeds w wait a outer (λ more. F (feed_behind behind more)) z ws next b) (append-nil xs)
    (feeds_two w wait x.0 next a x.1 b outer F (feed_behind behind) xs [] ws first
    (behind_feeds first.end x.0 next x.1 b outer behind ws x.3 first.leads.found))

-- a body between its breaks
marked_feeds : (closing : Break) (i : Form) (F : List Tok → List Tok) (w : Walk) (wait next : Wait) (a b : Bool) (outer : List Bool) (ws : List Word)
    → ((v : Walk) (one two : Wait) (c d : Bool) → flow (At one c) i ≡ At two d → Found v (waiting one ++ (words i ++ ws))
    → Feeds v one c outer F (words i) ws two d)
    → break_flow closing (flow (break_flow opening_break (At wait a)) i) ≡ At next b → Found w (waiting wait ++ (words i ++ ws))
    → Feeds w wait a outer (λ more. tok.Break opening_break ∷ F (tok.Break closing ∷ more)) (words i) ws next b
marked_feeds closing i F w wait next a b outer ws inner k h =
    let x = flow_two (break_flow opening_break (At wait a)) (λ s. break_flow closing (flow s i)) next b (ap (break_flow closing) (lost i)) k in
    let y = flow_two (flow (At x.0 x.1) i) (break_flow closing) next b refl x.3 in
    let first = break_feeds w wait x.0 a x.1 outer opening_break (words i ++ ws) x.2 h in
    let mid = inner first.end x.0 y.0 x.1 y.1 y.2 first.leads.found in
    let last = break_feeds mid.end y.0 next y.1 b outer closing ws y.3 mid.leads.found in
    let behind = feeds_two first.end x.0 y.0 next x.1 y.1 b outer F (λ more. tok.Break closing ∷ more) (words i) [] ws mid last in
    let all = subst (λ (z : List Word). Feeds first.end x.0 x.1 outer (λ more. F (tok.Break closing ∷ more)) z ws next b) (append-nil (words i)) behind in
    feeds_two w wait x.0 next a x.1 b outer (λ more. tok.Break opening_break ∷ more) (λ more. F (tok.Break closing ∷ more)) [] (words i) ws first all

pub form_feeds : (f : Form) (point : Bool) (w : Walk) (wait last : Wait) (a b : Bool) (outer : List Bool) (ws : List Word)
    → are_pieces f ≡ true → flow (At wait a) f ≡ At last b → Found w (waiting wait ++ (words f ++ ws))
    → Feeds w wait a outer (fed point f) (words f) ws last b
form_feeds Done point w wait last a b outer ws p k h =
    let n : wait ≡ last = cc in
    let m : a ≡ b = cc in
    subst (λ (x : Wait). Feeds w wait a outer (λ more. more) [] ws x b) n
    (subst (λ (x : Bool). Feeds w wait a outer (λ more. more) [] ws wait x) m (feeds_none w wait a outer ws h))
form_feeds (Piece bits f) point w wait last a b outer ws p k h =
    sign_then (piece_flow bits (At wait a)) f (feed_text (text_of_bits (led point bits))) (fed (bits_end_in_point point bits) f) (bits_words bits) w wait last a b outer ws
    (λ next c e g. piece_feeds w wait next a c point outer bits (words f ++ ws) e g)
    (λ v next c e g. form_feeds f (bits_end_in_point point bits) v next last c b outer ws p e g) k h
form_feeds (Leaf kind text f) point w wait last a b outer ws p k h =
    let q = and_parts (is_text_of kind text) (are_pieces f) p in
    sign_then (leaf_flow kind text (At wait a)) f (feed_token kind text) (fed (token_ends_in_point kind text) f) (Told kind text ∷ []) w wait last a b outer ws
    (λ next c e g. leaf_feeds kind text w wait next a c outer (words f ++ ws) q.0 e g)
    (λ v next c e g. form_feeds f (token_ends_in_point kind text) v next last c b outer ws q.1 e g) k h
form_feeds (Listed kind text joint f) point w wait last a b outer ws p k h =
    let q = and_parts (is_text_of kind text) (are_pieces f) p in
    sign_then (leaf_flow kind text (At wait a)) f (feed_token kind text) (fed (token_ends_in_point kind text) f) (Told kind text ∷ []) w wait last a b outer ws
    (λ next c e g. leaf_feeds kind text w wait next a c outer (words f ++ ws) q.0 e g)
    (λ v next c e g. form_feeds f (token_ends_in_point kind text) v next last c b outer ws q.1 e g) k h
form_feeds (ListedDoc inner text f) point w wait last a b outer ws p k h =
    let q = and_parts (is_utf8 text) (are_pieces f) p in
    sign_then (doc_flow inner text (At wait a)) f (feed_doc inner (is_block (doc_form inner text)) text) (fed false f) (Comment inner text ∷ []) w wait last a b outer ws
    (λ next c e g. doc_feeds w wait next a c outer inner text (Comment inner text) (words f ++ ws)
    (λ v r. comment_leads v inner text (words f ++ ws) r) e g)
    (λ v next c e g. form_feeds f false v next last c b outer ws q.1 e g) k h
form_feeds (Brk space f) point w wait last a b outer ws p k h =
    sign_then (break_flow (break_of space) (At wait a)) f (λ more. tok.Break (break_of space) ∷ more) (fed (space_ends_in_point point space) f) [] w wait last a b outer ws
    (λ next c e g. break_feeds w wait next a c outer (break_of space) (words f ++ ws) e g)
    (λ v next c e g. form_feeds f (space_ends_in_point point space) v next last c b outer ws p e g) k h
form_feeds (LastComma blanks f) point w wait last a b outer ws p k h =
    sign_then (break_flow (comma_break blanks) (At wait a)) f (λ more. tok.Break (comma_break blanks) ∷ more) (fed (keeps_point point blanks) f) [] w wait last a b outer ws
    (λ next c e g. break_feeds w wait next a c outer (comma_break blanks) (words f ++ ws) e g)
    (λ v next c e g. form_feeds f (keeps_point point blanks) v next last c b outer ws p e g) k h
form_feeds (Group consistent offset i f) point w wait last a b outer ws p k h =
    let q = and_parts (are_pieces i) (are_pieces f) p in
    sign_then (left (At wait a) (group_flow (flow (entered (group_flow (At wait a))) i))) f
    (λ more. tok.Begin consistent (pos offset) ∷ fed point i (tok.End ∷ more)) (fed (ends_behind_point point i) f) (words i) w wait last a b outer ws
    (λ next c e g. group_feeds (λ s. flow s i) (fed point i) (words i) consistent offset w wait next a c outer (words f ++ ws) (lost i)
    (λ v one two d r t. form_feeds i point v one two false d (a ∷ outer) (words f ++ ws) q.0 r t) e g)
    (λ v next c e g. form_feeds f (ends_behind_point point i) v next last c b outer ws q.1 e g) k h
form_feeds (Part i f) point w wait last a b outer ws p k h =
    let q = and_parts (are_pieces i) (are_pieces f) p in
    sign_then (flow (At wait a) i) f (fed point i) (fed (ends_behind_point point i) f) (words i) w wait last a b outer ws
    (λ next c e g. form_feeds i point w wait next a c outer (words f ++ ws) q.0 e g)
    (λ v next c e g. form_feeds f (ends_behind_point point i) v next last c b outer ws q.1 e g) k h
form_feeds (Deeper i f) point w wait last a b outer ws p k h =
    let q = and_parts (are_pieces i) (are_pieces f) p in
    sign_then (flow (At wait a) i) f (fed point i) (fed (ends_behind_point point i) f) (words i) w wait last a b outer ws
    (λ next c e g. form_feeds i point w wait next a c outer (words f ++ ws) q.0 e g)
    (λ v next c e g. form_feeds f (ends_behind_point point i) v next last c b outer ws q.1 e g) k h
form_feeds (Optional true bits f) point w wait last a b outer ws p k h =
    sign_then (optional_flow bits (At wait a)) f (feed_text (text_of_bits (led point bits))) (fed (bits_end_in_point point bits) f) [] w wait last a b outer ws
    (λ next c e g. optional_feeds w wait next a c point outer bits (words f ++ ws) e g)
    (λ v next c e g. form_feeds f (bits_end_in_point point bits) v next last c b outer ws p e g) k h
form_feeds (Optional false bits f) point w wait last a b outer ws p k h = form_feeds f point w wait last a b outer ws p k h
form_feeds (Docs inner text f) point w wait last a b outer ws p k h =
    let q = and_parts (is_utf8 text) (are_pieces f) p in
    sign_then (doc_flow inner text (At wait a)) f (feed_doc inner (is_block (doc_form inner text)) text) (fed false f) (Documented inner text ∷ []) w wait last a b outer ws
    (λ next c e g. doc_feeds w wait next a c outer inner text (Documented inner text) (words f ++ ws)
    (λ v r. documented_leads v inner text (words f ++ ws) r) e g)
    (λ v next c e g. form_feeds f false v next last c b outer ws q.1 e g) k h
form_feeds (Body Bare behind i f) point w wait last a b outer ws p k h =
    let q = and_parts (are_pieces i) (are_pieces f) p in
    let after = point_behind Bare behind (ends_behind_point point i) in
    sign_then (behind_flow behind (flow (At wait a) i)) f (λ more. fed point i (feed_behind behind more)) (fed after f) (words i) w wait last a b outer ws
    (λ next c e g. bare_feeds (flow (At wait a) i) behind (fed point i) (words i) w wait next a c outer (words f ++ ws)
    (λ two d r t. form_feeds i point w wait two a d outer (words f ++ ws) q.0 r t) e g)
    (λ v next c e g. form_feeds f after v next last c b outer ws q.1 e g) k h
form_feeds (Body Unseen behind i f) point w wait last a b outer ws p k h =
    let q = and_parts (are_pieces i) (are_pieces f) p in
    sign_then (flow (At wait a) i) f (fed point i) (fed (ends_behind_point point i) f) (words i) w wait last a b outer ws
    (λ next c e g. form_feeds i point w wait next a c outer (words f ++ ws) q.0 e g)
    (λ v next c e g. form_feeds f (ends_behind_point point i) v next last c b outer ws q.1 e g) k h
form_feeds (Body Marked behind i f) point w wait last a b outer ws p k h =
    let q = and_parts (are_pieces i) (are_pieces f) p in
    let after = point_behind Marked behind (ends_behind_point point i) in
    sign_then
    (left (At wait a) (group_flow (break_flow (closing_break behind) (flow (break_flow opening_break (entered (group_flow (At wait a)))) i)))) f
    (λ more. tok.Begin true (pos 4) ∷ tok.Break opening_break ∷ fed point i (tok.Break (closing_break behind) ∷ tok.End ∷ more)) (fed after f) (words i) w wait last a b outer ws
    (λ next c e g. group_feeds (λ s. break_flow (closing_break behind) (flow (break_flow opening_break s) i))
    (λ more. tok.Break opening_break ∷ fed point i (tok.Break (closing_break behind) ∷ more)) (words i) true 4 w wait next a c outer (words f ++ ws)
    (ap (break_flow (closing_break behind)) (lost i))
    (λ v one two d r t. marked_feeds (closing_break behind) i (fed point i) v one two false d (a ∷ outer) (words f ++ ws)
    (λ u three four y z r t. form_feeds i point u three four y z (a ∷ outer) (words f ++ ws) q.0 r t) r t) e g)
    (λ v next c e g. form_feeds f after v next last c b outer ws q.1 e g) k h
