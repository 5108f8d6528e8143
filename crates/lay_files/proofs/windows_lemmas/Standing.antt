-- What is read, window by window, stands in the text.
use Rattle.std.proofs.Common.{◌≡◌, ◌⊎◌, inl, inr, ℕ, zero, suc, ◌<◌, nat_eq, Bool, true, false, ◌&&◌, List, [], ◌∷◌, ◌++◌, map, length, IsUtf8, Option, Some, None, Ok, refl, sym, ap, ◌∙◌, subst, arith}
use Rattle.std.specs.Str.{IsCharBoundary}
use Rattle.std.proofs.lemmas.Bool.{and_parts, and_from, eqb-true}
use Rattle.std.proofs.lemmas.List.{append-nil, append_assoc}
use Rattle.std.proofs.lemmas.List.Folds.{list_all-append}
use Rattle.lay_token.specs.Lexes.{Lexes}
use Rattle.lay_token.specs.declared.token.Token.{Token}
use Rattle.lay_form.specs.Form.{Form, Done, Deeper}
use Rattle.lay_form.specs.Notation.{lines}
use Rattle.lay_form.specs.Spelled.{Spells}
use Rattle.lay_node.specs.nodes.Attr.{about_attr, are_attrs, attr_form, is_attr}
use Rattle.lay_node.specs.nodes.Facts.{Facts, forms, all_good}
use Rattle.lay_node.specs.nodes.Vis.{is_vis}
use Rattle.lay_node.specs.Words.{is_name}
use Rattle.lay_node.specs.declared.attr.Attr.{Attr}
use Rattle.lay_node.specs.declared.heads.Site.TheVariants.{Module}
use Rattle.lay_node.proofs.Parts.{GoodAt, Rows, SpelledAt, lines_rows, lines_spelled, rows_joined, rows_parts, rows_spelled, rows_to}
use Rattle.lay_node.proofs.reader.Attr.{attrs_spelled}
use Rattle.lay_form.proofs.FormLaws.{deeper}
use Rattle.lay_node.proofs.Pieces.{pieces_spelled}
use Rattle.lay_code.specs.Reading.{SpellsFile}
use Rattle.lay_code.specs.Written.{is_good_shebang}
use Rattle.lay_code.specs.nodes.Code.{about_item}
use Rattle.lay_code.specs.nodes.File.{form_of_file, is_normal}
use Rattle.lay_code.specs.declared.file.File.{File}
use Rattle.lay_code.specs.declared.item.Item.{Item}
use Rattle.lay_lex.specs.Window.{UpTo}
use Rattle.lay_lex.specs.declared.window.Stop.{Stop}
use Rattle.lay_lex.specs.declared.window.Stop.TheVariants.{End, More, Opened, Closed}
use Rattle.lay_lex.proofs.Joined.{joined, joined_end}
use Rattle.lay_read_tokens.specs.Answers.{AreLexed}
use Rattle.lay_read_tokens.proofs.Lexed.{lexed_texts}
use Rattle.lay_reparse.proofs.forms.Balance.{are_single}
use Rattle.lay_files.specs.windows.Bodies.{Ends, IsEmpty, Stands}
use Rattle.lay_files.specs.windows.Parts.{Adds, PartsAs, AddsInner, AddsItems, IsHead, head_form, module_of, parts_of}
use Rattle.lay_files.specs.windows.Windows.{IsBrace, Goes, IsQuiet, IsWindow}
use Rattle.lay_files.specs.declared.windows.heads.Head.{Head}
use Rattle.lay_files.proofs.windows_lemmas.Modules.{module_good, module_spelled}
use Rattle.lay_files.proofs.windows_lemmas.Moved.{spelled_before}
use Rattle.lay_files.proofs.windows_lemmas.Tokens.{lexed_end, single_lexed}

-- ---- lists joined

pub attr_forms : (xs ys : List Attr) → map attr_form (xs ++ ys) ≡ map attr_form xs ++ map attr_form ys
attr_forms [] ys = refl
attr_forms (x ∷ xs) ys = ap (λ (l : List Form). attr_form x ∷ l) (attr_forms xs ys)

pub item_forms : (xs ys : List Item) → forms (map (about_item Module) (xs ++ ys)) ≡ forms (map (about_item Module) xs) ++ forms (map (about_item Module) ys)
item_forms [] ys = refl
item_forms (x ∷ xs) ys = ap (λ (l : List Form). (about_item Module x).form ∷ l) (item_forms xs ys)

pub goods : (xs ys : List Item) → all_good (map (about_item Module) (xs ++ ys)) ≡ (all_good (map (about_item Module) xs) && all_good (map (about_item Module) ys))
goods [] ys = refl
goods (x ∷ xs) ys = by (about_item Module x).good (goods xs ys)
  where
    by : (g : Bool) → all_good (map (about_item Module) (xs ++ ys)) ≡ (all_good (map (about_item Module) xs) && all_good (map (about_item Module) ys))
        → g && all_good (map (about_item Module) (xs ++ ys)) ≡ (g && all_good (map (about_item Module) xs)) && all_good (map (about_item Module) ys)
    by true e = e
    by false e = refl

pub one_more : (new last : File) (one : Item) → last.attrs ≡ new.attrs → last.items ≡ new.items ++ one ∷ []
    → parts_of last ≡ parts_of new ++ (about_item Module one).form ∷ []
one_more new last one a i =
    ap (λ (l : List Attr). map attr_form l ++ forms (map (about_item Module) last.items)) a
    ∙ ap (λ (l : List Item). map attr_form new.attrs ++ forms (map (about_item Module) l)) i
    ∙ ap (λ (l : List Form). map attr_form new.attrs ++ l) (item_forms new.items (one ∷ []))
    ∙ sym (append_assoc (map attr_form new.attrs) (forms (map (about_item Module) new.items)) ((about_item Module one).form ∷ []))

one_more_normal : (new last : File) (one : Item) → last.attrs ≡ new.attrs → last.items ≡ new.items ++ one ∷ []
    → is_normal new ≡ true → (about_item Module one).good ≡ true → is_normal last ≡ true
one_more_normal new last one a i n g =
    let before = and_parts (are_attrs true new.attrs) (all_good (map (about_item Module) new.items)) n in
    and_from (are_attrs true last.attrs) (all_good (map (about_item Module) last.items)) (ap (are_attrs true) a ∙ before.0)
    (ap (λ (l : List Item). all_good (map (about_item Module) l)) i ∙ goods new.items (one ∷ [])
    ∙ and_from (all_good (map (about_item Module) new.items)) ((about_item Module one).good && true) before.1
    (and_from (about_item Module one).good true g refl))

together : (x y z : List Token) (o c : Token) (more : List Token)
    → (x ++ (y ++ o ∷ []) ++ (z ++ c ∷ [])) ++ more ≡ x ++ (y ++ o ∷ (z ++ c ∷ more))
together x y z o c more = simp append_assoc

-- The tokens so far go from one place to another.
pub record Gone (text : List ℕ) (start place : ℕ) (ts : List Token) : Type 0 where
  pub border : IsCharBoundary text place
  pub go : ((ts ≡ []) × (start ≡ place)) ⊎ UpTo text start place ts

-- What was read up to a place of the text.
pub record SoFar (text : List ℕ) (start place depth : ℕ) (file : File) : Type 0 where
  pub tokens : List Token
  pub gone : Gone text start place tokens
  pub stands : Stands depth file tokens

module _ (text : List ℕ) (start : ℕ) (u : IsUtf8 text) (b : IsCharBoundary text start) where
  gone_more : (place end : ℕ) (ts us : List Token) → Gone text start place ts → UpTo text place end us → UpTo text start end (ts ++ us)
  gone_more place end ts us g x = elim g.go [
    | inl e ↦ subst (λ (l : List Token). UpTo text start end (l ++ us)) (sym e.0) (subst (λ (p : ℕ). UpTo text p end us) (sym e.1) x)
    | inr y ↦ joined text start place ts u b y end us x
  ]

  gone_end : (place : ℕ) (ts us : List Token) → Gone text start place ts → Lexes text place us → Lexes text start (ts ++ us)
  gone_end place ts us g l = elim g.go [
    | inl e ↦ subst (λ (r : List Token). Lexes text start (r ++ us)) (sym e.0) (subst (λ (p : ℕ). Lexes text p us) (sym e.1) l)
    | inr y ↦ joined_end text start place ts u b y us l
  ]

  pub begun : (depth : ℕ) (file : File) → IsEmpty file → SoFar text start start depth file
  begun depth file e = record {
    tokens = [];
    gone = record { border = b; go = inl (refl, refl) };
    stands = record {
      spelled = λ more. nothing file more e.attrs e.items;
      normal = normal file e.attrs e.items;
      shebang = e.shebang;
    };
  }
    where
      nothing : (file : File) (more : List Token) → file.attrs ≡ [] → file.items ≡ [] → Spells (form_of_file file) depth more more
      nothing file more a i =
          subst (λ (attrs : List Attr). Spells (lines (map attr_form attrs ++ forms (map (about_item Module) file.items))) depth more more) (sym a)
          (subst (λ (items : List Item). Spells (lines (forms (map (about_item Module) items))) depth more more) (sym i) refl)

      normal : (file : File) → file.attrs ≡ [] → file.items ≡ [] → is_normal file ≡ true
      normal file a i =
          ap (λ (attrs : List Attr). are_attrs true attrs && all_good (map (about_item Module) file.items)) a
          ∙ ap (λ (items : List Item). all_good (map (about_item Module) items)) i

  -- ---- one window more

  module _ (depth place : ℕ) (old new : File) (tokens : List Token) (s : SoFar text start place depth old) (lexed : AreLexed tokens)
      (quiet : IsQuiet tokens) where
    -- What is added stands after what is read so far, and what leads after that.
    led : (lead : List Form) → Adds depth tokens old new lead → (more : List Token)
        → (mid : List Token) × Spells (form_of_file new) depth (s.tokens ++ (tokens ++ more)) mid × Rows (SpelledAt depth) lead mid more
    led lead a more =
        let bare : Spells (lines (a.read ++ lead)) depth (tokens ++ []) [] =
        subst (λ (l : List Token). Spells (lines (a.read ++ lead)) depth l []) (sym (append-nil tokens)) a.spelled in
        let single = ap are_single (append-nil tokens) ∙ single_lexed tokens lexed in
        let moved = spelled_before (lines (a.read ++ lead)) depth tokens [] more single quiet bare in
        let rows = rows_parts (SpelledAt depth) a.read lead (tokens ++ more) more (lines_rows (a.read ++ lead) depth (tokens ++ more) more moved) in
        let before = lines_rows (parts_of old) depth (s.tokens ++ (tokens ++ more)) (tokens ++ more) (s.stands.spelled (tokens ++ more)) in
        let all = rows_joined (SpelledAt depth) (parts_of old) a.read (s.tokens ++ (tokens ++ more)) (tokens ++ more) rows.0 before rows.1 in
        let whole = subst (λ (fs : List Form). Rows (SpelledAt depth) fs (s.tokens ++ (tokens ++ more)) rows.0) (sym a.added) all in
        (rows.0, lines_spelled (parts_of new) depth (s.tokens ++ (tokens ++ more)) rows.0 whole, rows.2)

    stands_more : Adds depth tokens old new [] → Stands depth new (s.tokens ++ tokens)
    stands_more a = record {
      spelled = λ more.
          let l = led [] a more in
          subst (λ (ts : List Token). Spells (form_of_file new) depth ts more) (sym (append_assoc s.tokens tokens more))
          (subst (λ (r : List Token). Spells (form_of_file new) depth (s.tokens ++ (tokens ++ more)) r) l.2 l.1);
      normal = a.normal s.stands.normal;
      shebang = a.shebang ∙ s.stands.shebang;
    }

    pub more_read : (end : ℕ) → UpTo text place end tokens → Adds depth tokens old new [] → SoFar text start end depth new
    more_read end x a = record {
      tokens = s.tokens ++ tokens;
      gone = record { border = x.border; go = inr (gone_more place end s.tokens tokens s.gone x) };
      stands = stands_more a;
    }

    pub all_read : Lexes text place tokens → Adds depth tokens old new []
        → (ts : List Token) × Stands depth new ts × Ends text start place ts false
    all_read l a = (s.tokens ++ tokens, stands_more a, gone_end place s.tokens tokens s.gone l)

    pub body_read : (end : ℕ) → (brace : Token) × IsBrace Closed brace × UpTo text place end (tokens ++ brace ∷ []) → Adds depth tokens old new []
        → (ts : List Token) × Stands depth new ts × Ends text start end ts true
    body_read end x a = (
      s.tokens ++ tokens,
      stands_more a,
      (
        x.0,
        x.1,
        subst (UpTo text start end) (sym (append_assoc s.tokens tokens (x.0 ∷ [])))
            (gone_more place end s.tokens (tokens ++ x.0 ∷ []) s.gone x.2),
      ),
    )

    -- A module is read: its head in this window, and what is in it in others.
    pub module_read : (d end : ℕ) (head : Head) (body last : File) → suc d ≡ depth
        → (brace : Token) × IsBrace Opened brace × UpTo text place end (tokens ++ brace ∷ [])
        → Adds depth tokens old new (Deeper (head_form head) Done ∷ [])
        → are_attrs false head.attrs ≡ true → is_vis head.vis ≡ true → is_name head.name.raw head.name.text ≡ true
        → (behind : ℕ) → (ts : List Token) × Stands d body ts × Ends text end behind ts true
        → last.attrs ≡ new.attrs → last.items ≡ new.items ++ module_of head body ∷ [] → last.shebang ≡ new.shebang
        → SoFar text start behind depth last
    module_read d end head body last e x a ha hv hn behind y la li ls =
        let brace = x.0 in
        let inside = y.0 in
        let closing = y.2.0 in
        let one = module_of head body in
        let opened = gone_more place end s.tokens (tokens ++ brace ∷ []) s.gone x.2 in
        let whole = joined text start end (s.tokens ++ (tokens ++ brace ∷ [])) u b opened behind (inside ++ closing ∷ []) y.2.2 in
        let spelled = λ (more : List Token).
        let rest : List Token = brace ∷ (inside ++ closing ∷ more) in
        let l = led (Deeper (head_form head) Done ∷ []) a rest in
        let h : Spells (Deeper (head_form head) Done) (suc d) l.0 rest =
        subst (λ (n : ℕ). Spells (Deeper (head_form head) Done) n l.0 rest) (sym e)
        (subst (λ (r : List Token). Spells (Deeper (head_form head) Done) depth l.0 r) l.2.2 l.2.1) in
        let m = module_spelled head body d brace closing inside l.0 more x.1 y.2.1 y.1 h ha hv hn in
        let stands : Spells (about_item Module one).form depth l.0 more =
        subst (λ (n : ℕ). Spells (about_item Module one).form n l.0 more) e m.0 in
        let before = lines_rows (parts_of new) depth (s.tokens ++ (tokens ++ rest)) l.0 l.1 in
        let fs : List Form = parts_of new ++ (about_item Module one).form ∷ [] in
        let rows = rows_joined (SpelledAt depth) (parts_of new) ((about_item Module one).form ∷ []) (s.tokens ++ (tokens ++ rest)) l.0 more
        before (more, stands, refl) in
        let all = lines_spelled fs depth (s.tokens ++ (tokens ++ rest)) more rows in
        let all2 = subst (λ (gs : List Form). Spells (lines gs) depth (s.tokens ++ (tokens ++ rest)) more) (sym (one_more new last one la li)) all in
        subst (λ (ts : List Token). Spells (form_of_file last) depth ts more) (sym (together s.tokens tokens inside brace closing more)) all2 in
        let good = module_good head body d brace closing inside x.1 y.2.1 y.1 ha hv hn in
        record {
          tokens = s.tokens ++ (tokens ++ brace ∷ []) ++ (inside ++ closing ∷ []);
          gone = record { border = y.2.2.border; go = inr whole };
          stands = record {
            spelled = spelled;
            normal = one_more_normal new last one la li (a.normal s.stands.normal) good;
            shebang = ls ∙ a.shebang ∙ s.stands.shebang;
          };
        }

-- Nothing is left of a file that stands to the end of the text: it is spelled, and can be written.
pub file_read : (depth : ℕ) (text : List ℕ) (start : ℕ) (file : File) → IsUtf8 text → IsCharBoundary text start
    → (ts : List Token) × Stands depth file ts × Ends text start start ts false
    → (file.shebang ≡ None) × ((ts : List Token) × Lexes text start ts × SpellsFile depth file ts)
file_read depth text start file u b r =
    let ts = r.0 in
    let spelled : Spells (form_of_file file) depth ts [] =
    subst (λ (l : List Token). Spells (form_of_file file) depth l []) (append-nil ts) (r.1.spelled []) in
    let pieces = pieces_spelled (form_of_file file) depth ts [] (lexed_texts ts (lexed_end text start u b ts r.2)) spelled in
    let shebang = subst (λ (o : Option (List ℕ)). is_good_shebang o ≡ true) (sym r.1.shebang) refl in
    (r.1.shebang, (ts, r.2, (record { shebang = shebang; normal = r.1.normal; pieces = pieces }, spelled)))

-- ---- what a window adds

raise_rows : {A : Type 0} (about : A → Facts) (depth : ℕ) (xs : List A) (ts rest : List Token) → Rows (GoodAt about 0) xs ts rest
    → Rows (GoodAt about depth) xs ts rest
raise_rows about depth xs ts rest r =
    rows_to (GoodAt about 0) (GoodAt about depth) (λ x us mid g. (deeper (about x).form 0 depth us mid (omega arith) g.0, g.1)) xs ts rest r

pub parts_added : (depth : ℕ) (old new : File) (may : Bool) (ts us vs : List Token) (lead : List Form) → (may ≡ true → old.items ≡ [])
    → AddsInner may old.attrs new.attrs ts us → AddsItems depth old.items new.items us vs → new.shebang ≡ old.shebang
    → Rows (SpelledAt depth) lead vs [] → Adds depth ts old new lead
parts_added depth old new true ts us vs lead none x y shebang rows =
    let attrs = attrs_spelled true depth x.read ts us (raise_rows (about_attr true) depth x.read ts us x.rows) in
    let items = rows_spelled (about_item Module) depth y.read us vs y.rows in
    let read : List Form = map attr_form x.read ++ forms (map (about_item Module) y.read) in
    let both = rows_joined (SpelledAt depth) (map attr_form x.read) (forms (map (about_item Module) y.read)) ts us vs attrs.0 items.0 in
    let all = rows_joined (SpelledAt depth) read lead ts vs [] both rows in
    let no = none refl in
    let fresh : new.items ≡ y.read = y.added ∙ ap (λ (l : List Item). l ++ y.read) no in
    let parts : parts_of new ≡ parts_of old ++ read =
    ap (λ (l : List Attr). map attr_form l ++ forms (map (about_item Module) new.items)) x.added
    ∙ ap (λ (l : List Item). map attr_form (old.attrs ++ x.read) ++ forms (map (about_item Module) l)) fresh
    ∙ ap (λ (l : List Form). l ++ forms (map (about_item Module) y.read)) (attr_forms old.attrs x.read)
    ∙ append_assoc (map attr_form old.attrs) (map attr_form x.read) (forms (map (about_item Module) y.read))
    ∙ ap (λ (l : List Form). l ++ read) (sym (append-nil (map attr_form old.attrs)))
    ∙ ap (λ (l : List Item). (map attr_form old.attrs ++ forms (map (about_item Module) l)) ++ read) (sym no) in
    record {
      read = read;
      added = parts;
      normal = λ n.
          let before = (and_parts (are_attrs true old.attrs) (all_good (map (about_item Module) old.items)) n).0 in
          and_from (are_attrs true new.attrs) (all_good (map (about_item Module) new.items))
          (ap (are_attrs true) x.added ∙ list_all-append (is_attr true) old.attrs x.read ∙ and_from (are_attrs true old.attrs) (are_attrs true x.read) before attrs.1)
          (ap (λ (l : List Item). all_good (map (about_item Module) l)) fresh ∙ items.1);
      shebang = shebang;
      spelled = lines_spelled (read ++ lead) depth ts [] all;
    }
parts_added depth old new false ts us vs lead none x y shebang rows =
    let items = rows_spelled (about_item Module) depth y.read us vs y.rows in
    let read : List Form = forms (map (about_item Module) y.read) in
    let behind = rows_joined (SpelledAt depth) read lead us vs [] items.0 rows in
    let all = subst (λ (l : List Token). Rows (SpelledAt depth) (read ++ lead) l []) x.1 behind in
    let parts : parts_of new ≡ parts_of old ++ read =
    ap (λ (l : List Attr). map attr_form l ++ forms (map (about_item Module) new.items)) x.0
    ∙ ap (λ (l : List Item). map attr_form old.attrs ++ forms (map (about_item Module) l)) y.added
    ∙ ap (λ (l : List Form). map attr_form old.attrs ++ l) (item_forms old.items y.read)
    ∙ sym (append_assoc (map attr_form old.attrs) (forms (map (about_item Module) old.items)) read) in
    record {
      read = read;
      added = parts;
      normal = λ n.
          let before = and_parts (are_attrs true old.attrs) (all_good (map (about_item Module) old.items)) n in
          and_from (are_attrs true new.attrs) (all_good (map (about_item Module) new.items)) (ap (are_attrs true) x.0 ∙ before.0)
          (ap (λ (l : List Item). all_good (map (about_item Module) l)) y.added ∙ goods old.items y.read
          ∙ and_from (all_good (map (about_item Module) old.items)) (all_good (map (about_item Module) y.read)) before.1 items.1);
      shebang = shebang;
      spelled = lines_spelled (read ++ lead) depth ts [] all;
    }

-- Nothing stands in a list that is empty.
pub none_there : (items : List Item) (empty : Bool) → empty ≡ nat_eq (length items) 0 → empty ≡ true → items ≡ []
none_there [] empty e h = refl
none_there (x ∷ xs) empty e h =
    let zero_long : length (x ∷ xs) ≡ 0 = eqb-true (length (x ∷ xs)) 0 (sym e ∙ h) in absurd (omega (arith, zero_long))

-- The head of a module stands one level deeper.
pub lead_row : (depth : ℕ) (head : Head) (ts : List Token) → 0 < depth → IsHead head ts
    → Rows (SpelledAt depth) (Deeper (head_form head) Done ∷ []) ts []
lead_row zero head ts n h = absurd (omega arith)
lead_row (suc d) head ts n h = ([], ([], deeper (head_form head) 0 d ts [] (omega arith) h.spelled, refl), refl)

-- ---- a window, and what it adds

module _ (text : List ℕ) (start : ℕ) (u : IsUtf8 text) (b : IsCharBoundary text start) (depth place end : ℕ) (old new : File)
    (tokens : List Token) (stop : Stop) (head : Option Head) (s : SoFar text start place depth old) (w : IsWindow text place tokens end stop)
    (parts : PartsAs depth tokens old new (Ok head)) where
  adds : head ≡ None → Adds depth tokens old new []
  adds e = subst (λ (h : Option Head). PartsAs depth tokens old new (Ok h)) e parts

  pub at_end : (last : ℕ) → stop ≡ End → head ≡ None → (ts : List Token) × Stands depth new ts × Ends text start last ts false
  at_end last e h =
      all_read text start u b depth place old new tokens s w.lexed w.quiet (subst (Goes text place tokens end) e w.goes) (adds h)

  pub at_closed : stop ≡ Closed → head ≡ None → (ts : List Token) × Stands depth new ts × Ends text start end ts true
  at_closed e h =
      body_read text start u b depth place old new tokens s w.lexed w.quiet end (subst (Goes text place tokens end) e w.goes) (adds h)

  pub at_more : stop ≡ More → head ≡ None → SoFar text start end depth new
  at_more e h =
      more_read text start u b depth place old new tokens s w.lexed w.quiet end (subst (Goes text place tokens end) e w.goes) (adds h)

  pub at_module : (d : ℕ) (one : Head) (body last : File) (behind : ℕ) → stop ≡ Opened → head ≡ Some one → suc d ≡ depth
      → (ts : List Token) × Stands d body ts × Ends text end behind ts true
      → last.attrs ≡ new.attrs → last.items ≡ new.items ++ module_of one body ∷ [] → last.shebang ≡ new.shebang
      → SoFar text start behind depth last
  at_module d one body last behind e h n y la li ls =
      let a = subst (λ (o : Option Head). PartsAs depth tokens old new (Ok o)) h parts in
      module_read text start u b depth place old new tokens s w.lexed w.quiet d end one body last n (subst (Goes text place tokens end) e w.goes)
      a.0 a.1 a.2 a.3 behind y la li ls

  -- Where a module begins the text goes on.
  pub opened_border : stop ≡ Opened → IsCharBoundary text end
  opened_border e = (subst (Goes text place tokens end) e w.goes).2.border

pub more_border : (text : List ℕ) (start place depth : ℕ) (file : File) → SoFar text start place depth file → IsCharBoundary text place
more_border text start place depth file s = s.gone.border
