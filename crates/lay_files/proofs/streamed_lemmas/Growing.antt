-- What is read and fed, window by window.
use Rattle.std.proofs.Common.{◌≡◌, ◌⊎◌, inl, inr, ℕ, suc, ◌<◌, Bool, true, false, List, [], ◌∷◌, ◌++◌, map, IsUtf8, IsTrue, Option, Some, None, Ok, refl, sym, ap, ◌∙◌, subst, append_assoc, append-nil}
use Rattle.std.specs.Str.{IsCharBoundary}
use Rattle.std.proofs.lemmas.Bool.{and_parts, and_from}
use Rattle.std.proofs.lemmas.List.Folds.{list_all-append}
use Rattle.lay_layout.specs.Document.{stream}
use Rattle.lay_token.specs.declared.token.Token.{Token}
use Rattle.lay_form.specs.Form.{Form, Done, Deeper}
use Rattle.lay_form.specs.Notation.{lines}
use Rattle.lay_form.specs.Spelled.{Spells}
use Rattle.lay_node.specs.nodes.Attr.{are_attrs, attr_form, is_attr}
use Rattle.lay_node.specs.nodes.Facts.{forms, all_good}
use Rattle.lay_node.specs.declared.attr.Attr.{Attr}
use Rattle.lay_node.specs.declared.heads.Site.TheVariants.{Module}
use Rattle.lay_code.specs.Out.{layout_of_file}
use Rattle.lay_code.specs.nodes.Code.{about_item, form_of_item}
use Rattle.lay_code.specs.nodes.File.{is_normal}
use Rattle.lay_code.specs.declared.file.File.{File}
use Rattle.lay_code.specs.declared.item.Item.{Item}
use Rattle.lay_lex.specs.Window.{UpTo, ends_in_stop}
use Rattle.lay_lex.specs.declared.window.Stop.{Stop}
use Rattle.lay_lex.specs.declared.window.Stop.TheVariants.{End, More, Opened, Closed}
use Rattle.lay_stream.specs.Fed.{Meanings, Puts}
use Rattle.lay_stream.proofs.Calls.{then_puts}
use Rattle.lay_files.specs.windows.Parts.{Adds, PartsAs, head_form, module_of, parts_of}
use Rattle.lay_files.specs.windows.Windows.{Goes, IsWindow}
use Rattle.lay_files.specs.declared.windows.heads.Head.{Head}
use Rattle.lay_files.proofs.windows_lemmas.Standing.{SoFar, at_closed, at_end, at_module, at_more, attr_forms, begun, file_read, goods, item_forms, more_border, one_more, opened_border}
use Rattle.lay_files.specs.streamed.Through.{PutsBody, PutsFile, PutsModule, PutsParts, bare, closing, empty_module, is_empty_body, opening, rows}
use Rattle.lay_files.proofs.streamed_lemmas.ModuleRows.{empty_line, full_line, may_close}
use Rattle.lay_files.proofs.streamed_lemmas.Rows.{file_rows, nothing_put, rows_put, same_puts}

-- ---- parts after what came before

-- what was read, and then what a window adds
abbrev pub joined : File → File → File
joined old file = record { shebang = old.shebang; attrs = old.attrs ++ file.attrs; items = old.items ++ file.items }

-- No inner attribute stands after an item.
abbrev pub InOrder : File → File → Type 0
InOrder old file = (old.items ≡ []) ⊎ (file.attrs ≡ [])

in_order : (old file : File) (before : Bool) → (before ≡ false → old.items ≡ []) → (before ≡ true → file.attrs ≡ []) → InOrder old file
in_order old file true none inner = inr (inner refl)
in_order old file false none inner = inl (none refl)

lists_joined : (oa fa : List Attr) (oi fi : List Item) → (oi ≡ []) ⊎ (fa ≡ [])
    → map attr_form (oa ++ fa) ++ forms (map (about_item Module) (oi ++ fi))
    ≡ (map attr_form oa ++ forms (map (about_item Module) oi)) ++ (map attr_form fa ++ forms (map (about_item Module) fi))
lists_joined oa fa oi fi (inl e) =
    let A = map attr_form oa in
    let B = map attr_form fa in
    let J = forms (map (about_item Module) fi) in
    ap (λ (l : List Item). map attr_form (oa ++ fa) ++ forms (map (about_item Module) (l ++ fi))) e
    ∙ ap (λ (l : List Form). l ++ J) (attr_forms oa fa)
    ∙ append_assoc A B J
    ∙ ap (λ (l : List Form). l ++ (B ++ J)) (sym (append-nil A))
    ∙ ap (λ (l : List Item). (A ++ forms (map (about_item Module) l)) ++ (B ++ J)) (sym e)
lists_joined oa fa oi fi (inr e) =
    let A = map attr_form oa in
    let I = forms (map (about_item Module) oi) in
    let J = forms (map (about_item Module) fi) in
    ap (λ (l : List Attr). map attr_form (oa ++ l) ++ forms (map (about_item Module) (oi ++ fi))) e
    ∙ ap (λ (l : List Attr). map attr_form l ++ forms (map (about_item Module) (oi ++ fi))) (append-nil oa)
    ∙ ap (λ (l : List Form). A ++ l) (item_forms oi fi)
    ∙ sym (append_assoc A I J)
    ∙ ap (λ (l : List Attr). (A ++ I) ++ (map attr_form l ++ J)) (sym e)

parts_joined : (old file : File) → InOrder old file → parts_of (joined old file) ≡ parts_of old ++ parts_of file
parts_joined old file o = lists_joined old.attrs file.attrs old.items file.items o

normal_joined : (old file : File) → is_normal old ≡ true → is_normal file ≡ true → is_normal (joined old file) ≡ true
normal_joined old file n k =
    let a = and_parts (are_attrs true old.attrs) (all_good (map (about_item Module) old.items)) n in
    let b = and_parts (are_attrs true file.attrs) (all_good (map (about_item Module) file.items)) k in
    and_from (are_attrs true (old.attrs ++ file.attrs)) (all_good (map (about_item Module) (old.items ++ file.items)))
    (list_all-append (is_attr true) old.attrs file.attrs ∙ and_from (are_attrs true old.attrs) (are_attrs true file.attrs) a.0 b.0)
    (goods old.items file.items ∙ and_from (all_good (map (about_item Module) old.items)) (all_good (map (about_item Module) file.items)) a.1 b.1)

-- What is added to a file with nothing in it is added to what came before.
adds_onto : (depth : ℕ) (tokens : List Token) (old file : File) (lead : List Form) → InOrder old file → Adds depth tokens bare file lead
    → Adds depth tokens old (joined old file) lead
adds_onto depth tokens old file lead o a = record {
  read = a.read;
  added = parts_joined old file o ∙ ap (λ (l : List Form). parts_of old ++ l) a.added;
  normal = λ n. normal_joined old file n (a.normal refl);
  shebang = refl;
  spelled = a.spelled;
}

parts_onto : (depth : ℕ) (tokens : List Token) (old file : File) (head : Option Head) → InOrder old file → PartsAs depth tokens bare file (Ok head)
    → PartsAs depth tokens old (joined old file) (Ok head)
parts_onto depth tokens old file None o p = adds_onto depth tokens old file [] o p
parts_onto depth tokens old file (Some head) o p = (adds_onto depth tokens old file (Deeper (head_form head) Done ∷ []) o p.0, p.1, p.2, p.3)

-- ---- where nothing is read

both_empty : {A : Type 0} (xs ys : List A) → xs ++ ys ≡ [] → (xs ≡ []) × (ys ≡ [])
both_empty [] ys e = (refl, e)
both_empty (x ∷ xs) ys e = absurd (let no : ⊥ = cc in no)

-- A window in which no part stands has no token.
nothing_read : (depth : ℕ) (tokens : List Token) (old new : File) → Adds depth tokens old new [] → parts_of new ≡ []
    → (parts_of old ≡ []) × (tokens ≡ [])
nothing_read depth tokens old new a e =
    let both = both_empty (parts_of old) a.read (sym a.added ∙ e) in
    (both.0, subst (λ (fs : List Form). Spells (lines (fs ++ [])) depth tokens []) both.1 a.spelled)

one_there : {A : Type 0} (xs : List A) (x : A) → xs ++ x ∷ [] ≡ [] → ⊥
one_there xs x e = let none = (both_empty xs (x ∷ []) e).1 in cc

up_to_some : (text : List ℕ) (place end : ℕ) (tokens : List Token) → UpTo text place end tokens → tokens ≡ [] → ⊥
up_to_some text place end tokens x e = let none : IsTrue (ends_in_stop []) = subst (λ (ts : List Token). IsTrue (ends_in_stop ts)) e x.stops in cc

-- ---- a body

-- What was read up to a place of the text, where a window stands, and what was fed.
pub record FedSoFar {S F : Type 0} (m : Meanings S F) (within : Bool) (text : List ℕ) (start place depth : ℕ) (are_items : Bool)
    (first : List Token) (first_stop : Stop) (tokens : List Token) (end : ℕ) (stop : Stop) (old new : S) : Type 0 where
  pub file : File
  pub reads : SoFar text start place depth file
  pub puts : Puts m old (rows within (parts_of file)) new
  pub none : are_items ≡ false → file.items ≡ []
  pub window : IsWindow text place tokens end stop
  pub empty : parts_of file ≡ [] → (first ≡ tokens) × (first_stop ≡ stop)

nothing_in : (file : File) → file.attrs ≡ [] → file.items ≡ [] → parts_of file ≡ []
nothing_in file a i =
    ap (λ (l : List Attr). map attr_form l ++ forms (map (about_item Module) file.items)) a
    ∙ ap (λ (l : List Item). forms (map (about_item Module) l)) i

module _ {S F : Type 0} (m : Meanings S F) (within : Bool) (text : List ℕ) (start depth : ℕ) (u : IsUtf8 text) (b : IsCharBoundary text start) where
  pub begins : (tokens : List Token) (end : ℕ) (stop : Stop) (a : S) → IsWindow text start tokens end stop
      → FedSoFar m within text start start depth false tokens stop tokens end stop a a
  begins tokens end stop a w = record {
    file = bare;
    reads = begun text start u b depth bare (record { shebang = refl; attrs = refl; items = refl });
    puts = nothing_put m within a;
    none = λ e. refl;
    window = w;
    empty = λ e. (refl, refl);
  }

  module _ (place : ℕ) (before after : Bool) (first : List Token) (first_stop : Stop) (tokens : List Token) (end : ℕ) (stop : Stop)
      (old mid new : S) (head : Option Head) (s : FedSoFar m within text start place depth before first first_stop tokens end stop old mid)
      (p : PutsParts m within depth tokens before after head mid new) where
    order : InOrder s.file p.file
    order = in_order s.file p.file before s.none p.inner

    abbrev now : File
    now = joined s.file p.file

    parts : PartsAs depth tokens s.file now (Ok head)
    parts = parts_onto depth tokens s.file p.file head order p.reads

    fed : Puts m old (rows within (parts_of now)) new
    fed = rows_put m within old mid new (parts_of s.file) (parts_of p.file) (parts_of now) s.puts p.puts (parts_joined s.file p.file order)

    none_now : after ≡ false → now.items ≡ []
    none_now e = let k = p.none e in ap (λ (l : List Item). l ++ p.file.items) (s.none k.0) ∙ k.1

    adds : head ≡ None → Adds depth tokens s.file now []
    adds e = subst (λ (h : Option Head). PartsAs depth tokens s.file now (Ok h)) e parts

    pub ends : (last : ℕ) → stop ≡ End → head ≡ None → PutsBody m within depth text start last first first_stop false old new
    ends last e h = record {
      file = now;
      reads = at_end text start u b depth place end s.file now tokens stop head s.reads s.window parts last e h;
      puts = fed;
      empty = λ c k. cc;
    }

    pub closes : stop ≡ Closed → head ≡ None → PutsBody m within depth text start end first first_stop true old new
    closes e h = record {
      file = now;
      reads = at_closed text start u b depth place end s.file now tokens stop head s.reads s.window parts e h;
      puts = fed;
      empty = λ c k.
          let nothing = nothing_read depth tokens s.file now (adds h) k in
          let same = s.empty nothing.0 in
          (same.0 ∙ nothing.1, same.1 ∙ e);
    }

    more_so_far : stop ≡ More → head ≡ None → SoFar text start end depth now
    more_so_far e h = at_more text start u b depth place end s.file now tokens stop head s.reads s.window parts e h

    pub border_more : stop ≡ More → head ≡ None → IsCharBoundary text end
    border_more e h = more_border text start end depth now (more_so_far e h)

    pub goes_on : stop ≡ More → head ≡ None → (next : List Token) (next_end : ℕ) (next_stop : Stop) → IsWindow text end next next_end next_stop
        → FedSoFar m within text start end depth after first first_stop next next_end next_stop old new
    goes_on e h next next_end next_stop w = record {
      file = now;
      reads = more_so_far e h;
      puts = fed;
      none = none_now;
      window = w;
      empty = λ k.
          let nothing = nothing_read depth tokens s.file now (adds h) k in
          absurd (up_to_some text place end tokens (subst (Goes text place tokens end) e s.window.goes) nothing.1);
    }

    pub border_opened : stop ≡ Opened → IsCharBoundary text end
    border_opened e = opened_border text start u b depth place end s.file now tokens stop head s.reads s.window parts e

    module _ (d : ℕ) (one : Head) (behind : ℕ) (last : S) (e : stop ≡ Opened) (h : head ≡ Some one) (n : suc d ≡ depth)
        (q : PutsModule m within d text end behind one new last) where
      abbrev item : Item
      item = module_of one q.body

      abbrev with_module : File
      with_module = record { shebang = now.shebang; attrs = now.attrs; items = now.items ++ item ∷ [] }

      parts_with : parts_of with_module ≡ parts_of now ++ form_of_item item ∷ []
      parts_with = one_more now with_module item refl refl

      module_so_far : SoFar text start behind depth with_module
      module_so_far =
          at_module text start u b depth place end s.file now tokens stop head s.reads s.window parts d one q.body with_module behind e h n q.reads refl refl refl

      pub border_behind : IsCharBoundary text behind
      border_behind = more_border text start behind depth with_module module_so_far

      pub goes_on_behind : (next : List Token) (next_end : ℕ) (next_stop : Stop) → IsWindow text behind next next_end next_stop
          → FedSoFar m within text start behind depth true first first_stop next next_end next_stop old last
      goes_on_behind next next_end next_stop w = record {
        file = with_module;
        reads = module_so_far;
        puts = rows_put m within old new last (parts_of now) (form_of_item item ∷ []) (parts_of with_module) fed q.puts parts_with;
        none = λ k. cc;
        window = w;
        empty = λ k. absurd (one_there (parts_of now) (form_of_item item) (sym parts_with ∙ k));
      }

-- ---- a module

-- The first window is its closing brace alone.
pub is_empty_so : (tokens : List Token) (stop : Stop) → is_empty_body tokens stop ≡ true → (tokens ≡ []) × (stop ≡ Closed)
is_empty_so [] Closed e = (refl, refl)
is_empty_so [] End e = cc
is_empty_so [] More e = cc
is_empty_so [] Opened e = cc
is_empty_so (t ∷ ts) Closed e = cc
is_empty_so (t ∷ ts) End e = cc
is_empty_so (t ∷ ts) More e = cc
is_empty_so (t ∷ ts) Opened e = cc

-- It isn't.
not_empty : (tokens : List Token) (stop : Stop) → is_empty_body tokens stop ≡ false → (tokens ≡ []) × (stop ≡ Closed) → ⊥
not_empty tokens stop e k =
    let yes : is_empty_body [] Closed ≡ false = subst (λ (ts : List Token). is_empty_body ts Closed ≡ false) k.0 (subst (λ (z : Stop). is_empty_body tokens z ≡ false) k.1 e) in
    cc

module _ {S F : Type 0} (m : Meanings S F) (within : Bool) (text : List ℕ) (start d : ℕ) (u : IsUtf8 text) (b : IsCharBoundary text start)
    (head : Head) (tokens : List Token) (end : ℕ) (stop : Stop) (w : IsWindow text start tokens end stop) where
  pub empty_module_put : (old new : S) → is_empty_body tokens stop ≡ true → Puts m old (empty_module within head) new
      → PutsModule m within d text start end head old new
  empty_module_put old new e p =
      let k = is_empty_so tokens stop e in
      let only : IsWindow text start [] end Closed =
      subst (λ (ts : List Token). IsWindow text start ts end Closed) k.0 (subst (λ (z : Stop). IsWindow text start tokens end z) k.1 w) in
      let none : Adds d [] bare bare [] = record { read = []; added = refl; normal = λ n. n; shebang = refl; spelled = refl } in
      record {
        body = bare;
        reads = at_closed text start u b d start end bare bare [] Closed None
            (begun text start u b d bare (record { shebang = refl; attrs = refl; items = refl })) only none refl refl;
        puts = same_puts m old new (empty_module within head) (rows within (form_of_item (module_of head bare) ∷ [])) p (empty_line within head);
      }

  pub may_end : (old mid new : S) (behind : ℕ) (closed : Bool) → Puts m old (opening within head) mid
      → PutsBody m true d text start behind tokens stop closed mid new → 0 < m.groups new
  may_end old mid new behind closed p q = may_close m old mid new within head (parts_of q.file) p q.puts

  pub full_module_put : (old mid new last : S) (behind : ℕ) → is_empty_body tokens stop ≡ false → Puts m old (opening within head) mid
      → PutsBody m true d text start behind tokens stop true mid new → Puts m new (closing within) last
      → PutsModule m within d text start behind head old last
  full_module_put old mid new last behind e p q r =
      let full : parts_of q.file ≡ [] → ⊥ = λ k. not_empty tokens stop e (q.empty refl k) in
      record {
        body = q.file;
        reads = q.reads;
        puts = then_puts p (then_puts q.puts r refl) (full_line within head q.file full);
      }

-- ---- a file

pub file_put : {S F : Type 0} (m : Meanings S F) (depth : ℕ) (text : List ℕ) (start end : ℕ) (first : List Token) (stop : Stop) (old new : S)
    → IsUtf8 text → IsCharBoundary text start → PutsBody m false depth text start end first stop false old new → PutsFile m depth text start old new
file_put m depth text start end first stop old new u b q =
    let r = file_read depth text start q.file u b q.reads in record {
      file = q.file;
      reads = r;
      puts = same_puts m old new (rows false (parts_of q.file)) (stream (layout_of_file q.file)) q.puts (file_rows q.file r.0);
    }
