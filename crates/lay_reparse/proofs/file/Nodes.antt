-- The form of each node passes: about a line for each part.
use Rattle.std.proofs.Common.{◌≡◌, ℕ, ◌⊎◌, inl, inr, List, [], ◌∷◌, ◌++◌, Bool, true, false, cond, not, ◌&&◌, sym, refl, ◌∙◌, subst, codes, map, Option, Some, None}
use Rattle.std.specs.List.{list_all}
use Rattle.std.specs.Str.{encode_utf8_all, is_utf8, bytes_eq}
use Rattle.std.proofs.lemmas.Bool.{and_parts, and_from}
use Rattle.std.proofs.lemmas.Slice.Eq.{bytes_eq-Decides}
use Rattle.lay_piece.specs.Forms.{has_form, is_number_kind}
use Rattle.lay_token.specs.Lexes.{text_of_piece}
use Rattle.lay_piece.specs.declared.kind.Delim.{Delim}
use Rattle.lay_piece.specs.declared.kind.Delim.TheVariants.{Paren, Bracket, Brace}
use Rattle.lay_piece.specs.declared.kind.Kind.{Kind}
use Rattle.lay_piece.specs.declared.kind.Kind.TheVariants.{Ident, RawIdent, Underscore, Doc}
use Rattle.lay_form.specs.Form as form
use Rattle.lay_form.specs.Form.{Bit, Blank, Form, Done, Piece, Deeper, keyword, opener, closer}
use Rattle.lay_form.specs.Notation.{H, piece, each, comma_gap, last_break, comma_list, body, behind_attrs, when, lines}
use Rattle.lay_form.specs.Pieces.{is_text_of, are_pieces}
use Rattle.lay_form.specs.Spelled.{attr_opening}
use Rattle.lay_node.specs.Words.{leaf_of, colons}
use Rattle.lay_node.specs.nodes.Attr.{same_flag, is_meta_path, is_empty, is_input, is_attr, are_attrs, meta_path_form, input_form, attr_form}
use Rattle.lay_node.specs.nodes.Call.{is_group, bang, call_form, about_call}
use Rattle.lay_node.specs.nodes.Facts.{Facts, forms}
use Rattle.lay_node.specs.nodes.SimplePath.{is_simple_path, simple_words_form, simple_path_form}
use Rattle.lay_node.specs.nodes.Use.{rename_form, words_form, about_use, about_use_end}
use Rattle.lay_node.specs.tokens.Listing.{is_doc_text}
use Rattle.lay_node.specs.tokens.Lists.{group_form, ends_in_line}
use Rattle.lay_node.specs.declared.attr.Attr.{Attr}
use Rattle.lay_node.specs.declared.attr.Attr.TheVariants as attr
use Rattle.lay_node.specs.declared.attr.MetaInput.{MetaInput}
use Rattle.lay_node.specs.declared.attr.MetaInput.TheVariants as input
use Rattle.lay_node.specs.declared.attr.MetaPath.{MetaPath}
use Rattle.lay_node.specs.declared.attr.MetaPath.TheVariants as meta_path
use Rattle.lay_node.specs.declared.simple_path.SimplePath.{SimplePath}
use Rattle.lay_node.specs.declared.token.GivenName.{GivenName}
use Rattle.lay_node.specs.declared.token.GivenName.TheVariants as given_name
use Rattle.lay_node.specs.declared.token.Word.{Word}
use Rattle.lay_node.specs.declared.tokens.Group.{Group}
use Rattle.lay_node.specs.declared.tokens.MacroCall.{MacroCall}
use Rattle.lay_node.specs.declared.use_tree.UseEnd.{UseEnd}
use Rattle.lay_node.specs.declared.use_tree.UseEnd.TheFolds as use_fold
use Rattle.lay_node.specs.declared.use_tree.UseEnd.TheOpen.{UseTree-F, UseEnd-F}
use Rattle.lay_node.specs.declared.use_tree.UseEnd.TheViews.{roll-UseTree, roll-UseEnd, rolls-Word, rolls-Glob, rolls-Group}
use Rattle.lay_node.specs.declared.use_tree.UseTree.{UseTree}
use Rattle.lay_node.proofs.nodes.UseLaws.{use_is, word_is, glob_is, group_is}
use Rattle.lay_node.proofs.reader.Attr.{flag_same}
use Rattle.lay_reparse.proofs.borders.Need as need
use Rattle.lay_reparse.proofs.borders.Need.{RawWord, LineDoc, Grow, all}
use Rattle.lay_reparse.proofs.borders.Border.{Other, Border, At}
use Rattle.lay_reparse.proofs.borders.Move.{under}
use Rattle.lay_reparse.proofs.forms.Passes.{plain, leads, fits, doc_passes}
use Rattle.lay_reparse.proofs.forms.Rules.{same_whenever, tables, On, From, All, ends, fixed, tree_token, part, level, documented, list_fits, list}
use Rattle.lay_reparse.proofs.texts.Laid.{as_block, raw, is_laid, is_leaf_kind}
use Rattle.lay_reparse.proofs.texts.LaidTokens.{text_laid, doc_laid}
use Rattle.lay_reparse.proofs.tokens.Rows.{opens_at, list_end}
use Rattle.lay_reparse.proofs.tokens.Within.{listed, grouped}

-- ---- tokens of the tree

-- no point stands before
pub fits_known : (k : Kind) (t : List ℕ) → is_leaf_kind k ≡ true → is_text_of k t ≡ true
    → fits (At Other) k (raw k t) && is_laid k t ≡ true
fits_known k t l h =
    let a = text_laid k t l h in
    and_from (fits (At Other) k (raw k t)) _ (at (is_number_kind k) _ a.0) a.1
  where
    at : (b x : Bool) → x ≡ true → cond b x x ≡ true
    at true x h = h
    at false x h = h

-- ---- borders

abbrev pub behind_word : Border
behind_word = record { needs = need.Word ∷ []; spot = At Other }

abbrev pub behind_raw : Border
behind_raw = record { needs = RawWord ∷ []; spot = At Other }

-- a name may have ended
abbrev pub ends_name : Border
ends_name = record { needs = need.Word ∷ RawWord ∷ []; spot = At Other }

-- `::` may have ended
abbrev pub start_path : Border
start_path = record { needs = Grow (codes "::") ∷ []; spot = At Other }

abbrev pub ends_use : Border
ends_use = record { needs = need.Word ∷ RawWord ∷ Grow (codes "*") ∷ []; spot = At Other }

-- documentation on a line may have ended
abbrev pub ends_line : Border
ends_line = record { needs = LineDoc ∷ []; spot = At Other }

-- ---- words and simple paths

abbrev word_kind : Bool → Kind
word_kind true = RawIdent
word_kind false = Ident

pub word : (raw : Bool) (t : List ℕ) {f : Form} {b c : Border}
    → all (leads Ident) b.needs && all (leads RawIdent) b.needs ≡ true
    → are_pieces (leaf_of raw t f) ≡ true → From behind_word f c → From behind_raw f c → From b (leaf_of raw t f) c
word true t {f} {b} h w k l =
    tree_token (and_parts (all (leads Ident) b.needs) _ h).1
    (fits_known RawIdent t refl (and_parts (is_text_of RawIdent t) _ w).0) l
word false t {f} {b} h w k l =
    tree_token (and_parts (all (leads Ident) b.needs) _ h).0
    (fits_known Ident t refl (and_parts (is_text_of Ident t) _ w).0) k

pub rest_pieces : (raw : Bool) (t : List ℕ) (f : Form) → are_pieces (leaf_of raw t f) ≡ true → are_pieces f ≡ true
rest_pieces true t f w = (and_parts (is_text_of RawIdent t) _ w).1
rest_pieces false t f w = (and_parts (is_text_of Ident t) _ w).1

pub simple_words_pass : (words : List Word) → are_pieces (simple_words_form words Done) ≡ true
    → From start_path (simple_words_form words Done)
    (record { needs = need.Word ∷ RawWord ∷ Grow (codes "::") ∷ []; spot = At Other })
unfolding tables
simple_words_pass [] w = ends refl
simple_words_pass (one ∷ []) w = word one.raw one.text refl w (ends refl) (ends refl)
simple_words_pass (one ∷ two ∷ more) w =
    let k = simple_words_pass (two ∷ more)
    (rest_pieces one.raw one.text (Piece colons (simple_words_form (two ∷ more) Done)) w) in
    word one.raw one.text refl w (fixed refl k) (fixed refl k)

pub when_pieces : (is_there : Bool) (p : List Bit) (f : Form) → are_pieces (when is_there p f) ≡ true
    → are_pieces f ≡ true
when_pieces true p f w = w
when_pieces false p f w = w

abbrev pub ends_path_name : Border
ends_path_name = record { needs = need.Word ∷ RawWord ∷ Grow (codes "::") ∷ []; spot = At Other }

pub simple_path_passes : (path : SimplePath) → are_pieces (simple_path_form path) ≡ true
    → From start_path (simple_path_form path) ends_path_name
unfolding tables
simple_path_passes path w = same_whenever path.global colons refl refl refl (simple_words_pass path.words (when_pieces path.global colons _ w))

-- ---- attributes

meta_path_passes : (path : MetaPath) → are_pieces (meta_path_form path) ≡ true
    → From start_path (meta_path_form path) ends_path_name
unfolding tables
meta_path_passes (meta_path.Path path) w = simple_path_passes path w
meta_path_passes meta_path.Unsafe w = fixed refl (ends refl)

-- a token list may have ended, and a `]` ends the attribute
ends_meta : (line : Bool) {c : Border} → under plain c ≡ true
    → On (Some (Bracket ∷ [])) (list_end line) (piece (closer Bracket ∷ [])) c
unfolding tables
ends_meta true u = fixed refl (ends u)
ends_meta false u = fixed refl (ends u)

opens_behind_path : (d : Delim) → opens_at ends_path_name d
unfolding tables
opens_behind_path Paren = (refl, refl)
opens_behind_path Bracket = (refl, refl)
opens_behind_path Brace = (refl, refl)

input_passes : (given : MetaInput) {c : Border} → under plain c ≡ true → is_input given ≡ true
    → On (Some (Bracket ∷ [])) ends_path_name (input_form given (piece (closer Bracket ∷ []))) c
unfolding tables
input_passes input.Bare u g = fixed refl (ends u)
input_passes (input.Group group) u g = grouped group g (opens_behind_path group.delim) (fixed refl (ends u))
input_passes (input.Value tokens) u g =
    listed tokens (and_parts (not (is_empty tokens)) _ g).1 refl (λ v. refl) refl (ends_meta (ends_in_line tokens) u)

doc_passes_plain : (inner : Bool) (t : List ℕ) → is_utf8 t ≡ true → is_doc_text inner t ≡ true
    → doc_passes plain (Doc inner (as_block inner t)) (raw (Doc inner false) t) t && is_laid (Doc inner false) t ≡ true
doc_passes_plain inner t u h =
    let f = doc_laid inner t u h in
    let k : Kind = Doc inner (as_block inner t) in
    let x = raw (Doc inner false) t in
    and_from (doc_passes plain k x t) _ (and_from (has_form k x) _ f.form
    (and_from (bytes_eq (encode_utf8_all (text_of_piece k x)) t) true
    ((bytes_eq-Decides (encode_utf8_all (text_of_piece k x)) t).1 f.text) refl))
    f.laid

-- where an attribute ends: after documentation on a line, its end
abbrev pub attr_end : Attr → Border
attr_end (attr.Doc inner t) = record { needs = cond (as_block inner t) [] (LineDoc ∷ []); spot = At Other }
attr_end (attr.Meta inner path given) = plain

pub attr_passes_to : (inner : Bool) (a : Attr) {c : Border} → under (attr_end a) c ≡ true → is_attr inner a ≡ true
    → are_pieces (attr_form a) ≡ true
    → From plain (attr_form a) c
unfolding tables
attr_passes_to inner (attr.Doc flag t) m g w =
    let p = and_parts (same_flag inner flag) _ g in
    let u = (and_parts (is_utf8 t) _ w).0 in
    documented (doc_passes_plain flag t u (subst (λ i. is_doc_text i t ≡ true) (sym (flag_same inner flag p.0)) p.1))
    (ends m)
attr_passes_to inner (attr.Meta flag path given) {c} m g w =
    let q = and_parts (same_flag inner flag && is_meta_path path && is_input given) _ g in
    let i = (and_parts (same_flag inner flag && is_meta_path path) _ q.0).1 in
    let p = and_parts (are_pieces (meta_path_form path)) _ w in
    opened flag (part start_path ends_path_name refl (meta_path_passes path p.0) (input_passes given m i))
  where
    opened : (flag : Bool) {f : Form} → On (Some (Bracket ∷ [])) plain f c → From plain (Piece (attr_opening flag) f) c
    opened true k = fixed refl k
    opened false k = fixed refl k

attr_end_under : (a : Attr) → under (attr_end a) ends_line ≡ true
attr_end_under (attr.Doc inner t) = at (as_block inner t)
  where
    at : (b : Bool) → under (record { needs = cond b [] (LineDoc ∷ []); spot = At Other }) ends_line ≡ true
    at true = refl
    at false = refl
attr_end_under (attr.Meta inner path given) = refl

attr_passes : (inner : Bool) (a : Attr) → is_attr inner a ≡ true → are_pieces (attr_form a) ≡ true
    → From plain (attr_form a) ends_line
attr_passes inner a g w = attr_passes_to inner a (attr_end_under a) g w

pub attrs_pass : (inner : Bool) (attrs : List Attr) → are_attrs inner attrs ≡ true
    → list_all are_pieces (map attr_form attrs) ≡ true → All plain (map attr_form attrs) ends_line
attrs_pass inner [] g w = tt
attrs_pass inner (a ∷ attrs) g w =
    let p = and_parts (is_attr inner a) _ g in
    let q = and_parts (are_pieces (attr_form a)) _ w in
    (attr_passes inner a p.0 q.0, attrs_pass inner attrs p.1 q.1)

-- ---- what is made of pieces is made of parts that are

pub each_pieces : (lead : Form → Form) → ((f : Form) → are_pieces (lead f) ≡ are_pieces f) → (es : List Form)
    → are_pieces (each lead es) ≡ true → list_all are_pieces es ≡ true
each_pieces lead same [] w = refl
each_pieces lead same (e ∷ es) w =
    let p = and_parts (are_pieces e) (are_pieces (each lead es)) (sym (same (form.Part e (each lead es))) ∙ w) in
    and_from (are_pieces e) _ p.0 (each_pieces lead same es p.1)

last_pieces : (may : Bool) (n : ℕ) (f : Form) → are_pieces (last_break may n f) ≡ are_pieces f
last_pieces true n f = refl
last_pieces false n f = refl

pub list_pieces : (may : Bool) (o c : Bit) (es : List Form) → are_pieces (comma_list may o c es) ≡ true
    → list_all are_pieces es ≡ true
list_pieces may o c [] w = refl
list_pieces may o c (e ∷ es) w =
    let p = and_parts (are_pieces e) _ (and_parts
    (are_pieces e && (are_pieces (each comma_gap es) && are_pieces (last_break may 0 (piece (c ∷ []))))) true w).0 in
    and_from (are_pieces e) _ p.0 (each_pieces comma_gap (λ f. refl) es
    (and_parts (are_pieces (each comma_gap es)) _ p.1).0)

pub body_pieces : (before skipped : List Bit) (es : List Form) → are_pieces (body before skipped es) ≡ true
    → list_all are_pieces es ≡ true
body_pieces before skipped [] w = refl
body_pieces before skipped (e ∷ es) w =
    each_pieces H (λ f. refl) (e ∷ es) (and_parts (are_pieces (each H (e ∷ es))) true
    (and_parts (are_pieces (each H (e ∷ es)) && true) true w).0).0

pub outer_pieces : (es : List Form) (f : Form) → are_pieces (behind_attrs es f) ≡ true
    → (list_all are_pieces es ≡ true) × (are_pieces f ≡ true)
outer_pieces [] f w = (refl, w)
outer_pieces (e ∷ es) f w =
    let p = and_parts (are_pieces e) _ w in
    let q = outer_pieces es f p.1 in
    (and_from (are_pieces e) _ p.0 q.0, q.1)

pub lines_pieces : (es : List Form) → are_pieces (lines es) ≡ true → list_all are_pieces es ≡ true
lines_pieces [] w = refl
lines_pieces (e ∷ es) w = let p = and_parts (are_pieces e) _ w in and_from (are_pieces e) _ p.0 (lines_pieces es p.1)

pub both_pieces : (xs ys : List Form) → list_all are_pieces (xs ++ ys) ≡ true
    → (list_all are_pieces xs ≡ true) × (list_all are_pieces ys ≡ true)
both_pieces [] ys w = (refl, w)
both_pieces (x ∷ xs) ys w =
    let p = and_parts (are_pieces x) _ w in
    let q = both_pieces xs ys p.1 in
    (and_from (are_pieces x) _ p.0 q.0, q.1)

pub both_all : (g h : Border) (xs ys : List Form) → All g xs h → All g ys h → All g (xs ++ ys) h
both_all g h [] ys a b = b
both_all g h (x ∷ xs) ys a b = (a.0, both_all g h xs ys a.1 b)

-- ---- use trees

steps_pass : (ws : List Word) {f : Form} {c : Border} → are_pieces (words_form ws f) ≡ true → From start_path f c
    → From start_path (words_form ws f) c
unfolding tables
steps_pass [] w k = k
steps_pass (x ∷ ws) {f} w k =
    let l = steps_pass ws (rest_pieces x.raw x.text (Piece colons (words_form ws f)) w) k in
    word x.raw x.text refl w (fixed refl l) (fixed refl l)

steps_pieces : (ws : List Word) (f : Form) → are_pieces (words_form ws f) ≡ true → are_pieces f ≡ true
steps_pieces [] f w = w
steps_pieces (x ∷ ws) f w = steps_pieces ws f (rest_pieces x.raw x.text (Piece colons (words_form ws f)) w)

pub rename_passes : (r : Option GivenName) {b : Border} → (b ≡ behind_word) ⊎ (b ≡ behind_raw)
    → are_pieces (rename_form r) ≡ true → From b (rename_form r) ends_use
unfolding tables
rename_passes r (inl e) w = subst (λ b. From b (rename_form r) ends_use) (sym e) (at r w)
  where
    at : (r : Option GivenName) → are_pieces (rename_form r) ≡ true → From behind_word (rename_form r) ends_use
    at None w = ends refl
    at (Some (given_name.Name n)) w = fixed refl (word n.raw n.text refl w (ends refl) (ends refl))
    at (Some given_name.Underscore) w = fixed refl
        (tree_token refl (fits_known Underscore (codes "_") refl (and_parts (is_text_of Underscore (codes "_")) _ w).0)
        (ends refl))
rename_passes r (inr e) w = subst (λ b. From b (rename_form r) ends_use) (sym e) (at r w)
  where
    at : (r : Option GivenName) → are_pieces (rename_form r) ≡ true → From behind_raw (rename_form r) ends_use
    at None w = ends refl
    at (Some (given_name.Name n)) w = fixed refl (word n.raw n.text refl w (ends refl) (ends refl))
    at (Some given_name.Underscore) w = fixed refl
        (tree_token refl (fits_known Underscore (codes "_") refl (and_parts (is_text_of Underscore (codes "_")) _ w).0)
        (ends refl))

use_list : list_fits true (opener Brace) (closer Brace) start_path start_path ends_use ends_use ≡ true
unfolding tables
use_list = refl

-- the facts about a use tree and about what it ends in
pub record UsePasses (x : Facts) : Type 0 where
  pub go : are_pieces x.form ≡ true → From start_path x.form ends_use

use_from : (t : UseTree) → UsePasses (about_use_end t.end) → UsePasses (about_use t)
unfolding tables
use_from t k = subst UsePasses (sym (use_is t)) (record {
  go = λ w.
      let end = (about_use_end t.end).form in
      let f = when t.global colons (words_form t.path (form.Part end Done)) in
      let r = when_pieces t.global colons _ (and_parts (are_pieces f) true w).0 in
      let s = (and_parts (are_pieces end) true (steps_pieces t.path _ r)).0 in
      level start_path ends_use refl
      (same_whenever t.global colons refl refl refl (steps_pass t.path r (part start_path ends_use refl (k.go s) (ends refl)))) (ends refl);
})

abbrev KeptUse : Type 0
KeptUse = (t : UseTree) × UsePasses (about_use t)

abbrev KeptEnd : Type 0
KeptEnd = (e : UseEnd) × UsePasses (about_use_end e)

uses_of : (ys : List KeptUse) → list_all are_pieces (forms (map about_use (map (λ (y : KeptUse). y.0) ys))) ≡ true
    → All start_path (forms (map about_use (map (λ (y : KeptUse). y.0) ys))) ends_use
uses_of [] w = tt
uses_of (y ∷ ys) w = let p = and_parts (are_pieces (about_use y.0).form) _ w in (y.1.go p.0, uses_of ys p.1)

abbrev EndPasses : UseEnd → Type 0
EndPasses e = UsePasses (about_use_end e)

end_step : (y : UseEnd-F KeptEnd KeptUse)
    → EndPasses (roll-UseEnd (use_fold.map-UseEnd KeptEnd KeptUse UseEnd UseTree (λ y. y.0) (λ y. y.0) y))
unfolding tables
end_step (UseEnd-F.Word x r) = subst EndPasses (sym (rolls-Word x r)) (subst UsePasses (sym (word_is x r)) (record {
  go = λ w. let q = rest_pieces x.raw x.text (rename_form r) w in
      word x.raw x.text refl w (rename_passes r (inl refl) q) (rename_passes r (inr refl) q);
}))
end_step UseEnd-F.Glob =
    subst EndPasses (sym rolls-Glob) (subst UsePasses (sym glob_is) (record { go = λ w. fixed refl (ends refl) }))
end_step (UseEnd-F.Group ys) =
    let trees = map (λ (y : KeptUse). y.0) ys in
    let es = forms (map about_use trees) in
    subst EndPasses (sym (rolls-Group trees)) (subst UsePasses (sym (group_is trees)) (record {
      go = λ w. list true _ _ es start_path ends_use use_list (uses_of ys (list_pieces true _ _ es w));
    }))

use_step : (y : UseTree-F KeptEnd KeptUse)
    → UsePasses (about_use (roll-UseTree (use_fold.map-UseTree KeptEnd KeptUse UseEnd UseTree (λ y. y.0) (λ y. y.0) y)))
use_step y = use_from _ y.end.1

pub use_passes : (t : UseTree) → UsePasses (about_use t)
use_passes = use_fold.ind-UseTree EndPasses (λ t. UsePasses (about_use t))
    (λ x y is. subst (λ z. EndPasses (roll-UseEnd z)) is (end_step y))
    (λ x y is. subst (λ z. UsePasses (about_use (roll-UseTree z))) is (use_step y))

-- ---- macro calls

-- a group after the `!` of a macro call
pub behind_bang : (group : Group) → is_group group ≡ true
    → From ends_path_name (Piece (bang group.delim) (group_form group Done)) plain
unfolding tables
behind_bang group g = by group.delim
  where
    by : (d : Delim)
        → From ends_path_name (Piece (bang d) (group_form (record { delim = d; tokens = group.tokens }) Done)) plain
    by Paren = fixed refl (grouped (record { delim = Paren; tokens = group.tokens }) g (refl, refl) (ends refl))
    by Bracket = fixed refl (grouped (record { delim = Bracket; tokens = group.tokens }) g (refl, refl) (ends refl))
    by Brace = fixed refl (grouped (record { delim = Brace; tokens = group.tokens }) g (refl, refl) (ends refl))

pub call_passes : (call : MacroCall) → (about_call call).good ≡ true → are_pieces (call_form call) ≡ true
    → From plain (call_form call) plain
unfolding tables
call_passes call g w =
    part start_path ends_path_name refl
    (simple_path_passes call.path (and_parts (are_pieces (simple_path_form call.path)) _ w).0)
    (behind_bang call.tokens (and_parts (is_simple_path call.path) _ g).1)
