-- The streams of use trees.
use Rattle.std.proofs.Common.{◌≡◌, Bool, true, false, cond, List, [], ◌∷◌, ◌++◌, map, codes, Option, Some, refl, sym, ap, ◌∙◌, append_assoc}
use Rattle.lay_layout.specs.declared.layout.Tok.{Tok}
use Rattle.lay_layout.specs.declared.layout.Tok.TheVariants as tok
use Rattle.lay_piece.specs.declared.kind.Delim.TheVariants.{Brace}
use Rattle.lay_form.specs.Form.{Form, Done, Part, Piece, closer, opener}
use Rattle.lay_form.specs.Notation.{comma_list, piece}
use Rattle.lay_form.specs.Stream.{fed, stream_of}
use Rattle.lay_node.specs.Words.{colons, leaf_of}
use Rattle.lay_node.specs.nodes.Facts.{Facts, forms}
use Rattle.lay_node.specs.nodes.Use.{about_use, about_use_end, rename_form, words_form}
use Rattle.lay_node.specs.declared.token.GivenName.{GivenName}
use Rattle.lay_node.specs.declared.token.GivenName.TheVariants as given
use Rattle.lay_node.specs.declared.token.Name.{Name}
use Rattle.lay_node.specs.declared.token.Word.{Word}
use Rattle.lay_node.specs.declared.use_tree.UseEnd.{UseEnd}
use Rattle.lay_node.specs.declared.use_tree.UseEnd.TheVariants as use_end
use Rattle.lay_node.specs.declared.use_tree.UseTree.{UseTree}
use Rattle.lay_node.proofs.nodes.UseLaws.{glob_is, group_is, use_is, word_is}
use Rattle.lay_out_tokens.proofs.StreamParts.{leaf_more}
use Rattle.lay_out_types.specs.Rows.{comma_between, further, list_closed, list_opened, row}
use Rattle.lay_out_types.proofs.FormRows.{are_none, list_is}
use Rattle.lay_out_types.proofs.TypeLemmas.{form_of, forms_are, when_more}
use Rattle.lay_out_heads.specs.HeadRows.{word_colons}

-- equal facts have equal streams
same : {x y : Facts} → x ≡ y → stream_of x.form ≡ stream_of y.form
same e = ap (λ (x : Facts). stream_of x.form) e

-- ---- words

words_more : (ws : List Word) (f : Form) → stream_of (words_form ws Done) ++ stream_of f ≡ stream_of (words_form ws f)
words_more [] f = refl
words_more (w ∷ ws) f =
    let word = stream_of (leaf_of w.raw w.text Done) in
    ap (λ (s : List Tok). s ++ stream_of f) (sym (leaf_more w.raw w.text (Piece colons (words_form ws Done))))
    ∙ append_assoc word (tok.Text (codes "::") ∷ stream_of (words_form ws Done)) (stream_of f)
    ∙ ap (λ (s : List Tok). word ++ (tok.Text (codes "::") ∷ s)) (words_more ws f)
    ∙ leaf_more w.raw w.text (Piece colons (words_form ws f))

pub word_is_put : (w : Word)
    → stream_of (leaf_of w.raw w.text Done) ++ (tok.Text (codes "::") ∷ []) ≡ stream_of (word_colons w)
word_is_put w = leaf_more w.raw w.text (Piece colons Done)

words_further : (ws : List Word) → further [] (map word_colons ws) ≡ stream_of (words_form ws Done)
words_further [] = refl
words_further (w ∷ ws) =
    ap (λ (s : List Tok). stream_of (word_colons w) ++ s) (words_further ws)
    ∙ words_more (w ∷ []) (words_form ws Done)

pub words_are : (ws : List Word) → row [] [] (map word_colons ws) ≡ stream_of (words_form ws Done)
words_are [] = refl
words_are (w ∷ ws) = words_further (w ∷ ws)

-- ---- use trees

pub use_parts : (tree : UseTree) (put : List Word) → put ≡ tree.path
    → cond tree.global (tok.Text (codes "::") ∷ []) []
    ++ (stream_of (words_form put Done) ++ stream_of (about_use_end tree.end).form) ≡ stream_of (about_use tree).form
use_parts tree put e =
    let end = Part (about_use_end tree.end).form Done in
    rw e (ap (λ (s : List Tok). cond tree.global (tok.Text (codes "::") ∷ []) [] ++ s) (words_more tree.path end)
    ∙ when_more tree.global colons (codes "::") (words_form tree.path end) (λ g. refl)
    ∙ sym (same (use_is tree)))

pub word_end : (e : UseEnd) (word : Word) (renamed : Option GivenName) → e ≡ use_end.Word word renamed
    → stream_of (leaf_of word.raw word.text Done) ++ stream_of (rename_form renamed) ≡ stream_of (about_use_end e).form
word_end e word renamed is =
    leaf_more word.raw word.text (rename_form renamed)
    ∙ sym (ap (λ (x : UseEnd). stream_of (about_use_end x).form) is ∙ same (word_is word renamed))

pub glob_end : (e : UseEnd) → e ≡ use_end.Glob → tok.Text (codes "*") ∷ [] ≡ stream_of (about_use_end e).form
glob_end e is = sym (ap (λ (x : UseEnd). stream_of (about_use_end x).form) is ∙ same glob_is)

pub group_end : (e : UseEnd) (trees put : List UseTree) → e ≡ use_end.Group trees → put ≡ trees
    → stream_of (comma_list true (opener Brace) (closer Brace) (forms (map about_use put)))
    ≡ stream_of (about_use_end e).form
group_end e trees put is same_trees =
    rw same_trees (sym (ap (λ (x : UseEnd). stream_of (about_use_end x).form) is ∙ same (group_is trees)))

abbrev pub tree_form : UseTree → Form
tree_form = form_of about_use

pub trees_are : (trees : List UseTree) (bare : Bool) → bare ≡ are_none (map tree_form trees)
    → row (list_opened (codes "{")) comma_between (map tree_form trees) ++ list_closed true bare (codes "{}") (codes "}")
    ≡ stream_of (comma_list true (opener Brace) (closer Brace) (forms (map about_use trees)))
trees_are trees bare is =
    list_is true (opener Brace) (closer Brace) (codes "{") (codes "{}") (codes "}") (λ f more. refl) brace_closes refl
    (map tree_form trees) bare is
    ∙ ap (λ (es : List Form). stream_of (comma_list true (opener Brace) (closer Brace) es)) (forms_are about_use trees)
  where
    brace_closes : (q : Bool) (more : List Tok) → fed q (piece (closer Brace ∷ [])) more ≡ tok.Text (codes "}") ∷ more
    brace_closes true more = refl
    brace_closes false more = refl

-- ---- another name

pub no_name : (x : Option GivenName) (g : GivenName) → x ≡ Some g → g ≡ given.Underscore
    → tok.Text (codes " as ") ∷ tok.Text (codes "_") ∷ [] ≡ stream_of (rename_form x)
no_name x g is e = rw (is, e) refl

pub new_name : (x : Option GivenName) (g : GivenName) (name : Name) → x ≡ Some g → g ≡ given.Name name
    → tok.Text (codes " as ") ∷ stream_of (leaf_of name.raw name.text Done) ≡ stream_of (rename_form x)
new_name x g name is e = rw (is, e) refl
