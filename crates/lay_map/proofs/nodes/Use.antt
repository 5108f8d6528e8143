-- Use trees tell their units, and begin with a token that isn't dropped.
use Rattle.std.proofs.Common.{true, ◌&&◌, List, [], ◌∷◌, codes, map, refl, sym, subst, Option, Some, None}
use Rattle.std.proofs.lemmas.Bool.{and_parts}
use Rattle.lay_piece.specs.declared.kind.Delim.TheVariants.{Brace}
use Rattle.lay_piece.specs.declared.kind.Kind.TheVariants.{Underscore}
use Rattle.lay_form.specs.Form.{Blank, Operator, Form, Piece, Part, keyword, opener, closer}
use Rattle.lay_form.specs.Notation.{comma_gap, comma_list, each, last_break, piece}
use Rattle.lay_form.specs.Pieces.{are_pieces}
use Rattle.lay_node.specs.Words.{colons}
use Rattle.lay_node.specs.nodes.Facts.{Facts, forms}
use Rattle.lay_node.specs.nodes.Use.{about_use, about_use_end, end_facts, rename_form, words_form}
use Rattle.lay_node.specs.declared.token.GivenName.{GivenName}
use Rattle.lay_node.specs.declared.token.GivenName.TheVariants as given_name
use Rattle.lay_node.specs.declared.token.Word as node
use Rattle.lay_node.specs.declared.use_tree.UseEnd.{UseEnd}
use Rattle.lay_node.specs.declared.use_tree.UseEnd.TheFolds as use_fold
use Rattle.lay_node.specs.declared.use_tree.UseEnd.TheOpen.{UseEnd-F, UseTree-F}
use Rattle.lay_node.specs.declared.use_tree.UseEnd.TheViews as views
use Rattle.lay_node.specs.declared.use_tree.UseTree.{UseTree}
use Rattle.lay_node.proofs.nodes.UseLaws as laws
use Rattle.lay_map.specs.spelling.Choice.{firm}
use Rattle.lay_map.specs.spelling.Units.{Word}
use Rattle.lay_map.proofs.BodyRules.{Calms, First, brace_list, calm_all, first_of}
use Rattle.lay_map.proofs.Rules.{All, Firm, Plain, Tells, anywhere, deep, ends, firm_deep, firm_fixed, firm_part, fixed, leaf, part}
use Rattle.lay_map.proofs.nodes.Attrs.{firm_when, firm_word, whenever, word}

-- ---- another name

pub rename_tells : {Next : List Word → Type 0} (r : Option GivenName) → Tells Next (rename_form r)
rename_tells None = ends
rename_tells (Some (given_name.Name name)) = fixed (Blank ∷ keyword (codes "as") ∷ Blank ∷ []) refl (word name.raw name.text ends)
rename_tells (Some given_name.Underscore) = fixed (Blank ∷ keyword (codes "as") ∷ Blank ∷ []) refl (leaf Underscore (codes "_") refl ends)

-- ---- the facts about trees

-- It tells its units, and begins with a token that isn't dropped.
pub record TreeTells (x : Facts) : Type 0 where
  pub tells : Plain x.form
  pub firm_is : Firm x.form

word_end : (w : node.Word) (r : Option GivenName) → TreeTells (end_facts (UseEnd-F.Word w r))
word_end w r = record { tells = word w.raw w.text (rename_tells r); firm_is = firm_word (rename_form r) w.raw w.text }

glob_end : TreeTells (end_facts UseEnd-F.Glob)
glob_end = record { tells = fixed (Operator (codes "*") ∷ []) refl ends; firm_is = firm_fixed (Operator (codes "*") ∷ []) refl }

-- a list in braces, of which the first element is firm
firm_list : (es : List Form) → First Firm es → Firm (comma_list true (opener Brace) (closer Brace) es)
firm_list [] c = record { go = λ w b. refl }
firm_list (e ∷ es) c = record {
  go = λ w b.
      let rest = Part (each comma_gap es) (last_break true 0 (piece (closer Brace ∷ []))) in
      c.go (and_parts (are_pieces e) (are_pieces rest) (and_parts (are_pieces e && are_pieces rest) true w).0).0 (firm rest b);
}

group_end : (xs : List Facts) → All Plain (forms xs) → All Firm (forms xs) → TreeTells (end_facts (UseEnd-F.Group xs))
group_end xs t c = record {
  tells = brace_list true (forms xs) t (first_of Calms (forms xs) (calm_all (forms xs) c));
  firm_is = firm_list (forms xs) (first_of Firm (forms xs) c);
}

words_tell : {Next : List Word → Type 0} {f : Form} (ws : List node.Word) → Tells Next f → Tells Next (words_form ws f)
words_tell [] t = t
words_tell (w ∷ ws) t = word w.raw w.text (fixed colons refl (words_tell ws t))

words_firm : {f : Form} (ws : List node.Word) → Firm f → Firm (words_form ws f)
words_firm [] t = t
words_firm {f} (w ∷ ws) t = firm_word (Piece colons (words_form ws f)) w.raw w.text

tree_from : (t : UseTree) → TreeTells (about_use_end t.end) → TreeTells (about_use t)
tree_from t k = subst TreeTells (sym (laws.use_is t)) (record {
  tells = deep (whenever t.global colons refl (words_tell t.path (part k.tells ends))) ends;
  firm_is = firm_deep (firm_when t.global colons refl (words_firm t.path (firm_part k.firm_is)));
})

-- ---- by the induction of their family

abbrev EndIs : UseEnd → Type 0
EndIs e = TreeTells (about_use_end e)

abbrev TreeIs : UseTree → Type 0
TreeIs t = TreeTells (about_use t)

abbrev KeptEnd : Type 0
KeptEnd = (e : UseEnd) × EndIs e

abbrev KeptTree : Type 0
KeptTree = (t : UseTree) × TreeIs t

trees_tell : (ys : List KeptTree) → All Plain (forms (map about_use (map (λ (y : KeptTree). y.0) ys)))
trees_tell [] = tt
trees_tell (y ∷ ys) = (y.1.tells, trees_tell ys)

trees_firm : (ys : List KeptTree) → All Firm (forms (map about_use (map (λ (y : KeptTree). y.0) ys)))
trees_firm [] = tt
trees_firm (y ∷ ys) = (y.1.firm_is, trees_firm ys)

end_step : (y : UseEnd-F KeptEnd KeptTree) → EndIs (views.roll-UseEnd (use_fold.map-UseEnd KeptEnd KeptTree UseEnd UseTree (λ y. y.0) (λ y. y.0) y))
end_step (UseEnd-F.Word w r) = subst EndIs (sym (views.rolls-Word w r)) (subst TreeTells (sym (laws.word_is w r)) (word_end w r))
end_step UseEnd-F.Glob = subst EndIs (sym views.rolls-Glob) (subst TreeTells (sym laws.glob_is) glob_end)
end_step (UseEnd-F.Group ys) =
    let trees = map (λ (y : KeptTree). y.0) ys in
    subst EndIs (sym (views.rolls-Group trees))
    (subst TreeTells (sym (laws.group_is trees)) (group_end (map about_use trees) (trees_tell ys) (trees_firm ys)))

tree_step : (y : UseTree-F KeptEnd KeptTree) → TreeIs (views.roll-UseTree (use_fold.map-UseTree KeptEnd KeptTree UseEnd UseTree (λ y. y.0) (λ y. y.0) y))
tree_step y = tree_from _ y.end.1

tree_told : (t : UseTree) → TreeIs t
tree_told = use_fold.ind-UseTree EndIs TreeIs
    (λ x y is. subst (λ z. EndIs (views.roll-UseEnd z)) is (end_step y))
    (λ x y is. subst (λ z. TreeIs (views.roll-UseTree z)) is (tree_step y))

pub use_tells : {Next : List Word → Type 0} (t : UseTree) → Tells Next (about_use t).form
use_tells t = anywhere (tree_told t).tells
