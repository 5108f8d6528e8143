-- Samples of use trees: how they are laid out, what spells them, what may follow, and what they need of the depth.
use Rattle.std.proofs.Common.{◌≡◌, ℕ, suc, Bool, true, false, List, [], ◌∷◌, ◌++◌, Some, None, inl, inr, codes, refl}
use Rattle.std.specs.Prelude.{replicate}
use Rattle.lay_token.specs.Operators.{op_at}
use Rattle.lay_piece.specs.declared.kind.Delim.TheVariants.{Brace}
use Rattle.lay_piece.specs.declared.kind.Kind.TheVariants.{Underscore}
use Rattle.lay_token.specs.declared.token.Token.{Token}
use Rattle.lay_form.specs.Depth.{least_depth}
use Rattle.lay_form.specs.Form.{Operator, Done, Piece, Part, LastComma, comma, opener, closer}
use Rattle.lay_form.specs.Notation.{Z, piece, when, each, comma_gap}
use Rattle.lay_form.specs.Spelled.{MayBe, Spells}
use Rattle.lay_node.specs.Follow.{may_follow}
use Rattle.lay_node.specs.nodes.Facts.{Facts}
use Rattle.lay_node.specs.nodes.Use.{words_form, about_use, about_use_end}
use Rattle.lay_node.specs.reader.Loops.{repeat_from, repeat, elements_from, elements}
use Rattle.lay_node.specs.reader.Use.{use_at}
use Rattle.lay_node.specs.reader.Words.{word as word_reading, path_word, path_words}
use Rattle.lay_node.specs.declared.token.GivenName.TheVariants as given_name
use Rattle.lay_node.specs.declared.token.Word.{Word}
use Rattle.lay_node.specs.declared.use_tree.UseEnd.{UseEnd}
use Rattle.lay_node.specs.declared.use_tree.UseEnd.TheVariants as use_end
use Rattle.lay_node.specs.declared.use_tree.UseTree.{UseTree}
use Rattle.lay_node.proofs.nodes.UseLaws as uses
use Rattle.lay_node.proofs.samples.Trees.{named, plain, a, b, c, tree_of, word_of, group_of, word_facts, tree_is, word_is, group_is, laid, Spelt, token, word, mark, colons, opens, closes}

-- ---- layouts

laid_global : laid (about_use (tree_of true [] (use_end.Word (plain a) None))) ≡ codes "::a"
laid_global = rw (tree_is true [] _ _ (uses.word_is (plain a) None)) refl

laid_path : laid (about_use (tree_of false (plain a ∷ plain b ∷ []) (use_end.Word (plain c) None))) ≡ codes "a::b::c"
laid_path = rw (tree_is false (plain a ∷ plain b ∷ []) _ _ (uses.word_is (plain c) None)) refl

laid_as : laid (about_use (word_of a (Some (given_name.Name (named b))))) ≡ codes "a as b"
laid_as = rw (word_is a (Some (given_name.Name (named b)))) refl

laid_as_underscore : laid (about_use (word_of a (Some given_name.Underscore))) ≡ codes "a as _"
laid_as_underscore = rw (word_is a (Some given_name.Underscore)) refl

laid_glob : laid (about_use (tree_of false (plain a ∷ []) use_end.Glob)) ≡ codes "a::*"
laid_glob = rw (tree_is false (plain a ∷ []) _ _ uses.glob_is) refl

laid_no_trees : laid (about_use (tree_of false [] (use_end.Group []))) ≡ codes "{}"
laid_no_trees = rw (tree_is false [] _ _ (uses.group_is [])) refl

laid_trees : laid (about_use (group_of b c)) ≡ codes "a::{b, c}"
laid_trees = rw (group_is b c) refl

-- `crate::{self as a, *}`
abbrev self_and_all : UseTree
self_and_all = tree_of false (plain (codes "crate") ∷ [])
    (use_end.Group (word_of (codes "self") (Some (given_name.Name (named a))) ∷ tree_of false [] use_end.Glob ∷ []))

laid_self : laid (about_use self_and_all) ≡ codes "crate::{self as a, *}"
laid_self =
    rw (
      tree_is false (plain (codes "crate") ∷ []) _ _
          (uses.group_is (word_of (codes "self") (Some (given_name.Name (named a))) ∷ tree_of false [] use_end.Glob ∷ [])),
      word_is (codes "self") (Some (given_name.Name (named a))),
      tree_is false [] _ _ uses.glob_is,
    )
    refl

-- two names that do not fit on one line
laid_long : laid (about_use (group_of (replicate 48 98) (replicate 48 99)))
    ≡ codes "a::{\n    " ++ (replicate 48 98 ++ (codes ",\n    " ++ (replicate 48 99 ++ codes ",\n}")))
laid_long = rw (group_is (replicate 48 98) (replicate 48 99)) refl

-- ---- spellings

tree_spelled : (global : Bool) (path : List Word) (end : UseEnd) (F : Facts) (ts : List Token) → about_use_end end ≡ F
    → Spells (when global (Operator (codes "::") ∷ []) (words_form path (Part F.form Done))) 255 ts []
    → Spelt (about_use (tree_of global path end)) ts
tree_spelled global path end F ts e s = rw (tree_is global path end F e) (_, s, refl)

word_spelled : (depth : ℕ) (text : List ℕ) (ts : List Token) → Spells (word_facts text None).form (suc depth) (word text ∷ ts) ts
word_spelled depth text ts = (_, (_, (_, (refl, refl, refl), refl), refl), refl)

spelled_global : Spelt (about_use (tree_of true [] (use_end.Word (plain a) None))) (colons (word a ∷ []))
unfolding op_at
spelled_global =
    tree_spelled _ _ _ _ _ (uses.word_is (plain a) None) (_, (_, (refl, refl), refl), (_, (_, (refl, refl, refl), refl), refl))

spelled_path : Spelt (about_use (tree_of false (plain a ∷ []) (use_end.Word (plain b) None))) (word a ∷ colons (word b ∷ []))
unfolding op_at
spelled_path =
    tree_spelled _ _ _ _ _ (uses.word_is (plain b) None)
    (_, (refl, refl, refl), (_, (_, (refl, refl), refl), (_, (_, (refl, refl, refl), refl), refl)))

spelled_as : Spelt (about_use (word_of a (Some (given_name.Name (named b))))) (word a ∷ word (codes "as") ∷ word b ∷ [])
spelled_as =
    tree_spelled _ _ _ _ _ (uses.word_is (plain a) (Some (given_name.Name (named b))))
    (_, (_, (refl, refl, refl), (_, (_, refl, (_, (refl, refl, refl), (_, refl, refl))), (_, (refl, refl, refl), refl))), refl)

spelled_as_underscore : Spelt (about_use (word_of a (Some given_name.Underscore))) (word a ∷ word (codes "as") ∷ token Underscore (codes "_") false ∷ [])
spelled_as_underscore =
    tree_spelled _ _ _ _ _ (uses.word_is (plain a) (Some given_name.Underscore))
    (_, (_, (refl, refl, refl), (_, (_, refl, (_, (refl, refl, refl), (_, refl, refl))), (_, (refl, refl, refl), refl))), refl)

spelled_glob : Spelt (about_use (tree_of false [] use_end.Glob)) (mark (codes "*") ∷ [])
unfolding op_at
spelled_glob = tree_spelled _ _ _ _ _ uses.glob_is (_, (_, (_, (refl, refl), refl), refl), refl)

spelled_no_trees : Spelt (about_use (tree_of false [] (use_end.Group []))) (opens Brace ∷ closes Brace ∷ [])
spelled_no_trees = tree_spelled _ _ _ _ _ (uses.group_is []) (_, (_, (_, (refl, refl, refl), (_, (refl, refl, refl), refl)), refl), refl)

-- two trees, and what follows the last
trees_spelled : (ts : List Token) → MayBe comma ts (closes Brace ∷ [])
    → Spelt (about_use (group_of b c)) (word a ∷ colons (opens Brace ∷ word b ∷ mark (codes ",") ∷ word c ∷ ts))
unfolding op_at
trees_spelled ts m = rw (group_is b c) (_, (_, (refl, refl, refl), (_, (_, (refl, refl), refl), (_, (_, listed, refl), refl))), refl)
  where
    listed : Spells (Piece (opener Brace ∷ []) (Z (Part (word_facts b None).form
        (Part (each comma_gap ((word_facts c None).form ∷ [])) (LastComma 0 (piece (closer Brace ∷ []))))))) 255
        (opens Brace ∷ word b ∷ mark (codes ",") ∷ word c ∷ ts) []
    listed = (
      _,
      (_, (refl, refl, refl), refl),
      (
        _,
        word_spelled 254 b _,
        (_, (_, (_, (refl, refl, refl), refl), (_, word_spelled 254 c _, refl)), (_, m, (_, (_, (refl, refl, refl), refl), refl))),
      ),
    )

spelled_trees : Spelt (about_use (group_of b c)) (word a ∷ colons (opens Brace ∷ word b ∷ mark (codes ",") ∷ word c ∷ closes Brace ∷ []))
spelled_trees = trees_spelled _ (inl refl)

-- with a comma after the last tree
spelled_last_comma : Spelt (about_use (group_of b c))
    (word a ∷ colons (opens Brace ∷ word b ∷ mark (codes ",") ∷ word c ∷ mark (codes ",") ∷ closes Brace ∷ []))
spelled_last_comma = trees_spelled _ (inr (_, (refl, refl, refl), refl))

-- ---- what may follow

abbrev follows : UseTree → List Token → Bool
follows tree ts = may_follow (about_use tree).refuses ts

abbrev as_b : List Token
as_b = word (codes "as") ∷ word b ∷ []

a_before_as : follows (word_of a None) as_b ≡ false
unfolding op_at
a_before_as = rw (word_is a None) refl

a_as_b_before_as : follows (word_of a (Some (given_name.Name (named b)))) as_b ≡ true
unfolding op_at
a_as_b_before_as = rw (word_is a (Some (given_name.Name (named b)))) refl

a_glob_before_as : follows (tree_of false [] use_end.Glob) as_b ≡ true
unfolding op_at
a_glob_before_as = rw (tree_is false [] _ _ uses.glob_is) refl

a_group_before_as : follows (group_of b c) as_b ≡ true
unfolding op_at
a_group_before_as = rw (group_is b c) refl

a_before_colons : follows (word_of a None) (colons (word b ∷ [])) ≡ false
unfolding op_at
a_before_colons = rw (word_is a None) refl

a_group_before_colons : follows (group_of b c) (colons (word b ∷ [])) ≡ false
unfolding op_at
a_group_before_colons = rw (group_is b c) refl

a_before_a_semicolon : follows (word_of a None) (mark (codes ";") ∷ []) ≡ true
unfolding op_at
a_before_a_semicolon = rw (word_is a None) refl

-- ---- what they need

a_needs_one : least_depth (about_use (word_of a None)).form ≡ 1
a_needs_one = rw (word_is a None) refl

a_group_needs_two : least_depth (about_use (group_of b c)).form ≡ 2
a_group_needs_two = rw (group_is b c) refl

abbrev group_in_group : UseTree
group_in_group = tree_of false [] (use_end.Group (tree_of false [] (use_end.Group []) ∷ []))

abbrev braces_in_braces : List Token
braces_in_braces = opens Brace ∷ opens Brace ∷ closes Brace ∷ closes Brace ∷ []

-- `{{}}` is read within three levels, of which it needs two, and not within one.
read_within_three : use_at 3 braces_in_braces ≡ Some ((group_in_group, 2), [])
unfolding use_at path_words repeat repeat_from path_word word_reading elements elements_from op_at
read_within_three = refl

not_within_one : use_at 1 braces_in_braces ≡ None
unfolding use_at path_words repeat repeat_from path_word word_reading elements elements_from op_at
not_within_one = refl
