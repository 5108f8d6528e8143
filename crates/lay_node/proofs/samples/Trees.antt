-- Small trees and tokens that samples are about, and the facts about the trees.
use Rattle.std.proofs.Common.{◌≡◌, ℕ, Bool, true, false, List, [], ◌∷◌, Option, None, codes, ap, ◌∙◌, refl}
use Rattle.lay_layout.specs.Document.{text_of}
use Rattle.lay_piece.specs.Forms.{opening, closing}
use Rattle.lay_piece.specs.declared.kind.Delim.{Delim}
use Rattle.lay_piece.specs.declared.kind.Kind.{Kind}
use Rattle.lay_piece.specs.declared.kind.Kind.TheVariants.{Ident, Punct, Opener, Closer}
use Rattle.lay_token.specs.declared.token.Token.{Token}
use Rattle.lay_form.specs.Layout.{document}
use Rattle.lay_form.specs.Spelled.{Spells}
use Rattle.lay_node.specs.nodes.Facts.{Facts}
use Rattle.lay_node.specs.nodes.Use.{end_facts, tree_facts, about_use, about_use_end}
use Rattle.lay_node.specs.declared.token.GivenName.{GivenName}
use Rattle.lay_node.specs.declared.token.Name.{Name}
use Rattle.lay_node.specs.declared.token.Word.{Word}
use Rattle.lay_node.specs.declared.use_tree.UseEnd.{UseEnd}
use Rattle.lay_node.specs.declared.use_tree.UseEnd.TheOpen.{UseEnd-F}
use Rattle.lay_node.specs.declared.use_tree.UseEnd.TheVariants as use_end
use Rattle.lay_node.specs.declared.use_tree.UseTree.{UseTree}
use Rattle.lay_node.proofs.nodes.UseLaws as uses

-- ---- trees

abbrev pub named : List ℕ → Name
named text = record { raw = false; text = text }

abbrev pub plain : List ℕ → Word
plain text = record { raw = false; text = text }

abbrev pub a : List ℕ
a = codes "a"

abbrev pub b : List ℕ
b = codes "b"

abbrev pub c : List ℕ
c = codes "c"

abbrev pub tree_of : Bool → List Word → UseEnd → UseTree
tree_of global path end = record { global = global; path = path; end = end }

abbrev pub word_of : List ℕ → Option GivenName → UseTree
word_of text renamed = tree_of false [] (use_end.Word (plain text) renamed)

-- `a::{one, two}`
abbrev pub group_of : List ℕ → List ℕ → UseTree
group_of one two = tree_of false (plain a ∷ []) (use_end.Group (word_of one None ∷ word_of two None ∷ []))

-- ---- the facts about them

abbrev pub tree_facts_of : Bool → List Word → Facts → Facts
tree_facts_of global path end = tree_facts (record { global = global; path = path; end = end })

abbrev pub word_facts : List ℕ → Option GivenName → Facts
word_facts text renamed = tree_facts_of false [] (end_facts (UseEnd-F.Word (plain text) renamed))

abbrev pub group_facts : List ℕ → List ℕ → Facts
group_facts one two = tree_facts_of false (plain a ∷ []) (end_facts (UseEnd-F.Group (word_facts one None ∷ word_facts two None ∷ [])))

pub tree_is : (global : Bool) (path : List Word) (end : UseEnd) (F : Facts) → about_use_end end ≡ F
    → about_use (tree_of global path end) ≡ tree_facts_of global path F
tree_is global path end F e = uses.use_is (tree_of global path end) ∙ ap (tree_facts_of global path) e

pub word_is : (text : List ℕ) (renamed : Option GivenName) → about_use (word_of text renamed) ≡ word_facts text renamed
word_is text renamed = tree_is false [] _ _ (uses.word_is (plain text) renamed)

pub group_is : (one two : List ℕ) → about_use (group_of one two) ≡ group_facts one two
group_is one two = tree_is false (plain a ∷ []) _ _ (uses.group_is (word_of one None ∷ word_of two None ∷ []) ∙ both)
  where
    both : end_facts (UseEnd-F.Group (about_use (word_of one None) ∷ about_use (word_of two None) ∷ []))
        ≡ end_facts (UseEnd-F.Group (word_facts one None ∷ word_facts two None ∷ []))
    both = rw (word_is one None, word_is two None) refl

-- ---- layouts and spellings

abbrev pub laid : Facts → List ℕ
laid x = text_of (document x.form)

-- The tokens spell the node, and nothing is left.
abbrev pub Spelt : Facts → List Token → Type 0
Spelt x ts = Spells x.form 256 ts []

abbrev pub token : Kind → List ℕ → Bool → Token
token kind text joint = record { kind = kind; joint = joint; text = text; at = 0; len = 0 }

abbrev pub word : List ℕ → Token
word text = token Ident text false

abbrev pub mark : List ℕ → Token
mark text = token Punct text false

abbrev pub colons : List Token → List Token
colons ts = token Punct (codes ":") true ∷ mark (codes ":") ∷ ts

abbrev pub opens : Delim → Token
opens d = token (Opener d) (opening d ∷ []) false

abbrev pub closes : Delim → Token
closes d = token (Closer d) (closing d ∷ []) false
