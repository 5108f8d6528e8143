-- Tokens that stand in a row in what a text lexes to: what follows some of them stands so too, and each token whose
-- kind has one text has this one.
use Rattle.std.proofs.Common.{◌≡◌, ℕ, Bool, true, false, List, [], ◌∷◌, ◌++◌, not, ◌&&◌, ◌||◌, codes, Option, None, Some, refl, sym, ap, ◌∙◌, subst, arith}
use Rattle.std.specs.Prelude.{◌==◌, encode_utf8_all}
use Rattle.std.specs.List.{list_all}
use Rattle.std.specs.Str.{chars, is_utf8}
use Rattle.std.proofs.lemmas.Bool.{and_parts, eqb-true}
use Rattle.std.proofs.lemmas.Str.{encode_ascii, encodes-chars, IsUtf8-from_is_utf8}
use Rattle.lay_piece.specs.Chars.{is_lone_underscore}
use Rattle.lay_piece.specs.Forms.{had, has_form, may_precede, opening, closing}
use Rattle.lay_piece.specs.declared.kind.Kind.{Kind}
use Rattle.lay_piece.specs.declared.kind.Kind.TheVariants.{Underscore, Opener, Closer}
use Rattle.lay_token.specs.declared.token.Token.{Token}
use Rattle.lay_node.specs.Ahead.{Tokens}
use Rattle.lay_node.specs.reader.Exact.{is_loose, InText}
use Rattle.lay_node.specs.tokens.Lexed.{is_had, may_join}
use Rattle.lay_node.specs.tokens.Listing.{kind_of, text_of, as_listed, listed_by}
use Rattle.lay_node.specs.tokens.Pairs.{Single, is_joint_neighbour, is_index_place}
use Rattle.lay_node.proofs.token_lists.Grouped.{IsDelimiter, text_delimiters}

-- the one text of a kind that has no other
abbrev pub only_text : Kind → Option (List ℕ)
only_text Underscore = Some (codes "_")
only_text (Opener d) = Some (opening d ∷ [])
only_text (Closer d) = Some (closing d ∷ [])
only_text _ = None

abbrev pub IsText : Option (List ℕ) → List ℕ → Type 0
IsText None text = Unit {0}
IsText (Some only) text = text ≡ only

abbrev pub behind : (t : Token) (ts : Tokens) → InText (t ∷ ts) → InText ts
behind t ts i =
    let may = not (is_joint_neighbour i.last) || may_join i.last (Single (as_listed t)) in
    record {
      before = i.last;
      last = Single (as_listed t);
      fit = (and_parts (may && is_had (is_index_place i.before i.last) (as_listed t)) _ i.fit).1;
      loose = (and_parts (is_loose t) (list_all is_loose ts) i.loose).1;
    }

pub behind_all : (before rest : Tokens) → InText (before ++ rest) → InText rest
behind_all [] rest i = i
behind_all (t ∷ before) rest i = behind_all before rest (behind t (before ++ rest) i)

pub had_first : (t : Token) (ts : Tokens) (i : InText (t ∷ ts)) → is_had (is_index_place i.before i.last) (as_listed t) ≡ true
had_first t ts i =
    let may = not (is_joint_neighbour i.last) || may_join i.last (Single (as_listed t)) in
    (and_parts may _ (and_parts (may && is_had (is_index_place i.before i.last) (as_listed t)) _ i.fit).0).1

lone_text : (piece : List ℕ) → is_lone_underscore piece ≡ true → encode_utf8_all piece ≡ codes "_"
lone_text [] h = absurd (cc)
lone_text (c ∷ []) h = let e = eqb-true c 95 (and_parts (c == 95) true h).0 in rw (e, encode_ascii 95 (omega arith)) refl
lone_text (c ∷ d ∷ cs) h = let e = (and_parts (c == 95) false h).1 in absurd (cc)

underscore_text : (text : List ℕ) (joint place : Bool) → is_had place (listed_by Underscore text joint) ≡ true → text ≡ codes "_"
unfolding had has_form
underscore_text text joint place h =
    let a = and_parts (is_utf8 text) (had Underscore (chars text) [] place) h in
    let f = and_parts (has_form Underscore (chars text)) (may_precede Underscore (chars text) []) a.1 in
    sym (encodes-chars text (IsUtf8-from_is_utf8 text a.0)) ∙ lone_text (chars text) f.0

pub text_one : (t : Token) (ts : Tokens) → InText (t ∷ ts) → IsText (only_text t.kind) t.text
text_one t ts i = by t.kind refl
  where
    by : (k : Kind) → t.kind ≡ k → IsText (only_text k) t.text
    by Underscore e = underscore_text t.text t.joint (is_index_place i.before i.last) (subst (λ z. is_had (is_index_place i.before i.last) (listed_by z t.text t.joint) ≡ true) e (had_first t ts i))
    by (Opener d) e = ap text_of (subst (λ z. IsDelimiter (kind_of (listed_by z t.text t.joint)) (listed_by z t.text t.joint)) e (text_delimiters (t ∷ ts) i).0)
    by (Closer d) e = ap text_of (subst (λ z. IsDelimiter (kind_of (listed_by z t.text t.joint)) (listed_by z t.text t.joint)) e (text_delimiters (t ∷ ts) i).0)
    by _ e = tt
