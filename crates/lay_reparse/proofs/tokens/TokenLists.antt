-- Every text of the layout of a token list lexes to the same tokens. So some text lexes to each list that is one by the
-- test.
use Rattle.std.proofs.Common.{◌≡◌, ◌↔◌, ℕ, List, [], ◌∷◌, Bool, true, false, not, ◌&&◌, ◌||◌, sym, refl, ap, ◌∙◌, subst, arith, IsUtf8}
use Rattle.std.specs.Prelude.{IsTrue}
use Rattle.std.specs.List.{list_all}
use Rattle.std.specs.Str.{chars, encode_utf8_all}
use Rattle.std.proofs.lemmas.Bool.{and_parts, not-true}
use Rattle.std.proofs.lemmas.Str.{chars-encodes}
use Rattle.lay_layout.specs.Anyway.{Anyway}
use Rattle.lay_layout.specs.Document.{State, outside, start, text_of}
use Rattle.lay_token.specs.Lexes.{Other, AreParts, Lexes, is_punct, tokens_from}
use Rattle.lay_piece.specs.declared.kind.Kind.{Kind}
use Rattle.lay_piece.specs.declared.kind.Kind.TheVariants.{Doc}
use Rattle.lay_token.specs.declared.token.Token.{Token}
use Rattle.lay_layout.proofs.AnywayLaws.{text_anyway}
use Rattle.lay_form.specs.Depth.{least_depth}
use Rattle.lay_form.specs.Layout.{document}
use Rattle.lay_form.specs.Spelled.{Spells}
use Rattle.lay_node.specs.declared.token.Listed.{Listed}
use Rattle.lay_node.specs.declared.token.Listed.TheVariants as listed
use Rattle.lay_node.specs.tokens.Lexed.{IsToken, AreTokens, IsTokenList, ReadsTokens, is_token_list}
use Rattle.lay_node.specs.tokens.Listing.{is_doc_kind, listed_by, as_listed, in_groups}
use Rattle.lay_node.specs.reader.Exact.{is_loose}
use Rattle.lay_node.specs.tokens.Lists.{form_of_grouping, token_list, ended_by, ends_in_line}
use Rattle.lay_node.specs.tokens.Pairs.{at_start}
use Rattle.lay_node.proofs.token_lists.Decided.{decided}
use Rattle.lay_node.proofs.token_lists.FromText.{text_row}
use Rattle.lay_node.proofs.token_lists.Spelling.{IsRow, list_row, list_parts}
use Rattle.lay_reparse.proofs.texts.Characters.{clean_scalars}
use Rattle.lay_reparse.proofs.borders.Need.{all, line_ok}
use Rattle.lay_reparse.proofs.forms.Passes.{plain}
use Rattle.lay_reparse.proofs.forms.Sound.{Laid, reparse}
use Rattle.lay_reparse.proofs.forms.Balance.{balanced}
use Rattle.lay_reparse.proofs.file.Singles.{parts_single}
use Rattle.lay_reparse.proofs.tokens.Rows.{list_end, list_passes}
use Rattle.lay_reparse.proofs.tokens.Lexed.{lex_ok}

-- ---- the tokens that spell a list

-- A token is one of a list that is listed as it is, if none but punctuation is joint.
token_is : (t : Token) → is_loose t ≡ true → IsToken (as_listed t) t
token_is t l = by t.kind refl
  where
    plain : (k : Kind) → t.kind ≡ k → is_doc_kind k ≡ false → IsToken (listed.Token k t.text (is_punct k && t.joint)) t
    plain k e n = (n, e, refl, joint (is_punct k) t.joint (sym (ap (λ l. is_punct l || not t.joint) e) ∙ l))
      where
        joint : (p j : Bool) → p || not j ≡ true → j ≡ p && j
        joint true j h = refl
        joint false j h = not-true j h

    by : (k : Kind) → t.kind ≡ k → IsToken (listed_by k t.text t.joint) t
    by (Doc inner block) e = (block, e, refl)
    by k e = plain k e refl

are_tokens : (us : List Listed) (ts : List Token) → list_all is_loose ts ≡ true → IsRow us ts [] → AreTokens us ts
are_tokens [] [] l r = tt
are_tokens [] (t ∷ ts) l r = cc
are_tokens (u ∷ us) [] l r = absurd r
are_tokens (u ∷ us) (t ∷ ts) l r =
    let a = and_parts (is_loose t) _ l in
    (subst (λ v. IsToken v t) r.0 (token_is t a.0), are_tokens us ts a.1 r.1)

-- ---- the law

ends : (line : Bool) (n : ℕ) (ts rest : List Token) → Spells (ended_by line) n ts rest → ts ≡ rest
ends true n ts rest s = s
ends false n ts rest s = s

ended_fine : (line : Bool) → all line_ok (list_end line).needs ≡ true
ended_fine true = refl
ended_fine false = refl

read_list : (us : List Listed) (text : List ℕ) → is_token_list us ≡ true → (d : ℕ) (e : State) → e.text ≡ text
    → Laid (token_list us) d start e → IsUtf8 text × ReadsTokens text us
read_list us text l d end at k =
    let ts = tokens_from 0 k.parts in
    let e : encode_utf8_all k.added ≡ text = sym k.grown ∙ at in
    let fine = clean_scalars k.added k.clean in
    let utf8 : IsUtf8 text = (k.added, (fine, e)) in
    let lexes : Lexes text 0 ts = (
      k.parts,
      k.last,
      subst (λ z. AreParts z k.parts k.last) (sym (ap chars (sym e) ∙ chars-encodes k.added fine)) k.reads,
      refl,
    ) in
    let s = k.spells 0 in
    let inner = subst (λ z. Spells (form_of_grouping (at_start 0) (in_groups us)) d ts z)
    (ends (ends_in_line us) d s.0 [] s.2) s.1 in (
      utf8,
      record {
        tokens = ts;
        lexes = lexes;
        balanced = balanced (token_list us) false plain (list_end (ends_in_line us)) d ts
            (parts_single Other k.parts k.last 0 k.reads.fit) (list_passes us (lex_ok us l)) s;
        same = are_tokens us ts (text_row text 0 ts utf8 lexes).loose (list_row us (at_start 0) d ts [] l inner);
      },
    )

any_text : (us : List Listed) (text : List ℕ) → is_token_list us ≡ true → Anyway (document (token_list us)) text
    → IsUtf8 text × ReadsTokens text us
any_text us text l a =
    read_list us text l (least_depth (token_list us)) a.0 a.2
    (reparse (token_list us) (list_end (ends_in_line us)) (least_depth (token_list us)) (list_passes us (lex_ok us l))
    (ended_fine (ends_in_line us)) (omega arith) outside start a.0 a.1)

-- Each text of the layout lexes to the list.
pub token_list_reads : (us : List Listed) (text : List ℕ) → IsTrue (is_token_list us)
    → Anyway (document (token_list us)) text → ReadsTokens text us
token_list_reads us text l a = (any_text us text l a).1

-- The test decides which lists some text lexes to: one is the text that is laid out.
pub token_list_decides : (us : List Listed) → IsTrue (is_token_list us) ↔ IsTokenList us
token_list_decides us = (
  (λ l. let a = any_text us (text_of (document (token_list us))) l (text_anyway (document (token_list us))) in
      record { bytes = text_of (document (token_list us)); utf8 = a.0; reads = a.1; docs = (list_parts us l).docs }),
  decided us,
)
