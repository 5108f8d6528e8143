-- A list that some text lexes to passes the test.
use Rattle.std.proofs.Common.{◌≡◌, ℕ, ◌+◌, List, [], ◌∷◌, Bool, true, false, ◌&&◌, map, refl, sym, ap, ◌∙◌, subst}
use Rattle.std.specs.List.{list_all}
use Rattle.std.specs.Str.{encode_utf8_all}
use Rattle.std.proofs.lemmas.Bool.{and_from}
use Rattle.lay_token.specs.Lexes.{Part, is_punct, is_joint, size, text_of_piece, tokens_from}
use Rattle.lay_piece.specs.declared.kind.Kind.{Kind}
use Rattle.lay_piece.specs.declared.kind.Kind.TheVariants.{Punct, Doc}
use Rattle.lay_token.specs.declared.token.Token.{Token}
use Rattle.lay_node.specs.tokens.Lexed.{IsToken, AreTokens, IsTokenList, may_be_laid, fits, ends_apart, is_token_list}
use Rattle.lay_node.specs.tokens.Listing.{as_listed, listed_by, is_doc_kind, is_balanced}
use Rattle.lay_node.specs.tokens.Pairs.{Nothing}
use Rattle.lay_node.specs.declared.token.Listed.{Listed}
use Rattle.lay_node.specs.declared.token.Listed.TheVariants as listed
use Rattle.lay_node.proofs.token_lists.Balance.{balanced_listed}
use Rattle.lay_node.proofs.token_lists.FromText.{loose, text_row}

pub listed_token : (k : Kind) (text : List ℕ) (joint : Bool) → is_doc_kind k ≡ false → (is_punct k ≡ false → joint ≡ false)
    → listed_by k text joint ≡ listed.Token k text joint
listed_token Punct text joint n q = refl
listed_token (Doc inner block) text joint n q = cc
listed_token k text joint n q = ap (listed.Token k text) (sym (q refl))

-- A token is one of a list alone: that which it is listed as.
pub token_listed : (u : Listed) (t : Token) → (is_punct t.kind ≡ false → t.joint ≡ false) → IsToken u t
    → u ≡ as_listed t
token_listed (listed.Token kind text joint) t q i =
    (λ v. listed.Token (sym i.1 v) (sym i.2 v) (sym i.3 v))
    ∙ sym (listed_token t.kind t.text t.joint (ap is_doc_kind i.1 ∙ i.0) q)
token_listed (listed.Doc inner text) t q i =
    (λ v. listed.Doc inner (sym i.2 v)) ∙ ap (λ k. listed_by k t.text t.joint) (sym i.1)

token_at : ℕ → Part → List Part → Token
token_at at p ps = record {
  kind = p.kind;
  text = encode_utf8_all (text_of_piece p.kind p.piece);
  joint = is_joint p ps;
  at = at + size p.gap;
  len = size p.piece;
}

parts_listed : (us : List Listed) (at : ℕ) (ps : List Part) → AreTokens us (tokens_from at ps)
    → us ≡ map as_listed (tokens_from at ps)
unfolding token_at
parts_listed [] at [] a = refl
parts_listed [] at (p ∷ ps) a = absurd a
parts_listed (u ∷ us) at [] a = absurd a
parts_listed (u ∷ us) at (p ∷ ps) a =
    let first : u ≡ as_listed (token_at at p ps) = token_listed u (token_at at p ps) (loose p ps) a.0 in
    let more = parts_listed us ((at + size p.gap) + size p.piece) ps a.1 in
    (λ i. first i ∷ more i)

pub decided : (us : List Listed) → IsTokenList us → is_token_list us ≡ true
decided us l =
    let reads = l.reads in
    let row = text_row l.bytes 0 reads.tokens l.utf8 reads.lexes in
    let lexes = reads.lexes in
    let same : us ≡ map as_listed reads.tokens =
    parts_listed us 0 lexes.0 (subst (AreTokens us) lexes.3 reads.same) ∙ sym (ap (map as_listed) lexes.3) in
    and_from (fits Nothing Nothing us && ends_apart Nothing us && is_balanced us) (list_all may_be_laid us)
    (and_from (fits Nothing Nothing us && ends_apart Nothing us) (is_balanced us)
    (and_from (fits Nothing Nothing us) (ends_apart Nothing us) (ap (fits Nothing Nothing) same ∙ row.fit)
    (ap (ends_apart Nothing) same ∙ row.apart))
    (ap is_balanced same ∙ balanced_listed reads.tokens reads.balanced))
    l.docs
