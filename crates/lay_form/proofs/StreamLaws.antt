-- The stream of a form is that of its document.
use Rattle.std.proofs.Common.{◌≡◌, ℕ, Bool, true, false, List, [], ◌∷◌, ◌++◌, pos, refl, sym, ap, ◌∙◌, append_assoc, append-nil}
use Rattle.std.specs.Prelude.{codes}
use Rattle.lay_piece.specs.Docs.{doc_form}
use Rattle.lay_layout.specs.Document.{Document, Empty, AddBreak, AddGroup, stream}
use Rattle.lay_piece.specs.Forms.{doc_opening}
use Rattle.lay_layout.specs.declared.layout.Tok.{Tok}
use Rattle.lay_layout.specs.declared.layout.Tok.TheVariants as tok
use Rattle.lay_piece.specs.declared.kind.Kind.{Kind}
use Rattle.lay_piece.specs.declared.kind.Kind.TheVariants.{RawIdent, Doc}
use Rattle.lay_form.specs.Form.{Behind, Bare, Unseen, Marked, Nothing, ArmComma, Form, Done, Piece, Leaf, Listed, ListedDoc, Brk, LastComma, Group, Part, Deeper, Optional, Docs, Body}
use Rattle.lay_form.specs.Layout.{add, add_doc, add_token, add_behind, is_block, point_behind, ends_behind_point, opening_break, closing_break, laid_out, document}
use Rattle.lay_form.specs.Stream.{feed_text, feed_doc, feed_token, feed_behind, fed, stream_of}

-- one token before lists that are the same
under : (t : Tok) {x y : List Tok} → x ≡ y → (t ∷ x) ≡ (t ∷ y)
under t e = ap (λ l. t ∷ l) e

-- In each of these `more` is what the document's tokens and the list after them make.
text_fed : (text : List ℕ) (d : Document) (behind more : List Tok) → stream d ++ behind ≡ more
    → stream (add text d) ++ behind ≡ feed_text text more
text_fed [] d behind more e = e
text_fed (c ∷ cs) d behind more e = under (tok.Text (c ∷ cs)) e

doc_fed : (inner block : Bool) (text : List ℕ) (d : Document) (behind more : List Tok) → stream d ++ behind ≡ more
    → stream (add_doc inner block text d) ++ behind ≡ feed_doc inner block text more
doc_fed inner true text d behind more e =
    under (tok.Text (doc_opening inner true)) (text_fed text _ behind _ (under (tok.Text (codes "*/")) e))
doc_fed inner false text d behind more e =
    under (tok.Text (doc_opening inner false)) (text_fed text d behind more e)

token_fed : (kind : Kind) (text : List ℕ) (d : Document) (behind more : List Tok) → stream d ++ behind ≡ more
    → stream (add_token kind text d) ++ behind ≡ feed_token kind text more
token_fed RawIdent text d behind more e = under (tok.Text (codes "r#")) (under (tok.Text text) e)
token_fed (Doc inner block) text d behind more e = doc_fed inner (is_block (doc_form inner text)) text d behind more e
token_fed _ text d behind more e = under (tok.Text text) e

-- a group, where the streams of its two documents are known
group_fed : (consistent : Bool) (offset : ℕ) (inner rest : Document) (behind more : List Tok)
    → stream inner ++ (tok.End ∷ (stream rest ++ behind)) ≡ more
    → stream (AddGroup consistent (pos offset) inner rest) ++ behind ≡ (tok.Begin consistent (pos offset) ∷ more)
group_fed consistent offset inner rest behind more e =
    under (tok.Begin consistent (pos offset)) (append_assoc (stream inner) (tok.End ∷ stream rest) behind ∙ e)

behind_fed : (b : Behind) (d : Document) (behind more : List Tok) → stream d ++ behind ≡ more
    → stream (add_behind b d) ++ behind ≡ feed_behind b more
behind_fed Nothing d behind more e = e
behind_fed (ArmComma last block_like) d behind more e = under (tok.Text (codes ",")) e

-- The layout of a form before a document, with tokens after it, is what the form is fed as before these.
pub laid_fed : (point : Bool) (f : Form) (d : Document) (behind : List Tok)
    → stream (laid_out point f d) ++ behind ≡ fed point f (stream d ++ behind)
laid_fed point Done d behind = refl
laid_fed point (Piece bits f) d behind = text_fed _ _ behind _ (laid_fed _ f d behind)
laid_fed point (Leaf kind text f) d behind = token_fed kind text _ behind _ (laid_fed _ f d behind)
laid_fed point (Listed kind text joint f) d behind = token_fed kind text _ behind _ (laid_fed _ f d behind)
laid_fed point (ListedDoc inner text f) d behind =
    doc_fed inner (is_block (doc_form inner text)) text _ behind _ (laid_fed false f d behind)
laid_fed point (Brk space f) d behind = under _ (laid_fed _ f d behind)
laid_fed point (LastComma blanks f) d behind = under _ (laid_fed _ f d behind)
laid_fed point (Group consistent offset i f) d behind =
    group_fed consistent offset (laid_out point i Empty) (laid_out (ends_behind_point point i) f d) behind _
    (laid_fed point i Empty _ ∙ ap (λ l. fed point i (tok.End ∷ l)) (laid_fed (ends_behind_point point i) f d behind))
laid_fed point (Part i f) d behind =
    laid_fed point i _ behind ∙ ap (fed point i) (laid_fed (ends_behind_point point i) f d behind)
laid_fed point (Deeper i f) d behind =
    laid_fed point i _ behind ∙ ap (fed point i) (laid_fed (ends_behind_point point i) f d behind)
laid_fed point (Optional true bits f) d behind = text_fed _ _ behind _ (laid_fed _ f d behind)
laid_fed point (Optional false bits f) d behind = laid_fed point f d behind
laid_fed point (Docs inner text f) d behind =
    doc_fed inner (is_block (doc_form inner text)) text _ behind _ (laid_fed false f d behind)
laid_fed point (Body Bare b i f) d behind =
    laid_fed point i _ behind
    ∙ ap (fed point i) (behind_fed b _ behind _ (laid_fed (point_behind Bare b (ends_behind_point point i)) f d behind))
laid_fed point (Body Unseen b i f) d behind =
    laid_fed point i _ behind ∙ ap (fed point i) (laid_fed (ends_behind_point point i) f d behind)
laid_fed point (Body Marked b i f) d behind =
    let closing = AddBreak (closing_break b) Empty in
    let after = point_behind Marked b (ends_behind_point point i) in
    group_fed true 4 (AddBreak opening_break (laid_out point i closing)) (laid_out after f d) behind _
    (under (tok.Break opening_break)
    (laid_fed point i closing _
    ∙ ap (λ l. fed point i (tok.Break (closing_break b) ∷ tok.End ∷ l)) (laid_fed after f d behind)))

pub stream_is : (f : Form) → stream (document f) ≡ stream_of f
stream_is f = sym (append-nil (stream (document f))) ∙ laid_fed false f Empty []
