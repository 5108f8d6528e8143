-- The stream of a form: the tokens of layout that a printer is fed. It is the flattening of the
-- form's document, defined in the order in which the layout crates feed it. Their contracts use it.
use Rattle.std.specs.Prelude.{ℕ, Bool, true, false, cond, List, [], ◌∷◌, codes, pos}
use Rattle.lay_piece.specs.Docs.{doc_form}
use Rattle.lay_piece.specs.Forms.{doc_opening}
use Rattle.lay_layout.specs.declared.layout.Tok.{Tok}
use Rattle.lay_layout.specs.declared.layout.Tok.TheVariants.{Text, Break, Begin, End}
use Rattle.lay_piece.specs.declared.kind.Kind.{Kind}
use Rattle.lay_piece.specs.declared.kind.Kind.TheVariants.{RawIdent, Doc}
use Rattle.lay_form.specs.Form.{Bare, Unseen, Marked, Behind, Nothing, ArmComma, Form, Done, Piece, Leaf, Listed, ListedDoc, Brk, LastComma, Group, Part, Deeper, Optional, Docs, Body}
use Rattle.lay_form.specs.Layout.{text_of_bits, is_block, token_ends_in_point, bits_end_in_point, keeps_point, space_ends_in_point, point_behind, ends_behind_point, led, break_of, comma_break, opening_break, closing_break}

-- An empty text is left out.
abbrev pub feed_text : List ℕ → List Tok → List Tok
feed_text [] more = more
feed_text (c ∷ cs) more = Text (c ∷ cs) ∷ more

abbrev pub feed_doc : Bool → Bool → List ℕ → List Tok → List Tok
feed_doc inner block text more = Text (doc_opening inner block) ∷ feed_text text (cond block (Text (codes "*/") ∷ more) more)

abbrev pub feed_token : Kind → List ℕ → List Tok → List Tok
feed_token RawIdent text more = Text (codes "r#") ∷ Text text ∷ more
feed_token (Doc inner block) text more = feed_doc inner (is_block (doc_form inner text)) text more
feed_token kind text more = Text text ∷ more

abbrev pub feed_behind : Behind → List Tok → List Tok
feed_behind Nothing more = more
feed_behind (ArmComma last block_like) more = Text (codes ",") ∷ more

-- the stream of a form, followed by `more`; `point` says that the text before it ends in a point
abbrev pub fed : Bool → Form → List Tok → List Tok
fed point Done more = more
fed point (Piece bits f) more = feed_text (text_of_bits (led point bits)) (fed (bits_end_in_point point bits) f more)
fed point (Leaf kind text f) more = feed_token kind text (fed (token_ends_in_point kind text) f more)
fed point (Listed kind text joint f) more = feed_token kind text (fed (token_ends_in_point kind text) f more)
fed point (ListedDoc inner text f) more = feed_doc inner (is_block (doc_form inner text)) text (fed false f more)
fed point (Brk space f) more = Break (break_of space) ∷ fed (space_ends_in_point point space) f more
fed point (LastComma blanks f) more = Break (comma_break blanks) ∷ fed (keeps_point point blanks) f more
fed point (Group consistent offset i f) more =
    Begin consistent (pos offset) ∷ fed point i (End ∷ fed (ends_behind_point point i) f more)
fed point (Part i f) more = fed point i (fed (ends_behind_point point i) f more)
fed point (Deeper i f) more = fed point i (fed (ends_behind_point point i) f more)
fed point (Optional true bits f) more = feed_text (text_of_bits (led point bits)) (fed (bits_end_in_point point bits) f more)
fed point (Optional false bits f) more = fed point f more
fed point (Docs inner text f) more = feed_doc inner (is_block (doc_form inner text)) text (fed false f more)
fed point (Body Bare behind i f) more =
    fed point i (feed_behind behind (fed (point_behind Bare behind (ends_behind_point point i)) f more))
fed point (Body Unseen behind i f) more = fed point i (fed (ends_behind_point point i) f more)
fed point (Body Marked behind i f) more =
    Begin true (pos 4) ∷ Break opening_break ∷ fed point i
    (Break (closing_break behind) ∷ End ∷ fed (point_behind Marked behind (ends_behind_point point i)) f more)

abbrev pub stream_of : Form → List Tok
stream_of f = fed false f []
