-- What ends in a hard break outside all groups is laid out by itself.
use Rattle.std.proofs.Common.{◌≡◌, ℕ, ◌+◌, ◌≤◌, Bool, true, false, List, [], ◌∷◌, ◌++◌, refl, sym, ap, ap₂, ◌∙◌, append_assoc, append-nil, arith}
use Rattle.std.specs.Prelude.{flat_map, codes, replicate, ℤ, pos, length, min, max, ◌-◌}
use Rattle.lay_piece.specs.Forms.{doc_opening}
use Rattle.std.proofs.lemmas.Bool.{lt-ltb}
use Rattle.lay_piece.specs.Docs.{doc_form}
use Rattle.lay_piece.specs.declared.kind.Kind.{Kind}
use Rattle.lay_piece.specs.declared.kind.Kind.TheVariants.{RawIdent, Doc}
use Rattle.lay_layout.specs.declared.layout.Break.{Break}
use Rattle.lay_layout.specs.declared.layout.Mark.{Mark}
use Rattle.lay_layout.specs.declared.layout.Mark.TheVariants.{Absent, Comma, OpenBrace, CloseBrace}
use Rattle.lay_layout.specs.declared.layout.Frame.{Frame}
use Rattle.lay_layout.specs.declared.layout.Frame.TheVariants.{Flat, Broken}
use Rattle.lay_layout.specs.Document.{Document, Empty, AddText, AddBreak, AddGroup, State, flat, ahead, render, width_of_break, over, write, put_mark, newline, line, skip, shift, enter, break_by, break_in, outside, start, text_of}
use Rattle.lay_form.specs.Form.{Bare, Unseen, Marked, Behind, Nothing, ArmComma, Form, Done, Piece, Leaf, Listed, ListedDoc, Brk, LastComma, Group, Part, Deeper, Optional, Docs, Body, Hard}
use Rattle.lay_form.specs.Layout.{add, add_doc, add_token, add_behind, is_block, text_of_bits, led, bits_end_in_point, token_ends_in_point, keeps_point, space_ends_in_point, comma_break, point_behind, ends_behind_point, opening_break, closing_break, break_of, laid_out, document}
use Rattle.lay_form.specs.Notation.{lines}
use Rattle.lay_items.specs.alone.Lines.{before, ended, newline_document, line_text}

-- ---- documents before documents

ahead_before : (d e : Document) (follow : ℕ) → ahead (before d e) follow ≡ ahead d (ahead e follow)
ahead_before Empty e follow = refl
ahead_before (AddText t rest) e follow = omega (arith, ahead_before rest e follow)
ahead_before (AddBreak b rest) e follow = refl
ahead_before (AddGroup c o inner rest) e follow = omega (arith, ahead_before rest e follow)

render_before : (d e : Document) (f : Frame) (s : State) (follow : ℕ)
    → render (before d e) f s follow ≡ render e f (render d f s (ahead e follow)) follow
render_before Empty e f s follow = refl
render_before (AddText t rest) e f s follow = render_before rest e f (write t s) follow
render_before (AddBreak b rest) e f s follow =
    ap (λ (n : ℕ). render (before rest e) f (break_in f b (over (width_of_break b + n) s) s) follow) (ahead_before rest e follow)
    ∙ render_before rest e f _ follow
render_before (AddGroup c o inner rest) e f s follow =
    ap (λ (n : ℕ). render (before rest e) f (render inner (enter f c o (over (flat inner + n) s)) s n) follow) (ahead_before rest e follow)
    ∙ render_before rest e f _ follow

before_before : (d e g : Document) → before (before d e) g ≡ before d (before e g)
before_before Empty e g = refl
before_before (AddText t rest) e g = ap (AddText t) (before_before rest e g)
before_before (AddBreak b rest) e g = ap (AddBreak b) (before_before rest e g)
before_before (AddGroup c o inner rest) e g = ap (AddGroup c o inner) (before_before rest e g)

before_empty : (d : Document) → before d Empty ≡ d
before_empty Empty = refl
before_empty (AddText t rest) = ap (AddText t) (before_empty rest)
before_empty (AddBreak b rest) = ap (AddBreak b) (before_empty rest)
before_empty (AddGroup c o inner rest) = ap (AddGroup c o inner) (before_empty rest)

-- ---- a text before all that is written

abbrev behind : List ℕ → State → State
behind t s = record { text = t ++ s.text; pending = s.pending; room = s.room; used = s.used }

write_behind : (t bytes : List ℕ) (s : State) → write bytes (behind t s) ≡ behind t (write bytes s)
write_behind t bytes s =
    ap (λ (x : List ℕ). record { text = x; pending = 0; room = s.room; used = s.used + length bytes }) (append_assoc t s.text _)

mark_behind : (t : List ℕ) (m : Mark) (s : State) → put_mark m (behind t s) ≡ behind t (put_mark m s)
mark_behind t Absent s = refl
mark_behind t Comma s = write_behind t _ s
mark_behind t OpenBrace s = write_behind t _ s
mark_behind t CloseBrace s = write_behind t _ s

line_behind : (t : List ℕ) (k : ℕ) (s : State) → line k (behind t s) ≡ behind t (line k s)
line_behind t k s = ap (λ (x : List ℕ). record { text = x; pending = k; room = max (89 - k) 60; used = 0 }) (append_assoc t s.text _)

newline_behind : (t : List ℕ) (b : Break) (i : ℕ) (s : State) → newline b i (behind t s) ≡ behind t (newline b i s)
newline_behind t b i s =
    ap (λ (x : State). put_mark b.after (line (shift i b.offset) x)) (mark_behind t b.before s)
    ∙ ap (put_mark b.after) (line_behind t (shift i b.offset) (put_mark b.before s))
    ∙ mark_behind t b.after (line (shift i b.offset) (put_mark b.before s))

skip_behind : (t : List ℕ) (b : Break) (s : State) → skip b (behind t s) ≡ behind t (skip b s)
skip_behind t b s =
    mark_behind t b.instead (record { text = s.text; pending = min (s.pending + b.blank) 1000000; room = s.room; used = s.used + b.blank })

break_behind : (t : List ℕ) (never : Bool) (f : Frame) (b : Break) (big : Bool) (s : State)
    → break_by never f b big (behind t s) ≡ behind t (break_by never f b big s)
break_behind t true f b big s = skip_behind t b s
break_behind t false Flat b big s = skip_behind t b s
break_behind t false (Broken true i) b big s = newline_behind t b i s
break_behind t false (Broken false i) b true s = newline_behind t b i s
break_behind t false (Broken false i) b false s = skip_behind t b s

-- What is laid out doesn't depend on the lines before.
render_behind : (t : List ℕ) (d : Document) (f : Frame) (s : State) (follow : ℕ)
    → render d f (behind t s) follow ≡ behind t (render d f s follow)
render_behind t Empty f s follow = refl
render_behind t (AddText u rest) f s follow =
    ap (λ (x : State). render rest f x follow) (write_behind t u s) ∙ render_behind t rest f (write u s) follow
render_behind t (AddBreak b rest) f s follow =
    let big = over (width_of_break b + ahead rest follow) s in
    ap (λ (x : State). render rest f x follow) (break_behind t b.never f b big s)
    ∙ render_behind t rest f (break_in f b big s) follow
render_behind t (AddGroup c o inner rest) f s follow =
    let g = enter f c o (over (flat inner + ahead rest follow) s) in
    ap (λ (x : State). render rest f x follow) (render_behind t inner g s (ahead rest follow))
    ∙ render_behind t rest f (render inner g s (ahead rest follow)) follow

-- ---- the room of a line

mark_room : (m : Mark) (s : State) → s.room ≤ 89 → (put_mark m s).room ≤ 89
mark_room Absent s h = h
mark_room Comma s h = h
mark_room OpenBrace s h = h
mark_room CloseBrace s h = h

newline_room : (b : Break) (i : ℕ) (s : State) → (newline b i s).room ≤ 89
newline_room b i s = mark_room b.after _ (omega arith)

break_room : (never : Bool) (f : Frame) (b : Break) (big : Bool) (s : State) → s.room ≤ 89 → (break_by never f b big s).room ≤ 89
break_room true f b big s h = mark_room b.instead _ h
break_room false Flat b big s h = mark_room b.instead _ h
break_room false (Broken true i) b big s h = newline_room b i s
break_room false (Broken false i) b true s h = newline_room b i s
break_room false (Broken false i) b false s h = mark_room b.instead _ h

render_room : (d : Document) (f : Frame) (s : State) (follow : ℕ) → s.room ≤ 89 → (render d f s follow).room ≤ 89
render_room Empty f s follow h = h
render_room (AddText t rest) f s follow h = render_room rest f (write t s) follow h
render_room (AddBreak b rest) f s follow h =
    let big = over (width_of_break b + ahead rest follow) s in
    render_room rest f (break_in f b big s) follow (break_room b.never f b big s h)
render_room (AddGroup c o inner rest) f s follow h =
    let g = enter f c o (over (flat inner + ahead rest follow) s) in
    render_room rest f (render inner g s (ahead rest follow)) follow (render_room inner g s (ahead rest follow) h)

-- ---- a hard break outside all groups

over_far : (n : ℕ) (s : State) → s.room ≤ 89 → 65535 ≤ n → over n s ≡ true
over_far n s h k = lt-ltb s.room (s.used + n) (omega arith)

-- It begins a line as at the start, whatever follows.
hard_state : (s : State) (n : ℕ) → s.room ≤ 89
    → break_in outside (break_of (Hard false)) (over (65535 + n) s) s ≡ behind (s.text ++ 10 ∷ []) start
hard_state s n h =
    ap (λ (big : Bool). break_in outside (break_of (Hard false)) big s) (over_far (65535 + n) s h (omega arith))
    ∙ ap (λ (x : List ℕ). record { text = x; pending = 0; room = 89; used = 0 }) (sym (append-nil (s.text ++ 10 ∷ [])))

ended_state : (d : Document) (follow : ℕ)
    → render (ended d) outside start follow ≡ behind ((render d outside start 0).text ++ 10 ∷ []) start
ended_state d follow =
    render_before d newline_document outside start follow
    ∙ hard_state (render d outside start 0) _ (render_room d outside start 0 (omega arith))

ended_text : (d : Document) → text_of (ended d) ≡ (render d outside start 0).text ++ 10 ∷ []
ended_text d = ap (λ (s : State). s.text) (ended_state d 0) ∙ append-nil _

pub one_line : (d e : Document) → text_of (before (ended d) e) ≡ text_of (ended d) ++ text_of e
one_line d e =
    ap (λ (s : State). s.text)
    (render_before (ended d) e outside start 0
    ∙ ap (λ (s : State). render e outside s 0) (ended_state d (ahead e 0))
    ∙ render_behind ((render d outside start 0).text ++ 10 ∷ []) e outside start 0)
    ∙ ap (λ (x : List ℕ). x ++ text_of e) (sym (ended_text d))

-- ---- forms

add_before : (t : List ℕ) (d e : Document) → add t (before d e) ≡ before (add t d) e
add_before [] d e = refl
add_before (c ∷ cs) d e = refl

doc_before : (inner block : Bool) (t : List ℕ) (d e : Document) → add_doc inner block t (before d e) ≡ before (add_doc inner block t d) e
doc_before inner true t d e = ap (AddText (doc_opening inner true)) (add_before t (AddText (codes "*/") d) e)
doc_before inner false t d e = ap (AddText (doc_opening inner false)) (add_before t d e)

token_before : (k : Kind) (t : List ℕ) (d e : Document) → add_token k t (before d e) ≡ before (add_token k t d) e
token_before RawIdent t d e = refl
token_before (Doc inner block) t d e = doc_before inner (is_block (doc_form inner t)) t d e
token_before _ t d e = refl

behind_before : (b : Behind) (d e : Document) → add_behind b (before d e) ≡ before (add_behind b d) e
behind_before Nothing d e = refl
behind_before (ArmComma last block_like) d e = refl

laid_before : (point : Bool) (f : Form) (d e : Document) → laid_out point f (before d e) ≡ before (laid_out point f d) e
laid_before point Done d e = refl
laid_before point (Piece bits f) d e =
    let after = bits_end_in_point point bits in
    let text = text_of_bits (led point bits) in
    ap (add text) (laid_before after f d e) ∙ add_before text (laid_out after f d) e
laid_before point (Leaf kind text f) d e =
    let after = token_ends_in_point kind text in
    ap (add_token kind text) (laid_before after f d e) ∙ token_before kind text (laid_out after f d) e
laid_before point (Listed kind text joint f) d e =
    let after = token_ends_in_point kind text in
    ap (add_token kind text) (laid_before after f d e) ∙ token_before kind text (laid_out after f d) e
laid_before point (ListedDoc inner text f) d e =
    let block = is_block (doc_form inner text) in
    ap (add_doc inner block text) (laid_before false f d e) ∙ doc_before inner block text (laid_out false f d) e
laid_before point (Brk space f) d e = ap (AddBreak (break_of space)) (laid_before (space_ends_in_point point space) f d e)
laid_before point (LastComma blanks f) d e = ap (AddBreak (comma_break blanks)) (laid_before (keeps_point point blanks) f d e)
laid_before point (Group consistent offset i f) d e =
    ap (AddGroup consistent (pos offset) (laid_out point i Empty)) (laid_before (ends_behind_point point i) f d e)
laid_before point (Part i f) d e =
    let after = ends_behind_point point i in
    ap (laid_out point i) (laid_before after f d e) ∙ laid_before point i (laid_out after f d) e
laid_before point (Deeper i f) d e =
    let after = ends_behind_point point i in
    ap (laid_out point i) (laid_before after f d e) ∙ laid_before point i (laid_out after f d) e
laid_before point (Optional true bits f) d e =
    let after = bits_end_in_point point bits in
    let text = text_of_bits (led point bits) in
    ap (add text) (laid_before after f d e) ∙ add_before text (laid_out after f d) e
laid_before point (Optional false bits f) d e = laid_before point f d e
laid_before point (Docs inner text f) d e =
    let block = is_block (doc_form inner text) in
    ap (add_doc inner block text) (laid_before false f d e) ∙ doc_before inner block text (laid_out false f d) e
laid_before point (Body Bare b i f) d e =
    let after = point_behind Bare b (ends_behind_point point i) in
    ap (λ (x : Document). laid_out point i (add_behind b x)) (laid_before after f d e)
    ∙ ap (laid_out point i) (behind_before b (laid_out after f d) e)
    ∙ laid_before point i (add_behind b (laid_out after f d)) e
laid_before point (Body Unseen b i f) d e =
    let after = ends_behind_point point i in
    ap (laid_out point i) (laid_before after f d e) ∙ laid_before point i (laid_out after f d) e
laid_before point (Body Marked b i f) d e =
    let after = point_behind Marked b (ends_behind_point point i) in
    ap (AddGroup true (pos 4) (AddBreak opening_break (laid_out point i (AddBreak (closing_break b) Empty)))) (laid_before after f d e)

-- ---- lines of forms

first_line : (f : Form) (fs : List Form)
    → document (lines (f ∷ fs)) ≡ before (ended (document f)) (document (lines fs))
first_line f fs =
    laid_before false f Empty (AddBreak (break_of (Hard false)) (document (lines fs)))
    ∙ sym (before_before (document f) newline_document (document (lines fs)))

pub all_lines : (fs : List Form) → text_of (document (lines fs)) ≡ flat_map line_text fs
all_lines [] = refl
all_lines (f ∷ fs) =
    ap text_of (first_line f fs) ∙ one_line (document f) (document (lines fs))
    ∙ ap (λ (x : List ℕ). line_text f ++ x) (all_lines fs)

flat_append : (fs gs : List Form) → flat_map line_text (fs ++ gs) ≡ flat_map line_text fs ++ flat_map line_text gs
flat_append [] gs = refl
flat_append (f ∷ fs) gs =
    ap (λ (x : List ℕ). line_text f ++ x) (flat_append fs gs) ∙ sym (append_assoc (line_text f) (flat_map line_text fs) (flat_map line_text gs))

pub two_lines : (fs gs : List Form)
    → text_of (document (lines (fs ++ gs))) ≡ text_of (document (lines fs)) ++ text_of (document (lines gs))
two_lines fs gs =
    all_lines (fs ++ gs) ∙ flat_append fs gs ∙ ap₂ (λ (x y : List ℕ). x ++ y) (sym (all_lines fs)) (sym (all_lines gs))
