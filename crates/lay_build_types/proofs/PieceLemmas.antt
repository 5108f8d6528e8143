-- The tokens of a form in the signs of the notation are pieces where those of its parts are.
use Rattle.std.proofs.Common.{◌≡◌, ◌∙◌, ℕ, Bool, true, false, ◌&&◌, List, [], ◌∷◌, ◌++◌, map, refl}
use Rattle.std.specs.List.{AllByRecursion}
use Rattle.std.proofs.lemmas.Bool.{and_parts, and_from}
use Rattle.lay_piece.specs.declared.kind.Kind.TheVariants.{Ident, RawIdent}
use Rattle.lay_form.specs.Form.{Bit, Form, Done, Part}
use Rattle.lay_form.specs.Notation.{H, behind_attrs, body, braces, comma_gap, comma_list, each, fields, soft, when, with_commas}
use Rattle.lay_form.specs.Pieces.{are_pieces, is_text_of}
use Rattle.lay_node.specs.Words.{leaf_of}

-- Its tokens are pieces of their kinds.
abbrev pub Pieces : Form → Type 0
Pieces f = are_pieces f ≡ true

abbrev pub AllPieces : List Form → Type 0
AllPieces es = AllByRecursion Pieces es

-- ---- what follows a part

pub ended : (b : Bool) → b ≡ true → b && true ≡ true
ended b h = and_from b true h refl

pub front : (b : Bool) → b && true ≡ true → b ≡ true
front b h = (and_parts b true h).0

pub leaf_pieces : (raw : Bool) (text : List ℕ) (f : Form) → Pieces (leaf_of raw text Done) → Pieces f → Pieces (leaf_of raw text f)
leaf_pieces true text f h g = and_from (is_text_of RawIdent text) (are_pieces f) (front (is_text_of RawIdent text) h) g
leaf_pieces false text f h g = and_from (is_text_of Ident text) (are_pieces f) (front (is_text_of Ident text) h) g

pub leaf_parts : (raw : Bool) (text : List ℕ) (f : Form) → Pieces (leaf_of raw text f) → Pieces (leaf_of raw text Done) × Pieces f
leaf_parts true text f h =
    let parts = and_parts (is_text_of RawIdent text) (are_pieces f) h in (ended (is_text_of RawIdent text) parts.0, parts.1)
leaf_parts false text f h =
    let parts = and_parts (is_text_of Ident text) (are_pieces f) h in (ended (is_text_of Ident text) parts.0, parts.1)

pub when_pieces : (there : Bool) (bits : List Bit) (f : Form) → Pieces f → Pieces (when there bits f)
when_pieces true bits f h = h
when_pieces false bits f h = h

-- ---- lists of parts

pub each_pieces : (lead : Form → Form) → ((f : Form) → are_pieces (lead f) ≡ are_pieces f) → (es : List Form) → AllPieces es
    → Pieces (each lead es)
each_pieces lead same [] all = refl
each_pieces lead same (e ∷ es) all =
    same (Part e (each lead es)) ∙ and_from (are_pieces e) (are_pieces (each lead es)) all.0 (each_pieces lead same es all.1)

pub list_pieces : (may : Bool) (opening closing : Bit) (es : List Form) → AllPieces es → Pieces (comma_list may opening closing es)
list_pieces may opening closing [] all = refl
list_pieces true opening closing (e ∷ es) all =
    let more = each_pieces comma_gap (λ f. refl) es all.1 in
    ended (are_pieces e && (are_pieces (each comma_gap es) && true))
    (and_from (are_pieces e) (are_pieces (each comma_gap es) && true) all.0 (ended (are_pieces (each comma_gap es)) more))
list_pieces false opening closing (e ∷ es) all =
    let more = each_pieces comma_gap (λ f. refl) es all.1 in
    ended (are_pieces e && (are_pieces (each comma_gap es) && true))
    (and_from (are_pieces e) (are_pieces (each comma_gap es) && true) all.0 (ended (are_pieces (each comma_gap es)) more))

pub body_pieces : (before skipped : List Bit) (es : List Form) → AllPieces es → Pieces (body before skipped es)
body_pieces before skipped [] all = refl
body_pieces before skipped (e ∷ es) all =
    let parts = are_pieces (each H (e ∷ es)) in ended (parts && true) (ended parts (each_pieces H (λ f. refl) (e ∷ es) all))

commas_pieces : (es : List Form) → AllPieces es → AllPieces (with_commas es)
commas_pieces [] all = tt
commas_pieces (e ∷ []) all = (ended (are_pieces e) all.0, tt)
commas_pieces (e ∷ f ∷ es) all = (ended (are_pieces e) all.0, commas_pieces (f ∷ es) all.1)

pub fields_pieces : (before : List Bit) (es : List Form) → AllPieces es → Pieces (fields before es)
fields_pieces before es all = body_pieces before [] (with_commas es) (commas_pieces es all)

pub braces_pieces : (es : List Form) → AllPieces es → Pieces (braces true es)
braces_pieces [] all = refl
braces_pieces (e ∷ es) all =
    let more = each_pieces comma_gap (λ f. refl) es all.1 in
    ended (are_pieces e && (are_pieces (each comma_gap es) && true))
    (and_from (are_pieces e) (are_pieces (each comma_gap es) && true) all.0 (ended (are_pieces (each comma_gap es)) more))

pub soft_pieces : (e : Form) → Pieces e → Pieces (soft e)
soft_pieces e h = ended (are_pieces e && true) (ended (are_pieces e) h)

-- ---- attributes

pub behind_parts : (es : List Form) (f : Form) → Pieces (behind_attrs es f) → AllPieces es × Pieces f
behind_parts [] f h = (tt, h)
behind_parts (e ∷ es) f h =
    let parts = and_parts (are_pieces e) (are_pieces (behind_attrs es f)) h in
    let more = behind_parts es f parts.1 in ((parts.0, more.0), more.1)

pub behind_pieces : (es : List Form) (f : Form) → AllPieces es → Pieces f → Pieces (behind_attrs es f)
behind_pieces [] f all h = h
behind_pieces (e ∷ es) f all h = and_from (are_pieces e) (are_pieces (behind_attrs es f)) all.0 (behind_pieces es f all.1 h)

-- ---- what holds of each of a list

pub each_has : {A B : Type 0} (P : A → Type 0) (Q : B → Type 0) (make : A → B) → ((x : A) → P x → Q (make x)) → (xs : List A)
    → AllByRecursion P xs → AllByRecursion Q (map make xs)
each_has P Q make has [] all = tt
each_has P Q make has (x ∷ xs) all = (has x all.0, each_has P Q make has xs all.1)

pub all_behind : {A : Type 0} (P : A → Type 0) (xs ys : List A) → AllByRecursion P xs → AllByRecursion P ys → AllByRecursion P (xs ++ ys)
all_behind P [] ys one more = more
all_behind P (x ∷ xs) ys one more = (one.0, all_behind P xs ys one.1 more)
