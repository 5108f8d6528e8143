-- Forms whose tokens are pieces exactly where those of others are.
use Rattle.std.proofs.Common.{◌≡◌, codes, Bool, true, false, ◌&&◌, List, [], ◌∷◌, ◌++◌, map, Option, Some, None, refl, sym, ap, ap₂, ◌∙◌}
use Rattle.lay_form.specs.Form.{Bit, Blank, keyword, Braces, Bare, Unseen, Marked, Form, Done, Part}
use Rattle.lay_form.specs.Notation.{H, body, braces, comma_gap, comma_list, each, last_break, piece, when, behind_attrs}
use Rattle.lay_form.specs.Pieces.{are_pieces}
use Rattle.lay_node.specs.declared.token.Lifetime.{Lifetime}
use Rattle.lay_node.specs.nodes.Types.{lifetime_form}
use Rattle.lay_code.specs.nodes.Exprs.{bar, behind_async, closure_body, closure_head, closure_param, label_form, labelled, prefixes_form}
use Rattle.lay_code.specs.declared.exprs.ClosureParam.{ClosureParam}
use Rattle.lay_code.specs.declared.operators.Prefix.{Prefix}

abbrev pub Like : Form → Form → Type 0
Like f g = are_pieces f ≡ are_pieces g

abbrev pub Alike : List Form → List Form → Type 0
Alike [] [] = Unit {0}
Alike (f ∷ fs) (g ∷ gs) = Like f g × Alike fs gs
Alike [] (g ∷ gs) = ⊥
Alike (f ∷ fs) [] = ⊥

pub alike_same : (fs : List Form) → Alike fs fs
alike_same [] = tt
alike_same (f ∷ fs) = (refl, alike_same fs)

pub alike_joined : (fs gs hs ks : List Form) → Alike fs gs → Alike hs ks → Alike (fs ++ hs) (gs ++ ks)
alike_joined [] [] hs ks h k = k
alike_joined (f ∷ fs) (g ∷ gs) hs ks h k = (h.0, alike_joined fs gs hs ks h.1 k)
alike_joined [] (g ∷ gs) hs ks h k = absurd h
alike_joined (f ∷ fs) [] hs ks h k = absurd h

-- of a list of nodes, each made of another one
pub nodes_alike : {N F : Type 0} (Is : N → Type 0) (form : F → Form) (told : N → F) (other : N → N)
    → ((x : N) → Is x → Like (form (told (other x))) (form (told x))) → (ys : List ((x : N) × Is x))
    → let trees = map (λ (y : (x : N) × Is x). y.0) ys in Alike (map form (map told (map other trees))) (map form (map told trees))
nodes_alike Is form told other each [] = tt
nodes_alike Is form told other each (y ∷ ys) = (each y.0 y.1, nodes_alike Is form told other each ys)

-- ---- lists of parts

each_comma : (fs gs : List Form) → Alike fs gs → Like (each comma_gap fs) (each comma_gap gs)
each_comma [] [] h = refl
each_comma (f ∷ fs) (g ∷ gs) h = ap₂ (λ (a b : Bool). a && b) h.0 (each_comma fs gs h.1)
each_comma [] (g ∷ gs) h = absurd h
each_comma (f ∷ fs) [] h = absurd h

each_line : (fs gs : List Form) → Alike fs gs → Like (each H fs) (each H gs)
each_line [] [] h = refl
each_line (f ∷ fs) (g ∷ gs) h = ap₂ (λ (a b : Bool). a && b) h.0 (each_line fs gs h.1)
each_line [] (g ∷ gs) h = absurd h
each_line (f ∷ fs) [] h = absurd h

pub comma_list_like : (may : Bool) (opening closing : Bit) (fs gs : List Form) → Alike fs gs
    → Like (comma_list may opening closing fs) (comma_list may opening closing gs)
comma_list_like may opening closing [] [] h = refl
comma_list_like may opening closing (f ∷ fs) (g ∷ gs) h =
    ap₂ (λ (a b : Bool). (a && (b && are_pieces (last_break may 0 (piece (closing ∷ []))))) && true) h.0 (each_comma fs gs h.1)
comma_list_like may opening closing [] (g ∷ gs) h = absurd h
comma_list_like may opening closing (f ∷ fs) [] h = absurd h

pub braces_like : (may : Bool) (fs gs : List Form) → Alike fs gs → Like (braces may fs) (braces may gs)
braces_like may [] [] h = refl
braces_like may (f ∷ fs) (g ∷ gs) h =
    ap₂ (λ (a b : Bool). (a && (b && are_pieces (last_break may 1 Done))) && true) h.0 (each_comma fs gs h.1)
braces_like may [] (g ∷ gs) h = absurd h
braces_like may (f ∷ fs) [] h = absurd h

pub body_like : (before skipped : List Bit) (fs gs : List Form) → Alike fs gs → Like (body before skipped fs) (body before skipped gs)
body_like before skipped [] [] h = refl
body_like before skipped (f ∷ fs) (g ∷ gs) h = ap (λ (a : Bool). (a && true) && true) (each_line (f ∷ fs) (g ∷ gs) h)
body_like before skipped [] (g ∷ gs) h = absurd h
body_like before skipped (f ∷ fs) [] h = absurd h

-- ---- what stands before a form

pub attrs_like : (attrs : List Form) (f g : Form) → Like f g → Like (behind_attrs attrs f) (behind_attrs attrs g)
attrs_like [] f g h = h
attrs_like (a ∷ more) f g h = ap (λ (b : Bool). are_pieces a && b) (attrs_like more f g h)

pub when_like : (b : Bool) (bits : List Bit) (f g : Form) → Like f g → Like (when b bits f) (when b bits g)
when_like true bits f g h = h
when_like false bits f g h = h

pub prefixes_like : (ps : List Prefix) (f g : Form) → Like f g → Like (prefixes_form ps f) (prefixes_form ps g)
prefixes_like [] f g h = h
prefixes_like (p ∷ ps) f g h = prefixes_like ps f g h

pub labelled_like : (label : Option Lifetime) (f g : Form) → Like f g → Like (labelled label f) (labelled label g)
labelled_like None f g h = h
labelled_like (Some l) f g h = ap (λ (b : Bool). are_pieces (lifetime_form l) && (b && true)) h

pub label_like : (label : Option Lifetime) (f g : Form) → Like f g → Like (label_form label f) (label_form label g)
label_like None f g h = h
label_like (Some l) f g h = ap (λ (b : Bool). are_pieces (lifetime_form l) && b) h

pub closure_like : (is_async moves : Bool) (params : List ClosureParam) (f g : Form) → Like f g
    → Like (closure_head is_async moves params f) (closure_head is_async moves params g)
closure_like is_async moves params f g h =
    when_like is_async (keyword (codes "async") ∷ Blank ∷ []) (behind_async moves params f) (behind_async moves params g)
    (when_like moves (keyword (codes "move") ∷ Blank ∷ []) (Part all f) (Part all g) (ap (λ (b : Bool). are_pieces all && b) h))
  where
    all : Form
    all = comma_list true bar bar (map closure_param params)

-- the body of a closure, whatever braces may stand round it
pub closure_body_like : (b c : Braces) (f g : Form) → Like f g → Like (closure_body b f) (closure_body c g)
closure_body_like b c f g h = bodies b f ∙ ap (λ (a : Bool). a && true) h ∙ sym (bodies c g)
  where
    bodies : (b : Braces) (f : Form) → are_pieces (closure_body b f) ≡ (are_pieces f && true)
    bodies Bare f = refl
    bodies Unseen f = refl
    bodies Marked f = refl

-- a part one level deeper
pub deeper : (a b : Bool) → a ≡ b → (a && true) ≡ (b && true)
deeper a b h = ap (λ (c : Bool). c && true) h

pub and_yes : (a : Bool) → a ≡ ((a && true) && true)
and_yes true = refl
and_yes false = refl
