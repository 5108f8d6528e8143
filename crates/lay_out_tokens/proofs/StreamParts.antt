-- The streams of forms, part by part.
use Rattle.std.proofs.Common.{◌≡◌, ℕ, suc, ◌+◌, ◌-◌, ◌≤◌, ◌<◌, Bool, true, false, ◌||◌, cond, List, [], ◌∷◌, ◌++◌}
use Rattle.std.proofs.Common.{length, take, drop, get_or, drop-cons, add-one, codes, pos, Ok, refl, sym, ap, ◌∙◌}
use Rattle.std.proofs.Common.{append-nil, arith}
use Rattle.std.proofs.Math.Seq.{take-length}
use Rattle.std.proofs.Math.ListN.{drop_of_length-le}
use Rattle.lay_layout.specs.Document.{Empty}
use Rattle.lay_piece.specs.Forms.{opening, closing}
use Rattle.lay_layout.specs.Machine.{opened}
use Rattle.lay_layout.specs.declared.layout.Break.{Break}
use Rattle.lay_layout.specs.declared.layout.Tok.{Tok}
use Rattle.lay_layout.specs.declared.layout.Tok.TheVariants as tok
use Rattle.lay_piece.specs.declared.kind.Delim.{Delim}
use Rattle.lay_piece.specs.declared.kind.Delim.TheVariants.{Paren, Bracket, Brace}
use Rattle.lay_layout.proofs.Whole.{opened_document}
use Rattle.lay_stream.specs.Fed.{Meanings, Did}
use Rattle.lay_stream.proofs.Calls.{level_of}
use Rattle.lay_form.specs.Form.{Form, Blank, Part, closer, Done, Piece}
use Rattle.lay_form.specs.Layout.{break_of, document, ends_behind_point, text_of_bits}
use Rattle.lay_form.specs.Notation.{H, piece, when}
use Rattle.lay_form.specs.Stream.{fed, feed_doc, feed_text, stream_of}
use Rattle.lay_form.proofs.StreamLaws.{laid_fed, stream_is}
use Rattle.lay_node.specs.Words.{colons, leaf_of}
use Rattle.lay_node.specs.nodes.Attr.{attr_form, attr_part, behind_attr, is_inner, is_line, input_form, meta_path_form}
use Rattle.lay_node.specs.nodes.Call.{bang, call_form}
use Rattle.lay_node.specs.nodes.SimplePath.{simple_path_form, simple_words_form}
use Rattle.lay_node.specs.tokens.Lists.{enclosed_form, ended_by, ends_in_line, form_of_grouping, group_form, token_list}
use Rattle.lay_node.specs.tokens.Listing.{Grouping, NoMore, in_groups}
use Rattle.lay_node.specs.tokens.Pairs.{at_start}
use Rattle.lay_node.specs.declared.attr.Attr.{Attr}
use Rattle.lay_node.specs.declared.attr.Attr.TheVariants as attr
use Rattle.lay_node.specs.declared.attr.MetaInput.{MetaInput}
use Rattle.lay_node.specs.declared.attr.MetaInput.TheVariants as input
use Rattle.lay_node.specs.declared.attr.MetaPath.{MetaPath}
use Rattle.lay_node.specs.declared.simple_path.SimplePath.{SimplePath}
use Rattle.lay_node.specs.declared.token.Listed.{Listed}
use Rattle.lay_node.specs.declared.token.Word.{Word}
use Rattle.lay_node.specs.declared.tokens.Group.{Group}
use Rattle.lay_node.specs.declared.tokens.MacroCall.{MacroCall}
use Rattle.lay_out_tokens.specs.Fed as feeds
use Rattle.lay_out_tokens.specs.Fed.{opening_space, closing_space}
use Rattle.lay_out_tokens.specs.Parts.{further_words}

-- ---- forms in general

-- What a form is fed as stands before what follows it.
pub fed_more : (point : Bool) (f : Form) (more : List Tok) → fed point f more ≡ fed point f [] ++ more
fed_more point f more =
    sym (laid_fed point f Empty more)
    ∙ ap (λ (s : List Tok). s ++ more) (sym (append-nil _) ∙ laid_fed point f Empty [])

-- a form leaves as many groups open as were open before
pub level_stays : {S F T : Type 0} {m : Meanings S F} {a b : S} {x : T} (f : Form) → Did m a (stream_of f) (Ok x) b
    → m.groups b ≡ m.groups a
level_stays {m} {a} f h =
    level_of h ∙ ap (λ (s : List Tok). opened s (m.groups a)) (sym (stream_is f))
    ∙ opened_document (document f) (m.groups a)

-- the element at an index, and what follows it
rest_first : {A : Type 0} (xs : List A) (i : ℕ) (x : A) → i < length xs → x ≡ get_or xs i x
    → drop i xs ≡ x ∷ drop (i + 1) xs
rest_first xs i x lt is = rw add-one (drop-cons xs i x lt ∙ ap (λ (y : _). y ∷ drop (suc i) xs) (sym is))

take_all : {A : Type 0} (xs : List A) → take (suc (length xs) - 1) xs ≡ xs
take_all xs = let e : suc (length xs) - 1 ≡ length xs = omega arith in rw e (take-length xs)

pub first_and_rest : {A : Type 0} (xs : List A) (first : A) → 1 ≤ length xs → first ≡ get_or xs 0 first
    → first ∷ take (length xs - 1) (drop 1 xs) ≡ xs
first_and_rest [] first h e = absurd (omega arith)
first_and_rest (x ∷ xs) first h e = ap (λ (z : _). z ∷ take (suc (length xs) - 1) xs) e
    ∙ ap (λ (z : _). x ∷ z) (take_all xs)

-- What one turn of a loop puts and what is left are what was left before it, and at its end nothing is left.
pub loop_step : {A : Type 0} (s : List A → List Tok) (xs : List A) (i : ℕ) (x : A) (put : List Tok) → i < length xs
    → x ≡ get_or xs i x
    → put ≡ s (x ∷ drop (i + 1) xs) → put ≡ s (drop i xs)
loop_step s xs i x put lt is e = e ∙ ap s (sym (rest_first xs i x lt is))

pub loop_done : {A : Type 0} (s : List A → List Tok) (xs : List A) (i : ℕ) → length xs ≤ i → s [] ≡ s (drop i xs)
loop_done s xs i h = ap s (sym (drop_of_length-le xs h))

-- ---- words and documentation

pub leaf_on : (raw : Bool) (word : List ℕ) (f : Form) (more : List Tok)
    → fed false (leaf_of raw word f) more ≡ fed false (leaf_of raw word Done) (fed false f more)
leaf_on true word f more = refl
leaf_on false word f more = refl

pub leaf_more : (raw : Bool) (word : List ℕ) (f : Form)
    → stream_of (leaf_of raw word Done) ++ stream_of f ≡ stream_of (leaf_of raw word f)
leaf_more raw word f = sym (leaf_on raw word f [] ∙ fed_more false (leaf_of raw word Done) (stream_of f))

text_more : (word : List ℕ) (more : List Tok) → feed_text word [] ++ more ≡ feed_text word more
text_more [] more = refl
text_more (c ∷ cs) more = refl

pub block_parts : (inner : Bool) (word : List ℕ)
    → tok.Text (cond inner (codes "/*!") (codes "/**")) ∷ (feed_text word [] ++ (tok.Text (codes "*/") ∷ []))
    ≡ feed_doc inner true word []
block_parts true word = ap (λ (s : List Tok). tok.Text (codes "/*!") ∷ s) (text_more word _)
block_parts false word = ap (λ (s : List Tok). tok.Text (codes "/**") ∷ s) (text_more word _)

pub line_parts : (inner : Bool) (word : List ℕ)
    → tok.Text (cond inner (codes "//!") (codes "///")) ∷ feed_text word [] ≡ feed_doc inner false word []
line_parts true word = refl
line_parts false word = refl

-- ---- simple paths and attributes

pub when_more : (global : Bool) (f : Form)
    → stream_of (when global colons Done) ++ stream_of f ≡ stream_of (when global colons f)
when_more true f = refl
when_more false f = refl

pub simple_path_parts : (path : SimplePath) (put : List Word) → put ≡ path.words
    → stream_of (when path.global colons Done) ++ stream_of (simple_words_form put Done)
    ≡ stream_of (simple_path_form path)
simple_path_parts path put same = rw same (when_more path.global (simple_words_form path.words Done))

joined : (w : Word) (more : List Word) → leaf_of w.raw w.text (further_words more) ≡ simple_words_form (w ∷ more) Done
joined w [] = refl
joined w (v ∷ more) = ap (λ (f : Form). leaf_of w.raw w.text (Piece colons f)) (joined v more)

pub no_words : (ws : List Word) → length ws < 1 → [] ≡ stream_of (simple_words_form ws Done)
no_words [] h = refl
no_words (w ∷ ws) h = absurd (omega arith)

pub some_words : (ws : List Word) (first : Word) → 1 ≤ length ws → first ≡ get_or ws 0 first
    → stream_of (leaf_of first.raw first.text (further_words (take (length ws - 1) (drop 1 ws))))
    ≡ stream_of (simple_words_form ws Done)
some_words ws first h is =
    ap stream_of (joined first (take (length ws - 1) (drop 1 ws)))
    ∙ ap (λ (xs : List Word). stream_of (simple_words_form xs Done)) (first_and_rest ws first h is)

pub further_word : (w : Word) (more : List Word)
    → tok.Text (codes "::") ∷ (stream_of (leaf_of w.raw w.text Done) ++ stream_of (further_words more))
    ≡ stream_of (further_words (w ∷ more))
further_word w more =
    ap (λ (l : List Tok). tok.Text (codes "::") ∷ l) (leaf_more w.raw w.text (further_words more))

bracket : (point : Bool) (more : List Tok) → tok.Text (codes "]") ∷ more ≡ fed point (piece (closer Bracket ∷ [])) more
bracket true more = refl
bracket false more = refl

-- a group, and what follows it
group_more : (point : Bool) (d : Delim) (i : Grouping) (line : Bool) (inner f : Form) (more : List Tok)
    → ((q : Bool) → fed q f more ≡ fed false f more)
    → fed point (enclosed_form d i line inner f) more ≡ fed false (enclosed_form d i line inner Done) (fed false f more)
group_more point Paren NoMore line inner f more any = refl
group_more point Bracket NoMore line inner f more any = refl
group_more point Brace NoMore line inner f more any = refl
group_more point Paren i line inner f more any =
    ap (λ (s : List Tok). fed false (enclosed_form Paren i line inner Done) s) (any _)
group_more point Bracket i line inner f more any =
    ap (λ (s : List Tok). fed false (enclosed_form Bracket i line inner Done) s) (any _)
group_more point Brace i line inner f more any =
    ap (λ (s : List Tok). fed false (enclosed_form Brace i line inner Done) s) (any _)

pub behind_group_is : (point : Bool) (g : Group) (f : Form) → ((q : Bool) → fed q f [] ≡ stream_of f)
    → stream_of (group_form g Done) ++ stream_of f ≡ fed point (group_form g f) []
behind_group_is point g f any =
    let i = in_groups g.tokens in
    sym (group_more point g.delim i (ends_in_line g.tokens) (form_of_grouping (at_start 0) i) f [] any
    ∙ fed_more false (group_form g Done) (stream_of f))

input_more : (point : Bool) (i : MetaInput) → stream_of (input_form i Done) ++ (tok.Text (codes "]") ∷ [])
    ≡ fed point (input_form i (piece (closer Bracket ∷ []))) []
input_more point input.Bare = bracket point []
input_more point (input.Group g) = behind_group_is point g (piece (closer Bracket ∷ [])) (λ q. sym (bracket q []))
input_more point (input.Value ts) =
    ap (λ (s : List Tok). tok.Text (codes " = ") ∷ s)
    (sym (fed_more false (token_list ts) (tok.Text (codes "]") ∷ []))
    ∙ ap (λ (s : List Tok). fed false (token_list ts) s) (bracket (ends_behind_point false (token_list ts)) []))

behind_opening : (path : MetaPath) (i : MetaInput)
    → stream_of (meta_path_form path) ++ (stream_of (input_form i Done) ++ (tok.Text (codes "]") ∷ []))
    ≡ stream_of (Part (meta_path_form path) (input_form i (piece (closer Bracket ∷ []))))
behind_opening path i =
    let point = ends_behind_point false (meta_path_form path) in
    ap (λ (s : List Tok). stream_of (meta_path_form path) ++ s) (input_more point i)
    ∙ sym (fed_more false (meta_path_form path) (fed point (input_form i (piece (closer Bracket ∷ []))) []))

pub meta_parts : (inner : Bool) (path : MetaPath) (i : MetaInput)
    → tok.Text (cond inner (codes "#![") (codes "#[")) ∷
    (stream_of (meta_path_form path) ++ (stream_of (input_form i Done) ++ (tok.Text (codes "]") ∷ [])))
    ≡ stream_of (attr_form (attr.Meta inner path i))
meta_parts true path i = ap (λ (s : List Tok). tok.Text (codes "#![") ∷ s) (behind_opening path i)
meta_parts false path i = ap (λ (s : List Tok). tok.Text (codes "#[") ∷ s) (behind_opening path i)

any_behind : (inner own_line : Bool) (point : Bool)
    → fed point (cond inner Done (cond own_line (H Done) (Piece (Blank ∷ []) Done))) []
    ≡ stream_of (cond inner Done (cond own_line (H Done) (Piece (Blank ∷ []) Done)))
any_behind true own_line point = refl
any_behind false true point = refl
any_behind false false point = refl

pub attr_parts : (own_line : Bool) (a : Attr)
    → stream_of (attr_form a) ++ stream_of (behind_attr own_line a Done) ≡ stream_of (attr_part own_line a Done)
attr_parts own_line a =
    sym (fed_more false (attr_form a) (fed (ends_behind_point false (attr_form a)) (behind_attr own_line a Done) [])
    ∙ ap (λ (s : List Tok). stream_of (attr_form a) ++ s)
    (any_behind (is_inner a) (own_line || is_line a) (ends_behind_point false (attr_form a))))

bang_more : (d : Delim) (g : Group) (point : Bool)
    → tok.Text (text_of_bits (bang d)) ∷ stream_of (group_form g Done)
    ≡ fed point (Piece (bang d) (group_form g Done)) []
bang_more Paren g point = refl
bang_more Bracket g point = refl
bang_more Brace g point = refl

pub call_parts : (call : MacroCall)
    → stream_of (simple_path_form call.path)
    ++ (tok.Text (text_of_bits (bang call.tokens.delim)) ∷ stream_of (group_form call.tokens Done))
    ≡ stream_of (call_form call)
call_parts call =
    let point = ends_behind_point false (simple_path_form call.path) in
    ap (λ (s : List Tok). stream_of (simple_path_form call.path) ++ s) (bang_more call.tokens.delim call.tokens point)
    ∙ sym (fed_more false (simple_path_form call.path)
    (fed point (Piece (bang call.tokens.delim) (group_form call.tokens Done)) []))

-- ---- groups of token lists

pub opened_parts : (d : Delim) (text : List ℕ) (brk : Break) → text ≡ opening d ∷ [] → brk ≡ break_of (opening_space d)
    → tok.Begin true (pos 4) ∷ tok.Text text ∷ tok.Break brk ∷ tok.Begin false (pos 0) ∷ [] ≡ feeds.opened d
opened_parts d text brk e f = rw (e, f) refl

pub closed_parts : (line : Bool) (d : Delim) (text : List ℕ) (brk : Break) → text ≡ closing d ∷ []
    → brk ≡ break_of (closing_space line d)
    → tok.End ∷ tok.Break brk ∷ tok.Text text ∷ tok.End ∷ [] ≡ feeds.closed line d
closed_parts line d text brk e f = rw (e, f) refl

any_end : (point line : Bool) → fed point (ended_by line) [] ≡ stream_of (ended_by line)
any_end point true = refl
any_end point false = refl

pub list_parts : (ts put : List Listed) (line : Bool) → put ≡ ts → line ≡ ends_in_line put
    → tok.Begin false (pos 4) ∷ (stream_of (form_of_grouping (at_start 0) (in_groups put))
    ++ (tok.End ∷ stream_of (ended_by line))) ≡ stream_of (token_list ts)
list_parts ts put line e f =
    let inner = form_of_grouping (at_start 0) (in_groups put) in
    ap (λ (s : List Tok). tok.Begin false (pos 4) ∷ s)
    (ap (λ (b : Bool). stream_of inner ++ (tok.End ∷ stream_of (ended_by b))) f
    ∙ sym (fed_more false inner (tok.End ∷ stream_of (ended_by (ends_in_line put))))
    ∙ ap (λ (s : List Tok). fed false inner (tok.End ∷ s))
    (sym (any_end (ends_behind_point false inner) (ends_in_line put))))
    ∙ ap (λ (xs : List Listed). stream_of (token_list xs)) e

pub value_parts : (ts : List Listed)
    → tok.Text (codes " = ") ∷ stream_of (token_list ts) ≡ stream_of (input_form (input.Value ts) Done)
value_parts ts = refl

-- a group with tokens, and nothing after it
pub group_alone : (d : Delim) (i : Grouping) (line : Bool) (inner : Form) → (i ≡ NoMore → ⊥)
    → feeds.opened d ++ (stream_of inner ++ feeds.closed line d) ≡ stream_of (enclosed_form d i line inner Done)
group_alone d NoMore line inner h = absurd (h refl)
group_alone Paren i true inner h =
    sym (ap (λ (s : List Tok). feeds.opened Paren ++ s) (fed_more false inner (feeds.closed true Paren)))
group_alone Bracket i true inner h =
    sym (ap (λ (s : List Tok). feeds.opened Bracket ++ s) (fed_more false inner (feeds.closed true Bracket)))
group_alone Brace i true inner h =
    sym (ap (λ (s : List Tok). feeds.opened Brace ++ s) (fed_more false inner (feeds.closed true Brace)))
group_alone Paren i false inner h =
    sym (ap (λ (s : List Tok). feeds.opened Paren ++ s) (fed_more false inner (feeds.closed false Paren)))
group_alone Bracket i false inner h =
    sym (ap (λ (s : List Tok). feeds.opened Bracket ++ s) (fed_more false inner (feeds.closed false Bracket)))
group_alone Brace i false inner h =
    sym (ap (λ (s : List Tok). feeds.opened Brace ++ s) (fed_more false inner (feeds.closed false Brace)))
