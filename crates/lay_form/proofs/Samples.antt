-- Samples of forms and of the notation: how they are laid out, which tokens spell them, and what
-- may follow.
use Rattle.std.proofs.Common.{◌≡◌, ℕ, Bool, true, false, List, [], ◌∷◌, ◌++◌, refl, inl, inr, arith}
use Rattle.std.specs.Prelude.{codes, replicate}
use Rattle.std.specs.Str.{chars}
use Rattle.lay_piece.specs.Docs.{doc_form}
use Rattle.lay_layout.specs.Document.{Empty, AddText, text_of}
use Rattle.lay_piece.specs.Quoted.{doc_step, block_step}
use Rattle.lay_piece.specs.Scan.{run}
use Rattle.lay_piece.specs.declared.kind.Delim.TheVariants.{Paren, Brace}
use Rattle.lay_piece.specs.declared.kind.Kind.{Kind}
use Rattle.lay_piece.specs.declared.kind.Kind.TheVariants.{Ident, Float, Punct, Opener, Closer, Doc}
use Rattle.lay_token.specs.declared.token.Token.{Token}
use Rattle.lay_form.specs.Depth.{least_depth, alone}
use Rattle.lay_form.specs.Form.{Blank, Operator, Semicolons, Braces, Bare, Unseen, Marked, Nothing, ArmComma, Form, Done, Piece, Leaf, Listed, ListedDoc, Part, Deeper, Body, punct, opener, closer, semicolon}
use Rattle.lay_form.specs.LastParts.{last_follows}
use Rattle.lay_form.specs.Layout.{document}
use Rattle.lay_form.specs.Notation.{N, H, I4, piece, comma_list, body, fields, braces, soft, where_body, where_semicolon, wheres_spelled}
use Rattle.lay_form.specs.Spelled.{Spells}

abbrev word : List ℕ → Form
word cs = Leaf Ident cs Done

abbrev a : Form
a = word (codes "a")

abbrev b : Form
b = word (codes "b")

-- a word of this many letters
abbrev long : ℕ → Form
long n = word (replicate n 99)

abbrev laid : Form → List ℕ
laid f = text_of (document f)

-- ---- layouts

no_elements : laid (comma_list true (opener Paren) (closer Paren) []) ≡ codes "()"
no_elements = refl

two_elements : laid (comma_list true (opener Paren) (closer Paren) (a ∷ b ∷ [])) ≡ codes "(a, b)"
two_elements = refl

a_broken_list : laid (comma_list true (opener Paren) (closer Paren) (a ∷ long 88 ∷ [])) ≡ codes "(\n    a,\n    " ++ (replicate 88 99 ++ codes ",\n)")
a_broken_list = refl

-- the parameters of a variadic function, after the last of which no comma stands
abbrev variadic : Form → Form
variadic e = comma_list false (opener Paren) (closer Paren) (e ∷ piece (Operator (codes "...") ∷ []) ∷ [])

a_variadic_list : laid (variadic a) ≡ codes "(a, ...)"
a_variadic_list = refl

a_broken_variadic_list : laid (variadic (long 83)) ≡ codes "(\n    " ++ (replicate 83 99 ++ codes ",\n    ...\n)")
a_broken_variadic_list = refl

no_parts : laid (body (Blank ∷ []) [] []) ≡ codes " {}"
no_parts = refl

two_parts : laid (body [] [] (a ∷ b ∷ [])) ≡ codes "{\n    a\n    b\n}"
two_parts = refl

two_fields : laid (fields (Blank ∷ []) (a ∷ b ∷ [])) ≡ codes " {\n    a,\n    b,\n}"
two_fields = refl

no_braces : laid (braces true []) ≡ codes " {}"
no_braces = refl

two_in_braces : laid (braces true (a ∷ b ∷ [])) ≡ codes " { a, b }"
two_in_braces = refl

a_rest_in_braces : laid (braces false (a ∷ piece (Operator (codes "..") ∷ []) ∷ [])) ≡ codes " { a, .. }"
a_rest_in_braces = refl

one_expression : laid (soft a) ≡ codes " { a }"
one_expression = refl

predicates_before_a_body : laid (Part (where_body (a ∷ b ∷ [])) (body [] [] (a ∷ []))) ≡ codes " where a, b {\n    a\n}"
predicates_before_a_body = refl

no_predicates : laid (Part (where_body []) (body (Blank ∷ []) [] [])) ≡ codes " {}"
no_predicates = refl

predicates_before_a_semicolon : laid (Part (where_semicolon (a ∷ [])) (piece semicolon)) ≡ codes " where a;"
predicates_before_a_semicolon = refl

-- A piece of nothing that is laid out is no text.
dropped_semicolons : document (Piece (Semicolons ∷ []) a) ≡ AddText (codes "a") Empty
dropped_semicolons = refl

-- a step after a literal that ends in a point
a_point_behind_a_point : laid (Part (Leaf Float (codes "1.") Done) (piece (Operator (codes ".") ∷ []))) ≡ codes "1. ."
unfolding chars
a_point_behind_a_point = refl

-- ---- token lists

a_joint_mark : laid (I4 (Listed Punct (codes "&") true (Listed Punct (codes "&") false Done)) Done) ≡ codes "&&"
a_joint_mark = refl

a_doc_on_a_line : laid (I4 (ListedDoc false (codes " x") (H a)) Done) ≡ codes "/// x\n    a"
unfolding doc_form
a_doc_on_a_line = refl

a_doc_in_a_block : laid (I4 (ListedDoc true (codes " x\n") Done) Done) ≡ codes "/*! x\n*/"
unfolding doc_form run doc_step block_step
a_doc_in_a_block = refl

-- ---- bodies

-- an arm; the flags say that it is the last, and that its body is block-like
abbrev arm : Braces → Bool → Bool → Form → Form
arm braces last block_like i = Piece (Blank ∷ Operator (codes "=>") ∷ Blank ∷ []) (N (Body braces (ArmComma last block_like) i Done))

an_arm : laid (arm Marked false false a) ≡ codes " => a,"
an_arm = refl

a_broken_arm : laid (arm Marked false false (long 86)) ≡ codes " => {\n    " ++ (replicate 86 99 ++ codes "\n}")
a_broken_arm = refl

a_call_as_body : laid (arm Bare false false (long 86)) ≡ codes " => " ++ (replicate 86 99 ++ codes ",")
a_call_as_body = refl

a_block_as_body : laid (arm Unseen false true (piece (opener Brace ∷ closer Brace ∷ []))) ≡ codes " => {}"
a_block_as_body = refl

abbrev closure : Braces → Form → Form
closure braces i = Piece (punct 124 ∷ punct 124 ∷ []) (Piece (Blank ∷ []) (N (Body braces Nothing i Done)))

a_closure : laid (closure Marked a) ≡ codes "|| a"
a_closure = refl

a_broken_closure : laid (closure Marked (long 87)) ≡ codes "|| {\n    " ++ (replicate 87 99 ++ codes "\n}")
a_broken_closure = refl

a_closure_without_braces : laid (closure Bare (long 87)) ≡ codes "|| " ++ replicate 87 99
a_closure_without_braces = refl

-- ---- spellings

abbrev token : Kind → List ℕ → Token
token kind text = record { kind = kind; joint = false; text = text; at = 0; len = 0 }

abbrev where_token : Token
where_token = token Ident (codes "where")

abbrev a_token : Token
a_token = token Ident (codes "a")

abbrev b_token : Token
b_token = token Ident (codes "b")

abbrev comma_token : Token
comma_token = token Punct (codes ",")

abbrev semicolon_token : Token
semicolon_token = token Punct (codes ";")

abbrev open_token : Token
open_token = token (Opener Brace) (codes "{")

abbrev close_token : Token
close_token = token (Closer Brace) (codes "}")

where_without_predicates : Spells (where_body []) 1 (where_token ∷ []) []
where_without_predicates = ([], inr ([], (refl, refl, refl), refl), refl)

a_field_with_its_comma : Spells (fields [] (a ∷ [])) 1 (open_token ∷ a_token ∷ comma_token ∷ close_token ∷ []) []
a_field_with_its_comma = (_, (_, (refl, refl, refl), refl), (_, (_, (_, (_, (_, (refl, refl, refl), refl), (_, inr (_, (refl, refl, refl), refl), refl)), refl), refl), (_, (_, (refl, refl, refl), refl), refl)))

a_field_without_it : Spells (fields [] (a ∷ [])) 1 (open_token ∷ a_token ∷ close_token ∷ []) []
a_field_without_it = (_, (_, (refl, refl, refl), refl), (_, (_, (_, (_, (_, (refl, refl, refl), refl), (_, inl refl, refl)), refl), refl), (_, (_, (refl, refl, refl), refl), refl)))

-- documentation in a token list, spelled as a block or on a line
a_listed_doc : (block : Bool) → Spells (ListedDoc false (codes " x") Done) 1 (token (Doc false block) (codes " x") ∷ []) []
a_listed_doc block = (_, (block, refl, refl, refl), refl)

-- ---- a last part that may be left out

-- any word begins a predicate here
abbrev is_ident : Kind → Bool
is_ident Ident = true
is_ident _ = false

abbrev begins_word : List Token → Bool
begins_word [] = false
begins_word (t ∷ ts) = is_ident t.kind

abbrev begins_comma : List Token → Bool
begins_comma [] = false
begins_comma (t ∷ ts) = elim (t.kind) [ Punct ↦ true | _ ↦ false ]

-- one predicate with its comma or without it, and whether the tokens after it may follow
abbrev one_predicate : Bool → Form
one_predicate last = wheres_spelled last (a ∷ [])

abbrev may_follow_it : Bool → List Token → Bool
may_follow_it last ts = last_follows last begins_comma begins_word ts

-- before a `,` the clause takes it, and can't do without
with_its_comma : Spells (one_predicate true) 1 (where_token ∷ a_token ∷ comma_token ∷ []) []
with_its_comma = (_, (_, (_, (refl, refl, refl), refl), (_, (_, (refl, refl, refl), refl), (_, refl, (_, (_, (refl, refl, refl), refl), refl)))), refl)

before_a_comma : may_follow_it true [] ≡ true
before_a_comma = refl

not_without_it : may_follow_it false (comma_token ∷ []) ≡ false
not_without_it = refl

-- before a further word it ends without a comma, and with one the word would be a predicate of it
without_its_comma : Spells (one_predicate false) 1 (where_token ∷ a_token ∷ b_token ∷ []) (b_token ∷ [])
without_its_comma = (_, (_, (_, (refl, refl, refl), refl), (_, (_, (refl, refl, refl), refl), (_, refl, refl))), refl)

before_a_word : may_follow_it false (b_token ∷ []) ≡ true
before_a_word = refl

not_with_it : may_follow_it true (b_token ∷ []) ≡ false
not_with_it = refl

-- An arm by itself, with its comma, without it, and with its body in braces
abbrev lone_arm : Form
lone_arm = Body Marked (ArmComma true false) a Done

an_arm_with_its_comma : Spells lone_arm 1 (a_token ∷ comma_token ∷ b_token ∷ []) (b_token ∷ [])
an_arm_with_its_comma = (0, tt, omega arith, (_, (_, refl, (_, (_, (refl, refl, refl), refl), refl)), (_, inr (_, (refl, refl, refl), refl), refl)))

an_arm_without_it : Spells lone_arm 1 (a_token ∷ []) []
an_arm_without_it = (0, tt, omega arith, (_, (_, refl, (_, (_, (refl, refl, refl), refl), refl)), (_, inl (refl, refl), refl)))

an_arm_in_braces : Spells lone_arm 1 (open_token ∷ semicolon_token ∷ a_token ∷ close_token ∷ b_token ∷ []) (b_token ∷ [])
an_arm_in_braces =
    (1, tt, omega arith, (_, (_, (_, (_, (refl, refl, refl), (_, (1, (_, (refl, refl, refl), refl)), refl)), refl), (_, (_, (refl, refl, refl), refl), (_, (_, (refl, refl, refl), refl), refl))), (_, inl (refl, refl), refl)))

-- ---- depth

-- a node that isn't counted, with a part that is
abbrev uncounted : Form
uncounted = Part (Deeper a Done) Done

as_a_part : Spells uncounted 1 (a_token ∷ []) []
as_a_part = (_, (_, (_, (refl, refl, refl), refl), refl), refl)

-- By itself at depth 1 its part would stand at 0.
none_at_one : Spells (alone uncounted) 1 (a_token ∷ []) [] → ⊥
none_at_one s = s.1.1

by_itself : Spells (alone uncounted) 2 (a_token ∷ []) []
by_itself = (_, as_a_part, refl)

it_needs_two : least_depth (alone uncounted) ≡ 2
it_needs_two = refl
