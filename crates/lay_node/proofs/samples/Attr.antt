-- Samples of attributes: how they are laid out, and what spells them.
use Rattle.std.proofs.Common.{◌≡◌, ℕ, Bool, true, false, List, [], ◌∷◌, ◌++◌, inl, inr, Some, None, codes, map, refl}
use Rattle.std.specs.Str.{chars}
use Rattle.lay_piece.specs.Docs.{doc_form}
use Rattle.lay_piece.specs.Forms.{after_literal}
use Rattle.lay_token.specs.Operators.{op_at}
use Rattle.lay_piece.specs.Quoted.{block_step, doc_step, string_step}
use Rattle.lay_piece.specs.Scan.{run}
use Rattle.lay_piece.specs.Value.{string_value, adds}
use Rattle.lay_piece.specs.declared.kind.Delim.TheVariants.{Paren, Bracket}
use Rattle.lay_piece.specs.declared.kind.Kind.TheVariants.{Str, Doc}
use Rattle.lay_token.specs.declared.token.Token.{Token}
use Rattle.lay_form.specs.Form.{Part, closer}
use Rattle.lay_form.specs.Notation.{piece}
use Rattle.lay_form.specs.Spelled.{Spells}
use Rattle.lay_node.specs.nodes.Attr.{meta_path_form, input_form, about_attr}
use Rattle.lay_node.specs.nodes.Facts.{Facts}
use Rattle.lay_node.specs.reader.Attr.{meta_name, value, meta_input, meta_attr, attribute}
use Rattle.lay_node.specs.reader.Loops.{repeat_from, repeat}
use Rattle.lay_node.specs.reader.SimplePath.{simple_path}
use Rattle.lay_node.specs.reader.Tokens.{run as run_tokens, tokens_of}
use Rattle.lay_node.specs.reader.Words.{word as word_reading}
use Rattle.lay_node.specs.declared.attr.Attr.TheVariants as attr
use Rattle.lay_node.specs.declared.attr.MetaInput.{MetaInput}
use Rattle.lay_node.specs.declared.attr.MetaInput.TheVariants as input
use Rattle.lay_node.specs.declared.attr.MetaPath.{MetaPath}
use Rattle.lay_node.specs.declared.attr.MetaPath.TheVariants as meta_path
use Rattle.lay_node.specs.declared.token.Listed.{Listed}
use Rattle.lay_node.specs.declared.token.Listed.TheVariants as listed
use Rattle.lay_node.proofs.samples.Tokens as list
use Rattle.lay_node.proofs.samples.Trees.{plain, a, b, laid, Spelt, token, word, mark, colons, opens, closes}
use lib.Utf8.{encode}

abbrev doc : List ℕ → Facts
doc text = about_attr false (attr.Doc false text)

abbrev path : Bool → List (List ℕ) → MetaPath
path global words = meta_path.Path (record { global = global; words = map plain words })

abbrev slash : MetaInput
slash = input.Value (listed.Token Str (codes "\"/x\"") false ∷ [])

-- `= b!(a)`
abbrev call : MetaInput
call = input.Value (list.b ∷ list.mark (codes "!") ∷ list.opens Paren ∷ list.a ∷ list.closes Paren ∷ [])

abbrev group : List Listed → MetaInput
group tokens = input.Group (record { delim = Paren; tokens = tokens })

abbrev meta : MetaPath → MetaInput → Facts
meta name given = about_attr false (attr.Meta false name given)

abbrev attr_tokens : List Token → List Token
attr_tokens ts = mark (codes "#") ∷ opens Bracket ∷ (ts ++ closes Bracket ∷ [])

-- an outer attribute, after its opening
meta_spelled : (name : MetaPath) (given : MetaInput) (ts : List Token)
    → Spells (Part (meta_path_form name) (input_form given (piece (closer Bracket ∷ [])))) 256 ts []
    → Spelt (meta name given) (mark (codes "#") ∷ opens Bracket ∷ ts)
meta_spelled name given ts s = (_, (_, (refl, refl, refl), (_, (refl, refl, refl), refl)), s)

-- ---- documentation

laid_line : laid (doc (codes " one")) ≡ codes "/// one"
unfolding doc_form
laid_line = refl

laid_block : laid (doc (codes " a\nb ")) ≡ codes "/** a\nb */"
unfolding doc_form run doc_step block_step
laid_block = refl

spelled_line : Spelt (doc (codes "x")) (token (Doc false false) (codes "x") false ∷ [])
spelled_line = (_, inl (false, refl, refl, refl), refl)

spelled_block : Spelt (doc (codes "a\nb")) (token (Doc false true) (codes "a\nb") false ∷ [])
spelled_block = (_, inl (true, refl, refl, refl), refl)

-- `#[doc = "x"]`
spelled_doc : Spelt (doc (codes "x")) (attr_tokens (word (codes "doc") ∷ mark (codes "=") ∷ token Str (codes "\"x\"") false ∷ []))
unfolding op_at chars after_literal run string_step adds string_value encode
spelled_doc = (
  _,
  inr (
    _,
    (_, (refl, refl, refl), (_, (refl, refl, refl), (_, (refl, refl, refl), (_, (refl, refl), refl)))),
    (_, ((codes "x", refl, refl), refl), (_, (refl, refl, refl), refl)),
  ),
  refl,
)

-- ---- other attributes

laid_meta : laid (meta (path false (a ∷ [])) input.Bare) ≡ codes "#[a]"
laid_meta = refl

laid_value : laid (meta (path false (codes "doc" ∷ [])) slash) ≡ codes "#[doc = \"/x\"]"
laid_value = refl

laid_call : laid (meta (path false (a ∷ [])) call) ≡ codes "#[a = b!(a)]"
laid_call = refl

laid_group : laid (meta (path false (codes "cfg" ∷ [])) (group (list.word (codes "all") ∷ list.opens Paren ∷ list.a
    ∷ list.mark (codes ",") ∷ list.word (codes "not") ∷ list.opens Paren ∷ list.b ∷ list.closes Paren
    ∷ list.closes Paren ∷ [])))
    ≡ codes "#[cfg(all(a, not(b)))]"
laid_group = refl

laid_empty_group : laid (meta (path false (a ∷ [])) (group [])) ≡ codes "#[a()]"
laid_empty_group = refl

laid_unsafe : laid (meta meta_path.Unsafe input.Bare) ≡ codes "#[unsafe]"
laid_unsafe = refl

laid_path : laid (meta (path true (a ∷ b ∷ [])) input.Bare) ≡ codes "#[::a::b]"
laid_path = refl

spelled_meta : Spelt (meta (path false (a ∷ [])) input.Bare) (attr_tokens (word a ∷ []))
spelled_meta = meta_spelled (path false (a ∷ [])) input.Bare (word a ∷ closes Bracket ∷ []) (_, (_, (refl, refl, refl), refl), (_, (_, (refl, refl, refl), refl), refl))

-- `#[a]`, with this input after its name
input_spelled : (given : MetaInput) (ts : List Token)
    → list.Spelt 256 (input_form given (piece (closer Bracket ∷ []))) ts []
    → Spelt (meta (path false (a ∷ [])) given) (mark (codes "#") ∷ opens Bracket ∷ word a ∷ ts)
input_spelled given ts s =
    meta_spelled (path false (a ∷ [])) given (word a ∷ ts) (_, (_, (refl, refl, refl), refl), s.spells)

spelled_value : Spelt (meta (path false (a ∷ [])) slash)
    (attr_tokens (word a ∷ mark (codes "=") ∷ token Str (codes "\"/x\"") false ∷ []))
unfolding op_at
spelled_value = input_spelled slash _
    (list.pieces (_, refl, (_, (refl, refl), (_, refl, refl)))
    (list.part (list.list (list.next list.end)) (list.fixed list.end)))

spelled_call : Spelt (meta (path false (a ∷ [])) call)
    (attr_tokens (word a ∷ mark (codes "=") ∷ word b ∷ mark (codes "!") ∷ opens Paren ∷ word a ∷ closes Paren ∷ []))
unfolding op_at
spelled_call = input_spelled call _
    (list.pieces (_, refl, (_, (refl, refl), (_, refl, refl)))
    (list.part (list.list (list.next (list.next (list.group (list.next list.end) list.end)))) (list.fixed list.end)))

spelled_group : Spelt (meta (path false (a ∷ [])) (group (list.b ∷ [])))
    (attr_tokens (word a ∷ opens Paren ∷ word b ∷ closes Paren ∷ []))
spelled_group = input_spelled (group (list.b ∷ [])) _ (list.group_before (list.next list.end) (list.fixed list.end))

spelled_unsafe : Spelt (meta meta_path.Unsafe input.Bare) (attr_tokens (word (codes "unsafe") ∷ []))
spelled_unsafe =
    meta_spelled meta_path.Unsafe input.Bare (word (codes "unsafe") ∷ closes Bracket ∷ [])
    (_, (_, (_, (refl, refl, refl), refl), refl), (_, (_, (refl, refl, refl), refl), refl))

spelled_path : Spelt (meta (path false (a ∷ b ∷ [])) input.Bare) (attr_tokens (word a ∷ colons (word b ∷ [])))
unfolding op_at
spelled_path = meta_spelled (path false (a ∷ b ∷ [])) input.Bare (word a ∷ colons (word b ∷ closes Bracket ∷ [])) (
  _,
  (_, (refl, refl, refl), (_, (_, (refl, refl), refl), (_, (refl, refl, refl), refl))),
  (_, (_, (refl, refl, refl), refl), refl),
)

-- ---- what is read as documentation

read_doc : attribute false (attr_tokens (word (codes "doc") ∷ mark (codes "=") ∷ token Str (codes "\"x\"") false ∷ []))
    ≡ Some (attr.Doc false (codes "x"), [])
unfolding attribute meta_attr meta_name simple_path word_reading repeat repeat_from meta_input value tokens_of
    run_tokens op_at chars after_literal run string_step adds string_value encode doc_form
read_doc = refl

-- no text that documentation can be written with
read_value : attribute false (attr_tokens (word (codes "doc") ∷ mark (codes "=") ∷ token Str (codes "\"/x\"") false ∷ []))
    ≡ Some (attr.Meta false (path false (codes "doc" ∷ [])) slash, [])
unfolding attribute meta_attr meta_name simple_path word_reading repeat repeat_from meta_input value tokens_of
    run_tokens op_at chars after_literal run string_step adds string_value encode doc_form
read_value = refl

-- a value of several tokens
read_call : attribute false (attr_tokens (word a ∷ mark (codes "=") ∷ word b ∷ mark (codes "!") ∷ opens Paren ∷ word a
    ∷ closes Paren ∷ [])) ≡ Some (attr.Meta false (path false (a ∷ [])) call, [])
unfolding attribute meta_attr meta_name simple_path word_reading repeat repeat_from meta_input value tokens_of
    run_tokens op_at
read_call = refl

-- no value without a token
no_value : attribute false (attr_tokens (word a ∷ mark (codes "=") ∷ [])) ≡ None
unfolding attribute meta_attr meta_name simple_path word_reading repeat repeat_from meta_input value tokens_of
    run_tokens op_at
no_value = refl
