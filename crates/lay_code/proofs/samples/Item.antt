-- Samples of items and of files: how they are laid out, what spells them, and what they need of the depth.
use Rattle.std.proofs.Common.{◌≡◌, ℕ, suc, true, false, List, [], ◌∷◌, ◌++◌, Some, None, inl, codes, refl}
use Rattle.lay_piece.specs.Docs.{doc_form}
use Rattle.lay_token.specs.Operators.{op_at}
use Rattle.lay_piece.specs.declared.kind.Delim.TheVariants.{Paren, Brace}
use Rattle.lay_piece.specs.declared.kind.Kind.TheVariants.{RawIdent, Doc}
use Rattle.lay_token.specs.declared.token.Token.{Token}
use Rattle.lay_form.specs.Depth.{least_depth}
use Rattle.lay_form.specs.Form.{Form, Done, Piece}
use Rattle.lay_form.specs.Spelled.{Spells}
use Rattle.lay_node.specs.nodes.Call.{bang, end_form}
use Rattle.lay_node.specs.declared.attr.Attr.{Attr}
use Rattle.lay_node.specs.declared.attr.Attr.TheVariants as attr
use Rattle.lay_node.specs.reader.Call.{call}
use Rattle.lay_node.specs.reader.Loops.{repeat_from, repeat}
use Rattle.lay_node.specs.reader.SimplePath.{simple_path}
use Rattle.lay_node.specs.reader.Tokens.{run, tokens_of, group}
use Rattle.lay_node.specs.reader.Words.{name, word as word_reading}
use Rattle.lay_node.specs.tokens.Lists.{group_form}
use Rattle.lay_node.specs.declared.token.Listed.{Listed}
use Rattle.lay_node.specs.declared.tokens.Group.{Group}
use Rattle.lay_node.specs.declared.tokens.MacroCall.{MacroCall}
use Rattle.lay_node.specs.declared.token.Name.{Name}
use Rattle.lay_node.specs.declared.vis.Vis.TheVariants as vis
use Rattle.lay_node.proofs.samples.Tokens as list
use Rattle.lay_node.proofs.samples.Trees.{named, plain, a, b, c, word_of, group_of, word_is, group_is, laid, Spelt, token, word, mark, opens, closes}
use Rattle.lay_code.specs.Out.{out}
use Rattle.lay_code.specs.nodes.Code.{told_of_kind}
use Rattle.lay_code.specs.nodes.CodeFacts.{KindFacts}
use Rattle.lay_code.specs.nodes.Item.{kind_facts, kind_form}
use Rattle.lay_code.specs.reader.Item.{call_item}
use Rattle.lay_code.specs.reader.ItemLeads.{begins_rules}
use Rattle.lay_code.specs.declared.item.Item.{Item}
use Rattle.lay_code.specs.declared.item.ItemKind.{ItemKind}
use Rattle.lay_code.specs.declared.blocks.Stmt.TheOpen.{ItemKind-F}
use Rattle.lay_code.specs.declared.item.ItemKind.TheVariants as item
use Rattle.lay_code.proofs.nodes.ItemLaws as items
use Rattle.lay_code.proofs.samples.ItemTrees.{A, x_doc, item_of, unit, structure, module_of, import_of, struct_facts, about, kind_is, struct_is}

-- a raw identifier
abbrev raw_type : Name
raw_type = record { raw = true; text = codes "type" }

abbrev one_doc : Attr
one_doc = attr.Doc false (codes " one")

abbrev m : Name
m = named (codes "m")

abbrev in_braces : List Listed → Group
in_braces tokens = record { delim = Brace; tokens = tokens }

abbrev in_parens : List Listed → Group
in_parens tokens = record { delim = Paren; tokens = tokens }

abbrev m_call : Group → MacroCall
m_call tokens = record {
  path = record { global = false; words = plain (codes "m") ∷ [] };
  tokens = tokens;
}

abbrev call_of : Group → Item
call_of tokens = item_of [] (item.Call (m_call tokens))

-- `() => { 1 };`
abbrev rules : List Listed
rules = list.opens Paren ∷ list.closes Paren ∷ list.joint (codes "=") ∷ list.mark (codes ">") ∷ list.opens Brace
    ∷ list.number (codes "1") ∷ list.closes Brace ∷ list.mark (codes ";") ∷ []

-- `a += b; x.0`
abbrev statements : List Listed
statements = list.a ∷ list.joint (codes "+") ∷ list.mark (codes "=") ∷ list.b ∷ list.mark (codes ";")
    ∷ list.word (codes "x") ∷ list.mark (codes ".") ∷ list.number (codes "0") ∷ []

-- `a && b, &c, -1, f::<T>(x)`
abbrev arguments : List Listed
arguments = list.a ∷ list.joint (codes "&") ∷ list.mark (codes "&") ∷ list.b ∷ list.mark (codes ",")
    ∷ list.mark (codes "&") ∷ list.word c ∷ list.mark (codes ",") ∷ list.mark (codes "-") ∷ list.number (codes "1")
    ∷ list.mark (codes ",") ∷ list.word (codes "f") ∷ list.joint (codes ":") ∷ list.joint (codes ":")
    ∷ list.mark (codes "<") ∷ list.word (codes "T") ∷ list.mark (codes ">") ∷ list.opens Paren ∷ list.word (codes "x")
    ∷ list.closes Paren ∷ []

-- ---- layouts

laid_struct : laid (about (structure [] A)) ≡ codes "struct A;"
laid_struct = rw (struct_is [] A) refl

laid_raw : laid (about (structure [] raw_type)) ≡ codes "struct r#type;"
laid_raw = rw (struct_is [] raw_type) refl

laid_documented : laid (about (structure (one_doc ∷ []) A)) ≡ codes "/// one\nstruct A;"
unfolding doc_form
laid_documented = rw (struct_is (one_doc ∷ []) A) refl

laid_empty_module : laid (about (module_of [] [])) ≡ codes "mod a {}"
laid_empty_module = rw (kind_is [] _ _ (items.module_is (named a) [] [])) refl

laid_module : laid (about (module_of (x_doc ∷ []) (structure [] A ∷ []))) ≡ codes "mod a {\n    //! x\n    struct A;\n}"
unfolding doc_form
laid_module = rw (kind_is [] _ _ (items.module_is (named a) (x_doc ∷ []) (structure [] A ∷ [])), struct_is [] A) refl

laid_import : laid (about (import_of (word_of a None))) ≡ codes "use a;"
laid_import = rw (kind_is [] _ _ (items.import_is (word_of a None)), word_is a None) refl

laid_rules : laid (about (item_of [] (item.MacroRules m (in_braces rules))))
    ≡ codes "macro_rules! m { () => { 1 }; }"
laid_rules = rw (kind_is [] _ _ (items.rules_is m (in_braces rules))) refl

laid_rules_end : laid (about (item_of [] (item.MacroRules m (in_parens [])))) ≡ codes "macro_rules! m();"
laid_rules_end = rw (kind_is [] _ _ (items.rules_is m (in_parens []))) refl

laid_call : laid (about (call_of (in_braces statements))) ≡ codes "m! { a += b; x.0 }"
laid_call = rw (kind_is [] _ _ (items.call_is (m_call (in_braces statements)))) refl

laid_call_end : laid (about (call_of (in_parens arguments))) ≡ codes "m!(a && b, &c, -1, f::<T>(x));"
laid_call_end = rw (kind_is [] _ _ (items.call_is (m_call (in_parens arguments)))) refl

laid_empty_call : laid (about (call_of (in_braces []))) ≡ codes "m! {}"
laid_empty_call = rw (kind_is [] _ _ (items.call_is (m_call (in_braces [])))) refl

laid_file : out (record { shebang = Some (codes "#!/bin/sh"); attrs = x_doc ∷ []; items = structure [] A ∷ [] })
    ≡ codes "#!/bin/sh\n//! x\nstruct A;\n"
unfolding doc_form
laid_file = rw (struct_is [] A) refl

-- ---- spellings

-- what an item is, by its head, if it has one, and what follows it
abbrev form_of : KindFacts → Form
form_of F = kind_form vis.Inherited F.head F.tail

kind_spelled : (kind : ItemKind) (F : KindFacts) (ts : List Token) → told_of_kind kind ≡ F → Spells (form_of F) 255 ts []
    → Spelt (about (item_of [] kind)) ts
kind_spelled kind F ts e s = rw (kind_is [] kind F e) (_, (_, s, refl), refl)

-- `struct A;`
unit_spelled : (depth : ℕ) (ts : List Token)
    → Spells (form_of (kind_facts (ItemKind-F.ItemKind::Struct (unit A)))) depth (word (codes "struct") ∷ word (codes "A") ∷ mark (codes ";") ∷ ts) ts
unit_spelled depth ts = (
  _,
  (_, refl, (_, (_, (refl, refl, refl), (_, refl, refl)), (_, (refl, refl, refl), (_, (_, inl refl, refl), (_, refl, refl))))),
  (_, (_, inl refl, refl), (_, (_, (refl, refl, refl), refl), refl)),
)

struct_spelled : (depth : ℕ) (ts : List Token)
    → Spells (struct_facts [] A).form (suc depth) (word (codes "struct") ∷ word (codes "A") ∷ mark (codes ";") ∷ ts) ts
struct_spelled depth ts = (_, (_, unit_spelled depth ts, refl), refl)

spelled_struct : Spelt (about (structure [] A)) (word (codes "struct") ∷ word (codes "A") ∷ mark (codes ";") ∷ [])
spelled_struct = rw (struct_is [] A) (struct_spelled 255 [])

spelled_raw : Spelt (about (structure [] raw_type)) (word (codes "struct") ∷ token RawIdent (codes "type") false ∷ mark (codes ";") ∷ [])
spelled_raw =
    kind_spelled _ _ _ (items.struct_is (unit raw_type)) (
      _,
      (_, refl, (_, (_, (refl, refl, refl), (_, refl, refl)), (_, (refl, refl, refl), (_, (_, inl refl, refl), (_, refl, refl))))),
      (_, (_, inl refl, refl), (_, (_, (refl, refl, refl), refl), refl)),
    )

-- with an attribute
spelled_documented : Spelt (about (structure (one_doc ∷ []) A))
    (token (Doc false false) (codes " one") false ∷ word (codes "struct") ∷ word (codes "A") ∷ mark (codes ";") ∷ [])
spelled_documented =
    rw (struct_is (one_doc ∷ []) A) (_, (_, (_, inl (false, refl, refl, refl), refl), (_, unit_spelled 255 [], refl)), refl)

spelled_empty_module : Spelt (about (module_of [] [])) (word (codes "mod") ∷ word a ∷ opens Brace ∷ closes Brace ∷ [])
spelled_empty_module =
    kind_spelled _ _ _ (items.module_is (named a) [] []) (
      _,
      (_, refl, (_, (_, (refl, refl, refl), (_, refl, refl)), (_, (refl, refl, refl), refl))),
      (_, (_, refl, (_, (refl, refl, refl), (_, (refl, refl, refl), refl))), refl),
    )

-- with an inner attribute and an item
spelled_module : Spelt (about (module_of (x_doc ∷ []) (structure [] A ∷ [])))
    (word (codes "mod") ∷ word a ∷ opens Brace ∷ token (Doc true true) (codes " x") false
    ∷ word (codes "struct") ∷ word (codes "A") ∷ mark (codes ";") ∷ closes Brace ∷ [])
spelled_module =
    rw (kind_is [] _ _ (items.module_is (named a) (x_doc ∷ []) (structure [] A ∷ [])), struct_is [] A) (
      _,
      (
        _,
        (
          _,
          (_, refl, (_, (_, (refl, refl, refl), (_, refl, refl)), (_, (refl, refl, refl), refl))),
          (
            _,
            (_, refl, (_, (refl, refl, refl), refl)),
            (_, (_, (_, (_, inl (true, refl, refl, refl), refl), (_, struct_spelled 254 _, refl)), refl), (_, (_, (refl, refl, refl), refl), refl)),
          ),
        ),
        refl,
      ),
      refl,
    )

spelled_import : Spelt (about (import_of (word_of a None))) (word (codes "use") ∷ word a ∷ mark (codes ";") ∷ [])
spelled_import =
    rw (kind_is [] _ _ (items.import_is (word_of a None)), word_is a None) (
      _,
      (
        _,
        (
          _,
          (_, refl, (_, (_, (refl, refl, refl), (_, refl, refl)), (_, (_, (_, (_, (refl, refl, refl), refl), refl), refl), refl))),
          (_, (_, (refl, refl, refl), refl), refl),
        ),
        refl,
      ),
      refl,
    )

-- the same, by the parts of its form
parts_spelled : (kind : ItemKind) (F : KindFacts) (ts : List Token) → told_of_kind kind ≡ F → list.Spelt 255 (form_of F) ts []
    → Spelt (about (item_of [] kind)) ts
parts_spelled kind F ts e s = kind_spelled kind F ts e s.spells

spelled_rules : Spelt (about (item_of [] (item.MacroRules m (in_braces rules))))
    (word (codes "macro_rules") ∷ mark (codes "!") ∷ word (codes "m") ∷ opens Brace
    ∷ (list.told rules ++ closes Brace ∷ []))
unfolding op_at
spelled_rules =
    parts_spelled _ _ _ (items.rules_is m (in_braces rules))
    (list.pieces (_, (refl, refl, refl), (_, (refl, refl), (_, refl, refl)))
    (list.leaf (list.pieces (_, refl, refl)
    (list.group_before
    (list.empty (list.gap (list.next (list.next (list.gap (list.group (list.next list.end) (list.next list.end)))))))
    list.end))))

spelled_rules_end : Spelt (about (item_of [] (item.MacroRules m (in_parens []))))
    (word (codes "macro_rules") ∷ mark (codes "!") ∷ word (codes "m") ∷ opens Paren ∷ closes Paren
    ∷ mark (codes ";") ∷ [])
unfolding op_at
spelled_rules_end =
    parts_spelled _ _ _ (items.rules_is m (in_parens []))
    (list.pieces (_, (refl, refl, refl), (_, (refl, refl), (_, refl, refl)))
    (list.leaf (list.empty_before (list.fixed list.end))))

-- a call, by its path, by the `!` and the group, and by what ends it
call_spelled : (tokens : Group) (ts mid : List Token)
    → list.Spelt 255 (Piece (bang tokens.delim) (group_form tokens Done)) ts mid
    → list.Spelt 255 (end_form tokens.delim) mid []
    → Spelt (about (call_of tokens)) (word (codes "m") ∷ ts)
call_spelled tokens ts mid s e =
    parts_spelled _ _ _ (items.call_is (m_call tokens)) (list.part (list.part (list.leaf list.end) s) e)

spelled_call : Spelt (about (call_of (in_braces statements)))
    (word (codes "m") ∷ mark (codes "!") ∷ opens Brace ∷ (list.told statements ++ closes Brace ∷ []))
unfolding op_at
spelled_call =
    call_spelled (in_braces statements) _ _
    (list.pieces (_, (refl, refl), (_, refl, refl))
    (list.group_before
    (list.next (list.gap (list.next (list.next (list.gap (list.next (list.next
    (list.gap (list.next (list.next (list.next list.end)))))))))))
    list.end))
    list.end

spelled_call_end : Spelt (about (call_of (in_parens arguments)))
    (word (codes "m") ∷ mark (codes "!") ∷ opens Paren ∷ (list.told arguments ++ closes Paren ∷ mark (codes ";") ∷ []))
unfolding op_at
spelled_call_end =
    call_spelled (in_parens arguments) _ _
    (list.pieces (_, (refl, refl), refl)
    (list.group_before
    (list.next (list.gap (list.next (list.next (list.gap (list.next (list.next
    (list.gap (list.next (list.next (list.next
    (list.gap (list.next (list.next (list.next
    (list.gap (list.next (list.next (list.next (list.next (list.next (list.next
    (list.group (list.next list.end) list.end)))))))))))))))))))))))
    list.end))
    (list.fixed list.end)

spelled_empty_call : Spelt (about (call_of (in_braces [])))
    (word (codes "m") ∷ mark (codes "!") ∷ opens Brace ∷ closes Brace ∷ [])
unfolding op_at
spelled_empty_call =
    call_spelled (in_braces []) _ _ (list.pieces (_, (refl, refl), (_, refl, refl)) (list.empty_before list.end))
    list.end

-- ---- what they need

a_struct_needs_one : least_depth (about (structure [] A)).form ≡ 1
a_struct_needs_one = rw (struct_is [] A) refl

an_empty_module_needs_one : least_depth (about (module_of [] [])).form ≡ 1
an_empty_module_needs_one = rw (kind_is [] _ _ (items.module_is (named a) [] [])) refl

a_module_needs_two : least_depth (about (module_of [] (structure [] A ∷ []))).form ≡ 2
a_module_needs_two = rw (kind_is [] _ _ (items.module_is (named a) [] (structure [] A ∷ [])), struct_is [] A) refl

-- an import of a group: the item, the tree, and those in it
an_import_needs_three : least_depth (about (import_of (group_of b c))).form ≡ 3
an_import_needs_three = rw (kind_is [] _ _ (items.import_is (group_of b c)), group_is b c) refl

-- Token lists need nothing.
a_call_needs_one : least_depth (about (call_of (in_braces statements))).form ≡ 1
a_call_needs_one = rw (kind_is [] _ _ (items.call_is (m_call (in_braces statements)))) refl

-- ---- which item it is

abbrev parens : List Token → List Token
parens ts = opens Paren ∷ closes Paren ∷ ts

-- `m!()` is no item without its `;`.
no_call : call_item (word (codes "m") ∷ mark (codes "!") ∷ parens []) ≡ None
unfolding call_item call simple_path word_reading repeat repeat_from op_at group tokens_of run
no_call = refl

read_call : call_item (word (codes "m") ∷ mark (codes "!") ∷ parens (mark (codes ";") ∷ []))
    ≡ Some ((item.Call (m_call (in_parens [])), 0), [])
unfolding call_item call simple_path word_reading repeat repeat_from op_at group tokens_of run
read_call = refl

-- `macro_rules!` declares a macro before a name, and else calls one.
begins_a_macro : begins_rules (word (codes "macro_rules") ∷ mark (codes "!") ∷ word (codes "m") ∷ parens []) ≡ true
unfolding op_at name
begins_a_macro = refl

begins_a_call : begins_rules (word (codes "macro_rules") ∷ mark (codes "!") ∷ parens []) ≡ false
unfolding op_at name
begins_a_call = refl
