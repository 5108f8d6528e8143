-- Samples of what is read of the heads of items.
use Rattle.std.proofs.Common.{◌≡◌, true, false, List, [], ◌∷◌, ◌++◌, Some, None, codes, refl}
use Rattle.std.specs.Str.{chars}
use Rattle.lay_piece.specs.Forms.{after_literal}
use Rattle.lay_piece.specs.Quoted.{string_step}
use Rattle.lay_piece.specs.Scan.{run as run_string}
use Rattle.lay_piece.specs.Value.{adds, string_value}
use Rattle.lay_piece.specs.declared.kind.Delim.TheVariants.{Brace, Paren}
use Rattle.lay_piece.specs.declared.kind.Kind.TheVariants as kind
use Rattle.lay_token.specs.Operators.{op_at}
use Rattle.lay_token.specs.declared.token.Token.{Token}
use Rattle.lay_node.specs.Begins.{lead_at}
use Rattle.lay_node.specs.nodes.Fields.{may_lead}
use Rattle.lay_node.specs.reader.Attr.{attributes}
use Rattle.lay_node.specs.reader.Call.{call}
use Rattle.lay_node.specs.reader.Fields.{discriminant, field, named_fields, tuple_field, tuple_fields, variant, variant_fields, variants}
use Rattle.lay_node.specs.reader.Functions.{begins_own_self, fn_head, fn_param, fn_params, insides, own_self, param_kind, ref_self, typed}
use Rattle.lay_node.specs.reader.Generics.{generics, one_param, type_param}
use Rattle.lay_node.specs.reader.Heads.{alias, enum, impl_head, struct, trait_head, trait_ref, value_head}
use Rattle.lay_node.specs.reader.Loops.{elements, elements_from, open_elements, open_elements_from, Read, repeat, repeat_from}
use Rattle.lay_node.specs.reader.Patterns.{bind, pat_by, path_by, path_pat, single_at}
use Rattle.lay_node.specs.reader.SimplePath.{simple_path}
use Rattle.lay_node.specs.reader.Tokens.{group, run, tokens_of}
use Rattle.lay_node.specs.reader.Types.{angle, literal, args_by, chain, meets, one_arg, one_bound, paren_type, path, path_type, qualified, segment, within}
use Rattle.lay_node.specs.reader.Vis.{visibility}
use Rattle.lay_node.specs.reader.Where.{type_predicate, wheres}
use Rattle.lay_node.specs.reader.Words.{given_name, name as name_reading, word as word_reading}
use Rattle.lay_node.specs.declared.fields.Fields.TheVariants as fields
use Rattle.lay_node.specs.declared.functions.FnHead.{FnHead}
use Rattle.lay_node.specs.declared.functions.Param.{Param}
use Rattle.lay_node.specs.declared.functions.ParamKind.TheVariants as param
use Rattle.lay_node.specs.declared.functions.Safety.TheVariants as safety
use Rattle.lay_node.specs.declared.generics.GenericParam.TheVariants as generic
use Rattle.lay_node.specs.declared.generics.Generics.{Generics}
use Rattle.lay_node.specs.declared.heads.ImplHead.{ImplHead}
use Rattle.lay_node.specs.declared.heads.Site.TheVariants.{Foreign, Module, TraitMember}
use Rattle.lay_node.specs.declared.heads.ValueHead.TheVariants as value
use Rattle.lay_node.specs.declared.patterns.Pat.TheVariants as pat
use Rattle.lay_node.specs.declared.token.GivenName.TheVariants as given
use Rattle.lay_node.specs.declared.token.Listed.{Listed}
use Rattle.lay_node.specs.declared.tokens.MacroCall.{MacroCall}
use Rattle.lay_node.specs.declared.types.Arg.TheViews as views
use Rattle.lay_node.specs.declared.types.Args.TheVariants as args
use Rattle.lay_node.specs.declared.types.Path.{Path}
use Rattle.lay_node.specs.declared.types.PathStart.TheVariants as start
use Rattle.lay_node.specs.declared.types.Ty.TheVariants as ty
use Rattle.lay_node.specs.declared.vis.Vis.TheVariants as vis
use Rattle.lay_node.proofs.nodes.TypesLaws as types
use Rattle.lay_node.proofs.samples.Patterns.{lone}
use Rattle.lay_node.proofs.samples.Tokens as list
use Rattle.lay_node.proofs.samples.Trees.{named, plain, a, token, word, mark, colons, opens, closes}
use Rattle.lay_node.proofs.samples.Types.{local, B, C, where_A_is}
use Rattle.lay_code.specs.reader.Code.{item_at, code_in}
use Rattle.lay_code.specs.reader.Item.{value_by, call_item, foreign_by, function_by, impl_by, item_body, item_by, items_by, kind_at, trait_by}
use Rattle.lay_code.specs.reader.ItemLeads.{item_lead, OfCall, OfForeign, OfFunction, OfImpl, OfUnion, OfValue}
use Rattle.lay_code.specs.declared.item.Item.{Item}
use Rattle.lay_code.specs.declared.item.ItemKind.TheVariants as item
use Rattle.lay_code.proofs.nodes.ItemLaws as items
use Rattle.lay_code.proofs.samples.Heads.{C_is_D, foreign_function, foreign_static, static_C, string_C, three_variants, varying, fn_of, impl_A_for, trait_A, two_fields, where_B_is_C, name_pat, of_T, param_of, seen, unseen, tuple_field_of, ty_of, variant_of}
use Rattle.lay_code.proofs.samples.ItemTrees.{A, no_generics, no_wheres}

abbrev in_parens : List Token → List Token → List Token
in_parens inner ts = opens Paren ∷ (inner ++ closes Paren ∷ ts)

abbrev comma : Token
comma = mark (codes ",")

abbrev semicolon : Token
semicolon = mark (codes ";")

-- ---- visibilities

-- `pub(crate) A`
read_restricted : tuple_field (within 1) (word (codes "pub") ∷ in_parens (word (codes "crate") ∷ []) (word (codes "A") ∷ []))
    ≡ Some ((tuple_field_of vis.Crate (ty_of (codes "A")), 1), [])
unfolding tuple_field visibility attributes within lead_at simple_path path_type path chain repeat repeat_from segment args_by word_reading op_at
read_restricted = refl

-- `pub (A)` is visible everywhere, and of a type in parentheses.
read_in_parens : tuple_field (within 2) (word (codes "pub") ∷ in_parens (word (codes "A") ∷ []) [])
    ≡ Some ((tuple_field_of vis.Public (ty.Paren (ty_of (codes "A"))), 2), [])
unfolding tuple_field visibility attributes paren_type within lead_at simple_path path_type path chain repeat repeat_from segment args_by word_reading op_at
read_in_parens = refl

-- `pub(in a) A`
read_restricted_in : tuple_field (within 1) (word (codes "pub") ∷ in_parens (word (codes "in") ∷ word a ∷ []) (word (codes "A") ∷ []))
    ≡ Some ((tuple_field_of (vis.In (record { global = false; words = plain a ∷ [] })) (ty_of (codes "A")), 1), [])
unfolding tuple_field visibility attributes within lead_at simple_path path_type path chain repeat repeat_from segment args_by word_reading op_at
read_restricted_in = refl

-- `pub (crate::A)` is of a type in parentheses too.
abbrev crate_A : Path
crate_A = record { start = start.Local; segments = (plain (codes "crate"), args.None) ∷ (plain (codes "A"), args.None) ∷ [] }

read_crate_path : tuple_field (within 2) (word (codes "pub") ∷ in_parens (word (codes "crate") ∷ colons (word (codes "A") ∷ [])) [])
    ≡ Some ((tuple_field_of vis.Public (ty.Paren (ty.Path crate_A)), 2), [])
unfolding tuple_field visibility attributes paren_type within lead_at simple_path path_type path chain repeat repeat_from segment args_by word_reading op_at
read_crate_path = rw types.args_none_is refl

-- A type that would restrict it doesn't stand after `pub`.
not_restricting : may_lead vis.Public (ty.Paren (ty_of (codes "crate"))) ≡ false
not_restricting = rw (views.outs-Paren (ty_of (codes "crate")), views.outs-Path (local (codes "crate")), lone (codes "crate")) refl

-- ---- receivers

-- In `self(a): B,` a pattern begins, and no receiver.
no_receiver : begins_own_self (word (codes "self") ∷ in_parens (word a ∷ []) (mark (codes ":") ∷ word (codes "B") ∷ comma ∷ [])) ≡ false
unfolding op_at
no_receiver = refl

read_pattern : fn_param (insides 2) (word (codes "self") ∷ in_parens (word a ∷ []) (mark (codes ":") ∷ word (codes "B") ∷ comma ∷ []))
    ≡ Some ((param_of (param.Typed (pat.TupleStruct (local (codes "self")) (name_pat a ∷ [])) B), 2), comma ∷ [])
unfolding fn_param param_kind typed attributes elements elements_from single_at pat_by path_pat path_by bind within lead_at simple_path path_type path chain repeat repeat_from segment args_by word_reading op_at
read_pattern = rw (lone a) refl

-- `&self,`
read_receiver : fn_param (insides 1) (mark (codes "&") ∷ word (codes "self") ∷ comma ∷ []) ≡ Some ((param_of (param.RefSelf None false), 0), comma ∷ [])
unfolding fn_param param_kind ref_self attributes repeat repeat_from op_at
read_receiver = refl

-- `mut self: B,`
read_typed_receiver : fn_param (insides 1) (word (codes "mut") ∷ word (codes "self") ∷ mark (codes ":") ∷ word (codes "B") ∷ comma ∷ [])
    ≡ Some ((param_of (param.OwnSelf true (Some B)), 1), comma ∷ [])
unfolding fn_param param_kind own_self attributes within lead_at simple_path path_type path chain repeat repeat_from segment args_by word_reading op_at
read_typed_receiver = refl

-- ---- functions, constants and foreign blocks

-- `const safe fn f();` is a function in a foreign block, and `const safe: B;` a constant in a trait.
abbrev const_safe : List Token → List Token
const_safe ts = word (codes "const") ∷ word (codes "safe") ∷ ts

abbrev fn_f : List Token
fn_f = word (codes "fn") ∷ word (codes "f") ∷ in_parens [] (semicolon ∷ [])

leads_function : item_lead (const_safe fn_f) ≡ OfFunction
unfolding item_lead
leads_function = refl

abbrev safe_f : FnHead
safe_f = record (fn_of (Some safety.Safe) (codes "f") [] None) { is_const = true }

read_safe : fn_head Foreign (insides 1) (const_safe fn_f) ≡ Some ((safe_f, 0), semicolon ∷ [])
unfolding fn_head name_reading generics fn_params open_elements open_elements_from op_at
read_safe = refl

-- Elsewhere no function is said to be safe.
not_safe : fn_head TraitMember (insides 1) (const_safe fn_f) ≡ None
unfolding fn_head name_reading generics fn_params open_elements open_elements_from op_at
not_safe = refl

leads_value : item_lead (const_safe (mark (codes ":") ∷ word (codes "B") ∷ semicolon ∷ [])) ≡ OfValue
unfolding item_lead
leads_value = refl

read_value : value_head (within 1) (const_safe (mark (codes ":") ∷ word (codes "B") ∷ semicolon ∷ []))
    ≡ Some ((value.Const (given.Name (named (codes "safe"))) B, 1), semicolon ∷ [])
unfolding value_head given_name within lead_at simple_path path_type path chain repeat repeat_from segment args_by word_reading op_at
read_value = refl

-- `extern { fn f(); }` is a foreign block, and `extern fn f();` a function.
leads_foreign : item_lead (word (codes "extern") ∷ opens Brace ∷ (fn_f ++ closes Brace ∷ [])) ≡ OfForeign
unfolding item_lead op_at
leads_foreign = refl

leads_extern_function : item_lead (word (codes "extern") ∷ fn_f) ≡ OfFunction
unfolding item_lead op_at
leads_extern_function = refl

leads_unsafe_extern : item_lead (word (codes "unsafe") ∷ word (codes "extern") ∷ opens Brace ∷ closes Brace ∷ []) ≡ OfForeign
unfolding item_lead op_at
leads_unsafe_extern = refl

leads_unsafe_impl : item_lead (word (codes "unsafe") ∷ word (codes "impl") ∷ word (codes "A") ∷ []) ≡ OfImpl
unfolding item_lead op_at
leads_unsafe_impl = refl

-- `union` is a word of its own only before a name.
leads_union : item_lead (word (codes "union") ∷ word (codes "A") ∷ opens Brace ∷ []) ≡ OfUnion
unfolding item_lead name_reading
leads_union = refl

leads_call : item_lead (word (codes "union") ∷ mark (codes "!") ∷ opens Brace ∷ []) ≡ OfCall
unfolding item_lead name_reading
leads_call = refl

-- `type C;` stands in a trait, and in no module.
abbrev type_C : List Token
type_C = word (codes "type") ∷ word (codes "C") ∷ semicolon ∷ []

read_no_type : alias TraitMember (within 1) type_C
    ≡ Some ((record { name = named (codes "C"); generics = no_generics; bounds = []; ty = None; wheres = no_wheres }, 0), [])
unfolding alias name_reading generics wheres op_at
read_no_type = refl

not_without_type : alias Module (within 1) type_C ≡ None
unfolding alias name_reading generics wheres op_at
not_without_type = refl

-- ---- where clauses and discriminants

-- `struct A where A: C,;`: the comma is the where clause's.
read_where_comma : struct (within 2) (word (codes "struct") ∷ word (codes "A") ∷ word (codes "where") ∷ word (codes "A") ∷ mark (codes ":")
    ∷ word (codes "C") ∷ comma ∷ semicolon ∷ [])
    ≡ Some ((record { name = A; generics = no_generics; fields = fields.Unit; wheres = where_A_is (codes "C") }, 1), [])
unfolding struct name_reading generics wheres open_elements open_elements_from type_predicate one_bound meets within lead_at simple_path path_type path chain repeat repeat_from segment args_by word_reading op_at
read_where_comma = refl

-- `A = (1, 2), B`: a discriminant ends at a comma outside its groups.
abbrev tuple_of_numbers : List Listed
tuple_of_numbers = list.opens Paren ∷ list.number (codes "1") ∷ list.mark (codes ",") ∷ list.number (codes "2") ∷ list.closes Paren ∷ []

read_discriminant : variant (within 1) (word (codes "A") ∷ mark (codes "=") ∷ (list.told tuple_of_numbers ++ comma ∷ word (codes "B") ∷ []))
    ≡ Some ((variant_of (codes "A") fields.Unit (Some tuple_of_numbers), 0), comma ∷ word (codes "B") ∷ [])
unfolding variant visibility attributes name_reading variant_fields discriminant tokens_of run repeat repeat_from op_at
read_discriminant = refl

-- No discriminant is of no token.
no_discriminant : variant (within 1) (word (codes "A") ∷ mark (codes "=") ∷ comma ∷ []) ≡ None
unfolding variant visibility attributes name_reading variant_fields discriminant tokens_of run repeat repeat_from op_at
no_discriminant = refl

-- ---- implementations

-- `impl !A for B {`
abbrev without_A : ImplHead
without_A = record { is_unsafe = false; generics = no_generics; of = Some (record { negative = true; path = local (codes "A") }); ty = B }

read_negative : impl_head (within 1) (word (codes "impl") ∷ mark (codes "!") ∷ word (codes "A") ∷ word (codes "for") ∷ word (codes "B") ∷ opens Brace ∷ [])
    ≡ Some ((without_A, 1), opens Brace ∷ [])
unfolding impl_head generics trait_ref within lead_at simple_path path_type path chain repeat repeat_from segment args_by word_reading op_at
read_negative = refl

-- `impl ! {` is of the type `!`.
abbrev of_never : ImplHead
of_never = record { is_unsafe = false; generics = no_generics; of = None; ty = ty.Never }

read_never : impl_head (within 1) (word (codes "impl") ∷ mark (codes "!") ∷ opens Brace ∷ []) ≡ Some ((of_never, 1), opens Brace ∷ [])
unfolding impl_head generics trait_ref within lead_at simple_path path_type path chain repeat repeat_from segment args_by word_reading op_at
read_never = refl

-- `<A>::B for C {`
abbrev qualified_for_C : List Token
qualified_for_C = mark (codes "<") ∷ word (codes "A")
    ∷ token kind.Punct (codes ">") true ∷ colons (word (codes "B") ∷ word (codes "for") ∷ word (codes "C") ∷ opens Brace ∷ [])

-- `<A>::B`
abbrev B_of_A : Path
B_of_A = record { start = start.Qualified (ty_of (codes "A")) None; segments = (plain (codes "B"), args.None) ∷ [] }

abbrev for_C : ImplHead
for_C = record { is_unsafe = false; generics = of_T; of = Some (record { negative = false; path = B_of_A }); ty = C }

-- It is read after `impl<T>`,
read_qualified : impl_head (within 2) (word (codes "impl") ∷ mark (codes "<") ∷ word (codes "T") ∷ token kind.Punct (codes ">") true ∷ qualified_for_C)
    ≡ Some ((for_C, 1), opens Brace ∷ [])
unfolding impl_head generics one_param type_param attributes name_reading trait_ref elements elements_from qualified within lead_at simple_path path_type path chain repeat repeat_from segment args_by word_reading op_at
read_qualified = refl

-- and not after `impl<>`, which is laid out as nothing,
not_qualified : impl_head (within 2) (word (codes "impl") ∷ mark (codes "<") ∷ mark (codes ">") ∷ qualified_for_C) ≡ None
unfolding impl_head generics trait_ref elements elements_from qualified within lead_at simple_path path_type path chain repeat repeat_from segment args_by word_reading op_at
not_qualified = refl

-- nor after `impl` alone, where its `<` opens generic parameters: it is `impl<A> ::B for C {`.
abbrev global_B : Path
global_B = record { start = start.Global; segments = (plain (codes "B"), args.None) ∷ [] }

abbrev of_A : Generics
of_A = record { params = generic.Named [] (named (codes "A")) [] None ∷ [] }

read_params : impl_head (within 2) (word (codes "impl") ∷ qualified_for_C)
    ≡ Some ((record { is_unsafe = false; generics = of_A; of = Some (record { negative = false; path = global_B }); ty = C }, 1), opens Brace ∷ [])
unfolding impl_head generics one_param type_param attributes name_reading trait_ref elements elements_from within lead_at simple_path path_type path chain repeat repeat_from segment args_by word_reading op_at
read_params = refl

-- ---- parameters in order

abbrev read_params_of : List Token → Read (List Param)
read_params_of ts = fn_params (insides 2) (in_parens ts [])

abbrev dots : List Token → List Token
dots ts = token kind.Punct (codes ".") true ∷ token kind.Punct (codes ".") true ∷ mark (codes ".") ∷ ts

read_variadic : read_params_of (word (codes "self") ∷ comma ∷ dots []) ≡ Some ((param_of (param.OwnSelf false None) ∷ param_of param.Variadic ∷ [], 0), [])
unfolding fn_params fn_param param_kind own_self attributes open_elements open_elements_from repeat repeat_from op_at
read_variadic = refl

-- No parameter stands after `...`, and no comma.
not_last : read_params_of (dots (comma ∷ word (codes "self") ∷ [])) ≡ None
unfolding fn_params fn_param param_kind own_self attributes open_elements open_elements_from repeat repeat_from op_at
not_last = refl

not_with_comma : read_params_of (dots (comma ∷ [])) ≡ None
unfolding fn_params fn_param param_kind attributes open_elements open_elements_from repeat repeat_from op_at
not_with_comma = refl

-- ---- items

-- `pub m!();` isn't read, and `m!();` is.
abbrev m_call : MacroCall
m_call = record { path = record { global = false; words = plain (codes "m") ∷ [] }; tokens = record { delim = Paren; tokens = [] } }

abbrev call_m : List Token
call_m = word (codes "m") ∷ mark (codes "!") ∷ in_parens [] (semicolon ∷ [])

not_seen : item_at Module 1 (word (codes "pub") ∷ call_m) ≡ None
unfolding code_in item_by kind_at item_lead call_item call group tokens_of run name_reading attributes visibility simple_path repeat repeat_from word_reading op_at
not_seen = rw (items.call_is m_call) refl

read_unseen : item_at Module 1 call_m ≡ Some ((unseen (item.Call m_call), 1), [])
unfolding code_in item_by kind_at item_lead call_item call group tokens_of run name_reading attributes visibility simple_path repeat repeat_from word_reading op_at
read_unseen = rw (items.call_is m_call) refl

-- `extern { fn f(); }`
abbrev f_item : Item
f_item = unseen (item.Function (fn_of None (codes "f") [] None) no_wheres None)

read_foreign : item_at Module 3 (word (codes "extern") ∷ opens Brace ∷ (fn_f ++ closes Brace ∷ []))
    ≡ Some ((unseen (item.Foreign false None [] (f_item ∷ [])), 2), [])
unfolding code_in item_by kind_at item_lead foreign_by item_body items_by function_by fn_head generics fn_params open_elements open_elements_from wheres name_reading attributes visibility repeat repeat_from op_at
read_foreign = rw (items.function_is (fn_of None (codes "f") [] None) no_wheres None, items.foreign_is false None [] (f_item ∷ [])) refl

-- A function without a body stands in no module.
not_in_module : item_at Module 2 fn_f ≡ None
unfolding code_in item_by kind_at item_lead function_by fn_head generics fn_params open_elements open_elements_from wheres name_reading attributes visibility repeat repeat_from op_at
not_in_module = refl

-- ---- whole items

-- `pub(crate)struct A(pub u8,B);`
read_struct : item_at Module 3 (word (codes "pub") ∷ in_parens (word (codes "crate") ∷ []) (word (codes "struct") ∷ word (codes "A")
    ∷ in_parens (word (codes "pub") ∷ word (codes "u8") ∷ comma ∷ word (codes "B") ∷ []) (semicolon ∷ [])))
    ≡ Some ((seen vis.Crate (item.Struct two_fields), 2), [])
unfolding code_in item_by kind_at item_lead struct tuple_fields tuple_field elements elements_from generics wheres name_reading attributes visibility within lead_at simple_path path_type path chain repeat repeat_from segment args_by word_reading op_at
read_struct = rw (items.struct_is two_fields) refl

-- `trait A where B:C,{}`
read_trait : item_at Module 3 (word (codes "trait") ∷ word (codes "A") ∷ word (codes "where") ∷ word (codes "B") ∷ mark (codes ":")
    ∷ word (codes "C") ∷ comma ∷ opens Brace ∷ closes Brace ∷ [])
    ≡ Some ((unseen (item.Trait trait_A where_B_is_C [] []), 2), [])
unfolding code_in item_by kind_at item_lead trait_by trait_head item_body items_by generics wheres type_predicate one_bound meets open_elements open_elements_from name_reading attributes visibility within lead_at simple_path path_type path chain repeat repeat_from segment args_by word_reading op_at
read_trait = rw (items.trait_is trait_A where_B_is_C [] []) refl

-- `impl<T>A for B<T>{type C=D;}`
read_impl : item_at Module 3 (word (codes "impl") ∷ mark (codes "<") ∷ word (codes "T") ∷ mark (codes ">") ∷ word (codes "A") ∷ word (codes "for")
    ∷ word (codes "B") ∷ mark (codes "<") ∷ word (codes "T") ∷ mark (codes ">") ∷ opens Brace ∷ word (codes "type") ∷ word (codes "C")
    ∷ mark (codes "=") ∷ word (codes "D") ∷ semicolon ∷ closes Brace ∷ [])
    ≡ Some ((unseen (item.Impl impl_A_for no_wheres [] (unseen (item.Alias C_is_D) ∷ [])), 3), [])
unfolding code_in item_by kind_at item_lead impl_by impl_head trait_ref item_body items_by alias generics one_param type_param elements elements_from angle one_arg wheres name_reading attributes visibility within lead_at simple_path path_type path chain repeat repeat_from segment args_by word_reading op_at
read_impl = rw (items.alias_is C_is_D, items.impl_is impl_A_for no_wheres [] (unseen (item.Alias C_is_D) ∷ [])) refl

-- `enum E<T>where T:C{F(T),G{h:u8},I=-1}`
read_enum : item_at Module 3 (word (codes "enum") ∷ word (codes "E") ∷ mark (codes "<") ∷ word (codes "T") ∷ mark (codes ">") ∷ word (codes "where")
    ∷ word (codes "T") ∷ mark (codes ":") ∷ word (codes "C") ∷ opens Brace ∷ word (codes "F") ∷ in_parens (word (codes "T") ∷ []) (comma
    ∷ word (codes "G") ∷ opens Brace ∷ word (codes "h") ∷ mark (codes ":") ∷ word (codes "u8") ∷ closes Brace ∷ comma
    ∷ word (codes "I") ∷ mark (codes "=") ∷ mark (codes "-") ∷ token kind.Int (codes "1") false ∷ closes Brace ∷ []))
    ≡ Some ((unseen (item.Enum three_variants), 2), [])
unfolding code_in item_by kind_at item_lead enum variants variant variant_fields tuple_fields tuple_field named_fields field discriminant tokens_of run generics one_param type_param wheres type_predicate one_bound meets elements elements_from open_elements open_elements_from name_reading attributes visibility within lead_at simple_path path_type path chain repeat repeat_from segment args_by word_reading op_at
read_enum = rw (items.enum_is three_variants) refl

-- `extern "C"{pub fn a(b:u8,...)->u8;static mut C:u8;}`
read_extern_C : item_at Module 3 (word (codes "extern") ∷ token kind.Str (codes "\"C\"") false ∷ opens Brace ∷ word (codes "pub") ∷ word (codes "fn") ∷ word a
    ∷ in_parens (word (codes "b") ∷ mark (codes ":") ∷ word (codes "u8") ∷ comma ∷ dots [])
    (token kind.Punct (codes "-") true ∷ mark (codes ">") ∷ word (codes "u8") ∷ semicolon ∷ word (codes "static") ∷ word (codes "mut")
    ∷ word (codes "C") ∷ mark (codes ":") ∷ word (codes "u8") ∷ semicolon ∷ closes Brace ∷ []))
    ≡ Some ((unseen (item.Foreign false (Some string_C) [] (foreign_function ∷ foreign_static ∷ [])), 3), [])
unfolding code_in item_by kind_at item_lead foreign_by literal chars after_literal run_string string_step adds string_value item_body items_by function_by fn_head fn_params fn_param param_kind typed single_at pat_by path_pat path_by bind value_by value_head generics wheres open_elements open_elements_from name_reading attributes visibility within lead_at simple_path path_type path chain repeat repeat_from segment args_by word_reading op_at
read_extern_C =
    rw (
      lone (codes "b"),
      items.function_is varying no_wheres None,
      items.value_is static_C None,
      items.foreign_is false (Some string_C) [] (foreign_function ∷ foreign_static ∷ []),
    )
    refl
