-- Items: what is spelled, and well formed, is read.
use Rattle.std.proofs.Common.{◌≡◌, ℕ, suc, max, Bool, true, false, ◌&&◌, ◌||◌, List, [], ◌∷◌, map, codes, Option, option_map, Some, None, inl, inr, refl, sym, subst, ◌∙◌, arith, drop}
use Rattle.std.proofs.lemmas.Bool.{and_parts}
use Rattle.std.specs.Prelude.{is_some}
use Rattle.lay_piece.specs.Forms.{opening}
use Rattle.lay_piece.specs.declared.kind.Delim.{Delim}
use Rattle.lay_piece.specs.declared.kind.Delim.TheVariants.{Paren, Bracket, Brace}
use Rattle.lay_piece.specs.declared.kind.Kind.TheVariants.{Ident, Punct, Opener}
use Rattle.lay_form.specs.Form.{Blank, Done, Fixed, Form, Operator, Part, Piece, keyword, semicolon}
use Rattle.lay_form.specs.Notation.{I0, piece}
use Rattle.lay_form.specs.Spelled.{IsOne, IsOperator, Spells}
use Rattle.lay_node.specs.Ahead.{Tokens, first, is_keyword, is_mark}
use Rattle.lay_node.specs.Words.{is_name, leaf_of}
use Rattle.lay_node.specs.nodes.Attr.{are_attrs}
use Rattle.lay_node.specs.nodes.Call.{before_rules, end_form, is_group}
use Rattle.lay_node.specs.nodes.Functions.{is_fn_head}
use Rattle.lay_node.specs.nodes.Generics.{bounded_form, generics_form, is_generics}
use Rattle.lay_node.specs.nodes.Heads.{about_enum, about_extern_crate, about_struct, about_union, about_value_head, called, ends_head, head_fields, is_impl_head, is_trait_head, is_value_head, leads, struct_tail, trait_ref_form, value_follows, value_head_form}
use Rattle.lay_node.specs.nodes.Types.{about_type, good_at, is_abi_name, is_given}
use Rattle.lay_node.specs.nodes.Use.{about_use, rename_form}
use Rattle.lay_node.specs.nodes.Where.{are_predicates, predicate_form, wheres_before_body}
use Rattle.lay_node.specs.reader.Attr.{attributes}
use Rattle.lay_node.specs.reader.Call.{behind_end, call}
use Rattle.lay_node.specs.reader.Heads.{impl_head, trait_head, unsafe_flag, value_head}
use Rattle.lay_node.specs.reader.Tokens.{group}
use Rattle.lay_node.specs.reader.Types.{if_there, is_string_token, literal, if_read}
use Rattle.lay_node.specs.reader.Vis.{visibility}
use Rattle.lay_node.specs.reader.Where.{wheres}
use Rattle.lay_node.specs.tokens.Lists.{group_form}
use Rattle.lay_node.specs.declared.attr.Attr.{Attr}
use Rattle.lay_node.specs.declared.functions.FnHead.{FnHead}
use Rattle.lay_node.specs.declared.generics.Generics.{Generics}
use Rattle.lay_node.specs.declared.generics.Wheres.{Wheres}
use Rattle.lay_node.specs.declared.heads.Alias.{Alias}
use Rattle.lay_node.specs.declared.heads.Enum.{Enum}
use Rattle.lay_node.specs.declared.heads.ExternCrate.{ExternCrate}
use Rattle.lay_node.specs.declared.heads.ImplHead.{ImplHead}
use Rattle.lay_node.specs.declared.heads.Site.{Site}
use Rattle.lay_node.specs.declared.heads.Site.TheVariants as site
use Rattle.lay_node.specs.declared.heads.Struct.{Struct}
use Rattle.lay_node.specs.declared.heads.TraitHead.{TraitHead}
use Rattle.lay_node.specs.declared.heads.Union.{Union}
use Rattle.lay_node.specs.declared.heads.ValueHead.{ValueHead}
use Rattle.lay_node.specs.declared.heads.ValueHead.TheVariants as value
use Rattle.lay_node.specs.declared.token.Literal.{Literal}
use Rattle.lay_node.specs.declared.token.Name.{Name}
use Rattle.lay_node.specs.declared.tokens.Group.{Group}
use Rattle.lay_node.specs.declared.tokens.MacroCall.{MacroCall}
use Rattle.lay_node.specs.declared.types.TypePlace.TheVariants.{Bounds}
use Rattle.lay_node.specs.declared.use_tree.UseTree.{UseTree}
use Rattle.lay_node.proofs.Follow.{quiet_follows, semicolon_quiet}
use Rattle.lay_node.proofs.Fronts.{mark_passed, one_front}
use Rattle.lay_node.proofs.Parts.{before_blank, behind_blank, bit_alone, leaf_alone, leaf_parts, part_alone, piece_bit, word_kind}
use Rattle.lay_node.proofs.reader.AliasComplete.{alias_begins}
use Rattle.lay_node.proofs.reader.AttrRead.{attributes_complete}
use Rattle.lay_node.proofs.reader.Call.{call_complete, end_read}
use Rattle.lay_node.proofs.reader.Exact.{Complete, IsRead, Stands}
use Rattle.lay_node.proofs.reader.GenericsComplete.{equals_operator}
use Rattle.lay_node.proofs.reader.HeadEnds.{semicolon_ends}
use Rattle.lay_node.proofs.reader.HeadParts.{brace_ends_wheres, wheres_front, wheres_there}
use Rattle.lay_node.proofs.reader.OutsideExact.{crate_words}
use Rattle.lay_node.proofs.reader.PatternsCompletePaths.{PatReads}
use Rattle.lay_node.proofs.reader.Tokens.{group_complete}
use Rattle.lay_node.proofs.reader.TypesCompleteParts.{flag_complete, keyword_there, literal_complete, one_left}
use Rattle.lay_node.proofs.reader.TypesFronts.{Ends, equals_quiet, op_first, Quiet}
use Rattle.lay_node.proofs.reader.ValueHeads.{value_begins}
use Rattle.lay_node.proofs.reader.Vis.{vis_complete, vis_may}
use Rattle.lay_node.proofs.reader.Words.{GoodName, name_complete}
use Rattle.lay_code.specs.nodes.Code.{about_block, about_expr, about_item, told_of_item, told_of_kind}
use Rattle.lay_code.specs.nodes.Exprs.{may_be_good, value_form, value_placed}
use Rattle.lay_code.specs.nodes.Item as node
use Rattle.lay_code.specs.nodes.Item.{about_foreign, about_impl, about_import, about_module, about_trait, foreign_abi, in_module, is_inherited, items_good, may_be_bodied, module_head, rules_form, may_be_valued}
use Rattle.lay_code.specs.nodes.Places.{FREE}
use Rattle.lay_code.specs.reader.Item.{ItemWithin, call_item, foreign_by, impl_by, import_by, item_body, item_by, kind_at, kind_by, may_stand, module_by, rules_item, trait_by, value_by}
use Rattle.lay_code.specs.reader.ItemLeads.{ItemLead, OfAlias, OfCall, OfEnum, OfExternCrate, OfForeign, OfFunction, OfImpl, OfImport, OfModule, OfRules, OfStruct, OfTrait, OfUnion, OfValue, item_lead}
use Rattle.lay_code.specs.declared.blocks.Block.{Block}
use Rattle.lay_code.specs.declared.exprs.Expr.{Expr}
use Rattle.lay_code.specs.declared.item.Item.{Item}
use Rattle.lay_code.specs.declared.item.ItemKind.{ItemKind}
use Rattle.lay_code.specs.declared.item.ItemKind.TheVariants as item
use Rattle.lay_code.proofs.nodes.ItemLaws as laws
use Rattle.lay_code.proofs.nodes.ItemLaws.{KindView, IsExternCrate, IsImport, IsFileModule, IsModule, IsFunction, IsAlias, IsStruct, IsUnion, IsEnum, IsValue, IsTrait, IsImpl, IsForeign, IsRules, IsCall, kind_view}
use Rattle.lay_code.proofs.reader.BlockReads.{Fronts}
use Rattle.lay_code.proofs.reader.ExprQuiet.{ends_follow, semicolon_ends_expr}
use Rattle.lay_code.proofs.reader.ExprReads.{ExprReads}
use Rattle.lay_code.proofs.reader.ItemFunctionRead.{function_made, function_tailed, quiet_type}
use Rattle.lay_code.proofs.reader.ItemKinds.{body_read, item_parts, vis_begins}
use Rattle.lay_code.proofs.reader.ItemLeads.{kind_front, spelled_as}
use Rattle.lay_code.proofs.reader.ItemReads.{HeadsComplete, alias_lead, call_lead, const_lead, enum_lead, extern_crate_lead, foreign_front, foreign_lead, function_lead, impl_lead, import_lead, module_lead, rules_lead, static_lead, struct_lead, trait_lead, union_lead, unsafe_impl_lead, unsafe_lead, unsafe_trait_lead}
use Rattle.lay_code.proofs.reader.ItemSound.{KindAt}
use Rattle.lay_token.specs.Operators.{is_op}

-- what spells a declaration of a macro
record SpelledRules (n : Name) (g : Group) (depth : ℕ) (ts rest : Tokens) : Type 0 where
  mid : Tokens
  named : Tokens
  end : Tokens
  word : IsOne Ident (codes "macro_rules") ts mid
  mark : IsOperator (codes "!") mid named
  name : IsOne (word_kind n.raw) n.text named end
  rules : Spells (group_form g (end_form g.delim)) depth end rest

rules_parts : (n : Name) (g : Group) (depth : ℕ) (ts rest : Tokens) → Spells (rules_form n g) depth ts rest → SpelledRules n g depth ts rest
rules_parts n g depth ts rest s =
    let bits = s.1 in
    let l = leaf_parts n.raw n.text (before_rules g.delim (group_form g (end_form g.delim))) depth s.0 rest s.2 in
    record {
      mid = bits.0;
      named = s.0;
      end = l.0;
      word = bits.1;
      mark = before_blank (Operator (codes "!")) bits.0 s.0 bits.2;
      name = l.1;
      rules = unblank g.delim (group_form g (end_form g.delim)) l.0 l.2;
    }
  where
    unblank : (d : Delim) (f : Form) (us : Tokens) → Spells (before_rules d f) depth us rest → Spells f depth us rest
    unblank Paren f us s = s
    unblank Bracket f us s = s
    unblank Brace f us s = let e : us ≡ s.0 = s.1.1 ∙ s.1.2 in subst (λ z. Spells f depth z rest) (sym e) s.2

quiet_value : (x : ValueHead) (ts : Tokens) → Quiet ts → first (is_keyword (codes "as")) ts ≡ false → value_follows x ts ≡ true
quiet_value (value.Const name x) ts q r = quiet_type x ts q r
quiet_value (value.Static mutable name x) ts q r = quiet_type x ts q r

-- ---- each kind, where what is within it is read

-- It is read by its lead, with which it may stand at the site.
record KindRead (at : Site) (within : ItemWithin) (depth : ℕ) (k : ItemKind) (ts rest : Tokens) : Type 0 where
  lead : ItemLead
  leads : item_lead ts ≡ lead
  stands : may_stand at lead ≡ true
  read : IsRead depth (kind_by at within lead) k ts rest

module _ (fronts : Fronts) (heads : HeadsComplete) (at : Site) (depth : ℕ) (within : ItemWithin) (inner : PatReads depth within.heads)
    (items : (s : Site) → Complete (about_item s) depth (within.items s)) (trees : Complete about_use depth within.trees)
    (code : ExprReads depth within.code) where
  -- what ends in a `;`
  ended_by : (f : Form) (ts rest : Tokens) → Spells (I0 f (piece semicolon)) depth ts rest
      → (mid : Tokens) × Spells f depth ts mid × IsOne Punct (codes ";") mid rest
  ended_by f ts rest s = (s.0, s.1, piece_bit (Fixed Punct (codes ";")) depth s.0 rest s.2)

  extern_crate_read : (x : ExternCrate) (ts rest : Tokens) → KindAt at depth (item.ExternCrate x) ts rest → KindRead at within depth (item.ExternCrate x) ts rest
  extern_crate_read x ts rest g =
      let s = spelled_as at depth (item.ExternCrate x) _ ts rest (laws.extern_crate_is x) g in
      let goods = and_parts (about_extern_crate x).good (in_module at) s.1 in
      let spelled = s.0 in
      let b = crate_words (leaf_of x.word.raw x.word.text (rename_form x.renamed)) depth ts spelled.0 spelled.1 in
      let r = heads.extern_crates x depth ts rest s.0 goods.0 in
      record { lead = OfExternCrate; leads = extern_crate_lead ts b.0 b.1 b.2 b.3; stands = goods.1; read = (0, omega arith, rw r refl) }

  import_made : (u : UseTree) (need : ℕ) (ts mid end rest : Tokens) → IsOne Ident (codes "use") ts mid → within.trees mid ≡ Some ((u, need), end)
      → IsOne Punct (codes ";") end rest → import_by within ts ≡ Some ((item.Import u, need), rest)
  unfolding import_by
  import_made u need ts mid end rest o h e = rw (keyword_there (codes "use") ts mid o, one_left Ident (codes "use") ts mid o, h, mark_passed (codes ";") end rest e) refl

  import_read : (u : UseTree) (ts rest : Tokens) → KindAt at depth (item.Import u) ts rest → KindRead at within depth (item.Import u) ts rest
  import_read u ts rest g =
      let s = spelled_as at depth (item.Import u) _ ts rest (laws.import_is u) g in
      let goods = and_parts (about_use u).good (in_module at) s.1 in
      let e = ended_by (about_import u).head ts rest s.0 in
      let head = e.1 in
      let o : IsOne Ident (codes "use") ts head.0 = before_blank (keyword (codes "use")) ts head.0 head.1 in
      let spelled = part_alone (about_use u).form depth head.0 e.0 head.2 in
      let r = trees u head.0 e.0 (spelled, goods.0, quiet_follows (about_use u).refuses e.0 (semicolon_quiet e.0 rest e.2)) in
      record { lead = OfImport; leads = import_lead ts head.0 o; stands = goods.1; read = (r.0, r.1, import_made u r.0 ts head.0 e.0 rest o r.2 e.2) }

  file_module_made : (n : Name) (ts mid end rest : Tokens) → IsOne Ident (codes "mod") ts mid → GoodName n mid end → IsOne Punct (codes ";") end rest
      → module_by within ts ≡ Some ((item.FileModule n, 0), rest)
  unfolding module_by
  file_module_made n ts mid end rest o g e =
      rw (keyword_there (codes "mod") ts mid o, one_left Ident (codes "mod") ts mid o, name_complete n mid end g, (one_front Punct (codes ";") end rest e).1) refl

  file_module_read : (n : Name) (ts rest : Tokens) → KindAt at depth (item.FileModule n) ts rest → KindRead at within depth (item.FileModule n) ts rest
  file_module_read n ts rest g =
      let s = spelled_as at depth (item.FileModule n) _ ts rest (laws.file_module_is n) g in
      let goods = and_parts (is_name n.raw n.text) (in_module at) s.1 in
      let e = ended_by (module_head n) ts rest s.0 in
      let head = e.1 in
      let o : IsOne Ident (codes "mod") ts head.0 = before_blank (keyword (codes "mod")) ts head.0 head.1 in
      let called = leaf_alone n.raw n.text depth head.0 e.0 head.2 in
      record {
        lead = OfModule;
        leads = module_lead ts head.0 o;
        stands = goods.1;
        read = (0, omega arith, file_module_made n ts head.0 e.0 rest o (called, goods.0) e.2);
      }

  module_made : (n : Name) (attrs : List Attr) (members : List Item) (need : ℕ) (ts mid end inside rest : Tokens) → IsOne Ident (codes "mod") ts mid
      → GoodName n mid end → IsOne (Opener Brace) (opening Brace ∷ []) end inside
      → item_body within site.Module end ≡ Some (((attrs, members), need), rest) → module_by within ts ≡ Some ((item.Module n attrs members, need), rest)
  unfolding module_by
  module_made n attrs members need ts mid end inside rest o g e b =
      let no : first (is_mark (codes ";")) end ≡ false = rw (one_front (Opener Brace) (opening Brace ∷ []) end inside e).1 refl in
      rw (keyword_there (codes "mod") ts mid o, one_left Ident (codes "mod") ts mid o, name_complete n mid end g, no, b) refl

  module_read : (n : Name) (attrs : List Attr) (members : List Item) (ts rest : Tokens) → KindAt at depth (item.Module n attrs members) ts rest
      → KindRead at within depth (item.Module n attrs members) ts rest
  module_read n attrs members ts rest g =
      let s = spelled_as at depth (item.Module n attrs members) _ ts rest (laws.module_is n attrs members) g in
      let goods = and_parts (about_module n attrs (map told_of_item members)).good (in_module at) s.1 in
      let g2 = and_parts (is_name n.raw n.text && are_attrs true attrs) (items_good site.Module (map told_of_item members)) goods.0 in
      let g1 = and_parts (is_name n.raw n.text) (are_attrs true attrs) g2.0 in
      let spelled = s.0 in
      let head = spelled.1 in
      let o : IsOne Ident (codes "mod") ts head.0 = before_blank (keyword (codes "mod")) ts head.0 head.1 in
      let called = leaf_alone n.raw n.text depth head.0 spelled.0 head.2 in
      let b = body_read depth within items site.Module true attrs members spelled.0 rest spelled.2 g1.1 g2.1 in
      let r = b.0 in
      record {
        lead = OfModule;
        leads = module_lead ts head.0 o;
        stands = goods.1;
        read = (r.0, r.1, module_made n attrs members r.0 ts head.0 spelled.0 b.1.0 rest o (called, g1.0) b.1.1 r.2);
      }

  -- ---- functions

  function_read : (h : FnHead) (w : Wheres) (b : Option Block) (ts rest : Tokens) → KindAt at depth (item.Function h w b) ts rest
      → KindRead at within depth (item.Function h w b) ts rest
  function_read h w b ts rest g =
      let s = spelled_as at depth (item.Function h w b) _ ts rest (laws.function_is h w b) g in
      let g3 = and_parts (is_fn_head at h && are_predicates w && may_be_bodied at (is_some (option_map about_block b))) (may_be_good (option_map about_block b)) s.1 in
      let g2 = and_parts (is_fn_head at h && are_predicates w) (may_be_bodied at (is_some (option_map about_block b))) g3.0 in
      let g1 = and_parts (is_fn_head at h) (are_predicates w) g2.0 in
      let spelled = s.0 in
      let t = function_tailed fronts at depth within inner code h w b spelled.0 rest spelled.2 g1.1 g3.1 in
      let f = heads.functions at depth within.heads inner h ts spelled.0 spelled.1 g1.0 t.fits in
      let c = t.clause in
      let y = t.body in
      record {
        lead = OfFunction;
        leads = function_lead ts (heads.function_begins at h depth ts spelled.0 spelled.1 g1.0);
        stands = refl;
        read = (
          max f.0 (max c.0 y.0),
          omega (arith, f.1, c.1, y.1),
          function_made fronts at depth within inner code h w t.last b f.0 c.0 y.0 ts spelled.0 t.mid rest f.2 c.2 y.2 (bodied b g2.1),
        );
      }
    where
      bodied : (b : Option Block) → may_be_bodied at (is_some (option_map about_block b)) ≡ true → may_be_bodied at (is_some b) ≡ true
      bodied None e = e
      bodied (Some c) e = e

  alias_read : (x : Alias) (ts rest : Tokens) → KindAt at depth (item.Alias x) ts rest → KindRead at within depth (item.Alias x) ts rest
  alias_read x ts rest g =
      let s = spelled_as at depth (item.Alias x) _ ts rest (laws.alias_is x) g in
      let b = alias_begins at x depth ts rest s.0 in
      let r = heads.aliases at depth within.heads inner x ts rest s.0 s.1 refl in
      record { lead = OfAlias; leads = alias_lead ts b.0 b.1; stands = refl; read = (r.0, r.1, rw r.2 refl) }

  -- the word of what has a name and generic parameters
  called_word : (word : List ℕ) (raw : Bool) (text : List ℕ) (gs : Generics) (f behind : Form) (ts rest : Tokens)
      → Spells (I0 (called word raw text gs f) behind) depth ts rest
      → (mid end : Tokens) × IsOne Ident word ts mid × IsOne (word_kind raw) text mid end
  called_word word raw text gs f behind ts rest s =
      let head = s.1 in
      let l = leaf_parts raw text (Part (generics_form gs) f) depth head.0 s.0 head.2 in (head.0, l.0, before_blank (keyword word) ts head.0 head.1, l.1)

  struct_read : (x : Struct) (ts rest : Tokens) → KindAt at depth (item.Struct x) ts rest → KindRead at within depth (item.Struct x) ts rest
  struct_read x ts rest g =
      let s = spelled_as at depth (item.Struct x) _ ts rest (laws.struct_is x) g in
      let goods = and_parts (about_struct x).good (in_module at) s.1 in
      let w = called_word (codes "struct") x.name.raw x.name.text x.generics (Part (head_fields x.fields) Done) (struct_tail x.wheres x.fields) ts rest s.0 in
      let r = heads.structs depth within.heads inner x ts rest s.0 goods.0 refl in
      record { lead = OfStruct; leads = struct_lead ts w.0 w.2; stands = goods.1; read = (r.0, r.1, rw r.2 refl) }

  union_read : (x : Union) (ts rest : Tokens) → KindAt at depth (item.Union x) ts rest → KindRead at within depth (item.Union x) ts rest
  union_read x ts rest g =
      let s = spelled_as at depth (item.Union x) _ ts rest (laws.union_is x) g in
      let goods = and_parts (about_union x).good (in_module at) s.1 in
      let g2 = and_parts (is_name x.name.raw x.name.text && is_generics x.generics && are_predicates x.wheres) _ goods.0 in
      let g1 = and_parts (is_name x.name.raw x.name.text && is_generics x.generics) (are_predicates x.wheres) g2.0 in
      let named = and_parts (is_name x.name.raw x.name.text) (is_generics x.generics) g1.0 in
      let w = called_word (codes "union") x.name.raw x.name.text x.generics Done (about_union x).tail ts rest s.0 in
      let r = heads.unions depth within.heads inner x ts rest s.0 goods.0 refl in
      record { lead = OfUnion; leads = union_lead x.name ts w.0 w.1 w.2 (w.3, named.0); stands = goods.1; read = (r.0, r.1, rw r.2 refl) }

  enum_read : (x : Enum) (ts rest : Tokens) → KindAt at depth (item.Enum x) ts rest → KindRead at within depth (item.Enum x) ts rest
  enum_read x ts rest g =
      let s = spelled_as at depth (item.Enum x) _ ts rest (laws.enum_is x) g in
      let goods = and_parts (about_enum x).good (in_module at) s.1 in
      let w = called_word (codes "enum") x.name.raw x.name.text x.generics Done (about_enum x).tail ts rest s.0 in
      let r = heads.enums depth within.heads inner x ts rest s.0 goods.0 refl in
      record { lead = OfEnum; leads = enum_lead ts w.0 w.2; stands = goods.1; read = (r.0, r.1, rw r.2 refl) }

  value_made : (x : ValueHead) (value : Option Expr) (need more : ℕ) (ts mid end rest : Tokens) → value_head within.heads.kinds ts ≡ Some ((x, need), mid)
      → if_read (is_op (codes "=") mid) (λ us. within.code.exprs FREE (drop 1 us)) mid ≡ Some ((value, more), end) → IsOne Punct (codes ";") end rest
      → may_be_valued at x (is_some value) ≡ true → value_by at within ts ≡ Some ((item.Value x value, max need more), rest)
  unfolding value_by
  value_made x value need more ts mid end rest v w e m = rw (v, w, mark_passed (codes ";") end rest e, m) refl

  -- A value is read after the type, which it may follow as what ends the item may.
  value_there : (x : ValueHead) (value : Option Expr) (ts end rest : Tokens)
      → Spells (value_form (option_map about_expr value)) depth ts end → value_placed (option_map about_expr value) ≡ true → IsOne Punct (codes ";") end rest
      → (value_follows x ts ≡ true) × IsRead depth (λ us. if_read (is_op (codes "=") us) (λ vs. within.code.exprs FREE (drop 1 vs)) us) value ts end
  value_there x None ts end rest s g o =
      let e : Ends end = (semicolon_ends end rest o).0 in
      (quiet_value x ts (subst Quiet (sym s) e.quiet) (rw s e.pattern.rename), (0, omega arith, rw s (rw e.equals refl)))
  value_there x (Some y) ts end rest s g o =
      let q = equals_operator ts s.0 s.1 in
      let spelled = part_alone (about_expr y).form depth s.0 end s.2 in
      let r = code.exprs FREE y s.0 end spelled g (inl (ends_follow (about_expr y) FREE end (semicolon_ends_expr false end rest o))) in
      (quiet_value x ts (equals_quiet ts q.0) (rw (op_first 61 [] ts q.0).3 refl), (r.0, r.1, rw (q.0, q.1, r.2) refl))

  value_lead : (x : ValueHead) (ts rest : Tokens) → Spells (about_value_head x).form depth ts rest → is_value_head x ≡ true → item_lead ts ≡ OfValue
  value_lead (value.Const g x) ts rest s h = const_lead g x depth ts rest s (and_parts (is_given g) (good_at Bounds (about_type x)) h).0
  value_lead (value.Static mutable n x) ts rest s h = let b = value_begins (value.Static mutable n x) depth ts rest s in static_lead ts b.0 b.1

  value_read : (x : ValueHead) (value : Option Expr) (ts rest : Tokens) → KindAt at depth (item.Value x value) ts rest
      → KindRead at within depth (item.Value x value) ts rest
  value_read x value ts rest g =
      let s = spelled_as at depth (item.Value x value) _ ts rest (laws.value_is x value) g in
      let V = option_map about_expr value in
      let whole = and_parts (is_value_head x && may_be_valued at x (is_some V)) (value_placed V) s.1 in
      let goods = and_parts (is_value_head x) (may_be_valued at x (is_some V)) whole.0 in
      let e = ended_by (Part (value_head_form x) (value_form V)) ts rest s.0 in
      let head = e.1 in
      let v = value_there x value head.0 e.0 rest head.2 whole.1 e.2 in
      let r = heads.values depth within.heads inner x ts head.0 head.1 goods.0 v.0 in
      let w = v.1 in
      record {
        lead = OfValue;
        leads = value_lead x ts head.0 head.1 goods.0;
        stands = refl;
        read = (max r.0 w.0, omega (arith, r.1, w.1), value_made x value r.0 w.0 ts head.0 e.0 rest r.2 w.2 e.2 (valued value goods.1));
      }
    where
      valued : (v : Option Expr) → may_be_valued at x (is_some (option_map about_expr v)) ≡ true → may_be_valued at x (is_some v) ≡ true
      valued None h = h
      valued (Some y) h = h

  -- a where clause and a body after a head
  record Behind (w : Wheres) (attrs : List Attr) (s : Site) (members : List Item) (ts rest : Tokens) : Type 0 where
    mid : Tokens
    ends : ends_head ts ≡ true
    last : Bool
    clause : IsRead depth (wheres within.heads.kinds) (w, last) ts mid
    body : IsRead depth (item_body within s) (attrs, members) mid rest

  behind : (w : Wheres) (attrs : List Attr) (s : Site) (members : List Item) (ts rest : Tokens)
      → Spells (Part (wheres_before_body w) (node.item_body (leads w) attrs (map told_of_item members))) depth ts rest → are_predicates w ≡ true
      → are_attrs true attrs ≡ true → items_good s (map told_of_item members) ≡ true → Behind w attrs s members ts rest
  behind w attrs s members ts rest p a b c =
      let y = body_read depth within items s (leads w) attrs members p.0 rest p.2 b c in
      let v = wheres_there depth within.heads.kinds inner.kinds w ts p.0 p.1 a (brace_ends_wheres p.0 y.1.0 y.1.1) in
      record { mid = p.0; ends = ends_there w ts p.0 y.1.0 p.1 y.1.1; last = v.0; clause = v.1; body = y.0 }
    where
      ends_there : (w : Wheres) (us mid inside : Tokens) → Spells (wheres_before_body w) depth us mid → IsOne (Opener Brace) (opening Brace ∷ []) mid inside
          → ends_head us ≡ true
      ends_there w us mid inside s o = elim (wheres_front (map predicate_form w.predicates) depth us mid s) [
        | inl e ↦ rw (e, (one_front (Opener Brace) (opening Brace ∷ []) mid inside o).1) refl
        | inr k ↦ rw (one_front Ident (codes "where") us k.0 k.1).1 refl
      ]

  trait_made : (h : TraitHead) (flags : Bool × Bool) (w : Wheres) (last : Bool) (attrs : List Attr) (members : List Item) (l m n : ℕ) (ts mid end rest : Tokens)
      → trait_head within.heads.kinds ts ≡ Some (((h, flags), l), mid) → wheres within.heads.kinds mid ≡ Some (((w, last), m), end)
      → item_body within site.TraitMember end ≡ Some (((attrs, members), n), rest)
      → trait_by within ts ≡ Some ((item.Trait h w attrs members, max l (max m n)), rest)
  unfolding trait_by
  trait_made h flags w last attrs members l m n ts mid end rest a b c = rw (a, b, c) refl

  trait_read : (h : TraitHead) (w : Wheres) (attrs : List Attr) (members : List Item) (ts rest : Tokens) → KindAt at depth (item.Trait h w attrs members) ts rest
      → KindRead at within depth (item.Trait h w attrs members) ts rest
  trait_read h w attrs members ts rest g =
      let s = spelled_as at depth (item.Trait h w attrs members) _ ts rest (laws.trait_is h w attrs members) g in
      let g4 = and_parts (about_trait h w attrs (map told_of_item members)).good (in_module at) s.1 in
      let g3 = and_parts (is_trait_head h && are_predicates w && are_attrs true attrs) (items_good site.TraitMember (map told_of_item members)) g4.0 in
      let g2 = and_parts (is_trait_head h && are_predicates w) (are_attrs true attrs) g3.0 in
      let g1 = and_parts (is_trait_head h) (are_predicates w) g2.0 in
      let spelled = s.0 in
      let b = behind w attrs site.TraitMember members spelled.0 rest spelled.2 g1.1 g2.1 g3.1 in
      let t = heads.traits depth within.heads inner h ts spelled.0 spelled.1 g1.0 b.ends in
      let r = t.1 in
      let c = b.clause in
      let y = b.body in
      record {
        lead = OfTrait;
        leads = unsafe_lead h.is_unsafe OfTrait (codes "trait") (Blank ∷ [])
            (leaf_of h.name.raw h.name.text (Part (generics_form h.generics) (Part (bounded_form h.bounds) Done))) depth ts spelled.0 trait_lead unsafe_trait_lead spelled.1;
        stands = g4.1;
        read = (max r.0 (max c.0 y.0), omega (arith, r.1, c.1, y.1), trait_made h t.0 w b.last attrs members r.0 c.0 y.0 ts spelled.0 b.mid rest r.2 c.2 y.2);
      }

  impl_made : (h : ImplHead) (w : Wheres) (last : Bool) (attrs : List Attr) (members : List Item) (l m n : ℕ) (ts mid end rest : Tokens)
      → impl_head within.heads.kinds ts ≡ Some ((h, l), mid) → wheres within.heads.kinds mid ≡ Some (((w, last), m), end)
      → item_body within site.Member end ≡ Some (((attrs, members), n), rest)
      → impl_by within ts ≡ Some ((item.Impl h w attrs members, max l (max m n)), rest)
  unfolding impl_by
  impl_made h w last attrs members l m n ts mid end rest a b c = rw (a, b, c) refl

  impl_read : (h : ImplHead) (w : Wheres) (attrs : List Attr) (members : List Item) (ts rest : Tokens) → KindAt at depth (item.Impl h w attrs members) ts rest
      → KindRead at within depth (item.Impl h w attrs members) ts rest
  impl_read h w attrs members ts rest g =
      let s = spelled_as at depth (item.Impl h w attrs members) _ ts rest (laws.impl_is h w attrs members) g in
      let g4 = and_parts (about_impl h w attrs (map told_of_item members)).good (in_module at) s.1 in
      let g3 = and_parts (is_impl_head h && are_predicates w && are_attrs true attrs) (items_good site.Member (map told_of_item members)) g4.0 in
      let g2 = and_parts (is_impl_head h && are_predicates w) (are_attrs true attrs) g3.0 in
      let g1 = and_parts (is_impl_head h) (are_predicates w) g2.0 in
      let spelled = s.0 in
      let b = behind w attrs site.Member members spelled.0 rest spelled.2 g1.1 g2.1 g3.1 in
      let r = heads.impls depth within.heads inner h ts spelled.0 spelled.1 g1.0 b.ends in
      let c = b.clause in
      let y = b.body in
      record {
        lead = OfImpl;
        leads = unsafe_lead h.is_unsafe OfImpl (codes "impl") []
            (Part (generics_form h.generics) (Piece (Blank ∷ []) (trait_ref_form h.of (Part (about_type h.ty).told.form Done)))) depth ts spelled.0 impl_lead unsafe_impl_lead spelled.1;
        stands = g4.1;
        read = (max r.0 (max c.0 y.0), omega (arith, r.1, c.1, y.1), impl_made h w b.last attrs members r.0 c.0 y.0 ts spelled.0 b.mid rest r.2 c.2 y.2);
      }

  foreign_made : (is_unsafe : Bool) (abi : Option Literal) (attrs : List Attr) (members : List Item) (n : ℕ) (ts at mid end rest : Tokens)
      → unsafe_flag ts ≡ (is_unsafe, at) → IsOne Ident (codes "extern") at mid
      → if_there (first is_string_token mid) (literal is_string_token) mid ≡ Some (abi, end)
      → item_body within site.Foreign end ≡ Some (((attrs, members), n), rest)
      → foreign_by within ts ≡ Some ((item.Foreign is_unsafe abi attrs members, n), rest)
  unfolding foreign_by
  foreign_made is_unsafe abi attrs members n ts at mid end rest f o l b =
      rw (f, keyword_there (codes "extern") at mid o, one_left Ident (codes "extern") at mid o, l, b) refl

  abi_there : (abi : Option Literal) (ts mid inside : Tokens) → Spells (foreign_abi abi) depth ts mid → is_abi_name abi ≡ true
      → IsOne (Opener Brace) (opening Brace ∷ []) mid inside → if_there (first is_string_token ts) (literal is_string_token) ts ≡ Some (abi, mid)
  abi_there None ts mid inside s g o =
      let e : ts ≡ mid = s in
      let no : first is_string_token mid ≡ false = rw (one_front (Opener Brace) (opening Brace ∷ []) mid inside o).1 refl in rw (e, no) refl
  abi_there (Some l) ts mid inside s g o =
      let bit : ts ≡ s.0 = behind_blank [] ts s.0 s.1 in
      let leaf : IsOne l.kind l.text s.0 mid = let t = s.2 in subst (IsOne l.kind l.text s.0) t.2 t.1 in
      let there : first is_string_token s.0 ≡ true = rw (one_front l.kind l.text s.0 mid leaf).1 g in
      let r = literal_complete is_string_token l s.0 mid (λ u. g) leaf in
      rw (bit, there, r.0) refl

  foreign_read : (is_unsafe : Bool) (abi : Option Literal) (attrs : List Attr) (members : List Item) (ts rest : Tokens)
      → KindAt at depth (item.Foreign is_unsafe abi attrs members) ts rest → KindRead at within depth (item.Foreign is_unsafe abi attrs members) ts rest
  foreign_read is_unsafe abi attrs members ts rest g =
      let s = spelled_as at depth (item.Foreign is_unsafe abi attrs members) _ ts rest (laws.foreign_is is_unsafe abi attrs members) g in
      let g3 = and_parts (about_foreign is_unsafe abi attrs (map told_of_item members)).good (in_module at) s.1 in
      let g2 = and_parts (is_abi_name abi && are_attrs true attrs) (items_good site.Foreign (map told_of_item members)) g3.0 in
      let g1 = and_parts (is_abi_name abi) (are_attrs true attrs) g2.0 in
      let spelled = s.0 in
      let named : Form = Piece (keyword (codes "extern") ∷ []) (foreign_abi abi) in
      let b = body_read depth within items site.Foreign true attrs members spelled.0 rest spelled.2 g1.1 g2.1 in
      let y = b.0 in
      let extern : (us : Tokens) → Spells named depth us spelled.0 → first (is_keyword (codes "unsafe")) us ≡ false =
      λ us t. rw (one_front Ident (codes "extern") us t.0 (bit_alone (keyword (codes "extern")) us t.0 t.1)).1 refl in
      let u = flag_complete (codes "unsafe") is_unsafe named depth ts spelled.0 spelled.1 extern in
      let words = u.2 in
      let o : IsOne Ident (codes "extern") u.0 words.0 = bit_alone (keyword (codes "extern")) u.0 words.0 words.1 in
      let l = abi_there abi words.0 spelled.0 b.1.0 words.2 g1.0 b.1.1 in
      record {
        lead = OfForeign;
        leads = foreign_lead is_unsafe (foreign_abi abi) depth ts spelled.0 spelled.1 (λ us t. foreign_front abi depth us spelled.0 b.1.0 t g1.0 b.1.1);
        stands = g3.1;
        read = (y.0, y.1, foreign_made is_unsafe abi attrs members y.0 ts u.0 words.0 spelled.0 rest u.1 o l y.2);
      }

  rules_made : (n : Name) (g : Group) (ts mid named end left rest : Tokens) → IsOne Ident (codes "macro_rules") ts mid → IsOperator (codes "!") mid named
      → GoodName n named end → group end ≡ Some (g, left) → behind_end g.delim left ≡ Some rest → rules_item ts ≡ Some ((item.MacroRules n g, 0), rest)
  unfolding rules_item
  rules_made n g ts mid named end left rest k o i r e =
      rw ((one_front Ident (codes "macro_rules") ts mid k).1, o.1, name_complete n named end i, r, e) refl

  rules_read : (n : Name) (rules : Group) (ts rest : Tokens) → KindAt at depth (item.MacroRules n rules) ts rest
      → KindRead at within depth (item.MacroRules n rules) ts rest
  rules_read n rules ts rest g =
      let s = spelled_as at depth (item.MacroRules n rules) _ ts rest (laws.rules_is n rules) g in
      let g2 = and_parts (is_name n.raw n.text && is_group rules) (in_module at) s.1 in
      let g1 = and_parts (is_name n.raw n.text) (is_group rules) g2.0 in
      let p = rules_parts n rules depth ts rest s.0 in
      let r = group_complete rules (end_form rules.delim) depth p.end rest p.rules g1.1 in
      record {
        lead = OfRules;
        leads = rules_lead n ts p.mid p.named p.end p.word p.mark (p.name, g1.0);
        stands = g2.1;
        read = (0, omega arith, rules_made n rules ts p.mid p.named p.end r.rest rest p.word p.mark (p.name, g1.0) r.read (end_read rules.delim depth r.rest rest r.after));
      }

  call_made : (c : MacroCall) (ts left rest : Tokens) → call ts ≡ Some (c, left) → behind_end c.tokens.delim left ≡ Some rest
      → call_item ts ≡ Some ((item.Call c, 0), rest)
  unfolding call_item
  call_made c ts left rest r e = rw (r, e) refl

  call_read : (c : MacroCall) (ts rest : Tokens) → KindAt at depth (item.Call c) ts rest → KindRead at within depth (item.Call c) ts rest
  call_read c ts rest g =
      let s = spelled_as at depth (item.Call c) _ ts rest (laws.call_is c) g in
      let parts = s.0 in
      let p = call_complete c depth ts parts.0 (parts.1, s.1, refl) in
      record {
        lead = OfCall;
        leads = call_lead c depth ts parts.0 p;
        stands = refl;
        read = (0, omega arith, call_made c ts parts.0 rest p.read (end_read c.tokens.delim depth parts.0 rest parts.2));
      }

  kind_read : (k : ItemKind) (ts rest : Tokens) → KindAt at depth k ts rest → KindRead at within depth k ts rest
  kind_read k ts rest g = by k (kind_view k) g
    where
      by : (k : ItemKind) → KindView k → KindAt at depth k ts rest → KindRead at within depth k ts rest
      by _ (IsExternCrate x) g = extern_crate_read x ts rest g
      by _ (IsImport u) g = import_read u ts rest g
      by _ (IsFileModule n) g = file_module_read n ts rest g
      by _ (IsModule n attrs members) g = module_read n attrs members ts rest g
      by _ (IsFunction h w b) g = function_read h w b ts rest g
      by _ (IsAlias x) g = alias_read x ts rest g
      by _ (IsStruct x) g = struct_read x ts rest g
      by _ (IsUnion x) g = union_read x ts rest g
      by _ (IsEnum x) g = enum_read x ts rest g
      by _ (IsValue x value) g = value_read x value ts rest g
      by _ (IsTrait h w attrs members) g = trait_read h w attrs members ts rest g
      by _ (IsImpl h w attrs members) g = impl_read h w attrs members ts rest g
      by _ (IsForeign is_unsafe abi attrs members) g = foreign_read is_unsafe abi attrs members ts rest g
      by _ (IsRules n rules) g = rules_read n rules ts rest g
      by _ (IsCall c) g = call_read c ts rest g

  kind_complete : (k : ItemKind) (ts rest : Tokens) → KindAt at depth k ts rest → IsRead depth (kind_at at within) k ts rest
  unfolding kind_at
  kind_complete k ts rest g = let r = kind_read k ts rest g in let n = r.read in (n.0, n.1, rw (r.leads, r.stands, n.2) refl)

  -- ---- with its attributes and its visibility

  item_made : (one : Item) (need : ℕ) (ts seen mid rest : Tokens) → attributes false ts ≡ Some (one.attrs, seen) → visibility seen ≡ Some (one.vis, mid)
      → kind_at at within mid ≡ Some ((one.kind, need), rest) → (is_some (told_of_kind one.kind).head || is_inherited one.vis) ≡ true
      → item_by at within ts ≡ Some ((one, suc need), rest)
  unfolding item_by
  item_made one need ts seen mid rest a v k m = rw (a, v, k, m) refl

  pub item_by_complete : (one : Item) (ts rest : Tokens) → Stands (about_item at one) (suc depth) ts rest → IsRead (suc depth) (item_by at within) one ts rest
  item_by_complete one ts rest s =
      let p = item_parts at one depth ts rest (s.0, s.1) in
      let front = kind_front at one.kind depth p.mid rest p.kind in
      let begins = vis_begins one.vis depth p.seen p.mid rest p.vis front in
      let k = kind_complete one.kind p.mid rest p.kind in
      let v = vis_complete one.vis depth p.seen p.mid p.vis p.good (vis_may one.vis p.mid front.vis front.paren) in
      (suc k.0, omega (arith, k.1), item_made one k.0 ts p.seen p.mid rest (attributes_complete false one.attrs depth ts p.seen p.attrs begins.1) v k.2 p.may)
