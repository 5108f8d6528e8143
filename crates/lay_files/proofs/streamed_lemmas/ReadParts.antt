-- What stands in a window is read and fed.
use Rattle.std.proofs.Common.{◌≡◌, ℕ, ◌<◌, Bool, true, false, not, List, [], ◌∷◌, ◌++◌, map, drop, Some, None, refl, sym, subst}
use Rattle.lay_token.specs.declared.token.Token.{Token}
use Rattle.lay_form.specs.Form.{Form, Done, Deeper}
use Rattle.lay_node.specs.nodes.Attr.{about_attr, attr_form}
use Rattle.lay_node.specs.nodes.Facts.{Front, forms}
use Rattle.lay_node.specs.declared.attr.Attr.{Attr}
use Rattle.lay_node.specs.declared.heads.Site.TheVariants.{Module}
use Rattle.lay_node.proofs.Parts.{Rows, SpelledAt}
use Rattle.lay_code.specs.nodes.Code.{about_item, form_of_item}
use Rattle.lay_code.specs.declared.file.File.{File}
use Rattle.lay_code.specs.declared.item.Item.{Item}
use Rattle.lay_read_tokens.specs.Answers.{AreLexed}
use Rattle.lay_stream.specs.Fed.{Meanings, Puts}
use Rattle.lay_files.specs.windows.Parts.{Adds, AddsInner, IsHead, head_form, parts_of}
use Rattle.lay_files.specs.declared.windows.heads.Head.{Head}
use Rattle.lay_files.proofs.windows_lemmas.Reading.{attr_more, item_more, no_attrs, no_items}
use Rattle.lay_files.proofs.windows_lemmas.Standing.{attr_forms, item_forms, lead_row, parts_added}
use Rattle.lay_files.specs.streamed.Through.{PutsAttrs, PutsInner, PutsItems, PutsParts, bare, rows}
use Rattle.lay_files.proofs.streamed_lemmas.Rows.{nothing_put, rows_put}

none_where : (before : Bool) (attrs : List Attr) (ts us : List Token) → AddsInner (not before) [] attrs ts us → before ≡ true → attrs ≡ []
none_where true attrs ts us a e = a.0
none_where false attrs ts us a e = cc

lexed_where : (before : Bool) (attrs : List Attr) (ts us : List Token) → AddsInner (not before) [] attrs ts us → AreLexed ts → AreLexed us
lexed_where true attrs ts us a l = subst AreLexed (sym a.1) l
lexed_where false attrs ts us a l = a.lexed

module _ {S F : Type 0} (m : Meanings S F) (within : Bool) where
  -- ---- attributes

  pub no_attrs_put : (ts : List Token) (a : S) → AreLexed ts → PutsAttrs m within ts ts a a
  no_attrs_put ts a l = record { attrs = []; stand = no_attrs true [] ts l; puts = nothing_put m within a }

  pub attr_put : (ts us vs : List Token) (a b c : S) (attr : Attr) → PutsAttrs m within ts us a b
      → (n : ℕ) × (vs ≡ drop n us) × Front (about_attr true attr) us n 0 → Puts m b (rows within (attr_form attr ∷ [])) c
      → PutsAttrs m within ts vs a c
  attr_put ts us vs a b c attr p f q = record {
    attrs = p.attrs ++ attr ∷ [];
    stand = attr_more true [] p.attrs (p.attrs ++ attr ∷ []) ts us vs attr p.stand refl f;
    puts = rows_put m within a b c (map attr_form p.attrs) (attr_form attr ∷ []) (map attr_form (p.attrs ++ attr ∷ [])) p.puts q
        (attr_forms p.attrs (attr ∷ []));
  }

  pub inner_skipped : (before : Bool) (ts : List Token) (a : S) → before ≡ true → PutsInner m within before ts ts a a
  inner_skipped true ts a e = record { attrs = []; stand = (refl, refl); puts = nothing_put m within a }
  inner_skipped false ts a e = cc

  pub inner_put : (before : Bool) (ts us : List Token) (a b : S) → before ≡ false → PutsAttrs m within ts us a b
      → PutsInner m within before ts us a b
  inner_put true ts us a b e p = cc
  inner_put false ts us a b e p = record { attrs = p.attrs; stand = p.stand; puts = p.puts }

  pub inner_lexed : (before : Bool) (ts us : List Token) (a b : S) → PutsInner m within before ts us a b → AreLexed ts → AreLexed us
  inner_lexed before ts us a b p l = lexed_where before p.attrs ts us p.stand l

  -- ---- items

  pub no_items_put : (depth : ℕ) (before : Bool) (ts : List Token) (a : S) → AreLexed ts → PutsItems m within depth before before ts ts a a
  no_items_put depth before ts a l = record { items = []; stand = no_items depth [] ts l; none = λ e. (e, refl); puts = nothing_put m within a }

  pub item_put : (depth : ℕ) (before now : Bool) (ts us vs : List Token) (a b c : S) (one : Item) → PutsItems m within depth before now ts us a b
      → (n : ℕ) × (vs ≡ drop n us) × Front (about_item Module one) us n depth → Puts m b (rows within (form_of_item one ∷ [])) c
      → PutsItems m within depth before true ts vs a c
  item_put depth before now ts us vs a b c one p f q = record {
    items = p.items ++ one ∷ [];
    stand = item_more depth [] p.items (p.items ++ one ∷ []) ts us vs one p.stand refl f;
    none = λ e. cc;
    puts = rows_put m within a b c (forms (map (about_item Module) p.items)) (form_of_item one ∷ [])
        (forms (map (about_item Module) (p.items ++ one ∷ []))) p.puts q (item_forms p.items (one ∷ []));
  }

  -- ---- parts

  module _ (depth : ℕ) (before after : Bool) (ts us vs : List Token) (a b c : S) (x : PutsInner m within before ts us a b)
      (y : PutsItems m within depth before after us vs b c) where
    abbrev read : File
    read = record { shebang = None; attrs = x.attrs; items = y.items }

    adds : (lead : List Form) → Rows (SpelledAt depth) lead vs [] → Adds depth ts bare read lead
    adds lead rows = parts_added depth bare read (not before) ts us vs lead (λ e. refl) x.stand y.stand refl rows

    fed : Puts m a (rows within (parts_of read)) c
    fed = rows_put m within a b c (map attr_form x.attrs) (forms (map (about_item Module) y.items)) (parts_of read) x.puts y.puts refl

    pub parts_put : vs ≡ [] → PutsParts m within depth ts before after None a c
    parts_put e = record { file = read; reads = adds [] e; inner = none_where before x.attrs ts us x.stand; none = y.none; puts = fed }

    pub parts_led : (head : Head) → 0 < depth → IsHead head vs → PutsParts m within depth ts before after (Some head) a c
    parts_led head n h = record {
      file = read;
      reads = (adds (Deeper (head_form head) Done ∷ []) (lead_row depth head vs n h), h.attrs, h.vis, h.name);
      inner = none_where before x.attrs ts us x.stand;
      none = y.none;
      puts = fed;
    }
