-- Items up to their bodies, and then their bodies.
use Rattle.std.proofs.Common.{◌≡◌, ℕ, max, Bool, true, false, is_some, List, [], drop, Option, Some, None, Result, Ok, Err, IfOk, ◌≤◌, codes, refl, sym, subst, ap, ◌∙◌, if◌then◌else◌, arith}
use Rattle.lay_token.specs.Operators.{is_op}
use Rattle.lay_piece.specs.declared.kind.Delim.TheVariants.{Brace}
use Rattle.lay_node.specs.Ahead.{Tokens, first, tail, closes, is_keyword, is_mark, opens}
use Rattle.lay_node.specs.reader.Attr.{attributes}
use Rattle.lay_node.specs.reader.Call.{behind_end, call}
use Rattle.lay_node.specs.reader.Heads.{alias, enum, extern_crate, impl_head, struct, trait_head, union, unsafe_flag}
use Rattle.lay_node.specs.reader.Loops.{Got, Read, ◌>>=◌, passed}
use Rattle.lay_node.specs.reader.Tokens.{group}
use Rattle.lay_node.specs.reader.Types.{abi, if_read, if_there, is_string_token, literal}
use Rattle.lay_node.specs.reader.Where.{wheres}
use Rattle.lay_node.specs.reader.Words.{name}
use Rattle.lay_node.specs.declared.attr.Attr.{Attr}
use Rattle.lay_node.specs.declared.heads.Site.{Site}
use Rattle.lay_node.specs.declared.heads.Site.TheVariants as site
use Rattle.lay_node.specs.declared.token.Literal.{Literal}
use Rattle.lay_node.specs.declared.token.Name.{Name}
use Rattle.lay_node.specs.declared.types.Abi.{Abi}
use Rattle.lay_code.specs.reader.Item as reader
use Rattle.lay_code.specs.reader.Item.{ItemWithin}
use Rattle.lay_code.specs.reader.ItemLeads.{ItemLead, item_lead, OfAlias, OfCall, OfEnum, OfExternCrate, OfForeign, OfFunction, OfImpl, OfImport, OfModule, OfRules, OfStruct, OfTrait, OfUnion, OfValue}
use Rattle.lay_code.specs.declared.item.Item.{Item}
use Rattle.lay_code.specs.declared.item.ItemKind.{ItemKind}
use Rattle.lay_code.specs.declared.item.ItemKind.TheVariants as item
use Rattle.lay_code.specs.nodes.Item.{may_be_bodied, may_be_valued}
use Rattle.lay_code.specs.nodes.Places.{FREE}
use Rattle.lay_code.specs.declared.blocks.Block.{Block}
use Rattle.lay_code.specs.declared.exprs.Expr.{Expr}
use Rattle.lay_node.specs.declared.heads.ValueHead.{ValueHead}
use Rattle.lay_node.specs.reader.Functions.{fn_head}
use Rattle.lay_node.specs.reader.Heads.{semicolon, value_head}
use Rattle.lay_read_tokens.specs.Answers.{AreFound, IsFound}
use Rattle.lay_read_tokens.specs.declared.found.Found.{Found}
use Rattle.lay_read_tokens.specs.declared.stop.ReadNone.{ReadNone}
use Rattle.lay_read_tokens.specs.declared.stop.ReadNone.TheVariants.{NoReading, NoMemory}
use Rattle.lay_read_begun.specs.Begun.{IsBoxed, begun_at, begun_by, block_kind, body_of as body_in, finished, foreign_begun, items_kind, kept, kind_of, made, node_alone, value_end, value_kind, with_block, with_items, with_value}
use Rattle.lay_read_begun.specs.declared.bodies.Body.TheVariants as body
use Rattle.lay_read_begun.specs.declared.begun.Begun.{Begun}
use Rattle.lay_read_begun.specs.declared.begun.Begun.TheVariants as begun
use Rattle.lay_read_begun.specs.declared.begun.Whole.{Whole}
use Rattle.lay_read_begun.specs.declared.begun.Whole.TheVariants as whole

-- ---- where an item may stand

module _ (at : Site) (within : ItemWithin) (ts : Tokens) (lead : ItemLead) (e : lead ≡ item_lead ts) where
  pub begun_there : reader.may_stand at lead ≡ true → begun_at at within ts ≡ begun_by at within lead ts
  unfolding begun_at
  begun_there m = rw (sym e, m) refl

  pub begun_nowhere : reader.may_stand at lead ≡ false → begun_at at within ts ≡ None
  unfolding begun_at
  begun_nowhere m = rw (sym e, m) refl

-- ---- foreign blocks

-- a foreign block, from its ABI
abbrev foreign_of : Bool → Got (Option Abi) → Read Begun
foreign_of is_unsafe None = None
foreign_of is_unsafe (Some (None, ts)) = None
foreign_of is_unsafe (Some (Some a, ts)) = Some ((begun.Foreign is_unsafe a.name, 0), ts)

foreign_named : (u : Bool) (o : Got (Option Literal)) → (o >>= (λ l. Some ((begun.Foreign u l.0, 0), l.1)))
    ≡ foreign_of u ((o >>= (λ l. let a : Got Abi = Some (record { name = l.0 }, l.1) in a)) >>= (λ a. Some (Some a.0, a.1)))
foreign_named u None = refl
foreign_named u (Some l) = refl

foreign_behind : (u b : Bool) (us : Tokens) → first (is_keyword (codes "extern")) us ≡ b → (passed (is_keyword (codes "extern")) us
    >>= (λ behind. if_there (first is_string_token behind) (literal is_string_token) behind >>= (λ l. Some ((begun.Foreign u l.0, 0), l.1))))
    ≡ foreign_of u (if_there b abi us)
unfolding abi
foreign_behind u true us h =
    rw h (foreign_named u (if_there (first is_string_token (tail us)) (literal is_string_token) (tail us)))
foreign_behind u false us h = rw h refl

pub foreign_is : (ts : Tokens) → foreign_begun ts
    ≡ foreign_of (unsafe_flag ts).0 (if_there (first (is_keyword (codes "extern")) (unsafe_flag ts).1) abi (unsafe_flag ts).1)
foreign_is ts = foreign_behind (unsafe_flag ts).0 (first (is_keyword (codes "extern")) (unsafe_flag ts).1) (unsafe_flag ts).1 refl

-- ---- an item is what it begins with, and then its body

-- What is read step by step, and then goes on, goes on in each step.
step : {A B C : Type 0} (o : Option A) (f : A → Option C) (g : A → Option B) (h : B → Option C) → ((x : A) → f x ≡ (g x >>= h))
    → (o >>= f) ≡ ((o >>= g) >>= h)
step None f g h e = refl
step (Some x) f g h e = e x

-- After a body the needs are the same.
behind_body : (make : List Attr → List Item → ItemKind) (f g : ℕ → ℕ) (o : Read (List Attr × List Item)) → ((n : ℕ) → f n ≡ g n)
    → (o >>= (λ b. let k : Read ItemKind = Some ((make b.0.0.0 b.0.0.1, f b.0.1), b.1) in k))
    ≡ (o >>= (λ b. Some ((make b.0.0.0 b.0.0.1, g b.0.1), b.1)))
behind_body make f g None e = refl
behind_body make f g (Some b) e = rw (e b.0.1) refl

nothing_more : (n : ℕ) → n ≡ max 0 n
nothing_more n = omega arith

greatest : (a b n : ℕ) → max a (max b n) ≡ max (max a b) n
greatest a b n = omega arith

module _ (at : Site) (within : ItemWithin) where
  abbrev go_on : (Begun × ℕ) × Tokens → Read ItemKind
  go_on x = finished within at x.0 x.1

  alone_finished : {A : Type 0} (make : A → Whole) (o : Read A)
      → (o >>= (λ x. let k : Read ItemKind = Some ((kind_of (make x.0.0), x.0.1), x.1) in k)) ≡ (node_alone make o >>= go_on)
  alone_finished make None = refl
  alone_finished make (Some x) = refl

  free_finished : {A : Type 0} (make : A → Whole) (o : Got A)
      → (o >>= (λ x. let k : Read ItemKind = Some ((kind_of (make x.0), 0), x.1) in k))
      ≡ (node_alone make (o >>= (λ x. let free : Read A = Some ((x.0, 0), x.1) in free)) >>= go_on)
  free_finished make None = refl
  free_finished make (Some x) = refl

  body_of : (make : List Attr → List Item → ItemKind) (s : Site) (ts : Tokens)
      → (reader.item_body within s ts >>= (λ b. let k : Read ItemKind = Some ((make b.0.0.0 b.0.0.1, b.0.1), b.1) in k))
      ≡ (reader.item_body within s ts >>= (λ b. Some ((make b.0.0.0 b.0.0.1, max 0 b.0.1), b.1)))
  body_of make s ts = behind_body make (λ n. n) (λ n. max 0 n) (reader.item_body within s ts) nothing_more

  module_behind : (b : Bool) (n : Name) (ts : Tokens)
      → (let kind : Read ItemKind = if b then Some ((item.FileModule n, 0), tail ts)
      else (reader.item_body within site.Module ts >>= (λ b. Some ((item.Module n b.0.0.0 b.0.0.1, b.0.1), b.1))) in kind)
      ≡ ((let x : Read Begun = if b then Some ((begun.Whole (whole.FileModule n), 0), tail ts) else Some ((begun.Module n, 0), ts) in x) >>= go_on)
  module_behind true n ts = refl
  module_behind false n ts = body_of (λ attrs items. item.Module n attrs items) site.Module ts

  -- a function with its body
  function_behind : (make : Option Block → ItemKind) (f g : ℕ → ℕ) (o : Read (Option Block)) → ((n : ℕ) → f n ≡ g n)
      → (o >>= (λ b. let k : Read ItemKind = if may_be_bodied at (is_some b.0.0) then Some ((make b.0.0, f b.0.1), b.1) else None in k))
      ≡ (o >>= (λ b. made (kept (may_be_bodied at (is_some b.0.0)) (make b.0.0) (g b.0.1)) b.1))
  function_behind make f g None e = refl
  function_behind make f g (Some b) e = by (may_be_bodied at (is_some b.0.0))
    where
      by : (keeps : Bool) → (let k : Read ItemKind = if keeps then Some ((make b.0.0, f b.0.1), b.1) else None in k)
          ≡ made (kept keeps (make b.0.0) (g b.0.1)) b.1
      by true = rw (e b.0.1) refl
      by false = refl

  -- a constant or a static with its value
  value_behind : (head : ValueHead) (need : ℕ) (o : Read (Option Expr))
      → (o >>= (λ v. semicolon v.1 >>= (λ rest. let k : Read ItemKind = if may_be_valued at head (is_some v.0.0)
      then Some ((item.Value head v.0.0, max need v.0.1), rest) else None in k)))
      ≡ ((o >>= (λ v. semicolon v.1 >>= (λ rest. let w : Read (Option Expr) = Some (v.0, rest) in w)))
      >>= (λ v. made (with_value (begun.Value head, need) at v.0) v.1))
  value_behind head need None = refl
  value_behind head need (Some v) = by (semicolon v.1)
    where
      ended : (rest : Tokens) (keeps : Bool) → (let k : Read ItemKind = if keeps then Some ((item.Value head v.0.0, max need v.0.1), rest) else None in k)
          ≡ made (kept keeps (item.Value head v.0.0) (max need v.0.1)) rest
      ended rest true = refl
      ended rest false = refl

      by : (o : Option Tokens) → (o >>= (λ rest. let k : Read ItemKind = if may_be_valued at head (is_some v.0.0)
          then Some ((item.Value head v.0.0, max need v.0.1), rest) else None in k))
          ≡ ((o >>= (λ rest. let w : Read (Option Expr) = Some (v.0, rest) in w)) >>= (λ v. made (with_value (begun.Value head, need) at v.0) v.1))
      by None = refl
      by (Some rest) = ended rest (may_be_valued at head (is_some v.0.0))

  by_lead : (lead : ItemLead) (ts : Tokens) → reader.kind_by at within lead ts ≡ (begun_by at within lead ts >>= go_on)
  unfolding reader.import_by reader.rules_item reader.call_item reader.module_by reader.function_by reader.value_by reader.trait_by reader.impl_by reader.foreign_by
  by_lead OfExternCrate ts = free_finished whole.ExternCrate (extern_crate ts)
  by_lead OfImport ts = step (passed (is_keyword (codes "use")) ts) _ _ go_on
      (λ behind. step (within.trees behind) _ _ go_on (λ t. step (semicolon t.1) _ _ go_on (λ rest. refl)))
  by_lead OfModule ts = step (passed (is_keyword (codes "mod")) ts) _ _ go_on
      (λ behind. step (name behind) _ _ go_on (λ n. module_behind (first (is_mark (codes ";")) n.1) n.0 n.1))
  by_lead OfFunction ts = step (fn_head at within.heads ts) _ _ go_on
      (λ h. step (wheres within.heads.kinds h.1) _ _ go_on
      (λ w. function_behind (λ b. item.Function h.0.0 w.0.0.0 b) (λ n. max h.0.1 (max w.0.1 n)) (λ n. max (max h.0.1 w.0.1) n)
      (reader.fn_body within.code w.1) (greatest h.0.1 w.0.1)))
  by_lead OfAlias ts = alone_finished whole.Alias (alias at within.heads.kinds ts)
  by_lead OfStruct ts = alone_finished whole.Struct (struct within.heads.kinds ts)
  by_lead OfUnion ts = alone_finished whole.Union (union within.heads.kinds ts)
  by_lead OfEnum ts = alone_finished whole.Enum (enum within.heads.kinds ts)
  by_lead OfValue ts = step (value_head within.heads.kinds ts) _ _ go_on
      (λ h. value_behind h.0.0 h.0.1 (if_read (is_op (codes "=") h.1) (λ us. within.code.exprs FREE (drop 1 us)) h.1))
  by_lead OfTrait ts = step (trait_head within.heads.kinds ts) _ _ go_on
      (λ h. step (wheres within.heads.kinds h.1) _ _ go_on
      (λ w. behind_body (λ attrs items. item.Trait h.0.0.0 w.0.0.0 attrs items) (λ n. max h.0.1 (max w.0.1 n)) (λ n. max (max h.0.1 w.0.1) n)
      (reader.item_body within site.TraitMember w.1) (greatest h.0.1 w.0.1)))
  by_lead OfImpl ts = step (impl_head within.heads.kinds ts) _ _ go_on
      (λ h. step (wheres within.heads.kinds h.1) _ _ go_on
      (λ w. behind_body (λ attrs items. item.Impl h.0.0 w.0.0.0 attrs items) (λ n. max h.0.1 (max w.0.1 n)) (λ n. max (max h.0.1 w.0.1) n)
      (reader.item_body within site.Member w.1) (greatest h.0.1 w.0.1)))
  by_lead OfForeign ts = step (passed (is_keyword (codes "extern")) (unsafe_flag ts).1) _ _ go_on
      (λ behind. step (if_there (first is_string_token behind) (literal is_string_token) behind) _ _ go_on
      (λ l. body_of (λ attrs items. item.Foreign (unsafe_flag ts).0 l.0 attrs items) site.Foreign l.1))
  by_lead OfRules ts = step (name (drop 2 ts)) _ _ go_on
      (λ n. step (group n.1) _ _ go_on (λ g. step (behind_end g.0.delim g.1) _ _ go_on (λ rest. refl)))
  by_lead OfCall ts = step (call ts) _ _ go_on (λ c. step (behind_end c.0.tokens.delim c.1) _ _ go_on (λ rest. refl))

  module _ (ts : Tokens) where
    kind_is : reader.kind_at at within ts ≡ (begun_at at within ts >>= go_on)
    unfolding reader.kind_at begun_at
    kind_is = by (reader.may_stand at (item_lead ts))
      where
        by : (b : Bool) → (let kind : Read ItemKind = if b then reader.kind_by at within (item_lead ts) ts else None in kind)
            ≡ ((let x : Read Begun = if b then begun_by at within (item_lead ts) ts else None in x) >>= go_on)
        by true = by_lead (item_lead ts) ts
        by false = refl

    -- ---- the same in steps

    pub kind_none : begun_at at within ts ≡ None → reader.kind_at at within ts ≡ None
    kind_none h = kind_is ∙ rw h refl

    module _ (x : Begun) (need : ℕ) (mid : Tokens) (h : begun_at at within ts ≡ Some ((x, need), mid)) where
      kind_whole : body_in x ≡ body.None → reader.kind_at at within ts ≡ Some ((with_items x [] [], need), mid)
      kind_whole m = kind_is ∙ rw (h, m) refl

      module _ (s : Site) (m : body_in x ≡ body.Items s) where
        kind_no_body : reader.item_body within s mid ≡ None → reader.kind_at at within ts ≡ None
        kind_no_body b = kind_is ∙ rw (h, m, b) refl

        kind_with_body : (attrs : List Attr) (items : List Item) (n : ℕ) (rest : Tokens)
            → reader.item_body within s mid ≡ Some (((attrs, items), n), rest)
            → reader.kind_at at within ts ≡ Some ((with_items x attrs items, max need n), rest)
        kind_with_body attrs items n rest b = kind_is ∙ rw (h, m, b) refl

      -- a function
      module _ (m : body_in x ≡ body.Block) where
        kind_no_block : reader.fn_body within.code mid ≡ None → reader.kind_at at within ts ≡ None
        kind_no_block b = kind_is ∙ rw (h, m, b) refl

        kind_with_block : (b : Option Block) (n : ℕ) (rest : Tokens) → reader.fn_body within.code mid ≡ Some ((b, n), rest)
            → reader.kind_at at within ts ≡ made (with_block (x, need) at (b, n)) rest
        kind_with_block b n rest e = kind_is ∙ rw (h, m, e) refl

      -- a constant or a static
      module _ (m : body_in x ≡ body.Value) where
        kind_no_value : value_end within mid ≡ None → reader.kind_at at within ts ≡ None
        kind_no_value v = kind_is ∙ rw (h, m, v) refl

        kind_with_value : (v : Option Expr) (n : ℕ) (rest : Tokens) → value_end within mid ≡ Some ((v, n), rest)
            → reader.kind_at at within ts ≡ made (with_value (x, need) at (v, n)) rest
        kind_with_value v n rest e = kind_is ∙ rw (h, m, e) refl

-- ---- what is made

-- What is made is what is found.
made_found : (read : Read ItemKind) (r : Result (Found ItemKind) ReadNone) (rest : Tokens) → read ≡ made r rest → IsFound read r rest
made_found read (Ok found) rest e = e
made_found read (Err NoReading) rest e = e
made_found read (Err NoMemory) rest e = tt

-- It needs no more than what it is made of.
kept_within : (keeps : Bool) (kind : ItemKind) (need depth : ℕ) → need ≤ depth → IfOk (kept keeps kind need) (λ found. found.need ≤ depth)
kept_within true kind need depth le = le
kept_within false kind need depth le = tt

block_within : (x : Begun) (need : ℕ) (at : Site) (b : Option Block) (n depth : ℕ) → need ≤ depth → n ≤ depth
    → IfOk (with_block (x, need) at (b, n)) (λ found. found.need ≤ depth)
block_within (begun.Function head wheres) need at b n depth le less =
    kept_within (may_be_bodied at (is_some b)) (item.Function head wheres b) (max need n) depth (omega (arith, le, less))
block_within _ need at b n depth le less = tt

value_within : (x : Begun) (need : ℕ) (at : Site) (v : Option Expr) (n depth : ℕ) → need ≤ depth → n ≤ depth
    → IfOk (with_value (x, need) at (v, n)) (λ found. found.need ≤ depth)
value_within (begun.Value head) need at v n depth le less =
    kept_within (may_be_valued at head (is_some v)) (item.Value head v) (max need n) depth (omega (arith, le, less))
value_within _ need at v n depth le less = tt

-- What is put into a box is what was made.
boxed_found : (read : Read ItemKind) (m r : Result (Found ItemKind) ReadNone) (rest : Tokens) → IsFound read m rest → IsBoxed m r → IsFound read r rest
boxed_found read (Ok kind) (Ok found) rest h e = rw e h
boxed_found read (Ok kind) (Err none) rest h e = rw e tt
boxed_found read (Err none) (Ok found) rest h e = absurd e
boxed_found read (Err none) (Err other) rest h e = rw e h

boxed_within : (m r : Result (Found ItemKind) ReadNone) (depth : ℕ) → IfOk m (λ found. found.need ≤ depth) → IsBoxed m r
    → IfOk r (λ found. found.need ≤ depth)
boxed_within (Ok kind) (Ok found) depth h e = rw e h
boxed_within (Ok kind) (Err none) depth h e = tt
boxed_within (Err none) (Ok found) depth h e = absurd e
boxed_within (Err none) (Err other) depth h e = tt

-- ---- an item of what it begins with and of what was read of its body

module _ (at : Site) (within : ItemWithin) (ts : Tokens) (x : Found Begun) (mid : Tokens)
    (h : begun_at at within ts ≡ Some ((x.node, x.need), mid)) (r : Result (Found ItemKind) ReadNone) where
  pub whole_made : body_in x.node ≡ body.None → (attrs : List Attr) (items : List Item) → attrs ≡ [] → items ≡ []
      → IsBoxed (items_kind x (Ok (record { node = (attrs, items); need = 0 }))) r → IsFound (reader.kind_at at within ts) r mid
  whole_made m attrs items a i = boxed_found (reader.kind_at at within ts) (items_kind x (Ok (record { node = (attrs, items); need = 0 }))) r mid
      (let same : x.need ≡ max x.need 0 = omega arith in rw (a, i, sym same) (kind_whole at within ts x.node x.need mid h m))

  pub items_made : (s : Site) → body_in x.node ≡ body.Items s → (b : Result (Found (List Attr × List Item)) ReadNone) (rest : Tokens)
      → IsFound (reader.item_body within s mid) b rest → IsBoxed (items_kind x b) r → IsFound (reader.kind_at at within ts) r rest
  items_made s m b rest f = boxed_found (reader.kind_at at within ts) (items_kind x b) r rest (by b f)
    where
      by : (b : Result (Found (List Attr × List Item)) ReadNone) → IsFound (reader.item_body within s mid) b rest
          → IsFound (reader.kind_at at within ts) (items_kind x b) rest
      by (Ok body) f = kind_with_body at within ts x.node x.need mid h s m body.node.0 body.node.1 body.need rest f
      by (Err NoReading) f = kind_no_body at within ts x.node x.need mid h s m f
      by (Err NoMemory) f = tt

  pub block_made : body_in x.node ≡ body.Block → (b : Result (Found (Option Block)) ReadNone) (rest : Tokens)
      → IsFound (reader.fn_body within.code mid) b rest → IsBoxed (block_kind x at b) r → IsFound (reader.kind_at at within ts) r rest
  block_made m b rest f = boxed_found (reader.kind_at at within ts) (block_kind x at b) r rest (by b f)
    where
      by : (b : Result (Found (Option Block)) ReadNone) → IsFound (reader.fn_body within.code mid) b rest
          → IsFound (reader.kind_at at within ts) (block_kind x at b) rest
      by (Ok body) f = made_found (reader.kind_at at within ts) (with_block (x.node, x.need) at (body.node, body.need)) rest
          (kind_with_block at within ts x.node x.need mid h m body.node body.need rest f)
      by (Err NoReading) f = kind_no_block at within ts x.node x.need mid h m f
      by (Err NoMemory) f = tt

  pub value_made : body_in x.node ≡ body.Value → (v : Result (Found (Option Expr)) ReadNone) (rest : Tokens)
      → IsFound (value_end within mid) v rest → IsBoxed (value_kind x at v) r → IsFound (reader.kind_at at within ts) r rest
  value_made m v rest f = boxed_found (reader.kind_at at within ts) (value_kind x at v) r rest (by v f)
    where
      by : (v : Result (Found (Option Expr)) ReadNone) → IsFound (value_end within mid) v rest
          → IsFound (reader.kind_at at within ts) (value_kind x at v) rest
      by (Ok value) f = made_found (reader.kind_at at within ts) (with_value (x.node, x.need) at (value.node, value.need)) rest
          (kind_with_value at within ts x.node x.need mid h m value.node value.need rest f)
      by (Err NoReading) f = kind_no_value at within ts x.node x.need mid h m f
      by (Err NoMemory) f = tt

module _ (x : Found Begun) (depth : ℕ) (le : x.need ≤ depth) (r : Result (Found ItemKind) ReadNone) where
  pub items_in : (b : Result (Found (List Attr × List Item)) ReadNone) → IfOk b (λ found. found.need ≤ depth) → IsBoxed (items_kind x b) r
      → IfOk r (λ found. found.need ≤ depth)
  items_in (Ok body) less = boxed_within (items_kind x (Ok body)) r depth (omega (arith, le, less))
  items_in (Err none) less = boxed_within (Err none) r depth tt

  pub block_in : (at : Site) (b : Result (Found (Option Block)) ReadNone) → IfOk b (λ found. found.need ≤ depth) → IsBoxed (block_kind x at b) r
      → IfOk r (λ found. found.need ≤ depth)
  block_in at (Ok body) less = boxed_within (block_kind x at (Ok body)) r depth
      (block_within x.node x.need at body.node body.need depth le less)
  block_in at (Err none) less = boxed_within (Err none) r depth tt

  pub value_in : (at : Site) (v : Result (Found (Option Expr)) ReadNone) → IfOk v (λ found. found.need ≤ depth) → IsBoxed (value_kind x at v) r
      → IfOk r (λ found. found.need ≤ depth)
  value_in at (Ok value) less = boxed_within (value_kind x at (Ok value)) r depth
      (value_within x.node x.need at value.node value.need depth le less)
  value_in at (Err none) less = boxed_within (Err none) r depth tt

-- ---- inner attributes and items in braces

module _ (within : ItemWithin) (at : Site) (ts inside mid last : Tokens) (attrs : List Attr) (read : List (Item × ℕ)) (found : Found (List Item))
    (o : first (opens Brace) ts ≡ true) (i : inside ≡ tail ts) (a : attributes true inside ≡ Some (attrs, mid))
    (h : reader.items_by (within.items at) mid ≡ Some (read, last)) (are : AreFound read found) where
  abbrev Braced : Found (List Attr × List Item)
  Braced = record { node = (attrs, found.node); need = found.need }

  braced_by : (keeps : Bool) (rest : Tokens) → keeps ≡ first (closes Brace) last → rest ≡ (if keeps then tail last else last)
      → IsFound (reader.item_body within at ts) (let r : Result (Found (List Attr × List Item)) ReadNone = if keeps then Ok Braced else Err NoReading in r) rest
  unfolding reader.item_body
  braced_by true rest e d =
      let b : attributes true (tail ts) ≡ Some (attrs, mid) = ap (attributes true) (sym i) ∙ a in
      rw (o, b, h, sym e, are.0, are.1, d) refl
  braced_by false rest e d =
      let b : attributes true (tail ts) ≡ Some (attrs, mid) = ap (attributes true) (sym i) ∙ a in
      rw (o, b, h, sym e) refl

  pub braced : (keeps : Bool) (rest : Tokens) → keeps ≡ first (closes Brace) last → rest ≡ (if keeps then tail last else last)
      → (r : Result (Found (List Attr × List Item)) ReadNone) → r ≡ (if keeps then Ok Braced else Err NoReading)
      → IsFound (reader.item_body within at ts) r rest
  braced keeps rest e d r k = subst (λ x. IsFound (reader.item_body within at ts) x rest) (sym k) (braced_by keeps rest e d)
