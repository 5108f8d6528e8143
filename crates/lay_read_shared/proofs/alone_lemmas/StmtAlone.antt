-- Statements that end by themselves, or after which no token stands: what is read stands there, and what stands there is
-- read, where what is one level deeper is read so.
use Rattle.std.proofs.Common.{◌≡◌, ℕ, Bool, true, false, not, ◌&&◌, ◌||◌, List, [], ◌∷◌, inl, inr, codes, drop, Option, Some, is_some, refl, sym, ap, subst, ◌∙◌, max}
use Rattle.std.proofs.lemmas.Bool.{and_from, and_parts, not-true}
use Rattle.lay_token.specs.Operators.{is_op, op_at}
use Rattle.lay_form.specs.Spelled.{Spells}
use Rattle.lay_node.specs.Ahead.{Tokens, at_end, first, is_keyword, is_mark, tail}
use Rattle.lay_node.specs.reader.Attr.{attributes}
use Rattle.lay_node.specs.reader.Exact.{InText}
use Rattle.lay_node.specs.reader.Heads.{semicolon}
use Rattle.lay_node.specs.reader.Types.{if_read}
use Rattle.lay_node.specs.reader.Words.{name}
use Rattle.lay_node.specs.declared.attr.Attr.{Attr}
use Rattle.lay_node.specs.declared.heads.Site.TheVariants.{Module}
use Rattle.lay_node.specs.declared.patterns.Pat.{Pat}
use Rattle.lay_node.specs.declared.types.Ty.{Ty}
use Rattle.lay_node.specs.declared.patterns.PatPlace.TheVariants.{Single}
use Rattle.lay_node.specs.declared.types.TypePlace.TheVariants.{Bounds}
use Rattle.lay_node.proofs.Steps.{bind_some, chosen, same_some}
use Rattle.lay_node.proofs.reader.Attr.{attributes_sound}
use Rattle.lay_node.proofs.reader.AttrRead.{attributes_complete}
use Rattle.lay_node.proofs.reader.Exact.{IsRead}
use Rattle.lay_node.proofs.reader.HeadsLevel.{Stood}
use Rattle.lay_node.proofs.reader.TypesSoundParts.{Out}
use Rattle.lay_code.specs.nodes.Code.{about_expr, about_stmt, told_of_item}
use Rattle.lay_code.specs.nodes.CodeFacts.{StmtFacts}
use Rattle.lay_code.specs.nodes.Exprs.{follows}
use Rattle.lay_code.specs.nodes.Places.{FREE, statement}
use Rattle.lay_code.specs.reader.Blocks.{begins_item, else_stands, expr_stmt, item_stmt, let_stmt, stmt_by}
use Rattle.lay_code.specs.reader.Within.{ExprWithin}
use Rattle.lay_code.specs.declared.blocks.Stmt.{Stmt}
use Rattle.lay_code.specs.declared.blocks.Stmt.TheViews as views
use Rattle.lay_code.specs.declared.blocks.Block.{Block}
use Rattle.lay_code.specs.declared.blocks.Stmt.TheVariants as stmt
use Rattle.lay_code.specs.declared.item.Item.{Item}
use Rattle.lay_code.specs.declared.exprs.Expr.{Expr}
use Rattle.lay_code.proofs.nodes.BlocksLaws.{IsExpr, IsItem, IsLet, StmtView, stmt_expr_is, stmt_item_is, stmt_let_is, stmt_view}
use Rattle.lay_code.proofs.reader.BlockFronts.{expr_parts}
use Rattle.lay_code.proofs.reader.BlockReads.{NoItem}
use Rattle.lay_code.proofs.reader.BlocksSound.{stmt_sound}
use Rattle.lay_code.proofs.reader.ExprReads.{ExprReads}
use Rattle.lay_code.proofs.reader.ExprSoundLevel.{SoundExprWithin}
use Rattle.lay_code.proofs.reader.FrontsHeld.{fronts}
use Rattle.lay_code.proofs.reader.StmtsComplete.{ends_by_itself, stmt_read}
use Rattle.lay_read_shared.specs.alone.Fronts.{follows_in, stmt_alone, stmt_follows, stmt_told}
use Rattle.lay_read_shared.proofs.alone_lemmas.Alone.{CompleteNode, SoundNode}
use Rattle.lay_read_shared.proofs.alone_lemmas.Settled.{settled}

-- An expression without its `;` ends by itself where it is block-like.
unended_ends : (attrs : List Attr) (x : Expr) → (about_stmt (stmt.Expr attrs x false)).ends ≡ (about_expr x).block_like
unended_ends attrs x = ap (λ (F : StmtFacts). F.ends) (stmt_expr_is attrs x false)

-- What may follow a statement of each kind.
let_follows : (attrs : List Attr) (pat : Pat) (ty : Option Ty) (value : Option Expr) (block : Option Block) (ts : Tokens)
    → stmt_follows (stmt.Let attrs pat ty value block) ts ≡ true
let_follows attrs pat ty value block ts = ap (λ s. follows_in s ts) (views.outs-Stmt::Let attrs pat ty value block)

item_follows : (item : Item) (ts : Tokens) → stmt_follows (stmt.Item item) ts ≡ true
item_follows item ts = ap (λ s. follows_in s ts) (views.outs-Item item)

ended_follows : (attrs : List Attr) (x : Expr) (ts : Tokens) → stmt_follows (stmt.Expr attrs x true) ts ≡ true
ended_follows attrs x ts = ap (λ s. follows_in s ts) (views.outs-Stmt::Expr attrs x true)

unended_follows : (attrs : List Attr) (x : Expr) (ts : Tokens) → stmt_follows (stmt.Expr attrs x false) ts
    ≡ (follows (about_expr x) statement ts && not (first (is_mark (codes ";")) ts) && ((about_expr x).block_like || at_end ts))
unended_follows attrs x ts = ap (λ s. follows_in s ts) (views.outs-Stmt::Expr attrs x false)

-- ---- what is read stands there

-- Where a statement ends by itself, or no token is left, what is left may follow it.
abbrev Followed : (Stmt × ℕ) × Tokens → Type 0
Followed x = ((about_stmt x.0.0).ends || at_end x.1) ≡ true → stmt_follows x.0.0 x.1 ≡ true

module _ (budget : ℕ) (within : ExprWithin) (sound : SoundExprWithin budget within) where
  let_followed : (attrs : List Attr) (ts : Tokens) (x : Stmt × ℕ) (rest : Tokens) → let_stmt within attrs ts ≡ Some (x, rest) → Followed (x, rest)
  unfolding let_stmt
  let_followed attrs ts x rest h =
      let p = bind_some (within.pats Single ts) _ _ h in
      let y = bind_some (if_read (is_op (codes ":") p.0.1) (λ us. within.kinds.types Bounds (drop 1 us)) p.0.1) _ _ p.2 in
      let v = bind_some (if_read (is_op (codes "=") y.0.1) (λ us. within.exprs FREE (drop 1 us)) y.0.1) _ _ y.2 in
      let b = bind_some (if_read (first (is_keyword (codes "else")) v.0.1) (λ us. within.blocks (tail us)) v.0.1) _ _ v.2 in
      let c = bind_some (semicolon b.0.1) _ _ b.2 in
      let pat = p.0.0.0 in
      let ty = y.0.0.0 in
      let value = v.0.0.0 in
      let block = b.0.0.0 in
      elim (chosen (else_stands value (is_some block)) _ _ _ c.2) [
        | inl g ↦
            let most = max p.0.0.1 (max y.0.0.1 (max v.0.0.1 b.0.0.1)) in
            same_some Followed ((stmt.Let attrs pat ty value block, most), c.0) (x, rest) g.1 (λ e. let_follows attrs pat ty value block c.0)
        | inr g ↦ absurd (cc g.1)
      ]

  item_followed : (ts : Tokens) (x : Stmt × ℕ) (rest : Tokens) → item_stmt within ts ≡ Some (x, rest) → Followed (x, rest)
  item_followed ts x rest h =
      let i = bind_some (within.items Module ts) _ _ h in
      elim (chosen (told_of_item i.0.0.0).call _ _ _ i.2) [
        | inl g ↦ absurd (cc g.1)
        | inr g ↦ same_some Followed ((stmt.Item i.0.0.0, i.0.0.1), i.0.1) (x, rest) g.1 (λ e. item_follows i.0.0.0 i.0.1)
      ]

  expr_followed : (attrs : List Attr) (at : Tokens) → InText at → (x : Stmt × ℕ) (rest : Tokens) → expr_stmt within attrs at ≡ Some (x, rest) → Followed (x, rest)
  unfolding expr_stmt
  expr_followed attrs at t x rest h =
      let y = bind_some (within.exprs statement at) _ _ h in
      let s = sound.exprs statement at y.0.0 y.0.1 t y.1 in
      let one = y.0.0.0 in
      let mid = y.0.1 in
      let fits = follows (about_expr one) statement mid in
      let none = not (first (is_mark (codes ";")) mid) in
      elim (chosen (first (is_mark (codes ";")) mid) _ _ _ y.2) [
        | inl g ↦ same_some Followed ((stmt.Expr attrs one true, y.0.0.1), tail mid) (x, rest) g.1 (λ e. ended_follows attrs one (tail mid))
        | inr g ↦ same_some Followed ((stmt.Expr attrs one false, y.0.0.1), mid) (x, rest) g.1 (λ e.
            let last : ((about_expr one).block_like || at_end mid) ≡ true = subst (λ (b : Bool). (b || at_end mid) ≡ true) (unended_ends attrs one) e in
            unended_follows attrs one mid
            ∙ and_from (fits && none) ((about_expr one).block_like || at_end mid) (and_from fits none (settled one y.0.0.1 at mid s.0.2 s.0.3 last) (ap not g.0)) last)
      ]

  stmt_followed : (ts : Tokens) (x : Stmt × ℕ) (rest : Tokens) → InText ts → stmt_by within ts ≡ Some (x, rest) → Followed (x, rest)
  unfolding stmt_by
  stmt_followed ts x rest t h =
      let a = bind_some (attributes false ts) _ _ h in
      let attrs = a.0.0 in
      let at = a.0.1 in
      elim (chosen (first (is_keyword (codes "let")) at) _ _ _ a.2) [
        | inl g ↦ let_followed attrs (tail at) x rest g.1
        | inr g ↦ elim (chosen (begins_item at) _ _ _ g.1) [
          | inl f ↦ item_followed ts x rest f.1
          | inr f ↦ expr_followed attrs at (attributes_sound false 0 ts attrs at t a.1).1 x rest f.1
        ]
      ]

pub stmt_alone_sound : SoundNode stmt_told stmt_alone
stmt_alone_sound budget within sound ts x rest t h =
    let s = bind_some (stmt_by within ts) _ _ h in
    let held = stmt_sound budget within sound ts s.0.0 s.0.1 t s.1 in
    elim (chosen ((about_stmt s.0.0.0).ends || at_end s.0.1) _ _ _ s.2) [
      | inl g ↦
          let follows = stmt_followed budget within sound ts s.0.0 s.0.1 t s.1 g.0 in
          same_some (Out (Stood stmt_told budget) ts) s.0 (x, rest) g.1 ((held.0.need, held.0.form, held.0.good, follows), held.1)
      | inr g ↦ absurd (cc g.1)
    ]

-- ---- what stands there is read

-- No token makes no item of the word before it.
none_no_item : (ts : Tokens) → at_end ts ≡ true → NoItem ts
unfolding name op_at
none_no_item [] h = (refl, refl)
none_no_item (t ∷ ts) h = absurd (cc)

module _ (depth : ℕ) (within : ExprWithin) (reads : ExprReads depth within) where
  unended_made : (attrs : List Attr) (x : Expr) (n : ℕ) (ts rest : Tokens) → within.exprs statement ts ≡ Some ((x, n), rest)
      → first (is_mark (codes ";")) rest ≡ false → expr_stmt within attrs ts ≡ Some ((stmt.Expr attrs x false, n), rest)
  unfolding expr_stmt
  unended_made attrs x n ts rest h m = rw (h, m) refl

  -- an expression without its `;`
  unended_read : (attrs : List Attr) (x : Expr) (ts rest : Tokens) → Spells (about_stmt (stmt.Expr attrs x false)).form depth ts rest
      → (about_stmt (stmt.Expr attrs x false)).good ≡ true
      → follows (about_expr x) statement rest ≡ true → first (is_mark (codes ";")) rest ≡ false → ((about_expr x).block_like || at_end rest) ≡ true
      → IsRead depth (stmt_by within) (stmt.Expr attrs x false) ts rest
  unfolding stmt_by
  unended_read attrs x ts rest s g fits mark last =
      let p = expr_parts attrs x false depth ts rest s g
      (λ e. none_no_item rest (subst (λ (b : Bool). (b || at_end rest) ≡ true) (sym (unended_ends attrs x) ∙ e) last)) in
      let here : Spells (about_expr x).form depth p.seen rest = subst (λ us. Spells (about_expr x).form depth p.seen us) p.last p.spelled in
      let r = reads.exprs statement x p.seen rest here p.placed_there (inl fits) in
      let all = attributes_complete false attrs depth ts p.seen p.attrs_there p.start.outer in
      (r.0, r.1, rw (all, p.other, p.item) (unended_made attrs x r.0 p.seen rest r.2 mark))

  -- It is read, and ends by itself, or no token is left.
  abbrev EndRead : Stmt → Tokens → Tokens → Type 0
  EndRead s ts rest = IsRead depth (stmt_by within) s ts rest × (((about_stmt s).ends || at_end rest) ≡ true)

  -- A statement that ends by itself may be followed by any token.
  ended_read : (s : Stmt) (ts rest : Tokens) → Spells (about_stmt s).form depth ts rest → (about_stmt s).good ≡ true → (about_stmt s).unended ≡ false
      → EndRead s ts rest
  ended_read s ts rest t g u = (stmt_read fronts depth within reads s ts rest t g (λ h. absurd (cc)), rw (ends_by_itself s u) refl)

  stmt_there : (s : Stmt) → StmtView s → (ts rest : Tokens) → Spells (about_stmt s).form depth ts rest → (about_stmt s).good ≡ true
      → stmt_follows s rest ≡ true → EndRead s ts rest
  stmt_there _ (IsLet attrs pat ty x o) ts rest t g f = ended_read _ ts rest t g (ap (λ (F : StmtFacts). F.unended) (stmt_let_is attrs pat ty x o))
  stmt_there _ (IsItem item) ts rest t g f = ended_read _ ts rest t g (ap (λ (F : StmtFacts). F.unended) (stmt_item_is item))
  stmt_there _ (IsExpr attrs x true) ts rest t g f = ended_read _ ts rest t g (ap (λ (F : StmtFacts). F.unended) (stmt_expr_is attrs x true))
  stmt_there _ (IsExpr attrs x false) ts rest t g f =
      let fits = follows (about_expr x) statement rest in
      let none = not (first (is_mark (codes ";")) rest) in
      let h = and_parts (fits && none) ((about_expr x).block_like || at_end rest) (sym (unended_follows attrs x rest) ∙ f) in
      let k = and_parts fits none h.0 in (
        unended_read attrs x ts rest t g k.0 (not-true (first (is_mark (codes ";")) rest) k.1) h.1,
        subst (λ (b : Bool). (b || at_end rest) ≡ true) (sym (unended_ends attrs x)) h.1,
      )

pub stmt_alone_read : CompleteNode stmt_told stmt_alone
stmt_alone_read depth within reads s ts rest t g f =
    let p = stmt_there depth within reads s (stmt_view s) ts rest t g f in
    let r = p.0 in
    (r.0, r.1, rw (r.2, p.1) refl)
