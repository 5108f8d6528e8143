-- Paths and struct literals: what is parsed stands there, if that holds one level deeper.
use Rattle.std.proofs.Common.{◌≡◌, ℕ, suc, ◌≤◌, max, Bool, true, false, not, ◌&&◌, List, [], ◌∷◌, ◌++◌, inl, inr, map, drop, codes, Option, option_map, Some, None, is_some, refl, sym, ap, subst, ◌∙◌, append-nil, arith}
use Rattle.std.proofs.lemmas.Bool.{and_parts, and_from}
use Rattle.lay_piece.specs.declared.kind.Delim.TheVariants.{Brace}
use Rattle.lay_piece.specs.declared.kind.Kind.TheVariants as kind
use Rattle.lay_token.specs.Operators.{is_op}
use Rattle.lay_form.specs.Form.{Fixed, Operator, Form, Done, Leaf, Piece, Part, closer, opener}
use Rattle.lay_form.specs.Notation.{behind_attrs, braces}
use Rattle.lay_form.specs.Spelled.{IsBit, IsOperator, Spells}
use Rattle.lay_form.proofs.FormLaws.{deeper as raise}
use Rattle.lay_node.specs.Ahead.{Tokens, first, tail, closes, opens}
use Rattle.lay_node.specs.Follow.{OfBang, may_follow}
use Rattle.lay_node.specs.Words.{is_name, leaf_of}
use Rattle.lay_node.specs.nodes.Attr.{about_attr, are_attrs, attr_form}
use Rattle.lay_node.specs.nodes.Facts.{all_good}
use Rattle.lay_node.specs.nodes.Types.{colon}
use Rattle.lay_node.specs.reader.Attr.{attributes}
use Rattle.lay_node.specs.reader.Exact.{InText}
use Rattle.lay_node.specs.reader.Loops.{Got, deepest, nodes, open_elements, passed}
use Rattle.lay_node.specs.reader.Patterns.{begins_field, index}
use Rattle.lay_node.specs.reader.Types.{path}
use Rattle.lay_node.specs.reader.Words.{name}
use Rattle.lay_node.specs.declared.attr.Attr.{Attr}
use Rattle.lay_node.specs.declared.token.Name.{Name}
use Rattle.lay_node.specs.declared.types.Path.{Path}
use Rattle.lay_node.specs.declared.types.PathStyle.TheVariants.{Code}
use Rattle.lay_node.proofs.Fronts.{closer_passed_is, opens_one}
use Rattle.lay_node.proofs.Parts.{Further, GoodAt, Rows, SpelledAt, behind_attrs_spelled, bit_piece, leaf_spelled, rows_to, word_kind}
use Rattle.lay_node.proofs.Steps.{same_some, chosen, bind_some}
use Rattle.lay_node.proofs.reader.Attr.{attributes_sound, attrs_spelled}
use Rattle.lay_node.proofs.reader.Exact.{Stands}
use Rattle.lay_node.proofs.reader.Loops.{SoundStep}
use Rattle.lay_node.proofs.reader.PatternsSoundFields.{braces_by, index_sound, last_list}
use Rattle.lay_node.proofs.reader.TypesSoundNeeds.{Held, forms_of, goods_of, held}
use Rattle.lay_node.proofs.reader.TypesSoundOpen.{OpenBy, open_held, open_shut, open_sound}
use Rattle.lay_node.proofs.reader.TypesSoundParts.{Out, bit_texts}
use Rattle.lay_node.proofs.reader.TypesSoundPaths.{path_sound, path_told}
use Rattle.lay_node.proofs.reader.Words.{name_sound}
use Rattle.lay_code.specs.nodes.Code.{about_expr, about_field_expr}
use Rattle.lay_code.specs.nodes.Exprs.{ExprFacts, base_form, base_placed, field_facts, placed, struct_form}
use Rattle.lay_code.specs.nodes.Places.{FREE}
use Rattle.lay_code.specs.reader.Exprs.{base, field_by, named_field, one_field, path_expr, struct_expr}
use Rattle.lay_code.specs.reader.Within.{ExprWithin}
use Rattle.lay_code.specs.declared.exprs.Expr.{Expr}
use Rattle.lay_code.specs.declared.blocks.Stmt.TheOpen.{Expr-F, FieldExpr-F}
use Rattle.lay_code.specs.declared.exprs.Expr.TheVariants as expr
use Rattle.lay_code.specs.declared.exprs.FieldExpr.{FieldExpr}
use Rattle.lay_code.specs.declared.exprs.FieldExpr.TheVariants as field
use Rattle.lay_code.proofs.nodes.ExprsLaws.{expr_path_is, expr_struct_is, field_expr_named_is, field_expr_numbered_is, field_expr_short_is}
use Rattle.lay_code.proofs.reader.ExprSoundLevel.{ExprHeld, LeftHeld, SoundExprWithin, made}

-- what holds of each of the elements that nothing closes
open_to : {A : Type 0} (begins : Tokens → Bool) (P Q : A → Tokens → Tokens → Type 0)
    → ((x : A) (ts mid : Tokens) → P x ts mid → Q x ts mid) → (xs : List A) (last : Bool) (ts rest : Tokens)
    → OpenBy begins P xs last ts rest → OpenBy begins Q xs last ts rest
open_to begins P Q to [] last ts rest r = r
open_to begins P Q to (x ∷ xs) last ts rest r =
    let behind = r.2 in
    let more = rows_to (Further P) (Further Q) (λ y us mid f. (f.0, f.1, to y f.0 mid f.2)) xs r.0 behind.0 behind.1 in
    (r.0, to x ts r.0 r.1, (behind.0, more, behind.2))

module _ (budget : ℕ) (within : ExprWithin) (sound : SoundExprWithin budget within) where
  -- ---- fields

  abbrev FieldHeld : FieldExpr × ℕ → Tokens → Tokens → Type 0
  FieldHeld = Held about_field_expr budget

  abbrev form_of_field : FieldExpr → Form
  form_of_field f = (about_field_expr f).form

  module _ (ts : Tokens) (attrs : List Attr) (at : Tokens)
      (rows : (depth : ℕ) → Rows (GoodAt (about_attr false) depth) attrs ts at) (t : InText at) where
    -- What is spelled after attributes is spelled with them.
    led : (f : Form) (depth : ℕ) (rest : Tokens) → Spells f depth at rest
        → Spells (behind_attrs (map attr_form attrs) f) depth ts rest
    led f depth rest s =
        behind_attrs_spelled (map attr_form attrs) f depth ts at rest (attrs_spelled false depth attrs ts at (rows depth)).0 s

    are : are_attrs false attrs ≡ true
    are = (attrs_spelled false 0 attrs ts at (rows 0)).1

    named_held : (n : Name) (mid : Tokens) → name at ≡ Some (n, mid) → (x : FieldExpr × ℕ) (rest : Tokens)
        → named_field within attrs n mid ≡ Some (x, rest) → Out FieldHeld ts (x, rest)
    named_held n mid e x rest h =
        let raw = n.raw in
        let text = n.text in
        let i = name_sound at n mid e in
        let left = bit_texts (Fixed (word_kind raw) text) at mid i.0 t in
        let names = and_from (are_attrs false attrs) (is_name raw text) are i.1 in
        elim (chosen (is_op (codes ":") mid) _ _ _ h) [
          | inl g ↦
              let after = drop 1 mid in
              let o : IsOperator (codes ":") mid after = (g.0, refl) in
              let y = bind_some (within.exprs FREE after) _ _ g.1 in
              let s = sound.exprs FREE after y.0.0 y.0.1 (bit_texts (Operator (codes ":")) mid after o left) y.1 in
              let inner = y.0.0.0 in
              let need = y.0.0.1 in
              let end = y.0.1 in
              let told = about_expr inner in
              let behind : Form = Piece colon (Part told.form Done) in
              let leaf = leaf_spelled raw text behind need at mid end i.0 (after, (after, o, (after, refl, refl)), (end, s.0.1, refl)) in
              let F = field_facts (FieldExpr-F.Named attrs n told) in
              let there : Stands F need ts end = (
                led (leaf_of raw text behind) need end leaf,
                and_from (are_attrs false attrs && is_name raw text) (placed told FREE) names s.0.2,
                refl,
              ) in
              same_some (Out FieldHeld ts) ((field.Named attrs n inner, need), end) (x, rest) y.2 (
                held (about_field_expr (field.Named attrs n inner)) F budget need ts end (field_expr_named_is attrs n inner) s.0.0
                    there,
                s.1,
              )
          | inr g ↦
              let F = field_facts (FieldExpr-F.Short attrs n) in
              let leaf = leaf_spelled raw text Done 0 at mid mid i.0 refl in
              let there : Stands F 0 ts mid = (led (leaf_of raw text Done) 0 mid leaf, names, refl) in
              same_some (Out FieldHeld ts) ((field.Short attrs n, 0), mid) (x, rest) g.1
              (held (about_field_expr (field.Short attrs n)) F budget 0 ts mid (field_expr_short_is attrs n) (omega arith) there, left)
        ]

    field_by_sound : (o : Got (List ℕ)) → index at ≡ o → (x : FieldExpr × ℕ) (rest : Tokens)
        → field_by within attrs o at ≡ Some (x, rest) → Out FieldHeld ts (x, rest)
    field_by_sound None e x rest h =
        let n = bind_some (name at) _ _ h in named_held n.0.0 n.0.1 n.1 x rest n.2
    field_by_sound (Some n) e x rest h =
        let i = index_sound at n.0 n.1 t e in
        let c = i.0 in
        let y = bind_some (within.exprs FREE n.1) _ _ h in
        let s = sound.exprs FREE n.1 y.0.0 y.0.1 i.1 y.1 in
        let inner = y.0.0.0 in
        let need = y.0.0.1 in
        let end = y.0.1 in
        let told = about_expr inner in
        let behind : Form = Piece colon (Part told.form Done) in
        let F = field_facts (FieldExpr-F.Numbered attrs n.0 told) in
        let form = led (Leaf kind.Int n.0 behind) need end
        (c.0, c.1, (n.1, (n.1, c.2, (n.1, refl, refl)), (end, s.0.1, refl))) in
        let there : Stands F need ts end = (form, and_from (are_attrs false attrs) (placed told FREE) are s.0.2, refl) in
        same_some (Out FieldHeld ts) ((field.Numbered attrs n.0 inner, need), end) (x, rest) y.2 (
          held (about_field_expr (field.Numbered attrs n.0 inner)) F budget need ts end (field_expr_numbered_is attrs n.0 inner)
              s.0.0 there,
          s.1,
        )

  field_sound : SoundStep (one_field within) FieldHeld
  unfolding one_field
  field_sound ts x rest t h =
      let a = bind_some (attributes false ts) _ _ h in
      let r = attributes_sound false 0 ts a.0.0 a.0.1 t a.1 in
      field_by_sound ts a.0.0 a.0.1 (λ depth. (attributes_sound false depth ts a.0.0 a.0.1 t a.1).0) r.1 (index a.0.1) refl x rest
      a.2

  -- ---- the base

  -- A base stands there after fields that have ended, or nothing.
  abbrev BaseHeld : Bool → Option (Option Expr) → ℕ → Tokens → Tokens → Type 0
  BaseHeld last None need ts rest = ts ≡ rest
  BaseHeld last (Some None) need ts rest = (last ≡ true) × IsOperator (codes "..") ts rest
  BaseHeld last (Some (Some x)) need ts rest =
      (last ≡ true) × (mid : Tokens) × IsOperator (codes "..") ts mid × ExprHeld FREE budget (x, need) mid rest

  base_sound : (last : Bool) (ts : Tokens) (b : Option (Option Expr) × ℕ) (rest : Tokens) → InText ts
      → base within last ts ≡ Some (b, rest)
      → Out (λ (y : Option (Option Expr) × ℕ). BaseHeld last y.0 y.1) ts (b, rest)
  unfolding base
  base_sound last ts b rest t h =
      let P : Option (Option Expr) × ℕ → Tokens → Tokens → Type 0 = λ y. BaseHeld last y.0 y.1 in
      elim (chosen (last && is_op (codes "..") ts) _ _ _ h) [
        | inl g ↦
            let both = and_parts last (is_op (codes "..") ts) g.0 in
            let at = drop 2 ts in
            let o : IsOperator (codes "..") ts at = (both.1, refl) in
            let left = bit_texts (Operator (codes "..")) ts at o t in
            elim (chosen (first (closes Brace) at) _ _ _ g.1) [
              | inl f ↦ same_some (Out P ts) ((Some None, 0), at) (b, rest) f.1 ((both.0, o), left)
              | inr f ↦
                  let x = bind_some (within.exprs FREE at) _ _ f.1 in
                  let s = sound.exprs FREE at x.0.0 x.0.1 left x.1 in
                  same_some (Out P ts) ((Some (Some x.0.0.0), x.0.0.1), x.0.1) (b, rest) x.2 ((both.0, at, o, s.0), s.1)
            ]
        | inr g ↦ same_some (Out P ts) ((None, 0), ts) (b, rest) g.1 (refl, t)
      ]

  -- ---- struct literals

  abbrev facts_of_base : Option (Option Expr) → Option (Option ExprFacts)
  facts_of_base b = option_map (option_map about_expr) b

  base_good : (last : Bool) (b : Option (Option Expr)) (need : ℕ) (ts rest : Tokens) → BaseHeld last b need ts rest
      → base_placed (facts_of_base b) ≡ true
  base_good last None need ts rest k = refl
  base_good last (Some None) need ts rest k = refl
  base_good last (Some (Some x)) need ts rest k = k.3.2

  -- Fields and a base are spelled in braces.
  inside_spelled : (most : ℕ) (fs : List FieldExpr) (last : Bool) (b : Option (Option Expr)) (need : ℕ) (ts inside end at rest : Tokens)
      → need ≤ most → IsBit (opener Brace) ts inside → OpenBy begins_field (λ f. SpelledAt most (form_of_field f)) fs last inside end
      → BaseHeld last b need end at → IsBit (closer Brace) at rest
      → Spells (braces (not (is_some (facts_of_base b))) (map form_of_field fs ++ base_form (facts_of_base b))) most ts rest
  inside_spelled most fs last None need ts inside end at rest le o r k c =
      let shut : IsBit (closer Brace) end rest = subst (λ us. IsBit (closer Brace) us rest) (sym k) c in
      let list = braces_by form_of_field most fs ts inside rest o
      (open_shut begins_field (λ f. SpelledAt most (form_of_field f)) (closer Brace) fs last inside end rest r shut) in
      subst (λ es. Spells (braces true es) most ts rest) (sym (append-nil (map form_of_field fs))) list
  inside_spelled most fs last (Some None) need ts inside end at rest le o r k c =
      last_list form_of_field _ most fs last ts inside end at rest o r k.0 (bit_piece (Operator (codes "..")) most end at k.1) c
  inside_spelled most fs last (Some (Some x)) need ts inside end at rest le o r k c =
      let told = about_expr x in
      let base_is : Spells (Piece (Operator (codes "..") ∷ []) (Part told.form Done)) most end at =
      (k.1, (k.1, k.2, refl), (at, raise told.form need most k.1 at le k.3.1, refl)) in
      last_list form_of_field (Piece (Operator (codes "..") ∷ []) (Part told.form Done)) most fs last ts inside end at rest o r k.0
      base_is c

  module _ (no_struct starts : Bool) where
    abbrev Left : Expr × ℕ → Tokens → Tokens → Type 0
    Left = LeftHeld no_struct starts

    struct_held : (p : Path × ℕ) (fs : List (FieldExpr × ℕ)) (last : Bool) (b : Option (Option Expr) × ℕ)
        (begun ts inside end at rest : Tokens) → Held (path_told Code) budget p begun ts → IsBit (opener Brace) ts inside
        → OpenBy begins_field FieldHeld fs last inside end → BaseHeld last b.0 b.1 end at → IsBit (closer Brace) at rest
        → Left (expr.Struct p.0 (nodes fs) b.0, suc (max p.1 (max (deepest fs) b.1))) begun rest
    struct_held p fs last b begun ts inside end at rest k o r base_is c =
        let gs = nodes fs in
        let most = max p.1 (max (deepest fs) b.1) in
        let path = path_told Code p.0 in
        let told = map about_field_expr gs in
        let bases = facts_of_base b.0 in
        let parts = open_held begins_field budget form_of_field (λ f. (about_field_expr f).good) FieldHeld
        (λ f us mid s. (s.0, s.1.0, s.1.1)) fs last inside end r in
        let raised = open_to begins_field (λ f. SpelledAt (deepest fs) (form_of_field f)) (λ f. SpelledAt most (form_of_field f))
        (λ f us mid s. raise (form_of_field f) (deepest fs) most us mid (omega arith) s) gs last inside end parts.0 in
        let list = inside_spelled most gs last b.0 b.1 ts inside end at rest (omega arith) o raised base_is c in
        let same = forms_of about_field_expr gs in
        let spelled : Spells (struct_form p.0 told bases) most begun rest = (
          ts,
          raise path.form p.1 most begun ts (omega arith) k.1.0,
          subst (λ es. Spells (braces (not (is_some bases)) (es ++ base_form bases)) most ts rest) (sym same) list,
        ) in
        let good = and_from (path.good && all_good told) (base_placed bases)
        (and_from path.good (all_good told) k.1.1 (goods_of about_field_expr gs ∙ parts.2))
        (base_good last b.0 b.1 end at base_is) in
        made no_struct starts (about_expr (expr.Struct p.0 gs b.0)) (Expr-F.Expr::Struct p.0 told bases) most begun rest
        (expr_struct_is p.0 gs b.0) spelled good refl

    struct_sound : (p : Path × ℕ) (begun ts : Tokens) → Held (path_told Code) budget p begun ts → IsBit (opener Brace) ts (tail ts)
        → InText ts → (x : Expr × ℕ) (rest : Tokens) → struct_expr within p (tail ts) ≡ Some (x, rest) → Out Left begun (x, rest)
    unfolding struct_expr
    struct_sound p begun ts k o t x rest h =
        let inside = tail ts in
        let fs = bind_some (open_elements begins_field (one_field within) inside) _ _ h in
        let b = bind_some (base within fs.0.0.1 fs.0.1) _ _ fs.2 in
        let c = bind_some (passed (closes Brace) b.0.1) _ _ b.2 in
        let r = open_sound begins_field (one_field within) FieldHeld (λ us f end i e g. field_sound us f end i g) inside fs.0.0.0
        fs.0.0.1 fs.0.1 (bit_texts (opener Brace) ts inside o t) fs.1 in
        let base_is = base_sound fs.0.0.1 fs.0.1 b.0.0 b.0.1 r.1 b.1 in
        let shut = closer_passed_is Brace b.0.1 c.0 base_is.1 c.1 in
        same_some (Out Left begun)
        ((expr.Struct p.0 (nodes fs.0.0.0) b.0.0.0, suc (max p.1 (max (deepest fs.0.0.0) b.0.0.1))), c.0) (x, rest) c.2 (
          struct_held p fs.0.0.0 fs.0.0.1 b.0.0 begun ts inside fs.0.1 b.0.1 c.0 k o r.0 base_is.0 shut,
          bit_texts (closer Brace) b.0.1 c.0 shut base_is.1,
        )

    -- ---- paths

    path_follows : (b c : Bool) → b ≡ false → c ≡ true → (not b && true && true && true && c) ≡ true
    path_follows false true e f = refl
    path_follows true c e f = absurd (cc e)
    path_follows false false e f = absurd (cc f)

    -- a path, or a struct literal
    pub path_head : SoundStep (path_expr within no_struct) Left
    unfolding path_expr
    path_head ts x rest t h =
        let p = bind_some (path within.kinds Code ts) _ _ h in
        let s = path_sound budget within.kinds sound.kinds Code ts p.0.0 p.0.1 t p.1 in
        let mid = p.0.1 in
        let told = path_told Code p.0.0.0 in
        elim (chosen (not no_struct && first (opens Brace) mid) _ _ _ p.2) [
          | inl g ↦
              let opened = (and_parts (not no_struct) (first (opens Brace) mid) g.0).1 in
              struct_sound p.0.0 ts mid s.0 (opens_one Brace mid s.1 opened) s.1 x rest g.1
          | inr g ↦ elim (chosen (is_op (codes "!") mid) _ _ _ g.1) [
            | inl f ↦ absurd (cc f.1)
            | inr f ↦
                let refused = and_from (not (is_op (codes "!") mid)) (may_follow told.refuses mid) (ap not f.0) s.0.1.2 in
                same_some (Out Left ts) ((expr.Path p.0.0.0, suc p.0.0.1), mid) (x, rest) f.1 (
                  made no_struct starts (about_expr (expr.Path p.0.0.0)) (Expr-F.Path p.0.0.0) p.0.0.1 ts mid
                      (expr_path_is p.0.0.0) s.0.1.0 s.0.1.1
                      (path_follows (not no_struct && first (opens Brace) mid) (may_follow (OfBang ∷ told.refuses) mid) g.0 refused),
                  s.1,
                )
          ]
        ]
