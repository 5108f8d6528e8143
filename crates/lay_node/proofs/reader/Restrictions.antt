-- Types that would restrict a `pub` before them: `(crate)`, `(self)` and `(super)`, which are read as what restricts it.
use Rattle.std.proofs.Common.{◌≡◌, ℕ, suc, true, false, not, ◌||◌, List, [], ◌∷◌, ◌⊎◌, inl, inr, codes, Option, Some, None, refl, sym, ap, subst, ◌∙◌, arith}
use Rattle.std.specs.Str.{bytes_eq}
use Rattle.std.proofs.lemmas.Bool.{and_parts, false_from_ne_true, not-true, or_cases, or_right}
use Rattle.lay_token.specs.Operators.{op_at}
use Rattle.lay_token.proofs.Deciding.{bytes_same}
use Rattle.lay_piece.specs.Forms.{opening, closing}
use Rattle.lay_piece.specs.declared.kind.Delim.TheVariants.{Paren}
use Rattle.lay_piece.specs.declared.kind.Kind.TheVariants.{Ident, Opener, Closer}
use Rattle.lay_token.specs.declared.token.Token.{Token}
use Rattle.lay_form.specs.Form.{Form, Done, Piece, Part, opener, closer}
use Rattle.lay_form.specs.Notation.{piece}
use Rattle.lay_form.specs.Spelled.{IsOne, Spells}
use Rattle.lay_node.specs.Ahead.{Tokens, first, is_ident, is_keyword, opens, closes}
use Rattle.lay_node.specs.Begins.{lead_at}
use Rattle.lay_node.specs.nodes.Fields.{is_restricting_path, is_restriction, is_restriction_in, restricting_word}
use Rattle.lay_node.specs.nodes.Types.{TypeFacts, PathFacts, about_path, about_type, good_at, lone_word}
use Rattle.lay_node.specs.nodes.Vis.{restricts, restricts_in, restricts_to}
use Rattle.lay_node.specs.reader.Loops.{repeat, repeat_from}
use Rattle.lay_node.specs.reader.SimplePath.{simple_path}
use Rattle.lay_node.specs.reader.Types.{args_by, chain, paren_type, path, path_type, segment, type_at, within}
use Rattle.lay_node.specs.reader.Words as words
use Rattle.lay_node.specs.declared.token.Word.{Word}
use Rattle.lay_node.specs.declared.types.Arg.{Arg}
use Rattle.lay_node.specs.declared.types.Arg.TheOpen.{Ty-F}
use Rattle.lay_node.specs.declared.types.Arg.TheViews as views
use Rattle.lay_node.specs.declared.types.Args.{Args}
use Rattle.lay_node.specs.declared.types.Args.TheVariants as args
use Rattle.lay_node.specs.declared.types.Bound.{Bound}
use Rattle.lay_node.specs.declared.types.Constraint.{Constraint}
use Rattle.lay_node.specs.declared.types.FuncParam.{FuncParam}
use Rattle.lay_node.specs.declared.types.Path.{Path}
use Rattle.lay_node.specs.declared.types.PathStart.{PathStart}
use Rattle.lay_node.specs.declared.types.PathStart.TheVariants as start
use Rattle.lay_node.specs.declared.types.PathStyle.TheVariants.{Kind as InKind}
use Rattle.lay_node.specs.declared.types.Ty.{Ty}
use Rattle.lay_node.specs.declared.types.Ty.TheVariants as ty
use Rattle.lay_node.specs.declared.types.TypePlace.TheVariants.{Bounds}
use Rattle.lay_node.proofs.Fronts.{closer_kind, ident_kind, opener_kind}
use Rattle.lay_node.proofs.Parts.{bit_alone, leaf_parts, part_alone, piece_bit, word_kind}
use Rattle.lay_node.proofs.Steps.{read_same}
use Rattle.lay_node.proofs.nodes.TypesLaws.{type_paren_is, type_path_is}
use Rattle.lay_node.proofs.reader.PatternsSoundBinds.{lone_path}
use Rattle.lay_node.proofs.reader.TypesBegins.{opened}
use Rattle.lay_node.proofs.reader.TypesComplete.{quiet_fits}
use Rattle.lay_node.proofs.reader.TypesCompleteKinds.{within_reads}
use Rattle.lay_node.proofs.reader.TypesFronts.{Quiet}
use Rattle.lay_node.proofs.reader.Vis.{restricts_there}

-- ---- such a type is spelled by what restricts

-- the word of such a type
record RestrictingWord (o : Option Word) : Type 0 where
  word : Word
  there : o ≡ Some word
  plain : word.raw ≡ false
  one : (word.text ≡ codes "crate") ⊎ ((word.text ≡ codes "self") ⊎ (word.text ≡ codes "super"))

restricting : (o : Option Word) → restricting_word o ≡ true → RestrictingWord o
restricting None h = absurd (cc)
restricting (Some w) h =
    let p = and_parts (not w.raw) _ h in
    record { word = w; there = refl; plain = not-true w.raw p.0; one = which (or_cases (bytes_eq w.text (codes "crate")) _ p.1) }
  where
    which : (bytes_eq w.text (codes "crate") ≡ true) ⊎ ((bytes_eq w.text (codes "self") || bytes_eq w.text (codes "super")) ≡ true)
        → (w.text ≡ codes "crate") ⊎ ((w.text ≡ codes "self") ⊎ (w.text ≡ codes "super"))
    which (inl e) = inl (bytes_same w.text (codes "crate") e)
    which (inr e) = elim (or_cases (bytes_eq w.text (codes "self")) (bytes_eq w.text (codes "super")) e) [
      | inl f ↦ inr (inl (bytes_same w.text (codes "self") f))
      | inr f ↦ inr (inr (bytes_same w.text (codes "super") f))
    ]

-- a path that is one word, as a type
word_there : (p : Path) (w : Word) (depth : ℕ) (ts rest : Tokens) → lone_word p ≡ Some w → Spells (about_type (ty.Path p)).told.form depth ts rest
    → IsOne (word_kind w.raw) w.text ts rest
word_there p w depth ts rest e s =
    let i = opened (about_path p InKind).form depth ts rest (subst (λ (F : TypeFacts). Spells F.told.form depth ts rest) (type_path_is p) s) in
    let f = subst (λ (F : PathFacts). Spells (F InKind).form i.0 ts rest) (lone_path p w e) i.2 in
    let leaf = leaf_parts w.raw w.text (Part Done Done) i.0 f.0 rest f.2 in
    let one : IsOne (word_kind w.raw) w.text f.0 rest = subst (λ us. IsOne (word_kind w.raw) w.text f.0 us) (part_alone Done i.0 leaf.0 rest leaf.2) leaf.1 in
    subst (λ us. IsOne (word_kind w.raw) w.text us rest) (sym f.1) one

-- What a restriction is, by its kinds.
abbrev Layer : Type 0
Layer = Ty-F Arg Args Bound Constraint PathStart Ty FuncParam Path

paren_layer : (layer : Layer) → is_restriction_in layer ≡ true → (y : Ty) × (layer ≡ Ty-F.Paren y) × (is_restricting_path (views.out-Ty y) ≡ true)
paren_layer (Ty-F.Paren y) h = (y, refl, h)
paren_layer _ h = absurd (cc)

path_layer : (layer : Layer) → is_restricting_path layer ≡ true → (p : Path) × (layer ≡ Ty-F.Path p) × (restricting_word (lone_word p) ≡ true)
path_layer (Ty-F.Path p) h = (p, refl, h)
path_layer _ h = absurd (cc)

record IsRestriction (x : Ty) : Type 0 where
  path : Path
  is : x ≡ ty.Paren (ty.Path path)
  word : RestrictingWord (lone_word path)

restriction_is : (x : Ty) → is_restriction x ≡ true → IsRestriction x
restriction_is x h =
    let a = paren_layer (views.out-Ty x) h in
    let b = path_layer (views.out-Ty a.0) a.2 in
    let inner : a.0 ≡ ty.Path b.0 = sym (views.roll-out-Ty a.0) ∙ ap views.roll-Ty b.1 ∙ views.rolls-Path b.0 in
    record {
      path = b.0;
      is = sym (views.roll-out-Ty x) ∙ ap views.roll-Ty a.1 ∙ views.rolls-Paren a.0 ∙ ap (λ (y : Ty). ty.Paren y) inner;
      word = restricting (lone_word b.0) b.2;
    }

restricts_by : (text : List ℕ) (ts : Tokens) → (text ≡ codes "crate") ⊎ ((text ≡ codes "self") ⊎ (text ≡ codes "super")) → restricts_to text ts ≡ true
    → restricts ts ≡ true
restricts_by text ts (inl e) r = let t = subst (λ w. restricts_to w ts ≡ true) e r in rw t refl
restricts_by text ts (inr (inl e)) r =
    let t = subst (λ w. restricts_to w ts ≡ true) e r in or_right (restricts_to (codes "crate") ts) _ (rw t refl)
restricts_by text ts (inr (inr e)) r =
    let t = subst (λ w. restricts_to w ts ≡ true) e r in
    or_right (restricts_to (codes "crate") ts) _ (or_right (restricts_to (codes "self") ts) _ (rw t refl))

pub restriction_there : (x : Ty) (depth : ℕ) (ts rest : Tokens) → Spells (about_type x).told.form depth ts rest → is_restriction x ≡ true → restricts ts ≡ true
restriction_there x depth ts rest s h =
    let r = restriction_is x h in
    let w = r.word.word in
    let y = ty.Path r.path in
    let f : Form = Piece (opener Paren ∷ []) (Part (about_type y).told.form (piece (closer Paren ∷ []))) in
    let t = subst (λ (z : Ty). Spells (about_type z).told.form depth ts rest) r.is s in
    let i = opened f depth ts rest (subst (λ (F : TypeFacts). Spells F.told.form depth ts rest) (type_paren_is y) t) in
    let q = i.2 in
    let o : IsOne (Opener Paren) (opening Paren ∷ []) ts q.0 = bit_alone (opener Paren) ts q.0 q.1 in
    let e = q.2 in
    let c : IsOne (Closer Paren) (closing Paren ∷ []) e.0 rest = piece_bit (closer Paren) i.0 e.0 rest e.2 in
    let one = subst (λ raw. IsOne (word_kind raw) w.text q.0 e.0) r.word.plain (word_there r.path w i.0 q.0 e.0 r.word.there e.1) in
    restricts_by w.text ts r.word.one (restricts_there w.text ts rest (q.0, e.0, o, one, c))

-- ---- what restricts is no other type

-- the path that one word is
abbrev word_path : List ℕ → Path
word_path text = record { start = start.Local; segments = (record { raw = false; text = text }, args.None) ∷ [] }

abbrev paren_of : List ℕ → Ty
paren_of text = ty.Paren (ty.Path (word_path text))

abbrev tokens_of : Token → Token → Token → List ℕ → Tokens → Tokens
tokens_of a b c text rest =
    record a { kind = Opener Paren } ∷ (record b { kind = Ident; text = text } ∷ (record c { kind = Closer Paren } ∷ rest))

crate_read : (a b c : Token) (rest : Tokens) (budget : ℕ)
    → type_at Bounds (suc (suc budget)) (tokens_of a b c (codes "crate") rest) ≡ Some ((paren_of (codes "crate"), 2), rest)
unfolding within lead_at paren_type path_type simple_path path chain repeat repeat_from segment args_by words.word op_at
crate_read a b c rest budget = refl

self_read : (a b c : Token) (rest : Tokens) (budget : ℕ)
    → type_at Bounds (suc (suc budget)) (tokens_of a b c (codes "self") rest) ≡ Some ((paren_of (codes "self"), 2), rest)
unfolding within lead_at paren_type path_type simple_path path chain repeat repeat_from segment args_by words.word op_at
self_read a b c rest budget = refl

super_read : (a b c : Token) (rest : Tokens) (budget : ℕ)
    → type_at Bounds (suc (suc budget)) (tokens_of a b c (codes "super") rest) ≡ Some ((paren_of (codes "super"), 2), rest)
unfolding within lead_at paren_type path_type simple_path path chain repeat repeat_from segment args_by words.word op_at
super_read a b c rest budget = refl

in_unread : (a b : Token) (rest : Tokens) (budget : ℕ)
    → type_at Bounds (suc (suc budget)) (record a { kind = Opener Paren } ∷ (record b { kind = Ident; text = codes "in" } ∷ rest)) ≡ None
unfolding within lead_at paren_type
in_unread a b rest budget = refl

-- Three tokens that restrict, written out.
written : (text : List ℕ) (ts : Tokens) → restricts_to text ts ≡ true → (a b c : Token) × (rest : Tokens) × (ts ≡ tokens_of a b c text rest)
written text [] h = absurd (cc)
written text (a ∷ []) h = let p = (and_parts (first (opens Paren) (a ∷ [])) false h).1 in absurd (cc)
written text (a ∷ (b ∷ [])) h =
    let p = and_parts (opens Paren a) _ h in let q = (and_parts (is_keyword text b) false p.1).1 in absurd (cc)
written text (a ∷ (b ∷ (c ∷ rest))) h =
    let p = and_parts (opens Paren a) _ h in
    let q = and_parts (is_keyword text b) (closes Paren c) p.1 in
    let w = and_parts (is_ident b.kind) (bytes_eq b.text text) q.0 in
    let x = opener_kind Paren a.kind p.0 in
    let y = ident_kind b.kind w.0 in
    let z = closer_kind Paren c.kind q.1 in
    (a, b, c, rest, (λ i. record a { kind = x i } ∷ (record b { kind = y i; text = bytes_same b.text text w.1 i } ∷ (record c { kind = z i } ∷ rest))))

is_paren_of : (text : List ℕ) → restricting_word (Some (record { raw = false; text = text })) ≡ true → is_restriction (paren_of text) ≡ true
is_paren_of text h =
    let lone : lone_word (word_path text) ≡ Some (record { raw = false; text = text }) = rw (views.outs-Local, views.outs-None) refl in
    rw (views.outs-Paren, views.outs-Path, lone) h

-- A type that is read there is one of them.
pub restricts_not : (x : Ty) (depth : ℕ) (ts rest : Tokens) → Spells (about_type x).told.form depth ts rest → good_at Bounds (about_type x) ≡ true
    → Quiet rest → is_restriction x ≡ false → restricts ts ≡ false
restricts_not x depth ts rest s g q n =
    let reads = within_reads depth (suc (suc depth)) (omega arith) in
    let r = reads.types Bounds x ts rest s g (quiet_fits Bounds (about_type x) rest q) in
    let other : (text : List ℕ) → ((a b c : Token) (more : Tokens) → type_at Bounds (suc (suc depth)) (tokens_of a b c text more) ≡ Some ((paren_of text, 2), more))
    → restricting_word (Some (record { raw = false; text = text })) ≡ true → restricts_to text ts ≡ false =
    λ text read h. false_from_ne_true (restricts_to text ts) (λ e.
    let w = written text ts e in
    let both = sym (ap (type_at Bounds (suc (suc depth))) w.4 ∙ read w.0 w.1 w.2 w.3) ∙ r.2 in
    let same = (read_same (paren_of text) x 2 r.0 w.3 rest both).0 in
    let yes = subst (λ (y : Ty). is_restriction y ≡ true) same (is_paren_of text h) in
    absurd (cc)) in
    let unread : restricts_in ts ≡ false = false_from_ne_true (restricts_in ts) (λ e. absurd (in_none ts ((x, r.0), rest) e r.2)) in
    rw (
      other (codes "crate") (λ a b c more. crate_read a b c more depth) refl,
      other (codes "self") (λ a b c more. self_read a b c more depth) refl,
      other (codes "super") (λ a b c more. super_read a b c more depth) refl,
      unread,
    ) refl
  where
    in_none : (ts : Tokens) (y : (Ty × ℕ) × Tokens) → restricts_in ts ≡ true → type_at Bounds (suc (suc depth)) ts ≡ Some y → ⊥
    in_none [] y e h = absurd (cc)
    in_none (a ∷ []) y e h = let p = (and_parts (opens Paren a) false e).1 in absurd (cc)
    in_none (a ∷ (b ∷ more)) y e h =
        let p = and_parts (opens Paren a) _ e in
        let q = and_parts (is_keyword (codes "in") b) _ p.1 in
        let w = and_parts (is_ident b.kind) (bytes_eq b.text (codes "in")) q.0 in
        let x = opener_kind Paren a.kind p.0 in
        let z = ident_kind b.kind w.0 in
        let ts : a ∷ (b ∷ more) ≡ record a { kind = Opener Paren } ∷ (record b { kind = Ident; text = codes "in" } ∷ more) =
        λ i. record a { kind = x i } ∷ (record b { kind = z i; text = bytes_same b.text (codes "in") w.1 i } ∷ more) in
        let none : None ≡ Some y = sym (ap (type_at Bounds (suc (suc depth))) ts ∙ in_unread a b more depth) ∙ h in
        absurd (cc)
