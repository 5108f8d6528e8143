-- At each depth bytes have one answer at most: they read to one file, or have one refusal, and never both.
use Rattle.std.proofs.Common.{◌≡◌, ◌<◌, ◌≤◌, ℕ, List, [], ◌∷◌, length, drop, Some, None, Ok, Err, inl, inr, sym, ap, ◌∙◌, subst, arith, length-drop}
use Rattle.std.proofs.Math.Seq.{drop-length}
use Rattle.std.proofs.lemmas.Bool.{cases_order}
use Rattle.lay_token.specs.Source.{Source, source}
use Rattle.lay_token.specs.Lexes.{Lexes, NoTokenAt}
use Rattle.lay_token.specs.declared.token.Token.{Token}
use Rattle.lay_text.specs.declared.refusal.Refusal.{Refusal}
use Rattle.lay_text.specs.declared.refusal.Refusal.TheVariants.{NotUtf8, NoToken, Unbalanced, NoItem}
use Rattle.lay_token.specs.Delimiters.{Balanced, UnbalancedAt}
use Rattle.lay_token.proofs.Unique as unique
use Rattle.lay_nest.proofs.Machine.{place, place-unbalanced, run-balanced}
use Rattle.lay_form.specs.Spelled.{Spells}
use Rattle.lay_code.specs.Reading.{NoItemAt, ReadsAt, IsRefusedAt, SpellsFile, SpellsFront}
use Rattle.lay_code.specs.Written.{Written}
use Rattle.lay_code.specs.nodes.File.{form_of_file}
use Rattle.lay_code.specs.declared.file.File.{File}
use Rattle.lay_code.proofs.reader.File.{file_unique}

-- A text has one source, and its tokens are one list.
pub same_source : (bytes : List ℕ) (a b : Source) → source bytes ≡ Ok a → source bytes ≡ Ok b → a ≡ b
same_source bytes a b e h = cc

no_source : {P : Type 0} (bytes : List ℕ) (a : Source) (r : Refusal) → source bytes ≡ Ok a → source bytes ≡ Err r → P
no_source bytes a r e h = cc

lexes_of : (bytes : List ℕ) (a b : Source) (ts : List Token) → source bytes ≡ Ok a → source bytes ≡ Ok b
    → Lexes a.text a.start ts → Lexes b.text b.start ts
lexes_of bytes a b ts e h l = subst (λ (s : Source). Lexes s.text s.start ts) (same_source bytes a b e h) l

pub same_tokens : (bytes : List ℕ) (a b : Source) (ts us : List Token) → source bytes ≡ Ok a → source bytes ≡ Ok b
    → Lexes a.text a.start ts → Lexes b.text b.start us → ts ≡ us
same_tokens bytes a b ts us e h l m = unique.lexes_once b.text b.start ts us (lexes_of bytes a b ts e h l) m

token_missing : (bytes : List ℕ) (a b : Source) (ts : List Token) (at : ℕ) → source bytes ≡ Ok a → source bytes ≡ Ok b
    → Lexes a.text a.start ts → NoTokenAt b.text b.start at → ⊥
token_missing bytes a b ts at e h l m = unique.no_token_or_tokens b.text b.start at ts m (lexes_of bytes a b ts e h l)

unbalanced_once : (ts : List Token) (at other : ℕ) → UnbalancedAt ts at → UnbalancedAt ts other → at ≡ other
unbalanced_once ts at other u v =
    let same : Some at ≡ Some other = sym (place-unbalanced ts at u) ∙ place-unbalanced ts other v in cc

unbalanced_or_balanced : (ts : List Token) (at : ℕ) → UnbalancedAt ts at → Balanced ts → ⊥
unbalanced_or_balanced ts at u b =
    let both : Some at ≡ None = sym (place-unbalanced ts at u) ∙ ap place (run-balanced [] ts b) in cc

-- Bytes read to one file.
pub one_file : {depth : ℕ} (bytes : List ℕ) (file other : File) → ReadsAt depth bytes file → ReadsAt depth bytes other → other ≡ file
one_file {depth} bytes file other r s =
    let line : other.shebang ≡ file.shebang = sym s.shebang
    ∙ ap (λ (f : Source). f.shebang) (same_source bytes s.from r.from s.text r.text) ∙ r.shebang in
    let one : s.tokens ≡ r.tokens = same_tokens bytes s.from r.from s.tokens r.tokens s.text r.text s.lexes r.lexes in
    let spelled : SpellsFile depth other r.tokens = subst (SpellsFile depth other) one s.spells in
    file_unique depth other file r.tokens spelled.1 spelled.0.normal r.spells.1 r.spells.0.normal line

-- no bytes are balanced and unbalanced
balanced_or_not : (bytes : List ℕ) (from other : Source) (ts us : List Token) (at : ℕ) → source bytes ≡ Ok from
    → source bytes ≡ Ok other
    → Lexes from.text from.start ts → Lexes other.text other.start us → Balanced ts → UnbalancedAt us at → ⊥
balanced_or_not bytes from other ts us at e h l m b u =
    unbalanced_or_balanced us at u (subst Balanced (same_tokens bytes from other ts us e h l m) b)

-- Tokens that spell a file are a run of inner attributes and items by themselves, up to where none is left.
whole_front : (depth : ℕ) (tokens : List Token) (file : File) → SpellsFile depth file tokens → SpellsFront depth (length tokens) tokens
whole_front depth tokens file s =
    let behind : length tokens ≤ length tokens = omega arith in
    (behind, subst (λ us. (f : File) × Written f × Spells (form_of_file f) depth tokens us) (sym (drop-length tokens)) (file, s.0, s.1))

-- tokens after which a token stands are fewer than all
fewer : (count : ℕ) (tokens : List Token) (token : Token) (rest : List Token) → drop count tokens ≡ token ∷ rest
    → count < length tokens
fewer count tokens token rest e = omega (arith, sym (length-drop count tokens) ∙ ap length e)

-- no tokens spell a file and none
item_or_not : (depth : ℕ) (tokens : List Token) (file : File) (at : ℕ) → SpellsFile depth file tokens → NoItemAt depth tokens at → ⊥
item_or_not depth tokens file at s n =
    n.longest (length tokens) (fewer n.count tokens n.token n.rest n.behind) (whole_front depth tokens file s)

-- The longest run is one, and so is the place where it ends.
same_count : (depth : ℕ) (tokens : List Token) (at other : ℕ) (n : NoItemAt depth tokens at) (m : NoItemAt depth tokens other) → n.count ≡ m.count
same_count depth tokens at other n m = elim (cases_order n.count m.count) [
  | inl same ↦ same
  | inr differ ↦ elim differ [
    | inl less ↦ absurd (n.longest m.count less m.front)
    | inr more ↦ absurd (m.longest n.count more n.front)
  ]
]

no_item_once : (depth : ℕ) (tokens : List Token) (at other : ℕ) → NoItemAt depth tokens at → NoItemAt depth tokens other → at ≡ other
no_item_once depth tokens at other n m =
    let same : n.token ∷ n.rest ≡ m.token ∷ m.rest =
    sym n.behind ∙ ap (λ k. drop k tokens) (same_count depth tokens at other n m) ∙ m.behind in
    let one : n.token ≡ m.token = cc same in n.place ∙ ap (λ (t : Token). t.at) one ∙ sym m.place

-- no bytes are read and refused
pub never_both : {depth : ℕ} (bytes : List ℕ) (file : File) (refusal : Refusal) → ReadsAt depth bytes file
    → IsRefusedAt depth bytes refusal → ⊥
never_both {depth} bytes file (NotUtf8 at) r h = no_source bytes r.from (NotUtf8 at) r.text h
never_both {depth} bytes file (NoToken at) r h = token_missing bytes r.from h.0 r.tokens at r.text h.1 r.lexes h.2
never_both {depth} bytes file (Unbalanced at) r h =
    balanced_or_not bytes r.from h.0 r.tokens h.1 at r.text h.2 r.lexes h.3 r.balanced h.4
never_both {depth} bytes file (NoItem at) r h =
    item_or_not depth h.1 file at
    (subst (SpellsFile depth file) (same_tokens bytes r.from h.0 r.tokens h.1 r.text h.2 r.lexes h.3) r.spells) h.5

-- no bytes are refused twice
pub one_refusal : (depth : ℕ) (bytes : List ℕ) (r s : Refusal) → IsRefusedAt depth bytes r → IsRefusedAt depth bytes s → r ≡ s
one_refusal depth bytes (NotUtf8 a) (NotUtf8 b) h k = cc
one_refusal depth bytes (NotUtf8 a) (NoToken b) h k = no_source bytes k.0 (NotUtf8 a) k.1 h
one_refusal depth bytes (NotUtf8 a) (Unbalanced b) h k = no_source bytes k.0 (NotUtf8 a) k.2 h
one_refusal depth bytes (NotUtf8 a) (NoItem b) h k = no_source bytes k.0 (NotUtf8 a) k.2 h
one_refusal depth bytes (NoToken a) (NotUtf8 b) h k = no_source bytes h.0 (NotUtf8 b) h.1 k
one_refusal depth bytes (NoToken a) (NoToken b) h k =
    ap NoToken (unique.no_token_once k.0.text k.0.start a b
    (subst (λ (s : Source). NoTokenAt s.text s.start a) (same_source bytes h.0 k.0 h.1 k.1) h.2) k.2)
one_refusal depth bytes (NoToken a) (Unbalanced b) h k = absurd (token_missing bytes k.0 h.0 k.1 a k.2 h.1 k.3 h.2)
one_refusal depth bytes (NoToken a) (NoItem b) h k =
    absurd (token_missing bytes k.0 h.0 k.1 a k.2 h.1 k.3 h.2)
one_refusal depth bytes (Unbalanced a) (NotUtf8 b) h k = no_source bytes h.0 (NotUtf8 b) h.2 k
one_refusal depth bytes (Unbalanced a) (NoToken b) h k = absurd (token_missing bytes h.0 k.0 h.1 b h.2 k.1 h.3 k.2)
one_refusal depth bytes (Unbalanced a) (Unbalanced b) h k =
    ap Unbalanced (unbalanced_once k.1 a b
    (subst (λ (ts : List Token). UnbalancedAt ts a) (same_tokens bytes h.0 k.0 h.1 k.1 h.2 k.2 h.3 k.3) h.4) k.4)
one_refusal depth bytes (Unbalanced a) (NoItem b) h k =
    absurd (balanced_or_not bytes k.0 h.0 k.1 h.1 a k.2 h.2 k.3 h.3 k.4 h.4)
one_refusal depth bytes (NoItem a) (NotUtf8 b) h k = no_source bytes h.0 (NotUtf8 b) h.2 k
one_refusal depth bytes (NoItem a) (NoToken b) h k =
    absurd (token_missing bytes h.0 k.0 h.1 b h.2 k.1 h.3 k.2)
one_refusal depth bytes (NoItem a) (Unbalanced b) h k =
    absurd (balanced_or_not bytes h.0 k.0 h.1 k.1 b h.2 k.2 h.3 k.3 h.4 k.4)
one_refusal depth bytes (NoItem a) (NoItem b) h k =
    ap NoItem (no_item_once depth k.1 a b
    (subst (λ (ts : List Token). NoItemAt depth ts a) (same_tokens bytes h.0 k.0 h.1 k.1 h.2 k.2 h.3 k.3) h.5) k.5)
