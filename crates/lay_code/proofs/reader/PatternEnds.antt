-- What ends a pattern where code is read: `=`, `=>`, `;`, a bar, and the words `if` and `in`. What ends a type there.
use Rattle.std.proofs.Common.{◌≡◌, ℕ, true, false, List, [], ◌∷◌, codes, refl, sym, subst}
use Rattle.std.specs.Prelude.{◌==◌}
use Rattle.std.specs.Str.{bytes_eq}
use Rattle.lay_piece.specs.Forms.{opening}
use Rattle.lay_piece.specs.declared.kind.Delim.TheVariants.{Brace}
use Rattle.lay_piece.specs.declared.kind.Kind.TheVariants.{Ident, Punct, Opener}
use Rattle.lay_token.specs.Operators.{is_op}
use Rattle.lay_token.specs.declared.token.Token.{Token}
use Rattle.lay_form.specs.Spelled.{IsOne}
use Rattle.lay_node.specs.Ahead.{Tokens, first, is_keyword, is_opener}
use Rattle.lay_node.specs.Begins.{begins_span_end, is_path_lead, lead_at, lead_of_word}
use Rattle.lay_node.specs.Words.{is_literal}
use Rattle.lay_node.specs.nodes.Patterns.{PatFacts}
use Rattle.lay_node.proofs.Follow.{quiet_follows}
use Rattle.lay_node.proofs.Fronts.{one_front, one_no_op, op_test, other_op}
use Rattle.lay_node.proofs.reader.PatternsFronts.{Follows, free_quiet}
use Rattle.lay_node.proofs.reader.TypesFronts.{Free, Quiet, no_other_op, op_first, op_free}

-- an operator that begins nothing of the kind
op_follows : (c : ℕ) (cs : List ℕ) → bytes_eq (c ∷ cs) (codes "::") ≡ false → bytes_eq (c ∷ cs) (codes "!") ≡ false
    → bytes_eq (c ∷ cs) (codes "->") ≡ false → bytes_eq (c ∷ cs) (codes "<") ≡ false → bytes_eq (c ∷ cs) (codes "<<") ≡ false
    → bytes_eq (c ∷ cs) (codes "<-") ≡ false → bytes_eq (c ∷ cs) (codes "..") ≡ false → bytes_eq (c ∷ cs) (codes "..=") ≡ false
    → bytes_eq (c ∷ cs) (codes "@") ≡ false
    → ((t : Token) (more : List ℕ) (us : Tokens) → let ts : Tokens = record t { kind = Punct; text = c ∷ more } ∷ us in
    is_op (codes "::") ts ≡ false → begins_span_end ts ≡ false)
    → (x : PatFacts) (ts : Tokens) → is_op (c ∷ cs) ts ≡ true → Follows x ts
op_follows c cs colons bang arrow less shift take rest last at no_end x ts h =
    let f = op_first c cs ts h in
    let us : Tokens = record f.0 { kind = Punct; text = c ∷ f.2 } ∷ f.1 in
    let n : is_op (codes "::") us ≡ false =
    subst (λ vs. is_op (codes "::") vs ≡ false) f.3 (other_op (c ∷ cs) (codes "::") colons ts h) in
    let free = op_free (c ∷ cs) colons bang arrow less shift take ts h in
    let rename : first (is_keyword (codes "as")) ts ≡ false = rw f.3 refl in
    record {
      paren = free.paren;
      brace = op_test (is_opener Brace) (c ∷ cs) ts h;
      dots = rw (other_op (c ∷ cs) (codes "..") rest ts h, other_op (c ∷ cs) (codes "..=") last ts h) refl;
      span = λ e. subst (λ vs. begins_span_end vs ≡ false) (sym f.3) (no_end f.0 f.2 f.1 n);
      at = λ e. other_op (c ∷ cs) (codes "@") at ts h;
      refuses = quiet_follows x.told.refuses ts (free_quiet ts free rename);
    }

pub equals_follows : (x : PatFacts) (ts : Tokens) → is_op (codes "=") ts ≡ true → Follows x ts
unfolding lead_at
equals_follows = op_follows 61 [] refl refl refl refl refl refl refl refl refl (λ t more us n. rw n refl)

pub arrow_follows : (x : PatFacts) (ts : Tokens) → is_op (codes "=>") ts ≡ true → Follows x ts
unfolding lead_at
arrow_follows = op_follows 61 (codes ">") refl refl refl refl refl refl refl refl refl (λ t more us n. rw n refl)

-- a mark
mark_free : (c : ℕ) → (58 == c) ≡ false → (33 == c) ≡ false → (45 == c) ≡ false → (60 == c) ≡ false
    → (ts rest : Tokens) → IsOne Punct (c ∷ []) ts rest → Free ts
mark_free c colon bang minus less ts rest o = record {
  colons = no_other_op 58 (codes ":") c ts rest colon o;
  bang = no_other_op 33 [] c ts rest bang o;
  arrow = no_other_op 45 (codes ">") c ts rest minus o;
  args = rw (no_other_op 60 [] c ts rest less o, no_other_op 60 (codes "<") c ts rest less o, no_other_op 60 (codes "-") c ts rest less o) refl;
  paren = rw (one_front Punct (c ∷ []) ts rest o).1 refl;
}

mark_follows : (c : ℕ) → (58 == c) ≡ false → (33 == c) ≡ false → (45 == c) ≡ false → (60 == c) ≡ false → (46 == c) ≡ false → (64 == c) ≡ false
    → ((ts rest : Tokens) → IsOne Punct (c ∷ []) ts rest → is_op (codes "::") ts ≡ false → begins_span_end ts ≡ false)
    → (x : PatFacts) (ts rest : Tokens) → IsOne Punct (c ∷ []) ts rest → Follows x ts
mark_follows c colon bang minus less point at none x ts rest o =
    let f = (one_front Punct (c ∷ []) ts rest o).1 in
    let free = mark_free c colon bang minus less ts rest o in
    let rename : first (is_keyword (codes "as")) ts ≡ false = rw f refl in
    record {
      paren = free.paren;
      brace = rw f refl;
      dots = rw (no_other_op 46 (codes ".") c ts rest point o, no_other_op 46 (codes ".=") c ts rest point o) refl;
      span = λ e. none ts rest o free.colons;
      at = λ e. no_other_op 64 [] c ts rest at o;
      refuses = quiet_follows x.told.refuses ts (free_quiet ts free rename);
    }

pub semicolon_follows : (x : PatFacts) (ts rest : Tokens) → IsOne Punct (codes ";") ts rest → Follows x ts
unfolding lead_at
semicolon_follows = mark_follows 59 refl refl refl refl refl refl (λ ts rest o n.
    let f = one_front Punct (codes ";") ts rest o in
    let t : Token = record f.0 { kind = Punct; text = codes ";" } in
    let m : is_op (codes "::") (t ∷ rest) ≡ false = subst (λ us. is_op (codes "::") us ≡ false) f.1 n in
    rw f.1 (rw m refl))

pub bar_mark_follows : (x : PatFacts) (ts rest : Tokens) → IsOne Punct (codes "|") ts rest → Follows x ts
unfolding lead_at
bar_mark_follows = mark_follows 124 refl refl refl refl refl refl (λ ts rest o n.
    let f = one_front Punct (codes "|") ts rest o in
    let t : Token = record f.0 { kind = Punct; text = codes "|" } in
    let m : is_op (codes "::") (t ∷ rest) ≡ false = subst (λ us. is_op (codes "::") us ≡ false) f.1 n in
    rw f.1 (rw m refl))

-- ---- words

word_free : (word : List ℕ) (ts rest : Tokens) → IsOne Ident word ts rest → Free ts
word_free word ts rest o = record {
  colons = one_no_op (codes "::") Ident word ts rest refl o;
  bang = one_no_op (codes "!") Ident word ts rest refl o;
  arrow = one_no_op (codes "->") Ident word ts rest refl o;
  args = rw (one_no_op (codes "<") Ident word ts rest refl o, one_no_op (codes "<<") Ident word ts rest refl o, one_no_op (codes "<-") Ident word ts rest refl o) refl;
  paren = rw (one_front Ident word ts rest o).1 refl;
}

-- a word that begins neither a path nor a literal
word_follows : (word : List ℕ) → is_literal Ident word ≡ false → is_path_lead (lead_of_word word) ≡ false → bytes_eq word (codes "as") ≡ false
    → (x : PatFacts) (ts rest : Tokens) → IsOne Ident word ts rest → Follows x ts
unfolding lead_at
word_follows word literal path other x ts rest o =
    let f = (one_front Ident word ts rest o).1 in
    let free = word_free word ts rest o in
    let rename : first (is_keyword (codes "as")) ts ≡ false = rw (f, other) refl in
    record {
      paren = free.paren;
      brace = rw f refl;
      dots = rw (one_no_op (codes "..") Ident word ts rest refl o, one_no_op (codes "..=") Ident word ts rest refl o) refl;
      span = λ e. rw (f, literal, path) refl;
      at = λ e. one_no_op (codes "@") Ident word ts rest refl o;
      refuses = quiet_follows x.told.refuses ts (free_quiet ts free rename);
    }

pub if_follows : (x : PatFacts) (ts rest : Tokens) → IsOne Ident (codes "if") ts rest → Follows x ts
if_follows = word_follows (codes "if") refl refl refl

pub in_follows : (x : PatFacts) (ts rest : Tokens) → IsOne Ident (codes "in") ts rest → Follows x ts
in_follows = word_follows (codes "in") refl refl refl

-- ---- types

pub semicolon_quiet : (ts rest : Tokens) → IsOne Punct (codes ";") ts rest → Quiet ts
semicolon_quiet ts rest o = record { free = mark_free 59 refl refl refl refl ts rest o; plus = no_other_op 43 [] 59 ts rest refl o }

pub comma_quiet : (ts rest : Tokens) → IsOne Punct (codes ",") ts rest → Quiet ts
comma_quiet ts rest o = record { free = mark_free 44 refl refl refl refl ts rest o; plus = no_other_op 43 [] 44 ts rest refl o }

pub bar_quiet : (ts rest : Tokens) → IsOne Punct (codes "|") ts rest → Quiet ts
bar_quiet ts rest o = record { free = mark_free 124 refl refl refl refl ts rest o; plus = no_other_op 43 [] 124 ts rest refl o }

pub brace_quiet : (ts rest : Tokens) → IsOne (Opener Brace) (opening Brace ∷ []) ts rest → Quiet ts
brace_quiet ts rest o =
    let no : (op : List ℕ) → is_op op ts ≡ false = λ op. one_no_op op (Opener Brace) (opening Brace ∷ []) ts rest refl o in
    record {
      free = record {
        colons = no (codes "::");
        bang = no (codes "!");
        arrow = no (codes "->");
        args = rw (no (codes "<"), no (codes "<<"), no (codes "<-")) refl;
        paren = rw (one_front (Opener Brace) (opening Brace ∷ []) ts rest o).1 refl;
      };
      plus = no (codes "+");
    }

-- the word of a where clause
pub where_quiet : (ts rest : Tokens) → IsOne Ident (codes "where") ts rest → Quiet ts
where_quiet ts rest o = record { free = word_free (codes "where") ts rest o; plus = one_no_op (codes "+") Ident (codes "where") ts rest refl o }
