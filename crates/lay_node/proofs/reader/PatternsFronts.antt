-- What follows patterns, and what their first tokens tell.
use Rattle.std.proofs.Common.{◌≡◌, ℕ, ◌<◌, Bool, true, false, not, ◌&&◌, ◌||◌, List, [], ◌∷◌, map, length, codes, Some, inl, inr, refl, sym, ap, subst, ◌∙◌}
use Rattle.std.specs.Prelude.{◌==◌}
use Rattle.std.specs.Str.{bytes_eq}
use Rattle.std.proofs.lemmas.Bool.{and_parts, cases_Bool, not-true, false_from_ne_true}
use Rattle.lay_piece.specs.declared.kind.Delim.{Delim}
use Rattle.lay_piece.specs.declared.kind.Delim.TheVariants.{Paren, Bracket, Brace}
use Rattle.lay_piece.specs.declared.kind.Kind.{Kind}
use Rattle.lay_piece.specs.declared.kind.Kind.TheVariants.{Ident, Underscore, Punct, Opener, Closer}
use Rattle.lay_token.specs.Lexes.{is_punct}
use Rattle.lay_token.specs.Operators.{is_op}
use Rattle.lay_token.specs.declared.token.Token.{Token}
use Rattle.lay_token.proofs.Deciding.{bytes_same}
use Rattle.lay_form.specs.Spelled.{IsOne}
use Rattle.lay_node.specs.Ahead.{Tokens, first, tail, is_ident, is_keyword, is_mark, is_opener, is_closer, opens, closes, opens_args_late}
use Rattle.lay_node.specs.Begins.{Lead, OfPath, OfReference, lead_by, lead_at, begins_value, begins_span_end}
use Rattle.lay_node.specs.Follow.{OfRename, OfArgs, OfCodeArgs, OfArrow, OfColons, OfBang, may_follow, begins_dots, goes_on_pattern}
use Rattle.lay_node.specs.Words.{is_literal}
use Rattle.lay_node.specs.nodes.Patterns.{PatFacts, single_follows, pat_follows}
use Rattle.lay_node.specs.nodes.Types.{ArgsFacts, PathFacts, segment_good, segments_good, segments_refuse, about_path, about_args}
use Rattle.lay_node.specs.reader.Patterns.{is_underscore_kind, is_underscore, begins_bind}
use Rattle.lay_node.specs.declared.patterns.PatPlace.{PatPlace}
use Rattle.lay_node.specs.declared.patterns.PatPlace.TheVariants.{Alternatives, Single}
use Rattle.lay_node.specs.declared.token.Word.{Word}
use Rattle.lay_node.specs.declared.types.Args.{Args}
use Rattle.lay_node.specs.declared.types.Path.{Path}
use Rattle.lay_node.specs.declared.types.PathStyle.TheVariants.{Code}
use Rattle.lay_node.proofs.Follow.{Quiet, quiet_follows}
use Rattle.lay_node.proofs.Fronts.{mark_one, one_front, one_no_op, one_test, op_test, other_op}
use Rattle.lay_node.proofs.nodes.TypesLaws.{ArgsView, IsNone, IsAngle, IsRound, about_segment, args_view, args_none_is, args_angle_is, args_round_is, path_is}
use Rattle.lay_node.proofs.reader.TypesBegins.{path_goods}
use Rattle.lay_node.proofs.reader.TypesCompleteParts.{none_left, none_right}
use Rattle.lay_node.proofs.reader.TypesFronts as types
use Rattle.lay_node.proofs.reader.TypesFronts.{no_other_op, op_first, lead_no_closer, lead_no_keyword, lead_no_rest, lead_no_bar, Clear, Free, op_free, Ends}

-- ---- what may follow a pattern

pub record Follows (x : PatFacts) (ts : Tokens) : Type 0 where
  pub paren : first (opens Paren) ts ≡ false
  pub brace : first (opens Brace) ts ≡ false
  pub dots : begins_dots ts ≡ false
  pub span : x.lacks_end ≡ true → begins_span_end ts ≡ false
  pub at : x.lacks_bound ≡ true → is_op (codes "@") ts ≡ false
  pub refuses : may_follow x.told.refuses ts ≡ true

none_both : (a b : Bool) → not (a && b) ≡ true → a ≡ true → b ≡ false
none_both true true h e = absurd (cc)
none_both true false h e = refl
none_both false b h e = absurd (cc)

pub single_parts : (x : PatFacts) (ts : Tokens) → single_follows x ts ≡ true → Follows x ts
single_parts x ts h =
    let p = and_parts (not (goes_on_pattern ts) && not (x.lacks_end && begins_span_end ts) && not (x.lacks_bound && is_op (codes "@") ts))
    (may_follow x.told.refuses ts) h in
    let q = and_parts (not (goes_on_pattern ts) && not (x.lacks_end && begins_span_end ts)) (not (x.lacks_bound && is_op (codes "@") ts)) p.0 in
    let r = and_parts (not (goes_on_pattern ts)) (not (x.lacks_end && begins_span_end ts)) q.0 in
    let n = not-true (goes_on_pattern ts) r.0 in
    let m = none_right (first (opens Paren) ts) _ n in
    record {
      paren = none_left (first (opens Paren) ts) _ n;
      brace = none_left (first (opens Brace) ts) _ m;
      dots = none_right (first (opens Brace) ts) _ m;
      span = none_both x.lacks_end (begins_span_end ts) r.1;
      at = none_both x.lacks_bound (is_op (codes "@") ts) q.1;
      refuses = p.1;
    }

pub goes_on_none : (x : PatFacts) (ts : Tokens) → Follows x ts → goes_on_pattern ts ≡ false
goes_on_none x ts f = rw (f.paren, f.brace, f.dots) refl

-- What may follow a pattern at a place.
abbrev pub Fits : PatPlace → PatFacts → Tokens → Type 0
Fits Alternatives x ts = (is_op (codes "|") ts ≡ false) × Follows x ts
Fits Single x ts = Follows x ts

pub follows_fits : (place : PatPlace) (x : PatFacts) (ts : Tokens) → pat_follows place x ts ≡ true → Fits place x ts
follows_fits Alternatives x ts h =
    let p = and_parts (not (is_op (codes "|") ts)) (single_follows x ts) h in (not-true (is_op (codes "|") ts) p.0, single_parts x ts p.1)
follows_fits Single x ts h = single_parts x ts h

pub free_quiet : (ts : Tokens) → Free ts → first (is_keyword (codes "as")) ts ≡ false → Quiet ts
free_quiet ts f r OfRename = r
free_quiet ts f r OfArgs = rw (f.args, f.colons, f.paren) refl
free_quiet ts f r OfCodeArgs = rw f.colons refl
free_quiet ts f r OfArrow = f.arrow
free_quiet ts f r OfColons = f.colons
free_quiet ts f r OfBang = f.bang

-- What ends an element of a list may follow every pattern.
pub ends_follows : (x : PatFacts) (ts : Tokens) → Ends ts → Follows x ts
ends_follows x ts e = record {
  paren = e.quiet.free.paren;
  brace = e.pattern.brace;
  dots = e.pattern.dots;
  span = λ h. e.pattern.span;
  at = λ h. e.pattern.at;
  refuses = quiet_follows x.told.refuses ts (free_quiet ts e.quiet.free e.pattern.rename);
}

pub ends_fits : (place : PatPlace) (x : PatFacts) (ts : Tokens) → Ends ts → Fits place x ts
ends_fits Alternatives x ts e = (e.pattern.bar, ends_follows x ts e)
ends_fits Single x ts e = ends_follows x ts e

-- An operator that no pattern goes on with, and that begins no end of a span, may follow every pattern.
op_follows : (c : ℕ) (cs : List ℕ) → bytes_eq (c ∷ cs) (codes "::") ≡ false → bytes_eq (c ∷ cs) (codes "!") ≡ false
    → bytes_eq (c ∷ cs) (codes "->") ≡ false → bytes_eq (c ∷ cs) (codes "<") ≡ false → bytes_eq (c ∷ cs) (codes "<<") ≡ false
    → bytes_eq (c ∷ cs) (codes "<-") ≡ false → bytes_eq (c ∷ cs) (codes "..") ≡ false → bytes_eq (c ∷ cs) (codes "..=") ≡ false
    → bytes_eq (c ∷ cs) (codes "@") ≡ false
    → ((t : Token) (more : List ℕ) (us : Tokens) → let ts : Tokens = record t { kind = Punct; text = c ∷ more } ∷ us in
    is_op (codes "::") ts ≡ false → begins_span_end ts ≡ false)
    → (x : PatFacts) (ts : Tokens) → is_op (c ∷ cs) ts ≡ true → Follows x ts
op_follows c cs colons bang arrow less shift take rest last at no_end x ts h =
    let f = op_first c cs ts h in
    let us : Tokens = record f.0 { kind = Punct; text = c ∷ f.2 } ∷ f.1 in
    let n : is_op (codes "::") us ≡ false =
    subst (λ vs. is_op (codes "::") vs ≡ false) f.3 (other_op (c ∷ cs) (codes "::") colons ts h) in
    let free = op_free (c ∷ cs) colons bang arrow less shift take ts h in
    let rename : first (is_keyword (codes "as")) ts ≡ false = rw f.3 refl in
    record {
      paren = free.paren;
      brace = op_test (is_opener Brace) (c ∷ cs) ts h;
      dots = rw (other_op (c ∷ cs) (codes "..") rest ts h, other_op (c ∷ cs) (codes "..=") last ts h) refl;
      span = λ e. subst (λ vs. begins_span_end vs ≡ false) (sym f.3) (no_end f.0 f.2 f.1 n);
      at = λ e. other_op (c ∷ cs) (codes "@") at ts h;
      refuses = quiet_follows x.told.refuses ts (free_quiet ts free rename);
    }

-- A bar may follow every alternative.
pub bar_follows : (x : PatFacts) (ts : Tokens) → is_op (codes "|") ts ≡ true → Follows x ts
unfolding lead_at
bar_follows = op_follows 124 [] refl refl refl refl refl refl refl refl refl (λ t more us n. rw n refl)

-- So may a `:`, after which a type stands.
pub colon_follows : (x : PatFacts) (ts : Tokens) → is_op (codes ":") ts ≡ true → Follows x ts
unfolding lead_at
colon_follows = op_follows 58 [] refl refl refl refl refl refl refl refl refl (λ t more us n. rw n refl)

-- In code a path refuses `::` alone.
pub code_clear : (p : Path) (ts : Tokens) → (about_path p Code).good ≡ true → is_op (codes "::") ts ≡ false → Clear (about_path p Code).refuses ts
code_clear p ts g n =
    subst (λ (F : PathFacts). Clear (F Code).refuses ts) (sym (path_is p)) (rw n (segments p.segments (path_goods Code p g).1))
  where
    late : opens_args_late ts ≡ false
    late = rw n refl

    by : (a : Args) → ArgsView a → (about_args a).code.good ≡ true → Clear (about_args a).code.refuses ts
    by _ IsNone h = subst (λ (F : ArgsFacts). Clear F.code.refuses ts) (sym args_none_is) (rw late refl)
    by _ (IsAngle xs) h = subst (λ (F : ArgsFacts). Clear F.code.refuses ts) (sym (args_angle_is xs)) refl
    by _ (IsRound xs y) h = let e = sym (ap (λ (F : ArgsFacts). F.code.good) (args_round_is xs y)) ∙ h in absurd (cc)

    segments : (ss : List (Word × Args)) → segments_good Code (map about_segment ss) ≡ true → Clear (segments_refuse Code (map about_segment ss)) ts
    segments [] h = absurd (cc)
    segments (s ∷ []) h = by s.1 (args_view s.1) (and_parts _ (about_args s.1).code.good h).1
    segments (s ∷ v ∷ more) h =
        segments (v ∷ more)
        (and_parts (segment_good Code (about_segment s) && not (about_args s.1).returns) (segments_good Code (map about_segment (v ∷ more))) h).1

-- ---- what begins a pattern

-- What most patterns begin with: no bar, nothing that closes a list, no `mut`, and no `..`.
pub record Front (ts : Tokens) : Type 0 where
  pub bar : is_op (codes "|") ts ≡ false
  pub closer : (d : Delim) → first (closes d) ts ≡ false
  pub mut : first (is_keyword (codes "mut")) ts ≡ false
  pub dots : is_op (codes "..") ts ≡ false

pub lead_front : (ts : Tokens) (l : Lead) → lead_at ts ≡ Some l → Front ts
lead_front ts l h = record {
  bar = lead_no_bar ts l h;
  closer = λ d. lead_no_closer d ts l h;
  mut = lead_no_keyword (codes "mut") refl ts l h;
  dots = none_left (is_op (codes "..") ts) _ (lead_no_rest ts l h);
}

pub kind_front : (k : Kind) (text : List ℕ) → is_punct k ≡ false → ((d : Delim) → is_closer d k ≡ false) → (is_ident k && bytes_eq text (codes "mut")) ≡ false
    → (ts rest : Tokens) → IsOne k text ts rest → Front ts
kind_front k text punct closer mut ts rest o = record {
  bar = one_no_op (codes "|") k text ts rest punct o;
  closer = λ d. one_test (is_closer d) k text ts rest o ∙ closer d;
  mut = rw ((one_front k text ts rest o).1, mut) refl;
  dots = one_no_op (codes "..") k text ts rest punct o;
}

pub mark_front : (c : ℕ) → (124 == c) ≡ false → (46 == c) ≡ false → (ts rest : Tokens) → IsOne Punct (c ∷ []) ts rest → Front ts
mark_front c bar point ts rest o = record {
  bar = no_other_op 124 [] c ts rest bar o;
  closer = λ d. rw (one_front Punct (c ∷ []) ts rest o).1 refl;
  mut = rw (one_front Punct (c ∷ []) ts rest o).1 refl;
  dots = no_other_op 46 (codes ".") c ts rest point o;
}

pub literal_front : (k : Kind) (text : List ℕ) → is_literal k text ≡ true → (ts rest : Tokens) → IsOne k text ts rest → Front ts
literal_front k text g ts rest o = let n = by k g in kind_front k text n.0 n.1 n.2 ts rest o
  where
    word : (bytes_eq text (codes "true") || bytes_eq text (codes "false")) ≡ true → bytes_eq text (codes "mut") ≡ false
    word h = elim (cases_Bool (bytes_eq text (codes "true"))) [
      | inl a ↦ rw (bytes_same text (codes "true") a) refl
      | inr a ↦ let b : bytes_eq text (codes "false") ≡ true = sym (ap (λ c. c || bytes_eq text (codes "false")) a) ∙ h in
          rw (bytes_same text (codes "false") b) refl
    ]

    by : (k : Kind) → is_literal k text ≡ true
        → (is_punct k ≡ false) × ((d : Delim) → is_closer d k ≡ false) × ((is_ident k && bytes_eq text (codes "mut")) ≡ false)
    by Ident h = (refl, λ d. refl, word h)
    by Punct h = absurd (cc)
    by (Closer d) h = absurd (cc)
    by _ h = (refl, λ d. refl, refl)

-- ---- how a pattern begins

pub record Begun (x : PatFacts) (ts rest : Tokens) : Type 0 where
  pub bar : is_op (codes "|") ts ≡ false
  pub closer : (d : Delim) → first (closes d) ts ≡ false
  pub mut : x.begins_mut ≡ false → first (is_keyword (codes "mut")) ts ≡ false
  pub less : length rest < length ts

pub front_begun : (x : PatFacts) (ts rest : Tokens) → Front ts → length rest < length ts → Begun x ts rest
front_begun x ts rest f less = record { bar = f.bar; closer = f.closer; mut = λ h. f.mut; less = less }

-- ---- paths

path_no_infer : (ts : Tokens) → lead_at ts ≡ Some OfPath → first is_underscore ts ≡ false
unfolding lead_at
path_no_infer [] h = refl
path_no_infer (t ∷ ts) h = by t.kind h
  where
    by : (k : Kind) → lead_by k t.text (t ∷ ts) ≡ Some OfPath → is_underscore_kind k ≡ false
    by Underscore e = absurd (cc)
    by _ e = refl

path_no_opener : (d : Delim) (ts : Tokens) → lead_at ts ≡ Some OfPath → first (opens d) ts ≡ false
unfolding lead_at
path_no_opener d [] h = refl
path_no_opener d (t ∷ ts) h = by t.kind h
  where
    by : (k : Kind) → lead_by k t.text (t ∷ ts) ≡ Some OfPath → is_opener d k ≡ false
    by (Opener Paren) e = absurd (cc)
    by (Opener Bracket) e = absurd (cc)
    by (Opener Brace) e = absurd (cc)
    by _ e = refl

path_no_ref : (ts : Tokens) → lead_at ts ≡ Some OfPath → first (is_mark (codes "&")) ts ≡ false
unfolding lead_at
path_no_ref ts h = false_from_ne_true (first (is_mark (codes "&")) ts) (λ e.
    let f = one_front Punct (codes "&") ts (tail ts) (mark_one (codes "&") ts e) in
    let k : lead_at ts ≡ Some OfReference = rw f.1 refl in
    let n = sym k ∙ h in
    absurd (cc))

-- What a path begins with begins no pattern of another kind.
pub record PathLed (ts : Tokens) : Type 0 where
  pub value : begins_value ts ≡ false
  pub infer : first is_underscore ts ≡ false
  pub dots : begins_dots ts ≡ false
  pub ref : first (is_mark (codes "&")) ts ≡ false
  pub paren : first (opens Paren) ts ≡ false
  pub bracket : first (opens Bracket) ts ≡ false
  pub bind : begins_bind ts ≡ false

pub path_led : (ts : Tokens) → lead_at ts ≡ Some OfPath → PathLed ts
path_led ts h = record {
  value = types.lead_no_value ts OfPath h;
  infer = path_no_infer ts h;
  dots = lead_no_rest ts OfPath h;
  ref = path_no_ref ts h;
  paren = path_no_opener Paren ts h;
  bracket = path_no_opener Bracket ts h;
  bind = rw (lead_no_keyword (codes "ref") refl ts OfPath h, lead_no_keyword (codes "mut") refl ts OfPath h) refl;
}
