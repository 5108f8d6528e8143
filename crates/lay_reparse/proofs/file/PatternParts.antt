-- What patterns are made of without a pattern within: literals, ends of spans and macro calls; and from where a pattern
-- passes. It may begin with a word, a literal, `-`, `&`, `..`, `(`, `[`, `<`, `::` or `_`, so the borders before it are
-- named by a test.
use Rattle.std.proofs.Common.{◌≡◌, ℕ, List, [], ◌∷◌, Bool, true, false, cond, not, ◌&&◌, ◌||◌, refl, subst, codes, Option, Some, None, is_some}
use Rattle.std.proofs.lemmas.Bool.{and_parts, and_from}
use Rattle.lay_piece.specs.Characters as char
use Rattle.lay_piece.specs.Forms.{is_number_kind}
use Rattle.lay_piece.specs.declared.kind.Delim.TheVariants.{Paren, Bracket}
use Rattle.lay_piece.specs.declared.kind.Kind.{Kind}
use Rattle.lay_piece.specs.declared.kind.Kind.TheVariants as kind
use Rattle.lay_form.specs.Form.{Bit, Blank, Fixed, Form, Done, Piece, Leaf, keyword, punct, opener, closer}
use Rattle.lay_form.specs.Layout.{token_ends_in_point}
use Rattle.lay_form.specs.Notation.{when}
use Rattle.lay_form.specs.Pieces.{is_text_of, are_pieces}
use Rattle.lay_node.specs.Words.{is_literal, colons}
use Rattle.lay_node.specs.nodes.Call.{is_group, about_call}
use Rattle.lay_node.specs.nodes.Patterns.{value_form, is_value, end_form, is_end, dots, last_end, may_end}
use Rattle.lay_node.specs.nodes.SimplePath.{are_simple_words, is_simple_path, simple_words_form, simple_path_form}
use Rattle.lay_node.specs.nodes.Types.{literal_form}
use Rattle.lay_node.specs.declared.patterns.PatValue.{PatValue}
use Rattle.lay_node.specs.declared.patterns.SpanEnd.{SpanEnd}
use Rattle.lay_node.specs.declared.patterns.SpanEnd.TheVariants as span_end
use Rattle.lay_node.specs.declared.simple_path.SimplePath.{SimplePath}
use Rattle.lay_node.specs.declared.token.Word.{Word}
use Rattle.lay_node.specs.declared.tokens.MacroCall.{MacroCall}
use Rattle.lay_node.specs.declared.types.PathStyle.TheVariants.{Code}
use Rattle.lay_reparse.proofs.borders.Need as need
use Rattle.lay_reparse.proofs.borders.Need.{Need, RawWord, Grow, Loose, all, all_by, asks}
use Rattle.lay_reparse.proofs.borders.Border.{Other, Point, Far, Points, Border, Spot, Unsure, Clear, At, beyond, pass}
use Rattle.lay_reparse.proofs.borders.Move.{under, spot_under}
use Rattle.lay_reparse.proofs.forms.Opened.{even}
use Rattle.lay_reparse.proofs.forms.Passes.{Passes, plain, leads, fits, at_index, stands}
use Rattle.lay_reparse.proofs.forms.Rules.{tables, From, under-refl, wider, ends, simple, fixed, dotted, part, list_fits}
use Rattle.lay_reparse.proofs.texts.Laid.{raw, is_leaf_kind}
use Rattle.lay_reparse.proofs.file.Nodes.{ends_path_name, word, rest_pieces, simple_words_pass, behind_bang}
use Rattle.lay_reparse.proofs.file.TypeParts.{ends_arg, literal_passes}
use Rattle.lay_reparse.proofs.file.TypeArgs.{words_lead}
use Rattle.lay_reparse.proofs.file.Types.{begins_path, path_passes_at}

-- ---- borders

-- a pattern may have ended: in a word, a lifetime, a literal, a delimiter, `>`, `_` or `..`
abbrev pub ends_pat : Border
ends_pat = record {
  needs =
      need.Word ∷ RawWord ∷ need.Life ∷ need.Literal ∷ need.Number ∷ need.IntBare ∷ need.FloatWord
      ∷ Grow (codes "..") ∷ [];
  spot = Clear;
}

-- A literal of any kind may stand there: no point stands before, so a number is no index.
abbrev pub literals_lead : Border → Bool
literals_lead b = spot_under b.spot Clear && all (leads kind.Str) b.needs

abbrev pub minus : List Bit
minus = punct char.minus ∷ []

-- a literal, or a number after a `-`
abbrev pub begins_value : Border → Bool
begins_value b = literals_lead b && (simple b minus && literals_lead (beyond b minus))

-- a literal or a path: an end of a span
abbrev pub begins_end : Border → Bool
begins_end b = begins_path b && begins_value b

-- a macro call, which is called by a path of words
abbrev pub begins_call : Border → Bool
begins_call b = words_lead b && (simple b colons && words_lead (beyond b colons))

-- `..` or `..=`, with the blank that it may get, and an end of a span
abbrev pub begins_dots : Border → List Bit → Bool
begins_dots b p =
    (stands p && (pass b p && pass b (Blank ∷ p))) && (begins_end (beyond b p) && begins_end (beyond b (Blank ∷ p)))

-- `..` alone
abbrev pub ends_in_dots : Border → Bool
ends_in_dots b = under (beyond b (dots false)) ends_pat && under (beyond b (Blank ∷ dots false)) ends_pat

abbrev pub begins_span : Border → Bool
begins_span b = begins_dots b (dots false) && (begins_dots b (dots true) && ends_in_dots b)

abbrev pub by_ref : List Bit
by_ref = keyword (codes "ref") ∷ Blank ∷ []

abbrev pub mutably : List Bit
mutably = keyword (codes "mut") ∷ Blank ∷ []

-- a name, `ref ` or `mut `
abbrev pub begins_bind : Border → Bool
begins_bind b = words_lead b && (simple b by_ref && simple b mutably)

abbrev pub borrow : List Bit
borrow = Fixed kind.Punct (codes "&") ∷ []

-- `&` or `&mut `, before what begins where nothing is asked
abbrev pub begins_borrow : Border → Bool
begins_borrow b =
    simple b borrow
    && (under (beyond b borrow) plain
    && (simple (beyond b borrow) mutably && under (beyond (beyond b borrow) mutably) plain))

abbrev pub wild : List Bit
wild = Fixed kind.Underscore (codes "_") ∷ []

-- a piece that is a pattern
abbrev pub is_whole : Border → List Bit → Bool
is_whole b p = simple b p && under (beyond b p) ends_pat

-- what stands in brackets: lists of patterns, and one pattern
abbrev pub begins_group : Border → Bool
begins_group b =
    list_fits true (opener Paren) (closer Paren) b plain ends_pat ends_pat
    && (list_fits true (opener Bracket) (closer Bracket) b plain ends_pat ends_pat
    && (simple b (opener Paren ∷ []) && under (beyond b (opener Paren ∷ [])) plain))

-- A pattern may begin there.
abbrev pub begins_pat : Border → Bool
begins_pat b =
    begins_end b
    && (begins_call b
    && (begins_span b && (begins_bind b && (begins_borrow b && (is_whole b wild && begins_group b)))))

-- the same, part by part
pub record Begins (b : Border) : Type 0 where
  pub end : begins_end b ≡ true
  pub call : begins_call b ≡ true
  pub span : begins_span b ≡ true
  pub bind : begins_bind b ≡ true
  pub borrows : begins_borrow b ≡ true
  pub wilds : is_whole b wild ≡ true
  pub group : begins_group b ≡ true

pub begins : (b : Border) → begins_pat b ≡ true → Begins b
begins b h =
    let p1 = and_parts (begins_end b) _ h in
    let p2 = and_parts (begins_call b) _ p1.1 in
    let p3 = and_parts (begins_span b) _ p2.1 in
    let p4 = and_parts (begins_bind b) _ p3.1 in
    let p5 = and_parts (begins_borrow b) _ p4.1 in
    let p6 = and_parts (is_whole b wild) _ p5.1 in
    record {
      end = p1.0;
      call = p2.0;
      span = p3.0;
      bind = p4.0;
      borrows = p5.0;
      wilds = p6.0;
      group = p6.1;
    }

-- ---- literals

leads_any : (k : Kind) (n : Need) → is_leaf_kind k ≡ true → leads kind.Str n ≡ true → leads k n ≡ true
leads_any k (Grow cs) l h = at k l
  where
    at : (k : Kind) → is_leaf_kind k ≡ true → leads k (Grow cs) ≡ true
    at kind.Punct l = cc
    at _ l = refl
leads_any k Loose l h = at k l
  where
    at : (k : Kind) → is_leaf_kind k ≡ true → leads k Loose ≡ true
    at kind.Punct l = cc
    at _ l = refl
leads_any k _ l h = cc

fits_clear : (o : Spot) (k : Kind) (x : List ℕ) → spot_under o Clear ≡ true → fits (At Other) k x ≡ true
    → fits o k x ≡ true
fits_clear Unsure k x h f = cc
fits_clear Clear k x h f = f
fits_clear (At Other) k x h f = f
fits_clear (At Points) k x h f = f
fits_clear (At Point) k x h f = cc
fits_clear (At Far) k x h f = cc

clear_index : (o : Spot) → spot_under o Clear ≡ true → false ≡ at_index o
clear_index Unsure h = cc
clear_index Clear h = refl
clear_index (At Other) h = refl
clear_index (At Points) h = refl
clear_index (At Point) h = cc
clear_index (At Far) h = cc

-- A token that passes from where nothing is asked passes from where literals lead.
pub leaf_from : {k : Kind} {t : List ℕ} {f : Form} {c : Border} (b : Border) → literals_lead b ≡ true
    → From plain (Leaf k t f) c → From b (Leaf k t f) c
leaf_from {k} {t} {f} {c} b h p = record {
  go = λ v.
      let q = p.go v in
      let s = and_parts (spot_under b.spot Clear) _ h in
      let l = (and_parts (is_leaf_kind k) true q.0).0 in
      let g = and_parts (fits (At Other) k (raw k t)) _ q.1 in (
        and_from (is_leaf_kind k) _ l (all_by (leads kind.Str) (leads k) b.needs (λ n. leads_any k n l) s.1),
        and_from (fits b.spot k (raw k t)) _ (fits_clear b.spot k (raw k t) s.0 g.0) g.1,
        subst (λ z. Passes even (token_ends_in_point k t) f
            (record { needs = cond (is_number_kind k && z) (need.Number ∷ []) (asks k (raw k t)); spot = At Other }) c)
            (clear_index b.spot s.0) q.2,
      );
}

pub value_passes : (b : Border) → begins_value b ≡ true → (v : PatValue) → is_value v ≡ true
    → are_pieces (value_form v) ≡ true → From b (value_form v) ends_arg
unfolding tables
value_passes b h v g w = by v.negative w
  where
    literal : (c : Border) → literals_lead c ≡ true → is_text_of v.literal.kind v.literal.text && true ≡ true
        → From c (literal_form v.literal Done) ends_arg
    literal c l w =
        leaf_from c l (literal_passes v.literal.kind v.literal.text
        (and_parts (is_literal v.literal.kind v.literal.text) _ g).0
        (and_parts (is_text_of v.literal.kind v.literal.text) true w).0)

    by : (negative : Bool) → are_pieces (when negative minus (literal_form v.literal Done)) ≡ true
        → From b (when negative minus (literal_form v.literal Done)) ends_arg
    by true w =
        let m = and_parts (simple b minus) _ (and_parts (literals_lead b) _ h).1 in
        fixed m.0 (literal (beyond b minus) m.1 w)
    by false w = literal b (and_parts (literals_lead b) _ h).0 w

-- ---- spans

pub end_passes : (b : Border) → begins_end b ≡ true → (e : SpanEnd) → is_end e ≡ true → are_pieces (end_form e) ≡ true
    → From b (end_form e) ends_arg
end_passes b h (span_end.Value v) g w = value_passes b (and_parts (begins_path b) _ h).1 v g w
end_passes b h (span_end.Path p) g w = wider refl ((path_passes_at b (and_parts (begins_path b) _ h).0 Code p).go g w)

last_passes : (b : Border) → begins_end b ≡ true → (e : SpanEnd) → is_end e ≡ true
    → are_pieces (last_end (Some e)) ≡ true → From b (last_end (Some e)) ends_pat
last_passes b h e g w =
    part b ends_arg (under-refl b) (end_passes b h e g (and_parts (are_pieces (end_form e)) true w).0) (ends refl)

ended : (b : Border) (p : List Bit) → begins_dots b p ≡ true → (e : SpanEnd) → is_end e ≡ true
    → are_pieces (last_end (Some e)) ≡ true
    → (stands p && (pass b p && pass b (Blank ∷ p)) ≡ true) × From (beyond b p) (last_end (Some e)) ends_pat
    × From (beyond b (Blank ∷ p)) (last_end (Some e)) ends_pat
ended b p h e g w =
    let q = and_parts (stands p && (pass b p && pass b (Blank ∷ p))) _ h in
    let r = and_parts (begins_end (beyond b p)) _ q.1 in
    (q.0, last_passes (beyond b p) r.0 e g w, last_passes (beyond b (Blank ∷ p)) r.1 e g w)

-- `..` or `..=`, and what follows it
pub dots_pass : (b : Border) → begins_span b ≡ true → (inclusive : Bool) (end : Option SpanEnd)
    → not inclusive || is_some end ≡ true → may_end end ≡ true → are_pieces (last_end end) ≡ true
    → From b (Piece (dots inclusive) (last_end end)) ends_pat
dots_pass b h true None n g w = cc
dots_pass b h true (Some e) n g w =
    let h1 = and_parts (begins_dots b (dots false)) _ h in
    let k = ended b (dots true) (and_parts (begins_dots b (dots true)) _ h1.1).0 e g w in
    dotted k.0 k.1 k.2
dots_pass b h false None n g w =
    let h1 = and_parts (begins_dots b (dots false)) _ h in
    let p = dots false in
    let q = and_parts (stands p && (pass b p && pass b (Blank ∷ p))) _ h1.0 in
    let u = and_parts (under (beyond b p) ends_pat) _ (and_parts (begins_dots b (dots true)) _ h1.1).1 in
    dotted q.0 (ends u.0) (ends u.1)
dots_pass b h false (Some e) n g w =
    let k = ended b (dots false) (and_parts (begins_dots b (dots false)) _ h).0 e g w in
    dotted k.0 k.1 k.2

-- ---- macro calls

words_pass : (b : Border) → words_lead b ≡ true → (words : List Word) → are_simple_words words ≡ true
    → are_pieces (simple_words_form words Done) ≡ true → From b (simple_words_form words Done) ends_path_name
unfolding tables
words_pass b h [] g w = cc
words_pass b h (one ∷ []) g w = word one.raw one.text h w (ends refl) (ends refl)
words_pass b h (one ∷ two ∷ more) g w =
    let k = simple_words_pass (two ∷ more)
    (rest_pieces one.raw one.text (Piece colons (simple_words_form (two ∷ more) Done)) w) in
    word one.raw one.text h w (fixed refl k) (fixed refl k)

simple_path_passes : (b : Border) → begins_call b ≡ true → (path : SimplePath) → is_simple_path path ≡ true
    → are_pieces (simple_path_form path) ≡ true → From b (simple_path_form path) ends_path_name
simple_path_passes b h path g w = by path.global w
  where
    by : (global : Bool) → are_pieces (when global colons (simple_words_form path.words Done)) ≡ true
        → From b (when global colons (simple_words_form path.words Done)) ends_path_name
    by true w =
        let c = and_parts (simple b colons) _ (and_parts (words_lead b) _ h).1 in
        fixed c.0 (words_pass (beyond b colons) c.1 path.words g w)
    by false w = words_pass b (and_parts (words_lead b) _ h).0 path.words g w

pub call_passes_at : (b : Border) → begins_call b ≡ true → (call : MacroCall) → (about_call call).good ≡ true
    → are_pieces (about_call call).form ≡ true → From b (about_call call).form plain
call_passes_at b h call g w =
    let n = and_parts (is_simple_path call.path) (is_group call.tokens) g in
    part b ends_path_name (under-refl b)
    (simple_path_passes b h call.path n.0 (and_parts (are_pieces (simple_path_form call.path)) _ w).0)
    (behind_bang call.tokens n.1)
