-- Expressions pass, kind by kind, given the facts about them and that the expressions within them pass.
use Rattle.std.proofs.Common.{◌≡◌, ℕ, List, [], ◌∷◌, ◌++◌, Bool, true, false, cond, not, ◌&&◌, refl, Option, Some, None, is_some}
use Rattle.std.specs.List.{list_all}
use Rattle.std.specs.Str.{chars, is_utf8}
use Rattle.std.proofs.lemmas.Bool.{and_parts}
use Rattle.lay_piece.specs.Number.{is_bare_int}
use Rattle.lay_piece.specs.declared.kind.Delim.TheVariants.{Paren, Bracket}
use Rattle.lay_piece.specs.declared.kind.Kind.{Kind}
use Rattle.lay_piece.specs.declared.kind.Kind.TheVariants as kind
use Rattle.lay_form.specs.Form as form
use Rattle.lay_form.specs.Form.{Bit, Blank, Operator, Form, Done, Piece, Leaf, punct, opener, closer, comma, semicolon}
use Rattle.lay_form.specs.Layout.{led}
use Rattle.lay_form.specs.Notation.{piece, braces, comma_list}
use Rattle.lay_form.specs.Pieces.{is_text_of, are_pieces}
use Rattle.lay_node.specs.Words.{is_literal, is_bare_number}
use Rattle.lay_node.specs.nodes.Attr.{is_empty}
use Rattle.lay_node.specs.nodes.Call.{about_call}
use Rattle.lay_node.specs.nodes.Facts.{Facts, forms, all_good}
use Rattle.lay_node.specs.nodes.Patterns.{dots}
use Rattle.lay_node.specs.nodes.Types.{about_path, literal_form}
use Rattle.lay_node.specs.tokens.Lexed.{is_token_list}
use Rattle.lay_node.specs.tokens.Lists.{token_list, ends_in_line}
use Rattle.lay_node.specs.declared.token.Listed.{Listed}
use Rattle.lay_node.specs.declared.token.Literal.{Literal}
use Rattle.lay_node.specs.declared.tokens.MacroCall.{MacroCall}
use Rattle.lay_node.specs.declared.types.Path.{Path}
use Rattle.lay_node.specs.declared.types.PathStyle.TheVariants.{Code}
use Rattle.lay_code.specs.nodes.Exprs.{ExprFacts, placed, expr_forms, all_free, expr_facts, tuple_form, base_form, base_placed, struct_form}
use Rattle.lay_code.specs.nodes.Places.{FREE}
use Rattle.lay_code.specs.declared.blocks.Stmt.TheOpen.{Expr-F}
use Rattle.lay_reparse.proofs.borders.Need as need
use Rattle.lay_reparse.proofs.borders.Border.{Other, Border, At, beyond}
use Rattle.lay_reparse.proofs.borders.Move.{under}
use Rattle.lay_reparse.proofs.forms.Opened.{bits_open, even}
use Rattle.lay_reparse.proofs.forms.Passes.{Passes, plain}
use Rattle.lay_reparse.proofs.forms.Rules.{tables, On, From, All, under-refl, wider, ends, simple, fixed, dotted, part, list, braces_fit, bracing}
use Rattle.lay_reparse.proofs.tokens.Within.{listed}
use Rattle.lay_reparse.proofs.file.Nodes.{list_pieces, both_pieces, both_all}
use Rattle.lay_reparse.proofs.file.TypeParts.{ends_type, leaf_passes}
use Rattle.lay_reparse.proofs.file.TypeArgs.{Any, Each, Passing, all_pass}
use Rattle.lay_reparse.proofs.file.TypeKinds.{deep_pieces, ends_array}
use Rattle.lay_reparse.proofs.file.Types.{path_passes_at}
use Rattle.lay_reparse.proofs.file.PatternParts.{wild, leaf_from, call_passes_at}
use Rattle.lay_reparse.proofs.file.PatternKinds.{braces_pieces}
use Rattle.lay_reparse.proofs.file.ExprParts.{ends_base, ends_expr, ends_by, ends_any, Behind, always, behind_wider, deep, shut_deep, from_clear, opens_by, begins_operand, Begins, begins, begins_at, begins_based}
use Rattle.lay_reparse.proofs.file.BareNumbers.{bytes_bare}
use Rattle.lay_reparse.proofs.file.ExprPlaces.{ExprPasses, stands_at, free_expr, frees_pass}

-- what begins where an operand may
pub starting : (v : Bool) (level : ℕ) (b : Border) → begins_at v level b ≡ true → Begins b
starting v level b h = begins b (and_parts (begins_operand b) _ h).0

-- ---- literals, paths and calls

-- where a number ends, with a suffix or without one: its bytes have none where its characters have none
int_ends : (bare read : Bool) → (bare ≡ true → read ≡ true)
    → under (record { needs = cond bare (need.IntBare ∷ []) (need.Number ∷ []); spot = At Other }) (ends_by false (not read))
    ≡ true
int_ends true read h = rw (h refl) refl
int_ends false true h = refl
int_ends false false h = refl

float_ends : (bare : Bool)
    → under (record { needs = need.Number ∷ need.FloatWord ∷ []; spot = At Other }) (ends_by false (not bare)) ≡ true
float_ends true = refl
float_ends false = refl

utf8_int : (t : List ℕ) → is_text_of kind.Int t ≡ true → is_utf8 t ≡ true
unfolding is_text_of
utf8_int t w = (and_parts (is_utf8 t) _ w).0

-- a tuple index may stand after a literal but a number without suffix
literal_ends : (k : Kind) (t : List ℕ) → is_literal k t ≡ true → is_text_of k t ≡ true
    → From plain (Leaf k t Done) (ends_by false (not (is_bare_number k t)))
literal_ends kind.Ident t h w = leaf_passes kind.Ident t refl w (ends refl)
literal_ends kind.Char t h w = leaf_passes kind.Char t refl w (ends refl)
literal_ends kind.Str t h w = leaf_passes kind.Str t refl w (ends refl)
literal_ends kind.RawStr t h w = leaf_passes kind.RawStr t refl w (ends refl)
literal_ends kind.Byte t h w = leaf_passes kind.Byte t refl w (ends refl)
literal_ends kind.ByteStr t h w = leaf_passes kind.ByteStr t refl w (ends refl)
literal_ends kind.RawByteStr t h w = leaf_passes kind.RawByteStr t refl w (ends refl)
literal_ends kind.CStr t h w = leaf_passes kind.CStr t refl w (ends refl)
literal_ends kind.RawCStr t h w = leaf_passes kind.RawCStr t refl w (ends refl)
literal_ends kind.Int t h w = leaf_passes kind.Int t refl w
    (ends (int_ends (is_bare_int (chars t)) (is_bare_number kind.Int t) (bytes_bare t (utf8_int t w))))
literal_ends kind.Float t h w = leaf_passes kind.Float t refl w (ends (float_ends (is_bare_number kind.Float t)))
literal_ends _ t h w = cc

pub literal_pass : (l : Literal) → ExprPasses (expr_facts (Expr-F.Lit l))
literal_pass l = record {
  go = λ v b h no_struct first g w.
      let p = (and_parts (is_text_of l.kind l.text) true (deep_pieces (literal_form l Done) w)).0 in
      deep (under-refl (ends_by false (not (is_bare_number l.kind l.text))))
      (always (leaf_from b (starting v 14 b h).literal (literal_ends l.kind l.text g p)));
}

-- a path, from each border where an expression may begin
path_from : (b : Border) → Begins b → (path : Path) → Passing b ends_type (about_path path Code)
path_from b s path = path_passes_at b s.path Code path

pub path_pass : (path : Path) → ExprPasses (expr_facts (Expr-F.Path path))
path_pass path = record {
  go = λ v b h no_struct first g w.
      deep refl (always ((path_from b (starting v 14 b h) path).go g (deep_pieces (about_path path Code).form w)));
}

pub underscore_pass : ExprPasses (expr_facts Expr-F.Underscore)
underscore_pass = record {
  go = λ v b h no_struct first g w.
      let q = and_parts (simple b wild) _ (starting v 14 b h).wilds in
      shut_deep (fixed q.0 (ends q.1));
}

pub call_pass : (call : MacroCall) → ExprPasses (expr_facts (Expr-F.Expr::Call call))
call_pass call = record {
  go = λ v b h no_struct first g w.
      deep refl (always (call_passes_at b (starting v 14 b h).call call g (deep_pieces (about_call call).form w)));
}

-- ---- what stands in parentheses and brackets

-- an expression after the delimiter that it is opened by
enclosed : (b : Border) (o : Bit) → opens_by b o ≡ true → (x : ExprFacts) → ExprPasses x → placed x FREE ≡ true
    → are_pieces x.form ≡ true → {f : Form} → On (bits_open even (o ∷ [])) ends_expr f ends_base
    → From b (Piece (o ∷ []) (form.Part x.form f)) ends_base
enclosed b o h x k g w l =
    let q = and_parts (simple b (o ∷ [])) _ h in
    fixed q.0 (from_clear (beyond b (o ∷ [])) q.1 (part plain ends_expr (under-refl plain) (free_expr x k g w) l))

pub paren_pass : (x : ExprFacts) → ExprPasses x → ExprPasses (expr_facts (Expr-F.Paren x))
unfolding tables
paren_pass x k = record {
  go = λ v b h no_struct first g w.
      let e = Piece (opener Paren ∷ []) (form.Part x.form (piece (closer Paren ∷ []))) in
      let p = (and_parts (are_pieces x.form) true (deep_pieces e w)).0 in
      shut_deep (enclosed b (opener Paren) (starting v 14 b h).opens_round x k g p (fixed refl (ends refl)));
}

-- none, one with a comma after it, or several
tuple_passes : (b : Border) → Begins b → (xs : List ExprFacts) → Each ExprPasses xs → all_free xs ≡ true
    → are_pieces (tuple_form xs) ≡ true → From b (tuple_form xs) ends_base
unfolding tables
tuple_passes b s [] k g w = list true (opener Paren) (closer Paren) [] plain ends_expr s.round tt
tuple_passes b s (x ∷ []) k g w =
    enclosed b (opener Paren) s.opens_round x k.0 (and_parts (placed x FREE) true g).0
    (and_parts (are_pieces x.form) true w).0 (fixed refl (ends refl))
tuple_passes b s (x ∷ y ∷ xs) k g w =
    let es = expr_forms (x ∷ y ∷ xs) in
    list true (opener Paren) (closer Paren) es plain ends_expr s.round
    (frees_pass (x ∷ y ∷ xs) k g (list_pieces true (opener Paren) (closer Paren) es w))

pub tuple_pass : (xs : List ExprFacts) → Each ExprPasses xs → ExprPasses (expr_facts (Expr-F.Tuple xs))
tuple_pass xs k = record {
  go = λ v b h no_struct first g w.
      shut_deep (tuple_passes b (starting v 14 b h) xs k g (deep_pieces (tuple_form xs) w));
}

pub array_pass : (xs : List ExprFacts) → Each ExprPasses xs → ExprPasses (expr_facts (Expr-F.Array xs))
array_pass xs k = record {
  go = λ v b h no_struct first g w.
      let es = expr_forms xs in
      let p = deep_pieces (comma_list true (opener Bracket) (closer Bracket) es) w in
      shut_deep (list true (opener Bracket) (closer Bracket) es plain ends_expr (starting v 14 b h).square
      (frees_pass xs k g (list_pieces true (opener Bracket) (closer Bracket) es p)));
}

pub repeat_pass : (x : ExprFacts) (length : List Listed) → ExprPasses x → ExprPasses (expr_facts (Expr-F.Repeat x length))
unfolding tables
repeat_pass x length k = record {
  go = λ v b h no_struct first g w.
      let n = and_parts (placed x FREE && not (is_empty length)) (is_token_list length) g in
      let e = Piece (semicolon ++ Blank ∷ []) (form.Part (token_list length) (piece (closer Bracket ∷ []))) in
      let p = and_parts (are_pieces x.form) _ (deep_pieces (Piece (opener Bracket ∷ []) (form.Part x.form e)) w) in
      shut_deep (enclosed b (opener Bracket) (starting v 14 b h).opens_square x k (and_parts (placed x FREE) _ n.0).0 p.0
      (listed length n.1 refl (λ v. refl) refl (wider refl (ends_array (ends_in_line length)))));
}

-- ---- struct literals

abbrev BasePasses : Option (Option ExprFacts) → Type 0
BasePasses base = Any (Any ExprPasses) base

-- what follows the `..` before a base, also a `..`
based : (v : Bool) (x : ExprFacts) → ExprPasses x → placed x FREE ≡ true → are_pieces x.form ≡ true
    → Behind true (beyond plain (led v (dots false))) x.form ends_expr
based v x k g w =
    behind_wider (ends_any x.tail.bare _)
    (stands_at x k FREE g w true (beyond plain (led v (dots false))) (begins_based v))

-- a base, if there is one
base_passes : (base : Option (Option ExprFacts)) → BasePasses base → base_placed base ≡ true
    → list_all are_pieces (base_form base) ≡ true → All plain (base_form base) ends_expr
unfolding tables
base_passes None k g w = tt
base_passes (Some None) k g w = (dotted refl (ends refl) (ends refl), tt)
base_passes (Some (Some x)) k g w =
    let p = (and_parts (are_pieces x.form) true (and_parts (are_pieces x.form && true) true w).0).0 in
    (record { go = λ v. at v p }, tt)
  where
    at : (v : Bool) → are_pieces x.form ≡ true
        → Passes even v (Piece (dots false) (form.Part x.form Done)) plain ends_expr
    at true p = (refl, (beyond plain (led true (dots false)), ends_expr, refl, (based true x k g p).now, refl))
    at false p = (refl, (beyond plain (led false (dots false)), ends_expr, refl, (based false x k g p).now, refl))

fields_fit : (may : Bool) → braces_fit may ends_type plain ends_expr ends_base ≡ true
unfolding tables
fields_fit true = refl
fields_fit false = refl

pub struct_pass : (path : Path) (fields : List Facts) (base : Option (Option ExprFacts))
    → Each (Passing plain ends_expr) fields → BasePasses base
    → ExprPasses (expr_facts (Expr-F.Expr::Struct path fields base))
struct_pass path fields base k l = record {
  go = λ v b h no_struct first g w.
      let may = not (is_some base) in
      let es = forms fields ++ base_form base in
      let n1 = and_parts ((about_path path Code).good && all_good fields) (base_placed base) g in
      let n2 = and_parts (about_path path Code).good (all_good fields) n1.0 in
      let p = and_parts (are_pieces (about_path path Code).form) (are_pieces (braces may es))
      (deep_pieces (struct_form path fields base) w) in
      let q = both_pieces (forms fields) (base_form base) (braces_pieces may es p.1) in
      shut_deep (part b ends_type (under-refl b) ((path_from b (starting v 14 b h) path).go n2.0 p.0)
      (bracing may es plain ends_expr (fields_fit may)
      (both_all plain ends_expr (forms fields) (base_form base) (all_pass plain ends_expr fields k n2.1 q.0)
      (base_passes base l n1.1 q.1))));
}
