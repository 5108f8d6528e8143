-- Literals and paths that are built.
use Rattle.std.proofs.Common.{◌≡◌, ◌∙◌, ◌<◌, ℕ, ◌+◌, ◌^◌, true, List, Result, Ok, Err, MatchResult, IsUtf8, refl, sym, ap, subst}
use Rattle.std.specs.Prelude.{decimal, is_ok}
use Rattle.std.specs.Str.{is_utf8}
use Rattle.std.proofs.lemmas.Bool.{false_from_ne_true}
use Rattle.std.proofs.lemmas.Str.{IsUtf8-from_is_utf8, is_utf8-from_IsUtf8}
use Rattle.lay_piece.specs.declared.kind.Kind.{Kind}
use Rattle.lay_piece.specs.declared.kind.Kind.TheVariants.{Int, Str}
use Rattle.lay_form.specs.Depth.{least_depth}
use Rattle.lay_form.specs.Pieces.{are_pieces}
use Rattle.lay_node.specs.nodes.Types.{about_path}
use Rattle.lay_node.specs.declared.token.Name.{Name}
use Rattle.lay_node.specs.declared.types.Args.TheVariants as args
use Rattle.lay_node.specs.declared.types.Path.{Path}
use Rattle.lay_node.specs.declared.types.PathStyle.TheVariants.{Code}
use Rattle.lay_code.specs.nodes.Exprs.{ExprFacts, lacks_args}
use Rattle.lay_code.specs.declared.exprs.Expr.TheVariants as expr
use Rattle.lay_code.proofs.nodes.ExprsLaws as laws
use Rattle.lay_depth.proofs.ExprLemmas as depths
use Rattle.lay_build_types.specs.Answers.{IsMade, IsPart}
use Rattle.lay_build_types.specs.Kinds.{IsExpr, form_of_expr}
use Rattle.lay_build_types.specs.Nodes as names
use Rattle.lay_build_types.specs.Strings.{string_text}
use Rattle.lay_build_types.proofs.PathLemmas.{KeptName, KeptNames, plain_depth, plain_path}
use Rattle.lay_build_types.proofs.PieceLemmas.{ended}
use Rattle.lay_build_types.proofs.StringLemmas.{literal_piece}
use Rattle.lay_build_exprs.specs.Nodes as node
use Rattle.lay_build_exprs.proofs.ExprLemmas.{literal_made, made_by}
use Rattle.lay_build_exprs.proofs.NumberLemmas.{decimal_piece}

-- ---- literals

literal_need : (kind : Kind) (text : List ℕ) → least_depth (form_of_expr (node.literal kind text)) ≡ 1
literal_need kind text = ap (λ (f : ExprFacts). least_depth f.form) (laws.expr_lit_is (record { kind = kind; text = text }))

module _ (kind : Kind) (text given : List ℕ) (same : given ≡ text) (made : IsMade form_of_expr IsExpr (node.literal kind text)) where
  literal_part : IsPart form_of_expr IsExpr (node.literal kind given, 1)
  literal_part = record {
    made = subst (λ (t : List ℕ). IsMade form_of_expr IsExpr (node.literal kind t)) (sym same) made;
    need = sym (literal_need kind given);
  }

pub int_part : (value : ℕ) (given : List ℕ) → value < 10 ^ 64 → given ≡ decimal value
    → IsPart form_of_expr IsExpr (node.literal Int given, 1)
int_part value given small same = literal_part Int (decimal value) given same (literal_made Int (decimal value) (decimal_piece value small) refl)

pub str_part : (text given : List ℕ) → is_utf8 text ≡ true → given ≡ string_text text
    → IsPart form_of_expr IsExpr (node.literal Str given, 1)
str_part text given utf8 same =
    literal_part Str (string_text text) given same
    (literal_made Str (string_text text) (literal_piece text (IsUtf8-from_is_utf8 text utf8)) refl)

-- whether a text was found to be UTF-8
pub found_utf8 : {A E : Type 0} (found : Result A E) (text : List ℕ) (P : A → Type 0) (Q : E → Type 0)
    → MatchResult found (λ s. P s × IsUtf8 text) (λ e. (IsUtf8 text → ⊥) × Q e) → is_ok found ≡ is_utf8 text
found_utf8 (Ok s) text P Q h = sym (is_utf8-from_IsUtf8 text h.1)
found_utf8 (Err e) text P Q h = sym (false_from_ne_true (is_utf8 text) (λ g. h.0 (IsUtf8-from_is_utf8 text g)))

-- ---- paths

module _ (first : Name) (rest : List Name) (kept : KeptName first) (all : KeptNames rest) where
  path_made : IsMade form_of_expr IsExpr (node.expr_path first rest)
  path_made =
      let p = names.path first rest args.None in
      let h = plain_path first rest kept all in
      made_by (node.expr_path first rest) _ (laws.expr_path_is p) (ended (are_pieces (about_path p Code).form) h.pieces)
      (record { within = λ n f. h.good; closed = refl; untyped = ap lacks_args h.refused })

  path_need : least_depth (form_of_expr (node.expr_path first rest)) ≡ 1
  path_need =
      depths.path_is (node.expr_path first rest) (names.path first rest args.None) refl
      ∙ ap (λ (n : ℕ). n + 1) (plain_depth first rest)

  pub path_part : (given : Path) → given ≡ names.path first rest args.None → IsPart form_of_expr IsExpr (expr.Path given, 1)
  path_part given same = subst (λ (p : Path). IsPart form_of_expr IsExpr (expr.Path p, 1)) (sym same) (record { made = path_made; need = sym path_need })
