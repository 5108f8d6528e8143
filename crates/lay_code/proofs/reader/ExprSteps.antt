-- Steps after a base: each is parsed where it is spelled, and told by its first token.
use Rattle.std.proofs.Common.{◌≡◌, ℕ, suc, ◌≤◌, ◌<◌, max, Bool, true, false, not, ◌&&◌, ◌||◌, List, [], ◌∷◌, map, length, drop, codes, Option, Some, None, inl, inr, refl, sym, ap, subst, ◌∙◌, arith, nat_le}
use Rattle.std.specs.Str.{chars}
use Rattle.std.proofs.lemmas.Bool.{and_parts, or_parts, not-true, false_from_ne_true}
use Rattle.lay_piece.specs.Forms.{opening, closing}
use Rattle.lay_piece.specs.Number.{is_index}
use Rattle.lay_piece.specs.Word.{class_of}
use Rattle.lay_piece.specs.declared.kind.Delim.{Delim}
use Rattle.lay_piece.specs.declared.kind.Delim.TheVariants.{Paren, Bracket}
use Rattle.lay_piece.specs.declared.kind.Kind.TheVariants.{Ident, RawIdent, Int, Opener, Closer}
use Rattle.lay_token.specs.Operators.{is_op}
use Rattle.lay_form.specs.Form.{Operator, Form, Done, Part, keyword, opener, closer}
use Rattle.lay_form.specs.Notation.{Z, Z-, piece, each, comma_gap, last_break}
use Rattle.lay_form.specs.Spelled.{IsOne, IsOperator, Spells}
use Rattle.lay_form.proofs.FormLaws.{shorter}
use Rattle.lay_node.specs.Ahead.{Tokens, first, tail, is_keyword, is_opener, opens, closes, opens_args_late}
use Rattle.lay_node.specs.Words.{is_plain, is_name, leaf_of}
use Rattle.lay_node.specs.Follow.{may_follow}
use Rattle.lay_node.specs.nodes.Facts.{all_good}
use Rattle.lay_node.specs.nodes.Types.{ArgsFacts, about_arg}
use Rattle.lay_node.specs.reader.Loops.{Got, Read, nodes, deepest}
use Rattle.lay_node.specs.reader.Types.{Within, angle, angled, one_arg, no_args, args_by}
use Rattle.lay_node.specs.declared.token.Name.{Name}
use Rattle.lay_node.specs.declared.types.Arg.{Arg}
use Rattle.lay_node.specs.declared.types.Arg.TheViews as views
use Rattle.lay_node.specs.declared.types.Args.{Args}
use Rattle.lay_node.specs.declared.types.Args.TheVariants as args
use Rattle.lay_node.specs.declared.types.PathStyle.TheVariants.{Code}
use Rattle.lay_node.proofs.Fronts.{keyword_one, one_front, one_no_op, one_shorter, op_shorter, op_test, other_op, opener_passed, closer_passed}
use Rattle.lay_node.proofs.Parts.{bit_alone, piece_bit, part_alone, word_kind, leaf_alone, leaf_parts, Rows, SpelledAt}
use Rattle.lay_node.proofs.Steps.{chosen, bind_some, read_same}
use Rattle.lay_node.proofs.nodes.TypesLaws.{args_angle_is}
use Rattle.lay_node.proofs.reader.Exact.{IsRead}
use Rattle.lay_node.proofs.reader.TypesComplete.{args_read}
use Rattle.lay_node.proofs.reader.TypesCompleteParts.{literal_complete}
use Rattle.lay_node.proofs.reader.TypesFronts.{Clear}
use Rattle.lay_node.proofs.reader.Words.{GoodName, name_complete}
use Rattle.lay_code.specs.Operators.{is_dot_or_try, begins_step}
use Rattle.lay_code.specs.nodes.Code.{about_expr, about_step}
use Rattle.lay_code.specs.nodes.Exprs.{ExprFacts, StepKind, OfField, OfTupleIndex, OfMethod, OfCall, OfIndex, OfTry, OfAwait, StepFacts, expr_forms, all_free, is_field, is_tuple_index, is_method, is_call, is_dotted, generics_form, args_form, are_steps, tail_of_steps, methods, break_if, steps_form, group_if, postfix_form, step_facts}
use Rattle.lay_code.specs.nodes.Places.{FREE}
use Rattle.lay_code.specs.reader.Exprs.{free_elements, method_by, member_by, is_index_token, dot_step, one_step, begins_tuple_index, postfix_expr}
use Rattle.lay_code.specs.reader.Within.{ExprWithin}
use Rattle.lay_code.specs.declared.exprs.Expr.{Expr}
use Rattle.lay_code.specs.declared.blocks.Stmt.TheOpen.{Step-F}
use Rattle.lay_code.specs.declared.exprs.Expr.TheVariants as expr
use Rattle.lay_code.specs.declared.exprs.Step.{Step}
use Rattle.lay_code.specs.declared.exprs.Step.TheVariants as step
use Rattle.lay_code.proofs.nodes.ExprsLaws.{StepView, IsFieldStep, IsTupleIndexStep, IsMethodStep, IsApplyStep, IsIndexStep, IsTryStep, IsAwaitStep, step_view, step_field_is, step_tuple_index_is, step_method_is, step_apply_is, step_index_is, step_try_is, step_await_is}
use Rattle.lay_code.proofs.reader.ExprHeadsLists.{free_read, free_elements_read}
use Rattle.lay_code.proofs.reader.ExprOperators.{dot_front, try_front, paren_front, bracket_front}
use Rattle.lay_code.proofs.reader.ExprOperatorsLoops.{NodeTurn, nodes_repeat}
use Rattle.lay_code.proofs.reader.ExprQuiet.{closer_ends_expr}
use Rattle.lay_code.proofs.reader.ExprReads.{ExprReads}

-- ---- how a step begins

-- A step with these facts stands before what is left.
pub record StepBegun (x : StepFacts) (ts rest : Tokens) : Type 0 where
  pub begins : begins_step ts ≡ true
  -- what follows a `.`
  pub dotted : is_dot_or_try ts ≡ is_dotted x.kind
  pub paren : is_call x.kind ≡ false → first (opens Paren) ts ≡ false
  pub colons : is_op (codes "::") ts ≡ false
  pub index : is_tuple_index x.kind ≡ false → begins_tuple_index ts ≡ false
  pub less : length rest < length ts

-- after a `.`
dot_begun : (x : StepFacts) (ts at rest : Tokens) → is_dotted x.kind ≡ true → IsOperator (codes ".") ts at
    → (is_tuple_index x.kind ≡ false → first is_index_token at ≡ false) → length rest ≤ length at → StepBegun x ts rest
dot_begun x ts at rest d o index le = record {
  begins = (dot_front ts o.0).begins;
  dotted = rw (o.0, d) refl;
  paren = λ e. op_test (is_opener Paren) (codes ".") ts o.0;
  colons = other_op (codes ".") (codes "::") refl ts o.0;
  index = λ e. rw (o.0, o.1, index e) refl;
  less = omega (arith, op_shorter 46 [] ts at o, le);
}

-- after a delimiter
opener_begun : (x : StepFacts) (d : Delim) (ts at rest : Tokens) → is_dotted x.kind ≡ false → begins_step ts ≡ true
    → (is_call x.kind ≡ false → first (opens Paren) ts ≡ false)
    → IsOne (Opener d) (opening d ∷ []) ts at → length rest ≤ length at → StepBegun x ts rest
opener_begun x d ts at rest n begins paren o le =
    let no : (op : List ℕ) → is_op op ts ≡ false = λ op. one_no_op op (Opener d) (opening d ∷ []) ts at refl o in
    record {
      begins = begins;
      dotted = rw (no (codes "."), no (codes "?"), n) refl;
      paren = paren;
      colons = no (codes "::");
      index = λ e. rw (no (codes ".")) refl;
      less = omega (arith, one_shorter (Opener d) (opening d ∷ []) ts at o, le);
    }

-- No name is `await`.
name_no_await : (n : Name) (ts rest : Tokens) → GoodName n ts rest → first (is_keyword (codes "await")) ts ≡ false
name_no_await n ts rest g = by n.raw g.0 g.1
  where
    by : (raw : Bool) → IsOne (word_kind raw) n.text ts rest → is_name raw n.text ≡ true → first (is_keyword (codes "await")) ts ≡ false
    by true o h = rw (one_front RawIdent n.text ts rest o).1 refl
    by false o h = false_from_ne_true (first (is_keyword (codes "await")) ts) (λ e.
        let f = one_front Ident n.text ts rest o in
        let k =
        keyword_one (codes "await") (record f.0 { kind = Ident; text = n.text } ∷ rest)
        (subst (λ us. first (is_keyword (codes "await")) us ≡ true) f.1 e) in
        let p : is_plain (class_of (codes "await")) ≡ true = subst (λ w. is_plain (class_of w) ≡ true) k.1 h in
        absurd (cc))

-- No word is a tuple index.
name_no_index : (raw : Bool) (text : List ℕ) (ts rest : Tokens) → IsOne (word_kind raw) text ts rest → first is_index_token ts ≡ false
name_no_index true text ts rest o = rw (one_front RawIdent text ts rest o).1 refl
name_no_index false text ts rest o = rw (one_front Ident text ts rest o).1 refl

-- what begins with `.` and a word
word_begun : (x : StepFacts) (raw : Bool) (text : List ℕ) (f : Form) (depth : ℕ) (ts at rest : Tokens) → is_dotted x.kind ≡ true
    → IsOperator (codes ".") ts at
    → Spells (leaf_of raw text f) depth at rest → StepBegun x ts rest
word_begun x raw text f depth ts at rest d o s =
    let l = leaf_parts raw text f depth at rest s in
    dot_begun x ts at rest d o (λ e. name_no_index raw text at l.0 l.1)
    (omega (arith, one_shorter (word_kind raw) text at l.0 l.1, shorter f depth l.0 rest l.2))

-- Arguments begin with `(`.
args_open : (xs : List ExprFacts) (depth : ℕ) (ts rest : Tokens) → Spells (args_form xs) depth ts rest
    → (at : Tokens) × IsOne (Opener Paren) (opening Paren ∷ []) ts at × (length rest ≤ length at)
args_open [] depth ts rest s =
    let inside = s.1.0 in
    let last : IsOne (Closer Paren) (closing Paren ∷ []) inside s.0 = bit_alone (closer Paren) inside s.0 s.1.2 in
    (inside, s.1.1, omega (arith, one_shorter (Closer Paren) (closing Paren ∷ []) inside s.0 last, ap length s.2))
args_open (x ∷ xs) depth ts rest s =
    let inside = s.1.0 in
    let f : Form = Z (Part x.form (Part (each comma_gap (expr_forms xs)) (last_break true 0 (piece (closer Paren ∷ []))))) in
    (inside, bit_alone (opener Paren) ts inside s.1.1, omega (arith, shorter f depth inside s.0 s.1.2, ap length s.2))

-- A step begins with its own first token.
pub step_begun : (s : Step) (depth : ℕ) (ts rest : Tokens) → Spells (about_step s).form depth ts rest → StepBegun (about_step s) ts rest
step_begun s depth ts rest t = at s (step_view s) t
  where
    told : (s : Step) (F : StepFacts) → about_step s ≡ F → (Spells F.form depth ts rest → StepBegun F ts rest)
        → Spells (about_step s).form depth ts rest → StepBegun (about_step s) ts rest
    told s F e f = subst (λ (G : StepFacts). Spells G.form depth ts rest → StepBegun G ts rest) (sym e) f

    at : (s : Step) → StepView s → Spells (about_step s).form depth ts rest → StepBegun (about_step s) ts rest
    at _ (IsFieldStep n) = told (step.Field n) (step_facts (Step-F.Field n)) (step_field_is n) (λ u.
        word_begun (step_facts (Step-F.Field n)) n.raw n.text Done depth ts u.0 rest refl (bit_alone (Operator (codes ".")) ts u.0 u.1) u.2)
    at _ (IsTupleIndexStep i) = told (step.TupleIndex i) (step_facts (Step-F.TupleIndex i)) (step_tuple_index_is i) (λ u.
        let behind = u.2 in
        dot_begun (step_facts (Step-F.TupleIndex i)) ts u.0 rest refl (bit_alone (Operator (codes ".")) ts u.0 u.1) (λ e. absurd (cc))
        (omega (arith, one_shorter Int i u.0 behind.0 behind.1, ap length behind.2)))
    at _ (IsMethodStep n generics xs) =
        told (step.Method n generics xs) (step_facts (Step-F.Method n generics (map about_expr xs))) (step_method_is n generics xs) (λ u.
        let f : Form = generics_form generics (Part (args_form (map about_expr xs)) Done) in
        word_begun (step_facts (Step-F.Method n generics (map about_expr xs))) n.raw n.text f depth ts u.0 rest refl
        (bit_alone (Operator (codes ".")) ts u.0 u.1) u.2)
    at _ (IsApplyStep xs) = told (step.Apply xs) (step_facts (Step-F.Apply (map about_expr xs))) (step_apply_is xs) (λ u.
        let o = args_open (map about_expr xs) depth ts rest u in
        let paren : first (opens Paren) ts ≡ true = rw (one_front (Opener Paren) (opening Paren ∷ []) ts o.0 o.1).1 refl in
        opener_begun (step_facts (Step-F.Apply (map about_expr xs))) Paren ts o.0 rest refl (paren_front ts paren).begins
        (λ e. absurd (cc)) o.1 o.2)
    at _ (IsIndexStep x) = told (step.Index x) (step_facts (Step-F.Index (about_expr x))) (step_index_is x) (λ u.
        let o : IsOne (Opener Bracket) (opening Bracket ∷ []) ts u.1.0 = bit_alone (opener Bracket) ts u.1.0 u.1.1 in
        let f = (one_front (Opener Bracket) (opening Bracket ∷ []) ts u.1.0 o).1 in
        let bracket : first (opens Bracket) ts ≡ true = rw f refl in
        let inner : Form = Z (Part (about_expr x).form (Z- (piece (closer Bracket ∷ [])))) in
        opener_begun (step_facts (Step-F.Index (about_expr x))) Bracket ts u.1.0 rest refl (bracket_front ts bracket).begins
        (λ e. rw f refl) o
        (omega (arith, shorter inner depth u.1.0 u.0 u.1.2, ap length u.2)))
    at _ IsTryStep = told step.Try (step_facts Step-F.Try) step_try_is (λ u.
        let o : IsOperator (codes "?") ts rest = piece_bit (Operator (codes "?")) depth ts rest u in
        let no_dot : is_op (codes ".") ts ≡ false = other_op (codes "?") (codes ".") refl ts o.0 in
        record {
          begins = (try_front ts o.0).begins;
          dotted = rw (no_dot, o.0) refl;
          paren = λ e. op_test (is_opener Paren) (codes "?") ts o.0;
          colons = other_op (codes "?") (codes "::") refl ts o.0;
          index = λ e. rw no_dot refl;
          less = op_shorter 63 [] ts rest o;
        })
    at _ IsAwaitStep = told step.Await (step_facts Step-F.Await) step_await_is (λ u.
        let bits = u.1 in
        let one : IsOne Ident (codes "await") bits.0 u.0 = bit_alone (keyword (codes "await")) bits.0 u.0 bits.2 in
        dot_begun (step_facts Step-F.Await) ts bits.0 rest refl bits.1 (λ e. rw (one_front Ident (codes "await") bits.0 u.0 one).1 refl)
        (omega (arith, one_shorter Ident (codes "await") bits.0 u.0 one, ap length u.2)))

-- What follows a field is no call, and no `::`.
abbrev pub Behind : StepKind → Tokens → Type 0
Behind OfField ts = (first (opens Paren) ts ≡ false) × (is_op (codes "::") ts ≡ false)
Behind _ ts = Unit {0}

-- ---- what is read

-- Generic arguments that are read in code are angled ones after a `::`.
late_parts : (within : Within) (xs : List Arg) (need : ℕ) (ts rest : Tokens) → args_by within Code ts ≡ Some ((args.Angle xs, need), rest)
    → (opens_args_late ts ≡ true) × (ys : List (Arg × ℕ)) × (angled (one_arg within) (drop 2 ts) ≡ Some (ys, rest)) × (nodes ys ≡ xs)
    × (deepest ys ≡ need)
unfolding args_by angle
late_parts within xs need ts rest h =
    elim (chosen (opens_args_late ts) (angle within (drop 2 ts)) (no_args ts) (Some ((args.Angle xs, need), rest)) h) [
      | inl g ↦
          let go_on : List (Arg × ℕ) × Tokens → Read Args = λ ys. Some ((args.Angle (nodes ys.0), deepest ys.0), ys.1) in
          let b = bind_some (angled (one_arg within) (drop 2 ts)) go_on ((args.Angle xs, need), rest) g.1 in
          let e = read_same (args.Angle (nodes b.0.0)) (args.Angle xs) (deepest b.0.0) need b.0.1 rest b.2 in
          let left : angled (one_arg within) (drop 2 ts) ≡ Some (b.0.0, rest) =
          b.1 ∙ ap (λ (us : Tokens). let found : Got (List (Arg × ℕ)) = Some (b.0.0, us) in found) e.2 in
          (g.0, b.0.0, left, angle_same (nodes b.0.0) xs e.0, e.1)
      | inr g ↦
          let e = read_same args.None (args.Angle xs) 0 need ts rest g.1 in
          absurd (no_angle xs e.0)
    ]
  where
    angle_same : (ys zs : List Arg) → args.Angle ys ≡ args.Angle zs → ys ≡ zs
    angle_same ys zs e = cc (sym (views.outs-Angle ys) ∙ ap views.out-Args e ∙ views.outs-Angle zs)

    no_angle : (ys : List Arg) → args.None ≡ args.Angle ys → ⊥
    no_angle ys e = let f = sym views.outs-None ∙ ap views.out-Args e ∙ views.outs-Angle ys in absurd (cc)

module _ (depth : ℕ) (within : ExprWithin) (reads : ExprReads depth within) where
  dotted : (ts at : Tokens) → IsOperator (codes ".") ts at → one_step within ts ≡ dot_step within at
  unfolding one_step
  dotted ts at o = rw (o.0, o.1) refl

  -- what follows a `.` and a name
  named : (n : Name) (ts at : Tokens) → GoodName n ts at → dot_step within ts ≡ member_by within n at
  unfolding dot_step
  named n ts at g = rw (name_no_await n ts at g, name_no_index n.raw n.text ts at g.0, name_complete n ts at g) refl

  -- a field
  field_read : (n : Name) (ts at rest : Tokens) → IsOperator (codes ".") ts at → GoodName n at rest → Behind OfField rest
      → one_step within ts ≡ Some ((step.Field n, 0), rest)
  field_read n ts at rest o g b = dotted ts at o ∙ named n at rest g ∙ (rw (b.0, b.1) refl)

  -- a tuple index
  index_read : (i : List ℕ) (ts at rest : Tokens) → IsOperator (codes ".") ts at → IsOne Int i at rest → is_index (chars i) ≡ true
      → one_step within ts ≡ Some ((step.TupleIndex i, 0), rest)
  unfolding dot_step
  index_read i ts at rest o one g =
      let l = literal_complete is_index_token (record { kind = Int; text = i }) at rest (λ t. g) one in
      let no_await : first (is_keyword (codes "await")) at ≡ false = rw (one_front Int i at rest one).1 refl in
      dotted ts at o ∙ (rw (no_await, l.1, l.0) refl)

  -- `.await`
  await_read : (ts at rest : Tokens) → IsOperator (codes ".") ts at → IsOne Ident (codes "await") at rest
      → one_step within ts ≡ Some ((step.Await, 0), rest)
  unfolding dot_step
  await_read ts at rest o one =
      let f = (one_front Ident (codes "await") at rest one).1 in
      let there : first (is_keyword (codes "await")) at ≡ true = rw f refl in
      let left : tail at ≡ rest = rw f refl in
      dotted ts at o ∙ (rw (there, left) refl)

  -- `?`
  try_read : (ts rest : Tokens) → IsOperator (codes "?") ts rest → one_step within ts ≡ Some ((step.Try, 0), rest)
  unfolding one_step
  try_read ts rest o = rw (other_op (codes "?") (codes ".") refl ts o.0, o.0, o.1) refl

  -- arguments of a method
  method_read : (n : Name) (generics : Option (List Arg)) (xs : List Expr) (more need : ℕ) (ts inside rest : Tokens)
      → IsOne (Opener Paren) (opening Paren ∷ []) ts inside → free_elements within (closes Paren) inside ≡ Some ((xs, need), rest)
      → method_by within n generics more ts ≡ Some ((step.Method n generics xs, max more need), rest)
  method_read n generics xs more need ts inside rest o r = rw (opener_passed Paren ts inside o, r) refl

  -- a method without generic arguments
  plain_method : (n : Name) (xs : List Expr) (need : ℕ) (ts at behind inside rest : Tokens) → IsOperator (codes ".") ts at
      → GoodName n at behind
      → IsOne (Opener Paren) (opening Paren ∷ []) behind inside → free_elements within (closes Paren) inside ≡ Some ((xs, need), rest)
      → one_step within ts ≡ Some ((step.Method n None xs, max 0 need), rest)
  plain_method n xs need ts at behind inside rest o g p r =
      let there : first (opens Paren) behind ≡ true = rw (one_front (Opener Paren) (opening Paren ∷ []) behind inside p).1 refl in
      let plain : member_by within n behind ≡ method_by within n None 0 behind = rw there refl in
      dotted ts at o ∙ named n at behind g ∙ plain ∙ method_read n None xs 0 need behind inside rest p r

  -- a method with generic arguments
  generic_method : (n : Name) (gs : List Arg) (xs : List Expr) (most need : ℕ) (ts at behind beyond inside rest : Tokens)
      → IsOperator (codes ".") ts at
      → GoodName n at behind → is_op (codes "::") behind ≡ true → args_by within.kinds Code behind ≡ Some ((args.Angle gs, most), beyond)
      → IsOne (Opener Paren) (opening Paren ∷ []) beyond inside → free_elements within (closes Paren) inside ≡ Some ((xs, need), rest)
      → one_step within ts ≡ Some ((step.Method n (Some gs) xs, max most need), rest)
  generic_method n gs xs most need ts at behind beyond inside rest o g c a p r =
      let l = late_parts within.kinds gs most behind beyond a in
      let no_paren : first (opens Paren) behind ≡ false = op_test (is_opener Paren) (codes "::") behind c in
      dotted ts at o ∙ named n at behind g
      ∙ (rw (no_paren, l.0, l.2, l.3, l.4) (method_read n (Some gs) xs most need beyond inside rest p r))

  -- a call
  call_read : (xs : List Expr) (need : ℕ) (ts inside rest : Tokens) → IsOne (Opener Paren) (opening Paren ∷ []) ts inside
      → free_elements within (closes Paren) inside ≡ Some ((xs, need), rest) → one_step within ts ≡ Some ((step.Apply xs, need), rest)
  unfolding one_step
  call_read xs need ts inside rest o r =
      let no : (op : List ℕ) → is_op op ts ≡ false = λ op. one_no_op op (Opener Paren) (opening Paren ∷ []) ts inside refl o in
      let f = (one_front (Opener Paren) (opening Paren ∷ []) ts inside o).1 in
      let there : first (opens Paren) ts ≡ true = rw f refl in
      let left : tail ts ≡ inside = rw f refl in
      rw (no (codes "."), no (codes "?"), there, left, r) refl

  -- an index in brackets
  subscript_read : (x : Expr) (need : ℕ) (ts inside end rest : Tokens) → IsOne (Opener Bracket) (opening Bracket ∷ []) ts inside
      → within.exprs FREE inside ≡ Some ((x, need), end) → IsOne (Closer Bracket) (closing Bracket ∷ []) end rest
      → one_step within ts ≡ Some ((step.Index x, need), rest)
  unfolding one_step
  subscript_read x need ts inside end rest o r c =
      let no : (op : List ℕ) → is_op op ts ≡ false = λ op. one_no_op op (Opener Bracket) (opening Bracket ∷ []) ts inside refl o in
      let no_paren : first (opens Paren) ts ≡ false = rw (one_front (Opener Bracket) (opening Bracket ∷ []) ts inside o).1 refl in
      rw (no (codes "."), no (codes "?"), no_paren, opener_passed Bracket ts inside o, r, closer_passed Bracket end rest c) refl

  -- A step that is spelled, and after which nothing stands that would make another of it, is read.
  pub step_read : (s : Step) (ts rest : Tokens) → Spells (about_step s).form depth ts rest → (about_step s).good ≡ true
      → Behind (about_step s).kind rest
      → IsRead depth (one_step within) s ts rest
  step_read s ts rest = at s (step_view s)
    where
      Told : Step → StepFacts → Type 0
      Told s F = Spells F.form depth ts rest → F.good ≡ true → Behind F.kind rest → IsRead depth (one_step within) s ts rest

      told : (s : Step) (F : StepFacts) → about_step s ≡ F → Told s F → Told s (about_step s)
      told s F e f = subst (Told s) (sym e) f

      at : (s : Step) → StepView s → Told s (about_step s)
      at _ (IsFieldStep n) = told (step.Field n) (step_facts (Step-F.Field n)) (step_field_is n) (λ u g b.
          let o : IsOperator (codes ".") ts u.0 = bit_alone (Operator (codes ".")) ts u.0 u.1 in
          (0, omega arith, field_read n ts u.0 rest o (leaf_alone n.raw n.text depth u.0 rest u.2, g) b))
      at _ (IsTupleIndexStep i) = told (step.TupleIndex i) (step_facts (Step-F.TupleIndex i)) (step_tuple_index_is i) (λ u g b.
          let o : IsOperator (codes ".") ts u.0 = bit_alone (Operator (codes ".")) ts u.0 u.1 in
          let behind = u.2 in
          (0, omega arith, index_read i ts u.0 rest o (subst (λ us. IsOne Int i u.0 us) behind.2 behind.1) g))
      at _ (IsMethodStep n None xs) =
          told (step.Method n None xs) (step_facts (Step-F.Method n None (map about_expr xs))) (step_method_is n None xs) (λ u g b.
          let o : IsOperator (codes ".") ts u.0 = bit_alone (Operator (codes ".")) ts u.0 u.1 in
          let l = leaf_parts n.raw n.text (Part (args_form (map about_expr xs)) Done) depth u.0 rest u.2 in
          let g2 = and_parts (is_name n.raw n.text && true) (all_free (map about_expr xs)) g in
          let g1 = and_parts (is_name n.raw n.text) true g2.0 in
          let a =
          free_elements_read depth within reads Paren xs l.0 rest g2.1 (part_alone (args_form (map about_expr xs)) depth l.0 rest l.2) in
          let r = a.2 in
          (max 0 r.0, omega (arith, r.1), plain_method n xs r.0 ts u.0 l.0 a.0 rest o (l.1, g1.0) a.1 r.2))
      at _ (IsMethodStep n (Some gs) xs) =
          told (step.Method n (Some gs) xs) (step_facts (Step-F.Method n (Some gs) (map about_expr xs))) (step_method_is n (Some gs) xs)
          (λ u g b.
          let o : IsOperator (codes ".") ts u.0 = bit_alone (Operator (codes ".")) ts u.0 u.1 in
          let f : Form = generics_form (Some gs) (Part (args_form (map about_expr xs)) Done) in
          let l = leaf_parts n.raw n.text f depth u.0 rest u.2 in
          let behind = l.2 in
          let c : IsOperator (codes "::") l.0 behind.0 = bit_alone (Operator (codes "::")) l.0 behind.0 behind.1 in
          let angles = behind.2 in
          let beyond = angles.0 in
          let g2 = and_parts (is_name n.raw n.text && all_good (map about_arg gs)) (all_free (map about_expr xs)) g in
          let g1 = and_parts (is_name n.raw n.text) (all_good (map about_arg gs)) g2.0 in
          let spelled =
          subst (λ (F : ArgsFacts). Spells F.code.form depth l.0 beyond) (sym (args_angle_is gs)) (behind.0, behind.1, angles.1) in
          let good = subst (λ (F : ArgsFacts). F.code.good ≡ true) (sym (args_angle_is gs)) g1.1 in
          let clear = subst (λ (F : ArgsFacts). Clear F.code.refuses beyond) (sym (args_angle_is gs)) refl in
          let t = args_read depth within.kinds reads.kinds Code (args.Angle gs) l.0 beyond spelled good clear in
          let a =
          free_elements_read depth within reads Paren xs beyond rest g2.1
          (part_alone (args_form (map about_expr xs)) depth beyond rest angles.2) in
          let r = a.2 in
          (max t.0 r.0, omega (arith, t.1, r.1), generic_method n gs xs t.0 r.0 ts u.0 l.0 beyond a.0 rest o (l.1, g1.0) c.0 t.2 a.1 r.2))
      at _ (IsApplyStep xs) = told (step.Apply xs) (step_facts (Step-F.Apply (map about_expr xs))) (step_apply_is xs) (λ u g b.
          let a = free_elements_read depth within reads Paren xs ts rest g u in
          let r = a.2 in
          (r.0, r.1, call_read xs r.0 ts a.0 rest a.1 r.2))
      at _ (IsIndexStep x) = told (step.Index x) (step_facts (Step-F.Index (about_expr x))) (step_index_is x) (λ u g b.
          let inside = u.1.0 in
          let o : IsOne (Opener Bracket) (opening Bracket ∷ []) ts inside = bit_alone (opener Bracket) ts inside u.1.1 in
          let part = u.1.2 in
          let end = part.0 in
          let c : IsOne (Closer Bracket) (closing Bracket ∷ []) end rest =
          subst (λ us. IsOne (Closer Bracket) (closing Bracket ∷ []) end us) u.2 (piece_bit (closer Bracket) depth end u.0 part.2) in
          let r = free_read depth within reads x inside end part.1 g (closer_ends_expr false Bracket end rest c) in
          (r.0, r.1, subscript_read x r.0 ts inside end rest o r.2 c))
      at _ IsTryStep = told step.Try (step_facts Step-F.Try) step_try_is (λ u g b.
          let o : IsOperator (codes "?") ts rest = piece_bit (Operator (codes "?")) depth ts rest u in
          (0, omega arith, try_read ts rest o))
      at _ IsAwaitStep = told step.Await (step_facts Step-F.Await) step_await_is (λ u g b.
          let bits = u.1 in
          let one : IsOne Ident (codes "await") bits.0 rest =
          subst (λ us. IsOne Ident (codes "await") bits.0 us) u.2 (bit_alone (keyword (codes "await")) bits.0 u.0 bits.2) in
          (0, omega arith, await_read ts bits.0 rest bits.1 one))

  -- ---- all steps of a base

  -- a step after which another stands
  behind_step : (x : StepFacts) (y : StepFacts) (ts rest : Tokens) → not (is_field x.kind && is_call y.kind) ≡ true
      → StepBegun y ts rest → Behind x.kind ts
  behind_step x y ts rest h b = by x.kind h
    where
      by : (k : StepKind) → not (is_field k && is_call y.kind) ≡ true → Behind k ts
      by OfField h = (b.paren (not-true (is_call y.kind) h), b.colons)
      by OfTupleIndex h = tt
      by OfMethod h = tt
      by OfCall h = tt
      by OfIndex h = tt
      by OfTry h = tt
      by OfAwait h = tt

  -- the last step
  behind_last : (k : StepKind) (ts : Tokens) → begins_step ts ≡ false
      → may_follow (tail_of_steps (record { kind = k; form = Done; good = true } ∷ [])).refuses ts ≡ true
      → Behind k ts
  behind_last OfField ts n f =
      let colons = not-true (is_op (codes "::") ts) (and_parts (not (is_op (codes "::") ts)) true f).0 in
      let openers = or_parts (is_dot_or_try ts) (first (opens Paren) ts || first (opens Bracket) ts) n in
      ((or_parts (first (opens Paren) ts) (first (opens Bracket) ts) openers.1).0, colons)
  behind_last OfTupleIndex ts n f = tt
  behind_last OfMethod ts n f = tt
  behind_last OfCall ts n f = tt
  behind_last OfIndex ts n f = tt
  behind_last OfTry ts n f = tt
  behind_last OfAwait ts n f = tt

  -- steps, spelled one after the other
  abbrev StepRows : List Step → Tokens → Tokens → Type 0
  StepRows ss ts rest = Rows (λ s. SpelledAt depth (about_step s).form) ss ts rest

  -- a step, read in its turn
  abbrev StepTurn : Step → Tokens → Tokens → Type 0
  StepTurn = NodeTurn begins_step (one_step within) depth

  -- a step that is spelled is read in its turn
  step_turn : (s : Step) (ts rest : Tokens) → Spells (about_step s).form depth ts rest → (about_step s).good ≡ true
      → Behind (about_step s).kind rest → StepTurn s ts rest
  step_turn s ts rest t g b =
      let begun = step_begun s depth ts rest t in
      let r = step_read s ts rest t g b in
      (r.0, r.1, (begun.begins, r.2, begun.less))

  -- so are all of them
  step_turns : (s : Step) (ss : List Step) (ts rest : Tokens) → StepRows (s ∷ ss) ts rest → are_steps (map about_step (s ∷ ss)) ≡ true
      → begins_step rest ≡ false
      → may_follow (tail_of_steps (map about_step (s ∷ ss))).refuses rest ≡ true → Rows StepTurn (s ∷ ss) ts rest
  step_turns s [] ts rest r g n f =
      let behind = behind_last (about_step s).kind rest n f in
      (r.0, step_turn s ts r.0 r.1 g (subst (Behind (about_step s).kind) (sym r.2) behind), r.2)
  step_turns s (t ∷ more) ts rest r g n f =
      let next = r.2 in
      let g2 =
      and_parts ((about_step s).good && not (is_field (about_step s).kind && is_call (about_step t).kind))
      (are_steps (map about_step (t ∷ more))) g in
      let g1 = and_parts (about_step s).good (not (is_field (about_step s).kind && is_call (about_step t).kind)) g2.0 in
      let behind = behind_step (about_step s) (about_step t) r.0 next.0 g1.1 (step_begun t depth r.0 next.0 next.1) in
      (r.0, step_turn s ts r.0 r.1 g1.0 behind, step_turns t more r.0 rest next g2.1 n f)

  -- A break spells nothing.
  unbroken : (b : Bool) (f : Form) (ts rest : Tokens) → Spells (break_if b f) depth ts rest → Spells f depth ts rest
  unbroken true f ts rest s = s
  unbroken false f ts rest s = s

  -- A break between steps spells nothing.
  steps_spelled : (several behind : Bool) (ss : List Step) (ts rest : Tokens)
      → Spells (steps_form several behind (map about_step ss)) depth ts rest → StepRows ss ts rest
  steps_spelled several behind [] ts rest s = s
  steps_spelled several behind (x ∷ ss) ts rest s =
      let next = behind || is_method (about_step x).kind in
      let f : Form = Part (about_step x).form (steps_form several next (map about_step ss)) in
      let u = unbroken (several && (behind && is_method (about_step x).kind)) f ts rest s in
      (u.0, u.1, steps_spelled several next ss u.0 rest u.2)

  -- Nor does a group.
  ungrouped : (b : Bool) (f : Form) (ts rest : Tokens) → Spells (group_if b f) depth ts rest → Spells f depth ts rest
  ungrouped true f ts rest s = subst (λ us. Spells f depth ts us) s.2 s.1
  ungrouped false f ts rest s = s

  -- A base and its steps are spelled one after the other, in a group or not.
  pub postfix_parts : (x : Expr) (ss : List Step) (ts rest : Tokens)
      → Spells (postfix_form (about_expr x) (map about_step ss)) depth ts rest
      → (mid : Tokens) × Spells (about_expr x).form depth ts mid × StepRows ss mid rest
  postfix_parts x ss ts rest s =
      let several = nat_le 2 (methods (map about_step ss)) in
      let u = ungrouped several (Part (about_expr x).form (steps_form several false (map about_step ss))) ts rest s in
      (u.0, u.1, steps_spelled several false ss u.0 rest u.2)

  -- A tuple index doesn't stand directly after a number without suffix.
  number_apart : (a i b : Bool) → not (a && i) ≡ true → (i ≡ false → b ≡ false) → (a && b) ≡ false
  number_apart true true b n h = absurd (cc)
  number_apart true false b n h = h refl
  number_apart false i b n h = refl

  -- After a base, steps that are spelled are read, as long as they are.
  pub postfix_read : (x : Expr) (s : Step) (ss : List Step) (ts rest : Tokens) → StepRows (s ∷ ss) ts rest
      → are_steps (map about_step (s ∷ ss)) ≡ true
      → not ((about_expr x).is_number && is_tuple_index (about_step s).kind) ≡ true → begins_step rest ≡ false
      → may_follow (tail_of_steps (map about_step (s ∷ ss))).refuses rest ≡ true
      → (m : ℕ) × (m ≤ depth) × ((n : ℕ) → postfix_expr within (x, n) ts ≡ Some ((expr.Postfix x (s ∷ ss), suc (max n m)), rest))
  unfolding postfix_expr
  postfix_read x s ss ts rest r g number n f =
      let begun = step_begun s depth ts r.0 r.1 in
      let apart = number_apart (about_expr x).is_number (is_tuple_index (about_step s).kind) (begins_tuple_index ts) number begun.index in
      let l = nodes_repeat begins_step (one_step within) depth (s ∷ ss) ts rest (step_turns s ss ts rest r g n f) n in
      (deepest l.0, l.2, λ k. rw (apart, l.3, l.1) refl)
