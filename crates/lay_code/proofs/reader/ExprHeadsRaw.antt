-- After a first word `raw` neither `const` nor `mut` stands within an expression that may stand after a `&`. So the `&` is
-- read alone.
use Rattle.std.proofs.Common.{◌≡◌, ℕ, zero, suc, Bool, true, false, not, ◌&&◌, ◌||◌, nat_le, leb-true, le-leb, List, [], ◌∷◌, ◌++◌, map, codes, Option, option_map, Some, None, is_some, ◌⊎◌, inl, inr, refl, sym, ap, subst, ◌∙◌, arith}
use Rattle.std.specs.Prelude.{if◌then◌else◌}
use Rattle.std.specs.Str.{bytes_eq}
use Rattle.std.proofs.lemmas.Bool.{and_parts}
use Rattle.lay_piece.specs.Forms.{opening}
use Rattle.lay_piece.specs.declared.kind.Delim.{Delim}
use Rattle.lay_piece.specs.declared.kind.Delim.TheVariants.{Paren, Bracket, Brace}
use Rattle.lay_piece.specs.declared.kind.Kind.{Kind}
use Rattle.lay_piece.specs.declared.kind.Kind.TheVariants.{Ident, RawIdent, Punct, Opener}
use Rattle.lay_token.specs.Lexes.{is_punct}
use Rattle.lay_token.specs.Operators.{is_op}
use Rattle.lay_form.specs.Form.{Operator, Form, Done, Piece, Part, opener, closer}
use Rattle.lay_form.specs.Notation.{when, braces}
use Rattle.lay_form.specs.Spelled.{IsOne, IsOperator, Spells}
use Rattle.lay_node.specs.Ahead.{Tokens, first, tail, is_ident, is_keyword, opens}
use Rattle.lay_node.specs.Words.{is_path_word, colons}
use Rattle.lay_node.specs.nodes.Call.{about_call}
use Rattle.lay_node.specs.nodes.Facts.{Facts, all_good}
use Rattle.lay_node.specs.nodes.SimplePath.{are_simple_words, is_simple_path, simple_words_form, simple_path_form}
use Rattle.lay_node.specs.nodes.Types.{ArgsFacts, less, segment_good, segments_form, segments_good, about_path, about_start, about_args, is_there, starts_plain, are_none, lone_segment, lone_word}
use Rattle.lay_node.specs.declared.simple_path.SimplePath.{SimplePath}
use Rattle.lay_node.specs.declared.token.Lifetime.{Lifetime as Label}
use Rattle.lay_node.specs.declared.token.Word.{Word}
use Rattle.lay_node.specs.declared.tokens.MacroCall.{MacroCall}
use Rattle.lay_node.specs.declared.types.Arg.TheViews as views
use Rattle.lay_node.specs.declared.types.Args.{Args}
use Rattle.lay_node.specs.declared.types.Path.{Path}
use Rattle.lay_node.specs.declared.types.PathStart.{PathStart}
use Rattle.lay_node.specs.declared.types.PathStart.TheVariants as start
use Rattle.lay_node.specs.declared.types.PathStyle.TheVariants.{Code}
use Rattle.lay_node.proofs.Fronts.{keyword_one, ident_kind, no_op, one_front, op_front}
use Rattle.lay_node.proofs.Parts.{bit_alone, behind_blank, piece_bit, part_alone, word_kind, leaf_parts}
use Rattle.lay_node.proofs.nodes.TypesLaws.{PathStartView, IsLocal, IsGlobal, IsQualified, ArgsView, IsNone, IsAngle, IsRound, about_segment, start_view, args_view, start_local_is, start_global_is, start_qualified_is, args_none_is, args_angle_is, args_round_is}
use Rattle.lay_node.proofs.reader.Call.{bang_operator}
use Rattle.lay_node.proofs.reader.TypesBegins.{path_parts, path_goods}
use Rattle.lay_node.proofs.reader.TypesCompleteParts.{one_left}
use Rattle.lay_code.specs.Operands.{ExprLead, ByPath, ByBrace, ByBlockWord, expr_lead_at}
use Rattle.lay_code.specs.Operators.{begins_step}
use Rattle.lay_code.specs.nodes.Code.{about_arm, about_block, about_branch, about_condition, about_expr, about_field_expr, about_step}
use Rattle.lay_code.specs.nodes.Exprs.{ExprFacts, stands, placed, begins_pointer, is_raw_word, is_raw_path, break_if, group_if, methods, is_method, is_dotted, is_tuple_index, first_step, are_steps, steps_form, base_form, base_placed, level_of_chain, next_is_angle, is_chain_level, may_chain, operands_placed, inside, level_of, lead_of, label_or, within_of, expr_facts, ExprLayer}
use Rattle.lay_code.specs.nodes.Places.{begins, before_op}
use Rattle.lay_code.specs.declared.exprs.Expr.{Expr}
use Rattle.lay_code.specs.declared.blocks.Stmt.TheOpen.{Expr-F}
use Rattle.lay_code.specs.declared.exprs.Expr.TheVariants as expr
use Rattle.lay_code.specs.declared.exprs.Place.{Place}
use Rattle.lay_code.specs.declared.exprs.Step.{Step}
use Rattle.lay_code.specs.declared.operators.Op.{Op}
use Rattle.lay_code.proofs.nodes.ExprsLaws.{ExprView, IsLit, IsPath, IsUnderscore, IsCall, IsParen, IsContinue, IsTuple, IsArray, IsRepeat, IsStruct, IsChain, IsCast, IsUnary, IsRange, IsAssign, IsPostfix, IsBlock, IsUnsafe, IsConstBlock, IsAsync, IsIf, IsMatch, IsLoop, IsWhile, IsFor, IsClosure, IsTypedClosure, IsReturn, IsBreak, expr_view, behind_op, before_op as target_of, expr_lit_is, expr_path_is, expr_underscore_is, expr_call_is, expr_paren_is, expr_continue_is, expr_tuple_is, expr_array_is, expr_repeat_is, expr_struct_is, expr_chain_is, expr_cast_is, expr_unary_is, expr_range_is, expr_assign_is, expr_postfix_is, expr_block_is, expr_unsafe_is, expr_const_block_is, expr_async_is, expr_if_is, expr_match_is, expr_loop_is, expr_while_is, expr_for_is, expr_closure_is, expr_typed_closure_is, expr_return_is, expr_break_is}
use Rattle.lay_code.proofs.reader.ExprFronts.{no_depth, expr_begins}
use Rattle.lay_code.proofs.reader.ExprLeads.{one_lead}
use Rattle.lay_code.proofs.reader.ExprSoundLevel.{within_held}
use Rattle.lay_code.proofs.reader.ExprSteps.{step_begun}

-- ---- what isn't `const` or `mut`

op_no_pointer : (op : List ℕ) (ts : Tokens) → is_op op ts ≡ true → begins_pointer ts ≡ false
op_no_pointer op ts h = rw (op_front op ts h).2 refl

opener_no_pointer : (d : Delim) (ts rest : Tokens) → IsOne (Opener d) (opening d ∷ []) ts rest → begins_pointer ts ≡ false
opener_no_pointer d ts rest o = rw (one_front (Opener d) (opening d ∷ []) ts rest o).1 refl

-- the first word
abbrev pub begins_raw : Tokens → Bool
begins_raw ts = first (is_keyword (codes "raw")) ts

op_no_raw : (op : List ℕ) (ts : Tokens) → is_op op ts ≡ true → begins_raw ts ≡ false
op_no_raw op ts h = rw (op_front op ts h).2 refl

word_is_raw : (raw : Bool) (text : List ℕ) (ts rest : Tokens) → IsOne (word_kind raw) text ts rest → begins_raw ts ≡ true
    → (not raw && bytes_eq text (codes "raw")) ≡ true
word_is_raw true text ts rest o h = let n : begins_raw ts ≡ false = rw (one_front RawIdent text ts rest o).1 refl in absurd (cc)
word_is_raw false text ts rest o h = let n : begins_raw ts ≡ bytes_eq text (codes "raw") = rw (one_front Ident text ts rest o).1 refl in
    sym n ∙ h

-- ---- paths

-- After the word something else stands, or the word is all that there is.
abbrev pub RawAlone : Bool → Tokens → Tokens → Type 0
RawAlone alone ts rest = (begins_pointer (tail ts) ≡ false) ⊎ ((alone ≡ true) × (tail ts ≡ rest))

-- what follows the word, by what it was told to be
word_alone : (alone raw : Bool) (text : List ℕ) (ts mid rest : Tokens) → IsOne (word_kind raw) text ts mid
    → (begins_pointer mid ≡ false) ⊎ ((alone ≡ true) × (mid ≡ rest)) → RawAlone alone ts rest
word_alone alone raw text ts mid rest o r = rw (one_left (word_kind raw) text ts mid o) r

colons_behind : (f : Form) (depth : ℕ) (ts rest : Tokens) → Spells (Piece colons f) depth ts rest → begins_pointer ts ≡ false
colons_behind f depth ts rest s =
    let o : IsOperator (codes "::") ts s.0 = bit_alone (Operator (codes "::")) ts s.0 s.1 in op_no_pointer (codes "::") ts o.0

-- arguments that are there begin with `::`
args_behind : (a : Args) (depth : ℕ) (ts rest : Tokens) → Spells (about_args a).code.form depth ts rest → (about_args a).code.good ≡ true
    → (begins_pointer ts ≡ false) ⊎ ((are_none (views.out-Args a) ≡ true) × (ts ≡ rest))
args_behind a depth ts rest s g = by a (args_view a) s g
  where
    by : (a : Args) → ArgsView a → Spells (about_args a).code.form depth ts rest → (about_args a).code.good ≡ true
        → (begins_pointer ts ≡ false) ⊎ ((are_none (views.out-Args a) ≡ true) × (ts ≡ rest))
    by _ IsNone t h = inr (ap are_none views.outs-None, subst (λ (F : ArgsFacts). Spells F.code.form depth ts rest) args_none_is t)
    by _ (IsAngle xs) t h =
        let u = subst (λ (F : ArgsFacts). Spells F.code.form depth ts rest) (args_angle_is xs) t in
        let o : IsOperator (codes "::") ts u.0 = bit_alone (Operator (codes "::")) ts u.0 u.1 in
        inl (op_no_pointer (codes "::") ts o.0)
    by _ (IsRound xs y) t h = let e = sym (ap (λ (F : ArgsFacts). F.code.good) (args_round_is xs y)) ∙ h in absurd (cc)

raw_segment : (s : Word × Args) → (not s.0.raw && bytes_eq s.0.text (codes "raw")) ≡ true → are_none (views.out-Args s.1) ≡ true
    → is_raw_word (lone_segment (s ∷ [])) ≡ true
raw_segment s w n = rw n w

-- the segments of a path
segments_raw : (ss : List (Word × Args)) (depth : ℕ) (ts rest : Tokens) → segments_good Code (map about_segment ss) ≡ true
    → Spells (segments_form Code (map about_segment ss)) depth ts rest → begins_raw ts ≡ true
    → RawAlone (is_raw_word (lone_segment ss)) ts rest
segments_raw [] depth ts rest g s h = absurd (cc)
segments_raw (w ∷ []) depth ts rest g s h =
    let l = leaf_parts w.0.raw w.0.text (Part (about_args w.1).code.form Done) depth ts rest s in
    let a = args_behind w.1 depth l.0 rest (part_alone (about_args w.1).code.form depth l.0 rest l.2)
    (and_parts _ (about_args w.1).code.good g).1 in
    word_alone (is_raw_word (lone_segment (w ∷ []))) w.0.raw w.0.text ts l.0 rest l.1 (elim a [
      | inl n ↦ inl n
      | inr e ↦ inr (raw_segment w (word_is_raw w.0.raw w.0.text ts l.0 l.1 h) e.0, e.1)
    ])
segments_raw (w ∷ v ∷ more) depth ts rest g s h =
    let next : Form = Piece colons (segments_form Code (map about_segment (v ∷ more))) in
    let l = leaf_parts w.0.raw w.0.text (Part (about_args w.1).code.form next) depth ts rest s in
    let p = l.2 in
    let goods = and_parts (segment_good Code (about_segment w) && not (about_args w.1).returns)
    (segments_good Code (map about_segment (v ∷ more))) g in
    let kept = and_parts (segment_good Code (about_segment w)) (not (about_args w.1).returns) goods.0 in
    let good = (and_parts (is_path_word w.0.raw w.0.text) (about_args w.1).code.good kept.0).1 in
    let colons_there = colons_behind (segments_form Code (map about_segment (v ∷ more))) depth p.0 rest p.2 in
    word_alone (is_raw_word (lone_segment (w ∷ v ∷ more))) w.0.raw w.0.text ts l.0 rest l.1 (elim (args_behind w.1 depth l.0 p.0 p.1 good) [
      | inl n ↦ inl n
      | inr e ↦ inl (rw e.1 colons_there)
    ])

-- a path
pub path_raw : (p : Path) (depth : ℕ) (ts rest : Tokens) → Spells (about_path p Code).form depth ts rest → (about_path p Code).good ≡ true
    → begins_raw ts ≡ true → RawAlone (is_raw_word (lone_word p)) ts rest
path_raw p depth ts rest s g h =
    let t = path_parts Code p depth ts rest s in
    let goods = path_goods Code p g in
    by p.start (start_view p.start) t.0 t.1
    (λ e. segments_raw p.segments depth t.0 rest goods.1 t.2 (subst (λ us. begins_raw us ≡ true) e h))
  where
    told : Bool → Option Word
    told b = if b then lone_segment p.segments else None

    by : (b : PathStart) → PathStartView b → (mid : Tokens) → Spells (about_start b).form depth ts mid
        → (ts ≡ mid → RawAlone (is_raw_word (lone_segment p.segments)) mid rest)
        → RawAlone (is_raw_word (told (starts_plain (views.out-PathStart b)))) ts rest
    by _ IsLocal mid t f =
        let e : ts ≡ mid = subst (λ (F : Facts). Spells F.form depth ts mid) start_local_is t in
        let local : starts_plain (views.out-PathStart start.Local) ≡ true = ap starts_plain views.outs-Local in
        let k : told (starts_plain (views.out-PathStart start.Local)) ≡ lone_segment p.segments = rw local refl in
        rw k (subst (λ us. RawAlone (is_raw_word (lone_segment p.segments)) us rest) (sym e) (f e))
    by _ IsGlobal mid t f =
        let o : IsOperator (codes "::") ts mid =
        piece_bit (Operator (codes "::")) depth ts mid (subst (λ (F : Facts). Spells F.form depth ts mid) start_global_is t) in
        let n = op_no_raw (codes "::") ts o.0 in
        absurd (cc)
    by _ (IsQualified x of) mid t f =
        let v = subst (λ (F : Facts). Spells F.form depth ts mid) (start_qualified_is x of) t in
        let o : IsOne Punct (codes "<") ts v.0 = bit_alone less ts v.0 v.1 in
        let n : begins_raw ts ≡ false = rw (one_front Punct (codes "<") ts v.0 o).1 refl in
        absurd (cc)

-- a path of words alone, after which something else stands
simple_raw : (p : SimplePath) (depth : ℕ) (ts rest : Tokens) → is_simple_path p ≡ true → Spells (simple_path_form p) depth ts rest
    → begins_raw ts ≡ true
    → begins_pointer rest ≡ false → begins_pointer (tail ts) ≡ false
simple_raw p depth ts rest g s h n = at p.global p.words g s
  where
    at : (leads : Bool) (words : List Word) → are_simple_words words ≡ true
        → Spells (when leads colons (simple_words_form words Done)) depth ts rest
        → begins_pointer (tail ts) ≡ false
    at leads [] g s = absurd (cc)
    at true (one ∷ more) g s =
        let o : IsOperator (codes "::") ts s.0 = bit_alone (Operator (codes "::")) ts s.0 s.1 in
        let k = op_no_raw (codes "::") ts o.0 in
        absurd (cc)
    at false (one ∷ []) g s =
        let l = leaf_parts one.raw one.text Done depth ts rest s in rw (one_left (word_kind one.raw) one.text ts l.0 l.1) (rw l.2 n)
    at false (one ∷ two ∷ more) g s =
        let l = leaf_parts one.raw one.text (Piece colons (simple_words_form (two ∷ more) Done)) depth ts rest s in
        rw (one_left (word_kind one.raw) one.text ts l.0 l.1) (colons_behind (simple_words_form (two ∷ more) Done) depth l.0 rest l.2)

-- a macro call, whose path is followed by `!`
call_raw : (c : MacroCall) (depth : ℕ) (ts rest : Tokens) → Spells (about_call c).form depth ts rest → (about_call c).good ≡ true
    → begins_raw ts ≡ true
    → begins_pointer (tail ts) ≡ false
call_raw c depth ts rest s g h =
    let o = bang_operator c.tokens.delim s.0 s.2.0 s.2.1 in
    simple_raw c.path depth ts s.0 (and_parts (is_simple_path c.path) _ g).0 s.1 h (op_no_pointer (codes "!") s.0 o.0)

-- ---- expressions

abbrev is_path_lead : ExprLead → Bool
is_path_lead ByPath = true
is_path_lead _ = false

-- No step begins with a word.
step_no_pointer : (ts : Tokens) → begins_step ts ≡ true → begins_pointer ts ≡ false
step_no_pointer [] h = refl
step_no_pointer (t ∷ ts) h = by t.kind refl
  where
    not_word : is_ident t.kind ≡ true → begins_step (t ∷ ts) ≡ false
    not_word e =
        let k = ident_kind t.kind e in
        let n : is_punct t.kind ≡ false = rw k refl in
        let a = no_op (codes ".") t ts n in
        let b = no_op (codes "?") t ts n in
        let c : (first (opens Paren) (t ∷ ts) || first (opens Bracket) (t ∷ ts)) ≡ false = rw k refl in
        rw (a, b, c) refl

    by : (k : Kind) → t.kind ≡ k → begins_pointer (t ∷ ts) ≡ false
    by Ident e = let n = not_word (rw e refl) in absurd (cc)
    by _ e = rw e refl

-- A first word `raw` begins a path.
raw_lead : (ts : Tokens) → begins_raw ts ≡ true → expr_lead_at ts ≡ Some ByPath
raw_lead ts h = one_lead Ident (codes "raw") ts (tail ts) (keyword_one (codes "raw") ts h)

-- the first step stands after a base
steps_no_pointer : (several : Bool) (ss : List Step) (depth : ℕ) (ts rest : Tokens) → is_there (map about_step ss) ≡ true
    → Spells (steps_form several false (map about_step ss)) depth ts rest → begins_pointer ts ≡ false
steps_no_pointer several [] depth ts rest g s = absurd (cc)
steps_no_pointer several (x ∷ ss) depth ts rest g s =
    let F = about_step x in
    let f : Form = Part F.form (steps_form several (is_method F.kind) (map about_step ss)) in
    let t = unbroken (several && (false && is_method F.kind)) f s in
    step_no_pointer ts (step_begun x depth ts t.0 t.1).begins
  where
    unbroken : (b : Bool) (f : Form) → Spells (break_if b f) depth ts rest → Spells f depth ts rest
    unbroken true f s = s
    unbroken false f s = s

-- An expression stands at a level no less than the place's.
pub stands_level : (x : ExprFacts) (place : Place) → stands x place ≡ true → nat_le place.level x.level ≡ true
stands_level x place h = first_of (nat_le place.level x.level) _ _ _ _ h
  where
    first_of : (a b c d e : Bool) → (a && b && c && d && e) ≡ true → a ≡ true
    first_of true true true true true h = refl
    first_of _ _ _ _ _ h = absurd (cc)

abbrev AllRaw : ℕ → Type 0
AllRaw depth = (x : Expr) (no_struct first : Bool) (ts rest : Tokens) → Spells (about_expr x).form depth ts rest →
    (about_expr x).within no_struct first ≡ true
    → nat_le 12 (about_expr x).level ≡ true → begins_raw ts ≡ true → RawAlone (about_expr x).is_raw ts rest

module _ (depth : ℕ) (ih : AllRaw depth) (no_struct first_flag : Bool) (ts rest : Tokens) (raw : begins_raw ts ≡ true) where
  abbrev Raw : ExprFacts → Type 0
  Raw F = Spells F.form (suc depth) ts rest → F.within no_struct first_flag ≡ true → nat_le 12 F.level ≡ true → Some ByPath ≡ Some F.lead
      → RawAlone F.is_raw ts rest

  told : (x : Expr) (F : ExprLayer) → about_expr x ≡ expr_facts F
      → (Spells (inside F) depth ts rest → within_of F no_struct first_flag ≡ true → nat_le 12 (level_of F) ≡ true → Some ByPath ≡ Some
      (lead_of F)
      → RawAlone (is_raw_path F) ts rest) → Raw (about_expr x)
  told x F e f = subst Raw (sym e) (λ s w l b. f (subst (λ us. Spells (inside F) depth ts us) s.2 s.1) w l b)

  -- a struct literal, whose path is followed by `{`
  struct_raw : (p : Path) (fs : List Form) (may : Bool) (mid : Tokens) → Spells (about_path p Code).form depth ts mid
      → (about_path p Code).good ≡ true
      → Spells (braces may fs) depth mid rest → begins_pointer (tail ts) ≡ false
  struct_raw p fs may mid s g b = elim (path_raw p depth ts mid s g raw) [
    | inl n ↦ n
    | inr e ↦ let o = opened fs b in rw e.1 (opener_no_pointer Brace mid o.0 o.1)
  ]
    where
      opened : (fs : List Form) → Spells (braces may fs) depth mid rest
          → (inner : Tokens) × IsOne (Opener Brace) (opening Brace ∷ []) mid inner
      opened [] b = let c = behind_blank (opener Brace ∷ closer Brace ∷ []) mid b.0 b.1 in (c.0, c.1)
      opened (f ∷ fs) b = (b.0, bit_alone (opener Brace) mid b.0 (behind_blank (opener Brace ∷ []) mid b.0 b.1))

  -- steps after a base
  postfix_raw : (x : Expr) (ss : List Step) → Raw (about_expr (expr.Postfix x ss))
  postfix_raw x ss = told (expr.Postfix x ss) (Expr-F.Postfix (about_expr x) (map about_step ss)) (expr_postfix_is x ss) (λ s w l b.
      let F = about_expr x in
      let gs = map about_step ss in
      let several = nat_le 2 (methods gs) in
      let place = before_op 14 no_struct (first_flag && not (first_step is_dotted gs)) false in
      let w1 = and_parts (is_there gs && are_steps gs && not (F.is_number && first_step is_tuple_index gs)) (placed F place) w in
      let w2 = and_parts (is_there gs && are_steps gs) (not (F.is_number && first_step is_tuple_index gs)) w1.0 in
      let there = (and_parts (is_there gs) (are_steps gs) w2.0).0 in
      let t = ungrouped several (Part F.form (steps_form several false gs)) s in
      let top = leb-true 14 F.level (stands_level F place
      (and_parts (stands F place) (F.within place.no_struct (begins place.start)) w1.1).0) in
      inl (elim (ih x place.no_struct (begins place.start) ts t.0 t.1 (within_held F place w1.1)
      (le-leb 12 F.level (omega (arith, top))) raw) [
        | inl n ↦ n
        | inr e ↦ rw e.1 (steps_no_pointer several ss depth t.0 rest there t.2)
      ]))
    where
      ungrouped : (b : Bool) (f : Form) → Spells (group_if b f) depth ts rest → Spells f depth ts rest
      ungrouped true f s = subst (λ us. Spells f depth ts us) s.2 s.1
      ungrouped false f s = s

  -- Operators between operands are of lower levels.
  chain_raw : (x : Expr) (more : List (Op × Expr)) → Raw (about_expr (expr.Chain x more))
  chain_raw x more = told (expr.Chain x more) (Expr-F.Chain (about_expr x) (map behind_op more)) (expr_chain_is x more) (λ s w l b.
      let os = map behind_op more in
      let level = level_of_chain os in
      let place = before_op (suc level) no_struct first_flag (next_is_angle os) in
      let w4 = and_parts (is_chain_level level && may_chain level os && placed (about_expr x) place)
      (operands_placed level no_struct os) w in
      let w3 = and_parts (is_chain_level level && may_chain level os) (placed (about_expr x) place) w4.0 in
      let w2 = and_parts (is_chain_level level) (may_chain level os) w3.0 in
      let high = leb-true level 10 (and_parts (nat_le 2 level) (nat_le level 10) w2.0).1 in
      let low = leb-true 12 level l in
      absurd (omega (arith, high, low)))

  -- What has a label or could have one begins with no path.
  no_label : (l : ExprLead) (label : Option Label) → is_path_lead l ≡ false → Some ByPath ≡ Some (label_or l label) → ⊥
  no_label l None n e = let f : is_path_lead l ≡ true = ap led (sym e) in absurd (cc)
    where
      led : Option ExprLead → Bool
      led None = false
      led (Some m) = is_path_lead m
  no_label l (Some a) n e = absurd (cc)

  -- each kind
  raw_view : (x : Expr) → ExprView x → Raw (about_expr x)
  raw_view _ (IsLit l) = told (expr.Lit l) (Expr-F.Lit l) (expr_lit_is l) (λ s w n b. absurd (cc))
  raw_view _ (IsPath p) = told (expr.Path p) (Expr-F.Path p) (expr_path_is p) (λ s w n b. path_raw p depth ts rest s w raw)
  raw_view _ IsUnderscore = told expr.Underscore Expr-F.Underscore expr_underscore_is (λ s w n b. absurd (cc))
  raw_view _ (IsCall c) = told (expr.Call c) (Expr-F.Expr::Call c) (expr_call_is c) (λ s w n b. inl (call_raw c depth ts rest s w raw))
  raw_view _ (IsParen x) = told (expr.Paren x) (Expr-F.Paren (about_expr x)) (expr_paren_is x) (λ s w n b. absurd (cc))
  raw_view _ (IsContinue label) = told (expr.Continue label) (Expr-F.Continue label) (expr_continue_is label) (λ s w n b. absurd (cc))
  raw_view _ (IsTuple xs) = told (expr.Tuple xs) (Expr-F.Tuple (map about_expr xs)) (expr_tuple_is xs) (λ s w n b. absurd (cc))
  raw_view _ (IsArray xs) = told (expr.Array xs) (Expr-F.Array (map about_expr xs)) (expr_array_is xs) (λ s w n b. absurd (cc))
  raw_view _ (IsRepeat x us) = told (expr.Repeat x us) (Expr-F.Repeat (about_expr x) us) (expr_repeat_is x us) (λ s w n b. absurd (cc))
  raw_view _ (IsStruct p fields base) =
      let fs = map about_field_expr fields in
      let last = option_map (option_map about_expr) base in
      told (expr.Struct p fields base) (Expr-F.Expr::Struct p fs last) (expr_struct_is p fields base) (λ s w n b.
      let w2 = and_parts ((about_path p Code).good && all_good fs) (base_placed last) w in
      let good = (and_parts (about_path p Code).good (all_good fs) w2.0).0 in
      inl (struct_raw p (map (λ (x : Facts). x.form) fs ++ base_form last) (not (is_some last)) s.0 s.1 good s.2))
  raw_view _ (IsChain x more) = chain_raw x more
  raw_view _ (IsCast x types) = told (expr.Cast x types) (Expr-F.Cast (about_expr x) types) (expr_cast_is x types) (λ s w n b. absurd (cc))
  raw_view _ (IsUnary ps x) = told (expr.Unary ps x) (Expr-F.Unary ps (about_expr x)) (expr_unary_is ps x) (λ s w n b. absurd (cc))
  raw_view _ (IsRange start inclusive end) =
      told (expr.Range start inclusive end) (Expr-F.Range (option_map about_expr start) inclusive (option_map about_expr end))
      (expr_range_is start inclusive end) (λ s w n b. absurd (cc))
  raw_view _ (IsAssign targets x) =
      told (expr.Assign targets x) (Expr-F.Assign (map target_of targets) (about_expr x)) (expr_assign_is targets x)
      (λ s w n b. absurd (cc))
  raw_view _ (IsPostfix x ss) = postfix_raw x ss
  raw_view _ (IsBlock label b) = told (expr.Block label b) (Expr-F.Block label (about_block b)) (expr_block_is label b) (λ s w n b. absurd (no_label ByBrace label refl b))
  raw_view _ (IsUnsafe b) =
      told (expr.Unsafe b) (Expr-F.Unsafe (about_block b)) (expr_unsafe_is b) (λ s w n b. absurd (cc))
  raw_view _ (IsConstBlock b) =
      told (expr.ConstBlock b) (Expr-F.ConstBlock (about_block b)) (expr_const_block_is b) (λ s w n b. absurd (cc))
  raw_view _ (IsAsync moves b) =
      told (expr.Async moves b) (Expr-F.Async moves (about_block b)) (expr_async_is moves b) (λ s w n b. absurd (cc))
  raw_view _ (IsIf bs o) =
      told (expr.If bs o) (Expr-F.If (map about_branch bs) (option_map about_block o)) (expr_if_is bs o) (λ s w n b. absurd (cc))
  raw_view _ (IsMatch x attrs arms) =
      told (expr.Match x attrs arms) (Expr-F.Match (about_expr x) attrs (map about_arm arms)) (expr_match_is x attrs arms) (λ s w n b. absurd (cc))
  raw_view _ (IsLoop label b) = told (expr.Loop label b) (Expr-F.Loop label (about_block b)) (expr_loop_is label b) (λ s w n b. absurd (no_label ByBlockWord label refl b))
  raw_view _ (IsWhile label c b) = told (expr.While label c b) (Expr-F.While label (about_condition c) (about_block b)) (expr_while_is label c b) (λ s w n b. absurd (no_label ByBlockWord label refl b))
  raw_view _ (IsFor label pat x b) = told (expr.For label pat x b) (Expr-F.For label pat (about_expr x) (about_block b)) (expr_for_is label pat x b) (λ s w n b. absurd (no_label ByBlockWord label refl b))
  raw_view _ (IsClosure is_async moves params x) =
      told (expr.Closure is_async moves params x) (Expr-F.Closure is_async moves params (about_expr x)) (expr_closure_is is_async moves params x) (λ s w n b. absurd (cc))
  raw_view _ (IsTypedClosure is_async moves params output b) =
      told (expr.TypedClosure is_async moves params output b) (Expr-F.TypedClosure is_async moves params output (about_block b)) (expr_typed_closure_is is_async moves params output b) (λ s w n b. absurd (cc))
  raw_view _ (IsReturn x) = told (expr.Return x) (Expr-F.Return (option_map about_expr x)) (expr_return_is x) (λ s w n b. absurd (cc))
  raw_view _ (IsBreak label x) =
      told (expr.Break label x) (Expr-F.Break label (option_map about_expr x)) (expr_break_is label x) (λ s w n b. absurd (cc))

-- An operand of a prefix operator that begins with the word `raw` is that path, or something else stands after the word.
pub expr_raw : (depth : ℕ) → AllRaw depth
expr_raw zero x no_struct first_flag ts rest s w l h = absurd (no_depth x ts rest s)
expr_raw (suc depth) x no_struct first_flag ts rest s w l h =
    let lead = (expr_begins x no_struct first_flag (suc depth) ts rest s w).lead in
    raw_view depth (expr_raw depth) no_struct first_flag ts rest h x (expr_view x) s w l (sym (raw_lead ts h) ∙ lead)
