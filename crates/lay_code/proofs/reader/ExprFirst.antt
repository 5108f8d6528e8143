-- What begins an expression begins no item: after `unsafe` a `{` stands, after `async` no function, and after a first word
-- `union` or `macro_rules` nothing that would make it an item, but for what follows the whole expression.
use Rattle.std.proofs.Common.{◌≡◌, ℕ, zero, suc, Bool, true, false, not, ◌&&◌, ◌||◌, nat_le, List, [], ◌∷◌, ◌++◌, map, drop, codes, Option, option_map, Some, None, is_some, ◌⊎◌, inl, inr, refl, sym, ap, subst, ◌∙◌}
use Rattle.std.specs.Str.{bytes_eq}
use Rattle.std.proofs.lemmas.Bool.{and_parts, cases_Bool, false_from_ne_true, or_cases}
use Rattle.lay_piece.specs.Forms.{opening}
use Rattle.lay_piece.specs.declared.kind.Delim.{Delim}
use Rattle.lay_piece.specs.declared.kind.Delim.TheVariants.{Paren, Bracket, Brace}
use Rattle.lay_piece.specs.declared.kind.Kind.TheVariants.{Ident, Opener, Punct}
use Rattle.lay_token.specs.Delimiters.{is_opener}
use Rattle.lay_token.specs.Operators.{is_op}
use Rattle.lay_form.specs.Form.{Blank, Operator, Form, Done, Piece, Part, keyword, opener, closer}
use Rattle.lay_form.specs.Notation.{N, when, braces}
use Rattle.lay_form.specs.Spelled.{IsOne, IsOperator, AreBits, Spells}
use Rattle.lay_node.specs.Ahead.{Tokens, first, tail, is_keyword, is_mark, opens}
use Rattle.lay_node.specs.Words.{colons}
use Rattle.lay_node.specs.nodes.Facts.{Facts, all_good}
use Rattle.lay_node.specs.nodes.Patterns.{dots}
use Rattle.lay_node.specs.nodes.Types.{ArgsFacts, segment_good, segments_form, segments_good, about_path, about_start, about_args, about_type, is_there, less}
use Rattle.lay_node.specs.reader.Words.{name}
use Rattle.lay_node.specs.declared.token.Word.{Word}
use Rattle.lay_node.specs.declared.tokens.MacroCall.{MacroCall}
use Rattle.lay_node.specs.declared.types.Args.{Args}
use Rattle.lay_node.specs.declared.types.Path.{Path}
use Rattle.lay_node.specs.declared.types.PathStart.{PathStart}
use Rattle.lay_node.specs.declared.types.PathStyle.TheVariants.{Code}
use Rattle.lay_node.specs.declared.types.Ty.{Ty}
use Rattle.lay_node.proofs.Fronts.{keyword_one, mark_one, one_front, one_no_op, op_front, opener_kind, other_op, no_op}
use Rattle.lay_node.proofs.Parts.{before_blank, behind_blank, bit_alone, leaf_parts, part_alone, piece_bit, word_kind}
use Rattle.lay_node.proofs.nodes.TypesLaws.{PathStartView, IsLocal, IsGlobal, IsQualified, ArgsView, IsNone, IsAngle, IsRound, about_segment, start_view, args_view, start_local_is, start_global_is, start_qualified_is, args_none_is, args_angle_is, args_round_is}
use Rattle.lay_node.proofs.reader.Call.{SpelledCall, call_complete}
use Rattle.lay_node.proofs.reader.SimplePath.{SimplePathFront, OfLead, OfOne, OfWord, simple_path_front}
use Rattle.lay_node.proofs.reader.TypesBegins.{path_parts, path_goods}
use Rattle.lay_node.proofs.reader.TypesCompleteParts.{one_left}
use Rattle.lay_code.specs.Operands.{ExprLead, ByPath, ByBlockWord, async_lead, begins_closure, expr_lead_of_word, expr_lead_at}
use Rattle.lay_code.specs.Operators.{op_text, op_level, begins_step}
use Rattle.lay_code.specs.nodes.Code.{about_arm, about_block, about_branch, about_condition, about_expr, about_field_expr, about_step}
use Rattle.lay_code.specs.nodes.Exprs.{ExprFacts, ExprLayer, are_steps, base_form, base_placed, break_if, end_form, end_placed, expr_facts, first_step, group_if, inside, is_block_like, is_brace, is_chain_level, is_dotted, is_method, is_tuple_index, lead_of, level_of_chain, may_chain, methods, next_is_angle, operands_form, operands_placed, placed, steps_form, targets_form, targets_placed, types_form, types_good, within_of}
use Rattle.lay_code.specs.nodes.Places.{plain, begins, before_op}
use Rattle.lay_code.specs.reader.Blocks.{begins_with}
use Rattle.lay_code.specs.declared.blocks.Block.{Block}
use Rattle.lay_code.specs.declared.exprs.Expr.{Expr}
use Rattle.lay_code.specs.declared.exprs.Step.{Step}
use Rattle.lay_code.specs.declared.operators.Op.{Op}
use Rattle.lay_code.specs.declared.operators.Op.TheVariants as op
use Rattle.lay_code.proofs.nodes.ExprsLaws.{ExprView, IsLit, IsPath, IsUnderscore, IsCall, IsParen, IsContinue, IsTuple, IsArray, IsRepeat, IsStruct, IsChain, IsCast, IsUnary, IsRange, IsAssign, IsPostfix, IsBlock, IsUnsafe, IsConstBlock, IsAsync, IsIf, IsMatch, IsLoop, IsWhile, IsFor, IsClosure, IsTypedClosure, IsReturn, IsBreak, expr_view, behind_op, before_op as target_of, expr_lit_is, expr_path_is, expr_underscore_is, expr_call_is, expr_paren_is, expr_continue_is, expr_tuple_is, expr_array_is, expr_repeat_is, expr_struct_is, expr_chain_is, expr_cast_is, expr_unary_is, expr_range_is, expr_assign_is, expr_postfix_is, expr_block_is, expr_unsafe_is, expr_const_block_is, expr_async_is, expr_if_is, expr_match_is, expr_loop_is, expr_while_is, expr_for_is, expr_closure_is, expr_typed_closure_is, expr_return_is, expr_break_is}
use Rattle.lay_code.proofs.reader.AsyncFronts.{async_begins}
use Rattle.lay_code.proofs.reader.ExprLeads.{one_lead}
use Rattle.lay_code.proofs.reader.ExprOperators.{step_cases}
use Rattle.lay_code.proofs.reader.ExprSteps.{step_begun}
use Rattle.std.specs.Prelude.{◌==◌}
use Rattle.lay_piece.specs.declared.kind.Kind.{Kind}
use Rattle.lay_code.specs.declared.exprs.Place.{Place}
use Rattle.lay_code.specs.declared.exprs.Expr.TheVariants as expr
use Rattle.lay_code.specs.declared.blocks.Stmt.TheOpen.{Expr-F}
use Rattle.lay_code.proofs.reader.BlockForms.{block_opened, soft_opened}
use Rattle.lay_code.proofs.reader.ExprFronts.{expr_begins, no_depth}
use Rattle.lay_code.proofs.reader.ExprSoundLevel.{within_held}

-- ---- what makes `union` or `macro_rules` before it no item

-- no name, and no `!` before one
abbrev pub NoItem : Tokens → Type 0
NoItem ts = (is_some (name ts) ≡ false) × ((is_op (codes "!") ts && is_some (name (drop 1 ts))) ≡ false)

op_no_name : (text : List ℕ) (ts : Tokens) → is_op text ts ≡ true → is_some (name ts) ≡ false
unfolding name
op_no_name text ts h = rw (op_front text ts h).2 refl

pub op_no_item : (text : List ℕ) → bytes_eq text (codes "!") ≡ false → (ts : Tokens) → is_op text ts ≡ true → NoItem ts
op_no_item text n ts h = (op_no_name text ts h, rw (other_op text (codes "!") n ts h) refl)

pub opener_no_item : (d : Delim) (ts : Tokens) → first (opens d) ts ≡ true → NoItem ts
unfolding name
opener_no_item d [] h = absurd (cc)
opener_no_item d (t ∷ ts) h =
    let k = opener_kind d t.kind h in (rw k refl, rw (no_op (codes "!") t ts (rw k refl)) refl)

pub as_no_item : (ts rest : Tokens) → IsOne Ident (codes "as") ts rest → NoItem ts
unfolding name
as_no_item ts rest o = (rw (one_front Ident (codes "as") ts rest o).1 refl, rw (one_no_op (codes "!") Ident (codes "as") ts rest refl o) refl)

pub step_no_item : (ts : Tokens) → begins_step ts ≡ true → NoItem ts
step_no_item ts h = elim (step_cases ts h) [
  | inl d ↦ op_no_item (codes ".") refl ts d
  | inr r ↦ elim r [
    | inl q ↦ op_no_item (codes "?") refl ts q
    | inr o ↦ elim o [ inl p ↦ opener_no_item Paren ts p | inr b ↦ opener_no_item Bracket ts b ]
  ]
]

-- an operator between operands
op_other : (o : Op) → bytes_eq (op_text o) (codes "!") ≡ false
op_other op.Set = refl
op_other _ = refl

pub between_no_item : (o : Op) (ts : Tokens) → is_op (op_text o) ts ≡ true → NoItem ts
between_no_item o ts h = op_no_item (op_text o) (op_other o) ts h

operator_there : (text : List ℕ) (ts rest : Tokens) → AreBits (Operator text ∷ []) ts rest → is_op text ts ≡ true
operator_there text ts rest s = let o : IsOperator text ts rest = bit_alone (Operator text) ts rest s in o.0

-- the `..` or `..=` of a range
dots_no_item : (inclusive : Bool) (ts rest : Tokens) → AreBits (dots inclusive) ts rest → NoItem ts
dots_no_item true ts rest s = op_no_item (codes "..=") refl ts (operator_there (codes "..=") ts rest s)
dots_no_item false ts rest s = op_no_item (codes "..") refl ts (operator_there (codes "..") ts rest s)

-- ---- paths

-- arguments that are there begin with `::`
args_colons : (a : Args) (depth : ℕ) (ts rest : Tokens) → Spells (about_args a).code.form depth ts rest → (about_args a).code.good ≡ true
    → NoItem ts ⊎ (ts ≡ rest)
args_colons a depth ts rest s g = by a (args_view a) s g
  where
    by : (a : Args) → ArgsView a → Spells (about_args a).code.form depth ts rest → (about_args a).code.good ≡ true → NoItem ts ⊎ (ts ≡ rest)
    by _ IsNone t h = inr (subst (λ (F : ArgsFacts). Spells F.code.form depth ts rest) args_none_is t)
    by _ (IsAngle xs) t h =
        let u = subst (λ (F : ArgsFacts). Spells F.code.form depth ts rest) (args_angle_is xs) t in
        let o : IsOperator (codes "::") ts u.0 = bit_alone (Operator (codes "::")) ts u.0 u.1 in
        inl (op_no_item (codes "::") refl ts o.0)
    by _ (IsRound xs y) t h = let e = sym (ap (λ (F : ArgsFacts). F.code.good) (args_round_is xs y)) ∙ h in absurd (cc)

-- After the first word of what is spelled stands nothing of it, or nothing that would make the word an item. Where the flag
-- says no, something of it stands there.
abbrev pub Alone : Bool → Tokens → Tokens → Type 0
Alone may ts rest = ((may ≡ true) × (tail ts ≡ rest)) ⊎ NoItem (tail ts)

word_alone : (raw : Bool) (text : List ℕ) (ts mid rest : Tokens) → IsOne (word_kind raw) text ts mid → NoItem mid ⊎ (mid ≡ rest) → Alone true ts rest
word_alone raw text ts mid rest o r = rw (one_left (word_kind raw) text ts mid o) (elim r [ inl n ↦ inr n | inr e ↦ inl (refl, e) ])

segments_alone : (ss : List (Word × Args)) (depth : ℕ) (ts rest : Tokens) → segments_good Code (map about_segment ss) ≡ true
    → Spells (segments_form Code (map about_segment ss)) depth ts rest → Alone true ts rest
segments_alone [] depth ts rest g s = absurd (cc)
segments_alone (w ∷ []) depth ts rest g s =
    let l = leaf_parts w.0.raw w.0.text (Part (about_args w.1).code.form Done) depth ts rest s in
    word_alone w.0.raw w.0.text ts l.0 rest l.1
    (args_colons w.1 depth l.0 rest (part_alone (about_args w.1).code.form depth l.0 rest l.2) (and_parts _ (about_args w.1).code.good g).1)
segments_alone (w ∷ v ∷ more) depth ts rest g s =
    let next : Form = Piece colons (segments_form Code (map about_segment (v ∷ more))) in
    let l = leaf_parts w.0.raw w.0.text (Part (about_args w.1).code.form next) depth ts rest s in
    let p = l.2 in
    let goods = and_parts (segment_good Code (about_segment w) && not (about_args w.1).returns)
    (segments_good Code (map about_segment (v ∷ more))) g in
    let kept = and_parts (segment_good Code (about_segment w)) (not (about_args w.1).returns) goods.0 in
    let q = p.2 in
    let o : IsOperator (codes "::") p.0 q.0 = bit_alone (Operator (codes "::")) p.0 q.0 q.1 in
    let behind = op_no_item (codes "::") refl p.0 o.0 in
    word_alone w.0.raw w.0.text ts l.0 rest l.1 (elim (args_colons w.1 depth l.0 p.0 p.1 (and_parts _ (about_args w.1).code.good kept.0).1) [
      | inl n ↦ inl n
      | inr e ↦ inl (rw e behind)
    ])

-- the first word is one of these
abbrev pub named_item : Tokens → Bool
named_item ts = first (is_keyword (codes "union")) ts || first (is_keyword (codes "macro_rules")) ts

op_not_named : (text : List ℕ) (ts : Tokens) → is_op text ts ≡ true → named_item ts ≡ false
op_not_named text ts h = rw (op_front text ts h).2 refl

pub path_alone : (p : Path) (depth : ℕ) (ts rest : Tokens) → Spells (about_path p Code).form depth ts rest → (about_path p Code).good ≡ true
    → named_item ts ≡ true → Alone true ts rest
path_alone p depth ts rest s g h =
    let t = path_parts Code p depth ts rest s in
    by p.start (start_view p.start) t.0 t.1 (segments_alone p.segments depth t.0 rest (path_goods Code p g).1 t.2)
  where
    by : (b : PathStart) → PathStartView b → (mid : Tokens) → Spells (about_start b).form depth ts mid → Alone true mid rest → Alone true ts rest
    by _ IsLocal mid t a =
        let e : ts ≡ mid = subst (λ (F : Facts). Spells F.form depth ts mid) start_local_is t in subst (λ us. Alone true us rest) (sym e) a
    by _ IsGlobal mid t a =
        let o : IsOperator (codes "::") ts mid =
        piece_bit (Operator (codes "::")) depth ts mid (subst (λ (F : Facts). Spells F.form depth ts mid) start_global_is t) in
        let n = op_not_named (codes "::") ts o.0 in absurd (cc)
    by _ (IsQualified x of) mid t a =
        let v = subst (λ (F : Facts). Spells F.form depth ts mid) (start_qualified_is x of) t in
        let o : IsOne _ (codes "<") ts v.0 = bit_alone less ts v.0 v.1 in
        let n : named_item ts ≡ false = rw (one_front _ (codes "<") ts v.0 o).1 refl in absurd (cc)

-- ---- the facts about an expression

-- the words after `async` that make it a function
abbrev pub fn_words : List (List ℕ)
fn_words = codes "fn" ∷ codes "unsafe" ∷ codes "extern" ∷ []

pub record Plain (may : Bool) (ts rest : Tokens) : Type 0 where
  pub braced : first (is_keyword (codes "unsafe")) ts ≡ true → first (opens Brace) (tail ts) ≡ true
  pub moved : first (is_keyword (codes "async")) ts ≡ true → begins_with fn_words (tail ts) ≡ false
  pub alone : named_item ts ≡ true → Alone may ts rest

-- what goes on with an expression begins no item
goes_on : (some may : Bool) (ts mid rest : Tokens) → Plain some ts mid → NoItem mid → Plain may ts rest
goes_on some may ts mid rest p n = record {
  braced = p.braced;
  moved = p.moved;
  alone = λ e. elim (p.alone e) [ inl a ↦ inr (subst NoItem (sym a.1) n) | inr m ↦ inr m ];
}

-- A word that begins an expression of one kind begins none of another.
word_not_lead : (word : List ℕ) (m l : ExprLead) → ((us : Tokens) → expr_lead_of_word word us ≡ Some m) → (Some m ≡ Some l → ⊥) → (ts : Tokens)
    → expr_lead_at ts ≡ Some l → first (is_keyword word) ts ≡ false
word_not_lead word m l is differs ts h = false_from_ne_true (first (is_keyword word) ts) (λ e.
    differs (sym (one_lead Ident word ts (tail ts) (keyword_one word ts e) ∙ is (tail ts)) ∙ h))

-- After the `async` of a closure no function stands.
closure_no_fn : (ts : Tokens) → begins_closure ts ≡ true → begins_with fn_words ts ≡ false
closure_no_fn ts h =
    elim (or_cases (first (is_mark (codes "|")) ts) (first (is_keyword (codes "move")) ts && first (is_mark (codes "|")) (tail ts)) h) [
      | inl b ↦ rw (one_front Punct (codes "|") ts (tail ts) (mark_one (codes "|") ts b)).1 refl
      | inr m ↦
          let p = and_parts (first (is_keyword (codes "move")) ts) (first (is_mark (codes "|")) (tail ts)) m in
          rw (one_front Ident (codes "move") ts (tail ts) (keyword_one (codes "move") ts p.0)).1 refl
    ]

async_no_fn : (ts : Tokens) (l : ExprLead) → expr_lead_at ts ≡ Some l → (Some ByBlockWord ≡ Some l → ⊥)
    → first (is_keyword (codes "async")) ts ≡ true → begins_with fn_words (tail ts) ≡ false
async_no_fn ts l h differs e = elim (cases_Bool (begins_closure (tail ts))) [
  | inl c ↦ closure_no_fn (tail ts) c
  | inr n ↦
      let led : async_lead (tail ts) ≡ ByBlockWord = rw n refl in
      absurd (differs (sym (async_begins ts (tail ts) (keyword_one (codes "async") ts e) ∙ ap Some led) ∙ h))
]

-- what begins neither with a path nor with a word of a block
abbrev is_other_lead : ExprLead → Bool
is_other_lead ByPath = false
is_other_lead ByBlockWord = false
is_other_lead _ = true

lead_plain : (may : Bool) (ts rest : Tokens) (l : ExprLead) → expr_lead_at ts ≡ Some l → is_other_lead l ≡ true → Plain may ts rest
lead_plain may ts rest l h o =
    let a = word_not_lead (codes "unsafe") ByBlockWord l (λ us. refl) (other ByBlockWord refl) ts h in
    let c = word_not_lead (codes "union") ByPath l (λ us. refl) (other ByPath refl) ts h in
    let d = word_not_lead (codes "macro_rules") ByPath l (λ us. refl) (other ByPath refl) ts h in
    let n : named_item ts ≡ false = rw (c, d) refl in
    record { braced = λ e. absurd (cc); moved = async_no_fn ts l h (other ByBlockWord refl); alone = λ e. absurd (cc) }
  where
    led : Option ExprLead → Bool
    led None = false
    led (Some x) = is_other_lead x

    other : (m : ExprLead) → is_other_lead m ≡ false → Some m ≡ Some l → ⊥
    other m n e = let k : false ≡ true = sym n ∙ (ap led e ∙ o) in cc

path_plain : (may : Bool) (ts rest : Tokens) → expr_lead_at ts ≡ Some ByPath → (named_item ts ≡ true → Alone may ts rest) → Plain may ts rest
path_plain may ts rest h a =
    let u = word_not_lead (codes "unsafe") ByBlockWord ByPath (λ us. refl) (λ e. cc) ts h in
    record { braced = λ e. absurd (cc); moved = async_no_fn ts ByPath h (λ e. cc); alone = a }

-- another word
word_plain : (word : List ℕ) → bytes_eq word (codes "unsafe") ≡ false → bytes_eq word (codes "async") ≡ false
    → (bytes_eq word (codes "union") || bytes_eq word (codes "macro_rules")) ≡ false → (may : Bool) (ts mid rest : Tokens)
    → IsOne Ident word ts mid → Plain may ts rest
word_plain word a b c may ts mid rest o =
    let f = (one_front Ident word ts mid o).1 in
    let u : first (is_keyword (codes "unsafe")) ts ≡ false = rw (f, a) refl in
    let v : first (is_keyword (codes "async")) ts ≡ false = rw (f, b) refl in
    let n : named_item ts ≡ false = rw (f, c) refl in
    record { braced = λ e. absurd (cc); moved = λ e. absurd (cc); alone = λ e. absurd (cc) }

unsafe_plain : (b : Block) (may : Bool) (depth : ℕ) (ts rest : Tokens) → Spells (Piece (keyword (codes "unsafe") ∷ []) (Part (about_block b).soft Done)) depth ts rest
    → Plain may ts rest
unsafe_plain b may depth ts rest s =
    let o : IsOne Ident (codes "unsafe") ts s.0 = bit_alone (keyword (codes "unsafe")) ts s.0 s.1 in
    let c = soft_opened b depth s.0 rest (part_alone (about_block b).soft depth s.0 rest s.2) in
    let f = (one_front Ident (codes "unsafe") ts s.0 o).1 in
    let there : first (opens Brace) s.0 ≡ true = rw (one_front (Opener Brace) (opening Brace ∷ []) s.0 c.0 c.1).1 refl in
    let left : first (opens Brace) (tail ts) ≡ true = rw f there in
    let v : first (is_keyword (codes "async")) ts ≡ false = rw f refl in
    let n : named_item ts ≡ false = rw f refl in
    record { braced = λ e. left; moved = λ e. absurd (cc); alone = λ e. absurd (cc) }

async_plain : (moves : Bool) (b : Block) (may : Bool) (depth : ℕ) (ts rest : Tokens)
    → Spells (Piece (keyword (codes "async") ∷ []) (when moves (Blank ∷ keyword (codes "move") ∷ []) (Part ((about_block b).form true) Done))) depth ts rest
    → Plain may ts rest
async_plain moves b may depth ts rest s =
    let o : IsOne Ident (codes "async") ts s.0 = bit_alone (keyword (codes "async")) ts s.0 s.1 in
    let f = (one_front Ident (codes "async") ts s.0 o).1 in
    let none = by moves s.0 s.2 in
    let left : begins_with fn_words (tail ts) ≡ false = rw f none in
    let u : first (is_keyword (codes "unsafe")) ts ≡ false = rw f refl in
    let n : named_item ts ≡ false = rw f refl in
    record { braced = λ e. absurd (cc); moved = λ e. left; alone = λ e. absurd (cc) }
  where
    by : (moves : Bool) (us : Tokens) → Spells (when moves (Blank ∷ keyword (codes "move") ∷ []) (Part ((about_block b).form true) Done)) depth us rest
        → begins_with fn_words us ≡ false
    by true us t =
        let o : IsOne Ident (codes "move") us t.0 = bit_alone (keyword (codes "move")) us t.0 (behind_blank (keyword (codes "move") ∷ []) us t.0 t.1) in
        rw (one_front Ident (codes "move") us t.0 o).1 refl
    by false us t =
        let c = block_opened b true depth us rest (part_alone ((about_block b).form true) depth us rest t) in
        rw (one_front (Opener Brace) (opening Brace ∷ []) us c.0 c.1).1 refl

-- a macro call, of which the `!` stands after its path
call_alone : (c : MacroCall) (may : Bool) (depth : ℕ) (ts rest : Tokens) → SpelledCall c depth ts rest → named_item ts ≡ true → Alone may ts rest
unfolding name
call_alone c may depth ts rest s h = by (simple_path_front c.path depth ts s.mid s.good s.path)
  where
    opener_no_name : (us : Tokens) → first (λ t. is_opener t.kind) us ≡ true → is_some (name us) ≡ false
    opener_no_name [] g = absurd (cc)
    opener_no_name (t ∷ us) g = kind t.kind g
      where
        kind : (k : Kind) → is_opener k ≡ true → is_some (name (record t { kind = k } ∷ us)) ≡ false
        kind (Opener d) g = refl
        kind _ g = absurd (cc)

    bang_no_item : NoItem s.mid
    bang_no_item = (op_no_name (codes "!") s.mid s.mark.0, rw (s.mark.1, s.mark.0, opener_no_name s.within s.group.begins) refl)

    by : SimplePathFront ts s.mid → Alone may ts rest
    by (OfLead g) = let n = op_not_named (codes "::") ts g in absurd (cc)
    by (OfWord raw text at o g) = inr (rw (one_left (word_kind raw) text ts at o) (op_no_item (codes "::") refl at g))
    by (OfOne raw text o) = inr (rw (one_left (word_kind raw) text ts s.mid o) bang_no_item)

-- a struct literal, of which the `{` stands after its path
struct_alone : (p : Path) (fs : List Form) (last may : Bool) (depth : ℕ) (ts mid rest : Tokens) → Spells (about_path p Code).form depth ts mid
    → (about_path p Code).good ≡ true → Spells (braces last fs) depth mid rest → named_item ts ≡ true → Alone may ts rest
struct_alone p fs last may depth ts mid rest s g b h = elim (path_alone p depth ts mid s g h) [
  | inl e ↦ let o = opened fs b in
      let there : first (opens Brace) mid ≡ true = rw (one_front (Opener Brace) (opening Brace ∷ []) mid o.0 o.1).1 refl in
      inr (subst NoItem (sym e.1) (opener_no_item Brace mid there))
  | inr n ↦ inr n
]
  where
    opened : (fs : List Form) → Spells (braces last fs) depth mid rest → (inner : Tokens) × IsOne (Opener Brace) (opening Brace ∷ []) mid inner
    opened [] b = let c = behind_blank (opener Brace ∷ closer Brace ∷ []) mid b.0 b.1 in (c.0, c.1)
    opened (f ∷ fs) b = (b.0, bit_alone (opener Brace) mid b.0 (behind_blank (opener Brace ∷ []) mid b.0 b.1))

-- ---- all kinds

abbrev AllPlain : ℕ → Type 0
AllPlain depth = (x : Expr) (no_struct begun : Bool) (ts rest : Tokens) → Spells (about_expr x).form depth ts rest
    → (about_expr x).within no_struct begun ≡ true → Plain (not (about_expr x).block_like) ts rest

module _ (depth : ℕ) (ih : AllPlain depth) (no_struct begun : Bool) (ts rest : Tokens) where
  -- an expression with these facts, one level less deep
  abbrev Begins : ExprFacts → Type 0
  Begins F = Spells F.form (suc depth) ts rest → F.within no_struct begun ≡ true → Plain (not F.block_like) ts rest

  told : (x : Expr) (F : ExprLayer) → about_expr x ≡ expr_facts F
      → (Spells (inside F) depth ts rest → within_of F no_struct begun ≡ true → Plain (not (is_block_like F)) ts rest) → Begins (about_expr x)
  told x F e f = subst Begins (sym e) (λ s w. f (subst (λ us. Spells (inside F) depth ts us) s.2 s.1) w)

  -- what the tokens begin with
  lead_there : (x : Expr) (F : ExprLayer) → about_expr x ≡ expr_facts F → Spells (about_expr x).form (suc depth) ts rest
      → (about_expr x).within no_struct begun ≡ true → expr_lead_at ts ≡ Some (lead_of F)
  lead_there x F e s w = (expr_begins x no_struct begun (suc depth) ts rest s w).lead ∙ ap (λ (G : ExprFacts). Some G.lead) e

  by_lead : (x : Expr) (F : ExprLayer) → about_expr x ≡ expr_facts F → is_other_lead (lead_of F) ≡ true → Begins (about_expr x)
  by_lead x F e o s w = lead_plain (not (about_expr x).block_like) ts rest (lead_of F) (lead_there x F e s w) o

  -- one that begins with a path
  by_path : (x : Expr) (F : ExprLayer) → about_expr x ≡ expr_facts F → lead_of F ≡ ByPath
      → (Spells (inside F) depth ts rest → within_of F no_struct begun ≡ true → named_item ts ≡ true → Alone (not (is_block_like F)) ts rest)
      → Begins (about_expr x)
  by_path x F e l f s w =
      let lead = lead_there x F e s w ∙ ap Some l in
      told x F e (λ t v. path_plain (not (is_block_like F)) ts rest lead (f t v)) s w

  -- one that begins with another, before what goes on with it
  led : (may : Bool) (x : Expr) (place : Place) (f : Form) → placed (about_expr x) place ≡ true → Spells (Part (about_expr x).form f) depth ts rest
      → ((mid : Tokens) → Spells f depth mid rest → NoItem mid) → Plain may ts rest
  led may x place f w s n =
      goes_on (not (about_expr x).block_like) may ts s.0 rest
      (ih x place.no_struct (begins place.start) ts s.0 s.1 (within_held (about_expr x) place w)) (n s.0 s.2)

  chain_plain : (x : Expr) (more : List (Op × Expr)) → Begins (about_expr (expr.Chain x more))
  chain_plain x [] = told (expr.Chain x []) (Expr-F.Chain (about_expr x) []) (expr_chain_is x []) (λ s w. absurd (cc))
  chain_plain x (y ∷ ys) = told (expr.Chain x (y ∷ ys)) (Expr-F.Chain (about_expr x) (map behind_op (y ∷ ys))) (expr_chain_is x (y ∷ ys)) (λ s w.
      let os = map behind_op (y ∷ ys) in
      let level = level_of_chain os in
      let place = before_op (suc level) no_struct begun (next_is_angle os) in
      let w4 = and_parts (is_chain_level level && may_chain level os && placed (about_expr x) place) (operands_placed level no_struct os) w in
      let w3 = and_parts (is_chain_level level && may_chain level os) (placed (about_expr x) place) w4.0 in
      led true x place (operands_form os) w3.1 (subst (λ us. Spells (Part (about_expr x).form (operands_form os)) depth ts us) s.2 s.1)
      (λ mid t. between_no_item y.0 mid (operator_there (op_text y.0) mid t.0 t.1)))

  cast_plain : (x : Expr) (types : List Ty) → Begins (about_expr (expr.Cast x types))
  cast_plain x [] = told (expr.Cast x []) (Expr-F.Cast (about_expr x) []) (expr_cast_is x []) (λ s w. absurd (cc))
  cast_plain x (y ∷ ys) = told (expr.Cast x (y ∷ ys)) (Expr-F.Cast (about_expr x) (y ∷ ys)) (expr_cast_is x (y ∷ ys)) (λ s w.
      let place = before_op 12 no_struct begun false in
      let fs = map about_type (y ∷ ys) in
      let w2 = and_parts (placed (about_expr x) place) (types_good fs) w in
      led true x place (types_form fs) w2.0 s (λ mid t.
      let o = before_blank (keyword (codes "as")) mid t.0 (behind_blank (keyword (codes "as") ∷ Blank ∷ []) mid t.0 t.1) in
      as_no_item mid t.0 o))

  postfix_plain : (x : Expr) (steps : List Step) → Begins (about_expr (expr.Postfix x steps))
  postfix_plain x [] = told (expr.Postfix x []) (Expr-F.Postfix (about_expr x) []) (expr_postfix_is x []) (λ s w. absurd (cc))
  postfix_plain x (y ∷ ys) =
      told (expr.Postfix x (y ∷ ys)) (Expr-F.Postfix (about_expr x) (map about_step (y ∷ ys))) (expr_postfix_is x (y ∷ ys)) (λ s w.
      let F = about_expr x in
      let ss = map about_step (y ∷ ys) in
      let several = nat_le 2 (methods ss) in
      let place = before_op 14 no_struct (begun && not (first_step is_dotted ss)) false in
      let w1 = and_parts (is_there ss && are_steps ss && not (F.is_number && first_step is_tuple_index ss)) (placed F place) w in
      let form : Form = Part F.form (steps_form several false ss) in
      led true x place (steps_form several false ss) w1.1 (ungrouped several form s) (λ mid t.
      let f : Form = Part (about_step y).form (steps_form several (is_method (about_step y).kind) (map about_step ys)) in
      let u = unbroken (several && (false && is_method (about_step y).kind)) f mid t in
      step_no_item mid (step_begun y depth mid u.0 u.1).begins))
    where
      ungrouped : (b : Bool) (f : Form) → Spells (group_if b f) depth ts rest → Spells f depth ts rest
      ungrouped true f s = subst (λ us. Spells f depth ts us) s.2 s.1
      ungrouped false f s = s

      unbroken : (b : Bool) (f : Form) (us : Tokens) → Spells (break_if b f) depth us rest → Spells f depth us rest
      unbroken true f us s = s
      unbroken false f us s = s

  range_plain : (start : Option Expr) (inclusive : Bool) (end : Option Expr) → Begins (about_expr (expr.Range start inclusive end))
  range_plain None inclusive end =
      by_lead (expr.Range None inclusive end) (Expr-F.Range None inclusive (option_map about_expr end)) (expr_range_is None inclusive end) refl
  range_plain (Some x) inclusive end =
      told (expr.Range (Some x) inclusive end) (Expr-F.Range (Some (about_expr x)) inclusive (option_map about_expr end))
      (expr_range_is (Some x) inclusive end) (λ s w.
      let place = before_op 2 no_struct begun false in
      led true x place (Piece (dots inclusive) (end_form (option_map about_expr end) Done))
      (and_parts (placed (about_expr x) place) (end_placed (option_map about_expr end) inclusive no_struct) w).0 s
      (λ mid t. dots_no_item inclusive mid t.0 t.1))

  assign_plain : (targets : List (Expr × Op)) (x : Expr) → Begins (about_expr (expr.Assign targets x))
  assign_plain [] x = told (expr.Assign [] x) (Expr-F.Assign [] (about_expr x)) (expr_assign_is [] x) (λ s w. absurd (cc))
  assign_plain (y ∷ ys) x = told (expr.Assign (y ∷ ys) x) (Expr-F.Assign (map target_of (y ∷ ys)) (about_expr x))
      (expr_assign_is (y ∷ ys) x) (λ s w.
      let place = before_op 1 no_struct begun false in
      let more = map target_of ys in
      let t = (and_parts (targets_placed (map target_of (y ∷ ys)) no_struct begun) (placed (about_expr x) (plain 1 no_struct)) w).0 in
      let p = (and_parts ((op_level y.1 == 0) && placed (about_expr y.0) place) (targets_placed more no_struct false) t).0 in
      let behind : Form = Piece (Blank ∷ [])
      (Piece (Operator (op_text y.1) ∷ []) (Piece (Blank ∷ []) (N (targets_form more (Part (about_expr x).form Done))))) in
      led true y.0 place behind (and_parts (op_level y.1 == 0) (placed (about_expr y.0) place) p).1 s (λ mid u.
      let e : mid ≡ u.0 = bit_alone Blank mid u.0 u.1 in
      let v = u.2 in
      subst NoItem (sym e) (between_no_item y.1 u.0 (operator_there (op_text y.1) u.0 v.0 v.1))))

  plain_view : (x : Expr) → ExprView x → Begins (about_expr x)
  plain_view _ (IsLit l) = by_lead (expr.Lit l) (Expr-F.Lit l) (expr_lit_is l) refl
  plain_view _ (IsPath p) = by_path (expr.Path p) (Expr-F.Path p) (expr_path_is p) refl (λ s w h. path_alone p depth ts rest s w h)
  plain_view _ IsUnderscore = by_lead expr.Underscore Expr-F.Underscore expr_underscore_is refl
  plain_view _ (IsCall c) = by_path (expr.Call c) (Expr-F.Expr::Call c) (expr_call_is c) refl (λ s w h.
      call_alone c (not (is_brace c.tokens.delim)) depth ts rest (call_complete c depth ts rest (s, w, refl)) h)
  plain_view _ (IsParen x) = by_lead (expr.Paren x) (Expr-F.Paren (about_expr x)) (expr_paren_is x) refl
  plain_view _ (IsContinue label) = by_lead (expr.Continue label) (Expr-F.Continue label) (expr_continue_is label) refl
  plain_view _ (IsTuple xs) = by_lead (expr.Tuple xs) (Expr-F.Tuple (map about_expr xs)) (expr_tuple_is xs) refl
  plain_view _ (IsArray xs) = by_lead (expr.Array xs) (Expr-F.Array (map about_expr xs)) (expr_array_is xs) refl
  plain_view _ (IsRepeat x us) = by_lead (expr.Repeat x us) (Expr-F.Repeat (about_expr x) us) (expr_repeat_is x us) refl
  plain_view _ (IsStruct p fields base) =
      let fs = map about_field_expr fields in
      let last = option_map (option_map about_expr) base in
      by_path (expr.Struct p fields base) (Expr-F.Expr::Struct p fs last) (expr_struct_is p fields base) refl (λ s w h.
      let w2 = and_parts ((about_path p Code).good && all_good fs) (base_placed last) w in
      let good = (and_parts (about_path p Code).good (all_good fs) w2.0).0 in
      struct_alone p (map (λ (x : Facts). x.form) fs ++ base_form last) (not (is_some last)) true depth ts s.0 rest s.1 good s.2 h)
  plain_view _ (IsChain x more) = chain_plain x more
  plain_view _ (IsCast x types) = cast_plain x types
  plain_view _ (IsUnary ps x) = by_lead (expr.Unary ps x) (Expr-F.Unary ps (about_expr x)) (expr_unary_is ps x) refl
  plain_view _ (IsRange start inclusive end) = range_plain start inclusive end
  plain_view _ (IsAssign targets x) = assign_plain targets x
  plain_view _ (IsPostfix x steps) = postfix_plain x steps
  plain_view _ (IsBlock None b) = by_lead (expr.Block None b) (Expr-F.Block None (about_block b)) (expr_block_is None b) refl
  plain_view _ (IsBlock (Some l) b) = by_lead (expr.Block (Some l) b) (Expr-F.Block (Some l) (about_block b)) (expr_block_is (Some l) b) refl
  plain_view _ (IsUnsafe b) = told (expr.Unsafe b) (Expr-F.Unsafe (about_block b)) (expr_unsafe_is b) (λ s w. unsafe_plain b false depth ts rest s)
  plain_view _ (IsConstBlock b) = told (expr.ConstBlock b) (Expr-F.ConstBlock (about_block b)) (expr_const_block_is b) (λ s w.
      word_plain (codes "const") refl refl refl false ts s.0 rest (bit_alone (keyword (codes "const")) ts s.0 s.1))
  plain_view _ (IsAsync moves b) = told (expr.Async moves b) (Expr-F.Async moves (about_block b)) (expr_async_is moves b) (λ s w.
      async_plain moves b true depth ts rest s)
  plain_view _ (IsIf [] o) = told (expr.If [] o) (Expr-F.If [] (option_map about_block o)) (expr_if_is [] o) (λ s w. absurd (cc))
  plain_view _ (IsIf (b ∷ bs) o) =
      told (expr.If (b ∷ bs) o) (Expr-F.If (map about_branch (b ∷ bs)) (option_map about_block o)) (expr_if_is (b ∷ bs) o) (λ s w.
      let t = s.1 in word_plain (codes "if") refl refl refl false ts t.1.0 rest t.1.1)
  plain_view _ (IsMatch x attrs arms) =
      told (expr.Match x attrs arms) (Expr-F.Match (about_expr x) attrs (map about_arm arms)) (expr_match_is x attrs arms) (λ s w.
      let t = s.1 in word_plain (codes "match") refl refl refl false ts t.1.0 rest t.1.1)
  plain_view _ (IsLoop None b) = told (expr.Loop None b) (Expr-F.Loop None (about_block b)) (expr_loop_is None b) (λ s w.
      word_plain (codes "loop") refl refl refl false ts s.0 rest (bit_alone (keyword (codes "loop")) ts s.0 s.1))
  plain_view _ (IsLoop (Some l) b) = by_lead (expr.Loop (Some l) b) (Expr-F.Loop (Some l) (about_block b)) (expr_loop_is (Some l) b) refl
  plain_view _ (IsWhile None c b) =
      told (expr.While None c b) (Expr-F.While None (about_condition c) (about_block b)) (expr_while_is None c b) (λ s w.
      let t = s.1 in word_plain (codes "while") refl refl refl false ts t.1.0 rest t.1.1)
  plain_view _ (IsWhile (Some l) c b) =
      by_lead (expr.While (Some l) c b) (Expr-F.While (Some l) (about_condition c) (about_block b)) (expr_while_is (Some l) c b) refl
  plain_view _ (IsFor None pat x b) =
      told (expr.For None pat x b) (Expr-F.For None pat (about_expr x) (about_block b)) (expr_for_is None pat x b) (λ s w.
      let t = s.1 in word_plain (codes "for") refl refl refl false ts t.1.0 rest t.1.1)
  plain_view _ (IsFor (Some l) pat x b) =
      by_lead (expr.For (Some l) pat x b) (Expr-F.For (Some l) pat (about_expr x) (about_block b)) (expr_for_is (Some l) pat x b) refl
  plain_view _ (IsClosure is_async moves params x) =
      by_lead (expr.Closure is_async moves params x) (Expr-F.Closure is_async moves params (about_expr x)) (expr_closure_is is_async moves params x) refl
  plain_view _ (IsTypedClosure is_async moves params output b) =
      by_lead (expr.TypedClosure is_async moves params output b) (Expr-F.TypedClosure is_async moves params output (about_block b))
      (expr_typed_closure_is is_async moves params output b) refl
  plain_view _ (IsReturn x) = by_lead (expr.Return x) (Expr-F.Return (option_map about_expr x)) (expr_return_is x) refl
  plain_view _ (IsBreak label x) = by_lead (expr.Break label x) (Expr-F.Break label (option_map about_expr x)) (expr_break_is label x) refl

all_plain : (depth : ℕ) → AllPlain depth
all_plain zero x no_struct begun ts rest s w = absurd (no_depth x ts rest s)
all_plain (suc depth) x no_struct begun ts rest s w = plain_view depth (all_plain depth) no_struct begun ts rest x (expr_view x) s w

-- what stands in a place
pub placed_plain : (x : Expr) (place : Place) (depth : ℕ) (ts rest : Tokens) → Spells (about_expr x).form depth ts rest
    → placed (about_expr x) place ≡ true → Plain (not (about_expr x).block_like) ts rest
placed_plain x place depth ts rest s w =
    all_plain depth x place.no_struct (begins place.start) ts rest s (within_held (about_expr x) place w)
