-- A path that isn't a macro call's begins none.
use Rattle.std.proofs.Common.{◌≡◌, ℕ, zero, suc, Bool, true, false, not, ◌&&◌, List, [], ◌∷◌, ◌++◌, map, length, drop, codes, Some, None, refl, ap, subst, ◌∙◌}
use Rattle.std.proofs.lemmas.Bool.{and_parts}
use Rattle.lay_piece.specs.Forms.{opening}
use Rattle.lay_piece.specs.declared.kind.Delim.TheVariants.{Paren}
use Rattle.lay_piece.specs.declared.kind.Kind.TheVariants.{Punct, Opener}
use Rattle.lay_token.specs.Operators.{is_op}
use Rattle.lay_form.specs.Form.{Operator, Form, Done, Piece, Part}
use Rattle.lay_form.specs.Spelled.{IsOne, IsOperator, Spells}
use Rattle.lay_node.specs.Ahead.{Tokens}
use Rattle.lay_node.specs.Words.{is_path_word, colons}
use Rattle.lay_node.specs.nodes.Call.{about_call}
use Rattle.lay_node.specs.nodes.Facts.{Facts}
use Rattle.lay_node.specs.nodes.Types as types
use Rattle.lay_node.specs.nodes.Types.{in_style, segment_form, segments_form, segment_good, segments_good, about_path, about_start, about_args}
use Rattle.lay_node.specs.reader.Loops.{Got, ◌>>=◌, repeat_from, repeat}
use Rattle.lay_node.specs.reader.SimplePath.{begins_colons, further_word, simple_path}
use Rattle.lay_node.specs.reader.Types.{begins_call}
use Rattle.lay_node.specs.reader.Words.{word, global}
use Rattle.lay_node.specs.declared.simple_path.SimplePath.{SimplePath}
use Rattle.lay_node.specs.declared.token.Word.{Word}
use Rattle.lay_node.specs.declared.tokens.MacroCall.{MacroCall}
use Rattle.lay_node.specs.declared.types.Args.{Args}
use Rattle.lay_node.specs.declared.types.Path.{Path}
use Rattle.lay_node.specs.declared.types.PathStart.{PathStart}
use Rattle.lay_node.proofs.Fronts.{one_front, one_no_op, other_op}
use Rattle.lay_node.proofs.Parts.{bit_alone, piece_bit, leaf_parts}
use Rattle.lay_node.proofs.nodes.TypesLaws.{PathStartView, IsLocal, IsGlobal, IsQualified, about_segment, start_view, start_local_is, start_global_is, start_qualified_is}
use Rattle.lay_node.proofs.reader.Call.{call_complete}
use Rattle.lay_node.proofs.reader.SimplePath.{simple_path_complete}
use Rattle.lay_node.proofs.reader.TypesBegins.{ArgsFront, OfNothing, OfLess, OfLate, OfRound, args_front, path_parts, path_goods}
use Rattle.lay_node.proofs.reader.TypesFronts.{no_other_op}
use Rattle.lay_node.proofs.reader.Words.{word_complete, word_no_op}
use Rattle.lay_node.specs.declared.types.PathStyle.{PathStyle}

-- a `!` after what was read
abbrev bang_behind : {A : Type 0} → Got A → Bool
bang_behind None = false
bang_behind (Some x) = is_op (codes "!") x.1

call_test : (ts : Tokens) → begins_call ts ≡ bang_behind (simple_path ts)
call_test ts = by (simple_path ts)
  where
    by : (o : Got SimplePath) → elim o [ None ↦ false | Some p ↦ is_op (codes "!") p.1 ] ≡ bang_behind o
    by None = refl
    by (Some p) = refl

-- what follows a segment
abbrev Next : PathStyle → List (Word × Args) → Form
Next style [] = Done
Next style (s ∷ more) = Piece colons (segments_form style (map about_segment (s ∷ more)))

abbrev NextGood : PathStyle → List (Word × Args) → Type 0
NextGood style [] = Unit {0}
NextGood style (s ∷ more) = segments_good style (map about_segment (s ∷ more)) ≡ true

first_segment : (style : PathStyle) (s : Word × Args) (more : List (Word × Args)) (depth : ℕ) (ts rest : Tokens)
    → Spells (segments_form style (map about_segment (s ∷ more))) depth ts rest
    → Spells (segment_form style (about_segment s) (Next style more)) depth ts rest
first_segment style s [] depth ts rest t = t
first_segment style s (v ∷ more) depth ts rest t = t

first_good : (style : PathStyle) (s : Word × Args) (more : List (Word × Args)) → segments_good style (map about_segment (s ∷ more)) ≡ true
    → (is_path_word s.0.raw s.0.text ≡ true) × NextGood style more
first_good style s [] g = ((and_parts (is_path_word s.0.raw s.0.text) (in_style style (about_args s.1)).good g).0, tt)
first_good style s (v ∷ more) g =
    let goods = and_parts (segment_good style (about_segment s) && not (about_args s.1).returns) (segments_good style (map about_segment (v ∷ more))) g in
    let kept = and_parts (segment_good style (about_segment s)) (not (about_args s.1).returns) goods.0 in
    ((and_parts (is_path_word s.0.raw s.0.text) (in_style style (about_args s.1)).good kept.0).0, goods.1)

mark_no_word : (text : List ℕ) (ts rest : Tokens) → IsOne Punct text ts rest → word ts ≡ None
unfolding word
mark_no_word text ts rest o = rw (one_front Punct text ts rest o).1 refl

-- After a word of a path that isn't a macro call's, the words that go on aren't followed by `!`.
words_no_bang : (style : PathStyle) (ss : List (Word × Args)) (depth n : ℕ) (found : List Word) (ts mid rest : Tokens) → ArgsFront ts mid
    → Spells (Next style ss) depth mid rest → NextGood style ss
    → is_op (codes "::") rest ≡ false → is_op (codes "!") rest ≡ false → bang_behind (repeat_from begins_colons further_word n found ts) ≡ false
unfolding repeat_from
words_no_bang style ss depth zero found ts mid rest front s g no_colons no_bang = refl
words_no_bang style [] depth (suc n) found ts mid rest (OfNothing e) s g no_colons no_bang = rw e (rw s (rw no_colons no_bang))
words_no_bang style (v ∷ more) depth (suc n) found ts mid rest (OfNothing e) s g no_colons no_bang =
    let o : IsOperator (codes "::") mid s.0 = bit_alone (Operator (codes "::")) mid s.0 s.1 in
    let args = in_style style (about_args v.1) in
    let l = leaf_parts v.0.raw v.0.text (Part args.form (Next style more)) depth s.0 rest (first_segment style v more depth s.0 rest s.2) in
    let p = l.2 in
    let goods = first_good style v more g in
    let w = word_complete v.0 s.0 l.0 (l.1, goods.0) in
    let go = words_no_bang style more depth n (found ++ v.0 ∷ []) l.0 p.0 rest (args_front style v.1 depth l.0 p.0 p.1) p.2 goods.1 no_colons no_bang in
    rw e (rw (o.0, o.1, w) go)
words_no_bang style ss depth (suc n) found ts mid rest (OfLess at o) s g no_colons no_bang =
    let a : is_op (codes "::") ts ≡ false = no_other_op 58 (codes ":") 60 ts at refl o in
    let b : is_op (codes "!") ts ≡ false = no_other_op 33 [] 60 ts at refl o in
    rw a b
words_no_bang style ss depth (suc n) found ts mid rest (OfLate at h o) s g no_colons no_bang = rw (h, mark_no_word (codes "<") (drop 2 ts) at o) refl
words_no_bang style ss depth (suc n) found ts mid rest (OfRound at o) s g no_colons no_bang =
    let a : is_op (codes "::") ts ≡ false = one_no_op (codes "::") (Opener Paren) (opening Paren ∷ []) ts at refl o in
    let b : is_op (codes "!") ts ≡ false = one_no_op (codes "!") (Opener Paren) (opening Paren ∷ []) ts at refl o in
    rw a b

made_no_bang : (leads : Bool) (w : Word) (o : Got (List Word)) → bang_behind o ≡ false
    → bang_behind (o >>= (λ more. let found : Got SimplePath = Some (record { global = leads; words = w ∷ more.0 }, more.1) in found)) ≡ false
made_no_bang leads w None h = refl
made_no_bang leads w (Some x) h = h

-- So no macro call begins where a path is spelled that no `!` follows.
pub path_no_call : (style : PathStyle) (p : Path) (depth : ℕ) (ts rest : Tokens) → Spells (about_path p style).form depth ts rest → (about_path p style).good ≡ true
    → is_op (codes "::") rest ≡ false → is_op (codes "!") rest ≡ false → begins_call ts ≡ false
unfolding simple_path repeat
path_no_call style p depth ts rest s g no_colons no_bang =
    let t = path_parts style p depth ts rest s in
    let goods = path_goods style p g in
    call_test ts ∙ by p.start (start_view p.start) t.0 t.1 p.segments t.2 goods.1
  where
    behind : (leads : Bool) (ss : List (Word × Args)) (mid : Tokens) → global ts ≡ (leads, mid)
        → Spells (segments_form style (map about_segment ss)) depth mid rest
        → segments_good style (map about_segment ss) ≡ true → bang_behind (simple_path ts) ≡ false
    behind leads [] mid e t h = absurd (cc)
    behind leads (v ∷ more) mid e t h =
        let args = in_style style (about_args v.1) in
        let l = leaf_parts v.0.raw v.0.text (Part args.form (Next style more)) depth mid rest (first_segment style v more depth mid rest t) in
        let q = l.2 in
        let k = first_good style v more h in
        let w = word_complete v.0 mid l.0 (l.1, k.0) in
        let go = words_no_bang style more depth (suc (length l.0)) [] l.0 q.0 rest (args_front style v.1 depth l.0 q.0 q.1) q.2 k.1 no_colons no_bang in
        rw (e, w) (made_no_bang leads v.0 (repeat begins_colons further_word l.0) go)

    by : (b : PathStart) → PathStartView b → (mid : Tokens) → Spells (about_start b).form depth ts mid → (ss : List (Word × Args))
        → Spells (segments_form style (map about_segment ss)) depth mid rest → segments_good style (map about_segment ss) ≡ true
        → bang_behind (simple_path ts) ≡ false
    by _ IsLocal mid t [] u h = absurd (cc)
    by _ IsLocal mid t (v ∷ more) u h =
        let e : ts ≡ mid = subst (λ (F : Facts). Spells F.form depth ts mid) start_local_is t in
        let l = leaf_parts v.0.raw v.0.text (Part (in_style style (about_args v.1)).form (Next style more)) depth mid rest (first_segment style v more depth mid rest u) in
        let none : is_op (codes "::") ts ≡ false = rw e (word_no_op (codes "::") v.0.raw v.0.text mid l.0 l.1) in
        behind false (v ∷ more) mid (rw none (ap (λ (us : Tokens). let found : Bool × Tokens = (false, us) in found) e)) u h
    by _ IsGlobal mid t ss u h =
        let o : IsOperator (codes "::") ts mid =
        piece_bit (Operator (codes "::")) depth ts mid (subst (λ (F : Facts). Spells F.form depth ts mid) start_global_is t) in
        behind true ss mid (rw (o.0, o.1) refl) u h
    by _ (IsQualified x of) mid t ss u h =
        let v = subst (λ (F : Facts). Spells F.form depth ts mid) (start_qualified_is x of) t in
        let o : IsOne Punct (codes "<") ts v.0 = bit_alone types.less ts v.0 v.1 in
        let none : is_op (codes "::") ts ≡ false = no_other_op 58 (codes ":") 60 ts v.0 refl o in
        rw (none, mark_no_word (codes "<") ts v.0 o) refl

pub call_there : (c : MacroCall) (depth : ℕ) (ts rest : Tokens) → Spells (about_call c).form depth ts rest → (about_call c).good ≡ true → begins_call ts ≡ true
call_there c depth ts rest s g =
    let r = call_complete c depth ts rest (s, g, refl) in
    let no_colons : is_op (codes "::") r.mid ≡ false = other_op (codes "!") (codes "::") refl r.mid r.mark.0 in
    let p = simple_path_complete c.path depth ts r.mid (r.path, r.good, rw no_colons refl) in
    call_test ts ∙ ap (λ (o : Got SimplePath). bang_behind o) p ∙ r.mark.0
