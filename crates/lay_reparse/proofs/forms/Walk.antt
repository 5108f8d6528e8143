-- The condition on a form as a function that computes where its layout leads from a border. So a slip in a form that is
-- given whole is seen by computing: forms that it refuses, and some that it lets pass.
use Rattle.std.proofs.Common.{◌≡◌, ℕ, List, [], ◌∷◌, Bool, true, false, cond, not, ◌&&◌, refl, ap, ◌∙◌, codes, Option, Some, None}
use Rattle.std.specs.Str.{chars, is_utf8}
use Rattle.std.proofs.lemmas.Bool.{and_parts, and_from, not-true}
use Rattle.lay_piece.specs.declared.kind.Delim.{Delim}
use Rattle.lay_piece.specs.declared.kind.Delim.TheVariants.{Brace}
use Rattle.lay_piece.specs.declared.kind.Kind.{Kind}
use Rattle.lay_piece.specs.declared.kind.Kind.TheVariants.{Int, Opener, Closer, Doc}
use Rattle.lay_form.specs.Form as form
use Rattle.lay_form.specs.Form.{Bit, Blank, Hard, Fixed, Operator, Semicolons, Braces, Bare, Unseen, Marked, Behind, Nothing, ArmComma, Form, Done, Piece, Leaf, Listed, ListedDoc, Brk, LastComma, Group, Deeper, Optional, Docs, Body, punct, keyword, opener, closer, comma}
use Rattle.lay_form.specs.Spelled.{may_lack}
use Rattle.lay_form.specs.Layout.{bits_end_in_point, token_ends_in_point, space_ends_in_point, keeps_point, ends_behind_point, led}
use Rattle.lay_form.specs.Notation.{N, piece}
use Rattle.lay_reparse.proofs.borders.Need.{Word, Number, Grow, LineDoc, all}
use Rattle.lay_node.specs.tokens.Listing.{is_doc_kind}
use Rattle.lay_reparse.proofs.forms.Opened.{turned, bits_open, is_even, even}
use Rattle.lay_reparse.proofs.texts.Laid.{as_block, raw, laid, is_laid, is_leaf_kind}
use Rattle.lay_reparse.proofs.borders.Border.{Border, Unsure, At, Other, beyond, pass}
use Rattle.lay_reparse.proofs.borders.Move.{under}
use Rattle.lay_reparse.proofs.forms.Passes.{Passes, plain, loosened, piece_passes, braces_pass, ops_fine, leads, fits, behind_leaf, behind_token, token_passes, doc_passes, break_passes, beyond_break, comma_passes, beyond_comma}
use Rattle.lay_reparse.proofs.forms.Rules.{tables, under-refl}

-- whether what is open stays as it is
abbrev is_plain : Kind → Bool
is_plain (Opener d) = false
is_plain (Closer d) = false
is_plain _ = true

abbrev still : List Bit → Bool
still [] = true
still (Fixed k t ∷ p) = is_plain k && still p
still (b ∷ p) = still p

plain_turned : (k : Kind) (o : Option (List Delim)) → is_plain k ≡ true → turned k o ≡ o
plain_turned k None h = refl
plain_turned (Opener d) (Some ds) h = cc
plain_turned (Closer d) (Some ds) h = cc
plain_turned _ (Some ds) h = refl

still_is : (o : Option (List Delim)) (p : List Bit) → still p ≡ true → bits_open o p ≡ o
still_is o [] h = refl
still_is o (Blank ∷ p) h = still_is o p h
still_is o (Operator cs ∷ p) h = still_is o p h
still_is o (Semicolons ∷ p) h = still_is o p h
still_is o (Fixed k t ∷ p) h = let q = and_parts (is_plain k) _ h in ap (λ z. bits_open z p) (plain_turned k o q.0)
    ∙ still_is o p q.1

abbrev and_then : Option Border → (Border → Option Border) → Option Border
and_then None f = None
and_then (Some b) f = f b

abbrev pub walk : Option (List Delim) → Bool → Form → Border → Option Border
walk o v Done b = cond (is_even o) (Some b) None
walk o v (Piece p f) b = cond (piece_passes v b p)
    (walk (bits_open o p) (bits_end_in_point v p) f (beyond b (led v p))) None
walk o v (Leaf k t f) b = cond (is_leaf_kind k && all (leads k) b.needs && (fits b.spot k (raw k t) && is_laid k t))
    (walk o (token_ends_in_point k t) f (behind_leaf b k t)) None
walk o v (Listed k t joint f) b = cond (not (is_doc_kind k)
    && (token_passes b v (laid k t) (raw k t) joint t && is_laid k t))
    (walk (turned k o) (token_ends_in_point k t) f (behind_token b (laid k t) (raw k t) joint)) None
walk o v (ListedDoc inner t f) b = cond (token_passes b v (Doc inner (as_block inner t)) (raw (Doc inner false) t) false t
    && is_laid (Doc inner false) t)
    (walk o false f (behind_token b (Doc inner (as_block inner t)) (raw (Doc inner false) t) false)) None
walk o v (Brk g f) b = cond (break_passes g b) (walk o (space_ends_in_point v g) f (beyond_break g b)) None
walk o v (LastComma n f) b = cond (comma_passes n b) (walk o (keeps_point v n) f (beyond_comma n b)) None
walk o v (Group k n i f) b = and_then (walk even v i b) (λ h. walk o (ends_behind_point v i) f h)
walk o v (form.Part i f) b = and_then (walk even v i b) (λ h. walk o (ends_behind_point v i) f h)
walk o v (Deeper i f) b = and_then (walk even v i b) (λ h. walk o (ends_behind_point v i) f h)
walk o v (Optional true p f) b = cond (piece_passes v b p && still p)
    (walk o (bits_end_in_point v p) f (beyond b (led v p))) None
walk o v (Optional false p f) b = cond (ops_fine p && still p) (walk o v f b) None
walk o v (Docs inner t f) b = cond (doc_passes b (Doc inner (as_block inner t)) (raw (Doc inner false) t) t
    && is_laid (Doc inner false) t)
    (walk o false f (record { needs = cond (as_block inner t) [] (LineDoc ∷ []); spot = At Other })) None
walk o v (Body Bare Nothing i f) b = and_then (walk even v i b) (λ h. walk o (ends_behind_point v i) f h)
walk o v (Body Bare (ArmComma last like) i f) b = and_then (walk even v i b)
    (λ h. cond (pass h comma) (walk o false f (beyond h comma)) None)
walk o v (Body Unseen Nothing i f) b = and_then (walk even v i b) (λ h. walk o (ends_behind_point v i) f h)
walk o v (Body Unseen (ArmComma last like) i f) b = cond (may_lack last like 0)
    (and_then (walk even v i b) (λ h. walk o (ends_behind_point v i) f h)) None
walk o v (Body Marked Nothing i f) b = and_then (walk even v i b)
    (λ h. cond (braces_pass b b h) (walk o (ends_behind_point v i) f (loosened h)) None)
walk o v (Body Marked (ArmComma last like) i f) b = and_then (walk even v i b)
    (λ h. cond (braces_pass b b h && (pass h comma && under (beyond h comma) plain)) (walk o false f plain) None)

abbrev pub Ends : Border → Option Border → Type 0
Ends c None = ⊥
Ends c (Some b) = under b c ≡ true

when_so : (c : Border) (x : Bool) (r : Option Border) → Ends c (cond x r None) → (x ≡ true) × Ends c r
when_so c true r h = (refl, h)
when_so c false r h = absurd h

then_so : (c : Border) (r : Option Border) (f : Border → Option Border) → Ends c (and_then r f)
    → (h : Border) × Ends h r × Ends c (f h)
then_so c None f h = absurd h
then_so c (Some b) f h = (b, under-refl b, h)

-- The test is enough.
pub walks : (f : Form) (o : Option (List Delim)) (v : Bool) (b c : Border) → Ends c (walk o v f b) → Passes o v f b c
walks Done o v b c h = let q = when_so c (is_even o) (Some b) h in and_from (is_even o) _ q.0 q.1
walks (Piece p f) o v b c h = let q = when_so c _ _ h in (q.0, walks f _ _ _ c q.1)
walks (Leaf k t f) o v b c h = let q = when_so c _ _ h in let r =
    and_parts (is_leaf_kind k && all (leads k) b.needs) _ q.0 in (r.0, r.1, walks f _ _ _ c q.1)
walks (Listed k t joint f) o v b c h = let q = when_so c _ _ h in let r = and_parts (not (is_doc_kind k)) _ q.0 in
    (not-true _ r.0, r.1, walks f _ _ _ c q.1)
walks (ListedDoc inner t f) o v b c h = let q = when_so c _ _ h in (q.0, walks f _ _ _ c q.1)
walks (Brk g f) o v b c h = let q = when_so c _ _ h in (q.0, walks f _ _ _ c q.1)
walks (LastComma n f) o v b c h = let q = when_so c _ _ h in (q.0, walks f _ _ _ c q.1)
walks (Group k n i f) o v b c h = let q = then_so c (walk even v i b) _ h in
    (b, q.0, under-refl b, walks i even v b q.0 q.1, walks f o _ q.0 c q.2)
walks (form.Part i f) o v b c h = let q = then_so c (walk even v i b) _ h in
    (b, q.0, under-refl b, walks i even v b q.0 q.1, walks f o _ q.0 c q.2)
walks (Deeper i f) o v b c h = let q = then_so c (walk even v i b) _ h in
    (b, q.0, under-refl b, walks i even v b q.0 q.1, walks f o _ q.0 c q.2)
walks (Optional true p f) o v b c h = let q = when_so c _ _ h in let r = and_parts (piece_passes v b p) _ q.0 in
    (r.0, still_is o p r.1, walks f _ _ _ c q.1)
walks (Optional false p f) o v b c h = let q = when_so c _ _ h in let r = and_parts (ops_fine p) _ q.0 in
    (r.0, still_is o p r.1, walks f o v b c q.1)
walks (Docs inner t f) o v b c h = let q = when_so c _ _ h in (q.0, walks f _ _ _ c q.1)
walks (Body Bare Nothing i f) o v b c h = let q = then_so c (walk even v i b) _ h in
    (b, q.0, under-refl b, walks i even v b q.0 q.1, walks f o _ q.0 c q.2)
walks (Body Bare (ArmComma last like) i f) o v b c h =
    let q = then_so c (walk even v i b) _ h in
    let r = when_so c (pass q.0 comma) (walk o false f (beyond q.0 comma)) q.2 in
    (b, q.0, under-refl b, walks i even v b q.0 q.1, r.0, walks f o false (beyond q.0 comma) c r.1)
walks (Body Unseen Nothing i f) o v b c h = let q = then_so c (walk even v i b) _ h in
    (b, q.0, under-refl b, walks i even v b q.0 q.1, walks f o _ q.0 c q.2)
walks (Body Unseen (ArmComma last like) i f) o v b c h =
    let p = when_so c (may_lack last like 0) _ h in
    let q = then_so c (walk even v i b) _ p.1 in
    (p.0, b, q.0, under-refl b, walks i even v b q.0 q.1, walks f o _ q.0 c q.2)
walks (Body Marked Nothing i f) o v b c h =
    let q = then_so c (walk even v i b) _ h in
    let r = when_so c (braces_pass b b q.0) (walk o (ends_behind_point v i) f (loosened q.0)) q.2 in
    (b, q.0, under-refl b, r.0, walks i even v b q.0 q.1, walks f o _ (loosened q.0) c r.1)
walks (Body Marked (ArmComma last like) i f) o v b c h =
    let q = then_so c (walk even v i b) _ h in
    let r = when_so c (braces_pass b b q.0 && (pass q.0 comma && under (beyond q.0 comma) plain)) (walk o false f plain)
    q.2 in
    let p = and_parts (braces_pass b b q.0) (pass q.0 comma && under (beyond q.0 comma) plain) r.0 in
    (b, q.0, under-refl b, p.0, walks i even v b q.0 q.1, p.1, walks f o false plain c r.1)

-- ---- what the test refuses

-- two words in one
two_words : walk even false (Piece (keyword (codes "a") ∷ keyword (codes "b") ∷ []) Done) plain ≡ None
unfolding tables
two_words = refl

-- an operator that another makes longer
longer : walk even false (Piece (Operator (codes "<") ∷ []) (piece (Operator (codes "=") ∷ []))) plain ≡ None
unfolding tables
longer = refl

-- a brace that stays open
open_brace : walk even false (Piece (opener Brace ∷ []) Done) plain ≡ None
unfolding tables
open_brace = refl

-- a `/` before a `/`
comment : walk even false (Piece (Operator (codes "/") ∷ []) (piece (Operator (codes "/") ∷ []))) plain ≡ None
unfolding tables
comment = refl

-- an arm without a comma that isn't the last, whose body is no block
comma_missing : walk even false (Body Unseen (ArmComma false false) (piece (keyword (codes "a") ∷ [])) Done) plain ≡ None
unfolding tables
comma_missing = refl

-- a word directly after a closure's body: after `}` it might stand, after the body's own word it can't
behind_closure : walk even false (Body Marked Nothing (piece (keyword (codes "a") ∷ [])) (piece (keyword (codes "b") ∷ [])))
    plain ≡ None
unfolding tables
behind_closure = refl

-- a tuple index after a number without suffix, which would be a Float with it
abbrev index_of : List ℕ → Form
index_of number = Leaf Int number (Piece (Operator (codes ".") ∷ []) (Leaf Int (codes "0") Done))

float_instead : walk even false (index_of (codes "1")) plain ≡ None
unfolding tables chars is_utf8
float_instead = refl

-- `..` directly after `..`, where no blank comes between them
four_points : walk even false (Piece (Operator (codes "..") ∷ Operator (codes "..") ∷ []) Done) plain ≡ None
unfolding tables
four_points = refl

-- ---- what it lets pass

-- a tuple index after a number with a suffix
behind_suffix : Ends (record { needs = Number ∷ []; spot = At Other }) (walk even false (index_of (codes "1u8")) plain)
unfolding tables chars is_utf8
behind_suffix = refl

abbrev name : List ℕ → Form
name word = piece (keyword word ∷ [])

abbrev block : Form
block = piece (opener Brace ∷ closer Brace ∷ [])

-- an arm of a `match`, before another one; the flags say that it is the last, and that its body is block-like
abbrev arm : Braces → Bool → Bool → Form → Form
arm braces last like i = Piece (keyword (codes "x") ∷ Blank ∷ Operator (codes "=>") ∷ Blank ∷ [])
    (N (Body braces (ArmComma last like) i (Brk (Hard false) (name (codes "y")))))

abbrev ends_word : Border
ends_word = record { needs = Word ∷ []; spot = At Other }

-- `x => a`: with a body in braces or with a comma, with a comma alone, and with nothing after a block
marked_arm : Ends ends_word (walk even false (arm Marked false false (name (codes "a"))) plain)
unfolding tables
marked_arm = refl

bare_arm : Ends ends_word (walk even false (arm Bare false false (name (codes "a"))) plain)
unfolding tables
bare_arm = refl

unseen_arm : Ends ends_word (walk even false (arm Unseen false true block) plain)
unfolding tables
unseen_arm = refl

-- `|| a`, before a `,`
abbrev closure : Braces → Form → Form → Form
closure braces i f = Piece (punct 124 ∷ Blank ∷ []) (N (Body braces Nothing i f))

marked_closure : Ends plain (walk even false (closure Marked (name (codes "a")) (piece comma)) plain)
unfolding tables
marked_closure = refl

bare_closure : Ends plain (walk even false (closure Bare (name (codes "a")) (piece comma)) plain)
unfolding tables
bare_closure = refl

unseen_closure : Ends plain (walk even false (closure Unseen block (piece comma)) plain)
unfolding tables
unseen_closure = refl

-- semicolons that are dropped, before a word
dropped : Ends ends_word (walk even false (Piece (Semicolons ∷ []) (name (codes "a"))) plain)
unfolding tables
dropped = refl

-- `/=`, whose `/` begins no comment
divides : Ends (beyond plain (Operator (codes "/=") ∷ [])) (walk even false (piece (Operator (codes "/=") ∷ [])) plain)
unfolding tables
divides = refl

-- `..=` and a blank before what begins with a point
points : Ends (record { needs = Grow (codes "..") ∷ []; spot = Unsure })
    (walk even false (Piece (Operator (codes "..") ∷ []) (piece (Operator (codes "..") ∷ []))) plain)
unfolding tables
points = refl
