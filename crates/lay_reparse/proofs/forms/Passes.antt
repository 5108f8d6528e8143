-- When a form may be laid out from one border to another: one condition for each constructor, which speaks of the form
-- alone. What pieces, tokens and documentation do there, as moves.
use Rattle.std.proofs.Common.{◌≡◌, ℕ, zero, suc, ◌+◌, inl, inr, List, [], ◌∷◌, ◌++◌, Bool, true, false, cond, not, ◌&&◌, ◌||◌, sym, refl, ap, ◌∙◌, subst}
use Rattle.std.specs.Prelude.{◌==◌, Option}
use Rattle.std.specs.Str.{chars, encode_utf8_all, is_utf8, bytes_eq}
use Rattle.std.proofs.lemmas.Bool.{eqb-true, and_parts, and_from, cases_Bool, not-true}
use Rattle.unicode_ident.proofs.Computing.{unicode_ident}
use Rattle.lay_piece.specs.Chars.{begins, is_nil, starts_word}
use Rattle.lay_piece.specs.Number.{is_index, fronts_index}
use Rattle.lay_piece.specs.Forms.{Had, had, has_form, after_literal, is_number_kind, is_int_kind, doc_opening}
use Rattle.lay_token.specs.Lexes.{Part, is_punct, tokens_from, text_of_piece, is_joint, size}
use Rattle.lay_piece.specs.declared.kind.Delim.{Delim}
use Rattle.lay_piece.specs.declared.kind.Delim.TheVariants.{Brace}
use Rattle.lay_piece.specs.declared.kind.Kind.{Kind}
use Rattle.lay_piece.specs.declared.kind.Kind.TheVariants.{Ident, RawIdent, Int, Punct, Opener, Closer, Doc}
use Rattle.lay_token.specs.declared.token.Token.{Token}
use Rattle.lay_token.proofs.Deciding.{bytes_same}
use Rattle.lay_form.specs.Form as form
use Rattle.lay_form.specs.Form.{Bit, Blank, Fixed, Operator, Semicolons, Space, Soft, Hard, Never, Bare, Unseen, Marked, Nothing, ArmComma, Form, Done, Piece, Leaf, Listed, ListedDoc, Brk, LastComma, Group, Deeper, Optional, Docs, Body, opener, comma}
use Rattle.lay_form.specs.Spelled.{IsOne, IsListed, IsComment, AreBits, IsDoc, may_lack}
use Rattle.lay_form.specs.Layout.{text_of_bits, token_ends_in_point, bits_end_in_point, keeps_point, space_ends_in_point, ends_behind_point, led}
use Rattle.lay_reparse.proofs.borders.Need.{Text, begins_dot, point_of, Need, Grow, IntPoint, Number, Joint, Loose, LineDoc, allows, keeps, next_part, met, all, all_met, all_append, all_by, blank_ok, line_ok, suits, part, asks, follows, had_form, had_index, had_free, fronts_alone}
use Rattle.lay_reparse.proofs.borders.OperatorRuns.{is_operator}
use Rattle.lay_reparse.proofs.forms.Opened.{turned, bits_open, is_even, even}
use Rattle.lay_node.specs.tokens.Listing.{is_doc_kind}
use Rattle.lay_reparse.proofs.texts.Laid.{as_block, block_end, laid, raw, is_laid, is_leaf_kind, leaf_shown, laid_same}
use Rattle.lay_reparse.proofs.texts.PointTexts.{raw_point, laid_point}
use Rattle.lay_reparse.proofs.borders.Border.{Place, Other, Point, Far, Points, is_index_place, behind, Border, Spot, Unsure, Clear, At, Covers, spot_behind, extras, behind_gap, beyond, pass, bits_covers, spot_covers, Rest, piece_rest, one_along, Along, and_false, Came, bits_came, met_before, apart_spot}
use Rattle.lay_reparse.proofs.borders.Border as bd
use Rattle.lay_reparse.proofs.borders.Move.{Does, under}

-- whether every piece of the kind meets the need where it follows directly
abbrev pub leads : Kind → Need → Bool
leads k (Grow cs) = not (is_punct k)
leads k Loose = not (is_punct k)
leads Ident IntPoint = true
leads RawIdent IntPoint = true
leads _ _ = false

abbrev pub knows : Spot → Bool
knows Unsure = false
knows _ = true

abbrev pub at_index : Spot → Bool
at_index (At b) = is_index_place b
at_index _ = false

-- the piece has its form at this spot: at an index place a number is an index
abbrev pub fits : Spot → Kind → Text → Bool
fits o k x = cond (is_number_kind k) (knows o && cond (at_index o) (is_int_kind k && is_index x) (has_form k x))
    (has_form k x)

abbrev pub asks_at : Spot → Kind → Text → List Need
asks_at o k x = cond (is_number_kind k && at_index o) (Number ∷ []) (asks k x)

abbrev pub behind_leaf : Border → Kind → Text → Border
behind_leaf b k t = record { needs = asks_at b.spot k (raw k t); spot = At Other }

-- of a token of a token list: after a point its digits may also go on as a number that is no index
abbrev pub is_index_at : Spot → Text → Bool
is_index_at o x = at_index o && fronts_index x []

abbrev pub fits_token : Spot → Kind → Text → Bool
fits_token o k x = cond (is_number_kind k)
    (knows o && cond (is_index_at o x) (is_int_kind k && is_index x) (has_form k x)) (has_form k x)

abbrev pub asks_token : Spot → Kind → Text → List Need
asks_token o k x = cond (is_number_kind k && is_index_at o x) (Number ∷ []) (asks k x)

-- a token of a token list; its mark asks for the next token
abbrev pub mark_asks : Kind → Text → Bool → List Need
mark_asks k x joint = cond (is_punct k && keeps x) (cond joint (Joint ∷ []) (Loose ∷ [])) []

abbrev pub token_passes : Border → Bool → Kind → Text → Bool → Text → Bool
token_passes b v k x joint t =
    fits_token b.spot k x && (bytes_eq (encode_utf8_all (text_of_piece k x)) t
    && (not (is_nil x) && (not (begins_dot x && v)
    && ((not joint || (is_punct k && keeps x)) && all (λ n. suits n k x) b.needs))))

abbrev pub behind_token : Border → Kind → Text → Bool → Border
behind_token b k x joint = record {
  needs = asks_token b.spot k x ++ (mark_asks k x joint ++ extras x b.needs);
  spot =
      spot_behind b.spot k x;
}

abbrev pub doc_passes : Border → Kind → Text → Text → Bool
doc_passes b k x t = has_form k x && (bytes_eq (encode_utf8_all (text_of_piece k x)) t && all (leads k) b.needs)

-- breaks
abbrev pub loosen : Spot → Spot
loosen (At Other) = At Other
loosen (At Points) = Clear
loosen Clear = Clear
loosen _ = Unsure

-- after this border, or after a newline there
abbrev pub loosened : Border → Border
loosened b = record { needs = b.needs; spot = loosen b.spot }

abbrev pub break_passes : Space → Border → Bool
break_passes (Soft back zero) b = all line_ok b.needs
break_passes (Soft back (suc n)) b = all blank_ok b.needs && all line_ok b.needs
break_passes (Hard back) b = all line_ok b.needs
break_passes Never b = true

abbrev pub beyond_break : Space → Border → Border
beyond_break (Soft back zero) b = loosened b
beyond_break (Soft back (suc n)) b = behind_gap b
beyond_break (Hard back) b = behind_gap b
beyond_break Never b = b

abbrev pub comma_passes : ℕ → Border → Bool
comma_passes zero b = pass b comma
comma_passes (suc n) b = pass b comma && all blank_ok b.needs

abbrev pub beyond_comma : ℕ → Border → Border
beyond_comma zero b = loosened b
beyond_comma (suc n) b = record { needs = []; spot = loosen (apart_spot b.spot) }

abbrev pub plain : Border
plain = record { needs = []; spot = At Other }

abbrev pub full : List Bit → Bool
full p = not (is_nil (text_of_bits p))

-- each operator is one
abbrev pub ops_fine : List Bit → Bool
ops_fine [] = true
ops_fine (Operator cs ∷ p) = is_operator cs && ops_fine p
ops_fine (b ∷ p) = ops_fine p

-- nothing of it is laid out
abbrev pub is_dropped : List Bit → Bool
is_dropped [] = true
is_dropped (Semicolons ∷ p) = is_dropped p
is_dropped _ = false

-- A piece has a text, or is dropped.
abbrev pub stands : List Bit → Bool
stands p = full p || is_dropped p

abbrev pub piece_passes : Bool → Border → List Bit → Bool
piece_passes v b p = stands p && pass b (led v p)

-- a body that is laid out in braces or as it stands, from b: it begins at g and ends at h
abbrev pub braces_pass : Border → Border → Border → Bool
braces_pass b g h = pass b (opener Brace ∷ []) && (under plain g && all line_ok h.needs)

-- From b the form may be laid out, and it ends at c. o: the delimiters open; v: the text before ends in a point.
abbrev pub Passes : Option (List Delim) → Bool → Form → Border → Border → Type 0
Passes o v Done b c = is_even o && under b c ≡ true
Passes o v (Piece p f) b c = (piece_passes v b p ≡ true)
    × Passes (bits_open o p) (bits_end_in_point v p) f (beyond b (led v p)) c
Passes o v (Leaf k t f) b c = (is_leaf_kind k && all (leads k) b.needs ≡ true)
    × (fits b.spot k (raw k t) && is_laid k t ≡ true) × Passes o (token_ends_in_point k t) f (behind_leaf b k t) c
Passes o v (Listed k t joint f) b c = (is_doc_kind k ≡ false)
    × (token_passes b v (laid k t) (raw k t) joint t && is_laid k t ≡ true)
    × Passes (turned k o) (token_ends_in_point k t) f (behind_token b (laid k t) (raw k t) joint) c
Passes o v (ListedDoc inner t f) b c =
    (token_passes b v (Doc inner (as_block inner t)) (raw (Doc inner false) t) false t && is_laid (Doc inner false) t
    ≡ true)
    × Passes o false f (behind_token b (Doc inner (as_block inner t)) (raw (Doc inner false) t) false) c
Passes o v (Brk g f) b c = (break_passes g b ≡ true) × Passes o (space_ends_in_point v g) f (beyond_break g b) c
Passes o v (LastComma n f) b c = (comma_passes n b ≡ true) × Passes o (keeps_point v n) f (beyond_comma n b) c
Passes o v (Group k n i f) b c = (g h : Border) × (under b g ≡ true) × Passes even v i g h
    × Passes o (ends_behind_point v i) f h c
Passes o v (form.Part i f) b c = (g h : Border) × (under b g ≡ true) × Passes even v i g h
    × Passes o (ends_behind_point v i) f h c
Passes o v (Deeper i f) b c = (g h : Border) × (under b g ≡ true) × Passes even v i g h
    × Passes o (ends_behind_point v i) f h c
Passes o v (Optional true p f) b c = (piece_passes v b p ≡ true) × (bits_open o p ≡ o)
    × Passes o (bits_end_in_point v p) f (beyond b (led v p)) c
Passes o v (Optional false p f) b c = (ops_fine p ≡ true) × (bits_open o p ≡ o) × Passes o v f b c
Passes o v (Docs inner t f) b c = (doc_passes b (Doc inner (as_block inner t)) (raw (Doc inner false) t) t
    && is_laid (Doc inner false) t ≡ true)
    × Passes o false f (record { needs = cond (as_block inner t) [] (LineDoc ∷ []); spot = At Other }) c
Passes o v (Body Bare Nothing i f) b c =
    (g h : Border) × (under b g ≡ true) × Passes even v i g h × Passes o (ends_behind_point v i) f h c
Passes o v (Body Bare (ArmComma last like) i f) b c =
    (g h : Border) × (under b g ≡ true) × Passes even v i g h × (pass h comma ≡ true)
    × Passes o false f (beyond h comma) c
Passes o v (Body Unseen Nothing i f) b c =
    (g h : Border) × (under b g ≡ true) × Passes even v i g h × Passes o (ends_behind_point v i) f h c
Passes o v (Body Unseen (ArmComma last like) i f) b c = (may_lack last like 0 ≡ true)
    × (g h : Border) × (under b g ≡ true) × Passes even v i g h × Passes o (ends_behind_point v i) f h c
Passes o v (Body Marked Nothing i f) b c =
    (g h : Border) × (under b g ≡ true) × (braces_pass b g h ≡ true) × Passes even v i g h
    × Passes o (ends_behind_point v i) f (loosened h) c
Passes o v (Body Marked (ArmComma last like) i f) b c =
    (g h : Border) × (under b g ≡ true) × (braces_pass b g h ≡ true) × Passes even v i g h
    × (pass h comma && under (beyond h comma) plain ≡ true) × Passes o false f plain c

-- What a piece does.
nil_or : (x : Text) (p : Text) (y : Text) → not (is_nil x) ≡ true → begins_dot (x ++ y) ≡ begins_dot x
nil_or [] p y h = cc
nil_or (c ∷ x) p y h = refl

pub dot_stays : (x y : Text) (v : Bool) → not (is_nil x) ≡ true → begins_dot x && v ≡ false
    → begins_dot (x ++ y) && v ≡ false
dot_stays x y v h e = ap (λ z. z && v) (nil_or x x y h) ∙ e

pub piece_does : (v : Bool) (b : Border) (p : List Bit) (e : Place) → full p && pass b (led v p) ≡ true
    → Covers b.spot e
    → Does (AreBits p) (text_of_bits (led v p)) b v (beyond b (led v p)) (bits_end_in_point v p) e
piece_does v b p e h covers = let q = and_parts (full p) _ h in at (begins_dot (text_of_bits p) && v) refl q.0 q.1
  where
    at : (x : Bool) → begins_dot (text_of_bits p) && v ≡ x → full p ≡ true → pass b (cond x (Blank ∷ p) p) ≡ true
        → Does (AreBits p) (text_of_bits (cond x (Blank ∷ p) p)) b v (beyond b (cond x (Blank ∷ p) p))
        (bits_end_in_point v p) e
    at true i f g = record {
      at = bd.bits_before e (Blank ∷ p);
      covered = bits_covers b e (Blank ∷ p) covers;
      came = λ y ps last r m d. let c = bits_came (Blank ∷ p) b e y ps last g r m in
          record {
            parts = c.parts;
            last = c.last;
            rest = c.rest;
            meets = c.meets;
            along = λ at. let w = c.along at in (w.0, subst (λ z. AreBits p z (tokens_from w.0 ps)) (sym w.1.1) w.1.2);
          };
      dotless = λ y. refl;
    }
    at false i f g = record {
      at = bd.bits_before e p;
      covered = bits_covers b e p covers;
      came = λ y ps last r m d. bits_came p b e y ps last g r m;
      dotless = λ y. dot_stays (text_of_bits p) y v f i;
    }

-- What a token does.
punct_had : (o : Spot) (e : Place) (k : Kind) (x y : Text) (ps : List Part) → Covers o e → fits o k x ≡ true
    → all_met (asks_at o k x) y ps ≡ true
    → begins_dot y && point_of k x ≡ false → had k x y (is_index_place e) ≡ true
unfolding allows
punct_had o e k x y ps covers f m d = at (is_number_kind k) refl f m
  where
    int_kind : (k : Kind) → is_int_kind k ≡ true → k ≡ Int
    int_kind Int h = refl
    int_kind _ h = cc

    index : (b : Place) → b ≡ e → (i : Bool) → is_index_place b ≡ i → is_number_kind k ≡ true
        → cond i (is_int_kind k && is_index x) (has_form k x) ≡ true
        → all_met (cond i (Number ∷ []) (asks k x)) y ps ≡ true → had k x y (is_index_place e) ≡ true
    index b be true i n f m =
        let q = and_parts (is_int_kind k) _ f in
        let P : Kind → Type 0 = λ l. had l x y (is_index_place e) ≡ true in
        subst P (sym (int_kind k q.0)) (had_index x y (is_index_place e) (ap is_index_place (sym be) ∙ i) q.1
        (and_parts _ _ m).0)
    index b be false i n f m =
        had_form k x y (is_index_place e)
        (ap (λ z. is_number_kind k && z) (ap is_index_place (sym be) ∙ i) ∙ and_false (is_number_kind k)) f
        (follows k x y ps m d)

    spot : (o : Spot) → Covers o e → is_number_kind k ≡ true
        → knows o && cond (at_index o) (is_int_kind k && is_index x) (has_form k x) ≡ true
        → all_met (cond (at_index o) (Number ∷ []) (asks k x)) y ps ≡ true → had k x y (is_index_place e) ≡ true
    spot Unsure c n f m = cc
    spot Clear c n f m =
        had_form k x y (is_index_place e) (ap (λ z. is_number_kind k && z) c ∙ and_false (is_number_kind k)) f
        (follows k x y ps m d)
    spot (At b) c n f m = index b c (is_index_place b) refl n f m

    at : (n : Bool) → is_number_kind k ≡ n
        → cond n (knows o && cond (at_index o) (is_int_kind k && is_index x) (has_form k x)) (has_form k x) ≡ true
        → all_met (cond (n && at_index o) (Number ∷ []) (asks k x)) y ps ≡ true → had k x y (is_index_place e) ≡ true
    at true n f m = spot o covers n f m
    at false n f m = had_form k x y (is_index_place e) (ap (λ z. z && is_index_place e) n) f (follows k x y ps m d)

token_had : (o : Spot) (e : Place) (k : Kind) (x y : Text) (ps : List Part) → Covers o e → fits_token o k x ≡ true
    → all_met (asks_token o k x) y ps ≡ true
    → begins_dot y && point_of k x ≡ false → had k x y (is_index_place e) ≡ true
unfolding allows
token_had o e k x y ps covers f m d = at (is_number_kind k) refl f m
  where
    int_kind : (k : Kind) → is_int_kind k ≡ true → k ≡ Int
    int_kind Int h = refl
    int_kind _ h = cc

    free : is_index_place e ≡ false → has_form k x ≡ true → all_met (asks k x) y ps ≡ true
        → had k x y (is_index_place e) ≡ true
    free c f m = had_form k x y (is_index_place e) (ap (λ z. is_number_kind k && z) c ∙ and_false (is_number_kind k)) f
        (follows k x y ps m d)

    front : (b : Place) → b ≡ e → is_index_place b ≡ true → (w : Bool) → fronts_index x [] ≡ w
        → cond w (is_int_kind k && is_index x) (has_form k x) ≡ true
        → all_met (cond w (Number ∷ []) (asks k x)) y ps ≡ true → had k x y (is_index_place e) ≡ true
    front b be i true w f m =
        let q = and_parts (is_int_kind k) _ f in
        let P : Kind → Type 0 = λ l. had l x y (is_index_place e) ≡ true in
        subst P (sym (int_kind k q.0)) (had_index x y (is_index_place e) (ap is_index_place (sym be) ∙ i) q.1
        (and_parts _ _ m).0)
    front b be i false w f m = had_free k x y (is_index_place e) (fronts_alone x y w) f (follows k x y ps m d)

    index : (b : Place) → b ≡ e → (i : Bool) → is_index_place b ≡ i
        → cond (i && fronts_index x []) (is_int_kind k && is_index x) (has_form k x) ≡ true
        → all_met (cond (i && fronts_index x []) (Number ∷ []) (asks k x)) y ps ≡ true
        → had k x y (is_index_place e) ≡ true
    index b be true i f m = front b be i (fronts_index x []) refl f m
    index b be false i f m = free (ap is_index_place (sym be) ∙ i) f m

    spot : (o : Spot) → Covers o e → knows o && cond (is_index_at o x) (is_int_kind k && is_index x) (has_form k x)
        ≡ true
        → all_met (cond (is_index_at o x) (Number ∷ []) (asks k x)) y ps ≡ true → had k x y (is_index_place e) ≡ true
    spot Unsure c f m = cc
    spot Clear c f m = free c f m
    spot (At b) c f m = index b c (is_index_place b) refl f m

    at : (n : Bool) → is_number_kind k ≡ n
        → cond n (knows o && cond (is_index_at o x) (is_int_kind k && is_index x) (has_form k x)) (has_form k x) ≡ true
        → all_met (cond (n && is_index_at o x) (Number ∷ []) (asks k x)) y ps ≡ true
        → had k x y (is_index_place e) ≡ true
    at true n f m = spot o covers f m
    at false n f m = had_form k x y (is_index_place e) (ap (λ z. z && is_index_place e) n) f (follows k x y ps m d)

leaf_spot : (k : Kind) (e : Place) (x : Text) → is_leaf_kind k ≡ true → Other ≡ behind e k x
leaf_spot Punct e x h = cc
leaf_spot _ e x h = refl

dot_form : (k : Kind) (x : Text) → is_leaf_kind k ≡ true → has_form k (46 ∷ x) ≡ false
unfolding unicode_ident starts_word has_form after_literal
dot_form Punct x h = cc
dot_form (Opener d) x h = cc
dot_form (Closer d) x h = cc
dot_form (Doc inner block) x h = cc
dot_form _ x h = refl

nil_form : (k : Kind) → is_leaf_kind k ≡ true → has_form k [] ≡ false
unfolding has_form after_literal
nil_form Punct h = cc
nil_form (Opener d) h = cc
nil_form (Closer d) h = cc
nil_form (Doc inner block) h = cc
nil_form _ h = refl

no_fit : (o : Spot) (k : Kind) (x : Text) → has_form k x ≡ false → is_index x ≡ false → fits o k x ≡ false
no_fit o k x h i = at (is_number_kind k) (knows o) (at_index o) (is_int_kind k) (has_form k x) (is_index x) h i
  where
    at : (n w a j f g : Bool) → f ≡ false → g ≡ false → cond n (w && cond a (j && g) f) f ≡ false
    at true true true true f g h i = i
    at true true true false f g h i = refl
    at true true false j f g h i = h
    at true false a j f g h i = refl
    at false w a j f g h i = h

leaf_dotless : (o : Spot) (k : Kind) (x y : Text) (v : Bool) → is_leaf_kind k ≡ true → fits o k x ≡ true
    → begins_dot (x ++ y) && v ≡ false
leaf_dotless o k [] y v l f = let e : fits o k [] ≡ false = no_fit o k [] (nil_form k l) refl in let g : true ≡ false =
    sym f ∙ e in cc
leaf_dotless o k (c ∷ x) y v l f = elim (cases_Bool (c == 46)) [
  | inl e ↦ let g : fits o k (46 ∷ x) ≡ true = subst (λ d. fits o k (d ∷ x) ≡ true) (eqb-true c 46 e) f in
      let g2 : fits o k (46 ∷ x) ≡ false = no_fit o k (46 ∷ x) (dot_form k x l) refl in let g3 : true ≡ false = sym g
      ∙ g2 in cc
  | inr e ↦ ap (λ z. z && v) e
]

word_first : (p : Text) (y : Text) → has_form Ident p ≡ true → allows IntPoint (p ++ y) ≡ true
unfolding has_form allows
word_first [] y h = cc
word_first (c ∷ p) y h = or_right (c == 46) (starts_word c) (first (starts_word c) _ _ h)
  where
    or_right : (a b : Bool) → b ≡ true → a || b ≡ true
    or_right true b h = refl
    or_right false b h = h

    first : (a b d : Bool) → a && b && d ≡ true → a ≡ true
    first true b d h = refl
    first false b d h = cc

raw_first : (t y : Text) → allows IntPoint ((114 ∷ 35 ∷ t) ++ y) ≡ true
unfolding unicode_ident starts_word allows
raw_first t y = refl

leads_met : (n : Need) (k : Kind) (t y : Text) (o : Spot) (qs : List Part) → leads k n ≡ true
    → fits o k (raw k t) ≡ true
    → met n (raw k t ++ y) (part k (raw k t) ∷ qs) ≡ true
leads_met n k t y o qs h f = by n k h f
  where
    grow : (a b : Bool) → not a ≡ true → not (a && b) ≡ true
    grow true b h = cc
    grow false b h = refl

    by : (n : Need) (k : Kind) → leads k n ≡ true → fits o k (raw k t) ≡ true
        → met n (raw k t ++ y) (part k (raw k t) ∷ qs) ≡ true
    by (Grow cs) k h f = grow (is_punct k) _ h
    by Loose k h f = grow (is_punct k) _ h
    by IntPoint Ident h f = word_first (chars t) y f
    by IntPoint RawIdent h f = raw_first (chars t) y
    by _ _ h f = cc

pub leaf_does : (v : Bool) (b : Border) (k : Kind) (t : Text) (e : Place)
    → is_leaf_kind k && all (leads k) b.needs ≡ true → fits b.spot k (raw k t) && is_laid k t ≡ true → Covers b.spot e
    → Does (IsOne k t) (raw k t) b v (behind_leaf b k t) (token_ends_in_point k t) e
leaf_does v b k t e h g covers =
    let q = and_parts (is_leaf_kind k) _ h in
    let g2 = and_parts (fits b.spot k (raw k t)) _ g in
    let f = g2.0 in
    let utf8 = (and_parts (is_utf8 t) _ g2.1).0 in
    record {
      at = behind e k (raw k t);
      covered = leaf_spot k e (raw k t) q.0;
      came = λ y ps last r m d. record {
        parts = part k (raw k t) ∷ ps;
        last = last;
        rest = piece_rest e k (raw k t) y ps last
            (λ z s. subst (λ l. Had k (raw k t) l (is_index_place e)) (sym s)
            (punct_had b.spot e k (raw k t) y ps covers f m (ap (λ z. begins_dot y && z) (raw_point k t utf8) ∙ d))) r;
        meets = all_by (leads k) (λ n. met n (raw k t ++ y) (part k (raw k t) ∷ ps)) b.needs
            (λ n l. leads_met n k t y b.spot ps l f) q.1;
        along = one_along k (raw k t) t ps (leaf_shown k t utf8 q.0);
      };
      dotless = λ y. leaf_dotless b.spot k (raw k t) y v q.0 f;
    }

-- What a token of a token list does.
-- is_joint, of the tests that it makes of its token
abbrev joint_by : Bool → Bool → List Part → Bool
joint_by a b [] = false
joint_by a b (q ∷ qs) = a && is_punct q.kind && is_nil q.gap && b && keeps q.piece

joint_met : (k : Kind) (x y : Text) (joint : Bool) (ps : List Part) → not joint || (is_punct k && keeps x) ≡ true
    → all_met (mark_asks k x joint) y ps ≡ true
    → joint ≡ is_joint (part k x) ps
joint_met k x y joint ps h m = at (is_punct k && keeps x) refl joint h m
  where
    kept : (a b : Bool) → a && b ≡ true → (j : Bool) (ps : List Part) → next_part keeps ps ≡ j → joint_by a b ps ≡ j
    kept true true h j [] e = e
    kept true true h j (q ∷ qs) e = swap (is_nil q.gap) (is_punct q.kind) (keeps q.piece) ∙ e
      where
        swap : (g n t : Bool) → n && g && true && t ≡ g && (n && t)
        swap true true t = refl
        swap true false t = refl
        swap false true t = refl
        swap false false t = refl
    kept true false h j ps e = cc
    kept false b h j ps e = cc

    loose : (a b : Bool) → a && b ≡ false → (ps : List Part) → joint_by a b ps ≡ false
    loose a b h [] = refl
    loose true true h (q ∷ qs) = cc
    loose true false h (q ∷ qs) = at (is_punct q.kind) (is_nil q.gap) (keeps q.piece)
      where
        at : (n g t : Bool) → n && g && false && t ≡ false
        at true true t = refl
        at true false t = refl
        at false g t = refl
    loose false b h (q ∷ qs) = refl

    at : (w : Bool) → is_punct k && keeps x ≡ w → (j : Bool) → not j || w ≡ true
        → all_met (cond w (cond j (Joint ∷ []) (Loose ∷ [])) []) y ps ≡ true → j ≡ is_joint (part k x) ps
    at true w true h m = sym (kept (is_punct k) (keeps x) w true ps (and_parts _ _ m).0)
    at true w false h m = sym (kept (is_punct k) (keeps x) w false ps (not-true _ (and_parts _ _ m).0))
    at false w true h m = cc
    at false w false h m = sym (loose (is_punct k) (keeps x) w ps)

-- A token is laid out as a piece, whose token is what R says.
token_spelled : (R : List Token → List Token → Type 0) (v w : Bool) (b : Border) (k : Kind) (x : Text) (joint : Bool)
    (t : List ℕ) (e : Place)
    → token_passes b v k x joint t ≡ true → Covers b.spot e → point_of k x ≡ w
    → ((y : Text) (ps : List Part) → encode_utf8_all (text_of_piece k x) ≡ t → joint ≡ is_joint (part k x) ps
    → Along R (part k x ∷ ps) ps)
    → Does R x b v (behind_token b k x joint) w e
token_spelled R v w b k x joint t e h covers point spelled =
    let h1 = and_parts (fits_token b.spot k x) _ h in
    let h2 = and_parts (bytes_eq (encode_utf8_all (text_of_piece k x)) t) _ h1.1 in
    let h3 = and_parts (not (is_nil x)) _ h2.1 in
    let h4 = and_parts (not (begins_dot x && v)) _ h3.1 in
    let h5 = and_parts (not joint || (is_punct k && keeps x)) _ h4.1 in
    record {
      at = behind e k x;
      covered = spot_covers b.spot e k x covers;
      came = λ y ps last r m d.
          let m1 = all_append (λ n. met n y ps) (asks_token b.spot k x) _ m in
          let m2 = all_append (λ n. met n y ps) (mark_asks k x joint) _ m1.1 in
          record {
            parts = part k x ∷ ps;
            last = last;
            rest = piece_rest e k x y ps last
                (λ z s. subst (λ l. Had k x l (is_index_place e)) (sym s)
                (token_had b.spot e k x y ps covers h1.0 m1.0 (ap (λ z. begins_dot y && z) point ∙ d))) r;
            meets = met_before b.needs k x y ps ps h5.1 m2.1;
            along = spelled y ps (bytes_same (encode_utf8_all (text_of_piece k x)) t h2.0)
                (joint_met k x y joint ps h5.0 m2.0);
          };
      dotless = λ y. dot_stays x y v h3.0 (not-true _ h4.0);
    }

pub token_does : (v : Bool) (b : Border) (k : Kind) (t : List ℕ) (joint : Bool) (e : Place) → is_doc_kind k ≡ false
    → token_passes b v (laid k t) (raw k t) joint t && is_laid k t ≡ true → Covers b.spot e
    → Does (IsListed k t joint) (raw k t) b v (behind_token b (laid k t) (raw k t) joint) (token_ends_in_point k t) e
token_does v b k t joint e n g covers =
    token_spelled (IsListed k t joint) v (token_ends_in_point k t) b (laid k t) (raw k t) joint t e
    (and_parts (token_passes b v (laid k t) (raw k t) joint t) _ g).0 covers
    (laid_point k t (and_parts (is_utf8 t) _ (and_parts (token_passes b v (laid k t) (raw k t) joint t) _ g).1).0)
    (λ y ps shown mark at. (at + size [] + size (raw k t), (laid_same k t n, shown, sym mark, refl)))

pub listed_doc_does : (v : Bool) (b : Border) (inner : Bool) (t : List ℕ) (e : Place)
    → token_passes b v (Doc inner (as_block inner t)) (raw (Doc inner false) t) false t && is_laid (Doc inner false) t
    ≡ true
    → Covers b.spot e
    → Does (IsComment inner t) (raw (Doc inner false) t) b v
    (behind_token b (Doc inner (as_block inner t)) (raw (Doc inner false) t) false) false e
listed_doc_does v b inner t e g covers =
    let k : Kind = Doc inner (as_block inner t) in
    let x = raw (Doc inner false) t in
    token_spelled (IsComment inner t) v false b k x false t e (and_parts (token_passes b v k x false t) _ g).0 covers
    refl
    (λ y ps shown mark at. (at + size [] + size x, (as_block inner t, refl, shown, refl)))

-- What a doc does.
doc_dotless : (inner block : Bool) (x y : Text) (v : Bool)
    → begins_dot ((doc_opening inner block ++ x) ++ y) && v ≡ false
doc_dotless true true x y v = refl
doc_dotless true false x y v = refl
doc_dotless false true x y v = refl
doc_dotless false false x y v = refl

doc_met : (n : Need) (inner block : Bool) (x z : Text) (qs : List Part) → leads (Doc inner block) n ≡ true
    → met n z (part (Doc inner block) x ∷ qs) ≡ true
doc_met (Grow cs) inner block x z qs h = refl
doc_met Loose inner block x z qs h = refl
doc_met _ inner block x z qs h = cc

pub doc_does : (v : Bool) (b : Border) (inner : Bool) (t : Text) (e : Place)
    → doc_passes b (Doc inner (as_block inner t)) (raw (Doc inner false) t) t && is_laid (Doc inner false) t ≡ true
    → Covers b.spot e
    → Does (IsDoc inner t) (raw (Doc inner false) t) b v
    (record { needs = cond (as_block inner t) [] (LineDoc ∷ []); spot = At Other }) false e
doc_does v b inner t e g covers =
    let k : Kind = Doc inner (as_block inner t) in
    let x = raw (Doc inner false) t in
    let h = (and_parts (doc_passes b k x t) _ g).0 in
    let h1 = and_parts (has_form k x) _ h in
    let h2 = and_parts (bytes_eq (encode_utf8_all (text_of_piece k x)) t) _ h1.1 in
    record {
      at = Other;
      covered = refl;
      came = λ y ps last r m d. record {
        parts = part k x ∷ ps;
        last = last;
        rest = piece_rest e k x y ps last
            (λ z s. subst (λ l. Had k x l (is_index_place e)) (sym s)
            (had_form k x y (is_index_place e) refl h1.0 (follows k x y ps m (and_false (begins_dot y))))) r;
        meets = all_by (leads k) (λ n. met n (x ++ y) (part k x ∷ ps)) b.needs
            (λ n l. doc_met n inner (as_block inner t) x (x ++ y) ps l) h2.1;
        along = λ at. (
          at + size [] + size x,
          inl
              (as_block inner t, refl, bytes_same (encode_utf8_all (text_of_piece k x)) t h2.0, refl),
        );
      };
      dotless = λ y. doc_dotless inner (as_block inner t) (chars t ++ block_end (as_block inner t)) y v;
    }

pub pass_ops : (b : Border) (p : List Bit) → pass b p ≡ true → ops_fine p ≡ true
pass_ops b [] h = refl
pass_ops b (Operator cs ∷ p) h =
    let a = and_parts (is_operator cs && all (bd.op_suits cs) b.needs) _ h in
    and_from (is_operator cs) _ (and_parts (is_operator cs) _ a.0).0 (pass_ops (bd.beyond_bit b (Operator cs)) p a.1)
pass_ops b (Blank ∷ p) h = pass_ops (bd.beyond_bit b Blank) p (and_parts (bd.bit_passes b Blank) _ h).1
pass_ops b (Fixed k t ∷ p) h = pass_ops (bd.beyond_bit b (Fixed k t)) p (and_parts (bd.bit_passes b (Fixed k t)) _ h).1
pass_ops b (Semicolons ∷ p) h = pass_ops b p h

pub led_ops : (v : Bool) (b : Border) (p : List Bit) → pass b (led v p) ≡ true → ops_fine p ≡ true
led_ops v b p h = at (begins (λ c. c == 46) (text_of_bits p) && v) h
  where
    at : (x : Bool) → pass b (cond x (Blank ∷ p) p) ≡ true → ops_fine p ≡ true
    at true h = pass_ops b (Blank ∷ p) h
    at false h = pass_ops b p h

pub piece_ops : (v : Bool) (b : Border) (p : List Bit) → piece_passes v b p ≡ true → ops_fine p ≡ true
piece_ops v b p h = led_ops v b p (and_parts (stands p) _ h).1
