-- What finds the units as an Emit: each call feeds its one token.
use Rattle.std.proofs.Common.{◌≡◌, ℕ, zero, suc, ◌-◌, Bool, true, false, cond, not, ◌&&◌, List, [], ◌∷◌, ◌++◌, length, refl, sym, ap, ◌∙◌, subst, le_refl, Result, OnOk, OnErr, Option, Some, None}
use Rattle.std.specs.Prelude.{◌==◌, codes}
use Rattle.std.specs.Str.{bytes_eq}
use Rattle.std.proofs.lemmas.Result.{MatchResult-at_ok, MatchResult-at_err}
use Rattle.lay_piece.specs.Characters as char
use Rattle.lay_layout.specs.Machine.{outer, opened}
use Rattle.lay_layout.specs.declared.layout.Tok.{Tok}
use Rattle.lay_layout.specs.declared.layout.Tok.TheVariants as tok
use Rattle.lay_text.specs.declared.refusal.NoMemory.{NoMemory}
use Rattle.lay_token.specs.declared.token.Token.{Token}
use Rattle.lay_stream.specs.Fed.{Puts, Stops, Did}
use Rattle.lay_map.specs.spelling.Choice.{under}
use Rattle.lay_map.specs.Marking.{State, begun, behind_line, comma_settled, code_words, fed_all, fed_one, first_ahead, freed, is_free, opening_of, raised, read, read_by, read_code, text_within, words_of, worded}
use Rattle.lay_map.specs.Meanings.{Seen, mark_meanings}
use Rattle.lay_map.specs.declared.marking.Opening.{Opening}
use Rattle.lay_map.specs.declared.marking.Within.{Within}
use Rattle.lay_map.specs.declared.marking.Within.TheVariants.{Code, Line, Block, End}

-- first these and then those
pub fed_two : (s t : List Tok) (x : State) → fed_all (s ++ t) x ≡ fed_all t (fed_all s x)
fed_two [] t x = refl
fed_two (a ∷ s) t x = fed_two s t (fed_one a x)

-- ---- the groups that are open

words_outer : (n : ℕ) (cs : List ℕ) (s : State) → (words_of n cs s).outer ≡ s.outer
words_outer n [] s = refl
words_outer (suc n) (c ∷ cs) s = words_outer n cs s
words_outer zero (c ∷ cs) s =
    by (c == char.open_brace) (c == char.blank) (words_of 0 cs (raised s)) (words_of 0 cs s) (words_of (first_ahead c s - 1) cs (worded c s))
    (words_outer 0 cs (raised s)) (words_outer 0 cs s) (words_outer (first_ahead c s - 1) cs (worded c s))
  where
    by : (a b : Bool) (x y z : State) → x.outer ≡ s.outer → y.outer ≡ s.outer → z.outer ≡ s.outer → (cond a x (cond b y z)).outer ≡ s.outer
    by true b x y z e f g = e
    by false true x y z e f g = f
    by false false x y z e f g = g

comma_outer : (s : State) → (comma_settled s).outer ≡ s.outer
comma_outer s = by s.comma
  where
    by : (b : Bool) → (cond b (worded char.comma (freed s)) s).outer ≡ s.outer
    by true = refl
    by false = refl

code_outer : (text : List ℕ) (s : State) → (read_code text s).outer ≡ s.outer
code_outer text s = by (bytes_eq text (codes "r#")) (bytes_eq text (codes ","))
  where
    by : (a b : Bool) → (cond a s (cond b (record s { comma = true }) (code_words text s))).outer ≡ s.outer
    by true b = refl
    by false true = refl
    by false false = words_outer 0 text s

read_outer : (text : List ℕ) (s : State) → (read text s).outer ≡ s.outer
read_outer text s = by (opening_of text)
  where
    by : (o : Option Opening) → (read_by o text s).outer ≡ s.outer
    by (Some opening) = refl
    by None = code_outer text s

text_outer : (w : Within) (text : List ℕ) (s : State) → (text_within w text s).outer ≡ s.outer
text_outer Code text s = read_outer text (comma_settled s) ∙ comma_outer s
text_outer Line text s = refl
text_outer Block text s = refl
text_outer End text s = refl

under_outer : (bs : List Bool) → length (under bs) ≡ outer (length bs)
under_outer [] = refl
under_outer (b ∷ bs) = refl

level : (k : Tok) (s : State) → length (fed_one k s).outer ≡ opened (k ∷ []) (length s.outer)
level (tok.Text text) s = ap length (text_outer s.within text s)
level (tok.Break b) s = ap length (comma_outer (record s { within = behind_line s.within; comma = s.comma && not (is_free b s.arrow) }))
level (tok.Begin consistent offset) s = ap (λ (x : List Bool). suc (length x)) (comma_outer s)
level tok.End s = ap (λ (x : List Bool). length (under x)) (comma_outer s) ∙ under_outer s.outer

-- ---- calls

abbrev seen : List Token → Bool → Bool → State → Seen
seen tokens shebang failed s = record { tokens = tokens; shebang = shebang; state = s; failed = failed }

mark_puts : (tokens : List Token) (shebang failed : Bool) (s : State) (k : Tok)
    → Puts mark_meanings (seen tokens shebang failed s) (k ∷ []) (seen tokens shebang failed (fed_one k s))
mark_puts tokens shebang failed s k = record {
  appends = λ start x h live. ap (fed_one k) (h live) ∙ sym (fed_two x (k ∷ []) (begun tokens shebang));
  level = level k s;
  later = le_refl 0;
  passes = λ f d h. h;
  failed_before = λ h. h;
  failed_after = λ h. h;
  same_loans = refl;
}

mark_stops : (tokens : List Token) (shebang failed : Bool) (s t : State) (k : Tok) (fault : NoMemory) (b : Seen) → b ≡ seen tokens shebang true t
    → Stops mark_meanings (seen tokens shebang failed s) (k ∷ []) fault b
mark_stops tokens shebang failed s t k fault b e = record {
  appends = λ start x h. record {
    front = [];
    back = k ∷ [];
    both = refl;
    is_fed = λ live. let no : true ≡ false = sym (ap (λ (y : Seen). y.failed) e) ∙ live in cc;
  };
  later = le_refl 0;
  because = (sym (ap (λ (y : Seen). y.tokens) e), sym (ap (λ (y : Seen). y.shebang) e));
  has_failed = ap (λ (y : Seen). y.failed) e;
  same_loans = refl;
}

-- A call that does this to what was told of the tokens so far.
pub mark_did : (tokens : List Token) (shebang failed : Bool) (s t : State) (k : Tok) (given r : Result (Prim.Unit {0}) NoMemory) (b : Seen)
    → OnOk given (t ≡ fed_one k s) → r ≡ given → OnOk r (b ≡ seen tokens shebang failed t) → OnErr r (b ≡ seen tokens shebang true t)
    → Did mark_meanings (seen tokens shebang failed s) (k ∷ []) r b
mark_did tokens shebang failed s t k given r b does same ok err = record {
  puts = λ x e.
      let f : b ≡ seen tokens shebang failed t = MatchResult-at_ok _ _ x e ok in
      let g : t ≡ fed_one k s = MatchResult-at_ok _ _ x (sym same ∙ e) does in
      subst (λ (y : Seen). Puts mark_meanings (seen tokens shebang failed s) (k ∷ []) y) (sym (f ∙ ap (seen tokens shebang failed) g))
      (mark_puts tokens shebang failed s k);
  stops = λ f e. mark_stops tokens shebang failed s t k f b (MatchResult-at_err _ _ f e err);
}
