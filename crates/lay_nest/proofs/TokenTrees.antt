-- The token tree at the start of a list of tokens.
use Rattle.std.proofs.Common.{◌≡◌, Bool, true, false, not, List, [], ◌∷◌, ◌++◌, drop, get_or, IsTrue, refl, sym, ap, ◌∙◌, arith, append_assoc}
use Rattle.std.proofs.lemmas.Bool.{false≢true}
use Rattle.lay_token.specs.Delimiters.{One, Nest, NoTree, is_opener}
use Rattle.lay_token.specs.declared.token.Token.{Token}
use Rattle.lay_nest.specs.Groups.{BehindTree, Grouped, begins_group, begins_tree}

-- A group is one.
pub group_tree : (tokens inside behind : List Token) → Grouped tokens inside behind → BehindTree tokens behind
group_tree tokens inside behind g = record {
  tree = g.opener ∷ (inside ++ g.closer ∷ []);
  whole = g.whole ∙ ap (λ (s : List Token). g.opener ∷ s) (sym (append_assoc inside (g.closer ∷ []) behind));
  are_tree = (
    Nest g.opener g.balanced.0 g.closer NoTree,
    refl,
    (g.pair, g.balanced.1, tt),
    ap (λ (s : List Token). g.opener ∷ (s ++ g.closer ∷ [])) g.balanced.2,
  );
  some = omega arith;
}

not_true : (b : Bool) → not b ≡ true → b ≡ false
not_true true h = absurd (false≢true h)
not_true false h = refl

-- So is a token that is no delimiter.
pub token_tree : (tokens : List Token) → IsTrue (begins_tree tokens) → begins_group tokens ≡ false
    → BehindTree tokens (drop 1 tokens)
token_tree [] h g = absurd (false≢true h)
token_tree (t ∷ ts) h g = record {
  tree = t ∷ [];
  whole = refl;
  are_tree = (One t NoTree, refl, (g, not_true _ h, tt), refl);
  some = omega arith;
}

-- A token at the beginning that is no opener begins no group.
pub front_plain : (tokens : List Token) (default : Token) → is_opener (get_or tokens 0 default).kind ≡ false
    → begins_group tokens ≡ false
front_plain [] default h = refl
front_plain (t ∷ ts) default h = h
