-- What may follow every node: a comma, a semicolon, and what closes a list.
use Rattle.std.proofs.Common.{◌≡◌, true, false, List, [], ◌∷◌, codes, refl}
use Rattle.lay_piece.specs.Forms.{closing}
use Rattle.lay_piece.specs.declared.kind.Delim.{Delim}
use Rattle.lay_piece.specs.declared.kind.Kind.TheVariants.{Punct, Closer}
use Rattle.lay_token.specs.Operators.{op_at}
use Rattle.lay_form.specs.Spelled.{IsOne}
use Rattle.lay_node.specs.Ahead.{Tokens}
use Rattle.lay_node.specs.Follow.{Begin, OfRename, OfArgs, OfCodeArgs, OfArrow, OfColons, OfBang, begins_there, may_follow}
use Rattle.lay_node.proofs.Fronts.{one_front, one_no_op, comma_no_colons, semicolon_no_colons}

-- Nothing that a node may refuse begins there.
abbrev pub Quiet : Tokens → Type 0
Quiet ts = (b : Begin) → begins_there b ts ≡ false

pub quiet_follows : (bs : List Begin) (ts : Tokens) → Quiet ts → may_follow bs ts ≡ true
quiet_follows [] ts q = refl
quiet_follows (b ∷ bs) ts q = rw (q b, quiet_follows bs ts q) refl

pub comma_quiet : (ts rest : Tokens) → IsOne Punct (codes ",") ts rest → Quiet ts
unfolding op_at
comma_quiet ts rest o OfRename = rw (one_front Punct (codes ",") ts rest o).1 refl
comma_quiet ts rest o OfColons = comma_no_colons ts rest o
comma_quiet ts rest o OfArgs = rw (one_front Punct (codes ",") ts rest o).1 refl
comma_quiet ts rest o OfCodeArgs = rw (one_front Punct (codes ",") ts rest o).1 refl
comma_quiet ts rest o OfArrow = rw (one_front Punct (codes ",") ts rest o).1 refl
comma_quiet ts rest o OfBang = rw (one_front Punct (codes ",") ts rest o).1 refl

pub semicolon_quiet : (ts rest : Tokens) → IsOne Punct (codes ";") ts rest → Quiet ts
unfolding op_at
semicolon_quiet ts rest o OfRename = rw (one_front Punct (codes ";") ts rest o).1 refl
semicolon_quiet ts rest o OfColons = semicolon_no_colons ts rest o
semicolon_quiet ts rest o OfArgs = rw (one_front Punct (codes ";") ts rest o).1 refl
semicolon_quiet ts rest o OfCodeArgs = rw (one_front Punct (codes ";") ts rest o).1 refl
semicolon_quiet ts rest o OfArrow = rw (one_front Punct (codes ";") ts rest o).1 refl
semicolon_quiet ts rest o OfBang = rw (one_front Punct (codes ";") ts rest o).1 refl

pub closer_quiet : (d : Delim) (ts rest : Tokens) → IsOne (Closer d) (closing d ∷ []) ts rest → Quiet ts
unfolding op_at
closer_quiet d ts rest o OfRename = rw (one_front (Closer d) (closing d ∷ []) ts rest o).1 refl
closer_quiet d ts rest o OfColons = one_no_op (codes "::") (Closer d) (closing d ∷ []) ts rest refl o
closer_quiet d ts rest o OfArgs = rw (one_front (Closer d) (closing d ∷ []) ts rest o).1 refl
closer_quiet d ts rest o OfCodeArgs = rw (one_front (Closer d) (closing d ∷ []) ts rest o).1 refl
closer_quiet d ts rest o OfArrow = one_no_op (codes "->") (Closer d) (closing d ∷ []) ts rest refl o
closer_quiet d ts rest o OfBang = one_no_op (codes "!") (Closer d) (closing d ∷ []) ts rest refl o
