-- Paths, generic arguments and bounds by themselves, with what is within them one level deeper: what is spelled is read.
use Rattle.std.proofs.Common.{◌≡◌, ℕ, zero, suc, ◌≤◌, true, not, List, [], ◌∷◌, map, codes, refl, arith}
use Rattle.std.proofs.lemmas.Bool.{and_parts, not-true}
use Rattle.lay_token.specs.Operators.{is_op}
use Rattle.lay_form.specs.Form.{Form}
use Rattle.lay_form.specs.Spelled.{Spells}
use Rattle.lay_node.specs.Ahead.{Tokens}
use Rattle.lay_node.specs.nodes.Types.{in_style, bounds_form, bounds_good, last_refuses, bounds_follow, deeper, alone, about_path, about_args, about_bound}
use Rattle.lay_node.specs.reader.Loops.{Read}
use Rattle.lay_node.specs.reader.Types.{Within, args_by, path, all_bounds, within, alone_at, path_at, args_at, bounds_at}
use Rattle.lay_node.specs.declared.types.Args.{Args}
use Rattle.lay_node.specs.declared.types.Bound.{Bound}
use Rattle.lay_node.specs.declared.types.Path.{Path}
use Rattle.lay_node.specs.declared.types.PathStyle.{PathStyle}
use Rattle.lay_node.proofs.reader.Exact.{IsRead, Complete}
use Rattle.lay_node.proofs.reader.TypesComplete.{Reads, args_read}
use Rattle.lay_node.proofs.reader.TypesCompleteKinds.{inner_of, within_reads}
use Rattle.lay_node.proofs.reader.TypesCompletePaths.{path_read, all_bounds_read}
use Rattle.lay_node.proofs.reader.TypesFronts.{follows_clear}

-- What is read with its parts one level deeper is read by itself.
pub alone_read : {A : Type 0} (one : Within → Tokens → Read A) (x : A) (f : Form) (depth budget : ℕ) → depth ≤ budget → (ts rest : Tokens)
    → Spells (deeper f) depth ts rest → ((least : ℕ) (inner : Within) → Reads least inner → Spells f least ts rest → IsRead least (one inner) x ts rest)
    → IsRead depth (alone_at one budget) x ts rest
alone_read one x f zero budget h ts rest s reads = absurd s
alone_read one x f (suc depth) zero h ts rest s reads = absurd (omega arith)
alone_read one x f (suc depth) (suc budget) h ts rest s reads =
    let r = reads depth (within budget) (within_reads depth budget (omega arith)) (inner_of f depth ts rest s) in (suc r.0, omega (arith, r.1), rw r.2 refl)

pub path_complete : (style : PathStyle) (depth budget : ℕ) → depth ≤ budget
    → Complete (λ (p : Path). alone (about_path p style)) depth (path_at style budget)
path_complete style depth budget h p ts rest s =
    alone_read (λ w us. path w style us) p (about_path p style).form depth budget h ts rest s.0 (λ least inner reads t.
    path_read least inner reads style p ts rest t s.1 (follows_clear (about_path p style).refuses rest s.2))

pub args_complete : (style : PathStyle) (depth budget : ℕ) → depth ≤ budget
    → Complete (λ (a : Args). alone (in_style style (about_args a))) depth (args_at style budget)
args_complete style depth budget h a ts rest s =
    alone_read (λ w us. args_by w style us) a (in_style style (about_args a)).form depth budget h ts rest s.0 (λ least inner reads t.
    args_read least inner reads style a ts rest t s.1 (follows_clear (in_style style (about_args a)).refuses rest s.2))

pub bounds_complete : (bs : List Bound) (depth budget : ℕ) (ts rest : Tokens) → depth ≤ budget → Spells (deeper (bounds_form (map about_bound bs))) depth ts rest
    → bounds_good (map about_bound bs) ≡ true → bounds_follow bs rest ≡ true → IsRead depth (bounds_at budget) bs ts rest
bounds_complete [] depth budget ts rest h s g f = absurd (cc)
bounds_complete (b ∷ bs) depth budget ts rest h s g f =
    let follows = and_parts (not (is_op (codes "+") rest)) _ f in
    alone_read all_bounds (b ∷ bs) (bounds_form (map about_bound (b ∷ bs))) depth budget h ts rest s (λ least inner reads t.
    (all_bounds_read least inner reads b bs ts rest t g (follows_clear (last_refuses (map about_bound (b ∷ bs))) rest follows.1)
    (not-true (is_op (codes "+") rest) follows.0)).0)
