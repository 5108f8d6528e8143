-- Patterns are read exactly where they stand.
use Rattle.std.proofs.Common.{◌≡◌, ℕ, drop}
use Rattle.lay_node.specs.Ahead.{Tokens}
use Rattle.lay_node.specs.nodes.Patterns.{about_pat, PatFront}
use Rattle.lay_node.specs.reader.Exact.{Exact}
use Rattle.lay_node.specs.reader.Patterns.{pat_at}
use Rattle.lay_node.specs.declared.patterns.Pat.{Pat}
use Rattle.lay_node.specs.declared.patterns.PatPlace.{PatPlace}
use Rattle.lay_node.proofs.reader.Exact.{one_by_reading}
use Rattle.lay_node.proofs.reader.PatternsComplete.{pats_read}
use Rattle.lay_node.proofs.reader.PatternsSound.{pats_stand}

pub pats_exact : (place : PatPlace) → Exact (pat_at place) (λ (x : Pat). PatFront place (about_pat x))
pats_exact place = record {
  sound = pats_stand place;
  complete = λ x ts n depth f budget h. pats_read place x depth budget ts (drop n ts) h f.1 f.2 f.3;
}

-- So at most one pattern and one count of tokens fit.
pub one_pat : (place : PatPlace) (node other : Pat) (ts : Tokens) (n m depth : ℕ)
    → PatFront place (about_pat node) ts n depth → PatFront place (about_pat other) ts m depth → (node ≡ other) × (n ≡ m)
one_pat place = one_by_reading (λ (x : Pat). PatFront place (about_pat x)) (pat_at place) (λ x ts n depth f. f.0) (pats_exact place)
