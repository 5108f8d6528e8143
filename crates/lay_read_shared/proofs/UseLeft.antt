-- What reading of use trees leaves: the tokens after those that are read.
use Rattle.std.proofs.Common.{ℕ, zero, suc, None, codes, arith}
use Rattle.lay_token.specs.Operators.{is_op}
use Rattle.lay_piece.specs.declared.kind.Delim.TheVariants.{Brace}
use Rattle.lay_node.specs.Ahead.{Tokens, first, tail, opens, closes}
use Rattle.lay_node.specs.Follow.{begins_there, OfColons}
use Rattle.lay_node.specs.reader.Loops.{Read, elements}
use Rattle.lay_node.specs.reader.Use.{renamed, use_word, use_group, use_end_by, ended, use_by, use_at}
use Rattle.lay_node.specs.reader.Words.{word, global, path_words}
use Rattle.lay_node.specs.declared.use_tree.UseTree.{UseTree}
use Rattle.lay_read_tokens.proofs.Left.{Leaves, unread, further, chain, choice, first_read, op_read, global_left, elements_left, word_left, path_words_left}
use Rattle.lay_read_shared.proofs.HeadsLeft.{renamed_left}

use_word_left : (ts : Tokens) → Leaves 1 ts (use_word ts)
use_word_left ts = chain 1 1 0 ts (word ts) _ (omega arith) (word_left ts)
    (λ w. chain 0 0 0 w.1 (renamed w.1) _ (omega arith) (renamed_left w.1) (λ r. unread r.1))

ended_left : (tree : UseTree × ℕ) (ts : Tokens) → Leaves 0 ts (ended tree ts)
ended_left tree ts = choice 0 ts (begins_there OfColons ts) None _ (λ h. tt) (unread ts)

module _ (within : Tokens → Read UseTree) (within_left : (ts : Tokens) → Leaves 1 ts (within ts)) where
  use_group_left : (ts : Tokens) → Leaves 1 ts (use_group within ts)
  use_group_left ts =
      chain 1 1 0 ts (elements (closes Brace) within ts) _ (omega arith)
      (elements_left within within_left (closes Brace) ts) (λ trees. unread trees.1)

  use_end_left : (ts : Tokens) → Leaves 1 ts (use_end_by within ts)
  use_end_left ts = choice 1 ts (first (opens Brace) ts) _ _
      (λ h. further 1 1 1 ts (tail ts) _ (omega arith) (first_read (opens Brace) ts h) (use_group_left (tail ts)))
      (choice 1 ts (is_op (codes "*") ts) _ _ (λ h. op_read (codes "*") 0 ts h) (use_word_left ts))

  use_by_left : (ts : Tokens) → Leaves 1 ts (use_by within ts)
  use_by_left ts = further 1 0 1 ts (global ts).1 _ (omega arith) (global_left ts)
      (chain 1 0 1 (global ts).1 (path_words (global ts).1) _ (omega arith) (path_words_left (global ts).1)
      (λ p. chain 1 1 0 p.1 (use_end_by within p.1) _ (omega arith) (use_end_left p.1) (λ end. ended_left _ end.1)))

pub use_left : (depth : ℕ) (ts : Tokens) → Leaves 1 ts (use_at depth ts)
unfolding use_at
use_left zero ts = tt
use_left (suc depth) ts = use_by_left (use_at depth) (use_left depth) ts
