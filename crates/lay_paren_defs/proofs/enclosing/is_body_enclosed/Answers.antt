use Rattle.std.proofs.Common.{◌∙◌}
use Rattle.lay_paren_defs.proofs.KeptLemmas.{block_bare, enclosed_as_parts, labelled_bare, never_enclosed, other_bare}
use Rattle.lay_paren_defs.proofs.enclosing.is_body_enclosed.Goals as goal

pub returns-in-None : goal.returns-in-None
returns-in-None g c = never_enclosed g.X.Enclose.on _ (block_bare c.args.body.now _ _ c.in-Block.is c.in-None.is)

pub returns-in-Some : goal.returns-in-Some
returns-in-Some g c = c.on.ensures ∙ enclosed_as_parts g.X.Enclose.on _ (labelled_bare c.args.body.now _ _ _ c.in-Block.is c.in-Some.is)

pub returns-in_default : goal.returns-in_default
returns-in_default g c = c.on-in_default.ensures ∙ enclosed_as_parts g.X.Enclose.on _ (other_bare c.args.body.now c.in_default.not-Block)
