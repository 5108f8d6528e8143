use Rattle.lay_code.proofs.nodes.BodyLaws.{body_law, place_law}
use Rattle.lay_code.proofs.laws.body_law.Goals as goal

pub returns : goal.returns
returns c = record {
  as_statement = body_law;
  as_body = place_law;
}
