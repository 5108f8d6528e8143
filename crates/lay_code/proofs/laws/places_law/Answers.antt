use Rattle.lay_code.proofs.nodes.PlacesTable.{assign_row, chain_row, range_row, root_row, unary_row}
use Rattle.lay_code.proofs.laws.places_law.Goals as goal

pub returns : goal.returns
returns c = record {
  unary = unary_row;
  range = range_row;
  assign = assign_row;
  chain = chain_row;
  others = root_row;
}
