use Rattle.graph.proofs.Elimination.{elimination_law}
use Rattle.graph.proofs.elimination_keeps_rings.Goals as goal

pub returns : goal.returns
returns c = elimination_law
