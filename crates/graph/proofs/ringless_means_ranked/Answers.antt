use Rattle.graph.proofs.Ranks.{rank_law}
use Rattle.graph.proofs.ringless_means_ranked.Goals as goal

pub returns : goal.returns
returns c = rank_law
