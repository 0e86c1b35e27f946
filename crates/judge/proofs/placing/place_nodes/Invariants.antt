use Rattle.judge.proofs.Steps.{Placing}
use Rattle.judge.proofs.placing.place_nodes.Given as goal

abbrev pub invariant-loop-count : goal.invariant-loop-count
invariant-loop-count g l =
    Placing (g.G.Digraph.edges l.g) (g.G.Digraph.size l.g) l.marks l.order l.degrees l.count
