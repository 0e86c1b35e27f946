use Rattle.judge.proofs.Walks.{Walking}
use Rattle.judge.proofs.walking.walk.Given as goal

abbrev pub invariant-loop-head : goal.invariant-loop-head
invariant-loop-head g l = Walking (g.G.Digraph.edges l.g) (g.G.Digraph.size l.g) l.path l.head
