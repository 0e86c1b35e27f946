use Rattle.std.proofs.Common.{◌≡◌, ℕ, ◌<◌, get_or}
use Rattle.graph.specs.Counts.{count}
use Rattle.judge.proofs.placing.in_degrees.Given as goal

abbrev pub invariant-loop-w : goal.invariant-loop-w
invariant-loop-w g l =
    (k : ℕ) → k < l.w → get_or l.degree-items k 0 ≡ count (g.G.Digraph.size l.g) (λ u. g.G.Digraph.edges l.g u k)
