use Rattle.std.proofs.Common.{◌≡◌, ℕ, ◌-◌, ◌<◌, ◌≤◌, cond, get_or}
use Rattle.judge.proofs.placing.release.Given as goal

abbrev pub invariant-loop-w : goal.invariant-loop-w
invariant-loop-w g l =
    ((k : ℕ) → k < l.w → get_or l.degree-items k 0 ≡ get_or l.initial.degree-items k 0 - cond (g.G.Digraph.edges l.g l.v k) 1 0)
    × ((k : ℕ) → l.w ≤ k → get_or l.degree-items k 0 ≡ get_or l.initial.degree-items k 0)
