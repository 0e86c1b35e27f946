use Rattle.std.proofs.Common.{◌≡◌, ◌*◌, ◌≤◌, take, sum_by}
use Rattle.cnf.proofs.writing.ShortClauses.total_cost.Given as goal

abbrev pub invariant-loop-k : goal.invariant-loop-k
invariant-loop-k g l =
    (l.self.source ≡ l.initial.self.source)
    × (l.sink ≡ l.initial.sink)
    × (l.sum ≡ sum_by (g.S.Sink.state l.initial.sink).cost (take l.k (g.F.Formula.clauses l.initial.self.source.now)))
    × (l.sum ≤ 4096 * l.k)
