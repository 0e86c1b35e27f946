use Rattle.std.proofs.Common.{◌≡◌, ◌++◌, take}
use Rattle.cnf.specs.Writing.{written}
use Rattle.cnf.proofs.writing.ShortClauses.add_all.Given as goal

abbrev pub invariant-loop-k : goal.invariant-loop-k
invariant-loop-k g l =
    let cs = g.F.Formula.clauses l.initial.self.source.now in
    (l.self.source ≡ l.initial.self.source)
    × (g.S.Sink.state l.sink ≡ written (g.S.Sink.state l.initial.sink) (take l.k cs))
    × (g.S.Formula.clauses l.sink ≡ g.S.Formula.clauses l.initial.sink ++ take l.k cs)
    × (g.S.Sink.names l.sink ≡ g.S.Sink.names l.initial.sink)
