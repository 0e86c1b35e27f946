use Rattle.std.proofs.Common.{◌≡◌, false, take}
use Rattle.std.specs.List.{list_any}
use Rattle.cnf.specs.Clauses.{has_bad_literal}
use Rattle.cnf.proofs.writing.ShortClauses.any_bad_literal.Given as goal

abbrev pub invariant-loop-k : goal.invariant-loop-k
invariant-loop-k g l =
    (l.self.source ≡ l.initial.self.source)
    × (list_any (has_bad_literal l.top) (take l.k (g.F.Formula.clauses l.initial.self.source.now)) ≡ false)
