use Rattle.std.proofs.Common.{◌≡◌, false, take}
use Rattle.std.specs.List.{list_any}
use Rattle.cnf.specs.Clauses.{bad_length}
use Rattle.cnf.proofs.writing.any_bad_length.Given as goal

abbrev pub invariant-loop-k : goal.invariant-loop-k
invariant-loop-k g l =
    (l.source ≡ l.initial.source) × (list_any (bad_length l.longest) (take l.k (g.F.Formula.clauses l.initial.source)) ≡ false)
