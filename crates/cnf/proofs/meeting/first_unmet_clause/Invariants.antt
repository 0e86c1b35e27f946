use Rattle.std.proofs.Common.{◌≡◌, ℕ, ◌<◌, true, [], get_or}
use Rattle.std.specs.List.{list_any}
use Rattle.cnf.specs.Meeting.{met}
use Rattle.cnf.proofs.meeting.first_unmet_clause.Given as goal

abbrev pub invariant-loop-k : goal.invariant-loop-k
invariant-loop-k g l =
    (l.formula ≡ l.initial.formula)
    × ((i : ℕ) → i < l.k → list_any (met l.values) (get_or (g.F.Formula.clauses l.initial.formula) i []) ≡ true)
