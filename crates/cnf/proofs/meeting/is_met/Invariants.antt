use Rattle.std.proofs.Common.{◌≡◌, false, [], length, get_or, take}
use Rattle.std.specs.List.{list_any}
use Rattle.cnf.specs.Meeting.{met}
use Rattle.cnf.proofs.meeting.is_met.Given as goal

abbrev pub invariant-loop-from : goal.invariant-loop-from
invariant-loop-from g l =
    (l.formula ≡ l.initial.formula) × (length l.buffer ≡ 256)
    × (list_any (met l.values) (take l.from (get_or (g.F.Formula.clauses l.initial.formula) l.k [])) ≡ false)
