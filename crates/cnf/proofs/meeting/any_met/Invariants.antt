use Rattle.std.proofs.Common.{◌≡◌, false, take}
use Rattle.std.specs.List.{list_any}
use Rattle.cnf.specs.Meeting.{met}
use Rattle.cnf.proofs.meeting.any_met.Given as goal

abbrev pub invariant-loop-literal : goal.invariant-loop-literal
invariant-loop-literal l = list_any (met l.values) (take l.literal-index l.literals) ≡ false
