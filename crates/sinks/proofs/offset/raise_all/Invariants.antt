use Rattle.std.proofs.Common.{◌≡◌, map, length, take}
use Rattle.cnf.specs.States.{raised}
use Rattle.sinks.proofs.offset.raise_all.Given as goal

abbrev pub invariant-loop-i : goal.invariant-loop-i
invariant-loop-i l = (length l.out ≡ 256) × (take l.i l.out ≡ map (raised l.shift) (take l.i l.clause))
