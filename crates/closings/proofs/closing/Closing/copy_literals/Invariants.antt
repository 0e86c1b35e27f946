use Rattle.std.proofs.Common.{◌≡◌, [], ◌++◌, get_or, take, drop}
use Rattle.closings.specs.Inputs.{input}
use Rattle.closings.proofs.closing.Closing.copy_literals.Given as goal

abbrev pub invariant-loop-i : goal.invariant-loop-i
invariant-loop-i g l =
    l.place-items
    ≡ take l.i (drop l.from (get_or (g.Self.Closing.means l.self (input l.x)) l.k []))
    ++ drop l.i l.initial.place-items
