use Rattle.std.proofs.Common.{◌≡◌, [], ◌++◌, get_or, take, drop}
use Rattle.cnf.proofs.formula.Formula.copy_literals.Given as goal

abbrev pub invariant-loop-i : goal.invariant-loop-i
invariant-loop-i g l =
    (l.self ≡ l.initial.self)
    × (l.place-items ≡ take l.i (drop l.from (get_or (g.Self.Formula.clauses l.initial.self) l.k [])) ++ drop l.i l.initial.place-items)
