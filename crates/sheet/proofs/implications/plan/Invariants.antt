use Rattle.std.proofs.Common.{◌+◌, ◌*◌, length}
use Rattle.bounded.specs.Lists.{room}
use Rattle.sheet.proofs.Plans.{Looked}
use Rattle.sheet.proofs.implications.plan.Given as goal

-- the pairs of the rows above u have been looked at
abbrev pub invariant-loop-u : goal.invariant-loop-u
invariant-loop-u g l =
    Looked (g.R.Rule.premises l.rule) l.nodes l.fn.arcs (length (room l.fn.pairs)) (l.u * l.nodes) l.arcs l.pairs

-- and those of row u up to w
abbrev pub invariant-loop-w : goal.invariant-loop-w
invariant-loop-w g l =
    Looked (g.R.Rule.premises l.rule) l.nodes l.fn.arcs (length (room l.fn.pairs)) (l.u * l.nodes + l.w) l.arcs l.pairs
