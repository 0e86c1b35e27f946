-- The places of the clauses of Closure. Assumes nothing.
--     closure_at x p    the clause that stands at a place
--     ClosureIn x p     the place is one of the input: its nodes and its arc are there
use Rattle.std.specs.Prelude.{◌<◌}
use Rattle.cnf.specs.Clauses.{Clause}
use Rattle.closings.specs.ClosureClauses.{arc_before, never_itself, transitive}
use Rattle.closings.specs.Inputs.{Input, arc_count}
use Rattle.closings.specs.declared.closure.Place.{Place}
use Rattle.closings.specs.declared.closure.Place.TheVariants.{ArcBefore, NeverItself, Transitive}

abbrev pub closure_at : Input → Place → Clause
closure_at x (NeverItself i) = never_itself x i
closure_at x (Transitive i j k) = transitive x i j k
closure_at x (ArcBefore a) = arc_before x a

abbrev pub ClosureIn : Input → Place → Type 0
ClosureIn x (NeverItself i) = i < x.nodes
ClosureIn x (Transitive i j k) = (i < x.nodes) × (j < x.nodes) × (k < x.nodes)
ClosureIn x (ArcBefore a) = a < arc_count x
