-- Which clause of the steps stands at a place. Assumes nothing.
--     steps_at x p    the clause that stands at the place
--     StepsIn x p     the node, the arc and the k of the place are among those of the input
use Rattle.std.specs.Prelude.{◌<◌, ◌≤◌}
use Rattle.cnf.specs.Clauses.{Clause}
use Rattle.closings.specs.Inputs.{Input, arc_count}
use Rattle.closings.specs.StepsClauses.{label_rises, some_step, step_enters, step_leaves}
use Rattle.closings.specs.declared.steps.Place.{Place}
use Rattle.closings.specs.declared.steps.Place.TheVariants.{Enters, Leaves, Rises, SomeStep}

abbrev pub steps_at : Input → Place → Clause
steps_at x (Rises i k) = label_rises x i k
steps_at x (Leaves a k) = step_leaves x a k
steps_at x (Enters a k) = step_enters x a k
steps_at x (SomeStep a) = some_step x a

abbrev pub StepsIn : Input → Place → Type 0
StepsIn x (Rises i k) = (i < x.nodes) × (2 ≤ k) × (k < x.nodes)
StepsIn x (Leaves a k) = (a < arc_count x) × (1 ≤ k) × (k < x.nodes)
StepsIn x (Enters a k) = (a < arc_count x) × (1 ≤ k) × (k < x.nodes)
StepsIn x (SomeStep a) = a < arc_count x
