-- The clause that an arc has a step is as long as there are nodes.
use Rattle.std.proofs.Common.{sym, ap, ◌∙◌, length, arith}
use Rattle.closings.specs.Inputs.{input}
use Rattle.closings.specs.ArcFacts.{ready_of}
use Rattle.closings.specs.StepsListing.{some_step_length}
use Rattle.closings.specs.StepsPlaces.{steps_at}
use Rattle.closings.proofs.steps.PlaceClausePlace.length.Goals as goal

pub returns-in-SomeStep : goal.returns-in-SomeStep
returns-in-SomeStep c =
    let x = c.args.x.now in
    let a = c.in-SomeStep.field-0 in
    let h = rw c.in-SomeStep.is at c.requires in
    let l = ((ready_of x).lawful.ends a h).0 in
    sym (ap (λ p. length (steps_at (input x) p)) c.in-SomeStep.is ∙ some_step_length (input x) a (omega arith))
