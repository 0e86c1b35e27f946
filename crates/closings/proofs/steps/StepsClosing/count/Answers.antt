-- How many clauses there are.
use Rattle.std.proofs.Common.{sym}
use Rattle.closings.specs.Inputs.{input}
use Rattle.closings.specs.StepsListing.{length_steps}
use Rattle.closings.proofs.steps.StepsClosing.count.Goals as goal

pub returns : goal.returns
returns c =
    rw (c.step_count-steps.ensures, c.saturating_sub-row.ensures, c.arc_count.ensures.is)
    (sym (length_steps (input c.args.x.now)))
