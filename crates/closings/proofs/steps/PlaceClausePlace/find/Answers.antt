-- The place that is found is that of the clause.
use Rattle.closings.specs.Inputs.{input}
use Rattle.closings.specs.StepsListing.{found_enters, found_leaves, found_rises, found_some_step, none_past}
use Rattle.closings.proofs.steps.PlaceClausePlace.find.Goals as goal

pub returns-then-k-rises : goal.returns-then-k-rises
returns-then-k-rises c =
    found_rises (input c.args.x.now) c.args.k _ _ c.step_count-steps.ensures c.saturating_sub-row.ensures c.if-k-rises.true

pub returns-then-a-arc_count-clause-is : goal.returns-then-a-arc_count-clause-is
returns-then-a-arc_count-clause-is c =
    none_past (input c.args.x.now) c.args.k _ _ c.step_count-steps.ensures
    c.saturating_sub-row.ensures c.if-k-rises.false (rw c.arc_count.ensures.is at c.if-a-arc_count.true)

pub returns-then-at-steps : goal.returns-then-at-steps
returns-then-at-steps c =
    found_some_step (input c.args.x.now) c.args.k _ _ c.step_count-steps.ensures
    c.saturating_sub-row.ensures c.if-k-rises.false (rw c.arc_count.ensures.is at c.if-a-arc_count.false) c.if-at-steps.true

pub returns-then-at-eq0 : goal.returns-then-at-eq0
returns-then-at-eq0 c =
    found_leaves (input c.args.x.now) c.args.k _ _ c.step_count-steps.ensures
    c.saturating_sub-row.ensures c.if-k-rises.false (rw c.arc_count.ensures.is at c.if-a-arc_count.false) c.if-at-steps.false c.if-at-eq0.true

pub returns-else-at-eq0 : goal.returns-else-at-eq0
returns-else-at-eq0 c =
    found_enters (input c.args.x.now) c.args.k _ _ c.step_count-steps.ensures
    c.saturating_sub-row.ensures c.if-k-rises.false (rw c.arc_count.ensures.is at c.if-a-arc_count.false) c.if-at-steps.false c.if-at-eq0.false
