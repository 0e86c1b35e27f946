-- Finding the place of a clause, by the three parts of the list.
use Rattle.std.proofs.Common.{◌-◌, ◌*◌, arith}
use Rattle.closings.specs.Inputs.{input}
use Rattle.closings.specs.ClosureListing.{closure_first, closure_past, closure_second, closure_third}
use Rattle.closings.proofs.closure.PlaceClausePlace.find.Goals as goal

pub returns-then-k-nodes-clause-is : goal.returns-then-k-nodes-clause-is
returns-then-k-nodes-clause-is c = closure_first (input c.args.x.now) c.args.k c.if-k-nodes.true

pub returns-then-second-cube-clause-is : goal.returns-then-second-cube-clause-is
returns-then-second-cube-clause-is c =
    closure_second (input c.args.x.now) c.args.k _ (omega (arith, c.if-k-nodes.false)) c.if-second-cube.true

pub returns-then-third-arc_count-clause-is : goal.returns-then-third-arc_count-clause-is
returns-then-third-arc_count-clause-is c =
    let r = c.args.x.now.nodes in
    closure_third (input c.args.x.now) c.args.k (c.args.k - r - r * (r * r))
    (omega (arith, c.if-k-nodes.false, c.if-second-cube.false))
    (omega (arith, c.if-third-arc_count.true, c.arc_count.ensures.is))

pub returns-clause-is : goal.returns-clause-is
returns-clause-is c = closure_past (input c.args.x.now) c.args.k (omega (arith, c.arc_count.ensures.is))
