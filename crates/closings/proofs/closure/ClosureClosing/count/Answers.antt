-- The number of clauses is the length of the list.
use Rattle.std.proofs.Common.{arith}
use Rattle.closings.specs.Inputs.{input}
use Rattle.closings.specs.ClosureListing.{length_closure}
use Rattle.closings.proofs.closure.ClosureClosing.count.Goals as goal

pub returns : goal.returns
returns c = omega (arith, length_closure (input c.args.x.now), c.arc_count.ensures.is)
