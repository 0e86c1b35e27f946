-- The literals of the clause that an arc has a step.
use Rattle.std.proofs.Common.{sym, arith, rules}
use Rattle.closings.specs.Inputs.{input}
use Rattle.closings.specs.ArcFacts.{ready_of}
use Rattle.closings.specs.StepsListing.{some_step_literal, some_step_past}
use Rattle.closings.proofs.steps.some_step.Goals as goal

pub returns-then-j-x : goal.returns-then-j-x
returns-then-j-x c =
    let e = some_step_literal (input c.args.x.now) c.args.a c.args.j (omega arith) c.if-j-x.true in
    search rules

pub returns : goal.returns
returns c =
    let x = c.args.x.now in
    let l = ((ready_of x).lawful.ends c.args.a c.requires).0 in
    sym (some_step_past (input x) c.args.a c.args.j (omega arith) c.if-j-x.false)
