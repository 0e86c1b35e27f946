use Rattle.std.proofs.Common.{arith}
use Rattle.judge.proofs.Steps.{placed_full, placed_stop, placing_more}
use Rattle.judge.proofs.placing.place_nodes.Goals as goal

pub returns-in_default : goal.returns-in_default
returns-in_default g c =
    placed_stop _ _ _ _ _ _ c.loop-count.invariant (omega (arith, c.loop-count-test.true, c.nodes-n.ensures.number)) c.in_default.ensures

pub loop-count-preserved : goal.loop-count-preserved
loop-count-preserved g c =
    placing_more _ _ _ _ _ _ c.loop-count.invariant (omega (arith, c.loop-count-test.true, c.nodes-n.ensures.number))
    (omega (arith, c.nodes-n.ensures.few, c.nodes-n.ensures.number)) _ c.in-Some.ensures _
    (omega (arith, c.requires.0, c.loop-count.auto.marks)) c.release.array_long c.release.ensures

pub returns : goal.returns
returns g c =
    rw c.nodes-n.ensures.number
    (placed_full _ _ _ _ _ _ (omega (arith, c.nodes-n.ensures.number)) c.loop-count.invariant)
