use Rattle.std.proofs.Common.{◌&&◌, eqb, get_or, rules, tests}
use Rattle.judge.specs.Marks.{unmarked}
use Rattle.judge.proofs.First.{find_first}
use Rattle.judge.proofs.placing.next_node.Goals as goal

pub returns : goal.returns
returns g c =
    rw (← c.nodes.ensures.number)
    (find_first _ (λ w. unmarked c.args.marks.now w && eqb (get_or c.args.degrees.now w 0) 0) _ _ _ c.find.ensures.ran
    (λ x b q k. search (rules, tests)))
