use Rattle.std.proofs.Common.{rules, tests}
use Rattle.judge.specs.Marks.{unmarked}
use Rattle.judge.proofs.First.{find_first}
use Rattle.judge.proofs.walking.first_unmarked.Goals as goal

pub returns : goal.returns
returns g c =
    rw (← c.nodes.ensures.number)
    (find_first _ (unmarked c.args.marks.now) _ _ _ c.find.ensures.ran (λ x b q k. search (rules, tests)))
