use Rattle.std.proofs.Common.{eqb, ◌∙◌, rules, tests}
use Rattle.std.proofs.lemmas.Iterator.{YieldsList-from_slice}
use Rattle.std.proofs.lemmas.Iterator.Search.{position_from_yields_List}
use Rattle.judge.proofs.First.{position_first}
use Rattle.judge.proofs.walking.place_of.Goals as goal

pub returns : goal.returns
returns c =
    position_from_yields_List (λ x. eqb x c.args.u) _ _ _ c.position.ensures.ran (YieldsList-from_slice c.args.nodes.now c.iter.ensures.rest)
    (λ x b q k. search (rules, tests))
    ∙ position_first _ _
