use Rattle.std.proofs.Common.{◌∙◌, arith, rules, tests}
use Rattle.std.proofs.lemmas.Iterator.{YieldsList-from_range}
use Rattle.std.proofs.lemmas.Iterator.Consumers.{YieldsList-from_filter, count_from_yields_List}
use Rattle.judge.proofs.First.{filter_count}
use Rattle.judge.proofs.placing.in_degree.Goals as goal

pub returns : goal.returns
returns g c =
    count_from_yields_List c.filter.result _ c.count.ensures.ran
    (YieldsList-from_filter _ (λ u. g.G.Digraph.edges c.args.g.now u c.args.w) (YieldsList-from_range 0 _ (g.G.Digraph.size c.args.g.now) c.filter.ensures.source (omega (arith, c.nodes.ensures.number))) c.filter.ensures.closure
    (λ x r q k. search (rules, tests)))
    ∙ filter_count _ _
