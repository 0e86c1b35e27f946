use Rattle.std.proofs.Common.{not, rules, tests, arith}
use Rattle.std.proofs.lemmas.Iterator.{YieldsList-from_range}
use Rattle.std.proofs.lemmas.Iterator.Consumers.{YieldsList-from_filter}
use Rattle.sheet.specs.View.{view}
use Rattle.sheet.proofs.Degrees.{least_picked, least_right}
use Rattle.sheet.proofs.place.Sheet.least_node.Goals as goal

pub returns-clause-value : goal.returns-clause-value
returns-clause-value c =
    let s = view c.args.self.now in
    least_picked s (λ x r q k. search (rules, tests)) c.min_by_key.ensures.ran
    (YieldsList-from_filter _ (λ u. not (s.out u)) (YieldsList-from_range 0 s.nodes s.nodes (cc) (omega arith)) c.filter.ensures.closure (λ x b q k. search (rules, tests)))

pub returns-clause-right : goal.returns-clause-right
returns-clause-right c = least_right (view c.args.self.now) c.min_by_key.result (returns-clause-value c)
