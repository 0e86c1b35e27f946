use Rattle.std.proofs.Common.{ap, ◌∙◌, rules, tests}
use Rattle.sheet.specs.View.{view}
use Rattle.judge.specs.Values.{first_unknown, is_unknown, pair_valve}
use Rattle.judge.proofs.First.{find_map_first}
use Rattle.judge.proofs.open.OpenPipes.first_unknown.Goals as goal

pub returns : goal.returns
returns c =
    let pipe = (view c.args.self.now.sheet.now).pipe in
    let values = c.args.self.now.values.now in
    find_map_first _ (λ i. is_unknown values (pair_valve c.nodes-n.result pipe i)) (λ i. pair_valve c.nodes-n.result pipe i) _
    (λ x o h k. search (rules, tests)) _ c.find_map.ensures.runs
    ∙ ap (λ n. first_unknown n pipe values) c.nodes-n.ensures
