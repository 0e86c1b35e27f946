use Rattle.sheet.specs.Tables.{table}
use Rattle.sheet.proofs.Blank.{new_keeps, new_view}
use Rattle.sheet.proofs.place.Sheet.blank.Goals as goal

pub invariant_of-result : goal.invariant_of-result
invariant_of-result c =
    new_keeps c.args.phase _ _ (table c.new.result.numbers) (table c.new-2.result.numbers) c.new.ensures c.new-2.ensures
    c.requires.nodes c.requires.valves

pub returns : goal.returns
returns c =
    new_view c.args.phase _ _ (table c.new.result.numbers) (table c.new-2.result.numbers) c.new.ensures c.new-2.ensures c.args.number
