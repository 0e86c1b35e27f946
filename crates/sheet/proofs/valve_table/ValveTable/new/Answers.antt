use Rattle.sheet.proofs.Blank.{blank_table}
use Rattle.sheet.proofs.valve_table.ValveTable.new.Goals as goal

pub returns : goal.returns
returns c = blank_table
