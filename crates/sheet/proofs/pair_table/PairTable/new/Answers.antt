use Rattle.sheet.proofs.Blank.{blank_table}
use Rattle.sheet.proofs.pair_table.PairTable.new.Goals as goal

pub returns : goal.returns
returns c = blank_table
