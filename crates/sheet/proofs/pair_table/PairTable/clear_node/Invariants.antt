use Rattle.std.proofs.Common.{◌≡◌}
use Rattle.sheet.specs.Tables.{table}
use Rattle.sheet.proofs.Cleared.{cleared}
use Rattle.sheet.proofs.pair_table.PairTable.clear_node.Given as goal

abbrev pub invariant-loop-k : goal.invariant-loop-k
invariant-loop-k l = table l.self.numbers ≡ cleared l.v l.k (table l.initial.self.numbers)
