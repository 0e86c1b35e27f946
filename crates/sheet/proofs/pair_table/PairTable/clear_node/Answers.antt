use Rattle.std.proofs.Common.{ap, ◌∙◌, arith}
use Rattle.sheet.specs.Tables.{Table, put, table}
use Rattle.sheet.proofs.Cleared.{cleared_all, cleared_more}
use Rattle.sheet.proofs.pair_table.PairTable.clear_node.Goals as goal

pub loop-k-preserved : goal.loop-k-preserved
loop-k-preserved c =
    c.set-in-loop-k.ensures ∙ ap (λ (t : Table). put t c.loop-k.k c.args.v 0) (c.set.ensures ∙ ap (λ (t : Table). put t c.args.v c.loop-k.k 0) c.loop-k.invariant)
    ∙ cleared_more c.args.v c.loop-k.k (table c.args.self.now.numbers)

pub returns : goal.returns
returns c = c.loop-k.invariant ∙ cleared_all c.args.v c.loop-k.k c.args.self.now.numbers (omega arith)
