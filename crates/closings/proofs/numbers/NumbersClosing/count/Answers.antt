use Rattle.std.proofs.Common.{sym}
use Rattle.closings.specs.Inputs.{input}
use Rattle.closings.specs.NumbersListing.{length_numbers}
use Rattle.closings.proofs.numbers.NumbersClosing.count.Goals as goal

pub returns : goal.returns
returns c =
    rw (c.saturating_sub.ensures, c.bits.ensures.is, c.arc_count.ensures.is)
    (sym (length_numbers (input c.args.x.now)))
