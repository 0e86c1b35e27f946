use Rattle.std.proofs.Common.{◌≡◌, ◌-◌, arith}
use Rattle.std.proofs.lemmas.Nat.{leading_length}
use Rattle.closings.specs.NumbersClauses.{bits_for}
use Rattle.closings.specs.Widths.{bits_least, bits_length}
use Rattle.closings.proofs.numbers.bits.Goals as goal

pub returns : goal.returns
returns c =
    let a = c.saturating_sub.result in
    let r = c.args.r in
    let m = leading_length 32 a (omega arith) in
    let e : a ≡ r - 1 = c.saturating_sub.ensures in
    let is : m.0 ≡ bits_for r = bits_length r m.0 (omega (arith, m.2)) (omega (arith, m.3)) in
    let few = bits_least r 6 (omega arith) in
    record { is = omega (arith, m.1); few = omega (arith, m.1) }
