-- The first of the numbers below a bound that pass a test. Assumes nothing.
--     first_below n p    the least number below n that passes p, or none where none does
use Rattle.std.specs.Prelude.{ℕ, Bool, cond, Some, None, Option, nat_lt}
use Rattle.graph.specs.Counts.{least}

abbrev pub first_below : ℕ → (ℕ → Bool) → Option ℕ
first_below n p = cond (nat_lt (least n p) n) (Some (least n p)) None
