-- Which clause of the numbers a place says, and which places there are. Assumes nothing.
--     numbers_at x p    the clause at place p
--     NumbersIn x p     the place has an arc, and its bit is one from 2 on
use Rattle.std.specs.Prelude.{ℕ, ◌<◌, ◌≤◌}
use Rattle.cnf.specs.Clauses.{Clause}
use Rattle.closings.specs.Inputs.{Input, arc_count}
use Rattle.closings.specs.NumbersClauses.{all_rise, bit_rises, bits_for, low_enters, low_leaves, rest_enters, rest_leaves}
use Rattle.closings.specs.declared.numbers.Place.{Place}
use Rattle.closings.specs.declared.numbers.Place.TheVariants.{AllRise, BitRises, LowEnters, LowLeaves}
use Rattle.closings.specs.declared.numbers.Place.TheVariants.{RestEnters, RestLeaves}

abbrev pub numbers_at : Input → Place → Clause
numbers_at x (LowLeaves a) = low_leaves x a
numbers_at x (LowEnters a) = low_enters x a
numbers_at x (BitRises a k) = bit_rises x a k
numbers_at x (RestLeaves a k) = rest_leaves x a k
numbers_at x (RestEnters a k) = rest_enters x a k
numbers_at x (AllRise a) = all_rise x a

-- an arc, where there is a bit
abbrev InArc : Input → ℕ → Type 0
InArc x a = (a < arc_count x) × (1 ≤ bits_for x.nodes)

-- an arc, and a bit from the second on
abbrev InBit : Input → ℕ → ℕ → Type 0
InBit x a k = (a < arc_count x) × (2 ≤ k) × (k ≤ bits_for x.nodes)

abbrev pub NumbersIn : Input → Place → Type 0
NumbersIn x (LowLeaves a) = InArc x a
NumbersIn x (LowEnters a) = InArc x a
NumbersIn x (BitRises a k) = InBit x a k
NumbersIn x (RestLeaves a k) = InBit x a k
NumbersIn x (RestEnters a k) = InBit x a k
NumbersIn x (AllRise a) = InArc x a
