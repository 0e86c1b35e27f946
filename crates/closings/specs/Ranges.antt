-- Lists made by ranges. Assumes nothing.
--     upto n f    f 0, f 1 .. f (n − 1)
--     each n f    the lists f 0, f 1 .. f (n − 1), one behind the other
use Rattle.std.specs.Prelude.{ℕ, List, map}
use Rattle.std.specs.List.{range_with_len, flat_map}

abbrev pub upto : {X : Type 0} → ℕ → (ℕ → X) → List X
upto n f = map f (range_with_len 0 n)

abbrev pub each : {X : Type 0} → ℕ → (ℕ → List X) → List X
each n f = flat_map f (range_with_len 0 n)
