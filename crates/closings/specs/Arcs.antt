-- Arcs by position, as a list that is filled up to a count. Assumes nothing.
--     no_arc            what stands where there is no arc
--     arc_in es a       arc a of the list
--     pair_in r es a    the place of arc a among all ordered pairs of r nodes, ascending
-- and of the first n arcs of a list
--     Ends r es n       they join two different nodes below r
--     Variables f es n  their variables are positive and below f
--     Apart es n        no two stand on the same variable
--     Ascending r es n  they ascend by their pairs
use Rattle.std.specs.Prelude.{◌≡◌, ℕ, ◌+◌, ◌*◌, ◌<◌, ◌≤◌, List, ◌≢◌, slice_index_or}
use Rattle.closings.specs.declared.arc.Arc.{Arc}

abbrev pub no_arc : Arc
no_arc = record { from = 0; to = 0; variable = 0 }

abbrev pub arc_in : List Arc → ℕ → Arc
arc_in es a = slice_index_or es a no_arc

abbrev pub pair_in : ℕ → List Arc → ℕ → ℕ
pair_in r es a = (arc_in es a).from * r + (arc_in es a).to

abbrev pub Ends : ℕ → List Arc → ℕ → Type 0
Ends r es n = (a : ℕ) → a < n → ((arc_in es a).from < r) × ((arc_in es a).to < r) × ((arc_in es a).from ≢ (arc_in es a).to)

abbrev pub Variables : ℕ → List Arc → ℕ → Type 0
Variables f es n = (a : ℕ) → a < n → (1 ≤ (arc_in es a).variable) × ((arc_in es a).variable < f)

abbrev pub Apart : List Arc → ℕ → Type 0
Apart es n = (a b : ℕ) → (a < n) × (b < n) × ((arc_in es a).variable ≡ (arc_in es b).variable) → a ≡ b

abbrev pub Ascending : ℕ → List Arc → ℕ → Type 0
Ascending r es n = (a : ℕ) → a + 1 < n → pair_in r es a < pair_in r es (a + 1)
