-- The planned clauses in memory. Assumes nothing.
--     listed b       the premises of a body
--     Small vs       every variable has a literal of 32 bits
--     arcs_in a      the arcs that lie in memory, and the next free variable
use Rattle.std.specs.Prelude.{ℕ, ◌^◌, ◌<◌, List, [], ◌∷◌}
use Rattle.sheet.specs.Implications.{Arcs}
use Rattle.sheet.specs.Tables.{table}
use Rattle.sheet.specs.declared.arcs.Arcs as memory
use Rattle.sheet.specs.declared.implications.Body.{Body}
use Rattle.sheet.specs.declared.implications.Body.TheVariants.{One, Two}
use Rattle.std.specs.List.{AllByRecursion}

abbrev pub listed : Body → List ℕ
listed (One v) = v ∷ []
listed (Two v w) = v ∷ (w ∷ [])

abbrev pub Small : List ℕ → Type 0
Small vs = AllByRecursion (λ v. v < 2 ^ 31) vs

abbrev pub arcs_in : memory.Arcs → Arcs
arcs_in a = record { arc = table a.variables.numbers; next = a.next }
