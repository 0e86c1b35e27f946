-- What makes clauses, with m variables from the first free one on, a closing of an input. Assumes nothing.
--     Extends x m σ τ   τ is σ but for the values of the m added variables
--     Closes x m cs     for every choice of arcs, some values of the added variables meet the clauses exactly when the
--                       chosen arcs have no ring
--     Own x m z         the literal stands on the variable of an arc, or on an added one
--     Uses x m cs       all literals do
--     Small m cs        at most 300,000 added variables and 600,000 clauses, each of 1 to 64 literals
use Rattle.std.specs.Prelude.{◌≡◌, ℕ, ◌+◌, ◌<◌, ◌≤◌, ◌⊎◌, ◌↔◌, List, length, ℤ}
use Rattle.cnf.specs.Clauses.{Clause, variable}
use Rattle.cnf.specs.Satisfaction.{Sat, Values}
use Rattle.closings.specs.Inputs.{Chosen, Input, arc_at, arc_count}
use Rattle.graph.specs.Walks.{Ringless}
use Rattle.std.specs.List.{AllByRecursion}

abbrev pub Extends : Input → ℕ → Values → Values → Type 0
Extends x m σ τ = (v : ℕ) → (v < x.first) ⊎ (x.first + m ≤ v) → τ v ≡ σ v

abbrev pub Closes : Input → ℕ → List Clause → Type 0
Closes x m cs = (σ : Values) → ((τ : Values) × Extends x m σ τ × Sat τ cs) ↔ Ringless (Chosen x σ)

abbrev pub Own : Input → ℕ → ℤ → Type 0
Own x m z =
    ((a : ℕ) × (a < arc_count x) × (variable z ≡ (arc_at x a).variable))
    ⊎ ((x.first ≤ variable z) × (variable z < x.first + m))

abbrev pub Uses : Input → ℕ → List Clause → Type 0
Uses x m cs = AllByRecursion (AllByRecursion (Own x m)) cs

pub record Small (m : ℕ) (cs : List Clause) : Type 0 where
  pub added : m ≤ 300000
  pub clauses : length cs ≤ 600000
  pub sizes : AllByRecursion (λ c. (1 ≤ length c) × (length c ≤ 64)) cs
