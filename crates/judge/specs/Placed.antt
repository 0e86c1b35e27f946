-- What placing the nodes of a graph leaves. Assumes nothing.
--     Marked r n marks       the first n marks say which nodes stand in the order
--     Placed r n marks ns    ns is the order, and the marks say so
use Rattle.std.specs.Prelude.{◌≡◌, ℕ, ◌<◌, List}
use Rattle.graph.specs.Walks.{Edges}
use Rattle.judge.specs.Marks.{unmarked}
use Rattle.judge.specs.Placing.{order, outside}

abbrev pub Marked : Edges → ℕ → List ℕ → Type 0
Marked r n marks = (u : ℕ) → u < n → unmarked marks u ≡ outside (order r n) u

pub record Placed (r : Edges) (n : ℕ) (marks ns : List ℕ) : Type 0 where
  pub listed : ns ≡ order r n
  pub marked : Marked r n marks
