-- Ranks: numbers of the nodes that rise along every edge. Assumes nothing.
--     Rises ρ R     the numbers ρ rise along every edge of R
--     Ranked n r    some numbers, below n at every node below n, rise along every edge of r
--     RankLaw       a graph on finitely many nodes has no ring exactly when it is ranked
use Rattle.std.specs.Prelude.{ℕ, ◌<◌, ◌↔◌}
use Rattle.graph.specs.Walks.{Edges, Edge, Inside, Ringless}

abbrev pub Rises : (ℕ → ℕ) → (ℕ → ℕ → Type 0) → Type 0
Rises ρ R = (u w : ℕ) → R u w → ρ u < ρ w

pub record Ranked (n : ℕ) (r : Edges) : Type 0 where
  pub rank : ℕ → ℕ
  pub low : (u : ℕ) → u < n → rank u < n
  pub rises : Rises rank (Edge r)

abbrev pub RankLaw : Type 0
RankLaw = (n : ℕ) (r : Edges) → Inside n r → Ringless (Edge r) ↔ Ranked n r
