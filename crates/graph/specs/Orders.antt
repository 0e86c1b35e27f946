-- Orders and rings as lists of nodes. Assumes nothing.
--     Distinct ns        no node stands twice in the list
--     IsOrder n r ns     every node below n once, and every edge between them leads onward in the list
--     IsRing r ns        distinct nodes, the smallest first, with an edge from each to the next and from the last to the first
--     OrderLaw           a graph whose nodes stand in an order has no ring, and one with a list that is a ring has one
use Rattle.std.specs.Prelude.{◌≡◌, ℕ, ◌+◌, ◌-◌, ◌<◌, ◌≤◌, true, List, length, ◌≢◌, slice_index}
use Rattle.graph.specs.Walks.{Edges, Edge, Inside, Ring, Ringless}

abbrev pub Distinct : List ℕ → Type 0
Distinct ns = (i j : ℕ) → i < j → j < length ns → slice_index ns i ≢ slice_index ns j

pub record IsOrder (n : ℕ) (r : Edges) (ns : List ℕ) : Type 0 where
  pub size : length ns ≡ n
  pub below : (k : ℕ) → k < length ns → slice_index ns k < n
  pub distinct : Distinct ns
  pub all : (u : ℕ) → u < n → (k : ℕ) × (k < length ns) × (slice_index ns k ≡ u)
  pub onward : (i j : ℕ) → i < length ns → j < length ns → r (slice_index ns i) (slice_index ns j) ≡ true → i < j

pub record IsRing (r : Edges) (ns : List ℕ) : Type 0 where
  pub some : 0 < length ns
  pub distinct : Distinct ns
  pub smallest : (k : ℕ) → k < length ns → slice_index ns 0 ≤ slice_index ns k
  pub steps : (k : ℕ) → k + 1 < length ns → r (slice_index ns k) (slice_index ns (k + 1)) ≡ true
  pub back : r (slice_index ns (length ns - 1)) (slice_index ns 0) ≡ true

abbrev pub OrderLaw : Type 0
OrderLaw =
    ((n : ℕ) (r : Edges) (ns : List ℕ) → Inside n r → IsOrder n r ns → Ringless (Edge r))
    × ((r : Edges) (ns : List ℕ) → IsRing r ns → Ring (Edge r))
