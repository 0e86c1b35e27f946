-- Walks and rings of a directed graph on numbered nodes. Assumes nothing.
--     Edges         a graph as a test: r u w says whether an edge leads from u to w
--     Edge r        the same graph as a relation
--     Inside n r    every edge of r joins two nodes below n
--     Walk R x y    one or more edges of R that lead from x to y
--     Ring R        a walk from some node back to it
--     Ringless R    there is no ring
use Rattle.std.specs.Prelude.{◌≡◌, ℕ, ◌<◌, Bool, true}

abbrev pub Edges : Type 0
Edges = ℕ → ℕ → Bool

abbrev pub Edge : Edges → ℕ → ℕ → Type 0
Edge r u w = r u w ≡ true

abbrev pub Inside : ℕ → Edges → Type 0
Inside n r = (u w : ℕ) → r u w ≡ true → (u < n) × (w < n)

pub data Walk (R : ℕ → ℕ → Type 0) : ℕ → ℕ → Type 0 where
  one : {x y : ℕ} → R x y → Walk R x y
  more : {x y z : ℕ} → R x y → Walk R y z → Walk R x z

abbrev pub Ring : (ℕ → ℕ → Type 0) → Type 0
Ring R = (x : ℕ) × Walk R x x

abbrev pub Ringless : (ℕ → ℕ → Type 0) → Type 0
Ringless R = Ring R → ⊥
