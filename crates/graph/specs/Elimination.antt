-- Elimination of a node: its edges leave, and an edge bridges every way of two edges through it. Assumes nothing.
--     bridged v r        r without the node v, with an edge from u to w where edges led from u to v and from v to w;
--                        a way from u through v back to u becomes an edge from u to itself
--     Bridges r s v      s has at least the edges that the elimination of v leaves of r, where r has no ring of one
--                        or two edges at v, so that no edge from a node to itself is wanted
--     EliminationLaw     eliminating a node that has no edge to itself keeps every ring and makes none; and every
--                        ring of r is still found in any s that bridges r
use Rattle.std.specs.Prelude.{◌≡◌, ℕ, true, false, not, ◌&&◌, ◌||◌, ◌↔◌, ◌==◌, ◌≢◌}
use Rattle.graph.specs.Walks.{Edges, Edge, Ring}

abbrev pub bridged : ℕ → Edges → Edges
bridged v r u w = not (u == v || w == v) && (r u w || (r u v && r v w))

pub record Bridges (r s : Edges) (v : ℕ) : Type 0 where
  pub keeps : (u w : ℕ) → (u ≢ v) → (w ≢ v) → r u w ≡ true → s u w ≡ true
  pub skips : (u w : ℕ) → (u ≢ w) → r u v ≡ true → r v w ≡ true → s u w ≡ true
  pub apart : (u : ℕ) → r u v ≡ true → r v u ≢ true

abbrev pub EliminationLaw : Type 0
EliminationLaw =
    ((r : Edges) (v : ℕ) → r v v ≡ false → Ring (Edge r) ↔ Ring (Edge (bridged v r)))
    × ((r s : Edges) (v : ℕ) → Bridges r s v → Ring (Edge r) → Ring (Edge s))
