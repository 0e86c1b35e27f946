-- The least node: the remaining one with fewest arcs in and out, the smaller number on ties. Assumes nothing.
--     out_degree s u, in_degree s u, degree s u    how many arcs lead out of u, into it, and either
--     better s o u       of the best node so far and the node u, the one with fewer arcs, the earlier one on ties; an
--                        eliminated node is never chosen
--     least_among s k    the best of the nodes below k, or none where none of them remains
--     least_node s       the best of all nodes
--     Fewest s u         u remains, no remaining node has fewer arcs, and none with a smaller number has as few
--     LeastRight s o     a node that is named has the fewest arcs; where none is named, none remains
use Rattle.std.specs.Prelude.{◌≡◌, ℕ, ◌+◌, ◌<◌, ◌≤◌, true, false, cond, not, ◌&&◌, Some, None, Option, length, nat_lt, filter, fold}
use Rattle.std.specs.List.{range_with_len}
use Rattle.sheet.specs.View.{View}

abbrev pub out_degree : View → ℕ → ℕ
out_degree s u = length (filter (λ w. nat_lt 0 (s.arc u w)) (range_with_len 0 s.nodes))

abbrev pub in_degree : View → ℕ → ℕ
in_degree s u = length (filter (λ w. nat_lt 0 (s.arc w u)) (range_with_len 0 s.nodes))

abbrev pub degree : View → ℕ → ℕ
degree s u = out_degree s u + in_degree s u

abbrev pub better : View → Option ℕ → ℕ → Option ℕ
better s None u = cond (s.out u) None (Some u)
better s (Some b) u = cond (not (s.out u) && nat_lt (degree s u) (degree s b)) (Some u) (Some b)

abbrev pub least_among : View → ℕ → Option ℕ
least_among s k = fold (better s) None (range_with_len 0 k)

abbrev pub least_node : View → Option ℕ
least_node s = least_among s s.nodes

pub record Fewest (s : View) (u : ℕ) : Type 0 where
  pub below : u < s.nodes
  pub remains : s.out u ≡ false
  pub fewest : (w : ℕ) → w < s.nodes → s.out w ≡ false → degree s u ≤ degree s w
  pub first : (w : ℕ) → w < u → s.out w ≡ false → degree s u < degree s w

abbrev pub LeastRight : View → Option ℕ → Type 0
LeastRight s None = (u : ℕ) → u < s.nodes → s.out u ≡ true
LeastRight s (Some u) = Fewest s u
