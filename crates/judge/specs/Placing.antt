-- Placing the nodes of a graph r in order, one by one. Assumes nothing.
--     in_degree r n unplaced w    how many unplaced nodes below n have an edge to w
--     next_node r n unplaced      the smallest unplaced node with no edge from an unplaced one, or n where there is none
--     outside placed u            u is not among the nodes placed
--     order_from r n k placed     the nodes placed, and after them up to k more, each the next node when it is placed
--     order r n                   every node below n that can be placed, in the order in which it is
use Rattle.std.specs.Prelude.{ℕ, zero, suc, Bool, cond, not, ◌&&◌, List, [], ◌∷◌, ◌++◌, ◌==◌, nat_lt}
use Rattle.graph.specs.Counts.{count, has, least}
use Rattle.graph.specs.Walks.{Edges}

abbrev pub in_degree : Edges → ℕ → (ℕ → Bool) → ℕ → ℕ
in_degree r n unplaced w = count n (λ u. unplaced u && r u w)

abbrev pub next_node : Edges → ℕ → (ℕ → Bool) → ℕ
next_node r n unplaced = least n (λ w. unplaced w && in_degree r n unplaced w == 0)

abbrev pub outside : List ℕ → ℕ → Bool
outside placed u = not (has placed u)

unfoldable pub order_from : Edges → ℕ → ℕ → List ℕ → List ℕ
order_from r n zero placed = placed
order_from r n (suc k) placed =
    cond (nat_lt (next_node r n (outside placed)) n)
    (order_from r n k (placed ++ next_node r n (outside placed) ∷ []))
    placed

abbrev pub order : Edges → ℕ → List ℕ
order r n = order_from r n n []
