-- Walking back along the edges of a graph r until a node repeats. Assumes nothing.
--     source r n unplaced w               the smallest unplaced node with an edge to w, or n where there is none
--     walk_back r n unplaced k trail      from a trail, its newest node first: to the source of the newest node, again and
--                                         again, at most k times; the part of the trail from the newest node through the
--                                         first that is reached again, which lies in the direction of the edges
--     lowest ns k                         the place of the smallest of the first k nodes of a list
--     turned ns                           the list from its smallest node on, and then what stands before that
--     ring_among r n unplaced             the walk from the smallest unplaced node, turned
--     way_back r n                        the walk from the smallest node that cannot be placed in order, among those that cannot
--     ring r n                            that walk, turned
use Rattle.std.specs.Prelude.{ℕ, zero, suc, ◌+◌, Bool, cond, ◌&&◌, List, [], ◌∷◌, ◌++◌, length, take, drop, nat_lt, slice_index}
use Rattle.graph.specs.Counts.{least, place}
use Rattle.graph.specs.Walks.{Edges}
use Rattle.judge.specs.Placing.{order, outside}

abbrev pub source : Edges → ℕ → (ℕ → Bool) → ℕ → ℕ
source r n unplaced w = least n (λ u. unplaced u && r u w)

unfoldable pub walk_back : Edges → ℕ → (ℕ → Bool) → ℕ → List ℕ → List ℕ
walk_back r n unplaced zero trail = []
walk_back r n unplaced (suc k) trail =
    cond (nat_lt (place trail (source r n unplaced (slice_index trail 0))) (length trail))
    (take (place trail (source r n unplaced (slice_index trail 0)) + 1) trail)
    (walk_back r n unplaced k (source r n unplaced (slice_index trail 0) ∷ trail))

unfoldable pub lowest : List ℕ → ℕ → ℕ
lowest ns zero = 0
lowest ns (suc k) = cond (nat_lt (slice_index ns k) (slice_index ns (lowest ns k))) k (lowest ns k)

abbrev pub turned : List ℕ → List ℕ
turned ns = drop (lowest ns (length ns)) ns ++ take (lowest ns (length ns)) ns

abbrev pub ring_among : Edges → ℕ → (ℕ → Bool) → List ℕ
ring_among r n unplaced = turned (walk_back r n unplaced n (least n unplaced ∷ []))

abbrev pub way_back : Edges → ℕ → List ℕ
way_back r n = walk_back r n (outside (order r n)) n (least n (outside (order r n)) ∷ [])

abbrev pub ring : Edges → ℕ → List ℕ
ring r n = ring_among r n (outside (order r n))
