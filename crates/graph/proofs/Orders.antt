-- The order law: the place in an order rises along every edge, and a ring's list is a walk back to its first node.
use Rattle.std.proofs.Common.{◌≡◌, ℕ, zero, suc, ◌+◌, ◌-◌, ◌<◌, true, List, length, get_or, sym, subst₂, arith}
use Rattle.graph.specs.Counts.{place}
use Rattle.graph.specs.Orders.{IsOrder, IsRing, OrderLaw}
use Rattle.graph.specs.Ranks.{Rises}
use Rattle.graph.specs.Walks.{Edge, Edges, Inside, Walk, more, one}
use Rattle.graph.proofs.Counts.{has_at, place_found}
use Rattle.graph.proofs.Walks.{no_ring}

pub place_rises : (n : ℕ) (r : Edges) (ns : List ℕ) → Inside n r → IsOrder n r ns → Rises (place ns) (Edge r)
place_rises n r ns inside o u w e =
    let p = found u (inside u w e).0 in
    let q = found w (inside u w e).1 in
    o.onward (place ns u) (place ns w) p.0 q.0 (subst₂ (λ a b. r a b ≡ true) (sym p.1) (sym q.1) e)
  where
    found : (x : ℕ) → x < n → (place ns x < length ns) × (get_or ns (place ns x) 0 ≡ x)
    found x l = let k = o.all x l in place_found ns x (rw k.2 at (has_at ns k.0 k.1))

-- from place k, d edges lead to the last place, and one more to the first
walk_back
    : (r : Edges) (ns : List ℕ) → IsRing r ns → (d k : ℕ) → k + d + 1 ≡ length ns
    → Walk (Edge r) (get_or ns k 0) (get_or ns 0 0)
walk_back r ns o zero k e = let l : k ≡ length ns - 1 = omega arith in rw l (one o.back)
walk_back r ns o (suc d) k e = more (o.steps k (omega arith)) (walk_back r ns o d (k + 1) (omega arith))

pub order_law : OrderLaw
order_law = (
  λ n r ns inside o. no_ring (place ns) (place_rises n r ns inside o),
  λ r ns o. (get_or ns 0 0, walk_back r ns o (length ns - 1) 0 (let s = o.some in omega arith)),
)
