-- The rank law: without a ring, the number of nodes that lead to a node is its rank.
-- Also a test of whether a walk joins two nodes, so that a graph on finitely many nodes has a ring or has none.
use Rattle.std.proofs.Common.{◌≡◌, ℕ, zero, suc, ◌<◌, true, false, ◌&&◌, ◌||◌, ◌⊎◌, refl, inl, inr, arith}
use Rattle.std.proofs.lemmas.Bool.{and_from, and_parts, both_ways, cases_Bool, cases_eq, cases_lt, or_cases, or_left, or_right}
use Rattle.graph.specs.Counts.{count, least}
use Rattle.graph.specs.Ranks.{RankLaw, Ranked}
use Rattle.graph.specs.Walks.{Edge, Edges, Inside, Ring, Ringless, Walk, more, one}
use Rattle.graph.proofs.Counts.{count_all, count_lt, least_none, least_passes}
use Rattle.graph.proofs.Walks.{join, no_ring}

-- whether some walk of r leads from x to y with every inner node below m
unfoldable pub reach : Edges → ℕ → Edges
reach r zero x y = r x y
reach r (suc m) x y = reach r m x y || (reach r m x m && reach r m m y)

module _ (r : Edges) where
  -- a walk whose inner nodes are below m + 1 does not pass m, or it splits there
  reach_splits
      : (m x y : ℕ) → reach r (suc m) x y ≡ true
      → (reach r m x y ≡ true) ⊎ ((reach r m x m ≡ true) × (reach r m m y ≡ true))
  unfolding reach
  reach_splits m x y h =
      elim (or_cases (reach r m x y) (reach r m x m && reach r m m y) h)
      [ inl p ↦ inl p | inr p ↦ inr (and_parts (reach r m x m) (reach r m m y) p) ]

  reach_grows : (m x y : ℕ) → reach r m x y ≡ true → reach r (suc m) x y ≡ true
  unfolding reach
  reach_grows m x y h = or_left (reach r m x y) (reach r m x m && reach r m m y) h

  reach_by : (m x y : ℕ) → reach r m x m ≡ true → reach r m m y ≡ true → reach r (suc m) x y ≡ true
  unfolding reach
  reach_by m x y p q =
      or_right (reach r m x y) (reach r m x m && reach r m m y) (and_from (reach r m x m) (reach r m m y) p q)

  pub reach_edge : (m x y : ℕ) → r x y ≡ true → reach r m x y ≡ true
  unfolding reach
  reach_edge zero x y h = h
  reach_edge (suc m) x y h = reach_grows m x y (reach_edge m x y h)

  -- two walks that meet at a node below m are one walk
  pub reach_through : (m x k y : ℕ) → k < m → reach r m x k ≡ true → reach r m k y ≡ true → reach r m x y ≡ true
  reach_through zero x k y l p q = absurd (omega arith)
  reach_through (suc m) x k y l p q =
      elim (cases_eq k m) [
        | inl e ↦
            let a = rw e at p in
            let b = rw e at q in
            let s : reach r m x m ≡ true = elim (reach_splits m x m a) [ inl s ↦ s | inr s ↦ s.0 ] in
            let t : reach r m m y ≡ true = elim (reach_splits m m y b) [ inl t ↦ t | inr t ↦ t.1 ] in
            reach_by m x y s t
        | inr ne ↦
            let b : k < m = omega arith in
            elim (reach_splits m x k p) [
              | inl s ↦ elim (reach_splits m k y q) [
                | inl t ↦ reach_grows m x y (reach_through m x k y b s t)
                | inr t ↦ reach_by m x y (reach_through m x k m b s t.0) t.1
              ]
              | inr s ↦ elim (reach_splits m k y q) [
                | inl t ↦ reach_by m x y s.0 (reach_through m m k y b s.1 t)
                | inr t ↦ reach_by m x y s.0 t.1
              ]
            ]
      ]

  pub reach_walk : (m x y : ℕ) → reach r m x y ≡ true → Walk (Edge r) x y
  unfolding reach
  reach_walk zero x y h = one h
  reach_walk (suc m) x y h =
      elim (reach_splits m x y h)
      [ inl p ↦ reach_walk m x y p | inr p ↦ join (reach_walk m x m p.0) (reach_walk m m y p.1) ]

pub walk_reach : {n : ℕ} {r : Edges} {x y : ℕ} → Inside n r → Walk (Edge r) x y → reach r n x y ≡ true
walk_reach {n} {r} inside (one {x = x} {y = y} e) = reach_edge r n x y e
walk_reach {n} {r} inside (more {x = x} {y = y} {z = z} e k) =
    reach_through r n x y z (inside x y e).1 (reach_edge r n x y e) (walk_reach inside k)

-- a walk starts at a node below n
pub walk_below : {n : ℕ} {r : Edges} {x y : ℕ} → Inside n r → Walk (Edge r) x y → x < n
walk_below inside (one {x = x} {y = y} e) = (inside x y e).0
walk_below inside (more {x = x} {y = y} e k) = (inside x y e).0

pub ring_or_not : (n : ℕ) (r : Edges) → Inside n r → Ring (Edge r) ⊎ Ringless (Edge r)
ring_or_not n r inside =
    elim (cases_lt (least n (λ x. reach r n x x)) n) [
      | inl l ↦ inl (_, reach_walk r n _ _ (least_passes n (λ x. reach r n x x) l))
      | inr g ↦ inr (λ k.
          let l = walk_below inside k.1 in
          both_ways _ (least_none n k.0 (λ x. reach r n x x) (omega arith)) (walk_reach inside k.1))
    ]

module _ (n : ℕ) (r : Edges) (inside : Inside n r) (ringless : Ringless (Edge r)) where
  no_return : (x : ℕ) → reach r n x x ≡ false
  no_return x =
      elim (cases_Bool (reach r n x x)) [ inl t ↦ absurd (ringless (x, reach_walk r n x x t)) | inr f ↦ f ]

  ranked : Ranked n r
  ranked = record {
    rank = λ u. count n (λ k. reach r n k u);
    low = λ u l.
        let a = count_all n (λ _. true) (λ _ _. refl) in
        let b = count_lt n u (λ k. reach r n k u) (λ _. true) l (no_return u) refl (λ _ _ _. refl) in omega arith;
    rises = λ u w e.
        let l = (inside u w e).0 in
        let h = reach_edge r n u w e in
        count_lt n u (λ k. reach r n k u) (λ k. reach r n k w) l (no_return u) h (λ k _ t. reach_through r n k u w l t h);
  }

pub rank_law : RankLaw
rank_law n r inside = (ranked n r inside, λ h. no_ring h.rank h.rises)
