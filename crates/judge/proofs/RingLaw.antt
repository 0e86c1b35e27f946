-- The ring is right: where the order lacks a node, the walk back from source to source among the nodes left finds a ring.
use Rattle.std.proofs.Common.{◌≡◌, ℕ, zero, suc, ◌+◌, ◌-◌, ◌<◌, ◌≤◌, Bool, true, false, ◌&&◌, eqb, List, [], ◌∷◌, ◌++◌, length, get_or, take, drop, sym, ap, ◌∙◌, subst, inl, inr, arith}
use Rattle.std.proofs.lemmas.List.{get_or-take, length-take, length-take-le}
use Rattle.std.proofs.lemmas.Bool.{and_from, and_parts, both_ways, cases_lt, eq-eqb, eqb-true, le-ltb, lt-ltb, ltb-true}
use Rattle.graph.specs.Counts.{has, least, place}
use Rattle.graph.specs.Orders.{Distinct, IsRing}
use Rattle.graph.specs.Walks.{Edges}
use Rattle.graph.proofs.Counts.{count_some, has_absent, least_none, least_passes}
use Rattle.judge.specs.Placing.{in_degree, next_node, order, outside}
use Rattle.judge.specs.Verdict.{is_stuck}
use Rattle.judge.specs.Walking.{ring, ring_among, source, turned, walk_back, way_back}
use Rattle.judge.proofs.DistinctLists.{Below, below_cons, distinct_cons, distinct_count}
use Rattle.judge.proofs.OrderLaw.{order_count, order_none_next}
use Rattle.judge.proofs.TurnedLists.{Linked, lowest_is, turned_length, turned_ring}

-- distinct nodes, with an edge from each to the next and from the last to the first
record Loop (r : Edges) (ns : List ℕ) : Type 0 where
  pub some : 0 < length ns
  pub distinct : Distinct ns
  pub linked : Linked r ns

module _ (n : ℕ) (r : Edges) (unplaced : ℕ → Bool) where
  -- the source of a trail's newest node
  abbrev newest_source : List ℕ → ℕ
  newest_source trail = source r n unplaced (get_or trail 0 0)

  walk_few : (k : ℕ) (trail : List ℕ) → length (walk_back r n unplaced k trail) ≤ k + length trail - 1
  unfolding walk_back
  walk_few zero trail = omega arith
  walk_few (suc k) trail =
      elim (cases_lt (place trail (newest_source trail)) (length trail)) [
        | inl l ↦ rw (lt-ltb _ _ l) (simp length-take (omega arith))
        | inr g ↦ let i = walk_few k (newest_source trail ∷ trail) in rw (le-ltb _ _ g) (omega arith)
      ]

  -- a ring that is found among any nodes has at most n of them
  pub ring_among_few : length (ring_among r n unplaced) ≤ n
  ring_among_few =
      let m = turned_length (walk_back r n unplaced n (least n unplaced ∷ [])) in
      let w = walk_few n (least n unplaced ∷ []) in omega arith

  -- distinct nodes below n, the newest of them unplaced, with an edge from each to the next
  pub record Trail (trail : List ℕ) : Type 0 where
    pub some : 0 < length trail
    pub below : Below n trail
    pub newest_unplaced : unplaced (get_or trail 0 0) ≡ true
    pub distinct : Distinct trail
    pub steps : (k : ℕ) → suc k < length trail → r (get_or trail k 0) (get_or trail (suc k) 0) ≡ true

  pub start_trail : (w : ℕ) → w < n → unplaced w ≡ true → Trail (w ∷ [])
  start_trail w l i = record {
    some = omega arith;
    below = below_cons n w [] l (λ k h. absurd (omega arith));
    newest_unplaced = i;
    distinct = λ i j a b e. absurd (omega arith);
    steps = λ k h. absurd (omega arith);
  }

  -- no node is next, so each unplaced node below n has an unplaced source
  module _ (none-next : next_node r n unplaced ≡ n) where
    pub source_below : (w : ℕ) → w < n → unplaced w ≡ true → source r n unplaced w < n
    source_below w l i =
        let f = least_none n w (λ w. unplaced w && eqb (in_degree r n unplaced w) 0) (omega (arith, none-next)) in
        elim (cases_lt 0 (in_degree r n unplaced w)) [
          | inl s ↦ count_some n (λ u. unplaced u && r u w) s
          | inr z ↦ absurd (both_ways _ f (and_from _ _ i (eq-eqb _ 0 (omega arith))))
        ]

    module _ (trail : List ℕ) (t : Trail trail) where
      newest_source_below : newest_source trail < n
      newest_source_below = source_below (get_or trail 0 0) (t.below 0 t.some) t.newest_unplaced

      newest_source_passes : (unplaced (newest_source trail) ≡ true) × (r (newest_source trail) (get_or trail 0 0) ≡ true)
      newest_source_passes = and_parts _ _ (least_passes n (λ u. unplaced u && r u (get_or trail 0 0)) newest_source_below)

      longer_steps : (k : ℕ) → k < length trail → r (get_or (newest_source trail ∷ trail) k 0) (get_or trail k 0) ≡ true
      longer_steps zero l = newest_source_passes.1
      longer_steps (suc k) l = t.steps k l

      pub longer_trail : has trail (newest_source trail) ≡ false → Trail (newest_source trail ∷ trail)
      longer_trail f = record {
        some = omega arith;
        below = below_cons n _ trail newest_source_below t.below;
        newest_unplaced = newest_source_passes.0;
        distinct = distinct_cons _ trail t.distinct f;
        steps = λ k h. longer_steps k (omega arith);
      }

      -- the part through the place of the newest node's source
      found_loop : (at : ℕ) → at < length trail → get_or trail at 0 ≡ newest_source trail → Loop r (take (at + 1) trail)
      found_loop at l e =
          let m = length-take-le (at + 1) trail (omega arith) in
          let g = get_or-take (at + 1) trail in
          record {
            some = omega arith;
            distinct = λ i j a b s. t.distinct i j a (omega arith) (sym (g i 0 (omega arith)) ∙ s ∙ g j 0 (omega arith));
            linked = λ i j a b s. rw (g i 0 (omega arith), g j 0 (omega arith)) (elim s [
              | inl s ↦ let q : j ≡ suc i = omega arith in rw q (t.steps i (omega arith))
              | inr s ↦
                  let p : i ≡ at = omega arith in
                  let q : j ≡ 0 = omega arith in rw (p, q, e) newest_source_passes.1
            ]);
          }

    walk_loop : (k : ℕ) (trail : List ℕ) → Trail trail → n < k + length trail → Loop r (walk_back r n unplaced k trail)
    unfolding walk_back
    walk_loop zero trail t h = let c = distinct_count n trail t.below t.distinct in absurd (omega arith)
    walk_loop (suc k) trail t h =
        elim (cases_lt (place trail (newest_source trail)) (length trail)) [
          | inl l ↦
              let e = eqb-true _ _ (least_passes (length trail) (λ i. eqb (get_or trail i 0) (newest_source trail)) l) in
              rw (lt-ltb _ _ l) (found_loop trail t _ l e)
          | inr g ↦
              let u = longer_trail trail t (has_absent trail _ g) in
              rw (le-ltb _ _ g) (walk_loop k (newest_source trail ∷ trail) u (omega arith))
        ]

module _ (n : ℕ) (r : Edges) where
  abbrev pub left : ℕ → Bool
  left = outside (order r n)

  -- where some node is left, the least of them is one
  pub left_some : length (order r n) < n → (least n left < n) × (left (least n left) ≡ true)
  left_some l = let c = order_count n r in let s = count_some n left (omega arith) in (s, least_passes n left s)

  way_is_loop : length (order r n) < n → Loop r (way_back r n)
  way_is_loop l =
      let s = left_some l in
      walk_loop n r left (order_none_next n r l) n (least n left ∷ []) (start_trail n r left (least n left) s.0 s.1) (omega arith)

  pub ring_right : length (order r n) < n → IsRing r (ring r n)
  ring_right l = let o = way_is_loop l in turned_ring (way_back r n) r o.some o.distinct o.linked

  -- a ring has at most n nodes
  pub ring_few : length (ring r n) ≤ n
  ring_few = ring_among_few n r left

  -- the walk's part, turned to its smallest node
  module _ (part : List ℕ) (t : is_stuck r n ≡ true) (is : part ≡ way_back r n) where
    way_loop : Loop r part
    way_loop = subst (Loop r) (sym is) (way_is_loop (ltb-true _ _ t))

    pub way_some : length part ≡ 0 → ⊥
    way_some e = omega (arith, e, way_loop.some)

    pub way_turned
        : (low : ℕ) (turn : List ℕ) → low < length part
        → ((k : ℕ) → k < length part → get_or part low 0 ≤ get_or part k 0) → turn ≡ drop low part ++ take low part
        → turn ≡ ring r n
    way_turned low turn l s e =
        e ∙ ap (λ h. drop h part ++ take h part) (lowest_is part low way_loop.distinct l s) ∙ ap turned is
