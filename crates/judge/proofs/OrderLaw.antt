-- The order is right: its nodes are below n and distinct, and each stands after every node with an edge to it.
-- Where it lacks a node, no node is next.
use Rattle.std.proofs.Common.{◌≡◌, ℕ, zero, suc, ◌+◌, ◌<◌, ◌≤◌, true, false, ◌&&◌, eqb, List, [], ◌∷◌, ◌++◌, length, get_or, sym, ap, ◌∙◌, inl, inr, arith}
use Rattle.std.proofs.lemmas.List.{get_or_append_left, length_push}
use Rattle.std.proofs.lemmas.Bool.{and_parts, cases_lt, eqb-true, le-ltb, lt-ltb, not-false, not-true}
use Rattle.graph.specs.Counts.{count, has}
use Rattle.graph.specs.Orders.{Distinct, IsOrder}
use Rattle.graph.specs.Walks.{Edges}
use Rattle.graph.proofs.Counts.{count_none, has_index, least_le, least_none, least_passes}
use Rattle.judge.specs.Placing.{in_degree, next_node, order, order_from, outside}
use Rattle.judge.proofs.DistinctLists.{Below, distinct_count, distinct_push, distinct_same, push_places}

module _ (n : ℕ) (r : Edges) where
  abbrev next : List ℕ → ℕ
  next ns = next_node r n (outside ns)

  -- distinct nodes below n, each after every node below n with an edge to it
  record Placed (ns : List ℕ) : Type 0 where
    below : Below n ns
    distinct : Distinct ns
    sources : (j u : ℕ) → j < length ns → u < n → r u (get_or ns j 0) ≡ true → (i : ℕ) × (i < j) × (get_or ns i 0 ≡ u)

  module _ (ns : List ℕ) (l : next ns < n) where
    next_passes : (has ns (next ns) ≡ false) × (in_degree r n (outside ns) (next ns) ≡ 0)
    next_passes =
        let p = and_parts _ _ (least_passes n (λ w. outside ns w && eqb (in_degree r n (outside ns) w) 0) l) in
        (not-true _ p.0, eqb-true _ _ p.1)

    next_sources : (u : ℕ) → u < n → r u (next ns) ≡ true → has ns u ≡ true
    next_sources u h e =
        let c = count_none n (λ u. outside ns u && r u (next ns)) next_passes.1 in
        let f = least_none n u (λ u. outside ns u && r u (next ns)) (omega (arith, c)) in grind (arith, e, f)

    placed_next : Placed ns → Placed (ns ++ next ns ∷ [])
    placed_next p = record {
      below = λ k h. elim (push_places ns _ k h) [ inl a ↦ rw a.1 (p.below k a.0) | inr a ↦ rw a.1 l ];
      distinct = distinct_push ns _ p.distinct next_passes.0;
      sources = λ j u h b e. elim (push_places ns _ j h) [
        | inl a ↦
            let s = p.sources j u a.0 b (ap (r u) (sym a.1) ∙ e) in
            (s.0, s.1, get_or_append_left ns _ 0 s.0 (omega (arith, s.1, a.0)) ∙ s.2)
        | inr a ↦
            let s = has_index ns u (next_sources u b (ap (r u) (sym a.1) ∙ e)) in
            (s.0, omega (arith, s.1, a.0), get_or_append_left ns _ 0 s.0 s.1 ∙ s.2)
      ];
    }

  placed_from : (k : ℕ) (ns : List ℕ) → Placed ns → Placed (order_from r n k ns)
  unfolding order_from
  placed_from zero ns p = p
  placed_from (suc k) ns p =
      elim (cases_lt (next ns) n) [
        | inl l ↦ rw (lt-ltb _ n l) (placed_from k (ns ++ next ns ∷ []) (placed_next ns l p))
        | inr g ↦ rw (le-ltb _ n g) p
      ]

  none_next_from
      : (k : ℕ) (ns : List ℕ) → n ≤ k + length ns → length (order_from r n k ns) < n → next (order_from r n k ns) ≡ n
  unfolding order_from
  none_next_from zero ns h l = absurd (omega arith)
  none_next_from (suc k) ns h l =
      elim (cases_lt (next ns) n) [
        | inl s ↦
            let m = length_push ns (next ns) in
            let t = lt-ltb _ n s in rw t (none_next_from k (ns ++ next ns ∷ []) (omega arith) (rw t at l))
        | inr g ↦
            let e = least_le n (λ w. outside ns w && eqb (in_degree r n (outside ns) w) 0) in rw (le-ltb _ n g) (omega arith)
      ]

  order_placed : Placed (order r n)
  order_placed = placed_from n [] (record {
    below = λ k l. absurd (omega arith);
    distinct = λ i j l h e. absurd (omega arith);
    sources = λ j u l h e. absurd (omega arith);
  })

  pub order_below : Below n (order r n)
  order_below = order_placed.below

  pub order_distinct : Distinct (order r n)
  order_distinct = order_placed.distinct

  -- the nodes of the order and those outside it are n in all
  pub order_count : length (order r n) + count n (outside (order r n)) ≡ n
  order_count = distinct_count n (order r n) order_below order_distinct

  pub order_none_next : length (order r n) < n → next_node r n (outside (order r n)) ≡ n
  order_none_next l = none_next_from n [] (omega arith) l

  pub order_right : n ≤ length (order r n) → IsOrder n r (order r n)
  order_right h =
      let c = order_count in
      record {
        size = omega arith;
        below = order_below;
        distinct = order_distinct;
        all = λ u l.
            let z = count_none n (outside (order r n)) (omega arith) in
            has_index (order r n) u (not-false _ (least_none n u (outside (order r n)) (omega (arith, z))));
        onward = λ i j a b e.
            let s = order_placed.sources j _ b (order_below i a) e in
            let q = distinct_same (order r n) s.0 i order_distinct (omega (arith, s.1)) a s.2 in omega (arith, s.1);
      }
