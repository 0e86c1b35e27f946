-- One turn of the loop that walks back, and the turning of the part that it finds.
use Rattle.std.proofs.Common.{◌≡◌, ℕ, zero, suc, ◌+◌, ◌-◌, ◌<◌, ◌≤◌, Bool, true, false, ◌&&◌, eqb, ltb, List, [], ◌∷◌, length, get_or, take, drop, set, Some, None, sym, refl, ap, ◌∙◌, subst, inl, inr, arith}
use Rattle.graph.specs.Counts.{least, place}
use Rattle.graph.specs.Walks.{Edges}
use Rattle.graph.proofs.Counts.{count_none, has_absent, least_passes, least_same}
use Rattle.std.proofs.lemmas.List.{drop_all, drop-set, get_or-drop, length-drop, length-set}
use Rattle.std.proofs.lemmas.Bool.{cases_lt, le-ltb, lt-ltb}
use Rattle.judge.specs.First.{first_below}
use Rattle.judge.specs.Marks.{unmarked}
use Rattle.judge.specs.Placed.{Marked}
use Rattle.judge.specs.Placing.{order}
use Rattle.judge.specs.Verdict.{is_stuck}
use Rattle.judge.specs.Walking.{ring_among, source, turned, walk_back, way_back}
use Rattle.judge.proofs.DistinctLists.{distinct_count}
use Rattle.judge.proofs.First.{none_found, some_found}
use Rattle.judge.proofs.OrderLaw.{order_count, order_none_next}
use Rattle.judge.proofs.RingLaw.{Trail, left, left_some, longer_trail, source_below, start_trail}

-- one step back along the edges: to a node of the trail, or to a new one
module _ (r : Edges) (n : ℕ) (unplaced : ℕ → Bool) (k : ℕ) (trail : List ℕ) (u : ℕ)
    (is : u ≡ source r n unplaced (get_or trail 0 0)) where
  back_found : (at : ℕ) → at ≡ place trail u → at < length trail → walk_back r n unplaced (suc k) trail ≡ take (at + 1) trail
  unfolding walk_back
  back_found at found h =
      let t : ltb (place trail u) (length trail) ≡ true = lt-ltb _ _ (omega (arith, found, h)) in
      rw (← is, t, ← found) refl

  back_more : length trail ≤ place trail u → walk_back r n unplaced (suc k) trail ≡ walk_back r n unplaced k (u ∷ trail)
  unfolding walk_back
  back_more h =
      let t : ltb (place trail u) (length trail) ≡ false = le-ltb _ _ h in
      rw (← is, t) refl

-- where the walk back stands when its newest node lies at the place head: the path from there on is its trail, and the rest
-- of the walk finds the part that is looked for
pub record Walking (r : Edges) (n : ℕ) (path : List ℕ) (head : ℕ) : Type 0 where
  pub long : length path ≡ 65
  pub low : head ≤ 64
  pub stuck : length (order r n) < n
  pub trail : Trail n r (left n r) (drop head path)
  pub rest : walk_back r n (left n r) (n - (64 - head)) (drop head path) ≡ way_back r n

module _ (r : Edges) (n : ℕ) (marks : List ℕ) (same : Marked r n marks) where
  -- every node has a mark: all are placed
  pub none_left : None ≡ first_below n (unmarked marks) → is_stuck r n ≡ false
  none_left e =
      let c = order_count n r in
      let m : n ≤ least n (left n r) = subst (λ m. n ≤ m) (least_same n _ _ same) (none_found n _ e) in
      let g : n ≤ length (order r n) = elim (cases_lt (length (order r n)) n) [
        | inl l ↦ let s = left_some n r l in absurd (omega (arith, s.0, m))
        | inr g ↦ g
      ] in le-ltb _ _ g

  pub walking_none
      : (path : List ℕ) (u : ℕ) → length path ≡ 65 → Some u ≡ first_below n (unmarked marks) → Walking r n (set path 64 u) 64
  walking_none path u l e =
      let f = some_found n _ u e in
      let is : u ≡ least n (left n r) = f.1 ∙ least_same n _ _ same in
      let d : drop 64 (set path 64 u) ≡ u ∷ [] =
      drop-set path 64 u (omega arith) ∙ ap (λ t. u ∷ t) (drop_all 65 path (omega arith)) in
      let k : n - (64 - 64) ≡ n = omega arith in
      let t : left n r u ≡ true = ap (left n r) is ∙ least_passes n (left n r) (omega (arith, is, f.0)) in
      let c = order_count n r in
      let z = count_none n (left n r) in
      record {
        long = length-set path 64 u ∙ l;
        low = omega arith;
        stuck = elim (cases_lt (length (order r n)) n) [
          | inl l ↦ l
          | inr g ↦ absurd (omega (arith, z (omega arith), is, f.0))
        ];
        trail = rw d (start_trail n r (left n r) u f.0 t);
        rest = rw (k, d, is) refl;
      }

  module _ (path : List ℕ) (head : ℕ) (s : Walking r n path head) where
    -- the trail, and its newest node
    abbrev trail : List ℕ
    trail = drop head path

    newest : get_or path head 0 ≡ get_or trail 0 0
    newest = sym (get_or-drop head path 0 0 ∙ ap (λ i. get_or path i 0) (omega arith))

    trail_length : length trail ≡ 65 - head
    trail_length = let d = length-drop head path in omega (arith, d, s.long)

    source_same : least n (λ u. unmarked marks u && r u (get_or path head 0)) ≡ source r n (left n r) (get_or trail 0 0)
    source_same =
        least_same n _ _ (λ u h. ap (λ b. b && r u (get_or path head 0)) (same u h)) ∙ ap (source r n (left n r)) newest

    -- the newest node has a source
    pub some_source : None ≡ first_below n (λ u. unmarked marks u && r u (get_or path head 0)) → ⊥
    some_source e =
        let m = none_found n _ e in
        let b = source_below n r (left n r) (order_none_next n r s.stuck) _ (s.trail.below 0 s.trail.some) s.trail.newest_unplaced in
        omega (arith, m, b, source_same)

    -- as many steps as there are nodes suffice
    pub walk_ends : n ≤ 64 - head → ⊥
    walk_ends h =
        let c = distinct_count n trail s.trail.below s.trail.distinct in omega (arith, c, h, s.low, trail_length)

    module _ (l : 64 - head < n) (few : n ≤ 64) (u : ℕ)
        (from : Some u ≡ first_below n (λ u. unmarked marks u && r u (get_or path head 0))) where
      is_source : u ≡ source r n (left n r) (get_or trail 0 0)
      is_source = (some_found n _ u from).1 ∙ source_same

      one_less : n - (64 - head) ≡ suc (n - (64 - (head - 1)))
      one_less = omega (arith, s.low, l, few)

      pub walk_found
          : (at : ℕ) → Some at ≡ first_below (length trail) (λ k. eqb (get_or trail k 0) u)
          → (is_stuck r n ≡ true) × (take (at + 1) trail ≡ way_back r n)
      walk_found at e =
          let f = some_found (length trail) _ at e in (
            lt-ltb _ _ s.stuck,
            sym (back_found r n (left n r) (n - (64 - (head - 1))) trail u is_source at f.1 f.0)
                ∙ ap (λ k. walk_back r n (left n r) k trail) (sym one_less) ∙ s.rest,
          )

      pub walking_more
          : None ≡ first_below (length trail) (λ k. eqb (get_or trail k 0) u)
          → Walking r n (set path (head - 1) u) (head - 1)
      walking_more e =
          let m = none_found (length trail) _ e in
          let f : head - 1 + 1 ≡ head = omega (arith, s.low, l, few) in
          let d : drop (head - 1) (set path (head - 1) u) ≡ u ∷ trail =
          drop-set path (head - 1) u (omega (arith, s.long, s.low)) ∙ ap (λ i. u ∷ drop i path) f in
          record {
            long = length-set path (head - 1) u ∙ s.long;
            low = omega (arith, s.low);
            stuck = s.stuck;
            trail = rw (d, is_source)
                (longer_trail n r (left n r) (order_none_next n r s.stuck) trail s.trail (has_absent trail _ (rw is_source at m)));
            rest = rw d (sym (back_more r n (left n r) (n - (64 - (head - 1))) trail u is_source m)
                ∙ ap (λ k. walk_back r n (left n r) k trail) (sym one_less) ∙ s.rest);
          }

-- a ring depends on the nodes below n alone among which it is looked for
module _ (r : Edges) (n : ℕ) (p q : ℕ → Bool) (same : (u : ℕ) → u < n → p u ≡ q u) where
  same_source : (w : ℕ) → source r n p w ≡ source r n q w
  same_source w = least_same n _ _ (λ u h. ap (λ b. b && r u w) (same u h))

  pub walk_same : (k : ℕ) (trail : List ℕ) → walk_back r n p k trail ≡ walk_back r n q k trail
  unfolding walk_back
  walk_same zero trail = refl
  walk_same (suc k) trail =
      let s = same_source (get_or trail 0 0) in
      let i = walk_same k (source r n q (get_or trail 0 0) ∷ trail) in rw (s, i) refl

  pub ring_among_same : ring_among r n p ≡ ring_among r n q
  ring_among_same =
      ap turned (walk_same n (least n p ∷ []) ∙ ap (λ u. walk_back r n q n (u ∷ [])) (least_same n p q same))
