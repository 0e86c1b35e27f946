-- The laws of the steps: true steps make the labels rise, and labels that rise along the chosen arcs give true steps.
use Rattle.std.specs.Prelude.{◌≡◌, ℕ, zero, suc, ◌+◌, ◌-◌, ◌*◌, ◌<◌, ◌≤◌, Bool, true, false, not, ◌&&◌, ◌⊎◌, [], ◌∷◌, length, pos, nat_le, refl}
use Rattle.std.proofs.Common.{inl, inr, ◌∙◌, ap, subst₂}
use Rattle.std.proofs.Math.Path.{subst}
use native.Mathlib.Omega.{arith}
use Rattle.cnf.proofs.Every.{all_append}
use Rattle.cnf.proofs.Satisfied.{all_sat, meets_later, sat_all}
use Rattle.cnf.specs.Clauses.{Clause}
use Rattle.cnf.specs.Satisfaction.{Meets, Sat, Values}
use Rattle.graph.specs.Walks.{Ringless, Walk, more, one}
use Rattle.std.proofs.lemmas.Nat.{mul-le}
use Rattle.std.proofs.lemmas.Bool.{and_from, and_left, and_right, both_ways, cases_Bool, cases_lt, le-leb, leb-true, lt-leb, not_from_false, not_from_true}
use Rattle.std.specs.List.{AllByRecursion}
use Rattle.closings.specs.Inputs.{Chosen, Input, Lawful, arc_at, arc_count}
use Rattle.closings.specs.Law.{Closes, Extends, Own, Small, Uses}
use Rattle.closings.specs.Ranges.{each, upto}
use Rattle.closings.specs.StepsClauses.{label_rises, some_step, step_enters, step_leaves, steps_adds, steps_clauses}
use Rattle.closings.specs.StepsClauses.{steps_of_arc, steps_s, steps_y}
use Rattle.closings.specs.ArcFacts.{arcs_few, square_few}
use Rattle.closings.specs.Blocks.{arc_positive, node_positive, own_arc, own_chosen, own_minus_arc, own_minus_node, own_node}
use Rattle.closings.specs.Blocks.{value_arc, value_node, values, values_extend}
use Rattle.closings.specs.Horn.{meets_minus, meets_pos, only_minus, only_pos, past_minus, past_pos}
use Rattle.closings.specs.RangesLemmas.{all_each, all_left, all_right, all_upto, each_all, upto_all}
use Rattle.closings.specs.Ranked.{ranked}
use Rattle.closings.specs.SomeOf.{meets_some, some_true}
use Rattle.closings.specs.StepsListing.{length_steps, some_step_length}

-- what holds of each clause
module _ (P : Clause → Type 0) (x : Input) where
  all_steps
      : ((i k : ℕ) → i < x.nodes → 2 ≤ k → k < x.nodes → P (label_rises x i k))
      → ((a k : ℕ) → a < arc_count x → 1 ≤ k → k < x.nodes → P (step_leaves x a k) × P (step_enters x a k))
      → ((a : ℕ) → a < arc_count x → P (some_step x a)) → AllByRecursion P (steps_clauses x)
  unfolding steps_clauses
  all_steps f g h =
      all_append P _ _
      (all_each P (λ i. upto (x.nodes - 2) (λ t. label_rises x i (t + 2))) x.nodes (λ i p.
      all_upto P (λ t. label_rises x i (t + 2)) (x.nodes - 2) (λ t l. f i (t + 2) p (omega arith) (omega arith))))
      (all_each P (steps_of_arc x) (arc_count x) (λ a p.
      all_append P _ _
      (all_each P (λ t. step_leaves x a (t + 1) ∷ (step_enters x a (t + 1) ∷ [])) (x.nodes - 1) (λ t l.
      let b = g a (t + 1) p (omega arith) (omega arith) in (b.0, (b.1, tt))))
      (h a p, tt)))

  module _ (all : AllByRecursion P (steps_clauses x)) where
    at_rises : (i k : ℕ) → i < x.nodes → 2 ≤ k → k < x.nodes → P (label_rises x i k)
    unfolding steps_clauses
    at_rises i k p l m =
        let row = λ (i : ℕ). upto (x.nodes - 2) (λ t. label_rises x i (t + 2)) in
        let here = each_all P row x.nodes (all_left P (each x.nodes row) _ all) i p in
        let e : k - 2 + 2 ≡ k = omega arith in
        subst (λ (t : ℕ). P (label_rises x i t)) e
        (upto_all P (λ t. label_rises x i (t + 2)) (x.nodes - 2) here (k - 2) (omega arith))

    at_arc : (a : ℕ) → a < arc_count x → AllByRecursion P (steps_of_arc x a)
    unfolding steps_clauses
    at_arc a p =
        let row = λ (i : ℕ). upto (x.nodes - 2) (λ t. label_rises x i (t + 2)) in
        each_all P (steps_of_arc x) (arc_count x) (all_right P (each x.nodes row) _ all) a p

    at_step : (a k : ℕ) → a < arc_count x → 1 ≤ k → k < x.nodes → P (step_leaves x a k) × P (step_enters x a k)
    at_step a k p l m =
        let f = λ (t : ℕ). step_leaves x a (t + 1) ∷ (step_enters x a (t + 1) ∷ []) in
        let b = each_all P f (x.nodes - 1) (all_left P (each (x.nodes - 1) f) _ (at_arc a p)) (k - 1) (omega arith) in
        let e : k - 1 + 1 ≡ k = omega arith in
        (subst (λ (t : ℕ). P (step_leaves x a t)) e b.0, subst (λ (t : ℕ). P (step_enters x a t)) e b.1.0)

    at_some_step : (a : ℕ) → a < arc_count x → P (some_step x a)
    at_some_step a p =
        let f = λ (t : ℕ). step_leaves x a (t + 1) ∷ (step_enters x a (t + 1) ∷ []) in
        (all_right P (each (x.nodes - 1) f) _ (at_arc a p)).0

module _ (x : Input) (law : Lawful x) where
  y_positive : (i k : ℕ) → 1 ≤ k → 0 < steps_y x i k
  y_positive i k l = node_positive x (x.nodes - 1) law i k l

  s_positive : (a k : ℕ) → 1 ≤ k → 0 < steps_s x a k
  s_positive a k l = arc_positive x (x.nodes - 1) law a k l

  -- values that meet the clauses: every chosen arc, and so every walk, has a step that tells its ends apart
  module _ (σ τ : Values) (extends : Extends x (steps_adds x) σ τ) (sat : Sat τ (steps_clauses x)) where
    met : AllByRecursion (Meets τ) (steps_clauses x)
    met = sat_all τ (steps_clauses x) sat

    up_one
        : (i k : ℕ) → i < x.nodes → 2 ≤ k → k < x.nodes → τ (steps_y x i (k - 1)) ≡ true → τ (steps_y x i k) ≡ true
    up_one i k p l m h =
        only_pos (steps_y x i k)
        (past_minus (steps_y x i (k - 1)) (y_positive i (k - 1) (omega arith)) h (at_rises (Meets τ) x met i k p l m))

    up_by
        : (i k d : ℕ) → i < x.nodes → 1 ≤ k → k + d < x.nodes → τ (steps_y x i k) ≡ true → τ (steps_y x i (k + d)) ≡ true
    up_by i k zero p l m h = let e : k + 0 ≡ k = omega arith in ap (λ n. τ (steps_y x i n)) e ∙ h
    up_by i k (suc d) p l m h =
        let below = up_by i k d p l (omega arith) h in
        let e : k + suc d - 1 ≡ k + d = omega arith in
        up_one i (k + suc d) p (omega arith) m (ap (λ n. τ (steps_y x i n)) e ∙ below)

    -- what is true at one k stays true at every later one
    up
        : (i k n : ℕ) → i < x.nodes → 1 ≤ k → k ≤ n → n < x.nodes → τ (steps_y x i k) ≡ true → τ (steps_y x i n) ≡ true
    up i k n p l m h t =
        let e : n ≡ k + (n - k) = omega arith in
        ap (λ n. τ (steps_y x i n)) e ∙ up_by i k (n - k) p l (omega arith) t

    -- a step that tells i and j apart
    record Told (i j : ℕ) : Type 0 where
      i_in : i < x.nodes
      j_in : j < x.nodes
      step : ℕ
      first : 1 ≤ step
      last : step < x.nodes
      off : τ (steps_y x i step) ≡ false
      on : τ (steps_y x j step) ≡ true

    arc_told : (a : ℕ) → a < arc_count x → σ (arc_at x a).variable ≡ true → Told (arc_at x a).from (arc_at x a).to
    arc_told a h t =
        let on = extends (arc_at x a).variable (inl (law.variables a h).1) ∙ t in
        let s = some_true τ (λ t. steps_s x a (t + 1)) (x.nodes - 1)
        (past_minus (arc_at x a).variable (law.variables a h).0 on (at_some_step (Meets τ) x met a h)) in
        let k = s.0 + 1 in
        let low = s.1 in
        let b = at_step (Meets τ) x met a k h (omega arith) (omega arith) in
        record {
          i_in = (law.ends a h).0;
          j_in = (law.ends a h).1;
          step = k;
          first = omega arith;
          last = omega arith;
          off = leaves_off k s.2 (omega arith) b.0;
          on = enters_on k s.2 (omega arith) b.1;
        }
      where
        i : ℕ
        i = (arc_at x a).from

        j : ℕ
        j = (arc_at x a).to

        leaves_off : (k : ℕ) → τ (steps_s x a k) ≡ true → 1 ≤ k → Meets τ (step_leaves x a k) → τ (steps_y x i k) ≡ false
        leaves_off k s l m =
            elim (cases_Bool (τ (steps_y x i k))) [
              | inl y ↦
                  absurd (both_ways (τ (steps_s x a k))
                  (only_minus (steps_s x a k) (s_positive a k l) (past_minus (steps_y x i k) (y_positive i k l) y m)) s)
              | inr f ↦ f
            ]

        enters_on : (k : ℕ) → τ (steps_s x a k) ≡ true → 1 ≤ k → Meets τ (step_enters x a k) → τ (steps_y x j k) ≡ true
        enters_on k s l m =
            elim (cases_Bool (τ (steps_y x j k))) [
              | inl t ↦ t
              | inr y ↦
                  absurd (both_ways (τ (steps_s x a k))
                  (only_minus (steps_s x a k) (s_positive a k l) (past_pos (steps_y x j k) y m)) s)
            ]

    chosen_told : (i j : ℕ) → Chosen x σ i j → Told i j
    chosen_told i j s = subst₂ Told s.leaves s.enters (arc_told s.arc s.is_arc s.chosen)

    join : (i j k : ℕ) → Told i j → Told j k → Told i k
    join i j k p q = split (cases_lt q.step p.step)
      where
        split : (q.step < p.step) ⊎ (p.step ≤ q.step) → Told i k
        split (inl l) =
            record {
              i_in = p.i_in;
              j_in = q.j_in;
              step = p.step;
              first = p.first;
              last = p.last;
              off = p.off;
              on = up k q.step p.step q.j_in q.first (omega arith) p.last q.on;
            }
        split (inr l) =
            absurd (both_ways _ q.off (up j p.step q.step p.j_in p.first l q.last p.on))

    walk_told : {i j : ℕ} → Walk (Chosen x σ) i j → Told i j
    walk_told (one {x = i} {y = j} s) = chosen_told i j s
    walk_told (more {x = i} {y = j} {z = k} s p) = join i j k (chosen_told i j s) (walk_told p)

    ringless : Ringless (Chosen x σ)
    ringless o = let t = walk_told o.1 in both_ways _ t.off t.on

  -- chosen arcs without a ring: the labels are the ranks
  module _ (σ : Values) (free : Ringless (Chosen x σ)) where
    label : ℕ → ℕ
    label = (ranked x σ law free).0

    label_low : (i : ℕ) → i < x.nodes → label i < x.nodes
    unfolding label
    label_low = (ranked x σ law free).1

    label_up : (i j : ℕ) → Chosen x σ i j → label i < label j
    unfolding label
    label_up = (ranked x σ law free).2

    Y : ℕ → ℕ → Bool
    Y i k = nat_le x.nodes (k + label i)

    S : ℕ → ℕ → Bool
    S a k = not (Y (arc_at x a).from k) && Y (arc_at x a).to k

    τ : Values
    τ = values x (x.nodes - 1) σ Y S

    τ_extends : Extends x (steps_adds x) σ τ
    unfolding τ
    τ_extends = values_extend x (x.nodes - 1) σ Y S

    τ_y : (i k : ℕ) → i < x.nodes → 1 ≤ k → k < x.nodes → τ (steps_y x i k) ≡ Y i k
    unfolding τ
    τ_y i k h l m = value_node x (x.nodes - 1) σ Y S i k h l (omega arith)

    τ_s : (a k : ℕ) → a < arc_count x → 1 ≤ k → k < x.nodes → τ (steps_s x a k) ≡ S a k
    unfolding τ
    τ_s a k h l m = value_arc x (x.nodes - 1) σ Y S a k h l (omega arith)

    meets_rises : (i k : ℕ) → i < x.nodes → 2 ≤ k → k < x.nodes → Meets τ (label_rises x i k)
    unfolding Y
    meets_rises i k p l m = split (cases_Bool (Y i (k - 1)))
      where
        split : (Y i (k - 1) ≡ true) ⊎ (Y i (k - 1) ≡ false) → Meets τ (label_rises x i k)
        split (inl t) =
            let h = leb-true x.nodes (k - 1 + label i) t in
            let on = τ_y i k p (omega arith) m ∙ le-leb x.nodes (k + label i) (omega arith) in
            meets_later τ _ _ (meets_pos (steps_y x i k) (y_positive i k (omega arith)) on)
        split (inr f) =
            meets_minus (steps_y x i (k - 1)) (y_positive i (k - 1) (omega arith))
            (τ_y i (k - 1) p (omega arith) (omega arith) ∙ f)

    meets_leaves : (a k : ℕ) → a < arc_count x → 1 ≤ k → k < x.nodes → Meets τ (step_leaves x a k)
    unfolding S
    meets_leaves a k p l m = split (cases_Bool (Y i k))
      where
        i : ℕ
        i = (arc_at x a).from

        split : (Y i k ≡ true) ⊎ (Y i k ≡ false) → Meets τ (step_leaves x a k)
        split (inl t) =
            let off = τ_s a k p l m ∙ and_left (not (Y i k)) (Y (arc_at x a).to k) (not_from_true (Y i k) t) in
            meets_later τ _ _ (meets_minus (steps_s x a k) (s_positive a k l) off)
        split (inr f) = meets_minus (steps_y x i k) (y_positive i k l) (τ_y i k (law.ends a p).0 l m ∙ f)

    meets_enters : (a k : ℕ) → a < arc_count x → 1 ≤ k → k < x.nodes → Meets τ (step_enters x a k)
    unfolding S
    meets_enters a k p l m = split (cases_Bool (Y j k))
      where
        j : ℕ
        j = (arc_at x a).to

        split : (Y j k ≡ true) ⊎ (Y j k ≡ false) → Meets τ (step_enters x a k)
        split (inl t) = meets_pos (steps_y x j k) (y_positive j k l) (τ_y j k (law.ends a p).1 l m ∙ t)
        split (inr f) =
            let off = τ_s a k p l m ∙ and_right (not (Y (arc_at x a).from k)) (Y j k) f in
            meets_later τ _ _ (meets_minus (steps_s x a k) (s_positive a k l) off)

    -- the ends of a chosen arc are told apart where the label of the one that it enters begins
    meets_some_step : (a : ℕ) → a < arc_count x → Meets τ (some_step x a)
    unfolding S Y
    meets_some_step a p = split (cases_Bool (σ v))
      where
        v : ℕ
        v = (arc_at x a).variable

        i : ℕ
        i = (arc_at x a).from

        j : ℕ
        j = (arc_at x a).to

        split : (σ v ≡ true) ⊎ (σ v ≡ false) → Meets τ (some_step x a)
        split (inr f) = meets_minus v (law.variables a p).0 (τ_extends v (inl (law.variables a p).1) ∙ f)
        split (inl t) =
            let rises = label_up i j (record { arc = a; is_arc = p; leaves = refl; enters = refl; chosen = t }) in
            let low = label_low j (law.ends a p).1 in
            let n = x.nodes - label j - 1 in
            let off = not_from_false (Y i (n + 1)) (lt-leb x.nodes (n + 1 + label i) (omega arith)) in
            let on = le-leb x.nodes (n + 1 + label j) (omega arith) in
            let s = τ_s a (n + 1) p (omega arith) (omega arith) ∙ and_from (not (Y i (n + 1))) (Y j (n + 1)) off on in
            meets_later τ _ _
            (meets_some τ (λ t. steps_s x a (t + 1)) (x.nodes - 1) n (omega arith) (s_positive a (n + 1) (omega arith)) s)

    found : (τ : Values) × Extends x (steps_adds x) σ τ × Sat τ (steps_clauses x)
    found = (
      τ,
      τ_extends,
      all_sat τ (steps_clauses x)
          (all_steps (Meets τ) x meets_rises (λ a k p l m. (meets_leaves a k p l m, meets_enters a k p l m)) meets_some_step),
    )

pub steps_closes : (x : Input) → Lawful x → Closes x (steps_adds x) (steps_clauses x)
steps_closes x law σ = (λ e. ringless x law σ e.0 e.1 e.2, found x law σ)

pub steps_uses : (x : Input) → Lawful x → Uses x (steps_adds x) (steps_clauses x)
steps_uses x law =
    all_steps (AllByRecursion (Own x (steps_adds x))) x
    (λ i k p l m.
    (own_minus_node x q i (k - 1) p (omega arith) (omega arith), (own_node x q i k p (omega arith) (omega arith), tt)))
    (λ a k p l m.
    let s = own_minus_arc x q a k p l (omega arith) in (
      (own_minus_node x q (arc_at x a).from k (law.ends a p).0 l (omega arith), (s, tt)),
      (own_node x q (arc_at x a).to k (law.ends a p).1 l (omega arith), (s, tt)),
    ))
    (λ a p. (
      own_chosen x (steps_adds x) a p,
      all_upto (Own x (steps_adds x)) (λ t. pos (steps_s x a (t + 1))) q (λ t l.
          own_arc x q a (t + 1) p (omega arith) (omega arith)),
    ))
  where
    q : ℕ
    q = x.nodes - 1

pub steps_small : (x : Input) → Lawful x → x.nodes ≤ 64 → Small (steps_adds x) (steps_clauses x)
steps_small x law h =
    let a = arcs_few x law in
    let b = square_few x.nodes h in
    let n = length_steps x in
    let m : arc_count x ≤ 4096 = omega arith in
    let p = mul-le x.nodes (x.nodes - 1) 64 63 h (omega arith) in
    let o = mul-le (arc_count x) (x.nodes - 1) 4096 63 m (omega arith) in
    let r = mul-le x.nodes (x.nodes - 2) 64 62 h (omega arith) in
    let s = mul-le (arc_count x) ((x.nodes - 1) * 2 + 1) 4096 127 m (omega arith) in
    record {
      added = omega arith;
      clauses = omega arith;
      sizes = all_steps (λ c. (1 ≤ length c) × (length c ≤ 64)) x (λ i k p l m. (omega arith, omega arith))
          (λ a k p l m. ((omega arith, omega arith), (omega arith, omega arith)))
          (λ a p.
          let y = (law.ends a p).0 in
          let z = some_step_length x a (omega arith) in (omega arith, omega arith));
    }
