-- The law of Closure: its clauses say that y is a transitive relation, over the chosen arcs, that no node has to itself.
use Rattle.std.specs.Prelude.{◌≡◌, ℕ, ◌+◌, ◌*◌, ◌/◌, ◌%◌, ◌<◌, ◌≤◌, Bool, true, false, ◌⊎◌, List, ◌++◌, length, pos, ◌≢◌, nat_lt, refl}
use Rattle.std.proofs.Common.{inl, inr, ◌∙◌, subst, arith}
use Rattle.std.proofs.Math.Path.{ap}
use Rattle.cnf.proofs.Every.{all_append}
use Rattle.cnf.proofs.Satisfied.{all_sat, meets_later, meets_none, sat_all}
use Rattle.cnf.specs.Clauses.{Clause, minus}
use Rattle.cnf.specs.Satisfaction.{Meets, Sat, Values}
use Rattle.graph.specs.Walks.{Ringless, Walk, more, one}
use Rattle.std.proofs.lemmas.Nat.{div-mul-add, mod-mul-add, mul-add-lt}
use Rattle.std.proofs.lemmas.Bool.{cases_Bool, le-ltb, lt-ltb, ltb-true}
use Rattle.std.specs.List.{AllByRecursion}
use Rattle.closings.specs.ClosureClauses.{arc_before, closure_adds, closure_clauses, closure_y, never_itself, transitive}
use Rattle.closings.specs.Inputs.{Chosen, Input, Lawful, arc_at, arc_count}
use Rattle.closings.specs.Law.{Closes, Extends, Own, Small, Uses}
use Rattle.closings.specs.Ranges.{each, upto}
use Rattle.closings.specs.ArcFacts.{arcs_few, cube_few, square_few}
use Rattle.closings.specs.Blocks.{own_chosen}
use Rattle.closings.specs.ClosureListing.{length_closure}
use Rattle.closings.specs.Extension.{extended, extended_at, extended_extends}
use Rattle.closings.specs.Horn.{meets_minus, meets_pos, only_pos, past_minus, variable_minus}
use Rattle.closings.specs.RangesLemmas.{all_each, all_left, all_right, all_upto, each_all, upto_all}
use Rattle.closings.specs.Ranked.{chosen_inside, ranked}

-- what holds of each clause, and back
module _ (P : Clause → Type 0) (x : Input) where
  abbrev r : ℕ
  r = x.nodes

  row : ℕ → ℕ → List Clause
  row i j = upto r (λ k. transitive x i j k)

  through : List Clause
  through = each r (λ i. each r (row i))

  all_closure
      : ((i : ℕ) → i < r → P (never_itself x i)) → ((i j k : ℕ) → i < r → j < r → k < r → P (transitive x i j k))
      → ((a : ℕ) → a < arc_count x → P (arc_before x a)) → AllByRecursion P (closure_clauses x)
  unfolding closure_clauses row
  all_closure f g h =
      let square : (i : ℕ) → i < r → AllByRecursion P (each r (row i)) =
      λ i p. all_each P (row i) r (λ j q. all_upto P (λ k. transitive x i j k) r (λ k s. g i j k p q s)) in
      all_append P _ _ (all_upto P (never_itself x) r f)
      (all_append P _ _ (all_each P (λ i. each r (row i)) r square) (all_upto P (arc_before x) (arc_count x) h))

  module _ (all : AllByRecursion P (closure_clauses x)) where
    rest : AllByRecursion P (through ++ upto (arc_count x) (arc_before x))
    unfolding closure_clauses through row
    rest = all_right P (upto r (never_itself x)) _ all

    at_itself : (i : ℕ) → i < r → P (never_itself x i)
    unfolding closure_clauses
    at_itself i h = upto_all P (never_itself x) r (all_left P (upto r (never_itself x)) _ all) i h

    at_through : (i j k : ℕ) → i < r → j < r → k < r → P (transitive x i j k)
    unfolding through row
    at_through i j k p q s =
        let cube = all_left P through _ rest in
        let square = each_all P (λ i. each r (row i)) r cube i p in
        upto_all P (λ k. transitive x i j k) r (each_all P (row i) r square j q) k s

    at_arc : (a : ℕ) → a < arc_count x → P (arc_before x a)
    at_arc a h = upto_all P (arc_before x) (arc_count x) (all_right P through _ rest) a h

module _ (x : Input) (law : Lawful x) where
  y_positive : (i j : ℕ) → 0 < closure_y x i j
  y_positive i j = let p = law.positive in omega arith

  -- where the clauses are met, y holds along every walk, so no walk is a ring
  module _ (σ τ : Values) (ext : Extends x (closure_adds x) σ τ) (sat : Sat τ (closure_clauses x)) where
    met : AllByRecursion (Meets τ) (closure_clauses x)
    met = sat_all τ (closure_clauses x) sat

    arc_in_y : (i j : ℕ) → Chosen x σ i j → τ (closure_y x i j) ≡ true
    arc_in_y i j s =
        let a = s.arc in
        let h = s.is_arc in
        let v = (arc_at x a).variable in
        let on : τ v ≡ true = ext v (inl (law.variables a h).1) ∙ s.chosen in
        let y = only_pos (closure_y x (arc_at x a).from (arc_at x a).to)
        (past_minus v (law.variables a h).0 on (at_arc (Meets τ) x met a h)) in
        subst (λ (t : ℕ). τ (closure_y x i t) ≡ true) s.enters
        (subst (λ (t : ℕ). τ (closure_y x t (arc_at x a).to) ≡ true) s.leaves y)

    walk_in_y : {i j : ℕ} → Walk (Chosen x σ) i j → (i < x.nodes) × (j < x.nodes) × (τ (closure_y x i j) ≡ true)
    walk_in_y (one {x = i} {y = j} s) =
        let e = chosen_inside x σ law i j s in (e.0, e.1, arc_in_y i j s)
    walk_in_y (more {x = i} {y = j} {z = k} s p) =
        let e = chosen_inside x σ law i j s in
        let b = walk_in_y p in
        let through = at_through (Meets τ) x met i j k e.0 e.1 b.1 in (
          e.0,
          b.1,
          only_pos (closure_y x i k)
              (past_minus (closure_y x j k) (y_positive j k) b.2
              (past_minus (closure_y x i j) (y_positive i j) (arc_in_y i j s) through)),
        )

    no_ring : Ringless (Chosen x σ)
    no_ring (i, round) =
        let h = walk_in_y round in
        meets_none τ (past_minus (closure_y x i i) (y_positive i i) h.2 (at_itself (Meets τ) x met i h.0))

  -- a rank of the nodes gives y: i comes before j where its rank is lower
  module _ (σ : Values) (ρ : ℕ → ℕ) (rises : (i j : ℕ) → Chosen x σ i j → ρ i < ρ j) where
    lower : ℕ → ℕ → Bool
    lower i j = nat_lt (ρ i) (ρ j)

    given : ℕ → Bool
    given t = lower (t / x.nodes) (t % x.nodes)

    values : Values
    values = extended x (closure_adds x) σ given

    value_y : (i j : ℕ) → i < x.nodes → j < x.nodes → values (closure_y x i j) ≡ nat_lt (ρ i) (ρ j)
    unfolding values given lower
    value_y i j p q =
        let t = i * x.nodes + j in
        let top = mul-add-lt i x.nodes j x.nodes p q in
        extended_at x (closure_adds x) σ given (closure_y x i j) t (omega arith) (omega arith)
        ∙ ap (λ a. lower a (t % x.nodes)) (div-mul-add i x.nodes j q)
        ∙ ap (lower i) (mod-mul-add i x.nodes j q)

    meets_itself : (i : ℕ) → i < x.nodes → Meets values (never_itself x i)
    meets_itself i h =
        meets_minus (closure_y x i i) (y_positive i i) (value_y i i h h ∙ le-ltb (ρ i) (ρ i) (omega arith))

    meets_through : (i j k : ℕ) → i < x.nodes → j < x.nodes → k < x.nodes → Meets values (transitive x i j k)
    meets_through i j k p q s = split (cases_Bool (nat_lt (ρ i) (ρ j))) (cases_Bool (nat_lt (ρ j) (ρ k)))
      where
        split
            : (nat_lt (ρ i) (ρ j) ≡ true) ⊎ (nat_lt (ρ i) (ρ j) ≡ false) → (nat_lt (ρ j) (ρ k) ≡ true) ⊎ (nat_lt (ρ j) (ρ k) ≡ false)
            → Meets values (transitive x i j k)
        split (inl a) (inl b) =
            let l = ltb-true (ρ i) (ρ j) a in
            let m = ltb-true (ρ j) (ρ k) b in
            meets_later values _ _ (meets_later values _ _
            (meets_pos (closure_y x i k) (y_positive i k) (value_y i k p s ∙ lt-ltb (ρ i) (ρ k) (omega arith))))
        split (inl a) (inr b) =
            meets_later values _ _ (meets_minus (closure_y x j k) (y_positive j k) (value_y j k q s ∙ b))
        split (inr a) b = meets_minus (closure_y x i j) (y_positive i j) (value_y i j p q ∙ a)

    meets_arc : (a : ℕ) → a < arc_count x → Meets values (arc_before x a)
    unfolding values
    meets_arc a h = split (cases_Bool (σ (arc_at x a).variable))
      where
        e : ((arc_at x a).from < x.nodes) × ((arc_at x a).to < x.nodes) × ((arc_at x a).from ≢ (arc_at x a).to)
        e = law.ends a h

        same : values (arc_at x a).variable ≡ σ (arc_at x a).variable
        same = extended_extends x (closure_adds x) σ given (arc_at x a).variable (inl (law.variables a h).1)

        split
            : (σ (arc_at x a).variable ≡ true) ⊎ (σ (arc_at x a).variable ≡ false) → Meets values (arc_before x a)
        split (inl t) =
            let up = rises (arc_at x a).from (arc_at x a).to
            (record { arc = a; is_arc = h; leaves = refl; enters = refl; chosen = t }) in
            meets_later values _ _
            (meets_pos (closure_y x (arc_at x a).from (arc_at x a).to) (y_positive (arc_at x a).from (arc_at x a).to)
            (value_y (arc_at x a).from (arc_at x a).to e.0 e.1 ∙ lt-ltb _ _ up))
        split (inr f) = meets_minus (arc_at x a).variable (law.variables a h).0 (same ∙ f)

    found : (τ : Values) × Extends x (closure_adds x) σ τ × Sat τ (closure_clauses x)
    unfolding values
    found = (
      values,
      extended_extends x (closure_adds x) σ given,
      all_sat values (closure_clauses x) (all_closure (Meets values) x meets_itself meets_through meets_arc),
    )

pub closure_closes : (x : Input) → Lawful x → Closes x (closure_adds x) (closure_clauses x)
closure_closes x law σ =
    (λ m. no_ring x law σ m.0 m.1 m.2, λ free. let rank = ranked x σ law free in found x law σ rank.0 rank.2)

pub closure_uses : (x : Input) → Lawful x → Uses x (closure_adds x) (closure_clauses x)
closure_uses x law =
    all_closure (AllByRecursion (Own x (closure_adds x))) x
    (λ i h. (own_minus i i h h, tt))
    (λ i j k p q s. (own_minus i j p q, (own_minus j k q s, (own_pos i k p s, tt))))
    (λ a h. (
      own_chosen x (closure_adds x) a h,
      (own_pos (arc_at x a).from (arc_at x a).to (law.ends a h).0 (law.ends a h).1, tt),
    ))
  where
    own_pos : (i j : ℕ) → i < x.nodes → j < x.nodes → Own x (closure_adds x) (pos (closure_y x i j))
    own_pos i j p q = let top = mul-add-lt i x.nodes j x.nodes p q in inr (omega arith, omega arith)

    own_minus : (i j : ℕ) → i < x.nodes → j < x.nodes → Own x (closure_adds x) (minus (closure_y x i j))
    own_minus i j p q =
        let top = mul-add-lt i x.nodes j x.nodes p q in
        let e = variable_minus (closure_y x i j) in inr (omega arith, omega arith)

pub closure_small : (x : Input) → Lawful x → x.nodes ≤ 64 → Small (closure_adds x) (closure_clauses x)
closure_small x law h =
    let a = arcs_few x law in
    let b = square_few x.nodes h in
    let c = cube_few x.nodes h in
    let n = length_closure x in
    record {
      added = omega arith;
      clauses = omega arith;
      sizes = all_closure (λ c. (1 ≤ length c) × (length c ≤ 64)) x (λ i h. (omega arith, omega arith))
          (λ i j k p q s. (omega arith, omega arith)) (λ a h. (omega arith, omega arith));
    }
