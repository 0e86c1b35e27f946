-- The two blocks of added variables in rows of q: that they are added ones, and values that are given for them.
use Rattle.std.specs.Prelude.{◌≡◌, ℕ, ◌+◌, ◌-◌, ◌*◌, ◌/◌, ◌%◌, ◌<◌, ◌≤◌, Bool, cond, pos, nat_lt}
use Rattle.std.proofs.Common.{inl, inr, ◌∙◌}
use Rattle.std.proofs.Math.Path.{ap}
use native.Mathlib.Omega.{arith}
use Rattle.cnf.specs.Clauses.{minus}
use Rattle.cnf.specs.Satisfaction.{Values}
use Rattle.std.proofs.lemmas.Nat.{div-mul-add, mod-mul-add, mul-add-lt}
use Rattle.std.proofs.lemmas.Bool.{cond-false, cond-true, le-ltb, lt-ltb}
use Rattle.closings.specs.Grids.{arc_variable, grid_adds, node_variable}
use Rattle.closings.specs.Inputs.{Input, Lawful, arc_at, arc_count}
use Rattle.closings.specs.Law.{Extends, Own}
use Rattle.closings.specs.Extension.{extended, extended_at, extended_extends}
use Rattle.closings.specs.Horn.{variable_minus}

module _ (x : Input) (q : ℕ) where
  -- the added variables are positive
  pub node_positive : Lawful x → (i k : ℕ) → 1 ≤ k → 0 < node_variable x q i k
  node_positive law i k h = omega (arith, law.positive)

  pub arc_positive : Lawful x → (a k : ℕ) → 1 ≤ k → 0 < arc_variable x q a k
  arc_positive law a k h = omega (arith, law.positive)

  -- their places from the first free variable on
  node_place : (i k : ℕ) → i < x.nodes → 1 ≤ k → k ≤ q → i * q + (k - 1) < x.nodes * q
  node_place i k h l m = let t = mul-add-lt i q (k - 1) x.nodes h (omega arith) in omega arith

  arc_place : (a k : ℕ) → a < arc_count x → 1 ≤ k → k ≤ q → a * q + (k - 1) < arc_count x * q
  arc_place a k h l m = let t = mul-add-lt a q (k - 1) (arc_count x) h (omega arith) in omega arith

  pub own_node : (i k : ℕ) → i < x.nodes → 1 ≤ k → k ≤ q → Own x (grid_adds x q) (pos (node_variable x q i k))
  own_node i k h l m = let t = node_place i k h l m in inr (omega arith, omega arith)

  pub own_minus_node : (i k : ℕ) → i < x.nodes → 1 ≤ k → k ≤ q → Own x (grid_adds x q) (minus (node_variable x q i k))
  own_minus_node i k h l m =
      let t = node_place i k h l m in
      let e = variable_minus (node_variable x q i k) in inr (omega arith, omega arith)

  pub own_arc : (a k : ℕ) → a < arc_count x → 1 ≤ k → k ≤ q → Own x (grid_adds x q) (pos (arc_variable x q a k))
  own_arc a k h l m = let t = arc_place a k h l m in inr (omega arith, omega arith)

  pub own_minus_arc : (a k : ℕ) → a < arc_count x → 1 ≤ k → k ≤ q → Own x (grid_adds x q) (minus (arc_variable x q a k))
  own_minus_arc a k h l m =
      let t = arc_place a k h l m in
      let e = variable_minus (arc_variable x q a k) in inr (omega arith, omega arith)

  -- the added variables of nodes get their values from Y, those of arcs from S
  module _ (σ : Values) (Y S : ℕ → ℕ → Bool) where
    given : ℕ → Bool
    given t =
        cond (nat_lt t (x.nodes * q)) (Y (t / q) (t % q + 1)) (S ((t - x.nodes * q) / q) ((t - x.nodes * q) % q + 1))

    pub values : Values
    values = extended x (grid_adds x q) σ given

    pub values_extend : Extends x (grid_adds x q) σ values
    unfolding values
    values_extend = extended_extends x (grid_adds x q) σ given

    read : (F : ℕ → ℕ → Bool) (i k : ℕ) → 1 ≤ k → k ≤ q → F ((i * q + (k - 1)) / q) ((i * q + (k - 1)) % q + 1) ≡ F i k
    read F i k l m =
        let b : k - 1 < q = omega arith in
        ap (λ a. F a ((i * q + (k - 1)) % q + 1)) (div-mul-add i q (k - 1) b)
        ∙ ap (λ c. F i (c + 1)) (mod-mul-add i q (k - 1) b)
        ∙ (let e : k - 1 + 1 ≡ k = omega arith in ap (F i) e)

    pub value_node : (i k : ℕ) → i < x.nodes → 1 ≤ k → k ≤ q → values (node_variable x q i k) ≡ Y i k
    unfolding values given
    value_node i k h l m =
        let t = i * q + (k - 1) in
        let b = node_place i k h l m in
        extended_at x (grid_adds x q) σ given (node_variable x q i k) t (omega arith) (omega arith)
        ∙ cond-true (nat_lt t (x.nodes * q)) _ _ (lt-ltb t (x.nodes * q) b)
        ∙ read Y i k l m

    pub value_arc : (a k : ℕ) → a < arc_count x → 1 ≤ k → k ≤ q → values (arc_variable x q a k) ≡ S a k
    unfolding values given
    value_arc a k h l m =
        let u = a * q + (k - 1) in
        let t = x.nodes * q + u in
        let b = arc_place a k h l m in
        let back : t - x.nodes * q ≡ u = omega arith in
        extended_at x (grid_adds x q) σ given (arc_variable x q a k) t (omega arith) (omega arith)
        ∙ cond-false (nat_lt t (x.nodes * q)) _ _ (le-ltb t (x.nodes * q) (omega arith))
        ∙ ap (λ n. S (n / q) (n % q + 1)) back
        ∙ read S a k l m

-- a literal on the variable of an arc
pub own_chosen : (x : Input) (m a : ℕ) → a < arc_count x → Own x m (minus (arc_at x a).variable)
own_chosen x m a h = inl (a, h, variable_minus (arc_at x a).variable)
