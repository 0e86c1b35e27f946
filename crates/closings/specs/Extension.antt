-- Values that are given anew for m variables from the first free one on.
use Rattle.std.specs.Prelude.{◌≡◌, ℕ, ◌+◌, ◌-◌, ◌<◌, Bool, cond, nat_lt}
use Rattle.std.proofs.Common.{inl, inr, ◌∙◌}
use Rattle.std.proofs.Math.Path.{ap}
use native.Mathlib.Omega.{arith}
use Rattle.cnf.specs.Satisfaction.{Values}
use Rattle.std.proofs.lemmas.Bool.{cond-false, cond-true, le-ltb, lt-ltb}
use Rattle.closings.specs.Inputs.{Input}
use Rattle.closings.specs.Law.{Extends}

module _ (x : Input) (m : ℕ) (σ : Values) (g : ℕ → Bool) where
  pub extended : Values
  extended v = cond (nat_lt v x.first) (σ v) (cond (nat_lt v (x.first + m)) (g (v - x.first)) (σ v))

  pub extended_at : (v t : ℕ) → v ≡ x.first + t → t < m → extended v ≡ g t
  unfolding extended
  extended_at v t e h =
      cond-false (nat_lt v x.first) _ _ (le-ltb v x.first (omega arith))
      ∙ cond-true (nat_lt v (x.first + m)) _ _ (lt-ltb v (x.first + m) (omega arith))
      ∙ (let d : v - x.first ≡ t = omega arith in ap g d)

  pub extended_extends : Extends x m σ extended
  unfolding extended
  extended_extends v (inl h) = cond-true (nat_lt v x.first) _ _ (lt-ltb v x.first h)
  extended_extends v (inr h) =
      cond-false (nat_lt v x.first) _ _ (le-ltb v x.first (omega arith))
      ∙ cond-false (nat_lt v (x.first + m)) _ _ (le-ltb v (x.first + m) h)
