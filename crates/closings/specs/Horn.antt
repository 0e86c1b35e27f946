-- Clauses, literal by literal: one that is true meets the clause, and one that is false is passed.
use Rattle.std.specs.Prelude.{◌≡◌, ℕ, zero, suc, ◌<◌, true, false, [], ◌∷◌, pos, refl}
use Rattle.std.proofs.Common.{inl, inr}
use Rattle.cnf.proofs.Satisfied.{holds_minus, holds_pos, meets_cases, meets_first, meets_none, minus_holds, pos_holds}
use Rattle.cnf.specs.Clauses.{Clause, minus, variable}
use Rattle.cnf.specs.Satisfaction.{Meets, Values}
use Rattle.std.proofs.lemmas.Bool.{both_ways}

pub variable_minus : (v : ℕ) → variable (minus v) ≡ v
variable_minus zero = refl
variable_minus (suc v) = refl

module _ {τ : Values} (v : ℕ) where
  pub meets_pos : {c : Clause} → 0 < v → τ v ≡ true → Meets τ (pos v ∷ c)
  meets_pos {c} p t = meets_first τ (pos v) c (holds_pos τ v p t)

  pub meets_minus : {c : Clause} → 0 < v → τ v ≡ false → Meets τ (minus v ∷ c)
  meets_minus {c} p f = meets_first τ (minus v) c (holds_minus τ v p f)

  pub past_pos : {c : Clause} → τ v ≡ false → Meets τ (pos v ∷ c) → Meets τ c
  past_pos {c} f m =
      elim (meets_cases τ (pos v) c m) [ inl h ↦ absurd (both_ways (τ v) f (pos_holds τ v h).1) | inr n ↦ n ]

  pub past_minus : {c : Clause} → 0 < v → τ v ≡ true → Meets τ (minus v ∷ c) → Meets τ c
  past_minus {c} p t m =
      elim (meets_cases τ (minus v) c m) [ inl h ↦ absurd (both_ways (τ v) (minus_holds τ v p h) t) | inr n ↦ n ]

  -- the only literal of a clause
  pub only_pos : Meets τ (pos v ∷ []) → τ v ≡ true
  only_pos m = elim (meets_cases τ (pos v) [] m) [ inl h ↦ (pos_holds τ v h).1 | inr n ↦ absurd (meets_none τ n) ]

  pub only_minus : 0 < v → Meets τ (minus v ∷ []) → τ v ≡ false
  only_minus p m = elim (meets_cases τ (minus v) [] m) [ inl h ↦ minus_holds τ v p h | inr n ↦ absurd (meets_none τ n) ]
