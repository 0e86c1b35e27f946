-- Tables: reading an array as one, and one entry more.
use Rattle.std.proofs.Common.{◌≡◌, ℕ, ◌<◌, ◌≤◌, Bool, true, false, cond, ◌&&◌, eqb, ◌⊎◌, refl, inl, inr, arith}
use Rattle.std.proofs.lemmas.Bool.{and_from, and_parts, both_ways, eq-eqb, eqb-true}
use Rattle.sheet.specs.Tables.{Joins, Table, Upto, put}

-- what stands at a pair once one pair has a new entry
pub put_cases
    : (t : Table) (u w x a b : ℕ)
    → ((a ≡ u) × (b ≡ w) × (put t u w x a b ≡ x)) ⊎ ((a ≡ u → b ≡ w → ⊥) × (put t u w x a b ≡ t a b))
put_cases t u w x a b = go (eqb a u && eqb b w) refl
  where
    go : (c : Bool) → (eqb a u && eqb b w) ≡ c
        → ((a ≡ u) × (b ≡ w) × (cond c x (t a b) ≡ x)) ⊎ ((a ≡ u → b ≡ w → ⊥) × (cond c x (t a b) ≡ t a b))
    go true e = let p = and_parts (eqb a u) (eqb b w) e in inl (eqb-true a u p.0, eqb-true b w p.1, refl)
    go false e =
        inr ((λ p q. both_ways (eqb a u && eqb b w) e (and_from (eqb a u) (eqb b w) (eq-eqb a u p) (eq-eqb b w q))), refl)

-- what a table keeps with one entry more
module _ (t : Table) (u w x : ℕ) where
  pub joins_put : (n : ℕ) → Joins n t → u < n → w < n → (u ≡ w → ⊥) → Joins n (put t u w x)
  joins_put n h a b d i j l =
      elim (put_cases t u w x i j) [
        | inl k ↦ (omega (arith, k.0), omega (arith, k.1), λ e. d (omega (arith, k.0, k.1)))
        | inr k ↦ h i j (omega (arith, k.1))
      ]

  pub upto_put : (top : ℕ) → Upto top t → x ≤ top → Upto top (put t u w x)
  upto_put top h a i j =
      elim (put_cases t u w x i j) [ inl k ↦ omega (arith, k.2) | inr k ↦ omega (arith, k.1, h i j) ]
