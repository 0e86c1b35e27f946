-- Two labels compared from the lowest bit on.
use Rattle.std.specs.Prelude.{◌≡◌, ℕ, suc, ◌+◌, ◌*◌, ◌/◌, ◌%◌, ◌^◌, ◌<◌, Bool, true, false, ◌⊎◌, ◌==◌, refl}
use Rattle.std.proofs.Common.{inl, inr, ◌∙◌, ap, sym, arith}
use Rattle.std.proofs.lemmas.Nat.{mod_below, mod-pow-add}
use Rattle.std.proofs.lemmas.Bool.{cases_Bool, eqb-false, eqb-true, false≢true, true≢false}

-- a number with one more bit, of weight m
abbrev pub with_bit : ℕ → Bool → ℕ → ℕ
with_bit m true a = a + m
with_bit m false a = a

module _ (m : ℕ) where
  pub less_from
      : (p q : Bool) (a b : ℕ) → a < m → (p ≡ true → q ≡ true) → (p ≡ true → a < b) → (q ≡ false → a < b)
      → with_bit m p a < with_bit m q b
  less_from true true a b l f g h = let z = g refl in omega arith
  less_from true false a b l f g h = absurd (false≢true (f refl))
  less_from false true a b l f g h = omega arith
  less_from false false a b l f g h = h refl

  pub less_to
      : (p q : Bool) (a b : ℕ) → b < m → with_bit m p a < with_bit m q b
      → (p ≡ true → q ≡ true) × (p ≡ true → a < b) × (q ≡ false → a < b)
  less_to true true a b l h = (λ _. refl, λ _. omega arith, λ e. absurd (true≢false e))
  less_to true false a b l h = absurd (omega arith)
  less_to false true a b l h = (λ _. refl, λ e. absurd (false≢true e), λ e. absurd (true≢false e))
  less_to false false a b l h = (λ e. absurd (false≢true e), λ e. absurd (false≢true e), λ _. h)

  pub bit_low : (p : Bool) (a : ℕ) → a < m → with_bit m p a < m + m
  bit_low true a h = omega arith
  bit_low false a h = omega arith

-- bit k of n, from 0 on
pub digit : ℕ → ℕ → Bool
digit n k = n / 2 ^ k % 2 == 1

-- the lowest bits of n up to bit k are that bit and those under it
pub digit_more : (n k : ℕ) → n % 2 ^ suc k ≡ with_bit (2 ^ k) (digit n k) (n % 2 ^ k)
unfolding digit
digit_more n k = split (cases_Bool (digit n k))
  where
    whole : n % 2 ^ suc k ≡ (n / 2 ^ k % 2) * 2 ^ k + n % 2 ^ k
    whole = (let e : suc k ≡ 1 + k = omega arith in ap (λ t. n % 2 ^ t) e) ∙ mod-pow-add n 1 k

    split : (digit n k ≡ true) ⊎ (digit n k ≡ false) → n % 2 ^ suc k ≡ with_bit (2 ^ k) (digit n k) (n % 2 ^ k)
    split (inl t) =
        let d : n / 2 ^ k % 2 ≡ 1 = eqb-true (n / 2 ^ k % 2) 1 t in
        whole ∙ ap (λ c. c * 2 ^ k + n % 2 ^ k) d ∙ omega arith ∙ ap (λ p. with_bit (2 ^ k) p (n % 2 ^ k)) (sym t)
    split (inr f) =
        let z = eqb-false (n / 2 ^ k % 2) 1 f in
        let low = mod_below (n / 2 ^ k) 2 (omega arith) in
        let d : n / 2 ^ k % 2 ≡ 0 = omega arith in
        whole ∙ ap (λ c. c * 2 ^ k + n % 2 ^ k) d ∙ omega arith ∙ ap (λ p. with_bit (2 ^ k) p (n % 2 ^ k)) (sym f)
