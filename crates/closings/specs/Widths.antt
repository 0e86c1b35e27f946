-- The least b with 2 ^ b ≥ r.
use Rattle.std.specs.Prelude.{◌≡◌, ℕ, zero, suc, ◌+◌, ◌-◌, ◌*◌, ◌^◌, ◌<◌, ◌≤◌, true, false, ◌⊎◌, nat_le, refl}
use Rattle.std.proofs.Common.{inl, inr, subst, sym, arith}
use Rattle.std.proofs.Math.Nat.{pow-le-pow_right, two-pow-succ}
use Rattle.std.proofs.lemmas.Bool.{cases_Bool, cases_lt, cond-false, cond-true, leb-false, leb-true}
use Rattle.closings.specs.NumbersClauses.{bits_for, bits_from}

pow_up : (i j : ℕ) → i ≤ j → 2 ^ i ≤ 2 ^ j
pow_up i j h = pow-le-pow_right {n = 2} (omega arith) h

below_pow : (n : ℕ) → n < 2 ^ n
below_pow zero = omega arith
below_pow (suc n) = omega (arith, below_pow n, two-pow-succ n)

from_enough : (n b r : ℕ) → r ≤ 2 ^ (b + n) → r ≤ 2 ^ bits_from n b r
from_enough zero b r h = let e : b + 0 ≡ b = omega arith in subst (λ (t : ℕ). r ≤ 2 ^ t) e h
from_enough (suc n) b r h =
    let e : b + suc n ≡ b + 1 + n = omega arith in
    split (from_enough n (b + 1) r (subst (λ (t : ℕ). r ≤ 2 ^ t) e h)) (cases_Bool (nat_le r (2 ^ b)))
  where
    split
        : r ≤ 2 ^ bits_from n (b + 1) r → (nat_le r (2 ^ b) ≡ true) ⊎ (nat_le r (2 ^ b) ≡ false) → r ≤ 2 ^ bits_from (suc n) b r
    split ih (inl t) = subst (λ (m : ℕ). r ≤ 2 ^ m) (sym (cond-true (nat_le r (2 ^ b)) b _ t)) (leb-true r (2 ^ b) t)
    split ih (inr f) = subst (λ (m : ℕ). r ≤ 2 ^ m) (sym (cond-false (nat_le r (2 ^ b)) b _ f)) ih

pub bits_enough : (r : ℕ) → r ≤ 2 ^ bits_for r
unfolding bits_for
bits_enough r =
    let e : r ≡ 0 + r = omega arith in
    let z = below_pow r in
    from_enough r 0 r (subst (λ (t : ℕ). r ≤ 2 ^ t) e (omega arith))

from_least : (n b c r : ℕ) → b ≤ c → r ≤ 2 ^ c → bits_from n b r ≤ c
from_least zero b c r l h = l
from_least (suc n) b c r l h =
    split (λ (m : b + 1 ≤ c). from_least n (b + 1) c r m h) (cases_Bool (nat_le r (2 ^ b)))
  where
    next : 2 ^ b < r → (b < c) ⊎ (c ≤ b) → b + 1 ≤ c
    next p (inl m) = omega arith
    next p (inr m) = let z = pow_up c b m in absurd (omega arith)

    split
        : (b + 1 ≤ c → bits_from n (b + 1) r ≤ c) → (nat_le r (2 ^ b) ≡ true) ⊎ (nat_le r (2 ^ b) ≡ false)
        → bits_from (suc n) b r ≤ c
    split ih (inl t) = subst (λ (m : ℕ). m ≤ c) (sym (cond-true (nat_le r (2 ^ b)) b _ t)) l
    split ih (inr f) =
        subst (λ (m : ℕ). m ≤ c) (sym (cond-false (nat_le r (2 ^ b)) b _ f))
        (ih (next (leb-false r (2 ^ b) f) (cases_lt b c)))

pub bits_least : (r c : ℕ) → r ≤ 2 ^ c → bits_for r ≤ c
unfolding bits_for
bits_least r c h = from_least r 0 c r (omega arith) h

pub bits_some : (r : ℕ) → 2 ≤ r → 1 ≤ bits_for r
bits_some r h = go (bits_for r) refl
  where
    go : (b : ℕ) → bits_for r ≡ b → 1 ≤ bits_for r
    go zero e = let z = subst (λ (t : ℕ). r ≤ 2 ^ t) e (bits_enough r) in absurd (omega arith)
    go (suc b) e = omega arith

-- it is the length of r − 1 in binary
pub bits_length : (r m : ℕ) → r - 1 < 2 ^ m → 2 ^ m ≤ 2 * (r - 1) + 1 → m ≡ bits_for r
bits_length r m h l = go (cases_lt (bits_for r) m)
  where
    least : bits_for r ≤ m
    least = bits_least r m (omega arith)

    go : (bits_for r < m) ⊎ (m ≤ bits_for r) → m ≡ bits_for r
    go (inl k) =
        let up = pow_up (suc (bits_for r)) m (omega arith) in
        let z = bits_enough r in
        let p = below_pow (bits_for r) in
        absurd (omega (arith, two-pow-succ (bits_for r)))
    go (inr k) = let z = least in omega arith
