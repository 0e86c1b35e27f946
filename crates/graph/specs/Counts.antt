-- Tests of the numbers below a bound. Assumes nothing.
--     least n p    the least number below n that passes p, or n where none does
--     count n p    how many numbers below n pass p
--     has ns u     whether u stands in the list
--     place ns u   the first place of u in the list, or the list's length where it is not there
use Rattle.std.specs.Prelude.{ℕ, zero, suc, ◌+◌, Bool, false, cond, ◌||◌, List, [], ◌∷◌, length, ◌==◌, nat_eq, nat_lt, slice_index}

unfoldable pub least : ℕ → (ℕ → Bool) → ℕ
least zero p = 0
least (suc k) p = cond (nat_lt (least k p) k) (least k p) (cond (p k) k (suc k))

unfoldable pub count : ℕ → (ℕ → Bool) → ℕ
count zero p = 0
count (suc k) p = count k p + cond (p k) 1 0

abbrev pub has : List ℕ → ℕ → Bool
has [] u = false
has (x ∷ xs) u = x == u || has xs u

abbrev pub place : List ℕ → ℕ → ℕ
place ns u = least (length ns) (λ k. nat_eq (slice_index ns k) u)
