-- How many numbers pass a test: at most all of them; and how many nodes stay.
use Rattle.std.proofs.Common.{◌≡◌, ℕ, zero, suc, ◌+◌, ◌<◌, ◌≤◌, Bool, true, false, not, List, length, get_or, set, sym, ap, arith}
use Rattle.std.proofs.lemmas.List.{get_or-set_other, get_or-set_same}
use Rattle.std.proofs.lemmas.Bool.Decides.{nat_tests}
use Rattle.graph.specs.Counts.{count}
use Rattle.graph.proofs.Counts.{count_less, count_suc, count_zero}

pub count_most : (n : ℕ) (p : ℕ → Bool) → count n p ≤ n
count_most zero p = omega (arith, count_zero p)
count_most (suc n) p = let h = count_most n p in let s = count_suc n p in grind (arith, nat_tests, h, s)

-- one more node is out, so one fewer stays
pub count_staying
    : (out : List Bool) (v : ℕ) → length out ≡ 64 → v < 64 → get_or out v false ≡ false
    → count 64 (λ u. not (get_or out u false)) ≡ count 64 (λ u. not (get_or (set out v true) u false)) + 1
count_staying out v n l e =
    count_less 64 v (λ u. not (get_or out u false)) (λ u. not (get_or (set out v true) u false)) l (ap not e)
    (ap not (get_or-set_same out v true false (omega arith)))
    (λ u _ d. ap not (sym (get_or-set_other out v u true false d)))
