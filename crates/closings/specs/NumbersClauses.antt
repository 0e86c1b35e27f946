-- Numbers: labels of the nodes in binary, which rise along every chosen arc. Assumes nothing. With b bits, k from 1 to b
--     bits_for r            the least b with 2 ^ b ≥ r
--     numbers_y x i k       y(i,k) is bit k of the label of i, the lowest first
--     numbers_t x a k       t(a,k) says that the lowest k bits rise along arc a
--     low_leaves x a        −t(a,1) −y(i,1) for arc a from i to j
--     low_enters x a        −t(a,1) y(j,1)
--     bit_rises x a k       −t(a,k) −y(i,k) y(j,k), for k from 2 on
--     rest_leaves x a k     −t(a,k) −y(i,k) t(a,k−1)
--     rest_enters x a k     −t(a,k) y(j,k) t(a,k−1)
--     all_rise x a          −e t(a,b), where e is the variable of arc a
--     numbers_clauses x     for each arc the first two, for each k the next three, and the last
--     numbers_adds x        how many variables it adds
use Rattle.std.specs.Prelude.{ℕ, zero, suc, ◌+◌, ◌-◌, ◌^◌, cond, List, [], ◌∷◌, ◌++◌, pos, nat_le}
use Rattle.cnf.specs.Clauses.{Clause, minus}
use Rattle.closings.specs.Grids.{arc_variable, grid_adds, node_variable}
use Rattle.closings.specs.Inputs.{Input, arc_at, arc_count}
use Rattle.closings.specs.Ranges.{each}

-- the least from b on, among n candidates
abbrev pub bits_from : ℕ → ℕ → ℕ → ℕ
bits_from zero b r = b
bits_from (suc n) b r = cond (nat_le r (2 ^ b)) b (bits_from n (b + 1) r)

unfoldable pub bits_for : ℕ → ℕ
bits_for r = bits_from r 0 r

abbrev pub numbers_y : Input → ℕ → ℕ → ℕ
numbers_y x i k = node_variable x (bits_for x.nodes) i k

abbrev pub numbers_t : Input → ℕ → ℕ → ℕ
numbers_t x a k = arc_variable x (bits_for x.nodes) a k

abbrev pub low_leaves : Input → ℕ → Clause
low_leaves x a = minus (numbers_t x a 1) ∷ (minus (numbers_y x (arc_at x a).from 1) ∷ [])

abbrev pub low_enters : Input → ℕ → Clause
low_enters x a = minus (numbers_t x a 1) ∷ (pos (numbers_y x (arc_at x a).to 1) ∷ [])

abbrev pub bit_rises : Input → ℕ → ℕ → Clause
bit_rises x a k =
    minus (numbers_t x a k) ∷ (minus (numbers_y x (arc_at x a).from k) ∷ (pos (numbers_y x (arc_at x a).to k) ∷ []))

abbrev pub rest_leaves : Input → ℕ → ℕ → Clause
rest_leaves x a k = minus (numbers_t x a k) ∷ (minus (numbers_y x (arc_at x a).from k) ∷ (pos (numbers_t x a (k - 1)) ∷ []))

abbrev pub rest_enters : Input → ℕ → ℕ → Clause
rest_enters x a k = minus (numbers_t x a k) ∷ (pos (numbers_y x (arc_at x a).to k) ∷ (pos (numbers_t x a (k - 1)) ∷ []))

abbrev pub all_rise : Input → ℕ → Clause
all_rise x a = minus (arc_at x a).variable ∷ (pos (numbers_t x a (bits_for x.nodes)) ∷ [])

abbrev pub numbers_of_arc : Input → ℕ → List Clause
numbers_of_arc x a =
    low_leaves x a ∷ (low_enters x a
    ∷ (each (bits_for x.nodes - 1) (λ t. bit_rises x a (t + 2) ∷ (rest_leaves x a (t + 2) ∷ (rest_enters x a (t + 2) ∷ [])))
    ++ (all_rise x a ∷ [])))

unfoldable pub numbers_clauses : Input → List Clause
numbers_clauses x = each (arc_count x) (numbers_of_arc x)

abbrev pub numbers_adds : Input → ℕ
numbers_adds x = grid_adds x (bits_for x.nodes)
