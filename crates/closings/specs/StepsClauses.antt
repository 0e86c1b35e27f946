-- Steps: labels of the nodes in unary, which rise along every chosen arc. Assumes nothing. With k from 1 to r − 1
--     steps_y x i k     y(i,k) says that the label of i is at least r − k
--     steps_s x a k     s(a,k) says that step k tells the ends of arc a apart
--     label_rises x i k     −y(i,k−1) y(i,k), for k from 2 on
--     step_leaves x a k     −y(i,k) −s(a,k) for arc a from i to j
--     step_enters x a k     y(j,k) −s(a,k)
--     some_step x a         −e s(a,1) .. s(a,r−1), where e is the variable of arc a
--     steps_clauses x       the first for each i and k; then for each arc, for each k the second and the third, and the fourth
--     steps_adds x          how many variables it adds
use Rattle.std.specs.Prelude.{ℕ, ◌+◌, ◌-◌, List, [], ◌∷◌, ◌++◌, pos}
use Rattle.cnf.specs.Clauses.{Clause, minus}
use Rattle.closings.specs.Grids.{arc_variable, grid_adds, node_variable}
use Rattle.closings.specs.Inputs.{Input, arc_at, arc_count}
use Rattle.closings.specs.Ranges.{each, upto}

abbrev pub steps_y : Input → ℕ → ℕ → ℕ
steps_y x i k = node_variable x (x.nodes - 1) i k

abbrev pub steps_s : Input → ℕ → ℕ → ℕ
steps_s x a k = arc_variable x (x.nodes - 1) a k

abbrev pub label_rises : Input → ℕ → ℕ → Clause
label_rises x i k = minus (steps_y x i (k - 1)) ∷ (pos (steps_y x i k) ∷ [])

abbrev pub step_leaves : Input → ℕ → ℕ → Clause
step_leaves x a k = minus (steps_y x (arc_at x a).from k) ∷ (minus (steps_s x a k) ∷ [])

abbrev pub step_enters : Input → ℕ → ℕ → Clause
step_enters x a k = pos (steps_y x (arc_at x a).to k) ∷ (minus (steps_s x a k) ∷ [])

abbrev pub some_step : Input → ℕ → Clause
some_step x a = minus (arc_at x a).variable ∷ upto (x.nodes - 1) (λ t. pos (steps_s x a (t + 1)))

abbrev pub steps_of_arc : Input → ℕ → List Clause
steps_of_arc x a =
    each (x.nodes - 1) (λ t. step_leaves x a (t + 1) ∷ (step_enters x a (t + 1) ∷ [])) ++ (some_step x a ∷ [])

unfoldable pub steps_clauses : Input → List Clause
steps_clauses x =
    each x.nodes (λ i. upto (x.nodes - 2) (λ t. label_rises x i (t + 2))) ++ each (arc_count x) (steps_of_arc x)

abbrev pub steps_adds : Input → ℕ
steps_adds x = grid_adds x (x.nodes - 1)
