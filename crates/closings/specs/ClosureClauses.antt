-- Closure: y(i,j) says that i comes before j, which is a transitive relation that no node has to itself. Assumes nothing.
--     closure_y x i j           y(i,j) = f + i r + j
--     never_itself x i          −y(i,i)
--     transitive x i j k        −y(i,j) −y(j,k) y(i,k)
--     arc_before x a            −e y(i,j) for arc a from i to j with variable e
--     closure_clauses x         the first for each i; the second for each i, j and k, i outermost and k innermost; the
--                               third for each arc
--     closure_adds x            how many variables it adds
use Rattle.std.specs.Prelude.{ℕ, ◌+◌, ◌*◌, List, [], ◌∷◌, ◌++◌, pos}
use Rattle.cnf.specs.Clauses.{Clause, minus}
use Rattle.closings.specs.Inputs.{Input, arc_at, arc_count}
use Rattle.closings.specs.Ranges.{each, upto}

abbrev pub closure_y : Input → ℕ → ℕ → ℕ
closure_y x i j = x.first + i * x.nodes + j

abbrev pub never_itself : Input → ℕ → Clause
never_itself x i = minus (closure_y x i i) ∷ []

abbrev pub transitive : Input → ℕ → ℕ → ℕ → Clause
transitive x i j k = minus (closure_y x i j) ∷ (minus (closure_y x j k) ∷ (pos (closure_y x i k) ∷ []))

abbrev pub arc_before : Input → ℕ → Clause
arc_before x a = minus (arc_at x a).variable ∷ (pos (closure_y x (arc_at x a).from (arc_at x a).to) ∷ [])

unfoldable pub closure_clauses : Input → List Clause
closure_clauses x =
    upto x.nodes (never_itself x)
    ++ (each x.nodes (λ i. each x.nodes (λ j. upto x.nodes (λ k. transitive x i j k)))
    ++ upto (arc_count x) (arc_before x))

abbrev pub closure_adds : Input → ℕ
closure_adds x = x.nodes * x.nodes
