-- Two blocks of added variables in rows of q, from the first free variable f on. Assumes nothing.
--     node_variable x q i k   y(i,k) = f + i q + k − 1, for node i and k from 1 to q
--     arc_variable x q a k    the variable f + r q + a q + k − 1, for arc a and k from 1 to q
--     grid_adds x q           how many these are together
use Rattle.std.specs.Prelude.{ℕ, ◌+◌, ◌-◌, ◌*◌}
use Rattle.closings.specs.Inputs.{Input, arc_count}

abbrev pub node_variable : Input → ℕ → ℕ → ℕ → ℕ
node_variable x q i k = x.first + i * q + k - 1

abbrev pub arc_variable : Input → ℕ → ℕ → ℕ → ℕ
arc_variable x q a k = x.first + x.nodes * q + a * q + k - 1

abbrev pub grid_adds : Input → ℕ → ℕ
grid_adds x q = x.nodes * q + arc_count x * q
