-- Value bytes: byte v − 1 belongs to valve v. Assumes nothing.
--     is_open b                    a pipe on a valve with the byte b is open: 1 is open
--     is_known b                   the byte tells a position: open, or shut, which is 2
--     value values v               the byte of valve v, or 0 where there is none
--     opens pipe values u w        an open pipe leads from u to w, where pipe gives each pair its valve, 0 for no pipe
--     pair_valve n pipe i          the valve at the i-th pair of nodes below n, the pairs ascending
--     is_unknown values v          v is a valve whose byte tells no position
--     first_unknown n pipe values  the first drawn valve, by ascending pairs, whose byte tells no position, or none
use Rattle.std.specs.Prelude.{ℕ, ◌-◌, ◌*◌, ◌/◌, ◌%◌, Bool, cond, not, ◌&&◌, ◌||◌, List, Some, None, Option, ◌==◌, nat_lt, slice_index}
use Rattle.graph.specs.Counts.{least}
use Rattle.graph.specs.Walks.{Edges}
use Rattle.sheet.specs.Tables.{Table}

abbrev pub is_open : ℕ → Bool
is_open b = b == 1

abbrev pub is_known : ℕ → Bool
is_known b = is_open b || b == 2

abbrev pub value : List ℕ → ℕ → ℕ
value values v = slice_index values (v - 1)

abbrev pub opens : Table → List ℕ → Edges
opens pipe values u w = nat_lt 0 (pipe u w) && is_open (value values (pipe u w))

abbrev pub pair_valve : ℕ → Table → ℕ → ℕ
pair_valve n pipe i = pipe (i / n) (i % n)

abbrev pub is_unknown : List ℕ → ℕ → Bool
is_unknown values v = nat_lt 0 v && not (is_known (value values v))

abbrev pub first_unknown_pair : ℕ → Table → List ℕ → ℕ
first_unknown_pair n pipe values = least (n * n) (λ i. is_unknown values (pair_valve n pipe i))

abbrev pub first_unknown : ℕ → Table → List ℕ → Option ℕ
first_unknown n pipe values =
    cond (nat_lt (first_unknown_pair n pipe values) (n * n)) (Some (pair_valve n pipe (first_unknown_pair n pipe values))) None
