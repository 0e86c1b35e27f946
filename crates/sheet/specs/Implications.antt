-- What start and elimination write: at each pair of nodes, ascending, whose premises are all there, the clause that the
-- premises imply the arc of the pair. Assumes nothing.
--     Premises              for each pair of nodes, the variables that its clause rests on; 0 for one that is not there
--     are_there vs          none of the variables is 0
--     pairs n               the ordered pairs of nodes below n, ascending
--     pairs_with ps n       those of them whose premises are all there
--     Arcs                  arcs with their variables, 0 for none, and the next free variable
--     with_arc k p          the same with an arc at the pair p: where it has none, one on the next free variable. No arc
--                           leads from a node to itself
--     with_arcs k ps        an arc at each of the pairs, one after the other
--     has_arc t p           the pair is one of a node with itself, or has an arc in t
--     implication vs t p    not all of vs are true, or the arc that t has at the pair p is; at a pair of one node,
--                           not all of vs are true
--     planned ps n k        arcs at all pairs below n whose premises are there
--     implications ps n k   the implications at these pairs, on the planned arcs
use Rattle.std.specs.Prelude.{ℕ, ◌+◌, ◌*◌, ◌/◌, ◌%◌, Bool, true, cond, ◌&&◌, ◌||◌, List, [], ◌∷◌, ◌++◌, map, pos, filter, ◌==◌, nat_lt}
use Rattle.cnf.specs.Clauses.{Clause, minus}
use Rattle.sheet.specs.Tables.{Table, put}
use Rattle.std.specs.List.{range_with_len}

abbrev pub Premises : Type 0
Premises = ℕ → ℕ → List ℕ

abbrev pub are_there : List ℕ → Bool
are_there [] = true
are_there (v ∷ vs) = nat_lt 0 v && are_there vs

abbrev pub pair_at : ℕ → ℕ → ℕ × ℕ
pair_at n i = (i / n, i % n)

abbrev pub pairs : ℕ → List (ℕ × ℕ)
pairs n = map (pair_at n) (range_with_len 0 (n * n))

abbrev pub has_premises : Premises → ℕ × ℕ → Bool
has_premises ps p = are_there (ps p.0 p.1)

unfoldable pub pairs_with : Premises → ℕ → List (ℕ × ℕ)
pairs_with ps n = filter (has_premises ps) (pairs n)

pub record Arcs : Type 0 where
  pub arc : Table
  pub next : ℕ

abbrev pub with_arc : Arcs → ℕ × ℕ → Arcs
with_arc k p =
    cond (p.0 == p.1 || nat_lt 0 (k.arc p.0 p.1)) k
    (record { arc = put k.arc p.0 p.1 k.next; next = k.next + 1 })

abbrev pub with_arcs : Arcs → List (ℕ × ℕ) → Arcs
with_arcs k [] = k
with_arcs k (p ∷ ps) = with_arcs (with_arc k p) ps

abbrev pub has_arc : Table → ℕ × ℕ → Bool
has_arc t p = p.0 == p.1 || nat_lt 0 (t p.0 p.1)

abbrev pub implication : List ℕ → Table → ℕ × ℕ → Clause
implication vs t p = map minus vs ++ cond (p.0 == p.1) [] (pos (t p.0 p.1) ∷ [])

unfoldable pub planned : Premises → ℕ → Arcs → Arcs
planned ps n k = with_arcs k (pairs_with ps n)

unfoldable pub implications : Premises → ℕ → Arcs → List Clause
implications ps n k = map (λ p. implication (ps p.0 p.1) (planned ps n k).arc p) (pairs_with ps n)
