-- Writing many clauses to a sink: all of them or none. Assumes nothing.
--     write_refusal s cs    why the clauses are refused together, or none: by length, then literal, then room against their
--                           number and what they cost together
--     written s cs          the state with all of them more, one after the other
use Rattle.std.specs.Prelude.{cond, ◌||◌, List, [], ◌∷◌, length, Some, None, Option, nat_lt, sum_by}
use Rattle.std.specs.List.{list_any}
use Rattle.cnf.specs.Clauses.{Clause, bad_length, has_bad_literal}
use Rattle.cnf.specs.States.{State, added}
use Rattle.cnf.specs.declared.refusal.SinkRefusal.{SinkRefusal}
use Rattle.cnf.specs.declared.refusal.SinkRefusal.TheVariants.{Length, Literal, Room}

abbrev pub write_refusal : State → List Clause → Option SinkRefusal
write_refusal s cs =
    cond (list_any (bad_length s.longest) cs) (Some Length)
    (cond (list_any (has_bad_literal s.top) cs) (Some Literal)
    (cond (nat_lt s.entries (length cs) || nat_lt s.units (sum_by s.cost cs)) (Some Room) None))

abbrev pub written : State → List Clause → State
written s [] = s
written s (c ∷ cs) = written (added s c) cs
