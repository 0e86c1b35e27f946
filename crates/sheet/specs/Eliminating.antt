-- Elimination of a node v: for each u with an arc into v, ascending, and each w with an arc from v, ascending, a clause says
-- that the two arcs are not both true, or the arc from u to w is; where u is w, that they are not both true. Then v and
-- its arcs leave. Assumes nothing.
--     way_through t v                  the premises of a pair (u, w): the arcs from u to v and from v to w
--     bridged s v                      the arcs with a bridge for every way through v
--     elimination_clauses s v          the clauses that the elimination of v writes
--     eliminated s v                   the sheet without v and its arcs, and with the bridges
--     elimination_refusal s m v sink   why v is not eliminated with a token of number m and a sink in the given state, or none
--     elimination_step s m v sink      what elimination leaves
use Rattle.std.specs.Prelude.{ℕ, cond, not, ◌&&◌, ◌||◌, List, [], ◌∷◌, is_some, Option, ◌==◌, nat_lt}
use Rattle.cnf.specs.Clauses.{Clause}
use Rattle.cnf.specs.States.{State}
use Rattle.cnf.specs.Writing.{write_refusal}
use Rattle.sheet.specs.Implications.{Arcs, Premises, implications, planned}
use Rattle.sheet.specs.Phases.{is_closing}
use Rattle.sheet.specs.Refusals.{unless}
use Rattle.sheet.specs.Tables.{Table, without}
use Rattle.sheet.specs.View.{View, arcs_of, with_arcs_of}
use Rattle.sheet.specs.declared.refusal.SheetRefusal.{SheetRefusal}
use Rattle.sheet.specs.declared.refusal.SheetRefusal.TheVariants.{NoSuchNode, NodeEliminated, Sink, WrongToken}
use Rattle.std.specs.Option.{option_map}

abbrev pub way_through : Table → ℕ → Premises
way_through arc v u w = arc u v ∷ (arc v w ∷ [])

abbrev pub bridged : View → ℕ → Arcs
bridged s v = planned (way_through s.arc v) s.nodes (arcs_of s)

abbrev pub elimination_clauses : View → ℕ → List Clause
elimination_clauses s v = implications (way_through s.arc v) s.nodes (arcs_of s)

abbrev pub eliminated : View → ℕ → View
eliminated s v =
    with_arcs_of s s.phase (record { arc = without v (bridged s v).arc; next = (bridged s v).next }) (λ u. (u == v) || s.out u)

abbrev pub elimination_refusal : View → ℕ → ℕ → State → Option SheetRefusal
elimination_refusal s m v sink =
    unless (m == s.number && is_closing s.phase) WrongToken
    (unless (nat_lt v s.nodes) NoSuchNode
    (unless (not (s.out v)) NodeEliminated
    (option_map Sink (write_refusal sink (elimination_clauses s v)))))

abbrev pub elimination_step : View → ℕ → ℕ → State → View
elimination_step s m v sink = cond (is_some (elimination_refusal s m v sink)) s (eliminated s v)
