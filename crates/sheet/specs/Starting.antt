-- Start: each drawn pair, ascending, gets the next free variable e for its arc, and −p e says that the arc is true where
-- its pipe's valve p is open. Assumes nothing.
--     valve_of t                the premise of a pair: the valve of its pipe
--     start_clauses s           the clauses that start writes
--     started s                 the sheet with its arcs
--     start_refusal s m sink    why a sheet is not started with a token of number m and a sink in the given state, or none
--     start_step s m sink       what start leaves: the sheet with its arcs, or the sheet as it was
--     StartToken t r            a closing token for the number of the drawing token t, or t itself with a refusal
use Rattle.std.specs.Prelude.{◌≡◌, ℕ, cond, ◌&&◌, List, [], ◌∷◌, is_some, Ok, Err, Option, Result, ◌==◌}
use Rattle.cnf.specs.Clauses.{Clause}
use Rattle.cnf.specs.States.{State}
use Rattle.cnf.specs.Writing.{write_refusal}
use Rattle.sheet.specs.Implications.{Premises, implications, planned}
use Rattle.sheet.specs.Phases.{is_drawing}
use Rattle.sheet.specs.Refusals.{unless}
use Rattle.sheet.specs.Tables.{Table}
use Rattle.sheet.specs.View.{View, arcs_of, with_arcs_of}
use Rattle.sheet.specs.declared.phase.Phase.TheVariants.{Closing}
use Rattle.sheet.specs.declared.refusal.Refused.{Refused}
use Rattle.sheet.specs.declared.refusal.SheetRefusal.{SheetRefusal}
use Rattle.sheet.specs.declared.refusal.SheetRefusal.TheVariants.{Sink, WrongToken}
use Rattle.sheet.specs.declared.token.ClosingToken.{ClosingToken}
use Rattle.sheet.specs.declared.token.DrawingToken.{DrawingToken}
use Rattle.std.specs.Option.{option_map}

abbrev pub valve_of : Table → Premises
valve_of pipe u w = pipe u w ∷ []

abbrev pub start_clauses : View → List Clause
start_clauses s = implications (valve_of s.pipe) s.nodes (arcs_of s)

abbrev pub started : View → View
started s = with_arcs_of s Closing (planned (valve_of s.pipe) s.nodes (arcs_of s)) s.out

abbrev pub start_refusal : View → ℕ → State → Option SheetRefusal
start_refusal s m sink =
    unless (m == s.number && is_drawing s.phase) WrongToken
    (option_map Sink (write_refusal sink (start_clauses s)))

abbrev pub start_step : View → ℕ → State → View
start_step s m sink = cond (is_some (start_refusal s m sink)) s (started s)

abbrev pub StartToken : DrawingToken → Result ClosingToken (Refused DrawingToken) → Type 0
StartToken t (Ok closing) = closing.number ≡ t.number
StartToken t (Err e) = e.token ≡ t
