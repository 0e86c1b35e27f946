-- What a sheet refuses, by number, and what comes back. Assumes nothing.
--     sheet_number r    the refusal's number; a sink's refusal keeps its own
--     layer_of r        the part of the library that refused: the sheet, or the sink that it wrote to
--     unless ok e rest   the refusal e, unless ok holds and what comes after it decides
--     refusal_in r      why a call was refused, or none where it was accepted
--     token_in r        the token that came back, with a refusal or without
--     sink_after o s cs      the state of a sink that took the clauses, or of one that was left alone, where o is why
--     clauses_after o ds cs  the same of the clauses that it has
use Rattle.std.specs.Prelude.{ℕ, Bool, cond, List, ◌++◌, is_some, Some, None, Ok, Err, Option, Result}
use Rattle.cnf.specs.Clauses.{Clause}
use Rattle.cnf.specs.Refusals.{sink_number}
use Rattle.cnf.specs.States.{State}
use Rattle.cnf.specs.Writing.{written}
use Rattle.sheet.specs.declared.refusal.Layer.{Layer}
use Rattle.sheet.specs.declared.refusal.Layer.TheVariants as layer
use Rattle.sheet.specs.declared.refusal.Refused.{Refused}
use Rattle.sheet.specs.declared.refusal.SheetRefusal.{SheetRefusal}
use Rattle.sheet.specs.declared.refusal.SheetRefusal.TheVariants.{NodeCount, ValveCount, WrongToken, NoSuchNode, SelfLoop, NoSuchValve, PairTaken, NodeEliminated, Sink}

abbrev pub sheet_number : SheetRefusal → ℕ
sheet_number NodeCount = 1
sheet_number ValveCount = 2
sheet_number WrongToken = 3
sheet_number NoSuchNode = 4
sheet_number SelfLoop = 5
sheet_number NoSuchValve = 6
sheet_number PairTaken = 7
sheet_number NodeEliminated = 8
sheet_number (Sink e) = sink_number e

abbrev pub layer_of : SheetRefusal → Layer
layer_of NodeCount = layer.Sheet
layer_of ValveCount = layer.Sheet
layer_of WrongToken = layer.Sheet
layer_of NoSuchNode = layer.Sheet
layer_of SelfLoop = layer.Sheet
layer_of NoSuchValve = layer.Sheet
layer_of PairTaken = layer.Sheet
layer_of NodeEliminated = layer.Sheet
layer_of (Sink e) = layer.Sink

abbrev pub unless : {E : Type 0} → Bool → E → Option E → Option E
unless ok e rest = cond ok rest (Some e)

abbrev pub refusal_in : {T U : Type 0} → Result T (Refused U) → Option SheetRefusal
refusal_in (Ok x) = None
refusal_in (Err e) = Some e.refusal

abbrev pub token_in : {T : Type 0} → Result T (Refused T) → T
token_in (Ok token) = token
token_in (Err e) = e.token

abbrev pub sink_after : {E : Type 0} → Option E → State → List Clause → State
sink_after o s cs = cond (is_some o) s (written s cs)

abbrev pub clauses_after : {E : Type 0} → Option E → List Clause → List Clause → List Clause
clauses_after o ds cs = cond (is_some o) ds (ds ++ cs)
