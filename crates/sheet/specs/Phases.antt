-- Phases of a sheet. Assumes nothing.
--     is_phase f g    the two are the same phase
--     is_drawing f    pipes can be drawn in the phase
--     is_closing f    nodes can be eliminated in the phase
--     is_fresh f      no start has been accepted yet
use Rattle.std.specs.Prelude.{Bool, true, false}
use Rattle.sheet.specs.declared.phase.Phase.{Phase}
use Rattle.sheet.specs.declared.phase.Phase.TheVariants.{Closing, Drawing, Unmade}

abbrev pub is_phase : Phase → Phase → Bool
is_phase Unmade Unmade = true
is_phase Unmade Drawing = false
is_phase Unmade Closing = false
is_phase Drawing Unmade = false
is_phase Drawing Drawing = true
is_phase Drawing Closing = false
is_phase Closing Unmade = false
is_phase Closing Drawing = false
is_phase Closing Closing = true

abbrev pub is_drawing : Phase → Bool
is_drawing f = is_phase Drawing f

abbrev pub is_closing : Phase → Bool
is_closing f = is_phase Closing f

abbrev pub is_fresh : Phase → Bool
is_fresh Unmade = true
is_fresh Drawing = true
is_fresh Closing = false
