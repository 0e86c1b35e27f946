-- What a sink refuses, by number. Assumes nothing.
--     sink_number e    the refusal's number
use Rattle.std.specs.Prelude.{ℕ}
use Rattle.cnf.specs.declared.refusal.SinkRefusal.{SinkRefusal}
use Rattle.cnf.specs.declared.refusal.SinkRefusal.TheVariants.{Length, Literal, Room}

abbrev pub sink_number : SinkRefusal → ℕ
sink_number Length = 9
sink_number Literal = 10
sink_number Room = 11
