-- A list in lent places. Assumes nothing.
--     entries b    what the list holds: the first of its places, as many as it counts
--     room b       every place that the list was lent, also those past its entries
--     Replaced new b c    c is the list b with new entries in place of the old: they stand in the first places, and the
--                         places past them, and the loan itself, are those of b
use Rattle.std.specs.Prelude.{◌≡◌, List, ◌++◌, length, take, drop}
use Rattle.bounded.specs.declared.Bounded.{Bounded}

abbrev pub room : {T : Type 0} → Bounded T → List T
room b = b.places.now

abbrev pub entries : {T : Type 0} → Bounded T → List T
entries b = take b.count (room b)

pub record Replaced {T : Type 0} (new : List T) (b c : Bounded T) : Type 0 where
  pub entries_are : entries c ≡ new
  pub room_is : room c ≡ new ++ drop (length new) (room b)
  pub lent : c.places.ghost_name ≡ b.places.ghost_name
