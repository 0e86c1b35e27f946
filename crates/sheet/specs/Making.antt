-- Make. Assumes nothing.
--     make_refusal n v            why no sheet of n nodes and v valves is made, or none where it is
--     make_step s number n v      what make leaves: a new sheet, or the place as it was
use Rattle.std.specs.Prelude.{ℕ, cond, ◌&&◌, is_some, None, Option, nat_le}
use Rattle.sheet.specs.Refusals.{unless}
use Rattle.sheet.specs.View.{View, new}
use Rattle.sheet.specs.declared.refusal.SheetRefusal.{SheetRefusal}
use Rattle.sheet.specs.declared.refusal.SheetRefusal.TheVariants.{NodeCount, ValveCount}

abbrev pub make_refusal : ℕ → ℕ → Option SheetRefusal
make_refusal n v = unless (nat_le 1 n && nat_le n 64) NodeCount (unless (nat_le 1 v && nat_le v 60000) ValveCount None)

abbrev pub make_step : View → ℕ → ℕ → ℕ → View
make_step s number n v = cond (is_some (make_refusal n v)) s (new number n v)
