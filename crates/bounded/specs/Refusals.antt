-- What a list refuses. Assumes nothing.
--     list_number r     the refusal's number
--     entry_back r      the entry that comes back
use Rattle.std.specs.Prelude.{ℕ}
use Rattle.bounded.specs.declared.ListRefusal.{ListRefusal}
use Rattle.bounded.specs.declared.ListRefusal.TheVariants.{Full}

abbrev pub list_number : {T : Type 0} → ListRefusal T → ℕ
list_number (Full x) = 19

abbrev pub entry_back : {T : Type 0} → ListRefusal T → T
entry_back (Full x) = x
