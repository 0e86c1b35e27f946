-- What a token that passes says of the sheet's phase.
use Rattle.std.proofs.Common.{◌≡◌, Bool, true, false, ◌&&◌, None, Option, refl, arith}
use Rattle.std.proofs.lemmas.Bool.{and_parts}
use Rattle.sheet.specs.Phases.{is_phase}
use Rattle.sheet.specs.Refusals.{unless}
use Rattle.sheet.specs.declared.phase.Phase.{Phase}
use Rattle.sheet.specs.declared.phase.Phase.TheVariants.{Closing, Drawing, Unmade}
use Rattle.sheet.specs.declared.refusal.SheetRefusal.{SheetRefusal}
use Rattle.sheet.specs.declared.refusal.SheetRefusal.TheVariants.{WrongToken}

passed : (b : Bool) → ◌≡◌ {A = Option SheetRefusal} None (unless b WrongToken None) → b ≡ true
passed true h = refl
passed false h = absurd (grind (arith, h))

same_phase : (f g : Phase) → is_phase f g ≡ true → f ≡ g
same_phase Unmade Unmade h = refl
same_phase Drawing Drawing h = refl
same_phase Closing Closing h = refl
same_phase Unmade Drawing h = absurd (grind (arith, h))
same_phase Unmade Closing h = absurd (grind (arith, h))
same_phase Drawing Unmade h = absurd (grind (arith, h))
same_phase Drawing Closing h = absurd (grind (arith, h))
same_phase Closing Unmade h = absurd (grind (arith, h))
same_phase Closing Drawing h = absurd (grind (arith, h))

pub phase_is : (b : Bool) (f g : Phase) → ◌≡◌ {A = Option SheetRefusal} None (unless (b && is_phase f g) WrongToken None) → f ≡ g
phase_is b f g h = same_phase f g (and_parts b (is_phase f g) (passed (b && is_phase f g) h)).1
