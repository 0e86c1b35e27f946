-- The three closings by name. Assumes nothing.
--     named_means c    the clauses of the closing c
--     named_adds c     how many variables it adds
--     name_of c        its name, as bytes
use Rattle.std.specs.Prelude.{ℕ, List, codes}
use Rattle.cnf.specs.Clauses.{Clause}
use Rattle.closings.specs.ClosureClauses.{closure_adds, closure_clauses}
use Rattle.closings.specs.Inputs.{Input}
use Rattle.closings.specs.NumbersClauses.{numbers_adds, numbers_clauses}
use Rattle.closings.specs.StepsClauses.{steps_adds, steps_clauses}
use Rattle.closings.specs.declared.named.NamedClosing.{NamedClosing}
use Rattle.closings.specs.declared.named.NamedClosing.TheVariants.{ByClosure, ByNumbers, BySteps}

abbrev pub named_means : NamedClosing → Input → List Clause
named_means BySteps x = steps_clauses x
named_means ByNumbers x = numbers_clauses x
named_means ByClosure x = closure_clauses x

abbrev pub named_adds : NamedClosing → Input → ℕ
named_adds BySteps x = steps_adds x
named_adds ByNumbers x = numbers_adds x
named_adds ByClosure x = closure_adds x

abbrev pub name_of : NamedClosing → List ℕ
name_of BySteps = codes "steps"
name_of ByNumbers = codes "numbers"
name_of ByClosure = codes "closure"
