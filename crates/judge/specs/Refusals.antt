-- What the judge refuses, by number. Assumes nothing.
--     verdict_number e    the refusal's number
use Rattle.std.specs.Prelude.{ℕ}
use Rattle.judge.specs.declared.refusal.VerdictRefusal.{VerdictRefusal}
use Rattle.judge.specs.declared.refusal.VerdictRefusal.TheVariants.{TooFewPlaces, TooFewValues, UnknownValve}

abbrev pub verdict_number : VerdictRefusal → ℕ
verdict_number TooFewValues = 12
verdict_number TooFewPlaces = 13
verdict_number (UnknownValve v) = 14
