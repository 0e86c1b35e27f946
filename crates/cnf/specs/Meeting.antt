-- Value bytes against literals and clauses. Assumes nothing.
--     told b               what a byte tells: 1 true, 2 false, any other nothing
--     meets_byte z b       the byte meets the literal: 1 a positive one, 2 a negative one, and no byte meets 0
--     value_of values v    the byte of a variable: byte v − 1 for variable v, or 0 where there is none
--     byte_of values z     the byte of the literal's variable
--     met values z         the literal is met by the byte of its variable
--     first_unmet values cs    the first clause none of whose literals is met, or none
use Rattle.std.specs.Prelude.{ℕ, zero, suc, ◌-◌, Bool, false, cond, List, [], ◌∷◌, ℤ, pos, negsuc, Some, None, Option, ◌==◌, slice_index}
use Rattle.cnf.specs.Clauses.{Clause, variable}
use Rattle.cnf.specs.declared.meeting.Value.{Value}
use Rattle.cnf.specs.declared.meeting.Value.TheVariants.{False, True, Unknown}
use Rattle.std.specs.List.{list_any}
use Rattle.std.specs.Option.{option_map}

abbrev pub told : ℕ → Value
told b = cond (b == 1) True (cond (b == 2) False Unknown)

abbrev pub meets_byte : ℤ → ℕ → Bool
meets_byte (pos zero) b = false
meets_byte (pos (suc n)) b = b == 1
meets_byte (negsuc n) b = b == 2

abbrev pub value_of : List ℕ → ℕ → ℕ
value_of values v = cond (v == 0) 0 (slice_index values (v - 1))

abbrev pub byte_of : List ℕ → ℤ → ℕ
byte_of values z = value_of values (variable z)

abbrev pub met : List ℕ → ℤ → Bool
met values z = meets_byte z (byte_of values z)

abbrev pub first_unmet : List ℕ → List Clause → Option ℕ
first_unmet values [] = None
first_unmet values (c ∷ cs) = cond (list_any (met values) c) (option_map suc (first_unmet values cs)) (Some 0)
