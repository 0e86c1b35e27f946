-- Clauses. Assumes nothing.
--     Clause                 a list of literals; v and −v stand on variable v
--     minus v                the literal −v
--     variable z             the variable that a literal stands on
--     bad_literal top z      the literal is 0 or stands on a variable above top
--     has_bad_literal top c  some literal of the clause is bad
--     bad_length longest c   the clause is empty or longer than longest
use Rattle.std.specs.Prelude.{ℕ, Bool, ◌||◌, List, length, ℤ, pos, neg_ℤ, ◌==◌, nat_lt, unsigned_abs}
use Rattle.std.specs.List.{list_any}

abbrev pub Clause : Type 0
Clause = List ℤ

abbrev pub minus : ℕ → ℤ
minus v = neg_ℤ (pos v)

abbrev pub variable : ℤ → ℕ
variable z = unsigned_abs z

abbrev pub bad_literal : ℕ → ℤ → Bool
bad_literal top z = variable z == 0 || nat_lt top (variable z)

abbrev pub has_bad_literal : ℕ → Clause → Bool
has_bad_literal top c = list_any (bad_literal top) c

abbrev pub bad_length : ℕ → Clause → Bool
bad_length longest c = length c == 0 || nat_lt longest (length c)
