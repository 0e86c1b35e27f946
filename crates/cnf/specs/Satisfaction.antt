-- Satisfaction. Assumes nothing.
--     Values               a value, true or false, for each variable
--     Holds σ z            the literal is true: v where v is true, −v where v is false, and never 0
--     Meets σ c            some literal of the clause is true
--     Sat σ cs             every clause of the list is met
--     setting values       the values that value bytes give: true where the byte of the variable is 1
--     Full values cs       every literal stands on a variable whose byte is 1 or 2
--     UnmetRight values cs r     for full value bytes: where no clause is named, the bytes' values meet every clause; a clause
--                          that is named is not met, while every one before it is
use Rattle.std.specs.Prelude.{◌≡◌, ℕ, zero, suc, ◌-◌, ◌<◌, Bool, true, false, ◌⊎◌, List, [], length, ℤ, pos, negsuc, Some, None, Option, ◌==◌, slice_index, slice_index_or}
use Rattle.cnf.specs.Clauses.{Clause}
use Rattle.cnf.specs.Meeting.{byte_of}

abbrev pub Values : Type 0
Values = ℕ → Bool

abbrev pub Holds : Values → ℤ → Type 0
Holds σ (pos zero) = ⊥
Holds σ (pos (suc n)) = σ (suc n) ≡ true
Holds σ (negsuc n) = σ (suc n) ≡ false

pub record Meets (σ : Values) (c : Clause) : Type 0 where
  pub place : ℕ
  pub within : place < length c
  pub holds : Holds σ (slice_index_or c place (pos 0))

abbrev pub Sat : Values → List Clause → Type 0
Sat σ cs = (k : ℕ) → k < length cs → Meets σ (slice_index_or cs k [])

abbrev pub setting : List ℕ → Values
setting values v = slice_index values (v - 1) == 1

abbrev pub Full : List ℕ → List Clause → Type 0
Full values cs =
    (k j : ℕ) → k < length cs → j < length (slice_index_or cs k [])
    → (byte_of values (slice_index_or (slice_index_or cs k []) j (pos 0)) ≡ 1) ⊎ (byte_of values (slice_index_or (slice_index_or cs k []) j (pos 0)) ≡ 2)

-- what an answer says of the clauses
abbrev pub Names : Values → List Clause → Option ℕ → Type 0
Names σ cs None = Sat σ cs
Names σ cs (Some k) =
    (k < length cs) × (Meets σ (slice_index_or cs k []) → ⊥) × ((i : ℕ) → i < k → Meets σ (slice_index_or cs i []))

abbrev pub UnmetRight : List ℕ → List Clause → Option ℕ → Type 0
UnmetRight values cs r = Full values cs → Names (setting values) cs r
