-- A table that is cleared of one node, pair by pair.
use Rattle.std.proofs.Common.{◌≡◌, ℕ, ◌+◌, ◌*◌, Bool, cond, ◌&&◌, ◌||◌, eqb, ltb, List, get_or, arith}
use mathlib.Core.Path.{fun_ext}
use Rattle.std.proofs.lemmas.Bool.Decides.{nat_tests}
use Rattle.sheet.specs.Tables.{Table, put, table, without}

-- whether a pair has been cleared once the pairs of v with the nodes below k have been
abbrev is_cleared : ℕ → ℕ → ℕ → ℕ → Bool
is_cleared v k a b = (eqb a v && ltb b k) || (eqb b v && ltb a k)

abbrev pub cleared : ℕ → ℕ → Table → Table
cleared v k t a b = cond (is_cleared v k a b) 0 (t a b)

pub cleared_more : (v k : ℕ) (t : Table) → put (put (cleared v k t) v k 0) k v 0 ≡ cleared v (k + 1) t
cleared_more v k t = fun_ext (λ i. fun_ext (λ j. go i j (t i j)))
  where
    go : (i j x : ℕ)
        → cond (eqb i k && eqb j v) 0 (cond (eqb i v && eqb j k) 0 (cond (is_cleared v k i j) 0 x))
        ≡ cond (is_cleared v (k + 1) i j) 0 x
    go i j x = grind (arith, nat_tests)

pub cleared_all : (v k : ℕ) (xs : List ℕ) → 64 ≡ k → cleared v k (table xs) ≡ without v (table xs)
cleared_all v k xs e = fun_ext (λ a. fun_ext (λ b. go a b (get_or xs (a * 64 + b) 0)))
  where
    go : (a b x : ℕ)
        → cond (is_cleared v k a b) 0 (cond (ltb a 64 && ltb b 64) x 0)
        ≡ cond (eqb a v || eqb b v) 0 (cond (ltb a 64 && ltb b 64) x 0)
    go a b x = grind (arith, nat_tests)
