-- Tables from ordered pairs of nodes to numbers: pipes with their valves, arcs with their variables. Assumes nothing.
--     Table           a number for each ordered pair of nodes, 0 for none
--     blank           the table with nothing in it
--     put t u w x     t with x at the pair (u, w)
--     without v t     t with nothing at the pairs of the node v
--     table xs        what an array of 64 rows of 64 places holds, as a table
--     entry x         a number of a table, or none for 0
-- and of a table t
--     Joins n t       every pair with an entry is one of two different nodes below n
--     Upto top t      no entry is above top
--     Above low t     every entry is above low
--     Below high t    every number is below high
--     Staying out t   no pair with an entry has a node that is out
--     Apart t         two pairs with the same entry are the same pair
use Rattle.std.specs.Prelude.{◌≡◌, ℕ, ◌+◌, ◌*◌, ◌<◌, ◌≤◌, Bool, true, false, cond, ◌&&◌, ◌||◌, T, List, Some, None, Option, ◌==◌, ◌≢◌, nat_lt, slice_index, slice_index_or}

abbrev pub Table : Type 0
Table = ℕ → ℕ → ℕ

abbrev pub blank : Table
blank u w = 0

abbrev pub put : Table → ℕ → ℕ → ℕ → Table
put t u w x a b = cond (a == u && b == w) x (t a b)

abbrev pub without : ℕ → Table → Table
without v t a b = cond (a == v || b == v) 0 (t a b)

abbrev pub table : List ℕ → Table
table xs u w = cond (nat_lt u 64 && nat_lt w 64) (slice_index xs (u * 64 + w)) 0

abbrev pub entry : ℕ → Option ℕ
entry x = cond (x == 0) None (Some x)

abbrev pub Joins : ℕ → Table → Type 0
Joins n t = (u w : ℕ) → 0 < t u w → (u < n) × (w < n) × (u ≢ w)

abbrev pub Upto : ℕ → Table → Type 0
Upto top t = (u w : ℕ) → t u w ≤ top

abbrev pub Above : ℕ → Table → Type 0
Above low t = (u w : ℕ) → 0 < t u w → low < t u w

abbrev pub Below : ℕ → Table → Type 0
Below high t = (u w : ℕ) → t u w < high

abbrev pub Staying : List Bool → Table → Type 0
Staying out t = (u w : ℕ) → 0 < t u w → (T (slice_index_or out u false) → ⊥) × (T (slice_index_or out w false) → ⊥)

abbrev pub same_pair : ℕ × ℕ → ℕ × ℕ → Bool
same_pair p q = p.0 == q.0 && p.1 == q.1

abbrev pub Apart : Table → Type 0
Apart t = (p q : ℕ × ℕ) → (0 < t p.0 p.1) × (t p.0 p.1 ≡ t q.0 q.1) → same_pair p q ≡ true
