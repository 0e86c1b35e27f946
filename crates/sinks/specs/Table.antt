-- The table: clauses cut from one run of literals, by pairs of an offset and a length. Assumes nothing.
--     laid at ns                   the pairs of clauses of these lengths that lie one behind the other, from the offset at on
--     part xs p, cut ps xs         the literals that a pair names; the clauses that pairs name
--     joined cs                    the literals of clauses, one behind the other
--     behind u c xs                a store xs with the clause c behind its first u literals, and every other place as it was
--     LaidOut ps xs                the pairs are the offsets and lengths of the clauses, and the literals are theirs, one behind the other
--     table_cost c                 a clause costs its length, and one that is refused for its form nothing
--     table_state pairs n literals u    what a table means whose buffers hold these pairs and literals, the first n and u of them in use
use Rattle.std.specs.Prelude.{◌≡◌, ℕ, ◌+◌, ◌-◌, min, cond, List, [], ◌∷◌, ◌++◌, map, length, take, drop, ℤ}
use Rattle.std.specs.List.{flat_map}
use Rattle.cnf.specs.Clauses.{Clause, bad_length, has_bad_literal}
use Rattle.cnf.specs.States.{State}

abbrev pub laid : ℕ → List ℕ → List (ℕ × ℕ)
laid at [] = []
laid at (n ∷ ns) = (at, n) ∷ laid (at + n) ns

abbrev pub part : {X : Type 0} → List X → ℕ × ℕ → List X
part xs p = take p.1 (drop p.0 xs)

abbrev pub cut : {X : Type 0} → List (ℕ × ℕ) → List X → List (List X)
cut ps xs = map (part xs) ps

abbrev pub joined : {X : Type 0} → List (List X) → List X
joined cs = flat_map (λ c. c) cs

abbrev pub behind : {X : Type 0} → ℕ → List X → List X → List X
behind u c xs = take u xs ++ (c ++ drop (u + length c) xs)

pub record LaidOut (ps : List (ℕ × ℕ)) (xs : Clause) : Type 0 where
  pub pairs_are : ps ≡ laid 0 (map length (cut ps xs))
  pub literals_are : xs ≡ joined (cut ps xs)

abbrev pub table_cost : Clause → ℕ
table_cost c = cond (bad_length 256 c) 0 (cond (has_bad_literal 1_073_741_823 c) 0 (length c))

abbrev pub table_state : List (ℕ × ℕ) → ℕ → List ℤ → ℕ → State
table_state pairs n literals u = record {
  top = 1_073_741_823;
  longest = 256;
  cost = table_cost;
  entries = min (length pairs) 1_000_000 - n;
  units = min (length literals) 1_073_741_824 - u;
  spare = drop u literals;
  spare_pairs = drop n pairs;
  layers = [];
  bottom = cut (take n pairs) (take u literals);
}
