-- What a sink means. Assumes nothing.
--     Layer                     a guard with its literal, or an offset with its shift
--     State                     top and longest: the largest variable and the most literals it takes; cost: what a clause costs;
--                               entries and units left; spare and spare_pairs: what the places of storage or text that are not
--                               used yet hold; layers, the outermost first, and the clauses at the bottom under them
--     form_refusal top longest c    why a clause is refused for its length or a literal, or none
--     add_refusal s c           why a clause is refused, or none: by length, then literal, then room
--     raised d z, lowered d z   a literal whose variable an offset moves up; one as an offset reads it
--     without_last c            the clause without its last literal, if any
--     stored_as ls c            a clause as it comes to the bottom through the layers
--     read_as ls c              a clause of the bottom as it is read through the layers
--     added s c                 the state with one clause more: it takes up its cost of the spare places, and one pair
use Rattle.std.specs.Prelude.{ℕ, suc, ◌+◌, ◌-◌, cond, ◌||◌, List, [], ◌∷◌, ◌++◌, map, drop, ℤ, pos, negsuc, Some, None, Option, ◌==◌, nat_lt}
use Rattle.cnf.specs.Clauses.{Clause, bad_length, has_bad_literal}
use Rattle.cnf.specs.declared.refusal.SinkRefusal.{SinkRefusal}
use Rattle.cnf.specs.declared.refusal.SinkRefusal.TheVariants.{Length, Literal, Room}

pub data Layer : Type 0 where
  guard : ℤ → Layer
  offset : ℕ → Layer

pub record State : Type 0 where
  pub top : ℕ
  pub longest : ℕ
  pub cost : Clause → ℕ
  pub entries : ℕ
  pub units : ℕ
  pub spare : List ℤ
  pub spare_pairs : List (ℕ × ℕ)
  pub layers : List Layer
  pub bottom : List Clause

abbrev pub form_refusal : ℕ → ℕ → Clause → Option SinkRefusal
form_refusal top longest c = cond (bad_length longest c) (Some Length) (cond (has_bad_literal top c) (Some Literal) None)

abbrev pub add_refusal : State → Clause → Option SinkRefusal
add_refusal s c =
    cond (bad_length s.longest c) (Some Length)
    (cond (has_bad_literal s.top c) (Some Literal)
    (cond (s.entries == 0 || nat_lt s.units (s.cost c)) (Some Room) None))

abbrev pub raised : ℕ → ℤ → ℤ
raised d (pos n) = pos (n + d)
raised d (negsuc n) = negsuc (n + d)

abbrev pub lowered : ℕ → ℤ → ℤ
lowered d (pos n) = cond (nat_lt d n) (pos (n - d)) (pos n)
lowered d (negsuc n) = cond (nat_lt d (suc n)) (negsuc (n - d)) (negsuc n)

abbrev pub without_last : Clause → Clause
without_last [] = []
without_last (z ∷ []) = []
without_last (z ∷ (y ∷ ys)) = z ∷ without_last (y ∷ ys)

abbrev pub stored_as : List Layer → Clause → Clause
stored_as [] c = c
stored_as (guard g ∷ ls) c = stored_as ls (c ++ (g ∷ []))
stored_as (offset d ∷ ls) c = stored_as ls (map (raised d) c)

abbrev pub read_as : List Layer → Clause → Clause
read_as [] c = c
read_as (guard g ∷ ls) c = without_last (read_as ls c)
read_as (offset d ∷ ls) c = map (lowered d) (read_as ls c)

abbrev pub added : State → Clause → State
added s c = record {
  top = s.top;
  longest = s.longest;
  cost = s.cost;
  entries = s.entries - 1;
  units = s.units - s.cost c;
  spare = drop (s.cost c) s.spare;
  spare_pairs = drop 1 s.spare_pairs;
  layers = s.layers;
  bottom = s.bottom ++ (stored_as s.layers c ∷ []);
}
