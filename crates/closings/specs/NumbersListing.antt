-- Which clause of the numbers stands at a place. The code counts with q, which is one less than the bits.
use Rattle.std.specs.List.{slice_get}
use Rattle.std.specs.Prelude.{◌≡◌, ℕ, suc, ◌+◌, ◌-◌, ◌*◌, ◌/◌, ◌%◌, ◌<◌, ◌≤◌, List, [], ◌∷◌, ◌++◌, length, Some, None, ◌≢◌}
use Rattle.std.proofs.Math.Logic.{inl, inr}
use Rattle.std.proofs.Common.{◌∙◌, ap}
use Rattle.std.proofs.Math.Path.{refl}
use native.Mathlib.Omega.{arith}
use Rattle.std.proofs.lemmas.Option.{slice_get_past}
use Rattle.cnf.specs.Clauses.{Clause}
use Rattle.std.proofs.lemmas.Nat.{div_below, le-div, mod_below}
use Rattle.std.proofs.lemmas.List.{length-append}
use Rattle.std.proofs.lemmas.Bool.{cases_lt}
use Rattle.closings.specs.Inputs.{Input, Lawful, arc_count}
use Rattle.closings.specs.NumbersClauses.{all_rise, bit_rises, low_enters, low_leaves, rest_enters, rest_leaves}
use Rattle.closings.specs.NumbersClauses.{bits_for, numbers_clauses, numbers_of_arc}
use Rattle.closings.specs.NumbersPlaces.{NumbersIn, numbers_at}
use Rattle.closings.specs.Ranges.{each}
use Rattle.closings.specs.declared.numbers.Place.{Place}
use Rattle.closings.specs.declared.numbers.Place.TheVariants.{AllRise, BitRises, LowEnters, LowLeaves}
use Rattle.closings.specs.declared.numbers.Place.TheVariants.{RestEnters, RestLeaves}
use Rattle.closings.specs.RangesLemmas.{length_each, nth_each, nth_left, nth_right}
use Rattle.closings.specs.Widths.{bits_some}

-- where there is an arc there is a bit
pub some_bit : (x : Input) → Lawful x → (a : ℕ) → a < arc_count x → 1 ≤ bits_for x.nodes
some_bit x law a h = let e = law.ends a h in bits_some x.nodes (omega (arith, e.2))

-- the clauses of one arc
module _ (x : Input) (a : ℕ) where
  -- those of bit t + 2
  unfoldable pub of_bit : ℕ → List Clause
  of_bit t = bit_rises x a (t + 2) ∷ (rest_leaves x a (t + 2) ∷ (rest_enters x a (t + 2) ∷ []))

  middle : List Clause
  middle = each (bits_for x.nodes - 1) of_bit

  arc_parts : numbers_of_arc x a ≡ low_leaves x a ∷ (low_enters x a ∷ (middle ++ (all_rise x a ∷ [])))
  unfolding middle of_bit
  arc_parts = refl

  length_of_bit : (t : ℕ) → length (of_bit t) ≡ 3
  unfolding of_bit
  length_of_bit t = refl

  length_middle : length middle ≡ (bits_for x.nodes - 1) * 3
  unfolding middle
  length_middle = length_each of_bit 3 length_of_bit (bits_for x.nodes - 1)

  pub length_of_arc : length (numbers_of_arc x a) ≡ (bits_for x.nodes - 1) * 3 + 3
  length_of_arc = ap length arc_parts ∙ omega (arith, length-append middle (all_rise x a ∷ []), length_middle)

  after_two : (c m : ℕ) → c ≡ m + 2 → slice_get (numbers_of_arc x a) c ≡ slice_get (middle ++ (all_rise x a ∷ [])) m
  after_two c m e =
      (let s : c ≡ suc (suc m) = omega arith in ap (slice_get (numbers_of_arc x a)) s)
      ∙ ap (λ cs. slice_get cs (suc (suc m))) arc_parts

  last_clause : (c m : ℕ) → c ≡ m + 2 → m ≡ (bits_for x.nodes - 1) * 3 → slice_get (numbers_of_arc x a) c ≡ Some (all_rise x a)
  last_clause c m e h =
      let w = (bits_for x.nodes - 1) * 3 in
      let z : m ≡ w + 0 = omega arith in
      after_two c m e
      ∙ ap (slice_get (middle ++ (all_rise x a ∷ []))) z
      ∙ nth_right middle (all_rise x a ∷ []) w 0 length_middle

  bit_clause
      : (c m : ℕ) → c ≡ m + 2 → m < (bits_for x.nodes - 1) * 3 → slice_get (numbers_of_arc x a) c ≡ slice_get (of_bit (m / 3)) (m % 3)
  unfolding middle
  bit_clause c m e h =
      after_two c m e
      ∙ nth_left middle (all_rise x a ∷ []) m (omega (arith, length_middle))
      ∙ nth_each of_bit 3 length_of_bit (bits_for x.nodes - 1) m (omega arith) h

module _ (x : Input) where
  pub length_numbers : length (numbers_clauses x) ≡ arc_count x * ((bits_for x.nodes - 1) * 3 + 3)
  unfolding numbers_clauses
  length_numbers = length_each (numbers_of_arc x) _ (length_of_arc x) (arc_count x)

  module _ (k w : ℕ) (e : w ≡ (bits_for x.nodes - 1) * 3 + 3) where
    clause_of_arc : k / w < arc_count x → slice_get (numbers_clauses x) k ≡ slice_get (numbers_of_arc x (k / w)) (k % w)
    unfolding numbers_clauses
    clause_of_arc h =
        nth_each (numbers_of_arc x) w (λ a. omega (arith, length_of_arc x a)) (arc_count x) k (omega arith) inside
      where
        inside : k < arc_count x * w
        inside =
            elim (cases_lt k (arc_count x * w)) [
              | inl s ↦ s
              | inr s ↦ absurd (let z = le-div (arc_count x) k w (omega arith) s in omega arith)
            ]

    clause_past : arc_count x ≤ k / w → slice_get (numbers_clauses x) k ≡ None
    clause_past h = slice_get_past (numbers_clauses x) k (omega (arith, length_numbers, ap (λ c. arc_count x * c) e, outside))
      where
        outside : arc_count x * w ≤ k
        outside =
            elim (cases_lt k (arc_count x * w)) [
              | inl s ↦ absurd (let z = div_below k w (arc_count x) (omega arith) s in omega arith)
              | inr s ↦ s
            ]

-- p is the place of clause k
abbrev pub Found : Input → ℕ → Place → Type 0
Found x k p = record {
  is : slice_get (numbers_clauses x) k ≡ Some (numbers_at x p);
  within : NumbersIn x p;
}

module _ (x : Input) (law : Lawful x) (k q : ℕ) (e : q ≡ bits_for x.nodes - 1) where
  pub none_past : arc_count x ≤ k / (q * 3 + 3) → slice_get (numbers_clauses x) k ≡ None
  none_past h = clause_past x k (q * 3 + 3) (omega arith) h

  module _ (h : k / (q * 3 + 3) < arc_count x) where
    here : slice_get (numbers_clauses x) k ≡ slice_get (numbers_of_arc x (k / (q * 3 + 3))) (k % (q * 3 + 3))
    here = clause_of_arc x k (q * 3 + 3) (omega arith) h

    bit : 1 ≤ bits_for x.nodes
    bit = some_bit x law _ h

    pub found_low_leaves : k % (q * 3 + 3) ≡ 0 → Found x k (LowLeaves (k / (q * 3 + 3)))
    found_low_leaves z = record { is = here ∙ ap (slice_get (numbers_of_arc x (k / (q * 3 + 3)))) z; within = (h, bit) }

    pub found_low_enters : k % (q * 3 + 3) ≡ 1 → Found x k (LowEnters (k / (q * 3 + 3)))
    found_low_enters z = record { is = here ∙ ap (slice_get (numbers_of_arc x (k / (q * 3 + 3)))) z; within = (h, bit) }

    module _ (n0 : k % (q * 3 + 3) ≡ 0 → ⊥) (n1 : k % (q * 3 + 3) ≡ 1 → ⊥) where
      pub found_all_rise : q * 3 ≤ k % (q * 3 + 3) - 2 → Found x k (AllRise (k / (q * 3 + 3)))
      found_all_rise l =
          let low = mod_below k (q * 3 + 3) (omega arith) in
          record {
            is = here ∙ last_clause x (k / (q * 3 + 3)) (k % (q * 3 + 3)) (k % (q * 3 + 3) - 2)
                (omega (arith, n0, n1)) (omega (arith, n0, n1));
            within = (h, bit);
          }

      module _ (l : k % (q * 3 + 3) - 2 < q * 3) where
        inner
            : (t : ℕ) → (k % (q * 3 + 3) - 2) % 3 ≡ t
            → slice_get (numbers_clauses x) k ≡ slice_get (of_bit x (k / (q * 3 + 3)) ((k % (q * 3 + 3) - 2) / 3)) t
        inner t z =
            here
            ∙ bit_clause x (k / (q * 3 + 3)) (k % (q * 3 + 3)) (k % (q * 3 + 3) - 2) (omega (arith, n0, n1)) (omega arith)
            ∙ ap (slice_get (of_bit x (k / (q * 3 + 3)) ((k % (q * 3 + 3) - 2) / 3))) z

        low : (k % (q * 3 + 3) - 2) / 3 + 2 ≤ bits_for x.nodes
        low = omega arith

        pub found_bit_rises
            : (k % (q * 3 + 3) - 2) % 3 ≡ 0 → Found x k (BitRises (k / (q * 3 + 3)) ((k % (q * 3 + 3) - 2) / 3 + 2))
        unfolding of_bit
        found_bit_rises z = record { is = inner 0 z; within = (h, omega arith, low) }

        pub found_rest_leaves
            : (k % (q * 3 + 3) - 2) % 3 ≡ 1 → Found x k (RestLeaves (k / (q * 3 + 3)) ((k % (q * 3 + 3) - 2) / 3 + 2))
        unfolding of_bit
        found_rest_leaves z = record { is = inner 1 z; within = (h, omega arith, low) }

        pub found_rest_enters
            : ((k % (q * 3 + 3) - 2) % 3 ≢ 0) → ((k % (q * 3 + 3) - 2) % 3 ≢ 1)
            → Found x k (RestEnters (k / (q * 3 + 3)) ((k % (q * 3 + 3) - 2) / 3 + 2))
        unfolding of_bit
        found_rest_enters n z = record { is = inner 2 (omega arith); within = (h, omega arith, low) }
