-- The clauses of the steps by their numbers, and the place that is found for each.
use Rattle.std.specs.List.{slice_get}
use Rattle.std.specs.Prelude.{◌≡◌, ℕ, zero, suc, ◌+◌, ◌-◌, ◌*◌, ◌/◌, ◌%◌, ◌<◌, ◌≤◌, List, [], ◌∷◌, ◌++◌, length, pos, Some, None, ◌≢◌}
use Rattle.std.proofs.Math.Logic.{⊎_elim}
use Rattle.std.proofs.Common.{◌∙◌, sym}
use Rattle.std.proofs.Math.Path.{ap, refl}
use native.Mathlib.Omega.{arith}
use Rattle.std.proofs.lemmas.Option.{slice_get_past}
use Rattle.cnf.specs.Clauses.{Clause}
use Rattle.std.proofs.lemmas.Nat.{div_below, le-div, mod_below}
use Rattle.std.proofs.lemmas.List.{length-append}
use Rattle.std.proofs.lemmas.Bool.{cases_lt}
use Rattle.closings.specs.ArcFacts.{arc_is, count_is}
use Rattle.closings.specs.Arcs.{arc_in}
use Rattle.closings.specs.Inputs.{Input, arc_at, arc_count, input}
use Rattle.closings.specs.Ranges.{each, upto}
use Rattle.closings.specs.StepsClauses.{label_rises, some_step, step_enters, step_leaves}
use Rattle.closings.specs.StepsClauses.{steps_clauses, steps_of_arc, steps_s}
use Rattle.closings.specs.StepsPlaces.{StepsIn, steps_at}
use Rattle.closings.specs.declared.remaining.Remaining.{Remaining}
use Rattle.closings.specs.declared.steps.Place.{Place}
use Rattle.closings.specs.declared.steps.Place.TheVariants.{Enters, Leaves, Rises, SomeStep}
use Rattle.closings.specs.RangesLemmas.{factor_positive, length_each, length_upto, nth_each, nth_left, nth_right, nth_upto}

module _ (x : Input) where
  -- the clauses of a node, those of all nodes, those of an arc and a step, and those of all arcs
  row_of : ℕ → List Clause
  row_of i = upto (x.nodes - 2) (λ t. label_rises x i (t + 2))

  rows : List Clause
  rows = each x.nodes row_of

  pair_of : ℕ → ℕ → List Clause
  pair_of a t = step_leaves x a (t + 1) ∷ (step_enters x a (t + 1) ∷ [])

  pairs : ℕ → List Clause
  pairs a = each (x.nodes - 1) (pair_of a)

  of_arcs : List Clause
  of_arcs = each (arc_count x) (steps_of_arc x)

  parts : steps_clauses x ≡ rows ++ of_arcs
  unfolding steps_clauses rows of_arcs row_of
  parts = refl

  arc_parts : (a : ℕ) → steps_of_arc x a ≡ pairs a ++ (some_step x a ∷ [])
  unfolding pairs pair_of
  arc_parts a = refl

  length_row : (i : ℕ) → length (row_of i) ≡ x.nodes - 2
  unfolding row_of
  length_row i = length_upto (λ t. label_rises x i (t + 2)) (x.nodes - 2)

  length_rows : length rows ≡ x.nodes * (x.nodes - 2)
  unfolding rows
  length_rows = length_each row_of (x.nodes - 2) length_row x.nodes

  length_pair : (a t : ℕ) → length (pair_of a t) ≡ 2
  unfolding pair_of
  length_pair a t = refl

  length_pairs : (a : ℕ) → length (pairs a) ≡ (x.nodes - 1) * 2
  unfolding pairs
  length_pairs a = length_each (pair_of a) 2 (length_pair a) (x.nodes - 1)

  length_arc : (a : ℕ) → length (steps_of_arc x a) ≡ (x.nodes - 1) * 2 + 1
  length_arc a =
      ap length (arc_parts a) ∙ length-append (pairs a) (some_step x a ∷ []) ∙ omega (arith, length_pairs a)

  length_arcs : length of_arcs ≡ arc_count x * ((x.nodes - 1) * 2 + 1)
  unfolding of_arcs
  length_arcs = length_each (steps_of_arc x) ((x.nodes - 1) * 2 + 1) length_arc (arc_count x)

  pub length_steps
      : length (steps_clauses x) ≡ x.nodes * (x.nodes - 2) + arc_count x * ((x.nodes - 1) * 2 + 1)
  length_steps = ap length parts ∙ length-append rows of_arcs ∙ omega (arith, length_rows, length_arcs)

  -- the clauses of the nodes
  rises_at
      : (k : ℕ) → 0 < x.nodes - 2 → k < x.nodes * (x.nodes - 2)
      → slice_get (steps_clauses x) k ≡ Some (label_rises x (k / (x.nodes - 2)) (k % (x.nodes - 2) + 2))
  unfolding rows row_of
  rises_at k p h =
      let q = x.nodes - 2 in
      ap (λ cs. slice_get cs k) parts
      ∙ nth_left rows of_arcs k (omega (arith, length_rows))
      ∙ nth_each row_of q length_row x.nodes k p h
      ∙ nth_upto (λ t. label_rises x (k / q) (t + 2)) q (k % q) (mod_below k q p)

  -- the clauses of the arcs: number n among them stands in row n / w and column n % w
  module _ (n w : ℕ) (wide : w ≡ (x.nodes - 1) * 2 + 1) where
    of_arc_at
        : n / w < arc_count x
        → slice_get (steps_clauses x) (x.nodes * (x.nodes - 2) + n) ≡ slice_get (steps_of_arc x (n / w)) (n % w)
    unfolding of_arcs
    of_arc_at h =
        let l : n < arc_count x * w =
        ⊎_elim (λ (b : n < arc_count x * w). b)
        (λ (b : arc_count x * w ≤ n). absurd (let z = le-div (arc_count x) n w (omega arith) b in omega arith))
        (cases_lt n (arc_count x * w)) in
        ap (λ cs. slice_get cs (x.nodes * (x.nodes - 2) + n)) parts
        ∙ nth_right rows of_arcs (x.nodes * (x.nodes - 2)) n length_rows
        ∙ nth_each (steps_of_arc x) w (λ a. length_arc a ∙ omega arith) (arc_count x) n (omega arith) l

    past_arcs : arc_count x ≤ n / w → slice_get (steps_clauses x) (x.nodes * (x.nodes - 2) + n) ≡ None
    past_arcs h =
        let l : arc_count x * w ≤ n =
        ⊎_elim (λ (b : n < arc_count x * w). absurd (let z = div_below n w (arc_count x) (omega arith) b in omega arith))
        (λ (b : arc_count x * w ≤ n). b) (cases_lt n (arc_count x * w)) in
        let e = ap (λ v. arc_count x * v) wide in
        slice_get_past (steps_clauses x) _ (omega (arith, length_steps, e))

  -- within an arc's clauses
  some_step_at : (a c : ℕ) → c ≡ (x.nodes - 1) * 2 → slice_get (steps_of_arc x a) c ≡ Some (some_step x a)
  some_step_at a c e =
      let z : c ≡ (x.nodes - 1) * 2 + 0 = omega arith in
      ap (slice_get (steps_of_arc x a)) z
      ∙ ap (λ cs. slice_get cs ((x.nodes - 1) * 2 + 0)) (arc_parts a)
      ∙ nth_right (pairs a) (some_step x a ∷ []) ((x.nodes - 1) * 2) 0 (length_pairs a)

  pair_at : (a c : ℕ) → c < (x.nodes - 1) * 2 → slice_get (steps_of_arc x a) c ≡ slice_get (pair_of a (c / 2)) (c % 2)
  unfolding pairs
  pair_at a c h =
      ap (λ cs. slice_get cs c) (arc_parts a)
      ∙ nth_left (pairs a) (some_step x a ∷ []) c (omega (arith, length_pairs a))
      ∙ nth_each (pair_of a) 2 (length_pair a) (x.nodes - 1) c (omega arith) h

  leaves_at
      : (a c : ℕ) → c < (x.nodes - 1) * 2 → c % 2 ≡ 0 → slice_get (steps_of_arc x a) c ≡ Some (step_leaves x a (c / 2 + 1))
  unfolding pair_of
  leaves_at a c h e = pair_at a c h ∙ ap (slice_get (pair_of a (c / 2))) e

  enters_at
      : (a c : ℕ) → c < (x.nodes - 1) * 2 → c % 2 ≡ 1 → slice_get (steps_of_arc x a) c ≡ Some (step_enters x a (c / 2 + 1))
  unfolding pair_of
  enters_at a c h e = pair_at a c h ∙ ap (slice_get (pair_of a (c / 2))) e

  -- the literals of the clause that an arc has a step
  pub some_step_length : (a : ℕ) → 0 < x.nodes → length (some_step x a) ≡ x.nodes
  some_step_length a h = omega (arith, length_upto (λ t. pos (steps_s x a (t + 1))) (x.nodes - 1))

  pub some_step_literal : (a j : ℕ) → 0 < j → j < x.nodes → slice_get (some_step x a) j ≡ Some (pos (steps_s x a j))
  some_step_literal a zero p h = absurd (omega arith)
  some_step_literal a (suc j) p h =
      nth_upto (λ t. pos (steps_s x a (t + 1))) (x.nodes - 1) j (omega arith)
      ∙ ap (λ t. Some (pos (steps_s x a t))) (let e : j + 1 ≡ suc j = omega arith in e)

  pub some_step_past : (a j : ℕ) → 0 < x.nodes → x.nodes ≤ j → slice_get (some_step x a) j ≡ None
  some_step_past a j p h = slice_get_past (some_step x a) j (omega (arith, some_step_length a p))

-- p is the place of clause k
abbrev pub Found : Input → ℕ → Place → Type 0
Found x k p = record {
  is : slice_get (steps_clauses x) k ≡ Some (steps_at x p);
  within : StepsIn x p;
}

-- as it is reckoned, with q for r − 1 and w for r − 2
module _ (x : Input) (k q w : ℕ) (eq : q ≡ x.nodes - 1) (ew : w ≡ x.nodes - 2) where
  pub found_rises : k < x.nodes * w → Found x k (Rises (k / w) (k % w + 2))
  found_rises h =
      let p = factor_positive x.nodes w k h in
      let l = mod_below k w p in
      record {
        is = rw ew (rises_at x k (omega arith) (rw ew at h));
        within = (div_below k w x.nodes p h, omega arith, omega arith);
      }

  module _ (past : x.nodes * w ≤ k) where
    n : ℕ
    n = k - x.nodes * w

    back : x.nodes * (x.nodes - 2) + n ≡ k
    unfolding n
    back = let e = ap (λ v. x.nodes * v) ew in omega arith

    wide : q * 2 + 1 ≡ (x.nodes - 1) * 2 + 1
    wide = omega arith

    pub none_past : arc_count x ≤ (k - x.nodes * w) / (q * 2 + 1) → slice_get (steps_clauses x) k ≡ None
    unfolding n
    none_past h = rw back at (past_arcs x n (q * 2 + 1) wide h)

    module _ (h : (k - x.nodes * w) / (q * 2 + 1) < arc_count x) where
      a : ℕ
      a = (k - x.nodes * w) / (q * 2 + 1)

      c : ℕ
      c = (k - x.nodes * w) % (q * 2 + 1)

      c_low : c < q * 2 + 1
      unfolding c
      c_low = mod_below (k - x.nodes * w) (q * 2 + 1) (omega arith)

      at_arc : slice_get (steps_clauses x) k ≡ slice_get (steps_of_arc x a) c
      unfolding a c n
      at_arc = rw back at (of_arc_at x n (q * 2 + 1) wide h)

      pub found_some_step
          : q * 2 ≤ (k - x.nodes * w) % (q * 2 + 1) → Found x k (SomeStep ((k - x.nodes * w) / (q * 2 + 1)))
      unfolding a c
      found_some_step l = let low = c_low in record { is = at_arc ∙ some_step_at x a c (omega arith); within = h }

      pub found_leaves
          : (k - x.nodes * w) % (q * 2 + 1) < q * 2 → (k - x.nodes * w) % (q * 2 + 1) % 2 ≡ 0
          → Found x k (Leaves ((k - x.nodes * w) / (q * 2 + 1)) ((k - x.nodes * w) % (q * 2 + 1) / 2 + 1))
      unfolding a c
      found_leaves l e =
          record { is = at_arc ∙ leaves_at x a c (omega arith) e; within = (h, omega arith, omega arith) }

      pub found_enters
          : (k - x.nodes * w) % (q * 2 + 1) < q * 2 → ((k - x.nodes * w) % (q * 2 + 1) % 2 ≢ 0)
          → Found x k (Enters ((k - x.nodes * w) / (q * 2 + 1)) ((k - x.nodes * w) % (q * 2 + 1) / 2 + 1))
      unfolding a c
      found_enters l e =
          record { is = at_arc ∙ enters_at x a c (omega arith) (omega arith); within = (h, omega arith, omega arith) }

-- an arc that is read from memory
pub arc_read : (x : Remaining) (a : ℕ) → a < arc_count (input x) → arc_in x.arcs a ≡ arc_at (input x) a
arc_read x a h = sym (arc_is x a (omega (arith, count_is x)))
