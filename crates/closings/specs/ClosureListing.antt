-- The clauses of Closure by their numbers.
use Rattle.std.specs.List.{slice_get}
use Rattle.std.specs.Prelude.{◌≡◌, ℕ, zero, suc, ◌+◌, ◌*◌, ◌/◌, ◌%◌, ◌<◌, ◌≤◌, List, ◌++◌, length, Some, None}
use Rattle.std.proofs.Common.{◌∙◌, zero-mul, arith}
use Rattle.std.proofs.Math.Path.{ap, refl}
use Rattle.std.proofs.lemmas.Option.{slice_get_past}
use Rattle.cnf.specs.Clauses.{Clause}
use Rattle.std.proofs.lemmas.Nat.{mod_below}
use Rattle.std.proofs.lemmas.List.{length-append}
use Rattle.closings.specs.ClosureClauses.{arc_before, closure_clauses, never_itself, transitive}
use Rattle.closings.specs.Inputs.{Input, arc_count}
use Rattle.closings.specs.Ranges.{each, upto}
use Rattle.closings.specs.RangesLemmas.{factor_positive, length_each, length_upto, nth_each, nth_left, nth_right, nth_upto}

pub positive_cube : (a k : ℕ) → k < a * (a * a) → 0 < a
positive_cube zero k h = omega (arith, zero-mul (0 * 0))
positive_cube (suc a) k h = omega arith

module _ (x : Input) where
  abbrev r : ℕ
  r = x.nodes

  -- the three parts of the list
  itself : List Clause
  itself = upto r (never_itself x)

  row : ℕ → ℕ → List Clause
  row i j = upto r (λ k. transitive x i j k)

  through : List Clause
  unfolding row
  through = each r (λ i. each r (row i))

  arcs : List Clause
  arcs = upto (arc_count x) (arc_before x)

  parts : closure_clauses x ≡ itself ++ (through ++ arcs)
  unfolding closure_clauses itself through arcs row
  parts = refl

  length_itself : length itself ≡ r
  unfolding itself
  length_itself = length_upto (never_itself x) r

  length_row : (i j : ℕ) → length (row i j) ≡ r
  unfolding row
  length_row i j = length_upto (λ k. transitive x i j k) r

  length_square : (i : ℕ) → length (each r (row i)) ≡ r * r
  length_square i = length_each (row i) r (length_row i) r

  length_through : length through ≡ r * (r * r)
  unfolding through
  length_through = length_each (λ i. each r (row i)) (r * r) length_square r

  length_arcs : length arcs ≡ arc_count x
  unfolding arcs
  length_arcs = length_upto (arc_before x) (arc_count x)

  pub length_closure : length (closure_clauses x) ≡ x.nodes + x.nodes * (x.nodes * x.nodes) + arc_count x
  length_closure =
      ap length parts
      ∙ length-append itself (through ++ arcs)
      ∙ omega (arith, length-append through arcs, length_itself, length_through, length_arcs)

  -- the clause that stands at k, by the part that k lies in
  pub closure_first : (k : ℕ) → k < x.nodes → slice_get (closure_clauses x) k ≡ Some (never_itself x k)
  unfolding itself
  closure_first k h =
      ap (λ cs. slice_get cs k) parts
      ∙ nth_left itself (through ++ arcs) k (omega (arith, length_itself))
      ∙ nth_upto (never_itself x) r k h

  -- the clause at k of the second part
  abbrev pub through_clause : ℕ → Clause
  through_clause k = transitive x (k / (r * r)) (k % (r * r) / r) (k % (r * r) % r)

  through_at : (k : ℕ) → k < r * (r * r) → 0 < r → 0 < r * r → slice_get through k ≡ Some (through_clause k)
  unfolding through row
  through_at k h p q =
      let i = k / (r * r) in
      let t = k % (r * r) in
      let l : t < r * r = mod_below k (r * r) q in
      nth_each (λ i. each r (row i)) (r * r) length_square r k q h
      ∙ nth_each (row i) r (length_row i) r t p l
      ∙ nth_upto (λ k. transitive x i (t / r) k) r (t % r) (mod_below t r p)

  pub closure_second
      : (k t : ℕ) → k ≡ x.nodes + t → t < x.nodes * (x.nodes * x.nodes)
      → slice_get (closure_clauses x) k ≡ Some (through_clause t)
  closure_second k t e h =
      ap (slice_get (closure_clauses x)) e
      ∙ ap (λ cs. slice_get cs (r + t)) parts
      ∙ nth_right itself (through ++ arcs) r t length_itself
      ∙ nth_left through arcs t (omega (arith, length_through))
      ∙ through_at t h (positive_cube r t h) (factor_positive r (r * r) t h)

  pub closure_third
      : (k t : ℕ) → k ≡ x.nodes + (x.nodes * (x.nodes * x.nodes) + t) → t < arc_count x
      → slice_get (closure_clauses x) k ≡ Some (arc_before x t)
  unfolding arcs
  closure_third k t e h =
      ap (slice_get (closure_clauses x)) e
      ∙ ap (λ cs. slice_get cs (r + (r * (r * r) + t))) parts
      ∙ nth_right itself (through ++ arcs) r (r * (r * r) + t) length_itself
      ∙ nth_right through arcs (r * (r * r)) t length_through
      ∙ nth_upto (arc_before x) (arc_count x) t h

  pub closure_past
      : (k : ℕ) → x.nodes + x.nodes * (x.nodes * x.nodes) + arc_count x ≤ k → slice_get (closure_clauses x) k ≡ None
  closure_past k h = let n = length_closure in slice_get_past (closure_clauses x) k (omega arith)
