-- The laws of the numbers: labels that rise along the chosen arcs forbid a ring, and a rank in binary gives such labels.
use Rattle.std.specs.Prelude.{◌≡◌, ℕ, zero, suc, ◌+◌, ◌-◌, ◌*◌, ◌%◌, ◌^◌, ◌<◌, ◌≤◌, Bool, true, false, [], ◌∷◌, length, pos, nat_lt, refl}
use Rattle.std.proofs.Math.Logic.{inl, inr}
use Rattle.std.proofs.Common.{◌∙◌, sym}
use Rattle.std.proofs.Math.Path.{ap, subst, subst₂}
use Rattle.std.proofs.Math.Nat.{mod-eq_of_lt, two-pow-succ}
use native.Mathlib.Omega.{arith}
use Rattle.cnf.proofs.Every.{all_append}
use Rattle.cnf.proofs.Satisfied.{all_sat, meets_later, sat_all}
use Rattle.cnf.specs.Clauses.{Clause, minus}
use Rattle.cnf.specs.Satisfaction.{Meets, Sat, Values}
use Rattle.graph.specs.Walks.{Ringless}
use Rattle.std.proofs.lemmas.Nat.{mod_below, mul-le, pow_pos}
use Rattle.std.proofs.lemmas.Bool.{cases_Bool, false≢true, lt-ltb, ltb-true}
use Rattle.std.specs.List.{AllByRecursion}
use Rattle.closings.specs.Inputs.{Chosen, Input, Lawful, arc_at, arc_count}
use Rattle.closings.specs.Law.{Closes, Extends, Own, Small, Uses}
use Rattle.closings.specs.NumbersClauses.{all_rise, bit_rises, low_enters, low_leaves, rest_enters, rest_leaves}
use Rattle.closings.specs.NumbersClauses.{bits_for, numbers_adds, numbers_clauses, numbers_of_arc, numbers_t, numbers_y}
use Rattle.closings.specs.Ranges.{each}
use Rattle.closings.specs.ArcFacts.{arcs_few, square_few}
use Rattle.closings.specs.BinaryLabels.{bit_low, digit, digit_more, less_from, less_to, with_bit}
use Rattle.closings.specs.Blocks.{arc_positive, node_positive, value_arc, value_node, values, values_extend}
use Rattle.closings.specs.Blocks.{own_arc, own_chosen, own_minus_arc, own_minus_node, own_node}
use Rattle.closings.specs.Horn.{meets_minus, meets_pos, only_minus, only_pos, past_minus, past_pos}
use Rattle.closings.specs.NumbersListing.{length_numbers, of_bit, some_bit}
use Rattle.closings.specs.RangesLemmas.{all_each, all_left, all_right, each_all}
use Rattle.closings.specs.Ranked.{ranked, rises_ringless}
use Rattle.closings.specs.Widths.{bits_enough, bits_least}

-- what holds of the clauses of arc a
record OfArc (P : Clause → Type 0) (x : Input) (a : ℕ) : Type 0 where
  at_low_leaves : P (low_leaves x a)
  at_low_enters : P (low_enters x a)
  at_bit_rises : (k : ℕ) → 2 ≤ k → k ≤ bits_for x.nodes → P (bit_rises x a k)
  at_rest_leaves : (k : ℕ) → 2 ≤ k → k ≤ bits_for x.nodes → P (rest_leaves x a k)
  at_rest_enters : (k : ℕ) → 2 ≤ k → k ≤ bits_for x.nodes → P (rest_enters x a k)
  at_all_rise : P (all_rise x a)

module _ (P : Clause → Type 0) (x : Input) where
  all_of_arc : (a : ℕ) → OfArc P x a → AllByRecursion P (numbers_of_arc x a)
  unfolding of_bit
  all_of_arc a h = (h.at_low_leaves, (h.at_low_enters, all_append P _ _ bits (h.at_all_rise, tt)))
    where
      bits : AllByRecursion P (each (bits_for x.nodes - 1) (of_bit x a))
      bits =
          all_each P (of_bit x a) (bits_for x.nodes - 1) (λ t l. (
            h.at_bit_rises (t + 2) (omega arith) (omega arith),
            (
              h.at_rest_leaves (t + 2) (omega arith) (omega arith),
              (h.at_rest_enters (t + 2) (omega arith) (omega arith), tt),
            ),
          ))

  of_arc_all : (a : ℕ) → AllByRecursion P (numbers_of_arc x a) → OfArc P x a
  unfolding of_bit
  of_arc_all a h =
      record {
        at_low_leaves = h.0;
        at_low_enters = h.1.0;
        at_bit_rises = λ k l m. subst (λ (t : ℕ). P (bit_rises x a t)) (back k l) (of k l m).0;
        at_rest_leaves = λ k l m. subst (λ (t : ℕ). P (rest_leaves x a t)) (back k l) (of k l m).1.0;
        at_rest_enters = λ k l m. subst (λ (t : ℕ). P (rest_enters x a t)) (back k l) (of k l m).1.1.0;
        at_all_rise = (all_right P (each (bits_for x.nodes - 1) (of_bit x a)) _ h.1.1).0;
      }
    where
      back : (k : ℕ) → 2 ≤ k → k - 2 + 2 ≡ k
      back k l = omega arith

      of : (k : ℕ) → 2 ≤ k → k ≤ bits_for x.nodes → AllByRecursion P (of_bit x a (k - 2))
      of k l m =
          let n = bits_for x.nodes - 1 in
          each_all P (of_bit x a) n (all_left P (each n (of_bit x a)) _ h.1.1) (k - 2) (omega arith)

  all_numbers : ((a : ℕ) → a < arc_count x → OfArc P x a) → AllByRecursion P (numbers_clauses x)
  unfolding numbers_clauses
  all_numbers h = all_each P (numbers_of_arc x) (arc_count x) (λ a l. all_of_arc a (h a l))

  numbers_all : AllByRecursion P (numbers_clauses x) → (a : ℕ) → a < arc_count x → OfArc P x a
  unfolding numbers_clauses
  numbers_all h a l = of_arc_all a (each_all P (numbers_of_arc x) (arc_count x) h a l)

module _ (x : Input) (law : Lawful x) where
  y_positive : (i k : ℕ) → 1 ≤ k → 0 < numbers_y x i k
  y_positive i k h = node_positive x (bits_for x.nodes) law i k h

  t_positive : (a k : ℕ) → 1 ≤ k → 0 < numbers_t x a k
  t_positive a k h = arc_positive x (bits_for x.nodes) law a k h

  -- labels that meet the clauses rise
  module _ (τ : Values) where
    -- the lowest k bits of the label of i
    label : ℕ → ℕ → ℕ
    label i zero = 0
    label i (suc k) = with_bit (2 ^ k) (τ (numbers_y x i (suc k))) (label i k)

    label_low : (i k : ℕ) → label i k < 2 ^ k
    unfolding label
    label_low i zero = omega arith
    label_low i (suc k) =
        let z = bit_low (2 ^ k) (τ (numbers_y x i (suc k))) (label i k) (label_low i k) in
        omega (arith, two-pow-succ k)

    module _ (a : ℕ) (met : OfArc (Meets τ) x a) where
      rises
          : (k : ℕ) → 1 ≤ k → k ≤ bits_for x.nodes → τ (numbers_t x a k) ≡ true
          → label (arc_at x a).from k < label (arc_at x a).to k
      unfolding label
      rises zero l m t = absurd (omega arith)
      rises (suc zero) l m t =
          less_from (2 ^ 0) (τ (numbers_y x (arc_at x a).from 1)) (τ (numbers_y x (arc_at x a).to 1)) 0 0 (omega arith)
          (λ _. enters) (λ e. absurd (false≢true (sym leaves ∙ e))) (λ e. absurd (false≢true (sym e ∙ enters)))
        where
          leaves : τ (numbers_y x (arc_at x a).from 1) ≡ false
          leaves =
              only_minus (numbers_y x (arc_at x a).from 1) (y_positive (arc_at x a).from 1 l)
              (past_minus (numbers_t x a 1) (t_positive a 1 l) t met.at_low_leaves)

          enters : τ (numbers_y x (arc_at x a).to 1) ≡ true
          enters =
              only_pos (numbers_y x (arc_at x a).to 1)
              (past_minus (numbers_t x a 1) (t_positive a 1 l) t met.at_low_enters)
      rises (suc (suc k)) l m t =
          step (λ (s : τ (numbers_t x a (suc k)) ≡ true). rises (suc k) (omega arith) (omega arith) s)
        where
          n : ℕ
          n = suc (suc k)

          past_t : {c : Clause} → Meets τ (minus (numbers_t x a n) ∷ c) → Meets τ c
          past_t h = past_minus (numbers_t x a n) (t_positive a n l) t h

          past_from
              : {c : Clause} → τ (numbers_y x (arc_at x a).from n) ≡ true
              → Meets τ (minus (numbers_y x (arc_at x a).from n) ∷ c) → Meets τ c
          past_from p h = past_minus (numbers_y x (arc_at x a).from n) (y_positive (arc_at x a).from n l) p h

          down : Meets τ (pos (numbers_t x a (n - 1)) ∷ []) → τ (numbers_t x a (suc k)) ≡ true
          down h =
              let e : suc k ≡ n - 1 = omega arith in
              ap (λ c. τ (numbers_t x a c)) e ∙ only_pos (numbers_t x a (n - 1)) h

          step
              : (τ (numbers_t x a (suc k)) ≡ true → label (arc_at x a).from (suc k) < label (arc_at x a).to (suc k))
              → label (arc_at x a).from n < label (arc_at x a).to n
          step ih =
              less_from (2 ^ suc k) (τ (numbers_y x (arc_at x a).from n)) (τ (numbers_y x (arc_at x a).to n))
              (label (arc_at x a).from (suc k)) (label (arc_at x a).to (suc k)) (label_low (arc_at x a).from (suc k))
              (λ p. only_pos (numbers_y x (arc_at x a).to n) (past_from p (past_t (met.at_bit_rises n (omega arith) m))))
              (λ p. ih (down (past_from p (past_t (met.at_rest_leaves n (omega arith) m)))))
              (λ q. ih (down (past_pos (numbers_y x (arc_at x a).to n) q (past_t (met.at_rest_enters n (omega arith) m)))))

    no_ring : (σ : Values) → Extends x (numbers_adds x) σ τ → Sat τ (numbers_clauses x) → Ringless (Chosen x σ)
    no_ring σ ext sat = rises_ringless x σ (λ i. label i (bits_for x.nodes)) up
      where
        up : (i j : ℕ) → Chosen x σ i j → label i (bits_for x.nodes) < label j (bits_for x.nodes)
        up i j s =
            let a = s.arc in
            let b = bits_for x.nodes in
            let v = law.variables a s.is_arc in
            let met = numbers_all (Meets τ) x (sat_all τ (numbers_clauses x) sat) a s.is_arc in
            let on : τ (arc_at x a).variable ≡ true = ext (arc_at x a).variable (inl v.1) ∙ s.chosen in
            let t : τ (numbers_t x a b) ≡ true =
            only_pos (numbers_t x a b) (past_minus (arc_at x a).variable v.0 on met.at_all_rise) in
            subst₂ (λ (i j : ℕ). label i b < label j b) s.leaves s.enters
            (rises a met b (some_bit x law a s.is_arc) (omega arith) t)

  -- a rank that rises along the chosen arcs, in binary, meets the clauses
  module _
      (σ : Values) (rank : ℕ → ℕ) (rank-low : (i : ℕ) → i < x.nodes → rank i < x.nodes)
      (rank_rises : (i j : ℕ) → Chosen x σ i j → rank i < rank j)
    where
      Y : ℕ → ℕ → Bool
      Y i k = digit (rank i) (k - 1)

      T : ℕ → ℕ → Bool
      T a k = nat_lt (rank (arc_at x a).from % 2 ^ k) (rank (arc_at x a).to % 2 ^ k)

      τ : Values
      τ = values x (bits_for x.nodes) σ Y T

      module _ (a : ℕ) (h : a < arc_count x) where
        at_from : (k : ℕ) → 1 ≤ k → k ≤ bits_for x.nodes → τ (numbers_y x (arc_at x a).from k) ≡ Y (arc_at x a).from k
        unfolding τ
        at_from k l m = value_node x (bits_for x.nodes) σ Y T (arc_at x a).from k (law.ends a h).0 l m

        at_to : (k : ℕ) → 1 ≤ k → k ≤ bits_for x.nodes → τ (numbers_y x (arc_at x a).to k) ≡ Y (arc_at x a).to k
        unfolding τ
        at_to k l m = value_node x (bits_for x.nodes) σ Y T (arc_at x a).to k (law.ends a h).1 l m

        at_t : (k : ℕ) → 1 ≤ k → k ≤ bits_for x.nodes → τ (numbers_t x a k) ≡ T a k
        unfolding τ
        at_t k l m = value_arc x (bits_for x.nodes) σ Y T a k h l m

        -- the ranks rise along the arc in the bits below bit k
        abbrev RestRises : ℕ → Type 0
        RestRises k = rank (arc_at x a).from % 2 ^ (k - 1) < rank (arc_at x a).to % 2 ^ (k - 1)

        -- what it says of bit k that the lowest k bits rise
        record Tells (k : ℕ) : Type 0 where
          rises : Y (arc_at x a).from k ≡ true → Y (arc_at x a).to k ≡ true
          leaves : Y (arc_at x a).from k ≡ true → RestRises k
          enters : Y (arc_at x a).to k ≡ false → RestRises k

        tells : (k : ℕ) → 1 ≤ k → T a k ≡ true → Tells k
        unfolding T Y
        tells k l t =
            let m = k - 1 in
            let e : k ≡ suc m = omega arith in
            let i = rank (arc_at x a).from in
            let j = rank (arc_at x a).to in
            let p : i % 2 ^ k ≡ with_bit (2 ^ m) (digit i m) (i % 2 ^ m) = ap (λ c. i % 2 ^ c) e ∙ digit_more i m in
            let q : j % 2 ^ k ≡ with_bit (2 ^ m) (digit j m) (j % 2 ^ m) = ap (λ c. j % 2 ^ c) e ∙ digit_more j m in
            let less = subst₂ (λ (b c : ℕ). b < c) p q (ltb-true (i % 2 ^ k) (j % 2 ^ k) t) in
            let z = less_to (2 ^ m) (digit i m) (digit j m) (i % 2 ^ m) (j % 2 ^ m) (mod_below j (2 ^ m) (pow_pos m)) less in
            record { rises = z.0; leaves = z.1; enters = z.2 }

        -- a clause that begins with −t(a,k), with −y(i,k) or with y(j,k)
        after_t
            : (k : ℕ) (c : Clause) → 1 ≤ k → k ≤ bits_for x.nodes → (Tells k → Meets τ c)
            → Meets τ (minus (numbers_t x a k) ∷ c)
        after_t k c l m f =
            elim (cases_Bool (T a k)) [
              | inl t ↦ meets_later τ (minus (numbers_t x a k)) c (f (tells k l t))
              | inr e ↦ meets_minus (numbers_t x a k) (t_positive a k l) (at_t k l m ∙ e)
            ]

        after_from
            : (k : ℕ) (c : Clause) → 1 ≤ k → k ≤ bits_for x.nodes → (Y (arc_at x a).from k ≡ true → Meets τ c)
            → Meets τ (minus (numbers_y x (arc_at x a).from k) ∷ c)
        after_from k c l m f =
            let v = numbers_y x (arc_at x a).from k in
            elim (cases_Bool (Y (arc_at x a).from k)) [
              | inl t ↦ meets_later τ (minus v) c (f t)
              | inr e ↦ meets_minus v (y_positive (arc_at x a).from k l) (at_from k l m ∙ e)
            ]

        after_to
            : (k : ℕ) (c : Clause) → 1 ≤ k → k ≤ bits_for x.nodes → (Y (arc_at x a).to k ≡ false → Meets τ c)
            → Meets τ (pos (numbers_y x (arc_at x a).to k) ∷ c)
        after_to k c l m f =
            let v = numbers_y x (arc_at x a).to k in
            elim (cases_Bool (Y (arc_at x a).to k)) [
              | inl t ↦ meets_pos v (y_positive (arc_at x a).to k l) (at_to k l m ∙ t)
              | inr e ↦ meets_later τ (pos v) c (f e)
            ]

        rest : (k : ℕ) → 2 ≤ k → k ≤ bits_for x.nodes → RestRises k → Meets τ (pos (numbers_t x a (k - 1)) ∷ [])
        unfolding T
        rest k l m less =
            meets_pos (numbers_t x a (k - 1)) (t_positive a (k - 1) (omega arith))
            (at_t (k - 1) (omega arith) (omega arith) ∙ lt-ltb _ _ less)

        -- nothing rises in no bits
        none_rise : RestRises 1 → ⊥
        none_rise less = let z = mod_below (rank (arc_at x a).to) 1 (omega arith) in omega arith

        has_bit : 1 ≤ bits_for x.nodes
        has_bit = some_bit x law a h

        chosen_rises : σ (arc_at x a).variable ≡ true → T a (bits_for x.nodes) ≡ true
        unfolding T
        chosen_rises t =
            let i = rank (arc_at x a).from in
            let j = rank (arc_at x a).to in
            let s : Chosen x σ (arc_at x a).from (arc_at x a).to =
            record { arc = a; is_arc = h; leaves = refl; enters = refl; chosen = t } in
            let up : i < j = rank_rises (arc_at x a).from (arc_at x a).to s in
            let top = bits_enough x.nodes in
            let il = rank-low (arc_at x a).from (law.ends a h).0 in
            let jl = rank-low (arc_at x a).to (law.ends a h).1 in
            let m = 2 ^ bits_for x.nodes in
            let ie : i % m ≡ i = mod-eq_of_lt (omega arith) in
            let je : j % m ≡ j = mod-eq_of_lt (omega arith) in
            lt-ltb (i % m) (j % m) (omega arith)

        meets_all_rise : Meets τ (all_rise x a)
        unfolding τ
        meets_all_rise =
            let b = bits_for x.nodes in
            let e = (arc_at x a).variable in
            let v = law.variables a h in
            elim (cases_Bool (σ e)) [
              | inl t ↦ meets_later τ (minus e) _
                  (meets_pos (numbers_t x a b) (t_positive a b has_bit) (at_t b has_bit (omega arith) ∙ chosen_rises t))
              | inr f ↦ meets_minus e v.0 (values_extend x b σ Y T e (inl v.1) ∙ f)
            ]

        meets_arc : OfArc (Meets τ) x a
        meets_arc =
            record {
              at_low_leaves = after_t 1 _ (omega arith) has_bit (λ t.
                  after_from 1 _ (omega arith) has_bit (λ y. absurd (none_rise (t.leaves y))));
              at_low_enters = after_t 1 _ (omega arith) has_bit (λ t.
                  after_to 1 _ (omega arith) has_bit (λ y. absurd (none_rise (t.enters y))));
              at_bit_rises = λ k l m. after_t k _ (omega arith) m (λ t. after_from k _ (omega arith) m (λ y.
                  meets_pos (numbers_y x (arc_at x a).to k) (y_positive (arc_at x a).to k (omega arith))
                  (at_to k (omega arith) m ∙ t.rises y)));
              at_rest_leaves = λ k l m. after_t k _ (omega arith) m (λ t.
                  after_from k _ (omega arith) m (λ y. rest k l m (t.leaves y)));
              at_rest_enters = λ k l m. after_t k _ (omega arith) m (λ t.
                  after_to k _ (omega arith) m (λ y. rest k l m (t.enters y)));
              at_all_rise = meets_all_rise;
            }

      met : (τ : Values) × Extends x (numbers_adds x) σ τ × Sat τ (numbers_clauses x)
      unfolding τ
      met = (τ, values_extend x (bits_for x.nodes) σ Y T, all_sat τ (numbers_clauses x) (all_numbers (Meets τ) x meets_arc))

pub numbers_closes : (x : Input) → Lawful x → Closes x (numbers_adds x) (numbers_clauses x)
numbers_closes x law σ = (
  λ e. no_ring x law e.0 σ e.1 e.2,
  λ free. let r = ranked x σ law free in met x law σ r.0 r.1 r.2,
)

pub numbers_uses : (x : Input) → Lawful x → Uses x (numbers_adds x) (numbers_clauses x)
numbers_uses x law = all_numbers (AllByRecursion (Own x (numbers_adds x))) x of
  where
    of : (a : ℕ) → a < arc_count x → OfArc (AllByRecursion (Own x (numbers_adds x))) x a
    of a h = record {
      at_low_leaves = (minus_t 1 (omega arith) bit, (minus_from 1 (omega arith) bit, tt));
      at_low_enters = (minus_t 1 (omega arith) bit, (pos_to 1 (omega arith) bit, tt));
      at_bit_rises = λ k l m. (minus_t k (omega arith) m, (minus_from k (omega arith) m, (pos_to k (omega arith) m, tt)));
      at_rest_leaves = λ k l m. (minus_t k (omega arith) m, (minus_from k (omega arith) m, (rest k l m, tt)));
      at_rest_enters = λ k l m. (minus_t k (omega arith) m, (pos_to k (omega arith) m, (rest k l m, tt)));
      at_all_rise = (own_chosen x (numbers_adds x) a h, (pos_t (bits_for x.nodes) bit (omega arith), tt));
    }
      where
        bit : 1 ≤ bits_for x.nodes
        bit = some_bit x law a h

        minus_t : (k : ℕ) → 1 ≤ k → k ≤ bits_for x.nodes → Own x (numbers_adds x) (minus (numbers_t x a k))
        minus_t k l m = own_minus_arc x (bits_for x.nodes) a k h l m

        minus_from
            : (k : ℕ) → 1 ≤ k → k ≤ bits_for x.nodes → Own x (numbers_adds x) (minus (numbers_y x (arc_at x a).from k))
        minus_from k l m = own_minus_node x (bits_for x.nodes) (arc_at x a).from k (law.ends a h).0 l m

        pos_to : (k : ℕ) → 1 ≤ k → k ≤ bits_for x.nodes → Own x (numbers_adds x) (pos (numbers_y x (arc_at x a).to k))
        pos_to k l m = own_node x (bits_for x.nodes) (arc_at x a).to k (law.ends a h).1 l m

        pos_t : (k : ℕ) → 1 ≤ k → k ≤ bits_for x.nodes → Own x (numbers_adds x) (pos (numbers_t x a k))
        pos_t k l m = own_arc x (bits_for x.nodes) a k h l m

        rest : (k : ℕ) → 2 ≤ k → k ≤ bits_for x.nodes → Own x (numbers_adds x) (pos (numbers_t x a (k - 1)))
        rest k l m = pos_t (k - 1) (omega arith) (omega arith)

pub numbers_small : (x : Input) → Lawful x → x.nodes ≤ 64 → Small (numbers_adds x) (numbers_clauses x)
numbers_small x law h =
    let b = bits_for x.nodes in
    let s = square_few x.nodes h in
    let m : arc_count x ≤ 4096 = omega (arith, arcs_few x law) in
    let few : b ≤ 6 = bits_least x.nodes 6 h in
    let p = mul-le x.nodes b 64 6 h few in
    let o = mul-le (arc_count x) b 4096 6 m few in
    let r = mul-le (arc_count x) ((b - 1) * 3 + 3) 4096 18 m (omega arith) in
    record {
      added = omega arith;
      clauses = omega (arith, length_numbers x);
      sizes = all_numbers (λ c. (1 ≤ length c) × (length c ≤ 64)) x (λ a l.
          record {
            at_low_leaves = (omega arith, omega arith);
            at_low_enters = (omega arith, omega arith);
            at_bit_rises = λ k l m. (omega arith, omega arith);
            at_rest_leaves = λ k l m. (omega arith, omega arith);
            at_rest_enters = λ k l m. (omega arith, omega arith);
            at_all_rise = (omega arith, omega arith);
          });
    }
