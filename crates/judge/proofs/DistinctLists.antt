-- Lists of distinct numbers below n: one more number at either end, the place of a number, and how many are not in the list.
use Rattle.std.proofs.Common.{◌≡◌, ℕ, zero, suc, ◌+◌, ◌<◌, false, ◌⊎◌, List, [], ◌∷◌, ◌++◌, length, get_or, sym, refl, ◌∙◌, inl, inr, arith}
use Rattle.std.proofs.lemmas.List.{get_or_append_left, get_or_push, length_push}
use Rattle.std.proofs.lemmas.Bool.{both_ways, cases_Bool, cases_lt, cases_order, ne_eqb, not_from_false}
use Rattle.std.proofs.lemmas.Bool.Decides.{nat_tests}
use Rattle.graph.specs.Counts.{count, has}
use Rattle.graph.specs.Orders.{Distinct}
use Rattle.graph.proofs.Counts.{count_all, count_less, has_at, has_index}
use Rattle.judge.specs.Placing.{outside}

-- every number of the list is below n
abbrev pub Below : ℕ → List ℕ → Type 0
Below n ns = (k : ℕ) → k < length ns → get_or ns k 0 < n

pub below_cons : (n w : ℕ) (ns : List ℕ) → w < n → Below n ns → Below n (w ∷ ns)
below_cons n w ns h b zero l = h
below_cons n w ns h b (suc k) l = b k (omega arith)

-- a place of a list with one more number at its end is a place of the list, or the new number's
pub push_places
    : (ns : List ℕ) (w k : ℕ) → k < length (ns ++ w ∷ [])
    → ((k < length ns) × (get_or (ns ++ w ∷ []) k 0 ≡ get_or ns k 0)) ⊎ ((k ≡ length ns) × (get_or (ns ++ w ∷ []) k 0 ≡ w))
push_places ns w k l =
    let m = length_push ns w in
    elim (cases_lt k (length ns)) [
      | inl s ↦ inl (s, get_or_append_left ns (w ∷ []) 0 k s)
      | inr g ↦ let e : length ns ≡ k = omega arith in inr (sym e, get_or_push ns w 0 k e)
    ]

-- what stands at some place is not absent
not_absent : (ns : List ℕ) (u k : ℕ) → has ns u ≡ false → k < length ns → get_or ns k 0 ≡ u → ⊥
not_absent ns u k f l e = both_ways _ f (rw e at (has_at ns k l))

pub distinct_push : (ns : List ℕ) (w : ℕ) → Distinct ns → has ns w ≡ false → Distinct (ns ++ w ∷ [])
distinct_push ns w d f i j l h e =
    let m = length_push ns w in
    let a = get_or_append_left ns (w ∷ []) 0 i (omega arith) in
    elim (push_places ns w j h) [
      | inl b ↦ d i j l b.0 (sym a ∙ e ∙ b.1)
      | inr b ↦ not_absent ns w i f (omega (arith, b.0)) (sym a ∙ e ∙ b.1)
    ]

pub distinct_cons : (w : ℕ) (ns : List ℕ) → Distinct ns → has ns w ≡ false → Distinct (w ∷ ns)
distinct_cons w ns d f i zero l h e = absurd (omega arith)
distinct_cons w ns d f zero (suc j) l h e = not_absent ns w j f (omega arith) (sym e)
distinct_cons w ns d f (suc i) (suc j) l h e = d i j (omega arith) (omega arith) e

-- equal numbers stand at one place
pub distinct_same
    : (ns : List ℕ) (i j : ℕ) → Distinct ns → i < length ns → j < length ns → get_or ns i 0 ≡ get_or ns j 0 → i ≡ j
distinct_same ns i j d a b e =
    elim (cases_order i j) [
      | inl s ↦ s
      | inr s ↦ elim s [ inl l ↦ absurd (d i j l b e) | inr l ↦ absurd (d j i l a (sym e)) ]
    ]

first_absent : (x : ℕ) (xs : List ℕ) → Distinct (x ∷ xs) → has xs x ≡ false
first_absent x xs d =
    elim (cases_Bool (has xs x)) [
      | inl t ↦ let k = has_index xs x t in absurd (d 0 (suc k.0) (omega arith) (omega (arith, k.1)) (sym k.2))
      | inr f ↦ f
    ]

-- the numbers of the list and those outside it are n in all
pub distinct_count : (n : ℕ) (ns : List ℕ) → Below n ns → Distinct ns → length ns + count n (outside ns) ≡ n
distinct_count n [] b d = let c = count_all n (outside []) (λ k l. refl) in omega arith
distinct_count n (x ∷ xs) b d =
    let i = distinct_count n xs (λ k l. b (suc k) (omega arith)) (λ i j l h e. d (suc i) (suc j) (omega arith) (omega arith) e) in
    let p = not_from_false _ (first_absent x xs d) in
    let c = count_less n x (outside xs) (outside (x ∷ xs)) (b 0 (omega arith)) p (grind (arith, nat_tests)) others in omega arith
  where
    others : (k : ℕ) → k < n → (k ≡ x → ⊥) → outside xs k ≡ outside (x ∷ xs) k
    others k l ne = let g = ne_eqb x k (λ e. ne (sym e)) in grind (arith, g)
