-- Laws of `least`, `count`, `has` and `place`.
use Rattle.std.proofs.Common.{◌≡◌, ℕ, zero, suc, ◌+◌, ◌<◌, ◌≤◌, Bool, true, false, cond, ◌||◌, eqb, ltb, List, [], ◌∷◌, ◌++◌, length, get_or, sym, refl, ap, ◌∙◌, inl, inr, add-suc, add-one, arith}
use Rattle.std.proofs.lemmas.Bool.{cases_Bool, cases_eq, cases_lt, eqb-true}
use Rattle.std.proofs.lemmas.Bool.Decides.{nat_tests}
use Rattle.graph.specs.Counts.{count, has, least, place}

pub least_zero : (p : ℕ → Bool) → least 0 p ≡ 0
unfolding least
least_zero p = refl

pub least_suc : (k : ℕ) (p : ℕ → Bool) → least (suc k) p ≡ cond (ltb (least k p) k) (least k p) (cond (p k) k (suc k))
unfolding least
least_suc k p = refl

pub least_le : (n : ℕ) (p : ℕ → Bool) → least n p ≤ n
least_le zero p = rw (least_zero p) (omega arith)
least_le (suc k) p = let h = least_le k p in rw (least_suc k p) (grind (arith, nat_tests))

-- a number found below k is also the least below any larger bound
pub least_stays : (k d : ℕ) (p : ℕ → Bool) → least k p < k → least (k + d) p ≡ least k p
least_stays k zero p h = ap (λ x. least x p) (omega arith)
least_stays k (suc d) p h =
    let i = least_stays k d p h in rw add-suc (least_suc (k + d) p ∙ grind (arith, nat_tests, i))

-- a number that is found passes
pub least_passes : (n : ℕ) (p : ℕ → Bool) → least n p < n → p (least n p) ≡ true
least_passes zero p h = absurd (omega arith)
least_passes (suc k) p h =
    let s = least_suc k p in
    let q = least_le k p in
    elim (cases_lt (least k p) k) [
      | inl l ↦ let e : least (suc k) p ≡ least k p = s ∙ grind (arith, nat_tests, l) in ap p e ∙ least_passes k p l
      | inr g ↦ elim (cases_Bool (p k)) [
        | inl t ↦ let e : least (suc k) p ≡ k = s ∙ grind (arith, nat_tests, g, t) in ap p e ∙ t
        | inr f ↦ let e : least (suc k) p ≡ suc k = s ∙ grind (arith, nat_tests, g, f) in absurd (omega (arith, e))
      ]
    ]

-- what is below the least number does not pass
pub least_none : (n k : ℕ) (p : ℕ → Bool) → k < least n p → p k ≡ false
least_none zero k p h = let z = least_zero p in absurd (omega arith)
least_none (suc m) k p h =
    let s = least_suc m p in
    let q = least_le m p in
    elim (cases_lt k (least m p)) [
      | inl l ↦ least_none m k p l
      | inr g ↦ elim (cases_Bool (p m)) [
        | inl t ↦ absurd (grind (arith, nat_tests, s, t))
        | inr f ↦ let e : k ≡ m = grind (arith, nat_tests, s, f) in ap p e ∙ f
      ]
    ]

pub least_same : (n : ℕ) (p q : ℕ → Bool) → ((k : ℕ) → k < n → p k ≡ q k) → least n p ≡ least n q
least_same zero p q h = least_zero p ∙ sym (least_zero q)
least_same (suc k) p q h =
    let i = least_same k p q (λ j l. h j (omega arith)) in
    let e = h k (omega arith) in least_suc k p ∙ (rw (i, e) (sym (least_suc k q)))

pub count_zero : (p : ℕ → Bool) → count 0 p ≡ 0
unfolding count
count_zero p = refl

pub count_suc : (k : ℕ) (p : ℕ → Bool) → count (suc k) p ≡ count k p + cond (p k) 1 0
unfolding count
count_suc k p = refl

pub count_more : (k : ℕ) (p : ℕ → Bool) → count (k + 1) p ≡ count k p + cond (p k) 1 0
count_more k p = rw add-one (count_suc k p)

pub count_same : (n : ℕ) (p q : ℕ → Bool) → ((k : ℕ) → k < n → p k ≡ q k) → count n p ≡ count n q
count_same zero p q h = count_zero p ∙ sym (count_zero q)
count_same (suc k) p q h =
    let i = count_same k p q (λ j l. h j (omega arith)) in
    let e = h k (omega arith) in count_suc k p ∙ (rw (i, e) (sym (count_suc k q)))

-- one number that passes p does not pass q, and the others pass both or neither
pub count_less
    : (n w : ℕ) (p q : ℕ → Bool) → w < n → p w ≡ true → q w ≡ false → ((k : ℕ) → k < n → (k ≡ w → ⊥) → p k ≡ q k)
    → count n p ≡ count n q + 1
count_less zero w p q l a b h = absurd (omega arith)
count_less (suc k) w p q l a b h =
    let sp = count_suc k p in
    let sq = count_suc k q in
    elim (cases_eq w k) [
      | inl e ↦
          let x : p k ≡ true = ap p (sym e) ∙ a in
          let y : q k ≡ false = ap q (sym e) ∙ b in
          let i = count_same k p q (λ j z. h j (omega arith) (λ g. omega arith)) in grind (arith, sp, sq, x, y, i)
      | inr ne ↦
          let i = count_less k w p q (omega arith) a b (λ j z g. h j (omega arith) g) in
          let x = h k (omega arith) (λ g. ne (sym g)) in grind (arith, sp, sq, x, i)
    ]

-- where the count is 0, no number is found
pub count_none : (n : ℕ) (p : ℕ → Bool) → count n p ≡ 0 → least n p ≡ n
count_none zero p h = least_zero p
count_none (suc k) p h =
    let s = count_suc k p in
    let l = least_suc k p in
    let i = count_none k p (omega arith) in grind (arith, nat_tests, s, l, i, h)

-- where the count is above 0, a number is found
pub count_some : (n : ℕ) (p : ℕ → Bool) → 0 < count n p → least n p < n
count_some zero p h = let z = count_zero p in absurd (omega arith)
count_some (suc k) p h =
    let s = count_suc k p in
    let l = least_suc k p in
    let le = least_le k p in
    elim (cases_lt 0 (count k p)) [
      | inl q ↦ let i = count_some k p q in grind (arith, nat_tests, l, i)
      | inr z ↦ grind (arith, nat_tests, s, l, le, z, h)
    ]

pub count_all : (n : ℕ) (p : ℕ → Bool) → ((k : ℕ) → k < n → p k ≡ true) → count n p ≡ n
count_all zero p h = count_zero p
count_all (suc k) p h =
    let s = count_suc k p in
    let i = count_all k p (λ j l. h j (omega arith)) in
    let e = h k (omega arith) in grind (arith, s, i, e)

-- what passes p passes q
pub count_le : (n : ℕ) (p q : ℕ → Bool) → ((k : ℕ) → k < n → p k ≡ true → q k ≡ true) → count n p ≤ count n q
count_le zero p q h = let a = count_zero p in let b = count_zero q in omega arith
count_le (suc k) p q h =
    let sp = count_suc k p in
    let sq = count_suc k q in
    let i = count_le k p q (λ j l. h j (omega arith)) in
    elim (cases_Bool (p k)) [
      | inl t ↦ let e = h k (omega arith) t in grind (arith, sp, sq, t, e, i)
      | inr f ↦ grind (arith, sp, sq, f, i)
    ]

-- what passes p passes q, and one number passes only q
pub count_lt
    : (n w : ℕ) (p q : ℕ → Bool) → w < n → p w ≡ false → q w ≡ true → ((k : ℕ) → k < n → p k ≡ true → q k ≡ true)
    → count n p < count n q
count_lt zero w p q l a b h = absurd (omega arith)
count_lt (suc k) w p q l a b h =
    let sp = count_suc k p in
    let sq = count_suc k q in
    elim (cases_eq w k) [
      | inl e ↦
          let x : p k ≡ false = ap p (sym e) ∙ a in
          let y : q k ≡ true = ap q (sym e) ∙ b in
          let i = count_le k p q (λ j z. h j (omega arith)) in grind (arith, sp, sq, x, y, i)
      | inr ne ↦
          let i = count_lt k w p q (omega arith) a b (λ j z. h j (omega arith)) in
          elim (cases_Bool (p k)) [
            | inl t ↦ let x = h k (omega arith) t in grind (arith, sp, sq, t, x, i)
            | inr f ↦ grind (arith, sp, sq, f, i)
          ]
    ]

pub has_push : (xs : List ℕ) (w u : ℕ) → has (xs ++ w ∷ []) u ≡ (has xs u || eqb w u)
has_push [] w u = grind arith
has_push (x ∷ xs) w u = let h = has_push xs w u in rw h (grind arith)

-- what is in the list stands at some place
pub has_index : (xs : List ℕ) (u : ℕ) → has xs u ≡ true → (k : ℕ) × (k < length xs) × (get_or xs k 0 ≡ u)
has_index [] u h = absurd (grind (arith, h))
has_index (x ∷ xs) u h =
    elim (cases_eq x u) [
      | inl e ↦ (0, omega arith, e)
      | inr ne ↦
          let t : has xs u ≡ true = grind (arith, nat_tests, h, ne) in
          let i = has_index xs u t in (suc i.0, omega (arith, i.1), i.2)
    ]

-- what stands at some place is in the list
pub has_at : (xs : List ℕ) (k : ℕ) → k < length xs → has xs (get_or xs k 0) ≡ true
has_at [] k l = absurd (omega arith)
has_at (x ∷ xs) zero l = grind (arith, nat_tests)
has_at (x ∷ xs) (suc k) l = let h = has_at xs k (omega arith) in grind (arith, nat_tests, h)

-- what has no place in the list is not in it
pub has_absent : (xs : List ℕ) (u : ℕ) → length xs ≤ place xs u → has xs u ≡ false
has_absent xs u l =
    elim (cases_Bool (has xs u)) [
      | inl t ↦
          let i = has_index xs u t in
          let f = least_none (length xs) i.0 (λ k. eqb (get_or xs k 0) u) (omega (arith, i.1)) in
          absurd (grind (arith, nat_tests, f, i.2))
      | inr f ↦ f
    ]

-- what is in the list stands at its place
pub place_found : (xs : List ℕ) (u : ℕ) → has xs u ≡ true → (place xs u < length xs) × (get_or xs (place xs u) 0 ≡ u)
place_found xs u h =
    elim (cases_lt (place xs u) (length xs)) [
      | inl l ↦ (l, eqb-true _ u (least_passes (length xs) (λ k. eqb (get_or xs k 0) u) l))
      | inr g ↦ let f = has_absent xs u g in absurd (grind (arith, h, f))
    ]
