-- The place of the smallest number of a list, as the library's least number leads to it.
use Rattle.std.proofs.Common.{◌≡◌, ℕ, zero, suc, ◌<◌, ◌≤◌, min, fold, List, [], ◌∷◌, eqb, length, get_or, MatchOption, Some, None, Option, sym, refl, ap, ◌∙◌, inl, inr, arith}
use Rattle.graph.proofs.Counts.{least_none, least_passes}
use Rattle.std.proofs.lemmas.Bool.{both_ways, cases_lt, eq-eqb, eqb-true}
use Rattle.std.specs.List.{reduce}
use Rattle.judge.specs.First.{first_below}
use Rattle.judge.proofs.First.{none_found, some_found}

-- the least of a and the numbers of a list: no more than a, no more than any of them, and one of them unless it is a
fold_min_le : (a : ℕ) (xs : List ℕ) → fold min a xs ≤ a
fold_min_le a [] = omega arith
fold_min_le a (x ∷ xs) = let h = fold_min_le (min a x) xs in omega (arith, h)

fold_min_within : (a : ℕ) (xs : List ℕ) (k : ℕ) → k < length xs → fold min a xs ≤ get_or xs k 0
fold_min_within a [] k l = absurd (omega (arith, l))
fold_min_within a (x ∷ xs) zero l = let h = fold_min_le (min a x) xs in omega (arith, h)
fold_min_within a (x ∷ xs) (suc k) l = fold_min_within (min a x) xs k (omega (arith, l))

fold_min_all : (a : ℕ) (xs : List ℕ) (k : ℕ) → k < length (a ∷ xs) → fold min a xs ≤ get_or (a ∷ xs) k 0
fold_min_all a xs zero l = fold_min_le a xs
fold_min_all a xs (suc k) l = fold_min_within a xs k (omega (arith, l))

fold_min_met : (a : ℕ) (xs : List ℕ) → ((k : ℕ) → k < length xs → get_or xs k 0 ≡ fold min a xs → ⊥) → fold min a xs ≡ a
fold_min_met a [] h = refl
fold_min_met a (x ∷ xs) h =
    let i = fold_min_met (min a x) xs (λ k l. h (suc k) (omega (arith, l))) in
    elim (cases_lt x a) [ inl l ↦ absurd (h 0 (omega arith) (omega (arith, i, l))) | inr g ↦ omega (arith, i, g) ]

-- the first place of the least number
pub lowest_found
    : (ns : List ℕ) (m : ℕ) (r : Option ℕ) → Some m ≡ reduce min ns → r ≡ first_below (length ns) (λ k. eqb (get_or ns k 0) m)
    → MatchOption r (length ns ≡ 0) (λ low. (low < length ns) × ((k : ℕ) → k < length ns → get_or ns low 0 ≤ get_or ns k 0))
lowest_found [] m r e f = absurd (grind (arith, e))
lowest_found (x ∷ xs) m None e f =
    let is : m ≡ fold min x xs = grind (arith, e) in
    let n = none_found (length (x ∷ xs)) _ f in
    let other : (k : ℕ) → k < length (x ∷ xs) → get_or (x ∷ xs) k 0 ≡ m → ⊥ =
    λ k l h. both_ways _ (least_none (length (x ∷ xs)) k (λ k. eqb (get_or (x ∷ xs) k 0) m) (omega (arith, l, n))) (eq-eqb _ _ h) in
    absurd (other 0 (omega arith) (sym (fold_min_met x xs (λ k l h. other (suc k) (omega (arith, l)) (h ∙ sym is))) ∙ sym is))
lowest_found (x ∷ xs) m (Some low) e f =
    let is : m ≡ fold min x xs = grind (arith, e) in
    let found = some_found (length (x ∷ xs)) _ low f in
    let at = eqb-true _ _ (least_passes (length (x ∷ xs)) (λ k. eqb (get_or (x ∷ xs) k 0) m) (omega (arith, found.0, found.1))) in
    let here : get_or (x ∷ xs) low 0 ≡ m = ap (λ k. get_or (x ∷ xs) k 0) found.1 ∙ at in
    (found.0, λ k l. omega (arith, here, is, fold_min_all x xs k l))
