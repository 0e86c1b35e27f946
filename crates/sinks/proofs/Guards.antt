-- Laws of a guard: a clause with its literal at the end is taken below, and is read back without it.
use Rattle.std.specs.List.{slice_get}
use Rattle.std.proofs.Common.{◌≡◌, ℕ, zero, suc, ◌+◌, ◌-◌, ◌<◌, ◌≤◌, Bool, true, false, cond, ◌||◌, eqb, ltb, [], ◌∷◌, ◌++◌, length, ℤ, None, refl, ap, ◌∙◌, arith, length-append}
use Rattle.cnf.specs.Clauses.{Clause, bad_length, bad_literal, has_bad_literal}
use Rattle.cnf.specs.States.{form_refusal, without_last}
use Rattle.sinks.specs.Layers.{guard_longest}
use Rattle.sinks.proofs.Forms.{form_from, form_parts}
use Rattle.std.proofs.lemmas.List.Folds.{list_any-append}
use Rattle.std.proofs.lemmas.Bool.Decides.{nat_tests}

pub length_without_last : (c : Clause) → length (without_last c) ≡ length c - 1
length_without_last [] = refl
length_without_last (z ∷ []) = refl
length_without_last (z ∷ (y ∷ ys)) = omega (arith, length_without_last (y ∷ ys))

pub nth_without_last : (c : Clause) (j : ℕ) → j < length c - 1 → slice_get (without_last c) j ≡ slice_get c j
nth_without_last [] j h = refl
nth_without_last (z ∷ []) j h = absurd (omega arith)
nth_without_last (z ∷ (y ∷ ys)) zero h = refl
nth_without_last (z ∷ (y ∷ ys)) (suc j) h = nth_without_last (y ∷ ys) j (omega arith)

pub without_last_push : (c : Clause) (g : ℤ) → without_last (c ++ (g ∷ [])) ≡ c
without_last_push [] g = refl
without_last_push (z ∷ []) g = refl
without_last_push (z ∷ (y ∷ ys)) g = ap (λ l. z ∷ l) (without_last_push (y ∷ ys) g)

guard_fits
    : (m : Bool) (longest n : ℕ) → (eqb n 0 || ltb (cond m 0 (longest - 1)) n) ≡ false → (m ≡ false) × (n + 1 ≤ longest)
guard_fits true longest n h = absurd (grind (arith, nat_tests))
guard_fits false longest n h = (refl, grind (arith, nat_tests))

pub guard_form
    : (g : ℤ) (top longest : ℕ) (c : Clause) → form_refusal top (guard_longest g top longest) c ≡ None
    → form_refusal top longest (c ++ (g ∷ [])) ≡ None
guard_form g top longest c h =
    let p = form_parts top (guard_longest g top longest) c h in
    let f = guard_fits (bad_literal top g) longest (length c) p.0 in
    let n : length (c ++ (g ∷ [])) ≡ length c + 1 = length-append c (g ∷ []) in
    let m : bad_length longest (c ++ (g ∷ [])) ≡ false = grind (arith, nat_tests) in
    let b : has_bad_literal top (c ++ (g ∷ [])) ≡ false =
    list_any-append (bad_literal top) c (g ∷ []) ∙ (λ i. p.1 i || (f.0 i || false)) in
    form_from top longest (c ++ (g ∷ [])) m b
