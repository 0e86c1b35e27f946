-- Entries that are on, and implications that are met.
use Rattle.std.proofs.Common.{◌≡◌, ℕ, ◌<◌, true, cond, eqb, ltb, List, [], ◌∷◌, ◌++◌, map, pos, inl, inr}
use Rattle.cnf.specs.Clauses.{Clause, minus}
use Rattle.cnf.specs.Satisfaction.{Meets, Values}
use Rattle.cnf.proofs.Satisfied.{holds_minus, holds_pos, meets_cases, meets_first, meets_later, meets_none, minus_holds, pos_holds}
use Rattle.law.specs.Encoding.{on}
use Rattle.sheet.specs.Implications.{are_there, implication}
use Rattle.sheet.specs.Tables.{Table}
use Rattle.std.proofs.lemmas.Bool.{and_from, and_parts, both_ways, cases_Bool, cond_both, eqb-false, lt-ltb, ltb-true, ne_eqb}
use Rattle.std.specs.List.{AllByRecursion}

module _ (σ : Values) where
  -- an entry that is on
  pub on_parts : (t : Table) (u w : ℕ) → on σ t u w ≡ true → (0 < t u w) × (σ (t u w) ≡ true)
  on_parts t u w e = let p = and_parts (ltb 0 (t u w)) (σ (t u w)) e in (ltb-true 0 (t u w) p.0, p.1)

  pub on_from : (t : Table) (u w : ℕ) → 0 < t u w → σ (t u w) ≡ true → on σ t u w ≡ true
  on_from t u w h e = and_from (ltb 0 (t u w)) (σ (t u w)) (lt-ltb 0 (t u w) h) e

  -- an implication: where all premises are true, the rest of the clause is met
  abbrev pub AllTrue : List ℕ → Type 0
  AllTrue vs = AllByRecursion (λ v. σ v ≡ true) vs

  unless_true
      : (vs : List ℕ) (c : Clause) → are_there vs ≡ true → (AllTrue vs → Meets σ c) → Meets σ (map minus vs ++ c)
  unless_true [] c e h = h tt
  unless_true (v ∷ vs) c e h =
      let p = and_parts (ltb 0 v) (are_there vs) e in
      elim (cases_Bool (σ v)) [
        | inl a ↦ meets_later σ (minus v) (map minus vs ++ c) (unless_true vs c p.1 (λ k. h (a, k)))
        | inr a ↦ meets_first σ (minus v) (map minus vs ++ c) (holds_minus σ v (ltb-true 0 v p.0) a)
      ]

  since_true : (vs : List ℕ) (c : Clause) → are_there vs ≡ true → AllTrue vs → Meets σ (map minus vs ++ c) → Meets σ c
  since_true [] c e h m = m
  since_true (v ∷ vs) c e h m =
      let p = and_parts (ltb 0 v) (are_there vs) e in
      elim (meets_cases σ (minus v) (map minus vs ++ c) m) [
        | inl a ↦ absurd (both_ways (σ v) (minus_holds σ v (ltb-true 0 v p.0) a) h.0)
        | inr a ↦ since_true vs c p.1 h.1 a
      ]

  -- the rest of an implication: the arc of its pair, or nothing at a pair of one node
  module _ (t : Table) (u w : ℕ) where
    abbrev rest : Clause
    rest = cond (eqb u w) [] (pos (t u w) ∷ [])

    rest_from : (u ≡ w → ⊥) → on σ t u w ≡ true → Meets σ rest
    rest_from d e =
        let p = on_parts t u w e in rw (ne_eqb u w d) (meets_first σ (pos (t u w)) [] (holds_pos σ (t u w) p.0 p.1))

    rest_parts : Meets σ rest → (u ≡ w → ⊥) × (on σ t u w ≡ true)
    rest_parts =
        cond_both (eqb u w) [] (pos (t u w) ∷ []) (λ c. Meets σ c → (u ≡ w → ⊥) × (on σ t u w ≡ true))
        (λ e m. absurd (meets_none σ m))
        (λ e m.
        elim (meets_cases σ (pos (t u w)) [] m) [
          | inl a ↦ let p = pos_holds σ (t u w) a in (eqb-false u w e, on_from t u w p.0 p.1)
          | inr a ↦ absurd (meets_none σ a)
        ])

  -- what an implication says at a pair whose premises are there
  abbrev pub Implied : List ℕ → Table → ℕ × ℕ → Type 0
  Implied vs t p = AllTrue vs → (p.0 ≡ p.1 → ⊥) × (on σ t p.0 p.1 ≡ true)

  pub implied_meets : (vs : List ℕ) (t : Table) (p : ℕ × ℕ) → are_there vs ≡ true → Implied vs t p → Meets σ (implication vs t p)
  implied_meets vs t p e h =
      unless_true vs (rest t p.0 p.1) e (λ k. let r = h k in rest_from t p.0 p.1 r.0 r.1)

  pub meets_implied : (vs : List ℕ) (t : Table) (p : ℕ × ℕ) → are_there vs ≡ true → Meets σ (implication vs t p) → Implied vs t p
  meets_implied vs t p e m k = rest_parts t p.0 p.1 (since_true vs (rest t p.0 p.1) e k m)
