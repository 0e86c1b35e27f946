-- The pairs that start and elimination go over, and the arcs that they plan: arcs keep their variables, and each pair with
-- premises has an arc.
use Rattle.std.proofs.Common.{◌≡◌, ℕ, zero, suc, ◌+◌, ◌*◌, ◌/◌, ◌%◌, ◌<◌, ◌≤◌, Bool, true, ◌||◌, eqb, ltb, ◌⊎◌, List, [], ◌∷◌, length, get_or, filter, sym, refl, ap, ◌∙◌, subst, ap₂, inl, inr, arith}
use Rattle.sheet.proofs.Tables.{put_cases}
use Rattle.sheet.specs.Implications.{Arcs, Premises, are_there, has_arc, has_premises, pair_at, pairs, pairs_with, planned}
use Rattle.sheet.specs.Implications.{with_arc, with_arcs}
use Rattle.sheet.specs.Tables.{Table, put}
use Rattle.std.proofs.lemmas.Nat.{div_below, div-mul-add, mod_below, mod-mul-add, mul-add-lt}
use Rattle.std.proofs.lemmas.List.FromFn.{get_or-map-range_with_len, length-map-range_with_len}
use Rattle.cnf.proofs.Every.{all_from_get_or, all_at}
use Rattle.std.proofs.lemmas.Bool.{and_from, and_parts, both_ways, cases_eq, cond_both, eq-eqb, eqb-false, eqb-true, lt-ltb, ltb-false, ltb-true, or_cases, or_left, or_parts, or_right}
use Rattle.std.specs.List.{AllByRecursion, list_all}

-- the pairs below n
pairs_length : (n : ℕ) → length (pairs n) ≡ n * n
pairs_length n = length-map-range_with_len (pair_at n) 0 (n * n)

pairs_at : (n i : ℕ) → i < n * n → get_or (pairs n) i (0, 0) ≡ (i / n, i % n)
pairs_at n i l = get_or-map-range_with_len (pair_at n) 0 (n * n) i i (0, 0) l (omega arith)

pairs_all : (n : ℕ) (P : ℕ × ℕ → Type 0) → ((u w : ℕ) → u < n → w < n → P (u, w)) → AllByRecursion P (pairs n)
pairs_all zero P h = tt
pairs_all (suc m) P h =
    all_from_get_or P (pairs (suc m)) (0, 0) (λ i l.
    let a : i < suc m * suc m = omega (arith, pairs_length (suc m)) in
    let b = div_below i (suc m) (suc m) (omega arith) a in
    subst P (sym (pairs_at (suc m) i a)) (h _ _ b (mod_below i (suc m) (omega arith))))

pairs_has : (n : ℕ) (P : ℕ × ℕ → Type 0) → AllByRecursion P (pairs n) → (u w : ℕ) → u < n → w < n → P (u, w)
pairs_has n P h u w a b =
    let l : u * n + w < n * n = mul-add-lt u n w n a b in
    let e = pairs_at n (u * n + w) l ∙ ap₂ (λ (x y : ℕ). (x, y)) (div-mul-add u n w b) (mod-mul-add u n w b) in
    subst P e (all_at P (pairs n) (u * n + w) (0, 0) (omega (arith, pairs_length n)) h)

-- what holds of those that a test keeps, and what holds of those that pass it
module _ {X : Type 0} (test : X → Bool) (P : X → Type 0) where
  kept_from_passing : (xs : List X) → AllByRecursion (λ x. test x ≡ true → P x) xs → AllByRecursion P (filter test xs)
  kept_from_passing [] h = tt
  kept_from_passing (x ∷ xs) h =
      let rest = kept_from_passing xs h.1 in
      cond_both (test x) (x ∷ filter test xs) (filter test xs) (AllByRecursion P) (λ e. (h.0 e, rest)) (λ e. rest)

  passing_from_kept : (xs : List X) → AllByRecursion P (filter test xs) → AllByRecursion (λ x. test x ≡ true → P x) xs
  passing_from_kept [] h = tt
  passing_from_kept (x ∷ xs) h =
      cond_both (test x) (x ∷ filter test xs) (filter test xs) (λ ys. AllByRecursion P ys → AllByRecursion (λ x. test x ≡ true → P x) (x ∷ xs))
      (λ e k. (λ _. k.0, passing_from_kept xs k.1))
      (λ e k. (λ a. absurd (both_ways (test x) e a), passing_from_kept xs k))
      h

all_pass : {X : Type 0} (test : X → Bool) (P : X → Type 0) → ((x : X) → P x → test x ≡ true) → (xs : List X) → AllByRecursion P xs → list_all test xs ≡ true
all_pass test P f [] h = refl
all_pass test P f (x ∷ xs) h = and_from (test x) _ (f x h.0) (all_pass test P f xs h.1)

passes_at : {X : Type 0} (test : X → Bool) (xs : List X) (k : ℕ) (x : X) → k < length xs → x ≡ get_or xs k x → list_all test xs ≡ true → test x ≡ true
passes_at test [] k x l e h = absurd (omega arith)
passes_at test (y ∷ xs) zero x l e h = ap test e ∙ (and_parts (test y) _ h).0
passes_at test (y ∷ xs) (suc k) x l e h = passes_at test xs k x (omega arith) e (and_parts (test y) _ h).1

pub arc_at_pair
    : (t : Table) (qs : List (ℕ × ℕ)) (k : ℕ) (p : ℕ × ℕ) → k < length qs → p ≡ get_or qs k p → list_all (has_arc t) qs ≡ true
    → (p.0 ≡ p.1 → ⊥) → 0 < t p.0 p.1
arc_at_pair t qs k p l e h d =
    elim (or_cases (eqb p.0 p.1) (ltb 0 (t p.0 p.1)) (passes_at (has_arc t) qs k p l e h)) [
      | inl a ↦ absurd (d (eqb-true p.0 p.1 a))
      | inr a ↦ ltb-true 0 (t p.0 p.1) a
    ]

-- those that pass a test all do
pub filter_pass : {X : Type 0} (test : X → Bool) (xs : List X) → list_all test (filter test xs) ≡ true
filter_pass test [] = refl
filter_pass test (x ∷ xs) =
    cond_both (test x) (x ∷ filter test xs) (filter test xs) (λ ys. list_all test ys ≡ true)
    (λ e. and_from (test x) _ e (filter_pass test xs)) (λ e. filter_pass test xs)

pub pairs_with_pass : (ps : Premises) (n : ℕ) → list_all (has_premises ps) (pairs_with ps n) ≡ true
unfolding pairs_with
pairs_with_pass ps n = filter_pass (has_premises ps) (pairs n)

-- the pairs below n with their premises
module _ (ps : Premises) (n : ℕ) (P : ℕ × ℕ → Type 0) where
  pub pairs_with_all : ((u w : ℕ) → u < n → w < n → are_there (ps u w) ≡ true → P (u, w)) → AllByRecursion P (pairs_with ps n)
  unfolding pairs_with
  pairs_with_all h =
      kept_from_passing (has_premises ps) P (pairs n) (pairs_all n (λ p. has_premises ps p ≡ true → P p) h)

  pub pairs_with_has : AllByRecursion P (pairs_with ps n) → (u w : ℕ) → u < n → w < n → are_there (ps u w) ≡ true → P (u, w)
  unfolding pairs_with
  pairs_with_has h = pairs_has n (λ p. has_premises ps p ≡ true → P p) (passing_from_kept (has_premises ps) P (pairs n) h)

-- one arc more
abbrev pub given : Arcs → ℕ × ℕ → Arcs
given k p = record { arc = put k.arc p.0 p.1 k.next; next = k.next + 1 }

module _ (k : Arcs) (p : ℕ × ℕ) where
  pub with_arc_cases
      : (Q : Arcs → Type 0) → ((p.0 ≡ p.1) ⊎ (0 < k.arc p.0 p.1) → Q k)
      → ((p.0 ≡ p.1 → ⊥) → k.arc p.0 p.1 ≡ 0 → Q (given k p)) → Q (with_arc k p)
  with_arc_cases Q f g =
      cond_both (eqb p.0 p.1 || ltb 0 (k.arc p.0 p.1)) k (given k p) Q
      (λ e. f (elim (or_cases (eqb p.0 p.1) (ltb 0 (k.arc p.0 p.1)) e) [
        | inl a ↦ inl (eqb-true p.0 p.1 a)
        | inr a ↦ inr (ltb-true 0 (k.arc p.0 p.1) a)
      ]))
      (λ e.
      let r = or_parts (eqb p.0 p.1) (ltb 0 (k.arc p.0 p.1)) e in
      g (eqb-false p.0 p.1 r.0) (omega (arith, ltb-false 0 (k.arc p.0 p.1) r.1)))

  pub with_arc_next : k.next ≤ (with_arc k p).next
  with_arc_next = with_arc_cases (λ z. k.next ≤ z.next) (λ _. omega arith) (λ _ _. omega arith)

  pub given_keeps : (a b : ℕ) → k.arc p.0 p.1 ≡ 0 → 0 < k.arc a b → (given k p).arc a b ≡ k.arc a b
  given_keeps a b e l =
      elim (put_cases k.arc p.0 p.1 k.next a b) [
        | inl h ↦ absurd (let z : k.arc a b ≡ 0 = ap₂ k.arc h.0 h.1 ∙ e in omega arith)
        | inr h ↦ h.1
      ]

  pub with_arc_keeps : (a b : ℕ) → 0 < k.arc a b → (with_arc k p).arc a b ≡ k.arc a b
  with_arc_keeps a b l = with_arc_cases (λ z. z.arc a b ≡ k.arc a b) (λ _. refl) (λ _ e. given_keeps a b e l)

  pub with_arc_gives : 0 < k.next → (p.0 ≡ p.1 → ⊥) → 0 < (with_arc k p).arc p.0 p.1
  with_arc_gives l d =
      with_arc_cases (λ z. 0 < z.arc p.0 p.1) (λ h. elim h [ inl a ↦ absurd (d a) | inr a ↦ a ])
      (λ _ _.
      elim (put_cases k.arc p.0 p.1 k.next p.0 p.1) [
        | inl h ↦ omega (arith, h.2)
        | inr h ↦ absurd (h.0 refl refl)
      ])

-- arcs at a list of pairs
pub with_arcs_next : (qs : List (ℕ × ℕ)) (k : Arcs) → k.next ≤ (with_arcs k qs).next
with_arcs_next [] k = omega arith
with_arcs_next (q ∷ qs) k = let a = with_arc_next k q in let b = with_arcs_next qs (with_arc k q) in omega arith

pub with_arcs_keeps : (qs : List (ℕ × ℕ)) (k : Arcs) (a b : ℕ) → 0 < k.arc a b → (with_arcs k qs).arc a b ≡ k.arc a b
with_arcs_keeps [] k a b l = refl
with_arcs_keeps (q ∷ qs) k a b l =
    let e = with_arc_keeps k q a b l in with_arcs_keeps qs (with_arc k q) a b (omega arith) ∙ e

with_arcs_gives
    : (qs : List (ℕ × ℕ)) (k : Arcs) → 0 < k.next
    → AllByRecursion (λ q. (q.0 ≡ q.1 → ⊥) → 0 < (with_arcs k qs).arc q.0 q.1) qs
with_arcs_gives [] k l = tt
with_arcs_gives (q ∷ qs) k l = (
  λ d.
      let g = with_arc_gives k q l d in
      let e = with_arcs_keeps qs (with_arc k q) q.0 q.1 g in omega arith,
  with_arcs_gives qs (with_arc k q) (omega (arith, with_arc_next k q)),
)

-- arcs at all pairs with premises
module _ (ps : Premises) (n : ℕ) (k : Arcs) where
  pub planned_keeps : (a b : ℕ) → 0 < k.arc a b → (planned ps n k).arc a b ≡ k.arc a b
  unfolding planned
  planned_keeps a b l = with_arcs_keeps (pairs_with ps n) k a b l

  pub planned_gives
      : 0 < k.next → (u w : ℕ) → u < n → w < n → are_there (ps u w) ≡ true → (u ≡ w → ⊥) → 0 < (planned ps n k).arc u w
  unfolding planned
  planned_gives l =
      pairs_with_has ps n (λ q. (q.0 ≡ q.1 → ⊥) → 0 < (with_arcs k (pairs_with ps n)).arc q.0 q.1)
      (with_arcs_gives (pairs_with ps n) k l)

  -- each of the pairs that join two nodes has its arc
  pub planned_there : 0 < k.next → list_all (has_arc (planned ps n k).arc) (pairs_with ps n) ≡ true
  unfolding planned
  planned_there l =
      all_pass (has_arc (with_arcs k (pairs_with ps n)).arc) _ (λ q h.
      elim (cases_eq q.0 q.1) [
        | inl e ↦ or_left (eqb q.0 q.1) _ (eq-eqb q.0 q.1 e)
        | inr d ↦ or_right (eqb q.0 q.1) _ (lt-ltb 0 _ (h d))
      ]) (pairs_with ps n) (with_arcs_gives (pairs_with ps n) k l)
