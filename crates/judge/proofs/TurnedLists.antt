-- A list from one of its places on, and then what stands before that: the same numbers, in the same order round.
-- Where an edge leads from each number to the next round the list, `turned` is a ring.
use Rattle.std.proofs.Common.{◌≡◌, ℕ, zero, suc, ◌+◌, ◌-◌, ◌<◌, ◌≤◌, true, cond, ltb, ◌⊎◌, List, ◌++◌, length, get_or, take, drop, sym, refl, ap, ◌∙◌, inl, inr, arith}
use Rattle.std.proofs.lemmas.List.{get_or_append_left, get_or-append_right, get_or-drop, get_or-take, length-append, length-drop, length-take}
use Rattle.std.proofs.lemmas.Bool.{cases_eq, cases_lt, le-ltb, lt-ltb}
use Rattle.std.proofs.lemmas.Bool.Decides.{nat_tests}
use Rattle.graph.specs.Orders.{Distinct, IsRing}
use Rattle.graph.specs.Walks.{Edges}
use Rattle.judge.specs.Walking.{lowest, turned}
use Rattle.judge.proofs.DistinctLists.{distinct_same}

pub lowest_zero : (ns : List ℕ) → lowest ns 0 ≡ 0
unfolding lowest
lowest_zero ns = refl

pub lowest_suc
    : (ns : List ℕ) (k : ℕ) → lowest ns (suc k) ≡ cond (ltb (get_or ns k 0) (get_or ns (lowest ns k) 0)) k (lowest ns k)
unfolding lowest
lowest_suc ns k = refl

pub lowest_before : (ns : List ℕ) (k : ℕ) → lowest ns k ≤ k - 1
lowest_before ns zero = let z = lowest_zero ns in omega arith
lowest_before ns (suc k) = let i = lowest_before ns k in rw (lowest_suc ns k) (grind (arith, nat_tests))

lowest_smallest : (ns : List ℕ) (k j : ℕ) → j < k → get_or ns (lowest ns k) 0 ≤ get_or ns j 0
lowest_smallest ns zero j l = absurd (omega arith)
lowest_smallest ns (suc k) j l =
    let i : (get_or ns j 0 ≡ get_or ns k 0) ⊎ (get_or ns (lowest ns k) 0 ≤ get_or ns j 0) = elim (cases_eq j k) [
      | inl e ↦ inl (ap (λ x. get_or ns x 0) e)
      | inr ne ↦ inr (lowest_smallest ns k j (omega arith))
    ] in
    elim (cases_lt (get_or ns k 0) (get_or ns (lowest ns k) 0)) [
      | inl s ↦ rw (lowest_suc ns k, lt-ltb _ _ s) (omega arith)
      | inr g ↦ rw (lowest_suc ns k, le-ltb _ _ g) (omega arith)
    ]

-- of distinct numbers there is one smallest
pub lowest_is
    : (ns : List ℕ) (low : ℕ) → Distinct ns → low < length ns → ((k : ℕ) → k < length ns → get_or ns low 0 ≤ get_or ns k 0)
    → low ≡ lowest ns (length ns)
lowest_is ns low d l s =
    let b = lowest_before ns (length ns) in
    let a = s (lowest ns (length ns)) (omega arith) in
    let c = lowest_smallest ns (length ns) low l in
    distinct_same ns low (lowest ns (length ns)) d l (omega arith) (omega arith)

-- an edge leads from each node of the list to the next, and from the last to the first
abbrev pub Linked : Edges → List ℕ → Type 0
Linked r ns =
    (i j : ℕ) → i < length ns → j < length ns → (i + 1 ≡ j) ⊎ (i + 1 ≡ j + length ns)
    → r (get_or ns i 0) (get_or ns j 0) ≡ true

module _ (ns : List ℕ) (h : ℕ) where
  turn_length : length (drop h ns ++ take h ns) ≡ length ns
  turn_length = simp (length-append, length-drop, length-take) (omega arith)

  module _ (b : h ≤ length ns) where
    -- the place in ns of what stands at place k of the turned list
    turn_place
        : (k : ℕ) → k < length ns
        → (p : ℕ) × (p < length ns) × (get_or (drop h ns ++ take h ns) k 0 ≡ get_or ns p 0) × ((h + k ≡ p) ⊎ (h + k ≡ p + length ns))
    turn_place k l =
        let d = length-drop h ns in
        elim (cases_lt (h + k) (length ns)) [
          | inl s ↦ (h + k, s, get_or_append_left (drop h ns) (take h ns) 0 k (omega arith) ∙ get_or-drop h ns k 0, inl refl)
          | inr s ↦
              let e : k - (length ns - h) ≡ h + k - length ns = omega arith in
              let g = get_or-append_right (drop h ns) (take h ns) (length ns - h) k 0 d (omega arith) in
              let t = get_or-take h ns (k - (length ns - h)) 0 (omega arith) in
              (h + k - length ns, omega arith, g ∙ t ∙ ap (λ i. get_or ns i 0) e, inr (omega arith))
        ]

    turn_distinct : Distinct ns → Distinct (drop h ns ++ take h ns)
    turn_distinct d i j l k e =
        let m = turn_length in
        let p = turn_place i (omega arith) in
        let q = turn_place j (omega arith) in
        let s = distinct_same ns p.0 q.0 d p.1 q.1 (sym p.2 ∙ e ∙ q.2) in
        omega (arith, p.3, q.3)

    turn_linked : (r : Edges) → Linked r ns → Linked r (drop h ns ++ take h ns)
    turn_linked r o i j a c s =
        let m = turn_length in
        let p = turn_place i (omega arith) in
        let q = turn_place j (omega arith) in
        let f : (p.0 + 1 ≡ q.0) ⊎ (p.0 + 1 ≡ q.0 + length ns) = elim (cases_eq (p.0 + 1) q.0) [
          | inl e ↦ inl e
          | inr ne ↦ inr (omega (arith, p.1, p.3, q.1, q.3))
        ] in
        rw (p.2, q.2) (o p.0 q.0 p.1 q.1 f)

module _ (ns : List ℕ) where
  abbrev start : ℕ
  start = lowest ns (length ns)

  start_fits : start ≤ length ns
  start_fits = let b = lowest_before ns (length ns) in omega arith

  pub turned_length : length (turned ns) ≡ length ns
  turned_length = turn_length ns start

  pub turned_ring : (r : Edges) → 0 < length ns → Distinct ns → Linked r ns → IsRing r (turned ns)
  turned_ring r s d o =
      let m = turned_length in
      let c = turn_linked ns start start_fits r o in
      record {
        some = omega arith;
        distinct = turn_distinct ns start start_fits d;
        smallest = λ k l.
            let p = turn_place ns start start_fits 0 s in
            let q = turn_place ns start start_fits k (omega arith) in
            let b = lowest_before ns (length ns) in
            let e : p.0 ≡ start = omega (arith, p.3) in
            rw (p.2, e, q.2) (lowest_smallest ns (length ns) q.0 q.1);
        steps = λ k l. c k (k + 1) (omega arith) l (inl refl);
        back = c (length (turned ns) - 1) 0 (omega arith) (omega arith) (inr (omega arith));
      }
