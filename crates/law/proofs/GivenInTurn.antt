-- Arcs that are given to the pairs of a list, one after the other: what was there stays, and the new ones are numbered in turn.
use Rattle.std.proofs.Common.{◌≡◌, ℕ, zero, suc, ◌+◌, ◌*◌, ◌/◌, ◌<◌, Bool, List, [], ◌∷◌, map, length, filter, sym, refl, ap, ◌∙◌, subst, inl, inr, arith}
use Rattle.law.specs.ClauseLists.{Earlier, GivenInTurn}
use Rattle.sheet.proofs.Pairs.{given, given_keeps, with_arc_cases, with_arcs_keeps, with_arcs_next}
use Rattle.sheet.proofs.Tables.{put_cases}
use Rattle.sheet.specs.Implications.{Arcs, Premises, has_premises, pair_at, pairs, pairs_with, planned, with_arcs}
use Rattle.std.proofs.lemmas.Nat.{div-add-mod', le-div}
use Rattle.cnf.proofs.Every.{all_filter, all_map, all_weaker}
use Rattle.std.proofs.lemmas.Bool.{cases_eq, cond_both}
use Rattle.std.specs.List.{range_with_len, AllByRecursion}

-- a pair with a new arc is one of the list
only_listed
    : (P : ℕ × ℕ → Type 0) (k : Arcs) (ps : List (ℕ × ℕ)) (a : ℕ × ℕ) → AllByRecursion P ps → k.arc a.0 a.1 ≡ 0
    → 0 < (with_arcs k ps).arc a.0 a.1 → P a
only_listed P k [] a _ z = λ h. absurd (omega arith)
only_listed P k (p ∷ ps) a all z =
    with_arc_cases k p (λ l. 0 < (with_arcs l ps).arc a.0 a.1 → P a) (λ _ h. only_listed P k ps a all.1 z h)
    (λ _ _ h. elim (put_cases k.arc p.0 p.1 k.next a.0 a.1) [
      | inl e ↦ let same : p ≡ a = λ i. (sym e.0 i, sym e.1 i) in subst P same all.0
      | inr e ↦ only_listed P (given k p) ps a all.1 (e.1 ∙ z) h
    ])

not_same : (p q : ℕ × ℕ) → Earlier p q → p.0 ≡ q.0 → p.1 ≡ q.1 → ⊥
not_same p q e a b = elim e [ inl h ↦ omega arith | inr h ↦ omega (arith, h.1) ]

not_back : (p q r : ℕ × ℕ) → Earlier p q → Earlier q r → r.0 ≡ p.0 → r.1 ≡ p.1 → ⊥
not_back p q r e f a b =
    elim e [
      | inl h ↦ elim f [ inl g ↦ omega arith | inr g ↦ omega (arith, g.0) ]
      | inr h ↦ elim f [ inl g ↦ omega (arith, h.0) | inr g ↦ omega (arith, h.1, g.1) ]
    ]

-- the pair p is given the next free variable of k, and then the pairs ps get their arcs
module _ (k : Arcs) (p : ℕ × ℕ) (ps : List (ℕ × ℕ)) (some : 0 < k.next) where
  gets_next : (with_arcs (given k p) ps).arc p.0 p.1 ≡ k.next
  gets_next =
      elim (put_cases k.arc p.0 p.1 k.next p.0 p.1) [
        | inl e ↦ with_arcs_keeps ps (given k p) p.0 p.1 (rw e.2 some) ∙ e.2
        | inr e ↦ absurd (e.0 refl refl)
      ]

  in_turn_more
      : k.arc p.0 p.1 ≡ 0 → AllByRecursion (Earlier p) ps → GivenInTurn (given k p) (with_arcs (given k p) ps)
      → GivenInTurn k (with_arcs (given k p) ps)
  in_turn_more z later g =
      record {
        keeps = λ u w h. let e = given_keeps k p u w z h in g.keeps u w (omega arith) ∙ e;
        new = λ u w e h.
            elim (put_cases k.arc p.0 p.1 k.next u w) [
              | inl q ↦
                  let n : (with_arcs (given k p) ps).arc u w ≡ k.next = rw (q.0, q.1) gets_next in
                  (omega arith, omega (arith, with_arcs_next ps (given k p)))
              | inr q ↦ let r = g.new u w (q.1 ∙ e) h in (omega (arith, r.0), r.1)
            ];
        no_gap = λ x a b.
            elim (cases_eq x k.next) [
              | inl e ↦ (p, z, gets_next ∙ sym e)
              | inr d ↦
                  let r = g.no_gap x (omega arith) b in (
                    r.0,
                    elim (put_cases k.arc p.0 p.1 k.next r.0.0 r.0.1) [
                      | inl q ↦ absurd (omega (arith, q.2, r.1))
                      | inr q ↦ sym q.1 ∙ r.1
                    ],
                    r.2,
                  )
            ];
        rise = λ a b za zb pa pb e.
            elim (put_cases k.arc p.0 p.1 k.next a.0 a.1) [
              | inl q ↦
                  elim (put_cases k.arc p.0 p.1 k.next b.0 b.1) [
                    | inl r ↦ absurd (not_same a b e (q.0 ∙ sym r.0) (q.1 ∙ sym r.1))
                    | inr r ↦
                        let n : (with_arcs (given k p) ps).arc a.0 a.1 ≡ k.next = rw (q.0, q.1) gets_next in
                        omega (arith, (g.new b.0 b.1 (r.1 ∙ zb) pb).0)
                  ]
              | inr q ↦
                  elim (put_cases k.arc p.0 p.1 k.next b.0 b.1) [
                    | inl r ↦
                        absurd (not_back p a b (only_listed (Earlier p) (given k p) ps a later (q.1 ∙ za) pa) e r.0 r.1)
                    | inr r ↦ g.rise a b (q.1 ∙ za) (r.1 ∙ zb) pa pb e
                  ]
            ];
      }

-- each pair is earlier than all that follow
abbrev Ascending : List (ℕ × ℕ) → Type 0
Ascending [] = Unit {0}
Ascending (p ∷ ps) = AllByRecursion (Earlier p) ps × Ascending ps

given_in_turn : (k : Arcs) (ps : List (ℕ × ℕ)) → 0 < k.next → Ascending ps → GivenInTurn k (with_arcs k ps)
given_in_turn k [] some up =
    record {
      keeps = λ u w h. refl;
      new = λ u w e h. absurd (omega arith);
      no_gap = λ x a b. absurd (omega arith);
      rise = λ p q e f h i d. absurd (omega arith);
    }
given_in_turn k (p ∷ ps) some up =
    with_arc_cases k p (λ l. GivenInTurn k (with_arcs l ps)) (λ _. given_in_turn k ps some up.1)
    (λ _ z. in_turn_more k p ps some z up.0 (given_in_turn (given k p) ps (omega arith) up.1))

-- a pair of two nodes with no arc
abbrev pub Free : Arcs → ℕ × ℕ → Type 0
Free k p = (p.0 ≡ p.1 → ⊥) × (k.arc p.0 p.1 ≡ 0)

later_free : (k : Arcs) (p : ℕ × ℕ) (qs : List (ℕ × ℕ)) → AllByRecursion (Earlier p) qs → AllByRecursion (Free k) qs → AllByRecursion (Free (given k p)) qs
later_free k p [] later free = tt
later_free k p (q ∷ qs) later free = (
  (
    free.0.0,
    elim (put_cases k.arc p.0 p.1 k.next q.0 q.1) [
      | inl e ↦ absurd (not_same p q later.0 (sym e.0) (sym e.1))
      | inr e ↦ e.1 ∙ free.0.1
    ],
  ),
  later_free k p qs later.1 free.1,
)

abbrev pub arc_at : Arcs → ℕ × ℕ → ℕ
arc_at k p = k.arc p.0 p.1

-- free pairs get the free variables, one after the other
pub record Numbered (k l : Arcs) (ps : List (ℕ × ℕ)) : Type 0 where
  pub next : l.next ≡ k.next + length ps
  pub arcs : map (arc_at l) ps ≡ range_with_len k.next (length ps)

free_numbered
    : (k : Arcs) (ps : List (ℕ × ℕ)) → 0 < k.next → Ascending ps → AllByRecursion (Free k) ps → Numbered k (with_arcs k ps) ps
free_numbered k [] some up free = record { next = omega arith; arcs = refl }
free_numbered k (p ∷ ps) some up free =
    with_arc_cases k p (λ l. Numbered k (with_arcs l ps) (p ∷ ps))
    (λ e. absurd (elim e [ inl s ↦ free.0.0 s | inr h ↦ omega (arith, free.0.1) ]))
    (λ _ _.
    let more = free_numbered (given k p) ps (omega arith) up.1 (later_free k p ps up.0 free.1) in
    record {
      next = omega (arith, more.next);
      arcs = λ i. gets_next k p ps some i ∷ more.arcs i;
    })

above_counting : (a b m : ℕ) → a < b → AllByRecursion (λ x. a < x) (range_with_len b m)
above_counting a b zero h = tt
above_counting a b (suc m) h = (h, above_counting a (b + 1) m (omega arith))

-- places of a table that is n wide, read row by row
earlier_place : (n a b : ℕ) → 0 < n → a < b → Earlier (pair_at n a) (pair_at n b)
earlier_place n a b some h =
    let d = div-add-mod' a n in
    let e = div-add-mod' b n in
    let up = le-div (a / n) b n some (omega arith) in
    elim (cases_eq (a / n) (b / n)) [
      | inl q ↦ let r = ap (λ x. x * n) q in inr (q, omega arith)
      | inr q ↦ inl (omega arith)
    ]

places_ascend : (n a m : ℕ) → 0 < n → Ascending (map (pair_at n) (range_with_len a m))
places_ascend n a zero some = tt
places_ascend n a (suc m) some = (
  all_map (Earlier (pair_at n a)) (pair_at n) (range_with_len (a + 1) m)
      (all_weaker (λ b. a < b) (λ b. Earlier (pair_at n a) (pair_at n b)) (λ b h. earlier_place n a b some h)
      (range_with_len (a + 1) m) (above_counting a (a + 1) m (omega arith))),
  places_ascend n (a + 1) m some,
)

kept_ascend : (q : ℕ × ℕ → Bool) (ps : List (ℕ × ℕ)) → Ascending ps → Ascending (filter q ps)
kept_ascend q [] up = tt
kept_ascend q (p ∷ ps) up =
    cond_both (q p) (p ∷ filter q ps) (filter q ps) Ascending
    (λ _. (all_filter (Earlier p) q ps up.0, kept_ascend q ps up.1))
    (λ _. kept_ascend q ps up.1)

pairs_ascend : (ps : Premises) (n : ℕ) → Ascending (pairs_with ps n)
unfolding pairs_with
pairs_ascend ps zero = tt
pairs_ascend ps (suc n) =
    kept_ascend (has_premises ps) (pairs (suc n)) (places_ascend (suc n) 0 (suc n * suc n) (omega arith))

pub planned_in_turn : (ps : Premises) (n : ℕ) (k : Arcs) → 0 < k.next → GivenInTurn k (planned ps n k)
unfolding planned
planned_in_turn ps n k some = given_in_turn k (pairs_with ps n) some (pairs_ascend ps n)

pub planned_numbered
    : (ps : Premises) (n : ℕ) (k : Arcs) → 0 < k.next → AllByRecursion (Free k) (pairs_with ps n)
    → Numbered k (planned ps n k) (pairs_with ps n)
unfolding planned
planned_numbered ps n k some free = free_numbered k (pairs_with ps n) some (pairs_ascend ps n) free
