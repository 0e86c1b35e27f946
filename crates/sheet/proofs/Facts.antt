-- What the arcs of a sheet keep, with planned arcs more and without a node.
use Rattle.std.proofs.Common.{◌≡◌, ℕ, ◌+◌, ◌*◌, ◌<◌, ◌≤◌, Bool, true, false, cond, not, ◌||◌, T, eqb, List, [], ◌∷◌, get_or, set, sym, refl, ◌∙◌, subst, inl, inr, arith}
use Rattle.std.proofs.lemmas.List.{get_or-set_other}
use Rattle.std.proofs.lemmas.Bool.{and_from, eq-eqb, eqb-false, or_parts}
use Rattle.std.specs.List.{AllByRecursion}
use Rattle.graph.specs.Counts.{count}
use Rattle.sheet.specs.Implications.{Arcs, Premises, are_there, pairs_with, planned, with_arc, with_arcs}
use Rattle.sheet.specs.Tables.{Above, Apart, Below, Joins, Staying, Table, put, table, without}
use Rattle.sheet.specs.Phases.{is_fresh}
use Rattle.sheet.specs.View.{arcs_of, view}
use Rattle.sheet.specs.declared.phase.Phase.{Phase}
use Rattle.sheet.specs.declared.place.Sheet.{Sheet}
use Rattle.sheet.proofs.Blank.{Keeps}
use Rattle.sheet.proofs.Pairs.{given, pairs_with_all, with_arc_cases}
use Rattle.sheet.proofs.Tables.{joins_put, put_cases}

pub record Fit (n v : ℕ) (out : List Bool) (k : Arcs) : Type 0 where
  pub some : v < k.next
  pub joins : Joins n k.arc
  pub stays : Staying out k.arc
  pub above : Above v k.arc
  pub below : Below k.next k.arc
  pub apart : Apart k.arc

-- a pair of remaining nodes
pub record Remaining (n : ℕ) (out : List Bool) (p : ℕ × ℕ) : Type 0 where
  pub from : p.0 < n
  pub to : p.1 < n
  pub from_stays : T (get_or out p.0 false) → ⊥
  pub to_stays : T (get_or out p.1 false) → ⊥

-- one arc more
module _ (n v : ℕ) (out : List Bool) (k : Arcs) (p : ℕ × ℕ) (h : Fit n v out k) (r : Remaining n out p) where
  stays_given : Staying out (put k.arc p.0 p.1 k.next)
  stays_given u w l =
      elim (put_cases k.arc p.0 p.1 k.next u w) [
        | inl c ↦ (
          λ t. r.from_stays (subst (λ x. T (get_or out x false)) c.0 t),
          λ t. r.to_stays (subst (λ x. T (get_or out x false)) c.1 t),
        )
        | inr c ↦ h.stays u w (omega (arith, c.1))
      ]

  above_given : Above v (put k.arc p.0 p.1 k.next)
  above_given u w l =
      elim (put_cases k.arc p.0 p.1 k.next u w) [
        | inl c ↦ omega (arith, c.2, h.some)
        | inr c ↦ let a = h.above u w (omega (arith, c.1)) in omega (arith, c.1)
      ]

  below_given : Below (k.next + 1) (put k.arc p.0 p.1 k.next)
  below_given u w =
      elim (put_cases k.arc p.0 p.1 k.next u w) [
        | inl c ↦ omega (arith, c.2)
        | inr c ↦ omega (arith, c.1, h.below u w)
      ]

  apart_given : Apart (put k.arc p.0 p.1 k.next)
  apart_given a b l =
      elim (put_cases k.arc p.0 p.1 k.next a.0 a.1) [
        | inl c ↦ elim (put_cases k.arc p.0 p.1 k.next b.0 b.1) [
          | inl d ↦ and_from _ _ (eq-eqb a.0 b.0 (c.0 ∙ sym d.0)) (eq-eqb a.1 b.1 (c.1 ∙ sym d.1))
          | inr d ↦ absurd (omega (arith, l.1, c.2, d.1, h.below b.0 b.1))
        ]
        | inr c ↦ elim (put_cases k.arc p.0 p.1 k.next b.0 b.1) [
          | inl d ↦ absurd (omega (arith, l.1, c.1, d.2, h.below a.0 a.1))
          | inr d ↦ h.apart a b (omega (arith, l.0, c.1), sym c.1 ∙ l.1 ∙ d.1)
        ]
      ]

  fit_given : (p.0 ≡ p.1 → ⊥) → Fit n v out (given k p)
  fit_given d = record {
    some = omega (arith, h.some);
    joins = joins_put k.arc p.0 p.1 k.next n h.joins r.from r.to d;
    stays = stays_given;
    above = above_given;
    below = below_given;
    apart = apart_given;
  }

module _ (n v : ℕ) (out : List Bool) where
  fit_with_arcs : (qs : List (ℕ × ℕ)) (k : Arcs) → AllByRecursion (Remaining n out) qs → Fit n v out k → Fit n v out (with_arcs k qs)
  fit_with_arcs [] k a h = h
  fit_with_arcs (q ∷ qs) k a h =
      fit_with_arcs qs (with_arc k q) a.1
      (with_arc_cases k q (Fit n v out) (λ _. h) (λ d _. fit_given n v out k q h a.0 d))

  -- arcs at pairs of remaining nodes
  pub fit_planned
      : (ps : Premises) (k : Arcs) → ((u w : ℕ) → are_there (ps u w) ≡ true → Remaining n out (u, w)) → Fit n v out k
      → Fit n v out (planned ps n k)
  unfolding planned
  fit_planned ps k r h =
      fit_with_arcs (pairs_with ps n) k (pairs_with_all ps n (Remaining n out) (λ u w _ _ e. r u w e)) h

-- what is there without a node
pub without_some
    : (x : ℕ) (t : Table) (u w : ℕ) → 0 < without x t u w → (u ≡ x → ⊥) × (w ≡ x → ⊥) × (without x t u w ≡ t u w)
without_some x t u w = go (eqb u x || eqb w x) refl
  where
    go : (c : Bool) → (eqb u x || eqb w x) ≡ c → 0 < cond c 0 (t u w) → (u ≡ x → ⊥) × (w ≡ x → ⊥) × (cond c 0 (t u w) ≡ t u w)
    go true e h = absurd (omega arith)
    go false e h = let p = or_parts (eqb u x) (eqb w x) e in (eqb-false u x p.0, eqb-false w x p.1, refl)

without_most : (x : ℕ) (t : Table) (u w : ℕ) → without x t u w ≤ t u w
without_most x t u w = go (eqb u x || eqb w x)
  where
    go : (c : Bool) → cond c 0 (t u w) ≤ t u w
    go true = omega arith
    go false = omega arith

-- the node x and its arcs leave
pub fit_without
    : (n v : ℕ) (out : List Bool) (x : ℕ) (k : Arcs) → Fit n v out k
    → Fit n v (set out x true) (record { arc = without x k.arc; next = k.next })
fit_without n v out x k h = record {
  some = h.some;
  joins = λ u w l. let s = without_some x k.arc u w l in h.joins u w (omega (arith, s.2));
  stays = λ u w l.
      let s = without_some x k.arc u w l in
      let r = h.stays u w (omega (arith, s.2)) in (
        λ t. r.0 (subst T (get_or-set_other out x u true false s.0) t),
        λ t. r.1 (subst T (get_or-set_other out x w true false s.1) t),
      );
  above = λ u w l.
      let s = without_some x k.arc u w l in
      let a = h.above u w (omega (arith, s.2)) in omega (arith, s.2);
  below = λ u w. omega (arith, without_most x k.arc u w, h.below u w);
  apart = λ a b l.
      let s = without_some x k.arc a.0 a.1 l.0 in
      let m : 0 < without x k.arc b.0 b.1 = omega (arith, l.0, l.1) in
      let r = without_some x k.arc b.0 b.1 m in h.apart a b (omega (arith, l.0, s.2), sym s.2 ∙ l.1 ∙ r.2);
}

-- planned arcs lie below the next free variable
below_with_arcs : (qs : List (ℕ × ℕ)) (k : Arcs) → Below k.next k.arc → Below (with_arcs k qs).next (with_arcs k qs).arc
below_with_arcs [] k h = h
below_with_arcs (q ∷ qs) k h =
    below_with_arcs qs (with_arc k q)
    (with_arc_cases k q (λ l. Below l.next l.arc) (λ _. h) (λ _ _ u w.
    elim (put_cases k.arc q.0 q.1 k.next u w) [
      | inl c ↦ omega (arith, c.2)
      | inr c ↦ omega (arith, c.1, h u w)
    ]))

pub below_planned
    : (ps : Premises) (n : ℕ) (k : Arcs) → Below k.next k.arc → (l : Arcs) → l ≡ planned ps n k → Below l.next l.arc
unfolding planned
below_planned ps n k h l e = subst (λ (l : Arcs). Below l.next l.arc) (sym e) (below_with_arcs (pairs_with ps n) k h)

-- the arcs of a sheet in memory
pub fit_of : (s : Sheet) → Fit s.nodes s.valves s.out (arcs_of (view s))
fit_of s = record {
  some = s.next_above.0;
  joins = s.arcs_join;
  stays = s.arcs_stay;
  above = s.arcs_above;
  below = s.arcs_below;
  apart = s.arcs_apart;
}

-- a sheet that has been started keeps what a sheet keeps, with other arcs that fit
pub fit_keeps
    : (s : Sheet) (f : Phase) (out : List Bool) (k : Arcs) → Fit s.nodes s.valves out k → (T (is_fresh f) → ⊥)
    → k.next + 4096 * count 64 (λ u. not (get_or out u false)) ≤ 326241
    → Keeps f s.nodes s.valves k.next (table s.pipes.numbers) k.arc out
fit_keeps s f out k h started few =
    record {
      nodes_few = s.nodes_few;
      valves_few = s.valves_few;
      next_above = (h.some, omega arith);
      pipes_join = s.pipes_join;
      pipes_upto = s.pipes_upto;
      arcs_join = h.joins;
      arcs_stay = h.stays;
      arcs_above = h.above;
      arcs_below = h.below;
      arcs_apart = h.apart;
      fresh_next = λ t. absurd (started t);
      fresh_arcs = λ u w t. absurd (started t);
      fresh_stays = λ u t. absurd (started t);
      next_few = few;
    }
