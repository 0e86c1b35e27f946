-- The law of the encoding: start and eliminations write clauses that encode the sheet.
use Rattle.std.proofs.Common.{◌≡◌, ℕ, ◌<◌, true, ◌||◌, eqb, ltb, List, [], ◌∷◌, ◌++◌, sym, refl, ap, ◌∙◌, subst, ap₂, arith}
use Rattle.cnf.specs.Clauses.{Clause}
use Rattle.cnf.specs.Satisfaction.{Meets, Sat, Values}
use Rattle.graph.proofs.Elimination.{elimination_law}
use Rattle.graph.proofs.Walks.{map_walk}
use Rattle.graph.specs.Elimination.{Bridges}
use Rattle.law.specs.Encoding.{Encodes, EncodingLaw, Follows, Fresh, Named, clauses_of, on, without_nodes}
use Rattle.law.proofs.Labels.{Label, Labels, labels_planned}
use Rattle.sheet.proofs.Pairs.{pairs_with_all, pairs_with_has, planned_gives, planned_keeps}
use Rattle.cnf.proofs.Satisfied.{map_sat, sat_append, sat_left, sat_map, sat_right}
use Rattle.law.proofs.Implied.{AllTrue, Implied, implied_meets, meets_implied, on_from, on_parts}
use Rattle.sheet.specs.Eliminating.{bridged, eliminated, elimination_clauses, way_through}
use Rattle.sheet.specs.Implications.{Arcs, Premises, are_there, implication, implications, pairs_with, planned}
use Rattle.sheet.specs.Starting.{start_clauses, started, valve_of}
use Rattle.sheet.specs.Tables.{Table, without}
use Rattle.sheet.specs.View.{View, arcs_of}
use Rattle.std.proofs.lemmas.List.{append_assoc, append-nil}
use Rattle.std.proofs.lemmas.Bool.{and_from, and_parts, cond_both, lt-ltb, ltb-true, ne_eqb}

-- the clauses that were planned are met exactly when each of them says what is so
module _ (σ : Values) (ps : Premises) (n : ℕ) (k : Arcs) where
  abbrev EachImplied : Type 0
  EachImplied =
      (u w : ℕ) → u < n → w < n → are_there (ps u w) ≡ true → Implied σ (ps u w) (planned ps n k).arc (u, w)

  abbrev clause : ℕ × ℕ → Clause
  clause p = implication (ps p.0 p.1) (planned ps n k).arc p

  each_implied_sat : EachImplied → Sat σ (implications ps n k)
  unfolding implications
  each_implied_sat h =
      sat_map σ clause (pairs_with ps n)
      (pairs_with_all ps n (λ p. Meets σ (clause p))
      (λ u w a b e. implied_meets σ (ps u w) (planned ps n k).arc (u, w) e (h u w a b e)))

  sat_each_implied : Sat σ (implications ps n k) → EachImplied
  unfolding implications
  sat_each_implied s u w a b e =
      meets_implied σ (ps u w) (planned ps n k).arc (u, w) e
      (pairs_with_has ps n (λ p. Meets σ (clause p)) (map_sat σ clause (pairs_with ps n) s) u w a b e)

-- the values of labelled arcs follow a rank
module _ (V : ℕ) (ends : ℕ → ℕ × ℕ) (next : ℕ) (σ : Values) (ρ : ℕ → ℕ)
    (follows : (x : ℕ) → V < x → x < next → σ x ≡ ltb (ρ (ends x).0) (ρ (ends x).1)) where
  value_is : {x u w : ℕ} → Label V next ends x u w → σ x ≡ ltb (ρ u) (ρ w)
  value_is {x} l = follows x l.above l.below ∙ ap (λ (p : ℕ × ℕ). ltb (ρ p.0) (ρ p.1)) l.is

  -- where the rank rises whenever all premises are true, the planned clauses are met
  rising_sat
      : (ps : Premises) (n : ℕ) (k : Arcs) → 0 < k.next
      → ((u w : ℕ) → 0 < (planned ps n k).arc u w → Label V next ends ((planned ps n k).arc u w) u w)
      → ((u w : ℕ) → are_there (ps u w) ≡ true → AllTrue σ (ps u w) → ρ u < ρ w) → Sat σ (implications ps n k)
  rising_sat ps n k some named rises =
      each_implied_sat σ ps n k (λ u w a b e t.
      let r = rises u w e t in
      let d : u ≡ w → ⊥ = λ z. omega (arith, ap ρ z) in
      let l = planned_gives ps n k some u w a b e d in
      (d, on_from σ (planned ps n k).arc u w l (value_is (named u w l) ∙ lt-ltb (ρ u) (ρ w) r)))

-- a label as the law names it
module _ (s : View) (ends : ℕ → ℕ × ℕ) (u w : ℕ) where
  named_from_label : Label s.valves s.next ends (s.arc u w) u w → Named s ends u w
  named_from_label l = record {
    above = l.above;
    below = l.below;
    tail = ap (λ (p : ℕ × ℕ). p.0) l.is;
    head = ap (λ (p : ℕ × ℕ). p.1) l.is;
  }

  label_from_named : Named s ends u w → Label s.valves s.next ends (s.arc u w) u w
  label_from_named l = record {
    above = l.above;
    below = l.below;
    is = ap₂ (λ (x y : ℕ). (x, y)) l.tail l.head;
  }

-- start
module _ (s : View) (f : Fresh s) where
  abbrev valves : Premises
  valves = valve_of s.pipe

  start_labels : Labels s.nodes s.valves s.next (λ _. (0, 0)) (planned valves s.nodes (arcs_of s))
  start_labels =
      labels_planned s.nodes s.valves s.next (λ _. (0, 0)) (omega (arith, f.next)) valves (arcs_of s) (record {
        ends = λ _. (0, 0);
        agrees = λ _ _. refl;
        grows = omega arith;
        joins = λ u w l. absurd (omega (arith, f.no_arcs u w));
        named = λ u w l. absurd (omega (arith, f.no_arcs u w));
      })

  start_encodes : Encodes (started s) (start_clauses s)
  start_encodes = record {
    ends = start_labels.ends;
    some = omega (arith, f.next, start_labels.grows);
    joins = start_labels.joins;
    named = λ u w l. named_from_label (started s) start_labels.ends u w (start_labels.named u w l);
    fits = λ σ ρ up follows.
        rising_sat s.valves start_labels.ends (started s).next σ ρ follows valves s.nodes (arcs_of s)
        (omega (arith, f.next)) start_labels.named
        (λ u w e t.
        let l = ltb-true 0 (s.pipe u w) (and_parts (ltb 0 (s.pipe u w)) true e).0 in
        up u w (on_from σ s.pipe u w l t.0));
    rings = λ σ h r. (r.0, map_walk (λ u w o. open_true σ h u w o) r.1);
  }
    where
      open_true
          : (σ : Values) → Sat σ (start_clauses s) → (u w : ℕ) → on σ s.pipe u w ≡ true
          → on σ (started s).arc u w ≡ true
      open_true σ h u w o =
          let p = on_parts σ s.pipe u w o in
          let j = f.pipes u w p.0 in
          let e = and_from (ltb 0 (s.pipe u w)) true (lt-ltb 0 (s.pipe u w) p.0) refl in
          (sat_each_implied σ valves s.nodes (arcs_of s) h u w j.0 j.1 e (p.1, tt)).1

-- a table without the entries of a node
module _ (v : ℕ) (t : Table) (u w : ℕ) where
  without_other : (u ≡ v → ⊥) → (w ≡ v → ⊥) → without v t u w ≡ t u w
  without_other a b = rw (ne_eqb u v a, ne_eqb w v b)

  without_some : 0 < without v t u w → without v t u w ≡ t u w
  without_some =
      cond_both (eqb u v || eqb w v) 0 (t u w) (λ x. 0 < x → x ≡ t u w) (λ _ l. absurd (omega arith)) (λ _ _. refl)

-- elimination
module _ (s : View) (cs : List Clause) (v : ℕ) (h : Encodes s cs) where
  abbrev ways : Premises
  ways = way_through s.arc v

  abbrev left : Table
  left = without v (bridged s v).arc

  bridge_labels : Labels s.nodes s.valves s.next h.ends (bridged s v)
  bridge_labels =
      labels_planned s.nodes s.valves s.next h.ends h.some ways (arcs_of s) (record {
        ends = h.ends;
        agrees = λ _ _. refl;
        grows = omega arith;
        joins = h.joins;
        named = λ u w l. label_from_named s h.ends u w (h.named u w l);
      })

  bridged_keeps : (u w : ℕ) → 0 < s.arc u w → (bridged s v).arc u w ≡ s.arc u w
  bridged_keeps u w l = planned_keeps ways s.nodes (arcs_of s) u w l

  both_there : (u w : ℕ) → are_there (ways u w) ≡ true → (0 < s.arc u v) × (0 < s.arc v w)
  both_there u w e =
      let p = and_parts (ltb 0 (s.arc u v)) (are_there (s.arc v w ∷ [])) e in
      let q = and_parts (ltb 0 (s.arc v w)) true p.1 in
      (ltb-true 0 (s.arc u v) p.0, ltb-true 0 (s.arc v w) q.0)

  there_both : (u w : ℕ) → 0 < s.arc u v → 0 < s.arc v w → are_there (ways u w) ≡ true
  there_both u w a b = and_from _ _ (lt-ltb 0 (s.arc u v) a) (and_from _ true (lt-ltb 0 (s.arc v w) b) refl)

  -- values that follow a rank meet the clauses
  module _ (σ : Values) (ρ : ℕ → ℕ) (follows : Follows (eliminated s v) bridge_labels.ends σ ρ) where
    follows_before : Follows s h.ends σ ρ
    follows_before x a b =
        follows x a (omega (arith, bridge_labels.grows))
        ∙ ap (λ (p : ℕ × ℕ). ltb (ρ p.0) (ρ p.1)) (bridge_labels.agrees x b)

    true_rises : (u w : ℕ) → 0 < s.arc u w → σ (s.arc u w) ≡ true → ρ u < ρ w
    true_rises u w l t =
        let n = label_from_named s h.ends u w (h.named u w l) in
        ltb-true (ρ u) (ρ w) (sym (value_is s.valves h.ends s.next σ ρ follows_before n) ∙ t)

    bridges_sat : Sat σ (elimination_clauses s v)
    bridges_sat =
        rising_sat s.valves bridge_labels.ends (bridged s v).next σ ρ follows ways s.nodes (arcs_of s)
        (omega (arith, h.some)) bridge_labels.named
        (λ u w e t.
        let p = both_there u w e in
        let a = true_rises u v p.0 t.0 in
        let b = true_rises v w p.1 t.1.0 in omega arith)

  -- whoever meets the clauses has a true arc for every way of two true arcs through v
  sat_bridges : (σ : Values) → Sat σ (elimination_clauses s v) → Bridges (on σ s.arc) (on σ left) v
  sat_bridges σ k = record {
    keeps = λ u w a b o.
        let p = on_parts σ s.arc u w o in
        on_as u w a b (rw (bridged_keeps u w p.0) o);
    skips = λ u w d a b.
        let p = on_parts σ s.arc u v a in
        let q = on_parts σ s.arc v w b in
        on_as u w (h.joins u v p.0).2 (λ e. (h.joins v w q.0).2 (sym e)) (through u w a b).1;
    apart = λ u a b. (through u u a b).0 refl;
  }
    where
      on_as : (u w : ℕ) → (u ≡ v → ⊥) → (w ≡ v → ⊥) → on σ (bridged s v).arc u w ≡ true → on σ left u w ≡ true
      on_as u w a b o = rw (without_other v (bridged s v).arc u w a b) o

      through
          : (u w : ℕ) → on σ s.arc u v ≡ true → on σ s.arc v w ≡ true
          → (u ≡ w → ⊥) × (on σ (bridged s v).arc u w ≡ true)
      through u w a b =
          let p = on_parts σ s.arc u v a in
          let q = on_parts σ s.arc v w b in
          sat_each_implied σ ways s.nodes (arcs_of s) k u w (h.joins u v p.0).0 (h.joins v w q.0).1
          (there_both u w p.0 q.0) (p.1, (q.1, tt))

  eliminated_encodes : Encodes (eliminated s v) (cs ++ elimination_clauses s v)
  eliminated_encodes = record {
    ends = bridge_labels.ends;
    some = omega (arith, h.some, bridge_labels.grows);
    joins = λ u w l. bridge_labels.joins u w (omega (arith, without_some v (bridged s v).arc u w l));
    named = λ u w l.
        let e = without_some v (bridged s v).arc u w l in
        let n = bridge_labels.named u w (omega arith) in
        named_from_label (eliminated s v) bridge_labels.ends u w
        (subst (λ x. Label s.valves (bridged s v).next bridge_labels.ends x u w) (sym e) n);
    fits = λ σ ρ up follows.
        sat_append σ cs (elimination_clauses s v) (h.fits σ ρ up (follows_before σ ρ follows)) (bridges_sat σ ρ follows);
    rings = λ σ k r.
        elimination_law.1 (on σ s.arc) (on σ left) v (sat_bridges σ (sat_right σ cs (elimination_clauses s v) k))
        (h.rings σ (sat_left σ cs (elimination_clauses s v) k) r);
  }

-- eliminations, one after the other
all_encode
    : (vs : List ℕ) (s : View) (cs : List Clause) → Encodes s cs → Encodes (without_nodes s vs) (cs ++ clauses_of s vs)
all_encode [] s cs h = rw (append-nil cs) h
all_encode (v ∷ vs) s cs h =
    subst (λ ds. Encodes (without_nodes (eliminated s v) vs) ds)
    (append_assoc cs (elimination_clauses s v) (clauses_of (eliminated s v) vs))
    (all_encode vs (eliminated s v) (cs ++ elimination_clauses s v) (eliminated_encodes s cs v h))

pub encoding_law : EncodingLaw
encoding_law = record {
  start = start_encodes;
  eliminate = eliminated_encodes;
  all = λ s vs f. all_encode vs (started s) (start_clauses s) (start_encodes s f);
}
