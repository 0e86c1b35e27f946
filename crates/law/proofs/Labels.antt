-- To which pair of nodes each variable was given: planned arcs only add to it.
use Rattle.std.proofs.Common.{◌≡◌, ℕ, ◌+◌, ◌<◌, ◌≤◌, cond, eqb, List, [], ◌∷◌, sym, refl, ◌∙◌, subst, ap₂, inl, inr, arith}
use Rattle.sheet.proofs.Tables.{joins_put, put_cases}
use Rattle.sheet.specs.Implications.{Arcs, Premises, pairs_with, planned, with_arc, with_arcs}
use Rattle.sheet.specs.Tables.{Joins}
use Rattle.std.proofs.lemmas.Bool.{eq-eqb, ne_eqb}
use Rattle.std.specs.List.{AllByRecursion}
use Rattle.sheet.proofs.Pairs.{given, pairs_with_all, with_arc_cases}

-- x is a variable above V that was given, and it was given to the pair (u, w)
pub record Label (V next : ℕ) (ends : ℕ → ℕ × ℕ) (x u w : ℕ) : Type 0 where
  pub above : V < x
  pub below : x < next
  pub is : ends x ≡ (u, w)

module _ (n V low : ℕ) (old : ℕ → ℕ × ℕ) where
  -- the pairs of all variables given so far: those below low have the pairs that they had
  pub record Labels (k : Arcs) : Type 0 where
    pub ends : ℕ → ℕ × ℕ
    pub agrees : (x : ℕ) → x < low → ends x ≡ old x
    pub grows : low ≤ k.next
    pub joins : Joins n k.arc
    pub named : (u w : ℕ) → 0 < k.arc u w → Label V k.next ends (k.arc u w) u w

  module _ (some : V < low) where
    labels_given : (k : Arcs) (p : ℕ × ℕ) → Labels k → p.0 < n → p.1 < n → (p.0 ≡ p.1 → ⊥) → Labels (given k p)
    labels_given k p h a b d = record {
      ends = ends;
      agrees = λ x l. older x (omega (arith, h.grows)) ∙ h.agrees x l;
      grows = omega (arith, h.grows);
      joins = joins_put k.arc p.0 p.1 k.next n h.joins a b d;
      named = λ u w l.
          elim (put_cases k.arc p.0 p.1 k.next u w) [
            | inl c ↦ subst (λ x. Label V (k.next + 1) ends x u w) (sym c.2) (newest u w c.0 c.1)
            | inr c ↦
                subst (λ x. Label V (k.next + 1) ends x u w) (sym c.1) (kept u w (h.named u w (omega (arith, c.1))))
          ];
    }
      where
        ends : ℕ → ℕ × ℕ
        ends x = cond (eqb x k.next) p (h.ends x)

        older : (x : ℕ) → x < k.next → ends x ≡ h.ends x
        older x l = rw (ne_eqb x k.next (omega arith))

        newest : (u w : ℕ) → u ≡ p.0 → w ≡ p.1 → Label V (k.next + 1) ends k.next u w
        newest u w e f = record {
          above = omega (arith, h.grows);
          below = omega arith;
          is = rw (eq-eqb k.next k.next refl) (sym (ap₂ (λ (x y : ℕ). (x, y)) e f));
        }

        kept : (u w : ℕ) → Label V k.next h.ends (k.arc u w) u w → Label V (k.next + 1) ends (k.arc u w) u w
        kept u w c = record {
          above = c.above;
          below = omega (arith, c.below);
          is = older (k.arc u w) c.below ∙ c.is;
        }

    labels_with_arcs
        : (qs : List (ℕ × ℕ)) (k : Arcs) → AllByRecursion (λ q. (q.0 < n) × (q.1 < n)) qs → Labels k → Labels (with_arcs k qs)
    labels_with_arcs [] k a h = h
    labels_with_arcs (q ∷ qs) k a h =
        labels_with_arcs qs (with_arc k q) a.1
        (with_arc_cases k q Labels (λ _. h) (λ d _. labels_given k q h a.0.0 a.0.1 d))

    pub labels_planned : (ps : Premises) (k : Arcs) → Labels k → Labels (planned ps n k)
    unfolding planned
    labels_planned ps k h =
        labels_with_arcs (pairs_with ps n) k (pairs_with_all ps n (λ q. (q.0 < n) × (q.1 < n)) (λ u w a b _. (a, b))) h
