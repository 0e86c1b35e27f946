-- A clause of positive literals is met exactly when one of its variables is true.
use Rattle.std.specs.Prelude.{◌≡◌, ℕ, ◌<◌, true, pos}
use Rattle.std.proofs.Common.{subst, sym, arith}
use Rattle.cnf.proofs.Satisfied.{holds_pos, pos_holds}
use Rattle.cnf.specs.Satisfaction.{Holds, Meets, Values}
use Rattle.closings.specs.Ranges.{upto}
use Rattle.closings.specs.RangesLemmas.{get_or_upto, length_upto}

module _ (τ : Values) (f : ℕ → ℕ) (n : ℕ) where
  pub some_true : Meets τ (upto n (λ t. pos (f t))) → (t : ℕ) × (t < n) × (τ (f t) ≡ true)
  some_true m =
      let t = m.place in
      let l : t < n = omega (arith, length_upto (λ t. pos (f t)) n, m.within) in
      (t, l, (pos_holds τ (f t) (subst (Holds τ) (get_or_upto (λ t. pos (f t)) n t (pos 0) l) m.holds)).1)

  pub meets_some : (t : ℕ) → t < n → 0 < f t → τ (f t) ≡ true → Meets τ (upto n (λ t. pos (f t)))
  meets_some t l p e =
      record {
        place = t;
        within = omega (arith, length_upto (λ t. pos (f t)) n);
        holds = subst (Holds τ) (sym (get_or_upto (λ t. pos (f t)) n t (pos 0) l)) (holds_pos τ (f t) p e);
      }
