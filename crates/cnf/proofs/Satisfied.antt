-- Clauses that are met: literals, and lists of clauses.
use Rattle.std.proofs.Common.{◌≡◌, ℕ, zero, suc, ◌+◌, ◌<◌, true, false, ◌⊎◌, List, [], ◌∷◌, ◌++◌, map, length, get_or, ℤ, pos, subst, inl, inr, arith}
use Rattle.cnf.specs.Clauses.{Clause, minus}
use Rattle.cnf.specs.Satisfaction.{Holds, Meets, Sat, Values}
use Rattle.cnf.proofs.Every.{all_append, all_from_get_or, all_at, all_map}
use Rattle.std.proofs.lemmas.List.{get_or-append-add, get_or_append_left, length-append}
use Rattle.std.specs.List.{AllByRecursion}

-- a literal
module _ (σ : Values) where
  pub holds_minus : (v : ℕ) → 0 < v → σ v ≡ false → Holds σ (minus v)
  holds_minus zero h e = absurd (omega arith)
  holds_minus (suc v) h e = e

  pub minus_holds : (v : ℕ) → 0 < v → Holds σ (minus v) → σ v ≡ false
  minus_holds zero h e = absurd (omega arith)
  minus_holds (suc v) h e = e

  pub holds_pos : (v : ℕ) → 0 < v → σ v ≡ true → Holds σ (pos v)
  holds_pos zero h e = absurd (omega arith)
  holds_pos (suc v) h e = e

  pub pos_holds : (v : ℕ) → Holds σ (pos v) → (0 < v) × (σ v ≡ true)
  pos_holds zero h = absurd h
  pos_holds (suc v) h = (omega arith, h)

  -- a clause
  pub meets_first : (z : ℤ) (c : Clause) → Holds σ z → Meets σ (z ∷ c)
  meets_first z c h = record { place = 0; within = omega arith; holds = h }

  pub meets_later : (z : ℤ) (c : Clause) → Meets σ c → Meets σ (z ∷ c)
  meets_later z c m = record { place = suc m.place; within = omega (arith, m.within); holds = m.holds }

  pub meets_cases : (z : ℤ) (c : Clause) → Meets σ (z ∷ c) → Holds σ z ⊎ Meets σ c
  meets_cases z c m = go m.place m.within m.holds
    where
      go : (k : ℕ) → k < length (z ∷ c) → Holds σ (get_or (z ∷ c) k (pos 0)) → Holds σ z ⊎ Meets σ c
      go zero l h = inl h
      go (suc k) l h = inr (record { place = k; within = omega arith; holds = h })

  pub meets_none : Meets σ [] → ⊥
  meets_none m = omega (arith, m.within)

  -- a list of clauses
  pub sat_all : (cs : List Clause) → Sat σ cs → AllByRecursion (Meets σ) cs
  sat_all cs h = all_from_get_or (Meets σ) cs [] h

  pub all_sat : (cs : List Clause) → AllByRecursion (Meets σ) cs → Sat σ cs
  all_sat cs h k l = all_at (Meets σ) cs k [] l h

  pub sat_append : (cs ds : List Clause) → Sat σ cs → Sat σ ds → Sat σ (cs ++ ds)
  sat_append cs ds h j = all_sat (cs ++ ds) (all_append (Meets σ) cs ds (sat_all cs h) (sat_all ds j))

  pub sat_left : (cs ds : List Clause) → Sat σ (cs ++ ds) → Sat σ cs
  sat_left cs ds h k l =
      subst (Meets σ) (get_or_append_left cs ds [] k l) (h k (omega (arith, length-append cs ds)))

  pub sat_right : (cs ds : List Clause) → Sat σ (cs ++ ds) → Sat σ ds
  sat_right cs ds h k l =
      subst (Meets σ) (get_or-append-add cs ds k []) (h (length cs + k) (omega (arith, length-append cs ds)))

  pub sat_map : {X : Type 0} (f : X → Clause) (xs : List X) → AllByRecursion (λ x. Meets σ (f x)) xs → Sat σ (map f xs)
  sat_map f xs h = all_sat (map f xs) (all_map (Meets σ) f xs h)

  pub map_sat : {X : Type 0} (f : X → Clause) (xs : List X) → Sat σ (map f xs) → AllByRecursion (λ x. Meets σ (f x)) xs
  map_sat {X = X} f xs h = go xs (sat_all (map f xs) h)
    where
      go : (xs : List X) → AllByRecursion (Meets σ) (map f xs) → AllByRecursion (λ x. Meets σ (f x)) xs
      go [] h = tt
      go (x ∷ xs) h = (h.0, go xs h.1)
