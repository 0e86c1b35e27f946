-- The search for a clause that is not met, and that what it names is right.
use Rattle.std.specs.List.{list_any}
use Rattle.std.proofs.Common.{◌≡◌, ℕ, zero, suc, ◌+◌, ◌-◌, ◌<◌, min, Bool, true, false, eqb, ◌⊎◌, List, [], ◌∷◌, ◌++◌, length, get_or, take, drop, ℤ, pos, negsuc, Some, None, sym, refl, ap, ◌∙◌, inl, inr, arith}
use Rattle.std.proofs.Math.Seq.{take-add}
use Rattle.std.proofs.lemmas.List.{length-drop, length-take-le, take-append-drop, take_at, take_min}
use Rattle.std.proofs.lemmas.List.Folds.{list_any-append}
use Rattle.std.proofs.lemmas.Bool.{both_ways, eq-eqb, eqb-true, ne_eqb, or_cases, or_from, or_left, or_right}
use Rattle.std.proofs.lemmas.Bool.Decides.{nat_tests}
use Rattle.std.specs.Option.{option_map}
use Rattle.cnf.specs.Clauses.{Clause, variable}
use Rattle.cnf.specs.Meeting.{byte_of, first_unmet, met}
use Rattle.cnf.specs.Satisfaction.{Holds, Meets, UnmetRight, setting}
use Rattle.cnf.proofs.Writes.{none_at}

byte_some : (values : List ℕ) (z : ℤ) → (variable z ≡ 0 → ⊥) → byte_of values z ≡ get_or values (variable z - 1) 0
byte_some values z h = rw (ne_eqb (variable z) 0 h)

-- of the entries from a place on the next 256 are looked at, or as many as there are: n, copied to the front of a buffer
module _
    {X : Type 0} (p : X → Bool) (c out after : List X) (from n : ℕ) (room : length out ≡ 256)
    (size : n ≡ min (length c - from) (length out)) (is : after ≡ take n (drop from c) ++ drop n out)
  where
    chunk : take n after ≡ take 256 (drop from c)
    chunk =
        let d = length-drop from c in
        let t = length-take-le n (drop from c) (omega arith) in
        let m : n ≡ min 256 (length (drop from c)) = omega arith in
        ap (take n) is ∙ take_at (take n (drop from c)) (drop n out) n t
        ∙ ap (λ k. take k (drop from c)) m ∙ take_min 256 (drop from c)

    pub chunk_some : list_any p (take n after) ≡ true → list_any p c ≡ true
    chunk_some h =
        let rest = ap (list_any p) (sym (take-append-drop 256 (drop from c))) ∙ list_any-append p (take 256 (drop from c)) (drop 256 (drop from c))
        ∙ or_left _ _ (ap (list_any p) (sym chunk) ∙ h) in
        ap (list_any p) (sym (take-append-drop from c)) ∙ list_any-append p (take from c) (drop from c) ∙ or_right _ _ rest

    pub chunk_none : list_any p (take from c) ≡ false → list_any p (take n after) ≡ false → list_any p (take (from + 256) c) ≡ false
    chunk_none h k =
        ap (list_any p) (take-add from 256 c) ∙ list_any-append p (take from c) (take 256 (drop from c)) ∙ or_from _ _ h (ap (list_any p) (sym chunk) ∙ k)

any_index : {X : Type 0} (p : X → Bool) (xs : List X) (d : X) → list_any p xs ≡ true → (j : ℕ) × (j < length xs) × (p (get_or xs j d) ≡ true)
any_index p [] d h = absurd (grind (arith, h))
any_index p (x ∷ xs) d h =
    elim (or_cases (p x) (list_any p xs) h) [
      | inl t ↦ (0, omega arith, t)
      | inr t ↦ let i = any_index p xs d t in (suc i.0, omega (arith, i.1), i.2)
    ]

-- the search
pub unmet_found
    : (values : List ℕ) (cs : List Clause) (k : ℕ) → k < length cs → ((i : ℕ) → i < k → list_any (met values) (get_or cs i []) ≡ true)
    → list_any (met values) (get_or cs k []) ≡ false → Some k ≡ first_unmet values cs
unmet_found values [] k l b h = absurd (omega arith)
unmet_found values (c ∷ cs) zero l b h = rw h refl
unmet_found values (c ∷ cs) (suc k) l b h =
    let i = unmet_found values cs k (omega arith) (λ j m. b (suc j) (omega arith)) h in
    rw (b 0 (omega arith)) (ap (option_map suc) i)

pub unmet_none
    : (values : List ℕ) (cs : List Clause) → ((i : ℕ) → i < length cs → list_any (met values) (get_or cs i []) ≡ true)
    → None ≡ first_unmet values cs
unmet_none values [] b = refl
unmet_none values (c ∷ cs) b =
    let i = unmet_none values cs (λ j m. b (suc j) (omega arith)) in rw (b 0 (omega arith)) (ap (option_map suc) i)

-- for a byte of 1 or 2, a literal is met exactly when it is true
module _ (values : List ℕ) where
  abbrev Told : ℤ → Type 0
  Told z = (byte_of values z ≡ 1) ⊎ (byte_of values z ≡ 2)

  met_holds : (z : ℤ) → Told z → met values z ≡ true → Holds (setting values) z
  met_holds (pos zero) t h = absurd (grind (arith, h))
  met_holds (pos (suc n)) t h = let b = byte_some values (pos (suc n)) (λ q. omega arith) in rw (← b) h
  met_holds (negsuc n) t h =
      let b = byte_some values (negsuc n) (λ q. omega arith) in
      let e = eqb-true _ 2 h in rw (← b) (grind (arith, nat_tests, e))

  holds_met : (z : ℤ) → Told z → Holds (setting values) z → met values z ≡ true
  holds_met (pos zero) t h = absurd h
  holds_met (pos (suc n)) t h = let b = byte_some values (pos (suc n)) (λ q. omega arith) in rw b h
  holds_met (negsuc n) t h =
      let b = byte_some values (negsuc n) (λ q. omega arith) in
      let f : eqb (byte_of values (negsuc n)) 1 ≡ false = rw b h in
      elim t [ inl e ↦ absurd (both_ways _ f (eq-eqb _ 1 e)) | inr e ↦ eq-eqb _ 2 e ]

  module _ (c : Clause) (told : (j : ℕ) → j < length c → Told (get_or c j (pos 0))) where
    met_meets : list_any (met values) c ≡ true → Meets (setting values) c
    met_meets h =
        let i = any_index (met values) c (pos 0) h in
        record { place = i.0; within = i.1; holds = met_holds (get_or c i.0 (pos 0)) (told i.0 i.1) i.2 }

    unmet_meets : list_any (met values) c ≡ false → Meets (setting values) c → ⊥
    unmet_meets h m =
        both_ways _ (none_at (met values) c m.place (pos 0) m.within h)
        (holds_met (get_or c m.place (pos 0)) (told m.place m.within) m.holds)

  pub names_found
      : (cs : List Clause) (k : ℕ) → k < length cs → ((i : ℕ) → i < k → list_any (met values) (get_or cs i []) ≡ true)
      → list_any (met values) (get_or cs k []) ≡ false → UnmetRight values cs (Some k)
  names_found cs k l b h full =
      (l, unmet_meets (get_or cs k []) (λ j m. full k j l m) h, λ i m. met_meets (get_or cs i []) (λ j q. full i j (omega arith) q) (b i m))

  pub names_none
      : (cs : List Clause) → ((i : ℕ) → i < length cs → list_any (met values) (get_or cs i []) ≡ true) → UnmetRight values cs None
  names_none cs b full i l = met_meets (get_or cs i []) (λ j q. full i j l q) (b i l)
