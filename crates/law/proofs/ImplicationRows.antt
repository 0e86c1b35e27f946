-- The clauses of implications, row by row: for each node, those for the pairs from it, ascending.
use Rattle.std.proofs.Common.{◌≡◌, ℕ, zero, suc, ◌+◌, ◌*◌, Bool, true, false, cond, ◌&&◌, List, [], ◌∷◌, ◌++◌, map, filter, sym, refl, ap, ◌∙◌, inl, inr, add-zero, zero-add, zero-mul, arith}
use Rattle.cnf.specs.Clauses.{Clause}
use Rattle.law.specs.ClauseLists.{for_each, those}
use Rattle.sheet.specs.Implications.{Arcs, Premises, are_there, has_premises, implication, implications, pair_at, pairs, pairs_with, planned}
use Rattle.std.proofs.lemmas.Nat.{div-mul-add, mod-mul-add}
use Rattle.std.proofs.lemmas.List.Elements.{filter-append}
use Rattle.cnf.proofs.Every.{filter_all}
use Rattle.std.proofs.lemmas.List.{map-append}
use Rattle.std.proofs.lemmas.Bool.{cases_Bool}
use Rattle.std.specs.List.{range_with_len, AllByRecursion}

abbrev pub one : Clause → List Clause
one c = c ∷ []

counting_parts : (a m n : ℕ) → range_with_len a (m + n) ≡ range_with_len a m ++ range_with_len (a + m) n
counting_parts a zero n = rw (zero-add, add-zero)
counting_parts a (suc m) n =
    let e : suc m + n ≡ suc (m + n) = omega arith in
    let f : a + 1 + m ≡ a + suc m = omega arith in
    let more = rw f at (counting_parts (a + 1) m n) in
    rw e (ap (λ l. a ∷ l) more)

places_are_row
    : (n u i m : ℕ) → i + m ≡ n → map (pair_at n) (range_with_len (u * n + i) m) ≡ map (λ w. (u, w)) (range_with_len i m)
places_are_row n u i zero e = refl
places_are_row n u i (suc m) e =
    let q = div-mul-add u n i (omega arith) in
    let r = mod-mul-add u n i (omega arith) in
    let f : u * n + (i + 1) ≡ u * n + i + 1 = omega arith in
    let more = rw f at (places_are_row n u (i + 1) m (omega arith)) in
    λ j. (q j, r j) ∷ more j

places_are_rows
    : (n u m : ℕ) → map (pair_at n) (range_with_len (u * n) (m * n)) ≡ for_each (range_with_len u m) (λ v. map (λ w. (v, w)) (range_with_len 0 n))
places_are_rows n u zero = rw zero-mul
places_are_rows n u (suc m) =
    let e : suc m * n ≡ n + m * n = omega arith in
    let f : u * n + n ≡ (u + 1) * n = omega arith in
    let first = rw (add-zero (u * n)) at (places_are_row n u 0 n (omega arith)) in
    let more = rw (sym f) at (places_are_rows n (u + 1) m) in
    ap (λ c. map (pair_at n) (range_with_len (u * n) c)) e
    ∙ ap (map (pair_at n)) (counting_parts (u * n) n (m * n))
    ∙ map-append (pair_at n) (range_with_len (u * n) n) (range_with_len (u * n + n) (m * n))
    ∙ (λ j. first j ++ more j)

pairs_are_rows : (n : ℕ) → pairs n ≡ for_each (range_with_len 0 n) (λ u. map (λ w. (u, w)) (range_with_len 0 n))
pairs_are_rows n = rw zero-mul at (places_are_rows n 0 n)

-- what f gives for those pairs of the rows that pass q, row by row
module _ {Y : Type 0} (f : ℕ × ℕ → Y) (q : ℕ × ℕ → Bool) where
  row_listed
      : (u : ℕ) (ws : List ℕ)
      → map f (filter q (map (λ w. (u, w)) ws)) ≡ for_each (filter (λ w. q (u, w)) ws) (λ w. f (u, w) ∷ [])
  row_listed u [] = refl
  row_listed u (w ∷ ws) =
      let more = row_listed u ws in
      let pairs = filter q (map (λ w. (u, w)) ws) in
      let nodes = filter (λ w. q (u, w)) ws in
      elim (q (u, w))
      as (λ b. map f (cond b ((u, w) ∷ pairs) pairs) ≡ for_each (cond b (w ∷ nodes) nodes) (λ w. f (u, w) ∷ []))
      [ true ↦ ap (λ l. f (u, w) ∷ l) more | false ↦ more ]

  rows_listed
      : (ws us : List ℕ)
      → map f (filter q (for_each us (λ u. map (λ w. (u, w)) ws)))
      ≡ for_each us (λ u. for_each (filter (λ w. q (u, w)) ws) (λ w. f (u, w) ∷ []))
  rows_listed ws [] = refl
  rows_listed ws (u ∷ us) =
      let row = map (λ w. (u, w)) ws in
      let rest = for_each us (λ u. map (λ w. (u, w)) ws) in
      ap (map f) (filter-append q row rest) ∙ map-append f (filter q row) (filter q rest)
      ∙ (λ j. row_listed u ws j ++ rows_listed ws us j)

pub pairs_pass : (ps : Premises) (n : ℕ) → AllByRecursion (λ p. has_premises ps p ≡ true) (pairs_with ps n)
unfolding pairs_with
pairs_pass ps n = filter_all (has_premises ps) (pairs n)

pub implications_mapped
    : (ps : Premises) (n : ℕ) (k : Arcs)
    → implications ps n k ≡ map (λ p. implication (ps p.0 p.1) (planned ps n k).arc p) (pairs_with ps n)
unfolding implications
implications_mapped ps n k = refl

pub implications_listed
    : (ps : Premises) (n : ℕ) (k : Arcs)
    → implications ps n k
    ≡ for_each (range_with_len 0 n) (λ u. for_each (those n (λ w. are_there (ps u w)))
    (λ w. one (implication (ps u w) (planned ps n k).arc (u, w))))
unfolding implications pairs_with
implications_listed ps n k =
    let f : ℕ × ℕ → Clause = λ p. implication (ps p.0 p.1) (planned ps n k).arc p in
    ap (λ l. map f (filter (has_premises ps) l)) (pairs_are_rows n)
    ∙ rows_listed f (has_premises ps) (range_with_len 0 n) (range_with_len 0 n)

-- the same test and, where it passes, the same clauses
pub for_each_like
    : (p q : ℕ → Bool) (f g : ℕ → List Clause) → ((x : ℕ) → p x ≡ q x) → ((x : ℕ) → q x ≡ true → f x ≡ g x)
    → (xs : List ℕ) → for_each (filter p xs) f ≡ for_each (filter q xs) g
for_each_like p q f g tests same [] = refl
for_each_like p q f g tests same (x ∷ xs) =
    let more = for_each_like p q f g tests same xs in
    elim (cases_Bool (q x)) [ inl e ↦ rw (tests x, e) (λ j. same x e j ++ more j) | inr e ↦ rw (tests x, e) more ]

-- those that pass are the only ones that give anything
pub for_each_kept
    : (q : ℕ → Bool) (f : ℕ → List Clause) (xs : List ℕ) → for_each xs (λ x. cond (q x) (f x) []) ≡ for_each (filter q xs) f
for_each_kept q f [] = refl
for_each_kept q f (x ∷ xs) =
    let more = for_each_kept q f xs in
    elim (q x)
    as (λ b. cond b (f x) [] ++ for_each xs (λ x. cond (q x) (f x) []) ≡ for_each (cond b (x ∷ filter q xs) (filter q xs)) f)
    [ true ↦ ap (λ l. f x ++ l) more | false ↦ more ]

pub kept_none : (xs : List ℕ) → filter (λ _. false) xs ≡ []
kept_none [] = refl
kept_none (x ∷ xs) = kept_none xs

pub and_true : (b : Bool) → (b && true) ≡ b
and_true true = refl
and_true false = refl
