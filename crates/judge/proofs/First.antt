-- The first number that passes a test, as the library's searches over a range and over a list find it, and how many pass.
use Rattle.std.proofs.Common.{◌≡◌, ℕ, zero, suc, ◌+◌, ◌<◌, ◌≤◌, Bool, true, false, cond, ltb, List, length, get_or, IfSome, IsSomeAnd, MatchOption, Some, None, Option, sym, refl, ap, ◌∙◌, subst, inl, inr, arith}
use Rattle.graph.specs.Counts.{count, least}
use Rattle.graph.proofs.Counts.{count_more, count_zero, least_le, least_none, least_passes}
use Rattle.std.proofs.lemmas.Bool.{both_ways, cases_Bool, cases_lt, cases_order, le-ltb, lt-ltb, ltb-false, ltb-true}
use Rattle.std.proofs.iter.Yields.{nat_range_steps}
use Rattle.std.proofs.lemmas.Iterator.{first_from_Range}
use Rattle.std.proofs.lemmas.List.Sums.{position_or_len_is}
use Rattle.std.proofs.iter.runs.Sources.{range_runs}
use Rattle.std.specs.Bool.{IsTrue}
use Rattle.std.specs.Fn.{Called, CalledAt}
use Rattle.std.specs.Iterator.{FindsItem}
use Rattle.std.specs.Iterator.Runs.{AllItemsGive, IsFirstToGive, SomeRun}
use Rattle.std.specs.List.{filter, position, range_with_len}
use Rattle.std.specs.Option.{option_map}
use Rattle.std.specs.declared.ops.Range.{Range}
use denote.Param.Members.{Mut}
use denote.Ref.{Bor}
use Rattle.judge.specs.First.{first_below}

-- where a test decides whether a value is told
pub told : (b : Bool) (x v : ℕ) → Some v ≡ cond b (Some x) None → (b ≡ true) × (v ≡ x)
told true x v e = (refl, cc)
told false x v e = absurd (grind (arith, e))

pub untold : (b : Bool) (x : ℕ) → None ≡ cond b (Some x) None → b ≡ false
untold true x e = absurd (grind (arith, e))
untold false x e = refl

-- what was found is the least number that passes, and where nothing was, none does
pub some_found : (n : ℕ) (p : ℕ → Bool) (k : ℕ) → Some k ≡ first_below n p → (k < n) × (k ≡ least n p)
some_found n p k e = let t = told _ _ k e in (omega (arith, ltb-true _ _ t.0, t.1), t.1)

pub none_found : (n : ℕ) (p : ℕ → Bool) → None ≡ first_below n p → n ≤ least n p
none_found n p e = ltb-false _ _ (untold _ _ e)

-- where none passes, and where the first passes
none_passes : (n : ℕ) (p : ℕ → Bool) → ((k : ℕ) → k < n → p k ≡ false) → n ≤ least n p
none_passes n p h =
    elim (cases_lt (least n p) n) [ inl l ↦ absurd (both_ways _ (h (least n p) l) (least_passes n p l)) | inr g ↦ g ]

first_passes : (n i : ℕ) (p : ℕ → Bool) → i < n → p i ≡ true → ((k : ℕ) → k < i → p k ≡ false) → least n p ≡ i
first_passes n i p l t h =
    elim (cases_order (least n p) i) [
      | inl e ↦ e
      | inr o ↦ elim o [
        | inl b ↦ absurd (both_ways _ (h (least n p) b) (least_passes n p (omega arith)))
        | inr b ↦ absurd (both_ways _ (least_none n i p b) t)
      ]
    ]

first_is
    : (n : ℕ) (p : ℕ → Bool) (r : Option ℕ)
    → MatchOption r ((k : ℕ) → 0 ≤ k → k < n → p k ≡ false) (λ i. (0 ≤ i) × (i < n) × (p i ≡ true) × ((k : ℕ) → 0 ≤ k → k < i → p k ≡ false))
    → r ≡ first_below n p
first_is n p None h = rw (le-ltb _ _ (none_passes n p (λ k l. h k (omega arith) l))) refl
first_is n p (Some i) h = rw (first_passes n i p h.1 h.2 (λ k l. h.3 k (omega arith) l), lt-ltb i n h.1) refl

-- what `find` finds among the numbers below n, by a test that computes p
pub find_first
    : {F : Type 0} {g : Mut F (Bor ℕ × Unit {0}) Bool} (n : ℕ) (p : ℕ → Bool) (f : F) (r : Option ℕ) (u : Range ℕ)
    → FindsItem nat_range_steps g (record { start = 0; end = n }) f r u
    → ((x : ℕ) (b : Bool) (q : F) → CalledAt g f x b q → (q ≡ f) × (b ≡ p x)) → r ≡ first_below n p
find_first n p f r u ran computes =
    first_is n p r
    (first_from_Range _ u f r (λ x. p x ≡ true) (λ x. p x ≡ false) ran (λ x q k. sym (computes x true q k).1)
    (λ x q k. let c = computes x false q k in (c.0, sym c.1)))

-- what `find_map` gives among the numbers below n, by a function that gives v x where x passes p
module _ {F : Type 0} {g : Mut F (ℕ × Unit {0}) (Option ℕ)} (n : ℕ) (p : ℕ → Bool) (v : ℕ → ℕ) (f : F)
    (computes : (x : ℕ) (o : Option ℕ) (h : F) → Called g f (x, tt) o h → (h ≡ f) × (o ≡ cond (p x) (Some (v x)) None)) where
  none_given : (x : ℕ) → Called g f (x, tt) None f → p x ≡ false
  none_given x k = let e = (computes x None f k).1 in elim (cases_Bool (p x)) [ inl t ↦ absurd (grind (arith, e, t)) | inr b ↦ b ]

  some_given : (x y : ℕ) → Called g f (x, tt) (Some y) f → (p x ≡ true) × (y ≡ v x)
  some_given x y k =
      let e = (computes x (Some y) f k).1 in
      elim (cases_Bool (p x)) [ inl t ↦ (t, grind (arith, e, t)) | inr b ↦ absurd (grind (arith, e, b)) ]

  -- what holds of the item at a place holds of its number
  at_place : (P : ℕ → Type 0) (o : Option ℕ) (m : ℕ) → option_map (λ y. y) o ≡ Some m → IsSomeAnd o P → P m
  at_place P None m e h = absurd (grind (arith, e))
  at_place P (Some x) m e h = let i : x ≡ m = grind (arith, e) in subst P i h

  if_place : (P : ℕ → Type 0) (o : Option ℕ) (m : ℕ) → option_map (λ y. y) o ≡ Some m → IfSome o P → P m
  if_place P None m e h = absurd (grind (arith, e))
  if_place P (Some x) m e h = let i : x ≡ m = grind (arith, e) in subst P i h

  pub find_map_first
      : (r : Option ℕ)
      → SomeRun nat_range_steps (record { start = 0; end = n })
      (λ t. MatchOption r (IsTrue t.whole × AllItemsGive t g f None)
      (λ y. (i : ℕ) × (i < t.len) × (t.len ≡ i + 1) × IsFirstToGive t g f (Some y) None i))
      → r ≡ cond (ltb (least n p) n) (Some (v (least n p))) None
  find_map_first None (t, from, (whole, gives)) =
      let c = range_runs t t.seen in
      let all = gives (λ a r h k. (computes a.0 r h k).0) in
      let none = none_passes n p (λ k l.
      none_given k (if_place _ (t.at k) k
      (c.3 k (omega (arith, c.1 whole, ap (λ (s : Range ℕ). s.start) from, ap (λ (s : Range ℕ). s.end) from))
      ∙ ap Some (omega (arith, ap (λ (s : Range ℕ). s.start) from))) (all k))) in
      rw (le-ltb _ _ none) refl
  find_map_first (Some y) (t, from, (i, inside, last, gives)) =
      let c = range_runs t t.seen in
      let first = gives (λ a r h k. (computes a.0 r h k).0) in
      let place : (k : ℕ) → k < t.len → option_map (λ y. y) (t.at k) ≡ Some k =
      λ k l. c.3 k l ∙ ap Some (omega (arith, ap (λ (s : Range ℕ). s.start) from)) in
      let here = some_given i y (at_place _ (t.at i) i (place i inside) first.0) in
      let below : i < n = omega (arith, c.0, inside, ap (λ (s : Range ℕ). s.start) from, ap (λ (s : Range ℕ). s.end) from) in
      let at = first_passes n i p below here.0
      (λ k l. none_given k (at_place _ (t.at k) k (place k (omega (arith, inside))) (first.1 k l))) in
      rw (at, lt-ltb i n below, here.1) refl

-- the sum of n + 1 numbers from a on
next_sum : (a n : ℕ) → a + 1 + n ≡ a + suc n
next_sum a n = omega arith

filter_from : (a n : ℕ) (p : ℕ → Bool) → length (filter p (range_with_len a n)) + count a p ≡ count (a + n) p
filter_from a zero p = let e : a + 0 ≡ a = omega arith in rw e (omega arith)
filter_from a (suc n) p =
    let m = count_more a p in
    let e = ap (λ m. count m p) (next_sum a n) in
    let i = filter_from (a + 1) n p in
    elim (cases_Bool (p a)) [ inl t ↦ rw t (omega (arith, rw t at m, e, i)) | inr f ↦ rw f (omega (arith, rw f at m, e, i)) ]

pub filter_count : (n : ℕ) (p : ℕ → Bool) → length (filter p (range_with_len 0 n)) ≡ count n p
filter_count n p =
    let z = count_zero p in
    let f = filter_from 0 n p in
    let m : 0 + n ≡ n = omega arith in
    let e = ap (λ m. count m p) m in omega (arith, z, f, e)

pub position_first : (xs : List ℕ) (p : ℕ → Bool) → position p xs ≡ first_below (length xs) (λ k. p (get_or xs k 0))
position_first xs p =
    let e = position_or_len_is p xs (least (length xs) (λ k. p (get_or xs k 0))) 0 (least_le (length xs) (λ k. p (get_or xs k 0)))
    (λ k h. least_none (length xs) k (λ k. p (get_or xs k 0)) h) (λ h. least_passes (length xs) (λ k. p (get_or xs k 0)) h) in
    ap (λ m. cond (ltb m (length xs)) (Some m) None) e
