-- Lists made by ranges: what stands at a place, and what holds of each element; and how a clause at a place is told.
use Rattle.std.specs.List.{slice_get}
use Rattle.std.specs.Prelude.{◌≡◌, ℕ, zero, suc, ◌+◌, ◌*◌, ◌/◌, ◌%◌, ◌<◌, List, [], ◌∷◌, ◌++◌, length, get_or, Some, None, Option, slice_index_or, refl}
use Rattle.std.proofs.Common.{◌∙◌, ap, subst, sym, add-zero, div-add-mod', mul-zero, suc-mul, zero-add, zero-mul, arith}
use Rattle.std.proofs.lemmas.Option.{slice_get-get_or}
use Rattle.std.proofs.lemmas.Nat.{div_below, mod_below}
use Rattle.std.proofs.lemmas.List.FromFn.{get_or-range_with_len, get_or-map-range_with_len, length-range_with_len, length-map-range_with_len}
use Rattle.cnf.proofs.Every.{all_append, all_at, all_from_get_or}
use Rattle.std.proofs.lemmas.List.{length-append}
use Rattle.std.specs.List.{range_with_len, flat_map, AllByRecursion}
use Rattle.closings.specs.Ranges.{each, upto}

pub none≢some : {X : Type 0} {x : X} → ◌≡◌ {A = Option X} None (Some x) → ⊥
none≢some h = let z : ◌≡◌ {A = ℕ} 0 1 = cc in omega arith

pub some_same : {X : Type 0} {x y : X} → ◌≡◌ {A = Option X} (Some x) (Some y) → x ≡ y
some_same h = cc

pub factor_positive : (a b k : ℕ) → k < a * b → 0 < b
factor_positive a zero k h = omega (arith, mul-zero a)
factor_positive a (suc b) k h = omega arith

module _ {X : Type 0} where
  -- element j of the list that stands at k
  pub told : (xs : List (List X)) (k j : ℕ) (x : List X) → slice_get xs k ≡ Some x → slice_get (slice_index_or xs k []) j ≡ slice_get x j
  told [] k j x h = absurd (none≢some h)
  told (y ∷ xs) zero j x h = ap (λ z. slice_get z j) (some_same h)
  told (y ∷ xs) (suc k) j x h = told xs k j x h

  pub told_none : (xs : List (List X)) (k j : ℕ) → slice_get xs k ≡ None → slice_get (slice_index_or xs k []) j ≡ None
  told_none [] k j h = refl
  told_none (y ∷ xs) zero j h = absurd (none≢some (sym h))
  told_none (y ∷ xs) (suc k) j h = told_none xs k j h

  pub nth_left : (xs ys : List X) (k : ℕ) → k < length xs → slice_get (xs ++ ys) k ≡ slice_get xs k
  nth_left [] ys k h = absurd (omega arith)
  nth_left (x ∷ xs) ys zero h = refl
  nth_left (x ∷ xs) ys (suc k) h = nth_left xs ys k (omega arith)

  -- a place past the front, which is of length n
  pub nth_right : (xs ys : List X) (n k : ℕ) → length xs ≡ n → slice_get (xs ++ ys) (n + k) ≡ slice_get ys k
  nth_right [] ys n k e = let z : n + k ≡ k = omega arith in ap (slice_get ys) z
  nth_right (x ∷ xs) ys zero k e = absurd (omega arith)
  nth_right (x ∷ xs) ys (suc n) k e =
      let s : suc n + k ≡ suc (n + k) = omega arith in
      ap (slice_get (x ∷ (xs ++ ys))) s ∙ nth_right xs ys n k (omega arith)

  pub length_upto : (f : ℕ → X) (n : ℕ) → length (upto n f) ≡ n
  length_upto f n = length-map-range_with_len f 0 n

  pub get_or_upto : (f : ℕ → X) (n k : ℕ) (d : X) → k < n → slice_index_or (upto n f) k d ≡ f k
  get_or_upto f n k d h = get_or-map-range_with_len f 0 n k k d h (omega arith)

  pub nth_upto : (f : ℕ → X) (n k : ℕ) → k < n → slice_get (upto n f) k ≡ Some (f k)
  nth_upto f n k h = slice_get-get_or (upto n f) k (f k) (omega (arith, length_upto f n)) ∙ ap Some (get_or_upto f n k (f k) h)

  -- rows of equal width
  module _ (f : ℕ → List X) (w : ℕ) (even : (i : ℕ) → length (f i) ≡ w) where
    length_from : (a n : ℕ) → length (flat_map f (range_with_len a n)) ≡ n * w
    length_from a zero = sym (zero-mul w)
    length_from a (suc n) =
        length-append (f a) (flat_map f (range_with_len (a + 1) n)) ∙ omega (arith, even a, length_from (a + 1) n, suc-mul n w)

    pub length_each : (n : ℕ) → length (each n f) ≡ n * w
    length_each n = length_from 0 n

    nth_from : (a n i c : ℕ) → i < n → c < w → slice_get (flat_map f (range_with_len a n)) (i * w + c) ≡ slice_get (f (a + i)) c
    nth_from a zero i c h l = absurd (omega arith)
    nth_from a (suc n) zero c h l =
        let e : 0 * w + c ≡ c = omega (arith, zero-mul w) in
        ap (slice_get (flat_map f (range_with_len a (suc n)))) e
        ∙ nth_left (f a) (flat_map f (range_with_len (a + 1) n)) c (omega (arith, even a))
        ∙ ap (λ b. slice_get (f b) c) (sym (add-zero a))
    nth_from a (suc n) (suc i) c h l =
        let e : suc i * w + c ≡ w + (i * w + c) = omega (arith, suc-mul i w) in
        ap (slice_get (flat_map f (range_with_len a (suc n)))) e
        ∙ nth_right (f a) (flat_map f (range_with_len (a + 1) n)) w (i * w + c) (even a)
        ∙ nth_from (a + 1) n i c (omega arith) l
        ∙ ap (λ b. slice_get (f b) c) (omega arith)

    -- what stands at a place stands in its row and column
    pub nth_each : (n k : ℕ) → 0 < w → k < n * w → slice_get (each n f) k ≡ slice_get (f (k / w)) (k % w)
    nth_each n k p h =
        ap (slice_get (each n f)) (sym (div-add-mod' k w))
        ∙ nth_from 0 n (k / w) (k % w) (div_below k w n p h) (mod_below k w p)
        ∙ ap (λ b. slice_get (f b) (k % w)) (zero-add (k / w))

  -- what holds of each element
  module _ (P : X → Type 0) where
    pub all_left : (xs ys : List X) → AllByRecursion P (xs ++ ys) → AllByRecursion P xs
    all_left [] ys h = tt
    all_left (x ∷ xs) ys h = (h.0, all_left xs ys h.1)

    pub all_right : (xs ys : List X) → AllByRecursion P (xs ++ ys) → AllByRecursion P ys
    all_right [] ys h = h
    all_right (x ∷ xs) ys h = all_right xs ys h.1

    pub all_upto : (f : ℕ → X) (n : ℕ) → ((i : ℕ) → i < n → P (f i)) → AllByRecursion P (upto n f)
    all_upto f n h =
        all_from_get_or P (upto n f) (f 0) (λ i l.
        let k : i < n = omega (arith, length_upto f n) in subst P (sym (get_or_upto f n i (f 0) k)) (h i k))

    pub upto_all : (f : ℕ → X) (n : ℕ) → AllByRecursion P (upto n f) → (i : ℕ) → i < n → P (f i)
    upto_all f n h i l =
        subst P (get_or_upto f n i (f 0) l) (all_at P (upto n f) i (f 0) (omega (arith, length_upto f n)) h)

    all_joined : (f : ℕ → List X) (is : List ℕ) → AllByRecursion (λ i. AllByRecursion P (f i)) is → AllByRecursion P (flat_map f is)
    all_joined f [] h = tt
    all_joined f (i ∷ is) h = all_append P (f i) (flat_map f is) h.0 (all_joined f is h.1)

    joined_all : (f : ℕ → List X) (is : List ℕ) → AllByRecursion P (flat_map f is) → AllByRecursion (λ i. AllByRecursion P (f i)) is
    joined_all f [] h = tt
    joined_all f (i ∷ is) h = (all_left (f i) (flat_map f is) h, joined_all f is (all_right (f i) (flat_map f is) h))

    pub all_each : (f : ℕ → List X) (n : ℕ) → ((i : ℕ) → i < n → AllByRecursion P (f i)) → AllByRecursion P (each n f)
    all_each f n h =
        let Q : ℕ → Type 0 = λ i. AllByRecursion P (f i) in
        all_joined f (range_with_len 0 n) (all_from_get_or Q (range_with_len 0 n) 0 (λ i l.
        let k : i < n = omega (arith, length-range_with_len 0 n) in
        let e : get_or (range_with_len 0 n) i 0 ≡ i = omega (arith, get_or-range_with_len 0 n i 0 k) in
        subst Q (sym e) (h i k)))

    pub each_all : (f : ℕ → List X) (n : ℕ) → AllByRecursion P (each n f) → (i : ℕ) → i < n → AllByRecursion P (f i)
    each_all f n h i l =
        let Q : ℕ → Type 0 = λ j. AllByRecursion P (f j) in
        let e : get_or (range_with_len 0 n) i 0 ≡ i = omega (arith, get_or-range_with_len 0 n i 0 l) in
        subst Q e
        (all_at Q (range_with_len 0 n) i 0 (omega (arith, length-range_with_len 0 n))
        (joined_all f (range_with_len 0 n) h))
