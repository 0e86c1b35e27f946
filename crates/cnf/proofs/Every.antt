-- What holds of every entry of a list, said by recursion on the list, from the library's laws on what holds at every place.
use Rattle.std.proofs.Common.{◌≡◌, ℕ, ◌<◌, Bool, true, List, ◌++◌, map, length, get_or, filter}
use Rattle.std.specs.List.{AllByRecursion}
use Rattle.std.proofs.lemmas.List.Elements.{All-from_recursion, recursion_from_All}
use Rattle.std.proofs.lemmas.List.Elements as places

module _ {X : Type 0} (P : X → Type 0) where
  pub all_at : (xs : List X) (i : ℕ) (d : X) → i < length xs → AllByRecursion P xs → P (get_or xs i d)
  all_at xs i d l h = All-from_recursion P xs h i d l

  pub all_from_get_or : (xs : List X) (d : X) → ((i : ℕ) → i < length xs → P (get_or xs i d)) → AllByRecursion P xs
  all_from_get_or xs d h = recursion_from_All P xs (places.All-from_get_or P xs d h)

  pub all_append : (xs ys : List X) → AllByRecursion P xs → AllByRecursion P ys → AllByRecursion P (xs ++ ys)
  all_append xs ys h k =
      recursion_from_All P (xs ++ ys) (places.All-append P xs ys (All-from_recursion P xs h) (All-from_recursion P ys k))

  pub all_weaker : (Q : X → Type 0) → ((x : X) → P x → Q x) → (xs : List X) → AllByRecursion P xs → AllByRecursion Q xs
  all_weaker Q f xs h = recursion_from_All Q xs (places.All-weaker P Q f xs (All-from_recursion P xs h))

  pub all_map : {Y : Type 0} (f : Y → X) (ys : List Y) → AllByRecursion (λ y. P (f y)) ys → AllByRecursion P (map f ys)
  all_map f ys h = recursion_from_All P (map f ys) (places.All-map P f ys (All-from_recursion (λ y. P (f y)) ys h))

  pub all_filter : (p : X → Bool) (xs : List X) → AllByRecursion P xs → AllByRecursion P (filter p xs)
  all_filter p xs h = recursion_from_All P (filter p xs) (places.All-filter p P xs (All-from_recursion P xs h))

pub filter_all : {X : Type 0} (p : X → Bool) (xs : List X) → AllByRecursion (λ x. p x ≡ true) (filter p xs)
filter_all p xs = recursion_from_All (λ x. p x ≡ true) (filter p xs) (places.filter_passes p xs)
