-- Laws of clauses that lie one behind the other.
use Rattle.std.specs.List.{slice_get}
use Rattle.std.proofs.Common.{◌≡◌, ℕ, zero, suc, ◌+◌, ◌-◌, ◌<◌, ◌≤◌, min, List, [], ◌∷◌, ◌++◌, map, length, get_or, take, drop, set, Some, None, unwrap_or, sym, refl, ap, ◌∙◌, zero-add, arith, length-append, length-drop, length-take}
use Rattle.std.proofs.lemmas.List.{append-nil, append_assoc, drop-drop, drop-set-lt, drop_at, length-set, length-take-le, map-id, take_at, take_more_set}
use Rattle.std.proofs.lemmas.List.Concat.{flat_map-append}
use Rattle.std.proofs.lemmas.Option.{slice_get-map, slice_get_past, unwrap_or-slice_get}
use Rattle.std.specs.Option.{option_map}
use Rattle.cnf.specs.Clauses.{Clause}
use Rattle.cnf.specs.States.{added, form_refusal, read_as}
use Rattle.sinks.specs.Table.{LaidOut, behind, cut, joined, laid, part, table_cost, table_state}
use Rattle.sinks.proofs.Forms.{priced_taken}

-- clauses that are laid out are cut back
part_at : {X : Type 0} (pre c rest : List X) → part (pre ++ (c ++ rest)) (length pre, length c) ≡ c
part_at pre c rest = ap (take (length c)) (drop_at pre (c ++ rest) (length pre) refl) ∙ take_at c rest (length c) refl

cut_laid : {X : Type 0} (pre : List X) (cs : List (List X)) → cut (laid (length pre) (map length cs)) (pre ++ joined cs) ≡ cs
cut_laid pre [] = refl
cut_laid pre (c ∷ cs) =
    (λ i. part_at pre c (joined cs) i
    ∷ cut (laid (sym (length-append pre c) i) (map length cs)) (sym (append_assoc pre c (joined cs)) i))
    ∙ ap (λ ds. c ∷ ds) (cut_laid (pre ++ c) cs)

-- one clause more
laid_push
    : {X : Type 0} (at : ℕ) (cs : List (List X)) (c : List X)
    → laid at (map length (cs ++ (c ∷ []))) ≡ laid at (map length cs) ++ ((at + length (joined cs), length c) ∷ [])
laid_push at [] c = ap (λ (k : ℕ). (k, length c) ∷ []) (omega arith)
laid_push at (d ∷ cs) c =
    let e : at + length d + length (joined cs) ≡ at + length (d ++ joined cs) = omega (arith, length-append d (joined cs)) in
    ap (λ l. (at, length d) ∷ l)
    (laid_push (at + length d) cs c ∙ ap (λ (k : ℕ). laid (at + length d) (map length cs) ++ ((k, length c) ∷ [])) e)

joined_push : {X : Type 0} (cs : List (List X)) (c : List X) → joined (cs ++ (c ∷ [])) ≡ joined cs ++ c
joined_push cs c = flat_map-append (λ c. c) cs (c ∷ []) ∙ ap (λ xs. joined cs ++ xs) (append-nil c)

module _ {ps : List (ℕ × ℕ)} {xs : Clause} (laid_out : LaidOut ps xs) where
  module _ (c : Clause) where
    pairs_push : ps ++ ((length xs, length c) ∷ []) ≡ laid 0 (map length (cut ps xs ++ (c ∷ [])))
    pairs_push =
        (λ i. laid_out.pairs_are i ++ ((length (laid_out.literals_are i), length c) ∷ []))
        ∙ ap (λ (k : ℕ). laid 0 (map length (cut ps xs)) ++ ((k, length c) ∷ [])) (sym (zero-add (length (joined (cut ps xs)))))
        ∙ sym (laid_push 0 (cut ps xs) c)

    literals_push : xs ++ c ≡ joined (cut ps xs ++ (c ∷ []))
    literals_push = ap (λ ys. ys ++ c) laid_out.literals_are ∙ sym (joined_push (cut ps xs) c)

    pub cut_push : cut (ps ++ ((length xs, length c) ∷ [])) (xs ++ c) ≡ cut ps xs ++ (c ∷ [])
    cut_push = (λ i. cut (pairs_push i) (literals_push i)) ∙ cut_laid [] (cut ps xs ++ (c ∷ []))

    laid_out_push : LaidOut (ps ++ ((length xs, length c) ∷ [])) (xs ++ c)
    laid_out_push = record {
      pairs_are = pairs_push ∙ ap (λ cs. laid 0 (map length cs)) (sym cut_push);
      literals_are = literals_push ∙ ap joined (sym cut_push);
    }

    pub clauses_more
        : (qs : List (ℕ × ℕ)) (ys : Clause) → qs ≡ ps ++ ((length xs, length c) ∷ []) → ys ≡ xs ++ c
        → cut qs ys ≡ cut ps xs ++ (c ∷ [])
    clauses_more qs ys e f = (λ i. cut (e i) (f i)) ∙ cut_push

    pub laid_out_more
        : (qs : List (ℕ × ℕ)) (ys : Clause) → qs ≡ ps ++ ((length xs, length c) ∷ []) → ys ≡ xs ++ c → LaidOut qs ys
    laid_out_more qs ys e f = rw (e, f) laid_out_push

  -- the lengths are told
  pub lengths_told : (k : ℕ) → option_map length (slice_get (cut ps xs) k) ≡ option_map (λ (p : ℕ × ℕ). p.1) (slice_get ps k)
  lengths_told k =
      sym (told 0 (cut ps xs) k) ∙ ap (λ qs. option_map (λ (p : ℕ × ℕ). p.1) (slice_get qs k)) (sym laid_out.pairs_are)
    where
      told
          : (at : ℕ) (cs : List Clause) (k : ℕ)
          → option_map (λ (p : ℕ × ℕ). p.1) (slice_get (laid at (map length cs)) k) ≡ option_map length (slice_get cs k)
      told at [] k = refl
      told at (c ∷ cs) zero = refl
      told at (c ∷ cs) (suc k) = told (at + length c) cs k

-- a literal of a part
nth_take : {X : Type 0} (n j : ℕ) (xs : List X) → j < n → slice_get (take n xs) j ≡ slice_get xs j
nth_take zero j xs h = absurd (omega arith)
nth_take (suc n) j [] h = refl
nth_take (suc n) zero (x ∷ xs) h = refl
nth_take (suc n) (suc j) (x ∷ xs) h = nth_take n j xs (omega arith)

nth_drop : {X : Type 0} (at j : ℕ) (xs : List X) → slice_get (drop at xs) j ≡ slice_get xs (at + j)
nth_drop zero j xs = ap (slice_get xs) (sym (zero-add j))
nth_drop (suc at) j [] = refl
nth_drop (suc at) j (x ∷ xs) =
    let e : suc (at + j) ≡ suc at + j = omega arith in
    nth_drop at j xs ∙ ap (slice_get (x ∷ xs)) e

-- the clause of a pair, and its literals
clause_at : (ps : List (ℕ × ℕ)) (xs : Clause) (k : ℕ) → get_or (cut ps xs) k [] ≡ unwrap_or (option_map (part xs) (slice_get ps k)) []
clause_at ps xs k =
    sym (unwrap_or-slice_get (cut ps xs) k []) ∙ ap (λ o. unwrap_or o []) (slice_get-map (part xs) ps k)

pub no_clause : (ps : List (ℕ × ℕ)) (xs : Clause) (k j : ℕ) → slice_get ps k ≡ None → slice_get (get_or (cut ps xs) k []) j ≡ None
no_clause ps xs k j e =
    ap (λ c. slice_get c j) (clause_at ps xs k ∙ ap (λ o. unwrap_or (option_map (part xs) o) []) e)

pub no_literal
    : (ps : List (ℕ × ℕ)) (xs : Clause) (k j at n : ℕ) → slice_get ps k ≡ Some (at, n) → n ≤ j → slice_get (get_or (cut ps xs) k []) j ≡ None
no_literal ps xs k j at n e h =
    ap (λ c. slice_get c j) (clause_at ps xs k ∙ ap (λ o. unwrap_or (option_map (part xs) o) []) e)
    ∙ slice_get_past (part xs (at, n)) j (simp length-take (omega arith))

pub literal_at
    : (ps : List (ℕ × ℕ)) (xs : Clause) (k j at n : ℕ) → slice_get ps k ≡ Some (at, n) → j < n
    → slice_get (get_or (cut ps xs) k []) j ≡ slice_get xs (at + j)
literal_at ps xs k j at n e h =
    ap (λ c. slice_get c j) (clause_at ps xs k ∙ ap (λ o. unwrap_or (option_map (part xs) o) []) e) ∙ nth_take n j (drop at xs) h
    ∙ nth_drop at j xs

-- a clause stored behind the first u literals
stored_front : {X : Type 0} (xs c : List X) (u : ℕ) → u + length c ≤ length xs → take (u + length c) (behind u c xs) ≡ take u xs ++ c
stored_front xs c u h =
    let n : length (take u xs ++ c) ≡ u + length c = simp (length-append, length-take) (omega arith) in
    ap (take (u + length c)) (sym (append_assoc (take u xs) c (drop (u + length c) xs)))
    ∙ take_at (take u xs ++ c) (drop (u + length c) xs) (u + length c) n

stored_rest : {X : Type 0} (xs c : List X) (u : ℕ) → u + length c ≤ length xs → drop (u + length c) (behind u c xs) ≡ drop (u + length c) xs
stored_rest xs c u h =
    let n : length (take u xs ++ c) ≡ u + length c = simp (length-append, length-take) (omega arith) in
    ap (drop (u + length c)) (sym (append_assoc (take u xs) c (drop (u + length c) xs)))
    ∙ drop_at (take u xs ++ c) (drop (u + length c) xs) (u + length c) n

stored_length : {X : Type 0} (xs c : List X) (u : ℕ) → u + length c ≤ length xs → length (behind u c xs) ≡ length xs
stored_length xs c u h = simp (length-append, length-take, length-drop) (omega arith)

-- a table with one clause more
module _ (pairs : List (ℕ × ℕ)) (n : ℕ) (xs : Clause) (u : ℕ) (c : Clause) (laid_out : LaidOut (take n pairs) (take u xs)) (listed : n < length pairs) (inside : u + length c ≤ length xs) where
  pairs_are : take (n + 1) (set pairs n (u, length c)) ≡ take n pairs ++ ((length (take u xs), length c) ∷ [])
  pairs_are =
      take_more_set pairs n (u, length c) listed
      ∙ ap (λ (k : ℕ). take n pairs ++ ((k, length c) ∷ [])) (sym (length-take-le u xs (omega arith)))

  pub table_laid_out : LaidOut (take (n + 1) (set pairs n (u, length c))) (take (u + length c) (behind u c xs))
  table_laid_out = laid_out_more laid_out c _ _ pairs_are (stored_front xs c u inside)

  pub table_appended : cut (take (n + 1) (set pairs n (u, length c))) (take (u + length c) (behind u c xs)) ≡ cut (take n pairs) (take u xs) ++ (c ∷ [])
  table_appended = clauses_more laid_out c _ _ pairs_are (stored_front xs c u inside)

  pub table_added : form_refusal 1_073_741_823 256 c ≡ None → table_state (set pairs n (u, length c)) (n + 1) (behind u c xs) (u + length c) ≡ added (table_state pairs n xs u) c
  table_added fine =
      let t : table_cost c ≡ length c = priced_taken 1_073_741_823 256 length (λ c. c) c fine in
      let e : min (length (set pairs n (u, length c))) 1_000_000 - (n + 1) ≡ min (length pairs) 1_000_000 - n - 1 =
      omega (arith, length-set pairs n (u, length c)) in
      let f : min (length (behind u c xs)) 1_073_741_824 - (u + length c) ≡ min (length xs) 1_073_741_824 - u - table_cost c =
      omega (arith, t, stored_length xs c u inside) in
      let p : drop (n + 1) (set pairs n (u, length c)) ≡ drop 1 (drop n pairs) =
      drop-set-lt (n + 1) pairs n (u, length c) (omega arith) ∙ sym (drop-drop 1 n pairs) in
      let y : drop (u + length c) (behind u c xs) ≡ drop (table_cost c) (drop u xs) =
      stored_rest xs c u inside ∙ sym (drop-drop (length c) u xs) ∙ ap (λ k. drop k (drop u xs)) (sym t) in
      λ i. record {
        top = 1_073_741_823;
        longest = 256;
        cost = table_cost;
        entries = e i;
        units = f i;
        spare = y i;
        spare_pairs = p i;
        layers = [];
        bottom = table_appended i;
      }

-- a table has no layers, and reads its clauses as they are
pub read_as_they_are : (cs : List Clause) → cs ≡ map (read_as []) cs
read_as_they_are cs = sym (map-id cs)
