-- One turn of the loop that places nodes.
use Rattle.std.proofs.Common.{◌≡◌, ℕ, suc, ◌+◌, ◌-◌, ◌<◌, ◌≤◌, true, false, cond, ◌&&◌, eqb, List, [], ◌∷◌, ◌++◌, length, get_or, take, set, Some, None, sym, refl, ap, ◌∙◌, subst, inl, inr, arith}
use Rattle.graph.specs.Counts.{least}
use Rattle.graph.specs.Walks.{Edges}
use Rattle.graph.proofs.Counts.{count_less, count_same, has_push, least_passes, least_same}
use Rattle.std.proofs.lemmas.List.{get_or-set_other, get_or-set_same, length-set, take_more_set}
use Rattle.std.proofs.lemmas.Bool.{and_parts, cases_Bool, cases_eq, le-ltb, lt-ltb}
use Rattle.std.proofs.lemmas.Bool.Decides.{nat_tests}
use Rattle.judge.specs.First.{first_below}
use Rattle.judge.specs.Marks.{unmarked}
use Rattle.judge.specs.Placed.{Placed}
use Rattle.judge.specs.Placing.{in_degree, next_node, order, order_from, outside}
use Rattle.judge.proofs.First.{none_found, some_found}

-- the marks of the nodes below n say which are placed
abbrev pub Matches : ℕ → List ℕ → List ℕ → Type 0
Matches n marks placed = (u : ℕ) → u < n → unmarked marks u ≡ outside placed u

-- the in-degrees of the nodes below n
abbrev pub Degrees : Edges → ℕ → List ℕ → List ℕ → Type 0
Degrees r n placed degrees = (w : ℕ) → w < n → get_or degrees w 0 ≡ in_degree r n (outside placed) w

module _ (r : Edges) (n : ℕ) (marks placed degrees : List ℕ) (m : Matches n marks placed) (d : Degrees r n placed degrees)
    (w : ℕ) (is : w ≡ least n (λ w. unmarked marks w && eqb (get_or degrees w 0) 0)) where
  -- what is found by marks and in-degrees is the next node
  pub next_is : w ≡ next_node r n (outside placed)
  next_is = is ∙ least_same n _ _ (λ u h. let a = m u h in let b = d u h in rw (a, b) refl)

  pub next_outside : w < n → outside placed w ≡ true
  next_outside l =
      let e = next_is in
      let p = least_passes n (λ w. outside placed w && eqb (in_degree r n (outside placed) w) 0) (omega (arith, e)) in
      ap (outside placed) e ∙ (and_parts _ _ p).0

  pub order_stop : (k : ℕ) → n ≤ w → order_from r n (suc k) placed ≡ placed
  unfolding order_from
  order_stop k l = let e = next_is in let t = le-ltb (next_node r n (outside placed)) n (omega (arith, e)) in rw t refl

  pub order_step : (k : ℕ) → w < n → order_from r n (suc k) placed ≡ order_from r n k (placed ++ w ∷ [])
  unfolding order_from
  order_step k l =
      let e = next_is in
      let t = lt-ltb (next_node r n (outside placed)) n (omega (arith, e)) in
      rw (t, ← e) refl

  -- one node more is placed
  pub matches_more : w < length marks → Matches n (set marks w 1) (placed ++ w ∷ [])
  matches_more l u h =
      let p = has_push placed w u in
      let g = m u h in
      elim (cases_eq u w) [
        | inl e ↦
            let s : get_or (set marks w 1) u 0 ≡ 1 = rw e (get_or-set_same marks w 1 0 l) in
            rw (s, p) (grind (arith, nat_tests, e))
        | inr ne ↦ let s = get_or-set_other marks w u 1 0 ne in rw (s, p) (grind (arith, nat_tests, ne, g))
      ]

  -- and its edges no longer count
  pub degrees_more
      : (after : List ℕ) → w < n → ((v : ℕ) → v < n → get_or after v 0 ≡ get_or degrees v 0 - cond (r w v) 1 0)
      → Degrees r n (placed ++ w ∷ []) after
  degrees_more after l a v h =
      let o = next_outside l in
      let others : (u : ℕ) → (u ≡ w → ⊥) → outside placed u ≡ outside (placed ++ w ∷ []) u =
      λ u ne. let p = has_push placed w u in grind (arith, nat_tests, p, ne) in
      let gone : outside (placed ++ w ∷ []) w ≡ false = let p = has_push placed w w in grind (arith, nat_tests, p) in
      elim (cases_Bool (r w v)) [
        | inl t ↦
            let c = count_less n w (λ u. outside placed u && r u v) (λ u. outside (placed ++ w ∷ []) u && r u v) l
            (rw (o, t) refl) (rw gone refl) (λ u b ne. ap (λ z. z && r u v) (others u ne)) in
            let x = a v h in let y = d v h in grind (arith, t, c, x, y)
        | inr f ↦
            let c = count_same n (λ u. outside placed u && r u v) (λ u. outside (placed ++ w ∷ []) u && r u v)
            (λ u b. elim (cases_eq u w) [
              | inl e ↦ let z : r u v ≡ false = ap (λ u. r u v) e ∙ f in grind (arith, z)
              | inr ne ↦ ap (λ z. z && r u v) (others u ne)
            ]) in
            let x = a v h in let y = d v h in grind (arith, f, c, x, y)
      ]

-- where the loop that places nodes stands once it has placed k of them
pub record Placing (r : Edges) (n : ℕ) (marks out degrees : List ℕ) (k : ℕ) : Type 0 where
  pub long : length out ≡ 64
  pub degrees_long : length degrees ≡ 64
  pub rest : order_from r n (n - k) (take k out) ≡ order r n
  pub matches : Matches n marks (take k out)
  pub degrees_are : Degrees r n (take k out) degrees

-- the nodes listed are all that can be placed
placed_all
    : (r : Edges) (n k : ℕ) (marks out degrees : List ℕ) → Placing r n marks out degrees k
    → order_from r n (n - k) (take k out) ≡ take k out → Placed r n marks (take k out)
placed_all r n k marks out degrees p stop =
    let e : take k out ≡ order r n = sym stop ∙ p.rest in
    record { listed = e; marked = λ u h. p.matches u h ∙ ap (λ (ns : List ℕ). outside ns u) e }

pub placed_full
    : (r : Edges) (n k : ℕ) (marks out degrees : List ℕ) → k ≡ n → Placing r n marks out degrees k → Placed r n marks (take n out)
unfolding order_from
placed_full r n k marks out degrees e p =
    let z : n - k ≡ 0 = omega arith in
    subst (λ m. Placed r n marks (take m out)) e (placed_all r n k marks out degrees p (rw z refl))

module _ (r : Edges) (n k : ℕ) (marks out degrees : List ℕ) (p : Placing r n marks out degrees k) (l : k < n) where
  one_less : n - k ≡ suc (n - (k + 1))
  one_less = omega arith

  pub placed_stop
      : None ≡ first_below n (λ w. unmarked marks w && eqb (get_or degrees w 0) 0) → Placed r n marks (take k out)
  placed_stop none =
      placed_all r n k marks out degrees p
      (rw one_less (order_stop r n marks (take k out) degrees p.matches p.degrees_are _ refl _ (none_found n _ none)))

  module _ (low : n ≤ 64) (w : ℕ) (some : Some w ≡ first_below n (λ w. unmarked marks w && eqb (get_or degrees w 0) 0)) where
    found : (w < n) × (w ≡ least n (λ w. unmarked marks w && eqb (get_or degrees w 0) 0))
    found = some_found n _ w some

    pub placing_more
        : (after : List ℕ) → n ≤ length marks → length after ≡ 64
        → ((v : ℕ) → v < n → get_or after v 0 ≡ get_or degrees v 0 - cond (r w v) 1 0)
        → Placing r n (set marks w 1) (set out k w) after (k + 1)
    placing_more after fits e a =
        let t = take_more_set out k w (omega (arith, p.long)) in
        record {
          long = length-set out k w ∙ p.long;
          degrees_long = e;
          rest = rw t (sym (order_step r n marks (take k out) degrees p.matches p.degrees_are w found.1 _ found.0)
              ∙ ap (λ m. order_from r n m (take k out)) (sym one_less) ∙ p.rest);
          matches = rw t (matches_more r n marks (take k out) degrees p.matches p.degrees_are w found.1 (omega (arith, found.0)));
          degrees_are = rw t (degrees_more r n marks (take k out) degrees p.matches p.degrees_are w found.1 after found.0 a);
        }
