-- Degrees of nodes, and the least node: counting arcs one node at a time, choosing the best node one at a time, and that the least
-- by degree of the nodes that remain is the best of all.
use denote.Param.Members.{Mut}
use denote.Ref.{Bor}
use Rattle.std.proofs.Common.{◌≡◌, ℕ, zero, suc, ◌+◌, ◌<◌, ◌≤◌, Bool, true, false, cond, not, ◌&&◌, ltb, Some, None, Option, List, [], ◌∷◌, ◌++◌, fold, filter, map-id, ap, refl, ◌∙◌, add-one, arith, below_more, sym, subst}
use Rattle.std.specs.Fn.{CalledAt}
use Rattle.std.specs.Iterator.{KeyTurn, PicksMinByKey}
use Rattle.std.specs.List.{FoldsTo}
use Rattle.std.specs.Ordering.{min_by_ordering, nat_cmp}
use Rattle.std.specs.declared.cmp.Ordering.{Ordering}
use Rattle.std.specs.declared.cmp.Ordering.TheVariants.{Less, Equal, Greater}
use Rattle.std.proofs.lemmas.Cmp.{ranked}
use Rattle.std.proofs.lemmas.Iterator.{YieldsList, items_from_drains}
use Rattle.std.specs.List.{range_with_len}
use Rattle.std.proofs.lemmas.List.FromFn.{map-range_with_len_more}
use Rattle.std.proofs.lemmas.List.Sums.{fold-append}
use Rattle.sheet.specs.Least.{LeastRight, better, degree, least_among, least_node}
use Rattle.sheet.specs.View.{View}
use Rattle.std.proofs.lemmas.Bool.{and_parts, both_ways, cond_both, le-ltb, lt-ltb, ltb-true, not-true}
use Rattle.std.proofs.lemmas.Bool.Decides.{nat_tests}

-- the numbers below k + 1 are those below k, and k
range_more : (k : ℕ) → range_with_len 0 (k + 1) ≡ range_with_len 0 k ++ (k ∷ [])
range_more k = sym (map-id (range_with_len 0 (k + 1))) ∙ map-range_with_len_more (λ x. x) 0 k k (omega arith) ∙ ap (λ xs. xs ++ (k ∷ [])) (map-id (range_with_len 0 k))

pub least_among_more : (s : View) (k : ℕ) → least_among s (k + 1) ≡ better s (least_among s k) k
least_among_more s k = ap (fold (better s) None) (range_more k) ∙ fold-append (better s) None (range_with_len 0 k) (k ∷ [])

-- the best of the nodes below k has the fewest arcs among them; where there is none, they are all out
abbrev RightBelow : View → ℕ → Option ℕ → Type 0
RightBelow s k None = (u : ℕ) → u < k → s.out u ≡ true
RightBelow s k (Some b) =
    (b < k) × (s.out b ≡ false) × ((w : ℕ) → w < k → s.out w ≡ false → degree s b ≤ degree s w)
    × ((w : ℕ) → w < b → s.out w ≡ false → degree s b < degree s w)

-- it stays so with one node more
right_better : (s : View) (k : ℕ) (o : Option ℕ) → RightBelow s k o → RightBelow s (k + 1) (better s o k)
right_better s k None h =
    cond_both (s.out k) None (Some k) (RightBelow s (k + 1)) (λ t. below_more _ k h t)
    (λ f. (
      omega arith,
      f,
      below_more _ k (λ w l e. absurd (both_ways _ e (h w l))) (λ e. omega arith),
      λ w l e. absurd (both_ways _ e (h w l)),
    ))
right_better s k (Some b) h =
    cond_both (not (s.out k) && ltb (degree s k) (degree s b)) (Some k) (Some b) (RightBelow s (k + 1))
    (λ t.
    let p = and_parts (not (s.out k)) (ltb (degree s k) (degree s b)) t in
    let l = ltb-true (degree s k) (degree s b) p.1 in (
      omega arith,
      not-true _ p.0,
      below_more _ k (λ w g e. omega (arith, h.2 w g e, l)) (λ e. omega arith),
      λ w g e. omega (arith, h.2 w g e, l),
    ))
    (λ f. (
      omega (arith, h.0),
      h.1,
      below_more _ k h.2 (λ e. grind (arith, nat_tests, e, f)),
      h.3,
    ))

right_among : (s : View) (k : ℕ) → RightBelow s k (least_among s k)
right_among s zero = λ u l. absurd (omega arith)
right_among s (suc k) =
    subst (λ j. RightBelow s j (least_among s j)) (add-one k)
    (subst (RightBelow s (k + 1)) (sym (least_among_more s k)) (right_better s k _ (right_among s k)))

right_all : (s : View) (o : Option ℕ) → RightBelow s s.nodes o → LeastRight s o
right_all s None h = h
right_all s (Some b) h = record { below = h.0; remains = h.1; fewest = h.2; first = h.3 }

pub least_right : (s : View) (o : Option ℕ) → o ≡ least_node s → LeastRight s o
least_right s o h = rw h (right_all s _ (right_among s s.nodes))

-- of the best node so far and a node that remains, the better
abbrev fewer : View → Option ℕ → ℕ → Option ℕ
fewer s None u = Some u
fewer s (Some b) u = cond (ltb (degree s u) (degree s b)) (Some u) (Some b)

turned : {A : Type 0} (b : Bool) (x y : A) → cond b x y ≡ cond (not b) y x
turned true x y = refl
turned false x y = refl

apart : {A : Type 0} (a b : Bool) (x y : A) → cond (a && b) x y ≡ cond a (cond b x y) y
apart true b x y = refl
apart false b x y = refl

better_fewer : (s : View) (o : Option ℕ) (u : ℕ) → better s o u ≡ cond (not (s.out u)) (fewer s o u) o
better_fewer s None u = turned (s.out u) None (Some u)
better_fewer s (Some b) u = apart (not (s.out u)) (ltb (degree s u) (degree s b)) (Some u) (Some b)

-- the best of nodes is the best of those that remain
one_chosen
    : (s : View) (b : Bool) (u : ℕ) (us vs : List ℕ) (o : Option ℕ) → ((p : Option ℕ) → fold (better s) p us ≡ fold (fewer s) p vs)
    → fold (better s) (cond b (fewer s o u) o) us ≡ fold (fewer s) o (cond b (u ∷ vs) vs)
one_chosen s true u us vs o h = h (fewer s o u)
one_chosen s false u us vs o h = h o

best_remaining : (s : View) (us : List ℕ) (o : Option ℕ) → fold (better s) o us ≡ fold (fewer s) o (filter (λ u. not (s.out u)) us)
best_remaining s [] o = refl
best_remaining s (u ∷ us) o =
    ap (λ p. fold (better s) p us) (better_fewer s o u)
    ∙ one_chosen s (not (s.out u)) u us (filter (λ u. not (s.out u)) us) o (best_remaining s us)

-- the lesser by degree, the earlier one on ties, is the better
lesser_fewer
    : (s : View) (b u : ℕ) (o : Ordering) → nat_cmp (degree s b) (degree s u) ≡ o → Some (min_by_ordering o b u) ≡ fewer s (Some b) u
lesser_fewer s b u Less e = ap (λ t. cond t (Some u) (Some b)) (sym (le-ltb (degree s u) (degree s b) (omega (arith, ranked (degree s b) (degree s u) Less (sym e)))))
lesser_fewer s b u Equal e = ap (λ t. cond t (Some u) (Some b)) (sym (le-ltb (degree s u) (degree s b) (omega (arith, ranked (degree s b) (degree s u) Equal (sym e)))))
lesser_fewer s b u Greater e = ap (λ t. cond t (Some u) (Some b)) (sym (lt-ltb (degree s u) (degree s b) (omega (arith, ranked (degree s b) (degree s u) Greater (sym e)))))

lesser_degree : (s : View) (b u : ℕ) (o : Ordering) → min_by_ordering o (degree s b) (degree s u) ≡ degree s (min_by_ordering o b u)
lesser_degree s b u Less = refl
lesser_degree s b u Equal = refl
lesser_degree s b u Greater = refl

module _
    (s : View) {F : Type 0} {g : Mut F (Bor ℕ × Unit {0}) ℕ} {f : F}
    (calls : (x r : ℕ) (q : F) → CalledAt g f x r q → (q ≡ f) × (r ≡ degree s x)) where
  picked
      : (xs : List ℕ) (p q : (F × ℕ) × ℕ) → p.0.0 ≡ f → p.0.1 ≡ degree s p.1
      → FoldsTo (KeyTurn min_by_ordering min_by_ordering g nat_cmp) p xs q → Some q.1 ≡ fold (fewer s) (Some p.1) xs
  picked [] p q a d h = ap (λ (w : (F × ℕ) × ℕ). Some w.1) (sym h)
  picked (x ∷ xs) p q a d h =
      let j = h.0 in
      let t = h.1 in
      let m = calls x t.0 j.0.0 (subst (λ w. CalledAt g w x t.0 j.0.0) a t.2) in
      let o : nat_cmp (degree s p.1) (degree s x) ≡ t.1 = (λ i. nat_cmp (sym d i) (sym m.1 i)) ∙ t.3 in
      let k : j.0.1 ≡ degree s j.1 =
      t.4 ∙ (λ i. min_by_ordering t.1 (d i) (m.1 i)) ∙ lesser_degree s p.1 x t.1 ∙ ap (degree s) (sym t.5) in
      picked xs j q m.0 k h.2 ∙ ap (λ b. fold (fewer s) b xs) (ap Some t.5 ∙ lesser_fewer s p.1 x t.1 o)

  least_yielded
      : {S : Type 0} {steps : S → Option ℕ → S → Type 0} {it : S} (r : Option ℕ) (all : List ℕ) → PicksMinByKey steps g nat_cmp it f r
      → YieldsList steps (λ x. x) it all → r ≡ fold (fewer s) None all
  least_yielded None all h e = ap (fold (fewer s) None) (items_from_drains [] (h.1.0, h.1.1, λ _. (h.0, h.1.2)) e)
  least_yielded (Some y) all h e =
      let m = calls h.0 h.2 h.3 h.6 in
      let d = h.5 in
      picked h.1 ((h.3, h.2), h.0) (h.4, y) m.0 m.1 h.7
      ∙ ap (fold (fewer s) None) (sym (map-id (h.0 ∷ h.1)) ∙ items_from_drains (h.0 ∷ h.1) (d.1.0, d.1.1, λ _. (d.0, d.1.2)) e)

  pub least_picked
      : {S : Type 0} {steps : S → Option ℕ → S → Type 0} {it : S} {r : Option ℕ} → PicksMinByKey steps g nat_cmp it f r
      → YieldsList steps (λ x. x) it (filter (λ u. not (s.out u)) (range_with_len 0 s.nodes)) → r ≡ least_node s
  least_picked {r = r} h e = least_yielded r _ h e ∙ sym (best_remaining s (range_with_len 0 s.nodes) None)
