-- The elimination law: a ring is still found once a node has left and edges bridge the ways through it.
use Rattle.std.proofs.Common.{◌≡◌, ℕ, true, false, not, ◌&&◌, ◌||◌, eqb, ◌⊎◌, sym, ◌∙◌, subst, inl, inr}
use Rattle.std.proofs.lemmas.Bool.{and_from, and_parts, both_ways, cases_eq, ne_eqb, not_from_false, or_cases, or_from, or_left, or_right}
use Rattle.graph.specs.Elimination.{Bridges, EliminationLaw, bridged}
use Rattle.graph.specs.Walks.{Edge, Edges, Ring, Walk, more, one}
use Rattle.graph.proofs.Walks.{join, map_walk, unfold_walk}

-- a node v with no edge to itself leaves: S has the edges of R elsewhere, and one for each way of two edges through v
module _ {R S : ℕ → ℕ → Type 0} (v : ℕ) (no_loop : R v v → ⊥)
    (keeps : (u w : ℕ) → (u ≡ v → ⊥) → (w ≡ v → ⊥) → R u w → S u w) (skips : (u w : ℕ) → R u v → R v w → S u w) where
  next_differs : {x y : ℕ} → x ≡ v → R x y → y ≡ v → ⊥
  next_differs {x} {y} p e q = no_loop (subst (λ t. R v t) q (subst (λ t. R t y) p e))

  skips_at : (x z y : ℕ) → z ≡ v → R x z → R z y → S x y
  skips_at x z y p d e = skips x y (subst (λ t. R x t) p d) (subst (λ t. R t y) p e)

  -- a walk of R to a node other than v gives one of S: from its start, or, where that is v, from any node with an edge to it
  walk_without
      : {x y : ℕ} → (y ≡ v → ⊥) → Walk R x y → ((x ≡ v → ⊥) → Walk S x y) × ((u : ℕ) → R u x → x ≡ v → Walk S u y)
  walk_without q (one {x = x} {y = y} e) = (λ p. one (keeps x y p q e), λ u d p. one (skips_at u x y p d e))
  walk_without q (more {x = x} {y = t} e k) =
      let i = walk_without q k in (
        λ p. elim (cases_eq t v) [ inl a ↦ i.1 x e a | inr a ↦ more (keeps x t p a e) (i.0 a) ],
        λ u d p. more (skips_at u x t p d e) (i.0 (next_differs p e)),
      )

  -- a ring at v is also a ring at another node
  ring_elsewhere : {x y : ℕ} → x ≡ v → y ≡ v → Walk R x y → (t : ℕ) × (t ≡ v → ⊥) × Walk R t t
  ring_elsewhere a b (one e) = absurd (next_differs a e b)
  ring_elsewhere a b (more {y = t} e k) =
      (t, next_differs a e, join k (one (subst (λ s. R s t) (a ∙ sym b) e)))

  pub eliminate : Ring R → Ring S
  eliminate (x, k) =
      elim (cases_eq x v) [
        | inl a ↦ let h = ring_elsewhere a a k in (h.0, (walk_without h.1 h.2).0 h.1)
        | inr a ↦ (x, (walk_without a k).0 a)
      ]

module _ (r : Edges) (v : ℕ) where
  pub bridged_walk : (u w : ℕ) → bridged v r u w ≡ true → Walk (Edge r) u w
  bridged_walk u w e =
      elim (or_cases (r u w) (r u v && r v w) (and_parts (not (eqb u v || eqb w v)) (r u w || (r u v && r v w)) e).1)
      [ inl a ↦ one a | inr a ↦ let p = and_parts (r u v) (r v w) a in more p.0 (one p.1) ]

  pub bridged_has : (u w : ℕ) → (u ≡ v → ⊥) → (w ≡ v → ⊥) → (r u w || (r u v && r v w)) ≡ true → bridged v r u w ≡ true
  bridged_has u w a b e = and_from _ _ (not_from_false _ (or_from _ _ (ne_eqb u v a) (ne_eqb w v b))) e

  bridged_keeps : r v v ≡ false → Ring (Edge r) → Ring (Edge (bridged v r))
  bridged_keeps f = eliminate v no_loop (λ u w a b e. bridged_has u w a b (or_left _ _ e)) skips
    where
      no_loop : r v v ≡ true → ⊥
      no_loop = both_ways (r v v) f

      skips : (u w : ℕ) → r u v ≡ true → r v w ≡ true → bridged v r u w ≡ true
      skips u w d e =
          let a : u ≡ v → ⊥ = λ p. no_loop (subst (λ t. r t v ≡ true) p d) in
          let b : w ≡ v → ⊥ = λ p. no_loop (subst (λ t. r v t ≡ true) p e) in
          bridged_has u w a b (or_right _ _ (and_from _ _ d e))

-- the edges of s, with an edge from a node to itself for each way through v and back
abbrev Bridge : Edges → Edges → ℕ → ℕ → ℕ → Type 0
Bridge r s v u w = (s u w ≡ true) ⊎ ((u ≡ w) × (r u v ≡ true) × (r v w ≡ true))

bridges_keep : (r s : Edges) (v : ℕ) → Bridges r s v → Ring (Edge r) → Ring (Edge s)
bridges_keep r s v b k =
    let h : Ring (Bridge r s v) = eliminate v (λ e. b.apart v e e) (λ u w p q e. inl (b.keeps u w p q e)) skips k in
    (h.0, map_walk in_s h.1)
  where
    skips : (u w : ℕ) → r u v ≡ true → r v w ≡ true → Bridge r s v u w
    skips u w d e = elim (cases_eq u w) [ inl a ↦ inr (a, d, e) | inr a ↦ inl (b.skips u w a d e) ]

    in_s : (u w : ℕ) → Bridge r s v u w → s u w ≡ true
    in_s u w (inl e) = e
    in_s u w (inr (a, d, e)) = absurd (b.apart u d (subst (λ t. r v t ≡ true) (sym a) e))

pub elimination_law : EliminationLaw
elimination_law =
    (λ r v f. (bridged_keeps r v f, λ k. (k.0, unfold_walk (bridged_walk r v) k.1)), bridges_keep)
