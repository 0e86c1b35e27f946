-- Chosen arcs without a ring have a rank: numbers of the nodes, below how many there are, that rise along every chosen arc.
use Rattle.std.specs.Prelude.{◌≡◌, ℕ, ◌<◌, Bool, true, false, ◌&&◌, ◌||◌, List, [], ◌∷◌, length, Decides, ◌==◌, slice_index_or, refl}
use Rattle.std.proofs.Math.Path.{subst}
use Rattle.cnf.specs.Satisfaction.{Values}
use Rattle.graph.proofs.Ranks.{rank_law}
use Rattle.graph.proofs.Walks.{map_walk, no_ring}
use Rattle.graph.specs.Walks.{Edges, Inside, Ringless}
use Rattle.std.proofs.lemmas.List.{get_or_default}
use Rattle.std.proofs.lemmas.Bool.Decides.{Decides-and, Decides-by_or, Decides-eqb}
use Rattle.std.specs.List.{HoldsAt}
use Rattle.closings.specs.Arcs.{no_arc}
use Rattle.closings.specs.Inputs.{Chosen, Input, Lawful}
use Rattle.closings.specs.declared.arc.Arc.{Arc}

-- whether an arc is chosen and leads from i to j, as a test and as a fact
abbrev joins : Values → ℕ → ℕ → Arc → Bool
joins σ i j a = a.from == i && (a.to == j && σ a.variable)

abbrev Joins : Values → ℕ → ℕ → Arc → Type 0
Joins σ i j a = (a.from ≡ i) × ((a.to ≡ j) × (σ a.variable ≡ true))

abbrev some_joins : Values → ℕ → ℕ → List Arc → Bool
some_joins σ i j [] = false
some_joins σ i j (a ∷ es) = joins σ i j a || some_joins σ i j es

some_decides
    : (σ : Values) (i j : ℕ) (es : List Arc)
    → Decides (some_joins σ i j es) ((k : ℕ) × (k < length es) × HoldsAt (Joins σ i j) es k)
some_decides σ i j es =
    Decides-by_or (joins σ i j) (Joins σ i j) (some_joins σ i j)
    (λ a.
    Decides-and (a.from == i) (a.to == j && σ a.variable) (Decides-eqb a.from i)
    (Decides-and (a.to == j) (σ a.variable) (Decides-eqb a.to j) (λ h. h, λ h. h)))
    refl (λ _ _. refl) es

module _ (x : Input) (σ : Values) where
  -- the chosen arcs as a test
  pub edge : Edges
  edge i j = some_joins σ i j x.arcs

  pub edge_chosen : (i j : ℕ) → edge i j ≡ true → Chosen x σ i j
  unfolding edge
  edge_chosen i j h =
      let d = (some_decides σ i j x.arcs).0 h in
      let s = d.2 no_arc in
      record { arc = d.0; is_arc = d.1; leaves = s.0; enters = s.1.0; chosen = s.1.1 }

  pub chosen_edge : (i j : ℕ) → Chosen x σ i j → edge i j ≡ true
  unfolding edge
  chosen_edge i j s =
      (some_decides σ i j x.arcs).1 (s.arc, s.is_arc, λ d. at d (get_or_default x.arcs s.arc no_arc d s.is_arc))
    where
      at : (d : Arc) → slice_index_or x.arcs s.arc no_arc ≡ slice_index_or x.arcs s.arc d → Joins σ i j (slice_index_or x.arcs s.arc d)
      at d e = subst (Joins σ i j) e (s.leaves, (s.enters, s.chosen))

  pub chosen_inside : Lawful x → (i j : ℕ) → Chosen x σ i j → (i < x.nodes) × (j < x.nodes)
  chosen_inside law i j s =
      let e = law.ends s.arc s.is_arc in
      (subst (λ (u : ℕ). u < x.nodes) s.leaves e.0, subst (λ (u : ℕ). u < x.nodes) s.enters e.1)

  pub ranked
      : Lawful x → Ringless (Chosen x σ)
      → (ρ : ℕ → ℕ) × ((i : ℕ) → i < x.nodes → ρ i < x.nodes) × ((i j : ℕ) → Chosen x σ i j → ρ i < ρ j)
  ranked law free =
      let inside : Inside x.nodes edge = λ i j h. chosen_inside law i j (edge_chosen i j h) in
      let r = (rank_law x.nodes edge inside).0 (λ o. free (o.0, map_walk edge_chosen o.1)) in
      (r.rank, r.low, λ i j s. r.rises i j (chosen_edge i j s))

  pub rises_ringless : (ρ : ℕ → ℕ) → ((i j : ℕ) → Chosen x σ i j → ρ i < ρ j) → Ringless (Chosen x σ)
  rises_ringless ρ h = no_ring ρ h
