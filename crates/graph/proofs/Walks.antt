-- Walks: along one a rank rises, two join, and one maps into another graph.
use Rattle.std.proofs.Common.{ℕ, ◌<◌, arith}
use Rattle.graph.specs.Ranks.{Rises}
use Rattle.graph.specs.Walks.{Ringless, Walk, more, one}

pub rise_walk : {R : ℕ → ℕ → Type 0} {x y : ℕ} (ρ : ℕ → ℕ) → Rises ρ R → Walk R x y → ρ x < ρ y
rise_walk ρ h (one {x = x} {y = y} e) = h x y e
rise_walk ρ h (more {x = x} {y = y} e k) =
    let a : ρ x < ρ y = h x y e in
    let b = rise_walk ρ h k in omega arith

pub no_ring : {R : ℕ → ℕ → Type 0} (ρ : ℕ → ℕ) → Rises ρ R → Ringless R
no_ring ρ h (x, k) = let b = rise_walk ρ h k in omega arith

pub join : {R : ℕ → ℕ → Type 0} {x y z : ℕ} → Walk R x y → Walk R y z → Walk R x z
join (one e) l = more e l
join (more e k) l = more e (join k l)

-- each edge of R is a walk of S
pub unfold_walk : {R S : ℕ → ℕ → Type 0} {x y : ℕ} → ((u w : ℕ) → R u w → Walk S u w) → Walk R x y → Walk S x y
unfold_walk f (one {x = x} {y = y} e) = f x y e
unfold_walk f (more {x = x} {y = y} e k) = join (f x y e) (unfold_walk f k)

-- each edge of R is an edge of S
pub map_walk : {R S : ℕ → ℕ → Type 0} {x y : ℕ} → ((u w : ℕ) → R u w → S u w) → Walk R x y → Walk S x y
map_walk f k = unfold_walk (λ u w e. one (f u w e)) k
