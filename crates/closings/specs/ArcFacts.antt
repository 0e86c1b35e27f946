-- A lawful input has few arcs, and the input that lies in memory is ready.
use Rattle.std.specs.Prelude.{◌≡◌, ℕ, zero, suc, ◌+◌, ◌*◌, ◌<◌, ◌≤◌, ◌≢◌, refl}
use Rattle.std.proofs.Common.{ap, subst, subst₂, sym, arith}
use Rattle.std.proofs.lemmas.Nat.{mul-add-lt, mul-le}
use Rattle.std.proofs.lemmas.List.{get_or-take, length-take-le}
use Rattle.closings.specs.Arcs.{arc_in, no_arc, pair_in}
use Rattle.closings.specs.Inputs.{Input, Lawful, Ready, arc_at, arc_count, input}
use Rattle.closings.specs.declared.arc.Arc.{Arc}
use Rattle.closings.specs.declared.remaining.Remaining.{Remaining}

pair_above : (x : Input) → Lawful x → (a : ℕ) → a < arc_count x → a ≤ pair_in x.nodes x.arcs a
pair_above x h zero l = omega arith
pair_above x h (suc a) l =
    let below = pair_above x h a (omega arith) in
    let up = h.ascends a (omega arith) in
    let same : pair_in x.nodes x.arcs (a + 1) ≡ pair_in x.nodes x.arcs (suc a) =
    ap (pair_in x.nodes x.arcs) (omega arith) in
    omega arith

pub arcs_few : (x : Input) → Lawful x → arc_count x ≤ x.nodes * x.nodes
arcs_few x h = go (arc_count x) refl
  where
    go : (n : ℕ) → arc_count x ≡ n → arc_count x ≤ x.nodes * x.nodes
    go zero e = omega arith
    go (suc n) e =
        let l : n < arc_count x = omega arith in
        let above = pair_above x h n l in
        let ends = h.ends n l in
        let top = mul-add-lt (arc_at x n).from x.nodes (arc_at x n).to x.nodes ends.0 ends.1 in
        omega arith

pub square_few : (r : ℕ) → r ≤ 64 → r * r ≤ 4096
square_few r h = mul-le r r 64 64 h h

pub cube_few : (r : ℕ) → r ≤ 64 → r * (r * r) ≤ 262144
cube_few r h = mul-le r (r * r) 64 4096 h (square_few r h)

pub arcs_4096 : (x : Input) → Ready x → arc_count x ≤ 4096
arcs_4096 x h = let a = arcs_few x h.lawful in let b = square_few x.nodes h.few in omega arith

-- the arcs in memory
module _ (x : Remaining) where
  pub count_is : arc_count (input x) ≡ x.count
  count_is = length-take-le x.count x.arcs x.count_in

  pub arc_is : (a : ℕ) → a < x.count → arc_at (input x) a ≡ arc_in x.arcs a
  arc_is a l = get_or-take x.count x.arcs a no_arc l

  pub ready_of : Ready (input x)
  ready_of = record {
    lawful = record {
      positive = x.first_in.0;
      ends = λ a l.
          let k : a < x.count = omega (arith, count_is) in
          subst (λ (e : Arc). (e.from < x.nodes) × (e.to < x.nodes) × (e.from ≢ e.to)) (sym (arc_is a k))
          (x.arcs_join a k);
      variables = λ a l.
          let k : a < x.count = omega (arith, count_is) in
          subst (λ (e : Arc). (1 ≤ e.variable) × (e.variable < x.first)) (sym (arc_is a k)) (x.variables_in a k);
      apart = λ a b h.
          let k : a < x.count = omega (arith, count_is, h.0) in
          let l : b < x.count = omega (arith, count_is, h.1) in
          x.variables_apart a b (k, l, subst₂ (λ (e e' : Arc). e.variable ≡ e'.variable) (arc_is a k) (arc_is b l) h.2);
      ascends = λ a l.
          let k : a + 1 < x.count = omega (arith, count_is) in
          subst₂ (λ (e e' : Arc). e.from * x.nodes + e.to < e'.from * x.nodes + e'.to)
          (sym (arc_is a (omega arith))) (sym (arc_is (a + 1) k)) (x.arcs_ascend a k);
    };
    few = x.nodes_few;
    low = x.first_in.1;
  }
