use Rattle.std.proofs.Common.{ℕ, ◌*◌, ◌<◌, ◌≤◌, arith, rules}
use Rattle.closings.specs.Inputs.{arc_count, input}
use Rattle.closings.specs.declared.remaining.Remaining.{Remaining}
use Rattle.closings.specs.ArcFacts.{arcs_4096, ready_of}
use Rattle.closings.proofs.grid.Grid.arc_variable.Goals as goal
use Rattle.std.proofs.lemmas.Nat.{mul-le}

-- the rows before that of arc a are few
rows_few : (x : Remaining) (a q : ℕ) → a < arc_count (input x) → q < 64 → a * q ≤ 4096 * 64
rows_few x a q h l = mul-le a q 4096 64 (omega (arith, arcs_4096 (input x) (ready_of x))) (omega arith)

pub overflow_mul-result-2 : goal.overflow_mul-result-2
overflow_mul-result-2 c =
    let p = rows_few c.args.self.x.now c.args.a c.args.self.width c.requires.row c.args.self.narrow in search rules

pub overflow_add-result-2 : goal.overflow_add-result-2
overflow_add-result-2 c =
    let p = rows_few c.args.self.x.now c.args.a c.args.self.width c.requires.row c.args.self.narrow in search rules

pub overflow_add-result-3 : goal.overflow_add-result-3
overflow_add-result-3 c =
    let p = rows_few c.args.self.x.now c.args.a c.args.self.width c.requires.row c.args.self.narrow in search rules

pub invariant_of-result : goal.invariant_of-result
invariant_of-result c =
    let p = rows_few c.args.self.x.now c.args.a c.args.self.width c.requires.row c.args.self.narrow in
    let n = mul-le c.args.self.x.now.nodes c.args.self.width 64 64 c.args.self.x.now.nodes_few (omega (arith, c.args.self.narrow)) in
    record { low = omega arith }
