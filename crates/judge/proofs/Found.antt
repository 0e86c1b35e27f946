-- How many nodes a ring and an order have, and that the pipes of a ring are drawn.
use Rattle.std.proofs.Common.{◌≡◌, ℕ, ◌<◌, ◌≤◌, true, List, length, get_or, sym, subst, arith}
use Rattle.graph.specs.Orders.{IsRing}
use Rattle.sheet.specs.Tables.{Joins}
use Rattle.std.proofs.lemmas.Bool.{ltb-true}
use Rattle.sheet.specs.View.{View}
use Rattle.judge.specs.Placing.{order}
use Rattle.judge.specs.Values.{opens}
use Rattle.judge.specs.Verdict.{after, is_stuck}
use Rattle.judge.specs.Walking.{ring}
use Rattle.judge.proofs.OrderLaw.{order_count}
use Rattle.judge.proofs.RightAnswer.{step_drawn}
use Rattle.judge.proofs.RingLaw.{ring_few, ring_right}

pub few_in_ring : (s : View) (values ns : List ℕ) → ns ≡ ring (opens s.pipe values) s.nodes → length ns ≤ s.nodes
few_in_ring s values ns is = rw is (ring_few s.nodes (opens s.pipe values))

-- a pipe is drawn from each node of the ring to the next
pub ring_drawn
    : (s : View) (values ns : List ℕ) → Joins s.nodes s.pipe → is_stuck (opens s.pipe values) s.nodes ≡ true
    → ns ≡ ring (opens s.pipe values) s.nodes → (k : ℕ) → k < length ns → 0 < s.pipe (get_or ns k 0) (after ns k)
ring_drawn s values ns joins t is =
    step_drawn s.nodes s.pipe values joins ns
    (subst (IsRing (opens s.pipe values)) (sym is) (ring_right s.nodes (opens s.pipe values) (ltb-true _ _ t)))

pub few_in_order : (s : View) (values ns : List ℕ) → ns ≡ order (opens s.pipe values) s.nodes → length ns ≤ s.nodes
few_in_order s values ns is = let n = order_count s.nodes (opens s.pipe values) in rw is (omega arith)
