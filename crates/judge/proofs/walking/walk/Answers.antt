use Rattle.std.proofs.Common.{◌≡◌, ◌+◌, ◌-◌, take, drop, eqb, length, get_or, None, ap, ◌∙◌, rules, arith}
use Rattle.std.proofs.lemmas.Slice.{between_to_end}
use Rattle.judge.specs.First.{first_below}
use Rattle.judge.specs.Marks.{unmarked}
use Rattle.judge.proofs.Walks.{none_left, some_source, walk_ends, walk_found, walking_more, walking_none}
use Rattle.judge.proofs.walking.walk.Goals as goal
use Rattle.judge.proofs.walking.walk.Goals.{else-loop-head-test, then-loop-head-test+in_ok-u+in_default+else-head-start-head}

pub returns-in_err-path : goal.returns-in_err-path
returns-in_err-path g c =
    let e : None ≡ first_below (g.G.Digraph.size c.args.g.now) (unmarked c.args.marks.now) = search rules in
    let none = none_left _ _ _ c.requires e in search rules

pub loop-head-init : goal.loop-head-init
loop-head-init g c = walking_none _ _ _ c.requires _ _ c.told-path (search rules)

pub returns-in_err-u : goal.returns-in_err-u
returns-in_err-u g c = absurd (some_source _ _ _ c.requires _ _ c.loop-head.invariant (search rules))

pub returns-in-Some : goal.returns-in-Some
returns-in-Some g c =
    let e : c.loop-head.head + c.in-Some.at + 1 - c.loop-head.head ≡ c.in-Some.at + 1 = omega arith in
    let found = walk_found _ _ _ c.requires _ _ c.loop-head.invariant (omega (arith, c.loop-head-test.true, c.loop-head.invariant.low, c.nodes-n.ensures.number)) (omega (arith, c.nodes-n.ensures.few, c.nodes-n.ensures.number)) c.in_ok-u.u (search rules) c.in-Some.at
    (c.in-Some.ensures ∙ ap (λ t. first_below (length t) (λ k. eqb (get_or t k 0) c.in_ok-u.u)) (between_to_end c.loop-head.path _ 65 (omega (arith, c.loop-head.invariant.long)))) in
    (found.0, ap (λ m. take m (drop c.loop-head.head c.loop-head.path)) e ∙ found.1)

pub loop-head-preserved : goal.loop-head-preserved
loop-head-preserved g c =
    walking_more _ _ _ c.requires _ _ c.loop-head.invariant (omega (arith, c.loop-head-test.true, c.loop-head.invariant.low, c.nodes-n.ensures.number)) (omega (arith, c.nodes-n.ensures.few, c.nodes-n.ensures.number)) c.in_ok-u.u (search rules)
    (c.in_default.ensures ∙ ap (λ t. first_below (length t) (λ k. eqb (get_or t k 0) c.in_ok-u.u)) (between_to_end c.loop-head.path _ 65 (omega (arith, c.loop-head.invariant.long))))

pub returns : goal.returns
returns g c =
    elim c.loop-head-test.branch [
      | else-loop-head-test w ↦ absurd (walk_ends _ _ _ c.requires _ _ c.loop-head.invariant (omega (arith, w.loop-head-test.false, c.nodes-n.ensures.few, c.nodes-n.ensures.number)))
      | then-loop-head-test+in_ok-u+in_default+else-head-start-head w ↦
          let more = walking_more _ _ _ c.requires _ _ c.loop-head.invariant (omega (arith, w.loop-head-test.true, c.loop-head.invariant.low, c.nodes-n.ensures.number)) (omega (arith, c.nodes-n.ensures.few, c.nodes-n.ensures.number)) w.in_ok-u.u (search rules)
          (w.in_default.ensures ∙ ap (λ t. first_below (length t) (λ k. eqb (get_or t k 0) w.in_ok-u.u)) (between_to_end c.loop-head.path _ 65 (omega (arith, c.loop-head.invariant.long)))) in
          absurd (walk_ends _ _ _ c.requires _ _ more (search (rules, arith)))
    ]
