use Rattle.std.proofs.Common.{◌≡◌, ◌+◌, ◌-◌, ◌≤◌, min, false, [], ◌++◌, length, get_or, take, drop, unwrap_or, sym, ap, ◌∙◌, arith}
use Rattle.std.specs.List.{list_any}
use Rattle.std.proofs.lemmas.List.{take_all}
use Rattle.cnf.specs.Meeting.{met}
use Rattle.cnf.proofs.Copies.{length_or_zero}
use Rattle.cnf.proofs.Unmet.{chunk_none, chunk_some}
use Rattle.cnf.proofs.meeting.is_met.Given as given
use Rattle.cnf.proofs.meeting.is_met.Goals as goal
use Rattle.cnf.proofs.meeting.is_met.Goals.{After-any_met, After-unwrap_or-len}

-- the clause has as many literals as were asked for
len_is
    : (g : given.Over) (c : goal.After-unwrap_or-len g)
    → c.unwrap_or-len.result ≡ length (get_or (g.F.Formula.clauses c.length.new.self) c.args.k [])
len_is g c =
    c.unwrap_or-len.ensures ∙ ap (λ o. unwrap_or o 0) c.length.ensures.value
    ∙ length_or_zero (g.F.Formula.clauses c.args.formula.now) c.args.k
    ∙ ap (λ s. length (get_or (g.F.Formula.clauses s) c.args.k [])) (sym c.length.ensures.same)

-- none of the first so many literals is met, the next ones among them
looked
    : (g : given.Over) (c : goal.After-any_met g) → c.any_met.result ≡ false
    → list_any (met c.args.values.now) (take (c.loop-from.from + 256) (get_or (g.F.Formula.clauses c.length.new.self) c.args.k [])) ≡ false
looked g c h =
    chunk_none (met c.args.values.now) (get_or (g.F.Formula.clauses c.length.new.self) c.args.k []) c.loop-from.buffer c.copy_literals-n.new.out
    c.loop-from.from c.copy_literals-n.result c.loop-from.invariant.1
    (c.copy_literals-n.ensures.value
    ∙ ap (λ s. min (length (get_or (g.F.Formula.clauses s) c.args.k []) - c.loop-from.from) (length c.loop-from.buffer)) c.loop-from.invariant.0)
    (c.copy_literals-n.ensures.after
    ∙ ap (λ s. take c.copy_literals-n.result (drop c.loop-from.from (get_or (g.F.Formula.clauses s) c.args.k [])) ++ drop c.copy_literals-n.result c.loop-from.buffer) c.loop-from.invariant.0)
    c.loop-from.invariant.2 (sym c.any_met.ensures ∙ h)

pub returns-then-any_met-clause-value : goal.returns-then-any_met-clause-value
returns-then-any_met-clause-value g c =
    let met-here = chunk_some (met c.args.values.now) _ c.loop-from.buffer c.copy_literals-n.new.out
    c.loop-from.from c.copy_literals-n.result c.loop-from.invariant.1 c.copy_literals-n.ensures.value c.copy_literals-n.ensures.after
    (sym c.any_met.ensures ∙ c.if-any_met.true) in
    sym (ap (λ s. list_any (met c.args.values.now) (get_or (g.F.Formula.clauses s) c.args.k []))
    (sym (c.loop-from.invariant.0 ∙ c.length.ensures.same)) ∙ met-here)

pub loop-from-preserved : goal.loop-from-preserved
loop-from-preserved g c = (
  c.copy_literals-n.ensures.same ∙ c.loop-from.invariant.0,
  c.copy_literals-n.auto.out ∙ c.loop-from.invariant.1,
  looked g (goal.at.loop-from-preserved g c).After-any_met c.if-any_met.false,
)

pub returns-clause-value : goal.returns-clause-value
returns-clause-value g c =
    let cl = get_or (g.F.Formula.clauses c.length.new.self) c.args.k [] in
    let l = len_is g (goal.at.returns-clause-value g c).After-unwrap_or-len in
    let end : length (get_or (g.F.Formula.clauses c.length.new.self) c.args.k []) ≤ c.loop-from.from =
    omega (arith, c.loop-from-test.false) in
    sym (ap (λ s. list_any (met c.args.values.now) (get_or (g.F.Formula.clauses s) c.args.k [])) (sym c.length.ensures.same)
    ∙ ap (list_any (met c.args.values.now)) (sym (take_all _ cl end)) ∙ c.loop-from.invariant.2)

pub returns-else-any_met-clause-value : goal.returns-else-any_met-clause-value
returns-else-any_met-clause-value g c =
    let cl = get_or (g.F.Formula.clauses c.length.new.self) c.args.k [] in
    let l = len_is g (goal.at.returns-else-any_met-clause-value g c).After-unwrap_or-len in
    let end : length (get_or (g.F.Formula.clauses c.length.new.self) c.args.k []) ≤ c.loop-from.from + 256 =
    omega arith in
    sym (ap (λ s. list_any (met c.args.values.now) (get_or (g.F.Formula.clauses s) c.args.k [])) (sym c.length.ensures.same)
    ∙ ap (list_any (met c.args.values.now)) (sym (take_all _ cl end)) ∙ looked g (goal.at.returns-else-any_met-clause-value g c).After-any_met c.if-any_met.false)
