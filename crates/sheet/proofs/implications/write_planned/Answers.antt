use Rattle.std.proofs.Common.{◌≡◌, ◌++◌, map, length, ap, ◌∙◌, arith}
use Rattle.std.proofs.lemmas.Result.{err_from_is_err_and}
use Rattle.std.specs.List.{list_all}
use Rattle.cnf.specs.Writing.{write_refusal, written}
use Rattle.sheet.specs.Implications.{has_arc, has_premises, implications}
use Rattle.sheet.specs.Plans.{arcs_in}
use Rattle.sheet.specs.Tables.{table}
use Rattle.sheet.specs.View.{arcs_of, view}
use Rattle.sheet.proofs.Facts.{below_planned}
use Rattle.sheet.proofs.Pairs.{pairs_with_pass, planned_there}
use Rattle.sheet.proofs.Plans.{implications_are}
use Rattle.sheet.proofs.Told.{clause_at}
use Rattle.sheet.proofs.implications.write_planned.Given as given
use Rattle.sheet.proofs.implications.write_planned.Goals as goal
use Rattle.sheet.proofs.implications.write_planned.Goals.{After-as_slice}

pub invariant_of-planned : goal.invariant_of-planned
invariant_of-planned g c =
    let s = c.args.sheet.now in
    let e = c.plan.ensures in
    let ps = g.R.Rule.premises c.args.rule.now in
    let told = c.as_slice.ensures ∙ e.pairs in
    record {
      pairs_few = omega (arith, ap length c.as_slice.ensures, e.few);
      premises_there = ap (list_all (has_premises ps)) told ∙ pairs_with_pass ps s.nodes;
      arcs_there =
          (λ i. list_all (has_arc (e.arcs i).arc) (told i)) ∙ planned_there ps s.nodes (arcs_of (view s)) (omega (arith, s.next_above.0));
      arcs_small =
          λ u w. let b = below_planned _ s.nodes (arcs_of (view s)) s.arcs_below (arcs_in c.plan.new.arcs) e.arcs u w in
          omega (arith, e.next, s.next_few);
    }

-- what the plan tells
clauses_are
    : (g : given.Over) (c : goal.After-as_slice g)
    → map (clause_at (g.R.Rule.premises c.args.rule.now) (table c.plan.new.arcs.variables.numbers)) c.as_slice.result.now
    ≡ implications (g.R.Rule.premises c.args.rule.now) c.args.sheet.now.nodes (arcs_of (view c.args.sheet.now))
clauses_are g c =
    let e = c.plan.ensures in
    implications_are (g.R.Rule.premises c.args.rule.now) c.args.sheet.now.nodes (arcs_of (view c.args.sheet.now))
    c.as_slice.result.now (arcs_in c.plan.new.arcs) (c.as_slice.ensures ∙ e.pairs) e.arcs

pub returns-in_err-write_all-clause-answer : goal.returns-in_err-write_all-clause-answer
returns-in_err-write_all-clause-answer g c =
    let p = err_from_is_err_and c.from_residual.result c.from_residual.ensures.1 in
    let cs = clauses_are g (goal.at.returns-in_err-write_all-clause-answer g c).After-as_slice in
    rw (p.1, p.2) (c.in_err-write_all.ensures.answer ∙ ap (write_refusal (g.S.Sink.state c.args.sink.now)) cs)

pub returns-clause-answer : goal.returns-clause-answer
returns-clause-answer g c =
    c.in_ok-write_all.ensures.answer ∙ ap (write_refusal (g.S.Sink.state c.args.sink.now)) (clauses_are g (goal.at.returns-clause-answer g c).After-as_slice)

pub returns-clause-after : goal.returns-clause-after
returns-clause-after g c =
    c.in_ok-write_all.ensures.after ∙ ap (written (g.S.Sink.state c.args.sink.now)) (clauses_are g (goal.at.returns-clause-after g c).After-as_slice)

pub returns-clause-appended : goal.returns-clause-appended
returns-clause-appended g c =
    c.in_ok-write_all.ensures.appended
    ∙ ap (λ ds. g.S.Formula.clauses c.args.sink.now ++ ds) (clauses_are g (goal.at.returns-clause-appended g c).After-as_slice)
