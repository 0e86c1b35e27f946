use Rattle.std.proofs.Common.{◌≡◌, ℕ, ◌<◌, true, [], length, get_or, sym, ap, ◌∙◌, arith}
use Rattle.std.specs.List.{list_any}
use Rattle.cnf.specs.Meeting.{met}
use Rattle.cnf.proofs.Unmet.{names_found, names_none, unmet_found, unmet_none}
use Rattle.cnf.proofs.meeting.first_unmet_clause.Goals as goal

pub returns-then-not-is_met : goal.returns-then-not-is_met
returns-then-not-is_met g c =
    let values = c.args.values.now in
    let cs = g.F.Formula.clauses c.args.formula.now in
    let origin = c.count-k-end.ensures.same in
    let here = ap (λ s. list_any (met values) (get_or (g.F.Formula.clauses s) c.loop-k.k [])) (sym (c.loop-k.invariant.0 ∙ origin)) ∙ sym c.is_met.ensures.value ∙ c.if-not-is_met.true in
    let before : (i : ℕ) → i < c.loop-k.k → list_any (met c.args.values.now) (get_or (g.F.Formula.clauses c.args.formula.now) i []) ≡ true =
    λ i h. ap (λ s. list_any (met values) (get_or (g.F.Formula.clauses s) i [])) (sym origin) ∙ c.loop-k.invariant.1 i h in
    let l : c.loop-k.k < length (g.F.Formula.clauses c.args.formula.now) = omega (arith, c.loop-k-test.true, c.count-k-end.ensures.value) in
    record {
      value = unmet_found values cs _ l before here;
      right = names_found values cs _ l before here;
      same = c.is_met.ensures.same ∙ c.loop-k.invariant.0 ∙ origin;
    }

pub returns : goal.returns
returns g c =
    let values = c.args.values.now in
    let cs = g.F.Formula.clauses c.args.formula.now in
    let origin = c.count-k-end.ensures.same in
    let all : (i : ℕ) → i < length (g.F.Formula.clauses c.args.formula.now) → list_any (met c.args.values.now) (get_or (g.F.Formula.clauses c.args.formula.now) i []) ≡ true =
    λ i h. ap (λ s. list_any (met values) (get_or (g.F.Formula.clauses s) i [])) (sym origin) ∙ c.loop-k.invariant.1 i (omega (arith, c.loop-k-test.false, c.count-k-end.ensures.value)) in
    record {
      value = unmet_none values cs all;
      right = names_none values cs all;
      same = c.loop-k.invariant.0 ∙ origin;
    }
