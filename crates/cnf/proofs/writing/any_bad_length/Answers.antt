use Rattle.std.proofs.Common.{◌≡◌, ◌<◌, [], length, get_or, unwrap_or, sym, ap, ◌∙◌, arith}
use Rattle.std.proofs.lemmas.Bool.{or_from}
use Rattle.std.proofs.lemmas.List.Folds.{list_any_at, list_any_more}
use Rattle.cnf.proofs.Copies.{length_or_zero}
use Rattle.cnf.proofs.Writes.{bad_length_true, bad_length_false}
use Rattle.cnf.proofs.writing.any_bad_length.Given as given
use Rattle.cnf.proofs.writing.any_bad_length.Goals as goal
use Rattle.cnf.proofs.writing.any_bad_length.Goals.{After-unwrap_or-m}

-- clause k is there, and m is its length
within : (g : given.Over) (c : goal.After-unwrap_or-m g) → c.loop-k.k < length (g.F.Formula.clauses c.count-k-end.new.self)
within g c = omega (arith, c.loop-k-test.true, c.count-k-end.ensures.value, ap (λ s. length (g.F.Formula.clauses s)) c.count-k-end.ensures.same)

m-is : (g : given.Over) (c : goal.After-unwrap_or-m g)
    → c.unwrap_or-m.result ≡ length (get_or (g.F.Formula.clauses c.count-k-end.new.self) c.loop-k.k [])
m-is g c =
    c.unwrap_or-m.ensures ∙ ap (λ o. unwrap_or o 0) c.length.ensures.value ∙ length_or_zero (g.F.Formula.clauses c.loop-k.source) c.loop-k.k
    ∙ ap (λ s. length (get_or (g.F.Formula.clauses s) c.loop-k.k [])) c.loop-k.invariant.0

pub returns-then-m-eq0-clause-value : goal.returns-then-m-eq0-clause-value
returns-then-m-eq0-clause-value g c =
    let d = (goal.at.returns-then-m-eq0-clause-value g c).After-unwrap_or-m in
    let bad = bad_length_true c.args.longest _ _ (m-is g d) c.then-m-eq0.either in
    rw (← c.count-k-end.ensures.same) (sym (list_any_at _ _ c.loop-k.k [] (within g d) bad))

pub loop-k-preserved : goal.loop-k-preserved
loop-k-preserved g c =
    let d = (goal.at.loop-k-preserved g c).After-unwrap_or-m in
    let good = bad_length_false c.args.longest _ _ (m-is g d) c.if-m-eq0.false c.if-m-longest.false in
    (c.length.ensures.same ∙ c.loop-k.invariant.0, list_any_more _ _ c.loop-k.k [] (within g d) ∙ or_from _ _ c.loop-k.invariant.1 good)
