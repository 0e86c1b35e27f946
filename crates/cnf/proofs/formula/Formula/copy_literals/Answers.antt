use Rattle.std.specs.List.{slice_get}
use Rattle.std.proofs.Common.{◌≡◌, ◌+◌, ◌-◌, ◌<◌, min, [], ◌++◌, length, get_or, take, drop, pos, unwrap_or, ap, ◌∙◌, arith, w32, SFits, rules, length-take}
use Rattle.std.proofs.lemmas.Int.{to_z-of_z}
use Rattle.cnf.proofs.Copies.{copied_front, copied_more, length_or_zero, value_at}
use Rattle.cnf.proofs.formula.Formula.copy_literals.Given as given
use Rattle.cnf.proofs.formula.Formula.copy_literals.Goals as goal
use Rattle.cnf.proofs.formula.Formula.copy_literals.Goals.{After-min-n}

-- how many literals are copied
count_is
    : (g : given.Over) (c : goal.After-min-n g)
    → c.saturating_sub-left.result ≡ length (get_or (g.Self.Formula.clauses c.args.self.now) c.args.k []) - c.args.from
count_is g c =
    c.saturating_sub-left.ensures
    ∙ ap (λ n. n - c.args.from)
    (c.unwrap_or.ensures ∙ ap (λ o. unwrap_or o 0) c.length.ensures.value ∙ length_or_zero (g.Self.Formula.clauses c.args.self.now) c.args.k)

pub loop-i-preserved : goal.loop-i-preserved
loop-i-preserved g c =
    let cl = get_or (g.Self.Formula.clauses c.length.new.self) c.args.k [] in
    let count = count_is g (goal.at.loop-i-preserved g c).After-min-n in
    let len = ap (λ s. length (get_or (g.Self.Formula.clauses s) c.args.k [])) c.length.ensures.same in
    let places = length-take c.min-n.result c.args.out.now in
    let within : c.args.from + c.loop-i.i < length (get_or (g.Self.Formula.clauses c.length.new.self) c.args.k []) =
    omega (arith, count, len, places, c.min-n.ensures, c.loop-i-test.true) in
    let fits : SFits w32 c.unwrap_or-in-loop-i.result = search rules in
    let told = c.literal.ensures.value ∙ ap (λ s. slice_get (get_or (g.Self.Formula.clauses s) c.args.k []) (c.args.from + c.loop-i.i)) c.loop-i.invariant.0 in
    let is = to_z-of_z w32 _ fits ∙ c.unwrap_or-in-loop-i.ensures ∙ ap (λ o. unwrap_or o (pos 0)) told ∙ value_at cl _ (pos 0) _ within in (
      c.literal.ensures.same ∙ c.loop-i.invariant.0,
      copied_more cl (take c.min-n.result c.args.out.now) c.loop-i.place-items c.args.from c.loop-i.i _ (omega arith)
          (omega (arith, c.loop-i-test.true)) c.loop-i.invariant.1 is,
    )

pub returns : goal.returns
returns g c =
    let count = count_is g (goal.at.returns g c).After-min-n in
    let cs = ap (λ s. get_or (g.Self.Formula.clauses s) c.args.k []) c.length.ensures.same in
    let places = length-take c.min-n.result c.args.out.now in
    record {
      value = c.min-n.ensures ∙ ap (λ n. min n (length c.args.out.now)) count;
      after = ap (λ xs. xs ++ drop c.min-n.result c.args.out.now) (copied_front _ c.args.out.now c.loop-i.place-items c.args.from c.loop-i.i _ (omega (arith, places, c.min-n.ensures, c.loop-i-test.false, c.loop-i.auto.i-end))
          (c.loop-i.invariant.1 ∙ ap (λ cl. take c.loop-i.i (drop c.args.from cl) ++ drop c.loop-i.i (take c.min-n.result c.args.out.now)) cs)
          (omega (arith, c.min-n.ensures)));
      same = c.loop-i.invariant.0 ∙ c.length.ensures.same;
    }
