use Rattle.std.specs.List.{slice_get}
use Rattle.std.proofs.Common.{◌≡◌, ◌+◌, ◌-◌, ◌<◌, min, List, [], ◌++◌, length, get_or, take, drop, pos, unwrap_or, ap, ◌∙◌, arith, w32, SFits, rules, length-take}
use Rattle.cnf.proofs.Copies.{copied_front, copied_more, length_or_zero, value_at}
use Rattle.cnf.specs.Clauses.{Clause}
use Rattle.std.proofs.lemmas.Int.{to_z-of_z}
use Rattle.closings.specs.Inputs.{input}
use Rattle.closings.proofs.closing.Closing.copy_literals.Given as given
use Rattle.closings.proofs.closing.Closing.copy_literals.Goals as goal
use Rattle.closings.proofs.closing.Closing.copy_literals.Goals.{After-min-n}

clauses : (g : given.Over) (c : goal.After-min-n g) → List Clause
clauses g c = g.Self.Closing.means c.args.self.now (input c.args.x.now)

-- how many literals are copied
count_is
    : (g : given.Over) (c : goal.After-min-n g)
    → c.saturating_sub-left.result ≡ length (get_or (clauses g c) c.args.k []) - c.args.from
unfolding clauses
count_is g c =
    c.saturating_sub-left.ensures
    ∙ ap (λ n. n - c.args.from)
    (c.unwrap_or.ensures ∙ ap (λ o. unwrap_or o 0) c.length.ensures ∙ length_or_zero (clauses g c) c.args.k)

pub loop-i-preserved : goal.loop-i-preserved
unfolding clauses
loop-i-preserved g c =
    let cl = get_or (clauses g (goal.at.loop-i-preserved g c).After-min-n) c.args.k [] in
    let count = count_is g (goal.at.loop-i-preserved g c).After-min-n in
    let places = length-take c.min-n.result c.args.out.now in
    let within : c.args.from + c.loop-i.i < length cl =
    omega (arith, count, places, c.min-n.ensures, c.loop-i-test.true) in
    let fits : SFits w32 c.unwrap_or-in-loop-i.result = search rules in
    let is = to_z-of_z w32 _ fits ∙ c.unwrap_or-in-loop-i.ensures ∙ ap (λ o. unwrap_or o (pos 0)) {y = slice_get cl _} c.literal.ensures
    ∙ value_at cl _ (pos 0) _ within in
    copied_more cl (take c.min-n.result c.args.out.now) c.loop-i.place-items c.args.from c.loop-i.i _ (omega arith)
    (omega (arith, c.loop-i-test.true)) c.loop-i.invariant is

pub returns : goal.returns
unfolding clauses
returns g c =
    let count = count_is g (goal.at.returns g c).After-min-n in
    let places = length-take c.min-n.result c.args.out.now in
    record {
      value = c.min-n.ensures ∙ ap (λ n. min n (length c.args.out.now)) count;
      after = ap (λ xs. xs ++ drop c.min-n.result c.args.out.now)
          (copied_front _ c.args.out.now c.loop-i.place-items c.args.from c.loop-i.i _
          (omega (arith, places, c.min-n.ensures, c.loop-i-test.false, c.loop-i.auto.i-end)) c.loop-i.invariant
          (omega (arith, c.min-n.ensures)));
    }
