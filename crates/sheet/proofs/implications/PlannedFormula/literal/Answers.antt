use Rattle.std.specs.List.{slice_get}
use Rattle.std.proofs.Common.{◌≡◌, ◌<◌, length, pos, Some, sym, ap, ◌∙◌, arith, w32}
use Rattle.std.proofs.lemmas.Int.{to_z_pos}
use Rattle.std.proofs.lemmas.Bool.{ltb-true}
use Rattle.sheet.specs.Tables.{table}
use Rattle.sheet.proofs.Pairs.{arc_at_pair}
use Rattle.sheet.proofs.Told.{arc_told, clause_at, clause_told, entry_there}
use Rattle.sheet.proofs.implications.PlannedFormula.literal.Given as given
use Rattle.sheet.proofs.implications.PlannedFormula.literal.Goals as goal
use Rattle.sheet.proofs.implications.PlannedFormula.literal.Goals.{After-get-2}

-- a planned pair of two nodes has its arc
there : (g : given.Over) (c : goal.After-get-2 g) → 0 < table c.args.self.now.arcs.now.variables.numbers c.in_ok-u.field-0.now.0 c.in_ok-u.field-0.now.1
there g c =
    let s = c.args.self.now in
    let look = c.in_ok-u.ensures.lookup in
    arc_at_pair (table s.arcs.now.variables.numbers) s.pairs.now c.args.k c.in_ok-u.field-0.now (ltb-true _ _ (sym look.0)) look.1
    s.arcs_there c.if-u-w.false

pub returns-in_err-variable-clause-value : goal.returns-in_err-variable-clause-value
returns-in_err-variable-clause-value g c =
    let h = there g (goal.at.returns-in_err-variable-clause-value g c).After-get-2 in
    let e = c.in_err-variable.ensures ∙ entry_there _ h in absurd (grind (arith, e))

pub returns-clause-value : goal.returns-clause-value
returns-clause-value g c =
    let s = c.args.self.now in
    let p = c.in_ok-u.field-0.now in
    let t = table s.arcs.now.variables.numbers in
    let look = c.in_ok-u.ensures.lookup in
    let told = clause_told (clause_at (g.R.Rule.premises s.rule.now) (table s.arcs.now.variables.numbers)) s.pairs.now c.args.k p
    (ltb-true _ _ (sym look.0)) look.1 in
    let is : Some c.in_ok-variable.variable ≡ Some (table s.arcs.now.variables.numbers p.0 p.1) =
    c.in_ok-variable.ensures ∙ entry_there _ (there g (goal.at.returns-clause-value g c).After-get-2) in
    let v : c.in_ok-variable.variable ≡ table s.arcs.now.variables.numbers p.0 p.1 = cc in
    ap Some (to_z_pos w32 _ (omega (arith, v, s.arcs_small p.0 p.1)) ∙ ap pos v)
    ∙ arc_told (g.R.Rule.premises s.rule.now p.0 p.1) (table s.arcs.now.variables.numbers) p.0 p.1 c.args.j c.if-u-w.false
    (c.if-j-len.false ∙ c.len.ensures ∙ ap length c.in_ok-body.ensures.value)
    ∙ ap (λ l. slice_get l c.args.j) (sym told)
