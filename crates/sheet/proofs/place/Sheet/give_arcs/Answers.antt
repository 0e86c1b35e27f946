use Rattle.std.proofs.Common.{false, not, T, get_or, sym, subst, arith}
use Rattle.std.proofs.lemmas.Bool.{and_parts, ltb-true}
use Rattle.sheet.specs.Implications.{Arcs}
use Rattle.sheet.specs.Phases.{is_fresh}
use Rattle.sheet.specs.Plans.{arcs_in}
use Rattle.sheet.specs.Starting.{valve_of}
use Rattle.sheet.specs.View.{arcs_of, view}
use Rattle.sheet.specs.declared.phase.Phase.TheVariants.{Closing, Drawing}
use Rattle.sheet.proofs.Counts.{count_most}
use Rattle.sheet.proofs.Tokens.{phase_is}
use Rattle.sheet.proofs.Facts.{Fit, fit_keeps, fit_of, fit_planned}
use Rattle.sheet.proofs.place.Sheet.give_arcs.Goals as goal

pub invariant_of-self : goal.invariant_of-self
invariant_of-self g c =
    let s = c.args.self.now in
    let e = c.in_ok-arcs.ensures in
    let fresh : T (is_fresh s.phase) = subst (λ f. T (is_fresh f)) (phase_is _ Drawing s.phase c.in_ok-check_token.ensures) tt in
    let fit = fit_planned s.nodes s.valves s.out (valve_of (view s).pipe) (arcs_of (view s))
    (λ u w t.
    let j = s.pipes_join u w (ltb-true 0 ((view s).pipe u w) (and_parts _ _ t).0) in
    record { from = j.0; to = j.1; from_stays = s.fresh_stays u fresh; to_stays = s.fresh_stays w fresh })
    (fit_of s) in
    let few = count_most 64 (λ u. not (get_or s.out u false)) in
    fit_keeps s Closing s.out (arcs_in c.in_ok-arcs.arcs)
    (subst (λ (k : Arcs). Fit s.nodes s.valves s.out k) (sym e.arcs) fit) (λ t. t)
    (omega (arith, few, e.next, s.fresh_next fresh, s.valves_few.1))
