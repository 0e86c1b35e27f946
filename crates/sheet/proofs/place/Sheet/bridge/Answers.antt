use Rattle.std.proofs.Common.{◌≡◌, true, T, length, set, sym, ◌∙◌, subst, arith, rules}
use Rattle.sheet.specs.declared.phase.Phase.TheVariants.{Closing}
use Rattle.sheet.proofs.Tokens.{phase_is}
use Rattle.std.proofs.lemmas.Bool.{and_parts, ltb-true}
use Rattle.sheet.specs.Eliminating.{way_through}
use Rattle.sheet.specs.Implications.{Arcs}
use Rattle.sheet.specs.Phases.{is_fresh}
use Rattle.sheet.specs.Plans.{arcs_in}
use Rattle.sheet.specs.Tables.{Table, table}
use Rattle.sheet.specs.View.{arcs_of, view}
use Rattle.sheet.proofs.Counts.{count_staying}
use Rattle.sheet.proofs.Facts.{Fit, fit_keeps, fit_of, fit_planned, fit_without}
use Rattle.sheet.proofs.place.Sheet.bridge.Goals as goal

pub invariant_of-self : goal.invariant_of-self
invariant_of-self g c =
    let s = c.args.self.now in
    let v = c.args.node in
    let e = c.in_ok-arcs.ensures in
    let fit = fit_planned s.nodes s.valves s.out (way_through (view s).arc v) (arcs_of (view s))
    (λ u w t.
    let p = and_parts _ _ t in
    let into = ltb-true 0 ((view s).arc u v) p.0 in
    let from = ltb-true 0 ((view s).arc v w) (and_parts _ _ p.1).0 in
    record {
      from = (s.arcs_join u v into).0;
      to = (s.arcs_join v w from).1;
      from_stays = (s.arcs_stay u v into).0;
      to_stays = (s.arcs_stay v w from).1;
    })
    (fit_of s) in
    let planned : Fit s.nodes s.valves s.out (arcs_in c.in_ok-arcs.arcs) =
    subst (λ (k : Arcs). Fit s.nodes s.valves s.out k) (sym e.arcs) fit in
    let left = fit_without s.nodes s.valves s.out v (arcs_in c.in_ok-arcs.arcs) planned in
    let n : length s.out ≡ 64 = search rules in
    let few = count_staying s.out v n (omega arith) (sym c.is_eliminated.ensures ∙ c.if-is_eliminated.false) in
    fit_keeps s s.phase (set s.out v true) (record { arc = table c.clear_node.new.self.numbers; next = c.in_ok-arcs.arcs.next })
    (subst (λ (t : Table). Fit s.nodes s.valves (set s.out v true) (record { arc = t; next = c.in_ok-arcs.arcs.next })) (sym c.clear_node.ensures) left)
    (λ t. subst (λ f. T (is_fresh f)) (sym (phase_is _ Closing s.phase c.in_ok-check_token.ensures)) t)
    (omega (arith, few, e.next, s.next_few))
