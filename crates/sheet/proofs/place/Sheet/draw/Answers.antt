use Rattle.std.proofs.Common.{sym, subst}
use Rattle.sheet.specs.Tables.{Joins, Upto}
use Rattle.sheet.specs.View.{view}
use Rattle.sheet.proofs.Drawn.{drawable}
use Rattle.sheet.proofs.Tables.{joins_put, upto_put}
use Rattle.sheet.proofs.place.Sheet.draw.Goals as goal

pub invariant_of-self : goal.invariant_of-self
invariant_of-self c =
    let s = c.args.self.now in
    let d = drawable (view s) _ c.args.pipe (sym c.in-Ok.ensures) in
    record {
      nodes_few = s.nodes_few;
      valves_few = s.valves_few;
      next_above = s.next_above;
      pipes_join = subst (Joins s.nodes) (sym c.set.ensures) (joins_put _ _ _ _ _ s.pipes_join d.from d.to d.apart);
      pipes_upto = subst (Upto s.valves) (sym c.set.ensures) (upto_put _ _ _ _ _ s.pipes_upto d.valve);
      arcs_join = s.arcs_join;
      arcs_stay = s.arcs_stay;
      arcs_above = s.arcs_above;
      arcs_below = s.arcs_below;
      arcs_apart = s.arcs_apart;
      fresh_next = s.fresh_next;
      fresh_arcs = s.fresh_arcs;
      fresh_stays = s.fresh_stays;
      next_few = s.next_few;
    }
