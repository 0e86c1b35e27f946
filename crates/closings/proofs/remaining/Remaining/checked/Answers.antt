-- Arcs that a closing may rely on stay so at the front of their places.
use Rattle.std.proofs.Common.{◌≡◌, ℕ, ◌+◌, ◌*◌, ◌<◌, ◌≤◌, List, length, take, sym, ap, ◌∙◌, subst, subst₂, arith}
use Rattle.std.proofs.lemmas.List.{get_or-take, length-take}
use Rattle.closings.specs.Arcs.{Apart, Ascending, Ends, Variables, arc_in, no_arc}
use Rattle.closings.specs.Inputs.{Input, Lawful}
use Rattle.closings.specs.declared.arc.Arc.{Arc}
use Rattle.closings.specs.ArcFacts.{arcs_4096}
use Rattle.closings.proofs.remaining.Remaining.checked.Goals as goal

-- the first arcs of a list that begins with those of an input
module _ (x : Input) (law : Lawful x) (places : List Arc) (front : take (length x.arcs) places ≡ x.arcs) where
  here : (a : ℕ) → a < length x.arcs → arc_in x.arcs a ≡ arc_in places a
  here a l = ap (λ es. arc_in es a) (sym front) ∙ get_or-take (length x.arcs) places a no_arc l

  room : length x.arcs ≤ length places
  room = omega (arith, ap length front, length-take (length x.arcs) places)

  ends : Ends x.nodes places (length x.arcs)
  ends a l =
      subst (λ (e : Arc). (e.from < x.nodes) × (e.to < x.nodes) × (e.from ≡ e.to → ⊥)) (here a l) (law.ends a l)

  variables : Variables x.first places (length x.arcs)
  variables a l = subst (λ (e : Arc). (1 ≤ e.variable) × (e.variable < x.first)) (here a l) (law.variables a l)

  apart : Apart places (length x.arcs)
  apart a b h =
      let same = subst₂ (λ (e e' : Arc). e.variable ≡ e'.variable) (sym (here a h.0)) (sym (here b h.1)) h.2 in
      law.apart a b (h.0, h.1, same)

  ascends : Ascending x.nodes places (length x.arcs)
  ascends a l =
      subst₂ (λ (e e' : Arc). e.from * x.nodes + e.to < e'.from * x.nodes + e'.to)
      (here a (omega arith)) (here (a + 1) l) (law.ascends a l)

pub placed-requires : goal.placed-requires
placed-requires c = arcs_4096 _ (c.ready.ensures.0 c.if-not-ready.false)

pub invariant_of-result : goal.invariant_of-result
invariant_of-result c =
    let r = c.ready.ensures.0 c.if-not-ready.false in
    let law = r.lawful in
    let places = c.placed.result in
    let front = c.placed.ensures in
    record {
      nodes_few = r.few;
      first_in = (law.positive, r.low);
      count_in = room _ law places front;
      arcs_join = ends _ law places front;
      variables_in = variables _ law places front;
      variables_apart = apart _ law places front;
      arcs_ascend = ascends _ law places front;
    }
