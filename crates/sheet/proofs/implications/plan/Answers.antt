use Rattle.std.proofs.Common.{◌≡◌, ℕ, ◌+◌, ◌*◌, ◌<◌, [], ◌∷◌, ◌++◌, length, if◌then◌else◌, set, sym, ap, ◌∙◌, arith, length-append}
use Rattle.std.proofs.lemmas.List.{length-set}
use Rattle.std.proofs.lemmas.Bool.{lt-ltb}
use Rattle.std.proofs.lemmas.Nat.{mul-add-lt}
use Rattle.bounded.specs.Lists.{entries, room}
use Rattle.bounded.specs.declared.Bounded.{Bounded}
use Rattle.sheet.specs.Implications.{with_arc, with_arcs}
use Rattle.sheet.specs.Plans.{arcs_in}
use Rattle.sheet.specs.declared.arcs.Arcs as memory
use Rattle.sheet.proofs.Plans.{arcs_noted, done, done_all, done_noted, done_past, few_pairs, pair_there, planned_is}
use Rattle.sheet.proofs.implications.plan.Goals as goal
use Rattle.sheet.proofs.implications.plan.Goals.{else-is_some, then-is_some}

pub loop-w-preserved : goal.loop-w-preserved
loop-w-preserved g c =
    let inv = c.loop-w.invariant in
    let ps = g.R.Rule.premises c.args.rule.now in
    let n = c.args.nodes in
    let i = c.loop-u.u * n + c.loop-w.w in
    let before = arcs_in c.args.arcs.now in
    let pair : ℕ × ℕ = (c.loop-u.u, c.loop-w.w) in
    let here = pair_there n c.loop-u.u c.loop-w.w c.loop-w-test.true in
    let later : i + 1 ≡ c.loop-u.u * n + (c.loop-w.w + 1) = omega arith in
    elim c.if-is_some.branch [
      | then-is_some x ↦
          let there = sym c.body.ensures.there ∙ sym x.if-is_some.ensures in
          let few = few_pairs n c.requires.nodes in
          let inside = mul-add-lt c.loop-u.u n c.loop-w.w n c.loop-u-test.true c.loop-w-test.true in
          let left : length (entries c.loop-w.pairs) < length (room c.loop-w.pairs) =
          omega (arith, few, inv.few, inv.room, c.requires.places.1, inside) in
          let ok = x.push.ensures.test ∙ lt-ltb _ _ left in
          let noted = x.push.ensures.entries ∙ ap (λ b. if b then entries c.loop-w.pairs ++ (pair ∷ []) else entries c.loop-w.pairs) ok in
          let kept = x.push.ensures.room ∙ ap (λ b. if b then set (room c.loop-w.pairs) (length (entries c.loop-w.pairs)) pair else room c.loop-w.pairs) ok in
          record {
            listed = ap entries x.pairs-is ∙ noted ∙ ap (λ qs. qs ++ (pair ∷ [])) inv.listed ∙ done_noted ps n i pair here there ∙ ap (done ps n) later;
            given = ap arcs_in x.arcs-is ∙ x.give.ensures.arcs ∙ ap (λ k. with_arc k pair) inv.given ∙ arcs_noted ps n i pair here before there ∙ ap (λ j. with_arcs before (done ps n j)) later;
            few = omega (arith, ap (λ (b : Bounded _). length (entries b)) x.pairs-is, ap length noted, length-append (entries c.loop-w.pairs) (pair ∷ []), inv.few);
            next = omega (arith, ap (λ (a : memory.Arcs). a.next) x.arcs-is, x.give.ensures.next, inv.next);
            room = ap (λ (b : Bounded _). length (room b)) x.pairs-is ∙ ap length kept ∙ length-set _ _ _ ∙ inv.room;
          }
      | else-is_some x ↦
          let past = done_past ps n i pair here (sym c.body.ensures.there ∙ sym x.if-is_some.ensures) in
          record {
            listed = ap entries x.pairs-is ∙ inv.listed ∙ past ∙ ap (done ps n) later;
            given = ap arcs_in x.arcs-is ∙ inv.given ∙ ap (with_arcs before) past ∙ ap (λ j. with_arcs before (done ps n j)) later;
            few = omega (arith, ap (λ (b : Bounded _). length (entries b)) x.pairs-is, inv.few);
            next = omega (arith, ap (λ (a : memory.Arcs). a.next) x.arcs-is, inv.next);
            room = ap (λ (b : Bounded _). length (room b)) x.pairs-is ∙ inv.room;
          }
    ]

pub returns-clause-pairs : goal.returns-clause-pairs
returns-clause-pairs g c =
    let e : c.loop-u.u ≡ c.args.nodes = omega arith in
    c.loop-u.invariant.listed ∙ done_all (g.R.Rule.premises c.args.rule.now) c.args.nodes (c.loop-u.u * c.args.nodes) (ap (λ u. u * c.args.nodes) e)

pub returns-clause-arcs : goal.returns-clause-arcs
returns-clause-arcs g c =
    let ps = g.R.Rule.premises c.args.rule.now in
    let e : c.loop-u.u ≡ c.args.nodes = omega arith in
    c.loop-u.invariant.given ∙ ap (with_arcs _) (done_all ps c.args.nodes (c.loop-u.u * c.args.nodes) (ap (λ u. u * c.args.nodes) e)) ∙ planned_is ps c.args.nodes _
