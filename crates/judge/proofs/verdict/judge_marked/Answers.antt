use Rattle.std.proofs.Common.{◌∙◌, arith}
use Rattle.sheet.specs.View.{view}
use Rattle.std.proofs.lemmas.Bool.{le-leb}
use Rattle.judge.proofs.Found.{few_in_order, few_in_ring, ring_drawn}
use Rattle.judge.proofs.verdict.judge_marked.Goals as goal

pub unwrap-requires : goal.unwrap-requires
unwrap-requires c =
    let few = few_in_ring (view c.args.sheet.now) c.args.values.now _ c.in-Some-find_ring.ensures.1 in
    c.replace.ensures.test ∙ le-leb _ _ (omega (arith, few, c.requires.enough.nodes))

pub unwrap-requires-in-None : goal.unwrap-requires-in-None
unwrap-requires-in-None c =
    let few = few_in_order (view c.args.sheet.now) c.args.values.now _ c.place_nodes-order.ensures.listed in
    c.replace-in-None.ensures.test ∙ le-leb _ _ (omega (arith, few, c.requires.enough.nodes))

pub list_pipes-requires : goal.list_pipes-requires
list_pipes-requires c =
    let ring = c.in-Some-find_ring.ensures in
    record {
      few = omega (arith, c.requires.enough.pipes, few_in_ring (view c.args.sheet.now) c.args.values.now _ ring.1);
      drawn = ring_drawn (view c.args.sheet.now) c.args.values.now _ c.args.sheet.now.pipes_join ring.0 ring.1;
    }
