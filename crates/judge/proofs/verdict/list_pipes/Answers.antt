use Rattle.std.proofs.Common.{length, sym, ◌∙◌, rules, arith}
use Rattle.sheet.specs.View.{view}
use Rattle.std.proofs.lemmas.List.{length_push}
use Rattle.std.proofs.lemmas.List.FromFn.{length-map-range_with_len}
use Rattle.judge.specs.Verdict.{ring_pipe}
use Rattle.judge.proofs.Replaced.{push_fits, push_replaced}
use Rattle.judge.proofs.RingPipes.{drawn_entry, pair_turn, pipes_more, ring_pipe_is}
use Rattle.judge.proofs.verdict.list_pipes.Goals as goal

pub unwrap-valve-requires : goal.unwrap-valve-requires
unwrap-valve-requires c =
    let turn = pair_turn c.args.ring.now c.into_iter-from-iterator.result (search rules) (search rules) (search rules) (search rules) (search rules) (search rules) c.loop-from.yielded c.loop-from.from-iterator c.next.new.self _ c.loop-from.yielded_by c.next.ensures.steps _ c.in-Some.is in
    drawn_entry (view c.args.sheet.now).pipe _ _ _ _ _ (c.requires.drawn (length c.loop-from.yielded) turn.0) turn.1 turn.2 c.valve.ensures

pub unwrap-requires : goal.unwrap-requires
unwrap-requires c =
    let turn = pair_turn c.args.ring.now c.into_iter-from-iterator.result (search rules) (search rules) (search rules) (search rules) (search rules) (search rules) c.loop-from.yielded c.loop-from.from-iterator c.next.new.self _ c.loop-from.yielded_by c.next.ensures.steps _ c.in-Some.is in
    let size = length-map-range_with_len (ring_pipe (view c.args.sheet.now).pipe c.args.ring.now) 0 (length c.loop-from.yielded) in
    c.push.ensures.test ∙ push_fits _ _ _ c.loop-from.invariant (omega (arith, size, c.requires.few, turn.0))

pub loop-from-preserved : goal.loop-from-preserved
loop-from-preserved c =
    let pipe = (view c.args.sheet.now).pipe in
    let ns = c.args.ring.now in
    let k = length c.loop-from.yielded in
    let turn = pair_turn ns c.into_iter-from-iterator.result (search rules) (search rules) (search rules) (search rules) (search rules) (search rules) c.loop-from.yielded c.loop-from.from-iterator c.next.new.self _ c.loop-from.yielded_by c.next.ensures.steps _ c.in-Some.is in
    let size = length-map-range_with_len (ring_pipe pipe ns) 0 k in
    rw (length_push c.loop-from.yielded (c.in-Some.field-0-0, c.in-Some.field-0-1))
    (pipes_more (ring_pipe pipe ns) k _ _ _
    (ring_pipe_is pipe ns k _ _ _ turn.1 turn.2 (sym c.unwrap-valve.ensures ∙ c.valve.ensures))
    (push_replaced _ _ _ c.loop-from.invariant (omega (arith, size, c.requires.few, turn.0)) _ _ _
    c.push.ensures.test c.push.ensures.entries c.push.ensures.room c.push.ensures.lent))
