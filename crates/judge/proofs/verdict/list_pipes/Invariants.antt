use Rattle.std.proofs.Common.{length, map}
use Rattle.bounded.specs.Lists.{Replaced}
use Rattle.sheet.specs.View.{view}
use Rattle.std.specs.List.{range_with_len}
use Rattle.judge.specs.Verdict.{ring_pipe}
use Rattle.judge.proofs.verdict.list_pipes.Given as goal

abbrev pub invariant-loop-from : goal.invariant-loop-from
invariant-loop-from l = Replaced (map (ring_pipe (view l.sheet).pipe l.ring) (range_with_len 0 (length l.yielded))) l.fn.pipes l.pipes
