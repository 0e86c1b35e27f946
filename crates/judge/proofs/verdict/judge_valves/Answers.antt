use Rattle.std.proofs.Common.{arith, rules}
use Rattle.sheet.specs.View.{view}
use Rattle.std.proofs.lemmas.Bool.Decides.{when_true}
use Rattle.judge.proofs.Cleared.{cleared_front}
use Rattle.judge.proofs.RightAnswer.{answer_right}
use Rattle.judge.proofs.verdict.judge_valves.Goals as goal

pub returns : goal.returns
returns c =
    let cleared = cleared_front _ c.args.marks.now _ (omega (arith, c.if-marks-n.false)) c.judge_marked.ensures.marks in
    record {
      answer = search rules;
      lists = c.judge_marked.ensures.lists;
      nodes_lent = search rules;
      pipes_lent = search rules;
      right = answer_right (view c.args.sheet.now) c.args.values.now c.args.sheet.now.pipes_join _ _ _
          c.judge_marked.ensures.answer (λ h. (when_true _ _ h c.judge_marked.ensures.lists.nodes).entries_are)
          (λ h. (when_true _ _ h c.judge_marked.ensures.lists.pipes).entries_are);
      marks = search rules;
    }
