use Rattle.judge.proofs.SameFindings.{independence_law}
use Rattle.judge.proofs.independence.verdict_depends_on_drawing_and_values.Goals as goal

pub returns : goal.returns
returns c = independence_law
