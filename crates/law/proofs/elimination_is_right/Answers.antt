use Rattle.law.proofs.ClauseLists.{clause_law}
use Rattle.sheet.specs.View.{view}
use Rattle.law.proofs.elimination_is_right.Goals as goal

pub returns : goal.returns
returns c =
    let s = c.args.sheet.now in clause_law.elimination (view s) c.args.node s.arcs_above s.next_above.0
