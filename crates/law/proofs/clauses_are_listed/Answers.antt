use Rattle.law.proofs.ClauseLists.{clause_law}
use Rattle.law.proofs.clauses_are_listed.Goals as goal

pub returns : goal.returns
returns c = clause_law
