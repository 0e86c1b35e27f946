use Rattle.std.proofs.Common.{◌≡◌, false, take}
use Rattle.std.specs.List.{list_any}
use Rattle.cnf.specs.Clauses.{bad_literal}
use Rattle.cnf.proofs.form.has_bad_literal.Given as goal

abbrev pub invariant-loop-literal : goal.invariant-loop-literal
invariant-loop-literal l = list_any (bad_literal l.top) (take l.literal-index l.clause) ≡ false
