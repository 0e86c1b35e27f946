use Rattle.std.proofs.Common.{sym, ap, ◌∙◌}
use Rattle.std.specs.List.{list_any}
use Rattle.cnf.specs.Clauses.{bad_length}
use Rattle.cnf.proofs.Writes.{wider}
use Rattle.cnf.proofs.writing.write_all.Goals as goal

pub invariant_of-clauses : goal.invariant_of-clauses
invariant_of-clauses g c = record {
  short = ap (λ s. list_any (bad_length 256) (g.F.Formula.clauses s)) c.any_bad_length.ensures.same
      ∙ wider c.limits-top.result.1 256 (g.F.Formula.clauses c.args.source.now) c.limits-top.ensures.bounds.1 (sym c.if-any_bad_length.ensures.value);
}
