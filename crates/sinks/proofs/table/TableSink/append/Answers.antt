use Rattle.std.proofs.Common.{◌+◌, ◌<◌, ◌≤◌, length, arith}
use Rattle.sinks.proofs.Tables.{table_laid_out}
use Rattle.sinks.proofs.table.TableSink.append.Goals as goal

pub invariant_of-self-2 : goal.invariant_of-self-2
invariant_of-self-2 c =
    let s = c.args.self.now in
    let cl = c.args.clause.now in
    let listed : s.count < length s.pairs.now = omega (arith, c.left-entries.ensures.entries, c.if-entries-eq0.false) in
    let inside : s.used + length cl ≤ length s.literals.now = omega (arith, c.left-entries.ensures.units, c.if-units-clause.false, s.inside) in
    record {
      laid_out = rw (c.store.ensures, c.list_pair.ensures) (table_laid_out s.pairs.now s.count s.literals.now s.used cl s.laid_out listed inside);
      inside = omega (arith, inside, c.store.auto.literals);
      few_units = omega (arith, c.left-entries.ensures.units, c.if-units-clause.false, s.few_units);
      listed = omega (arith, listed, c.list_pair.auto.pairs);
      few_entries = omega (arith, c.left-entries.ensures.entries, c.if-entries-eq0.false);
    }
