-- The place that is found is that of the clause.
use Rattle.std.proofs.Common.{arith, rules}
use Rattle.closings.specs.ArcFacts.{ready_of}
use Rattle.closings.specs.Inputs.{Lawful, input}
use Rattle.closings.specs.NumbersListing.{found_all_rise, found_bit_rises, found_low_enters, found_low_leaves}
use Rattle.closings.specs.NumbersListing.{found_rest_enters, found_rest_leaves, none_past}
use Rattle.closings.specs.declared.remaining.Remaining.{Remaining}
use Rattle.closings.proofs.numbers.PlaceClausePlace.find.Goals as goal

law : (x : Remaining) → Lawful (input x)
law x = (ready_of x).lawful

pub returns-then-a-arc_count-clause-is : goal.returns-then-a-arc_count-clause-is
returns-then-a-arc_count-clause-is c =
    none_past (input c.args.x.now) (law c.args.x.now) c.args.k c.saturating_sub-middle.result (omega arith) (omega arith)

pub returns-then-at-eq0 : goal.returns-then-at-eq0
returns-then-at-eq0 c =
    found_low_leaves (input c.args.x.now) (law c.args.x.now) c.args.k c.saturating_sub-middle.result (omega arith)
    (omega arith) c.if-at-eq0.true

pub returns-then-at-eq1 : goal.returns-then-at-eq1
returns-then-at-eq1 c =
    found_low_enters (input c.args.x.now) (law c.args.x.now) c.args.k c.saturating_sub-middle.result (omega arith)
    (omega arith) c.if-at-eq1.true

pub returns-then-m-middle : goal.returns-then-m-middle
returns-then-m-middle c =
    found_all_rise (input c.args.x.now) (law c.args.x.now) c.args.k c.saturating_sub-middle.result (omega arith)
    (omega arith) c.if-at-eq0.false c.if-at-eq1.false c.if-m-middle.true

pub returns-in-0 : goal.returns-in-0
returns-in-0 c =
    found_bit_rises (input c.args.x.now) (law c.args.x.now) c.args.k c.saturating_sub-middle.result (omega arith)
    (omega arith) c.if-at-eq0.false c.if-at-eq1.false c.if-m-middle.false c.in-0.is

pub returns-in-1 : goal.returns-in-1
returns-in-1 c =
    found_rest_leaves (input c.args.x.now) (law c.args.x.now) c.args.k c.saturating_sub-middle.result (omega arith)
    (omega arith) c.if-at-eq0.false c.if-at-eq1.false c.if-m-middle.false c.in-1.is

pub returns-in_default : goal.returns-in_default
returns-in_default c =
    found_rest_enters (input c.args.x.now) (law c.args.x.now) c.args.k c.saturating_sub-middle.result (omega arith)
    (omega arith) c.if-at-eq0.false c.if-at-eq1.false c.if-m-middle.false (search rules) (search rules)
