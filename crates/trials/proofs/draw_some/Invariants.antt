use Rattle.std.proofs.Common.{◌≡◌}
use Rattle.sheet.specs.View.{view, with_pipes}
use Rattle.trials.proofs.draw_some.Given as goal

abbrev pub invariant-loop : goal.invariant-loop
invariant-loop l = (l.token ≡ l.initial.token) × (with_pipes (view l.sheet) (view l.initial.sheet).pipe ≡ view l.initial.sheet)
