-- A draw that is accepted: what it has been asked, and what it leaves.
use Rattle.std.proofs.Common.{◌≡◌, ℕ, ◌<◌, ◌≤◌, None, arith}
use Rattle.std.proofs.lemmas.Bool.Decides.{nat_tests}
use Rattle.sheet.specs.Drawing.{draw_refusal}
use Rattle.sheet.specs.View.{View}
use Rattle.sheet.specs.declared.pipe.Pipe.{Pipe}

pub record Drawable (s : View) (p : Pipe) : Type 0 where
  pub from : p.from < s.nodes
  pub to : p.to < s.nodes
  pub apart : p.from ≡ p.to → ⊥
  pub valve : p.valve ≤ s.valves

pub drawable : (s : View) (m : ℕ) (p : Pipe) → draw_refusal s m p ≡ None → Drawable s p
drawable s m p h =
    record {
      from = grind (arith, nat_tests);
      to = grind (arith, nat_tests);
      apart = λ e. grind (arith, nat_tests);
      valve = grind (arith, nat_tests);
    }
