-- Each arc and the next were compared.
use Rattle.std.proofs.Common.{◌≡◌, ℕ, ◌+◌, ◌*◌, Bool, true, false, ltb, Decides, List, length, refl, sym, arith, rules}
use Rattle.std.specs.List.{IsAllAdjacentAnswer}
use Rattle.std.proofs.lemmas.Bool.{ltb-false, ltb-true}
use Rattle.std.proofs.lemmas.Fn.{always_returns_same}
use Rattle.closings.specs.Arcs.{Ascending, no_arc}
use Rattle.closings.specs.declared.arc.Arc.{Arc}
use Rattle.closings.proofs.checking.pairs_ascend.Goals as goal

module _ (r : ℕ) where
  abbrev rises : Arc → Arc → Bool
  rises e f = ltb (e.from * r + e.to) (f.from * r + f.to)

  ascends
      : (es : List Arc) (b : Bool) → IsAllAdjacentAnswer (λ e f t. t ≡ rises e f) es b → Decides b (Ascending r es (length es))
  ascends es true h = (λ _ a l. ltb-true _ _ (sym (h a no_arc l)), λ _. refl)
  ascends es false (a, l, h) =
      (λ e. cc, λ up. let f = ltb-false _ _ (sym (h no_arc)) in let u = up a l in absurd (omega arith))

pub returns : goal.returns
returns c =
    ascends c.args.nodes _ _ (c.is_sorted_by.ensures.cases (rises c.args.nodes) (always_returns_same _ _ _ (λ a r g h. search rules)))
