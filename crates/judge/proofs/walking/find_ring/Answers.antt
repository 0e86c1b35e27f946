use Rattle.judge.proofs.RingLaw.{way_some, way_turned}
use Rattle.judge.proofs.walking.find_ring.Goals as goal

pub returns-in_err-low : goal.returns-in_err-low
returns-in_err-low g c =
    let part = c.in_ok-part.ensures in absurd (way_some _ _ _ part.0 part.1 c.in_err-low.ensures)

pub returns : goal.returns
returns g c =
    let part = c.in_ok-part.ensures in
    let low = c.in_ok-low.ensures in
    (part.0, way_turned _ _ _ part.0 part.1 _ _ low.0 low.1 c.rotate_left.ensures.after)
