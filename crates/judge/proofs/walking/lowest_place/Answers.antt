use Rattle.std.proofs.Common.{Some}
use Rattle.std.proofs.lemmas.Iterator.{YieldsList-from_slice}
use Rattle.std.proofs.lemmas.Iterator.Consumers.{min_from_yields_List}
use Rattle.judge.proofs.Lowest.{lowest_found}
use Rattle.judge.proofs.walking.lowest_place.Goals as goal

pub returns : goal.returns
returns c =
    lowest_found c.args.nodes.now _ _
    (min_from_yields_List c.iter.result (Some c.in_ok-min.field-0) c.in_ok-min.ensures.ran (YieldsList-from_slice c.args.nodes.now c.iter.ensures.rest))
    c.place_of.ensures
