use Rattle.std.proofs.Common.{T}
use Rattle.law.proofs.ClauseLists.{clause_law}
use Rattle.law.proofs.Encoding.{encoding_law}
use Rattle.law.specs.Encoding.{Fresh}
use Rattle.sheet.specs.Phases.{is_fresh}
use Rattle.sheet.specs.View.{view}
use Rattle.sheet.specs.declared.place.Sheet.{Sheet}
use Rattle.law.proofs.start_is_right.Goals as goal

fresh_of : (s : Sheet) → T (is_fresh s.phase) → Fresh (view s)
fresh_of s t = record {
  pipes = s.pipes_join;
  no_arcs = λ u w. s.fresh_arcs u w t;
  next = s.fresh_next t;
}

pub returns : goal.returns
returns c =
    let s = c.args.sheet.now in
    record {
      lists = λ t. (clause_law.start (view s) (fresh_of s t)).0;
      encodes = λ t. encoding_law.start (view s) (fresh_of s t);
    }
