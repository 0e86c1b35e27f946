use Rattle.law.proofs.Encoding.{encoding_law}
use Rattle.law.proofs.clauses_encode_rings.Goals as goal

pub returns : goal.returns
returns c = encoding_law
