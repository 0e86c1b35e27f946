use Rattle.graph.proofs.Orders.{order_law}
use Rattle.graph.proofs.orders_exclude_rings.Goals as goal

pub returns : goal.returns
returns c = order_law
