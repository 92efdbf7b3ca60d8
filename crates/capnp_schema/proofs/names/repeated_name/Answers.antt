use Rattle.std.proofs.Common.{arith}
use Rattle.capnp_schema.proofs.NameOrder.{table_from_order}
use Rattle.capnp_schema.proofs.names.repeated_name.Goals as goal

pub returns : goal.returns
returns c = table_from_order _ _ c.requires (λ j h. c.loop-k.invariant j (omega arith))
