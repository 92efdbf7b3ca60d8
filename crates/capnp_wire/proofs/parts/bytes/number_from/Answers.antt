use Rattle.capnp_wire.proofs.Spelled.{spelled_at_below}
use Rattle.capnp_wire.proofs.parts.bytes.number_from.Goals as goal

pub returns-clause-fits : goal.returns-clause-fits
returns-clause-fits c = rw (c.number.ensures, c.part.ensures) (spelled_at_below c.args.bytes.now c.args.start c.args.width c.type_inv.bytes)
