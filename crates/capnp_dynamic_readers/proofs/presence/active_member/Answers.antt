-- The member of the number at the discriminant's place is the active one.
use Rattle.capnp_wire.specs.Standing.{struct_of}
use Rattle.capnp_dynamic_readers.specs.Facts.Active.{member_active}
use Rattle.capnp_dynamic_readers.proofs.presence.active_member.Goals as goal

pub returns : goal.returns
returns c = λ l. member_active c.args.schema l (struct_of c.args.reader.now) c.in-Some.first c.load_pair.result c.in-Ok.member c.in-Some.ensures.is c.load_pair.ensures c.in-Ok.ensures
