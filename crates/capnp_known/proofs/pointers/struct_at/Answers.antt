use Rattle.capnp_known.proofs.PointersSeen.{struct_there}
use Rattle.capnp_known.proofs.pointers.struct_at.Goals as goal

pub returns : goal.returns
returns g c =
    struct_there g.S.KnownSet.set c.args.reader.now c.args.brand c.args.index c.requires.active c.get_pointer_field.result c.args.place c.get_pointer_field.ensures.tree c.get_pointer_field.ensures.levels c.args.inner c.requires.field c.get_struct.result c.get_struct.ensures.read c.get_struct.ensures.levels
