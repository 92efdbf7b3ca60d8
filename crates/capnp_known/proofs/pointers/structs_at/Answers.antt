use Rattle.std.proofs.Common.{refl}
use Rattle.capnp_wire.specs.declared.size.ElementSize.TheVariants as size
use Rattle.capnp_known.specs.Known.{struct_type}
use Rattle.capnp_known.proofs.PointersSeen.{list_there}
use Rattle.capnp_known.proofs.pointers.structs_at.Goals as goal

pub returns : goal.returns
returns g c =
    list_there g.S.KnownSet.set c.args.reader.now c.args.brand c.args.index c.requires.active c.get_pointer_field.result c.args.place c.get_pointer_field.ensures.tree c.get_pointer_field.ensures.levels (struct_type c.args.inner) size.InlineComposite refl c.requires.field c.get_list.result c.get_list.ensures.read c.get_list.ensures.levels
