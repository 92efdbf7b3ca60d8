use Rattle.capnp_schema.specs.Schema.{field_at}
use Rattle.capnp_records.specs.Reading.{element_type}
use Rattle.capnp_known.proofs.PointersSeen.{list_there}
use Rattle.capnp_known.proofs.pointers.list_at.Goals as goal

pub returns : goal.returns
returns g c =
    list_there g.S.KnownSet.set c.args.reader.now c.args.brand c.args.index c.requires.active c.get_pointer_field.result c.args.place c.get_pointer_field.ensures.tree c.get_pointer_field.ensures.levels (element_type (field_at g.S.KnownSet.set c.args.brand c.args.index).type) c.args.size c.requires.size c.requires.field c.get_list.result c.get_list.ensures.read c.get_list.ensures.levels
