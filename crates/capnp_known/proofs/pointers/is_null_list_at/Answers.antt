use Rattle.capnp_schema.specs.Schema.{field_at}
use Rattle.capnp_records.specs.Reading.{element_type}
use Rattle.capnp_known.proofs.PointersSeen.{null_there}
use Rattle.capnp_known.proofs.pointers.is_null_list_at.Goals as goal

pub returns : goal.returns
returns g c = λ h.
    null_there g.S.KnownSet.set c.args.reader.now c.args.brand c.args.index c.requires.active c.get_pointer_field.result c.args.place c.get_pointer_field.ensures.tree c.get_pointer_field.ensures.levels (element_type (field_at g.S.KnownSet.set c.args.brand c.args.index).type) c.requires.field (c.is_no_list.ensures.null h) (c.is_no_list.ensures.level h)
