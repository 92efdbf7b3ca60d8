use Rattle.capnp_known.proofs.PointersSeen.{text_there}
use Rattle.capnp_known.proofs.pointers.text_at.Goals as goal

pub returns : goal.returns
returns g c = text_there g.S.KnownSet.set c.args.reader.now c.args.brand c.args.index c.requires.active c.get_pointer_field.result c.args.place c.get_pointer_field.ensures.tree c.get_pointer_field.ensures.levels c.requires.field c.get_text.result c.get_text.ensures
