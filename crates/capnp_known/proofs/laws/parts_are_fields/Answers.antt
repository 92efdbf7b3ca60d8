use Rattle.capnp_known.specs.Facts.PartsSeen.{part_seen}
use Rattle.capnp_known.proofs.laws.parts_are_fields.Goals as goal

pub returns : goal.returns
returns g c = λ s b i inside active. part_seen g.S.KnownSet.set s b i active inside
