-- The bit at the offset is what the record has at the field, as its slot is there.
use Rattle.std.proofs.Common.{ap, sym, ◌∙◌}
use Rattle.capnp_records.specs.Record as value
use Rattle.capnp_known.proofs.NumbersSeen.{truth_there}
use Rattle.capnp_known.proofs.numbers.bool_at.Goals as goal

pub returns : goal.returns
returns g c = ap (λ x. value.Truth x) c.get_bool_field.ensures ∙ sym (truth_there g.S.KnownSet.set c.args.reader.now c.args.brand c.args.index c.requires.active c.args.offset c.requires.field)
