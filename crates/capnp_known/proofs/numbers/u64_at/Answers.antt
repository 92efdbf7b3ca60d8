use Rattle.std.proofs.Common.{ap, pos, sym, ◌∙◌}
use Rattle.capnp_records.specs.Record as value
use Rattle.capnp_known.proofs.NumbersSeen.{number_there}
use Rattle.capnp_known.proofs.numbers.u64_at.Goals as goal

pub returns : goal.returns
returns g c =
    ap (λ x. value.Number (pos x)) c.get_data_field_mask.ensures
    ∙ sym (number_there g.S.KnownSet.set c.args.reader.now c.args.brand c.args.index c.requires.active c.struct_is_well_formed.ensures.0 c.args.offset 8 0 c.requires.field)
