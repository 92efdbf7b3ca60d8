use Rattle.std.proofs.Common.{ap, arith, of_z, sym, to_z, ◌∙◌}
use Rattle.std.specs.Int.{w32, cast_signed}
use Rattle.std.proofs.lemmas.Int.{of_z-to_z}
use Rattle.capnp_records.specs.Record as value
use Rattle.capnp_known.proofs.NumbersSeen.{integer_there}
use Rattle.capnp_known.proofs.numbers.i32_at.Goals as goal

pub returns : goal.returns
returns g c =
    ap (λ x. value.Number x) (ap (λ x. to_z w32 (of_z w32 x)) c.cast_signed.ensures ∙ (ap (cast_signed w32) (of_z-to_z w32 c.get_data_field_mask.result (omega (arith, c.get_data_field_mask.type_inv))) ∙ ap (cast_signed w32) c.get_data_field_mask.ensures))
    ∙ sym (integer_there g.S.KnownSet.set c.args.reader.now c.args.brand c.args.index c.requires.active c.struct_is_well_formed.ensures.0 c.args.offset 4 c.requires.field)
