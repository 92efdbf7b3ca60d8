-- The number with its sign is what is read of the sections, which is what the record holds there.
use Rattle.std.proofs.Common.{ap, ◌∙◌}
use Rattle.std.specs.Int.{w8}
use Rattle.std.proofs.lemmas.Int.{to_z-of_z}
use Rattle.capnp_records.specs.Record as value
use Rattle.capnp_request.proofs.PartsRead.{there}
use Rattle.capnp_request.proofs.parts.i8_at.Goals as goal

pub returns : goal.returns
returns c =
    ap (λ x. value.Number x) (to_z-of_z w8 c.i8_at.result (record { sfits = c.i8_at.type_inv }))
    ∙ there c.args.brand c.args.index c.sections_at-sections.ensures.record c.i8_at.ensures
