-- The number with its sign is what is read of the sections, which is what the record holds there.
use Rattle.std.proofs.Common.{ap, ◌∙◌}
use Rattle.std.specs.Int.{w64}
use Rattle.std.proofs.lemmas.Int.{to_z-of_z}
use Rattle.capnp_records.specs.Record as value
use Rattle.capnp_request.proofs.PartsRead.{there}
use Rattle.capnp_request.proofs.parts.i64_at.Goals as goal

pub returns : goal.returns
returns c =
    ap (λ x. value.Number x) (to_z-of_z w64 c.i64_at.result (record { sfits = c.i64_at.type_inv }))
    ∙ there c.args.brand c.args.index c.sections_at-sections.ensures.record c.i64_at.ensures
