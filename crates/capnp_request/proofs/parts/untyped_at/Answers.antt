-- The pointer at the slot's place is what the record holds there, whatever it leads to.
use Rattle.capnp_request.proofs.PartsRead.{there}
use Rattle.capnp_request.proofs.UntypedSeen.{untyped_there}
use Rattle.std.proofs.Common.{ap, ◌∙◌}
use Rattle.capnp_wire.specs.Standing.{tree_of}
use Rattle.capnp_records.specs.Record as value
use Rattle.capnp_request.proofs.parts.untyped_at.Goals as goal

pub returns : goal.returns
returns c =
    ap (λ p. value.Untyped (tree_of p)) c.new.ensures
    ∙ there c.args.brand c.args.index c.sections_at-sections.ensures.record
    (untyped_there c.sections_at-sections.result c.args.brand c.args.index c.sections_at-sections.ensures.active c.get_pointer_field.result c.args.place c.get_pointer_field.ensures.tree c.get_pointer_field.ensures.levels c.requires.field)
