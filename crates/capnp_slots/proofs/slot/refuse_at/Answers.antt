-- The field's type is the variant that is asked.
use Rattle.std.proofs.Common.{ap, ◌∙◌}
use Rattle.capnp_schema.specs.Facts.Layers.{seen_which}
use Rattle.capnp_schema.specs.Types.{seen_variant}
use Rattle.capnp_slots.specs.Steps.Primitives.{refusal_at}
use Rattle.capnp_slots.proofs.slot.refuse_at.Goals as goal

pub returns : goal.returns
returns c = c.refusal_at.ensures ∙ ap refusal_at (ap seen_variant c.which.ensures ∙ (seen_which c.get_type.result ∙ c.get_type.ensures.is))
