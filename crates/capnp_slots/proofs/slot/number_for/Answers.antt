-- The field's type is the variant that is matched.
use Rattle.std.proofs.Common.{ap, ◌∙◌}
use Rattle.capnp_schema.specs.Facts.Layers.{seen_which}
use Rattle.capnp_schema.specs.Types.{seen_variant}
use Rattle.capnp_slots.proofs.Stored.{field_given_none, field_given_some}
use Rattle.capnp_slots.proofs.slot.number_for.Goals as goal

pub returns-clause-number : goal.returns-clause-number
returns-clause-number c = field_given_some c.args.field _ c.which.result (ap seen_variant c.which.ensures ∙ (seen_which c.get_type.result ∙ c.get_type.ensures.is)) _ c.number_fits.ensures c.number_at_once.ensures

pub returns-clause-none : goal.returns-clause-none
returns-clause-none c = field_given_none c.args.field _ c.which.result (ap seen_variant c.which.ensures ∙ (seen_which c.get_type.result ∙ c.get_type.ensures.is)) _ c.number_at_once.ensures
