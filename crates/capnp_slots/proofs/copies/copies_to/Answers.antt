-- The field's type is the variant that is matched.
use Rattle.std.proofs.Common.{ap, ◌∙◌}
use Rattle.capnp_schema.specs.Facts.Layers.{seen_which}
use Rattle.capnp_schema.specs.Types.{seen_variant}
use Rattle.capnp_slots.proofs.CopiedSources.{takes_err, takes_ok}
use Rattle.capnp_slots.proofs.copies.copies_to.Goals as goal

pub returns-clause-takes : goal.returns-clause-takes
returns-clause-takes c = takes_ok c.args.field _ c.which.result _ c.requires (ap seen_variant c.which.ensures ∙ (seen_which c.get_type.result ∙ c.get_type.ensures.is)) c.copies_source.ensures

pub returns-clause-refused : goal.returns-clause-refused
returns-clause-refused c = takes_err c.args.field _ c.which.result _ (ap seen_variant c.which.ensures ∙ (seen_which c.get_type.result ∙ c.get_type.ensures.is)) c.copies_source.ensures
