-- The type of a list names entries where that of its elements does.
use Rattle.std.proofs.Common.{ap, subst, sym, ◌∙◌}
use Rattle.capnp_schema.specs.Accepted.{NamesEntries}
use Rattle.capnp_schema.specs.Facts.Layers.{seen_which}
use Rattle.capnp_schema.specs.Types.{seen_variant}
use Rattle.riftcalico_core.proofs.calls.find_element_type.Goals as goal

pub returns-in-List-clause-named : goal.returns-in-List-clause-named
returns-in-List-clause-named c = λ set named.
    subst (NamesEntries set) (sym (seen_which c.args.list) ∙ (sym (ap seen_variant c.which.ensures) ∙ ap seen_variant c.in-List.is)) named
