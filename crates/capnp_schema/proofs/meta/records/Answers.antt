use Rattle.std.proofs.Common.{ap, map}
use Rattle.capnp_schema.specs.Meta.{meta}
use Rattle.capnp_schema.specs.Schema.{seen_enum}
use Rattle.capnp_schema.specs.Facts.AcceptedLists.{lists_accepted}
use Rattle.capnp_schema.proofs.MetaAccepted.{meta_accepted}
use Rattle.capnp_schema.proofs.meta.records.Goals as goal

pub returns-clause-accepted : goal.returns-clause-accepted
returns-clause-accepted c = lists_accepted meta meta_accepted _ _ _ c.in_ok-nodes.ensures c.in_ok-brands.ensures (ap (map seen_enum) c.new.ensures.items)
