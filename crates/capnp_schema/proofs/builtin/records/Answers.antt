use Rattle.capnp_schema.specs.Builtin.{builtin}
use Rattle.capnp_schema.specs.Facts.AcceptedLists.{lists_accepted}
use Rattle.capnp_schema.proofs.BuiltinAccepted.{builtin_accepted}
use Rattle.capnp_schema.proofs.builtin.records.Goals as goal

pub returns-clause-accepted : goal.returns-clause-accepted
returns-clause-accepted c = lists_accepted builtin builtin_accepted _ _ _ c.in_ok-nodes.ensures c.in_ok-brands.ensures c.in_ok-enums.ensures
