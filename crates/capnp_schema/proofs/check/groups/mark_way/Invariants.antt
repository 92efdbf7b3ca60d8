use Rattle.std.proofs.Common.{◌<◌, length}
use Rattle.capnp_schema.specs.Accepted.{IsGroupBrand, StandsInStruct}
use Rattle.capnp_schema.specs.Entries.{lists_seen}
use Rattle.capnp_schema.specs.Steps.Checking.Parents.{AreKnown}
use Rattle.capnp_schema.proofs.check.groups.mark_way.Given as goal

abbrev pub invariant-loop : goal.invariant-loop
invariant-loop l = record {
  known : AreKnown (lists_seen l.lists) l.known.items;
  stands : IsGroupBrand (lists_seen l.lists) l.at → StandsInStruct (lists_seen l.lists) l.at;
  within : l.at < length (lists_seen l.lists).brands;
}
