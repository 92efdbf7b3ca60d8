use Rattle.std.proofs.Common.{ℕ, ◌<◌}
use Rattle.capnp_schema.specs.Entries.{lists_seen}
use Rattle.capnp_schema.specs.Accepted.{GroupStands}
use Rattle.capnp_schema.specs.Steps.Checking.Parents.{AreKnown}
use Rattle.capnp_schema.proofs.check.groups.check_groups.Given as goal

abbrev pub invariant-loop-group : goal.invariant-loop-group
invariant-loop-group l = record {
  stands : (g : ℕ) → g < l.group → GroupStands (lists_seen l.lists) g;
  known : AreKnown (lists_seen l.lists) l.known.items;
}
