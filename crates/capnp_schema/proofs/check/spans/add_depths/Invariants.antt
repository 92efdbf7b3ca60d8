use Rattle.std.proofs.Common.{◌≡◌, ◌-◌, length}
use Rattle.capnp_schema.specs.Entries.{lists_seen}
use Rattle.capnp_schema.specs.Footprint.{Spot}
use Rattle.capnp_schema.specs.Steps.Checking.Spans.{reached_spot}
use Rattle.capnp_schema.proofs.check.spans.add_depths.Given as goal

-- what is reached within the depths that are left
abbrev pub invariant-loop-depth : goal.invariant-loop-depth
invariant-loop-depth l = (p : Spot) →
    reached_spot (length (lists_seen l.lists).brands - l.depth) (lists_seen l.lists) l.out.items l.brands.items p
    ≡ reached_spot (length (lists_seen l.lists).brands) (lists_seen l.lists) l.initial.out.items l.initial.brands.items p
