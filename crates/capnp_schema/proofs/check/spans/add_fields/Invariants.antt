use Rattle.std.proofs.Common.{ℕ, ◌≡◌, ◌||◌, drop}
use Rattle.capnp_schema.specs.Schema.{fields_of}
use Rattle.capnp_schema.specs.Entries.{lists_seen}
use Rattle.capnp_schema.specs.Footprint.{Spot, some_field}
use Rattle.capnp_schema.specs.Steps.Checking.Spans.{field_names, reached_spot}
use Rattle.capnp_schema.proofs.check.spans.add_fields.Given as goal

-- what is added so far, and what the fields that are left name
abbrev pub invariant-loop-i : goal.invariant-loop-i
invariant-loop-i l = (groups : ℕ) (p : Spot) →
    (reached_spot groups (lists_seen l.lists) l.out.items l.below.items p || some_field (field_names groups (lists_seen l.lists)) (drop l.i (fields_of (lists_seen l.lists) l.brand)) p)
    ≡ (reached_spot groups (lists_seen l.lists) l.initial.out.items l.initial.below.items p || some_field (field_names groups (lists_seen l.lists)) (fields_of (lists_seen l.lists) l.brand) p)
