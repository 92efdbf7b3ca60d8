-- In none of the enums before names meet.
use Rattle.std.proofs.Common.{◌≡◌, ℕ, ◌<◌, None}
use Rattle.capnp_schema.specs.Entries.{lists_seen}
use Rattle.capnp_schema.specs.Schema.{enum_at}
use Rattle.capnp_json_names.specs.Meetings.{enum_pair}
use Rattle.capnp_json_names.proofs.names.find_enumerants.Given as goal

abbrev pub invariant-loop-of : goal.invariant-loop-of
invariant-loop-of l = (k : ℕ) → k < l.of-index → enum_pair (enum_at (lists_seen l.schemas) k) ≡ None
