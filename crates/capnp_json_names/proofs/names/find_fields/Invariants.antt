-- In none of the nodes before names meet.
use Rattle.std.proofs.Common.{◌≡◌, ℕ, ◌<◌, None}
use Rattle.capnp_schema.specs.Entries.{lists_seen}
use Rattle.capnp_schema.specs.Schema.{node_at}
use Rattle.capnp_json_names.specs.Meetings.{node_pair}
use Rattle.capnp_json_names.proofs.names.find_fields.Given as goal

abbrev pub invariant-loop-node : goal.invariant-loop-node
invariant-loop-node l = (k : ℕ) → k < l.node-index → node_pair (node_at (lists_seen l.schemas) k) ≡ None
