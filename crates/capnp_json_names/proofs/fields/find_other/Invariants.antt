-- None of those before has the name, but for the index.
use Rattle.std.proofs.Common.{◌≡◌, ℕ, ◌<◌, map, slice_get, None}
use Rattle.capnp_schema.specs.Schema.{seen_field}
use Rattle.capnp_json_names.specs.Labels.{field_labels}
use Rattle.capnp_json_names.specs.Meetings.{other_at}
use Rattle.capnp_json_names.proofs.fields.find_other.Given as goal

abbrev pub invariant-loop-other : goal.invariant-loop-other
invariant-loop-other l = (k : ℕ) → k < l.other → other_at l.index l.name k (slice_get (field_labels (map seen_field l.fields)) k) ≡ None
