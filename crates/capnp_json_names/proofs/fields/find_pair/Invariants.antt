-- None of those before meets another.
use Rattle.std.proofs.Common.{◌≡◌, ℕ, ◌<◌, map, slice_get, None}
use Rattle.capnp_schema.specs.Schema.{seen_field}
use Rattle.capnp_json_names.specs.Labels.{field_labels}
use Rattle.capnp_json_names.specs.Meetings.{pair_at}
use Rattle.capnp_json_names.proofs.fields.find_pair.Given as goal

abbrev pub invariant-loop-index : goal.invariant-loop-index
invariant-loop-index l = (k : ℕ) → k < l.index → pair_at (field_labels (map seen_field l.fields)) k (slice_get (field_labels (map seen_field l.fields)) k) ≡ None
