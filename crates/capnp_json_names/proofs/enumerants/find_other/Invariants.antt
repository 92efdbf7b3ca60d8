-- None of those before has the name, but for the ordinal.
use Rattle.std.proofs.Common.{◌≡◌, ℕ, ◌<◌, map, slice_get, None}
use Rattle.capnp_schema.specs.Schema.{seen_enumerant}
use Rattle.capnp_json_names.specs.Labels.{enumerant_labels}
use Rattle.capnp_json_names.specs.Meetings.{other_at}
use Rattle.capnp_json_names.proofs.enumerants.find_other.Given as goal

abbrev pub invariant-loop-other : goal.invariant-loop-other
invariant-loop-other l = (k : ℕ) → k < l.other → other_at l.ordinal l.name k (slice_get (enumerant_labels (map seen_enumerant l.enumerants)) k) ≡ None
