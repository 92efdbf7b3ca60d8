-- None of those before meets another.
use Rattle.std.proofs.Common.{◌≡◌, ℕ, ◌<◌, map, slice_get, None}
use Rattle.capnp_schema.specs.Schema.{seen_enumerant}
use Rattle.capnp_json_names.specs.Labels.{enumerant_labels}
use Rattle.capnp_json_names.specs.Meetings.{pair_at}
use Rattle.capnp_json_names.proofs.enumerants.find_pair.Given as goal

abbrev pub invariant-loop-ordinal : goal.invariant-loop-ordinal
invariant-loop-ordinal l = (k : ℕ) → k < l.ordinal → pair_at (enumerant_labels (map seen_enumerant l.enumerants)) k (slice_get (enumerant_labels (map seen_enumerant l.enumerants)) k) ≡ None
