-- The bytes so far stand there as they are.
use Rattle.std.proofs.Common.{◌++◌, ◌-◌, ◌≡◌, ◌≤◌, drop, flat_map, length, take}
use Rattle.capnp_json_text.specs.Writing.{byte_written}
use Rattle.capnp_json.proofs.strings.count_plain.Given as goal

abbrev pub invariant-loop-index : goal.invariant-loop-index
invariant-loop-index l = record {
  plain : flat_map byte_written l.bytes ≡ take l.index l.bytes ++ flat_map byte_written (drop l.index l.bytes);
  within : l.index ≤ length l.bytes;
}

abbrev pub decreases-loop-index : goal.decreases-loop-index
decreases-loop-index l = length l.bytes - l.index
