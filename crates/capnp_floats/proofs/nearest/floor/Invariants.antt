use Rattle.std.proofs.Common.{◌*◌, ◌^◌, ◌-◌, ◌<◌, ◌≤◌}
use Rattle.capnp_floats.specs.Nearest.{infinity_bits, least_numbers}
use Rattle.capnp_floats.proofs.nearest.floor.Given as goal

abbrev pub invariant-halving : goal.invariant-halving
invariant-halving l = record {
  order : l.low < l.high;
  finite : l.high ≤ infinity_bits l.width;
  low : least_numbers l.width l.low * 10 ^ l.zeros ≤ l.decimal;
  high : l.high < infinity_bits l.width → l.decimal < least_numbers l.width l.high * 10 ^ l.zeros;
}

abbrev pub decreases-halving : goal.decreases-halving
decreases-halving l = l.high - l.low
