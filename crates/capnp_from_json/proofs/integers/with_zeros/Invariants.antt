use Rattle.std.proofs.Common.{◌≡◌, ◌*◌, ◌<◌, ◌^◌}
use Rattle.capnp_from_json.proofs.integers.with_zeros.Given as goal

abbrev pub invariant-loop-index : goal.invariant-loop-index
invariant-loop-index l = record {
  fits : l.total < 2 ^ 64;
  value : l.total ≡ l.fn.number * 10 ^ l._index;
}
