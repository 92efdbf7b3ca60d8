use Rattle.std.proofs.Common.{◌≡◌, ◌*◌, ◌+◌, ◌-◌, ◌^◌, ◌<◌, ◌≤◌}
use Rattle.capnp_floats.specs.Naturals.{room}
use Rattle.capnp_floats.proofs.search.raise.Given as goal

abbrev pub invariant-raising : goal.invariant-raising
invariant-raising l = record {
  value : l.one ≡ l.fn.one * 10 ^ l.tens;
  small : 100 * l.one < room;
  many : 2 ^ l.tens ≤ l.one;
}

abbrev pub decreases-raising : goal.decreases-raising
decreases-raising l = l.high + 1 - l.one
