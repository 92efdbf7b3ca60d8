use Rattle.std.proofs.Common.{◌≡◌, ◌<◌, ◌^◌, drop}
use Rattle.capnp_json_text.specs.Decimals.{natural_from}
use Rattle.capnp_from_json.proofs.integers.digits_behind.Given as goal

abbrev pub invariant-loop-index : goal.invariant-loop-index
invariant-loop-index l = record {
  fits : l.total < 2 ^ 64;
  value : natural_from l.total (drop l.index l.digits) ≡ natural_from l.fn.number l.fn.digits;
}
