use Rattle.std.proofs.Common.{◌≡◌, drop}
use Rattle.capnp_json_text.specs.Numbers.{after_digits}
use Rattle.capnp_json_text.proofs.numbers.skip_digits.Given as goal

abbrev pub invariant-loop-index : goal.invariant-loop-index
invariant-loop-index l = after_digits (drop l.index l.bytes) ≡ after_digits l.bytes
