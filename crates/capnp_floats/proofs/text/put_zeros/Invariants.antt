use Rattle.std.proofs.Common.{◌≡◌, ◌++◌, string_bytes, replicate}
use Rattle.capnp_floats.proofs.text.put_zeros.Given as goal

abbrev pub invariant-loop-i : goal.invariant-loop-i
invariant-loop-i l = string_bytes l.out ≡ string_bytes l.fn.out ++ replicate l.i 48
