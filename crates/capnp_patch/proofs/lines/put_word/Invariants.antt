-- The characters so far are told.
use Rattle.std.proofs.Common.{◌≡◌, ◌++◌, string_bytes}
use Rattle.capnp_patch.specs.Lines.{told_chars}
use Rattle.capnp_patch.proofs.lines.put_word.Given as goal

abbrev pub invariant-loop-c : goal.invariant-loop-c
invariant-loop-c l = string_bytes l.out ≡ string_bytes l.fn.out ++ told_chars l.yielded
