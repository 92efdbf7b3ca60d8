-- the bytes so far, and those of the name behind them
use Rattle.std.proofs.Common.{◌≡◌, ◌+◌, drop}
use Rattle.capnp_value_texts.specs.Lengths.{name_length}
use Rattle.capnp_value_texts.proofs.lengths.name_length.Given as goal

abbrev pub invariant-loop-index : goal.invariant-loop-index
invariant-loop-index l = l.index + name_length (drop l.index l.bytes) ≡ name_length l.bytes
