-- the bytes so far, and those of the leaf behind them
use Rattle.std.proofs.Common.{◌≡◌, ◌+◌, drop}
use Rattle.capnp_value_texts.specs.Lengths.{leaf_length}
use Rattle.capnp_value_texts.specs.declared.lengths.Within.TheVariants.{Plain}
use Rattle.capnp_value_texts.proofs.lengths.leaf_length.Given as goal

abbrev pub invariant-loop-index : goal.invariant-loop-index
invariant-loop-index l = l.index + leaf_length l.within (drop l.index l.bytes) ≡ leaf_length Plain l.bytes
