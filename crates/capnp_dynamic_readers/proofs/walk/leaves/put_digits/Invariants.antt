use Rattle.std.proofs.Common.{flat_map, take}
use Rattle.capnp_dynamic_readers.specs.Steps.Leaf.{two_digits}
use Rattle.capnp_records.specs.Text.{said_text}
use Rattle.capnp_dynamic_readers.specs.Steps.Pieces.{IsPut}
use Rattle.capnp_dynamic_readers.proofs.walk.leaves.put_digits.Given as goal

abbrev pub invariant-loop-i : goal.invariant-loop-i
invariant-loop-i g l = IsPut (g.O.Out.text l.fn.out) (said_text (flat_map two_digits (take l.i l.fn.bytes))) (g.O.Out.text l.out)
