use Rattle.std.proofs.Common.{take}
use Rattle.capnp_records.specs.Text.{decimals, said_text}
use Rattle.capnp_dynamic_readers.specs.Steps.Pieces.{IsPut}
use Rattle.capnp_dynamic_readers.proofs.walk.leaves.put_decimals.Given as goal

abbrev pub invariant-loop-i : goal.invariant-loop-i
invariant-loop-i g l = IsPut (g.O.Out.text l.fn.out) (said_text (decimals (take l.i l.fn.bytes))) (g.O.Out.text l.out)
