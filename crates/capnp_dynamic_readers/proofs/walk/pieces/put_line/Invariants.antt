use Rattle.std.proofs.Common.{◌∷◌, ◌*◌, replicate}
use Rattle.capnp_records.specs.Text.{said_text}
use Rattle.capnp_dynamic_readers.specs.Steps.Pieces.{IsPut}
use Rattle.capnp_dynamic_readers.proofs.walk.pieces.put_line.Given as goal

abbrev pub invariant-loop-step : goal.invariant-loop-step
invariant-loop-step g l = IsPut (g.O.Out.text l.fn.out) (said_text (10 ∷ replicate (2 * l.step) 32)) (g.O.Out.text l.out)
