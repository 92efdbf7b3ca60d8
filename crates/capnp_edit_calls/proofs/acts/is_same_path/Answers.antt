-- All steps are the same.
use Rattle.std.proofs.Common.{arith, refl}
use Rattle.capnp_edit_calls.proofs.Appending.{same_whole}
use Rattle.capnp_edit_calls.proofs.acts.is_same_path.Goals as goal

pub loop-index-init : goal.loop-index-init
loop-index-init c = refl

pub returns : goal.returns
returns c = λ _. same_whole c.args.a.now c.args.b.now c.loop-index.index (omega (arith, c.loop-index-test.false, c.loop-index.auto.index-end)) c.if-a-b.false c.loop-index.invariant
