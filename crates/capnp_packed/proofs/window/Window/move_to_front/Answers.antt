-- What is moved waits as it did.
use Rattle.std.proofs.Common.{◌≡◌, length, arith, rules}
use Rattle.capnp_packed.specs.Sources.{held}
use Rattle.capnp_packed.proofs.Held.{moved}
use Rattle.capnp_packed.proofs.window.Window.move_to_front.Goals as goal

pub returns-clause-same : goal.returns-clause-same
unfolding held
returns-clause-same c =
    let w = c.args.self.now in
    let long : length w.bytes ≡ 4096 = search rules in
    moved w.bytes c.copy_within.new.self _ w.start w.end w.inside (omega (arith, long)) c.copy_within.ensures.after
