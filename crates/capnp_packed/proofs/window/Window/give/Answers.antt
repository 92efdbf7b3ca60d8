-- The bytes that are given are the first of those that waited.
use Rattle.std.proofs.Common.{◌≡◌, length, arith, rules}
use Rattle.capnp_packed.specs.Sources.{held}
use Rattle.capnp_packed.proofs.Held.{given}
use Rattle.capnp_packed.proofs.window.Window.give.Goals as goal

pub returns-clause-bytes : goal.returns-clause-bytes
unfolding held
returns-clause-bytes c =
    let w = c.args.self.now in
    let long : length w.bytes ≡ 4096 = search rules in
    given w.bytes c.copy_from_slice.new.self c.args.buffer.now w.start w.end c.if-waiting-buffer.count (search rules) (omega (arith, long))
    c.copy_from_slice.ensures.after
