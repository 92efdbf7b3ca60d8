-- No byte waits where the two places are one.
use Rattle.std.proofs.Common.{◌≡◌, length, arith, rules}
use Rattle.std.proofs.lemmas.Bool.Decides.{nat_tests}
use Rattle.capnp_packed.specs.Sources.{held}
use Rattle.capnp_packed.proofs.Held.{is_none, none_is}
use Rattle.capnp_packed.proofs.window.Window.is_empty.Goals as goal

pub returns : goal.returns
unfolding held
returns c =
    let w = c.args.self.now in
    let long : length w.bytes ≡ 4096 = search rules in (
      λ h. is_none w.bytes w.start w.end (grind (arith, nat_tests, h)),
      λ h. let e = none_is w.bytes w.start w.end w.inside (omega (arith, long)) h in grind (arith, nat_tests, e),
    )
