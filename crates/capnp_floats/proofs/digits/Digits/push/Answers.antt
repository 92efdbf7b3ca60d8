use Rattle.std.proofs.Common.{arith}
use Rattle.capnp_floats.proofs.Appending.{zero_holds}
use Rattle.capnp_floats.proofs.digits.Digits.push.Goals as goal

pub returns-then-digit-eq0-clause-holds : goal.returns-then-digit-eq0-clause-holds
returns-then-digit-eq0-clause-holds c = λ n h. zero_holds c.args.self.now n c.args.digit c.requires.fits (omega arith) (omega arith) h
