-- Whether the digit is 0 decides if the mark of more changes; either way the digits hold one digit more, with one more cut.
use Rattle.std.proofs.Common.{refl, inl, inr, arith}
use Rattle.capnp_floats.proofs.Appending.{pass_fits, pass_holds}
use Rattle.capnp_floats.proofs.digits.Digits.pass.Goals as goal

pub returns-then-digit-eq0-clause-fits : goal.returns-then-digit-eq0-clause-fits
returns-then-digit-eq0-clause-fits c = pass_fits c.args.self.now _ c.requires.fits c.requires.full refl refl

pub returns-then-digit-eq0-clause-holds : goal.returns-then-digit-eq0-clause-holds
returns-then-digit-eq0-clause-holds c = λ n h. pass_holds c.args.self.now _ n c.args.digit c.requires.digit refl refl (inl (omega arith, refl)) h

pub returns-clause-fits : goal.returns-clause-fits
returns-clause-fits c = pass_fits c.args.self.now _ c.requires.fits c.requires.full refl refl

pub returns-clause-holds : goal.returns-clause-holds
returns-clause-holds c = λ n h. pass_holds c.args.self.now _ n c.args.digit c.requires.digit refl refl (inr (omega arith, refl)) h
