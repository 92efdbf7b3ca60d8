-- With fewer than 800 digits kept there is room for one behind them: a natural held becomes ten times itself and the digit.
use Rattle.std.proofs.Common.{refl}
use Rattle.capnp_floats.proofs.Appending.{append_fits, keep_fits, keep_holds}
use Rattle.capnp_floats.proofs.digits.Digits.keep.Goals as goal

pub append-requires : goal.append-requires
append-requires c = append_fits c.args.self.now c.args.digit c.requires.fits c.requires.digit

pub returns-clause-fits : goal.returns-clause-fits
returns-clause-fits c = keep_fits c.args.self.now _ c.args.digit c.requires.fits c.requires.digit c.requires.room c.requires.some c.append.ensures refl refl

pub returns-clause-holds : goal.returns-clause-holds
returns-clause-holds c = λ n h. keep_holds c.args.self.now _ n c.args.digit c.requires.fits c.requires.room c.append.ensures refl refl h
