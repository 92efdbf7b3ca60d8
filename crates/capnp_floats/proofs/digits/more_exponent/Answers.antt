-- A byte that is no digit leaves the natural that the number stands for; a digit goes behind it while the number is below 2^120.
use Rattle.std.proofs.Common.{arith, rules, ◌≡◌, true, false}
use Rattle.std.proofs.lemmas.Bool.{not-true, not-false}
use Rattle.std.specs.Char.{is_ascii_digit}
use Rattle.capnp_floats.proofs.Appending.{capped_goes_on, capped_same}
use Rattle.capnp_floats.proofs.digits.more_exponent.Goals as goal

pub returns-then-not-is_ascii_digit-clause-holds : goal.returns-then-not-is_ascii_digit-clause-holds
returns-then-not-is_ascii_digit-clause-holds c =
    let e : is_ascii_digit c.args.byte ≡ false = first_of (search rules, grind arith, search (rules, not-true, not-false)) in
    λ n x. capped_same c.args.number n c.args.byte e x

pub returns-clause-holds : goal.returns-clause-holds
returns-clause-holds c =
    let e : is_ascii_digit c.args.byte ≡ true = first_of (search rules, grind arith, search (rules, not-true, not-false)) in
    λ n x. capped_goes_on c.args.number n c.args.byte (omega arith) e x
