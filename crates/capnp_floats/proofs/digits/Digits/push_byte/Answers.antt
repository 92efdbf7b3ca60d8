-- A byte that is no digit leaves the natural that is held; one that is a digit is put behind it.
use Rattle.std.proofs.Common.{arith, rules, subst, sym, ◌≡◌, true, false}
use Rattle.std.proofs.lemmas.Bool.{not-true, not-false}
use Rattle.std.specs.Char.{is_ascii_digit}
use Rattle.capnp_floats.specs.Steps.Digits.{HoldsDigits}
use Rattle.capnp_floats.proofs.Appending.{digit_is, no_digit_is}
use Rattle.capnp_floats.proofs.digits.Digits.push_byte.Goals as goal

pub returns-then-not-is_ascii_digit-clause-holds : goal.returns-then-not-is_ascii_digit-clause-holds
returns-then-not-is_ascii_digit-clause-holds c =
    let e : is_ascii_digit c.args.byte ≡ false = first_of (search rules, grind arith, search (rules, not-true, not-false)) in
    λ n h. subst (λ z. HoldsDigits c.args.self.now z) (sym (no_digit_is n c.args.byte e)) h

pub returns-clause-holds : goal.returns-clause-holds
returns-clause-holds c =
    let e : is_ascii_digit c.args.byte ≡ true = first_of (search rules, grind arith, search (rules, not-true, not-false)) in
    λ n h. subst (λ z. HoldsDigits c.push.new.self z) (sym (digit_is n c.args.byte e)) (c.push.ensures.holds n h)
