-- The natural held so far, with the digits among the bytes left behind it, is that of the
-- digits among all bytes; at the end no bytes are left.
use Rattle.std.proofs.Common.{arith, refl, sym, ap, subst, get_or, ◌∙◌}
use Rattle.std.proofs.lemmas.List.{drop_all}
use Rattle.capnp_floats.specs.Words.{digits_behind, with_digit}
use Rattle.capnp_floats.specs.Steps.Digits.{HoldsDigits}
use Rattle.capnp_floats.proofs.Appending.{next_digit}
use Rattle.capnp_floats.proofs.digits.digits_of.Goals as goal

pub loop-index-init : goal.loop-index-init
loop-index-init c = record { fits = c.new-digits.ensures.fits; few = omega arith; holds = (0, c.new-digits.ensures.holds, refl) }

pub loop-index-preserved : goal.loop-index-preserved
loop-index-preserved c =
    let so_far = c.loop-index.invariant.holds in
    record {
      fits = c.push_byte.ensures.fits;
      few = omega arith;
      holds = (
        with_digit so_far.0 (get_or c.args.bytes.now c.loop-index.index 0),
        c.push_byte.ensures.holds so_far.0 so_far.1,
        next_digit so_far.0 c.args.bytes.now c.loop-index.index (omega arith) ∙ so_far.2,
      );
    }

pub returns-clause-holds : goal.returns-clause-holds
returns-clause-holds c =
    let so_far = c.loop-index.invariant.holds in
    subst (HoldsDigits c.loop-index.digits) (sym (ap (digits_behind so_far.0) (drop_all c.loop-index.index c.args.bytes.now (omega arith))) ∙ so_far.2) so_far.1
