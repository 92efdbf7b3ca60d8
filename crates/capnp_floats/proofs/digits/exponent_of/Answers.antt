-- The number so far stands for a natural, exact or capped at 2^120; this, with the digits
-- among the bytes left behind it, is the natural of all.
use Rattle.std.proofs.Common.{arith, inl, refl, sym, ap, subst, get_or, ◌∙◌, ◌^◌}
use Rattle.std.proofs.lemmas.List.{drop_all}
use Rattle.capnp_floats.specs.Words.{digits_behind, with_digit}
use Rattle.capnp_floats.specs.Steps.Digits.{IsCapped}
use Rattle.capnp_floats.proofs.Appending.{next_digit}
use Rattle.capnp_floats.proofs.digits.exponent_of.Goals as goal

pub loop-index-init : goal.loop-index-init
loop-index-init c = record { few = omega arith; value = (0, inl refl, refl) }

pub loop-index-preserved : goal.loop-index-preserved
loop-index-preserved c =
    let so_far = c.loop-index.invariant.value in
    record {
      few = c.more_exponent-number.ensures.few;
      value = (
        with_digit so_far.0 (get_or c.args.bytes.now c.loop-index.index 0),
        c.more_exponent-number.ensures.holds so_far.0 so_far.1,
        next_digit so_far.0 c.args.bytes.now c.loop-index.index (omega arith) ∙ so_far.2,
      );
    }

pub returns-clause-value : goal.returns-clause-value
returns-clause-value c =
    let so_far = c.loop-index.invariant.value in
    subst (IsCapped (2 ^ 120) c.loop-index.number) (sym (ap (digits_behind so_far.0) (drop_all c.loop-index.index c.args.bytes.now (omega arith))) ∙ so_far.2) so_far.1
