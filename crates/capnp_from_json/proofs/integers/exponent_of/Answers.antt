-- The number so far stands for a natural, exact or capped at 2^100; this, with the digits
-- left behind it, is the natural of all digits.
use Rattle.std.proofs.Common.{◌+◌, ◌-◌, ◌*◌, ◌^◌, get_or, arith, inl, refl, sym, ap, ◌∙◌, subst}
use Rattle.std.proofs.lemmas.List.{drop_all}
use Rattle.capnp_json_text.specs.Decimals.{natural_from}
use Rattle.capnp_from_json.specs.Steps.Digits.{IsCapped}
use Rattle.capnp_from_json.proofs.Digits.{next_digit}
use Rattle.capnp_from_json.proofs.integers.exponent_of.Goals as goal

pub loop-index-init : goal.loop-index-init
loop-index-init c = record { few = omega arith; value = (0, inl refl, refl) }

pub loop-index-preserved : goal.loop-index-preserved
loop-index-preserved c =
    let so_far = c.loop-index.invariant.value in
    record {
      few = c.more_exponent-number.ensures.few;
      value = (
        10 * so_far.0 + (get_or c.args.digits.now c.loop-index.index 0 - 48),
        c.more_exponent-number.ensures.holds so_far.0 so_far.1,
        next_digit so_far.0 c.args.digits.now c.loop-index.index (omega arith) ∙ so_far.2,
      );
    }

pub returns-clause-value : goal.returns-clause-value
returns-clause-value c =
    let so_far = c.loop-index.invariant.value in
    subst (IsCapped (2 ^ 100) c.loop-index.number) (sym (ap (natural_from so_far.0) (drop_all c.loop-index.index c.args.digits.now (omega arith))) ∙ so_far.2) so_far.1
