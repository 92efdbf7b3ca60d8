use Rattle.std.proofs.Common.{sym, subst}
use Rattle.capnp_from_json.specs.Steps.Digits.{AreDigits}
use Rattle.capnp_from_json.proofs.Digits.{fraction_are_digits, whole_are_digits}
use Rattle.capnp_from_json.proofs.integers.read_unsigned.Goals as goal

pub natural_of-requires-clause-whole : goal.natural_of-requires-clause-whole
natural_of-requires-clause-whole c = subst AreDigits (sym c.number_parts-parts.ensures.whole) (whole_are_digits c.args.token.now)

pub natural_of-requires-clause-fraction : goal.natural_of-requires-clause-fraction
natural_of-requires-clause-fraction c = subst AreDigits (sym c.number_parts-parts.ensures.fraction) (fraction_are_digits c.args.token.now)
