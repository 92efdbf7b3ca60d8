-- The total with the digits left behind it is the natural asked.
-- Once it is past 64 bits, digits behind it don't make it less; so the natural is too.
use Rattle.std.proofs.Common.{◌+◌, ◌-◌, ◌*◌, ◌^◌, ◌≤◌, get_or, arith}
use Rattle.capnp_json_text.specs.Decimals.{natural_from}
use Rattle.capnp_from_json.proofs.Digits.{all_held, more_than_held}
use Rattle.capnp_from_json.proofs.integers.digits_behind.Goals as goal

pub returns-in_default : goal.returns-in_default
returns-in_default c = more_than_held c.loop-index.total c.args.digits.now c.loop-index.index (natural_from c.args.number c.args.digits.now) (omega arith) c.loop-index.invariant.value (omega (arith, c.in_default.ensures))

pub returns-in_default-checked_add : goal.returns-in_default-checked_add
returns-in_default-checked_add c = more_than_held c.loop-index.total c.args.digits.now c.loop-index.index (natural_from c.args.number c.args.digits.now) (omega arith) c.loop-index.invariant.value (let x : 2 ^ 64 ≤ 10 * c.loop-index.total + (get_or c.args.digits.now c.loop-index.index 0 - 48) = omega (arith, c.in_default-checked_add.ensures, c.in-Some.ensures) in x)

pub returns : goal.returns
returns c = all_held c.loop-index.total c.args.digits.now c.loop-index.index (natural_from c.args.number c.args.digits.now) (omega arith) c.loop-index.invariant.value (omega arith)
