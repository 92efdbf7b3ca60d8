-- Whether the bytes read are more than 2^29 - 1 decides between data and the refusal of its
-- size; the refusal of an element is that of the array.
use Rattle.std.proofs.Common.{◌<◌, ◌≤◌, length, Err, sym, ap, subst, ◌∙◌, arith}
use Rattle.std.specs.Option.{option_map}
use Rattle.capnp_json_text.specs.Values.{elements_of, json_at}
use Rattle.capnp_from_json.specs.ElementReads.{element_bytes}
use Rattle.capnp_from_json.specs.Errors.{IsErrorOf}
use Rattle.capnp_from_json.proofs.ElementSteps.{all_data, much_read}
use Rattle.capnp_from_json.proofs.elements.read_data.Goals as goal

pub returns-then-len-gt536870911-clause-refused : goal.returns-then-len-gt536870911-clause-refused
returns-then-len-gt536870911-clause-refused c = λ rules levels.
    much_read rules (elements_of (json_at c.args.whole) (option_map (λ x. x.now) c.args.first)) c.args.place levels c.in-Ok.bytes.items (c.in-Ok.ensures.read rules levels)
    (let l : 536870911 < length c.in-Ok.bytes.items = omega (arith, c.len.ensures) in l)
    ∙ ap Err (sym c.past_format.ensures)

pub returns-else-len-gt536870911-clause-read : goal.returns-else-len-gt536870911-clause-read
returns-else-len-gt536870911-clause-read c = λ rules levels.
    all_data rules (elements_of (json_at c.args.whole) (option_map (λ x. x.now) c.args.first)) c.args.place levels c.in-Ok.bytes.items (c.in-Ok.ensures.read rules levels)
    (let l : length c.in-Ok.bytes.items ≤ 536870911 = omega (arith, c.len.ensures) in l)

pub returns-in-Err-Refused-clause-refused : goal.returns-in-Err-Refused-clause-refused
returns-in-Err-Refused-clause-refused c = λ rules levels. c.refused_array.ensures.refused rules c.args.whole levels (subst (IsErrorOf (element_bytes rules c.args.whole (option_map (λ x. x.now) c.args.first) levels)) c.in-Err-Refused.field-0-is (c.in-Err-Refused.ensures.refused rules levels))
