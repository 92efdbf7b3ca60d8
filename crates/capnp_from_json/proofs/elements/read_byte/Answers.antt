-- A look at the bytes gives the value at its place.
-- A number's token in the range of a byte is that byte; out of range is the refusal at this place.
use Rattle.std.proofs.Common.{◌≡◌, ◌-◌, length, Err, sym, ap, ◌∙◌, arith}
use Rattle.std.specs.Prelude.{pos}
use Rattle.std.specs.Option.{option_map}
use Rattle.capnp_json_text.specs.Values.{json_at}
use Rattle.capnp_from_json.specs.LeafReads.{out_of_range}
use Rattle.capnp_from_json.proofs.LeafReads.{byte_out, byte_read}
use Rattle.capnp_from_json.proofs.elements.read_byte.Goals as goal

pub returns-in-Some-uint8_of-clause-read : goal.returns-in-Some-uint8_of-clause-read
returns-in-Some-uint8_of-clause-read c = λ rules levels.
    byte_read rules c.args.whole (c.args.whole - length c.args.bytes.now) levels c.in-Ok.look (json_at c.args.whole c.args.bytes.now) c.in-Some.token.now
    (c.in-Ok.ensures.read c.args.whole)
    (ap (option_map (λ x. x.now)) (sym c.in-Some.is) ∙ c.integer_token.ensures c.args.whole (c.args.whole - length c.args.bytes.now))
    c.in-Some-uint8_of.byte
    (ap (option_map pos) (sym c.in-Some-uint8_of.is) ∙ c.uint8_of.ensures)

pub returns-clause-refused : goal.returns-clause-refused
returns-clause-refused c = λ rules levels.
    let place : c.saturating_sub-place.result ≡ c.args.whole - length c.args.bytes.now = omega arith in
    byte_out rules c.args.whole (c.args.whole - length c.args.bytes.now) levels c.in-Ok.look (json_at c.args.whole c.args.bytes.now) c.in-Some.token.now
    (c.in-Ok.ensures.read c.args.whole)
    (ap (option_map (λ x. x.now)) (sym c.in-Some.is) ∙ c.integer_token.ensures c.args.whole (c.args.whole - length c.args.bytes.now))
    (ap (option_map pos) (sym c.in-None.is) ∙ c.uint8_of.ensures)
    ∙ ap Err (sym (c.out_of_range.ensures ∙ ap out_of_range place))
