-- The type decides the width.
-- A narrower number is read as one of 64 bits and kept where it lies in the narrow range, which is the same as reading it so.
use Rattle.std.proofs.Common.{◌∙◌, sym, ap, lit≤}
use Rattle.std.specs.Option.{option_map}
use Rattle.capnp_records.specs.Record as value
use Rattle.capnp_from_json.specs.LeafReads.{integer_of_type}
use Rattle.capnp_from_json.proofs.LeafReads.{signed_narrow, unsigned_narrow}
use Rattle.capnp_from_json.proofs.leaves.integer_leaf.Goals as goal

pub returns-in-Int8-clause-read : goal.returns-in-Int8-clause-read
returns-in-Int8-clause-read c = c.int8_leaf.ensures.read ∙ signed_narrow 8 c.args.token.now (lit≤ tt) ∙ ap (λ of. option_map value.Number (integer_of_type of c.args.token.now)) (sym c.in-Int8.is)

pub returns-in-Int16-clause-read : goal.returns-in-Int16-clause-read
returns-in-Int16-clause-read c = c.int16_leaf.ensures.read ∙ signed_narrow 16 c.args.token.now (lit≤ tt) ∙ ap (λ of. option_map value.Number (integer_of_type of c.args.token.now)) (sym c.in-Int16.is)

pub returns-in-Int32-clause-read : goal.returns-in-Int32-clause-read
returns-in-Int32-clause-read c = c.int32_leaf.ensures.read ∙ signed_narrow 32 c.args.token.now (lit≤ tt) ∙ ap (λ of. option_map value.Number (integer_of_type of c.args.token.now)) (sym c.in-Int32.is)

pub returns-in-UInt8-clause-read : goal.returns-in-UInt8-clause-read
returns-in-UInt8-clause-read c = c.uint8_leaf.ensures.read ∙ unsigned_narrow 8 c.args.token.now (lit≤ tt) ∙ ap (λ of. option_map value.Number (integer_of_type of c.args.token.now)) (sym c.in-UInt8.is)

pub returns-in-UInt16-clause-read : goal.returns-in-UInt16-clause-read
returns-in-UInt16-clause-read c = c.uint16_leaf.ensures.read ∙ unsigned_narrow 16 c.args.token.now (lit≤ tt) ∙ ap (λ of. option_map value.Number (integer_of_type of c.args.token.now)) (sym c.in-UInt16.is)

pub returns-in-UInt32-clause-read : goal.returns-in-UInt32-clause-read
returns-in-UInt32-clause-read c = c.uint32_leaf.ensures.read ∙ unsigned_narrow 32 c.args.token.now (lit≤ tt) ∙ ap (λ of. option_map value.Number (integer_of_type of c.args.token.now)) (sym c.in-UInt32.is)
