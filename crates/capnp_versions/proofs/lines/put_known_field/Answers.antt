-- What the field is behind the word.
use Rattle.std.proofs.Common.{string_bytes}
use Rattle.capnp_schema.specs.FieldLists.{field_schema, typed_of}
use Rattle.capnp_schema.specs.StructHandles.{number_of, set_of}
use Rattle.capnp_structs.proofs.Appended.{led_by}
use Rattle.capnp_structs.specs.Sides.{field_side}
use Rattle.capnp_versions.proofs.lines.put_known_field.Goals as goal

pub returns-clause-put : goal.returns-clause-put
returns-clause-put c =
    led_by c.put_field_side.result c.args.word.now (field_side (set_of (field_schema c.args.field)) (number_of (field_schema c.args.field)) (typed_of c.args.field)) (string_bytes c.args.text.now) (string_bytes c.push_str.new.self)
    (string_bytes c.put_field_side.new.out) c.in_ok-push_str.ensures.bytes c.put_field_side.ensures.put
