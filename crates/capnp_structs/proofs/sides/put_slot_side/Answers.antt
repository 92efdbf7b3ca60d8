-- The default behind the type and the place.
use Rattle.std.proofs.Common.{Ok, ◌∙◌, ap, string_bytes, subst, sym}
use Rattle.capnp_device.specs.declared.error.Error.{Error}
use Rattle.capnp_schema.specs.Accepted.{NamesEntries}
use Rattle.capnp_schema.specs.FieldLists.{field_schema, typed_of}
use Rattle.capnp_schema.specs.Schema.{Schemas, default_of}
use Rattle.capnp_schema.specs.StructHandles.{number_of, set_of}
use Rattle.capnp_schema.specs.Types.{seen_type}
use Rattle.capnp_json_fields.specs.Marks.{is_float}
use Rattle.capnp_structs.specs.Sides.{slot_head}
use Rattle.capnp_structs.specs.Values.{default_text}
use Rattle.capnp_structs.proofs.Appended.{default_shown, led_by}
use Rattle.capnp_structs.proofs.sides.put_slot_side.Goals as goal

pub put_kind-requires : goal.put_kind-requires
put_kind-requires c = record { named = subst (λ (z : Schemas). NamesEntries z (seen_type c.get_type.result)) (sym (c.get_set-schemas.ensures ∙ ap set_of c.get_containing_struct.ensures.is)) c.get_type.ensures.named }

pub returns-in-Ok-clause-put : goal.returns-in-Ok-clause-put
returns-in-Ok-clause-put c =
    led_by {E = Error} (Ok (tt {0})) (slot_head (set_of (field_schema c.args.field)) (number_of (field_schema c.args.field)) (typed_of c.args.field))
    (default_text (is_float (typed_of c.args.field)) (set_of (field_schema c.args.field)) (typed_of c.args.field).type (default_of (typed_of c.args.field).field)) (string_bytes c.args.out.now) _ _ c.in_ok-put_slot_head.ensures.put
    (default_shown {E = Error} (Ok (tt {0})) _ (is_float (typed_of c.args.field)) _ (set_of (field_schema c.args.field)) _ (typed_of c.args.field).type _ (typed_of c.args.field).field _ _ c.is_float.ensures (c.get_set-schemas.ensures ∙ ap set_of c.get_containing_struct.ensures.is) c.get_type.ensures.is c.get_proto.ensures c.in-Ok.ensures.put)
