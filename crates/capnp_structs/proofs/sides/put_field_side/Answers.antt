-- The value of a member behind what the field is.
use Rattle.std.proofs.Common.{string_bytes}
use Rattle.capnp_schema.specs.FieldLists.{field_schema, typed_of}
use Rattle.capnp_schema.specs.Plan.{plan_of}
use Rattle.capnp_schema.specs.Schema.{kind_target}
use Rattle.capnp_schema.specs.StructHandles.{number_of, set_of}
use Rattle.capnp_structs.specs.Fields.{member_text}
use Rattle.capnp_structs.specs.Sides.{kind_side}
use Rattle.capnp_structs.proofs.Appended.{ended_by}
use Rattle.capnp_structs.proofs.sides.put_field_side.Goals as goal

pub returns-clause-put : goal.returns-clause-put
returns-clause-put c =
    ended_by c.put_member.result (kind_side (set_of (field_schema c.args.field)) (number_of (field_schema c.args.field)) (typed_of c.args.field) (kind_target (typed_of c.args.field).field.kind (typed_of c.args.field).type))
    (member_text (plan_of (set_of (field_schema c.args.field)) (number_of (field_schema c.args.field)) (typed_of c.args.field)).member) (string_bytes c.args.out.now) _ _ c.in_ok-put_kind_side.ensures.put
    (rw c.plan.ensures.is at c.put_member.ensures.put)
