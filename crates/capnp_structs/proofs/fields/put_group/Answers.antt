-- The head of a group and then its end are the group's line, one appended behind the other.
use Rattle.std.proofs.Common.{inr, string_bytes}
use Rattle.capnp_schema.specs.FieldLists.{field_schema, index_of, typed_of}
use Rattle.capnp_schema.specs.StructHandles.{number_of, set_of}
use Rattle.capnp_structs.specs.Fields.{field_end, group_head}
use Rattle.capnp_structs.proofs.Appended.{led_by}
use Rattle.capnp_structs.proofs.Stopped.{in_error, stopped_led}
use Rattle.capnp_structs.proofs.fields.put_group.Goals as goal

pub returns-clause-put : goal.returns-clause-put
returns-clause-put c =
    led_by c.put_end.result (group_head c.args.prefix.now (typed_of c.args.field)) (field_end (set_of (field_schema c.args.field)) (number_of (field_schema c.args.field)) (index_of c.args.field)) (string_bytes c.args.out.now) _ _
    c.in_ok-put_group_head.ensures.put c.put_end.ensures.put

pub returns-clause-stopped : goal.returns-clause-stopped
returns-clause-stopped c =
    in_error c.put_end.result c.args.limit _ _ _ _ c.put_end.ensures.stopped
    (λ kind h. stopped_led c.args.limit (group_head c.args.prefix.now (typed_of c.args.field)) (field_end (set_of (field_schema c.args.field)) (number_of (field_schema c.args.field)) (index_of c.args.field)) (string_bytes c.args.out.now)
    (string_bytes c.put_group_head.new.out) kind c.in_ok-put_group_head.ensures.put (λ r. inr r) h)
