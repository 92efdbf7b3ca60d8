-- A value that is no group is written alone as it is written within another.
use Rattle.std.proofs.Common.{◌≡◌, ap, sym, ◌∙◌}
use Rattle.capnp_schema.specs.Schema.{Node}
use Rattle.capnp_schema.specs.StructHandles.{struct_node}
use Rattle.capnp_schema.specs.declared.schema.structs.StructSchema.{StructSchema}
use Rattle.capnp_json.specs.Steps.Shown.{record_shown, root_shown, value_shown}
use Rattle.capnp_json.proofs.ListSteps.{group_root, other_root, put_as, stopped_as, struct_root}
use Rattle.capnp_json.proofs.json.put_root.Goals as goal
use Rattle.capnp_json.proofs.json.put_root.Goals.{in-Struct+else-get_proto, in_default}

pub returns-then-get_proto-clause-put : goal.returns-then-get_proto-clause-put
returns-then-get_proto-clause-put c =
    put_as c.put_record.result c.args.out.now c.put_record.new.out (root_shown c.args.at c.args.form c.args.value) (record_shown 64 c.args.at c.in-Struct.reader)
    (group_root c.args.at c.args.form c.args.value c.in-Struct.reader c.in-Struct.is
    (ap (λ (s : StructSchema). (struct_node s).is_group) (sym c.get_schema.ensures) ∙ (sym (ap (λ (n : Node). n.is_group) c.get_proto.ensures) ∙ c.if-get_proto.true)))
    c.put_record.ensures.put

pub returns-then-get_proto-clause-stopped : goal.returns-then-get_proto-clause-stopped
returns-then-get_proto-clause-stopped c =
    stopped_as c.put_record.result c.args.out.now c.put_record.new.out (root_shown c.args.at c.args.form c.args.value) (record_shown 64 c.args.at c.in-Struct.reader)
    (group_root c.args.at c.args.form c.args.value c.in-Struct.reader c.in-Struct.is
    (ap (λ (s : StructSchema). (struct_node s).is_group) (sym c.get_schema.ensures) ∙ (sym (ap (λ (n : Node). n.is_group) c.get_proto.ensures) ∙ c.if-get_proto.true)))
    c.put_record.ensures.stopped

pub returns-clause-put : goal.returns-clause-put
returns-clause-put c =
    put_as c.put_value.result c.args.out.now c.put_value.new.out (root_shown c.args.at c.args.form c.args.value) (value_shown 64 c.args.at c.args.form c.args.value)
    (elim c.match-value.branch as (λ _. root_shown c.args.at c.args.form c.args.value ≡ value_shown 64 c.args.at c.args.form c.args.value) [
      | in-Struct+else-get_proto w ↦
          struct_root c.args.at c.args.form c.args.value w.in-Struct.reader w.in-Struct.is
          (ap (λ (s : StructSchema). (struct_node s).is_group) (sym w.get_schema.ensures) ∙ (sym (ap (λ (n : Node). n.is_group) w.get_proto.ensures) ∙ w.if-get_proto.false))
      | in_default w ↦ other_root c.args.at c.args.form c.args.value w.in_default.not-Struct
    ])
    c.put_value.ensures.put

pub returns-clause-stopped : goal.returns-clause-stopped
returns-clause-stopped c =
    stopped_as c.put_value.result c.args.out.now c.put_value.new.out (root_shown c.args.at c.args.form c.args.value) (value_shown 64 c.args.at c.args.form c.args.value)
    (elim c.match-value.branch as (λ _. root_shown c.args.at c.args.form c.args.value ≡ value_shown 64 c.args.at c.args.form c.args.value) [
      | in-Struct+else-get_proto w ↦
          struct_root c.args.at c.args.form c.args.value w.in-Struct.reader w.in-Struct.is
          (ap (λ (s : StructSchema). (struct_node s).is_group) (sym w.get_schema.ensures) ∙ (sym (ap (λ (n : Node). n.is_group) w.get_proto.ensures) ∙ w.if-get_proto.false))
      | in_default w ↦ other_root c.args.at c.args.form c.args.value w.in_default.not-Struct
    ])
    c.put_value.ensures.stopped
