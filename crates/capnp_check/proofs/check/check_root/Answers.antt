-- A value that is no group is printed alone as it is printed within another.
use Rattle.std.proofs.Common.{◌≡◌, ap, sym, None, ◌∙◌}
use Rattle.capnp_schema.specs.Schema.{Node}
use Rattle.capnp_schema.specs.StructHandles.{struct_node}
use Rattle.capnp_schema.specs.declared.schema.structs.StructSchema.{StructSchema}
use Rattle.capnp_dynamic_readers.specs.Steps.Shown.{root_shown, value_shown}
use Rattle.capnp_check.specs.Refusals.{text_refusal}
use Rattle.capnp_dynamic_readers.specs.Facts.Roots.{other_root, struct_root}
use Rattle.capnp_check.proofs.check.check_root.Goals as goal
use Rattle.capnp_check.proofs.check.check_root.Goals.{in-Struct+else-get_proto, in_default}

pub returns : goal.returns
returns c =
    c.check_value.ensures
    ∙ ap text_refusal
    (sym (elim c.match-value.branch as (λ _. root_shown None c.args.value ≡ value_shown 64 None c.args.value) [
      | in-Struct+else-get_proto w ↦
          struct_root None c.args.value w.in-Struct.reader w.in-Struct.is
          (ap (λ (s : StructSchema). (struct_node s).is_group) (sym w.get_schema.ensures) ∙ (sym (ap (λ (n : Node). n.is_group) w.get_proto.ensures) ∙ w.if-get_proto.false))
      | in_default w ↦ other_root None c.args.value w.in_default.not-Struct
    ]))
