-- A group is printed alone as its record, and every other value as it is printed within another.
use Rattle.std.proofs.Common.{◌≡◌, Err, ap, sym, ◌∙◌}
use Rattle.capnp_schema.specs.Schema.{Node}
use Rattle.capnp_schema.specs.StructHandles.{struct_node}
use Rattle.capnp_schema.specs.declared.schema.structs.StructSchema.{StructSchema}
use Rattle.capnp_dynamic_readers.specs.Steps.Styled.{record_in}
use Rattle.capnp_dynamic_readers.proofs.Roots.{root_stopped}
use Rattle.capnp_dynamic_readers.proofs.Steps.{err_map, ok_map}
use Rattle.capnp_dynamic_readers.proofs.Streams.{same, same_put}
use Rattle.capnp_dynamic_readers.proofs.walk.print_root_value.Goals as goal
use Rattle.capnp_dynamic_readers.proofs.walk.print_root_value.Goals.{in-Struct+else-get_proto, in_default}

pub returns-then-get_proto-clause-put : goal.returns-then-get_proto-clause-put
returns-then-get_proto-clause-put g c =
    let is_group = ap (λ (s : StructSchema). (struct_node s).is_group) (sym c.get_schema.ensures) ∙ (sym (ap (λ (n : Node). n.is_group) c.get_proto.ensures) ∙ c.if-get_proto.true) in
    ok_map c.print_record.result
    (same_put (g.O.Out.text c.args.out.now) (g.O.Out.text c.print_record.new.out) ((g.S.Style.texts c.args.style).root c.args.at c.args.value) (record_in (g.S.Style.texts c.args.style) 64 c.args.at c.in-Struct.reader)
    ((g.met.S.Style.lawful c.args.style).root_group c.args.at c.args.value c.in-Struct.reader c.in-Struct.is is_group))
    c.print_record.ensures.put

pub returns-then-get_proto-clause-stopped : goal.returns-then-get_proto-clause-stopped
returns-then-get_proto-clause-stopped g c =
    let is_group = ap (λ (s : StructSchema). (struct_node s).is_group) (sym c.get_schema.ensures) ∙ (sym (ap (λ (n : Node). n.is_group) c.get_proto.ensures) ∙ c.if-get_proto.true) in
    err_map c.print_record.result
    (λ stop. same (g.O.Out.text c.args.out.now) ((g.met.S.Style.lawful c.args.style).root_group c.args.at c.args.value c.in-Struct.reader c.in-Struct.is is_group) (Err stop))
    c.print_record.ensures.stopped

pub returns-clause-stopped : goal.returns-clause-stopped
returns-clause-stopped g c =
    root_stopped (g.O.Out.text c.args.out.now) c.print_value.result ((g.S.Style.texts c.args.style).root c.args.at c.args.value) ((g.S.Style.texts c.args.style).value 64 c.args.at c.args.value)
    (elim c.match-value.branch as (λ _. (g.S.Style.texts c.args.style).root c.args.at c.args.value ≡ (g.S.Style.texts c.args.style).value 64 c.args.at c.args.value) [
      | in-Struct+else-get_proto w ↦
          (g.met.S.Style.lawful c.args.style).root_struct c.args.at c.args.value w.in-Struct.reader w.in-Struct.is
          (ap (λ (s : StructSchema). (struct_node s).is_group) (sym w.get_schema.ensures) ∙ (sym (ap (λ (n : Node). n.is_group) w.get_proto.ensures) ∙ w.if-get_proto.false))
      | in_default w ↦ (g.met.S.Style.lawful c.args.style).root_other c.args.at c.args.value w.in_default.not-Struct
    ])
    c.print_value.ensures.stopped
