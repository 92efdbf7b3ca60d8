-- The parts of the line, one after another.
use Rattle.std.proofs.Common.{◌∙◌, ap, string_bytes, sym}
use Rattle.capnp_schema.specs.AnnotationLists.{annotations_in, annotations_set}
use Rattle.capnp_schema.specs.Entries.{lists_seen}
use Rattle.capnp_schema.specs.Schema.{Enum, seen_annotations}
use Rattle.capnp_structs.proofs.EnumsPut.{annotations_stopped, line_put, names_stopped}
use Rattle.capnp_structs.proofs.Stopped.{handed_on, made_long}
use Rattle.capnp_structs.proofs.Appended.{on_ok}
use Rattle.capnp_structs.proofs.enums.put_enum_line.Goals as goal

pub put_annotations-requires : goal.put_annotations-requires
put_annotations-requires c = record { recorded = c.in_ok-annotations.ensures.whole ∙ (sym (ap (λ (x : Enum). x.annotations) c.get_proto-enumeration.ensures) ∙ ap seen_annotations (sym c.as_slice.ensures.value)) }

pub returns-in_err-put_annotations-clause-stopped : goal.returns-in_err-put_annotations-clause-stopped
returns-in_err-put_annotations-clause-stopped c =
    handed_on c.from_residual-in_err-put_annotations.result _ c.args.limit (string_bytes c.args.out.now) _ c.from_residual-in_err-put_annotations.ensures.1
    (annotations_stopped c.args.limit (lists_seen c.args.schemas.now) c.args.number c.enum_schema-schema.result (annotations_set c.in_ok-annotations.annotations) (annotations_in c.in_ok-annotations.annotations) c.as_str.result.now
    (string_bytes c.args.out.now) (string_bytes c.push_str.new.self) (string_bytes c.push_str-2.new.self) _
    (record {
      in_set = c.enum_schema-schema.ensures.set;
      number = c.enum_schema-schema.ensures.number;
      name = c.as_str.ensures.value ∙ ap (λ (e : Enum). e.display_name) c.get_proto-enumeration.ensures;
      annotations_set = c.in_ok-annotations.ensures.set;
      annotations = c.in_ok-annotations.ensures.typed;
    })
    c.in_ok-push_str.ensures.bytes c.in_ok-push_str-2.ensures.bytes c.in_err-put_annotations.ensures.stopped)

pub returns-in_err-put_names-clause-stopped : goal.returns-in_err-put_names-clause-stopped
returns-in_err-put_names-clause-stopped c =
    handed_on c.from_residual-in_err-put_names.result _ c.args.limit (string_bytes c.args.out.now) _ c.from_residual-in_err-put_names.ensures.1
    (names_stopped c.args.limit (lists_seen c.args.schemas.now) c.args.number c.enum_schema-schema.result (annotations_set c.in_ok-annotations.annotations) (annotations_in c.in_ok-annotations.annotations) c.as_str.result.now
    (string_bytes c.args.out.now) (string_bytes c.push_str.new.self) (string_bytes c.push_str-2.new.self) (string_bytes c.put_annotations.new.out) (string_bytes c.push_str-3.new.self) _
    (record {
      in_set = c.enum_schema-schema.ensures.set;
      number = c.enum_schema-schema.ensures.number;
      name = c.as_str.ensures.value ∙ ap (λ (e : Enum). e.display_name) c.get_proto-enumeration.ensures;
      annotations_set = c.in_ok-annotations.ensures.set;
      annotations = c.in_ok-annotations.ensures.typed;
    })
    c.in_ok-push_str.ensures.bytes c.in_ok-push_str-2.ensures.bytes c.in_ok-put_annotations.ensures.put c.in_ok-push_str-3.ensures.bytes c.in_err-put_names.ensures.stopped)

pub returns-clause-put : goal.returns-clause-put
returns-clause-put c =
    on_ok c.check_length.result
    (λ _. line_put (lists_seen c.args.schemas.now) c.args.number c.enum_schema-schema.result (annotations_set c.in_ok-annotations.annotations) (annotations_in c.in_ok-annotations.annotations) c.as_str.result.now (string_bytes c.args.out.now)
    (string_bytes c.push_str.new.self) (string_bytes c.push_str-2.new.self) (string_bytes c.put_annotations.new.out) (string_bytes c.push_str-3.new.self) (string_bytes c.put_names.new.out) (string_bytes c.push_str-4.new.self)
    (record {
      in_set = c.enum_schema-schema.ensures.set;
      number = c.enum_schema-schema.ensures.number;
      name = c.as_str.ensures.value ∙ ap (λ (e : Enum). e.display_name) c.get_proto-enumeration.ensures;
      annotations_set = c.in_ok-annotations.ensures.set;
      annotations = c.in_ok-annotations.ensures.typed;
    })
    (record {
      word = c.in_ok-push_str.ensures.bytes;
      name = c.in_ok-push_str-2.ensures.bytes;
      annotations = c.in_ok-put_annotations.ensures.put;
      colon = c.in_ok-push_str-3.ensures.bytes;
      names = c.in_ok-put_names.ensures.put;
      end = c.in_ok-push_str-4.ensures.bytes;
    }))
    c.check_length.ensures.within

pub returns-clause-stopped : goal.returns-clause-stopped
returns-clause-stopped c =
    made_long _ c.check_length.result c.args.limit (string_bytes c.args.out.now) (string_bytes c.push_str-4.new.self) _
    (line_put (lists_seen c.args.schemas.now) c.args.number c.enum_schema-schema.result (annotations_set c.in_ok-annotations.annotations) (annotations_in c.in_ok-annotations.annotations) c.as_str.result.now (string_bytes c.args.out.now)
    (string_bytes c.push_str.new.self) (string_bytes c.push_str-2.new.self) (string_bytes c.put_annotations.new.out) (string_bytes c.push_str-3.new.self) (string_bytes c.put_names.new.out) (string_bytes c.push_str-4.new.self)
    (record {
      in_set = c.enum_schema-schema.ensures.set;
      number = c.enum_schema-schema.ensures.number;
      name = c.as_str.ensures.value ∙ ap (λ (e : Enum). e.display_name) c.get_proto-enumeration.ensures;
      annotations_set = c.in_ok-annotations.ensures.set;
      annotations = c.in_ok-annotations.ensures.typed;
    })
    (record {
      word = c.in_ok-push_str.ensures.bytes;
      name = c.in_ok-push_str-2.ensures.bytes;
      annotations = c.in_ok-put_annotations.ensures.put;
      colon = c.in_ok-push_str-3.ensures.bytes;
      names = c.in_ok-put_names.ensures.put;
      end = c.in_ok-push_str-4.ensures.bytes;
    }))
    c.check_length.ensures.too_long
