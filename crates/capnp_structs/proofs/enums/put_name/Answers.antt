-- The name, and behind it its annotations.
use Rattle.std.proofs.Common.{◌∙◌, ap, string_bytes, sym}
use Rattle.capnp_schema.specs.AnnotationLists.{annotations_in, annotations_set}
use Rattle.capnp_schema.specs.Enumerants.{containing_enum, ordinal_of}
use Rattle.capnp_schema.specs.Enums.{enum_number, enum_set}
use Rattle.capnp_schema.specs.Schema.{Enumerant, seen_annotations}
use Rattle.capnp_structs.specs.Enums.{before_name}
use Rattle.capnp_structs.proofs.Appended.{on_ok}
use Rattle.capnp_structs.proofs.EnumsPut.{name_put, name_stopped}
use Rattle.capnp_structs.proofs.Stopped.{in_error}
use Rattle.capnp_structs.proofs.enums.put_name.Goals as goal

pub put_annotations-requires : goal.put_annotations-requires
put_annotations-requires c = record { recorded = c.in_ok-annotations.ensures.whole ∙ (sym (ap (λ (x : Enumerant). x.annotations) c.get_proto-record.ensures) ∙ ap seen_annotations (sym c.as_slice.ensures.value)) }

pub returns-clause-put : goal.returns-clause-put
returns-clause-put c =
    on_ok c.put_annotations.result
    (name_put (enum_set (containing_enum c.args.enumerant)) (enum_number (containing_enum c.args.enumerant)) (ordinal_of c.args.enumerant) (annotations_set c.in_ok-annotations.annotations) (annotations_in c.in_ok-annotations.annotations)
    c.before_name.result.now c.as_str.result.now (string_bytes c.args.out.now) (string_bytes c.push_str.new.self) (string_bytes c.push_str-2.new.self) (string_bytes c.put_annotations.new.out)
    (c.before_name.ensures ∙ ap before_name c.get_ordinal.ensures) (c.as_str.ensures.value ∙ ap (λ (e : Enumerant). e.name) c.get_proto-record.ensures) c.in_ok-push_str.ensures.bytes c.in_ok-push_str-2.ensures.bytes
    c.in_ok-annotations.ensures.set c.in_ok-annotations.ensures.typed)
    c.put_annotations.ensures.put

pub returns-clause-stopped : goal.returns-clause-stopped
returns-clause-stopped c =
    in_error c.put_annotations.result c.args.limit _ _ _ _ c.put_annotations.ensures.stopped
    (λ kind h. name_stopped c.args.limit (enum_set (containing_enum c.args.enumerant)) (enum_number (containing_enum c.args.enumerant)) (ordinal_of c.args.enumerant) (annotations_set c.in_ok-annotations.annotations)
    (annotations_in c.in_ok-annotations.annotations) c.before_name.result.now c.as_str.result.now (string_bytes c.args.out.now) (string_bytes c.push_str.new.self) (string_bytes c.push_str-2.new.self) kind
    (c.before_name.ensures ∙ ap before_name c.get_ordinal.ensures) (c.as_str.ensures.value ∙ ap (λ (e : Enumerant). e.name) c.get_proto-record.ensures) c.in_ok-push_str.ensures.bytes c.in_ok-push_str-2.ensures.bytes
    c.in_ok-annotations.ensures.set c.in_ok-annotations.ensures.typed h)
