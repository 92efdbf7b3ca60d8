-- What the code has of fields and annotations, as the definition sees it.
use Rattle.std.specs.Prelude.{ℕ, List, [], ◌∷◌, map}
use Rattle.capnp_base.specs.declared.introspect.«Type».{«Type» as TypeHandle}
use Rattle.capnp_schema.specs.Schema.{Annotation, FieldKind, seen_annotation, seen_field, seen_kind}
use Rattle.capnp_schema.specs.Types.{SchemaType, seen_type}
use Rattle.capnp_schema.specs.declared.record.AnnotationRecord.{AnnotationRecord}
use Rattle.capnp_request.specs.Steps.Bindings.{flags, seen_marked}
use Rattle.capnp_request.specs.Conversion.{Converted, Note, notes_of}
use Rattle.capnp_request.specs.Work.{MarkedType}
use Rattle.capnp_request.specs.declared.entries.GroupPlace.{GroupPlace}
use Rattle.capnp_request.specs.declared.fields.ConvertedKind.{ConvertedKind}
use Rattle.capnp_request.specs.declared.fields.ConvertedField.{ConvertedField}

-- annotations, each with its type
abbrev pub typed_annotations : List AnnotationRecord → List TypeHandle → List (Annotation × SchemaType)
typed_annotations [] types = []
typed_annotations (a ∷ rest) [] = []
typed_annotations (a ∷ rest) (t ∷ types) = (seen_annotation a, seen_type t) ∷ typed_annotations rest types

-- the kind of a field at its place, its type and its notes
abbrev pub seen_converted_kind : GroupPlace → ConvertedKind → FieldKind × MarkedType × List Note
seen_converted_kind place k = (seen_kind k.kind, seen_marked k.field_type, notes_of place.parent place.field (flags k.seen) k.seen.untyped_default)

-- field i of entry n
abbrev pub seen_converted : (n i : ℕ) → ConvertedField → Converted
seen_converted n i f = record {
  field = seen_field f.record;
  type = seen_type f.field_type;
  annotation_types = map seen_type f.annotation_types.items;
  notes = notes_of n i (flags f.seen) f.seen.untyped_default;
}
