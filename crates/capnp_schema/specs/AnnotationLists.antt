-- What annotations and lists of them stand for. Contracts cite these words and no part of a handle.
use Rattle.std.specs.Prelude.{List, map}
use Rattle.capnp_schema.specs.Types.{seen_type}
use Rattle.capnp_schema.specs.Schema.{Schemas, seen_annotation, seen_annotations}
use Rattle.capnp_schema.specs.Entries.{lists_seen}
use Rattle.capnp_schema.specs.Annotated.{TypedAnnotation, with_types}
use Rattle.capnp_schema.specs.declared.schema.annotations.Annotation.{Annotation}
use Rattle.capnp_schema.specs.declared.schema.annotations.AnnotationList.{AnnotationList}

-- the set that an annotation is of, and the annotation with its type
abbrev pub annotation_set : Annotation → Schemas
annotation_set x = lists_seen x.schemas.now

abbrev pub annotation_in : Annotation → TypedAnnotation
annotation_in x = record { annotation = seen_annotation x.stored.now; type = seen_type x.annotation_type }

-- the same of a list
abbrev pub annotations_set : AnnotationList → Schemas
annotations_set xs = lists_seen xs.schemas.now

abbrev pub annotations_in : AnnotationList → List TypedAnnotation
annotations_in xs = with_types (seen_annotations xs.stored.now) (map seen_type xs.types.now)
