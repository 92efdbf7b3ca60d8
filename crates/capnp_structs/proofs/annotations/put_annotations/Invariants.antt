-- What is left are the annotations from an index on.
use Rattle.std.proofs.Common.{drop, string_bytes}
use Rattle.capnp_schema.specs.AnnotationLists.{annotations_in, annotations_set}
use Rattle.capnp_structs.specs.Values.{annotations_text}
use Rattle.capnp_structs.proofs.Appended.{IsLeft}
use Rattle.capnp_structs.proofs.annotations.put_annotations.Given as goal

abbrev pub invariant-loop-index : goal.invariant-loop-index
invariant-loop-index l =
    IsLeft (string_bytes l.fn.out) (annotations_text (annotations_set l.annotations) (annotations_in l.annotations)) (string_bytes l.out) (annotations_text (annotations_set l.annotations) (drop l.index (annotations_in l.annotations)))
