-- What is left, and what was taken so far.
use Rattle.std.proofs.Common.{◌≡◌, ◌+◌, take}
use Rattle.std.specs.List.{sum_by}
use Rattle.capnp_schema.specs.Schema.{seen_annotation}
use Rattle.capnp_schema.specs.declared.record.AnnotationRecord.{AnnotationRecord}
use Rattle.capnp_request.specs.Sizes.{annotation_bytes}
use Rattle.capnp_request.proofs.sizes.take_annotations.Given as goal

abbrev pub invariant-loop-annotation : goal.invariant-loop-annotation
invariant-loop-annotation l = l.rest + sum_by (λ (x : AnnotationRecord). annotation_bytes (seen_annotation x)) (take l.annotation-index l.annotations) ≡ l.left
