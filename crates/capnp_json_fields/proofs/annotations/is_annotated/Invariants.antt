-- None of those before had the id.
use Rattle.std.proofs.Common.{◌≡◌, drop}
use Rattle.capnp_schema.specs.Schema.{seen_annotations}
use Rattle.capnp_json_fields.specs.Marks.{is_annotated}
use Rattle.capnp_json_fields.proofs.annotations.is_annotated.Given as goal

abbrev pub invariant-loop-annotation : goal.invariant-loop-annotation
invariant-loop-annotation l = is_annotated l.id (seen_annotations l.annotations) ≡ is_annotated l.id (seen_annotations (drop l.annotation-index l.annotations))
