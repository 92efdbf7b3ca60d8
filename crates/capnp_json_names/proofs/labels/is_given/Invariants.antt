-- None of those before is `name`.
use Rattle.std.proofs.Common.{◌≡◌, drop}
use Rattle.capnp_schema.specs.Schema.{seen_annotations}
use Rattle.capnp_json_fields.specs.Marks.{is_annotated}
use Rattle.capnp_json_fields.specs.Names.{name_id}
use Rattle.capnp_json_names.proofs.labels.is_given.Given as goal

abbrev pub invariant-loop-annotation : goal.invariant-loop-annotation
invariant-loop-annotation l = is_annotated name_id (seen_annotations l.annotations) ≡ is_annotated name_id (seen_annotations (drop l.annotation-index l.annotations))
