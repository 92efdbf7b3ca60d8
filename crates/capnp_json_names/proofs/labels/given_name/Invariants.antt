-- The last text so far stands for those before.
use Rattle.std.proofs.Common.{◌≡◌, drop}
use Rattle.capnp_schema.specs.Schema.{seen_annotations}
use Rattle.capnp_json_fields.specs.Names.{last_text, name_id}
use Rattle.capnp_json_names.proofs.labels.given_name.Given as goal

abbrev pub invariant-loop-annotation : goal.invariant-loop-annotation
invariant-loop-annotation l = last_text name_id l.name (seen_annotations l.annotations) ≡ last_text name_id l.last (seen_annotations (drop l.annotation-index l.annotations))
