-- What is left, and what was taken so far.
use Rattle.std.proofs.Common.{◌≡◌, ◌+◌, take}
use Rattle.std.specs.List.{sum_by}
use Rattle.capnp_schema.specs.Schema.{seen_field}
use Rattle.capnp_schema.specs.declared.record.FieldRecord.{FieldRecord}
use Rattle.capnp_request.specs.Sizes.{field_bytes}
use Rattle.capnp_request.proofs.sizes.take_fields.Given as goal

abbrev pub invariant-loop-field : goal.invariant-loop-field
invariant-loop-field l = l.rest + sum_by (λ (x : FieldRecord). field_bytes (seen_field x)) (take l.field-index l.fields) ≡ l.left
