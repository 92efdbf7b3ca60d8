-- What is left, and what was taken so far.
use Rattle.std.proofs.Common.{◌≡◌, ◌+◌, take}
use Rattle.std.specs.List.{sum_by}
use Rattle.capnp_schema.specs.Schema.{seen_enumerant}
use Rattle.capnp_schema.specs.declared.record.EnumerantRecord.{EnumerantRecord}
use Rattle.capnp_request.specs.Sizes.{enumerant_bytes}
use Rattle.capnp_request.proofs.sizes.take_enumerants.Given as goal

abbrev pub invariant-loop-enumerant : goal.invariant-loop-enumerant
invariant-loop-enumerant l = l.rest + sum_by (λ (x : EnumerantRecord). enumerant_bytes (seen_enumerant x)) (take l.enumerant-index l.enumerants) ≡ l.left
