-- The parts of the enumerants so far.
use Rattle.std.proofs.Common.{◌≡◌, map}
use Rattle.capnp_request.specs.Steps.StructsSeen.{enumerant_records, enumerant_types}
use Rattle.capnp_request.proofs.enums.parts_of.Given as goal

abbrev pub invariant-loop-enumerant : goal.invariant-loop-enumerant
invariant-loop-enumerant l = record {
  records : l.parts.records.items ≡ enumerant_records l.yielded;
  types : map (λ types. types.items) l.parts.annotation_types.items ≡ enumerant_types l.yielded;
}
