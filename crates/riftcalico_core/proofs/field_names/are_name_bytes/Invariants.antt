-- All bytes are so where those that are left are.
use Rattle.std.proofs.Common.{◌≡◌, drop}
use Rattle.riftcalico_core.specs.FieldNames.{are_name_bytes}
use Rattle.riftcalico_core.proofs.field_names.are_name_bytes.Given as goal

abbrev pub invariant-loop-byte : goal.invariant-loop-byte
invariant-loop-byte l = are_name_bytes (drop l.byte-index l.bytes) ≡ are_name_bytes l.bytes
