-- What is left are the lines of the enums from one on, but of those that were met.
use Rattle.std.proofs.Common.{ℕ, List, [], drop, string_bytes}
use Rattle.capnp_schema.specs.Entries.{lists_seen}
use Rattle.capnp_structs.specs.Enums.{enum_lines}
use Rattle.capnp_structs.specs.Steps.Fields.{AreEnumsMet}
use Rattle.capnp_structs.proofs.Appended.{IsLeft}
use Rattle.capnp_structs.proofs.enums.put_enum_lines.Given as goal

abbrev pub invariant-loop-number : goal.invariant-loop-number
invariant-loop-number l = (ids : List ℕ) × AreEnumsMet l.met ids
    × IsLeft (string_bytes l.fn.out) (enum_lines (lists_seen l.schemas) [] l.enums) (string_bytes l.out) (enum_lines (lists_seen l.schemas) ids (drop l.number-index l.enums))
