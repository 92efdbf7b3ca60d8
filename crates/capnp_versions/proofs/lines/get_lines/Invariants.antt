-- What is left are the lines of the differences from one on.
use Rattle.std.proofs.Common.{[], drop, string_bytes}
use Rattle.capnp_schema.specs.Entries.{lists_seen}
use Rattle.capnp_structs.proofs.Appended.{IsLeft}
use Rattle.capnp_versions.specs.Lines.{differences_text}
use Rattle.capnp_versions.proofs.lines.get_lines.Given as goal

abbrev pub invariant-loop-difference : goal.invariant-loop-difference
invariant-loop-difference l = IsLeft [] (differences_text (lists_seen l.fn.schemas) l.fn.differences) (string_bytes l.text) (differences_text (lists_seen l.fn.schemas) (drop l.difference-index l.differences))
