-- The lines so far, and those of the brands that are left, are those of all; the names of the brands so far were met. They are no longer than they may be.
use Rattle.std.proofs.Common.{◌≡◌, ◌≤◌, ◌++◌, drop, length, string_bytes}
use Rattle.capnp_schema.specs.Entries.{lists_seen}
use Rattle.capnp_structs.specs.Names.{struct_lines, structs_text}
use Rattle.capnp_structs.specs.Steps.Names.{AreNamesBelow}
use Rattle.capnp_structs.proofs.names.get_structs_within.Given as goal

abbrev pub invariant-loop-index : goal.invariant-loop-index
invariant-loop-index l = record {
  lines : string_bytes l.lines ++ struct_lines (lists_seen l.schemas) (drop l.index (lists_seen l.schemas).brands) l.index ≡ structs_text (lists_seen l.schemas);
  within : length (string_bytes l.lines) ≤ l.limit;
  met : AreNamesBelow (lists_seen l.schemas) l.index l.met;
}
