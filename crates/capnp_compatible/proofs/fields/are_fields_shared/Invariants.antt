use Rattle.capnp_schema.specs.Entries.{lists_seen}
use Rattle.capnp_compatible.specs.Steps.Closing.{FieldsShared, all_pairs}
use Rattle.capnp_compatible.proofs.fields.are_fields_shared.Given as goal

abbrev pub invariant-loop-i : goal.invariant-loop-i
invariant-loop-i l = FieldsShared l.lists (lists_seen l.schemas) all_pairs l.older l.newer l.i
