use Rattle.std.proofs.Common.{◌+◌, ◌*◌}
use Rattle.capnp_schema.specs.Entries.{lists_seen}
use Rattle.capnp_differences.specs.Steps.Telling.{AreKnown, IsOfFields, Orders, Tells}
use Rattle.capnp_differences.proofs.fields.tell_fields.Given as goal

abbrev pub invariant-loop-i : goal.invariant-loop-i
invariant-loop-i l = Tells l.fn.told.items l.told.items (IsOfFields (lists_seen l.schemas) l.pair l.i) × AreKnown (lists_seen l.schemas) l.pair.older l.pair.newer l.i × Orders l.fn.told.items l.told.items l.pair 13 (13 * (l.i + 1))
