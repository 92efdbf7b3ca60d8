-- What is told so far, and of the fields that are left.
use Rattle.std.proofs.Common.{◌≡◌, drop, map, string_bytes}
use Rattle.capnp_schema.specs.StructHandles.{struct_fields}
use Rattle.riftcalico_core.specs.Near.{near_note, with_all_near}
use Rattle.riftcalico_core.specs.Notes.{field_name}
use Rattle.riftcalico_core.proofs.near.get_near_fields.Given as goal

abbrev pub invariant-loop-index : goal.invariant-loop-index
invariant-loop-index l =
    with_all_near l.fn.asked (string_bytes l.note) (map field_name (drop l.index (struct_fields l.fn.schema))) ≡ near_note l.fn.asked (map field_name (struct_fields l.fn.schema))
