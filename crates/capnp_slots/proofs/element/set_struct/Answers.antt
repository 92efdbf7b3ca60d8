-- An element of another kind takes no struct.
use Rattle.std.proofs.Common.{ap, ◌∙◌}
use Rattle.capnp_wire.specs.Standing.{struct_levels, struct_of}
use Rattle.capnp_schema.specs.Entries.{lists_seen}
use Rattle.capnp_schema.specs.Facts.Layers.{seen_which}
use Rattle.capnp_schema.specs.StructHandles.{number_of}
use Rattle.capnp_schema.specs.Types.{seen_type, seen_variant}
use Rattle.capnp_records.specs.Record.{Left}
use Rattle.capnp_slots.proofs.SetElements.{struct_refused}
use Rattle.capnp_slots.proofs.element.set_struct.Goals as goal

pub returns-in_default-clause-cause : goal.returns-in_default-clause-cause
returns-in_default-clause-cause c =
    struct_refused (lists_seen c.args.schemas.now) c.which.result (seen_type c.args.element) (Left (struct_levels c.args.reader)) (struct_of c.args.reader) (number_of c.args.schema) c.type_mismatch-in_default.result.kind
    (ap seen_variant c.which.ensures ∙ seen_which c.args.element) c.in_default.not-Void c.in_default.not-Struct c.in_default.not-AnyPointer c.type_mismatch-in_default.ensures
