-- The element's type is that of its variant.
use Rattle.std.proofs.Common.{IfErr, ◌≡◌, ◌≢◌, ap, subst, sym, ◌∙◌}
use Rattle.capnp_device.specs.declared.error.Error.{Error}
use Rattle.capnp_device.specs.declared.error.ErrorKind.TheVariants.{OutOfMemory}
use Rattle.capnp_schema.specs.Entries.{lists_seen}
use Rattle.capnp_schema.specs.Facts.Layers.{seen_which}
use Rattle.capnp_schema.specs.Types.{SchemaType, StructType, seen_type, seen_variant}
use Rattle.capnp_records.specs.Given.{given_element}
use Rattle.capnp_slots.specs.SetValues.{source_of}
use Rattle.capnp_slots.specs.Sources.{IsSetRefusal}
use Rattle.capnp_edits.proofs.Plain.{plain_type}
use Rattle.capnp_edits.proofs.added.list_one.Goals as goal

pub list_one_other-requires : goal.list_one_other-requires
list_one_other-requires c = plain_type c.args.element c.which.result c.which.ensures c.in_default.not-Struct

pub returns-in-Struct-clause-cause : goal.returns-in-Struct-clause-cause
returns-in-Struct-clause-cause c =
    let e : StructType c.in-Struct.raw.number c.in-Struct.raw.generic ≡ seen_type c.args.element = ap seen_variant (sym c.in-Struct.is ∙ c.which.ensures) ∙ seen_which c.args.element in
    subst (λ (t : SchemaType). IfErr c.list_one_struct.result (λ (x : Error). x.kind ≢ OutOfMemory → IsSetRefusal (given_element (lists_seen c.args.schemas.now) t (source_of c.args.value)) x.kind)) e
    c.list_one_struct.ensures.cause
