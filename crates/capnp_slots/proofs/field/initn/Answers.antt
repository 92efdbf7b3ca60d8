-- A group takes no size.
use Rattle.std.proofs.Common.{subst, sym}
use Rattle.capnp_device.specs.declared.error.ErrorKind.{ErrorKind}
use Rattle.capnp_schema.specs.FieldLists.{typed_of}
use Rattle.capnp_slots.specs.Fields.{field_set}
use Rattle.capnp_slots.specs.Inits.{IsInitnRefusal}
use Rattle.capnp_slots.proofs.FieldWrites.{group_has_no_size}
use Rattle.capnp_slots.proofs.field.initn.Goals as goal

pub returns-in-Some-clause-cause : goal.returns-in-Some-clause-cause
returns-in-Some-clause-cause c =
    let f = c.args.field in
    subst (λ (k : ErrorKind). IsInitnRefusal (field_set f) c.args.count (typed_of f).type k) (sym c.from.ensures) (group_has_no_size f _ c.args.count c.in-Some.ensures)
