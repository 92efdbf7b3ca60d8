-- A slot that is read opens as its value does; one that is not is refused with the fault of the field's type.
use Rattle.capnp_schema.specs.Types.{seen_type}
use Rattle.capnp_check.proofs.OpenValues.{slot_opened, slot_unread}
use Rattle.capnp_check.proofs.parts_below.open_slot.Goals as goal

pub returns-in-Ok : goal.returns-in-Ok
returns-in-Ok c =
    slot_opened c.args.left c.args.reader c.args.field c.requires.field c.in-Ok.ensures.stands c.requires.slot c.in-Ok.value c.open_value.result c.open_value.ensures
    c.in-Ok.ensures.value c.in-Ok.ensures.typed

pub returns-in-Err : goal.returns-in-Err
returns-in-Err c =
    slot_unread c.args.left c.args.reader c.args.field c.requires.field c.in-Err.error.kind c.refusal_at.result.kind (seen_type c.get_type.result) c.refusal_at.ensures
    c.get_type.ensures.is c.in-Err.ensures.value
