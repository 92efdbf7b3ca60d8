-- What the reader gets for a slot is what a text shows of the field, as no group stands there; a refusal is the field's.
use Rattle.std.proofs.Common.{subst, sym, ◌∙◌, None}
use Rattle.capnp_schema.specs.StructHandles.{IsStruct}
use Rattle.capnp_dynamic_readers.specs.Facts.PartsShown.{target_in}
use Rattle.capnp_dynamic_readers.proofs.StyledParts.{slot_read, slot_unread}
use Rattle.capnp_dynamic_readers.proofs.walk.parts.read_slot.Goals as goal

pub returns-clause-read : goal.returns-clause-read
returns-clause-read c =
    slot_read c.args.reader c.args.field c.requires.field (subst IsStruct (c.get_containing_struct-schema.ensures.is ∙ c.requires.field.schema) c.get_containing_struct-schema.ensures.stands)
    (target_in c.args.reader c.args.field c.requires.field None (sym c.requires.slot)) c.get.result c.get.ensures.value c.get.ensures.typed

pub returns-clause-refused : goal.returns-clause-refused
returns-clause-refused c = slot_unread c.args.reader c.args.field c.requires.field c.get.result c.get.ensures.value
