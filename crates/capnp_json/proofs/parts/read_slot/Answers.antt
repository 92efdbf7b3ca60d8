-- The part is there and its field a slot, so what `get` gives is the part's value under the field's type.
-- A refusal of `get` is the part's.
use Rattle.std.proofs.Common.{None, subst, sym, ◌∙◌}
use Rattle.capnp_schema.specs.StructHandles.{IsStruct}
use Rattle.capnp_json.proofs.PartsJson.{part_read, part_unread, target_in}
use Rattle.capnp_json.proofs.parts.read_slot.Goals as goal

pub returns-clause-read : goal.returns-clause-read
returns-clause-read c =
    part_read c.args.reader c.args.field c.requires.field (subst IsStruct (c.get_containing_struct-schema.ensures.is ∙ c.requires.field.schema) c.get_containing_struct-schema.ensures.stands)
    c.get.result c.get.ensures.value c.get.ensures.typed (target_in c.args.reader c.args.field c.requires.field None (sym c.requires.slot)) c.requires.there

pub returns-clause-refused : goal.returns-clause-refused
returns-clause-refused c = part_unread c.args.reader c.args.field c.requires.field c.get.result c.get.ensures.value c.requires.there
