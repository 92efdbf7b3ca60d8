-- What is read is what the field has, whatever levels are left.
use Rattle.std.proofs.Common.{subst, ◌∙◌}
use Rattle.capnp_schema.specs.FieldLists.{IsFieldOf, index_of}
use Rattle.capnp_schema.specs.StructHandles.{IsStruct}
use Rattle.capnp_schema.specs.declared.schema.structs.StructSchema.{StructSchema}
use Rattle.capnp_diffs.proofs.Slots.{belongs_own, slot_answers, slot_read, slot_typed}
use Rattle.capnp_diffs.proofs.records.read_slot.Goals as goal

pub get-requires : goal.get-requires
get-requires c = belongs_own c.args.field _ (c.new.ensures.schema ∙ c.get_containing_struct-schema.ensures.is)

pub returns-clause-seen : goal.returns-clause-seen
returns-clause-seen c =
    let own = c.get_containing_struct-schema in
    slot_read c.args.field c.new.result c.args.reader own.result own.ensures.is own.ensures.stands own.ensures.field c.new.ensures.schema c.new.ensures.reader c.requires.number c.get.result c.get.ensures.value

pub returns-clause-typed : goal.returns-clause-typed
returns-clause-typed c =
    let own = c.get_containing_struct-schema in
    slot_typed c.args.field c.new.result c.args.reader own.result own.ensures.is own.ensures.stands own.ensures.field c.new.ensures.schema c.get.result c.get.ensures.typed

pub returns-clause-field : goal.returns-clause-field
returns-clause-field c =
    let own = c.get_containing_struct-schema in
    (subst IsStruct own.ensures.is own.ensures.stands, subst (λ (z : StructSchema). IsFieldOf z (index_of c.args.field) c.args.field) own.ensures.is own.ensures.field)

pub returns-clause-answers : goal.returns-clause-answers
returns-clause-answers c =
    let own = c.get_containing_struct-schema in
    slot_answers c.args.field c.new.result c.args.reader own.result own.ensures.is own.ensures.stands own.ensures.field c.new.ensures.schema c.new.ensures.reader c.requires.number c.get.result c.get.ensures.value
