-- What is filled is entered, and a refusal is the machine's.
use Rattle.std.proofs.Common.{◌≡◌, refl, subst, true}
use Rattle.capnp_arena.specs.Built.{built_at}
use Rattle.capnp_schema.specs.StructHandles.{generic_of, number_of}
use Rattle.capnp_schema.specs.Types.{SchemaType, is_pointer}
use Rattle.capnp_slots.specs.Fields.{IsPointerField}
use Rattle.capnp_call.proofs.Behind.{struct_entered, struct_stopped}
use Rattle.capnp_call.proofs.enter.enter_struct.Goals as goal

pub returns-clause-goes : goal.returns-clause-goes
returns-clause-goes c =
    let f = c.args.field in
    let leads = c.requires.leads in
    let pointer : IsPointerField f = subst (λ (t : SchemaType). is_pointer t ≡ true) leads.type_is refl in
    struct_entered f (built_at c.args.arena.now c.args.place) (number_of c.args.schema) (generic_of c.args.schema) leads.slot pointer leads.type_is c.requires.walked
    c.struct_is_sound.ensures.whole c.fill_struct_slot.result c.fill_struct_slot.ensures.within

pub returns-clause-cause : goal.returns-clause-cause
returns-clause-cause c =
    let f = c.args.field in
    let leads = c.requires.leads in
    let pointer : IsPointerField f = subst (λ (t : SchemaType). is_pointer t ≡ true) leads.type_is refl in
    struct_stopped f (built_at c.args.arena.now c.args.place) (number_of c.args.schema) (generic_of c.args.schema) leads.slot pointer leads.type_is c.requires.walked
    c.struct_is_sound.ensures.whole c.fill_struct_slot.result c.fill_struct_slot.ensures.cause c.fill_struct_slot.ensures.rests
