-- What is filled is entered, and a refusal is the machine's.
use Rattle.std.proofs.Common.{◌≡◌, Result, Ok, IfErr, refl, ap, sym, subst, true, ◌∙◌}
use Rattle.std.specs.Prelude.{ℕ, ⊤}
use Rattle.capnp_device.specs.declared.error.Error.{Error}
use Rattle.capnp_wire.specs.Facts.Parts.{IsWellFormed_nth_tree}
use Rattle.capnp_wire.specs.Place.{struct_tree}
use Rattle.capnp_wire.specs.Tree.{StructTree, Tree, nth_tree}
use Rattle.capnp_wire.specs.WellFormed.{IsWellFormed}
use Rattle.capnp_schema.specs.StructHandles.{set_of}
use Rattle.capnp_schema.specs.Types.{SchemaType, is_pointer, seen_type}
use Rattle.capnp_schema.specs.Ranges.{HasRanges}
use Rattle.capnp_arena.specs.Built.{built_at}
use Rattle.capnp_slots.specs.Fields.{IsPointerField, field_set}
use Rattle.capnp_slots.specs.Fills.{filled_in}
use Rattle.capnp_call.specs.Walks.{StepStops}
use Rattle.capnp_call.proofs.ListBehind.{list_entered, list_left, list_stopped}
use Rattle.capnp_call.proofs.enter.enter_list.Goals as goal

pointer_formed : (s : StructTree) (i : ℕ) (t : Tree) → t ≡ nth_tree s.pointers i → IsWellFormed (struct_tree s) → IsWellFormed t
pointer_formed s i t e h = subst IsWellFormed (sym e) (IsWellFormed_nth_tree s.pointers i h.4)

pub returns-in-Ok-clause-goes : goal.returns-in-Ok-clause-goes
returns-in-Ok-clause-goes c =
    let f = c.args.field in
    let leads = c.requires.leads in
    let pointer : IsPointerField f = subst (λ (t : SchemaType). is_pointer t ≡ true) leads.type_is refl in
    list_entered f (built_at c.args.arena.now c.args.place) (seen_type c.args.element) leads.slot pointer leads.type_is c.requires.walked
    c.struct_is_sound.ensures.whole c.default_is_sound.ensures.fits c.default_is_sound.ensures.formed (Ok c.in-Ok.field-0) c.in-Ok.ensures.within

pub returns-in-Ok-clause-list : goal.returns-in-Ok-clause-list
returns-in-Ok-clause-list c =
    let f = c.args.field in
    let s = built_at c.args.arena.now c.args.place in
    let leads = c.requires.leads in
    let pointer : IsPointerField f = subst (λ (t : SchemaType). is_pointer t ≡ true) leads.type_is refl in
    list_left f s (seen_type c.args.element) leads.slot pointer leads.type_is c.requires.walked
    c.struct_is_sound.ensures.whole c.default_is_sound.ensures.fits c.default_is_sound.ensures.formed (Ok c.in-Ok.field-0) c.in-Ok.ensures.within
    (pointer_formed (built_at c.fill_list_slot.new.arena c.args.place) _ (filled_in f s) (sym c.in-Ok.ensures.here) c.struct_is_sound-in-Ok.ensures.formed)

pub returns-in-Err-clause-cause : goal.returns-in-Err-clause-cause
returns-in-Err-clause-cause c =
    let f = c.args.field in
    let s = built_at c.args.arena.now c.args.place in
    let leads = c.requires.leads in
    let pointer : IsPointerField f = subst (λ (t : SchemaType). is_pointer t ≡ true) leads.type_is refl in
    let ranges : HasRanges (field_set f) = subst HasRanges (c.get_set.ensures ∙ ap set_of c.get_containing_struct.ensures.is) c.numbers_fit.ensures in
    subst (λ (r : Result ⊤ Error). IfErr r (λ n. StepStops f s n.kind)) c.in-Err.is
    (list_stopped f s (seen_type c.args.element) leads.slot pointer leads.type_is c.requires.walked
    c.struct_is_sound.ensures.whole c.default_is_sound.ensures.fits c.default_is_sound.ensures.formed ranges
    (pointer_formed s _ _ refl c.struct_is_sound.ensures.formed) c.fill_list_slot.result c.fill_list_slot.ensures.cause c.fill_list_slot.ensures.rests)
