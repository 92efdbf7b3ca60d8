use Rattle.std.proofs.Common.{ap, sym, ◌∙◌}
use Rattle.capnp_wire.specs.Tree.{Tree}
use Rattle.capnp_arena.specs.Built.{built_at}
use Rattle.capnp_schema.specs.FieldLists.{typed_of}
use Rattle.capnp_schema.specs.Types.{SchemaType, is_pointer, seen_type}
use Rattle.capnp_records.specs.Writes.Contents.{initn_tree}
use Rattle.capnp_slots.specs.Fields.{field_set}
use Rattle.capnp_slots.specs.Fills.{pointer_in}
use Rattle.capnp_json_messages.proofs.Begun.{list_begun, slot_here}
use Rattle.capnp_json_messages.proofs.started.start_list.Goals as goal

-- What `initn` leaves in the slot is the list that is then begun.
pub returns-clause-started : goal.returns-clause-started
returns-clause-started c =
    let f = c.args.field in
    let s = built_at c.args.arena.now c.args.place in
    let x : Tree = initn_tree (field_set f) (typed_of f).type c.args.count in
    list_begun f c.args.place c.args.arena.now c.initn.new.arena c.pointer.result c.field_stands.ensures c.requires.room c.requires.slot (seen_type c.args.element) c.args.count x c.requires.leads.type_is
    (record { written = c.in_default.ensures.written; frame = c.in_default.ensures.frame; leaves = c.pointer.ensures.leaves })
    c.pointer.ensures.forest
    (c.pointer.ensures.tree ∙ (ap (pointer_in f) c.in_default.ensures.written ∙ (slot_here f s c.field_stands.ensures c.requires.room x c.requires.slot (sym (ap is_pointer c.requires.leads.type_is))
    ∙ ap (λ (t : SchemaType). initn_tree (field_set f) t c.args.count) (sym c.requires.leads.type_is))))
