use Rattle.std.proofs.Common.{IsTrue, ap, refl, subst, sym, ◌∙◌}
use Rattle.capnp_wire.specs.Edits.{is_struct}
use Rattle.capnp_wire.specs.Tree.{Tree}
use Rattle.capnp_arena.specs.Built.{built_at}
use Rattle.capnp_schema.specs.FieldLists.{typed_of}
use Rattle.capnp_schema.specs.Types.{is_pointer}
use Rattle.capnp_records.specs.Writes.Contents.{init_tree}
use Rattle.capnp_slots.specs.Fields.{field_set}
use Rattle.capnp_slots.specs.Fills.{pointer_in}
use Rattle.capnp_json_messages.specs.Started.{new_struct}
use Rattle.capnp_json_messages.proofs.Begun.{init_tree_is, slot_here, struct_begun}
use Rattle.capnp_json_messages.proofs.started.start_struct.Goals as goal

-- What `init` leaves in the slot is a struct, which is then begun.
pub struct_here-requires-clause-there : goal.struct_here-requires-clause-there
struct_here-requires-clause-there c =
    let f = c.args.field in
    let s = built_at c.args.arena.now c.args.place in
    let x : Tree = init_tree (field_set f) (typed_of f).type in
    subst (λ (y : Tree). IsTrue (is_struct y))
    (sym (c.pointer-word.ensures.tree ∙ (ap (pointer_in f) c.in_default.ensures.written ∙ (slot_here f s c.field_stands.ensures c.requires.room x c.requires.slot (sym (ap is_pointer c.requires.leads.type_is))
    ∙ init_tree_is f c.args.schema c.requires.leads.of_set c.requires.leads.type_is))))
    refl

pub returns-clause-started : goal.returns-clause-started
returns-clause-started c =
    let f = c.args.field in
    let s = built_at c.args.arena.now c.args.place in
    let x : Tree = init_tree (field_set f) (typed_of f).type in
    struct_begun f c.args.place c.args.arena.now c.init.new.arena c.pointer-word.result c.field_stands.ensures c.requires.room c.requires.slot c.args.schema x c.struct_here.result (new_struct c.args.schema) c.requires.leads.of_set c.requires.leads.type_is
    (record { written = c.in_default.ensures.written; frame = c.in_default.ensures.frame; leaves = c.pointer-word.ensures.leaves })
    c.pointer-word.ensures.forest
    (c.pointer-word.ensures.tree ∙ (ap (pointer_in f) c.in_default.ensures.written ∙ (slot_here f s c.field_stands.ensures c.requires.room x c.requires.slot (sym (ap is_pointer c.requires.leads.type_is))
    ∙ init_tree_is f c.args.schema c.requires.leads.of_set c.requires.leads.type_is)))
    c.struct_here.ensures.place refl
