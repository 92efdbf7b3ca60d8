-- The message is one still: a number was put into the root's struct, and a text at its pointer.
use Rattle.std.proofs.Common.{rules, List, ℕ, subst}
use Rattle.capnp_arena.specs.Facts.Calls.{parts_one_by_one}
use Rattle.capnp_arena.specs.Facts.Laws.{IsInPointer, in_struct}
use Rattle.capnp_arena.specs.Forest.{Forest, PartChanges}
use Rattle.capnp_arena.specs.Segment.{segment}
use Rattle.capnp_arena.specs.Shape.{StructIn}
use Rattle.example_build.proofs.write.Goals as goal

pub write_message_to-requires : goal.write_message_to-requires
write_message_to-requires g c =
    let p = c.in_ok-root.root.place in
    let a : List ℕ = segment c.in_ok-root.root.arena.now in
    let b : List ℕ = segment c.set_data_field.new.self.arena.now in
    let n : List ℕ = segment c.set_text.new.self.arena.now in
    let number : PartChanges (StructIn p.start p.data_words p.pointers) a b = c.set_data_field.ensures.changes in
    let text : IsInPointer b n p.start p.data_words p.pointers 0 = search rules in
    let root = in_struct a n c.root.result.at p.start p.data_words p.pointers c.in_ok-root.ensures.forest c.in_ok-root.ensures.place text.planted (parts_one_by_one a b n (StructIn p.start p.data_words p.pointers) number text.changes) in
    record { message = subst (λ m. Forest m 0) (search rules) (subst (Forest n) c.root.ensures.at root.forest) }
