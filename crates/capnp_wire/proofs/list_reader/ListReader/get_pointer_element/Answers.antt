-- A well-formed list has well-formed pointers, and its structs have well-formed first pointers; so
-- the reader that is given is of a well-formed tree.
use Rattle.std.proofs.Common.{subst, sym}
use Rattle.capnp_wire.specs.Found.{parts_tree, pointer_trees, element_structs}
use Rattle.capnp_wire.specs.WellFormed.{IsWellFormedStruct}
use Rattle.capnp_wire.specs.Facts.Parts.{IsWellFormed_nth_tree, IsWellFormedStruct_nth_struct}
use Rattle.capnp_wire.proofs.list_reader.ListReader.get_pointer_element.Goals as goal

pub new-requires : goal.new-requires
new-requires c =
    let list = rw c.in-Pointers.is at c.args.self.now.well_formed in
    rw c.get_pointer.ensures (IsWellFormed_nth_tree (pointer_trees c.in-Pointers.pointers) c.args.index list.1)

pub new-requires-then-self-gt0 : goal.new-requires-then-self-gt0
new-requires-then-self-gt0 c =
    let list = rw c.in-Composite.is at c.args.self.now.well_formed in
    let element : IsWellFormedStruct (parts_tree c.get_element.result) = subst IsWellFormedStruct (sym c.get_element.ensures) (IsWellFormedStruct_nth_struct _ _ (element_structs c.in-Composite.size.data_words c.in-Composite.size.pointers c.in-Composite.elements) c.args.index list.4 list.0 list.1) in
    rw c.get_pointer-pointer.ensures (IsWellFormed_nth_tree (pointer_trees c.get_element.result.pointers) 0 element.3)
