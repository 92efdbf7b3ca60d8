-- What code found at a place, one level of it, as a tree.
use Rattle.std.specs.Prelude.{ℕ, cond, ◌+◌, ◌*◌, ◌==◌, ◌&&◌, ◌≡◌, ⊤, Option, Some, None}
use Rattle.capnp_wire.specs.Tree as tree
use Rattle.capnp_wire.specs.Tree.{Tree, Trees, Structs, StructTree, empty_structs, trees_from, structs_from}
use Rattle.capnp_wire.specs.Place.{tree_below, struct_at, struct_tree, bits_from}
use Rattle.capnp_wire.specs.Backing.{segments_in}
use Rattle.capnp_wire.specs.declared.size.StructSize.{StructSize}
use Rattle.capnp_wire.specs.declared.parts.pointer.Pointer.{Pointer}
use Rattle.capnp_wire.specs.declared.parts.pointer.Pointer.TheVariants as pointer
use Rattle.capnp_wire.specs.declared.parts.row.Pointers.{Pointers}
use Rattle.capnp_wire.specs.declared.parts.row.Elements.{Elements}
use Rattle.capnp_wire.specs.declared.parts.found.StructParts.{StructParts}
use Rattle.capnp_wire.specs.declared.parts.found.Found.{Found}
use Rattle.capnp_wire.specs.declared.parts.found.Found.TheVariants as found

-- the tree at a place; a word's has one level less than its depth
abbrev pub pointer_tree : Pointer → Tree
pointer_tree pointer.Null = tree.Null
pointer_tree (pointer.Bad fault) = tree.FaultLeaf fault
pointer_tree (pointer.Word is_stream depth bytes segment index) = tree_below depth (segments_in is_stream bytes.now) segment.now index

abbrev pub pointer_trees : Pointers → Trees
pointer_trees ps = trees_from (tree_below ps.depth (segments_in ps.is_stream ps.bytes.now) ps.segment.now) ps.first ps.count

-- the struct at an index, where each has so many data words and pointers
abbrev pub struct_of_elements : ℕ → ℕ → Elements → ℕ → StructTree
struct_of_elements d p es i = struct_at (tree_below es.depth (segments_in es.is_stream es.bytes.now) es.segment.now) es.segment.now d p (es.first + i * (d + p))

abbrev pub element_structs : ℕ → ℕ → Elements → Structs
element_structs d p es = structs_from (struct_of_elements d p es) 0 es.count

abbrev pub parts_tree : StructParts → StructTree
parts_tree s = record { bytes = s.«data».now; pointers = pointer_trees s.pointers }

abbrev pub found_tree : Found → Tree
found_tree found.Null = tree.Null
found_tree (found.Bad fault) = tree.FaultLeaf fault
found_tree (found.Struct parts) = struct_tree (parts_tree parts)
found_tree (found.Voids count) = tree.Voids count
found_tree (found.Bits bytes count) = tree.Bits (bits_from bytes.now 0 count)
found_tree (found.Numbers width bytes) = tree.Numbers width bytes.now
found_tree (found.Pointers ps) = tree.Pointers (pointer_trees ps)
found_tree (found.Composite size es) = tree.Composite size.data_words size.pointers (element_structs size.data_words size.pointers es)

-- these elements of a size are so many structs of size zero, where it is said how many
abbrev pub AreEmptyStructs : Option ℕ → StructSize → Structs → Type 0
AreEmptyStructs (Some count) size es = (size.data_words ≡ 0) × (size.pointers ≡ 0) × (es ≡ empty_structs count)
AreEmptyStructs None size es = ⊤

-- how many structs of size zero elements are, if they are such structs
abbrev pub counted_structs : StructSize → Elements → Option ℕ
counted_structs size es = cond ((size.data_words == 0) && (size.pointers == 0)) (Some es.count) None
