-- Items of a list: each has its schema's sections, and one that is written leaves a list of items.
use Rattle.std.proofs.Common.{◌≡◌, ℕ, ◌<◌, None, Some, subst, sym, arith}
use Rattle.capnp_wire.specs.Edits.{HasAtLeast}
use Rattle.capnp_wire.specs.Elements.{with_struct_element}
use Rattle.capnp_wire.specs.Facts.Lengths.{HasAtLeast_element_struct, HoldsStructs_with_struct_element}
use Rattle.capnp_wire.specs.Reading.{element_struct, list_length}
use Rattle.capnp_wire.specs.StructLists.{HoldsStructs, struct_list, struct_list_refusal}
use Rattle.capnp_wire.specs.Tree.{Tree, Null, Struct, Voids, Bits, Numbers, Pointers, Composite, FaultLeaf, StructTree}
use Rattle.capnp_wire.specs.WellFormed.{IsWellFormed}
use Rattle.capnp_wire.specs.Words.{first_fault}
use Rattle.capnp_wire.specs.declared.size.StructSize.{StructSize}

-- an item has at least the size
pub item_fits : (size : StructSize) (t : Tree) (i : ℕ) (s : StructTree) → HoldsStructs size t → IsWellFormed t → i < list_length t → s ≡ element_struct t i → HasAtLeast size s
item_fits size t i s h f a e = subst (HasAtLeast size) (sym e) (HasAtLeast_element_struct size t i h f a)

-- a list in which one is written holds items still
pub items_stay : (size : StructSize) (i : ℕ) (s : StructTree) (t new : Tree) → HoldsStructs size t → new ≡ with_struct_element i s t → HoldsStructs size new
items_stay size i s t new h e = subst (HoldsStructs size) (sym e) (HoldsStructs_with_struct_element size i s t h)

-- what has become a list of structs holds items
some_none : {A : Type 0} {a : A} → Some a ≡ None → ⊥
some_none e = cc

pub holds_structs : (size : StructSize) (t : Tree) → struct_list_refusal size t ≡ None → first_fault t ≡ None → HoldsStructs size (struct_list size t)
holds_structs size Null due whole = tt
holds_structs size (Struct bytes ps) due whole = absurd (some_none due)
holds_structs size (Voids n) due whole = (omega arith, omega arith)
holds_structs size (Bits bs) due whole = absurd (some_none due)
holds_structs size (Numbers w bytes) due whole = (omega arith, omega arith)
holds_structs size (Pointers ps) due whole = (omega arith, omega arith)
holds_structs size (Composite d p es) due whole = (omega arith, omega arith)
holds_structs size (FaultLeaf k) due whole = absurd (some_none whole)
