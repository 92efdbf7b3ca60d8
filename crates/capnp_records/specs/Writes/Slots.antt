-- Writes of a struct's slots: what a builder's struct reads as, what is written, and what stays as it was.
use Rattle.std.specs.Prelude.{ℕ, ◌^◌, ◌<◌, ◌≡◌, List, Bool, true, false, ◌==◌, length}
use Rattle.capnp_wire.specs.Tree.{Tree, StructTree, nth_tree, tree_count}
use Rattle.capnp_wire.specs.Slot.{bit_at}
use Rattle.capnp_wire.specs.Edits.{with_number, with_bit, with_bytes, with_pointer_tree, HasAtLeast}
use Rattle.capnp_schema.specs.Types.{SchemaType, VoidType, BoolType, IntType, UIntType, EnumType, TextType, DataType, StructType, ListType, AnyPointerType, is_pointer, width}
use Rattle.capnp_schema.specs.Schema.{Schemas}
use Rattle.capnp_schema.specs.Footprint.{Spot, DataBit, PointerAt}
use Rattle.capnp_schema.specs.Plan.{brand_size}

-- a struct has at least its schema's sections
abbrev pub Fits : Schemas → ℕ → StructTree → Type 0
Fits set b s = HasAtLeast (brand_size set b) s

-- a data section with a number in a slot of a type
abbrev pub with_slot_number : ℕ → SchemaType → ℕ → List ℕ → List ℕ
with_slot_number offset VoidType n bytes = bytes
with_slot_number offset BoolType n bytes = with_bit offset (n == 1) bytes
with_slot_number offset (IntType width) n bytes = with_number width offset n bytes
with_slot_number offset (UIntType width) n bytes = with_number width offset n bytes
with_slot_number offset (EnumType number) n bytes = with_number 2 offset n bytes
with_slot_number offset TextType n bytes = bytes
with_slot_number offset DataType n bytes = bytes
with_slot_number offset (StructType number generic) n bytes = bytes
with_slot_number offset (ListType element) n bytes = bytes
with_slot_number offset AnyPointerType n bytes = bytes

-- what is written into a slot: its bits, the default already in them, or a pointer's tree
pub data Content : Type 0 where
  Bits : ℕ → Content
  At : Tree → Content

-- a content is of its slot's type
abbrev pub Suits : SchemaType → Content → Type 0
Suits t (Bits n) = (is_pointer t ≡ false) × (n < 2 ^ width t)
Suits t (At x) = is_pointer t ≡ true

abbrev pub with_content : StructTree → ℕ → SchemaType → Content → StructTree
with_content s offset t (Bits n) = with_bytes s (with_slot_number offset t n s.bytes)
with_content s offset t (At x) = with_pointer_tree s offset x

-- ---- what a write leaves as it was ----

-- two structs have the same at a place
abbrev pub Agree : StructTree → StructTree → Spot → Type 0
Agree s s' (DataBit i) = bit_at s.bytes i ≡ bit_at s'.bytes i
Agree s s' (PointerAt i) = nth_tree s.pointers i ≡ nth_tree s'.pointers i

-- one became the other: it is the same but for the places that pass, and of the same size
pub record Writes (inside : Spot → Bool) (s s' : StructTree) : Type 0 where
  pub agree : (p : Spot) → inside p ≡ false → Agree s s' p
  pub data_size : length s'.bytes ≡ length s.bytes
  pub pointer_count : tree_count s'.pointers ≡ tree_count s.pointers
