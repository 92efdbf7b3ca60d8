-- Writes of a struct's fields: the union is switched, and a slot written or a group cleared.
use Rattle.std.specs.Prelude.{ℕ, zero, suc, ◌≡◌, List, [], ◌∷◌, Bool, true, false, ◌&&◌, ◌||◌, ◌==◌, length, bit_xor}
use Rattle.capnp_wire.specs.Tree.{StructTree, Null}
use Rattle.capnp_wire.specs.Edits.{with_bytes, with_number}
use Rattle.capnp_schema.specs.Types.{SchemaType, is_pointer, struct_number, width}
use Rattle.capnp_schema.specs.Schema.{Schemas, Node, FieldKind, Slot, Group, Field, TypedField, is_member, node_of, fields_of, Value as SchemaValue}
use Rattle.capnp_schema.specs.SlotValue.{bit_number, unsigned_number, default_bits}
use Rattle.capnp_schema.specs.Footprint.{Spot, discriminant_names, footprint}
use Rattle.capnp_schema.specs.Laws.{struct_spots}
use Rattle.capnp_records.specs.Record as value
use Rattle.capnp_records.specs.Record.{Endless, Value, Record}
use Rattle.capnp_records.specs.Reading.{value_of, number_value, discriminant, reads}
use Rattle.capnp_records.specs.Writes.Slots.{Content, Bits, At, with_content, Writes}

-- ---- a slot ----

-- a number at the discriminant's place
abbrev pub switch : Node → ℕ → StructTree → StructTree
switch n number s = with_bytes s (with_number 2 n.discriminant_offset number s.bytes)

-- the union switched to a member; a non-union field changes nothing
abbrev pub switched_struct : Node → Field → StructTree → StructTree
switched_struct n f s = elim (is_member f) [ true ↦ switch n f.discriminant_value s | false ↦ s ]

-- a slot of a struct after set, init, initn or clear
abbrev pub with_slot : Schemas → ℕ → TypedField → ℕ → Content → StructTree → StructTree
with_slot set b f offset c s = with_content (switched_struct (node_of set b) f.field s) offset f.type c

-- what a slot reads as once that is written
abbrev pub content_value : Schemas → SchemaValue → SchemaType → Content → Value
content_value set d t (Bits n) = number_value t (bit_xor n (default_bits d))
content_value set d t (At x) = value_of set x Endless t

-- a number, truth value or enum number as it is stored
abbrev pub stored_number : SchemaType → Value → ℕ
stored_number t (value.Truth b) = bit_number b
stored_number t (value.Number x) = unsigned_number (width t) x
stored_number t (value.Enum n) = n
stored_number t v = 0

abbrev pub number_content : SchemaValue → SchemaType → Value → Content
number_content d t v = Bits (bit_xor (stored_number t v) (default_bits d))

-- zero bits or null
abbrev pub cleared_content : SchemaType → Content
cleared_content t = elim (is_pointer t) [ true ↦ At Null | false ↦ Bits 0 ]

-- ---- a group ----

abbrev pub cleared_kind : (ℕ → StructTree → StructTree) → FieldKind → SchemaType → StructTree → StructTree
cleared_kind group (Slot offset d) t s = with_content s offset t (cleared_content t)
cleared_kind group (Group node) t s = group (struct_number t) s

-- a field after clear; a group field by the clear of groups
abbrev pub cleared_field : (ℕ → StructTree → StructTree) → Schemas → ℕ → TypedField → StructTree → StructTree
cleared_field group set b f s = cleared_kind group f.field.kind f.type (switched_struct (node_of set b) f.field s)

-- the member of discriminant value 0, where there is one
abbrev pub cleared_member : (TypedField → StructTree → StructTree) → List TypedField → StructTree → StructTree
cleared_member clear [] s = s
cleared_member clear (f ∷ fs) s = elim (is_member f.field && (f.field.discriminant_value == 0)) [ true ↦ clear f s | false ↦ cleared_member clear fs s ]

-- the non-union fields by index
abbrev pub cleared_non_union : (TypedField → StructTree → StructTree) → List TypedField → StructTree → StructTree
cleared_non_union clear [] s = s
cleared_non_union clear (f ∷ fs) s = cleared_non_union clear fs (elim (is_member f.field) [ true ↦ s | false ↦ clear f s ])

-- a group's struct after its member 0, then its non-union fields were cleared, through at most so many groups
abbrev pub cleared_within : ℕ → Schemas → ℕ → StructTree → StructTree
cleared_within zero set b s = s
cleared_within (suc groups) set b s =
    let clear : TypedField → StructTree → StructTree = cleared_field (cleared_within groups set) set b in
    cleared_non_union clear (fields_of set b) (cleared_member clear (fields_of set b) s)

abbrev pub cleared_group : Schemas → ℕ → StructTree → StructTree
cleared_group set = cleared_within (length set.brands) set

-- ---- what a write on a part does to its whole ----

-- a field's footprint and, for a member, the discriminant beside it
abbrev pub field_spots : Schemas → ℕ → TypedField → Spot → Bool
field_spots set b f p = footprint set f p || (is_member f.field && discriminant_names (node_of set b) p)

-- one struct became another, which reads as a record; nothing was written outside what its brand names
pub record Turns (set : Schemas) (b : ℕ) (s s' : StructTree) (r : Record) : Type 0 where
  pub writes : Writes (struct_spots set b) s s'
  pub record_after : reads set s' b ≡ r

-- the union was switched to the field, or the struct is the same where the field is non-union or already active
pub record IsSwitchedTo (set : Schemas) (b : ℕ) (f : TypedField) (s m : StructTree) : Type 0 where
  pub writes : Writes (λ p. is_member f.field && discriminant_names (node_of set b) p) s m
  pub value : is_member f.field ≡ true → discriminant (node_of set b) m.bytes ≡ f.field.discriminant_value
