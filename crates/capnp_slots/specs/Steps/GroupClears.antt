-- The order in which the fields of a group are cleared, by places: at 0 the member of discriminant value 0, and at i + 1
-- field i, where that is no member.
use Rattle.std.specs.Prelude.{ℕ, zero, suc, ◌≡◌, Bool, true, false, Option, Some, None}
use Rattle.capnp_wire.specs.Tree.{StructTree}
use Rattle.capnp_schema.specs.FieldLists.{typed_of}
use Rattle.capnp_schema.specs.Query.{member_of, records_of}
use Rattle.capnp_schema.specs.Schema.{Schemas, field_at, is_member}
use Rattle.capnp_schema.specs.declared.schema.fields.Field.{Field}
use Rattle.capnp_slots.specs.Fields.{IsSlot, field_brand, field_set}
use Rattle.capnp_slots.specs.Steps.Groups.{clear_by}

abbrev pub unless_member_place : Bool → ℕ → Option ℕ
unless_member_place true i = None
unless_member_place false i = Some i

-- the field that is cleared at a place
unfoldable pub field_cleared_at : Schemas → ℕ → (place : ℕ) → Option ℕ
field_cleared_at set b zero = member_of (records_of set b) 0
field_cleared_at set b (suc i) = unless_member_place (is_member (field_at set b i).field) i

abbrev pub place_behind : Bool → ℕ → ℕ
place_behind true i = 1
place_behind false i = suc (suc i)

-- the place behind a field that is cleared
unfoldable pub cleared_behind : Schemas → ℕ → ℕ → ℕ
cleared_behind set b i = place_behind (is_member (field_at set b i).field) i

-- a slot is cleared
pub record IsSlotCleared (f : Field) (s s' : StructTree) : Type 0 where
  pub slot : IsSlot f
  pub cleared : (groups : ℕ) → s' ≡ clear_by groups (field_set f) (field_brand f) (typed_of f) s
