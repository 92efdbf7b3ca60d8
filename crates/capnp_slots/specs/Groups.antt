-- Groups of a struct: what they are, and their clear a field after another.
use Rattle.std.specs.Prelude.{◌<◌, ◌≡◌, true, Some}
use Rattle.capnp_wire.specs.Tree.{StructTree}
use Rattle.capnp_schema.specs.Accepted.{IsGroupOf}
use Rattle.capnp_schema.specs.FieldLists.{typed_of}
use Rattle.capnp_schema.specs.Footprint.{Spot}
use Rattle.capnp_schema.specs.GroupFields.{group_field_of}
use Rattle.capnp_schema.specs.GroupsDown.{place_of_field}
use Rattle.capnp_schema.specs.Laws.{group_height}
use Rattle.capnp_schema.specs.StructHandles.{IsStruct, number_of, set_of}
use Rattle.capnp_schema.specs.Types.{struct_number}
use Rattle.capnp_schema.specs.declared.schema.fields.Field.{Field}
use Rattle.capnp_schema.specs.declared.schema.structs.StructSchema.{StructSchema}
use Rattle.capnp_records.specs.Step.{is_group_field}
use Rattle.capnp_records.specs.Writes.Slots.{Fits}
use Rattle.capnp_records.specs.Writes.TreeEnds.{group_cleared}
use Rattle.capnp_slots.specs.Fields.{IsRoomFor, Keeps, field_brand, field_set}

-- a field is a group
abbrev pub IsGroup : Field → Type 0
IsGroup f = is_group_field (typed_of f).field.kind ≡ true

-- the schema of a field's group, of lesser height: it is room where the field's is, and knows the field
pub record IsGroupAt (f : Field) (g : StructSchema) : Type 0 where
  pub is_group : IsGroup f
  pub stands : IsStruct g
  pub set : set_of g ≡ field_set f
  pub number : number_of g ≡ struct_number (typed_of f).type
  pub names : IsGroupOf (typed_of f).field.kind (typed_of f).type (number_of g)
  pub room : (s : StructTree) → IsRoomFor f s → Fits (set_of g) (number_of g) s
  pub lower : group_height (set_of g) (number_of g) < group_height (field_set f) (field_brand f)
  pub back : group_field_of (field_set f) (number_of g) ≡ Some (place_of_field f)

-- the struct with the field's group cleared and the union switched to the field
abbrev pub group_without : Field → StructTree → StructTree
group_without f s = group_cleared (field_set f) (field_brand f) (typed_of f) s

-- ---- field by field ----

-- a struct is of the same size, and well-formed where it was
abbrev pub KeepsSize : StructTree → StructTree → Type 0
KeepsSize s s' = Keeps (λ (p : Spot). true) s s'
