-- The fields that the rows of sets and documents write, and the structs that have room for them.
use Rattle.capnp_wire.specs.Tree.{StructTree, Tree}
use Rattle.capnp_wire.specs.StructLists.{HoldsStructs}
use Rattle.capnp_schema.specs.Plan.{brand_size}
use Rattle.capnp_schema.specs.StructHandles.{number_of, set_of}
use Rattle.capnp_schema.specs.declared.schema.fields.Field.{Field}
use Rattle.capnp_schema.specs.declared.schema.structs.StructSchema.{StructSchema}
use Rattle.capnp_records.specs.Writes.Slots.{Fits}
use Rattle.capnp_slots.specs.Fields.{IsPointerField, IsRoomFor, IsSlot}
use Rattle.capnp_slots.specs.Groups.{IsGroup}
use Rattle.capnp_bench.specs.declared.documents.ItemFields.{ItemFields}
use Rattle.capnp_bench.specs.declared.sets.Shapes.{Shapes}

-- a field of a schema, or of a group in it: each struct of the schema's sections has room for it
abbrev pub LiesIn : StructSchema → Field → Type 0
LiesIn schema f = (s : StructTree) → Fits (set_of schema) (number_of schema) s → IsRoomFor f s

-- the fields of a schema, of which two are groups
pub record AreShapes (schema : StructSchema) (f : Shapes) : Type 0 where
  pub id : LiesIn schema f.id
  pub circle : LiesIn schema f.circle
  pub r : LiesIn schema f.r
  pub tag : LiesIn schema f.tag
  pub n : LiesIn schema f.n
  pub u1 : LiesIn schema f.u1
  pub q : LiesIn schema f.q
  pub circle_is_group : IsGroup f.circle
  pub tag_is_group : IsGroup f.tag

-- the fields of an item that are set
pub record AreItemFields (item : StructSchema) (f : ItemFields) : Type 0 where
  pub id : LiesIn item f.id
  pub kind : LiesIn item f.kind
  pub name : LiesIn item f.name

-- a list of structs of at least a schema's sections
abbrev pub HoldsItems : StructSchema → Tree → Type 0
HoldsItems item t = HoldsStructs (brand_size (set_of item) (number_of item)) t

-- a field is a slot behind whose pointer a list stands
pub record IsSlotOfList (f : Field) : Type 0 where
  pub slot : IsSlot f
  pub pointer : IsPointerField f
