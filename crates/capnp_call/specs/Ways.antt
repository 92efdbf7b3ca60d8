-- Where a step leads: what it names at a struct, and the schema behind it.
use Rattle.std.specs.Prelude.{◌≡◌, Result, Ok, Err}
use Rattle.capnp_device.specs.declared.error.Error.{Error}
use Rattle.capnp_wire.specs.Tree.{StructTree}
use Rattle.capnp_schema.specs.Accepted.{NamesEntries}
use Rattle.capnp_schema.specs.FieldLists.{IsFieldOf, index_of, typed_of}
use Rattle.capnp_schema.specs.StructHandles.{IsStruct, generic_of, number_of, set_of}
use Rattle.capnp_schema.specs.Types.{ListType, StructType, seen_type}
use Rattle.capnp_schema.specs.declared.schema.fields.Field.{Field}
use Rattle.capnp_schema.specs.declared.schema.structs.StructSchema.{StructSchema}
use Rattle.capnp_base.specs.declared.introspect.«Type».{«Type» as TypeHandle}
use Rattle.capnp_records.specs.Reading.{reads}
use Rattle.capnp_records.specs.Record.{Record, Value}
use Rattle.capnp_records.specs.Step.{Found, StepTarget, field_target}
use Rattle.capnp_records.specs.Writes.Stand.{step_index}
use Rattle.capnp_slots.specs.Fields.{IsSlot, field_brand, field_set}
use Rattle.capnp_slots.specs.Groups.{IsGroupAt}
use Rattle.capnp_call.specs.Seen.{step_seen}
use Rattle.capnp_call.specs.declared.calls.Step.{Step}
use Rattle.capnp_call.specs.declared.way.Way.{Way}
use Rattle.capnp_call.specs.declared.way.Way.TheVariants as way

-- ---- the field that a step names ----

-- the target of a field that was found in a record, which is a part of a whole
abbrev pub found_target : (Record → Value) → Record → Result Field Error → Found
found_target whole r (Ok f) = Ok (field_target whole r (typed_of f) (index_of f))
found_target whole r (Err e) = Err e.kind

-- a field of a schema, and the one that a step names there
pub record IsNamedBy (s : StructSchema) (step : Step) (f : Field) : Type 0 where
  pub field : IsFieldOf s (index_of f) f
  pub index : step_index (set_of s) (number_of s) (step_seen step) ≡ index_of f

-- ---- where a field leads ----

-- a field of a struct as the target of a step
abbrev pub target_in : (Record → Value) → Field → StructTree → StepTarget
target_in whole f s = field_target whole (reads (field_set f) s (field_brand f)) (typed_of f) (index_of f)

-- the target of a step that is walked, or why it is not
abbrev pub way_target : StepTarget → Result Way Error → Found
way_target x (Ok w) = Ok x
way_target x (Err e) = Err e.kind

-- a slot of a struct type, by the type's schema
pub record IsStructSlot (f : Field) (s : StructSchema) : Type 0 where
  pub slot : IsSlot f
  pub stands : IsStruct s
  pub set : set_of s ≡ field_set f
  pub type_is : StructType (number_of s) (generic_of s) ≡ (typed_of f).type

-- a slot of a list type, by the type of the elements
pub record IsListSlot (f : Field) (element : TypeHandle) : Type 0 where
  pub slot : IsSlot f
  pub type_is : ListType (seen_type element) ≡ (typed_of f).type
  pub entries : NamesEntries (field_set f) (seen_type element)

abbrev pub LeadsTo : Field → Way → Type 0
LeadsTo f (way.Group s) = IsGroupAt f s
LeadsTo f (way.Struct s) = IsStructSlot f s
LeadsTo f (way.List element) = IsListSlot f element
