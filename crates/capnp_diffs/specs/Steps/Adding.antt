-- How a walk adds the changes that it finds.
use Rattle.std.specs.Prelude.{ℕ, ◌≡◌, Some, List, [], ◌∷◌, ◌++◌, map}
use Rattle.capnp_wire.specs.Reading.{list_length}
use Rattle.capnp_wire.specs.Standing.{list_of, struct_of}
use Rattle.capnp_wire.specs.declared.list_reader.ListReader.{ListReader}
use Rattle.capnp_wire.specs.declared.struct_reader.StructReader.{StructReader}
use Rattle.capnp_schema.specs.Discriminant.{discriminant_of}
use Rattle.capnp_schema.specs.Schema.{Schemas, TypedField}
use Rattle.capnp_schema.specs.SlotValue.{bits_at}
use Rattle.capnp_schema.specs.StructHandles.{struct_node}
use Rattle.capnp_schema.specs.Types.{SchemaType}
use Rattle.capnp_schema.specs.declared.schema.structs.StructSchema.{StructSchema}
use Rattle.capnp_records.specs.Call.{FieldNumber, PathStep}
use Rattle.capnp_records.specs.Facts.ListValues.{below_of}
use Rattle.capnp_records.specs.Reading.{element_value, part_of, reads, values_of}
use Rattle.capnp_records.specs.Record.{Endless, Parts, Record, Union, Value, Values, values_from}
use Rattle.capnp_diffs.specs.Changes.{AreFieldsTold, ByKind, CanStand, Change, Goal, IsGroupTold, IsRecordTold, IsRowTold, IsSwitchTold, IsTold, IsUnionTold, field_changes, record_changes, row_changes, switch_changes, union_changes, value_changes}
use Rattle.capnp_call.specs.Seen.{path_seen, step_seen}
use Rattle.capnp_call.specs.declared.calls.Step.{Step}
use Rattle.capnp_diffs.specs.declared.change.Change.{Change as FoundChange}
use Rattle.capnp_diffs.specs.Found.{AreReady, changes_seen}

-- ---- changes that are added ----

-- the same at the end of a path
abbrev pub within : List PathStep → Change → Change
within path c = record { path = path ++ c.path; last = c.last; goal = c.goal }

abbrev pub all_within : List PathStep → List Change → List Change
all_within path cs = map (within path) cs

-- these changes, at the end of a path, come behind those that were found before
pub record Adds (set : Schemas) (path : List Step) (old new : List FoundChange) (changes : List Change) : Type 0 where
  pub found : changes_seen new ≡ changes_seen old ++ all_within (path_seen path) changes
  pub ready : AreReady set old → AreReady set new

-- one change of what a step names
abbrev pub one_change : Step → Goal → List Change
one_change step goal = record { path = []; last = step_seen step; goal = goal } ∷ []

-- the changes of a value of a type, which can be told
pub record IsFoundAt (set : Schemas) (step : Step) (t : SchemaType) (v w : Value) (path : List Step) (old new : List FoundChange) : Type 0 where
  pub adds : Adds set path old new (value_changes set (step_seen step) t v w)
  pub told : IsTold set t v w

-- ---- records ----

-- the record of a struct that is read, whole
unfoldable pub whole_record : Schemas → StructReader → ℕ → Record
whole_record set r b = reads set (struct_of r) b

-- what a field has of it
unfoldable pub whole_part : Schemas → StructReader → TypedField → Value
whole_part set r f = part_of set Endless (struct_of r).bytes (values_of set (struct_of r).pointers) f

-- the changes of a record, which can be told
pub record IsRecordFound (set : Schemas) (b : ℕ) (r q : Record) (path : List Step) (old new : List FoundChange) : Type 0 where
  pub adds : Adds set path old new (record_changes set b r q)
  pub told : IsRecordTold set b r q

-- of a field that stands on both sides
pub record IsPartFound (set : Schemas) (f : TypedField) (i : ℕ) (v w : Value) (path : List Step) (old new : List FoundChange) : Type 0 where
  pub adds : Adds set path old new (value_changes set (FieldNumber i) f.type v w)
  pub told : ByKind f.field.kind (IsTold set f.type v w) (IsGroupTold set f.type v w)

-- of its non-union fields, of its union, and of a member that becomes active
abbrev pub fields_held : Record → Values
fields_held (Parts vs u) = vs

abbrev pub union_held : Record → Union
union_held (Parts vs u) = u

pub record AreFieldsFound (set : Schemas) (b : ℕ) (r q : Record) (path : List Step) (old new : List FoundChange) : Type 0 where
  pub adds : Adds set path old new (field_changes set b 0 (fields_held r) (fields_held q))
  pub told : AreFieldsTold set b 0 (fields_held r) (fields_held q)

pub record IsUnionFound (set : Schemas) (b : ℕ) (r q : Record) (path : List Step) (old new : List FoundChange) : Type 0 where
  pub adds : Adds set path old new (union_changes set b (union_held r) (union_held q))
  pub told : IsUnionTold set b (union_held r) (union_held q)

pub record IsSwitchFound (set : Schemas) (f : TypedField) (i : ℕ) (w : Value) (path : List Step) (old new : List FoundChange) : Type 0 where
  pub adds : Adds set path old new (switch_changes set i f.type w)
  pub told : ByKind f.field.kind (CanStand f.type w) (IsSwitchTold set f.type w)

-- the number at the discriminant's place is the same in both, where there is one
abbrev pub HaveOneNumber : StructSchema → StructReader → StructReader → Type 0
HaveOneNumber s old new = (first : ℕ) → discriminant_of (struct_node s) ≡ Some first → bits_at (struct_of old).bytes first 16 ≡ bits_at (struct_of new).bytes first 16

-- the elements of a list that is read, whole
unfoldable pub elements_in : Schemas → ListReader → SchemaType → Values
elements_in set l e = values_from (element_value set (list_of l) (below_of set (list_of l)) Endless e) 0 (list_length (list_of l))

-- of elements from an index on
pub record IsRowFound (set : Schemas) (e : SchemaType) (i : ℕ) (vs ws : Values) (path : List Step) (old new : List FoundChange) : Type 0 where
  pub adds : Adds set path old new (row_changes set e i vs ws)
  pub told : IsRowTold set e vs ws
