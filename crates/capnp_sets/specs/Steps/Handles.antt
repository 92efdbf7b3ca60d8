-- Structs and lists of a set's record, as their readers stand under the meta set: steps of the code.
use Rattle.std.specs.Prelude.{ℕ}
use Rattle.capnp_wire.specs.declared.list_reader.ListReader.{ListReader}
use Rattle.capnp_wire.specs.declared.struct_reader.StructReader.{StructReader}
use Rattle.capnp_schema.specs.Meta.{meta, meta_struct}
use Rattle.capnp_schema.specs.Schema.{Value as SchemaValue}
use Rattle.capnp_schema.specs.Types.{SchemaType}
use Rattle.capnp_records.specs.Record.{Record, Value, Values}
use Rattle.capnp_known.specs.Known as known
use Rattle.capnp_sets.specs.Lists.{elements_of}

-- the record of a struct that is read as one of a brand of the meta set
abbrev pub meta_record_in : ℕ → StructReader → Record
meta_record_in b s = known.record_in meta b s

-- field i of such a struct: a non-union one, or the active member
abbrev pub IsMetaFieldActive : ℕ → ℕ → StructReader → Type 0
IsMetaFieldActive b i s = known.IsActive meta b i s

-- a slot at an offset, in units of its width, with its default
abbrev pub IsMetaSlot : ℕ → ℕ → SchemaType → ℕ → SchemaValue → Type 0
IsMetaSlot b i t offset default = known.IsSlot meta b i t offset default

-- the value of a list whose elements are read as of a type of the meta set
abbrev pub list_in : SchemaType → ListReader → Value
list_in t l = known.list_in meta t l

-- the values of the list of a set's records of brands
abbrev pub values_in : ListReader → Values
values_in l = elements_of (list_in (meta_struct 6) l)
