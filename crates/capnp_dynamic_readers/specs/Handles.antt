-- What handles of dynamic values stand on. Contracts cite these words and no part of a handle.
use Rattle.std.specs.Prelude.{ℕ}
use Rattle.capnp_wire.specs.declared.list_reader.ListReader.{ListReader}
use Rattle.capnp_wire.specs.declared.struct_reader.StructReader.{StructReader}
use Rattle.capnp_base.specs.declared.introspect.«Type».{«Type» as TypeHandle}
use Rattle.capnp_schema.specs.Entries.{lists_seen}
use Rattle.capnp_schema.specs.Schema.{Schemas}
use Rattle.capnp_schema.specs.Types.{SchemaType, seen_type}
use Rattle.capnp_schema.specs.declared.schema.enums.EnumSchema.{EnumSchema}
use Rattle.capnp_schema.specs.declared.schema.structs.StructSchema.{StructSchema}
use Rattle.capnp_dynamic_readers.specs.declared.dynamic_list.Reader.{Reader as ListHandle}
use Rattle.capnp_dynamic_readers.specs.declared.dynamic_struct.Reader.{Reader as StructHandle}
use Rattle.capnp_dynamic_readers.specs.declared.dynamic_value.Enum.{Enum}

-- the schema of a struct that is read, and the reader of its sections
abbrev pub schema_of : StructHandle → StructSchema
schema_of s = s.schema

abbrev pub reader_of : StructHandle → StructReader
reader_of s = s.reader

-- the reader of a list's elements, the type of these, and the set that the type is of
abbrev pub list_reader_of : ListHandle → ListReader
list_reader_of l = l.reader

abbrev pub type_of : ListHandle → TypeHandle
type_of l = l.element_type

abbrev pub element_of : ListHandle → SchemaType
element_of l = seen_type l.element_type

abbrev pub list_set : ListHandle → Schemas
list_set l = lists_seen l.schemas.now

-- the number of an enum's value, and its enum
abbrev pub enum_value_number : Enum → ℕ
enum_value_number e = e.value

abbrev pub enum_of : Enum → EnumSchema
enum_of e = e.schema
