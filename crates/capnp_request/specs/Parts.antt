-- What is read of the parts of a request's record.
use Rattle.std.specs.Prelude.{ℕ}
use Rattle.capnp_request.specs.RequestSet.{request_set}
use Rattle.capnp_schema.specs.Schema.{VoidValue, TypedField, field_at}
use Rattle.capnp_schema.specs.Types.{SchemaType, StructType}
use Rattle.capnp_records.specs.Default.{read_field, read_of}
use Rattle.capnp_records.specs.Part.{part_at}
use Rattle.capnp_records.specs.Record.{Record, Value}
use Rattle.capnp_dynamic_readers.specs.Reads.{handed_out}

-- the type of the structs of a brand, and that of lists of these
abbrev pub request_struct : ℕ → SchemaType
request_struct number = StructType number number

-- what is read of a part under a field: its default in the place of a missing one, and a group as a struct
abbrev pub request_read_under : TypedField → Value → Value
request_read_under f v = handed_out f.field.kind (read_field request_set f v)

-- what is read of field i of a record of brand b of the request set
unfoldable pub request_read_at : ℕ → ℕ → Record → Value
request_read_at b i r = request_read_under (field_at request_set b i) (part_at r (field_at request_set b i).field i)

-- what is read of an element of a list of structs of a brand
abbrev pub element_read : ℕ → Value → Value
element_read b v = read_of request_set VoidValue (request_struct b) v
