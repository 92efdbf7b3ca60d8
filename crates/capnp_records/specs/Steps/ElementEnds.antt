-- What the last step of a call writes into an element of a list: steps of the code.
use Rattle.capnp_schema.specs.Types.{SchemaType}
use Rattle.capnp_schema.specs.Schema.{Schemas}
use Rattle.capnp_records.specs.Record.{Endless, Value}
use Rattle.capnp_records.specs.Reading.{number_value, value_of}
use Rattle.capnp_records.specs.Writes.Slots.{Content, Bits, At}

abbrev pub element_content_value : Schemas → SchemaType → Content → Value
element_content_value set t (Bits n) = number_value t n
element_content_value set t (At y) = value_of set y Endless t
