-- What is read of a record's part is the read of the field.
use Rattle.std.specs.Prelude.{ℕ, ◌≡◌, ◌<◌, length}
use Rattle.capnp_wire.specs.declared.struct_reader.StructReader.{StructReader}
use Rattle.capnp_schema.specs.Schema.{Schemas, fields_of}
use Rattle.capnp_known.specs.Known.{IsActive, field_in, read_at, record_in}

abbrev pub PartsAreFields : Schemas → Type 0
PartsAreFields set = (s : StructReader) (b i : ℕ) → i < length (fields_of set b) → IsActive set b i s → read_at set b i (record_in set b s) ≡ field_in set b i s
