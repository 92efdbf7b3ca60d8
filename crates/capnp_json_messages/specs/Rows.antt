-- Lists that elements are read into: their set and the type of their elements.
use Rattle.std.specs.Prelude.{◌≡◌, true}
use Rattle.capnp_schema.specs.Accepted.{NamesEntries}
use Rattle.capnp_schema.specs.Entries.{lists_seen}
use Rattle.capnp_schema.specs.Schema.{Schemas}
use Rattle.capnp_schema.specs.Types.{SchemaType, seen_type}
use Rattle.capnp_json_fields.specs.Marks.{has_float_base}
use Rattle.capnp_json_messages.specs.declared.row.Row.{Row}

abbrev pub row_set : Row → Schemas
row_set row = lists_seen row.schemas.now

abbrev pub row_type : Row → SchemaType
row_type row = seen_type row.element

-- the type names entries of the set; where numbers are floats its base is UInt32 or UInt64
pub record IsRow (row : Row) : Type 0 where
  pub entries : NamesEntries (row_set row) (row_type row)
  pub floats : row.is_float ≡ true → has_float_base (row_type row) ≡ true
