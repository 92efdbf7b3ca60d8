-- The JSON of a value that is no struct and no list, by its handles alone.
use Rattle.std.specs.Prelude.{[], cond, codes, decimal, slice_get, Err}
use Rattle.std.specs.Fmt.{signed_decimal}
use Rattle.capnp_floats.specs.declared.width.Width.TheVariants.{Float32, Float64}
use Rattle.capnp_schema.specs.Enums.{enum_in}
use Rattle.capnp_records.specs.Text.{Layout}
use Rattle.capnp_dynamic_readers.specs.Handles.{enum_of, enum_value_number}
use Rattle.capnp_dynamic_readers.specs.declared.dynamic_value.Reader.{Reader as DynamicValue}
use Rattle.capnp_dynamic_readers.specs.declared.dynamic_value.Reader.TheVariants as dynamic
use Rattle.capnp_json.specs.Leaves.{data_json, float_json, name_or, quoted, text_json}
use Rattle.capnp_json.specs.Pieces.{Out, said}
use Rattle.capnp_json.specs.declared.error.JsonError.TheVariants.{UntypedHasNoJson}
use Rattle.capnp_json.specs.declared.forms.Form.{Form}

abbrev pub leaf_json : Layout → Form → DynamicValue → Out
leaf_json at form dynamic.Void = said (codes "null")
leaf_json at form (dynamic.Bool b) = said (cond b (codes "true") (codes "false"))
leaf_json at form (dynamic.Int8 x) = said (signed_decimal x)
leaf_json at form (dynamic.Int16 x) = said (signed_decimal x)
leaf_json at form (dynamic.Int32 x) = said (signed_decimal x)
leaf_json at form (dynamic.Int64 x) = said (quoted (signed_decimal x))
leaf_json at form (dynamic.UInt8 x) = said (decimal x)
leaf_json at form (dynamic.UInt16 x) = said (decimal x)
leaf_json at form (dynamic.UInt32 x) = cond form.floats (float_json Float32 x) (said (decimal x))
leaf_json at form (dynamic.UInt64 x) = cond form.floats (float_json Float64 x) (said (quoted (decimal x)))
leaf_json at form (dynamic.Enum e) = name_or (enum_value_number e) (slice_get (enum_in (enum_of e)).enumerants (enum_value_number e))
leaf_json at form (dynamic.Text t) = text_json t.0.now
leaf_json at form (dynamic.«Data» bytes) = data_json form.bytes at bytes.now
leaf_json at form (dynamic.Struct s) = said []
leaf_json at form (dynamic.List l) = said []
leaf_json at form (dynamic.AnyPointer p) = Err UntypedHasNoJson
