-- The JSON of a value of a set is that of the part that it is seen as.
use Rattle.std.proofs.Common.{ap, refl, ◌∙◌, ◌≡◌, Bool, true, false, Ok}
use Rattle.capnp_schema.specs.Schema.{Schemas, node_of}
use Rattle.capnp_schema.specs.StructHandles.{number_of, set_of}
use Rattle.capnp_json.specs.Json.{json_as}
use Rattle.capnp_json.specs.Written.{written_json_as}
use Rattle.capnp_json.specs.declared.forms.Form.{Form}
use Rattle.capnp_dynamic_readers.specs.Handles.{schema_of}
use Rattle.capnp_dynamic_readers.specs.Seen.{record_seen, value_seen}
use Rattle.capnp_dynamic_readers.specs.Shown.{struct_printed, type_seen}
use Rattle.capnp_dynamic_readers.specs.Typed.{IsOf, struct_type}
use Rattle.capnp_dynamic_readers.specs.declared.dynamic_struct.Reader.{Reader as StructHandle}
use Rattle.capnp_dynamic_readers.specs.declared.dynamic_value.Reader.{Reader as DynamicValue}
use Rattle.capnp_dynamic_readers.specs.declared.dynamic_value.Reader.TheVariants as dynamic
use Rattle.capnp_show_engine.specs.Show.{struct_or_group}
use Rattle.capnp_patch.specs.Gets.{value_part_seen}
use Rattle.capnp_queries.specs.Json.{reached_json}

printed_is : (q : Bool) (h : StructHandle) → struct_printed q h ≡ struct_or_group q (record_seen h)
printed_is true h = refl
printed_is false h = refl

pub part_json : (set : Schemas) (form : Form) (indented : Bool) (v : DynamicValue) → IsOf set (type_seen v) v → written_json_as form indented v ≡ reached_json set form indented (Ok (value_part_seen v))
part_json set form indented dynamic.Void is = refl
part_json set form indented (dynamic.Bool b) is = refl
part_json set form indented (dynamic.Int8 x) is = refl
part_json set form indented (dynamic.Int16 x) is = refl
part_json set form indented (dynamic.Int32 x) is = refl
part_json set form indented (dynamic.Int64 x) is = refl
part_json set form indented (dynamic.UInt8 x) is = refl
part_json set form indented (dynamic.UInt16 x) is = refl
part_json set form indented (dynamic.UInt32 x) is = refl
part_json set form indented (dynamic.UInt64 x) is = refl
part_json set form indented (dynamic.Enum e) is = ap (λ (y : Schemas). json_as y form indented (type_seen (dynamic.Enum e)) (value_seen (dynamic.Enum e))) is.1
part_json set form indented (dynamic.Text t) is = refl
part_json set form indented (dynamic.«Data» bytes) is = refl
part_json set form indented (dynamic.Struct s) is =
    ap (json_as (set_of (schema_of s)) form indented (struct_type (schema_of s))) (printed_is (node_of (set_of (schema_of s)) (number_of (schema_of s))).is_group s)
    ∙ ap (λ (y : Schemas). json_as y form indented (struct_type (schema_of s)) (struct_or_group (node_of y (number_of (schema_of s))).is_group (record_seen s))) is.1
part_json set form indented (dynamic.List l) is = ap (λ (y : Schemas). json_as y form indented (type_seen (dynamic.List l)) (value_seen (dynamic.List l))) is.0
part_json set form indented (dynamic.AnyPointer p) is = refl
