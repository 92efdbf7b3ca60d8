-- What holds of texts with floats.
use Rattle.std.specs.Prelude.{ℕ, ◌≡◌, Bool, true, false, not}
use Rattle.std.specs.List.{list_all}
use Rattle.capnp_schema.specs.Schema.{Schemas, TypedField, fields_of}
use Rattle.capnp_schema.specs.Types.{SchemaType}
use Rattle.capnp_records.specs.Record.{Value}
use Rattle.capnp_records.specs.Text.{text_of}
use Rattle.capnp_json_fields.specs.Marks.{is_float}
use Rattle.capnp_float_texts.specs.Texts.{float_text_of}

-- the numbers of no field of a set are floats
abbrev pub HasNoFloats : Schemas → Type 0
HasNoFloats set = (brand : ℕ) → list_all (λ (f : TypedField). not (is_float f)) (fields_of set brand) ≡ true

-- Under a set without floats the texts are those that show no floats.
abbrev pub TextsWithoutFloats : Type 0
TextsWithoutFloats =
    (set : Schemas) (indented : Bool) (t : SchemaType) (v : Value) → HasNoFloats set → float_text_of set false indented t v ≡ text_of set indented t v
