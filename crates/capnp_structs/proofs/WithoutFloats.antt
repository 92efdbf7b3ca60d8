-- Under a set without floats a value of a field is told as all others.
use Rattle.std.proofs.Common.{◌≡◌, ap, false, pos, refl}
use Rattle.capnp_schema.specs.Schema.{Schemas, BoolValue, IntValue, UIntValue, EnumValue, TextValue, DataValue, StructValue, ListValue, AnyPointerValue, VoidValue}
use Rattle.capnp_schema.specs.Types.{SchemaType, UIntType}
use Rattle.capnp_records.specs.Record as value
use Rattle.capnp_records.specs.Text.{Out}
use Rattle.capnp_dynamic_readers.specs.Annotated.{stored_read}
use Rattle.capnp_dynamic_readers.specs.Shown.{no_schemas}
use Rattle.capnp_float_texts.specs.Laws.{HasNoFloats, TextsWithoutFloats}
use Rattle.capnp_structs.specs.Laws.{ValuesWithoutFloats}
use Rattle.capnp_structs.specs.Values.{as_printed, or_words, read_text}
use Rattle.capnp_structs.specs.declared.values.Numbers.TheVariants.{Integers, Floats}

read_same : TextsWithoutFloats → (set : Schemas) (t : SchemaType) (v : value.Value) → HasNoFloats set → read_text (Floats false) set t v ≡ read_text Integers set t v
unfolding read_text
read_same law set t v none = law set false t (as_printed set t v) none

pub values_same : TextsWithoutFloats → ValuesWithoutFloats
values_same law set t VoidValue none = refl
values_same law set t (BoolValue b) none = refl
values_same law set t (IntValue bytes n) none = refl
values_same law set t (UIntValue bytes n) none = law no_schemas false (UIntType bytes) (value.Number (pos n)) (λ brand. refl)
values_same law set t (EnumValue n) none = refl
values_same law set t (TextValue bytes) none = refl
values_same law set t (DataValue bytes) none = refl
values_same law set t (StructValue words) none = ap (λ (o : Out). or_words o words) (read_same law set t (stored_read set (StructValue words) t) none)
values_same law set t (ListValue words) none = ap (λ (o : Out). or_words o words) (read_same law set t (stored_read set (ListValue words) t) none)
values_same law set t (AnyPointerValue words) none = refl
