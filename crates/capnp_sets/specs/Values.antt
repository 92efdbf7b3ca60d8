-- The values that records of values stand for, and annotations.
use Rattle.std.specs.Prelude.{ℕ, List, [], ◌∷◌, slice_get, Ok, Option, Some, None}
use Rattle.std.specs.Option.{unwrap_or}
use Rattle.capnp_device.specs.declared.error.ErrorKind.TheVariants.{UnknownKind}
use Rattle.capnp_schema.specs.Builtin.{zero_word}
use Rattle.capnp_schema.specs.Schema.{Annotation, VoidValue, BoolValue, IntValue, UIntValue, EnumValue, TextValue, DataValue, StructValue, ListValue, AnyPointerValue, Value as SchemaValue}
use Rattle.capnp_records.specs.Part.{which_of}
use Rattle.capnp_records.specs.Record.{Record, Value}
use Rattle.capnp_sets.specs.Causes.{SetRead, refused_read, ◌<*>◌}
use Rattle.capnp_sets.specs.Parts.{blob, integer, number, meta_read_at, struct, structs, text, truth}

-- the words of a list; none stand for a null untyped pointer
abbrev pub list_value : List ℕ → SchemaValue
list_value [] = AnyPointerValue zero_word
list_value (byte ∷ bytes) = ListValue (byte ∷ bytes)

-- what the members of a value stand for, by index
abbrev pub kinds : List (Value → SetRead SchemaValue)
kinds =
    (λ v. Ok VoidValue)
    ∷ (λ v. Ok BoolValue <*> truth v)
    ∷ (λ v. Ok (IntValue 1) <*> integer v)
    ∷ (λ v. Ok (IntValue 2) <*> integer v)
    ∷ (λ v. Ok (IntValue 4) <*> integer v)
    ∷ (λ v. Ok (IntValue 8) <*> integer v)
    ∷ (λ v. Ok (UIntValue 1) <*> number v)
    ∷ (λ v. Ok (UIntValue 2) <*> number v)
    ∷ (λ v. Ok (UIntValue 4) <*> number v)
    ∷ (λ v. Ok (UIntValue 8) <*> number v)
    ∷ (λ v. Ok EnumValue <*> number v)
    ∷ (λ v. Ok TextValue <*> text v)
    ∷ (λ v. Ok DataValue <*> blob v)
    ∷ (λ v. Ok StructValue <*> blob v)
    ∷ (λ v. Ok list_value <*> blob v)
    ∷ []

unfoldable pub value_by : Option ℕ → Record → SetRead SchemaValue
value_by None r = refused_read UnknownKind
value_by (Some i) r = unwrap_or (slice_get kinds i) (λ v. refused_read UnknownKind) (meta_read_at 5 i r)

-- the value of the active member
unfoldable pub value_meant : Record → SetRead SchemaValue
value_meant r = value_by (which_of r) r

unfoldable pub annotation_meant : Record → SetRead Annotation
annotation_meant r = Ok (λ id v. record { id = id; value = v }) <*> number (meta_read_at 4 0 r) <*> struct value_meant (meta_read_at 4 1 r)

abbrev pub annotations : Value → SetRead (List Annotation)
annotations = structs 4 annotation_meant
